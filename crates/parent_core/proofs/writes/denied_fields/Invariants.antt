use Rattle.std.proofs.Common.{◌≡◌, ◌&&◌}
use Rattle.std.specs.Prelude.{is_some}
use Rattle.field_table.proofs.FieldSets.{some_of}
use Rattle.transaction.specs.Transaction.{new_value}
use Rattle.parent_core.specs.Writes.{is_denied_from}
use Rattle.parent_core.proofs.writes.denied_fields.Given as goal

abbrev pub invariant-loop-f : goal.invariant-loop-f
invariant-loop-f l = l.denied ≡ some_of (λ f. is_some (new_value l.t f) && is_denied_from l.from l.x l.top l.owns l.t f) l.f-index
