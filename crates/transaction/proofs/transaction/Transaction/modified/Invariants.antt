use Rattle.std.proofs.Common.{◌≡◌}
use Rattle.std.specs.Prelude.{is_some}
use Rattle.field_table.proofs.FieldSets.{some_of}
use Rattle.transaction.specs.Transaction.{new_value}
use Rattle.transaction.proofs.transaction.Transaction.modified.Given as goal

abbrev pub invariant-loop-f : goal.invariant-loop-f
invariant-loop-f l = l.modified ≡ some_of (λ f. is_some (new_value l.self f)) l.f-index
