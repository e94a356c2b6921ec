use Rattle.std.proofs.Common.{◌≡◌}
use Rattle.field_table.proofs.FieldSets.{some_of}
use Rattle.content_core.specs.Steps.{is_field_denied}
use Rattle.content_core.proofs.acts.denied_fields.Given as goal

abbrev pub invariant-loop-f : goal.invariant-loop-f
invariant-loop-f l = l.denied ≡ some_of (is_field_denied l.p.0 l.top l.owned l.x l.t) l.f-index
