use Rattle.std.proofs.Common.{◌≡◌}
use Rattle.field_table.proofs.FieldSets.{some_of}
use Rattle.field_rules.specs.RuleBounds.{bounds_of}
use Rattle.parent_core.specs.Writes.{is_reverted_in}
use Rattle.parent_core.proofs.writes.reverted_fields.Given as goal

abbrev pub invariant-loop-f : goal.invariant-loop-f
invariant-loop-f g l = l.reverted ≡ some_of (is_reverted_in (bounds_of l.rules) l.p.0 l.x l.top l.owns l.t) l.f-index
