use Rattle.std.proofs.Common.{◌≡◌, if◌then◌else◌, None, Some}
use Rattle.field_table.specs.FieldSet.{has}
use Rattle.field_table.specs.Table.{value_in}
use Rattle.field_table.proofs.Filling.{filled}
use Rattle.transaction.specs.Transaction.{nothing}
use Rattle.parent_core.proofs.writes.values_of.Given as goal

abbrev pub invariant-loop-f : goal.invariant-loop-f
invariant-loop-f l = l.values ≡ filled (λ f. if has l.s f then Some (value_in l.fields f) else None) l.f-index nothing
