use Rattle.std.proofs.Common.{◌≡◌, None, if◌then◌else◌}
use Rattle.field_table.specs.FieldSet.{has}
use Rattle.field_table.proofs.Filling.{filled}
use Rattle.transaction.specs.Transaction.{new_value}
use Rattle.transaction.proofs.transaction.keep_in.Given as goal

abbrev pub invariant-loop-f : goal.invariant-loop-f
invariant-loop-f l = l.values ≡ filled (λ f. if has l.fn.s f then new_value l.fn.values f else None) l.f-index l.fn.values
