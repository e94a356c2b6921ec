use Rattle.std.proofs.Common.{◌≡◌, if◌then◌else◌}
use Rattle.field_table.specs.FieldSet.{has}
use Rattle.field_table.proofs.Filling.{filled}
use Rattle.epochs.specs.FieldEpochs.{epoch_of}
use Rattle.epochs.proofs.field_epochs.mark_in.Given as goal

abbrev pub invariant-loop-f : goal.invariant-loop-f
invariant-loop-f l = l.epochs ≡ filled (λ f. if has l.fn.s f then l.fn.e else epoch_of l.fn.epochs f) l.f-index l.fn.epochs
