use Rattle.std.proofs.Common.{◌≡◌, ◌&&◌}
use Rattle.std.specs.Prelude.{nat_lt}
use Rattle.field_table.specs.FieldSet.{has}
use Rattle.field_table.proofs.FieldSets.{some_of}
use Rattle.epochs.specs.FieldEpochs.{epoch_of}
use Rattle.context_store.proofs.marked.Marked.obsolete.Given as goal

abbrev pub invariant-loop-f : goal.invariant-loop-f
invariant-loop-f l = l.obsolete ≡ some_of (λ f. has l.fn.s f && nat_lt l.fn.e.0 (epoch_of l.fn.self f).0) l.f-index
