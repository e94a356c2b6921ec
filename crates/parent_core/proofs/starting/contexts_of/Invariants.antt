use Rattle.field_table.specs.Table.{initial_table}
use Rattle.epochs.specs.FieldEpochs.{no_epochs}
use Rattle.parent_core.proofs.Committed.{StartedTo}
use Rattle.parent_core.proofs.starting.contexts_of.Given as goal

abbrev pub invariant-loop-n : goal.invariant-loop-n
invariant-loop-n l = StartedTo (record { fields = initial_table; epochs = no_epochs }) l.n l.contexts
