use Rattle.context_group.specs.Acks.{entry_without}
use Rattle.context_group.proofs.Lists.{MappedTo}
use Rattle.context_group.proofs.acks.strike.Given as goal

abbrev pub invariant-loop-entry : goal.invariant-loop-entry
invariant-loop-entry l = MappedTo (entry_without l.p.0) l.entry-index l.entries l.fn.entries
