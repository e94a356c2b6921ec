use Rattle.std.proofs.Common.{if◌then◌else◌}
use Rattle.context_group.specs.Acks.{entry_without, is_of}
use Rattle.context_group.proofs.Lists.{MappedTo}
use Rattle.context_group.proofs.acks.strike_of.Given as goal

abbrev pub invariant-loop-entry : goal.invariant-loop-entry
invariant-loop-entry l = MappedTo (λ a. if is_of l.x a then entry_without l.p.0 a else a) l.entry-index l.entries l.fn.entries
