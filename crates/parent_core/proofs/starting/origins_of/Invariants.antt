use Rattle.parent_core.proofs.Tabs.{FixedTo}
use Rattle.parent_core.proofs.starting.origins_of.Given as goal

abbrev pub invariant-loop-n : goal.invariant-loop-n
invariant-loop-n l = FixedTo l.n l.tabs l.known.entries
