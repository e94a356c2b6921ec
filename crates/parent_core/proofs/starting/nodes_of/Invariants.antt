use Rattle.parent_core.proofs.Tabs.{HasTabs}
use Rattle.parent_core.proofs.starting.nodes_of.Given as goal

abbrev pub invariant-loop-n : goal.invariant-loop-n
invariant-loop-n l = HasTabs l.n l.tree
