use Rattle.parent_core.proofs.Taken.{WithoutFirst}
use Rattle.parent_core.proofs.contents.remove_all.Given as goal

abbrev pub invariant-loop-x : goal.invariant-loop-x
invariant-loop-x l = WithoutFirst l.x-index l.xs l.fn.contexts l.contexts
