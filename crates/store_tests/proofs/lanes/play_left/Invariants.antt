use Rattle.duplex.specs.Ends.{IsSameLeft}
use Rattle.store_tests.proofs.lanes.play_left.Given as goal

abbrev pub invariant-loop-call : goal.invariant-loop-call
invariant-loop-call l = IsSameLeft l.initial.left l.left
