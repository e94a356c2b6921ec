use Rattle.duplex.specs.Ends.{IsSameRight}
use Rattle.store_tests.proofs.lanes.play_right.Given as goal

abbrev pub invariant-loop-call : goal.invariant-loop-call
invariant-loop-call l = IsSameRight l.initial.right l.right
