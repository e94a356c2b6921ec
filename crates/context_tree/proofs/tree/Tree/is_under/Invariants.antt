use Rattle.std.proofs.Common.{◌≡◌, true}
use Rattle.context_tree.specs.Tree.{is_held, is_under}
use Rattle.context_tree.specs.Places.{depth_in}
use Rattle.context_tree.proofs.tree.Tree.is_under.Given as goal

abbrev pub invariant-loop-above : goal.invariant-loop-above
invariant-loop-above l = (is_held l.at l.self ≡ true) × (is_under l.at l.above l.self ≡ is_under l.fn.id l.above l.self)

abbrev pub decreases-loop-above : goal.decreases-loop-above
decreases-loop-above l = depth_in l.at l.self
