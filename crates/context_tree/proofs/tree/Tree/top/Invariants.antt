use Rattle.std.proofs.Common.{◌≡◌, true}
use Rattle.context_tree.specs.Tree.{is_held, top_in}
use Rattle.context_tree.specs.Places.{depth_in}
use Rattle.context_tree.proofs.tree.Tree.top.Given as goal

abbrev pub invariant-loop-parent : goal.invariant-loop-parent
invariant-loop-parent l = (is_held l.top l.self ≡ true) × (top_in l.top l.self ≡ top_in l.fn.id l.self)

abbrev pub decreases-loop-parent : goal.decreases-loop-parent
decreases-loop-parent l = depth_in l.top l.self
