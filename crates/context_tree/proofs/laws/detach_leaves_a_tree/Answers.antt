use Rattle.context_tree.proofs.Changes.{without_tree}
use Rattle.context_tree.proofs.laws.detach_leaves_a_tree.Goals as goal

pub returns : goal.returns
returns c = without_tree
