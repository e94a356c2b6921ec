use Rattle.context_tree.proofs.Changes.{found_without}
use Rattle.context_tree.proofs.laws.detach_leaves_the_others.Goals as goal

pub returns : goal.returns
returns c ns t x y = found_without x y ns t.distinct
