use Rattle.context_tree.proofs.Changes.{children_after, allowed}
use Rattle.context_tree.proofs.laws.attached_is_the_last_child.Goals as goal

pub returns : goal.returns
returns c ns t parent x y h = children_after ns t parent x y (allowed parent x ns h).1
