use Rattle.context_tree.proofs.Changes.{found_after, allowed}
use Rattle.context_tree.proofs.laws.attach_leaves_the_others.Goals as goal

pub returns : goal.returns
returns c ns t parent x y h =
    let free = allowed parent x ns h in found_after ns t parent x y free.0 free.1
