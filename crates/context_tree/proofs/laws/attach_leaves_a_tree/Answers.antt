use Rattle.context_tree.proofs.Changes.{after_tree, allowed}
use Rattle.context_tree.proofs.laws.attach_leaves_a_tree.Goals as goal

pub returns : goal.returns
returns c ns t parent x h =
    let free = allowed parent x ns h in after_tree ns t parent x free.0 free.1
