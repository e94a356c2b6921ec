use Rattle.context_tree.specs.Node.{is_in}
use Rattle.context_tree.proofs.Lists.{filter_none, filter_not_none}
use Rattle.context_tree.proofs.Changes.{unknown}
use Rattle.context_tree.proofs.laws.nothing_is_below_the_unknown.Goals as goal

pub returns : goal.returns
returns c ns t x h =
    let none = unknown x ns t h in (filter_none (is_in x) ns none, filter_not_none (is_in x) ns none)
