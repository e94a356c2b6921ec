use Rattle.context_tree.proofs.Ancestors.{ancestors_above}
use Rattle.context_tree.proofs.laws.ancestors_are_above.Goals as goal

pub returns : goal.returns
returns c = ancestors_above
