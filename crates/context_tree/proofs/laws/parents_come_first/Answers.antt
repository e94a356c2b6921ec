use Rattle.context_tree.proofs.Ancestors.{parent_first}
use Rattle.context_tree.proofs.laws.parents_come_first.Goals as goal

pub returns : goal.returns
returns c = parent_first
