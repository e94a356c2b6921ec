use Rattle.trees.proofs.Order.{order}
use Rattle.trees.proofs.laws.quiet_children_are_the_parents.Goals as goal

pub returns : goal.returns
returns g c = order
