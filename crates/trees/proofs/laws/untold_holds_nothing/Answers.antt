use Rattle.trees.proofs.Agrees.{nothing_held}
use Rattle.trees.proofs.laws.untold_holds_nothing.Goals as goal

pub returns : goal.returns
returns g c = nothing_held
