use Rattle.trees.proofs.Taking.{comings_below}
use Rattle.trees.proofs.laws.comings_are_below_the_held.Goals as goal

pub returns : goal.returns
returns g c = comings_below
