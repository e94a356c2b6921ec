use Rattle.trees.proofs.Comings.{bring_owner}
use Rattle.trees.proofs.laws.comings_bring_the_owner.Goals as goal

pub returns : goal.returns
returns g c = bring_owner _ _ _
