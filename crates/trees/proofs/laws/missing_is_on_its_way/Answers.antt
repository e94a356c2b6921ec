use Rattle.trees.proofs.Comings.{missing}
use Rattle.trees.proofs.laws.missing_is_on_its_way.Goals as goal

pub returns : goal.returns
returns g c = missing _ _ _
