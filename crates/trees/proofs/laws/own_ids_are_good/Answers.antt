use Rattle.trees.proofs.Knowing.{good_ids}
use Rattle.trees.proofs.laws.own_ids_are_good.Goals as goal

pub returns : goal.returns
returns g c = good_ids
