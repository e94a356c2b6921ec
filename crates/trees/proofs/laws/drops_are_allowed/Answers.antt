use Rattle.trees.proofs.Dropping.{may_drop}
use Rattle.trees.proofs.laws.drops_are_allowed.Goals as goal

pub returns : goal.returns
returns g c = may_drop
