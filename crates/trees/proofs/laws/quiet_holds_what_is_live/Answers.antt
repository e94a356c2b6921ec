use Rattle.trees.proofs.Agrees.{existence}
use Rattle.trees.proofs.laws.quiet_holds_what_is_live.Goals as goal

pub returns : goal.returns
returns g c = existence
