use Rattle.trees.proofs.Owners.{owners}
use Rattle.trees.proofs.laws.quiet_owners_are_the_parents.Goals as goal

pub returns : goal.returns
returns g c = owners
