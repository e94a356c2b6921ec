use Rattle.model.proofs.Comings.{what_comes}
use Rattle.model.proofs.laws.what_comes_is_the_parents.Goals as goal

pub returns : goal.returns
returns c = what_comes
