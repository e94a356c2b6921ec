use Rattle.model.proofs.Comings.{what_is_told}
use Rattle.model.proofs.laws.what_is_told_comes.Goals as goal

pub returns : goal.returns
returns c = what_is_told
