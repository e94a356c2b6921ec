use Rattle.model.proofs.Falls as falls
use Rattle.model.proofs.laws.a_step_adds_little.Goals as goal

pub returns : goal.returns
returns c = falls.adds_little
