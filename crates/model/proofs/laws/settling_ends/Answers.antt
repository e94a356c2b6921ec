use Rattle.model.proofs.Rounds as rounds
use Rattle.model.proofs.laws.settling_ends.Goals as goal

pub returns : goal.returns
returns c = rounds.settling_ends
