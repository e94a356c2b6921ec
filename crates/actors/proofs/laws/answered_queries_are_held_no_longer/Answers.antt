use Rattle.actors.proofs.Holds.{answered}
use Rattle.actors.proofs.laws.answered_queries_are_held_no_longer.Goals as goal

pub returns : goal.returns
returns c = answered
