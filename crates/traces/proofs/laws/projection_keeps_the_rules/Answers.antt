use Rattle.traces.proofs.Projection.{projection}
use Rattle.traces.proofs.laws.projection_keeps_the_rules.Goals as goal

pub returns : goal.returns
returns g c = projection _ _ _
