use Rattle.traces.proofs.Quiet.{served}
use Rattle.traces.proofs.laws.stage_is_served.Goals as goal

pub returns : goal.returns
returns g c = served _
