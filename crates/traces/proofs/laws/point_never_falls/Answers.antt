use Rattle.traces.proofs.Quiet.{never_falls}
use Rattle.traces.proofs.laws.point_never_falls.Goals as goal

pub returns : goal.returns
returns g c = never_falls _
