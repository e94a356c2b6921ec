use Rattle.traces.proofs.Quiet.{quiet}
use Rattle.traces.proofs.laws.quiet_shows_the_parent.Goals as goal

pub returns : goal.returns
returns g c = quiet _
