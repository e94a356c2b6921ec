use Rattle.traces.proofs.Quiet.{shows_the_view}
use Rattle.traces.proofs.laws.replay_shows_the_view.Goals as goal

pub returns : goal.returns
returns g c = shows_the_view _
