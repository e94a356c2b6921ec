use Rattle.traces.proofs.Quiet.{revert_taken}
use Rattle.traces.proofs.laws.revert_taken_shows_the_parent.Goals as goal

pub returns : goal.returns
returns g c = revert_taken _
