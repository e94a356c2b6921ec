use Rattle.traces.proofs.Quiet.{wait}
use Rattle.traces.proofs.laws.reverts_wait.Goals as goal

pub returns : goal.returns
returns g c = wait _
