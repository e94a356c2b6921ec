use Rattle.traces.proofs.Runs.{worked_runs}
use Rattle.traces.proofs.laws.worked_runs.Goals as goal

pub returns : goal.returns
returns c = worked_runs
