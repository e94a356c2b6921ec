use Rattle.trees.proofs.Runs.{worked_run}
use Rattle.trees.proofs.laws.worked_run.Goals as goal

pub returns : goal.returns
returns c = worked_run
