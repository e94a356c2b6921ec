use Rattle.match_pattern.proofs.Runs.{runs}
use Rattle.match_pattern.proofs.laws.stars_stand_for_any_run.Goals as goal

pub returns : goal.returns
returns c = runs
