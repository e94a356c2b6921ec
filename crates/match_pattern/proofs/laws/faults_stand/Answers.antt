use Rattle.match_pattern.proofs.Standing.{standing}
use Rattle.match_pattern.proofs.laws.faults_stand.Goals as goal

pub returns : goal.returns
returns c = standing
