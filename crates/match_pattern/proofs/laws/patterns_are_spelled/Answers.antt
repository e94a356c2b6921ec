use Rattle.match_pattern.proofs.Spelt.{spelled}
use Rattle.match_pattern.proofs.laws.patterns_are_spelled.Goals as goal

pub returns : goal.returns
returns c = spelled
