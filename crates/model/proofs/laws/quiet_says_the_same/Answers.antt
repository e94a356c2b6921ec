use Rattle.model.proofs.QuietTrees.{says_the_same}
use Rattle.model.proofs.laws.quiet_says_the_same.Goals as goal

pub returns : goal.returns
returns c = says_the_same
