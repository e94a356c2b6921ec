use Rattle.model.proofs.QuietTrees.{holds_the_parents}
use Rattle.model.proofs.laws.quiet_holds_the_parents.Goals as goal

pub returns : goal.returns
returns c = holds_the_parents
