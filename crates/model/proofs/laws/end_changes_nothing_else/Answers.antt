use Rattle.model.proofs.Ending.{end_alone}
use Rattle.model.proofs.laws.end_changes_nothing_else.Goals as goal

pub returns : goal.returns
returns c = end_alone
