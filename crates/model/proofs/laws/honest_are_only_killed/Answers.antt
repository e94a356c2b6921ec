use Rattle.model.proofs.FieldLaws.{only_killed}
use Rattle.model.proofs.laws.honest_are_only_killed.Goals as goal

pub returns : goal.returns
returns c = only_killed
