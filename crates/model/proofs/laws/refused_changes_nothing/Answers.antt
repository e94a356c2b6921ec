use Rattle.model.proofs.Refused.{refused_still}
use Rattle.model.proofs.laws.refused_changes_nothing.Goals as goal

pub returns : goal.returns
returns c = refused_still
