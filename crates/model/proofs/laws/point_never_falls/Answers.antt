use Rattle.model.proofs.FieldLaws.{never_fall}
use Rattle.model.proofs.laws.point_never_falls.Goals as goal

pub returns : goal.returns
returns c = never_fall
