use Rattle.model.proofs.FieldLaws.{quiet_shows}
use Rattle.model.proofs.laws.quiet_shows_the_parent.Goals as goal

pub returns : goal.returns
returns c = quiet_shows
