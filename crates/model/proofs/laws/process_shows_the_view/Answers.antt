use Rattle.model.proofs.FieldLaws.{process_shows}
use Rattle.model.proofs.laws.process_shows_the_view.Goals as goal

pub returns : goal.returns
returns c = process_shows
