use Rattle.model.proofs.Reverted.{revert_shows}
use Rattle.model.proofs.laws.revert_taken_shows_the_parent.Goals as goal

pub returns : goal.returns
returns c = revert_shows
