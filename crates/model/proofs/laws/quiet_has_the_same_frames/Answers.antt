use Rattle.model.proofs.QuietTrees.{has_the_same_frames}
use Rattle.model.proofs.laws.quiet_has_the_same_frames.Goals as goal

pub returns : goal.returns
returns c = has_the_same_frames
