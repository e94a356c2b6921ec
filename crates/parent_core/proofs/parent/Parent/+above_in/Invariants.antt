use Rattle.std.proofs.Common.{length}
use Rattle.parent_core.proofs.parent.Parent.+above_in.Given as goal

abbrev pub decreases-above_in : goal.decreases-above_in
decreases-above_in l = length l.draft.now
