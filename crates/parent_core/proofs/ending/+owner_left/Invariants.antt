use Rattle.std.proofs.Common.{length}
use Rattle.parent_core.proofs.ending.+owner_left.Given as goal

abbrev pub decreases-owner_left : goal.decreases-owner_left
decreases-owner_left l = length l.ends.now
