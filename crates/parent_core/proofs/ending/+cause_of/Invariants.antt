use Rattle.std.proofs.Common.{length}
use Rattle.parent_core.proofs.ending.+cause_of.Given as goal

abbrev pub decreases-cause_of : goal.decreases-cause_of
decreases-cause_of l = length l.ends.now
