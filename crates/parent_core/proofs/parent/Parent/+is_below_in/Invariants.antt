use Rattle.std.proofs.Common.{length}
use Rattle.parent_core.proofs.parent.Parent.+is_below_in.Given as goal

abbrev pub decreases-is_below_in : goal.decreases-is_below_in
decreases-is_below_in l = length l.draft.now
