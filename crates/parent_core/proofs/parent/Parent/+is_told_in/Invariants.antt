use Rattle.std.proofs.Common.{length}
use Rattle.parent_core.proofs.parent.Parent.+is_told_in.Given as goal

abbrev pub decreases-is_told_in : goal.decreases-is_told_in
decreases-is_told_in l = length l.draft.now
