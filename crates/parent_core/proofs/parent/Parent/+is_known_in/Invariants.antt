use Rattle.std.proofs.Common.{length}
use Rattle.parent_core.proofs.parent.Parent.+is_known_in.Given as goal

abbrev pub decreases-is_known_in : goal.decreases-is_known_in
decreases-is_known_in l = length l.draft.now
