use Rattle.std.proofs.Common.{length}
use Rattle.parent_core.proofs.parent.Parent.+is_owner_in.Given as goal

abbrev pub decreases-is_owner_in : goal.decreases-is_owner_in
decreases-is_owner_in l = length l.draft.now
