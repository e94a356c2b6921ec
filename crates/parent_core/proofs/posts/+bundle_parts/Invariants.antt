use Rattle.std.proofs.Common.{length}
use Rattle.parent_core.proofs.posts.+bundle_parts.Given as goal

abbrev pub decreases-bundle_parts : goal.decreases-bundle_parts
decreases-bundle_parts l = length l.posts.now
