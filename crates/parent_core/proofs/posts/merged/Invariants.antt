use Rattle.std.proofs.Common.{◌≡◌, drop}
use Rattle.protocol.specs.Order.{parts_with_all}
use Rattle.parent_core.specs.Posts.{bundle_parts, sent_to}
use Rattle.parent_core.proofs.posts.merged.Given as goal

abbrev pub invariant-loop-a : goal.invariant-loop-a
invariant-loop-a l = parts_with_all (sent_to (drop l.a-index l.posts) l.p.0) l.parts.items ≡ bundle_parts l.posts l.p.0
