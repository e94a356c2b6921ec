use Rattle.std.proofs.Common.{[]}
use Rattle.world.proofs.Lists.{map-numbers_more}
use Rattle.world.proofs.start.links.Goals as goal

pub loop-preserved : goal.loop-preserved
loop-preserved g c = rw c.in_ok-push.ensures.items (map-numbers_more (λ n. []) c.loop.counter c.loop.links.items _ c.loop.invariant c.new.ensures)
