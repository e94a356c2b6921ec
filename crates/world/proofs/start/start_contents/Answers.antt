use Rattle.world.proofs.Starting.{one_more}
use Rattle.world.proofs.start.start_contents.Goals as goal

pub loop-p-preserved : goal.loop-p-preserved
loop-p-preserved c =
    rw c.in_ok-push.ensures.items (one_more c.loop-p.contents.items c.in_ok-start.field-0 c.args.config.now.tabs c.loop-p.p c.loop-p.invariant
    c.in_ok-start.ensures.process c.in_ok-start.ensures.seen)
