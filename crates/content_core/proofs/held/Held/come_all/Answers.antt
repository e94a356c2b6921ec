use Rattle.content_core.specs.Held.{kept_of}
use Rattle.content_core.proofs.Doings.{come-none, come-next}
use Rattle.content_core.proofs.held.Held.come_all.Goals as goal

pub loop-known-init : goal.loop-known-init
loop-known-init c = come-none (kept_of c.args.self.now) c.requires.whole

pub loop-known-preserved : goal.loop-known-preserved
loop-known-preserved c =
    come-next c.args.contexts.now c.loop-known.known-index c.known-item.result (kept_of c.args.self.now) (kept_of c.loop-known.self) (kept_of c.come.new.self)
    c.loop-known-test.true c.known-item.is c.loop-known.invariant c.in_ok-come.ensures.does
