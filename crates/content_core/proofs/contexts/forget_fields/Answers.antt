use Rattle.content_core.proofs.Going.{out_more}
use Rattle.content_core.proofs.contexts.forget_fields.Goals as goal

pub loop-id-preserved : goal.loop-id-preserved
loop-id-preserved c =
    out_more c.args.store.now c.loop-id.store _ c.args.ids.now c.loop-id.id-index (record { creator = 0; serial = 0 }) c.loop-id-test.true c.remove.ensures.content c.loop-id.invariant
