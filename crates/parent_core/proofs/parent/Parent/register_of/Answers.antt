use Rattle.std.proofs.Common.{refl, slice_index_or}
use Rattle.parent_core.proofs.Told.{live_in_order}
use Rattle.parent_core.proofs.parent.Parent.register_of.Goals as goal

pub put_known-requires : goal.put_known-requires
put_known-requires c =
    live_in_order c.args.self.now c.contexts-x-items.result.now c.loop-x.x-index (slice_index_or c.contexts-x-items.result.now c.loop-x.x-index (record { creator = 0; serial = 0 }))
    (record { creator = 0; serial = 0 }) c.loop-x.invariant.0 c.loop-x-test.true refl
