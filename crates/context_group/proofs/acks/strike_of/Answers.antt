use Rattle.context_group.proofs.Lists.{mapped_all, mapped_next}
use Rattle.context_group.proofs.acks.strike_of.Goals as goal

pub loop-entry-preserved : goal.loop-entry-preserved
loop-entry-preserved c = mapped_next _ c.loop-entry.entry-index c.loop-entry.entries c.args.entries.now _ _ c.loop-entry.auto.entries c.loop-entry-test.true c.ack.ensures c.loop-entry.invariant

pub returns : goal.returns
returns c = mapped_all _ _ c.loop-entry.entries c.args.entries.now c.loop-entry.auto.entries c.loop-entry-test.false c.loop-entry.invariant
