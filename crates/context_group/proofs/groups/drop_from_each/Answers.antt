use Rattle.context_group.proofs.Lists.{mapped_all, mapped_next}
use Rattle.context_group.proofs.groups.drop_from_each.Goals as goal

pub loop-group-preserved : goal.loop-group-preserved
loop-group-preserved c = mapped_next _ c.loop-group.group-index c.loop-group.groups c.args.groups.now _ _ c.loop-group.auto.groups c.loop-group-test.true c.drop_process.ensures c.loop-group.invariant

pub returns : goal.returns
returns c = mapped_all _ _ c.loop-group.groups c.args.groups.now c.loop-group.auto.groups c.loop-group-test.false c.loop-group.invariant
