use Rattle.queries.proofs.Lists.{mapped_all, mapped_next}
use Rattle.queries.proofs.table.abort_each.Goals as goal

pub loop-row-preserved : goal.loop-row-preserved
loop-row-preserved c = mapped_next _ c.loop-row.row-index c.loop-row.rows c.args.rows.now _ _ c.loop-row.auto.rows c.loop-row-test.true c.abort.ensures c.loop-row.invariant

pub returns : goal.returns
returns c = mapped_all _ _ c.loop-row.rows c.args.rows.now c.loop-row.auto.rows c.loop-row-test.false c.loop-row.invariant
