use Rattle.world.proofs.AllCounts.{all_counts}
use Rattle.world.proofs.step.act_in_parent.Goals as goal

pub act-requires-clause-counts : goal.act-requires-clause-counts
act-requires-clause-counts c = all_counts c.args.parent c.counts_each_process.ensures c.requires.ready.parent_counts
