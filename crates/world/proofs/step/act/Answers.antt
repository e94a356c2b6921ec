use Rattle.std.proofs.Common.{None, slice_index_or, sym, ap, ◌∙◌}
use Rattle.world.proofs.step.act.Goals as goal

pub act_at-requires-clause-counts : goal.act_at-requires-clause-counts
act_at-requires-clause-counts c k is =
    c.requires.ready.counts c.args.p.0 k c.requires.process (sym (ap (λ l. slice_index_or l c.args.p.0 None) c.as_mut_slice.ensures.value) ∙ is)
