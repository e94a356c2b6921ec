use Rattle.std.proofs.Common.{◌<◌, [], length, sym, subst, ◌∙◌}
use Rattle.world.proofs.AllCounts.{all_counts}
use Rattle.world.proofs.PutBack.{any_default}
use Rattle.world.proofs.step.hear.Goals as goal

pub hear-requires-clause-counts : goal.hear-requires-clause-counts
hear-requires-clause-counts g c = all_counts c.args.parent c.counts_each_process.ensures c.requires.ready.parent_counts

pub hear-requires-clause-parts : goal.hear-requires-clause-parts
hear-requires-clause-parts g c =
    let within : c.args.p.0 < length c.args.sides.now.ups.items = subst (λ n. c.args.p.0 < n) (sym c.requires.ready.ups_len) c.requires.process in
    c.requires.ready.played c.args.p.0 c.in-Some.bundle c.take.new.self c.requires.process
    (any_default c.args.sides.now.ups.items c.args.p.0 [] c.index_mut.result.now within ∙ sym c.index_mut.ensures.value ∙ c.in-Some.ensures)
