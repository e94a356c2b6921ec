use Rattle.std.proofs.Common.{◌<◌, [], length, None, slice_index_or, sym, ap, subst, ◌∙◌}
use Rattle.world.proofs.PutBack.{any_default}
use Rattle.world.proofs.step.take_first.Goals as goal

pub take_at-requires-clause-parts : goal.take_at-requires-clause-parts
take_at-requires-clause-parts c =
    let within : c.args.p.0 < length c.args.sides.now.downs.items = subst (λ n. c.args.p.0 < n) (sym c.requires.ready.downs_len) c.requires.process in
    c.requires.ready.taken c.args.p.0 c.in-Some.bundle c.take.new.self c.requires.process
    (any_default c.args.sides.now.downs.items c.args.p.0 [] c.index_mut.result.now within ∙ sym c.index_mut.ensures.value ∙ c.in-Some.ensures)

pub take_at-requires-clause-counts : goal.take_at-requires-clause-counts
take_at-requires-clause-counts c k is =
    c.requires.ready.counts c.args.p.0 k c.requires.process (sym (ap (λ l. slice_index_or l c.args.p.0 None) c.as_mut_slice.ensures.value) ∙ is)
