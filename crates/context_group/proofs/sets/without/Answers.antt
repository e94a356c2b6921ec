use Rattle.std.proofs.Common.{◌<◌, ◌^◌, ◌∙◌, sym, arith}
use Rattle.context_group.proofs.SetLemmas.{has_below}
use Rattle.context_group.proofs.sets.without.Goals as goal

pub without-requires : goal.without-requires
without-requires c =
    let fits : c.args.set.0 < 2 ^ 16 = omega arith in
    has_below c.args.set c.args.p.0 fits (sym c.is_in.ensures ∙ c.if-is_in.true)
