use Rattle.std.proofs.Common.{◌≡◌, ◌<◌, ◌^◌, ◌∙◌, sym, false, nat_lt, arith}
use Rattle.std.proofs.lemmas.Bool.Decides.{nat_tests}
use Rattle.fission_ids.specs.ProcSet.{has}
use Rattle.context_group.proofs.SetLemmas.{has_above}
use Rattle.context_group.proofs.sets.is_in.Goals as goal

pub returns-else-p-lt16 : goal.returns-else-p-lt16
returns-else-p-lt16 c =
    let fits : c.args.set.0 < 2 ^ 16 = omega arith in
    let none : has c.args.set c.args.p.0 ≡ false = has_above c.args.set c.args.p.0 fits c.if-p-lt16.false in
    let above : nat_lt c.args.p.0 16 ≡ false = grind (arith, nat_tests, c.if-p-lt16.false) in
    above ∙ sym none
