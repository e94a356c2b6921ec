use Rattle.std.proofs.Common.{◌≡◌, ◌∙◌, sym, ap, Bool, true, false, ◌||◌, ◌==◌, eq-eqb}
use Rattle.std.proofs.lemmas.Bool.{ne_eqb}
use Rattle.fission_ids.specs.ProcSet.{has}
use Rattle.content_core.proofs.TabBits.{of_tab-either}
use Rattle.content_core.proofs.starts.is_of_tab.Goals as goal

pub returns-then-p-tab : goal.returns-then-p-tab
returns-then-p-tab c =
    let same : (c.args.p.0 == c.args.tab.owner.0) ≡ true = eq-eqb _ _ c.if-p-tab.true in
    same ∙ sym (of_tab-either c.args.p.0 c.args.tab.owner.0 c.args.tab.also.0 ∙ ap (λ (b : Bool). b || has c.args.tab.also c.args.p.0) same)

pub returns-else-p-tab : goal.returns-else-p-tab
returns-else-p-tab c =
    let other : (c.args.p.0 == c.args.tab.owner.0) ≡ false = ne_eqb _ _ c.if-p-tab.false in
    c.has.ensures ∙ sym (of_tab-either c.args.p.0 c.args.tab.owner.0 c.args.tab.also.0 ∙ ap (λ (b : Bool). b || has c.args.tab.also c.args.p.0) other)
