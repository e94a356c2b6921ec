use Rattle.std.proofs.Common.{◌∙◌, sym}
use Rattle.context_tree.proofs.Ancestors.{reaches, reached, under_subtree}
use Rattle.context_tree.proofs.laws.subtrees_hang_together.Goals as goal

pub returns : goal.returns
returns c ns t x y =
    let among = under_subtree x y ns t.distinct in
    ((λ h. reaches ns t x y (sym among ∙ h)), (λ h. among ∙ reached ns t x y h.0 h.1))
