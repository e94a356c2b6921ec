use Rattle.std.proofs.Common.{◌≡◌, ◌∙◌, ap, sym, subst}
use Rattle.std.specs.Prelude.{IfOk}
use Rattle.context_tree.specs.Tree.{contexts}
use Rattle.context_tree.proofs.tree.Tree.subtree.Goals as goal

pub returns-in-None : goal.returns-in-None
returns-in-None c = c.new.ensures.items ∙ sym (ap contexts c.in-None.ensures.inside)

pub returns-in-Some : goal.returns-in-Some
returns-in-Some c = subst (λ l. IfOk c.ids_in.result (λ ids. ids.items ≡ contexts l)) c.in-Some.ensures.inside c.ids_in.ensures
