use Rattle.std.proofs.Common.{◌≡◌, ◌∙◌, sym, subst}
use Rattle.std.specs.Prelude.{IfOk}
use Rattle.context_tree.specs.Tree.{children}
use Rattle.context_tree.proofs.Spans.{children_in_subtree}
use Rattle.context_tree.proofs.tree.Tree.children.Goals as goal

pub returns-in-None : goal.returns-in-None
returns-in-None c = c.new.ensures.items ∙ sym c.in-None.ensures.childless

pub returns-in-Some : goal.returns-in-Some
returns-in-Some c =
    subst (λ l. IfOk c.children_in.result (λ ids. ids.items ≡ l)) (children_in_subtree c.args.id c.args.self.now)
    (subst (λ l. IfOk c.children_in.result (λ ids. ids.items ≡ children c.args.id l)) c.in-Some.ensures.inside c.children_in.ensures)
