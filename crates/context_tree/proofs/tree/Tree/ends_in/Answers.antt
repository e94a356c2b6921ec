use Rattle.std.proofs.Common.{◌∙◌, ap, sym, length, ◌-◌}
use Rattle.std.specs.Prelude.{slice_get}
use Rattle.context_tree.proofs.Spans.{last_child}
use Rattle.context_tree.proofs.tree.Tree.ends_in.Goals as goal

pub returns-else-eq : goal.returns-else-eq
returns-else-eq c =
    c.is_child.ensures
    ∙ last_child c.args.self.now c.stands_as_a_tree.ensures c.args.id c.in-Some.last.now
    (c.in-Some.ensures.value ∙ ap (λ l. slice_get l (length l - 1)) c.contexts.ensures) (sym c.eq.ensures ∙ c.if-eq.false)
