use Rattle.std.proofs.Common.{◌∙◌, sym, subst}
use Rattle.context_tree.specs.Places.{EndsRun}
use Rattle.context_tree.proofs.Ends.{run_to_end}
use Rattle.context_tree.proofs.tree.Tree.end_and_depth.Goals as goal

pub returns-then-ends_in : goal.returns-then-ends_in
returns-then-ends_in c =
    subst (λ e. EndsRun c.args.id c.args.self.now e c.in_ok-depth.field-0.depth) (sym c.len.ensures)
    (run_to_end c.args.id c.args.self.now c.stands_as_a_tree.ensures c.in_ok-depth.field-0 c.in_ok-depth.ensures
    (sym c.ends_in.ensures ∙ c.if-ends_in.true))
