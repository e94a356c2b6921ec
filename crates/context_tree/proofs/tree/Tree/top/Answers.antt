use Rattle.std.proofs.Common.{◌∙◌, sym}
use Rattle.context_tree.proofs.Ancestors.{steps_up, at_top}
use Rattle.context_tree.proofs.tree.Tree.top.Goals as goal

pub loop-parent-smaller : goal.loop-parent-smaller
loop-parent-smaller c =
    (steps_up c.args.self.now c.stands_as_a_tree.ensures c.loop-parent.top c.in-Some.parent (sym c.in-Some.ensures)).less

pub loop-parent-preserved : goal.loop-parent-preserved
loop-parent-preserved c =
    let up = steps_up c.args.self.now c.stands_as_a_tree.ensures c.loop-parent.top c.in-Some.parent (sym c.in-Some.ensures) in
    (up.held, up.top ∙ c.loop-parent.invariant.1)

pub returns : goal.returns
returns c =
    sym (at_top c.args.self.now c.loop-parent.top c.loop-parent.invariant.0 (sym c.parent.ensures ∙ c.in_default.is)).top
    ∙ c.loop-parent.invariant.1
