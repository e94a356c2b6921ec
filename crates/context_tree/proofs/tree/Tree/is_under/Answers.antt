use Rattle.std.proofs.Common.{◌≡◌, false, ◌∙◌, sym, ap, ◌||◌}
use Rattle.fission_ids.specs.Ids.{same_context}
use Rattle.context_tree.specs.Tree.{is_under}
use Rattle.context_tree.proofs.Same.{same_equal, same_swapped, not_true, not_false}
use Rattle.context_tree.proofs.Ancestors.{steps_up, at_top, under_itself}
use Rattle.context_tree.proofs.tree.Tree.is_under.Goals as goal

pub loop-above-smaller : goal.loop-above-smaller
loop-above-smaller c =
    (steps_up c.args.self.now c.stands_as_a_tree.ensures c.loop-above.at c.in-Some.parent (sym c.in-Some.ensures)).less

pub loop-above-preserved : goal.loop-above-preserved
loop-above-preserved c =
    let up = steps_up c.args.self.now c.stands_as_a_tree.ensures c.loop-above.at c.in-Some.parent (sym c.in-Some.ensures) in
    let apart : same_context c.args.above c.loop-above.at ≡ false =
    same_swapped c.args.above c.loop-above.at ∙ not_true (same_context c.loop-above.at c.args.above) c.loop-above-test.ensures in (
      up.held,
      sym (up.under c.args.above ∙ ap (λ b. b || is_under c.in-Some.parent c.args.above c.args.self.now) apart) ∙ c.loop-above.invariant.1,
    )

pub returns : goal.returns
returns c =
    let same = same_equal c.loop-above.at c.args.above (not_false (same_context c.loop-above.at c.args.above) c.loop-above-test.ensures) in
    sym (sym c.loop-above.invariant.1 ∙ ap (λ z. is_under c.loop-above.at z c.args.self.now) (sym same)
    ∙ under_itself c.args.self.now c.loop-above.at c.loop-above.invariant.0)

pub returns-in_default : goal.returns-in_default
returns-in_default c =
    let apart : same_context c.args.above c.loop-above.at ≡ false =
    same_swapped c.args.above c.loop-above.at ∙ not_true (same_context c.loop-above.at c.args.above) c.loop-above-test.ensures in
    sym (sym c.loop-above.invariant.1
    ∙ (at_top c.args.self.now c.loop-above.at c.loop-above.invariant.0 (sym c.parent.ensures ∙ c.in_default.is)).under c.args.above
    ∙ apart)
