use Rattle.std.proofs.Common.{◌≡◌, ◌||◌, ap, ap₂, sym, ◌∙◌, get_or}
use Rattle.std.specs.List.{list_any}
use Rattle.std.proofs.lemmas.List.{take_all}
use Rattle.std.proofs.lemmas.List.Folds.{list_any_more}
use Rattle.context_group.specs.Groups.{awaits}
use Rattle.context_group.proofs.Lists.{get_or-same, mapped_all, mapped_next}
use Rattle.context_group.proofs.groups.ack_each.Goals as goal

pub loop-group-preserved : goal.loop-group-preserved
loop-group-preserved c =
    let i = c.loop-group.group-index in
    let item = c.group-item.result in
    let is : get_or c.loop-group.groups i item ≡ get_or c.args.groups.now i item = get_or-same i c.loop-group.groups c.args.groups.now item c.loop-group.invariant.groups.rest in
    record {
      groups = mapped_next _ i c.loop-group.groups c.args.groups.now item _ c.loop-group.auto.groups c.loop-group-test.true c.ack-was_awaited.ensures.group c.loop-group.invariant.groups;
      answer =
          ap₂ (λ a b. a || b) c.loop-group.invariant.answer (c.ack-was_awaited.ensures.answer ∙ ap (awaits c.args.p.0 c.args.x) is)
          ∙ sym (list_any_more (awaits c.args.p.0 c.args.x) c.args.groups.now i item c.loop-group-test.true);
    }

pub returns-clause-groups : goal.returns-clause-groups
returns-clause-groups c = mapped_all _ _ c.loop-group.groups c.args.groups.now c.loop-group.auto.groups c.loop-group-test.false c.loop-group.invariant.groups

pub returns-clause-answer : goal.returns-clause-answer
returns-clause-answer c = c.loop-group.invariant.answer ∙ ap (list_any (awaits c.args.p.0 c.args.x)) (take_all c.loop-group.group-index c.args.groups.now c.loop-group-test.false)
