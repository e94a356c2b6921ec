use Rattle.std.proofs.Common.{not, ap, ◌∙◌, if◌then◌else◌}
use Rattle.context_group.specs.Groups.{at_group, group_after_subscribe}
use Rattle.parent_core.specs.Membership.{group_with_more}
use Rattle.parent_core.proofs.membership.subscribe_if.Goals as goal

pub returns-then-has : goal.returns-then-has
returns-then-has c =
    c.subscribe.ensures.groups
    ∙ ap (λ b. if b then at_group (group_after_subscribe c.args.p.0) c.args.g c.args.groups.now else c.args.groups.now) (c.subscribe.ensures.answer ∙ ap not c.requires.absent)
    ∙ ap (λ b. at_group (group_with_more b c.args.p.0) c.args.g c.args.groups.now) c.if-has.ensures
