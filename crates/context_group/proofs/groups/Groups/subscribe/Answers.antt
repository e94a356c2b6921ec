use Rattle.std.proofs.Common.{◌≡◌, ◌-◌, ◌<◌, sym, subst, ap, ◌∙◌, get_or, not, length, arith}
use Rattle.fission_ids.specs.ProcSet.{has}
use Rattle.context_group.specs.declared.group.Group.{Group}
use Rattle.context_group.specs.Groups.{IsSound, group_at}
use Rattle.context_group.proofs.Places.{group_at_place}
use Rattle.context_group.proofs.Soundness.{sound_at, sound_joined}
use Rattle.context_group.proofs.Members.{after_subscribe, groups_after_subscribe}
use Rattle.context_group.proofs.groups.Groups.subscribe.Goals as goal

pub invariant_of-self : goal.invariant_of-self
invariant_of-self c =
    let within : c.args.g.0 - 1 < length c.self.inside.groups.items = omega (arith, ap length c.self.view_is) in
    let here : IsSound c.index_mut.result.now = subst IsSound (sym c.index_mut.ensures.value) (c.self.invariant.each (c.args.g.0 - 1) c.index_mut.result.now within) in
    sound_at (c.args.g.0 - 1) c.self.inside.groups.items c.subscribe.new.self c.self.invariant
    (sound_joined c.subscribe.result c.args.p.0 c.index_mut.result.now c.subscribe.new.self c.subscribe.ensures.group c.requires.process here)

pub returns-clause-subscribers : goal.returns-clause-subscribers
returns-clause-subscribers c =
    let old : Group = c.index_mut.result.now in
    let here : old ≡ group_at c.args.g c.args.self.now = c.index_mut.ensures.value ∙ ap (λ l. get_or l (c.args.g.0 - 1) old) c.self.view_is ∙ group_at_place c.args.g c.args.self.now old c.requires.made in
    after_subscribe c.subscribe.result c.args.p.0 c.args.g c.args.self.now _ c.requires.made (c.subscribe.ensures.answer ∙ ap (λ (x : Group). not (has x.subscribers c.args.p.0)) here)
    (groups_after_subscribe c.subscribe.result c.args.p.0 c.args.g c.args.self.now c.self.inside.groups.items old c.subscribe.new.self c.self.view_is c.requires.made c.index_mut.ensures.value c.subscribe.ensures.group)
