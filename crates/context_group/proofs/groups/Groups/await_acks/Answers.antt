use Rattle.std.proofs.Common.{◌≡◌, ◌-◌, ◌<◌, ◌^◌, true, sym, subst, ap, ◌∙◌, length, get_or, arith}
use Rattle.context_group.specs.declared.group.Group.{Group}
use Rattle.context_group.specs.Groups.{group_at, IsMade, IsSound}
use Rattle.context_group.proofs.Places.{made_if_kept, group_at_place}
use Rattle.context_group.proofs.Soundness.{sound_at, sound_await}
use Rattle.context_group.proofs.Members.{awaited_after_await, groups_after_await}
use Rattle.context_group.proofs.groups.Groups.await_acks.Goals as goal

pub invariant_of-self : goal.invariant_of-self
invariant_of-self c =
    let made : IsMade c.args.g c.args.self.now = made_if_kept c.args.g c.args.self.now c.requires in
    let within : c.args.g.0 - 1 < length c.self.inside.groups.items = omega (arith, ap length c.self.view_is) in
    let old : Group = c.index_mut.result.now in
    let sound : IsSound old = subst IsSound (sym c.index_mut.ensures.value) (c.self.invariant.each (c.args.g.0 - 1) old within) in
    let here : old ≡ group_at c.args.g c.args.self.now = c.index_mut.ensures.value ∙ ap (λ l. get_or l (c.args.g.0 - 1) old) c.self.view_is ∙ group_at_place c.args.g c.args.self.now old made in
    let kept : old.is_kept ≡ true = ap (λ (x : Group). x.is_kept) here ∙ c.requires in
    let fits : c.args.who.0 < 2 ^ 16 = omega arith in
    sound_at (c.args.g.0 - 1) c.self.inside.groups.items c.await_acks.new.self c.self.invariant
    (sound_await c.await_acks.result c.args.who c.args.x old c.await_acks.new.self c.await_acks.ensures.ok c.await_acks.ensures.err fits kept sound)

pub returns-clause-awaited : goal.returns-clause-awaited
returns-clause-awaited c =
    let made : IsMade c.args.g c.args.self.now = made_if_kept c.args.g c.args.self.now c.requires in
    awaited_after_await c.await_acks.result c.args.who c.args.x c.args.g c.args.self.now _ made
    (groups_after_await c.await_acks.result c.args.who c.args.x c.args.g c.args.self.now c.self.inside.groups.items c.index_mut.result.now c.await_acks.new.self c.self.view_is made c.index_mut.ensures.value c.await_acks.ensures.ok)
