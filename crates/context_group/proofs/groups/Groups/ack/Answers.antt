use Rattle.std.proofs.Common.{◌≡◌, sym, subst, ap, ◌∙◌, length, refl, arith}
use Rattle.std.specs.List.{list_any}
use Rattle.context_group.specs.Groups.{awaits, group_after_ack, AreSound}
use Rattle.context_group.proofs.Lists.{overwritten}
use Rattle.context_group.proofs.Soundness.{sound_acked, sound_each}
use Rattle.context_group.proofs.Members.{after_ack, unchanged_unless_acked}
use Rattle.context_group.proofs.groups.Groups.ack.Goals as goal

pub invariant_of-self : goal.invariant_of-self
invariant_of-self c =
    let whole : length c.ack_each.new.groups ≡ c.self.inside.groups.len = omega arith in
    let f = group_after_ack c.args.p.0 c.args.x in
    subst AreSound (sym (overwritten f _ _ c.self.inside.groups.items _ c.ack_each.new.groups _ whole c.ack_each.ensures.groups c.as_mut_slice.ensures.value refl)) (sound_each f c.self.inside.groups.items (sound_acked c.args.p.0 c.args.x) c.self.invariant)

pub returns-clause-awaited : goal.returns-clause-awaited
returns-clause-awaited c =
    let whole : length c.ack_each.new.groups ≡ c.self.inside.groups.len = omega arith in
    let f = group_after_ack c.args.p.0 c.args.x in
    let sound : AreSound c.args.self.now = subst AreSound c.self.view_is c.self.invariant in
    after_ack c.args.p.0 c.args.x c.args.self.now _ sound (overwritten f _ c.args.self.now c.self.inside.groups.items _ c.ack_each.new.groups _ whole c.ack_each.ensures.groups c.as_mut_slice.ensures.value c.self.view_is)

pub returns-clause-unchanged : goal.returns-clause-unchanged
returns-clause-unchanged c =
    let whole : length c.ack_each.new.groups ≡ c.self.inside.groups.len = omega arith in
    let f = group_after_ack c.args.p.0 c.args.x in
    unchanged_unless_acked c.ack_each.result c.args.p.0 c.args.x c.args.self.now _
    (c.ack_each.ensures.answer ∙ ap (list_any (awaits c.args.p.0 c.args.x)) (c.as_mut_slice.ensures.value ∙ c.self.view_is))
    (overwritten f _ c.args.self.now c.self.inside.groups.items _ c.ack_each.new.groups _ whole c.ack_each.ensures.groups c.as_mut_slice.ensures.value c.self.view_is)
