use Rattle.std.proofs.Common.{◌≡◌, sym, subst, length, refl, arith}
use Rattle.context_group.specs.Groups.{group_after_drop, AreSound}
use Rattle.context_group.proofs.Lists.{overwritten}
use Rattle.context_group.proofs.Soundness.{sound_each, sound_without}
use Rattle.context_group.proofs.Members.{after_drop, subscribers_after_drop}
use Rattle.context_group.proofs.groups.Groups.drop_process.Goals as goal

pub invariant_of-self : goal.invariant_of-self
invariant_of-self c =
    let whole : length c.drop_from_each.new.groups ≡ c.self.inside.groups.len = omega arith in
    let f = group_after_drop c.args.p.0 in
    subst AreSound (sym (overwritten f _ _ c.self.inside.groups.items _ c.drop_from_each.new.groups _ whole c.drop_from_each.ensures c.as_mut_slice.ensures.value refl)) (sound_each f c.self.inside.groups.items (sound_without c.args.p.0) c.self.invariant)

pub returns-clause-awaited : goal.returns-clause-awaited
returns-clause-awaited c =
    let whole : length c.drop_from_each.new.groups ≡ c.self.inside.groups.len = omega arith in
    let f = group_after_drop c.args.p.0 in
    let sound : AreSound c.args.self.now = subst AreSound c.self.view_is c.self.invariant in
    after_drop c.args.p.0 c.args.self.now _ sound (overwritten f _ c.args.self.now c.self.inside.groups.items _ c.drop_from_each.new.groups _ whole c.drop_from_each.ensures c.as_mut_slice.ensures.value c.self.view_is)

pub returns-clause-subscribers : goal.returns-clause-subscribers
returns-clause-subscribers c =
    let whole : length c.drop_from_each.new.groups ≡ c.self.inside.groups.len = omega arith in
    let f = group_after_drop c.args.p.0 in
    let sound : AreSound c.args.self.now = subst AreSound c.self.view_is c.self.invariant in
    subscribers_after_drop c.args.p.0 c.args.self.now _ sound (overwritten f _ c.args.self.now c.self.inside.groups.items _ c.drop_from_each.new.groups _ whole c.drop_from_each.ensures c.as_mut_slice.ensures.value c.self.view_is)
