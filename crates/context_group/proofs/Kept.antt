-- Until when a group is kept.
use Rattle.std.proofs.Common.{◌≡◌, ℕ, ◌<◌, ◌==◌, Bool, true, false, not, ◌&&◌, ◌||◌, if◌then◌else◌, List, [], ◌∷◌, ◌++◌, length, map, get_or, inl, inr, arith, sym, subst, ap, ap₂, ◌∙◌, refl, length-append}
use Rattle.std.specs.List.{list_any}
use Rattle.std.specs.Int.{bit_at}
use Rattle.std.proofs.lemmas.Bool.{cases_eq}
use Rattle.std.proofs.lemmas.Bool.Decides.{nat_tests}
use Rattle.std.proofs.lemmas.List.{get_or_append_left, get_or_at}
use Rattle.std.proofs.lemmas.Nat.Bits.{bit_at-lt, bit_at-zero, same_from_bits}
use Rattle.fission_ids.specs.ProcSet.{has}
use Rattle.fission_ids.specs.declared.context.ContextId.{ContextId}
use Rattle.fission_ids.specs.declared.group.GroupId.{GroupId}
use Rattle.fission_ids.specs.declared.process.ProcSet.{ProcSet}
use Rattle.context_group.specs.declared.acks.Awaited.{Awaited}
use Rattle.context_group.specs.declared.group.Group.{Group}
use Rattle.context_group.specs.Sets.{has_any, set_without}
use Rattle.context_group.specs.Acks.{acks_without, is_of, is_due, AreSoundAcks}
use Rattle.context_group.specs.Groups.{is_kept, IsMade, at_group, group_after_await, awaits, awaits_any, group_after_ack, group_at, group_after_drop, group_after_grow, is_needed, new_group, no_group, group_kept_if_needed, group_after_shrink, group_after_subscribe}
use Rattle.context_group.specs.Laws.{is_needed_at, SameKept, KeptAfterBegin, KeptWhereNeeded, GroupsAreKeptUntilEnded, NoneKeptAgain, EndedGroupsStayEnded, AwaitsWhereOwed}
use Rattle.context_group.proofs.Places.{group_at-map, group_at-set, same_at}
use Rattle.context_group.proofs.Lists.{or_first}
use Rattle.context_group.proofs.Members.{none_left}

begins : (gs : List Group) → KeptAfterBegin gs (gs ++ new_group ∷ [])
begins gs = record {
  begun = λ g last.
      let len : g.0 ≡ length (no_group ∷ gs) = omega (arith, last, length-append gs (new_group ∷ [])) in
      ap (λ (group : Group). group.is_kept) (get_or_at (no_group ∷ gs) new_group [] no_group g.0 (sym len));
  others = λ g high.
      let within : g.0 < length (no_group ∷ gs) = omega arith in
      ap (λ (group : Group). group.is_kept) (get_or_append_left (no_group ∷ gs) (new_group ∷ []) no_group g.0 within);
}

shrinks : (g : GroupId) (gs : List Group) → IsMade g gs → KeptWhereNeeded (λ h. h.0 == g.0) gs (at_group group_after_shrink g gs)
shrinks g gs made h =
    let P : Group → Type 0 = λ z. z.is_kept ≡ (if h.0 == g.0 then (group_at h gs).is_kept && is_needed z else (group_at h gs).is_kept) in
    subst P (sym (group_at-set g h gs (group_after_shrink (group_at g gs)) made))
    (elim (cases_eq h.0 g.0) [
      | inl same ↦
          let test : (h.0 == g.0) ≡ true = grind (arith, nat_tests) in
          let here : group_at h gs ≡ group_at g gs = ap (λ n. get_or (no_group ∷ gs) n no_group) same in
          let Q : Bool → Group → Type 0 = λ b x. (if b then group_after_shrink (group_at g gs) else group_at h gs).is_kept
          ≡ (if b then x.is_kept && is_needed (if b then group_after_shrink (group_at g gs) else group_at h gs) else x.is_kept) in
          subst (λ b. Q b (group_at h gs)) (sym test) (subst (Q true) (sym here) refl)
      | inr other ↦
          let test : (h.0 == g.0) ≡ false = grind (arith, nat_tests) in
          let Q : Bool → Type 0 = λ b. (if b then group_after_shrink (group_at g gs) else group_at h gs).is_kept
          ≡ (if b then (group_at h gs).is_kept && is_needed (if b then group_after_shrink (group_at g gs) else group_at h gs) else (group_at h gs).is_kept) in
          subst Q (sym test) refl
    ])

-- one group, which is settled where it is changed
settles : (f : Group → Group) (changed : Bool) (old settling : Group) → f old ≡ (if changed then group_kept_if_needed settling else old) → settling.is_kept ≡ old.is_kept
    → (f old).is_kept ≡ (if changed then old.is_kept && is_needed (f old) else old.is_kept)
settles f true old settling is kept = ap (λ (x : Group). x.is_kept) is ∙ ap₂ (λ b (x : Group). b && is_needed x) kept (sym is)
settles f false old settling is kept = ap (λ (x : Group). x.is_kept) is

everywhere : (f : Group → Group) (changed : Group → Bool) (gs : List Group) → f no_group ≡ no_group
    → ((old : Group) → (f old).is_kept ≡ (if changed old then old.is_kept && is_needed (f old) else old.is_kept))
    → KeptWhereNeeded (λ g. changed (group_at g gs)) gs (map f gs)
everywhere f changed gs none each g =
    let P : Group → Type 0 = λ z. z.is_kept ≡ (if changed (group_at g gs) then (group_at g gs).is_kept && is_needed z else (group_at g gs).is_kept) in
    subst P (sym (group_at-map f g gs none)) (each (group_at g gs))

acknowledges : (p : ℕ) (x : ContextId) (gs : List Group) → KeptWhereNeeded (λ g. awaits p x (group_at g gs)) gs (map (group_after_ack p x) gs)
acknowledges p x gs = everywhere (group_after_ack p x) (awaits p x) gs refl
    (λ old. settles (group_after_ack p x) (awaits p x old) old (record old { awaited = acks_without p (is_of x) old.awaited }) refl refl)

drops : (p : ℕ) (gs : List Group) → KeptWhereNeeded (λ g. has (group_at g gs).subscribers p || awaits_any p (group_at g gs)) gs (map (group_after_drop p) gs)
drops p gs = everywhere (group_after_drop p) (λ group. has group.subscribers p || awaits_any p group) gs (none_left p)
    (λ old. settles (group_after_drop p) (has old.subscribers p || awaits_any p old) old
    (record old { subscribers = set_without p old.subscribers; awaited = acks_without p (λ _. true) old.awaited }) refl refl)

same_kept : (f : Group → Group) (g : GroupId) (gs : List Group) → ((group : Group) → (f group).is_kept ≡ group.is_kept) → IsMade g gs → SameKept gs (at_group f g gs)
same_kept f g gs same made h = same_at (λ (x : Group). x.is_kept) g h gs (f (group_at g gs)) made (same (group_at g gs))

pub until_ended : GroupsAreKeptUntilEnded
until_ended = record {
  begin = begins;
  subscribe = λ p g gs made. same_kept (group_after_subscribe p) g gs (λ _. refl) made;
  grow = λ g gs made. same_kept group_after_grow g gs (λ _. refl) made;
  await_acks = λ who x g gs made. same_kept (group_after_await who x) g gs (λ _. refl) made;
  shrink = shrinks;
  ack = acknowledges;
  drop_process = drops;
}

same_again : (old new : List Group) → SameKept old new → NoneKeptAgain old new
same_again old new same g made kept = sym (same g) ∙ kept

and_first : (changed a b c : Bool) → c ≡ (if changed then a && b else a) → c ≡ true → a ≡ true
and_first true true b c is e = refl
and_first true false b c is e = absurd (cc)
and_first false a b c is e = sym is ∙ e

where_needed : (changed : GroupId → Bool) (old new : List Group) → KeptWhereNeeded changed old new → NoneKeptAgain old new
where_needed changed old new law g made kept = and_first (changed g) (is_kept g old) (is_needed_at g new) (is_kept g new) (law g) kept

pub stay_ended : EndedGroupsStayEnded
stay_ended = record {
  begin = λ gs g made kept. sym ((begins gs).others g made.1) ∙ kept;
  subscribe = λ p g gs made. same_again gs (at_group (group_after_subscribe p) g gs) (until_ended.subscribe p g gs made);
  grow = λ g gs made. same_again gs (at_group group_after_grow g gs) (until_ended.grow g gs made);
  await_acks = λ who x g gs made. same_again gs (at_group (group_after_await who x) g gs) (until_ended.await_acks who x g gs made);
  shrink = λ g gs made. where_needed (λ h. h.0 == g.0) gs (at_group group_after_shrink g gs) (shrinks g gs made);
  ack = λ p x gs. where_needed (λ g. awaits p x (group_at g gs)) gs (map (group_after_ack p x) gs) (acknowledges p x gs);
  drop_process = λ p gs. where_needed (λ g. has (group_at g gs).subscribers p || awaits_any p (group_at g gs)) gs (map (group_after_drop p) gs) (drops p gs);
}

-- where some process is in no set, it is empty
bit_is_zero : (n : ℕ) → n < 2 → (n == 1) ≡ false → n ≡ 0
bit_is_zero n low other = grind (arith, nat_tests)

none_in : (s : ProcSet) → ((p : ℕ) → has s p ≡ false) → has_any s ≡ false
none_in s none =
    let zero : s.0 ≡ 0 = same_from_bits s.0 0 (λ i. bit_is_zero (bit_at s.0 i) (bit_at-lt s.0 i) (none i) ∙ sym (bit_at-zero i)) in
    ap (λ n. not (n == 0)) zero

same_context_refl : (x : ContextId) (b : Bool) → ((x.creator == x.creator && x.serial == x.serial) && b) ≡ b
same_context_refl x true = grind (arith, nat_tests)
same_context_refl x false = grind (arith, nat_tests)

first_owed : (a : Awaited) (acks : List Awaited) → AreSoundAcks (a ∷ acks) → ((p : ℕ) (x : ContextId) → list_any (is_due p x) (a ∷ acks) ≡ false) → ⊥
first_owed a acks sound none =
    let nobody : has_any a.from ≡ false = none_in a.from (λ p. sym (same_context_refl a.context (has a.from p)) ∙ or_first _ _ (none p a.context)) in
    let some : has_any a.from ≡ true = sound.1 in
    cc

nothing_awaited : (acks : List Awaited) → AreSoundAcks acks → ((p : ℕ) (x : ContextId) → list_any (is_due p x) acks ≡ false) → acks ≡ []
nothing_awaited [] sound none = refl
nothing_awaited (a ∷ acks) sound none = absurd (first_owed a acks sound none)

pub where_owed : AwaitsWhereOwed
where_owed group sound = (λ e p x. ap (list_any (is_due p x)) e, nothing_awaited group.awaited sound.awaited)
