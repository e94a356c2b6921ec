-- Who is subscribed to each group, and who owes an acknowledgement in it, after a call.
use Rattle.std.proofs.Common.{◌≡◌, ℕ, ◌-◌, ◌==◌, Bool, true, false, not, ◌&&◌, ◌||◌, if◌then◌else◌, List, [], ◌∷◌, map, get_or, set, arith, sym, ap, ap₂, ◌∙◌, refl}
use Rattle.std.specs.Prelude.{slice_index_or, Result, Ok, Err, OnOk, OnErr}
use Rattle.std.specs.Bool.{OnFalse}
use Rattle.std.specs.List.{list_any}
use Rattle.std.proofs.lemmas.List.{set-get_or}
use Rattle.std.proofs.lemmas.Bool.Decides.{nat_tests}
use Rattle.fission_ids.specs.Ids.{same_context}
use Rattle.fission_ids.specs.ProcSet.{has}
use Rattle.fission_ids.specs.declared.context.ContextId.{ContextId}
use Rattle.fission_ids.specs.declared.group.GroupId.{GroupId}
use Rattle.fission_ids.specs.declared.process.ProcSet.{ProcSet}
use Rattle.context_group.specs.declared.acks.Awaited.{Awaited}
use Rattle.context_group.specs.declared.group.Group.{Group}
use Rattle.context_group.specs.Sets.{set_without}
use Rattle.context_group.specs.Acks.{acks_without, is_of, is_owed_by, is_due}
use Rattle.context_group.specs.Groups.{no_group, group_at, IsMade, awaits, awaits_any, is_awaited, is_subscribed, group_kept_if_needed, group_after_subscribe, group_after_await, group_after_ack, group_after_drop, IsSound, AreSound, SameAwaited, SameSubscribers, at_group}
use Rattle.context_group.proofs.SetLemmas.{has-with, has-without, has_none}
use Rattle.context_group.proofs.AckLemmas.{any-acked, any-released, any-with}
use Rattle.context_group.proofs.Lists.{or_first, or_second}
use Rattle.context_group.proofs.Places.{changed_at, group_at-map, same_after, test_at}
use Rattle.context_group.proofs.Soundness.{sound_here}

-- what holds of none that is named
absent : (named f : Bool) → (named ≡ true → f ≡ false) → f ≡ (not named && f)
absent true f none = none refl
absent false f none = refl

same_is : (x y : ContextId) → same_context x y ≡ true → x ≡ y
same_is x y same =
    let creator : x.creator ≡ y.creator = grind (arith, nat_tests) in
    let serial : x.serial ≡ y.serial = grind (arith, nat_tests) in
    ap₂ (λ m n. record { creator = m; serial = n }) creator serial

named_both : (p q : ℕ) (x y : ContextId) → (q == p && same_context x y) ≡ true → (q ≡ p) × (x ≡ y)
named_both p q x y e =
    let same : same_context x y ≡ true = grind arith in
    let at : q ≡ p = grind (arith, nat_tests) in
    (at, same_is x y same)

-- who owes an acknowledgement once p gave that of x
acked_members : (p q : ℕ) (x y : ContextId) (group : Group) → IsSound group → awaits q y (group_after_ack p x group) ≡ (not (q == p && same_context x y) && awaits q y group)
acked_members p q x y group sound =
    elim (awaits p x group) as (λ b. awaits p x group ≡ b → awaits q y (if b then group_kept_if_needed (record group { awaited = acks_without p (is_of x) group.awaited }) else group) ≡ (not (q == p && same_context x y) && awaits q y group)) [
      | true ↦ λ _. any-acked p q x y group.awaited sound.awaited
      | false ↦ λ none. absent (q == p && same_context x y) (awaits q y group)
          (λ both. let named : (q ≡ p) × (x ≡ y) = named_both p q x y both in ap₂ (λ n z. awaits n z group) named.0 (sym named.1) ∙ none)
    ] refl

acked_subscribers : (p : ℕ) (x : ContextId) (group : Group) → (group_after_ack p x group).subscribers ≡ group.subscribers
acked_subscribers p x group = elim (awaits p x group) as (λ b. (if b then group_kept_if_needed (record group { awaited = acks_without p (is_of x) group.awaited }) else group).subscribers ≡ group.subscribers) [ true ↦ refl | false ↦ refl ]

owes_none : (p : ℕ) (x : ContextId) (acks : List Awaited) → list_any (is_owed_by p) acks ≡ false → list_any (is_due p x) acks ≡ false
owes_none p x [] none = refl
owes_none p x (a ∷ acks) none =
    let here : is_owed_by p a ≡ false = or_first _ _ none in
    let rest : list_any (is_due p x) acks ≡ false = owes_none p x acks (or_second _ _ none) in
    ap₂ (λ b c. (is_of x a && b) || c) here rest ∙ and_false (is_of x a)
  where
    and_false : (b : Bool) → ((b && false) || false) ≡ false
    and_false true = refl
    and_false false = refl

is_number : (p q : ℕ) → (q == p) ≡ true → q ≡ p
is_number p q e = grind (arith, nat_tests)

-- who is subscribed once p was dropped, and who owes an acknowledgement
left_subscribers : (p q : ℕ) (group : Group) → IsSound group → has (group_after_drop p group).subscribers q ≡ (not (q == p) && has group.subscribers q)
left_subscribers p q group sound =
    elim (has group.subscribers p || awaits_any p group)
    as (λ b. (has group.subscribers p || awaits_any p group) ≡ b → has (if b then group_kept_if_needed (record group { subscribers = set_without p group.subscribers; awaited = acks_without p (λ _. true) group.awaited }) else group).subscribers q ≡ (not (q == p) && has group.subscribers q)) [
      | true ↦ λ _. has-without group.subscribers p q sound.subscribers
      | false ↦ λ none. absent (q == p) (has group.subscribers q) (λ e. ap (has group.subscribers) (is_number p q e) ∙ or_first _ _ none)
    ] refl

left_members : (p q : ℕ) (y : ContextId) (group : Group) → IsSound group → awaits q y (group_after_drop p group) ≡ (not (q == p) && awaits q y group)
left_members p q y group sound =
    elim (has group.subscribers p || awaits_any p group)
    as (λ b. (has group.subscribers p || awaits_any p group) ≡ b → awaits q y (if b then group_kept_if_needed (record group { subscribers = set_without p group.subscribers; awaited = acks_without p (λ _. true) group.awaited }) else group) ≡ (not (q == p) && awaits q y group)) [
      | true ↦ λ _. any-released p q y group.awaited sound.awaited
      | false ↦ λ none. absent (q == p) (awaits q y group) (λ e. ap (λ n. awaits n y group) (is_number p q e) ∙ owes_none p y group.awaited (or_second _ _ none))
    ] refl

-- a group that wasn't made stays so
pub none_left : (p : ℕ) → group_after_drop p no_group ≡ no_group
none_left p = ap (λ b. if b || false then group_kept_if_needed (record no_group { subscribers = set_without p no_group.subscribers }) else no_group) (has_none p)

-- the same in every group
pub after_ack : (p : ℕ) (x : ContextId) (old new : List Group) → AreSound old → new ≡ map (group_after_ack p x) old
    → (g : GroupId) (q : ℕ) (y : ContextId) → is_awaited q y g new ≡ (not (q == p && same_context x y) && is_awaited q y g old)
after_ack p x old new sound is g q y =
    ap (is_awaited q y g) is ∙ ap (awaits q y) (group_at-map (group_after_ack p x) g old refl) ∙ acked_members p q x y (group_at g old) (sound_here g old sound)

pub subscribers_after_ack : (p : ℕ) (x : ContextId) (old new : List Group) → new ≡ map (group_after_ack p x) old → SameSubscribers old new
subscribers_after_ack p x old new is g =
    ap (λ l. (group_at g l).subscribers) is ∙ ap (λ (group : Group). group.subscribers) (group_at-map (group_after_ack p x) g old refl) ∙ acked_subscribers p x (group_at g old)

pub after_drop : (p : ℕ) (old new : List Group) → AreSound old → new ≡ map (group_after_drop p) old
    → (g : GroupId) (q : ℕ) (y : ContextId) → is_awaited q y g new ≡ (not (q == p) && is_awaited q y g old)
after_drop p old new sound is g q y =
    ap (is_awaited q y g) is ∙ ap (awaits q y) (group_at-map (group_after_drop p) g old (none_left p)) ∙ left_members p q y (group_at g old) (sound_here g old sound)

pub subscribers_after_drop : (p : ℕ) (old new : List Group) → AreSound old → new ≡ map (group_after_drop p) old
    → (g : GroupId) (q : ℕ) → is_subscribed q g new ≡ (not (q == p) && is_subscribed q g old)
subscribers_after_drop p old new sound is g q =
    ap (is_subscribed q g) is ∙ ap (λ (group : Group). has group.subscribers q) (group_at-map (group_after_drop p) g old (none_left p)) ∙ left_subscribers p q (group_at g old) (sound_here g old sound)

-- where one group was changed
pub after_await : (who : ProcSet) (x : ContextId) (g : GroupId) (old new : List Group) → IsMade g old → new ≡ set old (g.0 - 1) (group_after_await who x (group_at g old))
    → (h : GroupId) (q : ℕ) (y : ContextId) → is_awaited q y h new ≡ ((h.0 == g.0 && (same_context x y && has who q)) || is_awaited q y h old)
after_await who x g old new made is h q y =
    ap (is_awaited q y h) is ∙ test_at (awaits q y) (same_context x y && has who q) g h old (group_after_await who x (group_at g old)) made (any-with who q x y (group_at g old).awaited)

-- what holds of one that is named, where it held before
present : (named f : Bool) → (named ≡ true → f ≡ true) → f ≡ (named || f)
present true f some = some refl
present false f some = refl

named_one : (h g : GroupId) (p q : ℕ) → (h.0 == g.0 && q == p) ≡ true → (h.0 ≡ g.0) × (q ≡ p)
named_one h g p q e =
    let here : h.0 ≡ g.0 = grind (arith, nat_tests) in
    let it : q ≡ p = grind (arith, nat_tests) in
    (here, it)

not_not : (b : Bool) → false ≡ not b → b ≡ true
not_not true e = refl
not_not false e = absurd (cc)

pub after_subscribe : (is_new : Bool) (p : ℕ) (g : GroupId) (old new : List Group) → IsMade g old → is_new ≡ not (has (group_at g old).subscribers p)
    → new ≡ (if is_new then at_group (group_after_subscribe p) g old else old)
    → (h : GroupId) (q : ℕ) → is_subscribed q h new ≡ ((h.0 == g.0 && q == p) || is_subscribed q h old)
after_subscribe true p g old new made is done h q =
    ap (is_subscribed q h) done ∙ test_at (λ group. has group.subscribers q) (q == p) g h old (group_after_subscribe p (group_at g old)) made (has-with (group_at g old).subscribers p q)
after_subscribe false p g old new made is done h q =
    ap (is_subscribed q h) done ∙ present (h.0 == g.0 && q == p) (is_subscribed q h old)
    (λ both. let named : (h.0 ≡ g.0) × (q ≡ p) = named_one h g p q both in
    ap₂ (λ m n. has (slice_index_or (no_group ∷ old) m no_group).subscribers n) named.0 named.1 ∙ not_not (has (group_at g old).subscribers p) is)

pub awaited_after_subscribe : (is_new : Bool) (p : ℕ) (g : GroupId) (old new : List Group) → IsMade g old → new ≡ (if is_new then at_group (group_after_subscribe p) g old else old) → SameAwaited old new
awaited_after_subscribe true p g old new made done h = same_after (λ group. group.awaited) (group_after_subscribe p) g old new made done refl h
awaited_after_subscribe false p g old new made done h = ap (λ l. (group_at h l).awaited) done

-- where one group awaits more, or memory was wanting
pub subscribers_after_await : {E : Type 0} (r : Result (Unit {0}) E) (who : ProcSet) (x : ContextId) (g : GroupId) (old new : List Group) → IsMade g old
    → OnOk r (new ≡ at_group (group_after_await who x) g old) → OnErr r (new ≡ old) → SameSubscribers old new
subscribers_after_await (Ok u) who x g old new made ok err h = same_after (λ group. group.subscribers) (group_after_await who x) g old new made ok refl h
subscribers_after_await (Err e) who x g old new made ok err h = ap (λ l. (group_at h l).subscribers) err

pub awaited_after_await : {E : Type 0} (r : Result (Unit {0}) E) (who : ProcSet) (x : ContextId) (g : GroupId) (old new : List Group) → IsMade g old
    → OnOk r (new ≡ at_group (group_after_await who x) g old)
    → OnOk r ((h : GroupId) (q : ℕ) (y : ContextId) → is_awaited q y h new ≡ ((h.0 == g.0 && (same_context x y && has who q)) || is_awaited q y h old))
awaited_after_await (Ok u) who x g old new made ok = after_await who x g old new made ok
awaited_after_await (Err e) who x g old new made ok = tt

-- the new list, where one group awaits more
pub groups_after_await : {E : Type 0} (r : Result (Unit {0}) E) (who : ProcSet) (x : ContextId) (g : GroupId) (value items : List Group) (old new : Group) → items ≡ value → IsMade g value
    → old ≡ get_or items (g.0 - 1) old → OnOk r (new ≡ group_after_await who x old) → OnOk r (set items (g.0 - 1) new ≡ at_group (group_after_await who x) g value)
groups_after_await (Ok u) who x g value items old new view made is ok = changed_at (group_after_await who x) g value items old new view made is ok
groups_after_await (Err e) who x g value items old new view made is ok = tt

pub kept_after_await : {E : Type 0} (r : Result (Unit {0}) E) (g : GroupId) (value items : List Group) (old new : Group) → items ≡ value
    → old ≡ get_or items (g.0 - 1) old → OnErr r (new ≡ old) → OnErr r (set items (g.0 - 1) new ≡ value)
kept_after_await (Ok u) g value items old new view is err = tt
kept_after_await (Err e) g value items old new view is err = ap (set items (g.0 - 1)) (err ∙ is) ∙ set-get_or items (g.0 - 1) old ∙ view

-- the new list, where one group may have a subscriber more
pub groups_after_subscribe : (is_new : Bool) (p : ℕ) (g : GroupId) (value items : List Group) (old new : Group) → items ≡ value → IsMade g value
    → old ≡ get_or items (g.0 - 1) old → new ≡ (if is_new then group_after_subscribe p old else old) → set items (g.0 - 1) new ≡ (if is_new then at_group (group_after_subscribe p) g value else value)
groups_after_subscribe true p g value items old new view made is done = changed_at (group_after_subscribe p) g value items old new view made is done
groups_after_subscribe false p g value items old new view made is done = ap (set items (g.0 - 1)) (done ∙ is) ∙ set-get_or items (g.0 - 1) old ∙ view

not_acked : (p : ℕ) (x : ContextId) (group : Group) → awaits p x group ≡ false → group_after_ack p x group ≡ group
not_acked p x group none = ap (λ b. if b then group_kept_if_needed (record group { awaited = acks_without p (is_of x) group.awaited }) else group) none

-- where no group awaits it, nothing changes
pub none_acked : (p : ℕ) (x : ContextId) (gs : List Group) → list_any (awaits p x) gs ≡ false → map (group_after_ack p x) gs ≡ gs
none_acked p x [] none = refl
none_acked p x (group ∷ gs) none = ap₂ (λ h hs. h ∷ hs) (not_acked p x group (or_first _ _ none)) (none_acked p x gs (or_second _ _ none))

pub unchanged_unless_acked : (was_awaited : Bool) (p : ℕ) (x : ContextId) (old new : List Group) → was_awaited ≡ list_any (awaits p x) old → new ≡ map (group_after_ack p x) old → OnFalse was_awaited (new ≡ old)
unchanged_unless_acked true p x old new is done = tt
unchanged_unless_acked false p x old new is done = done ∙ none_acked p x old (sym is)
