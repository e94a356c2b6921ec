-- What each group keeps stays so.
use Rattle.std.proofs.Common.{◌≡◌, ℕ, ◌-◌, ◌^◌, ◌<◌, ◌≤◌, Bool, true, false, ◌&&◌, ◌||◌, if◌then◌else◌, nat_lt, List, length, map, set, inl, inr, lit<, lit≤, arith, sym, subst, ap₂, ◌∙◌, refl, length-set}
use Rattle.std.specs.Prelude.{Result, Ok, Err, OnOk, OnErr}
use Rattle.std.proofs.lemmas.Bool.{ltb-false}
use Rattle.std.proofs.lemmas.List.{length-map}
use Rattle.std.proofs.lemmas.List.Elements.{All-map, All-set}
use Rattle.fission_ids.specs.ProcSet.{has}
use Rattle.fission_ids.specs.declared.context.ContextId.{ContextId}
use Rattle.fission_ids.specs.declared.group.GroupId.{GroupId}
use Rattle.fission_ids.specs.declared.process.ProcSet.{ProcSet}
use Rattle.context_group.specs.declared.group.Group.{Group}
use Rattle.context_group.specs.Sets.{set_without}
use Rattle.context_group.specs.Acks.{acks_without, is_of, AreSoundAcks}
use Rattle.context_group.specs.Groups.{no_group, new_group, group_at, awaits, awaits_any, is_needed, group_kept_if_needed, group_after_subscribe, group_after_await, group_after_ack, group_after_drop, IsSound, AreSound}
use Rattle.context_group.proofs.SetLemmas.{fits-with, fits-without}
use Rattle.context_group.proofs.AckLemmas.{sound-without, sound-with, none-without}
use Rattle.context_group.proofs.Lists.{or_first, or_second}
use Rattle.context_group.proofs.Places.{group_at_place, made_or_none}

none_sound : IsSound no_group
none_sound = record { subscribers = lit< tt; awaited = tt; live = lit≤ tt; ended = λ _. refl }

new_sound : IsSound new_group
new_sound = record { subscribers = lit< tt; awaited = tt; live = lit≤ tt; ended = λ _. refl }

-- the group of a number is sound
pub sound_here : (g : GroupId) (gs : List Group) → AreSound gs → IsSound (group_at g gs)
sound_here g gs sound = elim (made_or_none g gs) [
  | inl made ↦ let within : g.0 - 1 < length gs = omega arith in subst IsSound (group_at_place g gs no_group made) (sound.each (g.0 - 1) no_group within)
  | inr none ↦ subst IsSound (sym none) none_sound
]

ended_now : (kept needed : Bool) → (kept ≡ false → needed ≡ false) → (kept && needed) ≡ false → needed ≡ false
ended_now true needed old e = e
ended_now false needed old e = old refl

settled_sound : (old new : Group) → IsSound old → new.is_kept ≡ old.is_kept → (is_needed old ≡ false → is_needed new ≡ false)
    → new.subscribers.0 < 2 ^ 16 → AreSoundAcks new.awaited → new.live ≤ 4080 → IsSound (group_kept_if_needed new)
settled_sound old new sound kept less subscribers awaited live = record {
  subscribers = subscribers;
  awaited = awaited;
  live = live;
  ended = ended_now new.is_kept (is_needed new) (λ e. less (sound.ended (sym kept ∙ e)));
}

where_needed : (live live' : ℕ) (some some' : Bool) → live' ≤ live → (some ≡ false → some' ≡ false) → (nat_lt 0 live || some) ≡ false → (nat_lt 0 live' || some') ≡ false
where_needed live live' some some' le less none =
    let live_none : nat_lt 0 live ≡ false = or_first _ _ none in
    let gone : live' ≡ 0 = omega (arith, ltb-false _ _ live_none) in
    ap₂ (λ n b. nat_lt 0 n || b) gone (less (or_second _ _ none))

pub sound_subscribed : (p : ℕ) (group : Group) → p < 16 → IsSound group → IsSound (group_after_subscribe p group)
sound_subscribed p group low sound = record { subscribers = fits-with group.subscribers p low sound.subscribers; awaited = sound.awaited; live = sound.live; ended = sound.ended }

pub sound_awaiting : (who : ProcSet) (x : ContextId) (group : Group) → who.0 < 2 ^ 16 → group.is_kept ≡ true → IsSound group → IsSound (group_after_await who x group)
sound_awaiting who x group fits kept sound = record { subscribers = sound.subscribers; awaited = sound-with who x group.awaited fits sound.awaited; live = sound.live; ended = λ e. absurd (cc) }

pub sound_acked : (p : ℕ) (x : ContextId) (group : Group) → IsSound group → IsSound (group_after_ack p x group)
sound_acked p x group sound =
    elim (awaits p x group) as (λ b. IsSound (if b then group_kept_if_needed (record group { awaited = acks_without p (is_of x) group.awaited }) else group)) [
      | true ↦ settled_sound group (record group { awaited = acks_without p (is_of x) group.awaited }) sound refl
          (where_needed group.live group.live _ _ (omega arith) (none-without p (is_of x) group.awaited)) sound.subscribers (sound-without p (is_of x) group.awaited sound.awaited) sound.live
      | false ↦ sound
    ]

pub sound_without : (p : ℕ) (group : Group) → IsSound group → IsSound (group_after_drop p group)
sound_without p group sound =
    let without : Group = record group { subscribers = set_without p group.subscribers; awaited = acks_without p (λ _. true) group.awaited } in
    elim (has group.subscribers p || awaits_any p group) as (λ b. IsSound (if b then group_kept_if_needed without else group)) [
      | true ↦ settled_sound group without sound refl
          (where_needed group.live group.live _ _ (omega arith) (none-without p (λ _. true) group.awaited)) (fits-without group.subscribers p sound.subscribers) (sound-without p (λ _. true) group.awaited sound.awaited) sound.live
      | false ↦ sound
    ]

-- sound groups with another sound one in a place
pub sound_at : (i : ℕ) (gs : List Group) (v : Group) → AreSound gs → IsSound v → AreSound (set gs i v)
sound_at i gs v sound here = record { few = rw length-set sound.few; each = All-set IsSound gs i v here sound.each }

-- sound groups with f done to each
pub sound_each : (f : Group → Group) (gs : List Group) → ((group : Group) → IsSound group → IsSound (f group)) → AreSound gs → AreSound (map f gs)
sound_each f gs keeps sound = record { few = rw length-map sound.few; each = All-map IsSound f gs (λ k d within. keeps _ (sound.each k d within)) }

-- what awaits more is sound, and so is what stayed as it was
pub sound_await : {E : Type 0} (r : Result (Unit {0}) E) (who : ProcSet) (x : ContextId) (old new : Group) → OnOk r (new ≡ group_after_await who x old) → OnErr r (new ≡ old)
    → who.0 < 2 ^ 16 → old.is_kept ≡ true → IsSound old → IsSound new
sound_await (Ok u) who x old new ok err fits kept sound = subst IsSound (sym ok) (sound_awaiting who x old fits kept sound)
sound_await (Err e) who x old new ok err fits kept sound = subst IsSound (sym err) sound

-- and what p joined, or had joined before
pub sound_joined : (is_new : Bool) (p : ℕ) (old new : Group) → new ≡ (if is_new then group_after_subscribe p old else old) → p < 16 → IsSound old → IsSound new
sound_joined true p old new is low sound = subst IsSound (sym is) (sound_subscribed p old low sound)
sound_joined false p old new is low sound = subst IsSound (sym is) sound
