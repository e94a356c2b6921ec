-- The groups behind what the parent does to them, question by question.
use Rattle.std.proofs.Common.{◌≡◌, ℕ, Bool, true, false, not, ◌&&◌, ◌||◌, cond, if◌then◌else◌, nat_lt, List, [], ◌∷◌, length, map, refl, sym, ap, ap₂, ◌∙◌}
use Rattle.std.specs.List.{list_any}
use Rattle.fission_ids.specs.declared.context.ContextId.{ContextId}
use Rattle.fission_ids.specs.declared.group.GroupId.{GroupId}
use Rattle.fission_ids.specs.ProcSet.{has, without}
use Rattle.context_group.specs.declared.acks.Awaited.{Awaited}
use Rattle.context_group.specs.declared.group.Group.{Group}
use Rattle.context_group.specs.Sets.{set_without}
use Rattle.context_group.specs.Acks.{acks_without, entry_without, is_of, is_owed, is_owed_by, AreSoundAcks}
use Rattle.context_group.specs.Groups.{group_at, is_kept, awaits, awaits_any, group_kept_if_needed, group_after_ack, group_after_drop, AreSound}
use Rattle.context_group.specs.Laws.{is_needed_at}
use Rattle.context_group.proofs.Kept.{until_ended}
use Rattle.context_group.proofs.Lists.{or_first, or_second}
use Rattle.context_group.proofs.Members.{none_left}
use Rattle.context_group.proofs.Places.{group_at-map}
use Rattle.context_group.proofs.Soundness.{sound_here}

-- ---- what nobody owes

-- an entry that p doesn't owe stays
entry_kept : (p : ℕ) (is_meant : Bool) (a : Awaited) → (is_meant && is_owed_by p a) ≡ false → (if is_meant then entry_without p a else a) ≡ a
entry_kept p false a none = refl
entry_kept p true a none = ap (λ (b : Bool). record a { from = if b then without a.from p else a.from }) none

-- where p owes nothing that is meant, what is awaited stays
pub nothing_owed : (p : ℕ) (is_meant : Awaited → Bool) (acks : List Awaited) → AreSoundAcks acks → list_any (λ a. is_meant a && is_owed_by p a) acks ≡ false → acks_without p is_meant acks ≡ acks
nothing_owed p is_meant [] sound none = refl
nothing_owed p is_meant (a ∷ acks) sound none =
    let same : (if is_meant a then entry_without p a else a) ≡ a = entry_kept p (is_meant a) a (or_first _ _ none) in
    let rest : acks_without p is_meant acks ≡ acks = nothing_owed p is_meant acks sound.3 (or_second _ _ none) in
    ap₂ (λ (e : Awaited) (l : List Awaited). cond (is_owed e) (e ∷ l) l) same rest ∙ ap (λ b. cond b (a ∷ acks) acks) sound.1

-- ---- a group that is settled

-- one kept as the rules say, where it is needed by either word
pub kept_by : (changed kept new needed needed' : Bool) → new ≡ (if changed then kept && needed else kept) → needed ≡ needed' → new ≡ (kept && (not changed || needed'))
kept_by true kept new needed needed' is same = is ∙ ap (λ b. kept && b) same
kept_by false kept new needed needed' is same = is ∙ sym (and_true kept)
  where
    and_true : (b : Bool) → (b && true) ≡ b
    and_true true = refl
    and_true false = refl

-- ---- acknowledgements

module _ (p : ℕ) (x : ContextId) where
  acked_live : (group : Group) → (group_after_ack p x group).live ≡ group.live
  acked_live group = elim (awaits p x group) as (λ b. (if b then group_kept_if_needed (record group { awaited = acks_without p (is_of x) group.awaited }) else group).live ≡ group.live) [ true ↦ refl | false ↦ refl ]

  acked_subscribers : (group : Group) → (group_after_ack p x group).subscribers ≡ group.subscribers
  acked_subscribers group = elim (awaits p x group) as (λ b. (if b then group_kept_if_needed (record group { awaited = acks_without p (is_of x) group.awaited }) else group).subscribers ≡ group.subscribers) [ true ↦ refl | false ↦ refl ]

  acked_awaited : (group : Group) → AreSoundAcks group.awaited → (group_after_ack p x group).awaited ≡ acks_without p (is_of x) group.awaited
  acked_awaited group sound =
      elim (awaits p x group) as (λ b. awaits p x group ≡ b → (if b then group_kept_if_needed (record group { awaited = acks_without p (is_of x) group.awaited }) else group).awaited ≡ acks_without p (is_of x) group.awaited) [
        | true ↦ λ _. refl
        | false ↦ λ none. sym (nothing_owed p (is_of x) group.awaited sound none)
      ] refl

  module _ (gs : List Group) (sound : AreSound gs) (g : GroupId) where
    pub live_acked : (group_at g (map (group_after_ack p x) gs)).live ≡ (group_at g gs).live
    live_acked = ap (λ (group : Group). group.live) (group_at-map (group_after_ack p x) g gs refl) ∙ acked_live (group_at g gs)

    pub subscribers_acked : (group_at g (map (group_after_ack p x) gs)).subscribers ≡ (group_at g gs).subscribers
    subscribers_acked = ap (λ (group : Group). group.subscribers) (group_at-map (group_after_ack p x) g gs refl) ∙ acked_subscribers (group_at g gs)

    pub awaited_acked : (group_at g (map (group_after_ack p x) gs)).awaited ≡ acks_without p (is_of x) (group_at g gs).awaited
    awaited_acked = ap (λ (group : Group). group.awaited) (group_at-map (group_after_ack p x) g gs refl) ∙ acked_awaited (group_at g gs) (sound_here g gs sound).awaited

    pub kept_acked : (some : Bool) → nat_lt 0 (group_at g gs).live ≡ some
        → is_kept g (map (group_after_ack p x) gs) ≡ (is_kept g gs && (not (awaits p x (group_at g gs)) || (some || nat_lt 0 (length (acks_without p (is_of x) (group_at g gs).awaited)))))
    kept_acked some lives = kept_by (awaits p x (group_at g gs)) (is_kept g gs) (is_kept g (map (group_after_ack p x) gs)) (is_needed_at g (map (group_after_ack p x) gs))
        (some || nat_lt 0 (length (acks_without p (is_of x) (group_at g gs).awaited))) (until_ended.ack p x gs g)
        (ap₂ (λ n (l : List Awaited). nat_lt 0 n || nat_lt 0 (length l)) live_acked awaited_acked ∙ ap (λ b. b || nat_lt 0 (length (acks_without p (is_of x) (group_at g gs).awaited))) lives)

-- ---- a process that is ended

module _ (p : ℕ) where
  -- the group as it is without p
  abbrev bare : Group → Group
  bare group = record group { subscribers = set_without p group.subscribers; awaited = acks_without p (λ _. true) group.awaited }

  abbrev touched : Group → Bool
  touched group = has group.subscribers p || awaits_any p group

  left_live : (group : Group) → (group_after_drop p group).live ≡ group.live
  left_live group = elim (touched group) as (λ b. (if b then group_kept_if_needed (bare group) else group).live ≡ group.live) [ true ↦ refl | false ↦ refl ]

  left_subscribers : (group : Group) → (group_after_drop p group).subscribers ≡ set_without p group.subscribers
  left_subscribers group = elim (touched group) as (λ b. touched group ≡ b → (if b then group_kept_if_needed (bare group) else group).subscribers ≡ set_without p group.subscribers) [
    | true ↦ λ _. refl
    | false ↦ λ none. sym (ap (λ b. if b then without group.subscribers p else group.subscribers) (or_first _ _ none))
  ] refl

  left_awaited : (group : Group) → AreSoundAcks group.awaited → (group_after_drop p group).awaited ≡ acks_without p (λ _. true) group.awaited
  left_awaited group sound = elim (touched group) as (λ b. touched group ≡ b → (if b then group_kept_if_needed (bare group) else group).awaited ≡ acks_without p (λ _. true) group.awaited) [
    | true ↦ λ _. refl
    | false ↦ λ none. sym (nothing_owed p (λ _. true) group.awaited sound (or_second _ _ none))
  ] refl

  module _ (gs : List Group) (sound : AreSound gs) (g : GroupId) where
    pub live_left : (group_at g (map (group_after_drop p) gs)).live ≡ (group_at g gs).live
    live_left = ap (λ (group : Group). group.live) (group_at-map (group_after_drop p) g gs (none_left p)) ∙ left_live (group_at g gs)

    pub subscribers_left : (group_at g (map (group_after_drop p) gs)).subscribers ≡ set_without p (group_at g gs).subscribers
    subscribers_left = ap (λ (group : Group). group.subscribers) (group_at-map (group_after_drop p) g gs (none_left p)) ∙ left_subscribers (group_at g gs)

    pub awaited_left : (group_at g (map (group_after_drop p) gs)).awaited ≡ acks_without p (λ _. true) (group_at g gs).awaited
    awaited_left = ap (λ (group : Group). group.awaited) (group_at-map (group_after_drop p) g gs (none_left p)) ∙ left_awaited (group_at g gs) (sound_here g gs sound).awaited

    pub kept_left : (some : Bool) → nat_lt 0 (group_at g gs).live ≡ some
        → is_kept g (map (group_after_drop p) gs) ≡ (is_kept g gs && (not (touched (group_at g gs)) || (some || nat_lt 0 (length (acks_without p (λ _. true) (group_at g gs).awaited)))))
    kept_left some lives = kept_by (touched (group_at g gs)) (is_kept g gs) (is_kept g (map (group_after_drop p) gs)) (is_needed_at g (map (group_after_drop p) gs))
        (some || nat_lt 0 (length (acks_without p (λ _. true) (group_at g gs).awaited))) (until_ended.drop_process p gs g)
        (ap₂ (λ n (l : List Awaited). nat_lt 0 n || nat_lt 0 (length l)) live_left awaited_left ∙ ap (λ b. b || nat_lt 0 (length (acks_without p (λ _. true) (group_at g gs).awaited))) lives)
