-- A group with fewer live contexts, one after the other.
use Rattle.std.proofs.Common.{◌≡◌, ℕ, zero, suc, ◌+◌, ◌-◌, ◌<◌, ◌≤◌, ◌==◌, nat_lt, Bool, true, false, ◌&&◌, ◌||◌, if◌then◌else◌, List, length, refl, ap, ◌∙◌, arith, length-set, eq-eqb}
use Rattle.std.proofs.lemmas.Bool.{lt-ltb}
use Rattle.fission_ids.specs.declared.group.GroupId.{GroupId}
use Rattle.context_group.specs.declared.group.Group.{Group}
use Rattle.context_group.specs.Groups.{group_at, at_group, is_kept, is_needed, group_after_shrink, IsMade}
use Rattle.context_group.specs.Laws.{is_needed_at}
use Rattle.context_group.proofs.Kept.{until_ended}
use Rattle.context_group.proofs.Places.{group_at-set, made_if_live, same_at}
use Rattle.parent_core.specs.Membership.{shrunk}
use Rattle.parent_core.proofs.Awaiting.{group_same}

module _ (g : GroupId) (gs : List Group) where
  -- how many are left
  pub live_shrunk : (n : ℕ) → n ≤ (group_at g gs).live → (group_at g (shrunk n g gs)).live + n ≡ (group_at g gs).live
  live_shrunk zero le = omega arith
  live_shrunk (suc n) le =
      let before : (group_at g (shrunk n g gs)).live + n ≡ (group_at g gs).live = live_shrunk n (omega (arith, le)) in
      let some : 1 ≤ (group_at g (shrunk n g gs)).live = omega (arith, before, le) in
      let now : (group_at g (shrunk (suc n) g gs)).live ≡ (group_at g (shrunk n g gs)).live - 1 =
      ap (λ (v : Group). v.live) (group_at-set g g (shrunk n g gs) (group_after_shrink (group_at g (shrunk n g gs))) (made_if_live g (shrunk n g gs) some))
      ∙ ap (λ b. (if b then group_after_shrink (group_at g (shrunk n g gs)) else group_at g (shrunk n g gs)).live) (eq-eqb g.0 g.0 refl) in
      omega (arith, before, some, now)

  pub made_shrunk : (n : ℕ) → suc n ≤ (group_at g gs).live → IsMade g (shrunk n g gs)
  made_shrunk n le =
      let before : (group_at g (shrunk n g gs)).live + n ≡ (group_at g gs).live = live_shrunk n (omega (arith, le)) in
      made_if_live g (shrunk n g gs) (omega (arith, before, le))

  -- what isn't counted stays
  pub same_shrunk : {A : Type 0} (part : Group → A) → ((v : Group) → part (group_after_shrink v) ≡ part v) → (n : ℕ) → n ≤ (group_at g gs).live → (h : GroupId) → part (group_at h (shrunk n g gs)) ≡ part (group_at h gs)
  same_shrunk part same zero le h = refl
  same_shrunk part same (suc n) le h =
      same_at part g h (shrunk n g gs) (group_after_shrink (group_at g (shrunk n g gs))) (made_shrunk n le) (same (group_at g (shrunk n g gs)))
      ∙ same_shrunk part same n (omega (arith, le)) h

  pub length_shrunk : (n : ℕ) → length (shrunk n g gs) ≡ length gs
  length_shrunk zero = refl
  length_shrunk (suc n) = length-set (shrunk n g gs) (g.0 - 1) (group_after_shrink (group_at g (shrunk n g gs))) ∙ length_shrunk n

  -- the others count as before
  pub others_shrunk : (n : ℕ) → n ≤ (group_at g gs).live → (h : GroupId) → (h.0 == g.0) ≡ false → group_at h (shrunk n g gs) ≡ group_at h gs
  others_shrunk zero le h apart = refl
  others_shrunk (suc n) le h apart =
      group_at-set g h (shrunk n g gs) (group_after_shrink (group_at g (shrunk n g gs))) (made_shrunk n le)
      ∙ ap (λ b. if b then group_after_shrink (group_at g (shrunk n g gs)) else group_at h (shrunk n g gs)) apart
      ∙ others_shrunk n (omega (arith, le)) h apart

  still_needed : (n : ℕ) → suc n ≤ (group_at g gs).live → (h : GroupId) → (h.0 == g.0) ≡ true → is_needed_at h (shrunk n g gs) ≡ true
  still_needed n le h same =
      let before : (group_at g (shrunk n g gs)).live + n ≡ (group_at g gs).live = live_shrunk n (omega (arith, le)) in
      let some : 0 < (group_at g (shrunk n g gs)).live = omega (arith, before, le) in
      ap is_needed (group_same h g (shrunk n g gs) same)
      ∙ ap (λ b. b || nat_lt 0 (length (group_at g (shrunk n g gs)).awaited)) (lt-ltb 0 (group_at g (shrunk n g gs)).live some)

  -- it is kept where it is needed behind all
  pub kept_shrunk : (n : ℕ) → suc n ≤ (group_at g gs).live → (h : GroupId)
      → is_kept h (shrunk (suc n) g gs) ≡ (if h.0 == g.0 then is_kept h gs && is_needed_at h (shrunk (suc n) g gs) else is_kept h gs)
  kept_shrunk zero le h = until_ended.shrink g gs (made_shrunk 0 le) h
  kept_shrunk (suc n) le h =
      until_ended.shrink g (shrunk (suc n) g gs) (made_shrunk (suc n) le) h
      ∙ by (h.0 == g.0) refl (kept_shrunk n (omega (arith, le)) h)
    where
      by : (b : Bool) → (h.0 == g.0) ≡ b
          → is_kept h (shrunk (suc n) g gs) ≡ (if b then is_kept h gs && is_needed_at h (shrunk (suc n) g gs) else is_kept h gs)
          → (if b then is_kept h (shrunk (suc n) g gs) && is_needed_at h (shrunk (suc (suc n)) g gs) else is_kept h (shrunk (suc n) g gs))
          ≡ (if b then is_kept h gs && is_needed_at h (shrunk (suc (suc n)) g gs) else is_kept h gs)
      by true same before = ap (λ b. b && is_needed_at h (shrunk (suc (suc n)) g gs)) (before ∙ ap (λ b. is_kept h gs && b) (still_needed (suc n) le h same) ∙ and_true (is_kept h gs))
        where
          and_true : (b : Bool) → (b && true) ≡ b
          and_true true = refl
          and_true false = refl
      by false same before = before

  -- one more
  pub shrunk_next : (n : ℕ) (now next : List Group) → now ≡ shrunk n g gs → next ≡ at_group group_after_shrink g now → next ≡ shrunk (n + 1) g gs
  shrunk_next n now next so_far is =
      let one : suc n ≡ n + 1 = omega arith in
      is ∙ ap (λ l. at_group group_after_shrink g l) so_far ∙ ap (λ m. shrunk m g gs) one

  pub may_shrink : (n count : ℕ) (now : List Group) → count ≤ (group_at g gs).live → n < count → now ≡ shrunk n g gs → 1 ≤ (group_at g now).live
  may_shrink n count now le lt is =
      let before : (group_at g (shrunk n g gs)).live + n ≡ (group_at g gs).live = live_shrunk n (omega (arith, le, lt)) in
      let same : (group_at g now).live ≡ (group_at g (shrunk n g gs)).live = ap (λ l. (group_at g l).live) is in
      omega (arith, before, same, le, lt)
