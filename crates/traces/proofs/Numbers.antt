-- The numbers of the own writes: which of those that wait is the newest to the field.
use Rattle.std.proofs.Common.{◌≡◌, ℕ, ◌+◌, ◌<◌, ◌≤◌, ◌⊎◌, inl, inr, Option, None, Some, List, [], ◌∷◌, ◌++◌, length, drop, refl, sym, subst, ◌∙◌, arith}
use Rattle.traces.specs.Event.Event.{Writes, Takes, Accepts, Reverts, Ignores}
use Rattle.traces.specs.Links.{writes, last_write, hears, writes_waiting}
use Rattle.traces.specs.Field.{Content, Trace}
use Rattle.traces.specs.Field.Content.{Leaves}
use Rattle.traces.specs.Words.{newest, number_after, last_leaving, leaving_after, latest_number, own_value}
use Rattle.traces.specs.Rules.{IsFirst, Flows}
use Rattle.traces.proofs.Waits.{write_waits, heard_leaves, waiting_count}

-- m is the number of the newest write to the field and v its value, n were heard: the ones that wait are numbered on,
-- none with a value has a number above m, and one with number m has the value v
abbrev pub Numbered : {V : Type 0} → ℕ → V → ℕ → List (Option V) → Type 0
Numbered m v n [] = m ≤ n
Numbered m v n (None ∷ ws) = (m ≡ n + 1 → ⊥) × Numbered m v (n + 1) ws
Numbered m v n (Some w ∷ ws) = (n + 1 ≤ m) × (m ≡ n + 1 → w ≡ v) × Numbered m v (n + 1) ws

other_waits : {V : Type 0} (m : ℕ) (v : V) (n : ℕ) (ws : List (Option V)) → Numbered m v n ws → Numbered m v n (ws ++ None ∷ [])
other_waits m v n [] a = (λ e. omega arith, omega arith)
other_waits m v n (None ∷ ws) a = (a.0, other_waits m v (n + 1) ws a.1)
other_waits m v n (Some w ∷ ws) a = (a.0, a.1, other_waits m v (n + 1) ws a.2)

newest_waits : {V : Type 0} (m : ℕ) (v : V) (n : ℕ) (ws : List (Option V)) → m ≡ n + length ws + 1 → Numbered m v n (ws ++ Some v ∷ [])
newest_waits m v n [] e = (omega arith, λ i. refl, omega arith)
newest_waits m v n (None ∷ ws) e = (λ i. omega arith, newest_waits m v (n + 1) ws (omega arith))
newest_waits m v n (Some w ∷ ws) e = (omega arith, λ i. absurd (omega arith), newest_waits m v (n + 1) ws (omega arith))

rest_numbered : {V : Type 0} (m : ℕ) (v : V) (n : ℕ) (w : Option V) (ws : List (Option V)) → Numbered m v n (w ∷ ws) → Numbered m v (n + 1) ws
rest_numbered m v n None ws a = a.1
rest_numbered m v n (Some w) ws a = a.2

-- the number of the newest own write to the field, whether the context was left since or not, or 0
abbrev pub latest : {V : Type 0} → Trace V → ℕ
latest [] = 0
latest (Writes w ∷ h) = latest_number w (last_write h + 1) (latest h)
latest (_ ∷ h) = latest h

after_hear : {V : Type 0} (initial : V) (w : Option V) (h : Trace V) (f : IsFirst w (writes_waiting h)) → Numbered (latest h) (own_value initial h) (hears h) (writes_waiting h)
    → Numbered (latest h) (own_value initial h) (hears h + 1) (drop (hears h + 1) (writes h))
after_hear initial w h f a =
    let b : Numbered (latest h) (own_value initial h) (hears h) (w ∷ f.rest) = subst (λ ws. Numbered (latest h) (own_value initial h) (hears h) ws) f.is a in
    subst (λ ws. Numbered (latest h) (own_value initial h) (hears h + 1) ws) (sym (heard_leaves w h f)) (rest_numbered (latest h) (own_value initial h) (hears h) w f.rest b)

pub numbered : {V : Type 0} (initial : V) (h : Trace V) → Flows h → Numbered (latest h) (own_value initial h) (hears h) (writes_waiting h)
numbered initial [] f = omega arith
numbered initial (Writes None ∷ h) f = subst (λ ws. Numbered (latest h) (own_value initial h) (hears h) ws) (sym (write_waits None h f.1)) (other_waits _ _ _ _ (numbered initial h f.1))
numbered initial (Writes (Some v) ∷ h) f =
    subst (λ ws. Numbered (last_write h + 1) v (hears h) ws) (sym (write_waits (Some v) h f.1)) (newest_waits _ _ _ _ (omega (arith, waiting_count h f.1)))
numbered initial (Accepts k w ∷ h) f = after_hear initial w h f.0 (numbered initial h f.1)
numbered initial (Reverts k w c ∷ h) f = after_hear initial w h f.0.first (numbered initial h f.1)
numbered initial (Ignores k w ∷ h) f = after_hear initial w h f.0 (numbered initial h f.1)
numbered initial (_ ∷ h) f = numbered initial h f.1

latest_past : {V : Type 0} (h : Trace V) → latest h ≤ last_write h
latest_past [] = omega arith
latest_past (Writes None ∷ h) = omega (arith, latest_past h)
latest_past (Writes (Some v) ∷ h) = omega arith
latest_past (_ ∷ h) = latest_past h

leaving_kept : {V : Type 0} (c : Content V) (n before bound : ℕ) → n ≤ bound → before ≤ bound → leaving_after c n before ≤ bound
leaving_kept Leaves n before bound l m = l
leaving_kept _ n before bound l m = m

leaving_past : {V : Type 0} (h : Trace V) → last_leaving h ≤ last_write h
leaving_past [] = omega arith
leaving_past (Writes w ∷ h) = omega (arith, leaving_past h)
leaving_past (Takes d ∷ h) = leaving_kept d.content (last_write h) (last_leaving h) (last_write h) (omega arith) (leaving_past h)
leaving_past (_ ∷ h) = leaving_past h

-- the number that is kept is the latest one, made since the context was left; or none was made since
abbrev pub SinceLeft : (kept newest left : ℕ) → Type 0
SinceLeft kept newest left = ((kept ≡ newest) × (left < kept)) ⊎ ((kept ≡ 0) × (newest ≤ left))

since_after : {V : Type 0} (c : Content V) (kept newest left n : ℕ) → newest ≤ n → SinceLeft kept newest left → SinceLeft (number_after c kept) newest (leaving_after c n left)
since_after Leaves kept newest left n l s = inr (refl, l)
since_after _ kept newest left n l s = s

pub since_left : {V : Type 0} (h : Trace V) → SinceLeft (newest h) (latest h) (last_leaving h)
since_left [] = inr (refl, omega arith)
since_left (Writes None ∷ h) = since_left h
since_left (Writes (Some v) ∷ h) = inl (refl, omega (arith, leaving_past h))
since_left (Takes d ∷ h) = since_after d.content (newest h) (latest h) (last_leaving h) (last_write h) (latest_past h) (since_left h)
since_left (_ ∷ h) = since_left h

-- the parent hears a write that has nothing for the field: it isn't the newest
pub hears_other : {V : Type 0} (initial : V) (h : Trace V) → Flows h → IsFirst None (writes_waiting h) → newest h ≡ hears h + 1 → ⊥
hears_other initial h r f = go (since_left h)
  where
    b : Numbered (latest h) (own_value initial h) (hears h) (None ∷ f.rest)
    b = subst (λ ws. Numbered (latest h) (own_value initial h) (hears h) ws) f.is (numbered initial h r)

    go : SinceLeft (newest h) (latest h) (last_leaving h) → newest h ≡ hears h + 1 → ⊥
    go (inl i) e = b.0 (sym i.0 ∙ e)
    go (inr i) e = omega (arith, i.0)

-- the parent hears a write to the field: it is the newest, with its value, or the newest waits behind it; or none is kept,
-- since the context was left behind it
abbrev pub HearsOwn : {V : Type 0} → V → V → Trace V → Type 0
HearsOwn initial v h = (hears h + 1 ≤ newest h) × (newest h ≡ hears h + 1 → v ≡ own_value initial h)

pub hears_own : {V : Type 0} (initial : V) (v : V) (h : Trace V) → Flows h → IsFirst (Some v) (writes_waiting h) → HearsOwn initial v h ⊎ ((newest h ≡ 0) × (hears h + 1 ≤ last_leaving h))
hears_own initial v h r f = go (since_left h)
  where
    b : Numbered (latest h) (own_value initial h) (hears h) (Some v ∷ f.rest)
    b = subst (λ ws. Numbered (latest h) (own_value initial h) (hears h) ws) f.is (numbered initial h r)

    go : SinceLeft (newest h) (latest h) (last_leaving h) → HearsOwn initial v h ⊎ ((newest h ≡ 0) × (hears h + 1 ≤ last_leaving h))
    go (inl i) = inl (omega (arith, i.0, b.0), λ e. b.1 (sym i.0 ∙ e))
    go (inr i) = inr (i.0, omega (arith, i.1, b.0))

-- and it is kept, where it was made since the context was left
pub hears_since : {V : Type 0} (initial : V) (v : V) (h : Trace V) → Flows h → IsFirst (Some v) (writes_waiting h) → last_leaving h ≤ hears h → HearsOwn initial v h
hears_since initial v h r f l = go (hears_own initial v h r f)
  where
    go : HearsOwn initial v h ⊎ ((newest h ≡ 0) × (hears h + 1 ≤ last_leaving h)) → HearsOwn initial v h
    go (inl i) = i
    go (inr i) = absurd (omega (arith, i.1, l))

-- nothing waits to be heard: the newest write was heard
pub all_heard : {V : Type 0} (initial : V) (h : Trace V) → Flows h → writes_waiting h ≡ [] → newest h ≤ hears h
all_heard initial h r e = go (since_left h)
  where
    b : Numbered (latest h) (own_value initial h) (hears h) []
    b = subst (λ ws. Numbered (latest h) (own_value initial h) (hears h) ws) e (numbered initial h r)

    go : SinceLeft (newest h) (latest h) (last_leaving h) → newest h ≤ hears h
    go (inl i) = omega (arith, i.0, b)
    go (inr i) = omega (arith, i.0)
