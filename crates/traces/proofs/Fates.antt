-- The fate of an own write, and how the bundles that wait stand to it.
use Rattle.std.proofs.Common.{◌≡◌, ℕ, ◌+◌, ◌<◌, ◌≤◌, Bool, true, false, ◌⊎◌, inl, inr, if◌then◌else◌, List, [], ◌∷◌, ◌++◌, refl, sym, subst, ◌∙◌, arith}
use Rattle.std.specs.Prelude.{◌==◌}
use Rattle.std.proofs.lemmas.Bool.{eq-eqb, ne_eqb, cases_eq}
use Rattle.traces.specs.Event.{Bundle}
use Rattle.traces.specs.Event.Event.{Sends, Takes, Accepts, Reverts, Ignores, Changes}
use Rattle.traces.specs.Links.{hears, bundles_waiting, last_sending, now}
use Rattle.traces.specs.Field.{Trace}
use Rattle.traces.specs.Words.{base, Fate, fate}
use Rattle.traces.specs.Words.Fate.{Unheard, Accepted, Reverted, Ignored}
use Rattle.traces.specs.Rules.{Flows, Ordered}
use Rattle.traces.proofs.Waits.{sent_waits, taken_leaves}
use Rattle.traces.proofs.Entries.{Rising, rising, rising_end, last_sent_past}

-- the entry that judged
abbrev pub entry_of : Fate → ℕ
entry_of Unheard = 0
entry_of (Accepted k) = k
entry_of (Reverted k) = k
entry_of (Ignored k) = k

-- a hear of another number leaves a fate, and one of this number makes it
pub other_fate : (n m : ℕ) (made before : Fate) → (n ≡ m → ⊥) → (if n == m then made else before) ≡ before
other_fate n m made before ne = rw (ne_eqb n m ne) refl

pub made_fate : (n m : ℕ) (made before : Fate) → n ≡ m → (if n == m then made else before) ≡ made
made_fate n m made before e = rw (eq-eqb n m e) refl

pub unheard : {V : Type 0} (n : ℕ) (h : Trace V) → hears h < n → fate n h ≡ Unheard
unheard n [] l = refl
unheard n (Accepts k w ∷ h) l = other_fate n (hears h + 1) _ _ (λ e. omega arith) ∙ unheard n h (omega arith)
unheard n (Reverts k w c ∷ h) l = other_fate n (hears h + 1) _ _ (λ e. omega arith) ∙ unheard n h (omega arith)
unheard n (Ignores k w ∷ h) l = other_fate n (hears h + 1) _ _ (λ e. omega arith) ∙ unheard n h (omega arith)
unheard n (_ ∷ h) l = unheard n h l

chosen : (P : Fate → Type 0) (b : Bool) (made before : Fate) → P made → P before → P (if b then made else before)
chosen P true made before p q = p
chosen P false made before p q = q

pub judged_past : {V : Type 0} (n : ℕ) (h : Trace V) → Ordered h → entry_of (fate n h) ≤ now h
judged_past n [] o = omega arith
judged_past n (Accepts k w ∷ h) o = chosen (λ f. entry_of f ≤ k) (n == (hears h + 1)) (Accepted k) (fate n h) (omega arith) (omega (arith, o.0, judged_past n h o.1))
judged_past n (Reverts k w c ∷ h) o = chosen (λ f. entry_of f ≤ k) (n == (hears h + 1)) (Reverted k) (fate n h) (omega arith) (omega (arith, o.0, judged_past n h o.1))
judged_past n (Ignores k w ∷ h) o = chosen (λ f. entry_of f ≤ k) (n == (hears h + 1)) (Ignored k) (fate n h) (omega arith) (omega (arith, o.0, judged_past n h o.1))
judged_past n (Sends k u c ∷ h) o = omega (arith, o.0.after, judged_past n h o.1)
judged_past n (Changes k u ∷ h) o = omega (arith, o.0, judged_past n h o.1)
judged_past n (_ ∷ h) o = judged_past n h o.1

-- there is no write with number 0
pub never_judged : {V : Type 0} (h : Trace V) → fate 0 h ≡ Unheard
never_judged [] = refl
never_judged (Accepts k w ∷ h) = other_fate 0 (hears h + 1) _ _ (λ e. omega arith) ∙ never_judged h
never_judged (Reverts k w c ∷ h) = other_fate 0 (hears h + 1) _ _ (λ e. omega arith) ∙ never_judged h
never_judged (Ignores k w ∷ h) = other_fate 0 (hears h + 1) _ _ (λ e. omega arith) ∙ never_judged h
never_judged (_ ∷ h) = never_judged h

-- a write has number m and was judged in entry j: a bundle is obsolete to it exactly where it is older
abbrev pub Parted : {B : Type 0} → ℕ → ℕ → List (Bundle B) → Type 0
Parted j m [] = Unit {0}
Parted j m (d ∷ ds) = (d.epoch < m → d.entry < j) × (m ≤ d.epoch → j ≤ d.entry) × Parted j m ds

parted_push : {B : Type 0} (j m : ℕ) (d : Bundle B) (ds : List (Bundle B)) → m ≤ d.epoch → j ≤ d.entry → Parted j m ds → Parted j m (ds ++ d ∷ [])
parted_push j m d [] e l p = (λ i. absurd (omega arith), λ i. l, tt)
parted_push j m d (x ∷ ds) e l p = (p.0, p.1, parted_push j m d ds e l p.2)

-- all that waits as the write is judged is obsolete to it
parted_judged : {B : Type 0} (j m b n e : ℕ) (ds : List (Bundle B)) → n < j → e < m → Rising b n e ds → Parted j m ds
parted_judged j m b n e [] l u r = tt
parted_judged j m b n e (d ∷ ds) l u r = (λ i. omega (arith, rising_end d.entry n e ds r.2), λ i. absurd (omega (arith, r.1)), parted_judged j m d.entry n e ds l u r.2)

parted_hear : {V : Type 0} (m : ℕ) (made : Fate) (h : Trace V) → Flows h → Ordered h → now h < entry_of made → m ≤ hears h + 1
    → (m ≤ hears h → Parted (entry_of (fate m h)) m (bundles_waiting h))
    → Parted (entry_of (if m == (hears h + 1) then made else fate m h)) m (bundles_waiting h)
parted_hear m made h f o l u before = go (cases_eq m (hears h + 1))
  where
    go : ((m ≡ hears h + 1) ⊎ (m ≡ hears h + 1 → ⊥)) → Parted (entry_of (if m == (hears h + 1) then made else fate m h)) m (bundles_waiting h)
    go (inl e) = rw (eq-eqb m (hears h + 1) e) (parted_judged (entry_of made) m (base h) (last_sending h) (hears h) (bundles_waiting h) (omega (arith, last_sent_past h o)) (omega arith) (rising h f o))
    go (inr ne) = rw (ne_eqb m (hears h + 1) ne) (before (omega arith))

-- so with each number up to the last that was heard
pub parted : {V : Type 0} (m : ℕ) (h : Trace V) → Flows h → Ordered h → m ≤ hears h → Parted (entry_of (fate m h)) m (bundles_waiting h)
parted m [] f o u = tt
parted m (Sends k w c ∷ h) f o u =
    subst (λ ds. Parted (entry_of (fate m h)) m ds) (sym (sent_waits (record { entry = k; epoch = hears h; content = c }) h f.1))
    (parted_push (entry_of (fate m h)) m (record { entry = k; epoch = hears h; content = c }) (bundles_waiting h) u (omega (arith, o.0.after, judged_past m h o.1)) (parted m h f.1 o.1 u))
parted m (Takes d ∷ h) f o u =
    let p : Parted (entry_of (fate m h)) m (d ∷ f.0.rest) = subst (λ ds. Parted (entry_of (fate m h)) m ds) f.0.is (parted m h f.1 o.1 u) in
    subst (λ ds. Parted (entry_of (fate m h)) m ds) (sym (taken_leaves d h f.0)) p.2
parted m (Accepts k w ∷ h) f o u = parted_hear m (Accepted k) h f.1 o.1 o.0 u (parted m h f.1 o.1)
parted m (Ignores k w ∷ h) f o u = parted_hear m (Ignored k) h f.1 o.1 o.0 u (parted m h f.1 o.1)
parted m (Reverts k w c ∷ h) f o u =
    subst (λ ds. Parted (entry_of (fate m (Reverts k w c ∷ h))) m ds) (sym (sent_waits (record { entry = k; epoch = hears h + 1; content = c }) h f.1))
    (parted_push (entry_of (fate m (Reverts k w c ∷ h))) m (record { entry = k; epoch = hears h + 1; content = c }) (bundles_waiting h) u
    (judged_past m (Reverts k w c ∷ h) o) (parted_hear m (Reverted k) h f.1 o.1 o.0 u (parted m h f.1 o.1)))
parted m (_ ∷ h) f o u = parted m h f.1 o.1 u
