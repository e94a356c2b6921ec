-- An ignored write: the parent judges no write of the process, so a removal waits or the process was ended, and what gives
-- a value before that removal was sent before the verdict.
use Rattle.std.proofs.Common.{◌≡◌, ℕ, ◌+◌, ◌<◌, Bool, true, false, ◌⊎◌, inl, inr, None, Some, List, [], ◌∷◌, ◌++◌, refl, sym, subst, ◌∙◌, arith}
use Rattle.std.proofs.lemmas.Bool.{cases_eq}
use Rattle.traces.specs.Event.{Bundle}
use Rattle.traces.specs.Event.Event.{Writes, Sends, Takes, Accepts, Reverts, Ignores, Does, Ends}
use Rattle.traces.specs.Links.{hears, last_write, bundles_waiting, is_ended, last_sending}
use Rattle.traces.specs.Field.{Content, Trace}
use Rattle.traces.specs.Field.Content.{Nothing, Gives, Begins, Removes, Leaves}
use Rattle.traces.specs.Words.{Start, after, stage, stage_behind, newest, number_after, last_leaving, base, fate}
use Rattle.traces.specs.Words.Stage.{Held, Gone}
use Rattle.traces.specs.Words.Fate.{Unheard, Accepted, Reverted, Ignored}
use Rattle.traces.specs.Rules.{Flows, Ordered, Fits, IsStay, Stays}
use Rattle.traces.proofs.Waits.{sent_waits, taken_leaves, waiting_count}
use Rattle.traces.proofs.Numbers.{hears_other, SinceLeft, since_left, latest}
use Rattle.traces.proofs.Entries.{Rising, rising, rising_end, last_sent_past}
use Rattle.traces.proofs.Fates.{other_fate, unheard}
use Rattle.traces.proofs.Stages.{along, alive_before, written_held_or_gone}
use Rattle.traces.proofs.Judged.{same_fate}

-- of one bundle: a removal, or what gives a value was sent before, and so on behind it
abbrev pub CutAt : {V : Type 0} → Content V → Type 0 → Type 0 → Type 0
CutAt (Gives v) older rest = older × rest
CutAt Removes older rest = Unit {0}
CutAt Leaves older rest = Unit {0}
CutAt _ older rest = rest

-- a removal waits, or the process was ended, and what gives a value before that was sent before entry k
abbrev pub Cut : {V : Type 0} → ℕ → Bool → List (Bundle (Content V)) → Type 0
Cut k ended [] = ended ≡ true
Cut k ended (d ∷ ds) = CutAt d.content (d.entry < k) (Cut k ended ds)

cut_map : {V : Type 0} (c : Content V) (P Q R : Type 0) → (Q → R) → CutAt c P Q → CutAt c P R
cut_map Nothing P Q R f a = f a
cut_map (Gives v) P Q R f a = (a.0, f a.1)
cut_map (Begins v) P Q R f a = f a
cut_map Removes P Q R f a = tt
cut_map Leaves P Q R f a = tt

-- a removal that waits goes on waiting, whatever is sent
cut_push : {V : Type 0} (k : ℕ) (ended : Bool) (d : Bundle (Content V)) (ds : List (Bundle (Content V))) → Cut k false ds → Cut k ended (ds ++ d ∷ [])
cut_push k ended d [] a = absurd cc
cut_push k ended d (x ∷ ds) a = cut_map x.content (x.entry < k) (Cut k false ds) (Cut k ended (ds ++ d ∷ [])) (cut_push k ended d ds) a

cut_ended : {V : Type 0} (k : ℕ) (ended : Bool) (ds : List (Bundle (Content V))) → Cut k ended ds → Cut k true ds
cut_ended k ended [] a = refl
cut_ended k ended (x ∷ ds) a = cut_map x.content (x.entry < k) (Cut k ended ds) (Cut k true ds) (cut_ended k ended ds) a

cut_at : {V : Type 0} (c : Content V) (P Q : Type 0) → P → (IsStay c → after c Held ≡ Held → Q) → CutAt c P Q
cut_at Nothing P Q p f = f tt refl
cut_at (Gives v) P Q p f = (p, f tt refl)
cut_at (Begins v) P Q p f = f tt refl
cut_at Removes P Q p f = tt
cut_at Leaves P Q p f = tt

-- from a held context what waits leads to one that isn't, or a leave waits: then it is cut
cut_judged : {V : Type 0} (k b n e : ℕ) (ended : Bool) (ds : List (Bundle (Content V))) → n < k → Rising b n e ds
    → (ended ≡ false → Stays ds → stage_behind Held ds ≡ Held → ⊥) → Cut k ended ds
cut_judged k b n e true [] l r g = refl
cut_judged k b n e false [] l r g = absurd (g refl tt refl)
cut_judged k b n e ended (d ∷ ds) l r g =
    cut_at d.content (d.entry < k) (Cut k ended ds) (omega (arith, rising_end d.entry n e ds r.2))
    (λ s i. cut_judged k d.entry n e ended ds l r.2 (λ live stays held. g live (s, stays) (subst (λ z. stage_behind z ds ≡ Held) (sym i) held)))

-- where a bundle leaves the context there and a number kept, nothing was cut by it
cut_taken : {V : Type 0} (c : Content V) (P Q : Type 0) → (after c Held ≡ Gone → ⊥) → (m : ℕ) → 0 < number_after c m → CutAt c P Q → Q
cut_taken Nothing P Q ne m l a = a
cut_taken (Gives v) P Q ne m l a = a.1
cut_taken (Begins v) P Q ne m l a = a
cut_taken Removes P Q ne m l a = absurd (ne refl)
cut_taken Leaves P Q ne m l a = absurd (omega (arith, l))

-- a number that is kept after a bundle was kept before
pub number_before : {V : Type 0} (c : Content V) (m : ℕ) → 0 < number_after c m → number_after c m ≡ m
number_before Leaves m l = absurd (omega (arith, l))
number_before _ m l = refl

-- where the newest write was ignored in entry k
pub ignored_cut : {V : Type 0} (start : Start V) (k : ℕ) (h : Trace V) → Flows h → Ordered h → Fits start h → 0 < newest h → (stage start.stage h ≡ Gone → ⊥)
    → fate (newest h) h ≡ Ignored k → Cut k (is_ended h) (bundles_waiting h)
ignored_cut start k [] f o t l ne e = absurd cc
ignored_cut start k (Writes None ∷ h) f o t l ne e = ignored_cut start k h f.1 o.1 t.1 l ne e
ignored_cut start k (Writes (Some v) ∷ h) f o t l ne e =
    let i : fate (last_write h + 1) h ≡ Unheard = unheard (last_write h + 1) h (omega (arith, waiting_count h f.1)) in absurd cc
ignored_cut start k (Sends j u c ∷ h) f o t l ne e =
    let a : Cut k false (bundles_waiting h) = subst (λ z. Cut k z (bundles_waiting h)) f.0 (ignored_cut start k h f.1 o.1 t.1 l ne e) in
    subst (λ ds. Cut k (is_ended h) ds) (sym (sent_waits (record { entry = j; epoch = hears h; content = c }) h f.1))
    (cut_push k (is_ended h) (record { entry = j; epoch = hears h; content = c }) (bundles_waiting h) a)
ignored_cut start k (Reverts j w c ∷ h) f o t l ne e =
    let a : Cut k false (bundles_waiting h) =
    subst (λ z. Cut k z (bundles_waiting h)) f.0.alive (ignored_cut start k h f.1 o.1 t.1 l ne (same_fate (newest h) (Reverted j) (Ignored k) h (λ x. cc) e)) in
    subst (λ ds. Cut k (is_ended h) ds) (sym (sent_waits (record { entry = j; epoch = hears h + 1; content = c }) h f.1))
    (cut_push k (is_ended h) (record { entry = j; epoch = hears h + 1; content = c }) (bundles_waiting h) a)
ignored_cut start k (Takes d ∷ h) f o t l ne e =
    let same : number_after d.content (newest h) ≡ newest h = number_before d.content (newest h) l in
    let alive : stage start.stage h ≡ Gone → ⊥ = alive_before d.content (stage start.stage h) ne in
    let l1 : 0 < newest h = omega (arith, same, l) in
    let held : stage start.stage h ≡ Held = written_held_or_gone start h t.1 l1 alive in
    let a : Cut k (is_ended h) (d ∷ f.0.rest) = subst (λ ds. Cut k (is_ended h) ds) f.0.is (ignored_cut start k h f.1 o.1 t.1 l1 alive (subst (λ z. fate z h ≡ Ignored k) same e)) in
    subst (λ ds. Cut k (is_ended h) ds) (sym (taken_leaves d h f.0))
    (cut_taken d.content (d.entry < k) (Cut k (is_ended h) f.0.rest) (subst (λ z. after d.content z ≡ Gone → ⊥) held ne) (newest h) l a)
ignored_cut start k (Does c ∷ h) f o t l ne e = ignored_cut start k h f.1 o.1 t.1 l (alive_before c (stage start.stage h) ne) e
ignored_cut start k (Accepts j w ∷ h) f o t l ne e = ignored_cut start k h f.1 o.1 t.1 l ne (same_fate (newest h) (Accepted j) (Ignored k) h (λ x. cc) e)
ignored_cut start k (Ignores j None ∷ h) f o t l ne e =
    ignored_cut start k h f.1 o.1 t.1 l ne (sym (other_fate (newest h) (hears h + 1) (Ignored j) (fate (newest h) h) (hears_other start.initial h f.1 f.0)) ∙ e)
ignored_cut {V = V} start k (Ignores j (Some v) ∷ h) f o t l ne e = go (cases_eq (newest h) (hears h + 1)) (cases_eq j k) (ignored_cut start k h f.1 o.1 t.1 l ne)
  where
    held : stage start.stage h ≡ Held
    held = written_held_or_gone start h t.1 l ne

    since : SinceLeft (newest h) (latest h) (last_leaving h) → last_leaving h < newest h
    since (inl i) = i.1
    since (inr i) = absurd (omega (arith, l, i.0))

    judges : newest h ≡ hears h + 1 → is_ended h ≡ false → Stays (bundles_waiting h) → stage_behind Held (bundles_waiting h) ≡ Held → ⊥
    judges i live stays served = t.0 ne record {
      serves = sym (along start.stage h f.1 live) ∙ subst (λ z. stage_behind z (bundles_waiting h) ≡ Held) (sym held) served;
      since = omega (arith, i, since (since_left h));
      stays = stays;
    }

    go : ((newest h ≡ hears h + 1) ⊎ (newest h ≡ hears h + 1 → ⊥)) → ((j ≡ k) ⊎ (j ≡ k → ⊥)) → (fate (newest h) h ≡ Ignored k → Cut k (is_ended h) (bundles_waiting h)) → Cut k (is_ended h) (bundles_waiting h)
    go (inl i) (inl same) before = cut_judged k (base h) (last_sending h) (hears h) (is_ended h) (bundles_waiting h) (omega (arith, same, o.0, last_sent_past h o.1)) (rising h f.1 o.1) (judges i)
    go (inl i) (inr other) before = before (same_fate (newest h) (Ignored j) (Ignored k) h (λ x. let same : j ≡ k = cc in other same) e)
    go (inr i) x before = before (sym (other_fate (newest h) (hears h + 1) (Ignored j) (fate (newest h) h) i) ∙ e)
ignored_cut start k (Ends ∷ h) f o t l ne e = cut_ended k (is_ended h) (bundles_waiting h) (ignored_cut start k h f.1 o.1 t.1 l ne e)
ignored_cut start k (_ ∷ h) f o t l ne e = ignored_cut start k h f.1 o.1 t.1 l ne e
