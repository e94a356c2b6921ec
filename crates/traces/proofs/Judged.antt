-- The judged write: its fate, and the bundle that carries its revert.
use Rattle.std.proofs.Common.{◌≡◌, ℕ, ◌+◌, ◌<◌, ◌≤◌, true, false, ◌⊎◌, inl, inr, if◌then◌else◌, List, [], ◌∷◌, ◌++◌, drop, ap, sym, subst, ◌∙◌, arith}
use Rattle.std.specs.Prelude.{◌==◌}
use Rattle.std.proofs.lemmas.Bool.{eqb-true, eqb-false, cases_eq, or_cases, or_parts}
use Rattle.traces.specs.Event.{Bundle}
use Rattle.traces.specs.Event.Event.{Sends, Takes, Accepts, Reverts, Ignores, Changes}
use Rattle.traces.specs.Links.{hears, bundles_sent, takes, bundles_waiting, last_sending, now}
use Rattle.traces.specs.Field.{Content, Trace}
use Rattle.traces.specs.Field.Content.{Gives}
use Rattle.traces.specs.Words.{Start, value_at, base, Fate, fate, has_taken}
use Rattle.traces.specs.Words.Fate.{Unheard, Accepted, Reverted, Ignored}
use Rattle.traces.specs.Rules.{IsFirst, Flows, Ordered, Fits}
use Rattle.traces.specs.Laws.{Stands}
use Rattle.traces.proofs.Waits.{sent_waits, taken_leaves}
use Rattle.traces.proofs.Entries.{Rising, rising, value_past, value_over}
use Rattle.traces.proofs.Fates.{other_fate, made_fate, entry_of, judged_past}

judged_by : {V : Type 0} (n : ℕ) (made : Fate) (h : Trace V) → n ≤ hears h + 1 → (made ≡ Unheard → ⊥) → (n ≤ hears h → fate n h ≡ Unheard → ⊥)
    → (if n == (hears h + 1) then made else fate n h) ≡ Unheard → ⊥
judged_by n made h l ne before e = go (cases_eq n (hears h + 1))
  where
    go : ((n ≡ hears h + 1) ⊎ (n ≡ hears h + 1 → ⊥)) → ⊥
    go (inl i) = ne (sym (made_fate n (hears h + 1) made (fate n h) i) ∙ e)
    go (inr i) = before (omega arith) (sym (other_fate n (hears h + 1) made (fate n h) i) ∙ e)

-- a write that was heard was judged
pub heard_judged : {V : Type 0} (n : ℕ) (h : Trace V) → 0 < n → n ≤ hears h → fate n h ≡ Unheard → ⊥
heard_judged n [] p l e = omega arith
heard_judged n (Accepts k w ∷ h) p l e = judged_by n (Accepted k) h l (λ i. cc) (λ m. heard_judged n h p m) e
heard_judged n (Reverts k w c ∷ h) p l e = judged_by n (Reverted k) h l (λ i. cc) (λ m. heard_judged n h p m) e
heard_judged n (Ignores k w ∷ h) p l e = judged_by n (Ignored k) h l (λ i. cc) (λ m. heard_judged n h p m) e
heard_judged n (_ ∷ h) p l e = heard_judged n h p l e

-- a bundle that was taken is no later than the base
pub took_base : {V : Type 0} (k : ℕ) (h : Trace V) → Flows h → Ordered h → has_taken k h ≡ true → k ≤ base h
took_base k [] f o e = absurd cc
took_base k (Takes d ∷ h) f o e =
    let r : Rising (base h) (last_sending h) (hears h) (d ∷ f.0.rest) = subst (λ ds. Rising (base h) (last_sending h) (hears h) ds) f.0.is (rising h f.1 o.1) in
    go r.0 (took_base k h f.1 o.1) (or_cases (d.entry == k) (has_taken k h) e)
  where
    go : base h < d.entry → (has_taken k h ≡ true → k ≤ base h) → (((d.entry == k) ≡ true) ⊎ (has_taken k h ≡ true)) → k ≤ d.entry
    go l before (inl i) = omega (arith, eqb-true d.entry k i)
    go l before (inr i) = omega (arith, before i)
took_base k (_ ∷ h) f o e = took_base k h f.1 o.1 e

pub stands_push : {V : Type 0} (k : ℕ) (c : Content V) (d : Bundle (Content V)) (ds : List (Bundle (Content V))) → Stands k c ds → Stands k c (ds ++ d ∷ [])
stands_push k c d [] s = absurd s
stands_push k c d (x ∷ ds) (inl e) = inl e
stands_push k c d (x ∷ ds) (inr s) = inr (stands_push k c d ds s)

pub stands_last : {V : Type 0} (k : ℕ) (c : Content V) (d : Bundle (Content V)) (ds : List (Bundle (Content V))) → d.entry ≡ k → d.content ≡ c → Stands k c (ds ++ d ∷ [])
stands_last k c d [] e i = inl (e, i)
stands_last k c d (x ∷ ds) e i = inr (stands_last k c d ds e i)

pub stands_later : {V : Type 0} (k : ℕ) (c : Content V) (b n e : ℕ) (ds : List (Bundle (Content V))) → Rising b n e ds → Stands k c ds → b < k
stands_later k c b n e [] r s = absurd s
stands_later k c b n e (d ∷ ds) r (inl i) = omega (arith, r.0, i.0)
stands_later k c b n e (d ∷ ds) r (inr s) = omega (arith, r.0, stands_later k c d.entry n e ds r.2 s)

-- what waits goes on waiting when a bundle is sent
pub stands_sent : {V : Type 0} (k : ℕ) (c : Content V) (d : Bundle (Content V)) (h : Trace V) → Flows h → Stands k c (bundles_waiting h) → Stands k c (drop (takes h) (bundles_sent h ++ d ∷ []))
stands_sent k c d h f s = subst (λ ds. Stands k c ds) (sym (sent_waits d h f)) (stands_push k c d (bundles_waiting h) s)

-- and when another one is taken
pub stands_taken : {V : Type 0} (k : ℕ) (c : Content V) (d : Bundle (Content V)) (h : Trace V) (f : IsFirst d (bundles_waiting h)) → (d.entry ≡ k → ⊥)
    → Stands k c (bundles_waiting h) → Stands k c (drop (takes h + 1) (bundles_sent h))
stands_taken k c d h f ne s = subst (λ ds. Stands k c ds) (sym (taken_leaves d h f)) (go (subst (λ ds. Stands k c ds) f.is s))
  where
    go : Stands k c (d ∷ f.rest) → Stands k c f.rest
    go (inl i) = absurd (ne i.0)
    go (inr i) = i

-- a judged hear of another number, where the fate is already known
pub same_fate : {V : Type 0} (n : ℕ) (made known : Fate) (h : Trace V) → (made ≡ known → ⊥) → (if n == (hears h + 1) then made else fate n h) ≡ known → fate n h ≡ known
same_fate n made known h ne e = go (cases_eq n (hears h + 1))
  where
    go : ((n ≡ hears h + 1) ⊎ (n ≡ hears h + 1 → ⊥)) → fate n h ≡ known
    go (inl i) = absurd (ne (sym (made_fate n (hears h + 1) made (fate n h) i) ∙ e))
    go (inr i) = sym (other_fate n (hears h + 1) made (fate n h) i) ∙ e

reverted_past : {V : Type 0} (n k : ℕ) (h : Trace V) → Ordered h → fate n h ≡ Reverted k → k ≤ now h
reverted_past n k h o e = subst (λ f. entry_of f ≤ now h) e (judged_past n h o)

-- a reverted write whose revert wasn't taken has it in the waiting bundle of its entry
pub reverts_wait : {V : Type 0} (start : Start V) (n k : ℕ) (h : Trace V) → Flows h → Ordered h → Fits start h → fate n h ≡ Reverted k → has_taken k h ≡ false
    → Stands k (Gives (value_at start.initial k h)) (bundles_waiting h)
reverts_wait start n k [] f o t e u = absurd cc
reverts_wait start n k (Sends j w c ∷ h) f o t e u =
    subst (λ v. Stands k (Gives v) (bundles_waiting (Sends j w c ∷ h))) (sym (value_over start.initial k (Sends j w c) h o.0 (reverted_past n k h o.1 e)))
    (stands_sent k (Gives (value_at start.initial k h)) (record { entry = j; epoch = hears h; content = c }) h f.1 (reverts_wait start n k h f.1 o.1 t.1 e u))
reverts_wait start n k (Takes d ∷ h) f o t e u =
    let p : ((d.entry == k) ≡ false) × (has_taken k h ≡ false) = or_parts (d.entry == k) (has_taken k h) u in
    stands_taken k (Gives (value_at start.initial k h)) d h f.0 (eqb-false d.entry k p.0) (reverts_wait start n k h f.1 o.1 t.1 e p.1)
reverts_wait start n k (Accepts j w ∷ h) f o t e u =
    let i : fate n h ≡ Reverted k = same_fate n (Accepted j) (Reverted k) h (λ x. cc) e in
    subst (λ v. Stands k (Gives v) (bundles_waiting h)) (sym (value_over start.initial k (Accepts j w) h o.0 (reverted_past n k h o.1 i))) (reverts_wait start n k h f.1 o.1 t.1 i u)
reverts_wait start n k (Ignores j w ∷ h) f o t e u = reverts_wait start n k h f.1 o.1 t.1 (same_fate n (Ignored j) (Reverted k) h (λ x. cc) e) u
reverts_wait start n k (Changes j w ∷ h) f o t e u =
    subst (λ v. Stands k (Gives v) (bundles_waiting h)) (sym (value_over start.initial k (Changes j w) h o.0 (reverted_past n k h o.1 e))) (reverts_wait start n k h f.1 o.1 t.1 e u)
reverts_wait start n k (Reverts j w c ∷ h) f o t e u = go (cases_eq j k) (reverts_wait start n k h f.1 o.1 t.1)
  where
    go : ((j ≡ k) ⊎ (j ≡ k → ⊥)) → (fate n h ≡ Reverted k → has_taken k h ≡ false → Stands k (Gives (value_at start.initial k h)) (bundles_waiting h))
        → Stands k (Gives (value_at start.initial k h)) (bundles_waiting (Reverts j w c ∷ h))
    go (inl i) before =
        let past : now h ≤ k = omega (arith, o.0) in
        subst (λ ds. Stands k (Gives (value_at start.initial k h)) ds) (sym (sent_waits (record { entry = j; epoch = hears h + 1; content = c }) h f.1))
        (stands_last k (Gives (value_at start.initial k h)) (record { entry = j; epoch = hears h + 1; content = c }) (bundles_waiting h) i
        (t.0.back ∙ ap Gives (sym (value_past start.initial k h o.1 past))))
    go (inr i) before = stands_sent k (Gives (value_at start.initial k h)) (record { entry = j; epoch = hears h + 1; content = c }) h f.1
        (before (same_fate n (Reverted j) (Reverted k) h (λ x. let same : j ≡ k = cc in i same) e) u)
reverts_wait start n k (_ ∷ h) f o t e u = reverts_wait start n k h f.1 o.1 t.1 e u
