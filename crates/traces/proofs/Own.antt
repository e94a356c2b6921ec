-- An own write is shown until it is answered.
use Rattle.std.proofs.Common.{◌≡◌, ℕ, ◌+◌, ◌<◌, ◌≤◌, Bool, true, false, not, ◌&&◌, ◌⊎◌, inl, inr, if◌then◌else◌, Option, None, Some, [], ◌∷◌, refl, ap, sym, subst, ◌∙◌, arith}
use Rattle.std.specs.Prelude.{nat_lt, ◌==◌}
use Rattle.std.proofs.lemmas.Bool.{lt-ltb, ltb-true, ltb-false, eqb-false, cases_eq, and_parts, or_parts, not-true}
use Rattle.traces.specs.Event.{Bundle}
use Rattle.traces.specs.Event.Event.{Writes, Takes, Accepts, Reverts, Ignores, Does}
use Rattle.traces.specs.Links.{hears, bundles_waiting, is_ended, last_sending}
use Rattle.traces.specs.Field.{Content, Trace}
use Rattle.traces.specs.Field.Content.{Nothing, Gives, Begins, Removes, Leaves}
use Rattle.traces.specs.Words.{Start, Stage, value_at, after, stage, newest, number_after, own_value, base, Fate, fate, has_taken, is_gone, is_answer, is_answered, is_unanswered}
use Rattle.traces.specs.Words.Stage.{Coming, Held, Gone}
use Rattle.traces.specs.Words.Fate.{Unheard, Accepted, Reverted, Ignored}
use Rattle.traces.specs.Replay.{is_obsolete, shown_after_write}
use Rattle.traces.specs.Rules.{IsFirst, Flows, Ordered, Fits, Own}
use Rattle.traces.specs.Laws.{Stands}
use Rattle.traces.proofs.Entries.{Rising, rising}
use Rattle.traces.proofs.Fates.{other_fate, unheard, entry_of, Parted, parted}
use Rattle.traces.proofs.Stages.{over, kept, coming_unwritten}
use Rattle.traces.proofs.Judged.{heard_judged, reverts_wait, stands_later}
use Rattle.traces.proofs.Ignored.{CutAt, Cut, ignored_cut}

pub written_none : {V : Type 0} (o : Option V) → shown_after_write None o ≡ o
written_none None = refl
written_none (Some x) = refl

-- what `unanswered` says as facts
pub open_facts : {V : Type 0} (s : Stage) (h : Trace V) → is_unanswered s h ≡ true → (0 < newest h) × (is_answered s (newest h) h ≡ false)
open_facts s h e =
    let p : (nat_lt 0 (newest h) ≡ true) × (not (is_answered s (newest h) h) ≡ true) = and_parts (nat_lt 0 (newest h)) (not (is_answered s (newest h) h)) e in
    (ltb-true 0 (newest h) p.0, not-true (is_answered s (newest h) h) p.1)

pub open_from : {V : Type 0} (s : Stage) (h : Trace V) → 0 < newest h → is_answered s (newest h) h ≡ false → is_unanswered s h ≡ true
open_from s h l e = rw (lt-ltb 0 (newest h) l, e) refl

-- the newest write, with number m, is open as a bundle was taken
abbrev pub OpenAfter : {V : Type 0} → Stage → Bundle (Content V) → Trace V → ℕ → Type 0
OpenAfter s d h m = (0 < m) × (is_answered s m (Takes d ∷ h) ≡ false)

-- a write that is open after a take was so before
taken_open : {V : Type 0} (s : Stage) (d : Bundle (Content V)) (h : Trace V) (x : Fate) → after d.content (stage s h) ≡ stage s h → is_answer s (Takes d ∷ h) x ≡ false → is_answer s h x ≡ false
taken_open s d h Unheard i e = refl
taken_open s d h (Accepted k) i e = absurd cc
taken_open s d h (Reverted k) i e = let p : ((d.entry == k) ≡ false) × (has_taken k h ≡ false) = or_parts (d.entry == k) (has_taken k h) e in p.1
taken_open s d h (Ignored k) i e = subst (λ z. is_gone z ≡ false) i e

still_open : {V : Type 0} (s : Stage) (d : Bundle (Content V)) (h : Trace V) → after d.content (stage s h) ≡ stage s h → OpenAfter s d h (newest h) → is_unanswered s h ≡ true
still_open s d h i p = open_from s h p.0 (taken_open s d h (fate (newest h) h) i p.1)

-- and one that is open after a hear
heard_open : {V : Type 0} (s : Stage) (made : Fate) (h : Trace V) → is_answer s h (if newest h == (hears h + 1) then made else fate (newest h) h) ≡ false → is_answered s (newest h) h ≡ false
heard_open s made h e = go (cases_eq (newest h) (hears h + 1))
  where
    go : ((newest h ≡ hears h + 1) ⊎ (newest h ≡ hears h + 1 → ⊥)) → is_answered s (newest h) h ≡ false
    go (inl i) = ap (is_answer s h) (unheard (newest h) h (omega arith))
    go (inr i) = sym (ap (is_answer s h) (other_fate (newest h) (hears h + 1) made (fate (newest h) h) i)) ∙ e

hear_open : {V : Type 0} (s : Stage) (made : Fate) (h : Trace V) → (nat_lt 0 (newest h) && not (is_answer s h (if newest h == (hears h + 1) then made else fate (newest h) h))) ≡ true → is_unanswered s h ≡ true
hear_open s made h e =
    let p : (nat_lt 0 (newest h) ≡ true) × (not (is_answer s h (if newest h == (hears h + 1) then made else fate (newest h) h)) ≡ true) =
    and_parts (nat_lt 0 (newest h)) (not (is_answer s h (if newest h == (hears h + 1) then made else fate (newest h) h))) e in
    open_from s h (ltb-true 0 (newest h) p.0) (heard_open s made h (not-true (is_answer s h (if newest h == (hears h + 1) then made else fate (newest h) h)) p.1))

-- while the newest write is open, a bundle that gives a value is obsolete
open_obsolete : {V : Type 0} (start : Start V) (d : Bundle (Content V)) (v : V) (h : Trace V) → Flows h → Ordered h → Fits start h → (first : IsFirst d (bundles_waiting h))
    → OpenAfter start.stage d h (newest h) → stage start.stage h ≡ Held → d.content ≡ Gives v → newest h ≤ d.epoch → ⊥
open_obsolete start d v h f o t first facts held c l = go (fate (newest h) h) refl facts.1
  where
    up : Rising (base h) (last_sending h) (hears h) (d ∷ first.rest)
    up = subst (λ ds. Rising (base h) (last_sending h) (hears h) ds) first.is (rising h f o)

    parts : Parted (entry_of (fate (newest h) h)) (newest h) (d ∷ first.rest)
    parts = subst (λ ds. Parted (entry_of (fate (newest h) h)) (newest h) ds) first.is (parted (newest h) h f o (omega (arith, up.1)))

    judged : entry_of (fate (newest h) h) ≤ d.entry
    judged = parts.1 l

    go : (x : Fate) → fate (newest h) h ≡ x → is_answer start.stage (Takes d ∷ h) x ≡ false → ⊥
    go Unheard e a = heard_judged (newest h) h facts.0 (omega (arith, up.1)) e
    go (Accepted k) e a = cc
    go (Reverted k) e a =
        let p : ((d.entry == k) ≡ false) × (has_taken k h ≡ false) = or_parts (d.entry == k) (has_taken k h) a in
        let at : k ≤ d.entry = subst (λ x. entry_of x ≤ d.entry) e judged in
        let s : Stands k (Gives (value_at start.initial k h)) (d ∷ first.rest) = subst (λ ds. Stands k (Gives (value_at start.initial k h)) ds) first.is (reverts_wait start (newest h) k h f o t e p.1) in
        among k at (eqb-false d.entry k p.0) s
      where
        among : (k : ℕ) → k ≤ d.entry → (d.entry ≡ k → ⊥) → Stands k (Gives (value_at start.initial k h)) (d ∷ first.rest) → ⊥
        among k at ne (inl i) = ne i.0
        among k at ne (inr i) = omega (arith, at, stands_later k (Gives (value_at start.initial k h)) d.entry (last_sending h) (hears h) first.rest up.2 i)
    go (Ignored k) e a =
        let at : k ≤ d.entry = subst (λ x. entry_of x ≤ d.entry) e judged in
        let g : Cut k (is_ended h) (d ∷ first.rest) =
        subst (λ ds. Cut k (is_ended h) ds) first.is (ignored_cut start k h f o t facts.0 (λ i. let two : Held ≡ Gone = sym held ∙ i in cc) e) in
        let b : (d.entry < k) × Cut k (is_ended h) first.rest = subst (λ c. CutAt c (d.entry < k) (Cut k (is_ended h) first.rest)) c g in
        omega (arith, b.0, at)

-- what is kept after a take, while the newest write is open and the context held
taken_own : {V : Type 0} (start : Start V) (d : Bundle (Content V)) (x : V) (h : Trace V) → Flows h → Ordered h → Fits start h → (first : IsFirst d (bundles_waiting h))
    → (is_unanswered start.stage h ≡ true → stage start.stage h ≡ Held → kept start h ≡ x)
    → (c : Content V) → d.content ≡ c → (s : Stage) → stage start.stage h ≡ s → OpenAfter start.stage d h (number_after c (newest h)) → after c s ≡ Held
    → over c (is_obsolete (newest h) d) s (kept start h) ≡ x
taken_own start d x h f o t first before Nothing e s i u held = before (still_open start.stage d h (ap (λ c. after c (stage start.stage h)) e) u) (i ∙ held)
taken_own start d x h f o t first before (Begins v) e Coming i u held = absurd (omega (arith, u.0, coming_unwritten start h t i))
taken_own start d x h f o t first before (Begins v) e Held i u held = before (still_open start.stage d h (rw (e, i) refl) u) i
taken_own start d x h f o t first before (Begins v) e Gone i u held = absurd cc
taken_own start d x h f o t first before Removes e s i u held = absurd cc
taken_own start d x h f o t first before Leaves e s i u held = absurd (omega (arith, u.0))
taken_own start d x h f o t first before (Gives v) e s i u held = go (is_obsolete (newest h) d) refl
  where
    go : (b : Bool) → is_obsolete (newest h) d ≡ b → over (Gives v) b s (kept start h) ≡ x
    go true j = before (still_open start.stage d h (ap (λ c. after c (stage start.stage h)) e) u) (i ∙ held)
    go false j = absurd (open_obsolete start d v h f o t first u (i ∙ held) e (ltb-false d.epoch (newest h) j))

-- what the process does by itself leaves the own value
did_own : {V : Type 0} (start : Start V) (x : V) (h : Trace V) → Fits start h → 0 < newest h
    → (is_unanswered start.stage h ≡ true → stage start.stage h ≡ Held → kept start h ≡ x)
    → (c : Content V) → Own start c h → is_unanswered start.stage (Does c ∷ h) ≡ true → after c (stage start.stage h) ≡ Held → over c false (stage start.stage h) (kept start h) ≡ x
did_own start x h t l before Nothing own u held = before u held
did_own start x h t l before (Gives v) own u held = absurd own
did_own start x h t l before (Begins v) own u held = absurd (omega (arith, l, coming_unwritten start h t own.unheld))
did_own start x h t l before Removes own u held = absurd cc
did_own start x h t l before Leaves own u held = absurd own

-- while the newest write is open and the context held, its value is kept
pub shows_own : {V : Type 0} (start : Start V) (h : Trace V) → Flows h → Ordered h → Fits start h → is_unanswered start.stage h ≡ true → stage start.stage h ≡ Held
    → kept start h ≡ own_value start.initial h
shows_own start [] f o t u held = absurd cc
shows_own start (Writes None ∷ h) f o t u held = shows_own start h f.1 o.1 t.1 u held
shows_own start (Writes (Some v) ∷ h) f o t u held = refl
shows_own start (Takes d ∷ h) f o t u held =
    let p : (0 < number_after d.content (newest h)) × (is_answered start.stage (number_after d.content (newest h)) (Takes d ∷ h) ≡ false) = open_facts start.stage (Takes d ∷ h) u in
    taken_own start d (own_value start.initial h) h f.1 o.1 t.1 f.0 (shows_own start h f.1 o.1 t.1) d.content refl (stage start.stage h) refl p held
shows_own start (Does c ∷ h) f o t u held =
    let p : (0 < newest h) × (is_answered start.stage (newest h) (Does c ∷ h) ≡ false) = open_facts start.stage (Does c ∷ h) u in
    did_own start (own_value start.initial h) h t.1 p.0 (shows_own start h f.1 o.1 t.1) c t.0 u held
shows_own start (Accepts k w ∷ h) f o t u held = shows_own start h f.1 o.1 t.1 (hear_open start.stage (Accepted k) h u) held
shows_own start (Reverts k w c ∷ h) f o t u held = shows_own start h f.1 o.1 t.1 (hear_open start.stage (Reverted k) h u) held
shows_own start (Ignores k w ∷ h) f o t u held = shows_own start h f.1 o.1 t.1 (hear_open start.stage (Ignored k) h u) held
shows_own start (_ ∷ h) f o t u held = shows_own start h f.1 o.1 t.1 u held
