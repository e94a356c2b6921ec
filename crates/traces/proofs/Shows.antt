-- A process shows the view: its open write, and else the parent's value at the point.
use Rattle.std.proofs.Common.{◌≡◌, ℕ, ◌+◌, ◌<◌, ◌≤◌, Bool, true, false, not, ◌&&◌, ◌⊎◌, inl, inr, if◌then◌else◌, None, Some, List, [], ◌∷◌, ◌++◌, refl, ap, sym, subst, ◌∙◌, arith}
use Rattle.std.specs.Prelude.{max, nat_lt, ◌==◌}
use Rattle.std.proofs.lemmas.Bool.{lt-ltb, le-ltb, ltb-true, ltb-false, eqb-true, cases_eq, cases_lt, or_cases}
use Rattle.traces.specs.Event.{Bundle}
use Rattle.traces.specs.Event.Event.{Writes, Sends, Takes, Accepts, Reverts, Ignores, Changes, Does}
use Rattle.traces.specs.Links.{hears, last_write, bundles_waiting, last_sending, now}
use Rattle.traces.specs.Field.{Content, FieldEvent, Trace}
use Rattle.traces.specs.Field.Content.{Nothing, Gives, Begins, Removes, Leaves}
use Rattle.traces.specs.Words.{Start, Stage, point, accepted_at, view, value_at, after, stage, newest, number_after, last_leaving, while_held, base, Fate, fate, has_taken, is_gone, is_answer, is_answered, is_unanswered}
use Rattle.traces.specs.Words.Stage.{Coming, Held, Gone}
use Rattle.traces.specs.Words.Fate.{Unheard, Accepted, Reverted, Ignored}
use Rattle.traces.specs.Replay.{is_obsolete, replay}
use Rattle.traces.specs.Rules.{IsFirst, Flows, Order, Ordered, Judges, IsStay, Stays, Own, Fits}
use Rattle.traces.proofs.Waits.{sent_waits, taken_leaves, waiting_count}
use Rattle.traces.proofs.Numbers.{HearsOwn, hears_other, hears_own, hears_since}
use Rattle.traces.proofs.Entries.{accepted_past, Rising, rising, base_past, value_over}
use Rattle.traces.proofs.Fates.{other_fate, made_fate, unheard, never_judged, entry_of, Parted, parted}
use Rattle.traces.proofs.Stages.{alive_before, written_held_or_gone, untouched_at, over, shows_kept, kept}
use Rattle.traces.proofs.Judged.{took_base, same_fate}
use Rattle.traces.proofs.Own.{shows_own, open_from}
use Rattle.traces.proofs.Follows.{Follows, End, follows, not_held, held_number, made_over}

-- what isn't obsolete, by the number that it will meet, was sent in entry a or later
abbrev pub Past : {V : Type 0} → ℕ → ℕ → List (Bundle (Content V)) → Type 0
Past a m [] = Unit {0}
Past a m (d ∷ ds) = (m ≤ d.epoch → a ≤ d.entry) × Past a (number_after d.content m) ds

past_push : {V : Type 0} (a m : ℕ) (d : Bundle (Content V)) (ds : List (Bundle (Content V))) → a ≤ d.entry → Past a m ds → Past a m (ds ++ d ∷ [])
past_push a m d [] l p = (λ i. l, tt)
past_push a m d (x ∷ ds) l p = (p.0, past_push a (number_after x.content m) d ds l p.1)

past_step : {V : Type 0} (c : Content V) (a m w : ℕ) (ds : List (Bundle (Content V))) → (Past a m ds → Past a w ds) → Past a (number_after c m) ds → Past a (number_after c w) ds
past_step Leaves a m w ds rest p = p
past_step _ a m w ds rest p = rest p

-- a write makes what waits obsolete, up to a leave
past_write : {V : Type 0} (a m w b n e : ℕ) (ds : List (Bundle (Content V))) → Rising b n e ds → e < w → Past a m ds → Past a w ds
past_write a m w b n e [] r l p = tt
past_write a m w b n e (d ∷ ds) r l p = (λ i. absurd (omega (arith, r.1, l, i)), past_step d.content a m w ds (past_write a m w d.entry n e ds r.2 l) p.1)

stays_step : {V : Type 0} (c : Content V) (a m : ℕ) (ds : List (Bundle (Content V))) → IsStay c → Past a m ds → Past a (number_after c m) ds
stays_step Leaves a m ds s p = absurd s
stays_step _ a m ds s p = p

-- all that waits as a write is judged is obsolete
past_judged : {V : Type 0} (a m b n e : ℕ) (ds : List (Bundle (Content V))) → Rising b n e ds → e < m → Stays ds → Past a m ds
past_judged a m b n e [] r l s = tt
past_judged a m b n e (d ∷ ds) r l s = (λ i. absurd (omega (arith, r.1, l, i)), stays_step d.content a m ds s.0 (past_judged a m d.entry n e ds r.2 l s.1))

-- so it is behind the last accepted write
past : {V : Type 0} (start : Start V) (h : Trace V) → Flows h → Ordered h → Fits start h → (stage start.stage h ≡ Gone → ⊥) → Past (accepted_at h) (newest h) (bundles_waiting h)
past start [] f o t ne = tt
past start (Writes None ∷ h) f o t ne = past start h f.1 o.1 t.1 ne
past start (Writes (Some v) ∷ h) f o t ne =
    past_write (accepted_at h) (newest h) (last_write h + 1) (base h) (last_sending h) (hears h) (bundles_waiting h) (rising h f.1 o.1) (omega (arith, waiting_count h f.1)) (past start h f.1 o.1 t.1 ne)
past start (Sends k u c ∷ h) f o t ne =
    subst (λ ds. Past (accepted_at h) (newest h) ds) (sym (sent_waits (record { entry = k; epoch = hears h; content = c }) h f.1))
    (past_push (accepted_at h) (newest h) (record { entry = k; epoch = hears h; content = c }) (bundles_waiting h) (omega (arith, o.0.after, accepted_past h o.1)) (past start h f.1 o.1 t.1 ne))
past start (Reverts k w c ∷ h) f o t ne =
    subst (λ ds. Past (accepted_at h) (newest h) ds) (sym (sent_waits (record { entry = k; epoch = hears h + 1; content = c }) h f.1))
    (past_push (accepted_at h) (newest h) (record { entry = k; epoch = hears h + 1; content = c }) (bundles_waiting h) (omega (arith, o.0, accepted_past h o.1)) (past start h f.1 o.1 t.1 ne))
past start (Takes d ∷ h) f o t ne =
    let p : Past (accepted_at h) (newest h) (d ∷ f.0.rest) =
    subst (λ ds. Past (accepted_at h) (newest h) ds) f.0.is (past start h f.1 o.1 t.1 (alive_before d.content (stage start.stage h) ne)) in
    subst (λ ds. Past (accepted_at h) (number_after d.content (newest h)) ds) (sym (taken_leaves d h f.0)) p.1
past start (Does c ∷ h) f o t ne = past start h f.1 o.1 t.1 (alive_before c (stage start.stage h) ne)
past start (Accepts k None ∷ h) f o t ne = past start h f.1 o.1 t.1 ne
past start (Accepts k (Some v) ∷ h) f o t ne =
    let judges : Judges start h = t.0 ne in
    let own : HearsOwn start.initial v h = hears_since start.initial v h f.1 f.0 judges.since in
    past_judged k (newest h) (base h) (last_sending h) (hears h) (bundles_waiting h) (rising h f.1 o.1) (omega (arith, own.0)) judges.stays
past start (_ ∷ h) f o t ne = past start h f.1 o.1 t.1 ne

-- where the newest write was accepted, this is the last accepted one
accepted_step : {V : Type 0} (c : Content V) (j m : ℕ) (h : Trace V) → fate (number_after c m) h ≡ Accepted j → fate m h ≡ Accepted j
accepted_step Leaves j m h e = let none : fate 0 h ≡ Unheard = never_judged h in absurd cc
accepted_step _ j m h e = e

accepted_is : {V : Type 0} (start : Start V) (j : ℕ) (h : Trace V) → Flows h → fate (newest h) h ≡ Accepted j → accepted_at h ≡ j
accepted_is start j [] f e = absurd cc
accepted_is start j (Writes None ∷ h) f e = accepted_is start j h f.1 e
accepted_is start j (Writes (Some v) ∷ h) f e =
    let i : fate (last_write h + 1) h ≡ Unheard = unheard (last_write h + 1) h (omega (arith, waiting_count h f.1)) in absurd cc
accepted_is start j (Takes d ∷ h) f e = accepted_is start j h f.1 (accepted_step d.content j (newest h) h e)
accepted_is start j (Accepts k None ∷ h) f e =
    accepted_is start j h f.1 (sym (other_fate (newest h) (hears h + 1) (Accepted k) (fate (newest h) h) (hears_other start.initial h f.1 f.0)) ∙ e)
accepted_is start j (Accepts k (Some v) ∷ h) f e = go (cases_eq (newest h) (hears h + 1)) (hears_own start.initial v h f.1 f.0)
  where
    before : (newest h ≡ hears h + 1 → ⊥) → fate (newest h) h ≡ Accepted j
    before i = sym (other_fate (newest h) (hears h + 1) (Accepted k) (fate (newest h) h) i) ∙ e

    go : ((newest h ≡ hears h + 1) ⊎ (newest h ≡ hears h + 1 → ⊥)) → HearsOwn start.initial v h ⊎ ((newest h ≡ 0) × (hears h + 1 ≤ last_leaving h)) → k ≡ j
    go (inl i) x = let made : Accepted k ≡ Accepted j = sym (made_fate (newest h) (hears h + 1) (Accepted k) (fate (newest h) h) i) ∙ e in cc
    go (inr i) (inl own) =
        let none : fate (newest h) h ≡ Unheard = unheard (newest h) h (omega (arith, own.0, i)) in
        let known : fate (newest h) h ≡ Accepted j = before i in absurd cc
    go (inr i) (inr own) =
        let none : fate (newest h) h ≡ Unheard = subst (λ n. fate n h ≡ Unheard) (sym own.0) (never_judged h) in
        let known : fate (newest h) h ≡ Accepted j = before i in absurd cc
accepted_is start j (Reverts k w c ∷ h) f e = accepted_is start j h f.1 (same_fate (newest h) (Reverted k) (Accepted j) h (λ x. cc) e)
accepted_is start j (Ignores k w ∷ h) f e = accepted_is start j h f.1 (same_fate (newest h) (Ignored k) (Accepted j) h (λ x. cc) e)
accepted_is start j (_ ∷ h) f e = accepted_is start j h f.1 e

unheard_open : {V : Type 0} (s : Stage) (h : Trace V) → hears h < newest h → is_unanswered s h ≡ true
unheard_open s h l = open_from s h (omega arith) (ap (is_answer s h) (unheard (newest h) h l))

-- what the negation of `unanswered` says as a fact, and what it follows from
closed_answer : {V : Type 0} (s : Stage) (h : Trace V) → 0 < newest h → is_unanswered s h ≡ false → is_answered s (newest h) h ≡ true
closed_answer s h l e = go (is_answered s (newest h) h) refl
  where
    go : (b : Bool) → is_answered s (newest h) h ≡ b → b ≡ true
    go true i = refl
    go false i = let yet : is_unanswered s h ≡ true = open_from s h l i in absurd cc

answer_closed : {V : Type 0} (s : Stage) (h : Trace V) → is_answered s (newest h) h ≡ true → is_unanswered s h ≡ false
answer_closed s h e = rw e (go (nat_lt 0 (newest h)))
  where
    go : (b : Bool) → (b && false) ≡ false
    go true = refl
    go false = refl

other_closed : {V : Type 0} (s : Stage) (made : Fate) (h : Trace V) → (newest h ≡ hears h + 1 → ⊥)
    → (nat_lt 0 (newest h) && not (is_answer s h (if newest h == (hears h + 1) then made else fate (newest h) h))) ≡ false → is_unanswered s h ≡ false
other_closed s made h ne e = sym (ap (λ z. nat_lt 0 (newest h) && not (is_answer s h z)) (other_fate (newest h) (hears h + 1) made (fate (newest h) h) ne)) ∙ e

point_past : {V : Type 0} (h : Trace V) → Flows h → Ordered h → point h ≤ now h
point_past h f o = omega (arith, base_past h f o, accepted_past h o)

-- the value at the point stays
at_point : {V : Type 0} (start : Start V) (e : FieldEvent V) (h : Trace V) (x : V) → Flows h → Ordered h → Order e h
    → x ≡ value_at start.initial (point h) h → x ≡ value_at start.initial (point h) (e ∷ h)
at_point start e h x f o oe i = i ∙ sym (value_over start.initial (point h) e h oe (point_past h f o))

-- an obsolete bundle that leaves a context held that was held changes nothing
obsolete_same : {V : Type 0} (c : Content V) (s : Stage) (x : V) → s ≡ Held → over c true s x ≡ x
obsolete_same Nothing s x e = refl
obsolete_same (Gives v) s x e = refl
obsolete_same (Begins v) s x e = rw e refl
obsolete_same Removes s x e = refl
obsolete_same Leaves s x e = refl

gone_unheld : {V : Type 0} (c : Content V) (s : Stage) → after c s ≡ Held → after c s ≡ Gone → ⊥
gone_unheld c s e i = let two : Held ≡ Gone = sym e ∙ i in cc

-- a take of a bundle that isn't obsolete keeps the parent's value at the entry that sent it, and that is the point
pub taken_fresh : {V : Type 0} (start : Start V) (d : Bundle (Content V)) (h : Trace V) → Flows h → Ordered h → Fits start h → (first : IsFirst d (bundles_waiting h))
    → newest h ≤ d.epoch → after d.content (stage start.stage h) ≡ Held
    → (kept start (Takes d ∷ h) ≡ value_at start.initial d.entry h) × (max d.entry (accepted_at h) ≡ d.entry)
taken_fresh {V = V} start d h f o t first l held = (rw (le-ltb d.epoch (newest h) l) (head.0 held l), omega (arith, parts.0 l))
  where
    parts : Past (accepted_at h) (newest h) (d ∷ first.rest)
    parts = subst (λ ds. Past (accepted_at h) (newest h) ds) first.is (past start h f o t (alive_before d.content (stage start.stage h) (gone_unheld d.content (stage start.stage h) held)))

    head : Follows (λ k. value_at start.initial k h) (End start h) (stage start.stage h) (newest h) (kept start h) (d ∷ first.rest)
    head = subst (λ ds. Follows (λ k. value_at start.initial k h) (End start h) (stage start.stage h) (newest h) (kept start h) ds) first.is (follows start h f o t)

-- a take of an obsolete bundle, with the newest write answered: it was accepted, and behind the bundle
taken_obsolete : {V : Type 0} (start : Start V) (d : Bundle (Content V)) (h : Trace V) → Flows h → Ordered h → Fits start h → (first : IsFirst d (bundles_waiting h))
    → d.epoch < newest h → is_unanswered start.stage (Takes d ∷ h) ≡ false → after d.content (stage start.stage h) ≡ Held
    → (is_unanswered start.stage h ≡ false → stage start.stage h ≡ Held → kept start h ≡ value_at start.initial (point h) h)
    → over d.content true (stage start.stage h) (kept start h) ≡ value_at start.initial (max d.entry (accepted_at h)) h
taken_obsolete {V = V} start d h f o t first l u held before = go (fate (newest h) h) refl closed
  where
    number : number_after d.content (newest h) ≡ newest h
    number = held_number d.content (stage start.stage h) (newest h) held

    closed : is_answer start.stage (Takes d ∷ h) (fate (newest h) h) ≡ true
    closed = subst (λ n. is_answered start.stage n (Takes d ∷ h) ≡ true) number (closed_answer start.stage (Takes d ∷ h) (omega (arith, number, l)) u)

    was_held : stage start.stage h ≡ Held
    was_held = written_held_or_gone start h t (omega (arith, l)) (alive_before d.content (stage start.stage h) (gone_unheld d.content (stage start.stage h) held))

    up : Rising (base h) (last_sending h) (hears h) (d ∷ first.rest)
    up = subst (λ ds. Rising (base h) (last_sending h) (hears h) ds) first.is (rising h f o)

    older : newest h ≤ hears h → d.entry < entry_of (fate (newest h) h)
    older known =
        let parts : Parted (entry_of (fate (newest h) h)) (newest h) (d ∷ first.rest) = subst (λ ds. Parted (entry_of (fate (newest h) h)) (newest h) ds) first.is (parted (newest h) h f o known) in
        parts.0 l

    judged : (x : Fate) → (x ≡ Unheard → ⊥) → fate (newest h) h ≡ x → d.entry < entry_of x
    judged x ne e = go (cases_lt (hears h) (newest h))
      where
        go : ((hears h < newest h) ⊎ (newest h ≤ hears h)) → d.entry < entry_of x
        go (inl i) = absurd (ne (sym e ∙ unheard (newest h) h i))
        go (inr i) = subst (λ z. d.entry < entry_of z) e (older i)

    go : (x : Fate) → fate (newest h) h ≡ x → is_answer start.stage (Takes d ∷ h) x ≡ true
        → over d.content true (stage start.stage h) (kept start h) ≡ value_at start.initial (max d.entry (accepted_at h)) h
    go Unheard e a = absurd cc
    go (Accepted k) e a =
        let at : accepted_at h ≡ k = accepted_is start k h f e in
        let later : d.entry < k = judged (Accepted k) (λ x. cc) e in
        let points : max (base h) (accepted_at h) ≡ max d.entry (accepted_at h) = omega (arith, up.0, at, later) in
        obsolete_same d.content (stage start.stage h) (kept start h) was_held ∙ before (answer_closed start.stage h (ap (is_answer start.stage h) e)) was_held
        ∙ ap (λ k. value_at start.initial k h) points
    go (Reverted k) e a = absurd (among (or_cases (d.entry == k) (has_taken k h) a))
      where
        among : (((d.entry == k) ≡ true) ⊎ (has_taken k h ≡ true)) → ⊥
        among (inl i) = omega (arith, judged (Reverted k) (λ x. cc) e, eqb-true d.entry k i)
        among (inr i) = omega (arith, judged (Reverted k) (λ x. cc) e, took_base k h f o i, up.0)
    go (Ignored k) e a = let gone : is_gone Held ≡ true = sym (ap is_gone held) ∙ a in absurd cc

-- where nothing is open, what the process makes by itself is the parent's value
did_agree : {V : Type 0} (start : Start V) (c : Content V) (h : Trace V) → Own start c h → is_unanswered start.stage (Does c ∷ h) ≡ false → after c (stage start.stage h) ≡ Held
    → (is_unanswered start.stage h ≡ false → stage start.stage h ≡ Held → kept start h ≡ value_at start.initial (point h) h)
    → over c false (stage start.stage h) (kept start h) ≡ value_at start.initial (point h) h
did_agree start Nothing h own u held before = before u held
did_agree start (Gives v) h own u held before = absurd own
did_agree start (Begins v) h own u held before = made_over v (stage start.stage h) (kept start h) own.unheld ∙ own.initially ∙ sym (untouched_at start.initial (point h) h own.untouched)
did_agree start Removes h own u held before = absurd cc
did_agree start Leaves h own u held before = absurd own

-- a write that is judged, and not accepted: it's open
open_judged : {V : Type 0} (start : Start V) (made : Fate) (h : Trace V) → hears h + 1 ≤ newest h → is_answer start.stage h made ≡ false
    → (nat_lt 0 (newest h) && not (is_answer start.stage h (if newest h == (hears h + 1) then made else fate (newest h) h))) ≡ false → ⊥
open_judged start made h l a u = go (cases_eq (newest h) (hears h + 1))
  where
    open_yet : is_answer start.stage h (if newest h == (hears h + 1) then made else fate (newest h) h) ≡ false → ⊥
    open_yet i = let p : (nat_lt 0 (newest h) && not (is_answer start.stage h (if newest h == (hears h + 1) then made else fate (newest h) h))) ≡ true = rw (lt-ltb 0 (newest h) (omega (arith, l)), i) refl in cc

    go : ((newest h ≡ hears h + 1) ⊎ (newest h ≡ hears h + 1 → ⊥)) → ⊥
    go (inl i) = open_yet (ap (is_answer start.stage h) (made_fate (newest h) (hears h + 1) made (fate (newest h) h) i) ∙ a)
    go (inr i) = open_yet (ap (is_answer start.stage h) (other_fate (newest h) (hears h + 1) made (fate (newest h) h) i ∙ unheard (newest h) h (omega (arith, l, i))))

held_stays : (s : Stage) → s ≡ Held → s ≡ Gone → ⊥
held_stays s e i = let two : Held ≡ Gone = sym e ∙ i in cc

-- where nothing is open, the parent's value at the point is kept
pub agrees : {V : Type 0} (start : Start V) (h : Trace V) → Flows h → Ordered h → Fits start h → is_unanswered start.stage h ≡ false → stage start.stage h ≡ Held
    → kept start h ≡ value_at start.initial (point h) h
agrees start [] f o t u held = refl
agrees start (Writes None ∷ h) f o t u held = agrees start h f.1 o.1 t.1 u held
agrees start (Writes (Some v) ∷ h) f o t u held =
    let yet : is_unanswered start.stage (Writes (Some v) ∷ h) ≡ true = unheard_open start.stage (Writes (Some v) ∷ h) (omega (arith, waiting_count h f.1)) in absurd cc
agrees start (Sends k w c ∷ h) f o t u held = at_point start (Sends k w c) h (kept start h) f.1 o.1 o.0 (agrees start h f.1 o.1 t.1 u held)
agrees start (Changes k w ∷ h) f o t u held = at_point start (Changes k w) h (kept start h) f.1 o.1 o.0 (agrees start h f.1 o.1 t.1 u held)
agrees start (Does c ∷ h) f o t u held = did_agree start c h t.0 u held (agrees start h f.1 o.1 t.1)
agrees start (Takes d ∷ h) f o t u held = go (is_obsolete (newest h) d) refl (agrees start h f.1 o.1 t.1)
  where
    go : (b : Bool) → is_obsolete (newest h) d ≡ b → (is_unanswered start.stage h ≡ false → stage start.stage h ≡ Held → kept start h ≡ value_at start.initial (point h) h)
        → kept start (Takes d ∷ h) ≡ value_at start.initial (max d.entry (accepted_at h)) h
    go true i before =
        ap (λ b. over d.content b (stage start.stage h) (kept start h)) i ∙ taken_obsolete start d h f.1 o.1 t.1 f.0 (ltb-true d.epoch (newest h) i) u held before
    go false i before =
        let p : (kept start (Takes d ∷ h) ≡ value_at start.initial d.entry h) × (max d.entry (accepted_at h) ≡ d.entry) =
        taken_fresh start d h f.1 o.1 t.1 f.0 (ltb-false d.epoch (newest h) i) held in
        p.0 ∙ ap (λ k. value_at start.initial k h) (sym p.1)
agrees start (Accepts k None ∷ h) f o t u held =
    at_point start (Accepts k None) h (kept start h) f.1 o.1 o.0
    (agrees start h f.1 o.1 t.1 (other_closed start.stage (Accepted k) h (hears_other start.initial h f.1 f.0) u) held)
agrees {V = V} start (Accepts k (Some v) ∷ h) f o t u held = go (cases_eq (newest h) (hears h + 1))
  where
    judges : Judges start h
    judges = t.0 (held_stays (stage start.stage h) held)

    own : HearsOwn start.initial v h
    own = hears_since start.initial v h f.1 f.0 judges.since

    go : ((newest h ≡ hears h + 1) ⊎ (newest h ≡ hears h + 1 → ⊥)) → kept start h ≡ value_at start.initial (max (base h) k) (Accepts k (Some v) ∷ h)
    go (inl i) =
        rw (le-ltb (max (base h) k) k (omega (arith, base_past h f.1 o.1, o.0)))
        (shows_own start h f.1 o.1 t.1 (unheard_open start.stage h (omega (arith, i))) held ∙ sym (own.1 i))
    go (inr i) =
        let yet : is_unanswered start.stage (Accepts k (Some v) ∷ h) ≡ true = unheard_open start.stage (Accepts k (Some v) ∷ h) (omega (arith, own.0, i)) in absurd cc
agrees start (Reverts k None c ∷ h) f o t u held = let some : false ≡ true = t.0.of_write in absurd cc
agrees {V = V} start (Reverts k (Some v) c ∷ h) f o t u held = absurd (open_judged start (Reverted k) h own.0 (not_yet (has_taken k h) refl) u)
  where
    judges : Judges start h
    judges = t.0.judged (held_stays (stage start.stage h) held)

    own : HearsOwn start.initial v h
    own = hears_since start.initial v h f.1 f.0.first judges.since

    not_yet : (b : Bool) → has_taken k h ≡ b → has_taken k h ≡ false
    not_yet true i = absurd (omega (arith, took_base k h f.1 o.1 i, base_past h f.1 o.1, o.0))
    not_yet false i = i
agrees start (Ignores k None ∷ h) f o t u held = agrees start h f.1 o.1 t.1 (other_closed start.stage (Ignored k) h (hears_other start.initial h f.1 f.0) u) held
agrees {V = V} start (Ignores k (Some v) ∷ h) f o t u held = go (hears_own start.initial v h f.1 f.0) (agrees start h f.1 o.1 t.1)
  where
    go : HearsOwn start.initial v h ⊎ ((newest h ≡ 0) × (hears h + 1 ≤ last_leaving h)) → (is_unanswered start.stage h ≡ false → stage start.stage h ≡ Held → kept start h ≡ value_at start.initial (point h) h)
        → kept start h ≡ value_at start.initial (point h) h
    go (inl own) before = absurd (open_judged start (Ignored k) h own.0 (ap is_gone held) u)
    go (inr none) before = before (other_closed start.stage (Ignored k) h (λ e. omega (arith, e, none.0)) u) held
agrees start (_ ∷ h) f o t u held = agrees start h f.1 o.1 t.1 u held

pub shows : {V : Type 0} (start : Start V) (h : Trace V) → Flows h → Ordered h → Fits start h → replay start h ≡ while_held (stage start.stage h) (view start h)
shows start h f o t = shows_kept start h ∙ go (stage start.stage h) refl (is_unanswered start.stage h) refl
  where
    go : (s : Stage) → stage start.stage h ≡ s → (b : Bool) → is_unanswered start.stage h ≡ b → while_held (stage start.stage h) (kept start h) ≡ while_held (stage start.stage h) (view start h)
    go Coming e b i = not_held (stage start.stage h) (kept start h) (view start h) (λ j. let two : Coming ≡ Held = sym e ∙ j in cc)
    go Gone e b i = not_held (stage start.stage h) (kept start h) (view start h) (λ j. let two : Gone ≡ Held = sym e ∙ j in cc)
    go Held e true i = rw i (ap (while_held (stage start.stage h)) (shows_own start h f o t i e))
    go Held e false i = rw i (ap (while_held (stage start.stage h)) (agrees start h f o t i e))
