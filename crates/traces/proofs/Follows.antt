-- What waits carries the parent's values: taken one after the other, each bundle that isn't obsolete leaves the parent's
-- value at its entry, wherever the context is then held, and the last one leaves the present value.
use Rattle.std.proofs.Common.{◌≡◌, ℕ, ◌+◌, ◌<◌, ◌≤◌, Bool, true, false, ◌⊎◌, inl, inr, Option, None, Some, List, [], ◌∷◌, ◌++◌, refl, ap, sym, subst, ◌∙◌, arith}
use Rattle.std.specs.Prelude.{nat_lt}
use Rattle.std.proofs.lemmas.Bool.{lt-ltb, le-ltb}
use Rattle.traces.specs.Event.{Bundle}
use Rattle.traces.specs.Event.Event.{Writes, Sends, Takes, Accepts, Reverts, Ignores, Changes, Does, Ends, Rests}
use Rattle.traces.specs.Links.{hears, last_write, bundles_waiting, is_ended, last_sending}
use Rattle.traces.specs.Field.{Content, FieldEvent, Trace}
use Rattle.traces.specs.Field.Content.{Nothing, Gives, Begins, Removes, Leaves}
use Rattle.traces.specs.Words.{Start, Stage, or_else, value, value_at, after, stage, stage_behind, stage_served, newest, number_after, last_leaving, while_held, base, is_answer}
use Rattle.traces.specs.Words.Stage.{Coming, Held, Gone}
use Rattle.traces.specs.Rules.{Flows, Order, Ordered, Tells, Judges, IsStay, Stays, IsNoNews, NoNews, Fits}
use Rattle.traces.proofs.Waits.{sent_waits, taken_leaves, waiting_count}
use Rattle.traces.proofs.Numbers.{SinceLeft, since_left, latest, HearsOwn, hears_other, hears_since}
use Rattle.traces.proofs.Entries.{Rising, rising, rising_end, last_sent_past, value_past, value_over}
use Rattle.traces.proofs.Fates.{unheard}
use Rattle.traces.proofs.Stages.{along, gone_after, written_held_or_gone, untouched_at, untouched_value, over, kept}
use Rattle.traces.proofs.Own.{shows_own, open_from}

-- from stage s, number m and kept value x, with `at` the parent's value at an entry, and `last` what holds in the end
abbrev pub Follows : {V : Type 0} → (ℕ → V) → (Stage → ℕ → V → Type 0) → Stage → ℕ → V → List (Bundle (Content V)) → Type 0
Follows at last s m x [] = last s m x
Follows at last s m x (d ∷ ds) =
    (after d.content s ≡ Held → m ≤ d.epoch → over d.content false s x ≡ at d.entry)
    × Follows at last (after d.content s) (number_after d.content m) (over d.content (nat_lt d.epoch m) s x) ds

-- the number behind these bundles
abbrev pub number_behind : {V : Type 0} → ℕ → List (Bundle (Content V)) → ℕ
number_behind m [] = m
number_behind m (d ∷ ds) = number_behind (number_after d.content m) ds

number_or_none : {V : Type 0} (c : Content V) (m : ℕ) → (number_after c m ≡ m) ⊎ (number_after c m ≡ 0)
number_or_none Leaves m = inr refl
number_or_none _ m = inl refl

-- it is the same, or none
behind_is : {V : Type 0} (m : ℕ) (ds : List (Bundle (Content V))) → (number_behind m ds ≡ m) ⊎ (number_behind m ds ≡ 0)
behind_is m [] = inl refl
behind_is m (d ∷ ds) = go (number_or_none d.content m) (behind_is (number_after d.content m) ds)
  where
    go : (number_after d.content m ≡ m) ⊎ (number_after d.content m ≡ 0) → (number_behind (number_after d.content m) ds ≡ number_after d.content m) ⊎ (number_behind (number_after d.content m) ds ≡ 0)
        → (number_behind (number_after d.content m) ds ≡ m) ⊎ (number_behind (number_after d.content m) ds ≡ 0)
    go (inl i) (inl j) = inl (j ∙ i)
    go (inr i) (inl j) = inr (j ∙ i)
    go i (inr j) = inr j

stay_of : {V : Type 0} (c : Content V) (m : ℕ) → 0 < number_after c m → IsStay c
stay_of Nothing m l = tt
stay_of (Gives v) m l = tt
stay_of (Begins v) m l = tt
stay_of Removes m l = tt
stay_of Leaves m l = absurd (omega (arith, l))

-- where there is one, no leave was among them
behind_stays : {V : Type 0} (m : ℕ) (ds : List (Bundle (Content V))) → 0 < number_behind m ds → Stays ds
behind_stays m [] l = tt
behind_stays m (d ∷ ds) l = (stay_of d.content m (go (behind_is (number_after d.content m) ds)), behind_stays (number_after d.content m) ds l)
  where
    go : (number_behind (number_after d.content m) ds ≡ number_after d.content m) ⊎ (number_behind (number_after d.content m) ds ≡ 0) → 0 < number_after d.content m
    go (inl i) = omega (arith, i, l)
    go (inr i) = absurd (omega (arith, i, l))

-- one bundle more
follows_push : {V : Type 0} (at : ℕ → V) (last more : Stage → ℕ → V → Type 0) (d : Bundle (Content V)) (s : Stage) (m : ℕ) (x : V) (ds : List (Bundle (Content V)))
    → ((y : V) → last (stage_behind s ds) (number_behind m ds) y
    → (after d.content (stage_behind s ds) ≡ Held → number_behind m ds ≤ d.epoch → over d.content false (stage_behind s ds) y ≡ at d.entry)
    × more (after d.content (stage_behind s ds)) (number_after d.content (number_behind m ds)) (over d.content (nat_lt d.epoch (number_behind m ds)) (stage_behind s ds) y))
    → Follows at last s m x ds → Follows at more s m x (ds ++ d ∷ [])
follows_push at last more d s m x [] g f = g x f
follows_push at last more d s m x (b ∷ ds) g f = (f.0, follows_push at last more d (after b.content s) (number_after b.content m) (over b.content (nat_lt b.epoch m) s x) ds g f.1)

-- the values at the entries stay
follows_over : {V : Type 0} (at to : ℕ → V) (last more : Stage → ℕ → V → Type 0) (b n e : ℕ) (s : Stage) (m : ℕ) (x : V) (ds : List (Bundle (Content V)))
    → Rising b n e ds → ((k : ℕ) → k ≤ n → at k ≡ to k)
    → ((y : V) → last (stage_behind s ds) (number_behind m ds) y → more (stage_behind s ds) (number_behind m ds) y) → Follows at last s m x ds → Follows to more s m x ds
follows_over at to last more b n e s m x [] r same g f = g x f
follows_over at to last more b n e s m x (d ∷ ds) r same g f = (
  λ i l. f.0 i l ∙ same d.entry (rising_end d.entry n e ds r.2),
  follows_over at to last more d.entry n e (after d.content s) (number_after d.content m) (over d.content (nat_lt d.epoch m) s x) ds r.2 same g f.1,
)

-- the end speaks of a held context alone
abbrev pub OfHeld : {V : Type 0} → (Stage → ℕ → V → Type 0) → Type 0
OfHeld {V = V} last = (s : Stage) (m : ℕ) (x : V) → (s ≡ Held → ⊥) → last s m x

-- of a context that is gone nothing is said
follows_gone : {V : Type 0} (at : ℕ → V) (last : Stage → ℕ → V → Type 0) (s : Stage) (m : ℕ) (x : V) (ds : List (Bundle (Content V))) → OfHeld last → s ≡ Gone → Follows at last s m x ds
follows_gone at last s m x [] g e = g s m x (λ i. let two : Held ≡ Gone = sym i ∙ e in cc)
follows_gone at last s m x (d ∷ ds) g e = (
  λ i l. absurd (let two : Held ≡ Gone = sym i ∙ gone_after d.content s e in cc),
  follows_gone at last (after d.content s) (number_after d.content m) (over d.content (nat_lt d.epoch m) s x) ds g (gone_after d.content s e),
)

-- of a context that isn't held it doesn't matter what is kept: it stays so, or comes with a value
unheld_step : {V : Type 0} (c : Content V) (s : Stage) (x y : V) → (s ≡ Held → ⊥) → (after c s ≡ Held → ⊥) ⊎ ((b : Bool) → over c b s x ≡ over c b s y)
unheld_step Nothing s x y ne = inl ne
unheld_step (Gives v) s x y ne = inl ne
unheld_step (Begins v) Coming x y ne = inr (λ b. refl)
unheld_step (Begins v) Held x y ne = absurd (ne refl)
unheld_step (Begins v) Gone x y ne = inl ne
unheld_step Removes s x y ne = inl (λ e. cc)
unheld_step Leaves Coming x y ne = inl (λ e. cc)
unheld_step Leaves Held x y ne = absurd (ne refl)
unheld_step Leaves Gone x y ne = inl (λ e. cc)

unheld_more : {V : Type 0} (at : ℕ → V) (last : Stage → ℕ → V → Type 0) (s : Stage) (m : ℕ) (x y : V) (d : Bundle (Content V)) (ds : List (Bundle (Content V)))
    → (after d.content s ≡ Held → ⊥) ⊎ ((b : Bool) → over d.content b s x ≡ over d.content b s y)
    → ((after d.content s ≡ Held → ⊥) → Follows at last (after d.content s) (number_after d.content m) (over d.content (nat_lt d.epoch m) s x) ds
    → Follows at last (after d.content s) (number_after d.content m) (over d.content (nat_lt d.epoch m) s y) ds)
    → Follows at last s m x (d ∷ ds) → Follows at last s m y (d ∷ ds)
unheld_more at last s m x y d ds (inl i) rest f = (λ h l. absurd (i h), rest i f.1)
unheld_more at last s m x y d ds (inr i) rest f =
    (λ h l. sym (i false) ∙ f.0 h l, subst (λ z. Follows at last (after d.content s) (number_after d.content m) z ds) (i (nat_lt d.epoch m)) f.1)

follows_unheld : {V : Type 0} (at : ℕ → V) (last : Stage → ℕ → V → Type 0) (s : Stage) (m : ℕ) (x y : V) (ds : List (Bundle (Content V)))
    → OfHeld last → (s ≡ Held → ⊥) → Follows at last s m x ds → Follows at last s m y ds
follows_unheld at last s m x y [] g ne f = g s m y ne
follows_unheld at last s m x y (d ∷ ds) g ne f =
    unheld_more at last s m x y d ds (unheld_step d.content s x y ne)
    (follows_unheld at last (after d.content s) (number_after d.content m) (over d.content (nat_lt d.epoch m) s x) (over d.content (nat_lt d.epoch m) s y) ds g) f

-- a write makes all that waits obsolete, up to a leave, behind which it says what it said
write_step : {V : Type 0} (at : ℕ → V) (last : Stage → ℕ → V → Type 0) (c : Content V) (b : Bool) (m w : ℕ) (x v : V) (ds : List (Bundle (Content V))) → OfHeld last
    → ((y : V) → Follows at last Held m y ds → Follows at last Held w v ds)
    → Follows at last (after c Held) (number_after c m) (over c b Held x) ds → Follows at last (after c Held) (number_after c w) (over c true Held v) ds
write_step at last Nothing b m w x v ds g rest f = rest x f
write_step at last (Gives y) true m w x v ds g rest f = rest x f
write_step at last (Gives y) false m w x v ds g rest f = rest y f
write_step at last (Begins y) b m w x v ds g rest f = rest x f
write_step at last Removes b m w x v ds g rest f = follows_gone at last Gone w v ds g refl
write_step at last Leaves b m w x v ds g rest f = follows_unheld at last Coming 0 x v ds g (λ e. cc) f

follows_write : {V : Type 0} (at : ℕ → V) (last : Stage → ℕ → V → Type 0) (b n e m w : ℕ) (x v : V) (ds : List (Bundle (Content V)))
    → Rising b n e ds → e < w → OfHeld last → last Held w v → Follows at last Held m x ds → Follows at last Held w v ds
follows_write at last b n e m w x v [] r l g end f = end
follows_write at last b n e m w x v (d ∷ ds) r l g end f = (
  λ i u. absurd (omega (arith, r.1, l, u)),
  rw (lt-ltb d.epoch w (omega (arith, r.1, l)))
      (write_step at last d.content (nat_lt d.epoch m) m w x v ds g (λ y. follows_write at last d.entry n e m w y v ds r.2 l g end) f.1),
)

-- all that waits is obsolete, and no leave waits
obsolete_step : {V : Type 0} (at : ℕ → V) (last : Stage → ℕ → V → Type 0) (c : Content V) (m : ℕ) (x : V) (ds : List (Bundle (Content V))) → OfHeld last → IsStay c
    → Follows at last Held m x ds → Follows at last (after c Held) (number_after c m) (over c true Held x) ds
obsolete_step at last Nothing m x ds g s f = f
obsolete_step at last (Gives y) m x ds g s f = f
obsolete_step at last (Begins y) m x ds g s f = f
obsolete_step at last Removes m x ds g s f = follows_gone at last Gone m x ds g refl
obsolete_step at last Leaves m x ds g s f = absurd s

follows_obsolete : {V : Type 0} (at : ℕ → V) (last : Stage → ℕ → V → Type 0) (b n e m : ℕ) (x : V) (ds : List (Bundle (Content V)))
    → Rising b n e ds → e < m → OfHeld last → Stays ds → last Held m x → Follows at last Held m x ds
follows_obsolete at last b n e m x [] r l g stays end = end
follows_obsolete at last b n e m x (d ∷ ds) r l g stays end = (
  λ i u. absurd (omega (arith, r.1, l, u)),
  rw (lt-ltb d.epoch m (omega (arith, r.1, l))) (obsolete_step at last d.content m x ds g stays.0 (follows_obsolete at last d.entry n e m x ds r.2 l g stays.1 end)),
)

no_news_over : {V : Type 0} (c : Content V) (b : Bool) (s : Stage) (x : V) → IsNoNews c → over c b s x ≡ x
no_news_over Nothing b s x n = refl
no_news_over (Gives v) b s x n = absurd n
no_news_over (Begins v) b s x n = absurd n
no_news_over Removes b s x n = refl
no_news_over Leaves b s x n = refl

-- nothing that waits brings a value
follows_new : {V : Type 0} (at : ℕ → V) (last : Stage → ℕ → V → Type 0) (s : Stage) (m : ℕ) (x : V) (ds : List (Bundle (Content V)))
    → NoNews ds → ((k : ℕ) → x ≡ at k) → ((t : Stage) (n : ℕ) → last t n x) → Follows at last s m x ds
follows_new at last s m x [] n same end = end s m
follows_new at last s m x (d ∷ ds) n same end = (
  λ i l. no_news_over d.content false s x n.0 ∙ same d.entry,
  subst (λ z. Follows at last (after d.content s) (number_after d.content m) z ds) (sym (no_news_over d.content (nat_lt d.epoch m) s x n.0))
      (follows_new at last (after d.content s) (number_after d.content m) x ds n.1 same end),
)

-- in the end, where the context is held and the newest write was heard, this value is kept; of an ended process nothing is said
abbrev pub InTheEnd : {V : Type 0} → Bool → ℕ → V → Stage → ℕ → V → Type 0
InTheEnd ended heard v s m x = ended ≡ false → s ≡ Held → m ≤ heard → x ≡ v

abbrev pub End : {V : Type 0} → Start V → Trace V → Stage → ℕ → V → Type 0
End start h = InTheEnd (is_ended h) (hears h) (value start.initial h)

abbrev pub FollowsIn : {V : Type 0} → Start V → Trace V → Type 0
FollowsIn start h = Follows (λ k. value_at start.initial k h) (End start h) (stage start.stage h) (newest h) (kept start h) (bundles_waiting h)

of_held : {V : Type 0} (ended : Bool) (heard : ℕ) (v : V) → OfHeld (InTheEnd ended heard v)
of_held ended heard v = λ s m x ne live held known. absurd (ne held)

-- where the context isn't held the value doesn't matter
pub not_held : {V : Type 0} (s : Stage) (x y : V) → (s ≡ Held → ⊥) → while_held s x ≡ while_held s y
not_held Held x y ne = absurd (ne refl)
not_held Coming x y ne = refl
not_held Gone x y ne = refl

-- where a context is held after a bundle, no number was forgotten
pub held_number : {V : Type 0} (c : Content V) (s : Stage) (m : ℕ) → after c s ≡ Held → number_after c m ≡ m
held_number Nothing s m e = refl
held_number (Gives v) s m e = refl
held_number (Begins v) s m e = refl
held_number Removes s m e = refl
held_number Leaves Coming m e = absurd cc
held_number Leaves Held m e = absurd cc
held_number Leaves Gone m e = absurd cc

leaves_unheld : (V : Type 0) (s : Stage) → after {V = V} Leaves s ≡ Held → ⊥
leaves_unheld V Coming e = cc
leaves_unheld V Held e = cc
leaves_unheld V Gone e = cc

-- a bundle that is sent leads on from the end to the parent's next value
told_value : {V : Type 0} (start : Start V) (u : Option V) (c : Content V) (s : Stage) (y : V) (h : Trace V) → Tells start u c h → s ≡ stage_served start.stage h
    → (s ≡ Held → y ≡ value start.initial h) → after c s ≡ Held → over c false s y ≡ or_else u (value start.initial h)
told_value start None Nothing s y h t e g held = g held
told_value start (Some w) Nothing s y h t e g held = absurd (t (sym e ∙ held))
told_value start u (Gives v) s y h t e g held = ap (λ z. or_else z (value start.initial h)) (sym t.0)
told_value start u (Begins v) s y h t e g held = rw (e ∙ t.1) (sym t.0)
told_value start u Removes s y h t e g held = absurd cc
told_value {V = V} start u Leaves s y h t e g held = absurd (leaves_unheld V s held)

gives_back : {V : Type 0} (c : Content V) (b : Bool) (s : Stage) (y v : V) → c ≡ Gives v → b ≡ false → over c b s y ≡ v
gives_back c b s y v e i = rw (e, i) refl

pub made_over : {V : Type 0} (v : V) (s : Stage) (x : V) → s ≡ Coming → over (Begins v) false s x ≡ v
made_over v s x e = rw e refl

pub gone_or_not : (s : Stage) → (s ≡ Gone) ⊎ (s ≡ Gone → ⊥)
gone_or_not Coming = inr (λ e. cc)
gone_or_not Held = inr (λ e. cc)
gone_or_not Gone = inl refl

-- events that leave what is kept: the parent's values at earlier entries stay
same_kept : {V : Type 0} (start : Start V) (e : FieldEvent V) (more : Stage → ℕ → V → Type 0) (h : Trace V) → Flows h → Ordered h → Order e h
    → ((y : V) → End start h (stage_behind (stage start.stage h) (bundles_waiting h)) (number_behind (newest h) (bundles_waiting h)) y
    → more (stage_behind (stage start.stage h) (bundles_waiting h)) (number_behind (newest h) (bundles_waiting h)) y)
    → FollowsIn start h → Follows (λ k. value_at start.initial k (e ∷ h)) more (stage start.stage h) (newest h) (kept start h) (bundles_waiting h)
same_kept start e more h f o oe to before =
    follows_over (λ k. value_at start.initial k h) (λ k. value_at start.initial k (e ∷ h)) (End start h) more (base h) (last_sending h) (hears h)
    (stage start.stage h) (newest h) (kept start h) (bundles_waiting h) (rising h f o) (λ k l. sym (value_over start.initial k e h oe (omega (arith, l, last_sent_past h o)))) to before

-- a hear of another write: the end number isn't the one that is heard
other_end : {V : Type 0} (start : Start V) (v : V) (h : Trace V) (y : V) → (newest h ≡ hears h + 1 → ⊥) → v ≡ value start.initial h
    → End start h (stage_behind (stage start.stage h) (bundles_waiting h)) (number_behind (newest h) (bundles_waiting h)) y
    → InTheEnd (is_ended h) (hears h + 1) v (stage_behind (stage start.stage h) (bundles_waiting h)) (number_behind (newest h) (bundles_waiting h)) y
other_end start v h y ne same i live held known = i live held (go (behind_is (newest h) (bundles_waiting h))) ∙ sym same
  where
    go : (number_behind (newest h) (bundles_waiting h) ≡ newest h) ⊎ (number_behind (newest h) (bundles_waiting h) ≡ 0) → number_behind (newest h) (bundles_waiting h) ≤ hears h
    go (inl j) = let other : newest h ≡ hears h + 1 → ⊥ = ne in omega (arith, known, j)
    go (inr j) = omega (arith, j)

-- a write that isn't judged, though it's the newest: the parent doesn't serve the context in the end
unjudged_end : {V : Type 0} (start : Start V) (h : Trace V) (y : V) → Flows h → (Judges start h → ⊥)
    → End start h (stage_behind (stage start.stage h) (bundles_waiting h)) (number_behind (newest h) (bundles_waiting h)) y
    → InTheEnd (is_ended h) (hears h + 1) (value start.initial h) (stage_behind (stage start.stage h) (bundles_waiting h)) (number_behind (newest h) (bundles_waiting h)) y
unjudged_end start h y f none i live held known = i live held (go (behind_is (newest h) (bundles_waiting h)))
  where
    unjudged : number_behind (newest h) (bundles_waiting h) ≡ newest h → newest h ≡ hears h + 1 → ⊥
    unjudged j e = none record {
      serves = sym (along start.stage h f live) ∙ held;
      since = since (since_left h);
      stays = behind_stays (newest h) (bundles_waiting h) (omega (arith, j, e));
    }
      where
        since : SinceLeft (newest h) (latest h) (last_leaving h) → last_leaving h ≤ hears h
        since (inl k) = omega (arith, k.1, e)
        since (inr k) = absurd (omega (arith, k.0, e))

    go : (number_behind (newest h) (bundles_waiting h) ≡ newest h) ⊎ (number_behind (newest h) (bundles_waiting h) ≡ 0) → number_behind (newest h) (bundles_waiting h) ≤ hears h
    go (inl j) = let other : newest h ≡ hears h + 1 → ⊥ = unjudged j in omega (arith, known, j)
    go (inr j) = omega (arith, j)

-- a judged write: all that waits is obsolete
judged_follows : {V : Type 0} (start : Start V) (k : ℕ) (v : V) (h : Trace V) → Flows h → Ordered h → Fits start h → (stage start.stage h ≡ Gone → ⊥) → HearsOwn start.initial v h → Stays (bundles_waiting h)
    → Follows (λ j. value_at start.initial j (Accepts k (Some v) ∷ h)) (InTheEnd (is_ended h) (hears h + 1) v) (stage start.stage h) (newest h) (kept start h) (bundles_waiting h)
judged_follows {V = V} start k v h f o t ne own stays =
    subst (λ s. Follows (λ j. value_at start.initial j (Accepts k (Some v) ∷ h)) (InTheEnd (is_ended h) (hears h + 1) v) s (newest h) (kept start h) (bundles_waiting h)) (sym held)
    (follows_obsolete (λ j. value_at start.initial j (Accepts k (Some v) ∷ h)) (InTheEnd (is_ended h) (hears h + 1) v) (base h) (last_sending h) (hears h) (newest h) (kept start h) (bundles_waiting h)
    (rising h f o) (omega (arith, own.0)) (of_held (is_ended h) (hears h + 1) v) stays end)
  where
    held : stage start.stage h ≡ Held
    held = written_held_or_gone start h t (omega (arith, own.0)) ne

    end : InTheEnd (is_ended h) (hears h + 1) v Held (newest h) (kept start h)
    end live here known =
        shows_own start h f o t (open_from start.stage h (omega (arith, own.0)) (ap (is_answer start.stage h) (unheard (newest h) h (omega (arith, own.0))))) held
        ∙ sym (own.1 (omega (arith, own.0, known)))

pub follows : {V : Type 0} (start : Start V) (h : Trace V) → Flows h → Ordered h → Fits start h → FollowsIn start h
follows start [] f o t = λ live held known. refl
follows start (Writes None ∷ h) f o t = follows start h f.1 o.1 t.1
follows start (Writes (Some v) ∷ h) f o t =
    subst (λ s. Follows (λ k. value_at start.initial k h) (End start h) s (last_write h + 1) v (bundles_waiting h)) (sym t.0)
    (follows_write (λ k. value_at start.initial k h) (End start h) (base h) (last_sending h) (hears h) (newest h) (last_write h + 1) (kept start h) v (bundles_waiting h)
    (rising h f.1 o.1) (omega (arith, waiting_count h f.1)) (of_held (is_ended h) (hears h) (value start.initial h))
    (λ live held known. absurd (omega (arith, waiting_count h f.1, known)))
    (subst (λ s. Follows (λ k. value_at start.initial k h) (End start h) s (newest h) (kept start h) (bundles_waiting h)) t.0 (follows start h f.1 o.1 t.1)))
follows {V = V} start (Sends k w c ∷ h) f o t = go (gone_or_not (stage start.stage h)) (follows start h f.1 o.1 t.1)
  where
    d : Bundle (Content V)
    d = record { entry = k; epoch = hears h; content = c }

    go : (stage start.stage h ≡ Gone) ⊎ (stage start.stage h ≡ Gone → ⊥) → FollowsIn start h → FollowsIn start (Sends k w c ∷ h)
    go (inl e) before = follows_gone (λ j. value_at start.initial j (Sends k w c ∷ h)) (End start (Sends k w c ∷ h)) (stage start.stage h) (newest h) (kept start h) (bundles_waiting (Sends k w c ∷ h))
        (of_held (is_ended h) (hears h) (or_else w (value start.initial h))) e
    go (inr ne) before =
        subst (λ ds. Follows (λ j. value_at start.initial j (Sends k w c ∷ h)) (End start (Sends k w c ∷ h)) (stage start.stage h) (newest h) (kept start h) ds) (sym (sent_waits d h f.1))
        (follows_push (λ j. value_at start.initial j (Sends k w c ∷ h)) (End start h) (End start (Sends k w c ∷ h)) d (stage start.stage h) (newest h) (kept start h) (bundles_waiting h) next
        (same_kept start (Sends k w c) (End start h) h f.1 o.1 o.0 (λ y i. i) before))
      where
        next : (y : V) → End start h (stage_behind (stage start.stage h) (bundles_waiting h)) (number_behind (newest h) (bundles_waiting h)) y
            → (after c (stage_behind (stage start.stage h) (bundles_waiting h)) ≡ Held → number_behind (newest h) (bundles_waiting h) ≤ hears h
            → over c false (stage_behind (stage start.stage h) (bundles_waiting h)) y ≡ value_at start.initial k (Sends k w c ∷ h))
            × InTheEnd (is_ended h) (hears h) (or_else w (value start.initial h)) (after c (stage_behind (stage start.stage h) (bundles_waiting h)))
            (number_after c (number_behind (newest h) (bundles_waiting h))) (over c (nat_lt (hears h) (number_behind (newest h) (bundles_waiting h))) (stage_behind (stage start.stage h) (bundles_waiting h)) y)
        next y i = (λ held l. told held l ∙ sym (value_past start.initial k (Sends k w c ∷ h) o (omega arith)), λ live held l. last held l)
          where
            told : after c (stage_behind (stage start.stage h) (bundles_waiting h)) ≡ Held → number_behind (newest h) (bundles_waiting h) ≤ hears h
                → over c false (stage_behind (stage start.stage h) (bundles_waiting h)) y ≡ or_else w (value start.initial h)
            told held l =
                told_value start w c (stage_behind (stage start.stage h) (bundles_waiting h)) y h (t.0 ne) (along start.stage h f.1 f.0) (λ here. i f.0 here l) held

            last : after c (stage_behind (stage start.stage h) (bundles_waiting h)) ≡ Held → number_after c (number_behind (newest h) (bundles_waiting h)) ≤ hears h
                → over c (nat_lt (hears h) (number_behind (newest h) (bundles_waiting h))) (stage_behind (stage start.stage h) (bundles_waiting h)) y ≡ or_else w (value start.initial h)
            last held l =
                let known : number_behind (newest h) (bundles_waiting h) ≤ hears h =
                omega (arith, l, held_number c (stage_behind (stage start.stage h) (bundles_waiting h)) (number_behind (newest h) (bundles_waiting h)) held) in
                rw (le-ltb (hears h) (number_behind (newest h) (bundles_waiting h)) known) (told held known)
follows start (Takes d ∷ h) f o t =
    let a : Follows (λ k. value_at start.initial k h) (End start h) (stage start.stage h) (newest h) (kept start h) (d ∷ f.0.rest) =
    subst (λ ds. Follows (λ k. value_at start.initial k h) (End start h) (stage start.stage h) (newest h) (kept start h) ds) f.0.is (follows start h f.1 o.1 t.1) in
    subst (λ ds. Follows (λ k. value_at start.initial k h) (End start h) (stage start.stage (Takes d ∷ h)) (newest (Takes d ∷ h)) (kept start (Takes d ∷ h)) ds) (sym (taken_leaves d h f.0)) a.1
follows start (Does Nothing ∷ h) f o t = follows start h f.1 o.1 t.1
follows start (Does (Gives v) ∷ h) f o t = absurd t.0
follows start (Does (Begins v) ∷ h) f o t =
    let made : kept start (Does (Begins v) ∷ h) ≡ start.initial = made_over v (stage start.stage h) (kept start h) t.0.unheld ∙ t.0.initially in
    follows_new (λ k. value_at start.initial k h) (End start h) (stage start.stage (Does (Begins v) ∷ h)) (newest h) (kept start (Does (Begins v) ∷ h)) (bundles_waiting h) t.0.no_news
    (λ k. made ∙ sym (untouched_at start.initial k h t.0.untouched)) (λ s n live held known. made ∙ sym (untouched_value start.initial h t.0.untouched))
follows start (Does Removes ∷ h) f o t =
    follows_gone (λ k. value_at start.initial k h) (End start h) Gone (newest h) (kept start h) (bundles_waiting h) (of_held (is_ended h) (hears h) (value start.initial h)) refl
follows start (Does Leaves ∷ h) f o t = absurd t.0
follows start (Accepts k None ∷ h) f o t =
    same_kept start (Accepts k None) (InTheEnd (is_ended h) (hears h + 1) (value start.initial h)) h f.1 o.1 o.0
    (λ y. other_end start (value start.initial h) h y (hears_other start.initial h f.1 f.0) refl) (follows start h f.1 o.1 t.1)
follows start (Accepts k (Some v) ∷ h) f o t = go (gone_or_not (stage start.stage h))
  where
    go : (stage start.stage h ≡ Gone) ⊎ (stage start.stage h ≡ Gone → ⊥) → FollowsIn start (Accepts k (Some v) ∷ h)
    go (inl e) = follows_gone (λ j. value_at start.initial j (Accepts k (Some v) ∷ h)) (End start (Accepts k (Some v) ∷ h)) (stage start.stage h) (newest h) (kept start h) (bundles_waiting h)
        (of_held (is_ended h) (hears h + 1) v) e
    go (inr ne) =
        let judges : Judges start h = t.0 ne in
        judged_follows start k v h f.1 o.1 t.1 ne (hears_since start.initial v h f.1 f.0 judges.since) judges.stays
follows start (Ignores k None ∷ h) f o t =
    same_kept start (Ignores k None) (InTheEnd (is_ended h) (hears h + 1) (value start.initial h)) h f.1 o.1 o.0
    (λ y. other_end start (value start.initial h) h y (hears_other start.initial h f.1 f.0) refl) (follows start h f.1 o.1 t.1)
follows start (Ignores k (Some v) ∷ h) f o t = go (gone_or_not (stage start.stage h)) (follows start h f.1 o.1 t.1)
  where
    go : (stage start.stage h ≡ Gone) ⊎ (stage start.stage h ≡ Gone → ⊥) → FollowsIn start h → FollowsIn start (Ignores k (Some v) ∷ h)
    go (inl e) before = follows_gone (λ j. value_at start.initial j h) (End start (Ignores k (Some v) ∷ h)) (stage start.stage h) (newest h) (kept start h) (bundles_waiting h)
        (of_held (is_ended h) (hears h + 1) (value start.initial h)) e
    go (inr ne) before = same_kept start (Ignores k (Some v)) (InTheEnd (is_ended h) (hears h + 1) (value start.initial h)) h f.1 o.1 o.0
        (λ y. unjudged_end start h y f.1 (t.0 ne)) before
follows {V = V} start (Reverts k w c ∷ h) f o t =
    subst (λ ds. Follows (λ j. value_at start.initial j h) (End start (Reverts k w c ∷ h)) (stage start.stage h) (newest h) (kept start h) ds) (sym (sent_waits d h f.1))
    (follows_push (λ j. value_at start.initial j h) (λ s n y. Unit {0}) (End start (Reverts k w c ∷ h)) d (stage start.stage h) (newest h) (kept start h) (bundles_waiting h) next
    (follows_over (λ j. value_at start.initial j h) (λ j. value_at start.initial j h) (End start h) (λ s n y. Unit {0}) (base h) (last_sending h) (hears h) (stage start.stage h) (newest h) (kept start h) (bundles_waiting h)
    (rising h f.1 o.1) (λ j l. refl) (λ y i. tt) (follows start h f.1 o.1 t.1)))
  where
    d : Bundle (Content V)
    d = record { entry = k; epoch = hears h + 1; content = c }

    next : (y : V) → Unit {0}
        → (after c (stage_behind (stage start.stage h) (bundles_waiting h)) ≡ Held → number_behind (newest h) (bundles_waiting h) ≤ hears h + 1
        → over c false (stage_behind (stage start.stage h) (bundles_waiting h)) y ≡ value_at start.initial k h)
        × InTheEnd (is_ended h) (hears h + 1) (value start.initial h) (after c (stage_behind (stage start.stage h) (bundles_waiting h)))
        (number_after c (number_behind (newest h) (bundles_waiting h))) (over c (nat_lt (hears h + 1) (number_behind (newest h) (bundles_waiting h))) (stage_behind (stage start.stage h) (bundles_waiting h)) y)
    next y i = (
      λ held l. gives_back c false (stage_behind (stage start.stage h) (bundles_waiting h)) y (value start.initial h) t.0.back refl ∙ sym (value_past start.initial k h o.1 (omega (arith, o.0))),
      λ live held l. gives_back c (nat_lt (hears h + 1) (number_behind (newest h) (bundles_waiting h))) (stage_behind (stage start.stage h) (bundles_waiting h)) y (value start.initial h) t.0.back
          (le-ltb (hears h + 1) (number_behind (newest h) (bundles_waiting h))
          (omega (arith, l, held_number c (stage_behind (stage start.stage h) (bundles_waiting h)) (number_behind (newest h) (bundles_waiting h)) held))),
    )
follows start (Changes k None ∷ h) f o t = same_kept start (Changes k None) (End start h) h f.1 o.1 o.0 (λ y i. i) (follows start h f.1 o.1 t.1)
follows start (Changes k (Some v) ∷ h) f o t = go (gone_or_not (stage start.stage h)) (follows start h f.1 o.1 t.1)
  where
    go : (stage start.stage h ≡ Gone) ⊎ (stage start.stage h ≡ Gone → ⊥) → FollowsIn start h → FollowsIn start (Changes k (Some v) ∷ h)
    go (inl e) before = follows_gone (λ j. value_at start.initial j (Changes k (Some v) ∷ h)) (End start (Changes k (Some v) ∷ h)) (stage start.stage h) (newest h) (kept start h) (bundles_waiting h)
        (of_held (is_ended h) (hears h) v) e
    go (inr ne) before = same_kept start (Changes k (Some v)) (End start (Changes k (Some v) ∷ h)) h f.1 o.1 o.0
        (λ y i live held known. absurd (t.0 ne (sym (along start.stage h f.1 live) ∙ held))) before
follows start (Ends ∷ h) f o t = same_kept start Ends (End start (Ends ∷ h)) h f.1 o.1 tt (λ y i live held known. absurd cc) (follows start h f.1 o.1 t.1)
follows start (Rests ∷ h) f o t = follows start h f.1 o.1 t.1
