-- Whatever step is made, for an honest process the entry is of one of the kinds of `Entry`.
use Rattle.std.proofs.Common.{◌≡◌, ℕ, zero, suc, ◌<◌, ◌≤◌, ◌==◌, Bool, true, false, None, List, [], ◌∷◌, ◌++◌, length, drop, refl, subst, arith, eqb-true}
use Rattle.std.specs.List.{AllByRecursion}
use Rattle.field_table.specs.declared.field.Field.{Field}
use Rattle.wire_msgs.specs.declared.action.Action.{Action}
use Rattle.wire_msgs.specs.declared.action.Action.TheVariants as own
use Rattle.wire_msgs.specs.declared.action.ParentAction.{ParentAction}
use Rattle.wire_msgs.specs.declared.action.ParentAction.TheVariants as parents
use Rattle.wire_msgs.specs.declared.answer.Answer.TheVariants.{Refused}
use Rattle.wire_msgs.specs.declared.bundle.UpBundle.{UpBundle}
use Rattle.wire_msgs.specs.declared.config.Config.{Config}
use Rattle.wire_msgs.specs.declared.refusal.Refusal.TheVariants.{Empty}
use Rattle.journal.specs.declared.entry.Step.{Step}
use Rattle.journal.specs.declared.entry.Step.TheVariants.{Act, Take, Raw as RawStep, ParentAct, Hear}
use Rattle.protocol.specs.Played.{IsPlayedByParent, IsPlayedByProcess}
use Rattle.journal.specs.Step.{StepFits}
use Rattle.traces.specs.Event.Event.{Writes}
use Rattle.traces.specs.Links.{writes, writes_waiting, bundles_waiting, hears}
use Rattle.model.specs.Moments.{Moment, Written, ProcessEvent, events_of, facts_now, only_answer, act_moment, if_running, taken_moment, raw_moment, heard_moment, moment}
use Rattle.model.specs.Moments.Written.{Own, Raw, Said}
use Rattle.model.specs.View.{all_own}
use Rattle.model.proofs.Entry.{Entry}
use Rattle.model.proofs.Entry.Entry.{HearsOne}
use Rattle.model.proofs.Good.{IsGood}
use Rattle.model.proofs.ClassifyHear.{own_heard}
use Rattle.model.proofs.ClassifyOthers.{idle, other_hears}
use Rattle.model.proofs.ClassifyOwn.{ActPlays, own_acts, own_takes, own_raw, other_acts, other_takes, other_raw}
use Rattle.model.proofs.ClassifyParent.{ParentPlays, parent_acts}
use Rattle.model.proofs.ClassifySending.{eqb_swapped}

-- ---- what waits of an honest process is of its own acts

abbrev IsNotRaw : Written → Type 0
IsNotRaw (Raw b) = ⊥
IsNotRaw w = Unit {0}

one_more : (ws : List Written) (w : Written) → AllByRecursion IsNotRaw ws → IsNotRaw w → AllByRecursion IsNotRaw (ws ++ w ∷ [])
one_more [] w all one = (one, tt)
one_more (x ∷ ws) w all one = (all.0, one_more ws w all.1 one)

own_written : (h : List ProcessEvent) → all_own h ≡ true → AllByRecursion IsNotRaw (writes h)
own_written [] e = tt
own_written (Writes (Own b) ∷ h) e = one_more (writes h) (Own b) (own_written h e) tt
own_written (Writes (Raw b) ∷ h) e = absurd cc
own_written (Writes (Said says) ∷ h) e = one_more (writes h) (Said says) (own_written h e) tt
own_written (_ ∷ h) e = own_written h e

behind_first : (n : ℕ) (ws : List Written) → AllByRecursion IsNotRaw ws → AllByRecursion IsNotRaw (drop n ws)
behind_first zero ws all = all
behind_first (suc n) [] all = tt
behind_first (suc n) (w ∷ ws) all = behind_first n ws all.1

raw_waits : {A : Type 0} (h : List ProcessEvent) (b : UpBundle) (rest : List Written) → all_own h ≡ true → writes_waiting h ≡ Raw b ∷ rest → A
raw_waits h b rest own is =
    let all : AllByRecursion IsNotRaw (Raw b ∷ rest) = subst (AllByRecursion IsNotRaw) is (behind_first (hears h) (writes h) (own_written h own)) in
    absurd all.0

-- ---- it is heard

own_hears : (c : Config) (p : ℕ) (ms : List Moment) (allows : Field → Bool) → all_own (events_of p ms) ≡ true
    → ((b : UpBundle) (rest : List Written) → writes_waiting (events_of p ms) ≡ Own b ∷ rest → (facts_now c ms).processes.ended p ≡ None → IsGood (facts_now c ms) p b)
    → Entry c p ms (heard_moment c p ms allows (writes_waiting (events_of p ms)))
own_hears c p ms allows honest good = by_first (writes_waiting (events_of p ms)) refl
  where
    by_first : (ws : List Written) → writes_waiting (events_of p ms) ≡ ws → Entry c p ms (heard_moment c p ms allows ws)
    by_first [] is = idle c p ms (only_answer (Refused Empty)) refl refl refl
    by_first (Own b ∷ rest) is = HearsOne b rest is (own_heard c allows p ms b (length c.types) (good b rest is))
    by_first (Raw b ∷ rest) is = raw_waits (events_of p ms) b rest honest is
    by_first (Said says ∷ rest) is = idle c p ms (only_answer (Refused Empty)) refl refl refl

-- ---- any step

-- what a step must be for this: its acts are played, and a process that is heard or killed is one of n
abbrev pub StepPlays : ℕ → Step → Type 0
StepPlays n (Act q action) = ActPlays action
StepPlays n (ParentAct action) = ParentPlays n action
StepPlays n (Hear q) = q.0 < n
StepPlays n s = Unit {0}

act_plays : (action : Action) → IsPlayedByProcess action → ActPlays action
act_plays (own.Set x t) played = tt
act_plays (own.Frame a) played = tt
act_plays (own.Drop x) played = tt
act_plays (_) played = absurd played

parent_plays : (n : ℕ) (action : ParentAction) → IsPlayedByParent n action → ParentPlays n action
parent_plays n (parents.Set x t) played = tt
parent_plays n (parents.Tab q named) played = played
parent_plays n (parents.Subscribe q g) played = played
parent_plays n (parents.Discard x) played = tt
parent_plays n (parents.Kill q) played = played
parent_plays n (_) played = absurd played

pub step_plays : (n : ℕ) (s : Step) → StepFits n s → StepPlays n s
step_plays n (Act q action) fits = act_plays action fits.played
step_plays n (Take q) fits = tt
step_plays n (RawStep q b) fits = tt
step_plays n (ParentAct action) fits = parent_plays n action fits
step_plays n (Hear q) fits = fits

pub entry_of : (c : Config) (p : ℕ) (ms : List Moment) (allows : Field → Bool) (s : Step) → length c.types ≤ 16 → p < length c.types → StepPlays (length c.types) s
    → all_own (events_of p ms) ≡ true → all_own ((moment c ms allows s).events p) ≡ true
    → ((b : UpBundle) (rest : List Written) → writes_waiting (events_of p ms) ≡ Own b ∷ rest → (facts_now c ms).processes.ended p ≡ None → IsGood (facts_now c ms) p b)
    → Entry c p ms (moment c ms allows s)
entry_of c p ms allows (Act q action) few lt plays honest still good = by_test (p == q.0) refl
  where
    by_test : (b : Bool) → (p == q.0) ≡ b → Entry c p ms (act_moment c q.0 action ms)
    by_test true e = subst (λ k. Entry c p ms (act_moment c k action ms)) (eqb-true p q.0 e) (own_acts c p ms action plays)
    by_test false e = other_acts c p q.0 ms action e
entry_of c p ms allows (Take q) few lt plays honest still good = by_test (p == q.0) refl
  where
    by_test : (b : Bool) → (p == q.0) ≡ b → Entry c p ms (if_running c q.0 ms (taken_moment c q.0 ms (bundles_waiting (events_of q.0 ms))))
    by_test true e = subst (λ k. Entry c p ms (if_running c k ms (taken_moment c k ms (bundles_waiting (events_of k ms))))) (eqb-true p q.0 e) (own_takes c p ms)
    by_test false e = other_takes c p q.0 ms e
entry_of c p ms allows (RawStep q bundle) few lt plays honest still good = by_test (p == q.0) refl still
  where
    by_test : (b : Bool) → (p == q.0) ≡ b → all_own ((if_running c q.0 ms (raw_moment q.0 bundle)).events p) ≡ true → Entry c p ms (if_running c q.0 ms (raw_moment q.0 bundle))
    by_test true e =
        subst (λ k. all_own ((if_running c k ms (raw_moment k bundle)).events p) ≡ true → Entry c p ms (if_running c k ms (raw_moment k bundle))) (eqb-true p q.0 e) (own_raw c p ms bundle)
    by_test false e = λ own. other_raw c p q.0 ms bundle e
entry_of c p ms allows (ParentAct action) few lt plays honest still good = parent_acts c p ms lt few action plays
entry_of c p ms allows (Hear q) few lt plays honest still good = by_test (p == q.0) refl
  where
    low : q.0 < 16
    low = omega (arith, plays)

    by_test : (b : Bool) → (p == q.0) ≡ b → Entry c p ms (heard_moment c q.0 ms allows (writes_waiting (events_of q.0 ms)))
    by_test true e = subst (λ k. Entry c p ms (heard_moment c k ms allows (writes_waiting (events_of k ms)))) (eqb-true p q.0 e) (own_hears c p ms allows honest good)
    by_test false e = other_hears c p q.0 ms allows (writes_waiting (events_of q.0 ms)) (eqb_swapped p q.0 e) low

-- each step that can be played
pub entry_is : (c : Config) (p : ℕ) (ms : List Moment) (allows : Field → Bool) (s : Step) → length c.types ≤ 16 → p < length c.types → StepFits (length c.types) s
    → all_own (events_of p ms) ≡ true → all_own ((moment c ms allows s).events p) ≡ true
    → ((b : UpBundle) (rest : List Written) → writes_waiting (events_of p ms) ≡ Own b ∷ rest → (facts_now c ms).processes.ended p ≡ None → IsGood (facts_now c ms) p b)
    → Entry c p ms (moment c ms allows s)
entry_is c p ms allows s few lt fits honest still good = entry_of c p ms allows s few lt (step_plays (length c.types) s fits) honest still good
