-- A process acts, takes a bundle, or sends a raw one: what that is for itself, and nothing for the others.
use Rattle.std.proofs.Common.{◌≡◌, ℕ, ◌+◌, ◌==◌, Bool, true, false, not, if◌then◌else◌, Option, None, List, [], ◌∷◌, ◌++◌, refl, ap, sym, ◌∙◌, eq-eqb}
use Rattle.fission_ids.specs.declared.context.ContextId.{ContextId}
use Rattle.field_table.specs.declared.field.Field.{Field}
use Rattle.transaction.specs.Transaction.{Changes}
use Rattle.wire_msgs.specs.declared.action.Action.{Action}
use Rattle.wire_msgs.specs.declared.action.Action.TheVariants as actions
use Rattle.wire_msgs.specs.declared.answer.Answer.TheVariants as answers
use Rattle.wire_msgs.specs.declared.bundle.DownBundle.{DownBundle}
use Rattle.wire_msgs.specs.declared.bundle.UpBundle.{UpBundle}
use Rattle.wire_msgs.specs.declared.config.Config.{Config}
use Rattle.wire_msgs.specs.declared.part.DownPart.TheVariants as downs
use Rattle.wire_msgs.specs.declared.part.UpPart.TheVariants as ups
use Rattle.wire_msgs.specs.declared.refusal.Refusal.{Refusal}
use Rattle.wire_msgs.specs.declared.refusal.Refusal.TheVariants as refusals
use Rattle.wire_msgs.specs.declared.refusal.Counted.TheVariants as counted
use Rattle.protocol.specs.Fold.{behind_all}
use Rattle.protocol.specs.OwnActs.{refusal, says, posts, answer, denied_to_process, next_frame, action_step}
use Rattle.protocol.specs.ParentActs.{refused_if, denial_refused}
use Rattle.protocol.specs.Questions.{option_any}
use Rattle.protocol.specs.Seen.{Seen, Doing}
use Rattle.protocol.specs.Seen.Doing.{Framed, Went, Wrote}
use Rattle.protocol.specs.Take.{Step, bundle_sent, bundle_step}
use Rattle.traces.specs.Event.{Bundle}
use Rattle.traces.specs.Event.Event.{Writes, Takes}
use Rattle.traces.specs.Links.{bundles_waiting}
use Rattle.model.specs.Moments.{Moment, did_by, events_of, only_answer, for_one, written, deeds, deed, own_known, act_moment, taken_moment, raw_moment, if_running}
use Rattle.model.specs.Moments.Written.{Own, Raw}
use Rattle.model.specs.Process.{own_asked, running, commits, taken}
use Rattle.model.specs.View.{all_own}
use Rattle.model.proofs.Cases.{by_if}
use Rattle.model.proofs.Entry.{Entry}
use Rattle.model.proofs.Entry.Entry.{Sets, Frames, Drops, TakesOne}
use Rattle.model.proofs.ClassifyOthers.{idle}
use Rattle.model.proofs.ClassifyTold.{by_option}

-- so far a process writes fields, and makes and drops frames
abbrev pub ActPlays : Action → Type 0
ActPlays (actions.Set x t) = Unit {0}
ActPlays (actions.Frame a) = Unit {0}
ActPlays (actions.Drop x) = Unit {0}
ActPlays action = ⊥

-- ---- a process acts

-- its answers behind what it newly did
abbrev now : Config → ℕ → List Moment → List Doing → Seen
now c q ms did = own_asked c.tabs q (did ++ did_by q ms)

-- what it newly did
abbrev acted : Config → ℕ → List Moment → Step (List Doing) → Moment
acted c q ms step = record {
  says = [];
  did = for_one q step.kept;
  events = for_one q (written (bundle_sent (now c q ms step.kept) step.sends) ++ deeds (now c q ms step.kept) step.kept);
  answer = step.answer;
}

for_other : {X : Type 0} (q p : ℕ) (xs : List X) → (p == q) ≡ false → for_one q xs p ≡ []
for_other q p xs other = ap (λ (b : Bool). if b then xs else []) other

for_itself : {X : Type 0} (p : ℕ) (xs : List X) → for_one p xs p ≡ xs
for_itself p xs = ap (λ (b : Bool). if b then xs else []) (eq-eqb p p refl)

pub other_acts : (c : Config) (p q : ℕ) (ms : List Moment) (action : Action) → (p == q) ≡ false → Entry c p ms (act_moment c q action ms)
other_acts c p q ms action other =
    let step : Step (List Doing) = action_step (now c q ms) (λ d did. d ∷ did) q action [] in
    idle c p ms (acted c q ms step) refl (for_other q p step.kept other)
    (for_other q p (written (bundle_sent (now c q ms step.kept) step.sends) ++ deeds (now c q ms step.kept) step.kept) other)

refused_not : (b : Bool) (why : Refusal) (later : Option Refusal) → refused_if (not b) why later ≡ None → (b ≡ true) × (later ≡ None)
refused_not true why later e = (refl, e)
refused_not false why later e = absurd cc

refused_if_none : (b : Bool) (why : Refusal) (later : Option Refusal) → refused_if b why later ≡ None → b ≡ false
refused_if_none true why later e = absurd cc
refused_if_none false why later e = refl

none_denied : (flds : List Field) → denial_refused flds ≡ None → flds ≡ []
none_denied [] e = refl
none_denied (fld ∷ flds) e = absurd cc

module _ (c : Config) (p : ℕ) (ms : List Moment) where
  abbrev s : Seen
  s = own_asked c.tabs p (did_by p ms)

  abbrev IsEntry : Step (List Doing) → Type 0
  IsEntry step = Entry c p ms (acted c p ms step)

  done : Action → Step (List Doing)
  done action = record {
    answer = answer p (own_asked c.tabs p (did_by p ms)) action;
    kept = behind_all (λ d did. d ∷ did) (says p (own_asked c.tabs p (did_by p ms)) action) [];
    sends = posts p (own_asked c.tabs p (did_by p ms)) action;
  }

  sets : (x : ContextId) (t : Changes) → refusal p (own_asked c.tabs p (did_by p ms)) (actions.Set x t) ≡ None → IsEntry (done (actions.Set x t))
  unfolding done refusal says posts answer behind_all commits taken
  sets x t clear =
      let runs : (s.running ≡ true) × (refused_if (not (s.holds x)) refusals.NoContext (denial_refused (denied_to_process p s x t)) ≡ None) =
      refused_not s.running refusals.Stopped (refused_if (not (s.holds x)) refusals.NoContext (denial_refused (denied_to_process p s x t))) clear in
      let held : (s.holds x ≡ true) × (denial_refused (denied_to_process p s x t) ≡ None) = refused_not (s.holds x) refusals.NoContext (denial_refused (denied_to_process p s x t)) runs.1 in
      let b : UpBundle = record { epoch = record { 0 = s.commits + 1 }; seen = s.taken; parts = ups.Commit x t ∷ [] } in
      Sets x t b (record {
        says = refl;
        runs = runs.0;
        held = held.0;
        allowed = none_denied (denied_to_process p s x t) held.1;
        sent = record { parts = refl; epoch_is = refl; seen_is = refl };
        did = for_itself p (Wrote x t ∷ []);
        events = for_itself p (Writes (Own b) ∷ []);
      })

  frames : (a : ContextId) → refusal p (own_asked c.tabs p (did_by p ms)) (actions.Frame a) ≡ None → IsEntry (done (actions.Frame a))
  unfolding done refusal says posts answer behind_all commits taken
  frames a clear =
      let runs : (s.running ≡ true) × (refused_if (not (s.holds a)) refusals.NoContext (refused_if (not (s.owns a)) refusals.NotMine (refused_if (s.frames_made == 240) (refusals.TooMany counted.Contexts 240) None)) ≡ None) =
      refused_not s.running refusals.Stopped (refused_if (not (s.holds a)) refusals.NoContext (refused_if (not (s.owns a)) refusals.NotMine (refused_if (s.frames_made == 240) (refusals.TooMany counted.Contexts 240) None))) clear in
      let held : (s.holds a ≡ true) × (refused_if (not (s.owns a)) refusals.NotMine (refused_if (s.frames_made == 240) (refusals.TooMany counted.Contexts 240) None) ≡ None) =
      refused_not (s.holds a) refusals.NoContext (refused_if (not (s.owns a)) refusals.NotMine (refused_if (s.frames_made == 240) (refusals.TooMany counted.Contexts 240) None)) runs.1 in
      let owned : (s.owns a ≡ true) × (refused_if (s.frames_made == 240) (refusals.TooMany counted.Contexts 240) None ≡ None) =
      refused_not (s.owns a) refusals.NotMine (refused_if (s.frames_made == 240) (refusals.TooMany counted.Contexts 240) None) held.1 in
      let b : UpBundle = record { epoch = record { 0 = s.commits }; seen = s.taken; parts = ups.Create (next_frame p s) a ∷ [] } in
      Frames a b (record {
        says = refl;
        runs = runs.0;
        held = held.0;
        owned = owned.0;
        few = refused_if_none (s.frames_made == 240) (refusals.TooMany counted.Contexts 240) None owned.1;
        sent = record { parts = refl; epoch_is = refl; seen_is = refl };
        did = for_itself p (Framed (next_frame p s) a ∷ []);
        events =
            for_itself p (Writes (Own b) ∷ deed (downs.Create (own_known (now c p ms (Framed (next_frame p s) a ∷ [])) (next_frame p s) a)) ∷ [])
            ∙ ap (λ did. Writes (Own b) ∷ deed (downs.Create (own_known (now c p ms did) (next_frame p s) a)) ∷ []) (sym (for_itself p (Framed (next_frame p s) a ∷ [])));
      })

  drops : (x : ContextId) → refusal p (own_asked c.tabs p (did_by p ms)) (actions.Drop x) ≡ None → IsEntry (done (actions.Drop x))
  unfolding done refusal says posts answer behind_all commits taken
  drops x clear =
      let runs : (s.running ≡ true) × (refused_if (not (s.holds x)) refusals.NoContext (refused_if (not (option_any s.owns (s.above x))) refusals.NotMine None) ≡ None) =
      refused_not s.running refusals.Stopped (refused_if (not (s.holds x)) refusals.NoContext (refused_if (not (option_any s.owns (s.above x))) refusals.NotMine None)) clear in
      let held : (s.holds x ≡ true) × (refused_if (not (option_any s.owns (s.above x))) refusals.NotMine None ≡ None) =
      refused_not (s.holds x) refusals.NoContext (refused_if (not (option_any s.owns (s.above x))) refusals.NotMine None) runs.1 in
      let owned : (option_any s.owns (s.above x) ≡ true) × (None ≡ None) = refused_not (option_any s.owns (s.above x)) refusals.NotMine None held.1 in
      let b : UpBundle = record { epoch = record { 0 = s.commits }; seen = s.taken; parts = ups.Drop x ∷ [] } in
      Drops x b (record {
        says = refl;
        runs = runs.0;
        held = held.0;
        owned = owned.0;
        sent = record { parts = refl; epoch_is = refl; seen_is = refl };
        did = for_itself p (Went x ∷ []);
        events = for_itself p (Writes (Own b) ∷ deed (downs.Discard x) ∷ []);
      })

  by_refusal : (action : Action) → (refusal p (own_asked c.tabs p (did_by p ms)) action ≡ None → IsEntry (done action)) → Entry c p ms (act_moment c p action ms)
  unfolding done
  by_refusal action is_done =
      by_option IsEntry (λ why. record { answer = answers.Refused why; kept = []; sends = [] }) (refusal p (own_asked c.tabs p (did_by p ms)) action) (done action)
      (λ why e. idle c p ms (acted c p ms (record { answer = answers.Refused why; kept = []; sends = [] })) refl (for_itself p []) (for_itself p [])) is_done

  pub own_acts : (action : Action) → ActPlays action → Entry c p ms (act_moment c p action ms)
  own_acts (actions.Set x t) plays = by_refusal (actions.Set x t) (sets x t)
  own_acts (actions.Frame a) plays = by_refusal (actions.Frame a) (frames a)
  own_acts (actions.Drop x) plays = by_refusal (actions.Drop x) (drops x)
  own_acts (_) plays = absurd plays

  -- ---- it takes

  takes_one : (ws : List (Bundle DownBundle)) → running (did_by p ms) ≡ true → bundles_waiting (events_of p ms) ≡ ws → Entry c p ms (taken_moment c p ms ws)
  takes_one [] runs is = idle c p ms (taken_moment c p ms []) refl refl refl
  takes_one (d ∷ rest) runs is =
      let step : Step (List Doing) = bundle_step (now c p ms) (λ e did. e ∷ did) p d.content [] in
      TakesOne d rest (record {
        says = refl;
        runs = runs;
        first = is;
        did = for_itself p step.kept;
        events =
            for_itself p (written (bundle_sent (now c p ms step.kept) step.sends) ++ Takes d ∷ [])
            ∙ ap (λ did. written (bundle_sent (now c p ms did) step.sends) ++ Takes d ∷ []) (sym (for_itself p step.kept));
      })

  stopped : Entry c p ms (only_answer (answers.Refused refusals.Stopped))
  stopped = idle c p ms (only_answer (answers.Refused refusals.Stopped)) refl refl refl

  pub own_takes : Entry c p ms (if_running c p ms (taken_moment c p ms (bundles_waiting (events_of p ms))))
  own_takes =
      by_if (Entry c p ms) (running (did_by p ms)) (taken_moment c p ms (bundles_waiting (events_of p ms))) (only_answer (answers.Refused refusals.Stopped))
      (λ runs. takes_one (bundles_waiting (events_of p ms)) runs refl) (λ over. stopped)

  -- ---- a raw bundle, which an honest process doesn't send

  raw_dishonest : {A : Type 0} (b : UpBundle) → all_own ((raw_moment p b).events p) ≡ true → A
  raw_dishonest b e = let other : all_own ((raw_moment p b).events p) ≡ false = ap all_own (for_itself p (Writes (Raw b) ∷ [])) in absurd cc

  pub own_raw : (b : UpBundle) → all_own ((if_running c p ms (raw_moment p b)).events p) ≡ true → Entry c p ms (if_running c p ms (raw_moment p b))
  own_raw b =
      by_if (λ m. all_own (m.events p) ≡ true → Entry c p ms m) (running (did_by p ms)) (raw_moment p b) (only_answer (answers.Refused refusals.Stopped))
      (λ runs e. raw_dishonest b e) (λ over e. stopped)

-- ---- another takes, or sends a raw bundle

pub other_takes : (c : Config) (p q : ℕ) (ms : List Moment) → (p == q) ≡ false → Entry c p ms (if_running c q ms (taken_moment c q ms (bundles_waiting (events_of q ms))))
other_takes c p q ms other =
    by_if (Entry c p ms) (running (did_by q ms)) (taken_moment c q ms (bundles_waiting (events_of q ms))) (only_answer (answers.Refused refusals.Stopped))
    (λ runs. by_waiting (bundles_waiting (events_of q ms))) (λ over. stopped c p ms)
  where
    by_waiting : (ws : List (Bundle DownBundle)) → Entry c p ms (taken_moment c q ms ws)
    by_waiting [] = idle c p ms (taken_moment c q ms []) refl refl refl
    by_waiting (d ∷ rest) =
        let step : Step (List Doing) = bundle_step (now c q ms) (λ e did. e ∷ did) q d.content [] in
        idle c p ms (taken_moment c q ms (d ∷ rest)) refl (for_other q p step.kept other) (for_other q p (written (bundle_sent (now c q ms step.kept) step.sends) ++ Takes d ∷ []) other)

pub other_raw : (c : Config) (p q : ℕ) (ms : List Moment) (b : UpBundle) → (p == q) ≡ false → Entry c p ms (if_running c q ms (raw_moment q b))
other_raw c p q ms b other =
    by_if (Entry c p ms) (running (did_by q ms)) (raw_moment q b) (only_answer (answers.Refused refusals.Stopped))
    (λ runs. idle c p ms (raw_moment q b) refl refl (for_other q p (Writes (Raw b) ∷ []) other)) (λ over. stopped c p ms)
