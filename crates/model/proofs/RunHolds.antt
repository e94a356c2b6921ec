-- All that holds behind the entries of every journal, for a process that is honest.
use Rattle.std.proofs.Common.{◌≡◌, ℕ, ◌<◌, ◌≤◌, Bool, true, false, None, List, [], ◌∷◌, ◌++◌, length, refl, ap, sym, subst, ◌∙◌, arith, append_assoc}
use Rattle.std.specs.Prelude.{is_some}
use Rattle.std.specs.List.{AllByRecursion}
use Rattle.field_table.specs.declared.field.Field.{Field}
use Rattle.wire_msgs.specs.declared.bundle.UpBundle.{UpBundle}
use Rattle.wire_msgs.specs.declared.config.Config.{Config}
use Rattle.journal.specs.Step.{StepFits}
use Rattle.journal.specs.declared.entry.Step.{Step}
use Rattle.protocol.specs.Outside.{told_allowed}
use Rattle.traces.specs.Links.{is_ended, takes, writes_waiting}
use Rattle.traces.specs.Links as links
use Rattle.model.specs.Journal.{Journal, steps_of}
use Rattle.model.specs.Lines.{Making, makings, makings_said, makings_done}
use Rattle.model.specs.Moments.{Moment, Written, events_of, facts_now, seen_now, moment, moments_of}
use Rattle.model.specs.Moments.Written.{Own}
use Rattle.model.specs.View.{all_own}
use Rattle.model.proofs.Classify.{entry_is}
use Rattle.model.proofs.Counts.{RisesTo, counts_still, taken_still, taken_and_waiting, rises_still, counts_start, taken_start, rises_start}
use Rattle.model.proofs.Entry.{Entry}
use Rattle.model.proofs.Good.{IsGood}
use Rattle.model.proofs.Lining.{Coherent, IsPlaced, Lined, IsToldBy, all_told, lined}
use Rattle.model.proofs.Names.{NameTies, names_at_start, names_still}
use Rattle.model.proofs.Run.{all_before, all_behind, own_behind, own_before, RunTies, facts_of_run, run_start, run_next}
use Rattle.model.proofs.Ups.{first_good}

-- the makings so far, or more
pub record MakingsOf (p : ℕ) (ms : List Moment) (mk : List Making) : Type 0 where
  pub coherent : Coherent mk
  pub frames : AllByRecursion IsPlaced mk
  pub later : List Making
  pub is : mk ≡ later ++ makings p ms

-- what holds behind these moments, whatever is made later
pub record Holds (c : Config) (p : ℕ) (ms : List Moment) : Type 0 where
  pub names : NameTies p (facts_now c ms) (seen_now c p ms) (makings p ms) (events_of p ms)
  pub sent : (facts_now c ms).processes.bundles_sent p ≡ length (links.bundles_sent (events_of p ms))
  pub taken : (seen_now c p ms).taken ≡ takes (events_of p ms)
  pub rises : RisesTo (length ms) (events_of p ms)
  pub run : (mk : List Making) → MakingsOf p ms mk → RunTies c p mk ms

holds_start : (c : Config) (p : ℕ) → Holds c p []
holds_start c p = record { names = names_at_start c p; sent = counts_start c p; taken = taken_start c p; rises = rises_start p; run = λ mk of. run_start c p mk (lined mk of.coherent of.frames) }

module _ (c : Config) (p : ℕ) (ms : List Moment) (allows : Field → Bool) (s : Step) (few : length c.types ≤ 16) (lt : p < length c.types) (fits : StepFits (length c.types) s) (honest : all_own (events_of p ms) ≡ true)
    (still : all_own ((moment c ms allows s).events p) ≡ true) (t : Holds c p ms)
  where
    low : p < 16
    low = omega (arith, few, lt)

    -- by the makings so far
    of_now : MakingsOf p ms (makings p ms)
    of_now = record { coherent = t.names.ids.coherent; frames = t.names.ids.frames; later = []; is = refl }

    run_now : RunTies c p (makings p ms) ms
    run_now = t.run (makings p ms) of_now

    lined_now : Lined (makings p ms)
    lined_now = lined (makings p ms) t.names.ids.coherent t.names.ids.frames

    good : (b : UpBundle) (rest : List Written) → writes_waiting (events_of p ms) ≡ Own b ∷ rest → (facts_now c ms).processes.ended p ≡ None → IsGood (facts_now c ms) p b
    good b rest waits alive =
        let runs : is_ended (events_of p ms) ≡ false = run_now.over ∙ ap is_some alive in
        first_good c p (makings p ms) lined_now (facts_now c ms) (facts_of_run c p (makings p ms) ms lined_now run_now) (events_of p ms) (run_now.trees.facts runs) run_now.flows runs b rest waits (seen_now c p ms) (run_now.ups runs)

    pub entry : Entry c p ms (moment c ms allows s)
    entry = entry_is c p ms allows s few lt fits honest still good

    holds_next : Holds c p (moment c ms allows s ∷ ms)
    holds_next = record {
      names = names_still c p ms (moment c ms allows s) entry run_now.flows t.names;
      sent = counts_still c p ms allows s lt t.sent;
      taken = taken_still c p ms allows s lt t.taken;
      rises = rises_still c p ms allows s lt t.rises;
      run = λ mk of. run_by mk of;
    }
      where
        run_by : (mk : List Making) → MakingsOf p (moment c ms allows s ∷ ms) mk → RunTies c p mk (moment c ms allows s ∷ ms)
        run_by mk of =
            let m : Moment = moment c ms allows s in
            let now : List Making = makings_said m.says ++ makings_done (m.did p) in
            let before : RunTies c p mk ms = t.run mk (record { coherent = of.coherent; frames = of.frames; later = of.later ++ now; is = of.is ∙ sym (append_assoc of.later now (makings p ms)) }) in
            let told : AllByRecursion (IsToldBy mk) now = all_before (IsToldBy mk) now (makings p ms) (all_behind (IsToldBy mk) of.later (now ++ makings p ms) (subst (AllByRecursion (IsToldBy mk)) of.is (all_told mk of.coherent))) in
            run_next c p mk (lined mk of.coherent of.frames) low ms m before (all_before (IsToldBy mk) (makings_said m.says) (makings_done (m.did p)) told) (all_behind (IsToldBy mk) (makings_said m.says) (makings_done (m.did p)) told)
            t.names.ids.own_known (taken_and_waiting c p ms before.flows t.sent t.taken) t.rises.rises entry

-- every journal whose steps can be played
pub holds : (c : Config) (p : ℕ) (j : Journal) → length c.types ≤ 16 → p < length c.types → AllByRecursion (StepFits (length c.types)) (steps_of j) → all_own (events_of p (moments_of c j)) ≡ true → Holds c p (moments_of c j)
unfolding moments_of
holds c p [] few lt fits honest = holds_start c p
holds c p (e ∷ older) few lt fits honest =
    let ms : List Moment = moments_of c older in
    let m : Moment = moment c (moments_of c older) (told_allowed e.answer) e.step in
    holds_next c p ms (told_allowed e.answer) e.step few lt fits.0 (own_behind (m.events p) (events_of p ms) honest) (own_before (m.events p) (events_of p ms) honest)
    (holds c p older few lt fits.1 (own_behind (m.events p) (events_of p ms) honest))

-- by its own makings
pub own_run : (c : Config) (p : ℕ) (j : Journal) → Holds c p (moments_of c j) → RunTies c p (makings p (moments_of c j)) (moments_of c j)
own_run c p j t = t.run (makings p (moments_of c j)) (record { coherent = t.names.ids.coherent; frames = t.names.ids.frames; later = []; is = refl })

pub own_lined : (c : Config) (p : ℕ) (j : Journal) → Holds c p (moments_of c j) → Lined (makings p (moments_of c j))
own_lined c p j t = lined (makings p (moments_of c j)) t.names.ids.coherent t.names.ids.frames
