-- As a process takes the bundle that reverts its newest write, it shows the parent's value at the entry that sent it.
use Rattle.std.proofs.Common.{◌≡◌, ℕ, ◌<◌, length, Bool, true, false, if◌then◌else◌, Option, None, Some, List, [], ◌∷◌, ◌++◌, map, refl, ap, sym, subst, ◌∙◌, not, ◌&&◌, ◌==◌, eq-eqb}
use Rattle.std.specs.Prelude.{unwrap_or, nat_lt}
use Rattle.std.specs.List.{AllByRecursion, list_any}
use Rattle.fission_ids.specs.declared.context.ContextId.{ContextId}
use Rattle.fission_ids.specs.declared.process.ProcId.{ProcId}
use Rattle.field_table.specs.declared.field.Field.{Field}
use Rattle.field_table.specs.declared.value.Value.{Value}
use Rattle.wire_msgs.specs.declared.answer.Answer.{Answer}
use Rattle.wire_msgs.specs.declared.answer.Answer.TheVariants.{Refused}
use Rattle.wire_msgs.specs.declared.bundle.DownBundle.{DownBundle}
use Rattle.wire_msgs.specs.declared.bundle.UpBundle.{UpBundle}
use Rattle.wire_msgs.specs.declared.config.Config.{Config}
use Rattle.wire_msgs.specs.declared.part.DownPart.{DownPart}
use Rattle.wire_msgs.specs.declared.part.DownPart.TheVariants as downs
use Rattle.wire_msgs.specs.declared.part.Known.{Known}
use Rattle.wire_msgs.specs.declared.part.UpPart.{UpPart}
use Rattle.wire_msgs.specs.declared.part.UpPart.TheVariants as ups
use Rattle.journal.specs.declared.entry.Step.TheVariants.{Take}
use Rattle.protocol.specs.Fold.{after_parts, behind_all, posts_of}
use Rattle.protocol.specs.Seen.{Doing}
use Rattle.protocol.specs.Seen.Doing.{Came, Went, Given, Took, Stopped}
use Rattle.protocol.specs.Hear.{changes_where, is_noted, is_applied}
use Rattle.protocol.specs.Take.{take_rules, taken_notes, is_kill, bundle_sent}
use Rattle.protocol.specs.Take as take
use Rattle.wire_msgs.specs.declared.note.PartNote.TheVariants as notes
use Rattle.traces.specs.Event.{Bundle}
use Rattle.traces.specs.Event.Event.{Writes, Takes}
use Rattle.traces.specs.Field.{Trace, trace_for, bundle_for}
use Rattle.traces.specs.Links.{bundles_waiting}
use Rattle.traces.specs.Words.{Start, Stage, Fate, stage, while_held}
use Rattle.traces.specs.Words.Fate.{Unheard, Accepted, Reverted, Ignored}
use Rattle.traces.specs.Words as words
use Rattle.model.specs.Lines.{Making, makings, makings_done}
use Rattle.model.specs.Moments.{Moment, ProcessEvent, did_by, events_of, seen_now, moments_of, taken_moment, if_running, only_answer, written}
use Rattle.model.specs.Moments.Written.{Own}
use Rattle.model.specs.Process.{own_asked}
use Rattle.model.specs.View.{value_in_parts}
use Rattle.model.proofs.DownFits.{PartFits, DownFits}
use Rattle.model.proofs.Living.{held_only}
use Rattle.model.proofs.Run.{RunTies}
use Rattle.model.proofs.RunHolds.{Holds, holds, own_run}
use Rattle.model.specs.Laws.{RunFits, RevertTakenShowsTheParent}
use Rattle.model.specs.Next.{Run, run_with}
use Rattle.model.specs.View.{is_honest, all_own, begin, look, trace, view, value_at, first_sent}
use Rattle.wire_msgs.specs.declared.refusal.Refusal.TheVariants as refusals
use Rattle.model.proofs.FieldBefore.{stage_until}
use Rattle.traces.specs.Rules.{Keeps}
use Rattle.traces.specs.Words.Stage.{Held}
use Rattle.traces.proofs.Quiet.{shows_the_view, revert_taken}
use Rattle.model.proofs.Cases.{by_if}
use Rattle.model.proofs.Stages.{acks_posted, by_acks}
use Rattle.model.proofs.FieldLaws.{rest_keeps, reverted_then, trace_keeps, run_holds}
use Rattle.model.proofs.Entry.{IsAck}

coming_makes : (ks : List Known) (acc : List Doing) → makings_done acc ≡ [] → makings_done (behind_all (λ e did. e ∷ did) (map Came ks) acc) ≡ []
unfolding behind_all
coming_makes [] acc none = none
coming_makes (k ∷ ks) acc none = coming_makes ks (Came k ∷ acc) none

-- what is taken makes nothing
take_makes : (c : Config) (p epoch made : ℕ) (old : List Doing) (parts : List DownPart) → AllByRecursion (PartFits p made) parts → (acc : List Doing) → makings_done acc ≡ []
    → makings_done (after_parts (take_rules p epoch) (λ did. own_asked c.tabs p (did ++ old)) (λ e did. e ∷ did) acc parts) ≡ []
unfolding after_parts behind_all take.says take.note
take_makes c p epoch made old [] kinds acc none = none
take_makes c p epoch made old (downs.Create k ∷ parts) kinds acc none = take_makes c p epoch made old parts kinds.1 (Came k ∷ acc) none
take_makes c p epoch made old (downs.Discard w ∷ parts) kinds acc none = take_makes c p epoch made old parts kinds.1 (Went w ∷ acc) none
take_makes c p epoch made old (downs.Commit x d ∷ parts) kinds acc none = by_held ((own_asked c.tabs p (acc ++ old)).holds x) (take_makes c p epoch made old parts kinds.1)
  where
    by_held : (v : Bool)
        → ((acc : List Doing) → makings_done acc ≡ [] → makings_done (after_parts (take_rules p epoch) (λ did. own_asked c.tabs p (did ++ old)) (λ e did. e ∷ did) acc parts) ≡ [])
        → makings_done (after_parts (take_rules p epoch) (λ did. own_asked c.tabs p (did ++ old)) (λ e did. e ∷ did)
        (behind_all (λ e did. e ∷ did) (take.says (downs.Commit x d) (if v then notes.Commit x (taken_notes epoch (own_asked c.tabs p (acc ++ old)) x d) else notes.CommitIgnored x)) acc) parts) ≡ []
    by_held true rest = rest (Given x (changes_where (is_noted is_applied (taken_notes epoch (own_asked c.tabs p (acc ++ old)) x d)) d) ∷ acc) none
    by_held false rest = rest acc none
take_makes c p epoch made old (downs.Register g ks ∷ parts) kinds acc none = take_makes c p epoch made old parts kinds.1 (behind_all (λ e did. e ∷ did) (map Came ks) acc) (coming_makes ks acc none)
take_makes c p epoch made old (downs.Kill ∷ parts) kinds acc none = take_makes c p epoch made old parts kinds.1 (Stopped ∷ acc) none
take_makes c p epoch made old (_ ∷ parts) kinds acc none = absurd kinds.0

-- acknowledgements have no value
acks_value : (x : ContextId) (f : Field) (parts : List UpPart) → AllByRecursion IsAck parts → value_in_parts x f parts ≡ None
acks_value x f [] acks = refl
acks_value x f (ups.DropAck y ∷ parts) acks = acks_value x f parts acks.1
acks_value x f (_ ∷ parts) acks = absurd acks.0

-- a write of no value changes no view
answer_on : {V : Type 0} (s : Stage) (h : Trace V) (u : Fate) → words.is_answer s (Writes None ∷ h) u ≡ words.is_answer s h u
answer_on s h Unheard = refl
answer_on s h (Accepted k) = refl
answer_on s h (Reverted k) = refl
answer_on s h (Ignored k) = refl

view_on : (start : Start Value) (h : Trace Value) → words.view start (Writes None ∷ h) ≡ words.view start h
view_on start h = ap (λ (b : Bool). if nat_lt 0 (words.newest h) && not b then words.own_value start.initial h else words.value_at start.initial (words.point h) h) (answer_on start.stage h (words.fate (words.newest h) h))

pub shown_on : (start : Start Value) (h : Trace Value) (w : Option Value) → w ≡ None → while_held (stage start.stage (Writes w ∷ h)) (words.view start (Writes w ∷ h)) ≡ while_held (stage start.stage h) (words.view start h)
shown_on start h w none = ap (λ v. while_held (stage start.stage h) (words.view start (Writes v ∷ h))) none ∙ ap (while_held (stage start.stage h)) (view_on start h)

-- ---- the bundle that is taken

module _ (r : Run) (a : Answer) (p : ProcId) (x : ContextId) (f : Field) (fits : RunFits (run_with r (record { step = Take p; answer = a }))) (honest : is_honest r.config p.0 r.journal ≡ true) where
  abbrev c : Config
  c = r.config

  abbrev ms : List Moment
  ms = moments_of r.config r.journal

  abbrev h : List ProcessEvent
  h = events_of p.0 (moments_of r.config r.journal)

  abbrev mk : List Making
  mk = makings p.0 (moments_of r.config r.journal)

  now_holds : Holds r.config p.0 (moments_of r.config r.journal)
  now_holds = holds c p.0 r.journal fits.config.few fits.steps.0 fits.steps.1 honest

  now_run : RunTies r.config p.0 mk (moments_of r.config r.journal)
  now_run = own_run c p.0 r.journal now_holds

  module _ (d : Bundle DownBundle) (rest : List (Bundle DownBundle)) (waits : bundles_waiting h ≡ d ∷ rest) where
    abbrev m : Moment
    m = taken_moment r.config p.0 (moments_of r.config r.journal) (d ∷ rest)

    did : List Doing
    did = Took ∷ after_parts (take_rules p.0 d.content.epoch.0) (λ did. own_asked c.tabs p.0 (did ++ did_by p.0 ms)) (λ e did. e ∷ did) [] d.content.parts

    itself : (p.0 == p.0) ≡ true
    itself = eq-eqb p.0 p.0 refl

    did_is : m.did p.0 ≡ Took ∷ after_parts (take_rules p.0 d.content.epoch.0) (λ did. own_asked r.config.tabs p.0 (did ++ did_by p.0 (moments_of r.config r.journal))) (λ e did. e ∷ did) [] d.content.parts
    did_is = ap (λ (b : Bool). if b then Took ∷ after_parts (take_rules p.0 d.content.epoch.0) (λ did. own_asked c.tabs p.0 (did ++ did_by p.0 ms)) (λ e did. e ∷ did) [] d.content.parts else []) itself

    kinds : AllByRecursion (PartFits p.0 (seen_now r.config p.0 (moments_of r.config r.journal)).frames_made) d.content.parts
    kinds = (subst (AllByRecursion (λ (d : Bundle DownBundle). DownFits c p.0 mk (seen_now c p.0 ms).frames_made d.content.parts)) waits now_run.downs).0.kinds

    same_makings : makings p.0 (m ∷ moments_of r.config r.journal) ≡ mk
    same_makings = ap (λ ns. ns ++ mk) (ap makings_done did_is ∙ take_makes c p.0 d.content.epoch.0 (seen_now c p.0 ms).frames_made (did_by p.0 ms) d.content.parts kinds [] refl)

    -- what is shown behind these events
    abbrev Claim : List Making → List ProcessEvent → Type 0
    Claim ns es = Keeps (begin r.config p.0 x f) (trace_for (look x f ns) (es ++ h)) → stage (begin r.config p.0 x f).stage (trace_for (look x f ns) (es ++ h)) ≡ Held
        → while_held (stage (begin r.config p.0 x f).stage (trace_for (look x f ns) (es ++ h))) (words.view (begin r.config p.0 x f) (trace_for (look x f ns) (es ++ h)))
        ≡ Some (words.value_at (begin r.config p.0 x f).initial d.entry (trace_for (look x f mk) h))

    module _ (reverted : words.fate (words.newest (trace_for (look x f mk) h)) (trace_for (look x f mk) h) ≡ Reverted d.entry) where
      taken_claim : Claim mk (Takes d ∷ [])
      taken_claim keeps in_stage =
          sym (shows_the_view Value (begin c p.0 x f) (Takes (bundle_for (look x f mk).content_in d) ∷ trace_for (look x f mk) h) keeps)
          ∙ revert_taken Value (begin c p.0 x f) (bundle_for (look x f mk).content_in d) (trace_for (look x f mk) h) keeps reverted in_stage

      acked_claim : (u : UpBundle) → AllByRecursion IsAck u.parts → Claim mk (Writes (Own u) ∷ Takes d ∷ [])
      acked_claim u acks keeps in_stage =
          shown_on (begin c p.0 x f) (Takes (bundle_for (look x f mk).content_in d) ∷ trace_for (look x f mk) h) (value_in_parts x f u.parts) (acks_value x f u.parts acks)
          ∙ taken_claim (rest_keeps (begin c p.0 x f) (Writes (value_in_parts x f u.parts)) (Takes (bundle_for (look x f mk).content_in d) ∷ trace_for (look x f mk) h) keeps) in_stage

      posts_are : AllByRecursion IsAck (if list_any is_kill d.content.parts then [] else posts_of (take_rules p.0 d.content.epoch.0) (λ did. own_asked r.config.tabs p.0 (did ++ did_by p.0 (moments_of r.config r.journal))) (λ e did. e ∷ did) [] d.content.parts)
      posts_are = by_if (AllByRecursion IsAck) (list_any is_kill d.content.parts) [] (posts_of (take_rules p.0 d.content.epoch.0) (λ did. own_asked c.tabs p.0 (did ++ did_by p.0 ms)) (λ e did. e ∷ did) [] d.content.parts) (λ kill. tt)
          (λ lives. acks_posted p.0 d.content.epoch.0 (λ did. own_asked c.tabs p.0 (did ++ did_by p.0 ms)) (λ e did. e ∷ did) d.content.parts [])

      all_claim : Claim (makings p.0 (m ∷ moments_of r.config r.journal)) (m.events p.0)
      all_claim = subst (λ ns. Claim ns (m.events p.0)) (sym same_makings) (by_itself (p.0 == p.0) itself)
        where
          by_itself : (b : Bool) → b ≡ true → Claim mk (if b then written (bundle_sent (own_asked r.config.tabs p.0 ((Took ∷ after_parts (take_rules p.0 d.content.epoch.0) (λ did. own_asked r.config.tabs p.0 (did ++ did_by p.0 (moments_of r.config r.journal))) (λ e did. e ∷ did) [] d.content.parts) ++ did_by p.0 (moments_of r.config r.journal)))
              (if list_any is_kill d.content.parts then [] else posts_of (take_rules p.0 d.content.epoch.0) (λ did. own_asked r.config.tabs p.0 (did ++ did_by p.0 (moments_of r.config r.journal))) (λ e did. e ∷ did) [] d.content.parts)) ++ Takes d ∷ [] else [])
          by_itself true is = by_acks (λ es. Claim mk (es ++ Takes d ∷ [])) (own_asked c.tabs p.0 ((Took ∷ after_parts (take_rules p.0 d.content.epoch.0) (λ did. own_asked c.tabs p.0 (did ++ did_by p.0 ms)) (λ e did. e ∷ did) [] d.content.parts) ++ did_by p.0 ms)) (if list_any is_kill d.content.parts then [] else posts_of (take_rules p.0 d.content.epoch.0) (λ did. own_asked c.tabs p.0 (did ++ did_by p.0 ms)) (λ e did. e ∷ did) [] d.content.parts) posts_are taken_claim acked_claim
          by_itself false isnt = absurd cc

-- ---- the law

own_take : (o : Option UpBundle) (d : Bundle DownBundle) (h : List ProcessEvent) → all_own h ≡ true → all_own ((written o ++ Takes d ∷ []) ++ h) ≡ true
own_take None d h e = e
own_take (Some b) d h e = e

own_taken : (c : Config) (p : ℕ) (before : List Moment) (ds : List (Bundle DownBundle)) → all_own (events_of p before) ≡ true → all_own ((taken_moment c p before ds).events p ++ events_of p before) ≡ true
own_taken c p before [] e = e
own_taken c p before (d ∷ ds) e = by_if (λ es. all_own (es ++ events_of p before) ≡ true) (p == p)
    (written (bundle_sent (own_asked c.tabs p ((Took ∷ after_parts (take_rules p d.content.epoch.0) (λ did. own_asked c.tabs p (did ++ did_by p before)) (λ e did. e ∷ did) [] d.content.parts) ++ did_by p before))
    (if list_any is_kill d.content.parts then [] else posts_of (take_rules p d.content.epoch.0) (λ did. own_asked c.tabs p (did ++ did_by p before)) (λ e did. e ∷ did) [] d.content.parts)) ++ Takes d ∷ []) []
    (λ is. own_take (bundle_sent (own_asked c.tabs p ((Took ∷ after_parts (take_rules p d.content.epoch.0) (λ did. own_asked c.tabs p (did ++ did_by p before)) (λ e did. e ∷ did) [] d.content.parts) ++ did_by p before))
    (if list_any is_kill d.content.parts then [] else posts_of (take_rules p d.content.epoch.0) (λ did. own_asked c.tabs p (did ++ did_by p before)) (λ e did. e ∷ did) [] d.content.parts)) d (events_of p before) e) (λ isnt. e)

-- what the process shows behind a moment
abbrev shown_behind : Run → ℕ → ContextId → Field → Moment → Option Value
shown_behind r p x f m = while_held (stage (begin r.config p x f).stage (trace p x f (m ∷ moments_of r.config r.journal))) (words.view (begin r.config p x f) (trace p x f (m ∷ moments_of r.config r.journal)))

keeps_behind : (r : Run) (p : ℕ) (x : ContextId) (f : Field) → RunFits r → p < length r.config.types → all_own (events_of p (moments_of r.config r.journal)) ≡ true → Keeps (begin r.config p x f) (trace p x f (moments_of r.config r.journal))
keeps_behind r p x f fits lt honest = trace_keeps r p x f (run_holds r p fits lt honest)

stage_behind : (r : Run) (p : ℕ) (x : ContextId) (f : Field) → RunFits r → p < length r.config.types → all_own (events_of p (moments_of r.config r.journal)) ≡ true → (seen_now r.config p (moments_of r.config r.journal)).holds x ≡ true
    → stage (begin r.config p x f).stage (trace p x f (moments_of r.config r.journal)) ≡ Held
stage_behind r p x f fits lt honest held =
    let t : Holds r.config p (moments_of r.config r.journal) = run_holds r p fits lt honest in
    let run : RunTies r.config p (makings p (moments_of r.config r.journal)) (moments_of r.config r.journal) = own_run r.config p r.journal t in
    (run.fields.own x f).ties.stages
    ∙ sym (stage_until r.config p (makings p (moments_of r.config r.journal)) x (events_of p (moments_of r.config r.journal)))
    ∙ held_only _ (run.trees.seen.stages x ∙ held)

pub revert_shows : RevertTakenShowsTheParent
unfolding view moments_of
revert_shows r a p x f k fits honest held sent reverted =
    by_run ((seen_now r.config p.0 (moments_of r.config r.journal)).running) refl
    (keeps_behind (run_with r (record { step = Take p; answer = a })) p.0 x f fits fits.steps.0 own_next)
    (stage_behind (run_with r (record { step = Take p; answer = a })) p.0 x f fits fits.steps.0 own_next held)
  where
    own_next : all_own ((if_running r.config p.0 (moments_of r.config r.journal) (taken_moment r.config p.0 (moments_of r.config r.journal) (bundles_waiting (events_of p.0 (moments_of r.config r.journal))))).events p.0 ++ events_of p.0 (moments_of r.config r.journal)) ≡ true
    own_next = by_if (λ (m : Moment). all_own (m.events p.0 ++ events_of p.0 (moments_of r.config r.journal)) ≡ true) (seen_now r.config p.0 (moments_of r.config r.journal)).running
        (taken_moment r.config p.0 (moments_of r.config r.journal) (bundles_waiting (events_of p.0 (moments_of r.config r.journal)))) (only_answer (Refused refusals.Stopped))
        (λ runs. own_taken r.config p.0 (moments_of r.config r.journal) (bundles_waiting (events_of p.0 (moments_of r.config r.journal))) honest) (λ stops. honest)

    go : (ds : List (Bundle DownBundle)) → bundles_waiting (events_of p.0 (moments_of r.config r.journal)) ≡ ds → first_sent ds ≡ Some k
        → Keeps (begin r.config p.0 x f) (trace p.0 x f (taken_moment r.config p.0 (moments_of r.config r.journal) ds ∷ moments_of r.config r.journal))
        → stage (begin r.config p.0 x f).stage (trace p.0 x f (taken_moment r.config p.0 (moments_of r.config r.journal) ds ∷ moments_of r.config r.journal)) ≡ Held
        → shown_behind r p.0 x f (taken_moment r.config p.0 (moments_of r.config r.journal) ds) ≡ Some (value_at r.config p.0 x f k r.journal)
    go [] waits e keeps in_stage = absurd cc
    go (d ∷ ds) waits e keeps in_stage =
        subst (λ (o : Option ℕ). shown_behind r p.0 x f (taken_moment r.config p.0 (moments_of r.config r.journal) (d ∷ ds)) ≡ Some (value_at r.config p.0 x f (unwrap_or o 0) r.journal)) e
        (all_claim r a p x f fits honest d ds waits
        (reverted_then (words.fate (words.newest (trace p.0 x f (moments_of r.config r.journal))) (trace p.0 x f (moments_of r.config r.journal))) k reverted ∙ ap (λ (o : Option ℕ). Reverted (unwrap_or o 0)) (sym e)) keeps in_stage)

    never_waits : (ds : List (Bundle DownBundle)) → first_sent ds ≡ Some k → ds ≡ [] → ⊥
    never_waits [] e none = absurd cc
    never_waits (d ∷ ds) e none = cc

    by_run : (v : Bool) → (seen_now r.config p.0 (moments_of r.config r.journal)).running ≡ v
        → Keeps (begin r.config p.0 x f) (trace p.0 x f ((if v then taken_moment r.config p.0 (moments_of r.config r.journal) (bundles_waiting (events_of p.0 (moments_of r.config r.journal))) else only_answer (Refused refusals.Stopped)) ∷ moments_of r.config r.journal))
        → stage (begin r.config p.0 x f).stage (trace p.0 x f ((if v then taken_moment r.config p.0 (moments_of r.config r.journal) (bundles_waiting (events_of p.0 (moments_of r.config r.journal))) else only_answer (Refused refusals.Stopped)) ∷ moments_of r.config r.journal)) ≡ Held
        → shown_behind r p.0 x f (if v then taken_moment r.config p.0 (moments_of r.config r.journal) (bundles_waiting (events_of p.0 (moments_of r.config r.journal))) else only_answer (Refused refusals.Stopped))
        ≡ Some (value_at r.config p.0 x f k r.journal)
    by_run true runs keeps in_stage = go (bundles_waiting (events_of p.0 (moments_of r.config r.journal))) refl sent keeps in_stage
    by_run false stops keeps in_stage = absurd (never_waits (bundles_waiting (events_of p.0 (moments_of r.config r.journal))) sent ((now_run r a p x f fits honest).stops.stopped stops))
