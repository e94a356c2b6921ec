-- The laws of fields: a process shows its view, quiet links, reverts that wait, and who is ended.
use Rattle.std.proofs.Common.{◌≡◌, ℕ, ◌<◌, ◌≤◌, true, Option, None, Some, List, [], ◌∷◌, ◌++◌, length, map, ap, ap₂, sym, subst, ◌∙◌, arith}
use Rattle.std.specs.Prelude.{unwrap_or, max}
use Rattle.fission_ids.specs.declared.context.ContextId.{ContextId}
use Rattle.field_table.specs.declared.field.Field.{Field}
use Rattle.field_table.specs.declared.value.Value.{Value}
use Rattle.wire_msgs.specs.declared.bundle.DownBundle.{DownBundle}
use Rattle.wire_msgs.specs.declared.config.Config.{Config}
use Rattle.traces.specs.Field.{bundle_for}
use Rattle.traces.specs.Laws.{Projected}
use Rattle.traces.specs.Links.{writes_waiting, bundles_waiting}
use Rattle.traces.specs.Rules.{Keeps}
use Rattle.traces.specs.Words.{Fate, stage}
use Rattle.traces.specs.Words.Stage.{Held}
use Rattle.traces.specs.Words.Fate.{Unheard, Accepted, Reverted, Ignored}
use Rattle.traces.specs.Words as words
use Rattle.model.specs.Laws.{RunFits, IsAtRest, PointNeverFalls, ProcessShowsTheView, QuietShowsTheParent, RevertsWait, HonestAreOnlyKilled}
use Rattle.model.specs.Lines.{Making, makings, line}
use Rattle.model.specs.Moments.{Moment, Written, ProcessEvent, moment, events_of, moments_of}
use Rattle.model.specs.Next.{Run, run_with}
use Rattle.model.specs.View.{look, value_written, singles, content_of, begin, trace, view, entry_of_revert}
use Rattle.model.proofs.Fields.{all_keep, all_views}
use Rattle.model.proofs.Living.{held_only}
use Rattle.model.proofs.QuietTrees.{all, run, runs, ts, up, down, held_live, held_told}
use Rattle.model.proofs.RunHolds.{Holds, holds, own_run}
use Rattle.model.proofs.Run.{RunTies, all_behind}
use Rattle.traces.proofs.Projection.{projection}
use Rattle.traces.proofs.Quiet.{shows_the_view, never_falls, quiet, wait}
use Rattle.traces.specs.Field.{Content, FieldEvent, Trace, reverted_for, trace_for}
use Rattle.traces.specs.Field.Content.{Nothing, Gives, Begins, Removes, Leaves}
use Rattle.traces.specs.Words.{Start}
use Rattle.traces.specs.Event.Event.{Reverts}
use Rattle.protocol.specs.Outside.{told_allowed}
use Rattle.model.proofs.Backs.{BackFits, base_same, accepted_same}
use Rattle.model.specs.View.{all_own}
use Rattle.model.proofs.Fields.{FieldHolds}

pub trace_keeps : (r : Run) (p : ℕ) (x : ContextId) (f : Field) → Holds r.config p (moments_of r.config r.journal) → Keeps (begin r.config p x f) (trace p x f (moments_of r.config r.journal))
trace_keeps r p x f t = let run : RunTies r.config p (makings p (moments_of r.config r.journal)) (moments_of r.config r.journal) = own_run r.config p r.journal t in
    all_keep r.config p (makings p (moments_of r.config r.journal)) (moments_of r.config r.journal) run.flows t.rises.rises run.fields x f

pub run_holds : (r : Run) (p : ℕ) → RunFits r → p < length r.config.types → all_own (events_of p (moments_of r.config r.journal)) ≡ true → Holds r.config p (moments_of r.config r.journal)
run_holds r p fits lt honest = holds r.config p r.journal fits.config.few lt fits.steps honest

pub process_shows : ProcessShowsTheView
process_shows r p x f fits lt honest =
    let t : Holds r.config p (moments_of r.config r.journal) = run_holds r p fits lt honest in
    let run : RunTies r.config p (makings p (moments_of r.config r.journal)) (moments_of r.config r.journal) = own_run r.config p r.journal t in
    all_views r.config p x f r.journal run.flows t.rises.rises run.fields

pub only_killed : HonestAreOnlyKilled
only_killed r p cause fits lt honest over = (own_run r.config p r.journal (run_holds r p fits lt honest)).killed cause over

-- what an entry reverted is a revert
pub reverted_then : (u : Fate) (k : ℕ) → entry_of_revert u ≡ Some k → u ≡ Reverted k
reverted_then (Reverted j) k e = ap (λ (o : Option ℕ). Reverted (unwrap_or o 0)) e
reverted_then Unheard k e = absurd cc
reverted_then (Accepted j) k e = absurd cc
reverted_then (Ignored j) k e = absurd cc

pub reverts_stand : RevertsWait
reverts_stand r p x f n k fits lt honest reverted open_yet =
    wait Value (begin r.config p x f) n k (trace p x f (moments_of r.config r.journal)) (trace_keeps r p x f (run_holds r p fits lt honest)) (reverted_then (words.fate n (trace p x f (moments_of r.config r.journal))) k reverted) open_yet

-- ---- quiet links

pub quiet_shows : QuietShowsTheParent
unfolding view
quiet_shows r p x f fits lt honest alive nothing held =
    let rest : IsAtRest r p = record { fits = fits; process = lt; honest = honest; runs = alive; quiet = nothing } in
    let holds_x : FieldHolds r.config p (makings p (moments_of r.config r.journal)) x f (moments_of r.config r.journal) = (run r p rest).fields.own x f in
    let t : Holds r.config p (moments_of r.config r.journal) = all r p rest in
    let same : Projected (look x f (makings p (moments_of r.config r.journal))) (events_of p (moments_of r.config r.journal)) =
    projection Written DownBundle Value (look x f (makings p (moments_of r.config r.journal))) (events_of p (moments_of r.config r.journal)) (run r p rest).flows t.rises.rises holds_x.ties.apart in
    let up_none : writes_waiting (trace p x f (moments_of r.config r.journal)) ≡ [] = same.writes_wait ∙ ap (map (look x f (makings p (moments_of r.config r.journal))).value_in) (up r p rest) in
    let down_none : bundles_waiting (trace p x f (moments_of r.config r.journal)) ≡ [] = same.bundles_wait ∙ ap (map (bundle_for (look x f (makings p (moments_of r.config r.journal))).content_in)) (down r p rest) in
    let in_stage : stage (begin r.config p x f).stage (trace p x f (moments_of r.config r.journal)) ≡ Held = holds_x.ties.stages ∙ held_only _ ((ts r p rest).stages x ∙ held) in
    let keeps : Keeps (begin r.config p x f) (trace p x f (moments_of r.config r.journal)) = trace_keeps r p x f t in
    sym (shows_the_view Value (begin r.config p x f) (trace p x f (moments_of r.config r.journal)) keeps)
    ∙ quiet Value (begin r.config p x f) (trace p x f (moments_of r.config r.journal)) keeps (same.same_end ∙ runs r p rest) in_stage up_none down_none
    ∙ sym (holds_x.ties.told (sym (held_live r p rest x (held_told r p rest x held)) ∙ held))

-- ---- the point never falls

-- neither the base nor the point falls from one trace to another
abbrev RisesTo : Trace Value → Trace Value → Type 0
RisesTo g h = (words.base g ≤ words.base h) × (words.point g ≤ words.point h)

pub rest_keeps : {V : Type 0} (start : Start V) (e : FieldEvent V) (h : Trace V) → Keeps start (e ∷ h) → Keeps start h
rest_keeps start e h k = record { flows = k.flows.1; ordered = k.ordered.1; fits = k.fits.1 }

one_event : {start : Start Value} {e : FieldEvent Value} {h : Trace Value} (g : Trace Value) → Keeps start (e ∷ h) → (Keeps start h → RisesTo g h) → RisesTo g (e ∷ h)
one_event {start = start} {e = e} {h = h} g k before =
    let b : RisesTo g h = before (rest_keeps start e h k) in
    let n : (words.base h ≤ words.base (e ∷ h)) × (words.point h ≤ words.point (e ∷ h)) = never_falls Value start e h k in
    (omega (arith, b.0, n.0), omega (arith, b.1, n.1))

two_events : {start : Start Value} {e d : FieldEvent Value} {h : Trace Value} (g : Trace Value) → Keeps start (d ∷ e ∷ h) → (Keeps start h → RisesTo g h) → RisesTo g (d ∷ e ∷ h)
two_events g k before = one_event g k (λ rest. one_event g rest before)

-- a hear that sends something back is one event or two
event_back : {start : Start Value} {h : Trace Value} (g : Trace Value) (j : ℕ) (w : Option Value) (c : Content Value) → Keeps start (reverted_for j w c h) → (Keeps start h → RisesTo g h) → RisesTo g (reverted_for j w c h)
event_back g j None c k before = two_events g k before
event_back g j (Some v) (Gives back) k before = one_event g k before
event_back g j (Some v) Nothing k before = two_events g k before
event_back g j (Some v) (Begins b) k before = two_events g k before
event_back g j (Some v) Removes k before = two_events g k before
event_back g j (Some v) Leaves k before = two_events g k before

more_events : (start : Start Value) (x : ContextId) (f : Field) (mk : List Making) (new evs : List ProcessEvent) → Keeps start (trace_for (look x f mk) (new ++ evs)) → RisesTo (trace_for (look x f mk) evs) (trace_for (look x f mk) (new ++ evs))
more_events start x f mk [] evs k = (omega arith, omega arith)
more_events start x f mk (Reverts j w d ∷ new) evs k = event_back (trace_for (look x f mk) evs) j (value_written x f w) (content_of x (line x mk) f (singles d.parts)) k (more_events start x f mk new evs)
more_events start x f mk (_ ∷ new) evs k = one_event (trace_for (look x f mk) evs) k (more_events start x f mk new evs)

pub never_fall : PointNeverFalls
unfolding moments_of
never_fall r e p x f fits lt honest =
    let c : Config = r.config in
    let ms : List Moment = moments_of c r.journal in
    let m : Moment = moment c ms (told_allowed e.answer) e.step in
    let mk : List Making = makings p (m ∷ ms) in
    let t : Holds c p (m ∷ ms) = run_holds (run_with r e) p fits lt honest in
    let run : RunTies c p mk (m ∷ ms) = own_run c p (run_with r e).journal t in
    let up : RisesTo (trace_for (look x f mk) (events_of p ms)) (trace_for (look x f mk) (m.events p ++ events_of p ms)) =
    more_events (begin c p x f) x f mk (m.events p) (events_of p ms) (trace_keeps (run_with r e) p x f t) in
    let base : words.base (trace p x f ms) ≡ words.base (trace_for (look x f mk) (events_of p ms)) = base_same x f (makings p ms) mk (events_of p ms) in
    let accepted : words.accepted_at (trace p x f ms) ≡ words.accepted_at (trace_for (look x f mk) (events_of p ms)) =
    accepted_same x f (makings p ms) mk (events_of p ms) (all_behind BackFits (m.events p) (events_of p ms) run.backs) in
    let point : words.point (trace p x f ms) ≡ words.point (trace_for (look x f mk) (events_of p ms)) = ap₂ max base accepted in
    (subst (λ n. n ≤ words.base (trace_for (look x f mk) (m.events p ++ events_of p ms))) (sym base) up.0, subst (λ n. n ≤ words.point (trace_for (look x f mk) (m.events p ++ events_of p ms))) (sym point) up.1)
