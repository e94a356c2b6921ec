-- What holds of a process before an entry, as its fields need it; and what holds of a field at each moment.
use Rattle.std.proofs.Common.{◌≡◌, ◌⊎◌, ℕ, ◌+◌, ◌<◌, ◌≤◌, Bool, true, false, if◌then◌else◌, Option, None, Some, is_some, List, [], ◌∷◌, ◌++◌, length, drop, zero, suc, map, refl, ap, ◌∙◌}
use Rattle.std.specs.List.{AllByRecursion}
use Rattle.fission_ids.specs.declared.context.ContextId.{ContextId}
use Rattle.field_table.specs.declared.field.Field.{Field}
use Rattle.field_table.specs.declared.value.Value.{Value}
use Rattle.field_table.specs.Field.{initial}
use Rattle.transaction.specs.Transaction.{Changes}
use Rattle.wire_msgs.specs.declared.bundle.DownBundle.{DownBundle}
use Rattle.wire_msgs.specs.declared.bundle.UpBundle.{UpBundle}
use Rattle.wire_msgs.specs.declared.config.Config.{Config}
use Rattle.wire_msgs.specs.declared.note.FieldNote.{FieldNote}
use Rattle.traces.specs.Event.{Bundle}
use Rattle.traces.specs.Event.Event.{Writes, Sends, Takes, Reverts, Does, Ends}
use Rattle.traces.specs.Field.{Content, Trace, bundle_for, reverted_for}
use Rattle.traces.specs.Field.Content.{Nothing, Gives, Begins, Removes, Leaves}
use Rattle.traces.specs.Laws.{Apart, Projected}
use Rattle.traces.specs.Links.{writes, bundles_sent, bundles_waiting, now, is_ended}
use Rattle.traces.specs.Rules.{Flows, Rises, Fits, NoNews, Untouched, Stays}
use Rattle.traces.specs.Words.{Stage, last_leaving}
use Rattle.traces.specs.Words.Stage.{Coming, Gone}
use Rattle.traces.specs.Words as words
use Rattle.traces.proofs.Projection.{projection}
use Rattle.trees.specs.Look.{Effect}
use Rattle.trees.specs.Look.Effect.{Comes}
use Rattle.trees.specs.Words.{stage, Stands}
use Rattle.model.specs.Lines.{Making, makings_said, makings_done, line}
use Rattle.model.specs.Moments.{Moment, Written, ProcessEvent, said, events_of, facts_now, seen_now}
use Rattle.model.specs.Trees.{tree_look, tree_begin}
use Rattle.model.specs.View.{content_of, singles, value_written, begin}
use Rattle.model.specs.View as view
use Rattle.model.proofs.Contents.{content_stays, leaving_stays}
use Rattle.model.proofs.Entry.{HeardCommit}
use Rattle.model.proofs.Fitting.{AllFit, FactsTies}
use Rattle.model.proofs.Holding.{SeenTies}
use Rattle.model.proofs.Lining.{Lined, IsToldBy}
use Rattle.model.proofs.Stages.{trace_of, tree_stage, SameStage}
use Rattle.model.proofs.TreeEvents.{until_end, own_only, all_but_end}
use Rattle.model.proofs.TreeFacts.{TreeFacts}
use Rattle.model.proofs.TreeOwn.{TreeSeen}

-- the premises, each shown by another proof; mk are the makings of the whole run
pub record FieldBefore (c : Config) (p : ℕ) (mk : List Making) (ms : List Moment) (m : Moment) : Type 0 where
  pub low : p < 16
  pub lined : Lined mk
  pub told : AllByRecursion (IsToldBy mk) (makings_said m.says)
  pub told_did : AllByRecursion (IsToldBy mk) (makings_done (m.did p))
  pub fit : AllFit c.tabs (said ms)
  pub facts : FactsTies c.tabs mk (facts_now c ms)
  pub tree : is_ended (events_of p ms) ≡ false → TreeFacts c p mk (facts_now c ms) (events_of p ms)
  pub ties : SeenTies c.tabs p mk (seen_now c p ms)
  pub seen : TreeSeen c p mk (seen_now c p ms) (until_end (events_of p ms))
  -- what the process made and the parent knows was made
  pub named : (x : ContextId) → x.creator ≡ p + 1 → (facts_now c ms).contexts.known x ≡ true → x.serial ≤ (seen_now c p ms).frames_made
  pub over : is_ended (events_of p ms) ≡ is_some ((facts_now c ms).processes.ended p)
  -- a commit is heard of who wasn't ended
  pub heard_alive : (b : UpBundle) (x : ContextId) (t : Changes) (ns : List FieldNote) (back : Option DownBundle) → HeardCommit c p ms m b x t ns back → is_ended (events_of p ms) ≡ false
  pub flows : Flows (events_of p ms)
  pub next_flows : Flows (m.events p ++ events_of p ms)
  pub rises : Rises (events_of p ms)

-- a write of the field stands behind the making of the context
abbrev pub MadeFirst : (Written → Effect) → (Written → Option Value) → List Written → Type 0
MadeFirst does value_in [] = Unit {0}
MadeFirst does value_in (w ∷ ws) = ((value_in w ≡ None) ⊎ (Stands does Comes ws → ⊥)) × MadeFirst does value_in ws

-- of what isn't known nothing was said
pub record IsUnsaid {V : Type 0} (h : Trace V) : Type 0 where
  pub untouched : Untouched h
  pub no_news : NoNews (bundles_sent h)

-- what holds of a field of a context
pub record FieldTies (c : Config) (p : ℕ) (mk : List Making) (x : ContextId) (fld : Field) (ms : List Moment) : Type 0 where
  pub apart : Apart (view.look x fld mk) (events_of p ms)
  pub now_is : now (events_of p ms) ≤ length ms
  pub stages : SameStage c p mk x fld (events_of p ms)
  pub fits : Fits (begin c p x fld) (trace_of c p mk x fld (events_of p ms))
  pub told : (facts_now c ms).contexts.live x ≡ true → (facts_now c ms).contexts.value x fld ≡ Some (words.value (initial fld) (trace_of c p mk x fld (events_of p ms)))
  pub unknown : (facts_now c ms).contexts.known x ≡ false → IsUnsaid (trace_of c p mk x fld (events_of p ms))
  pub unwritten : tree_stage c p mk x fld (events_of p ms) ≡ Coming → AllByRecursion (λ w. value_written x fld w ≡ None) (writes (events_of p ms))
  pub made_first : MadeFirst ((tree_look c p mk).does x) (value_written x fld) (writes (events_of p ms))

-- ---- what doesn't depend on the end

own_stage : (c : Config) (p : ℕ) (mk : List Making) (x : ContextId) (e : ProcessEvent) (g h : List ProcessEvent) → stage (tree_look c p mk) (tree_begin c p mk) x g ≡ stage (tree_look c p mk) (tree_begin c p mk) x h
    → stage (tree_look c p mk) (tree_begin c p mk) x (own_only e g) ≡ stage (tree_look c p mk) (tree_begin c p mk) x (e ∷ h)
own_stage c p mk x (Writes w) g h e = ap (Rattle.trees.specs.Look.moved ((tree_look c p mk).does x w)) e
own_stage c p mk x (Takes d) g h e = ap (Rattle.trees.specs.Look.moved ((tree_look c p mk).tells x d.content)) e
own_stage c p mk x (_) g h e = e

but_stage : (c : Config) (p : ℕ) (mk : List Making) (x : ContextId) (e : ProcessEvent) (g h : List ProcessEvent) → stage (tree_look c p mk) (tree_begin c p mk) x g ≡ stage (tree_look c p mk) (tree_begin c p mk) x h
    → stage (tree_look c p mk) (tree_begin c p mk) x (all_but_end e g) ≡ stage (tree_look c p mk) (tree_begin c p mk) x (e ∷ h)
but_stage c p mk x (Writes w) g h e = ap (Rattle.trees.specs.Look.moved ((tree_look c p mk).does x w)) e
but_stage c p mk x (Takes d) g h e = ap (Rattle.trees.specs.Look.moved ((tree_look c p mk).tells x d.content)) e
but_stage c p mk x (_) g h e = e

pub stage_until : (c : Config) (p : ℕ) (mk : List Making) (x : ContextId) (h : List ProcessEvent) → stage (tree_look c p mk) (tree_begin c p mk) x (until_end h) ≡ stage (tree_look c p mk) (tree_begin c p mk) x h
stage_until c p mk x [] = refl
stage_until c p mk x (e ∷ h) = by_end (is_ended h) (stage_until c p mk x h)
  where
    by_end : (b : Bool) → stage (tree_look c p mk) (tree_begin c p mk) x (until_end h) ≡ stage (tree_look c p mk) (tree_begin c p mk) x h
        → stage (tree_look c p mk) (tree_begin c p mk) x (if b then own_only e (until_end h) else all_but_end e (until_end h)) ≡ stage (tree_look c p mk) (tree_begin c p mk) x (e ∷ h)
    by_end true rest = own_stage c p mk x e (until_end h) h rest
    by_end false rest = but_stage c p mk x e (until_end h) h rest

-- ---- the trace of a field

pub projected : (c : Config) (p : ℕ) (mk : List Making) (x : ContextId) (fld : Field) (ms : List Moment) (m : Moment) → FieldBefore c p mk ms m → FieldTies c p mk x fld ms → Projected (view.look x fld mk) (events_of p ms)
projected c p mk x fld ms m b t = projection Written DownBundle Value (view.look x fld mk) (events_of p ms) b.flows b.rises t.apart

-- behind its end a process is served nothing
pub ended_unserved : {V : Type 0} (s : Stage) (h : Trace V) → Flows h → is_ended h ≡ true → words.stage_served s h ≡ Gone
ended_unserved s [] f e = absurd cc
ended_unserved s (Sends k u c ∷ h) f e = let live : is_ended h ≡ false = f.0 in absurd cc
ended_unserved s (Reverts k w c ∷ h) f e = let live : is_ended h ≡ false = f.0.alive in absurd cc
ended_unserved s (Does c ∷ h) f e = ap (λ (b : Bool). if b then Gone else words.stage_behind (words.after c (words.stage s h)) (bundles_waiting h)) e
ended_unserved s (Ends ∷ h) f e = refl
ended_unserved s (_ ∷ h) f e = ended_unserved s h f.1 e

leaving_back : {V : Type 0} (k : ℕ) (w : Option V) (c : Content V) (h : Trace V) → last_leaving (reverted_for k w c h) ≡ last_leaving h
leaving_back k None c h = refl
leaving_back k (Some v) Nothing h = refl
leaving_back k (Some v) (Gives back) h = refl
leaving_back k (Some v) (Begins b) h = refl
leaving_back k (Some v) Removes h = refl
leaving_back k (Some v) Leaves h = refl

-- it is never taken out of a group
pub never_leaves : (c : Config) (p : ℕ) (mk : List Making) (x : ContextId) (fld : Field) (h : List ProcessEvent) → last_leaving (trace_of c p mk x fld h) ≡ 0
never_leaves c p mk x fld [] = refl
never_leaves c p mk x fld (Takes d ∷ h) =
    leaving_stays (content_of x (line x mk) fld (singles d.content.parts)) (Rattle.traces.specs.Links.last_write (trace_of c p mk x fld h)) (last_leaving (trace_of c p mk x fld h))
    (content_stays x (line x mk) fld (singles d.content.parts))
    ∙ never_leaves c p mk x fld h
never_leaves c p mk x fld (Reverts k w d ∷ h) = leaving_back k (value_written x fld w) (content_of x (line x mk) fld (singles d.parts)) (trace_of c p mk x fld h) ∙ never_leaves c p mk x fld h
never_leaves c p mk x fld (_ ∷ h) = never_leaves c p mk x fld h

pub all_stay : (x : ContextId) (ln : List ContextId) (fld : Field) (ds : List (Bundle DownBundle)) → Stays (map (bundle_for (λ (d : DownBundle). content_of x ln fld (singles d.parts))) ds)
all_stay x ln fld [] = tt
all_stay x ln fld (d ∷ ds) = (content_stays x ln fld (singles d.content.parts), all_stay x ln fld ds)

pub news_drop : {V : Type 0} (n : ℕ) (ds : List (Bundle (Content V))) → NoNews ds → NoNews (drop n ds)
news_drop zero ds none = none
news_drop (suc n) [] none = none
news_drop (suc n) (d ∷ ds) none = news_drop n ds none.1
