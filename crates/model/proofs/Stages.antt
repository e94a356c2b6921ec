-- The stage of a context in the trace of a field is its stage in the trees, at the end of every entry, and what the
-- trace's parent serves is what the trees come to.
use Rattle.std.proofs.Common.{◌≡◌, ℕ, ◌+◌, Bool, true, false, if◌then◌else◌, Option, None, Some, List, [], ◌∷◌, ◌++◌, length, map, refl, ap, sym, subst, ◌∙◌}
use Rattle.std.specs.List.{AllByRecursion, list_any}
use Rattle.fission_ids.specs.declared.context.ContextId.{ContextId}
use Rattle.field_table.specs.declared.field.Field.{Field}
use Rattle.field_table.specs.declared.value.Value.{Value}
use Rattle.wire_msgs.specs.declared.answer.Answer.{Answer}
use Rattle.wire_msgs.specs.declared.answer.Answer.TheVariants.{Ended as EndedBy}
use Rattle.wire_msgs.specs.declared.bundle.DownBundle.{DownBundle}
use Rattle.wire_msgs.specs.declared.bundle.UpBundle.{UpBundle}
use Rattle.wire_msgs.specs.declared.config.Config.{Config}
use Rattle.wire_msgs.specs.declared.part.DownPart.{DownPart}
use Rattle.wire_msgs.specs.declared.part.DownPart.TheVariants as downs
use Rattle.wire_msgs.specs.declared.part.UpPart.{UpPart}
use Rattle.wire_msgs.specs.declared.part.UpPart.TheVariants as ups
use Rattle.protocol.specs.Fold.{posts_of}
use Rattle.protocol.specs.OwnActs.{next_frame}
use Rattle.protocol.specs.Sayings.{Saying}
use Rattle.protocol.specs.Seen.{Seen, Doing}
use Rattle.protocol.specs.Take.{take_rules, posts, bundle_sent, is_kill}
use Rattle.traces.specs.Event.{Bundle}
use Rattle.traces.specs.Event.Event.{Writes, Sends, Takes, Accepts, Reverts, Ignores, Changes as OthersChange, Ends}
use Rattle.traces.specs.Field.{Content, Trace, Look, bundle_for, reverted_for, trace_for}
use Rattle.traces.specs.Field.Content.{Nothing, Gives, Begins, Removes, Leaves}
use Rattle.traces.specs.Laws.{Projected}
use Rattle.traces.specs.Links.{bundles_waiting, is_ended}
use Rattle.traces.specs.Rules.{Flows}
use Rattle.traces.specs.Words.{Stage}
use Rattle.traces.specs.Words as words
use Rattle.traces.proofs.Stages.{along}
use Rattle.trees.specs.Look.{moved}
use Rattle.trees.specs.Look.Effect.{Stays}
use Rattle.trees.specs.Words.{stage, joint}
use Rattle.trees.proofs.Joint.{stage_behind, leads}
use Rattle.model.specs.Lines.{Making, line}
use Rattle.model.specs.Moments.{Moment, Written, ProcessEvent, events_of, seen_now, own_known, deed, written, told, heard, is_done}
use Rattle.model.specs.Moments.Written.{Own}
use Rattle.model.specs.Trees.{parts_do, parts_tell, tree_look, tree_begin}
use Rattle.model.specs.View.{content_of, singles, begin}
use Rattle.model.specs.View as view
use Rattle.model.proofs.Cases.{by_if}
use Rattle.model.proofs.Contents.{content_moves}
use Rattle.model.proofs.Entry.{IsAck, Hearing, Entry}
use Rattle.model.proofs.Entry.Entry.{Idle, Sets, Frames, Drops, TakesOne, Tells, Killing, HearsOne}
use Rattle.model.proofs.Entry.Hearing.{AsMade, AsLate, AsDrop, AsOldDrop, AsAcks, AsCommit, AsOldCommit, AsOver}

-- ---- what a process sends as it takes a bundle

pub acks_posted : {Kept : Type 0} (p epoch : ℕ) (seen : Kept → Seen) (next : Doing → Kept → Kept) (parts : List DownPart) (s : Kept) → AllByRecursion IsAck (posts_of (take_rules p epoch) seen next s parts)
unfolding posts_of posts
acks_posted p epoch seen next [] s = tt
acks_posted p epoch seen next (downs.Discard x ∷ parts) s = (tt, acks_posted p epoch seen next parts _)
acks_posted p epoch seen next (_ ∷ parts) s = acks_posted p epoch seen next parts _

-- a bundle of acknowledgements, or none
pub by_acks : (P : List ProcessEvent → Type 0) (s : Seen) (parts : List UpPart) → AllByRecursion IsAck parts → P [] → ((b : UpBundle) → AllByRecursion IsAck b.parts → P (Writes (Own b) ∷ [])) → P (written (bundle_sent s parts))
by_acks P s [] acks none one = none
by_acks P s (a ∷ parts) acks none one = one (record { epoch = record { 0 = s.commits }; seen = s.taken; parts = a ∷ parts }) acks

pub acks_do : (x : ContextId) (ln : List ContextId) (parts : List UpPart) → AllByRecursion IsAck parts → parts_do x ln parts ≡ Stays
acks_do x ln [] acks = refl
acks_do x ln (ups.DropAck y ∷ parts) acks = acks_do x ln parts acks.1
acks_do x ln (_ ∷ parts) acks = absurd acks.0

-- ---- an event more

-- an event of the parent's
abbrev pub IsParents : ProcessEvent → Type 0
IsParents (Sends k u d) = Unit {0}
IsParents (Accepts k w) = Unit {0}
IsParents (Reverts k w d) = Unit {0}
IsParents (Ignores k w) = Unit {0}
IsParents (OthersChange k u) = Unit {0}
IsParents Ends = Unit {0}
IsParents e = ⊥

pub told_parents : (k : ℕ) (says : List Saying) (o : Option DownBundle) → IsParents (told k says o)
told_parents k says None = tt
told_parents k says (Some d) = tt

parents_if : (b : Bool) (k : ℕ) (w : Written) → IsParents (if b then Accepts k w else Ignores k w)
parents_if true k w = tt
parents_if false k w = tt

pub heard_parents : (k : ℕ) (w : Written) (answer : Answer) (says : List Saying) (o : Option DownBundle) → AllByRecursion IsParents (heard k w answer says o)
heard_parents k w (EndedBy cause) says None = (tt, tt)
heard_parents k w (EndedBy cause) says (Some d) = (tt, (tt, tt))
heard_parents k w answer says None = (parents_if (is_done answer) k w, tt)
heard_parents k w answer says (Some d) = (tt, tt)

stage_back : {V : Type 0} (s : Stage) (k : ℕ) (w : Option V) (c : Content V) (h : Trace V) → words.stage s (reverted_for k w c h) ≡ words.stage s h
stage_back s k None c h = refl
stage_back s k (Some v) Nothing h = refl
stage_back s k (Some v) (Gives back) h = refl
stage_back s k (Some v) (Begins b) h = refl
stage_back s k (Some v) Removes h = refl
stage_back s k (Some v) Leaves h = refl

module _ (c : Config) (p : ℕ) (mk : List Making) (x : ContextId) (fld : Field) where
  abbrev field_look : Look Written DownBundle Value
  field_look = view.look x fld mk

  -- the trace of the field
  abbrev pub trace_of : List ProcessEvent → Trace Value
  trace_of h = trace_for (view.look x fld mk) h

  -- its stage, by the events
  abbrev pub field_stage : List ProcessEvent → Stage
  field_stage h = words.stage (begin c p x fld).stage (trace_for (view.look x fld mk) h)

  abbrev pub tree_stage : List ProcessEvent → Stage
  tree_stage h = stage (tree_look c p mk) (tree_begin c p mk) x h

  abbrev pub SameStage : List ProcessEvent → Type 0
  SameStage h = field_stage h ≡ tree_stage h

  same_parents : (es : List ProcessEvent) (h : List ProcessEvent) → AllByRecursion IsParents es → SameStage h → SameStage (es ++ h)
  same_parents [] h all e = e
  same_parents (Sends k u d ∷ es) h all e = same_parents es h all.1 e
  same_parents (Accepts k w ∷ es) h all e = same_parents es h all.1 e
  same_parents (Reverts k w d ∷ es) h all e = stage_back (begin c p x fld).stage k (field_look.value_in w) (field_look.content_in d) (trace_for (view.look x fld mk) (es ++ h)) ∙ same_parents es h all.1 e
  same_parents (Ignores k w ∷ es) h all e = same_parents es h all.1 e
  same_parents (OthersChange k u ∷ es) h all e = same_parents es h all.1 e
  same_parents (Ends ∷ es) h all e = same_parents es h all.1 e
  same_parents (_ ∷ es) h all e = absurd all.0

  same_wrote : (b : UpBundle) (h : List ProcessEvent) → parts_do x (line x mk) b.parts ≡ Stays → SameStage h → SameStage (Writes (Own b) ∷ h)
  same_wrote b h stays e = e ∙ ap (λ a. moved a (tree_stage h)) (sym stays)

  pub same_took : (d : Bundle DownBundle) (h : List ProcessEvent) → SameStage h → SameStage (Takes d ∷ h)
  same_took d h e =
      content_moves x (line x mk) fld (singles d.content.parts) (field_stage h) ∙ ap (moved (parts_tell x (line x mk) (singles d.content.parts))) e

  same_did : (b : UpBundle) (part : DownPart) (h : List ProcessEvent) → parts_do x (line x mk) b.parts ≡ parts_tell x (line x mk) (singles (part ∷ [])) → SameStage h → SameStage (Writes (Own b) ∷ deed part ∷ h)
  same_did b part h does e =
      content_moves x (line x mk) fld (singles (part ∷ [])) (field_stage h) ∙ ap (moved (parts_tell x (line x mk) (singles (part ∷ [])))) e
      ∙ ap (λ a. moved a (tree_stage h)) (sym does)

  -- ---- an entry more

  module _ (ms : List Moment) (m : Moment) (e : SameStage (events_of p ms)) where
    abbrev Next : List ProcessEvent → Type 0
    Next es = SameStage (es ++ events_of p ms)

    by_parents : (es : List ProcessEvent) → AllByRecursion IsParents es → m.events p ≡ es → Next (m.events p)
    by_parents es all is = subst Next (sym is) (same_parents es (events_of p ms) all e)

    same_hears : (b : UpBundle) → Hearing c p ms m b → Next (m.events p)
    same_hears b (AsMade y a is) = by_parents _ (tt, tt) is.events
    same_hears b (AsLate y a d is) = by_parents _ (tt, tt) is.events
    same_hears b (AsDrop y is) = by_parents _ (tt, tt) is.events
    same_hears b (AsOldDrop y is) = by_parents _ (tt, tt) is.events
    same_hears b (AsAcks is) = by_parents _ (tt, tt) is.events
    same_hears b (AsCommit y t ns back is) = by_parents _ (heard_parents (length ms + 1) (Own b) m.answer m.says back) is.events
    same_hears b (AsOldCommit y t is) = by_parents _ (tt, tt) is.events
    same_hears b (AsOver is) = by_parents _ (tt, tt) is.events

    pub same_stage : Entry c p ms m → SameStage (m.events p ++ events_of p ms)
    same_stage (Idle is) = by_parents [] tt is.events
    same_stage (Sets y t b is) = subst Next (sym is.events) (same_wrote b (events_of p ms) (ap (parts_do x (line x mk)) is.sent.parts) e)
    same_stage (Frames a b is) = subst Next (sym is.events) (same_did b (downs.Create (own_known (seen_now c p (m ∷ ms)) (next_frame p (seen_now c p ms)) a)) (events_of p ms) (ap (parts_do x (line x mk)) is.sent.parts) e)
    same_stage (Drops y b is) = subst Next (sym is.events) (same_did b (downs.Discard y) (events_of p ms) (ap (parts_do x (line x mk)) is.sent.parts) e)
    same_stage (TakesOne d rest is) = subst Next (sym is.events)
        (by_acks (λ es. Next (es ++ Takes d ∷ [])) (seen_now c p (m ∷ ms)) _ (by_if (AllByRecursion IsAck) (list_any is_kill d.content.parts) [] _ (λ kill. tt) (λ lives. acks_posted p d.content.epoch.0 _ _ d.content.parts []))
        (same_took d (events_of p ms) e) (λ b acks. same_wrote b (Takes d ∷ events_of p ms) (acks_do x (line x mk) b.parts acks) (same_took d (events_of p ms) e)))
    same_stage (Tells posts is) = by_parents _ (told_parents (length ms + 1) m.says _, tt) is.events
    same_stage (Killing d is) = by_parents _ (tt, (tt, tt)) is.events
    same_stage (HearsOne b rest first hears) = same_hears b hears

  -- ---- what is served

  behind_same : (ds : List (Bundle DownBundle)) (s : Stage) → words.stage_behind s (map (bundle_for (λ (d : DownBundle). content_of x (line x mk) fld (singles d.parts))) ds) ≡ stage_behind ((tree_look c p mk).tells x) ds s
  behind_same [] s = refl
  behind_same (d ∷ ds) s =
      ap (λ t. words.stage_behind t (map (bundle_for (λ (d : DownBundle). content_of x (line x mk) fld (singles d.parts))) ds)) (content_moves x (line x mk) fld (singles d.content.parts) s)
      ∙ behind_same ds (moved (parts_tell x (line x mk) (singles d.content.parts)) s)

  -- while the process wasn't ended, the parent serves what the trees come to
  pub served_joint : (h : List ProcessEvent) → Flows h → is_ended h ≡ false → Projected (view.look x fld mk) h → SameStage h
      → words.stage_served (begin c p x fld).stage (trace_for (view.look x fld mk) h) ≡ joint (tree_look c p mk) (tree_begin c p mk) x h
  served_joint h flows runs same e =
      sym (along (begin c p x fld).stage (trace_for (view.look x fld mk) h) same.flows (same.same_end ∙ runs))
      ∙ ap (words.stage_behind (field_stage h)) same.bundles_wait
      ∙ behind_same (bundles_waiting h) (field_stage h)
      ∙ ap (stage_behind ((tree_look c p mk).tells x) (bundles_waiting h)) e
      ∙ leads (tree_look c p mk) (tree_begin c p mk) x h flows
