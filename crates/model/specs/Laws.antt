-- What holds of every journal whose steps can be played.
use Rattle.std.specs.Prelude.{◌≡◌, ℕ, ◌+◌, ◌≤◌, ◌<◌, ◌==◌, List, ◌∷◌, length, filter}
use Rattle.std.specs.Prelude.{Bool, true, false, ◌&&◌, ◌||◌, Option, None, Some}
use Rattle.std.specs.List.{AllByRecursion, list_any}
use Rattle.fission_ids.specs.declared.context.ContextId.{ContextId}
use Rattle.fission_ids.specs.declared.process.ProcId.{ProcId}
use Rattle.field_table.specs.declared.field.Field.{Field}
use Rattle.field_table.specs.declared.value.Value.{Value}
use Rattle.field_rules.specs.Bounds.{Bounds}
use Rattle.wire_msgs.specs.Config.{ConfigFits}
use Rattle.wire_msgs.specs.declared.answer.Answer.{Answer}
use Rattle.wire_msgs.specs.declared.answer.Answer.TheVariants.{Refused, Ended}
use Rattle.wire_msgs.specs.declared.bundle.DownBundle.{DownBundle}
use Rattle.wire_msgs.specs.declared.bundle.UpBundle.{UpBundle}
use Rattle.wire_msgs.specs.declared.cause.EndCause.{EndCause}
use Rattle.wire_msgs.specs.declared.cause.EndCause.TheVariants.{Killed}
use Rattle.wire_msgs.specs.declared.config.Config.{Config}
use Rattle.wire_msgs.specs.declared.part.DownPart.{DownPart}
use Rattle.wire_msgs.specs.declared.part.DownPart.TheVariants.{Create, Register}
use Rattle.wire_msgs.specs.declared.part.Known.{Known}
use Rattle.wire_msgs.specs.declared.part.UpPart.{UpPart}
use Rattle.wire_msgs.specs.declared.part.UpPart.TheVariants.{Drop}
use Rattle.journal.specs.Step.{StepFits}
use Rattle.journal.specs.declared.entry.Entry.{Entry}
use Rattle.journal.specs.declared.entry.Step.{Step}
use Rattle.journal.specs.declared.entry.Step.TheVariants.{Take, Hear}
use Rattle.fission_ids.specs.Ids.{same_context}
use Rattle.protocol.specs.Questions.{Facts, is_owner, is_told, option_any}
use Rattle.protocol.specs.Seen.{Seen}
use Rattle.traces.specs.Links.{bundles_waiting}
use Rattle.traces.specs.Replay.{shown_behind}
use Rattle.traces.specs.Words.Stage.{Coming}
use Rattle.trees.specs.Children.{owner_behind}
use Rattle.model.specs.Journal.{steps_of}
use Rattle.model.specs.Lines.{makings, line, is_among}
use Rattle.model.specs.Links.{is_quiet, up_waiting, down_waiting}
use Rattle.model.specs.Moments.{Moment, moment, moments_of, events_of, seen_now, facts_now}
use Rattle.model.specs.Next.{Run, run_with, run_after}
use Rattle.model.specs.Settling.{weight, settled, IsServed, Extends}
use Rattle.model.specs.Trees.{tree_look}
use Rattle.model.specs.View.{trace, view, parent_view, base, point, value_at, newest, is_answered}
use Rattle.model.specs.View.{IsOnItsWay, reverted_in, sent_first, is_honest}

-- a run that can be played
pub record RunFits (r : Run) : Type 0 where
  pub config : ConfigFits r.config
  pub steps : AllByRecursion (StepFits (length r.config.types)) (steps_of r.journal)

-- what an honest process answers of a field is its view
abbrev pub ProcessShowsTheView : Type 0
ProcessShowsTheView =
    (r : Run) (p : ℕ) (x : ContextId) (f : Field) → RunFits r → p < length r.config.types
    → is_honest r.config p r.journal ≡ true
    → (seen_now r.config p (moments_of r.config r.journal)).value x f ≡ view r.config p x f r.journal

-- a further entry never lowers a base or a point of an honest process
abbrev pub PointNeverFalls : Type 0
PointNeverFalls =
    (r : Run) (e : Entry) (p : ℕ) (x : ContextId) (f : Field) → RunFits (run_with r e)
    → p < length r.config.types → is_honest r.config p (run_with r e).journal ≡ true
    → (base r.config p x f r.journal ≤ base r.config p x f (run_with r e).journal)
    × (point r.config p x f r.journal ≤ point r.config p x f (run_with r e).journal)

-- an honest process that wasn't ended, with nothing on its links, shows what the parent shows of each context
-- that it holds
abbrev pub QuietShowsTheParent : Type 0
QuietShowsTheParent =
    (r : Run) (p : ℕ) (x : ContextId) (f : Field) → RunFits r → p < length r.config.types
    → is_honest r.config p r.journal ≡ true
    → (facts_now r.config (moments_of r.config r.journal)).processes.ended p ≡ None
    → is_quiet r.config p r.journal ≡ true
    → (seen_now r.config p (moments_of r.config r.journal)).holds x ≡ true
    → view r.config p x f r.journal ≡ parent_view r.config x f r.journal

-- as an honest process takes the bundle that reverts its newest write to a field, it shows the parent's
-- value at the entry that sent it
abbrev pub RevertTakenShowsTheParent : Type 0
RevertTakenShowsTheParent =
    (r : Run) (a : Answer) (p : ProcId) (x : ContextId) (f : Field) (k : ℕ)
    → RunFits (run_with r (record { step = Take p; answer = a }))
    → is_honest r.config p.0 r.journal ≡ true
    → (seen_now r.config p.0 (moments_of r.config (record { step = Take p; answer = a } ∷ r.journal))).holds x
    ≡ true
    → sent_first r.config p.0 r.journal ≡ Some k
    → reverted_in (newest r.config p.0 x f r.journal) r.config p.0 x f r.journal ≡ Some k
    → view r.config p.0 x f (record { step = Take p; answer = a } ∷ r.journal) ≡
    Some (value_at r.config p.0 x f k r.journal)

-- a reverted write of an honest process that isn't answered has its revert on its way: the parent's value at
-- the entry that sent it
abbrev pub RevertsWait : Type 0
RevertsWait =
    (r : Run) (p : ℕ) (x : ContextId) (f : Field) (n k : ℕ) → RunFits r → p < length r.config.types
    → is_honest r.config p r.journal ≡ true
    → reverted_in n r.config p x f r.journal ≡ Some k
    → is_answered n r.config p x f r.journal ≡ false
    → IsOnItsWay k (value_at r.config p x f k r.journal) r.config p x f r.journal

-- what settling leaves
pub record Settles (b : Bounds) (r : Run) : Type 0 where
  pub config : (settled b r).config ≡ r.config
  pub served : (p : ℕ) → p < length r.config.types → IsServed p (settled b r)
  pub extends : Extends r.journal (settled b r).journal
  pub falls : length (settled b r).journal + weight (settled b r) ≤ length r.journal + weight r

abbrev pub SettlingEnds : Type 0
SettlingEnds = (b : Bounds) (r : Run) → RunFits r → Settles b r

-- a step adds an entry, and what waits then weighs little more
abbrev pub StepAddsLittle : Type 0
StepAddsLittle =
    (b : Bounds) (r : Run) (s : Step) → RunFits (run_after b r s)
    → length (run_after b r s).journal + weight (run_after b r s) ≤ length r.journal + weight r + 65

-- an answer is a refusal
abbrev pub is_refused : Answer → Bool
is_refused (Refused why) = true
is_refused answer = false

-- an entry left all answers and all that waits as they were
pub record Unchanged (c : Config) (m : Moment) (ms : List Moment) : Type 0 where
  pub facts : facts_now c (m ∷ ms) ≡ facts_now c ms
  pub seen : (p : ℕ) → seen_now c p (m ∷ ms) ≡ seen_now c p ms
  pub ups : (p : ℕ) → up_waiting p (m ∷ ms) ≡ up_waiting p ms
  pub downs : (p : ℕ) → down_waiting p (m ∷ ms) ≡ down_waiting p ms

-- a refused step changes nothing but the journal
abbrev pub RefusedChangesNothing : Type 0
RefusedChangesNothing =
    (c : Config) (ms : List Moment) (allows : Field → Bool) (s : Step)
    → is_refused (moment c ms allows s).answer ≡ true → Unchanged c (moment c ms allows s) ms

-- ---- the end of a process

-- an honest process is ended by a kill alone
abbrev pub HonestAreOnlyKilled : Type 0
HonestAreOnlyKilled =
    (r : Run) (p : ℕ) (cause : EndCause) → RunFits r → p < length r.config.types
    → is_honest r.config p r.journal ≡ true
    → (facts_now r.config (moments_of r.config r.journal)).processes.ended p ≡ Some cause → cause ≡ Killed

-- an entry ended process p, which owns no context any more; it left all else of the contexts, what each
-- process answers, and what waits on the links of the others
pub record EndsAlone (c : Config) (p : ℕ) (m : Moment) (ms : List Moment) : Type 0 where
  pub ended : (facts_now c (m ∷ ms)).processes.ended p ≡ None → ⊥
  pub contexts : record (facts_now c (m ∷ ms)).contexts { owner = (facts_now c ms).contexts.owner }
      ≡ (facts_now c ms).contexts
  pub owned : (x : ContextId) → is_owner (facts_now c (m ∷ ms)) p x ≡ false
  pub owners : (x : ContextId) → is_owner (facts_now c ms) p x ≡ false
      → (facts_now c (m ∷ ms)).contexts.owner x ≡ (facts_now c ms).contexts.owner x
  pub seen : (q : ℕ) → seen_now c q (m ∷ ms) ≡ seen_now c q ms
  pub ups : (q : ℕ) → (q == p) ≡ false → up_waiting q (m ∷ ms) ≡ up_waiting q ms
  pub downs : (q : ℕ) → (q == p) ≡ false → down_waiting q (m ∷ ms) ≡ down_waiting q ms

-- a bundle that ends its sender does nothing else
abbrev pub EndChangesNothingElse : Type 0
EndChangesNothingElse =
    (c : Config) (ms : List Moment) (allows : Field → Bool) (p : ProcId) (cause : EndCause)
    → (moment c ms allows (Hear p)).answer ≡ Ended cause
    → EndsAlone c p.0 (moment c ms allows (Hear p)) ms

-- ---- trees

-- an honest process that wasn't ended, with nothing on its links
pub record IsAtRest (r : Run) (p : ℕ) : Type 0 where
  pub fits : RunFits r
  pub process : p < length r.config.types
  pub honest : is_honest r.config p r.journal ≡ true
  pub runs : (facts_now r.config (moments_of r.config r.journal)).processes.ended p ≡ None
  pub quiet : is_quiet r.config p r.journal ≡ true

-- it holds exactly the live contexts that the parent tells it of
abbrev pub QuietHoldsTheParents : Type 0
QuietHoldsTheParents = (r : Run) (p : ℕ) (x : ContextId) → IsAtRest r p →
    let f = facts_now r.config (moments_of r.config r.journal) in
    (seen_now r.config p (moments_of r.config r.journal)).holds x ≡ (f.contexts.live x && is_told f p x)

-- of each it says the same as the parent: its group, the context above, whether the process owns it
pub record IsTheSame (f : Facts) (p : ℕ) (s : Seen) (x : ContextId) : Type 0 where
  pub group : s.group x ≡ f.contexts.group x
  pub above : s.above x ≡ f.contexts.above x
  pub owns : s.owns x ≡ is_owner f p x

abbrev pub QuietSaysTheSame : Type 0
QuietSaysTheSame = (r : Run) (p : ℕ) (x : ContextId) → IsAtRest r p
    → (seen_now r.config p (moments_of r.config r.journal)).holds x ≡ true
    → IsTheSame (facts_now r.config (moments_of r.config r.journal)) p
    (seen_now r.config p (moments_of r.config r.journal)) x

-- the frames in a context, in the order of all
abbrev pub frames_in : (ContextId → Option ContextId) → List ContextId → ContextId → List ContextId
frames_in above order y = filter (λ x. option_any (same_context y) (above x)) order

-- and the frames in it are the parent's, in the same order
abbrev pub QuietHasTheSameFrames : Type 0
QuietHasTheSameFrames = (r : Run) (p : ℕ) (y : ContextId) → IsAtRest r p
    → (seen_now r.config p (moments_of r.config r.journal)).holds y ≡ true →
    let f = facts_now r.config (moments_of r.config r.journal) in
    let s = seen_now r.config p (moments_of r.config r.journal) in
    frames_in s.above s.order y ≡ frames_in f.contexts.above f.contexts.order y

-- and its contexts are the parent's that it is told of, in the same order
abbrev pub QuietHasTheSameOrder : Type 0
QuietHasTheSameOrder = (r : Run) (p : ℕ) → IsAtRest r p →
    let f = facts_now r.config (moments_of r.config r.journal) in
    (seen_now r.config p (moments_of r.config r.journal)).order ≡ filter (λ x. is_told f p x) f.contexts.order

-- ---- what is on its way

-- a part brings a context: a Create of it, or a Register that has it
abbrev pub brings : ContextId → DownPart → Bool
brings x (Create k) = same_context x k.context
brings x (Register g ks) = list_any (λ (k : Known). same_context x k.context) ks
brings x part = false

-- whether one that does waits for process p
abbrev pub coming_waits : ℕ → ContextId → List Moment → Bool
coming_waits p x ms = list_any (λ (d : DownBundle). list_any (brings x) d.parts) (down_waiting p ms)

-- a part drops one of these contexts
abbrev pub drops_one : List ContextId → UpPart → Bool
drops_one xs (Drop y) = is_among y xs
drops_one xs part = false

-- whether a Drop of it, or of a context above it, waits from process p
abbrev pub drop_waits : ℕ → ContextId → List Moment → Bool
drop_waits p x ms =
    list_any (λ (b : UpBundle). list_any (drops_one (line x (makings p ms))) b.parts) (up_waiting p ms)

-- what process p, from nothing, shows of a field behind all that waits for it
abbrev pub shown_then : ℕ → ContextId → Field → List Moment → Option Value
shown_then p x f ms = shown_behind Coming None (bundles_waiting (trace p x f ms))

-- whether it owns a context behind all that waits for it, by what it was told before
abbrev pub owned_then : Config → ℕ → ContextId → Bool → List Moment → Bool
owned_then c p x before ms =
    owner_behind ((tree_look c p (makings p ms)).handed x) (bundles_waiting (events_of p ms)) before

-- an honest process that wasn't ended doesn't hold a context that is live and that the parent tells it of
pub record IsWithout (r : Run) (p : ℕ) (x : ContextId) : Type 0 where
  pub fits : RunFits r
  pub process : p < length r.config.types
  pub honest : is_honest r.config p r.journal ≡ true
  pub runs : (facts_now r.config (moments_of r.config r.journal)).processes.ended p ≡ None
  pub live : (facts_now r.config (moments_of r.config r.journal)).contexts.live x ≡ true
  pub told : is_told (facts_now r.config (moments_of r.config r.journal)) p x ≡ true
  pub unheld : (seen_now r.config p (moments_of r.config r.journal)).holds x ≡ false

-- then a Create or a Register of it waits for the process, or a Drop of it or of a context above it waits
-- from the process
abbrev pub WhatIsToldComes : Type 0
WhatIsToldComes = (r : Run) (p : ℕ) (x : ContextId) → IsWithout r p x →
    let ms = moments_of r.config r.journal in
    (coming_waits p x ms || drop_waits p x ms) ≡ true

-- and where no such Drop waits, it comes with the parent's present values and ownership, by the Create or
-- Register and all that waits behind it
pub record ComesWhole (r : Run) (p : ℕ) (x : ContextId) : Type 0 where
  pub values : (f : Field) → shown_then p x f (moments_of r.config r.journal)
      ≡ parent_view r.config x f r.journal
  pub owner : (before : Bool) → owned_then r.config p x before (moments_of r.config r.journal)
      ≡ is_owner (facts_now r.config (moments_of r.config r.journal)) p x

abbrev pub WhatComesIsTheParents : Type 0
WhatComesIsTheParents = (r : Run) (p : ℕ) (x : ContextId) → IsWithout r p x
    → drop_waits p x (moments_of r.config r.journal) ≡ false → ComesWhole r p x
