-- The laws, each for every trace that keeps the rules.
use Rattle.std.specs.Prelude.{ℕ, ◌≡◌, ◌≤◌, ◌<◌, ◌⊎◌, true, false, Option, None, Some, is_some, List, [], ◌∷◌}
use Rattle.std.specs.Prelude.{map}
use Rattle.traces.specs.Event.{Bundle, Event}
use Rattle.traces.specs.Event.Event.{Sends, Takes, Changes}
use Rattle.traces.specs.Links.{writes_waiting, bundles_waiting, now, is_ended}
use Rattle.traces.specs.Field.{Content, FieldEvent, Trace, Look, bundle_for, trace_for}
use Rattle.traces.specs.Field.Content.{Gives, Removes, Leaves}
use Rattle.traces.specs.Words.{Start, value, value_at, stage, newest, base, point, view, while_held, fate}
use Rattle.traces.specs.Words.{is_answered, stage_served}
use Rattle.traces.specs.Words.Stage.{Coming, Held}
use Rattle.traces.specs.Words.Fate.{Reverted}
use Rattle.traces.specs.Replay.{shown_behind, replay}
use Rattle.traces.specs.Rules.{Keeps, Flows, Rises, Ordered}

-- a process shows the view exactly while it holds the context
abbrev pub ReplayShowsTheView : Type 0 → Type 0
ReplayShowsTheView V = (start : Start V) (h : Trace V) → Keeps start h →
    replay start h ≡ while_held (stage start.stage h) (view start h)

-- the base and the point never fall from one event to the next
abbrev pub PointNeverFalls : Type 0 → Type 0
PointNeverFalls V = (start : Start V) (e : FieldEvent V) (h : Trace V) → Keeps start (e ∷ h) →
    (base h ≤ base (e ∷ h)) × (point h ≤ point (e ∷ h))

-- with both links empty, a process that wasn't ended shows the parent's value of a context that it holds
abbrev pub QuietShowsTheParent : Type 0 → Type 0
QuietShowsTheParent V = (start : Start V) (h : Trace V) → Keeps start h → is_ended h ≡ false →
    stage start.stage h ≡ Held →
    writes_waiting h ≡ [] → bundles_waiting h ≡ [] → replay start h ≡ Some (value start.initial h)

-- at the take of the bundle that reverts the newest own write, the parent's value at the entry that sent it
-- is shown, if the context is still held
abbrev pub RevertTakenShowsTheParent : Type 0 → Type 0
RevertTakenShowsTheParent V = (start : Start V) (d : Bundle (Content V)) (h : Trace V) →
    Keeps start (Takes d ∷ h) →
    fate (newest h) h ≡ Reverted d.entry → stage start.stage (Takes d ∷ h) ≡ Held →
    replay start (Takes d ∷ h) ≡ Some (value_at start.initial d.entry h)

-- a bundle that entry k sent, with this content, is among these
abbrev pub Stands : {V : Type 0} → ℕ → Content V → List (Bundle (Content V)) → Type 0
Stands k c [] = ⊥
Stands k c (d ∷ ds) = ((d.entry ≡ k) × (d.content ≡ c)) ⊎ Stands k c ds

-- a bundle that takes the context away, for good or not, is among these
abbrev pub RemovalStands : {V : Type 0} → List (Bundle (Content V)) → Type 0
RemovalStands ds = (k : ℕ) × (Stands k Removes ds ⊎ Stands k Leaves ds)

-- a change of others, or none, was accepted
abbrev pub IsChange : {V : Type 0} → ℕ → V → ℕ → Option V → Type 0
IsChange k v j None = ⊥
IsChange k v j (Some w) = (j ≡ k) × (w ≡ v)

-- entry k accepted the value v, and not from the process itself
abbrev pub ChangedTo : {V : Type 0} → ℕ → V → Trace V → Type 0
ChangedTo k v [] = ⊥
ChangedTo k v (Sends j u c ∷ h) = IsChange k v j u ⊎ ChangedTo k v h
ChangedTo k v (Changes j u ∷ h) = IsChange k v j u ⊎ ChangedTo k v h
ChangedTo k v (_ ∷ h) = ChangedTo k v h

-- a change of others behind the point stands in a waiting bundle, unless a removal waits
abbrev pub ChangesBehindThePointWait : Type 0 → Type 0
ChangesBehindThePointWait V = (start : Start V) (k : ℕ) (v : V) (h : Trace V) → Keeps start h →
    is_ended h ≡ false → stage start.stage h ≡ Held →
    ChangedTo k v h → point h < k → Stands k (Gives v) (bundles_waiting h) ⊎ RemovalStands (bundles_waiting h)

-- a reverted own write that isn't answered has its revert in the waiting bundle of its entry: the parent's
-- value there
abbrev pub RevertsWait : Type 0 → Type 0
RevertsWait V = (start : Start V) (n k : ℕ) (h : Trace V) → Keeps start h → fate n h ≡ Reverted k →
    is_answered start.stage n h ≡ false →
    Stands k (Gives (value_at start.initial k h)) (bundles_waiting h)

-- what a field's trace has of the process's events: it keeps the rules of links and entries, and what waits
-- on its links is what waits on the process's, looked into
pub record Projected {W B V : Type 0} (look : Look W B V) (h : List (Event W B)) : Type 0 where
  pub flows : Flows (trace_for look h)
  pub ordered : Ordered (trace_for look h)
  pub writes_wait : writes_waiting (trace_for look h) ≡ map look.value_in (writes_waiting h)
  pub bundles_wait : bundles_waiting (trace_for look h) ≡ map (bundle_for look.content_in)
      (bundles_waiting h)
  pub same_end : is_ended (trace_for look h) ≡ is_ended h

-- an entry that changes the field as it sends a bundle is later than all before: it didn't hear a write
abbrev pub Apart : {W B V : Type 0} → Look W B V → List (Event W B) → Type 0
Apart look [] = Unit {0}
Apart look (Sends k u c ∷ h) = (is_some (look.value_in u) ≡ true → now h < k) × Apart look h
Apart look (_ ∷ h) = Apart look h

-- the projection keeps the rules, whatever the contents and the field
abbrev pub ProjectionKeepsTheRules : Type 0 → Type 0 → Type 0 → Type 0
ProjectionKeepsTheRules W B V = (look : Look W B V) (h : List (Event W B)) → Flows h → Rises h →
    Apart look h → Projected look h

-- where nothing waits to be taken, a process that wasn't ended has the stage that the parent serves
abbrev pub StageIsServed : Type 0 → Type 0
StageIsServed V = (start : Start V) (h : Trace V) → Keeps start h → is_ended h ≡ false →
    bundles_waiting h ≡ [] → stage start.stage h ≡ stage_served start.stage h

-- where a context hasn't come to a process that wasn't ended, or was left by it, and the parent serves it,
-- what waits to be taken brings it with the parent's value: from nothing, taken one after the other, it shows
-- that
abbrev pub ComingsBringTheValue : Type 0 → Type 0
ComingsBringTheValue V = (start : Start V) (h : Trace V) → Keeps start h → is_ended h ≡ false →
    stage start.stage h ≡ Coming → stage_served start.stage h ≡ Held →
    shown_behind Coming None (bundles_waiting h) ≡ Some (value start.initial h)
