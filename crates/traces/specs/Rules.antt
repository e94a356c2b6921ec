-- The rules that a trace keeps. Each says of one event what must hold of the events before it.
use Rattle.std.specs.Prelude.{ℕ, ◌≡◌, ◌≤◌, ◌<◌, true, false, Option, None, Some, is_some, List, [], ◌∷◌}
use Rattle.traces.specs.Event.{Bundle, Event}
use Rattle.traces.specs.Event.Event.{Writes, Sends, Takes, Accepts, Reverts, Ignores, Changes, Does}
use Rattle.traces.specs.Links.{writes_waiting, bundles_waiting, hears, last_sending, now, is_ended}
use Rattle.traces.specs.Field.{Content, FieldEvent, Trace}
use Rattle.traces.specs.Field.Content.{Nothing, Gives, Begins, Removes, Leaves}
use Rattle.traces.specs.Words.{Start, Stage, or_else, value, stage, stage_served, last_leaving}
use Rattle.traces.specs.Words.Stage.{Coming, Held, Gone}

-- x is the first of xs
pub record IsFirst {X : Type 0} (x : X) (xs : List X) : Type 0 where
  pub rest : List X
  pub is : xs ≡ x ∷ rest

-- a write that is heard waited first, and the process that is sent the answer wasn't ended
pub record HeardAlive {W B : Type 0} (write : W) (h : List (Event W B)) : Type 0 where
  pub first : IsFirst write (writes_waiting h)
  pub alive : is_ended h ≡ false

-- what is taken or heard is what waited first, and an ended process is sent nothing more
abbrev pub Flow : {W B : Type 0} → Event W B → List (Event W B) → Type 0
Flow (Sends k u c) h = is_ended h ≡ false
Flow (Takes d) h = IsFirst d (bundles_waiting h)
Flow (Accepts k w) h = IsFirst w (writes_waiting h)
Flow (Reverts k w c) h = HeardAlive w h
Flow (Ignores k w) h = IsFirst w (writes_waiting h)
Flow _ h = Unit {0}

-- each event of a trace or a process flows
abbrev pub Flows : {W B : Type 0} → List (Event W B) → Type 0
Flows [] = Unit {0}
Flows (e ∷ h) = Flow e h × Flows h

-- a bundle is the only one of its entry; the entry may have heard a write of the process before
pub record SentOnce {W B : Type 0} (entry : ℕ) (h : List (Event W B)) : Type 0 where
  pub once : last_sending h < entry
  pub after : now h ≤ entry

-- of a process: the parent's entries come one after the other
abbrev pub Later : {W B : Type 0} → Event W B → List (Event W B) → Type 0
Later (Sends k u c) h = SentOnce k h
Later (Accepts k w) h = now h < k
Later (Reverts k w c) h = now h < k
Later (Ignores k w) h = now h < k
Later (Changes k u) h = now h < k
Later _ h = Unit {0}

-- the entries of a process rise
abbrev pub Rises : {W B : Type 0} → List (Event W B) → Type 0
Rises [] = Unit {0}
Rises (e ∷ h) = Later e h × Rises h

-- a sent bundle: it is the only one of its entry, and a change that comes with it is later than all before
pub record SentInOrder {V : Type 0} (entry : ℕ) (change : Option V) (h : Trace V) : Type 0 where
  pub once : last_sending h < entry
  pub after : now h ≤ entry
  pub changes : is_some change ≡ true → now h < entry

-- of a field: one entry may accept an own write and then send a bundle that changes nothing
abbrev pub Order : {V : Type 0} → FieldEvent V → Trace V → Type 0
Order (Sends k u c) h = SentInOrder k u h
Order (Accepts k w) h = now h < k
Order (Reverts k w c) h = now h < k
Order (Ignores k w) h = now h < k
Order (Changes k u) h = now h < k
Order _ h = Unit {0}

-- the entries of a field are in order
abbrev pub Ordered : {V : Type 0} → Trace V → Type 0
Ordered [] = Unit {0}
Ordered (e ∷ h) = Order e h × Ordered h

-- unless the context is gone in the process: of one that is gone nothing is asked
abbrev pub Unless : Stage → Type 0 → Type 0
Unless s P = (s ≡ Gone → ⊥) → P

-- where there is a value
abbrev pub Where : {V : Type 0} → Option V → Type 0 → Type 0
Where None P = Unit {0}
Where (Some v) P = P

-- a content that doesn't take the process out of the group
abbrev pub IsStay : {V : Type 0} → Content V → Type 0
IsStay Leaves = ⊥
IsStay _ = Unit {0}

-- none of these bundles takes the process out of the group
abbrev pub Stays : {V : Type 0} → List (Bundle (Content V)) → Type 0
Stays [] = Unit {0}
Stays (d ∷ ds) = IsStay d.content × Stays ds

-- a content that brings no value
abbrev pub IsNoNews : {V : Type 0} → Content V → Type 0
IsNoNews (Gives v) = ⊥
IsNoNews (Begins v) = ⊥
IsNoNews _ = Unit {0}

-- none of these bundles brings a value
abbrev pub NoNews : {V : Type 0} → List (Bundle (Content V)) → Type 0
NoNews [] = Unit {0}
NoNews (d ∷ ds) = IsNoNews d.content × NoNews ds

-- a write that the parent hears is judged: the parent serves the context, the write that waits first was made
-- since the process last left the group, and no leave waits
pub record Judges {V : Type 0} (start : Start V) (h : Trace V) : Type 0 where
  pub serves : stage_served start.stage h ≡ Held
  pub since : last_leaving h ≤ hears h
  pub stays : Stays (bundles_waiting h)

-- no entry had a value for the field
abbrev pub Untouched : {V : Type 0} → Trace V → Type 0
Untouched [] = Unit {0}
Untouched (Sends k u c ∷ h) = (u ≡ None) × Untouched h
Untouched (Accepts k w ∷ h) = (w ≡ None) × Untouched h
Untouched (Changes k u ∷ h) = (u ≡ None) × Untouched h
Untouched (_ ∷ h) = Untouched h

-- a process makes a context that it doesn't hold: with the initial value, which no entry changed, and no
-- value of it waits
pub record Makes {V : Type 0} (start : Start V) (value : V) (h : Trace V) : Type 0 where
  pub initially : value ≡ start.initial
  pub unheld : stage start.stage h ≡ Coming
  pub untouched : Untouched h
  pub no_news : NoNews (bundles_waiting h)

-- what a process does by itself: nothing that concerns the context, a making, or a drop
abbrev pub Own : {V : Type 0} → Start V → Content V → Trace V → Type 0
Own start Nothing h = Unit {0}
Own start (Begins v) h = Makes start v h
Own start Removes h = Unit {0}
Own start _ h = ⊥

-- a bundle gives each change while the parent serves the context, and a change that it doesn't give comes
-- when the parent does not; a context comes where it had not come or was left, with the parent's value
abbrev pub Tells : {V : Type 0} → Start V → Option V → Content V → Trace V → Type 0
Tells start u Nothing h = Where u (stage_served start.stage h ≡ Held → ⊥)
Tells start u (Gives v) h = (u ≡ Some v) × (stage_served start.stage h ≡ Held)
Tells start u (Begins v) h = (or_else u (value start.initial h) ≡ v) × (stage_served start.stage h ≡ Coming)
Tells start u Removes h = Unit {0}
Tells start u Leaves h = Unit {0}

-- a revert is of a write to the field, and gives the parent's value back
pub record GivesBack {V : Type 0} (start : Start V) (write : Option V) (content : Content V)
    (h : Trace V) : Type 0 where
  pub of_write : is_some write ≡ true
  pub back : content ≡ Gives (value start.initial h)
  pub judged : Unless (stage start.stage h) (Judges start h)

-- what an event may hold for the field
abbrev pub Fit : {V : Type 0} → Start V → FieldEvent V → Trace V → Type 0
Fit start (Writes w) h = Where w (stage start.stage h ≡ Held)
Fit start (Sends k u c) h = Unless (stage start.stage h) (Tells start u c h)
Fit start (Accepts k w) h = Unless (stage start.stage h) (Where w (Judges start h))
Fit start (Reverts k w c) h = GivesBack start w c h
Fit start (Ignores k w) h = Unless (stage start.stage h) (Where w (Judges start h → ⊥))
Fit start (Changes k u) h = Unless (stage start.stage h) (Where u (stage_served start.stage h ≡ Held → ⊥))
Fit start (Does c) h = Own start c h
Fit start _ h = Unit {0}

-- each event of a trace fits
abbrev pub Fits : {V : Type 0} → Start V → Trace V → Type 0
Fits start [] = Unit {0}
Fits start (e ∷ h) = Fit start e h × Fits start h

-- the trace keeps the rules
pub record Keeps {V : Type 0} (start : Start V) (h : Trace V) : Type 0 where
  pub flows : Flows h
  pub ordered : Ordered h
  pub fits : Fits start h
