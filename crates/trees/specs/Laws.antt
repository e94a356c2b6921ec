-- The laws, each for all events that keep the rules.
use Rattle.std.specs.Prelude.{◌≡◌, ◌⊎◌, Bool, true, false, None, Some, List, []}
use Rattle.std.specs.List.{AllByRecursion}
use Rattle.traces.specs.Event.{Bundle, Event}
use Rattle.traces.specs.Links.{writes_waiting, bundles_waiting, is_ended}
use Rattle.traces.specs.Rules.{IsFirst}
use Rattle.traces.specs.Words.Stage.{Coming, Held, Gone}
use Rattle.trees.specs.Look.{moved, Look, Begin}
use Rattle.trees.specs.Look.Effect.{Stays, Comes, Goes}
use Rattle.trees.specs.Words.{is_told, stage, life, is_held, is_known, Stands}
use Rattle.trees.specs.Children.{attached, held_below, live_below, owned, owns, owner_behind}
use Rattle.trees.specs.Rules.{OtherChild, Keeps}

-- with both links empty, a process that is told of the group has exactly the contexts that are live
abbrev pub QuietHoldsWhatIsLive : Type 0 → Type 0 → Type 0 → Type 0
QuietHoldsWhatIsLive X W B = (look : Look X W B) (begin : Begin X) (h : List (Event W B)) →
    Keeps look begin h → writes_waiting h ≡ [] → bundles_waiting h ≡ [] →
    (x : X) → is_told look begin x h ≡ true → is_held (stage look begin x h) ≡ is_held (life look begin x h)

-- a process that wasn't ended and isn't told of the group has nothing of it
abbrev pub UntoldHoldsNothing : Type 0 → Type 0 → Type 0 → Type 0
UntoldHoldsNothing X W B = (look : Look X W B) (begin : Begin X) (h : List (Event W B)) →
    Keeps look begin h → is_ended h ≡ false →
    (x : X) → is_told look begin x h ≡ false → stage look begin x h ≡ Coming

-- with both links empty, the contexts below another are the parent's, in its order
abbrev pub QuietChildrenAreTheParents : Type 0 → Type 0 → Type 0 → Type 0
QuietChildrenAreTheParents X W B = (look : Look X W B) (begin : Begin X) (h : List (Event W B)) →
    Keeps look begin h → writes_waiting h ≡ [] → bundles_waiting h ≡ [] →
    (y : X) → is_told look begin y h ≡ true → held_below look begin y h ≡ live_below look begin y h

-- while a process that wasn't ended owns a context, as the parent has it, what is live below that is its own,
-- and else another's
abbrev pub ChildrenHaveOneOwner : Type 0 → Type 0 → Type 0 → Type 0
ChildrenHaveOneOwner X W B = (look : Look X W B) (begin : Begin X) (h : List (Event W B)) →
    Keeps look begin h → is_ended h ≡ false →
    (x y : X) → look.above x ≡ Some y → life look begin x h ≡ Held → look.is_own x ≡ owned look begin y h

-- with both links empty, a process owns what it is said to own, of all that it has
abbrev pub QuietOwnersAreTheParents : Type 0 → Type 0 → Type 0 → Type 0
QuietOwnersAreTheParents X W B = (look : Look X W B) (begin : Begin X) (h : List (Event W B)) →
    Keeps look begin h → writes_waiting h ≡ [] → bundles_waiting h ≡ [] →
    (x : X) → is_told look begin x h ≡ true → is_held (stage look begin x h) ≡ true →
    owns look begin x h ≡ owned look begin x h

-- of a bundle that is heard of a process that wasn't ended: what it makes wasn't heard of, and what else it
-- names was
abbrev pub OwnIdsAreGood : Type 0 → Type 0 → Type 0 → Type 0
OwnIdsAreGood X W B = (look : Look X W B) (begin : Begin X) (w : W) (h : List (Event W B)) →
    Keeps look begin h → is_ended h ≡ false → IsFirst w (writes_waiting h) → (x : X) →
    (look.creates x w ≡ true → is_known look begin x h ≡ false) ×
    (look.needs x w ≡ true → is_known look begin x h ≡ true)

-- as a drop of what is live is heard, the parent too has the process as the owner of the context above
abbrev pub DropsAreAllowed : Type 0 → Type 0 → Type 0 → Type 0
DropsAreAllowed X W B = (look : Look X W B) (begin : Begin X) (w : W) (h : List (Event W B)) →
    Keeps look begin h → is_ended h ≡ false → IsFirst w (writes_waiting h) →
    (x y : X) → look.drops x w ≡ true → look.above x ≡ Some y → life look begin x h ≡ Held →
    owned look begin y h ≡ true

-- as a bundle is taken that brings a context of another, the process doesn't have that: if it didn't drop it,
-- it has the context above then, and if it dropped it, it hasn't
abbrev pub ComingsAreBelowTheHeld : Type 0 → Type 0 → Type 0 → Type 0
ComingsAreBelowTheHeld X W B = (look : Look X W B) (begin : Begin X) (d : Bundle B) (h : List (Event W B)) →
    Keeps look begin h → is_ended h ≡ false → IsFirst d (bundles_waiting h) →
    (x y : X) → look.is_own x ≡ false → look.above x ≡ Some y → look.tells x d.content ≡ Comes →
    (stage look begin x h ≡ Held → ⊥)
    × (stage look begin x h ≡ Coming → moved (look.tells y d.content) (stage look begin y h) ≡ Held)
    × (stage look begin x h ≡ Gone → moved (look.tells y d.content) (stage look begin y h) ≡ Held → ⊥)

-- what the parent has heard of as made in time, or as made by the process, is live or was
abbrev pub KnownHasCome : Type 0 → Type 0 → Type 0 → Type 0
KnownHasCome X W B = (look : Look X W B) (begin : Begin X) (h : List (Event W B)) →
    Keeps look begin h → is_ended h ≡ false → (x : X) →
    is_known look begin x h ≡ true → life look begin x h ≡ Coming → ⊥

-- ---- what is on its way

-- a bundle that brings a context waits to be taken
abbrev pub ComingWaits : {X W B : Type 0} → Look X W B → X → List (Event W B) → Type 0
ComingWaits look x h = Stands (λ d. look.tells x d.content) Comes (bundles_waiting h)

-- a bundle in which the process drops it, or what is above it, waits to be heard
abbrev pub GoingWaits : {X W B : Type 0} → Look X W B → X → List (Event W B) → Type 0
GoingWaits look x h = Stands (look.does x) Goes (writes_waiting h)

-- what a process is told of and is live in the parent, the process is without only while the coming waits to
-- be taken, or its own drop to be heard
abbrev pub MissingIsOnItsWay : Type 0 → Type 0 → Type 0 → Type 0
MissingIsOnItsWay X W B = (look : Look X W B) (begin : Begin X) (h : List (Event W B)) →
    Keeps look begin h → (x : X) → is_told look begin x h ≡ true →
    life look begin x h ≡ Held → is_held (stage look begin x h) ≡ false →
    ComingWaits look x h ⊎ GoingWaits look x h

-- and with a coming that waits the owner comes: behind all that waits, the process owns the context exactly
-- where the parent has it as the owner, whatever it was told before
abbrev pub ComingsBringTheOwner : Type 0 → Type 0 → Type 0 → Type 0
ComingsBringTheOwner X W B = (look : Look X W B) (begin : Begin X) (h : List (Event W B)) →
    Keeps look begin h → (x : X) → is_told look begin x h ≡ true →
    life look begin x h ≡ Held → ComingWaits look x h →
    (before : Bool) → owner_behind (look.handed x) (bundles_waiting h) before ≡ owned look begin x h

-- a context of another with nothing above it comes once: as a bundle that brings it is taken, the process
-- never had it
abbrev pub TopsComeOnce : Type 0 → Type 0 → Type 0 → Type 0
TopsComeOnce X W B = (look : Look X W B) (begin : Begin X) (d : Bundle B) (h : List (Event W B)) →
    Keeps look begin h → is_ended h ≡ false → IsFirst d (bundles_waiting h) →
    (x : X) → look.is_own x ≡ false → look.above x ≡ None → look.tells x d.content ≡ Comes →
    stage look begin x h ≡ Coming

-- what makes or drops a context, as it is heard of a process that wasn't ended, is of one that the process is
-- told of
abbrev pub HeardIsTold : Type 0 → Type 0 → Type 0 → Type 0
HeardIsTold X W B = (look : Look X W B) (begin : Begin X) (w : W) (h : List (Event W B)) →
    Keeps look begin h → is_ended h ≡ false → IsFirst w (writes_waiting h) →
    (x : X) → (look.does x w ≡ Stays → ⊥) → is_told look begin x h ≡ true

-- below a context that a process that wasn't ended isn't told of, all that was ever attached others made
abbrev pub UntoldMadeNothing : Type 0 → Type 0 → Type 0 → Type 0
UntoldMadeNothing X W B = (look : Look X W B) (begin : Begin X) (h : List (Event W B)) →
    Keeps look begin h → is_ended h ≡ false → (y : X) → is_told look begin y h ≡ false →
    AllByRecursion (OtherChild look y) (attached look y h)
