-- The rules that the events of an honest process keep, until it ends. Each says of one event what must hold
-- of those before it, for every context of the group.
use Rattle.std.specs.Prelude.{◌≡◌, ◌⊎◌, Bool, true, false, Some, List, [], ◌∷◌, ◌++◌, filter}
use Rattle.std.specs.List.{AllByRecursion}
use Rattle.traces.specs.Event.{Event}
use Rattle.traces.specs.Event.Event.{Writes, Sends, Accepts, Reverts, Ignores, Changes}
use Rattle.traces.specs.Links.{is_ended}
use Rattle.traces.specs.Rules.{Flows}
use Rattle.traces.specs.Words.{Stage}
use Rattle.traces.specs.Words.Stage.{Coming, Held, Gone}
use Rattle.trees.specs.Look.{Effect, moved, Handing, Look, Begin}
use Rattle.trees.specs.Look.Effect.{Stays, Comes, Goes}
use Rattle.trees.specs.Look.Handing.{Same, Given, Taken}
use Rattle.trees.specs.Words.{is_told, stage, life}
use Rattle.trees.specs.Children.{attached, is_alive, owned, owns}

-- what goes takes along all that is below it, made or not, and what is named as made comes or goes; at the
-- start nothing was discarded, there is nothing below anything and nothing that the process made, and it has
-- all that is live or, where it isn't told of the group, nothing
pub record Lawful {X W B : Type 0} (look : Look X W B) (begin : Begin X) : Type 0 where
  pub does_below : (x y : X) (w : W) → look.above x ≡ Some y → look.does y w ≡ Goes → look.does x w ≡ Goes
  pub tells_below : (x y : X) (c : B) → look.above x ≡ Some y → look.tells y c ≡ Goes → look.tells x c ≡ Goes
  pub creates_moves : (x : X) (w : W) → look.creates x w ≡ true → look.does x w ≡ Stays → ⊥
  pub told_below : (x y : X) → look.above x ≡ Some y → begin.is_told x ≡ begin.is_told y
  pub registers_below : (x y : X) (c : B) → look.above x ≡ Some y → look.registers x c ≡ look.registers y c
  pub has_live : (x : X) → begin.is_told x ≡ true → begin.stage x ≡ begin.life x
  pub has_nothing : (x : X) → begin.is_told x ≡ false → begin.stage x ≡ Coming
  pub none_gone : (x : X) → begin.life x ≡ Gone → ⊥
  pub none_own : (x : X) → look.is_own x ≡ true → begin.life x ≡ Coming
  pub none_below : (x y : X) → look.above x ≡ Some y → begin.life x ≡ Coming

-- the context above this one is such
abbrev pub Above : {X W B : Type 0} → Look X W B → X → (X → Type 0) → Type 0
Above {X} look x is_such = (y : X) × (look.above x ≡ Some y) × is_such y

-- ---- what the process does

-- a context that the process makes is its own and new, and below one that it has
pub record Makes {X W B : Type 0} (look : Look X W B) (begin : Begin X) (x : X)
    (h : List (Event W B)) : Type 0 where
  pub told : is_told look begin x h ≡ true
  pub own : look.is_own x ≡ true
  pub new : stage look begin x h ≡ Coming
  pub below : Above look x (λ y. stage look begin y h ≡ Held)

-- it makes and drops nothing of a group that it isn't told of
abbrev pub Acts : {X W B : Type 0} → Look X W B → Begin X → X → List (Event W B) → Effect → Type 0
Acts look begin x h Stays = Unit {0}
Acts look begin x h Comes = Makes look begin x h
Acts look begin x h Goes = is_told look begin x h ≡ true

-- x is below y, made there by this bundle and by the process
pub record OwnChild {X W B : Type 0} (look : Look X W B) (y : X) (w : W) (x : X) : Type 0 where
  pub below : look.above x ≡ Some y
  pub own : look.is_own x ≡ true
  pub comes : look.does x w ≡ Comes

abbrev pub is_coming : Effect → Bool
is_coming Comes = true
is_coming _ = false

-- it owns what it makes, and hands nothing else over
abbrev pub HandsOver : Effect → Handing → Type 0
HandsOver Comes hand = hand ≡ Given
HandsOver _ hand = hand ≡ Same

-- it names what it makes, and else what it has, and drops what is below a context that it owns, with all
-- below
pub record Wrote {X W B : Type 0} (look : Look X W B) (begin : Begin X) (w : W) (x : X)
    (h : List (Event W B)) : Type 0 where
  pub acts : Acts look begin x h (look.does x w)
  pub children : AllByRecursion (OwnChild look x w) (look.makes x w)
  pub hands : HandsOver (look.does x w) (look.hands x w)
  pub creates : look.creates x w ≡ is_coming (look.does x w)
  pub needs : look.needs x w ≡ true → stage look begin x h ≡ Held
  pub drops : look.drops x w ≡ true → stage look begin x h ≡ Held
  pub drops_below : look.drops x w ≡ true → (y : X) → look.above x ≡ Some y → owns look begin y h ≡ true
  pub goes : look.does x w ≡ Goes → (look.drops x w ≡ true) ⊎ Above look x (λ y. look.does y w ≡ Goes)

-- ---- what the parent does

-- a coming is of a context that the parent doesn't know, below a live one, made by who owns that; a context
-- of the process that the parent doesn't know goes only with the one above; and where a context changes its
-- owner nothing below it is left
pub record Done {X W B : Type 0} (look : Look X W B) (begin : Begin X) (e : Event W B) (w : W) (x : X)
    (h : List (Event W B)) : Type 0 where
  pub new : look.does x w ≡ Comes → life look begin x h ≡ Coming
  pub with_above : look.does x w ≡ Goes → look.is_own x ≡ true → life look begin x h ≡ Coming →
      Above look x (λ y. look.does y w ≡ Goes)
  pub below_live : look.does x w ≡ Comes → (y : X) → look.above x ≡ Some y → life look begin y (e ∷ h) ≡ Held
  pub by_owner : look.does x w ≡ Comes → (y : X) → look.above x ≡ Some y →
      look.is_own x ≡ owned look begin y (e ∷ h)
  pub cleared : (y : X) → look.above x ≡ Some y →
      (look.hands y w ≡ Same) ⊎ (life look begin x h ≡ Held → life look begin x (e ∷ h) ≡ Held → ⊥)

-- x is below y, and another made it
pub record OtherChild {X W B : Type 0} (look : Look X W B) (y x : X) : Type 0 where
  pub below : look.above x ≡ Some y
  pub other : look.is_own x ≡ false

-- the same of a change of others, who make nothing of the process's own, and what they make has an owner
pub record DoneByOthers {X W B : Type 0} (look : Look X W B) (begin : Begin X) (e : Event W B) (u : W) (x : X)
    (h : List (Event W B)) : Type 0 where
  pub done : Done look begin e u x h
  pub by_others : look.does x u ≡ Comes → look.is_own x ≡ false
  pub owned : look.does x u ≡ Comes → look.hands x u ≡ Same → ⊥
  pub creates : look.does x u ≡ Comes → look.creates x u ≡ true
  pub creates_others : look.creates x u ≡ true → look.is_own x ≡ false
  pub children : AllByRecursion (OtherChild look x) (look.makes x u)

-- what a Register tells of a context of this life
abbrev pub told_whole : Stage → Effect
told_whole Held = Comes
told_whole _ = Stays

-- what a bundle tells of a context: who is told of the group is told each change, who begins to be is told
-- what is live behind it, and all others nothing
abbrev pub Told : Bool → Bool → Effect → Effect → Stage → Type 0
Told true registers did told l = told ≡ did
Told false true did told l = told ≡ told_whole (moved did l)
Told false false did told l = told ≡ Stays

-- and the contexts that it brings below one
abbrev pub Brought : {X : Type 0} → Bool → Bool → List X → List X → List X → Type 0
Brought true registers brought made all = brought ≡ made
Brought false true brought made all = brought ≡ all
Brought false false brought made all = brought ≡ []

-- and who owns a context
abbrev pub told_owner : Bool → Handing
told_owner true = Given
told_owner false = Taken

abbrev pub Handed : Bool → Bool → Handing → Handing → Bool → Type 0
Handed true registers did told is_owned = told ≡ did
Handed false true did told is_owned = told ≡ told_owner is_owned
Handed false false did told is_owned = Unit {0}

pub record Tells {X W B : Type 0} (look : Look X W B) (begin : Begin X) (e : Event W B) (u : W) (c : B)
    (x : X) (h : List (Event W B)) : Type 0 where
  pub done : DoneByOthers look begin e u x h
  pub told : Told (is_told look begin x h) (look.registers x c) (look.does x u) (look.tells x c)
      (life look begin x h)
  pub brought : Brought (is_told look begin x h) (look.registers x c) (look.brings x c) (look.makes x u)
      (filter (is_alive look begin (e ∷ h)) (attached look x h ++ look.makes x u))
  pub others : AllByRecursion (OtherChild look x) (look.brings x c)
  pub handed : life look begin x (e ∷ h) ≡ Held → Handed (is_told look begin x h) (look.registers x c)
      (look.hands x u) (look.handed x c) (owned look begin x (e ∷ h))
  pub only_live : (look.handed x c ≡ Same) ⊎ (life look begin x (e ∷ h) ≡ Held)

-- what is sent back: the removal of what came too late
abbrev pub Returned : Effect → Effect → Type 0
Returned Stays told = told ≡ Comes → ⊥
Returned Comes told = told ≡ Goes
Returned Goes told = ⊥

pub record GivesBack {X W B : Type 0} (look : Look X W B) (begin : Begin X) (w : W) (c : B) (x : X)
    (h : List (Event W B)) : Type 0 where
  pub returned : Returned (look.does x w) (look.tells x c)
  pub with_above : look.tells x c ≡ Goes → look.is_own x ≡ true → life look begin x h ≡ Coming →
      (look.does x w ≡ Comes) ⊎ Above look x (λ y. look.tells y c ≡ Goes)
  pub untold : is_told look begin x h ≡ false → look.tells x c ≡ Stays
  pub brings_none : look.brings x c ≡ []
  pub hands_none : look.handed x c ≡ Same

-- what is ignored: a drop of what was discarded
abbrev pub Ignored : Effect → Stage → Type 0
Ignored Stays l = Unit {0}
Ignored Comes l = ⊥
Ignored Goes l = l ≡ Gone

-- a change that isn't sent: nothing of the group, where the process is told of it
pub record Unsent {X W B : Type 0} (look : Look X W B) (begin : Begin X) (e : Event W B) (u : W) (x : X)
    (h : List (Event W B)) : Type 0 where
  pub done : DoneByOthers look begin e u x h
  pub untold : is_told look begin x h ≡ true → look.does x u ≡ Stays
  pub makes_none : is_told look begin x h ≡ true → look.makes x u ≡ []
  pub hands_none : is_told look begin x h ≡ true → life look begin x (e ∷ h) ≡ Held → look.hands x u ≡ Same

-- ---- all events

-- what an event may hold
abbrev pub Fit : {X W B : Type 0} → Look X W B → Begin X → Event W B → List (Event W B) → Type 0
Fit {X} look begin (Writes w) h = (x : X) → Wrote look begin w x h
Fit {X} look begin (Sends k u c) h = (x : X) → Tells look begin (Sends k u c) u c x h
Fit {X} look begin (Accepts k w) h = (x : X) → Done look begin (Accepts k w) w x h
Fit {X} look begin (Reverts k w c) h = (x : X) → GivesBack look begin w c x h
Fit {X} look begin (Ignores k w) h = (x : X) → Ignored (look.does x w) (life look begin x h)
Fit {X} look begin (Changes k u) h = (x : X) → Unsent look begin (Changes k u) u x h
Fit look begin _ h = Unit {0}

-- each event fits, until the process ends
abbrev pub Fits : {X W B : Type 0} → Look X W B → Begin X → List (Event W B) → Type 0
Fits look begin [] = Unit {0}
Fits look begin (e ∷ h) = (is_ended h ≡ false → Fit look begin e h) × Fits look begin h

-- the events keep the rules
pub record Keeps {X W B : Type 0} (look : Look X W B) (begin : Begin X) (h : List (Event W B)) : Type 0 where
  pub lawful : Lawful look begin
  pub flows : Flows h
  pub fits : Fits look begin h
