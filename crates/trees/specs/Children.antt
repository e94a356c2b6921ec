-- The contexts below one, in the order in which they came, and who owns it: in the process and in the parent.
use Rattle.std.specs.Prelude.{Bool, not, List, [], ◌∷◌, ◌++◌, filter}
use Rattle.traces.specs.Event.{Bundle, Event}
use Rattle.traces.specs.Event.Event.{Writes, Sends, Takes, Accepts, Changes}
use Rattle.traces.specs.Words.{is_gone}
use Rattle.trees.specs.Look.{Handing, owned_behind, Look, Begin}
use Rattle.trees.specs.Words.{stage, life, is_held}

-- those that ever came below y in the process: it made them, or was told of them
abbrev pub came : {X W B : Type 0} → Look X W B → X → List (Event W B) → List X
came look y [] = []
came look y (Writes w ∷ h) = came look y h ++ look.makes y w
came look y (Takes d ∷ h) = came look y h ++ look.brings y d.content
came look y (_ ∷ h) = came look y h

-- those that were ever attached below y in the parent
abbrev pub attached : {X W B : Type 0} → Look X W B → X → List (Event W B) → List X
attached look y [] = []
attached look y (Sends k u c ∷ h) = attached look y h ++ look.makes y u
attached look y (Changes k u ∷ h) = attached look y h ++ look.makes y u
attached look y (Accepts k w ∷ h) = attached look y h ++ look.makes y w
attached look y (_ ∷ h) = attached look y h

-- a context isn't discarded
abbrev pub is_alive : {X W B : Type 0} → Look X W B → Begin X → List (Event W B) → X → Bool
is_alive look begin h x = not (is_gone (life look begin x h))

-- the children of y in the process
abbrev pub held_below : {X W B : Type 0} → Look X W B → Begin X → X → List (Event W B) → List X
held_below look begin y h = filter (λ x. is_held (stage look begin x h)) (came look y h)

-- the children of y in the parent
abbrev pub live_below : {X W B : Type 0} → Look X W B → Begin X → X → List (Event W B) → List X
live_below look begin y h = filter (λ x. is_held (life look begin x h)) (attached look y h)

-- the process owns y, as the parent has it
abbrev pub owned : {X W B : Type 0} → Look X W B → Begin X → X → List (Event W B) → Bool
owned look begin y [] = begin.owned y
owned look begin y (Sends k u c ∷ h) = owned_behind (look.hands y u) (owned look begin y h)
owned look begin y (Changes k u ∷ h) = owned_behind (look.hands y u) (owned look begin y h)
owned look begin y (Accepts k w ∷ h) = owned_behind (look.hands y w) (owned look begin y h)
owned look begin y (_ ∷ h) = owned look begin y h

-- the process owns y, as it has it itself
abbrev pub owns : {X W B : Type 0} → Look X W B → Begin X → X → List (Event W B) → Bool
owns look begin y [] = begin.owned y
owns look begin y (Writes w ∷ h) = owned_behind (look.hands y w) (owns look begin y h)
owns look begin y (Takes d ∷ h) = owned_behind (look.handed y d.content) (owns look begin y h)
owns look begin y (_ ∷ h) = owns look begin y h

-- whether the process owns it behind these bundles, taken one after the other
abbrev pub owner_behind : {B : Type 0} → (B → Handing) → List (Bundle B) → Bool → Bool
owner_behind handed [] b = b
owner_behind handed (d ∷ ds) b = owner_behind handed ds (owned_behind (handed d.content) b)
