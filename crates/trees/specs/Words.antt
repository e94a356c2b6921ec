-- What the events of a process say of a context by looking back: its stage in the process, its life in the
-- parent, and the stage that all that was made, dropped and sent comes to.
use Rattle.std.specs.Prelude.{◌≡◌, ◌⊎◌, Bool, true, false, ◌||◌, List, [], ◌∷◌}
use Rattle.traces.specs.Event.{Event}
use Rattle.traces.specs.Event.Event.{Writes, Sends, Takes, Accepts, Reverts, Ignores, Changes, Ends}
use Rattle.traces.specs.Words.{Stage}
use Rattle.traces.specs.Words.Stage.{Held}
use Rattle.trees.specs.Look.{Effect, moved, Look, Begin}

-- the parent tells the process of the group: from the start or a Register on, and until the process's end
abbrev pub is_told : {X W B : Type 0} → Look X W B → Begin X → X → List (Event W B) → Bool
is_told look begin x [] = begin.is_told x
is_told look begin x (Sends k u c ∷ h) = look.registers x c || is_told look begin x h
is_told look begin x (Ends ∷ h) = false
is_told look begin x (_ ∷ h) = is_told look begin x h

-- the stage of a context in the process, by what it did and what it took
abbrev pub stage : {X W B : Type 0} → Look X W B → Begin X → X → List (Event W B) → Stage
stage look begin x [] = begin.stage x
stage look begin x (Writes w ∷ h) = moved (look.does x w) (stage look begin x h)
stage look begin x (Takes d ∷ h) = moved (look.tells x d.content) (stage look begin x h)
stage look begin x (_ ∷ h) = stage look begin x h

-- the life of a context in the parent: not yet known, live, or discarded
abbrev pub life : {X W B : Type 0} → Look X W B → Begin X → X → List (Event W B) → Stage
life look begin x [] = begin.life x
life look begin x (Sends k u c ∷ h) = moved (look.does x u) (life look begin x h)
life look begin x (Changes k u ∷ h) = moved (look.does x u) (life look begin x h)
life look begin x (Accepts k w ∷ h) = moved (look.does x w) (life look begin x h)
life look begin x (Reverts k w c ∷ h) = moved (look.tells x c) (life look begin x h)
life look begin x (_ ∷ h) = life look begin x h

-- the stage that all that the process did and was sent comes to, in whatever order it is taken
abbrev pub joint : {X W B : Type 0} → Look X W B → Begin X → X → List (Event W B) → Stage
joint look begin x [] = begin.stage x
joint look begin x (Writes w ∷ h) = moved (look.does x w) (joint look begin x h)
joint look begin x (Sends k u c ∷ h) = moved (look.tells x c) (joint look begin x h)
joint look begin x (Reverts k w c ∷ h) = moved (look.tells x c) (joint look begin x h)
joint look begin x (_ ∷ h) = joint look begin x h

-- the context is there
abbrev pub is_held : Stage → Bool
is_held Held = true
is_held _ = false

-- the parent has heard of a context, as made in time or too late
abbrev pub is_known : {X W B : Type 0} → Look X W B → Begin X → X → List (Event W B) → Bool
is_known look begin x [] = is_held (begin.life x)
is_known look begin x (Sends k u c ∷ h) = look.creates x u || is_known look begin x h
is_known look begin x (Changes k u ∷ h) = look.creates x u || is_known look begin x h
is_known look begin x (Accepts k w ∷ h) = look.creates x w || is_known look begin x h
is_known look begin x (Reverts k w c ∷ h) = look.creates x w || is_known look begin x h
is_known look begin x (Ignores k w ∷ h) = look.creates x w || is_known look begin x h
is_known look begin x (_ ∷ h) = is_known look begin x h

-- a bundle that does this is among these
abbrev pub Stands : {W : Type 0} → (W → Effect) → Effect → List W → Type 0
Stands does e [] = ⊥
Stands does e (w ∷ ws) = (does w ≡ e) ⊎ Stands does e ws
