-- What a process does with its epochs. It keeps the value, and for the field the number of its newest write
-- to it; it is never told what became of a write. A bundle tells how many of its writes the parent had heard:
-- where the newest write to the field isn't among them, the field of the bundle is obsolete. As the process
-- is taken out of the context's group, it forgets the number. What it makes or drops is shown at once.
use Rattle.std.specs.Prelude.{ℕ, nat_lt, Bool, true, false, Option, None, Some, List, [], ◌∷◌}
use Rattle.traces.specs.Event.{Bundle}
use Rattle.traces.specs.Event.Event.{Writes, Takes, Does}
use Rattle.traces.specs.Field.{Content, Trace}
use Rattle.traces.specs.Field.Content.{Nothing, Gives, Begins, Removes, Leaves}
use Rattle.traces.specs.Words.{Start, Stage, or_else, while_held, after, stage, newest}
use Rattle.traces.specs.Words.Stage.{Coming}

-- a bundle's field is obsolete: the parent had not heard the newest write when it sent it
abbrev pub is_obsolete : {B : Type 0} → ℕ → Bundle B → Bool
is_obsolete epoch d = nat_lt d.epoch epoch

-- what is shown after a bundle that holds this, where the field is obsolete or not, and the context in this
-- stage: a coming is passed over where the context is held or gone
abbrev pub shown_after_take : {V : Type 0} → Content V → Bool → Stage → Option V → Option V
shown_after_take Nothing obsolete s shown = shown
shown_after_take (Gives v) true s shown = shown
shown_after_take (Gives v) false s None = None
shown_after_take (Gives v) false s (Some before) = Some v
shown_after_take (Begins v) obsolete Coming shown = Some v
shown_after_take (Begins v) obsolete s shown = shown
shown_after_take Removes obsolete s shown = None
shown_after_take Leaves obsolete s shown = None

-- what is shown after an own write
abbrev pub shown_after_write : {V : Type 0} → Option V → Option V → Option V
shown_after_write w None = None
shown_after_write w (Some before) = Some (or_else w before)

-- what the process shows of the field: nothing where it doesn't have the context
abbrev pub replay : {V : Type 0} → Start V → Trace V → Option V
replay start [] = while_held start.stage start.initial
replay start (Writes w ∷ h) = shown_after_write w (replay start h)
replay start (Takes d ∷ h) = shown_after_take d.content (is_obsolete (newest h) d) (stage start.stage h)
    (replay start h)
replay start (Does c ∷ h) = shown_after_take c false (stage start.stage h) (replay start h)
replay start (_ ∷ h) = replay start h

-- what is shown behind these bundles, taken one after the other, where the process doesn't write the field
abbrev pub shown_behind : {V : Type 0} → Stage → Option V → List (Bundle (Content V)) → Option V
shown_behind s shown [] = shown
shown_behind s shown (d ∷ ds) = shown_behind (after d.content s) (shown_after_take d.content false s shown) ds
