-- The two links of each process: what waits on them by looking back.
use Rattle.std.specs.Prelude.{ℕ, Bool, true, false, ◌&&◌, List, [], ◌∷◌, map}
use Rattle.wire_msgs.specs.declared.bundle.DownBundle.{DownBundle}
use Rattle.wire_msgs.specs.declared.bundle.UpBundle.{UpBundle}
use Rattle.wire_msgs.specs.declared.config.Config.{Config}
use Rattle.traces.specs.Links.{writes_waiting, bundles_waiting}
use Rattle.model.specs.Journal.{Journal}
use Rattle.model.specs.Moments.{Moment, Written, events_of, moments_of}
use Rattle.model.specs.Moments.Written.{Own, Raw, Said}

-- the bundles among these
abbrev pub bundles_in : List Written → List UpBundle
bundles_in [] = []
bundles_in (Own b ∷ ws) = b ∷ bundles_in ws
bundles_in (Raw b ∷ ws) = b ∷ bundles_in ws
bundles_in (Said says ∷ ws) = bundles_in ws

-- what waits from process p to the parent, the oldest first
abbrev pub up_waiting : ℕ → List Moment → List UpBundle
up_waiting p ms = bundles_in (writes_waiting (events_of p ms))

-- what waits from the parent to process p, the oldest first
abbrev pub down_waiting : ℕ → List Moment → List DownBundle
down_waiting p ms = map (λ b. b.content) (bundles_waiting (events_of p ms))

-- whether nothing is there
abbrev pub is_nothing : {X : Type 0} → List X → Bool
is_nothing [] = true
is_nothing (x ∷ xs) = false

-- whether nothing waits on either link of process p
abbrev pub is_quiet : Config → ℕ → Journal → Bool
is_quiet c p j = is_nothing (up_waiting p (moments_of c j)) && is_nothing (down_waiting p (moments_of c j))
