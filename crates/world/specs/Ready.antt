-- What the sides are asked to be before a step.
use Rattle.std.specs.Prelude.{◌≡◌, ℕ, ◌-◌, ◌^◌, ◌<◌, List, ◌∷◌, length, Option, None, Some, IsSome}
use Rattle.std.specs.Prelude.{slice_index_or}
use Rattle.wire_msgs.specs.declared.bundle.DownBundle.{DownBundle}
use Rattle.wire_msgs.specs.declared.bundle.UpBundle.{UpBundle}
use Rattle.protocol.specs.Played.{ArePlayed}
use Rattle.content_core.specs.Content.{Kept as ContentKept}
use Rattle.content_core.specs.Moved.{IsTaken}
use Rattle.content_core.specs.Moved as content
use Rattle.parent_core.specs.Parent.{Kept as ParentKept, counted_of}
use Rattle.world.specs.Sides.{waiting_at}
use Rattle.world.specs.declared.sides.Sides.{Sides}

-- neither of the parent's counts of n processes is at the end of its numbers
pub record CountsWithin (n : ℕ) (k : ParentKept) : Type 0 where
  pub heard : (p : ℕ) → p < n → (counted_of p k.processes).heard < 2 ^ 64 - 1
  pub sent : (p : ℕ) → p < n → (counted_of p k.processes).sent < 2 ^ 64 - 1

-- of n processes, each has its core, no count is at its end, and what waits first on a link is in order
pub record IsReady (n : ℕ) (before : ParentKept) (contents : List (Option ContentKept))
    (ups : List (List UpBundle)) (downs : List (List DownBundle)) : Type 0 where
  pub contents_len : length contents ≡ n
  pub ups_len : length ups ≡ n
  pub downs_len : length downs ≡ n
  pub there : (p : ℕ) → p < n → IsSome (slice_index_or contents p None)
  pub counts : (p : ℕ) (k : ContentKept) → p < n → slice_index_or contents p None ≡ Some k → content.Counts k
  pub parent_counts : CountsWithin n before
  pub played : (p : ℕ) (b : UpBundle) (bs : List UpBundle) → p < n → waiting_at p ups ≡ b ∷ bs
      → ArePlayed b.parts
  pub taken : (p : ℕ) (b : DownBundle) (bs : List DownBundle) → p < n → waiting_at p downs ≡ b ∷ bs
      → IsTaken b.parts

-- the same of the parent and its sides
abbrev pub AreReady : ParentKept → Sides → Type 0
AreReady before sides =
    IsReady (length before.config.types) before sides.contents.items sides.ups.items sides.downs.items
