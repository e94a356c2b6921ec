-- What a world keeps is what its journal tells.
use Rattle.std.specs.Prelude.{◌≡◌, ℕ, ◌≤◌, List, length, map, Option, Some}
use Rattle.wire_msgs.specs.declared.bundle.DownBundle.{DownBundle}
use Rattle.wire_msgs.specs.declared.bundle.UpBundle.{UpBundle}
use Rattle.wire_msgs.specs.declared.config.Config.{Config}
use Rattle.protocol.specs.Start.{numbers}
use Rattle.content_core.specs.Content.{Kept as ContentKept}
use Rattle.parent_core.specs.Parent.{Kept as ParentKept, facts_of}
use Rattle.model.specs.Journal.{Journal}
use Rattle.model.specs.Laws.{RunFits}
use Rattle.model.specs.Links.{up_waiting, down_waiting}
use Rattle.model.specs.Moments.{Moment, facts_now, seen_now, moments_of}
use Rattle.model.specs.Next.{Lawful}
use Rattle.world.specs.Sides.{Side, sides_of}
use Rattle.world.specs.Came.{State}
use Rattle.world.specs.declared.sides.Sides.{Sides}

-- process p behind these moments
abbrev pub side : Config → List Moment → ℕ → Side
side c ms p = record { process = p; seen = seen_now c p ms }

-- all that there is behind these moments
abbrev pub state : Config → List Moment → State
state c ms = record {
  facts = facts_now c ms;
  sides = map (λ p. Some (side c ms p)) (numbers 0 (length c.types));
  ups = map (λ p. up_waiting p ms) (numbers 0 (length c.types));
  downs = map (λ p. down_waiting p ms) (numbers 0 (length c.types));
}

-- what the parent, the processes and the links are
abbrev pub state_of : ParentKept → List (Option ContentKept) → List (List UpBundle)
    → List (List DownBundle) → State
state_of parent contents ups downs =
    record { facts = facts_of parent; sides = sides_of contents; ups = ups; downs = downs }

abbrev pub whole : ParentKept → Sides → State
whole parent sides = state_of parent sides.contents.items sides.ups.items sides.downs.items

-- the most entries that a journal has
abbrev pub most_entries : ℕ
most_entries = 4294967295

-- a world stands for its journal
pub record Stands (c : Config) (j : Journal) (s : State) : Type 0 where
  pub fits : RunFits (record { config = c; journal = j })
  pub few : length j ≤ most_entries
  pub lawful : Lawful c j
  pub is : s ≡ state c (moments_of c j)
