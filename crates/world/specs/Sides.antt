-- What the processes and their links are, as a step sees them: each process by the answers that it gives.
use Rattle.std.specs.Prelude.{ℕ, Bool, List, [], ◌∷◌, ◌++◌, map, slice_set, slice_index_or}
use Rattle.std.specs.Prelude.{Option, None, Some, unwrap_or}
use Rattle.std.specs.Option.{option_map}
use Rattle.fission_ids.specs.declared.process.ProcId.{ProcId}
use Rattle.wire_msgs.specs.declared.action.Action.{Action}
use Rattle.wire_msgs.specs.declared.bundle.DownBundle.{DownBundle}
use Rattle.wire_msgs.specs.declared.bundle.UpBundle.{UpBundle}
use Rattle.protocol.specs.Seen.{Seen}
use Rattle.protocol.specs.SeenAfter.{seen_after}
use Rattle.protocol.specs.Start.{seen_at_start}
use Rattle.protocol.specs.OwnActs.{action_step}
use Rattle.protocol.specs.Take.{Step, bundle_step, bundle_sent}
use Rattle.content_core.specs.Content.{Kept, seen_of}

-- ---- processes

-- a process: its number, and its answers
pub record Side : Type 0 where
  pub process : ℕ
  pub seen : Seen

abbrev pub side_of : Kept → Side
side_of k = record { process = k.process; seen = seen_of k }

abbrev pub sides_of : List (Option Kept) → List (Option Side)
sides_of contents = map (option_map side_of) contents

abbrev pub no_side : Side
no_side = record { process = 0; seen = seen_at_start [] 0 }

abbrev pub side_at : ℕ → List (Option Side) → Side
side_at p sides = unwrap_or (slice_index_or sides p None) no_side

-- whether process p runs
abbrev pub runs_at : ℕ → List (Option Side) → Bool
runs_at p sides = (side_at p sides).seen.running

-- what an action of process p is
abbrev pub step_of_action : ℕ → Action → List (Option Side) → Step Seen
step_of_action p action sides =
    let s = side_at p sides in action_step (λ k. k) (seen_after s.process) s.process action s.seen

-- what the take of a bundle is
abbrev pub step_of_bundle : ℕ → DownBundle → List (Option Side) → Step Seen
step_of_bundle p b sides =
    let s = side_at p sides in bundle_step (λ k. k) (seen_after s.process) s.process b s.seen

-- the processes behind a step of process p
abbrev pub sides_after : ℕ → Step Seen → List (Option Side) → List (Option Side)
sides_after p step sides = slice_set sides p (Some (record (side_at p sides) { seen = step.kept }))

-- the bundle that the step sends, if it sends any
abbrev pub sent_by : Step Seen → Option UpBundle
sent_by step = bundle_sent step.kept step.sends

-- ---- links

-- what waits on one of the links
abbrev pub waiting_at : {B : Type 0} → ℕ → List (List B) → List B
waiting_at p links = slice_index_or links p []

-- the links with one item more on one of them
abbrev pub links_with : {B : Type 0} → ℕ → B → List (List B) → List (List B)
links_with p b links = slice_set links p (waiting_at p links ++ b ∷ [])

-- the links from the processes behind a step of process p
abbrev pub ups_after : ℕ → Option UpBundle → List (List UpBundle) → List (List UpBundle)
ups_after p None ups = ups
ups_after p (Some b) ups = links_with p b ups

-- the links to the processes with these bundles delivered
abbrev pub delivered : List (ProcId × DownBundle) → List (List DownBundle) → List (List DownBundle)
delivered [] downs = downs
delivered (to ∷ more) downs = delivered more (links_with to.0.0 to.1 downs)
