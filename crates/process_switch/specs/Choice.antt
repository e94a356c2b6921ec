-- Which process is chosen.
use Rattle.std.specs.Prelude.{◌≡◌, ◌≢◌, ◌<◌, if◌then◌else◌, bytes_eq, false, option_map, position, slice_get}
use Rattle.std.specs.Prelude.{Bool, List, MatchOption, Option, Some, ℕ}
use Rattle.std.specs.Option.{option_map_or}
use Rattle.fission_ids.specs.declared.process.ProcId.{ProcId}
use Rattle.url.specs.Parts.{Parts}
use Rattle.process_switch.specs.declared.plan.Plan.{Plan}
use Rattle.process_switch.specs.declared.plan.Plan.TheVariants.{NoProcess, Stay, Switch}
use Rattle.process_switch.specs.Remote.{remote_type}

-- the remote type of each process, of those that are live
abbrev pub Live : Type 0
Live = List (Option (List ℕ))

-- whether this is the remote type of a process that is live
abbrev pub is_of : List ℕ → Option (List ℕ) → Bool
is_of t process = option_map_or (λ own. bytes_eq own t) process false

-- the least live process of a type
abbrev pub choice : Live → List ℕ → Option ProcId
choice live t = option_map (λ p. record { 0 = p }) (position (is_of t) live)

-- whether the owner is there, live, and of the type
abbrev pub serves : List ℕ → Option ProcId → Live → Bool
serves t owner live = option_map_or (λ p. option_map_or (is_of t) (slice_get live p.0) false) owner false

-- where what asks for a type is loaded
abbrev pub plan_of_type : List ℕ → Option ProcId → Live → Plan
plan_of_type t owner live =
    if serves t owner live then Stay else option_map_or Switch (choice live t) NoProcess

-- where an address is loaded
abbrev pub plan_for : Parts → Option ProcId → List ℕ → Live → Plan
plan_for url owner present live = plan_of_type (remote_type url present) owner live

-- process p is live and of the type
abbrev pub IsLiveOf : Live → List ℕ → ℕ → Type 0
IsLiveOf live t p = slice_get live p ≡ Some (Some t)

-- p is the least live process of the type
abbrev pub IsLeast : Live → List ℕ → ProcId → Type 0
IsLeast live t p = IsLiveOf live t p.0 × ((q : ℕ) → q < p.0 → slice_get live q ≢ Some (Some t))

-- the process that is chosen is the least of the type; where none is chosen, there is none
abbrev pub ChoiceIsTheLeast : Type 0
ChoiceIsTheLeast = (live : Live) (t : List ℕ) →
    MatchOption (choice live t) ((q : ℕ) → slice_get live q ≢ Some (Some t)) (IsLeast live t)

-- a navigation switches to another process than the owner
abbrev pub SwitchLeavesTheOwner : Type 0
SwitchLeavesTheOwner = (t : List ℕ) (owner : Option ProcId) (live : Live) (p : ProcId) →
    plan_of_type t owner live ≡ Switch p → owner ≢ Some p
