-- What a call of the parent gives: the rule's answer, what it answers behind it, and what it sends.
use Rattle.std.specs.Prelude.{◌≡◌, ℕ, ◌-◌, ◌^◌, ◌<◌, List, [], ◌∷◌, ◌++◌, length}
use Rattle.std.specs.Prelude.{Option, None, Some}
use Rattle.fission_ids.specs.declared.process.ProcId.{ProcId}
use Rattle.wire_msgs.specs.declared.bundle.DownBundle.{DownBundle}
use Rattle.protocol.specs.Questions.{Facts}
use Rattle.protocol.specs.Bundle.{Ruling, bundle_for}
use Rattle.protocol.specs.Start.{numbers}
use Rattle.parent_core.specs.Parent.{Kept, facts_of, counted_of}
use Rattle.parent_core.specs.declared.ruled.Ruled.{Ruled}

-- a bundle with its destination
abbrev pub addressed : ℕ → Option DownBundle → List (ProcId × DownBundle)
addressed q None = []
addressed q (Some b) = (record { 0 = q }, b) ∷ []

-- the bundles of a ruling for these processes
abbrev pub bundles_of : Ruling Facts → List ℕ → List (ProcId × DownBundle)
bundles_of ruling [] = []
bundles_of ruling (q ∷ qs) = addressed q (bundle_for ruling.kept q (ruling.sends q)) ++ bundles_of ruling qs

-- the parent that was before, and what a rule makes of its answers
pub record RuledBy (before : Kept) (rule : Ruling Facts) (ruled : Ruled) : Type 0 where
  pub config : ruled.core.config ≡ before.config
  pub facts : facts_of ruled.core ≡ rule.kept
  pub answer : ruled.answer ≡ rule.answer
  pub sent : ruled.sent ≡ bundles_of rule (numbers 0 (length before.config.types))

-- neither count of a process is at the end of its numbers
pub record Counts (k : Kept) : Type 0 where
  pub heard : (p : ℕ) → (counted_of p k.processes).heard < 2 ^ 64 - 1
  pub sent : (p : ℕ) → (counted_of p k.processes).sent < 2 ^ 64 - 1
