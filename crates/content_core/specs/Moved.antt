-- What a process's call gives: the rule's answer, what it answers behind it, and what it sends.
use Rattle.std.specs.Prelude.{◌≡◌, ◌-◌, ◌^◌, ◌<◌, List, ⊤}
use Rattle.std.specs.List.{AllByRecursion}
use Rattle.wire_msgs.specs.declared.part.DownPart.{DownPart}
use Rattle.wire_msgs.specs.declared.part.DownPart.TheVariants.{Register, Create, Commit, Discard, Kill}
use Rattle.protocol.specs.Seen.{Seen}
use Rattle.protocol.specs.Take.{Step, bundle_sent}
use Rattle.content_core.specs.Content.{Kept, seen_of}
use Rattle.content_core.specs.declared.moved.Moved.{Moved}

-- the process that was before, and what a rule makes of its answers
pub record MovedBy (before : Kept) (rule : Step Seen) (moved : Moved) : Type 0 where
  pub process : moved.core.process ≡ before.process
  pub seen : seen_of moved.core ≡ rule.kept
  pub answer : moved.answer ≡ rule.answer
  pub sent : moved.sent ≡ bundle_sent rule.kept rule.sends

-- neither the commits nor the bundles taken are at the end of their numbers
pub record Counts (k : Kept) : Type 0 where
  pub commits : k.commits < 2 ^ 64 - 1
  pub taken : k.taken < 2 ^ 64 - 1

-- so far a process is told of groups, of contexts that come and go, of fields, and to stop
abbrev pub IsTakenPart : DownPart → Type 0
IsTakenPart (Register g contexts) = ⊤
IsTakenPart (Create known) = ⊤
IsTakenPart (Commit x t) = ⊤
IsTakenPart (Discard x) = ⊤
IsTakenPart Kill = ⊤
IsTakenPart _ = ⊥

-- in any number and order
abbrev pub IsTaken : List DownPart → Type 0
IsTaken parts = AllByRecursion IsTakenPart parts
