-- What is played so far: actions of both sides, and the parts of a process's bundle.
use Rattle.std.specs.Prelude.{ℕ, ◌<◌, List, ⊤}
use Rattle.std.specs.List.{AllByRecursion}
use Rattle.wire_msgs.specs.declared.action.Action.{Action}
use Rattle.wire_msgs.specs.declared.action.Action.TheVariants as own
use Rattle.wire_msgs.specs.declared.action.ParentAction.{ParentAction}
use Rattle.wire_msgs.specs.declared.action.ParentAction.TheVariants as parents
use Rattle.wire_msgs.specs.declared.part.UpPart.{UpPart}
use Rattle.wire_msgs.specs.declared.part.UpPart.TheVariants as ups

-- the parent writes fields, opens tabs, subscribes processes, discards contexts, and ends processes, each one
-- of n
abbrev pub IsPlayedByParent : ℕ → ParentAction → Type 0
IsPlayedByParent n (parents.Set x t) = ⊤
IsPlayedByParent n (parents.Tab p named) = p.0 < n
IsPlayedByParent n (parents.Subscribe p g) = p.0 < n
IsPlayedByParent n (parents.Discard x) = ⊤
IsPlayedByParent n (parents.Kill p) = p.0 < n
IsPlayedByParent n action = ⊥

-- a process writes fields, and makes and drops frames
abbrev pub IsPlayedByProcess : Action → Type 0
IsPlayedByProcess (own.Set x t) = ⊤
IsPlayedByProcess (own.Frame x) = ⊤
IsPlayedByProcess (own.Drop x) = ⊤
IsPlayedByProcess action = ⊥

-- of windows, queries and messages there are no parts
abbrev pub IsPlayed : UpPart → Type 0
IsPlayed (ups.Create x above) = ⊤
IsPlayed (ups.Drop x) = ⊤
IsPlayed (ups.DropAck x) = ⊤
IsPlayed (ups.Commit x t) = ⊤
IsPlayed part = ⊥

abbrev pub ArePlayed : List UpPart → Type 0
ArePlayed parts = AllByRecursion IsPlayed parts
