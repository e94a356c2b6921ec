-- The steps that can be played so far, and the processes that they name.
use Rattle.std.specs.Prelude.{ℕ, ◌<◌}
use Rattle.wire_msgs.specs.declared.action.Action.{Action}
use Rattle.wire_msgs.specs.declared.bundle.UpBundle.{UpBundle}
use Rattle.journal.specs.declared.entry.Step.{Step}
use Rattle.journal.specs.declared.entry.Step.TheVariants.{Act, Take, Raw, ParentAct, Hear}
use Rattle.protocol.specs.Played.{ArePlayed, IsPlayedByParent, IsPlayedByProcess}

-- a process's step, of which it is one of n
pub record ActFits (n p : ℕ) (action : Action) : Type 0 where
  pub process : p < n
  pub played : IsPlayedByProcess action

-- a raw bundle of a process, which is one of n
pub record RawFits (n p : ℕ) (bundle : UpBundle) : Type 0 where
  pub process : p < n
  pub parts : ArePlayed bundle.parts

-- a step can be played, and the process that it names is one of n
abbrev pub StepFits : ℕ → Step → Type 0
StepFits n (Act p action) = ActFits n p.0 action
StepFits n (Take p) = p.0 < n
StepFits n (Raw p bundle) = RawFits n p.0 bundle
StepFits n (ParentAct action) = IsPlayedByParent n action
StepFits n (Hear p) = p.0 < n
