-- What holds of each scenario that is read.
use Rattle.std.specs.Prelude.{ℕ, ◌<◌, ◌≤◌, length, ⊤}
use Rattle.std.specs.List.{AllByRecursion}
use Rattle.wire_msgs.specs.Config.{ConfigFits}
use Rattle.journal.specs.Step.{StepFits}
use Rattle.scenario.specs.declared.line.Actor.{Actor}
use Rattle.scenario.specs.declared.line.Actor.TheVariants as actors
use Rattle.scenario.specs.declared.line.Show.TheVariants as shows
use Rattle.scenario.specs.declared.line.Line.{Line}
use Rattle.scenario.specs.declared.line.Line.TheVariants as lines
use Rattle.scenario.specs.declared.line.Scenario.{Scenario}

-- the side is one of n processes, or the parent
abbrev pub ActorFits : ℕ → Actor → Type 0
ActorFits n actors.Parent = ⊤
ActorFits n (actors.Process p) = p.0 < n

abbrev pub LineFits : ℕ → Line → Type 0
LineFits n (lines.Step step) = StepFits n step
LineFits n lines.Settle = ⊤
LineFits n (lines.Show (shows.One who context field)) = ActorFits n who
LineFits n (lines.Show (shows.Side who)) = ActorFits n who
LineFits n (lines.Show shows.All) = ⊤

-- a run may begin so, and there are at most 20,000 steps, which can be played
pub record Fits (s : Scenario) : Type 0 where
  pub config : ConfigFits s.config
  pub steps : length s.lines ≤ 20000
  pub lines : AllByRecursion (LineFits (length s.config.types)) s.lines
