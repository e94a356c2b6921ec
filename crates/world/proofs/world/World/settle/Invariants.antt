use Rattle.field_rules.specs.RuleBounds.{bounds_of}
use Rattle.model.specs.Settling.{weight}
use Rattle.model.proofs.Rounds.{IsOnTheWay}
use Rattle.world.proofs.world.World.settle.Given as goal

abbrev pub invariant-rounds : goal.invariant-rounds
invariant-rounds g l = IsOnTheWay (bounds_of l.rules) l.fn.self l.world

abbrev pub decreases-rounds : goal.decreases-rounds
decreases-rounds g l = weight l.world
