use Rattle.std.proofs.Common.{subst}
use Rattle.actors.specs.Side.{HeldOnce}
use Rattle.actors.proofs.side.Actors.held.Goals as goal

pub returns-clause-once : goal.returns-clause-once
returns-clause-once c = subst (λ s. HeldOnce s.held) c.self.view_is c.self.invariant
