use Rattle.std.proofs.Common.{sym, subst, not}
use Rattle.actors.specs.Side.{is_on, HeldOnce}
use Rattle.actors.proofs.Holds.{left_once}
use Rattle.actors.proofs.side.Actors.teardown.Goals as goal

pub invariant_of-self : goal.invariant_of-self
invariant_of-self c =
    subst HeldOnce (sym c.leave_out_on.ensures) (left_once (λ h. not (is_on c.args.w h)) c.self.inside.held.items c.self.invariant)
