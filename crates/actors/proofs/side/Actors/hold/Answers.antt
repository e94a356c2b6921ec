use Rattle.std.proofs.Common.{◌∙◌, ap, sym, subst}
use Rattle.actors.specs.Side.{is_held, HeldOnce}
use Rattle.actors.proofs.Holds.{pushed_once}
use Rattle.actors.proofs.side.Actors.hold.Goals as goal

pub invariant_of-self : goal.invariant_of-self
invariant_of-self c = subst HeldOnce (sym c.in_err-push.ensures.items) c.self.invariant

pub invariant_of-self-2 : goal.invariant_of-self-2
invariant_of-self-2 c =
    subst HeldOnce (sym c.in_ok-push.ensures.items)
    (pushed_once c.args.q c.args.w c.self.inside.held.items c.self.invariant (ap (λ s. is_held c.args.q s.held) c.self.view_is ∙ c.requires))
