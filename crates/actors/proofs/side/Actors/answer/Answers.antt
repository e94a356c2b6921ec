use Rattle.std.proofs.Common.{◌∙◌, ap, sym, subst, not}
use Rattle.actors.specs.Side.{holder_of, is_held_as, HeldOnce}
use Rattle.actors.proofs.Lists.{none_taken}
use Rattle.actors.proofs.Holds.{left_once, not_found}
use Rattle.actors.proofs.side.Actors.answer.Goals as goal

pub returns-in_err-w-clause-side : goal.returns-in_err-w-clause-side
returns-in_err-w-clause-side c =
    let none = ap (holder_of c.args.q) (sym (c.as_slice.ensures.value ∙ ap (λ s. s.held) c.self.view_is)) ∙ sym c.holder_of.ensures ∙ c.in_err-w.was in
    let stays = none_taken (is_held_as c.args.q) c.args.self.now.held (not_found c.args.q c.args.self.now.held none) in
    sym (ap (λ l. record c.args.self.now { held = l }) stays)

pub invariant_of-self : goal.invariant_of-self
invariant_of-self c =
    subst HeldOnce (sym c.leave_out.ensures) (left_once (λ h. not (is_held_as c.args.q h)) c.self.inside.held.items c.self.invariant)
