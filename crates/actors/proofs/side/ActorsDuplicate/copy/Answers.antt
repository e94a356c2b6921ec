use Rattle.std.proofs.Common.{◌∙◌, sym, subst}
use Rattle.actors.specs.Side.{HeldOnce}
use Rattle.actors.proofs.side.ActorsDuplicate.copy.Goals as goal

pub invariant_of-result : goal.invariant_of-result
invariant_of-result c = subst HeldOnce (sym (c.in_ok-from_slice.ensures.items ∙ c.as_slice.ensures.value)) c.self.invariant
