use Rattle.std.proofs.Common.{◌≡◌, take}
use Rattle.parent_core.specs.Opening.{known_among}
use Rattle.parent_core.specs.Parent.{facts_of}
use Rattle.parent_core.proofs.parent.Parent.register_of.Given as goal

abbrev pub invariant-loop-x : goal.invariant-loop-x
invariant-loop-x l = (l.x-items ≡ (facts_of l.self).contexts.order) × (l.contexts.items ≡ known_among (facts_of l.self) l.q.0 l.g (take l.x-index l.x-items))
