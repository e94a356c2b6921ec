use Rattle.content_core.specs.Held.{kept_of}
use Rattle.content_core.proofs.Folding.{IsAt}
use Rattle.content_core.proofs.held.Held.take_parts.Given as goal

abbrev pub invariant-loop-part : goal.invariant-loop-part
invariant-loop-part l = IsAt l.parts l.part-index l.e.0 l.told (kept_of l.fn.self) (kept_of l.self)
