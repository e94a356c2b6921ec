use Rattle.std.proofs.Common.{◌≡◌, ◌++◌, drop}
use Rattle.content_core.specs.Steps.{acks_of}
use Rattle.content_core.proofs.takes.acks_of.Given as goal

abbrev pub invariant-loop-part : goal.invariant-loop-part
invariant-loop-part l = l.acks ++ acks_of (drop l.part-index l.parts) ≡ acks_of l.parts
