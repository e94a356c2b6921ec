use Rattle.std.proofs.Common.{◌≡◌, ◌+◌, [], drop}
use Rattle.protocol.specs.Order.{first_misplaced}
use Rattle.parent_core.specs.Envelopes.{first_misplaced_behind}
use Rattle.parent_core.proofs.envelopes.first_misplaced.Given as goal

abbrev pub invariant-loop-i : goal.invariant-loop-i
invariant-loop-i l = first_misplaced_behind (l.i + 1) l.last (drop l.i l.parts) ≡ first_misplaced 1 [] l.parts
