use Rattle.std.proofs.Common.{◌≡◌, take}
use Rattle.actors.proofs.side.copied.Given as goal

abbrev pub invariant-loop-letter : goal.invariant-loop-letter
invariant-loop-letter l = l.copies.items ≡ take l.letter-index l.inbox
