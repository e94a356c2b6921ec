use Rattle.std.proofs.Common.{◌≡◌, take}
use Rattle.transaction.proofs.transaction.copy_into.Given as goal

abbrev pub invariant-loop-i : goal.invariant-loop-i
invariant-loop-i l = take l.i l.copies ≡ take l.i l.values
