use Rattle.std.proofs.Common.{◌≡◌, take}
use Rattle.context_store.proofs.list_store.copied.Given as goal

abbrev pub invariant-loop-listed : goal.invariant-loop-listed
invariant-loop-listed l = l.copies.items ≡ take l.listed-index l.contexts
