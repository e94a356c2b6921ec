use Rattle.std.proofs.Common.{◌≡◌, take}
use Rattle.actor_registry.proofs.registry.registered.Given as goal

abbrev pub invariant-loop-entry : goal.invariant-loop-entry
invariant-loop-entry l = l.registry ≡ take l.entry-index l.entries
