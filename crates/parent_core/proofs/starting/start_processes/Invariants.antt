use Rattle.std.proofs.Common.{◌≡◌, ℕ, length}
use Rattle.parent_core.specs.Parent.{counted_of}
use Rattle.parent_core.proofs.starting.start_processes.Given as goal

abbrev pub invariant-loop : goal.invariant-loop
invariant-loop l = record {
  len : length l.processes.items ≡ l.counter;
  counts : (p : ℕ) → counted_of p l.processes.items ≡ record { heard = 0; sent = 0 };
}
