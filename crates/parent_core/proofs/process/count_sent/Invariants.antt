use Rattle.std.proofs.Common.{◌≡◌, ℕ, length, nat_lt, ◌&&◌}
use Rattle.parent_core.specs.Parent.{counted_of}
use Rattle.parent_core.specs.Posts.{is_sent_to}
use Rattle.parent_core.specs.Sending.{counted_after}
use Rattle.parent_core.proofs.process.count_sent.Given as goal

abbrev pub invariant-loop-i : goal.invariant-loop-i
invariant-loop-i l = record {
  len : length l.processes ≡ length l.fn.processes;
  counts : (p : ℕ) → counted_of p l.processes ≡ counted_after (nat_lt p l.i && is_sent_to l.posts p) (counted_of p l.fn.processes);
}
