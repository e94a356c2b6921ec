use Rattle.std.proofs.Common.{◌≡◌, ◌++◌, length, ◌-◌}
use Rattle.duplex.specs.Joined.{down_sent, down_taken, up_sent, up_taken}
use Rattle.duplex.proofs.ends.Joined.drain_down.Given as goal

abbrev pub invariant-loop-item : goal.invariant-loop-item
invariant-loop-item g l = (down_sent l.self ≡ down_sent l.initial.self) × (down_taken l.self ≡ down_taken l.initial.self ++ l.rest.items) × (up_sent l.self ≡ up_sent l.initial.self) × (up_taken l.self ≡ up_taken l.initial.self)

abbrev pub decreases-loop-item : goal.decreases-loop-item
decreases-loop-item g l = length (down_sent l.self) - length (down_taken l.self)
