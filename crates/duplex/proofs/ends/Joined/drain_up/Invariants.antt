use Rattle.std.proofs.Common.{◌≡◌, ◌++◌, length, ◌-◌}
use Rattle.duplex.specs.Joined.{up_sent, up_taken}
use Rattle.duplex.proofs.ends.Joined.drain_up.Given as goal

abbrev pub invariant-loop-item : goal.invariant-loop-item
invariant-loop-item g l = (up_sent l.self ≡ up_sent l.initial.self) × (up_taken l.self ≡ up_taken l.initial.self ++ l.rest.items)

abbrev pub decreases-loop-item : goal.decreases-loop-item
decreases-loop-item g l = length (up_sent l.self) - length (up_taken l.self)
