use Rattle.std.proofs.Common.{◌≡◌, [], map}
use Rattle.protocol.specs.Start.{numbers}
use Rattle.world.proofs.start.links.Given as goal

abbrev pub invariant-loop : goal.invariant-loop
invariant-loop g l = l.links.items ≡ map (λ p. []) (numbers 0 l.counter)
