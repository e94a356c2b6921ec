use Rattle.std.proofs.Common.{◌≡◌}
use Rattle.world.specs.Sides.{delivered}
use Rattle.world.proofs.deliver.deliver.Given as goal

abbrev pub invariant-loop-to : goal.invariant-loop-to
invariant-loop-to l = delivered l.to-iterator.rest.items l.downs ≡ delivered l.fn.sent l.fn.downs
