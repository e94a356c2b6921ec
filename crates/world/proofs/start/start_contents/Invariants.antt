use Rattle.std.proofs.Common.{◌≡◌, map}
use Rattle.protocol.specs.Start.{numbers}
use Rattle.world.specs.Sides.{sides_of}
use Rattle.world.proofs.Starting.{side_at_start}
use Rattle.world.proofs.start.start_contents.Given as goal

abbrev pub invariant-loop-p : goal.invariant-loop-p
invariant-loop-p l = sides_of l.contents.items ≡ map (side_at_start l.config.tabs) (numbers 0 l.p)
