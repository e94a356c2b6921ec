use Rattle.std.proofs.Common.{◌≡◌, ◌-◌}
use Rattle.field_rules.specs.RuleBounds.{bounds_of}
use Rattle.protocol.specs.Start.{numbers}
use Rattle.model.specs.Settling.{all_served, round}
use Rattle.model.proofs.RoundsGoes.{Goes}
use Rattle.world.proofs.world.World.go_round.Given as goal

abbrev pub invariant-loop-p : goal.invariant-loop-p
invariant-loop-p g l = record {
  goes : Goes l.fn.self l.world;
  so_far : all_served (bounds_of l.rules) (numbers l.p (l.count - l.p)) l.world ≡ round (bounds_of l.rules) l.fn.self;
}
