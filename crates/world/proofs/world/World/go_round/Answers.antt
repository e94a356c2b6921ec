use Rattle.std.proofs.Common.{ap, arith}
use Rattle.field_rules.specs.RuleBounds.{bounds_of}
use Rattle.protocol.specs.Start.{numbers}
use Rattle.model.specs.Settling.{all_served, round}
use Rattle.model.proofs.RoundsGoes.{goes_nowhere, goes_turn, served_next, served_all}
use Rattle.world.proofs.world.World.go_round.Goals as goal

pub loop-p-init : goal.loop-p-init
loop-p-init g c = record {
  goes = goes_nowhere c.args.self c.fits.ensures;
  so_far = ap (λ n. all_served (bounds_of c.args.rules.now) (numbers 0 n) c.args.self) (omega (arith, c.count-count.ensures.count));
}

pub loop-p-preserved : goal.loop-p-preserved
loop-p-preserved g c = record {
  goes = goes_turn (bounds_of c.args.rules.now) c.loop-p.p c.args.self c.loop-p.world c.in_ok-world.world c.loop-p.invariant.goes (omega (arith, c.count-count.ensures.count, c.loop-p-test.true)) c.in_ok-world.ensures;
  so_far = served_next (bounds_of c.args.rules.now) c.loop-p.p c.count-count.result c.loop-p.world c.in_ok-world.world (round (bounds_of c.args.rules.now) c.args.self) c.loop-p-test.true c.loop-p.invariant.so_far c.in_ok-world.ensures;
}

pub returns : goal.returns
returns g c = served_all (bounds_of c.args.rules.now) c.loop-p.p c.count-count.result c.loop-p.world (round (bounds_of c.args.rules.now) c.args.self) (omega (arith, c.loop-p-test.false)) c.loop-p.invariant.so_far
