use Rattle.std.proofs.Common.{◌++◌, refl, arith}
use Rattle.field_rules.specs.RuleBounds.{bounds_of}
use Rattle.edge.specs.Memory.{written_of}
use Rattle.edge.proofs.Pieces.{at_start}
use Rattle.report.specs.Report.{body_text}
use Rattle.report.proofs.Written.{line_begun, line_passed, lines_passed, run_at_end-next, run_at_end-last, fits-here, fits-next}
use Rattle.report.proofs.Room.{line_goes_on}
use Rattle.report.proofs.playing.pass_lines.Goals as goal

pub loop-line-init : goal.loop-line-init
loop-line-init g c = record {
  so_far = at_start (g.K.Sink.written c.args.sink.now) (written_of c.args.pieces.now ++ body_text (bounds_of c.args.rules.now) 1 c.args.world c.args.lines.now);
  run = refl;
  plays = c.requires.run;
  room = omega arith;
  fits = c.requires.lines;
  number = refl;
  quiet = refl;
}

pub pass_line-requires : goal.pass_line-requires
pass_line-requires g c = record {
  fits = fits-here c.loop-line.line-index _ c.args.lines.now c.line-item.result c.loop-line-test.true c.line-item.is c.loop-line.invariant.fits;
  room = omega (arith, c.loop-line.invariant.room, c.requires.room, c.loop-line-test.true);
}

pub returns-in_err-world-clause-bytes : goal.returns-in_err-world-clause-bytes
returns-in_err-world-clause-bytes g c =
    line_begun (bounds_of c.args.rules.now) c.from_residual.result c.loop-line.number c.loop-line.line-index c.loop-line.world c.args.lines.now c.line-item.result (written_of c.loop-line.pieces) (written_of c.pass_line.new.pieces) (written_of c.args.pieces.now ++ body_text (bounds_of c.args.rules.now) 1 c.args.world c.args.lines.now) _ _ _
    c.from_residual.ensures.0 c.loop-line-test.true c.line-item.is c.loop-line.invariant.so_far c.in_err-world.ensures.bytes

pub loop-line-preserved : goal.loop-line-preserved
loop-line-preserved g c =
    let i = c.loop-line.line-index in
    let r = c.loop-line.world in
    let w = c.in_ok-world.world in
    let ls = c.args.lines.now in
    let next = c.in_ok-world.ensures.world in
    let here = fits-here i _ ls c.line-item.result c.loop-line-test.true c.line-item.is c.loop-line.invariant.fits in
    let on = line_goes_on c.settling_ends.ensures c.a_step_adds_little.ensures (bounds_of c.args.rules.now) r w c.line-item.result c.loop-line.invariant.plays here next in
    record {
      so_far = line_passed (bounds_of c.args.rules.now) c.loop-line.number i r w ls c.line-item.result (written_of c.loop-line.pieces) (written_of c.pass_line.new.pieces) _ _ _ _ c.loop-line-test.true c.line-item.is next c.loop-line.invariant.so_far c.in_ok-world.ensures.bytes;
      run = run_at_end-next (bounds_of c.args.rules.now) i r w _ ls c.line-item.result c.loop-line-test.true c.line-item.is next c.loop-line.invariant.run;
      plays = on.fits;
      room = omega (arith, c.loop-line.invariant.room, on.room);
      fits = fits-next i r w ls c.line-item.result c.loop-line-test.true c.line-item.is on.config c.loop-line.invariant.fits;
      number = omega (arith, c.loop-line.invariant.number);
      quiet = omega (arith, c.loop-line.invariant.quiet, c.in_ok-world.ensures.faults);
    }

pub returns-clause-world : goal.returns-clause-world
returns-clause-world g c = run_at_end-last (bounds_of c.args.rules.now) c.loop-line.line-index c.loop-line.world _ c.args.lines.now c.loop-line-test.false c.loop-line.invariant.run

pub returns-clause-bytes : goal.returns-clause-bytes
returns-clause-bytes g c =
    lines_passed (bounds_of c.args.rules.now) c.loop-line.number c.loop-line.line-index c.loop-line.world c.args.lines.now (written_of c.loop-line.pieces) (written_of c.args.pieces.now ++ body_text (bounds_of c.args.rules.now) 1 c.args.world c.args.lines.now) _ _ c.loop-line-test.false c.loop-line.invariant.so_far
