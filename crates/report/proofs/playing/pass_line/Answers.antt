use Rattle.std.proofs.Common.{◌++◌}
use Rattle.field_rules.specs.RuleBounds.{bounds_of}
use Rattle.edge.specs.Memory.{written_of}
use Rattle.report.specs.Report.{line_text}
use Rattle.report.proofs.Gathered.{unwritten}
use Rattle.report.proofs.playing.pass_line.Goals as goal

pub returns-in_err-world-clause-bytes : goal.returns-in_err-world-clause-bytes
returns-in_err-world-clause-bytes g c =
    unwritten c.from_residual.result (written_of c.args.pieces.now ++ line_text (bounds_of c.args.rules.now) c.args.number c.args.world c.args.line.now) (written_of c.play_line.new.pieces) (g.K.Sink.written c.args.sink.now)
    c.from_residual.ensures.0
