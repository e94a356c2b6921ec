use Rattle.edge.proofs.Pieces.{errs}
use Rattle.report.proofs.writing.write_line.Goals as goal

pub returns-in_err-line-clause-bytes : goal.returns-in_err-line-clause-bytes
returns-in_err-line-clause-bytes g c = λ text is. errs c.from_residual.result (g.K.Sink.written c.args.sink.now) text c.from_residual.ensures.0
