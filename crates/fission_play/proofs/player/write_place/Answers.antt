use Rattle.edge.proofs.Pieces.{errs}
use Rattle.fission_play.proofs.player.write_place.Goals as goal

pub returns-in_err-line-clause-bytes : goal.returns-in_err-line-clause-bytes
returns-in_err-line-clause-bytes g c = errs c.from_residual.result _ _ c.from_residual.ensures.0
