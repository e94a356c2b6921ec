-- Each write takes the front of what is still to come.
use Rattle.std.proofs.Common.{◌∙◌}
use Rattle.edge.proofs.Pieces.{begins_part}
use Rattle.edge.proofs.write.write_all.Goals as goal

pub pieces-preserved : goal.pieces-preserved
pieces-preserved g c = record {
  so_far = rw c.split_at.ensures.back (begins_part _ _ _ _ _ _ c.pieces.invariant.so_far c.in_ok-count.ensures.bytes);
  quiet = c.in_ok-count.ensures.cause.quiet ∙ c.pieces.invariant.quiet;
  tells = c.in_ok-count.ensures.tells ∙ c.pieces.invariant.tells;
}
