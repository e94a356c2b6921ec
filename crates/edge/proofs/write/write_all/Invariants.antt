use Rattle.std.proofs.Common.{◌≡◌, is_some, length}
use Rattle.edge.specs.Pieces.{BeginsTo}
use Rattle.edge.proofs.write.write_all.Given as goal

abbrev pub invariant-pieces : goal.invariant-pieces
invariant-pieces g l = record {
  so_far : BeginsTo l.rest (g.K.Sink.written l.fn.sink) (g.K.Sink.written l.sink) l.fn.bytes;
  quiet : g.K.Sink.faults l.sink ≡ g.K.Sink.faults l.fn.sink;
  tells : is_some (g.K.Sink.written l.sink) ≡ is_some (g.K.Sink.written l.fn.sink);
}

abbrev pub decreases-pieces : goal.decreases-pieces
decreases-pieces g l = length l.rest
