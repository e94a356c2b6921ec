use Rattle.std.proofs.Common.{◌≡◌, is_some, ◌-◌, ◌≤◌, vec_len}
use Rattle.std.specs.Io.KnownBytes.{Consumes}
use Rattle.edge.proofs.input.read_all.Given as goal

abbrev pub invariant-pieces : goal.invariant-pieces
invariant-pieces g l = record {
  within : vec_len l.bytes ≤ l.fn.limit;
  so_far : Consumes (g.S.Source.left l.fn.source) (g.S.Source.left l.source) l.bytes.items;
  quiet : g.S.Source.faults l.source ≡ g.S.Source.faults l.fn.source;
  tells : is_some (g.S.Source.left l.source) ≡ is_some (g.S.Source.left l.fn.source);
}

abbrev pub decreases-pieces : goal.decreases-pieces
decreases-pieces g l = l.fn.limit - vec_len l.bytes
