use Rattle.std.proofs.Common.{◌≡◌, ◌++◌, map, string_bytes}
use Rattle.worked_rows.specs.Rows.{names_among}
use Rattle.worked_rows.proofs.played.push_differing.Given as goal

abbrev pub invariant-loop-k : goal.invariant-loop-k
invariant-loop-k l = map string_bytes l.names.items ≡ map string_bytes l.fn.names.items ++ names_among l.row l.k
