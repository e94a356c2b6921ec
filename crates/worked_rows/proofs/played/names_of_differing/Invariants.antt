use Rattle.std.proofs.Common.{◌≡◌, ◌++◌, map, drop, string_bytes}
use Rattle.worked_rows.specs.Rows.{names_of_differing}
use Rattle.worked_rows.proofs.played.names_of_differing.Given as goal

abbrev pub invariant-loop-row : goal.invariant-loop-row
invariant-loop-row l = map string_bytes l.names.items ++ names_of_differing (drop l.row-index l.rows) ≡ names_of_differing l.rows
