use Rattle.std.proofs.Common.{◌≡◌, ◌++◌, string_bytes}
use Rattle.worked_rows.specs.Script.{times}
use Rattle.worked_rows.proofs.script.push_times.Given as goal

abbrev pub invariant-loop-k : goal.invariant-loop-k
invariant-loop-k l = string_bytes l.text ≡ string_bytes l.fn.text ++ times l._k l.piece
