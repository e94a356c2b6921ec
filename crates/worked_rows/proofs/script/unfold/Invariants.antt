use Rattle.std.proofs.Common.{◌≡◌, ◌++◌, drop, string_bytes}
use Rattle.worked_rows.specs.Script.{unfolded}
use Rattle.worked_rows.proofs.script.unfold.Given as goal

abbrev pub invariant-loop-piece : goal.invariant-loop-piece
invariant-loop-piece l = string_bytes l.text ++ unfolded l.number (drop l.piece-index l.pieces) ≡ unfolded l.number l.pieces
