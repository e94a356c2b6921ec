use Rattle.std.proofs.Common.{◌≡◌, drop}
use Rattle.worked_rows.specs.Script.{count_of_texts}
use Rattle.worked_rows.proofs.script.count_texts.Given as goal

abbrev pub invariant-loop-piece : goal.invariant-loop-piece
invariant-loop-piece l = count_of_texts (drop l.piece-index l.pieces) ≡ count_of_texts l.pieces
