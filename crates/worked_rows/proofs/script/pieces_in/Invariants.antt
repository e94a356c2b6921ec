use Rattle.std.proofs.Common.{◌≡◌, ◌++◌, length}
use Rattle.std.specs.Str.{IsUtf8}
use Rattle.worked_rows.specs.Script.{script_text}
use Rattle.worked_rows.proofs.script.pieces_in.Given as goal

abbrev pub invariant-more : goal.invariant-more
invariant-more l = record {
  so_far : script_text l.pieces.items ++ l.rest ≡ l.fn.text;
  utf8 : IsUtf8 l.rest;
}

abbrev pub decreases-more : goal.decreases-more
decreases-more l = length l.rest
