use Rattle.std.proofs.Common.{◌≡◌, ◌++◌, length, codes}
use Rattle.std.specs.List.{flat_map}
use Rattle.std.specs.Str.{IsUtf8}
use Rattle.worked_rows.specs.Script.{line_text}
use Rattle.worked_rows.proofs.script.lines_in.Given as goal

abbrev pub invariant-more : goal.invariant-more
invariant-more l = record {
  so_far : flat_map line_text l.lines.items ++ (codes "\n" ++ l.rest) ≡ codes "\n" ++ l.fn.text;
  utf8 : IsUtf8 l.rest;
}

abbrev pub decreases-more : goal.decreases-more
decreases-more l = length l.rest
