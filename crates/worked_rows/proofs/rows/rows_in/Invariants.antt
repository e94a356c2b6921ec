use Rattle.std.proofs.Common.{◌≡◌, ◌++◌, length}
use Rattle.std.specs.List.{flat_map}
use Rattle.std.specs.Str.{IsUtf8}
use Rattle.worked_rows.specs.Rows.{row_text}
use Rattle.worked_rows.proofs.rows.rows_in.Given as goal

abbrev pub invariant-more : goal.invariant-more
invariant-more l = record {
  so_far : flat_map row_text l.rows.items ++ l.rest ≡ l.fn.text;
  utf8 : IsUtf8 l.rest;
}

abbrev pub decreases-more : goal.decreases-more
decreases-more l = length l.rest
