use Rattle.std.proofs.Common.{◌≡◌, ◌++◌, string_bytes, drop}
use Rattle.std.specs.List.{flat_map}
use Rattle.report_words.specs.Pieces.{name_in}
use Rattle.report_words.proofs.items.push_names_among.Given as goal

abbrev pub invariant-loop-field : goal.invariant-loop-field
invariant-loop-field l = string_bytes l.out ++ flat_map (name_in l.set) (drop l.field-index l.fields) ≡ string_bytes l.fn.out ++ flat_map (name_in l.set) l.fields
