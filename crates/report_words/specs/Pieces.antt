-- Texts that are told piece by piece.
use Rattle.std.specs.Prelude.{ℕ, List, [], ◌∷◌, ◌++◌, codes, if◌then◌else◌}
use Rattle.std.specs.List.{flat_map}
use Rattle.std.specs.Fmt.{decimal}
use Rattle.fission_ids.specs.declared.process.ProcId.{ProcId}
use Rattle.field_table.specs.declared.field.Field.{Field}
use Rattle.field_table.specs.declared.field_set.FieldSet.{FieldSet}
use Rattle.field_table.specs.Field.{fields, name}
use Rattle.field_table.specs.FieldSet.{has}

-- the pieces one after the other
abbrev pub text_of_pieces : List (List ℕ) → List ℕ
text_of_pieces [] = []
text_of_pieces (piece ∷ []) = piece
text_of_pieces (piece ∷ next ∷ pieces) = piece ++ text_of_pieces (next ∷ pieces)

-- a text behind a blank
abbrev pub after_blank : List ℕ → List ℕ
after_blank text = codes " " ++ text

-- `p` and the number of a process
unfoldable pub process_text : ProcId → List ℕ
process_text p = codes "p" ++ decimal p.0

-- the name of a field behind a blank, if it is in the set
abbrev pub name_in : FieldSet → Field → List ℕ
name_in set f = if has set f then after_blank (name f) else []

-- the names of the fields in a set, by rising number
unfoldable pub names_text : FieldSet → List ℕ
names_text set = flat_map (name_in set) fields
