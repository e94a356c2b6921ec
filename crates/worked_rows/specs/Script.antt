-- Scripts: texts in which a piece may stand many times.
use Rattle.std.specs.Prelude.{ℕ, zero, suc, List, [], ◌∷◌, ◌++◌, length, slice_get, codes, decimal, string_bytes}
use Rattle.std.specs.Prelude.{String}
use Rattle.std.specs.List.{flat_map}
use Rattle.std.specs.Option.{option_map_or}
use Rattle.worked_rows.specs.declared.script.Piece.{Piece}
use Rattle.worked_rows.specs.declared.script.Piece.TheVariants.{Plain, Times, Numbered, Each}

-- ---- how a script is written

-- what stands between two marks
abbrev pub mark_text : List ℕ → List ℕ
mark_text inside = codes "@" ++ (inside ++ codes "@")

-- a line, behind what ends the one before it
abbrev pub line_text : {A : Type 0} → String A → List ℕ
line_text line = codes "\n" ++ string_bytes line

unfoldable pub piece_text : Piece → List ℕ
piece_text (Plain text) = string_bytes text
piece_text (Times n piece) = mark_text (decimal n ++ (codes " times " ++ string_bytes piece))
piece_text (Numbered n piece) = mark_text (decimal n ++ (codes " numbered " ++ string_bytes piece))
piece_text (Each lines) = mark_text (codes "each of" ++ flat_map line_text lines.items)

abbrev pub script_text : List Piece → List ℕ
script_text pieces = flat_map piece_text pieces

-- ---- what it stands for

-- a piece, so many times
unfoldable pub times : ℕ → List ℕ → List ℕ
times zero piece = []
times (suc n) piece = times n piece ++ piece

-- a piece, so many times, each behind its number from 1
unfoldable pub numbered : ℕ → List ℕ → List ℕ
numbered zero piece = []
numbered (suc n) piece = numbered n piece ++ (decimal (suc n) ++ piece)

-- the line with this number, from 0
abbrev pub line_at : {A : Type 0} → ℕ → List (String A) → List ℕ
line_at k lines = option_map_or string_bytes (slice_get lines k) []

-- a piece in the text with number k
abbrev pub unfolded_piece : ℕ → Piece → List ℕ
unfolded_piece k (Plain text) = string_bytes text
unfolded_piece k (Times n piece) = times n (string_bytes piece)
unfolded_piece k (Numbered n piece) = numbered n (string_bytes piece)
unfolded_piece k (Each lines) = line_at k lines.items

-- the text with number k
abbrev pub unfolded : ℕ → List Piece → List ℕ
unfolded k pieces = flat_map (unfolded_piece k) pieces

-- how many texts a script stands for: as many as its first piece with lines has, or one
abbrev pub count_of_texts : List Piece → ℕ
count_of_texts [] = 1
count_of_texts (Each lines ∷ pieces) = length lines.items
count_of_texts (_ ∷ pieces) = count_of_texts pieces
