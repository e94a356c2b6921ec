-- Scripts: pieces that stand one behind the other, and what they stand for.
use Rattle.std.proofs.Common.{◌≡◌, ℕ, suc, ◌+◌, ◌<◌, List, [], ◌∷◌, ◌++◌, length, codes, decimal, string_bytes, String, Global, refl, sym, ap, ap₂, ◌∙◌, arith, append_assoc, append-nil, length-append}
use Rattle.std.specs.List.{flat_map}
use Rattle.std.proofs.lemmas.List.Concat.{flat_map-append}
use Rattle.worked_rows.specs.declared.script.Piece.{Piece}
use Rattle.worked_rows.specs.declared.script.Piece.TheVariants.{Plain, Times, Numbered}
use Rattle.worked_rows.specs.Script.{line_text, mark_text, piece_text, script_text, times, numbered}

-- ---- how a script is written

marked_as : (n : ℕ) (s : String Global) (word count piece mark : List ℕ) → count ≡ decimal n → string_bytes s ≡ piece → mark ≡ count ++ (word ++ piece) → mark_text (decimal n ++ (word ++ string_bytes s)) ≡ mark_text mark
marked_as n s word count piece mark e1 e2 e3 = ap mark_text (ap (λ (a : List ℕ). a ++ (word ++ string_bytes s)) (sym e1) ∙ ap (λ (p : List ℕ). count ++ (word ++ p)) e2 ∙ sym e3)

pub times_marked : (n : ℕ) (s : String Global) (count piece mark : List ℕ) → count ≡ decimal n → string_bytes s ≡ piece → mark ≡ count ++ (codes " times " ++ piece) → piece_text (Times n s) ≡ mark_text mark
unfolding piece_text
times_marked n s count piece mark e1 e2 e3 = marked_as n s (codes " times ") count piece mark e1 e2 e3

pub numbered_marked : (n : ℕ) (s : String Global) (count piece mark : List ℕ) → count ≡ decimal n → string_bytes s ≡ piece → mark ≡ count ++ (codes " numbered " ++ piece) → piece_text (Numbered n s) ≡ mark_text mark
unfolding piece_text
numbered_marked n s count piece mark e1 e2 e3 = marked_as n s (codes " numbered ") count piece mark e1 e2 e3

empty : (xs : List ℕ) → length xs ≡ 0 → xs ≡ []
empty [] e = refl
empty (x ∷ xs) e = absurd (cc)

pub each_marked : (lines : List (String Global)) (front text mark : List ℕ) → length front ≡ 0 → mark ≡ front ++ (codes "each of\n" ++ text) → flat_map line_text lines ≡ codes "\n" ++ text
    → mark_text (codes "each of" ++ flat_map line_text lines) ≡ mark_text mark
each_marked lines front text mark none e1 e2 =
    ap mark_text (ap (λ (l : List ℕ). codes "each of" ++ l) e2 ∙ sym (e1 ∙ ap (λ (f : List ℕ). f ++ (codes "each of\n" ++ text)) (empty front none)))

plain_text : (s : String Global) → piece_text (Plain s) ≡ string_bytes s
unfolding piece_text
plain_text s = refl

in_line : (f p a m b : List ℕ) → ((f ++ p) ++ (a ++ (m ++ a))) ++ b ≡ f ++ (p ++ (a ++ (m ++ (a ++ b))))
in_line f p a m b = simp append_assoc

-- what stands before a mark, and the mark
pub two_more : (ps : List Piece) (s : String Global) (m : Piece) (plain mark first behind rest text : List ℕ) → string_bytes s ≡ plain → piece_text m ≡ mark_text mark
    → rest ≡ plain ++ (codes "@" ++ first) → first ≡ mark ++ (codes "@" ++ behind) → script_text ps ++ rest ≡ text → script_text ((ps ++ Plain s ∷ []) ++ m ∷ []) ++ behind ≡ text
two_more ps s m plain mark first behind rest text e1 e2 e3 e4 so_far =
    let front : List ℕ = flat_map piece_text ps in
    let one : flat_map piece_text (ps ++ Plain s ∷ []) ≡ front ++ plain = flat_map-append piece_text ps (Plain s ∷ []) ∙ ap (λ (l : List ℕ). front ++ l) (append-nil (piece_text (Plain s)) ∙ plain_text s ∙ e1) in
    let two : flat_map piece_text ((ps ++ Plain s ∷ []) ++ m ∷ []) ≡ (front ++ plain) ++ mark_text mark =
    flat_map-append piece_text (ps ++ Plain s ∷ []) (m ∷ []) ∙ ap₂ (λ (a b : List ℕ). a ++ b) one (append-nil (piece_text m) ∙ e2) in
    ap (λ (l : List ℕ). l ++ behind) two
    ∙ in_line front plain (codes "@") mark behind
    ∙ sym (ap (λ (l : List ℕ). front ++ l) (e3 ∙ ap (λ (l : List ℕ). plain ++ (codes "@" ++ l)) e4))
    ∙ so_far

-- what stands behind the last mark
pub last_one : (ps : List Piece) (s : String Global) (rest text : List ℕ) → string_bytes s ≡ rest → script_text ps ++ rest ≡ text → script_text (ps ++ Plain s ∷ []) ≡ text
last_one ps s rest text e so_far =
    flat_map-append piece_text ps (Plain s ∷ []) ∙ ap (λ (l : List ℕ). flat_map piece_text ps ++ l) (append-nil (piece_text (Plain s)) ∙ plain_text s ∙ e) ∙ so_far

pub shorter : (plain mark first behind rest : List ℕ) → rest ≡ plain ++ (codes "@" ++ first) → first ≡ mark ++ (codes "@" ++ behind) → length behind < length rest
shorter plain mark first behind rest e1 e2 = omega (arith, ap length e1, ap length e2, length-append plain (codes "@" ++ first), length-append mark (codes "@" ++ behind))

-- one line more of lines
pub line_more : (lines : List (String Global)) (s : String Global) (line behind rest text : List ℕ) → string_bytes s ≡ line → rest ≡ line ++ (codes "\n" ++ behind)
    → flat_map line_text lines ++ (codes "\n" ++ rest) ≡ codes "\n" ++ text → flat_map line_text (lines ++ s ∷ []) ++ (codes "\n" ++ behind) ≡ codes "\n" ++ text
line_more lines s line behind rest text e1 e2 so_far =
    ap (λ (l : List ℕ). l ++ (codes "\n" ++ behind)) (flat_map-append line_text lines (s ∷ []) ∙ ap (λ (l : List ℕ). flat_map line_text lines ++ l) (append-nil (line_text s) ∙ ap (λ (l : List ℕ). codes "\n" ++ l) e1))
    ∙ append_assoc (flat_map line_text lines) (codes "\n" ++ line) (codes "\n" ++ behind)
    ∙ ap (λ (l : List ℕ). flat_map line_text lines ++ (codes "\n" ++ l)) (sym e2)
    ∙ so_far

-- the last line
pub last_line : (lines : List (String Global)) (s : String Global) (rest text : List ℕ) → string_bytes s ≡ rest
    → flat_map line_text lines ++ (codes "\n" ++ rest) ≡ codes "\n" ++ text → flat_map line_text (lines ++ s ∷ []) ≡ codes "\n" ++ text
last_line lines s rest text e so_far =
    flat_map-append line_text lines (s ∷ []) ∙ ap (λ (l : List ℕ). flat_map line_text lines ++ l) (append-nil (line_text s) ∙ ap (λ (l : List ℕ). codes "\n" ++ l) e) ∙ so_far

pub line_shorter : (line behind rest : List ℕ) → rest ≡ line ++ (codes "\n" ++ behind) → length behind < length rest
line_shorter line behind rest e = omega (arith, ap length e, length-append line (codes "\n" ++ behind))

-- ---- what it stands for

pub none_yet : (old : List ℕ) (piece : List ℕ) → (old ≡ old ++ times 0 piece) × (old ≡ old ++ numbered 0 piece)
unfolding times numbered
none_yet old piece = (sym (append-nil old), sym (append-nil old))

pub times_more : (k : ℕ) (old text new piece : List ℕ) → text ≡ old ++ times k piece → new ≡ text ++ piece → new ≡ old ++ times (k + 1) piece
unfolding times
times_more k old text new piece so_far e =
    let one : suc k ≡ k + 1 = omega arith in
    e ∙ ap (λ (l : List ℕ). l ++ piece) so_far ∙ append_assoc old (times k piece) piece ∙ ap (λ n. old ++ times n piece) one

pub numbered_more : (k : ℕ) (old text first new piece : List ℕ) → text ≡ old ++ numbered k piece → first ≡ text ++ decimal (k + 1) → new ≡ first ++ piece → new ≡ old ++ numbered (k + 1) piece
unfolding numbered
numbered_more k old text first new piece so_far e1 e2 =
    let one : suc k ≡ k + 1 = omega arith in
    e2 ∙ ap (λ (l : List ℕ). l ++ piece) (e1 ∙ ap (λ (l : List ℕ). l ++ decimal (k + 1)) so_far)
    ∙ behind old (numbered k piece) (decimal (k + 1)) piece
    ∙ ap (λ n. old ++ (numbered k piece ++ (decimal n ++ piece))) (sym one)
    ∙ ap (λ n. old ++ numbered n piece) one
  where
    behind : (a b c d : List ℕ) → ((a ++ b) ++ c) ++ d ≡ a ++ (b ++ (c ++ d))
    behind a b c d = simp append_assoc
