-- A piece before a star may be taken where it first stands.
use Rattle.std.proofs.Common.{eqb-true, ◌⊎◌, inl, inr, ◌≡◌, ℕ, zero, suc, ◌+◌, ◌-◌, ◌<◌, ◌≤◌, ◌==◌, Bool, true, false, not, cond, ◌&&◌, ◌||◌, List, [], ◌∷◌, length, take, drop, nat_eq, Option, None, Some, option_map, refl, sym, ap, ap₂, ◌∙◌, arith}
use Rattle.std.proofs.Math.Path.{fun_ext}
use Rattle.std.proofs.Math.Seq.{drop-nil}
use Rattle.std.proofs.lemmas.Bool.{cases_lt}
use Rattle.std.proofs.lemmas.List.{drop-drop, length-take-le, take_all}
use Rattle.std.specs.Cmp.Lexicographic.{pointwise}
use Rattle.std.specs.List.{list_any, position_or_len, starts_with, ends_with}
use Rattle.match_pattern.specs.Globs.{ends, globs, is_first, place_of, star}
use Rattle.match_pattern.proofs.Lists.{and_assoc, bytes_turned, number_turned, or_absorbs, or_none, or_true, other_length}
use Rattle.match_pattern.proofs.Places.{place_within, rest_whole, stands_first, stands_later, stands_nowhere}

-- where the first star of a pattern stands, or its length
abbrev pub stars : List ℕ → ℕ
stars pattern = position_or_len (λ b. b == star) pattern

-- a pattern that no star begins has its first star one further on than the rest
stars_later : (c : ℕ) (pattern : List ℕ) → (c == star) ≡ false → stars (c ∷ pattern) ≡ suc (stars pattern)
stars_later c pattern e =
    let later : stars (c ∷ pattern) ≡ 1 + stars pattern = ap (λ b. cond (not b) (1 + stars pattern) 0) e in
    later ∙ omega arith

-- one that a star begins has it in front
stars_here : (c : ℕ) (pattern : List ℕ) → (c == star) ≡ true → stars (c ∷ pattern) ≡ 0
stars_here c pattern e = ap (λ b. cond (not b) (1 + stars pattern) 0) e

-- what stands before the first star is to begin the text
begins : (c k : ℕ) (pattern text : List ℕ) → globs pattern (drop 1 text) ≡ (starts_with nat_eq (drop 1 text) (take k pattern) && globs (drop k pattern) (drop k (drop 1 text)))
    → (is_first c text && globs pattern (drop 1 text)) ≡ (starts_with nat_eq text (take (suc k) (c ∷ pattern)) && globs (drop (suc k) (c ∷ pattern)) (drop (suc k) text))
begins c k pattern [] rest = refl
begins c k pattern (t ∷ text) rest =
    ap (λ b. nat_eq c t && b) rest
    ∙ and_assoc (nat_eq c t) (starts_with nat_eq text (take k pattern)) (globs (drop k pattern) (drop k text))

pub splits : (pattern text : List ℕ) → globs pattern text
    ≡ (starts_with nat_eq text (take (stars pattern) pattern) && globs (drop (stars pattern) pattern) (drop (stars pattern) text))
splits [] text = refl
splits (c ∷ pattern) text = by (c == star) refl (splits pattern (drop 1 text))
  where
    by : (b : Bool) → (c == star) ≡ b
        → globs pattern (drop 1 text) ≡ (starts_with nat_eq (drop 1 text) (take (stars pattern) pattern) && globs (drop (stars pattern) pattern) (drop (stars pattern) (drop 1 text)))
        → globs (c ∷ pattern) text ≡ (starts_with nat_eq text (take (stars (c ∷ pattern)) (c ∷ pattern)) && globs (drop (stars (c ∷ pattern)) (c ∷ pattern)) (drop (stars (c ∷ pattern)) text))
    by true is rest =
        sym (ap (λ k. starts_with nat_eq text (take k (c ∷ pattern)) && globs (drop k (c ∷ pattern)) (drop k text)) (stars_here c pattern is))
    by false is rest =
        ap (λ b. cond b (list_any (globs pattern) (ends text)) (is_first c text && globs pattern (drop 1 text))) is
        ∙ begins c (stars pattern) pattern text rest
        ∙ sym (ap (λ k. starts_with nat_eq text (take k (c ∷ pattern)) && globs (drop k (c ∷ pattern)) (drop k text)) (stars_later c pattern is))

-- the star itself
abbrev HasStar : List ℕ → Type 0
HasStar pattern = drop (stars pattern) pattern ≡ star ∷ drop (stars pattern + 1) pattern

star_by : (c : ℕ) (pattern : List ℕ) (b : Bool) → (c == star) ≡ b → stars (c ∷ pattern) < suc (length pattern)
    → (stars pattern < length pattern → HasStar pattern) → HasStar (c ∷ pattern)
star_by c pattern true is within rest =
    let at : stars (c ∷ pattern) ≡ 0 = stars_here c pattern is in
    let more : stars (c ∷ pattern) + 1 ≡ 1 = omega (arith, at) in
    ap (λ k. drop k (c ∷ pattern)) at
    ∙ ap (λ x. x ∷ pattern) (eqb-true c star is)
    ∙ sym (ap (λ k. star ∷ drop k (c ∷ pattern)) more)
star_by c pattern false is within rest =
    let at : stars (c ∷ pattern) ≡ suc (stars pattern) = stars_later c pattern is in
    let more : stars (c ∷ pattern) + 1 ≡ suc (stars pattern + 1) = omega (arith, at) in
    ap (λ k. drop k (c ∷ pattern)) at
    ∙ rest (omega (arith, within, at))
    ∙ sym (ap (λ k. star ∷ drop k (c ∷ pattern)) more)

pub star_there : (pattern : List ℕ) → stars pattern < length pattern → HasStar pattern
star_there [] within = absurd (omega (arith, within))
star_there (c ∷ pattern) within = star_by c pattern (c == star) refl within (star_there pattern)

-- a pattern without a star fits itself alone
abbrev FitsItself : List ℕ → Type 0
FitsItself pattern = (text : List ℕ) → stars pattern ≡ length pattern → globs pattern text ≡ pointwise nat_eq text pattern

itself_by : (c : ℕ) (pattern : List ℕ) (b : Bool) → (c == star) ≡ b → FitsItself pattern → FitsItself (c ∷ pattern)
itself_by c pattern true is rest text none = absurd (omega (arith, none, stars_here c pattern is))
itself_by c pattern false is rest [] none =
    ap (λ b. cond b (list_any (globs pattern) (ends [])) false) is
itself_by c pattern false is rest (t ∷ text) none =
    let inner : stars pattern ≡ length pattern = omega (arith, none, stars_later c pattern is) in
    ap (λ b. cond b (list_any (globs pattern) (ends (t ∷ text))) (nat_eq c t && globs pattern text)) is
    ∙ ap₂ (λ a b. a && b) (number_turned c t) (rest text inner)

pub whole : (pattern : List ℕ) → FitsItself pattern
whole [] [] none = refl
whole [] (t ∷ text) none = refl
whole (c ∷ pattern) text none = itself_by c pattern (c == star) refl (whole pattern) text none

-- a pattern of a star, and no other, fits what ends with the rest
any_end : (pattern text : List ℕ) → list_any (λ end. pointwise nat_eq end pattern) (ends text) ≡ ends_with nat_eq text pattern
any_end pattern [] =
    or_none (pointwise nat_eq [] pattern)
    ∙ bytes_turned [] pattern
    ∙ sym (ap (pointwise nat_eq pattern) (drop-nil (length {A = ℕ} [] - length pattern)))
any_end pattern (t ∷ text) =
    ap (λ b. pointwise nat_eq (t ∷ text) pattern || b) (any_end pattern text)
    ∙ by (cases_lt (length text) (length pattern))
  where
    by : (length text < length pattern) ⊎ (length pattern ≤ length text)
        → (pointwise nat_eq (t ∷ text) pattern || ends_with nat_eq text pattern) ≡ ends_with nat_eq (t ∷ text) pattern
    by (inl short) =
        let at : length text - length pattern ≡ 0 = omega (arith, short) in
        let at_whole : suc (length text) - length pattern ≡ 0 = omega (arith, short) in
        let none : pointwise nat_eq pattern (drop (length text - length pattern) text) ≡ false =
        ap (λ k. pointwise nat_eq pattern (drop k text)) at ∙ other_length pattern text (λ e. omega (arith, e, short)) in
        ap (λ b. pointwise nat_eq (t ∷ text) pattern || b) none
        ∙ or_none (pointwise nat_eq (t ∷ text) pattern)
        ∙ bytes_turned (t ∷ text) pattern
        ∙ sym (ap (λ k. pointwise nat_eq pattern (drop k (t ∷ text))) at_whole)
    by (inr long) =
        let at : suc (length text) - length pattern ≡ suc (length text - length pattern) = omega (arith, long) in
        ap (λ b. b || ends_with nat_eq text pattern) (other_length (t ∷ text) pattern (λ e. omega (arith, e, long)))
        ∙ sym (ap (λ k. pointwise nat_eq pattern (drop k (t ∷ text))) at)

pub last : (pattern text : List ℕ) → stars pattern ≡ length pattern → globs (star ∷ pattern) text ≡ ends_with nat_eq text pattern
last pattern text none =
    ap (λ f. list_any f (ends text)) (fun_ext (λ end. whole pattern end none)) ∙ any_end pattern text

-- an end of a shorter end is one of a longer
later_end : (f : List ℕ → Bool) (m : ℕ) (t : ℕ) (text : List ℕ) → list_any f (ends (drop m text)) ≡ true → list_any f (ends (drop m (t ∷ text))) ≡ true
later_end f zero t text e = or_true (f (t ∷ text)) (list_any f (ends text)) e
later_end f (suc m) t [] e = ap (λ l. list_any f (ends l)) (drop-nil m) ∙ e
later_end f (suc m) t (u ∷ text) e = later_end f m u text e

-- an end of an end is an end
earlier_end : (f : List ℕ → Bool) (m : ℕ) (text : List ℕ) → list_any f (ends (drop m text)) ≡ true → list_any f (ends text) ≡ true
earlier_end f zero text e = e
earlier_end f (suc m) [] e = e
earlier_end f (suc m) (t ∷ text) e = or_true (f (t ∷ text)) (list_any f (ends text)) (earlier_end f m text e)

-- what follows the piece at its first place
abbrev pub fits_after : (List ℕ → Bool) → List ℕ → List ℕ → Option ℕ → Bool
fits_after f piece text None = false
fits_after f piece text (Some at) = list_any f (ends (drop (at + length piece) text))

-- at a later place too, it follows the first one
after_first : (f : List ℕ → Bool) (piece : List ℕ) (t : ℕ) (text : List ℕ) (o : Option ℕ) → fits_after f piece text o ≡ true → list_any f (ends (drop (length piece) (t ∷ text))) ≡ true
after_first f piece t text None e = absurd (cc)
after_first f piece t text (Some at) e =
    let whole : drop at (drop (length piece) text) ≡ drop (length piece + at) text = drop-drop at (length piece) text in
    let same : length piece + at ≡ at + length piece = omega arith in
    later_end f (length piece) t text
    (earlier_end f at (drop (length piece) text) (ap (λ l. list_any f (ends l)) (whole ∙ ap (λ k. drop k text) same) ∙ e))

-- a place in a text is one further on with one byte more in front
place_moved : (f : List ℕ → Bool) (piece : List ℕ) (t : ℕ) (text : List ℕ) (o : Option ℕ) → fits_after f piece text o ≡ fits_after f piece (t ∷ text) (option_map suc o)
place_moved f piece t text None = refl
place_moved f piece t text (Some at) =
    let more : suc at + length piece ≡ suc (at + length piece) = omega arith in
    sym (ap (λ k. list_any f (ends (drop k (t ∷ text)))) more)

-- whether the piece begins an end, and what follows it fits
abbrev begins_end : (List ℕ → Bool) → List ℕ → List ℕ → Bool
begins_end f piece end = starts_with nat_eq end piece && list_any f (ends (drop (length piece) end))

abbrev IsLeftmost : (List ℕ → Bool) → List ℕ → List ℕ → Type 0
IsLeftmost f piece text = list_any (begins_end f piece) (ends text) ≡ fits_after f piece text (place_of piece text)

at_front : (f : List ℕ → Bool) (piece text : List ℕ) → starts_with nat_eq text piece ≡ true → list_any f (ends (drop (length piece) text)) ≡ fits_after f piece text (place_of piece text)
at_front f piece text here =
    let none : 0 + length piece ≡ length piece = omega arith in
    sym (ap (fits_after f piece text) (stands_first piece text here) ∙ ap (λ k. list_any f (ends (drop k text))) none)

leftmost_in_none : (f : List ℕ → Bool) (piece : List ℕ) (b : Bool) → starts_with nat_eq [] piece ≡ b → IsLeftmost f piece []
leftmost_in_none f piece true here =
    or_none (begins_end f piece [])
    ∙ ap (λ b. b && list_any f (ends (drop (length piece) []))) here
    ∙ at_front f piece [] here
leftmost_in_none f piece false misses =
    or_none (begins_end f piece [])
    ∙ ap (λ b. b && list_any f (ends (drop (length piece) []))) misses
    ∙ sym (ap (fits_after f piece []) (stands_nowhere piece [] misses refl))

leftmost_in_more : (f : List ℕ → Bool) (piece : List ℕ) (t : ℕ) (text : List ℕ) (b : Bool) → starts_with nat_eq (t ∷ text) piece ≡ b → IsLeftmost f piece text → IsLeftmost f piece (t ∷ text)
leftmost_in_more f piece t text true here rest =
    ap₂ (λ b r. (b && list_any f (ends (drop (length piece) (t ∷ text)))) || r) here rest
    ∙ or_absorbs (list_any f (ends (drop (length piece) (t ∷ text)))) (fits_after f piece text (place_of piece text)) (after_first f piece t text (place_of piece text))
    ∙ at_front f piece (t ∷ text) here
leftmost_in_more f piece t text false misses rest =
    ap₂ (λ b r. (b && list_any f (ends (drop (length piece) (t ∷ text)))) || r) misses rest
    ∙ place_moved f piece t text (place_of piece text)
    ∙ sym (ap (fits_after f piece (t ∷ text)) (stands_later piece (t ∷ text) misses (omega arith)))

pub leftmost : (f : List ℕ → Bool) (piece text : List ℕ) → IsLeftmost f piece text
leftmost f piece [] = leftmost_in_none f piece (starts_with nat_eq [] piece) refl
leftmost f piece (t ∷ text) = leftmost_in_more f piece t text (starts_with nat_eq (t ∷ text) piece) refl (leftmost f piece text)

-- a pattern of a star, a piece and a star
module _ (pattern text : List ℕ) (within : stars pattern < length pattern) where
  abbrev piece : List ℕ
  piece = take (stars pattern) pattern

  abbrev behind : List ℕ
  behind = drop (stars pattern + 1) pattern

  pieced : (end : List ℕ) → globs pattern end ≡ begins_end (globs behind) piece end
  pieced end =
      let len : length piece ≡ stars pattern = length-take-le (stars pattern) pattern (omega (arith, within)) in
      splits pattern end
      ∙ ap (λ l. starts_with nat_eq end piece && globs l (drop (stars pattern) end)) (star_there pattern within)
      ∙ sym (ap (λ k. starts_with nat_eq end piece && list_any (globs behind) (ends (drop k end))) len)

  pub at_first_place : globs (star ∷ pattern) text ≡ fits_after (globs behind) piece text (place_of piece text)
  at_first_place = ap (λ f. list_any f (ends text)) (fun_ext pieced) ∙ leftmost (globs behind) piece text

  pub piece_len : length piece ≡ stars pattern
  piece_len = length-take-le (stars pattern) pattern (omega (arith, within))

  -- it fits no text without the piece
  pub nowhere : place_of piece text ≡ None → globs (star ∷ pattern) text ≡ false
  nowhere none = at_first_place ∙ ap (fits_after (globs behind) piece text) none

  -- and a text with the piece where what follows it fits the rest
  pub behind_piece : (at : ℕ) → place_of piece text ≡ Some at → globs (star ∷ pattern) text ≡ globs (star ∷ behind) (drop (at + stars pattern) text)
  behind_piece at e =
      at_first_place
      ∙ ap (fits_after (globs behind) piece text) e
      ∙ ap (λ k. list_any (globs behind) (ends (drop (at + k) text))) piece_len

  -- where the piece ends within the text
  pub piece_place : (at : ℕ) → place_of piece text ≡ Some at → at + stars pattern ≤ length text
  piece_place at e = omega (arith, place_within piece text at e, piece_len)

-- what is left of a pattern and a text behind a piece
pub left_behind : (pattern text : List ℕ) (at start : ℕ) → at ≡ stars pattern → at < length pattern → place_of (take at pattern) text ≡ Some start
    → globs (star ∷ take (length pattern - (at + 1)) (drop (at + 1) pattern)) (take (length text - (start + at)) (drop (start + at) text)) ≡ globs (star ∷ pattern) text
left_behind pattern text at start is within found =
    ap₂ (λ p t. globs (star ∷ p) t) (rest_whole (at + 1) pattern) (rest_whole (start + at) text)
    ∙ ap (λ k. globs (star ∷ drop (k + 1) pattern) (drop (start + k) text)) is
    ∙ sym (behind_piece pattern text (omega (arith, is, within)) start (ap (λ k. place_of (take k pattern) text) (sym is) ∙ found))

pub left_nowhere : (pattern text : List ℕ) (at : ℕ) → at ≡ stars pattern → at < length pattern → place_of (take at pattern) text ≡ None
    → globs (star ∷ pattern) text ≡ false
left_nowhere pattern text at is within none =
    nowhere pattern text (omega (arith, is, within)) (ap (λ k. place_of (take k pattern) text) (sym is) ∙ none)

-- the three ways in which a pattern fits or doesn't by what stands before its first star
pub itself_alone : (pattern text : List ℕ) (at : ℕ) → at ≡ stars pattern → at ≡ length pattern → pointwise nat_eq text (take at pattern) ≡ globs pattern text
itself_alone pattern text at is all =
    ap (pointwise nat_eq text) (take_all at pattern (omega (arith, all))) ∙ sym (whole pattern text (omega (arith, is, all)))

pub front_and_rest : (pattern text : List ℕ) (at : ℕ) → at ≡ stars pattern → at < length pattern → starts_with nat_eq text (take at pattern) ≡ true
    → globs (star ∷ take (length pattern - (at + 1)) (drop (at + 1) pattern)) (take (length text - at) (drop at text)) ≡ globs pattern text
front_and_rest pattern text at is within begun =
    ap₂ (λ p t. globs (star ∷ p) t) (rest_whole (at + 1) pattern) (rest_whole at text)
    ∙ ap (λ k. globs (star ∷ drop (k + 1) pattern) (drop k text)) is
    ∙ sym (ap (λ p. globs p (drop (stars pattern) text)) (star_there pattern (omega (arith, is, within))))
    ∙ sym (ap (λ b. b && globs (drop (stars pattern) pattern) (drop (stars pattern) text)) (ap (λ k. starts_with nat_eq text (take k pattern)) (sym is) ∙ begun))
    ∙ sym (splits pattern text)

pub front_misses : (pattern text : List ℕ) (at : ℕ) → at ≡ stars pattern → starts_with nat_eq text (take at pattern) ≡ false → false ≡ globs pattern text
front_misses pattern text at is misses =
    sym (ap (λ b. b && globs (drop (stars pattern) pattern) (drop (stars pattern) text)) (ap (λ k. starts_with nat_eq text (take k pattern)) (sym is) ∙ misses))
    ∙ sym (splits pattern text)

pub stars_within : (pattern : List ℕ) → stars pattern ≤ length pattern
stars_within [] = omega arith
stars_within (c ∷ pattern) = by (c == star) refl (stars_within pattern)
  where
    by : (b : Bool) → (c == star) ≡ b → stars pattern ≤ length pattern → stars (c ∷ pattern) ≤ suc (length pattern)
    by true is rest = omega (arith, stars_here c pattern is)
    by false is rest = omega (arith, stars_later c pattern is, rest)
