-- Where a piece first stands in a text.
use Rattle.std.proofs.Common.{length-drop, length-take, unwrap_or, le_of_eq, ◌≡◌, ℕ, suc, ◌+◌, ◌-◌, ◌<◌, ◌≤◌, Bool, true, false, cond, List, [], ◌∷◌, length, take, drop, nat_eq, Option, None, Some, option_map, refl, sym, ap, ◌∙◌, arith}
use Rattle.std.specs.List.{starts_with}
use Rattle.match_pattern.proofs.Lists.{same_length}
use Rattle.std.proofs.lemmas.List.{drop-drop, take_all}
use Rattle.match_pattern.specs.Globs.{place_of}

-- it stands where the text begins with it
pub stands_first : (piece text : List ℕ) → starts_with nat_eq text piece ≡ true → place_of piece text ≡ Some 0
stands_first piece [] e = ap (λ b. cond b (Some 0) None) e
stands_first piece (t ∷ text) e = ap (λ b. cond b (Some 0) (option_map suc (place_of piece text))) e

-- else one further on than in the rest
pub stands_later : (piece text : List ℕ) → starts_with nat_eq text piece ≡ false → 0 < length text
    → place_of piece text ≡ option_map suc (place_of piece (drop 1 text))
stands_later piece [] e within = absurd (omega (arith, within))
stands_later piece (t ∷ text) e within = ap (λ b. cond b (Some 0) (option_map suc (place_of piece text))) e

-- and nowhere where nothing is left
pub stands_nowhere : (piece text : List ℕ) → starts_with nat_eq text piece ≡ false → length text ≡ 0 → place_of piece text ≡ None
stands_nowhere piece [] e none = ap (λ b. cond b (Some 0) None) e
stands_nowhere piece (t ∷ text) e none = absurd (omega (arith, none))

-- the place in a text is so much more than the place in its end
abbrev pub PlaceFrom : ℕ → List ℕ → List ℕ → Type 0
PlaceFrom at piece text = place_of piece text ≡ option_map (λ n. at + n) (place_of piece (drop at text))

-- all that is left
pub rest_whole : {X : Type 0} (at : ℕ) (text : List X) → take (length text - at) (drop at text) ≡ drop at text
rest_whole at text = take_all (length text - at) (drop at text) (le_of_eq (length-drop at text))

-- the place in what is left one further on
later_map : (at : ℕ) (o : Option ℕ) → option_map (λ n. at + n) (option_map suc o) ≡ option_map (λ n. (at + 1) + n) o
later_map at None = refl
later_map at (Some n) = ap Some (omega arith)

-- what a search that has come so far knows, one place further on
pub place_next : (at : ℕ) (piece text : List ℕ) → starts_with nat_eq (drop at text) piece ≡ false → at < length text
    → PlaceFrom at piece text → PlaceFrom (at + 1) piece text
place_next at piece text misses within so_far =
    let left : 0 < length (drop at text) = omega (arith, length-drop at text) in
    let further : drop 1 (drop at text) ≡ drop (at + 1) text = drop-drop 1 at text in
    so_far
    ∙ ap (option_map (λ n. at + n)) (stands_later piece (drop at text) misses left)
    ∙ later_map at (place_of piece (drop 1 (drop at text)))
    ∙ ap (λ end. option_map (λ n. (at + 1) + n) (place_of piece end)) further

-- at the first place where it stands
pub place_here : (at : ℕ) (piece text : List ℕ) → starts_with nat_eq (drop at text) piece ≡ true → PlaceFrom at piece text → place_of piece text ≡ Some at
place_here at piece text here so_far =
    so_far ∙ ap (option_map (λ n. at + n)) (stands_first piece (drop at text) here) ∙ ap Some (omega arith)

-- behind the last
pub place_none : (at : ℕ) (piece text : List ℕ) → starts_with nat_eq (drop at text) piece ≡ false → at ≡ length text → PlaceFrom at piece text → place_of piece text ≡ None
place_none at piece text misses past so_far =
    so_far ∙ ap (option_map (λ n. at + n)) (stands_nowhere piece (drop at text) misses (omega (arith, length-drop at text)))

-- a search begins with all of the text
same_map : (o : Option ℕ) → o ≡ option_map (λ n. 0 + n) o
same_map None = refl
same_map (Some n) = ap Some (omega arith)

pub place_begun : (piece text : List ℕ) → PlaceFrom 0 piece text
place_begun piece text = same_map (place_of piece text)

-- what a text begins with is no longer
begins_within : (piece text : List ℕ) → starts_with nat_eq text piece ≡ true → length piece ≤ length text
begins_within piece text e = omega (arith, same_length piece (take (length piece) text) e, length-take (length piece) text)

some_same : {n m : ℕ} → Some n ≡ Some m → n ≡ m
some_same {m = m} e = ap (λ o. unwrap_or o m) e

abbrev IsWithin : List ℕ → List ℕ → Option ℕ → Type 0
IsWithin piece text o = (at : ℕ) → o ≡ Some at → at + length piece ≤ length text

within_later : (piece text : List ℕ) (t : ℕ) (o : Option ℕ) → IsWithin piece text o → IsWithin piece (t ∷ text) (option_map suc o)
within_later piece text t None h at e = absurd (cc)
within_later piece text t (Some n) h at e = omega (arith, h n refl, some_same e)

-- a place is within the text
within_by : (piece text : List ℕ) (b : Bool) → starts_with nat_eq text piece ≡ b → IsWithin piece (drop 1 text) (place_of piece (drop 1 text))
    → IsWithin piece text (place_of piece text)
within_by piece text true here rest at e = omega (arith, begins_within piece text here, some_same (sym (stands_first piece text here) ∙ e))
within_by piece [] false misses rest at e =
    let none : None ≡ Some at = sym (stands_nowhere piece [] misses refl) ∙ e in absurd (cc)
within_by piece (t ∷ text) false misses rest at e =
    within_later piece text t (place_of piece text) rest at (sym (stands_later piece (t ∷ text) misses (omega arith)) ∙ e)

pub place_within : (piece text : List ℕ) → IsWithin piece text (place_of piece text)
place_within piece [] at e = by (starts_with nat_eq [] piece) refl
  where
    by : (b : Bool) → starts_with nat_eq [] piece ≡ b → at + length piece ≤ 0
    by true here = omega (arith, begins_within piece [] here, some_same (sym (stands_first piece [] here) ∙ e))
    by false misses =
        let none : None ≡ Some at = sym (stands_nowhere piece [] misses refl) ∙ e in absurd (cc)
place_within piece (t ∷ text) at e =
    within_by piece (t ∷ text) (starts_with nat_eq (t ∷ text) piece) refl (place_within piece text) at e

-- the text goes on with the piece from its place on
starts_here : (piece text : List ℕ) (at : ℕ) → starts_with nat_eq text piece ≡ true → place_of piece text ≡ Some at → starts_with nat_eq (drop at text) piece ≡ true
starts_here piece text at here e =
    let front : 0 ≡ at = some_same (sym (stands_first piece text here) ∙ e) in
    ap (λ k. starts_with nat_eq (drop k text) piece) (sym front) ∙ here

starts_behind : (piece text : List ℕ) (t at : ℕ) (o : Option ℕ) → place_of piece text ≡ o → ((n : ℕ) → place_of piece text ≡ Some n → starts_with nat_eq (drop n text) piece ≡ true)
    → option_map suc o ≡ Some at → starts_with nat_eq (drop at (t ∷ text)) piece ≡ true
starts_behind piece text t at None is rest e = absurd (cc)
starts_behind piece text t at (Some n) is rest e =
    let later : suc n ≡ at = some_same e in
    ap (λ k. starts_with nat_eq (drop k (t ∷ text)) piece) (sym later) ∙ rest n is

starts_by : (piece text : List ℕ) (t at : ℕ) (b : Bool) → starts_with nat_eq (t ∷ text) piece ≡ b → ((n : ℕ) → place_of piece text ≡ Some n → starts_with nat_eq (drop n text) piece ≡ true)
    → place_of piece (t ∷ text) ≡ Some at → starts_with nat_eq (drop at (t ∷ text)) piece ≡ true
starts_by piece text t at true here rest e = starts_here piece (t ∷ text) at here e
starts_by piece text t at false misses rest e =
    starts_behind piece text t at (place_of piece text) refl rest (sym (stands_later piece (t ∷ text) misses (omega arith)) ∙ e)

pub place_starts : (piece text : List ℕ) (at : ℕ) → place_of piece text ≡ Some at → starts_with nat_eq (drop at text) piece ≡ true
place_starts piece [] at e = by (starts_with nat_eq [] piece) refl
  where
    by : (b : Bool) → starts_with nat_eq [] piece ≡ b → starts_with nat_eq (drop at []) piece ≡ true
    by true here = starts_here piece [] at here e
    by false misses =
        let none : None ≡ Some at = sym (stands_nowhere piece [] misses refl) ∙ e in absurd (cc)
place_starts piece (t ∷ text) at e = starts_by piece text t at (starts_with nat_eq (t ∷ text) piece) refl (place_starts piece text) e
