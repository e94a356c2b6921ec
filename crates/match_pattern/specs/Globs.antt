-- What a pattern with stars fits.
use Rattle.std.specs.Prelude.{◌≡◌, ◌≢◌, ◌↔◌, ℕ, ◌==◌, ◌&&◌, ◌++◌, Bool, false, true, List, [], ◌∷◌, drop}
use Rattle.std.specs.Prelude.{bytes_eq, if◌then◌else◌, nat_eq, suc, Option, None, Some}
use Rattle.std.specs.List.{list_any, starts_with}
use Rattle.std.specs.Option.{option_map}

-- `b'*'`
abbrev pub star : ℕ
star = 42

-- the ends of a list, all of it first and the empty one last
abbrev pub ends : List ℕ → List (List ℕ)
ends [] = [] ∷ []
ends (b ∷ bytes) = (b ∷ bytes) ∷ ends bytes

-- whether the list begins with this byte
abbrev pub is_first : ℕ → List ℕ → Bool
is_first c [] = false
is_first c (b ∷ bytes) = c == b

-- whether the text fits the pattern: a star stands for any run of bytes, so what follows it is to fit some
-- end of the text, and every other byte stands for itself
abbrev pub globs : List ℕ → List ℕ → Bool
globs [] text = bytes_eq text []
globs (c ∷ pattern) text =
    if c == star then list_any (globs pattern) (ends text)
    else is_first c text && globs pattern (drop 1 text)

-- where the piece first stands in the text, if it does
abbrev pub place_of : List ℕ → List ℕ → Option ℕ
place_of piece [] = if starts_with nat_eq [] piece then Some 0 else None
place_of piece (b ∷ bytes) =
    if starts_with nat_eq (b ∷ bytes) piece then Some 0 else option_map suc (place_of piece bytes)

-- a text fits a pattern that a star begins exactly where, behind some run of bytes, it fits the rest; it fits
-- one that another byte begins exactly where it has the byte and, behind it, fits the rest
pub record StarsStandForAnyRun : Type 0 where
  pub nothing : (text : List ℕ) → (globs [] text ≡ true) ↔ (text ≡ [])
  pub any_run : (pattern text : List ℕ) → (globs (star ∷ pattern) text ≡ true)
      ↔ ((run : List ℕ) × (rest : List ℕ) × (text ≡ run ++ rest) × (globs pattern rest ≡ true))
  pub itself : (c : ℕ) (pattern text : List ℕ) → c ≢ star → (globs (c ∷ pattern) text ≡ true)
      ↔ ((rest : List ℕ) × (text ≡ c ∷ rest) × (globs pattern rest ≡ true))
