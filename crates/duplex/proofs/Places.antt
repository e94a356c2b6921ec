-- Lists that are read at a place.
use Rattle.std.proofs.Common.{◌≡◌, ◌≢◌, ◌⊎◌, ℕ, zero, suc, ◌<◌, ◌≤◌, List, [], ◌∷◌, ◌++◌, length, refl, sym, ap, inl, inr, ⊎_elim, arith}
use Rattle.std.specs.Prelude.{slice_index, slice_set}
use mathlib.Core.Option.{some, some-injective, some-ne-none}
use lib.ListN.{get_elem?}

module _ {A : Type 0} where
  pub below : (l : List A) (k : ℕ) (a : A) → get_elem? l k ≡ some a → k < length l
  below [] k a e = absurd (some-ne-none a (sym e))
  below (x ∷ xs) zero a e = omega arith
  below (x ∷ xs) (suc k) a e = let b = below xs k a e in omega arith

  pub at_end : (l : List A) (a b : A) (j : ℕ) → get_elem? (l ++ a ∷ []) j ≡ some b → (get_elem? l j ≡ some b) ⊎ ((j ≡ length l) × (a ≡ b))
  at_end [] a b zero e = inr (refl, some-injective a b e)
  at_end [] a b (suc j) e = absurd (some-ne-none b (sym e))
  at_end (x ∷ xs) a b zero e = inl e
  at_end (x ∷ xs) a b (suc j) e = ⊎_elim inl (λ t. inr (ap suc t.0, t.1)) (at_end xs a b j e)

  pub first_of : (l : List A) → 0 < length l → (a : A) × (rest : List A) × (l ≡ a ∷ rest)
  first_of [] h = absurd (omega arith)
  first_of (x ∷ xs) h = (x, xs, refl)

  pub none_left : (l : List A) → length l ≤ 0 → l ≡ []
  none_left [] h = refl
  none_left (x ∷ xs) h = absurd (omega arith)

-- a word that is stored, and the others
pub stored : (ws : List ℕ) (i n : ℕ) → i < length ws → slice_index (slice_set ws i n) i ≡ n
stored [] i n h = absurd (omega arith)
stored (x ∷ xs) zero n h = refl
stored (x ∷ xs) (suc i) n h = stored xs i n (omega arith)

pub others : (ws : List ℕ) (i n j : ℕ) → i ≢ j → slice_index (slice_set ws i n) j ≡ slice_index ws j
others [] i n j h = refl
others (x ∷ xs) zero n zero h = absurd (h refl)
others (x ∷ xs) zero n (suc j) h = refl
others (x ∷ xs) (suc i) n zero h = refl
others (x ∷ xs) (suc i) n (suc j) h = others xs i n j (λ e. h (ap suc e))

-- a word that is loaded stays
pub loaded : (ws : List ℕ) (i j : ℕ) → slice_index (slice_set ws i (slice_index ws i)) j ≡ slice_index ws j
loaded [] i j = refl
loaded (x ∷ xs) zero zero = refl
loaded (x ∷ xs) zero (suc j) = refl
loaded (x ∷ xs) (suc i) zero = refl
loaded (x ∷ xs) (suc i) (suc j) = loaded xs i j
