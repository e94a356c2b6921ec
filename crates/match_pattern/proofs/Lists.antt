-- Lists of bytes that are compared, and their lengths.
use Rattle.std.proofs.Common.{min, ◌⊎◌, inl, inr, ◌≡◌, ℕ, suc, ◌<◌, ◌≤◌, Bool, true, false, ◌&&◌, ◌||◌, List, [], ◌∷◌, length, take, nat_eq, refl, sym, ap, ◌∙◌, arith}
use Rattle.std.proofs.lemmas.Bool.{cases_lt}
use Rattle.std.proofs.lemmas.List.{take_all}
use Rattle.std.specs.Cmp.{nat_eq_equiv}
use Rattle.std.specs.Cmp.Lexicographic.{nat_list_eq_equiv, pointwise}

-- numbers are compared either way round, and so are lists
pub number_turned : (m n : ℕ) → nat_eq m n ≡ nat_eq n m
number_turned = nat_eq_equiv.symm

pub bytes_turned : (xs ys : List ℕ) → pointwise nat_eq xs ys ≡ pointwise nat_eq ys xs
bytes_turned = nat_list_eq_equiv.symm

-- && groups either way
pub and_assoc : (a b c : Bool) → (a && (b && c)) ≡ ((a && b) && c)
and_assoc true b c = refl
and_assoc false b c = refl

pub or_none : (a : Bool) → (a || false) ≡ a
or_none true = refl
or_none false = refl

pub or_true : (a b : Bool) → b ≡ true → (a || b) ≡ true
or_true true b e = refl
or_true false b e = e

-- what is implied adds nothing
pub or_absorbs : (a b : Bool) → (b ≡ true → a ≡ true) → (a || b) ≡ a
or_absorbs true b h = refl
or_absorbs false true h = sym (h refl)
or_absorbs false false h = refl

-- equal lists are of one length
pub same_length : (xs ys : List ℕ) → pointwise nat_eq xs ys ≡ true → length xs ≡ length ys
same_length [] [] e = refl
same_length [] (y ∷ ys) e = absurd (cc)
same_length (x ∷ xs) [] e = absurd (cc)
same_length (x ∷ xs) (y ∷ ys) e = ap suc (same_length xs ys (second (nat_eq x y) (pointwise nat_eq xs ys) e))
  where
    second : (a b : Bool) → (a && b) ≡ true → b ≡ true
    second true b h = h
    second false b h = absurd (cc)

-- lists of other lengths differ
pub other_length : (xs ys : List ℕ) → (length xs ≡ length ys → ⊥) → pointwise nat_eq xs ys ≡ false
other_length xs ys apart = by (pointwise nat_eq xs ys) refl
  where
    by : (b : Bool) → pointwise nat_eq xs ys ≡ b → pointwise nat_eq xs ys ≡ false
    by true e = absurd (apart (same_length xs ys e))
    by false e = e

-- no more than all
pub take_at_most : (n : ℕ) (xs : List ℕ) → take (min (length xs) n) xs ≡ take n xs
take_at_most n xs = by (cases_lt n (length xs))
  where
    by : (n < length xs) ⊎ (length xs ≤ n) → take (min (length xs) n) xs ≡ take n xs
    by (inl less) = let e : min (length xs) n ≡ n = omega (arith, less) in ap (λ k. take k xs) e
    by (inr all) =
        let e : length xs ≤ min (length xs) n = omega (arith, all) in
        take_all (min (length xs) n) xs e ∙ sym (take_all n xs all)
