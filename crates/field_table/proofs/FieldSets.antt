-- What is in the sets that `FieldSet` makes.
use Rattle.std.proofs.Common.{◌≡◌, ℕ, zero, suc, ◌+◌, ◌-◌, ◌*◌, ◌/◌, ◌%◌, ◌^◌, ◌<◌, ◌≤◌, ◌==◌, ◌&&◌, ◌||◌, not, Bool, true, false, List, [], ◌∷◌, ◌++◌, length, get_or, map, take, min, max, bit_or, bit_and, refl, sym, ap, ◌∙◌, if◌then◌else◌, arith, lit<, eq-eqb, inl, inr, subst}
use Rattle.std.proofs.Math.Nat.{pow-suc}
use Rattle.std.proofs.Math.Pow.{pow-lt}
use Rattle.std.proofs.lemmas.Bool.{cases_eq, ne_eqb}
use Rattle.std.specs.Int.{bit_at, bit_not, w16}
use Rattle.std.proofs.lemmas.Nat.Bits.{bit_at-lt, bit_at_or, bit_at_and, bit_at_not, bit_at-pow_same, bit_at-pow_other, bit_at_lowest, bit_at-suc, bit_at-zero}
use Rattle.std.proofs.lemmas.Nat.{or_comm, or_shifted}
use Rattle.std.proofs.lemmas.List.{map_more, length-map, length-take-le, take_all}
use Rattle.field_table.specs.declared.field.Field.{Field}
use Rattle.field_table.specs.declared.field_set.FieldSet.{FieldSet}
use Rattle.field_table.specs.Field.{fields, number}
pub use Rattle.field_table.proofs.Tables.{number-at, at_number}
use Rattle.field_table.proofs.Tables.{stands}
use Rattle.field_table.specs.FieldSet.{has, with, without, union, minus, number_of_bits, set_of}

-- ---- tests of single bits

bits_or : (x y : ℕ) → x < 2 → y < 2 → (max x y == 1) ≡ (x == 1 || y == 1)
bits_or zero zero p q = refl
bits_or zero (suc zero) p q = refl
bits_or (suc zero) zero p q = refl
bits_or (suc zero) (suc zero) p q = refl
bits_or (suc (suc x)) y p q = absurd (omega arith)
bits_or zero (suc (suc y)) p q = absurd (omega arith)
bits_or (suc zero) (suc (suc y)) p q = absurd (omega arith)

bits_minus : (x y : ℕ) → x < 2 → y < 2 → (min x (1 - y) == 1) ≡ (x == 1 && not (y == 1))
bits_minus zero zero p q = refl
bits_minus zero (suc zero) p q = refl
bits_minus (suc zero) zero p q = refl
bits_minus (suc zero) (suc zero) p q = refl
bits_minus (suc (suc x)) y p q = absurd (omega arith)
bits_minus zero (suc (suc y)) p q = absurd (omega arith)
bits_minus (suc zero) (suc (suc y)) p q = absurd (omega arith)

in_or : (a b n : ℕ) → (bit_at (bit_or a b) n == 1) ≡ (bit_at a n == 1 || bit_at b n == 1)
in_or a b n = ap (λ (x : ℕ). x == 1) (bit_at_or a b n) ∙ bits_or (bit_at a n) (bit_at b n) (bit_at-lt a n) (bit_at-lt b n)

in_minus : (a b n : ℕ) → b < 2 ^ 16 → n < 16 → (bit_at (bit_and a (bit_not w16 b)) n == 1) ≡ (bit_at a n == 1 && not (bit_at b n == 1))
in_minus a b n fits within = ap (λ (x : ℕ). x == 1) (bit_at_and a (bit_not w16 b) n ∙ ap (min (bit_at a n)) (bit_at_not w16 b n fits within)) ∙ bits_minus (bit_at a n) (bit_at b n) (bit_at-lt a n) (bit_at-lt b n)

in_one : (m n : ℕ) → (bit_at (2 ^ n) m == 1) ≡ (m == n)
in_one m n = elim (cases_eq m n) [
  | inl e ↦ eq-eqb _ _ (ap (bit_at (2 ^ n)) e ∙ bit_at-pow_same n) ∙ sym (eq-eqb m n e)
  | inr ne ↦ ap (λ (x : ℕ). x == 1) (bit_at-pow_other n m ne) ∙ sym (ne_eqb m n ne)
]

-- ---- the numbers of the fields

number_below : (f : Field) → number f < 16
number_below f = (stands f).below

bit_below : (f : Field) → 2 ^ number f < 2 ^ 16
bit_below f = pow-lt (number_below f)

-- ---- the members of the sets that are made

pub members_with : (r s : FieldSet) (f : Field) → r ≡ with s f → (g : Field) → has r g ≡ (has s g || number g == number f)
members_with r s f e g = ap (λ (x : FieldSet). has x g) e ∙ in_or s.0 (2 ^ number f) (number g) ∙ ap (λ (b : Bool). has s g || b) (in_one (number g) (number f))

pub members_without : (r s : FieldSet) (f : Field) → r ≡ without s f → (g : Field) → has r g ≡ (has s g && not (number g == number f))
members_without r s f e g = ap (λ (x : FieldSet). has x g) e ∙ in_minus s.0 (2 ^ number f) (number g) (bit_below f) (number_below g) ∙ ap (λ (b : Bool). has s g && not b) (in_one (number g) (number f))

pub members_union : (r s t : FieldSet) → r ≡ union s t → (g : Field) → has r g ≡ (has s g || has t g)
members_union r s t e g = ap (λ (x : FieldSet). has x g) e ∙ in_or s.0 t.0 (number g)

pub members_minus : (r s t : FieldSet) → t.0 < 2 ^ 16 → r ≡ minus s t → (g : Field) → has r g ≡ (has s g && not (has t g))
members_minus r s t fits e g = ap (λ (x : FieldSet). has x g) e ∙ in_minus s.0 t.0 (number g) fits (number_below g)

-- ---- the set of the fields that pass a test

lowest : (b : Bool) (n : ℕ) → (((if b then 1 else 0) + 2 * n) % 2 == 1) ≡ b
lowest true n = let e : (1 + 2 * n) % 2 ≡ 1 = omega arith in eq-eqb _ _ e
lowest false n = let e : (0 + 2 * n) % 2 ≡ 0 = omega arith in ap (λ (x : ℕ). x == 1) e

half : (b : Bool) (n : ℕ) → ((if b then 1 else 0) + 2 * n) / 2 ≡ n
half true n = omega arith
half false n = omega arith

in_bits : (bs : List Bool) (i : ℕ) → (bit_at (number_of_bits bs) i == 1) ≡ get_or bs i false
unfolding number_of_bits
in_bits [] i = ap (λ (x : ℕ). x == 1) (bit_at-zero i)
in_bits (b ∷ bs) zero = ap (λ (x : ℕ). x == 1) (bit_at_lowest (number_of_bits (b ∷ bs))) ∙ lowest b (number_of_bits bs)
in_bits (b ∷ bs) (suc i) = ap (λ (x : ℕ). x == 1) (bit_at-suc (number_of_bits (b ∷ bs)) i ∙ ap (λ (n : ℕ). bit_at n i) (half b (number_of_bits bs))) ∙ in_bits bs i

pub members_set_of : (r : FieldSet) (p : Field → Bool) → r ≡ set_of p → (g : Field) → has r g ≡ p g
members_set_of r p e g = ap (λ (x : FieldSet). has x g) e ∙ in_bits (map p fields) (number g) ∙ at_number p false g

below : (bs : List Bool) → number_of_bits bs < 2 ^ length bs
unfolding number_of_bits
below [] = lit< tt
below (true ∷ bs) = omega (arith, below bs, pow-suc 2 (length bs))
below (false ∷ bs) = omega (arith, below bs, pow-suc 2 (length bs))

bits_more : (b : Bool) (bs : List Bool) → number_of_bits (bs ++ b ∷ []) ≡ number_of_bits bs + (if b then 2 ^ length bs else 0)
unfolding number_of_bits
bits_more true [] = refl
bits_more false [] = refl
bits_more true (x ∷ bs) = omega (arith, bits_more true bs, pow-suc 2 (length bs))
bits_more false (x ∷ bs) = omega (arith, bits_more false bs)

-- the set of those of the first fields that pass a test
abbrev pub some_of : (Field → Bool) → ℕ → FieldSet
some_of p i = record { 0 = number_of_bits (map p (take i fields)) }

pub none_of : (p : Field → Bool) → record { 0 = 0 } ≡ some_of p 0
unfolding number_of_bits
none_of p = refl

-- they are all past
pub all_of : (p : Field → Bool) (i : ℕ) → length fields ≤ i → some_of p i ≡ set_of p
all_of p i past = ap (λ (fs : List Field). record { 0 = number_of_bits (map p fs) }) (take_all i fields past)

bits_so_far : (p : Field → Bool) (i : ℕ) → i < length fields → length (map p (take i fields)) ≡ i
bits_so_far p i h = length-map (take i fields) p ∙ length-take-le i fields (omega arith)

one_bit_more : (p : Field → Bool) (i : ℕ) (d : Field) (b : Bool) → i < length fields → p (get_or fields i d) ≡ b
    → number_of_bits (map p (take (i + 1) fields)) ≡ number_of_bits (map p (take i fields)) + (if b then 2 ^ i else 0)
one_bit_more p i d b h is =
    ap number_of_bits (map_more p fields i d h)
    ∙ bits_more (p (get_or fields i d)) (map p (take i fields))
    ∙ ap (λ (x : Bool). number_of_bits (map p (take i fields)) + (if x then 2 ^ length (map p (take i fields)) else 0)) is
    ∙ ap (λ (k : ℕ). number_of_bits (map p (take i fields)) + (if b then 2 ^ k else 0)) (bits_so_far p i h)

or_next : (n i : ℕ) → n < 2 ^ i → bit_or n (2 ^ i) ≡ n + 2 ^ i
or_next n i fits =
    let one : 1 * 2 ^ i ≡ 2 ^ i = omega arith in
    let flipped : bit_or (2 ^ i) n ≡ 2 ^ i + n = rw one at (or_shifted 1 i n fits) in
    omega (arith, or_comm n (2 ^ i))

with_next : (p : Field → Bool) (i : ℕ) (d : Field) → i < length fields → p (get_or fields i d) ≡ true
    → bit_or (number_of_bits (map p (take i fields))) (2 ^ i) ≡ number_of_bits (map p (take (i + 1) fields))
with_next p i d h passes =
    let fits : number_of_bits (map p (take i fields)) < 2 ^ i = subst (λ (k : ℕ). number_of_bits (map p (take i fields)) < 2 ^ k) (bits_so_far p i h) (below (map p (take i fields))) in
    or_next (number_of_bits (map p (take i fields))) i fits ∙ sym (one_bit_more p i d true h passes)

without_next : (p : Field → Bool) (i : ℕ) (d : Field) → i < length fields → p (get_or fields i d) ≡ false
    → number_of_bits (map p (take i fields)) ≡ number_of_bits (map p (take (i + 1) fields))
without_next p i d h fails =
    let more : number_of_bits (map p (take (i + 1) fields)) ≡ number_of_bits (map p (take i fields)) + 0 = one_bit_more p i d false h fails in
    omega arith

pub some_more_in : (p : Field → Bool) (i : ℕ) (d : Field) (old new : FieldSet) → i < length fields → old ≡ some_of p i
    → p (get_or fields i d) ≡ true → new ≡ with old (get_or fields i d) → new ≡ some_of p (i + 1)
some_more_in p i d old new h so_far passes e =
    e
    ∙ ap (λ (s : FieldSet). with s (get_or fields i d)) so_far
    ∙ ap (λ (k : ℕ). record { 0 = bit_or (number_of_bits (map p (take i fields))) (2 ^ k) }) (number-at i d h)
    ∙ ap (λ (n : ℕ). record { 0 = n }) (with_next p i d h passes)

pub some_more_out : (p : Field → Bool) (i : ℕ) (d : Field) (old new : FieldSet) → i < length fields → old ≡ some_of p i
    → p (get_or fields i d) ≡ false → new ≡ old → new ≡ some_of p (i + 1)
some_more_out p i d old new h so_far fails e = e ∙ so_far ∙ ap (λ (n : ℕ). record { 0 = n }) (without_next p i d h fails)
