-- The processes that have a tab.
use Rattle.std.proofs.Common.{◌≡◌, ◌∙◌, sym, ap, ℕ, ◌^◌, ◌<◌, ◌==◌, Bool, ◌||◌, arith, eq-eqb, inl, inr}
use Rattle.std.proofs.lemmas.Bool.{cases_eq, ne_eqb}
use Rattle.std.proofs.lemmas.Bool.Decides.{nat_tests}
use Rattle.std.proofs.lemmas.Nat.Bits.{bit_at_or, bit_at-pow_same, bit_at-pow_other, bit_at-lt}
use Rattle.std.specs.Int.{bit_at}
use Rattle.std.specs.Prelude.{bit_or, max}

bits_or : (x y : ℕ) → x < 2 → y < 2 → (max x y == 1) ≡ (y == 1 || x == 1)
bits_or x y p q = grind (arith, nat_tests)

in_one : (p q : ℕ) → (bit_at (2 ^ p) q == 1) ≡ (q == p)
in_one p q = elim (cases_eq q p) [
  | inl e ↦ eq-eqb _ _ (ap (bit_at (2 ^ p)) e ∙ bit_at-pow_same p) ∙ sym (eq-eqb q p e)
  | inr ne ↦ ap (λ (x : ℕ). x == 1) (bit_at-pow_other p q ne) ∙ sym (ne_eqb q p ne)
]

pub of_tab-either : (p owner also : ℕ) → (bit_at (bit_or also (2 ^ owner)) p == 1) ≡ (p == owner || bit_at also p == 1)
of_tab-either p owner also =
    ap (λ (x : ℕ). x == 1) (bit_at_or also (2 ^ owner) p)
    ∙ bits_or (bit_at also p) (bit_at (2 ^ owner) p) (bit_at-lt also p) (bit_at-lt (2 ^ owner) p)
    ∙ ap (λ (b : Bool). b || bit_at also p == 1) (in_one owner p)
