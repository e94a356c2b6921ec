-- Which processes are in a set that was changed.
use Rattle.std.proofs.Common.{◌≡◌, ℕ, ◌*◌, ◌%◌, ◌^◌, ◌<◌, ◌==◌, not, ◌&&◌, ◌||◌, bit_and, bit_or, arith, sym, subst}
use Rattle.std.specs.Int.{bit_at, bit_not, w16}
use Rattle.std.proofs.lemmas.Bool.Decides.{nat_tests}
use Rattle.std.proofs.lemmas.Nat.Bits.{bit_at_set_same, bit_at_set_other, bit_at_clear_same, bit_at_clear_other}

with_one : (old new p q : ℕ) → (q ≡ p → new ≡ 1) → ((q ≡ p → ⊥) → new ≡ old) → (new == 1) ≡ (q == p || old == 1)
with_one old new p q same other = grind (arith, nat_tests)

without_one : (old new p q : ℕ) → (q ≡ p → new ≡ 0) → ((q ≡ p → ⊥) → new ≡ old) → (new == 1) ≡ (not (q == p) && old == 1)
without_one old new p q same other = grind (arith, nat_tests)

-- with process p
pub bit_at-with : (n p q : ℕ) → p < 16 → (bit_at (bit_or n (1 * 2 ^ p % 2 ^ 16)) q == 1) ≡ (q == p || bit_at n q == 1)
bit_at-with n p q low = with_one (bit_at n q) (bit_at (bit_or n (1 * 2 ^ p % 2 ^ 16)) q) p q
    (λ e. subst (λ k. bit_at (bit_or n (1 * 2 ^ p % 2 ^ 16)) k ≡ 1) (sym e) (bit_at_set_same w16 n p low))
    (bit_at_set_other w16 n p low q)

-- without process p
pub bit_at-without : (n p q : ℕ) → p < 16 → q < 16 → (bit_at (bit_and n (bit_not w16 (1 * 2 ^ p % 2 ^ 16))) q == 1) ≡ (not (q == p) && bit_at n q == 1)
bit_at-without n p q low within = without_one (bit_at n q) (bit_at (bit_and n (bit_not w16 (1 * 2 ^ p % 2 ^ 16))) q) p q
    (λ e. subst (λ k. bit_at (bit_and n (bit_not w16 (1 * 2 ^ p % 2 ^ 16))) k ≡ 0) (sym e) (bit_at_clear_same w16 n p low))
    (bit_at_clear_other w16 n p low q within)
