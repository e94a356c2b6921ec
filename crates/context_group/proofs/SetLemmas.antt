-- Which processes are in a set.
use Rattle.std.proofs.Common.{◌≡◌, ◌≢◌, ℕ, ◌^◌, ◌<◌, ◌≤◌, ◌==◌, Bool, true, false, not, ◌&&◌, ◌||◌, if◌then◌else◌, bit_and, bit_or, arith, inl, inr, subst, ap, ◌∙◌, refl}
use Rattle.std.specs.Prelude.{max}
use Rattle.std.specs.Int.{bit_at, bit_not, w16}
use Rattle.std.proofs.Math.Pow.{pow-lt}
use Rattle.std.proofs.lemmas.Bool.{cases_lt}
use Rattle.std.proofs.lemmas.Bool.Decides.{nat_tests}
use Rattle.std.proofs.lemmas.Nat.{or_lt, and_le_l, le_or_l, one_shl}
use Rattle.std.proofs.lemmas.Nat.Bits.{bit_at_above, bit_at-zero, bit_at_or, bit_at-lt, bit_at-pow_same, bit_at-pow_other}
use Rattle.fission_ids.specs.declared.process.ProcSet.{ProcSet}
use Rattle.fission_ids.specs.ProcSet.{has, with, without}
use Rattle.fission_ids.proofs.Members.{bit_at-without}
use Rattle.context_group.specs.Sets.{has_any, set_without, union}

-- a number from 16 on is in no set of 16 bits
pub has_above : (s : ProcSet) (q : ℕ) → s.0 < 2 ^ 16 → 16 ≤ q → has s q ≡ false
has_above s q fits above = let e : bit_at s.0 q ≡ 0 = bit_at_above s.0 16 q fits above in ap (λ n. n == 1) e

-- so what is in one is below 16
pub has_below : (s : ProcSet) (q : ℕ) → s.0 < 2 ^ 16 → has s q ≡ true → q < 16
has_below s q fits is = elim (cases_lt q 16) [ inl below ↦ below | inr above ↦ let e : has s q ≡ false = has_above s q fits above in absurd (cc) ]

-- no process is in no bits
pub has_none : (q : ℕ) → has (record { 0 = 0 }) q ≡ false
has_none q = ap (λ n. n == 1) (bit_at-zero q)

-- a set that has no process has none of them
pub has_unowed : (s : ProcSet) (q : ℕ) → has_any s ≡ false → has s q ≡ false
has_unowed s q none = let zero : s.0 ≡ 0 = grind (arith, nat_tests) in ap (λ n. bit_at n q == 1) zero ∙ has_none q

or_is_one : (a b c : ℕ) → a < 2 → b < 2 → c ≡ max a b → (c == 1) ≡ (a == 1 || b == 1)
or_is_one a b c low low' is = grind (arith, nat_tests)

or_here : (a b c p q : ℕ) → a < 2 → b < 2 → c ≡ max a b → (q ≡ p → b ≡ 1) → (q ≢ p → b ≡ 0) → (c == 1) ≡ (q == p || a == 1)
or_here a b c p q low low' is here other = grind (arith, nat_tests)

-- what is in the set that p joined
pub has-with : (s : ProcSet) (p q : ℕ) → has (with s p) q ≡ (q == p || has s q)
has-with s p q =
    or_here (bit_at s.0 q) (bit_at (2 ^ p) q) (bit_at (bit_or s.0 (2 ^ p)) q) p q (bit_at-lt s.0 q) (bit_at-lt (2 ^ p) q) (bit_at_or s.0 (2 ^ p) q)
    (λ e. ap (bit_at (2 ^ p)) e ∙ bit_at-pow_same p) (bit_at-pow_other p q)

stays : (p q a own : ℕ) → (q ≡ p → a ≡ own) → (own == 1) ≡ false → (a == 1) ≡ (not (q == p) && a == 1)
stays p q a own same none = grind (arith, nat_tests)

both_false : (a b c : Bool) → a ≡ false → c ≡ false → a ≡ (b && c)
both_false a true c e f = cc
both_false a false c e f = e

without_below : (s : ProcSet) (p q : ℕ) → p < 16 → q < 16 → has (without s p) q ≡ (not (q == p) && has s q)
without_below s p q low within = subst (λ n. (bit_at (bit_and s.0 (bit_not w16 n)) q == 1) ≡ (not (q == p) && bit_at s.0 q == 1)) (one_shl p 16 low) (bit_at-without s.0 p q low within)

-- a set without p fits as the set did
pub fits-without : (s : ProcSet) (p : ℕ) → s.0 < 2 ^ 16 → (set_without p s).0 < 2 ^ 16
fits-without s p fits = elim (has s p) as (λ b. (if b then without s p else s).0 < 2 ^ 16) [ true ↦ omega (arith, and_le_l s.0 (bit_not w16 (2 ^ p))) | false ↦ fits ]

-- a set with p fits, where p is a process
pub fits-with : (s : ProcSet) (p : ℕ) → p < 16 → s.0 < 2 ^ 16 → (with s p).0 < 2 ^ 16
fits-with s p low fits = or_lt 16 s.0 (2 ^ p) fits (pow-lt low)

-- what is in the set that p left
pub has-without : (s : ProcSet) (p q : ℕ) → s.0 < 2 ^ 16 → has (set_without p s) q ≡ (not (q == p) && has s q)
has-without s p q fits =
    elim (has s p) as (λ b. has s p ≡ b → has (if b then without s p else s) q ≡ (not (q == p) && has s q)) [
      | true ↦ λ is. elim (cases_lt q 16) [
        | inl within ↦ without_below s p q (has_below s p fits is) within
        | inr above ↦
            let small : (without s p).0 < 2 ^ 16 = omega (arith, and_le_l s.0 (bit_not w16 (2 ^ p))) in
            both_false (has (without s p) q) (not (q == p)) (has s q) (has_above (without s p) q small above) (has_above s q fits above)
      ]
      | false ↦ λ isn't. stays p q (bit_at s.0 q) (bit_at s.0 p) (λ e. ap (bit_at s.0) e) isn't
    ] refl

-- what is in two sets
pub has-union : (s t : ProcSet) (q : ℕ) → has (union s t) q ≡ (has s q || has t q)
has-union s t q = or_is_one (bit_at s.0 q) (bit_at t.0 q) (bit_at (bit_or s.0 t.0) q) (bit_at-lt s.0 q) (bit_at-lt t.0 q) (bit_at_or s.0 t.0 q)

-- two sets have some process where the first has one
pub any-union : (s t : ProcSet) → has_any s ≡ true → has_any (union s t) ≡ true
any-union s t some = let above : s.0 ≤ bit_or s.0 t.0 = le_or_l s.0 t.0 in grind (arith, nat_tests)
