-- Totals, over lists and over numbers.
use Rattle.std.proofs.Common.{◌≡◌, ℕ, zero, suc, ◌+◌, ◌<◌, ◌≤◌, ◌==◌, if◌then◌else◌, true, false, List, [], ◌∷◌, refl, arith}
use Rattle.std.proofs.lemmas.Bool.{eqb-true, eqb-false}
use Rattle.protocol.specs.Start.{numbers}
use Rattle.model.specs.Settling.{total}

-- where each item has risen by so much and fallen by so much, so has the total
pub totals : {X : Type 0} (f g more less : X → ℕ) → ((x : X) → g x + less x ≤ f x + more x) → (xs : List X) → total g xs + total less xs ≤ total f xs + total more xs
totals f g more less each [] = omega arith
totals f g more less each (x ∷ xs) = omega (arith, each x, totals f g more less each xs)

pub total_none : {X : Type 0} (xs : List X) → total (λ (x : X). 0) xs ≡ 0
total_none [] = refl
total_none (x ∷ xs) = omega (arith, total_none xs)

-- so much at one number, and nothing at the others
abbrev pub at_one : ℕ → ℕ → ℕ → ℕ
at_one p e q = if q == p then e else 0

nothing_elsewhere : (p e q : ℕ) → (q ≡ p → ⊥) → at_one p e q ≡ 0
nothing_elsewhere p e q other = elim (q == p) as (λ b. (q == p) ≡ b → (if b then e else 0) ≡ 0) [ true ↦ λ same. absurd (other (eqb-true q p same)) | false ↦ λ _. refl ] refl

nothing_behind : (p e k n : ℕ) → p < k → total (at_one p e) (numbers k n) ≡ 0
nothing_behind p e k zero behind = refl
nothing_behind p e k (suc n) behind =
    let here : at_one p e k ≡ 0 = nothing_elsewhere p e k (λ same. omega (arith, same)) in
    omega (arith, here, nothing_behind p e (suc k) n (omega arith))

pub at_most : (p e k n : ℕ) → total (at_one p e) (numbers k n) ≤ e
at_most p e k zero = omega arith
at_most p e k (suc n) = elim (k == p) as (λ b. (k == p) ≡ b → (if b then e else 0) + total (at_one p e) (numbers (suc k) n) ≤ e) [
  | true ↦ λ same. let at : k ≡ p = eqb-true k p same in omega (arith, nothing_behind p e (suc k) n (omega (arith, at)))
  | false ↦ λ _. omega (arith, at_most p e (suc k) n)
] refl

pub at_least : (p e k n : ℕ) → k ≤ p → p < k + n → e ≤ total (at_one p e) (numbers k n)
at_least p e k zero from below = absurd (omega arith)
at_least p e k (suc n) from below = elim (k == p) as (λ b. (k == p) ≡ b → e ≤ (if b then e else 0) + total (at_one p e) (numbers (suc k) n)) [
  | true ↦ λ _. omega arith
  | false ↦ λ other. let apart : k ≡ p → ⊥ = eqb-false k p other in
      let further : suc k ≤ p = grind arith in
      omega (arith, at_least p e (suc k) n further (omega arith))
] refl

pub total_one : (k n : ℕ) → total (λ (q : ℕ). 1) (numbers k n) ≡ n
total_one k zero = refl
total_one k (suc n) = omega (arith, total_one (suc k) n)

pub total_three : (k n : ℕ) → total (λ (q : ℕ). 3) (numbers k n) ≡ n + n + n
total_three k zero = refl
total_three k (suc n) = omega (arith, total_three (suc k) n)

-- a total of what is no more at each item
pub total_most : {X : Type 0} (f g : X → ℕ) → ((x : X) → f x ≤ g x) → (xs : List X) → total f xs ≤ total g xs
total_most f g each [] = omega arith
total_most f g each (x ∷ xs) = omega (arith, each x, total_most f g each xs)
