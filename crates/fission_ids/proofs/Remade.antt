-- Values that are made of two numbers.
use Rattle.std.proofs.Common.{◌≡◌, ℕ, Option, Some}
use Rattle.std.proofs.lemmas.Option.{some_pair_parts}

pub remade : {X : Type 0} (make : ℕ → ℕ → X) (a b c d : ℕ) → ◌≡◌ {A = Option (ℕ × ℕ)} (Some (a, b)) (Some (c, d)) → Some (make a b) ≡ Some (make c d)
remade make a b c d e = let parts : (a ≡ c) × (b ≡ d) = some_pair_parts a c b d e in cc
