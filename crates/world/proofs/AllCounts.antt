-- The parent's counts of all that have a number, where those of the processes are in order.
use Rattle.std.proofs.Common.{◌≡◌, ◌⊎◌, inl, inr, ℕ, zero, suc, ◌-◌, ◌^◌, ◌<◌, ◌≤◌, List, [], ◌∷◌, length, get_or, refl, ap, arith}
use Rattle.parent_core.specs.Parent.{Kept, Counted, counted_of}
use Rattle.parent_core.specs.Ruled.{Counts}
use Rattle.std.proofs.lemmas.Bool.{cases_lt}
use Rattle.world.specs.Ready.{CountsWithin}

beyond : {A : Type 0} (xs : List A) (i : ℕ) (d : A) → length xs ≤ i → get_or xs i d ≡ d
beyond [] i d le = refl
beyond (x ∷ xs) zero d le = absurd (omega (arith, le))
beyond (x ∷ xs) (suc i) d le = beyond xs i d (omega (arith, le))

pub all_counts : (k : Kept) → length k.processes ≡ length k.config.types → CountsWithin (length k.config.types) k → Counts k
all_counts k len within = record { heard = λ p. heard p (cases_lt p (length k.config.types)); sent = λ p. sent p (cases_lt p (length k.config.types)) }
  where
    none : (p : ℕ) → length k.config.types ≤ p → counted_of p k.processes ≡ record { heard = 0; sent = 0 }
    none p le = beyond k.processes p (record { heard = 0; sent = 0 }) (omega (arith, le, len))

    heard : (p : ℕ) → (p < length k.config.types) ⊎ (length k.config.types ≤ p) → (counted_of p k.processes).heard < 2 ^ 64 - 1
    heard p (inl lt) = within.heard p lt
    heard p (inr le) = let e : (counted_of p k.processes).heard ≡ 0 = ap (λ (c : Counted). c.heard) (none p le) in omega (arith, e)

    sent : (p : ℕ) → (p < length k.config.types) ⊎ (length k.config.types ≤ p) → (counted_of p k.processes).sent < 2 ^ 64 - 1
    sent p (inl lt) = within.sent p lt
    sent p (inr le) = let e : (counted_of p k.processes).sent ≡ 0 = ap (λ (c : Counted). c.sent) (none p le) in omega (arith, e)
