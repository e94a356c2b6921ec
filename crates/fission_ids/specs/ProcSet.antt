-- Sets of processes.
use Rattle.std.specs.Prelude.{◌≡◌, ℕ, ◌^◌, ◌<◌, ◌==◌, Bool, false, not, ◌&&◌, ◌||◌, bit_and, bit_or}
use Rattle.std.specs.Int.{bit_at, bit_not, w16}
use Rattle.fission_ids.specs.declared.process.ProcSet.{ProcSet}

-- whether process p is in the set
abbrev pub has : ProcSet → ℕ → Bool
has s p = bit_at s.0 p == 1

-- the set with process p in it
abbrev pub with : ProcSet → ℕ → ProcSet
with s p = record { 0 = bit_or s.0 (2 ^ p) }

-- the set without process p
abbrev pub without : ProcSet → ℕ → ProcSet
without s p = record { 0 = bit_and s.0 (bit_not w16 (2 ^ p)) }

-- t has p, and of the other processes those that s has
abbrev pub AddsOne : ProcSet → ProcSet → ℕ → Type 0
AddsOne s t p = (q : ℕ) → q < 16 → has t q ≡ (q == p || has s q)

-- t has those processes that s has, but not p
abbrev pub RemovesOne : ProcSet → ProcSet → ℕ → Type 0
RemovesOne s t p = (q : ℕ) → q < 16 → has t q ≡ (not (q == p) && has s q)

-- no process is in the set
abbrev pub IsEmpty : ProcSet → Type 0
IsEmpty s = (q : ℕ) → has s q ≡ false
