-- What reading a source to its end came to.
use Rattle.std.specs.Prelude.{◌≡◌, ℕ, ◌+◌, ◌≤◌, List, length}
use Rattle.std.specs.declared.option.Option.{Option}
use Rattle.std.specs.Io.KnownBytes.{Consumes, IsAtEnd}
use Rattle.edge.specs.Causes.{Rose}
use Rattle.edge.specs.declared.input.Input.{Input}
use Rattle.edge.specs.declared.input.Input.TheVariants.{Whole, TooLarge, Failed, OutOfMemory}

-- bytes were read that P holds of
abbrev pub ReadSome : Option (List ℕ) → Option (List ℕ) → (ℕ → Type 0) → Type 0
ReadSome old new P = (bs : List ℕ) × P (length bs) × Consumes old new bs

-- at most this many bytes were read
abbrev pub ReadAtMost : Option (List ℕ) → Option (List ℕ) → ℕ → Type 0
ReadAtMost old new most = ReadSome old new (λ count. count ≤ most)

-- more than the limit was read exactly where the answer is TooLarge
abbrev pub HasRead : Option (List ℕ) → Option (List ℕ) → ℕ → Input → Type 0
HasRead old new limit (Whole v) = (length v.items ≤ limit) × Consumes old new v.items × IsAtEnd new
HasRead old new limit TooLarge = ReadSome old new (λ count. count ≡ limit + 1)
HasRead old new limit Failed = ReadAtMost old new limit
HasRead old new limit OutOfMemory = ReadAtMost old new limit

-- the source counted a fault where the answer is Failed, and none where it is another
abbrev pub HasCounted : ℕ → ℕ → Input → Type 0
HasCounted before now (Whole v) = now ≡ before
HasCounted before now TooLarge = now ≡ before
HasCounted before now Failed = Rose before now
HasCounted before now OutOfMemory = now ≡ before
