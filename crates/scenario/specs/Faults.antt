-- Readings that may fail.
use Rattle.std.specs.Prelude.{ℕ, Bool, true, false, Option, None, Some, Result, Ok, Err}
use Rattle.scenario.specs.declared.fault.ReadFault.{ReadFault}
use Rattle.scenario.specs.declared.fault.ReadFault.TheVariants.{Unread, Shape, OutOfMemory}

-- whether a fault tells want of memory
abbrev pub is_memory : ReadFault → Bool
is_memory Unread = false
is_memory (Shape place) = false
is_memory OutOfMemory = true

infixl 10 ◌>>=◌
-- one step, and the next with its value
abbrev pub ◌>>=◌ : {A B : Type 0} → Result A ReadFault → (A → Result B ReadFault) → Result B ReadFault
(Ok x) >>= f = f x
(Err fault) >>= f = Err fault

-- the value, or a fault of shape where there is none
abbrev pub or_shape : {A : Type 0} → ℕ → Option A → Result A ReadFault
or_shape place None = Err (Shape place)
or_shape place (Some x) = Ok x

-- the rest, or a fault of shape where the test fails
abbrev pub asks : {A : Type 0} → ℕ → Bool → Result A ReadFault → Result A ReadFault
asks place true rest = rest
asks place false rest = Err (Shape place)
