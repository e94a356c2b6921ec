-- The zooms that the caller's rule functions allow.
use Rattle.std.specs.Prelude.{◌≡◌, ℕ, ◌≤◌, ◌&&◌, nat_le, Bool, if◌then◌else◌}
use Rattle.field_table.specs.declared.verdict.Verdict.{Verdict}
use Rattle.field_table.specs.declared.verdict.Verdict.TheVariants.{Allow, Revert}

-- the numbers from low to high, and none where low is greater
pub record Range : Type 0 where
  pub low : ℕ
  pub high : ℕ

-- what is allowed of each zoom, by the rows of the rule functions: row 0, and row 1
pub record Bounds : Type 0 where
  pub full : Range
  pub text : Range

-- whether a number is in a range
abbrev pub is_within : Range → ℕ → Bool
is_within r n = nat_le r.low n && nat_le n r.high

-- the range from low to high
abbrev pub range : ℕ → ℕ → Range
range low high = record { low = low; high = high }

-- no number
abbrev pub no_number : Range
no_number = range 1 0

-- the zooms of which a rule function is asked
abbrev pub zooms : Range
zooms = range 30 500

-- the bounds where no rule function is stored
abbrev pub no_bounds : Bounds
no_bounds = record { full = no_number; text = no_number }

-- what a rule function answers
abbrev pub verdict_within : Range → ℕ → Verdict
verdict_within r n = if is_within r n then Allow else Revert

-- a rule function may be called on every zoom of which it is asked
abbrev pub IsCallableOnZooms : (ℕ → Type 0) → Type 0
IsCallableOnZooms may_call = (n : ℕ) → 30 ≤ n → n ≤ 500 → may_call n

-- a rule function answers by the range on every zoom of which it is asked
abbrev pub AnswersWithin : Range → (ℕ → Verdict → Type 0) → Type 0
AnswersWithin r answers = (n : ℕ) (v : Verdict) → 30 ≤ n → n ≤ 500 → answers n v → v ≡ verdict_within r n
