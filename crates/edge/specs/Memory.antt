-- Sources and sinks in memory, and the calls of them that are to fail.
use Rattle.std.specs.Prelude.{ℕ, ◌+◌, ◌-◌, ◌^◌, Bool, ◌&&◌, ◌==◌, nat_lt, List}
use Rattle.std.specs.List.{list_any}

-- the numbers of the calls that are to fail, and how many calls were made and faults answered
pub record Tally : Type 0 where
  pub fails : List ℕ
  pub calls : ℕ
  pub faults : ℕ

-- the bytes that a source has left or that a sink was given, and the calls of it
pub record InMemory : Type 0 where
  pub bytes : List ℕ
  pub tally : Tally

-- the bytes not yet read
abbrev pub left_of : InMemory → List ℕ
left_of it = it.bytes

-- the bytes written
abbrev pub written_of : InMemory → List ℕ
written_of it = it.bytes

-- the numbers of the calls that are to fail
abbrev pub fails_of : InMemory → List ℕ
fails_of it = it.tally.fails

-- the calls that were made
abbrev pub calls_of : InMemory → ℕ
calls_of it = it.tally.calls

-- the faults that were answered
abbrev pub faults_of : InMemory → ℕ
faults_of it = it.tally.faults

abbrev pub is_listed : List ℕ → ℕ → Bool
is_listed numbers n = list_any (λ k. k == n) numbers

-- the next call has a number, and that is listed
abbrev pub is_due : Tally → Bool
is_due t = nat_lt t.calls (2 ^ 64 - 1) && is_listed t.fails (t.calls + 1)

abbrev pub fails_next : InMemory → Bool
fails_next it = is_due it.tally
