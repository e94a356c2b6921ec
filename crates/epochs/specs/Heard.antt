-- What is due from a process.
use Rattle.std.specs.Prelude.{ℕ, ◌+◌, Bool, if◌then◌else◌}

-- the epoch that the next bundle is to say: one more where it has a commit
abbrev pub due : ℕ → Bool → ℕ
due last commit = if commit then last + 1 else last
