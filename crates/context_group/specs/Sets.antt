-- Words on sets of processes.
use Rattle.std.specs.Prelude.{ℕ, ◌==◌, Bool, not, if◌then◌else◌, bit_or}
use Rattle.fission_ids.specs.declared.process.ProcSet.{ProcSet}
use Rattle.fission_ids.specs.ProcSet.{has, without}

-- whether some process is in the set
abbrev pub has_any : ProcSet → Bool
has_any s = not (s.0 == 0)

-- the set without p, which need not be in it
abbrev pub set_without : ℕ → ProcSet → ProcSet
set_without p s = if has s p then without s p else s

-- the processes of both sets
abbrev pub union : ProcSet → ProcSet → ProcSet
union s t = record { 0 = bit_or s.0 t.0 }
