-- A journal, with the newest entry first. An entry's number counts from 1.
use Rattle.std.specs.Prelude.{List, map}
use Rattle.journal.specs.declared.entry.Step.{Step}
use Rattle.journal.specs.declared.entry.Entry.{Entry}

abbrev pub Journal : Type 0
Journal = List Entry

-- what was done, the newest step first
abbrev pub steps_of : Journal → List Step
steps_of j = map (λ e. e.step) j
