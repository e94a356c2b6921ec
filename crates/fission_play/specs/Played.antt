-- What a run of the program means, by what it came to.
use Rattle.std.specs.Prelude.{◌≡◌, ℕ, ◌+◌, ◌≤◌, ◌⊎◌, List, [], ◌∷◌, length, Bool, false, ◌==◌, nat_le}
use Rattle.std.specs.Prelude.{Option, None, Some, Result, Ok, Err, ⊤, codes, if◌then◌else◌}
use Rattle.std.specs.List.{list_any}
use Rattle.std.specs.Str.{bytes_eq}
use Rattle.std.specs.Io.KnownBytes.{Appends, Consumes, IsAtEnd, Keeps}
use Rattle.field_rules.specs.Bounds.{Bounds}
use Rattle.edge.specs.Causes.{Rose}
use Rattle.edge.specs.Input.{ReadSome}
use Rattle.edge.specs.Pieces.{Begins}
use Rattle.scenario.specs.declared.fault.ReadFault as fault
use Rattle.scenario.specs.declared.fault.ReadFault.TheVariants as faults
use Rattle.scenario.specs.declared.line.Scenario.{Scenario}
use Rattle.scenario.specs.Reading.{reading}
use Rattle.report.specs.Report.{text, place_text}
use Rattle.fission_play.specs.declared.failure.Failure.{Failure}
use Rattle.fission_play.specs.declared.failure.Failure.TheVariants as failures

-- the most bytes that are read
abbrev pub limit : ℕ
limit = 4194304

-- whether the words are the one word `play`
abbrev pub are_play : List (List ℕ) → Bool
are_play [] = false
are_play (word ∷ []) = bytes_eq word (codes "play")
are_play (word ∷ more ∷ words) = false

-- ---- what was read

-- all that the source had, at most the limit, was read, and reads as this
pub record ReadAs (left left' : Option (List ℕ)) (found : Result Scenario fault.ReadFault) : Type 0 where
  pub bytes : List ℕ
  pub within : length bytes ≤ limit
  pub consumed : Consumes left left' bytes
  pub at_end : IsAtEnd left'
  pub is_read : reading bytes ≡ found

-- one byte more than the limit was read
abbrev pub ReadPastLimit : (left left' : Option (List ℕ)) → Type 0
ReadPastLimit left left' = ReadSome left left' (λ count. count ≡ limit + 1)

-- ---- what was written of it, by the bounds of the rule functions

-- the source held a scenario, and its report was written
abbrev pub Reports : Bounds → (left left' written written' : Option (List ℕ)) → Type 0
Reports b left left' written written' =
    (s : Scenario) × ReadAs left left' (Ok s) × Appends written written' (text b s)

-- the source held a scenario, and a front of its report was written
abbrev pub BeginsReport : Bounds → (left left' written written' : Option (List ℕ)) → Type 0
BeginsReport b left left' written written' =
    (s : Scenario) × ReadAs left left' (Ok s) × Begins written written' (text b s)

-- the source held JSON that is no scenario, and the line with the place of the first fault was written
abbrev pub TellsPlace : (left left' written written' : Option (List ℕ)) → Type 0
TellsPlace left left' written written' =
    (place : ℕ) × ReadAs left left' (Err (faults.Shape place)) × Appends written written' (place_text place)

-- the source held JSON that is no scenario, and a front of that line was written
abbrev pub BeginsPlace : (left left' written written' : Option (List ℕ)) → Type 0
BeginsPlace left left' written written' =
    (place : ℕ) × ReadAs left left' (Err (faults.Shape place)) × Begins written written' (place_text place)

-- a front of what is to be written for the bytes was written
abbrev pub BeginsAnswer : Bounds → (left left' written written' : Option (List ℕ)) → Type 0
BeginsAnswer b left left' written written' =
    BeginsReport b left left' written written' ⊎ BeginsPlace left left' written written'

-- what a run came to and why: what the source had left and the sink was given, and their counts of faults
abbrev pub Explains : Bounds → Result ⊤ Failure
    → (left left' written written' : Option (List ℕ)) → (reads reads' writes writes' : ℕ) → Type 0
Explains b (Ok done) left left' written written' reads reads' writes writes' =
    Reports b left left' written written'
Explains b (Err failures.Memory) left left' written written' reads reads' writes writes' =
    Keeps written written' ⊎ BeginsReport b left left' written written'
Explains b (Err failures.Words) left left' written written' reads reads' writes writes' = ⊥
Explains b (Err failures.Unread) left left' written written' reads reads' writes writes' =
    ReadAs left left' (Err faults.Unread) × Keeps written written'
Explains b (Err (failures.Shape place)) left left' written written' reads reads' writes writes' =
    ReadAs left left' (Err (faults.Shape place)) × Appends written written' (place_text place)
Explains b (Err failures.TooLarge) left left' written written' reads reads' writes writes' =
    ReadPastLimit left left' × Keeps written written'
Explains b (Err failures.ReadFault) left left' written written' reads reads' writes writes' =
    Rose reads reads' × Keeps written written'
Explains b (Err failures.WriteFault) left left' written written' reads reads' writes writes' =
    Rose writes writes' × BeginsAnswer b left left' written written'

-- ---- which statuses may come

-- the statuses that may come for what bytes read as: 1, 2 and 6 always may, 7 where something is to be
-- written
abbrev pub statuses_for : Result Scenario fault.ReadFault → List ℕ
statuses_for (Ok s) = 0 ∷ 1 ∷ 2 ∷ 6 ∷ 7 ∷ []
statuses_for (Err faults.Unread) = 1 ∷ 2 ∷ 3 ∷ 6 ∷ []
statuses_for (Err (faults.Shape place)) = 1 ∷ 2 ∷ 4 ∷ 6 ∷ 7 ∷ []
statuses_for (Err faults.OutOfMemory) = 1 ∷ 2 ∷ 6 ∷ []

-- the statuses that may come for these bytes
abbrev pub statuses_of : List ℕ → List ℕ
statuses_of bytes =
    if nat_le (length bytes) limit then statuses_for (reading bytes) else (1 ∷ 2 ∷ 5 ∷ 6 ∷ [])

-- whether a status may come, where the source told the bytes that it had
abbrev pub may_come : Option (List ℕ) → ℕ → Bool
may_come None n = nat_le n 7
may_come (Some bytes) n = list_any (λ k. k == n) (statuses_of bytes)
