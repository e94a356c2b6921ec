-- Worked runs, told as traces, the oldest event first. The flag Muted is 0 or 1, Name is 0 where it is empty.
use Rattle.std.specs.Prelude.{ℕ, ◌≡◌, Option, None, Some, List, [], ◌∷◌, reverse}
use Rattle.traces.specs.Event.{Event}
use Rattle.traces.specs.Event.Event.{Writes, Sends, Takes, Accepts, Reverts, Ignores, Changes, Does}
use Rattle.traces.specs.Field.{Content, FieldEvent, Look, trace_for}
use Rattle.traces.specs.Field.Content.{Nothing, Gives, Begins, Removes, Leaves}
use Rattle.traces.specs.Words.{Start, value, stage, view, while_held}
use Rattle.traces.specs.Words.Stage.{Coming, Held}
use Rattle.traces.specs.Replay.{replay}
use Rattle.traces.specs.Rules.{Keeps}

-- a context that the process has from the start
abbrev pub from_start : Start ℕ
from_start = record { initial = 0; stage = Held }

-- a context that comes later, or is made
abbrev pub late : Start ℕ
late = record { initial = 0; stage = Coming }

-- a process takes the bundle of this entry, which the parent sent when it had heard so many of its writes
abbrev pub take_of : ℕ → ℕ → Content ℕ → FieldEvent ℕ
take_of entry epoch content = Takes (record { entry = entry; epoch = epoch; content = content })

-- the trace keeps the rules, and after it the process shows v of the field, by its epochs and by the model
pub record Shows (start : Start ℕ) (trace : List (FieldEvent ℕ)) (v : ℕ) : Type 0 where
  pub keeps : Keeps start (reverse trace)
  pub shown : replay start (reverse trace) ≡ Some v
  pub view_shown : while_held (stage start.stage (reverse trace)) (view start (reverse trace)) ≡ Some v

-- the trace keeps the rules, and after it the process shows nothing
pub record Hides (start : Start ℕ) (trace : List (FieldEvent ℕ)) : Type 0 where
  pub keeps : Keeps start (reverse trace)
  pub shown : replay start (reverse trace) ≡ None
  pub view_shown : while_held (stage start.stage (reverse trace)) (view start (reverse trace)) ≡ None

-- one value at three moments: the writer at once, the parent when it hears, another when it takes
abbrev pub writer : List (FieldEvent ℕ)
writer = Writes (Some 2) ∷ []

-- the same value at another process
abbrev pub reader : List (FieldEvent ℕ)
reader = Sends 2 (Some 2) (Gives 2) ∷ []

-- what writer, parent and reader have at each moment
pub record ThreeMoments : Type 0 where
  pub writer_before : Shows from_start writer 2
  pub parent_before : value 0 (reverse writer) ≡ 0
  pub writer_heard : Shows from_start (Writes (Some 2) ∷ Accepts 2 (Some 2) ∷ []) 2
  pub parent_heard : value 0 (reverse reader) ≡ 2
  pub reader_before : Shows from_start reader 0
  pub reader_took : Shows from_start (Sends 2 (Some 2) (Gives 2) ∷ take_of 2 0 (Gives 2) ∷ []) 2

-- a write that crosses the parent's: the process keeps its own, and the parent hears it last
pub record Crossing : Type 0 where
  pub writer : Shows from_start (Sends 1 (Some 1) (Gives 1) ∷ Writes (Some 2) ∷ take_of 1 0 (Gives 1) ∷ []) 2
  pub writer_heard : Shows from_start (Sends 1 (Some 1) (Gives 1) ∷ Writes (Some 2) ∷ take_of 1 0 (Gives 1) ∷
      Accepts 4 (Some 2) ∷ []) 2
  pub reader : Shows from_start (Sends 1 (Some 1) (Gives 1) ∷ Sends 4 (Some 2) (Gives 2) ∷
      take_of 1 0 (Gives 1) ∷ take_of 4 0 (Gives 2) ∷ []) 2

-- two writers: the one that the parent hears last has its way
pub record TwoWriters : Type 0 where
  pub heard_last : Shows from_start (Writes (Some 2) ∷ Sends 3 (Some 1) (Gives 1) ∷ Accepts 4 (Some 2) ∷
      take_of 3 0 (Gives 1) ∷ []) 2
  pub heard_first : Shows from_start (Writes (Some 1) ∷ Accepts 3 (Some 1) ∷ Sends 4 (Some 2) (Gives 2) ∷
      take_of 4 1 (Gives 2) ∷ []) 2

-- two fields in one bundle, of which the process wrote one
pub record TwoFields : Type 0 where
  pub mode : Option ℕ
  pub agent : Option ℕ

-- what a bundle holds for a field with this value, or none
abbrev pub given : Option ℕ → Content ℕ
given None = Nothing
given (Some v) = Gives v

-- how the one field is found
abbrev pub mode_of : Look TwoFields TwoFields ℕ
mode_of = record { value_in = λ w. w.mode; content_in = λ b. given b.mode }

-- and the other
abbrev pub agent_of : Look TwoFields TwoFields ℕ
agent_of = record { value_in = λ w. w.agent; content_in = λ b. given b.agent }

-- the parent's values of both
abbrev pub parents : TwoFields
parents = record { mode = Some 1; agent = Some 7 }

-- the process's events: it wrote the one field before it takes both
abbrev pub partly_obsolete : List (Event TwoFields TwoFields)
partly_obsolete =
    Takes (record { entry = 1; epoch = 0; content = parents }) ∷
    Writes (record { mode = Some 3; agent = None }) ∷ Sends 1 parents parents ∷ []

-- it keeps its own value of the one, and takes the other
pub record PartlyObsolete : Type 0 where
  pub mode : Shows from_start (reverse (trace_for mode_of partly_obsolete)) 3
  pub agent : Shows from_start (reverse (trace_for agent_of partly_obsolete)) 7

-- a revert: the process shows its write until it takes the bundle of the entry that reverted it
pub record Revert : Type 0 where
  pub before : Shows from_start (Writes (Some 1) ∷ Sends 2 None Nothing ∷ Reverts 3 (Some 1) (Gives 0) ∷ []) 1
  pub took_one : Shows from_start (Writes (Some 1) ∷ Sends 2 None Nothing ∷ Reverts 3 (Some 1) (Gives 0) ∷
      take_of 2 0 Nothing ∷ []) 1
  pub took_both : Shows from_start (Writes (Some 1) ∷ Sends 2 None Nothing ∷ Reverts 3 (Some 1) (Gives 0) ∷
      take_of 2 0 Nothing ∷ take_of 3 1 (Gives 0) ∷ []) 0

-- a revert of a write that the process wrote over: the newer one is shown until its own revert is taken
abbrev pub written_again : List (FieldEvent ℕ)
written_again = Writes (Some 1) ∷ Sends 2 None Nothing ∷ Reverts 3 (Some 1) (Gives 0) ∷ Writes (Some 2) ∷
    take_of 2 0 Nothing ∷ take_of 3 1 (Gives 0) ∷ []

-- the same, until the second revert is taken
abbrev pub reverted_again : List (FieldEvent ℕ)
reverted_again = Writes (Some 1) ∷ Sends 2 None Nothing ∷ Reverts 3 (Some 1) (Gives 0) ∷ Writes (Some 2) ∷
    take_of 2 0 Nothing ∷ take_of 3 1 (Gives 0) ∷ Reverts 7 (Some 2) (Gives 0) ∷ take_of 7 2 (Gives 0) ∷ []

-- what is shown after the first revert, and after the second
pub record RevertWrittenOver : Type 0 where
  pub first_revert : Shows from_start written_again 2
  pub second_revert : Shows from_start reverted_again 0

-- a late subscriber: the context comes with the parent's values, and later changes follow
abbrev pub late_muted : List (FieldEvent ℕ)
late_muted = Changes 1 (Some 1) ∷ Sends 3 None (Begins 1) ∷ Sends 4 None Nothing ∷ take_of 3 0 (Begins 1) ∷ []

-- so the other field
abbrev pub late_mode : List (FieldEvent ℕ)
late_mode = Changes 1 None ∷ Sends 3 None (Begins 0) ∷ Sends 4 (Some 2) (Gives 2) ∷ take_of 3 0 (Begins 0) ∷
    []

-- and with the change behind it
abbrev pub late_mode_both : List (FieldEvent ℕ)
late_mode_both = Changes 1 None ∷ Sends 3 None (Begins 0) ∷ Sends 4 (Some 2) (Gives 2) ∷
    take_of 3 0 (Begins 0) ∷ take_of 4 0 (Gives 2) ∷ []

-- what is shown of both fields
pub record LateSubscriber : Type 0 where
  pub not_yet : replay late (Sends 3 None (Begins 1) ∷ Changes 1 (Some 1) ∷ []) ≡ None
  pub muted : Shows late late_muted 1
  pub mode_at_first : Shows late late_mode 0
  pub mode_then : Shows late late_mode_both 2

-- a frame: its maker shows it at once, writes it before the parent knows it, and is told of later changes
abbrev pub frame : List (FieldEvent ℕ)
frame = Does (Begins 0) ∷ Writes (Some 2) ∷ Changes 1 None ∷ Accepts 2 (Some 2) ∷ []

-- the same, with a later change of another
abbrev pub frame_changed : List (FieldEvent ℕ)
frame_changed = Does (Begins 0) ∷ Writes (Some 2) ∷ Changes 1 None ∷ Accepts 2 (Some 2) ∷
    Sends 3 (Some 5) (Gives 5) ∷ take_of 3 1 (Gives 5) ∷ []

-- what the maker shows of it
pub record FrameMade : Type 0 where
  pub made : Shows late (Does (Begins 0) ∷ []) 0
  pub written : Shows late (Does (Begins 0) ∷ Writes (Some 2) ∷ []) 2
  pub heard : Shows late frame 2
  pub others_taken : Shows late frame_changed 5

-- a coming that waits while the process drops what is above the context: it is gone, and passed over
pub record ComingPassedOver : Type 0 where
  pub waits : Hides late (Changes 1 (Some 1) ∷ Sends 2 None (Begins 1) ∷ Does Removes ∷ [])
  pub passed_over : Hides late (Changes 1 (Some 1) ∷ Sends 2 None (Begins 1) ∷ Does Removes ∷
      take_of 2 0 (Begins 1) ∷ [])

-- a leave and a coming back: the epoch is forgotten, and a write of the earlier stay is ignored
abbrev pub stay_left : List (FieldEvent ℕ)
stay_left = Writes (Some 1) ∷ Sends 1 None Leaves ∷ Sends 2 None (Begins 0) ∷ Sends 3 (Some 5) (Gives 5) ∷
    take_of 1 0 Leaves ∷ []

-- the same, as it came back
abbrev pub come_back : List (FieldEvent ℕ)
come_back = Writes (Some 1) ∷ Sends 1 None Leaves ∷ Sends 2 None (Begins 0) ∷ Sends 3 (Some 5) (Gives 5) ∷
    take_of 1 0 Leaves ∷ take_of 2 0 (Begins 0) ∷ []

-- the same, with a change since
abbrev pub later_change : List (FieldEvent ℕ)
later_change = Writes (Some 1) ∷ Sends 1 None Leaves ∷ Sends 2 None (Begins 0) ∷ Sends 3 (Some 5) (Gives 5) ∷
    take_of 1 0 Leaves ∷ take_of 2 0 (Begins 0) ∷ take_of 3 0 (Gives 5) ∷ []

-- the same, as the parent hears the write of the earlier stay
abbrev pub stale_write : List (FieldEvent ℕ)
stale_write = Writes (Some 1) ∷ Sends 1 None Leaves ∷ Sends 2 None (Begins 0) ∷ Sends 3 (Some 5) (Gives 5) ∷
    take_of 1 0 Leaves ∷ take_of 2 0 (Begins 0) ∷ take_of 3 0 (Gives 5) ∷ Ignores 4 (Some 1) ∷ []

-- the same, written again
abbrev pub new_write : List (FieldEvent ℕ)
new_write = Writes (Some 1) ∷ Sends 1 None Leaves ∷ Sends 2 None (Begins 0) ∷ Sends 3 (Some 5) (Gives 5) ∷
    take_of 1 0 Leaves ∷ take_of 2 0 (Begins 0) ∷ take_of 3 0 (Gives 5) ∷ Ignores 4 (Some 1) ∷
    Writes (Some 7) ∷ []

-- what is shown at each of these
pub record LeftAndBack : Type 0 where
  pub left : Hides from_start stay_left
  pub back : Shows from_start come_back 0
  pub followed : Shows from_start later_change 5
  pub stale_ignored : Shows from_start stale_write 5
  pub written_again : Shows from_start new_write 7

-- what the worked runs show
pub record WorkedRuns : Type 0 where
  pub three_moments : ThreeMoments
  pub crossing : Crossing
  pub two_writers : TwoWriters
  pub partly_obsolete : PartlyObsolete
  pub revert : Revert
  pub revert_written_over : RevertWrittenOver
  pub late_subscriber : LateSubscriber
  pub frame_made : FrameMade
  pub coming_passed_over : ComingPassedOver
  pub left_and_back : LeftAndBack
