-- The two links of a process, as lists: what was sent, how much of it was taken, and what waits.
use Rattle.std.specs.Prelude.{ℕ, ◌+◌, Bool, true, false, List, [], ◌∷◌, ◌++◌, drop}
use Rattle.traces.specs.Event.{Bundle, Event}
use Rattle.traces.specs.Event.Event.{Writes, Sends, Takes, Accepts, Reverts, Ignores, Changes, Ends}

-- the own writes, in order; the n-th one has number n
abbrev pub writes : {W B : Type 0} → List (Event W B) → List W
writes [] = []
writes (Writes w ∷ h) = writes h ++ w ∷ []
writes (_ ∷ h) = writes h

-- the number of the last own write: the process's epoch
abbrev pub last_write : {W B : Type 0} → List (Event W B) → ℕ
last_write [] = 0
last_write (Writes w ∷ h) = last_write h + 1
last_write (_ ∷ h) = last_write h

-- how many own writes the parent heard: the number that it recorded
abbrev pub hears : {W B : Type 0} → List (Event W B) → ℕ
hears [] = 0
hears (Accepts k w ∷ h) = hears h + 1
hears (Reverts k w c ∷ h) = hears h + 1
hears (Ignores k w ∷ h) = hears h + 1
hears (_ ∷ h) = hears h

-- the own writes that wait to be heard
abbrev pub writes_waiting : {W B : Type 0} → List (Event W B) → List W
writes_waiting h = drop (hears h) (writes h)

-- the bundles that the parent sent the process, in order
abbrev pub bundles_sent : {W B : Type 0} → List (Event W B) → List (Bundle B)
bundles_sent [] = []
bundles_sent (Sends k u c ∷ h) = bundles_sent h ++ record { entry = k; epoch = hears h; content = c } ∷ []
bundles_sent (Reverts k w c ∷ h) = bundles_sent h ++ record { entry = k; epoch = hears h + 1; content = c } ∷
    []
bundles_sent (_ ∷ h) = bundles_sent h

-- how many bundles the process took
abbrev pub takes : {W B : Type 0} → List (Event W B) → ℕ
takes [] = 0
takes (Takes d ∷ h) = takes h + 1
takes (_ ∷ h) = takes h

-- the bundles that wait to be taken
abbrev pub bundles_waiting : {W B : Type 0} → List (Event W B) → List (Bundle B)
bundles_waiting h = drop (takes h) (bundles_sent h)

-- the last entry that sent the process a bundle, or 0
abbrev pub last_sending : {W B : Type 0} → List (Event W B) → ℕ
last_sending [] = 0
last_sending (Sends k u c ∷ h) = k
last_sending (Reverts k w c ∷ h) = k
last_sending (_ ∷ h) = last_sending h

-- the last entry of the parent that the trace tells, or 0
abbrev pub now : {W B : Type 0} → List (Event W B) → ℕ
now [] = 0
now (Sends k u c ∷ h) = k
now (Accepts k w ∷ h) = k
now (Reverts k w c ∷ h) = k
now (Ignores k w ∷ h) = k
now (Changes k u ∷ h) = k
now (_ ∷ h) = now h

-- the process was ended
abbrev pub is_ended : {W B : Type 0} → List (Event W B) → Bool
is_ended [] = false
is_ended (Ends ∷ h) = true
is_ended (_ ∷ h) = is_ended h
