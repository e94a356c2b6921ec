-- What a field's trace says by looking back: the parent's value after an entry, the point, the fate of an own
-- write, the stage of the context, and the view. What a process makes or drops by itself counts as served
-- from that moment, though the parent hears of it later.
use Rattle.std.specs.Prelude.{ℕ, ◌+◌, ◌==◌, nat_lt, max, Bool, true, false, not, ◌&&◌, ◌||◌, if◌then◌else◌}
use Rattle.std.specs.Prelude.{Option, None, Some, List, [], ◌∷◌}
use Rattle.traces.specs.Event.{Bundle}
use Rattle.traces.specs.Event.Event.{Writes, Sends, Takes, Accepts, Reverts, Ignores, Changes, Does, Ends}
use Rattle.traces.specs.Links.{hears, last_write, bundles_waiting, is_ended}
use Rattle.traces.specs.Field.{Content, Trace}
use Rattle.traces.specs.Field.Content.{Begins, Removes, Leaves}

-- a context has not yet come to the process, or may come back, is held by it, or is gone for good
pub data Stage : Type 0 where
  Coming : Stage
  Held : Stage
  Gone : Stage

-- how a field's trace begins
pub record Start (V : Type 0) : Type 0 where
  pub initial : V  -- the value in the parent before its first entry
  pub stage : Stage  -- Held for a context that the process has from the start, else Coming

-- the value after a change, or the one before where there is none
abbrev pub or_else : {V : Type 0} → Option V → V → V
or_else None before = before
or_else (Some v) before = v

-- the number n where there is a value, or the one before
abbrev pub latest_number : {V : Type 0} → Option V → ℕ → ℕ → ℕ
latest_number None n before = before
latest_number (Some v) n before = n

-- the parent's value after the last entry
abbrev pub value : {V : Type 0} → V → Trace V → V
value initial [] = initial
value initial (Sends k u c ∷ h) = or_else u (value initial h)
value initial (Accepts k w ∷ h) = or_else w (value initial h)
value initial (Changes k u ∷ h) = or_else u (value initial h)
value initial (_ ∷ h) = value initial h

-- the parent's value after entry k
abbrev pub value_at : {V : Type 0} → V → ℕ → Trace V → V
value_at initial k [] = initial
value_at initial k (Sends j u c ∷ h) = if nat_lt k j then value_at initial k h
    else or_else u (value_at initial k h)
value_at initial k (Accepts j w ∷ h) = if nat_lt k j then value_at initial k h
    else or_else w (value_at initial k h)
value_at initial k (Changes j u ∷ h) = if nat_lt k j then value_at initial k h
    else or_else u (value_at initial k h)
value_at initial k (_ ∷ h) = value_at initial k h

-- the stage after a bundle that holds c: a context comes where it had not come or had been left, and what is
-- gone never comes back
abbrev pub after : {V : Type 0} → Content V → Stage → Stage
after (Begins v) Coming = Held
after Removes s = Gone
after Leaves Held = Coming
after _ s = s

-- the stage of the context in the process, by what it took, made and dropped
abbrev pub stage : {V : Type 0} → Stage → Trace V → Stage
stage s [] = s
stage s (Takes d ∷ h) = after d.content (stage s h)
stage s (Does c ∷ h) = after c (stage s h)
stage s (_ ∷ h) = stage s h

-- the stage that these bundles lead to, taken one after the other
abbrev pub stage_behind : {V : Type 0} → Stage → List (Bundle (Content V)) → Stage
stage_behind s [] = s
stage_behind s (d ∷ ds) = stage_behind (after d.content s) ds

-- the stage that the parent serves, by what it sent, and by what the process made and dropped by itself, from
-- the moment that it did; behind the end of the process it serves nothing
abbrev pub stage_served : {V : Type 0} → Stage → Trace V → Stage
stage_served s [] = s
stage_served s (Sends k u c ∷ h) = after c (stage_served s h)
stage_served s (Reverts k w c ∷ h) = after c (stage_served s h)
stage_served s (Does c ∷ h) = if is_ended h then Gone
    else stage_behind (after c (stage s h)) (bundles_waiting h)
stage_served s (Ends ∷ h) = Gone
stage_served s (_ ∷ h) = stage_served s h

-- the number that is kept for the field after a bundle that holds c: none once the context was left
abbrev pub number_after : {V : Type 0} → Content V → ℕ → ℕ
number_after Leaves n = 0
number_after _ n = n

-- the number of the newest own write to the field since the context was left last, or 0
abbrev pub newest : {V : Type 0} → Trace V → ℕ
newest [] = 0
newest (Writes w ∷ h) = latest_number w (last_write h + 1) (newest h)
newest (Takes d ∷ h) = number_after d.content (newest h)
newest (_ ∷ h) = newest h

-- the number of own writes at the last leave, after a bundle that holds c
abbrev pub leaving_after : {V : Type 0} → Content V → ℕ → ℕ → ℕ
leaving_after Leaves n before = n
leaving_after _ n before = before

-- how many own writes there were as the process took the last leave, or 0
abbrev pub last_leaving : {V : Type 0} → Trace V → ℕ
last_leaving [] = 0
last_leaving (Takes d ∷ h) = leaving_after d.content (last_write h) (last_leaving h)
last_leaving (_ ∷ h) = last_leaving h

-- the value of the newest own write to the field
abbrev pub own_value : {V : Type 0} → V → Trace V → V
own_value initial [] = initial
own_value initial (Writes w ∷ h) = or_else w (own_value initial h)
own_value initial (_ ∷ h) = own_value initial h

-- the entry that sent the last bundle that the process took, or 0
abbrev pub base : {V : Type 0} → Trace V → ℕ
base [] = 0
base (Takes d ∷ h) = d.entry
base (_ ∷ h) = base h

-- the last entry that accepted an own write to the field, or 0
abbrev pub accepted_at : {V : Type 0} → Trace V → ℕ
accepted_at [] = 0
accepted_at (Accepts k w ∷ h) = latest_number w k (accepted_at h)
accepted_at (_ ∷ h) = accepted_at h

-- the entry up to which the process knows the parent's value
abbrev pub point : {V : Type 0} → Trace V → ℕ
point h = max (base h) (accepted_at h)

-- what became of an own write
pub data Fate : Type 0 where
  Unheard : Fate
  Accepted : (entry : ℕ) → Fate
  Reverted : (entry : ℕ) → Fate
  Ignored : (entry : ℕ) → Fate

-- the fate of the own write with number n
abbrev pub fate : {V : Type 0} → ℕ → Trace V → Fate
fate n [] = Unheard
fate n (Accepts k w ∷ h) = if n == hears h + 1 then Accepted k else fate n h
fate n (Reverts k w c ∷ h) = if n == hears h + 1 then Reverted k else fate n h
fate n (Ignores k w ∷ h) = if n == hears h + 1 then Ignored k else fate n h
fate n (_ ∷ h) = fate n h

-- the process took the bundle that entry k sent
abbrev pub has_taken : {V : Type 0} → ℕ → Trace V → Bool
has_taken k [] = false
has_taken k (Takes d ∷ h) = d.entry == k || has_taken k h
has_taken k (_ ∷ h) = has_taken k h

-- the context is gone for good
abbrev pub is_gone : Stage → Bool
is_gone Gone = true
is_gone _ = false

-- what answers a write of this fate: accepted at once, reverted once the revert was taken, ignored once the
-- context is gone
abbrev pub is_answer : {V : Type 0} → Stage → Trace V → Fate → Bool
is_answer s h Unheard = false
is_answer s h (Accepted k) = true
is_answer s h (Reverted k) = has_taken k h
is_answer s h (Ignored k) = is_gone (stage s h)

-- the own write with number n is answered
abbrev pub is_answered : {V : Type 0} → Stage → ℕ → Trace V → Bool
is_answered s n h = is_answer s h (fate n h)

-- the process wrote the field, and its newest write isn't answered
abbrev pub is_unanswered : {V : Type 0} → Stage → Trace V → Bool
is_unanswered s h = nat_lt 0 (newest h) && not (is_answered s (newest h) h)

-- the view: the newest own write where it isn't answered, else the parent's value at the point
abbrev pub view : {V : Type 0} → Start V → Trace V → V
view start h = if is_unanswered start.stage h then own_value start.initial h
    else value_at start.initial (point h) h

-- what is to be shown: the view exactly while the context is held
abbrev pub while_held : {V : Type 0} → Stage → V → Option V
while_held Held v = Some v
while_held _ v = None
