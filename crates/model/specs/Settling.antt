-- What settling does: all that waits is heard and taken, process by process and round by round, until a round
-- does nothing.
use Rattle.std.specs.Prelude.{◌≡◌, ℕ, zero, suc, ◌+◌, Bool, true, false, not, ◌&&◌, if◌then◌else◌}
use Rattle.std.specs.Prelude.{List, [], ◌∷◌, ◌++◌, length}
use Rattle.std.specs.List.{list_any}
use Rattle.field_rules.specs.Bounds.{Bounds}
use Rattle.wire_msgs.specs.declared.bundle.DownBundle.{DownBundle}
use Rattle.wire_msgs.specs.declared.bundle.UpBundle.{UpBundle}
use Rattle.wire_msgs.specs.declared.part.DownPart.{DownPart}
use Rattle.wire_msgs.specs.declared.part.DownPart.TheVariants as downs
use Rattle.wire_msgs.specs.declared.part.UpPart.{UpPart}
use Rattle.wire_msgs.specs.declared.part.UpPart.TheVariants as ups
use Rattle.journal.specs.declared.entry.Step.TheVariants.{Take, Hear}
use Rattle.protocol.specs.Bundle.{is_commit}
use Rattle.protocol.specs.Start.{numbers}
use Rattle.model.specs.Journal.{Journal}
use Rattle.model.specs.Moments.{Moment, seen_now, moments_of}
use Rattle.model.specs.Links.{up_waiting, down_waiting, is_nothing}
use Rattle.model.specs.Next.{Run, run_after}

-- what the entries of a run came to
abbrev pub moments_in : Run → List Moment
moments_in r = moments_of r.config r.journal

-- ---- a round, by the bounds of the functions of the outside

-- the parent hears what waited first from process p, if anything waits
abbrev pub heard_by : Bounds → ℕ → Run → Run
heard_by b p r =
    if is_nothing (up_waiting p (moments_in r)) then r else run_after b r (Hear (record { 0 = p }))

-- process p takes what waited first, if it runs and anything waits
abbrev pub taken_by : Bounds → ℕ → Run → Run
taken_by b p r =
    if (seen_now r.config p (moments_in r)).running && not (is_nothing (down_waiting p (moments_in r)))
    then run_after b r (Take (record { 0 = p })) else r

-- both, for one process after the other
unfoldable pub all_served : Bounds → List ℕ → Run → Run
all_served b [] r = r
all_served b (p ∷ ps) r = all_served b ps (taken_by b p (heard_by b p r))

-- for each process, by their numbers
abbrev pub round : Bounds → Run → Run
round b r = all_served b (numbers 0 (length r.config.types)) r

-- so many rounds
unfoldable pub rounds : Bounds → ℕ → Run → Run
rounds b zero r = r
rounds b (suc n) r = rounds b n (round b r)

-- ---- the weight of what waits

abbrev pub is_request : UpPart → Bool
is_request (ups.NavigateRequest x url) = true
is_request _ = false

abbrev pub makes_or_drops : UpPart → Bool
makes_or_drops (ups.Create x above) = true
makes_or_drops (ups.Drop x) = true
makes_or_drops _ = false

-- more than what hearing the bundle has the parent send
abbrev pub up_weight : UpBundle → ℕ
up_weight b =
    if list_any is_request b.parts then 64
    else if list_any makes_or_drops b.parts then 49
    else if list_any is_commit b.parts then 17
    else 2

abbrev pub is_load : DownPart → Bool
is_load (downs.Load x url) = true
is_load _ = false

abbrev pub is_answered : DownPart → Bool
is_answered (downs.Discard x) = true
is_answered (downs.Ask q w actor text) = true
is_answered _ = false

-- more than what taking the bundle has the process send
abbrev pub down_weight : DownBundle → ℕ
down_weight b = if list_any is_load b.parts then 18 else if list_any is_answered b.parts then 3 else 1

-- the weight of the items of a list
abbrev pub total : {X : Type 0} → (X → ℕ) → List X → ℕ
total w [] = 0
total w (x ∷ xs) = w x + total w xs

-- the weight of what waits on the links of a process
abbrev pub weight_at : ℕ → List Moment → ℕ
weight_at p ms = total up_weight (up_waiting p ms) + total down_weight (down_waiting p ms)

-- the weight of all that waits
unfoldable pub weight : Run → ℕ
weight r = total (λ p. weight_at p (moments_in r)) (numbers 0 (length r.config.types))

-- ---- settling

-- as many rounds as what waits weighs: behind the first that does nothing, none does anything
unfoldable pub settled : Bounds → Run → Run
settled b r = rounds b (weight r) r

-- nothing waits for process p, or it doesn't run and nothing waits from it
pub record IsServed (p : ℕ) (r : Run) : Type 0 where
  pub up : up_waiting p (moments_in r) ≡ []
  pub down : (seen_now r.config p (moments_in r)).running ≡ true → down_waiting p (moments_in r) ≡ []

-- entries were added
pub record Extends (old new : Journal) : Type 0 where
  pub added : Journal
  pub is : new ≡ added ++ old
