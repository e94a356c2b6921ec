-- At which windows an actor is admitted.
use Rattle.std.specs.Prelude.{ℕ, ◌==◌, ◌||◌, Bool, List, [], ◌∷◌, bytes_eq, if◌then◌else◌, length, nat_eq, ⊤}
use Rattle.std.specs.Prelude.{Result, Ok, Err}
use Rattle.std.specs.List.{before_first, list_any, starts_with}
use Rattle.url.specs.Parts.{Parts}
use Rattle.fission_ids.specs.declared.why.Why.{Why}
use Rattle.fission_ids.specs.declared.why.Why.TheVariants.{Subframe, RemoteType, Group, Address}
use Rattle.match_pattern.specs.Matching.{is_match}
use Rattle.actor_registry.specs.declared.admission.Facts.{Facts}
use Rattle.actor_registry.specs.declared.entry.Entry.{Entry}

-- whether one of the list passes; an empty list restricts nothing
abbrev pub is_empty_or_any : {X : Type 0} → (X → Bool) → List X → Bool
is_empty_or_any test xs = length xs == 0 || list_any test xs

-- what stands before the first `=`, or all where there is none
abbrev pub remote_prefix : List ℕ → List ℕ
remote_prefix remote = before_first (λ b. b == 61) remote

-- whether a remote type begins, in front of its first `=`, with one of these
abbrev pub fits_remote_type : List (List ℕ) → List ℕ → Bool
fits_remote_type types remote = is_empty_or_any (λ text. starts_with nat_eq (remote_prefix remote) text) types

-- whether a group is one of these
abbrev pub fits_group : List (List ℕ) → List ℕ → Bool
fits_group groups group = is_empty_or_any (λ text. bytes_eq text group) groups

-- whether one of these patterns matches an address
abbrev pub fits_address : List (List ℕ) → Parts → Bool
fits_address patterns url = is_empty_or_any (λ pattern. is_match pattern url) patterns

-- the checks of a registered actor in their order, and what is told where one fails
abbrev pub checks : Entry → Facts → List (Why × Bool)
checks entry facts =
    (Subframe, facts.top || entry.all_frames)
    ∷ (RemoteType, fits_remote_type entry.remote_types facts.remote.now)
    ∷ (Group, fits_group entry.groups facts.group.now)
    ∷ (Address, fits_address entry.matches facts.url.now)
    ∷ []

-- what is told of the first check that fails, if one does
abbrev pub first_failing : List (Why × Bool) → Result ⊤ Why
first_failing [] = Ok tt
first_failing (check ∷ checks) = if check.1 then first_failing checks else Err check.0
