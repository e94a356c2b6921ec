-- The actors that were registered, in order of registration.
use Rattle.std.specs.Prelude.{◌≡◌, ℕ, ◌≤◌, ◌==◌, List, [], ◌∷◌, bytes_eq, if◌then◌else◌, is_some, length}
use Rattle.std.specs.Prelude.{map, string_bytes, All, Option, Some, None, Result, Err, String, ⊤}
use Rattle.std.specs.List.{find}
use Rattle.fission_ids.specs.declared.why.Why.{Why}
use Rattle.fission_ids.specs.declared.why.Why.TheVariants.{Unregistered}
use Rattle.actor_registry.specs.Admission.{checks, first_failing}
use Rattle.actor_registry.specs.declared.admission.Facts.{Facts}
use Rattle.actor_registry.specs.declared.entry.Entry.{Entry}
use Rattle.actor_registry.specs.declared.registry.RegisterFault.{RegisterFault}
use Rattle.actor_registry.specs.declared.registry.RegisterFault.TheVariants.{Taken, TooMany}

-- the entry of a name
abbrev pub entry_of : List ℕ → List Entry → Option Entry
entry_of name entries = find (λ entry. bytes_eq name entry.name) entries

-- why an entry of this name isn't registered, if it isn't
abbrev pub refusal : List ℕ → List Entry → Option RegisterFault
refusal name entries =
    if is_some (entry_of name entries) then Some Taken
    else (if length entries == 64 then Some TooMany else None)

-- whether an actor, if it is registered, is admitted, and else what is told
abbrev pub admission_of : Option Entry → Facts → Result ⊤ Why
admission_of None facts = Err Unregistered
admission_of (Some entry) facts = first_failing (checks entry facts)

-- whether the actor of a name is admitted, and else what is told
abbrev pub admission : List ℕ → Facts → List Entry → Result ⊤ Why
admission name facts entries = admission_of (entry_of name entries) facts

-- no entry has the name of another
abbrev pub HaveNamesApart : List Entry → Type 0
HaveNamesApart [] = ⊤
HaveNamesApart (entry ∷ entries) = (entry_of entry.name entries ≡ None) × HaveNamesApart entries

-- what the entries keep
pub record AreSound (entries : List Entry) : Type 0 where
  pub few : length entries ≤ 64
  pub apart : HaveNamesApart entries

-- the entries in a map by name
abbrev pub entries_in : {A : Type 0} → List (String A × Entry) → List Entry
entries_in pairs = map (λ pair. pair.1) pairs

-- each entry stands under its name, and the entries are sound
pub record KeepsEntries {A : Type 0} (pairs : List (String A × Entry)) : Type 0 where
  pub named : All (λ pair. string_bytes pair.0 ≡ pair.1.name) pairs
  pub sound : AreSound (entries_in pairs)
