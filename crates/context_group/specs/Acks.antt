-- Awaited acknowledgements: which processes still owe one, context by context.
use Rattle.std.specs.Prelude.{◌≡◌, ◌<◌, ◌^◌, ◌&&◌, if◌then◌else◌, [], ◌∷◌, false, filter, map, true, ⊤}
use Rattle.std.specs.Prelude.{Bool, List, ℕ}
use Rattle.std.specs.List.{list_any}
use Rattle.fission_ids.specs.Ids.{same_context}
use Rattle.fission_ids.specs.ProcSet.{has}
use Rattle.fission_ids.specs.declared.context.ContextId.{ContextId}
use Rattle.fission_ids.specs.declared.process.ProcSet.{ProcSet}
use Rattle.context_group.specs.declared.acks.Awaited.{Awaited}
use Rattle.context_group.specs.Sets.{has_any, set_without, union}

-- whether an entry is of this context
abbrev pub is_of : ContextId → Awaited → Bool
is_of x a = same_context a.context x

-- whether some process owes the entry
abbrev pub is_owed : Awaited → Bool
is_owed a = has_any a.from

-- whether p owes the entry
abbrev pub is_owed_by : ℕ → Awaited → Bool
is_owed_by p a = has a.from p

-- whether p owes the entry, and it is of this context
abbrev pub is_due : ℕ → ContextId → Awaited → Bool
is_due p x a = is_of x a && is_owed_by p a

-- the entry once p owes it no longer
abbrev pub entry_without : ℕ → Awaited → Awaited
entry_without p a = record a { from = set_without p a.from }

-- the entries once p no longer owes those that pass the test: one that nobody owes then is gone
abbrev pub acks_without : ℕ → (Awaited → Bool) → List Awaited → List Awaited
acks_without p is_meant acks =
    filter is_owed (map (λ a. if is_meant a then entry_without p a else a) acks)

-- the entries once these processes owe the acknowledgement of x as well
abbrev pub acks_with : ProcSet → ContextId → List Awaited → List Awaited
acks_with who x [] = if has_any who then record { context = x; from = who } ∷ [] else []
acks_with who x (a ∷ acks) =
    if is_of x a then record a { from = union a.from who } ∷ acks else a ∷ acks_with who x acks

-- some process owes each entry, and no two are of one context
abbrev pub AreSoundAcks : List Awaited → Type 0
AreSoundAcks [] = ⊤
AreSoundAcks (a ∷ acks) =
    (a.from.0 < 2 ^ 16) × (is_owed a ≡ true) × (list_any (is_of a.context) acks ≡ false) × AreSoundAcks acks
