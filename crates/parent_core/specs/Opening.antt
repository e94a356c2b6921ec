-- Opening tabs and subscribing processes: what is told of it.
use Rattle.std.specs.Prelude.{ℕ, ◌==◌, Bool, false, not, ◌&&◌, if◌then◌else◌, List, [], ◌∷◌, map, filter}
use Rattle.std.specs.Prelude.{unwrap_or}
use Rattle.fission_ids.specs.declared.context.ContextId.{ContextId}
use Rattle.fission_ids.specs.declared.group.GroupId.{GroupId}
use Rattle.fission_ids.specs.declared.process.ProcSet.{ProcSet}
use Rattle.fission_ids.specs.ProcSet.{has}
use Rattle.field_table.specs.declared.field.Field.{Field}
use Rattle.field_table.specs.declared.value.Value.{Value}
use Rattle.field_table.specs.declared.value.Value.TheVariants.{Flag}
use Rattle.field_table.specs.Field.{fields}
use Rattle.wire_msgs.specs.declared.part.DownPart.{DownPart}
use Rattle.wire_msgs.specs.declared.part.DownPart.TheVariants.{Create}
use Rattle.wire_msgs.specs.declared.part.Known.{Known}
use Rattle.protocol.specs.Questions.{Facts, is_subscribed}
use Rattle.protocol.specs.Sayings.Saying.{Subscribed}
use Rattle.protocol.specs.FactsAfter.{facts_after, is_group_of}
use Rattle.protocol.specs.ParentActs.{known_of, register_of}

-- the answers behind the subscription of a process to a group, which it may be subscribed to already
abbrev pub after_subscribing : ℕ → GroupId → Facts → Facts
after_subscribing p g f = if is_subscribed f p g then f else facts_after (Subscribed p g) f

-- the present values of a context
abbrev pub present_fields : Facts → ContextId → List Value
present_fields f x = map (λ (fld : Field). unwrap_or (f.contexts.value x fld) (Flag false)) fields

-- a context, as one that owns it is told of it or one that doesn't
abbrev pub known_with : Facts → Bool → ContextId → Known
known_with f owned x = record {
  context = x;
  group = unwrap_or (f.contexts.group x) (record { 0 = 0 });
  parent = f.contexts.above x;
  owned = owned;
  fields = present_fields f x;
}

-- those of these contexts that are of a group, as process q is told of them
abbrev pub known_among : Facts → ℕ → GroupId → List ContextId → List Known
known_among f q g xs = map (known_of f q) (filter (λ x. is_group_of f x g) xs)

-- what process q is sent of a new tab of process p, where these were subscribed to its group before
abbrev pub told_of_tab : Facts → ProcSet → ℕ → GroupId → ContextId → ℕ → List DownPart
told_of_tab f told p g x q =
    if has told q then Create (known_of f q x) ∷ []
    else if q == p then register_of f q g ∷ []
    else []

-- what process q is sent where process p joins a group, where these were subscribed to it before
abbrev pub told_of_joining : Facts → ProcSet → ℕ → GroupId → ℕ → List DownPart
told_of_joining f told p g q = if q == p && not (has told q) then register_of f q g ∷ [] else []
