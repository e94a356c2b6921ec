-- Changes of fields that are committed as one.
use Rattle.std.specs.Prelude.{◌≡◌, List, length, [], ◌∷◌, ◌||◌, Bool, true, Option, None, Some, map}
use Rattle.std.specs.Prelude.{slice_index_or, unwrap_or, is_some, if◌then◌else◌}
use Rattle.field_table.specs.declared.field.Field.{Field}
use Rattle.field_table.specs.declared.field_set.FieldSet.{FieldSet}
use Rattle.field_table.specs.declared.value.Value.{Value}
use Rattle.field_table.specs.declared.kind.Kind.{Kind}
use Rattle.field_table.specs.Field.{fields, number, kind}
use Rattle.field_table.specs.FieldSet.{has, set_of}
use Rattle.field_table.specs.Table.{Table}
use Rattle.field_table.specs.Value.{is_of}

-- the new value of each field that is modified, by the fields' numbers
abbrev pub Changes : Type 0
Changes = List (Option Value)

-- no field is modified
abbrev pub nothing : Changes
nothing = map (λ _. None) fields

-- the new value of a field, if it is modified
abbrev pub new_value : Changes → Field → Option Value
new_value t f = slice_index_or t (number f) None

-- whether a value, if there is one, is of a kind
abbrev pub are_of : Kind → Option Value → Bool
are_of k None = true
are_of k (Some v) = is_of k v

-- each new value is of its field's kind
abbrev pub AreOfKind : Changes → Type 0
AreOfKind t = (f : Field) → are_of (kind f) (new_value t f) ≡ true

-- there is a new value, or none, for each field, and of the field's kind
pub record IsChanges (t : Changes) : Type 0 where
  pub len : length t ≡ length fields
  pub kinds : AreOfKind t

-- the table with the new values in it
abbrev pub table_after : Changes → Table → Table
table_after [] values = values
table_after (c ∷ cs) [] = []
table_after (c ∷ cs) (v ∷ values) = unwrap_or c v ∷ table_after cs values

-- the fields that are modified
abbrev pub modified_in : Changes → FieldSet
modified_in t = set_of (λ f. is_some (new_value t f))

-- what is left where only the fields of the set are kept
abbrev pub changes_in : FieldSet → Changes → Changes
changes_in s t = map (λ f. if has s f then new_value t f else None) fields

-- what is left without the fields of two sets
abbrev pub allowed_by : FieldSet → FieldSet → Changes → Changes
allowed_by reverted denied t = map
    (λ f. if has reverted f || has denied f then None else new_value t f) fields
