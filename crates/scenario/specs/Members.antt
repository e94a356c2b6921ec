-- The members of a JSON object that a scenario is made of.
use denote.Ref.{Bor}
use Rattle.std.specs.Prelude.{ℕ, List, [], ◌∷◌, Bool, true, false, ◌&&◌, Option, None, Some, is_some}
use Rattle.std.specs.Prelude.{codes, option_and_then, option_map}
use Rattle.std.specs.List.{list_any}
use Rattle.std.specs.Str.{bytes_eq}
use Rattle.serde_json.specs.Data.{Data, Members, no_members, member}
use Rattle.serde_json.specs.Find.{as_str, as_number, as_u64, as_object}
use Rattle.serde_json.specs.View.{view}
use Rattle.serde_json.specs.declared.value.Value.{Value}
use Rattle.field_table.specs.Field.{field_of_name}
use Rattle.scenario.specs.declared.members.Kind.{Kind}
use Rattle.scenario.specs.declared.members.Kind.TheVariants as kinds

-- the keys that an object of this kind may have
unfoldable pub object_keys : Kind → List (List ℕ)
object_keys kinds.Top = codes "version" ∷ codes "processes" ∷ codes "tabs" ∷ codes "steps" ∷ []
object_keys kinds.Tab = codes "owner" ∷ codes "also" ∷ []
object_keys kinds.Set = codes "do" ∷ codes "at" ∷ codes "context" ∷ codes "fields" ∷ []
object_keys kinds.Take = codes "do" ∷ codes "at" ∷ []
object_keys kinds.Hear = codes "do" ∷ codes "at" ∷ codes "from" ∷ []
object_keys kinds.OneContext = codes "do" ∷ codes "at" ∷ codes "context" ∷ []
object_keys kinds.OpenTab = codes "do" ∷ codes "at" ∷ codes "owner" ∷ codes "group" ∷ []
object_keys kinds.Subscribe = codes "do" ∷ codes "at" ∷ codes "process" ∷ codes "group" ∷ []
object_keys kinds.Kill = codes "do" ∷ codes "at" ∷ codes "process" ∷ []
object_keys kinds.Raw =
    codes "do" ∷ codes "at" ∷ codes "epoch" ∷ codes "seen" ∷ codes "parts" ∷ []
object_keys kinds.CommitPart = codes "part" ∷ codes "context" ∷ codes "fields" ∷ []
object_keys kinds.CreatePart = codes "part" ∷ codes "context" ∷ codes "parent" ∷ []
object_keys kinds.ContextPart = codes "part" ∷ codes "context" ∷ []
object_keys kinds.Settle = codes "do" ∷ []
object_keys kinds.ShowOne = codes "do" ∷ codes "at" ∷ codes "context" ∷ codes "field" ∷ []
object_keys kinds.ShowSide = codes "do" ∷ codes "at" ∷ []
object_keys kinds.ShowAll = codes "do" ∷ []

-- whether the key is one of these
abbrev pub is_among : List (List ℕ) → List ℕ → Bool
is_among keys k = list_any (λ key. bytes_eq k key) keys

-- whether the key is the name of a field
abbrev pub is_field_name : List ℕ → Bool
is_field_name k = is_some (field_of_name k)

-- whether an object of this kind may have the key
abbrev pub allows : Kind → List ℕ → Bool
allows kind = is_among (object_keys kind)

-- the value of a member, if it was found
abbrev pub data_found : Option (Bor Value) → Option Data
data_found found = option_map (λ v. view v.now) found

-- whether each member has a key that is allowed
abbrev pub all_named : (List ℕ → Bool) → Members → Bool
all_named allowed no_members = true
all_named allowed (member k d ms) = allowed k && all_named allowed ms

-- whether a value is an object, and each of its keys is allowed
abbrev pub has_only : (List ℕ → Bool) → Data → Bool
has_only allowed d = all_members (as_object d)
  where
    all_members : Option Members → Bool
    all_members None = false
    all_members (Some ms) = all_named allowed ms

-- whether an object has a member
abbrev pub has_member : Members → Bool
has_member no_members = false
has_member (member k d ms) = true

-- whether a member is there and is this text
abbrev pub is_text : List ℕ → Option Data → Bool
is_text text found = matches (option_and_then as_str found)
  where
    matches : Option (List ℕ) → Bool
    matches None = false
    matches (Some s) = bytes_eq s text

-- the number of a member, if it is one without a sign, a fraction or an exponent, below 2 ^ 64
abbrev pub whole_number : Option Data → Option ℕ
whole_number found = option_and_then (λ d. option_and_then as_u64 (as_number d)) found
