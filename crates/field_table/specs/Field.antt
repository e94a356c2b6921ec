-- The synced fields: the table of their names and kinds, and their numbers.
use Rattle.std.specs.Prelude.{ℕ, List, [], ◌∷◌, true, false, Option, codes, find}
use Rattle.std.specs.Str.{bytes_eq}
use Rattle.field_table.specs.declared.field.Field.{Field}
use Rattle.field_table.specs.declared.field.Field.TheVariants.{Name, Closed, ExplicitActive}
use Rattle.field_table.specs.declared.field.Field.TheVariants.{CurrentInnerWindowId, OpenerId, FullZoom}
use Rattle.field_table.specs.declared.field.Field.TheVariants.{TextZoom, Muted, MessageManagerGroup}
use Rattle.field_table.specs.declared.field.Field.TheVariants.{UserAgentOverride, AllowContentRetargeting}
use Rattle.field_table.specs.declared.field.Field.TheVariants.{SandboxFlags, IsInBFCache, Loading}
use Rattle.field_table.specs.declared.field.Field.TheVariants.{DefaultLoadFlags, DisplayMode}
use Rattle.field_table.specs.declared.kind.Kind.{Kind}
use Rattle.field_table.specs.declared.kind.Kind.TheVariants as kinds
use Rattle.field_table.specs.declared.value.Value.{Value}
use Rattle.field_table.specs.Value.{initial_of}

-- every field, by number
abbrev pub fields : List Field
fields = Name ∷ Closed ∷ ExplicitActive ∷ CurrentInnerWindowId ∷ OpenerId ∷ FullZoom ∷ TextZoom ∷ Muted ∷
    MessageManagerGroup ∷ UserAgentOverride ∷ AllowContentRetargeting ∷ SandboxFlags ∷ IsInBFCache ∷ Loading ∷
    DefaultLoadFlags ∷ DisplayMode ∷ []

-- the place of a field in a table
abbrev pub number : Field → ℕ
number Name = 0
number Closed = 1
number ExplicitActive = 2
number CurrentInnerWindowId = 3
number OpenerId = 4
number FullZoom = 5
number TextZoom = 6
number Muted = 7
number MessageManagerGroup = 8
number UserAgentOverride = 9
number AllowContentRetargeting = 10
number SandboxFlags = 11
number IsInBFCache = 12
number Loading = 13
number DefaultLoadFlags = 14
number DisplayMode = 15

-- what the table of fields tells of a field: its name, as bytes, and what it may hold
pub record Row : Type 0 where
  pub name : List ℕ
  pub kind : Kind

-- the table of fields
unfoldable pub row : Field → Row
row Name = record { name = codes "Name"; kind = kinds.Words }
row Closed = record { name = codes "Closed"; kind = kinds.Flag false }
row ExplicitActive = record { name = codes "ExplicitActive"; kind = kinds.Number 2 2 }
row CurrentInnerWindowId = record { name = codes "CurrentInnerWindowId"; kind = kinds.Window }
row OpenerId = record { name = codes "OpenerId"; kind = kinds.Context }
row FullZoom = record { name = codes "FullZoom"; kind = kinds.Number 4294967295 100 }
row TextZoom = record { name = codes "TextZoom"; kind = kinds.Number 4294967295 100 }
row Muted = record { name = codes "Muted"; kind = kinds.Flag false }
row MessageManagerGroup = record { name = codes "MessageManagerGroup"; kind = kinds.Words }
row UserAgentOverride = record { name = codes "UserAgentOverride"; kind = kinds.Words }
row AllowContentRetargeting = record { name = codes "AllowContentRetargeting"; kind = kinds.Flag true }
row SandboxFlags = record { name = codes "SandboxFlags"; kind = kinds.Number 4294967295 0 }
row IsInBFCache = record { name = codes "IsInBFCache"; kind = kinds.Flag false }
row Loading = record { name = codes "Loading"; kind = kinds.Flag false }
row DefaultLoadFlags = record { name = codes "DefaultLoadFlags"; kind = kinds.Number 4294967295 0 }
row DisplayMode = record { name = codes "DisplayMode"; kind = kinds.Number 3 0 }

-- the bytes of a field's name
abbrev pub name : Field → List ℕ
name f = (row f).name

-- what a field may hold
abbrev pub kind : Field → Kind
kind f = (row f).kind

-- what a field holds in a new context
abbrev pub initial : Field → Value
initial f = initial_of (kind f)

-- the field of a name
abbrev pub field_of_name : List ℕ → Option Field
field_of_name text = find (λ f. bytes_eq (name f) text) fields
