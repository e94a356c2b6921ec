-- A table of one value for each field.
use Rattle.std.specs.Prelude.{◌≡◌, List, length, map, slice_index_or, true, false}
use Rattle.field_table.specs.declared.field.Field.{Field}
use Rattle.field_table.specs.declared.value.Value.{Value}
use Rattle.field_table.specs.declared.value.Value.TheVariants.{Flag}
use Rattle.field_table.specs.Field.{fields, number, kind, initial}
use Rattle.field_table.specs.Value.{is_of}

-- the values by the fields' numbers
abbrev pub Table : Type 0
Table = List Value

-- the value of a field
abbrev pub value_in : Table → Field → Value
value_in t f = slice_index_or t (number f) (Flag false)

-- there is a value for each field, of the field's kind
pub record IsTable (t : Table) : Type 0 where
  pub len : length t ≡ length fields
  pub kinds : (f : Field) → is_of (kind f) (value_in t f) ≡ true

-- the table of a new context
abbrev pub initial_table : Table
initial_table = map initial fields
