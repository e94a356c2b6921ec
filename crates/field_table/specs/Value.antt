-- The values of fields, by the kinds of fields.
use Rattle.std.specs.Prelude.{[], Bool, true, false}
use Rattle.field_table.specs.declared.kind.Kind.{Kind}
use Rattle.field_table.specs.declared.kind.Kind.TheVariants as kinds
use Rattle.field_table.specs.declared.value.Value.{Value}
use Rattle.field_table.specs.declared.value.Value.TheVariants.{Flag, Number, Words}

-- whether a value is a flag
abbrev pub is_flag : Value → Bool
is_flag (Flag on) = true
is_flag (Number n) = false
is_flag (Words text) = false

-- whether a value is a number
abbrev pub is_number : Value → Bool
is_number (Flag on) = false
is_number (Number n) = true
is_number (Words text) = false

-- whether a value is a text
abbrev pub is_words : Value → Bool
is_words (Flag on) = false
is_words (Number n) = false
is_words (Words text) = true

-- whether a value is of a kind; a window and a context are told by numbers, and no range is asked
abbrev pub is_of : Kind → Value → Bool
is_of (kinds.Flag on) v = is_flag v
is_of (kinds.Number max n) v = is_number v
is_of kinds.Words v = is_words v
is_of kinds.Window v = is_number v
is_of kinds.Context v = is_number v

-- what a field of a kind holds in a new context
abbrev pub initial_of : Kind → Value
initial_of (kinds.Flag on) = Flag on
initial_of (kinds.Number max n) = Number n
initial_of kinds.Words = Words []
initial_of kinds.Window = Number 0
initial_of kinds.Context = Number 0
