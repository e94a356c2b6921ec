-- What a JSON value is as the value of a field.
use Rattle.std.specs.Prelude.{ℕ, List, length, Bool, true, false, nat_le, if◌then◌else◌, Option, None, Some}
use Rattle.std.specs.Prelude.{option_and_then, Result, Ok, Err}
use Rattle.std.specs.Option.{option_map}
use Rattle.serde_json.specs.Data.{Data}
use Rattle.serde_json.specs.Find.{as_bool, as_str, as_number, as_u64}
use Rattle.fission_ids.specs.Ids.{context_of, context_number, window_of, window_number}
use Rattle.field_table.specs.declared.kind.Kind.{Kind}
use Rattle.field_table.specs.declared.kind.Kind.TheVariants as kinds
use Rattle.field_table.specs.declared.value.Value.{Value}
use Rattle.field_table.specs.declared.value.Value.TheVariants.{Flag, Number, Words}
use Rattle.field_table.specs.declared.value.ValueFault.{ValueFault}
use Rattle.field_table.specs.declared.value.ValueFault.TheVariants.{WrongKind, TooLong, OutOfRange}
use Rattle.field_table.specs.declared.value.ValueFault.TheVariants.{OutOfMemory}

-- whether a fault tells want of memory
abbrev pub is_memory : ValueFault → Bool
is_memory WrongKind = false
is_memory (TooLong len) = false
is_memory (OutOfRange n) = false
is_memory OutOfMemory = true

-- the value, or a fault of kind where there is none
abbrev pub or_wrong_kind : Option Value → Result Value ValueFault
or_wrong_kind None = Err WrongKind
or_wrong_kind (Some v) = Ok v

-- true or false
abbrev pub flag_value : Data → Result Value ValueFault
flag_value d = or_wrong_kind (option_map (λ on. Flag on) (as_bool d))

-- a number that is at most the greatest
abbrev pub number_up_to : ℕ → Option ℕ → Result Value ValueFault
number_up_to max None = Err WrongKind
number_up_to max (Some n) = if nat_le n max then Ok (Number n) else Err (OutOfRange n)

-- a whole number from 0 on that is at most the greatest
abbrev pub number_value : ℕ → Data → Result Value ValueFault
number_value max d = number_up_to max (option_and_then as_u64 (as_number d))

-- a text of at most 64 bytes
abbrev pub text_value : Option (List ℕ) → Result Value ValueFault
text_value None = Err WrongKind
text_value (Some text) = if nat_le (length text) 64 then Ok (Words text) else Err (TooLong (length text))

-- the number that a text names, or the number 0 where there is no text
abbrev pub named_or_none : (List ℕ → Option ℕ) → Option (List ℕ) → Data → Result Value ValueFault
named_or_none number_of None d = number_value 0 d
named_or_none number_of (Some text) d = or_wrong_kind (option_map (λ n. Number n) (number_of text))

-- the number of the window that a text names, or 0 for none
abbrev pub window_value : Data → Result Value ValueFault
window_value d = named_or_none (λ text. option_map window_number (window_of text)) (as_str d) d

-- the number of the context that a text names, or 0 for none
abbrev pub context_value : Data → Result Value ValueFault
context_value d = named_or_none (λ text. option_map context_number (context_of text)) (as_str d) d

-- the value of a kind that a JSON value is
unfoldable pub value_of : Kind → Data → Result Value ValueFault
value_of (kinds.Flag on) d = flag_value d
value_of (kinds.Number max n) d = number_value max d
value_of kinds.Words d = text_value (as_str d)
value_of kinds.Window d = window_value d
value_of kinds.Context d = context_value d
