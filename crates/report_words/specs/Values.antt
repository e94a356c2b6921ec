-- What a field shows, as it is written.
use Rattle.std.specs.Prelude.{ℕ, ◌/◌, ◌%◌, List, true, false, Option, None, Some, codes, if◌then◌else◌}
use Rattle.std.specs.Fmt.{decimal}
use Rattle.serde_json.specs.Data.{string}
use Rattle.serde_json.specs.Written.{compact_text}
use Rattle.fission_ids.specs.declared.context.ContextId.{ContextId}
use Rattle.fission_ids.specs.declared.window.WindowId.{WindowId}
use Rattle.fission_ids.specs.Ids.{are_in_range, context_text, window_text}
use Rattle.field_table.specs.declared.field.Field.{Field}
use Rattle.field_table.specs.declared.kind.Kind.{Kind}
use Rattle.field_table.specs.declared.kind.Kind.TheVariants as kinds
use Rattle.field_table.specs.declared.value.Value.{Value}
use Rattle.field_table.specs.declared.value.Value.TheVariants.{Flag, Number, Words}
use Rattle.field_table.specs.Field.{kind}

-- ---- ids by number

-- the creator in the number of an id
abbrev pub creator_of : ℕ → ℕ
creator_of n = n / 4294967296

-- the serial in the number of an id
abbrev pub serial_of : ℕ → ℕ
serial_of n = n % 4294967296

-- what is made of the numbers in the number of an id, if they are in range
abbrev pub made_in_range : {X : Type 0} → (ℕ → ℕ → X) → ℕ → Option X
made_in_range make n =
    if are_in_range (creator_of n) (serial_of n) then Some (make (creator_of n) (serial_of n)) else None

-- the window with this number
unfoldable pub window_of_number : ℕ → Option WindowId
window_of_number n = made_in_range (λ creator serial. record { creator = creator; serial = serial }) n

-- the context with this number
unfoldable pub context_of_number : ℕ → Option ContextId
context_of_number n = made_in_range (λ creator serial. record { creator = creator; serial = serial }) n

-- ---- values

-- the text of a window, or digits where there is none
abbrev pub window_or_digits : Option WindowId → ℕ → List ℕ
window_or_digits None n = decimal n
window_or_digits (Some w) n = window_text w

-- the text of a context, or digits where there is none
abbrev pub context_or_digits : Option ContextId → ℕ → List ℕ
context_or_digits None n = decimal n
context_or_digits (Some x) n = context_text x

-- a number in a field of this kind: one of an id is told by the id, where there is one
unfoldable pub number_text : Kind → ℕ → List ℕ
number_text (kinds.Flag initial) n = decimal n
number_text (kinds.Number max initial) n = decimal n
number_text kinds.Words n = decimal n
number_text kinds.Window n = window_or_digits (window_of_number n) n
number_text kinds.Context n = context_or_digits (context_of_number n) n

-- what a field shows, or `-` where there is no value; a text as JSON writes it
unfoldable pub value_text : Field → Option Value → List ℕ
value_text f None = codes "-"
value_text f (Some (Flag true)) = codes "true"
value_text f (Some (Flag false)) = codes "false"
value_text f (Some (Number n)) = number_text (kind f) n
value_text f (Some (Words text)) = compact_text (string text)
