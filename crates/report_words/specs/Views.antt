-- The words of a view: what one side has.
use Rattle.std.specs.Prelude.{ℕ, ◌==◌, Bool, true, false, List, [], ◌∷◌, ◌++◌, Option, None, Some, codes}
use Rattle.std.specs.Bool.{beq}
use Rattle.std.specs.Str.{bytes_eq}
use Rattle.fission_ids.specs.declared.context.ContextId.{ContextId}
use Rattle.fission_ids.specs.declared.group.GroupId.{GroupId}
use Rattle.fission_ids.specs.declared.process.ProcId.{ProcId}
use Rattle.fission_ids.specs.Ids.{context_text, group_text}
use Rattle.field_table.specs.declared.field.Field.{Field}
use Rattle.field_table.specs.declared.value.Value.{Value}
use Rattle.field_table.specs.declared.value.Value.TheVariants.{Flag, Number, Words}
use Rattle.field_table.specs.Field.{name, initial}
use Rattle.wire_msgs.specs.declared.cause.EndCause.{EndCause}
use Rattle.report_words.specs.Pieces.{text_of_pieces, process_text}
use Rattle.report_words.specs.Refusals.{cause_text}
use Rattle.report_words.specs.Values.{value_text}

-- a text, or `-` where there is nothing to tell
abbrev pub or_dash : {X : Type 0} → (X → List ℕ) → Option X → List ℕ
or_dash text None = codes "-"
or_dash text (Some x) = text x

-- ---- contexts

-- the owner of a context, by the number of the process
unfoldable pub owner_text : Option ℕ → List ℕ
owner_text owner = or_dash (λ p. process_text (record { 0 = p })) owner

-- whether a context is the process's own
unfoldable pub share_text : Bool → List ℕ
share_text true = codes "own"
share_text false = codes "remote"

-- a context, its group, the context that it's a frame of, and whose it is
unfoldable pub held_text : ContextId → Option GroupId → Option ContextId → List ℕ → List ℕ
held_text x group above whose =
    text_of_pieces (context_text x ∷ codes " " ∷ or_dash group_text group ∷
    codes " " ∷ or_dash context_text above ∷ codes " " ∷ whose ∷ [])

-- ---- fields

-- whether two values are one
abbrev pub same_value : Value → Value → Bool
same_value (Flag a) (Flag b) = beq a b
same_value (Number n) (Number m) = n == m
same_value (Words s) (Words t) = bytes_eq s t
same_value v w = false

-- whether a field has the value that it has in a new context
abbrev pub is_initial : Field → Value → Bool
is_initial f v = same_value v (initial f)

-- a field and its value
unfoldable pub field_text : Field → Option Value → List ℕ
field_text f value = text_of_pieces (name f ∷ codes " " ∷ value_text f value ∷ [])

-- ---- processes

-- a process, its type, and whether and why it was ended
unfoldable pub process_line_text : ProcId → List ℕ → Option EndCause → List ℕ
process_line_text p type None = text_of_pieces (process_text p ∷ codes " " ∷ type ∷ codes " running" ∷ [])
process_line_text p type (Some cause) =
    text_of_pieces (process_text p ∷ codes " " ∷ type ∷ codes " ended " ∷ cause_text cause ∷ [])

-- whether a process runs, told by itself
unfoldable pub run_text : List ℕ → Bool → List ℕ
run_text type true = type ++ codes " running"
run_text type false = type ++ codes " stopped"
