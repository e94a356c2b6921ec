-- Views: all that one side has, as it is written. Each line begins with a blank and ends with a line feed.
use Rattle.std.specs.Prelude.{ℕ, List, [], ◌∷◌, if◌then◌else◌, Option, None, Some, codes, get_or, length}
use Rattle.std.specs.List.{flat_map}
use Rattle.fission_ids.specs.declared.context.ContextId.{ContextId}
use Rattle.fission_ids.specs.declared.group.GroupId.{GroupId}
use Rattle.field_table.specs.declared.field.Field.{Field}
use Rattle.field_table.specs.declared.value.Value.{Value}
use Rattle.field_table.specs.Field.{fields}
use Rattle.wire_msgs.specs.declared.config.Config.{Config}
use Rattle.protocol.specs.Questions.{Facts}
use Rattle.protocol.specs.Seen.{Seen}
use Rattle.protocol.specs.Start.{numbers}
use Rattle.report_words.specs.Pieces.{text_of_pieces}
use Rattle.report_words.specs.Views.{owner_text, share_text, held_text, is_initial, field_text}
use Rattle.report_words.specs.Views.{process_line_text, run_text}

-- ---- what is told

-- what a side tells of its contexts
pub record Told : Type 0 where
  pub order : List ContextId  -- in pre-order
  pub group : ContextId → Option GroupId
  pub above : ContextId → Option ContextId
  pub whose : ContextId → List ℕ  -- as it is written
  pub value : ContextId → Field → Option Value

-- what is fixed of a context, told while it is live
abbrev pub while_live : {X : Type 0} → Facts → (ContextId → Option X) → ContextId → Option X
while_live f fixed x = if f.contexts.live x then fixed x else None

-- what the parent tells: the live contexts, and who owns each
abbrev pub told_by_parent : Facts → Told
told_by_parent f = record {
  order = f.contexts.order;
  group = while_live f f.contexts.group;
  above = while_live f f.contexts.above;
  whose = λ x. owner_text (f.contexts.owner x);
  value = f.contexts.value;
}

-- what a process tells: the contexts that it holds, and whether each is its own
abbrev pub told_by_process : Seen → Told
told_by_process s = record {
  order = s.order;
  group = s.group;
  above = s.above;
  whose = λ x. share_text (s.owns x);
  value = s.value;
}

-- ---- lines

-- a text as a line, behind some blanks
abbrev pub line_behind : List ℕ → List ℕ → List ℕ
line_behind blanks text = text_of_pieces (blanks ∷ text ∷ codes "\n" ∷ [])

-- a field, unless it has the value that it has in a new context
unfoldable pub field_line : Field → Option Value → List ℕ
field_line f None = []
field_line f (Some v) = if is_initial f v then [] else line_behind (codes "  ") (field_text f (Some v))

-- the fields of a context, by rising number
abbrev pub field_lines : Told → ContextId → List ℕ
field_lines t x = flat_map (λ f. field_line f (t.value x f)) fields

-- a context, and its fields below it
unfoldable pub context_lines : Told → ContextId → List ℕ
context_lines t x =
    text_of_pieces (line_behind (codes " ") (held_text x (t.group x) (t.above x) (t.whose x)) ∷
    field_lines t x ∷ [])

-- the contexts in the order of their tree
abbrev pub contexts_text : Told → List ℕ
contexts_text t = flat_map (context_lines t) t.order

-- ---- views

-- the remote type of a process
abbrev pub type_at : Config → ℕ → List ℕ
type_at c p = get_or c.types p []

-- a process, as the parent has it
abbrev pub process_line : Config → Facts → ℕ → List ℕ
process_line c f p =
    line_behind (codes " ") (process_line_text (record { 0 = p }) (type_at c p) (f.processes.ended p))

-- the processes by rising number
abbrev pub process_lines : Config → Facts → List ℕ
process_lines c f = flat_map (process_line c f) (numbers 0 (length c.types))

-- what the parent has: the processes, and the live contexts
unfoldable pub parent_view_text : Config → Facts → List ℕ
parent_view_text c f = text_of_pieces (process_lines c f ∷ contexts_text (told_by_parent f) ∷ [])

-- what a process of this type has: whether it runs, and the contexts that it holds
unfoldable pub process_view_text : List ℕ → Seen → List ℕ
process_view_text type s =
    text_of_pieces (line_behind (codes " ") (run_text type s.running) ∷
    contexts_text (told_by_process s) ∷ [])
