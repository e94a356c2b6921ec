-- Writes to a context, which is top-level or a frame: those that are heard, and those of the parent.
use Rattle.std.specs.Prelude.{ℕ, Bool, false, ◌&&◌, if◌then◌else◌, List, map, filter}
use Rattle.std.specs.Prelude.{Option, None, Some, is_some, unwrap_or}
use Rattle.fission_ids.specs.declared.context.ContextId.{ContextId}
use Rattle.fission_ids.specs.declared.process.ProcId.{ProcId}
use Rattle.field_table.specs.declared.field.Field.{Field}
use Rattle.field_table.specs.declared.value.Value.{Value}
use Rattle.field_table.specs.declared.value.Value.TheVariants.{Flag}
use Rattle.field_table.specs.declared.field_set.FieldSet.{FieldSet}
use Rattle.field_table.specs.FieldSet.{has}
use Rattle.transaction.specs.Transaction.{Changes, new_value}
use Rattle.wire_msgs.specs.declared.note.FieldNote.{FieldNote}
use Rattle.wire_msgs.specs.declared.note.FieldMark.TheVariants.{Applied, Reverted}
use Rattle.field_rules.specs.Bounds.{Bounds}
use Rattle.field_rules.specs.Rules.{Question, is_denied, verdict}
use Rattle.protocol.specs.Hear.{modified_fields, mark_of, is_reverted}

-- what is asked of the write of a field by a process, which owns the context or not, or by the parent
abbrev pub question_from : Option ProcId → ContextId → Bool → Bool → Field → Value → Question
question_from from x top owns fld v = record {
  field = fld;
  value = v;
  context = x;
  top = top;
  window = None;
  from = from;
  owner_is_sender = owns;
}

-- by process p
abbrev pub question_of_heard : ℕ → ContextId → Bool → Bool → Field → Value → Question
question_of_heard p = question_from (Some (record { 0 = p }))

-- whether a field that is modified is reverted, by the bounds of the rule functions
abbrev pub is_reverted_in : Bounds → ℕ → ContextId → Bool → Bool → Changes → Field → Bool
is_reverted_in b p x top owns t fld =
    is_some (new_value t fld)
    && is_reverted (mark_of (verdict b
    (question_of_heard p x top owns fld (unwrap_or (new_value t fld) (Flag false)))))

-- the notes of a commit of which these fields are reverted
abbrev pub notes_with : FieldSet → Changes → List FieldNote
notes_with reverted t = map
    (λ fld. record { field = fld; mark = if has reverted fld then Reverted else Applied })
    (modified_fields t)

-- whether the new value of a field may not be written so
abbrev pub is_denied_from : Option ProcId → ContextId → Bool → Bool → Changes → Field → Bool
is_denied_from from x top owns t fld =
    is_denied (question_from from x top owns fld (unwrap_or (new_value t fld) (Flag false)))

-- the modified fields that may not be written so
abbrev pub denied_from : Option ProcId → ContextId → Bool → Bool → Changes → List Field
denied_from from x top owns t = filter (is_denied_from from x top owns t) (modified_fields t)

-- those that the parent may not write so
abbrev pub denied_in_write : ContextId → Bool → Changes → List Field
denied_in_write x top = denied_from None x top false
