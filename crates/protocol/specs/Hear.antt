-- The rules of the parts that the parent hears, one clause a part and a question. A rule sees the answers of
-- the parent and nothing else.
use Rattle.std.specs.Prelude.{ℕ, ◌+◌, ◌==◌, nat_lt, nat_le, Bool, true, false, not, ◌&&◌, ◌||◌, if◌then◌else◌}
use Rattle.std.specs.Prelude.{List, [], ◌∷◌, map, filter, Option, None, Some, is_none, is_some}
use Rattle.std.specs.Prelude.{unwrap_or}
use Rattle.std.specs.List.{list_any}
use Rattle.fission_ids.specs.declared.any_id.AnyId.TheVariants as ids
use Rattle.fission_ids.specs.declared.context.ContextId.{ContextId}
use Rattle.field_table.specs.declared.field.Field.{Field}
use Rattle.field_table.specs.declared.field_set.FieldSet.{FieldSet}
use Rattle.field_table.specs.declared.value.Value.{Value}
use Rattle.field_table.specs.declared.value.Value.TheVariants.{Flag}
use Rattle.field_table.specs.declared.verdict.Verdict.{Verdict}
use Rattle.field_table.specs.declared.verdict.Verdict.TheVariants.{Allow, Deny}
use Rattle.field_table.specs.Field.{fields, number}
use Rattle.field_table.specs.FieldSet.{set_of}
use Rattle.field_table.specs.Table.{initial_table}
use Rattle.transaction.specs.Transaction.{Changes, new_value}
use Rattle.field_rules.specs.Bounds.{Bounds, zooms, no_bounds}
use Rattle.field_rules.specs.Rules.{Question, verdict}
use Rattle.wire_msgs.specs.declared.part.Known.{Known}
use Rattle.wire_msgs.specs.declared.part.UpPart.{UpPart}
use Rattle.wire_msgs.specs.declared.part.UpPart.TheVariants as ups
use Rattle.wire_msgs.specs.declared.part.DownPart.{DownPart}
use Rattle.wire_msgs.specs.declared.part.DownPart.TheVariants as downs
use Rattle.wire_msgs.specs.declared.note.PartNote.{PartNote}
use Rattle.wire_msgs.specs.declared.note.PartNote.TheVariants as notes
use Rattle.wire_msgs.specs.declared.note.Mark.TheVariants.{Done, Late, Ignored}
use Rattle.wire_msgs.specs.declared.note.FieldNote.{FieldNote}
use Rattle.wire_msgs.specs.declared.note.FieldMark.{FieldMark}
use Rattle.wire_msgs.specs.declared.note.FieldMark.TheVariants.{Applied, Reverted}
use Rattle.wire_msgs.specs.declared.cause.EndCause.{EndCause}
use Rattle.wire_msgs.specs.declared.cause.EndCause.TheVariants.{Denied, BadId}
use Rattle.protocol.specs.Questions.{Facts, option_any, is_told, is_judged, is_owner}
use Rattle.protocol.specs.Fold.{Rules}
use Rattle.protocol.specs.Sayings.{Saying}
use Rattle.protocol.specs.Sayings.Saying.{Made, BornDead, Removed, Wrote, Acked}

-- ---- a commit

-- the fields that are modified, by number
abbrev pub modified_fields : Changes → List Field
modified_fields t = filter (λ fld. is_some (new_value t fld)) fields

-- the changes of those fields alone that pass a test
abbrev pub changes_where : (Field → Bool) → Changes → Changes
changes_where passes t = map (λ fld. if passes fld then new_value t fld else None) fields

-- what is asked of a process's write of a field
abbrev pub question_of : Facts → ℕ → ContextId → Field → Value → Question
question_of f p x fld v = record {
  field = fld;
  value = v;
  context = x;
  top = is_none (f.contexts.above x);
  window = None;  -- there are no windows yet
  from = Some (record { 0 = p });
  owner_is_sender = is_owner f p x;
}

-- bounds that allow each zoom, or none
abbrev pub bounds_where : Bool → Bounds
bounds_where true = record { full = zooms; text = zooms }
bounds_where false = no_bounds

-- the verdict on a field that is modified; `answers` says of which field a function of the outside allows the
-- value
abbrev pub verdict_of : (Field → Bool) → Facts → ℕ → ContextId → Changes → Field → Verdict
verdict_of answers f p x t fld =
    verdict (bounds_where (answers fld)) (question_of f p x fld (unwrap_or (new_value t fld) (Flag false)))

-- whether two fields are one
abbrev pub same_field : Field → Field → Bool
same_field f g = number f == number g

-- the fields of a list, as a set
abbrev pub set_of_fields : List Field → FieldSet
set_of_fields flds = set_of (λ g. list_any (same_field g) flds)

abbrev pub is_denial : Verdict → Bool
is_denial Deny = true
is_denial _ = false

-- the modified fields that nobody may write so
abbrev pub denied_of : (Field → Bool) → Facts → ℕ → ContextId → Changes → List Field
denied_of answers f p x t = filter (λ fld. is_denial (verdict_of answers f p x t fld)) (modified_fields t)

-- the end of a process that wrote fields that it may not write, if there are any
abbrev pub denial : ContextId → List Field → Option EndCause
denial x [] = None
denial x (fld ∷ flds) = Some (Denied x (set_of_fields (fld ∷ flds)))

-- what becomes of a field that isn't denied
abbrev pub mark_of : Verdict → FieldMark
mark_of Allow = Applied
mark_of _ = Reverted

abbrev pub field_notes : (Field → Bool) → Facts → ℕ → ContextId → Changes → List FieldNote
field_notes answers f p x t =
    map (λ fld. record { field = fld; mark = mark_of (verdict_of answers f p x t fld) }) (modified_fields t)

abbrev pub is_applied : FieldMark → Bool
is_applied Applied = true
is_applied _ = false

abbrev pub is_reverted : FieldMark → Bool
is_reverted Reverted = true
is_reverted _ = false

-- whether a field has a note with this mark
abbrev pub is_noted : (FieldMark → Bool) → List FieldNote → Field → Bool
is_noted has_mark ns fld = list_any (λ n. same_field n.field fld && has_mark n.mark) ns

-- ---- frames

-- whether a process may give a frame this id
abbrev pub is_new_frame : ℕ → ContextId → Bool
is_new_frame p x = x.creator == p + 1 && nat_lt 0 x.serial && nat_le x.serial 240

-- whether a frame in a context comes too late: the context is discarded, or the sender doesn't own it
abbrev pub is_late : Facts → ℕ → ContextId → Bool
is_late f p above = not (f.contexts.live above && is_owner f p above)

-- whether a process may drop a context that is known: it is a frame, and is discarded already or the process
-- owns the context that it's in
abbrev pub may_be_dropped : Facts → ℕ → ContextId → Bool
may_be_dropped f p x =
    option_any (λ above. not (f.contexts.live x) || is_owner f p above) (f.contexts.above x)

-- ---- each part

-- why a part ends its sender
unfoldable pub fault : (Field → Bool) → ℕ → ℕ → Facts → UpPart → Option EndCause
fault answers p n f (ups.Create x above) =
    if not (is_new_frame p x) || f.contexts.known x then Some (BadId (ids.Context x))
    else if not (f.contexts.known above) then Some (BadId (ids.Context above))
    else None
fault answers p n f (ups.Drop x) =
    if f.contexts.known x && may_be_dropped f p x then None else Some (BadId (ids.Context x))
fault answers p n f (ups.Commit x t) =
    if is_judged f p x then denial x (denied_of answers f p x t) else None
fault answers p n f _ = None

-- what becomes of a part
unfoldable pub note : (Field → Bool) → ℕ → Facts → UpPart → PartNote
note answers p f (ups.Create x above) = notes.Create x (if is_late f p above then Late else Done)
note answers p f (ups.Drop x) = notes.Drop x (if f.contexts.live x then Done else Ignored)
note answers p f (ups.DropAck x) = notes.Ack x
note answers p f (ups.Commit x t) =
    if is_judged f p x then notes.Commit x (field_notes answers f p x t) else notes.CommitIgnored x
note answers p f _ = notes.Kill  -- the parts of windows and queries aren't heard yet

-- what a part came to, by its note alone
unfoldable pub says : ℕ → UpPart → PartNote → List Saying
says p (ups.Create x above) (notes.Create _ Done) = Made p x above ∷ []
says p (ups.Create x above) (notes.Create _ Late) = BornDead p x above ∷ []
says p (ups.Drop x) (notes.Drop _ Done) = Removed x (Some p) ∷ []
says p (ups.DropAck x) (notes.Ack _) = Acked p x ∷ []
says p (ups.Commit x t) (notes.Commit _ ns) = Wrote x (changes_where (is_noted is_applied ns) t) ∷ []
says p _ _ = []

-- a commit, unless it modifies nothing
abbrev pub commit_unless_empty : ContextId → Changes → List DownPart
commit_unless_empty x t = if list_any is_some t then downs.Commit x t ∷ [] else []

-- the parent's present values of the fields that pass a test
abbrev pub values_where : (Field → Bool) → Facts → ContextId → Changes
values_where passes f x = map (λ fld. if passes fld then f.contexts.value x fld else None) fields

-- what is told of a frame that was just made, which its maker owns
abbrev pub frame_known : Facts → ContextId → ContextId → Known
frame_known f x above = record {
  context = x;
  group = unwrap_or (f.contexts.group above) (record { 0 = 0 });
  parent = Some above;
  owned = false;
  fields = initial_table;
}

-- whether process q is told what process p did to a context: every subscriber is but p itself
abbrev pub is_other_told : Facts → ℕ → ℕ → ContextId → Bool
is_other_told f p q x = not (q == p) && is_told f q x

-- what a part that process p sent has sent to process q
unfoldable pub posts : Facts → ℕ → UpPart → PartNote → ℕ → List DownPart
posts f p (ups.Create x above) (notes.Create _ Done) q =
    if is_other_told f p q above then downs.Create (frame_known f x above) ∷ [] else []
posts f p (ups.Create x above) (notes.Create _ Late) q = if q == p then downs.Discard x ∷ [] else []
posts f p (ups.Drop x) (notes.Drop _ Done) q = if is_other_told f p q x then downs.Discard x ∷ [] else []
posts f p (ups.Commit x t) (notes.Commit _ ns) q =
    if q == p then commit_unless_empty x (values_where (is_noted is_reverted ns) f x)
    else if is_told f q x then commit_unless_empty x (changes_where (is_noted is_applied ns) t)
    else []
posts f p _ _ q = []

-- the rules of the parts of a process's bundle, as they concern what is sent to process q
abbrev pub hear_rules : (Field → Bool) → ℕ → ℕ → Rules Facts UpPart PartNote Saying EndCause DownPart
hear_rules answers p q = record {
  fault = fault answers p;
  note = note answers p;
  says = says p;
  posts = λ f a n. posts f p a n q;
}
