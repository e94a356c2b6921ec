-- What the steps of a process are made of.
use Rattle.std.specs.Prelude.{ℕ, Bool, false, not, ◌&&◌, ◌==◌, if◌then◌else◌, List, [], ◌∷◌, ◌++◌, map}
use Rattle.std.specs.Prelude.{Option, None, Some, is_some, unwrap_or}
use Rattle.std.specs.List.{list_any}
use Rattle.std.specs.Option.{option_map_or}
use Rattle.fission_ids.specs.declared.context.ContextId.{ContextId}
use Rattle.field_table.specs.declared.field.Field.{Field}
use Rattle.field_table.specs.declared.field_set.FieldSet.{FieldSet}
use Rattle.field_table.specs.declared.value.Value.TheVariants.{Flag}
use Rattle.field_table.specs.FieldSet.{has}
use Rattle.field_table.specs.Table.{initial_table}
use Rattle.field_rules.specs.Rules.{is_denied}
use Rattle.transaction.specs.Transaction.{Changes, new_value}
use Rattle.epochs.specs.FieldEpochs.{no_epochs}
use Rattle.context_store.specs.Content.{Stored}
use Rattle.wire_msgs.specs.declared.action.Action.{Action}
use Rattle.wire_msgs.specs.declared.answer.Answer.TheVariants as answers
use Rattle.wire_msgs.specs.declared.note.FieldNote.{FieldNote}
use Rattle.wire_msgs.specs.declared.note.FieldMark.TheVariants.{Applied, Obsolete}
use Rattle.wire_msgs.specs.declared.note.PartNote.{PartNote}
use Rattle.wire_msgs.specs.declared.note.PartNote.TheVariants as notes
use Rattle.wire_msgs.specs.declared.part.DownPart.{DownPart}
use Rattle.wire_msgs.specs.declared.part.UpPart.{UpPart}
use Rattle.wire_msgs.specs.declared.refusal.Refusal.{Refusal}
use Rattle.wire_msgs.specs.declared.refusal.Refusal.TheVariants.{NoContext, NotMine, TooMany}
use Rattle.wire_msgs.specs.declared.refusal.Counted.TheVariants.{Contexts}
use Rattle.protocol.specs.Fold.{behind_all}
use Rattle.protocol.specs.Hear.{modified_fields}
use Rattle.protocol.specs.OwnActs.{answer, says, posts}
use Rattle.protocol.specs.ParentActs.{refused_if}
use Rattle.protocol.specs.Questions.{option_any}
use Rattle.protocol.specs.Seen.{Seen}
use Rattle.protocol.specs.SeenAfter.{seen_after}
use Rattle.protocol.specs.Take as taking
use Rattle.protocol.specs.Take.{Step, is_kill}

-- a context that no one wrote
abbrev pub unwritten : Stored
unwritten = record { fields = initial_table; epochs = no_epochs }

-- whether a field is modified so that the fixed facts deny it to process p
abbrev pub is_field_denied : ℕ → Bool → Bool → ContextId → Changes → Field → Bool
is_field_denied p top owned x t fld = is_some (new_value t fld) && is_denied (record {
  field = fld;
  value = unwrap_or (new_value t fld) (Flag false);
  context = x;
  top = top;
  window = None;
  from = Some (record { 0 = p });
  owner_is_sender = owned;
})

-- why a running process's frame is refused
abbrev pub frame_refusal : Seen → ContextId → Option Refusal
frame_refusal s x =
    refused_if (not (s.holds x)) NoContext
    (refused_if (not (s.owns x)) NotMine
    (refused_if (s.frames_made == 240) (TooMany Contexts 240) None))

-- why a running process's drop is refused
abbrev pub drop_refusal : Seen → ContextId → Option Refusal
drop_refusal s x =
    refused_if (not (s.holds x)) NoContext (refused_if (not (option_any s.owns (s.above x))) NotMine None)

-- a refused action
abbrev pub refused_step : Refusal → Seen → Step Seen
refused_step why s = record { answer = answers.Refused why; kept = s; sends = [] }

-- an action that isn't refused
abbrev pub allowed_step : ℕ → Action → Seen → Step Seen
allowed_step p action s = record {
  answer = answer p s action;
  kept = behind_all (seen_after p) (says p s action) s;
  sends = posts p s action;
}

-- what the parts have a process send
abbrev pub acks_of : List DownPart → List UpPart
acks_of [] = []
acks_of (part ∷ parts) = taking.posts part ++ acks_of parts

-- what it sends of that: nothing, where it is told to stop
abbrev pub sends_of : List DownPart → List UpPart
sends_of parts = if list_any is_kill parts then [] else acks_of parts

-- what becomes of the modified fields, of which these are obsolete
abbrev pub notes_beside : FieldSet → Changes → List FieldNote
notes_beside obsolete t =
    map (λ fld. record { field = fld; mark = if has obsolete fld then Obsolete else Applied })
    (modified_fields t)

-- what becomes of a commit, by its obsolete fields; there are none where the context isn't held
abbrev pub commit_note : ContextId → Changes → Option FieldSet → PartNote
commit_note x t obsolete =
    option_map_or (λ o. notes.Commit x (notes_beside o t)) obsolete (notes.CommitIgnored x)
