-- The rules of the parts that a process takes, one clause a part and a question.
use Rattle.std.specs.Prelude.{ℕ, ◌+◌, ◌==◌, nat_lt, Bool, true, false, not, ◌&&◌, if◌then◌else◌}
use Rattle.std.specs.Prelude.{List, [], ◌∷◌, map, Option, None, Some}
use Rattle.std.specs.List.{list_any}
use Rattle.fission_ids.specs.declared.context.ContextId.{ContextId}
use Rattle.field_table.specs.declared.field.Field.{Field}
use Rattle.transaction.specs.Transaction.{Changes}
use Rattle.wire_msgs.specs.declared.answer.Answer.{Answer}
use Rattle.wire_msgs.specs.declared.answer.Answer.TheVariants as answers
use Rattle.wire_msgs.specs.declared.bundle.DownBundle.{DownBundle}
use Rattle.wire_msgs.specs.declared.bundle.UpBundle.{UpBundle}
use Rattle.wire_msgs.specs.declared.part.Known.{Known}
use Rattle.wire_msgs.specs.declared.part.UpPart.{UpPart}
use Rattle.wire_msgs.specs.declared.part.UpPart.TheVariants as ups
use Rattle.wire_msgs.specs.declared.part.DownPart.{DownPart}
use Rattle.wire_msgs.specs.declared.part.DownPart.TheVariants as downs
use Rattle.wire_msgs.specs.declared.note.PartNote.{PartNote}
use Rattle.wire_msgs.specs.declared.note.PartNote.TheVariants as notes
use Rattle.wire_msgs.specs.declared.note.Mark.TheVariants.{Done, Ignored}
use Rattle.wire_msgs.specs.declared.note.FieldNote.{FieldNote}
use Rattle.wire_msgs.specs.declared.note.FieldMark.{FieldMark}
use Rattle.wire_msgs.specs.declared.note.FieldMark.TheVariants.{Applied, Obsolete}
use Rattle.protocol.specs.Seen.{Seen, Doing}
use Rattle.protocol.specs.Seen.Doing.{Came, Went, Given, Disowned, Took, Stopped}
use Rattle.protocol.specs.Fold.{Rules, after_parts, notes_of, posts_of}
use Rattle.protocol.specs.Hear.{modified_fields, changes_where, is_noted, is_applied}

-- whether there is no value, or it passes a test
abbrev pub option_all : {X : Type 0} → (X → Bool) → Option X → Bool
option_all passes None = true
option_all passes (Some x) = passes x

-- whether process p holds a context from when it is told of it: it doesn't hold it yet, another made it, and
-- the context that it's in is held
abbrev pub may_come : ℕ → Seen → Known → Bool
may_come p s k =
    not (s.holds k.context)
    && not (k.context.creator == p + 1)
    && option_all s.holds k.parent

-- what becomes of a field that is taken, by the epoch of the bundle
abbrev pub taken_mark : ℕ → Seen → ContextId → Field → FieldMark
taken_mark epoch s x fld = if nat_lt epoch (s.newest x fld) then Obsolete else Applied

abbrev pub taken_notes : ℕ → Seen → ContextId → Changes → List FieldNote
taken_notes epoch s x t =
    map (λ fld. record { field = fld; mark = taken_mark epoch s x fld }) (modified_fields t)

-- what becomes of a part, in a bundle of an epoch
unfoldable pub note : ℕ → ℕ → Seen → DownPart → PartNote
note p epoch s (downs.Register g contexts) = notes.Register g
note p epoch s (downs.Create known) =
    notes.Create known.context (if may_come p s known then Done else Ignored)
note p epoch s (downs.Commit x t) =
    if s.holds x then notes.Commit x (taken_notes epoch s x t) else notes.CommitIgnored x
note p epoch s (downs.Discard x) = notes.Discard x
note p epoch s (downs.CloseWindow x) = notes.Close x (if s.holds x then Done else Ignored)
note p epoch s _ = notes.Kill  -- the parts of windows and queries aren't taken yet

-- what a part came to, by its note alone
unfoldable pub says : DownPart → PartNote → List Doing
says (downs.Register g contexts) n = map Came contexts
says (downs.Create known) n = Came known ∷ []
says (downs.Commit x t) (notes.Commit _ ns) = Given x (changes_where (is_noted is_applied ns) t) ∷ []
says (downs.Discard x) n = Went x ∷ []
says (downs.CloseWindow x) n = Disowned x ∷ []
says downs.Kill n = Stopped ∷ []
says _ n = []

-- what a part has the process send
unfoldable pub posts : DownPart → List UpPart
posts (downs.Discard x) = ups.DropAck x ∷ []
posts _ = []

-- nothing ends a process that takes a bundle
pub data NoCause : Type 0 where

-- the rules of the parts of a bundle of this epoch
abbrev pub take_rules : ℕ → ℕ → Rules Seen DownPart PartNote Doing NoCause UpPart
take_rules p epoch = record {
  fault = λ n s a. None;
  note = note p epoch;
  says = says;
  posts = λ s a n. posts a;
}

-- ---- a whole bundle

abbrev pub is_kill : DownPart → Bool
is_kill downs.Kill = true
is_kill _ = false

-- an answer, what is kept behind it, and the parts that the process sends; none is no bundle
pub record Step (Kept : Type 0) : Type 0 where
  pub answer : Answer
  pub kept : Kept
  pub sends : List UpPart

module _ {Kept : Type 0} (seen : Kept → Seen) (next : Doing → Kept → Kept) where
  -- process p takes a bundle: it counts, and a process that is told to stop sends nothing
  abbrev pub bundle_step : ℕ → DownBundle → Kept → Step Kept
  bundle_step p b s = record {
    answer = answers.Parts (notes_of (take_rules p b.epoch.0) seen next s b.parts);
    kept = next Took (after_parts (take_rules p b.epoch.0) seen next s b.parts);
    sends =
        if list_any is_kill b.parts then []
        else posts_of (take_rules p b.epoch.0) seen next s b.parts;
  }

-- the bundle that process p sends, if it sends any parts, by its answers behind the step
abbrev pub bundle_sent : Seen → List UpPart → Option UpBundle
bundle_sent s [] = None
bundle_sent s (a ∷ parts) =
    Some (record { epoch = record { 0 = s.commits }; seen = s.taken; parts = a ∷ parts })
