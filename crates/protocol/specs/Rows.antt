-- Worked rows: what a bundle comes to, told over answers alone.
use Rattle.std.specs.Prelude.{ℕ, ◌≡◌, Bool, true, false, List, []}
use Rattle.std.specs.Prelude.{◌∷◌, Option, None, Some, codes, map, if◌then◌else◌, ◌==◌}
use Rattle.fission_ids.specs.declared.any_id.AnyId.TheVariants as ids
use Rattle.fission_ids.specs.declared.context.ContextId.{ContextId}
use Rattle.fission_ids.specs.declared.group.GroupId.{GroupId}
use Rattle.field_table.specs.declared.field.Field.{Field}
use Rattle.field_table.specs.declared.field.Field.TheVariants.{Name, Muted, DisplayMode}
use Rattle.field_table.specs.declared.value.Value.{Value}
use Rattle.field_table.specs.declared.value.Value.TheVariants.{Flag, Number, Words}
use Rattle.field_table.specs.Field.{fields, number}
use Rattle.transaction.specs.Transaction.{Changes}
use Rattle.wire_msgs.specs.declared.answer.Answer.{Answer}
use Rattle.wire_msgs.specs.declared.answer.Answer.TheVariants.{Parts, Ended as EndedBy}
use Rattle.wire_msgs.specs.declared.bundle.UpBundle.{UpBundle}
use Rattle.wire_msgs.specs.declared.cause.EndCause.TheVariants.{Denied, BadEpoch, BadStamp}
use Rattle.wire_msgs.specs.declared.cause.EndCause.TheVariants.{BadId, BadPart, Failed}
use Rattle.wire_msgs.specs.declared.note.PartNote.TheVariants as notes
use Rattle.wire_msgs.specs.declared.note.Mark.TheVariants.{Done, Late, Ignored}
use Rattle.wire_msgs.specs.declared.note.FieldMark.TheVariants.{Applied, Reverted}
use Rattle.wire_msgs.specs.declared.part.UpPart.{UpPart}
use Rattle.wire_msgs.specs.declared.part.UpPart.TheVariants as ups
use Rattle.wire_msgs.specs.declared.part.DownPart.{DownPart}
use Rattle.wire_msgs.specs.declared.part.DownPart.TheVariants as downs
use Rattle.protocol.specs.Questions.{Facts}
use Rattle.protocol.specs.Sayings.{Saying}
use Rattle.protocol.specs.Sayings.Saying.{Opened, Made, Subscribed, Removed, Acked}
use Rattle.protocol.specs.Fold.{behind_all}
use Rattle.protocol.specs.Bundle.{Ruling, bundle_ruling}
use Rattle.field_table.specs.Table.{initial_table}
use Rattle.wire_msgs.specs.declared.action.Action.{Action}
use Rattle.wire_msgs.specs.declared.action.Action.TheVariants as actions
use Rattle.wire_msgs.specs.declared.note.FieldMark.{FieldMark}
use Rattle.wire_msgs.specs.declared.refusal.Refusal.{Refusal}
use Rattle.wire_msgs.specs.declared.note.FieldMark.TheVariants.{Obsolete}
use Rattle.wire_msgs.specs.declared.refusal.Refusal.TheVariants as refusals
use Rattle.wire_msgs.specs.declared.part.Known.{Known}
use Rattle.protocol.specs.Seen.{Seen}
use Rattle.protocol.specs.Seen.Doing.{Came, Wrote}
use Rattle.protocol.specs.Take.{Step, bundle_step}
use Rattle.protocol.specs.OwnActs as own
use Rattle.protocol.specs.FactsAfter.{facts_after}
use Rattle.protocol.specs.SeenAfter.{seen_after}

-- no answer
abbrev pub nothing : Facts
nothing = record {
  contexts = record {
    known = λ x. false;
    group = λ x. None;
    above = λ x. None;
    live = λ x. false;
    under = λ x y. false;
    owner = λ x. None;
    value = λ x fld. None;
    order = [];
  };
  groups = record {
    made = 0;
    kept = λ g. false;
    subscribers = λ g. record { 0 = 0 };
    awaited = λ g. [];
  };
  processes = record {
    ended = λ p. None;
    commits_heard = λ p. 0;
    bundles_sent = λ p. 0;
    last_load = λ p x. 0;
  };
  tabs_made = 0;
}

abbrev pub tab : ContextId
tab = record { creator = 0; serial = 1 }

abbrev pub frame : ContextId
frame = record { creator = 1; serial = 1 }

abbrev pub group : GroupId
group = record { 0 = 1 }

-- two processes hold one tab, which the first owns
abbrev pub at_start : Facts
at_start =
    behind_all facts_after (Opened tab group true 0 ∷ Subscribed 0 group ∷ Subscribed 1 group ∷ []) nothing

-- one field has a new value
abbrev pub one : Field → Value → Changes
one f v = map (λ g. if number g == number f then Some v else None) fields

abbrev pub bundle : ℕ → ℕ → List UpPart → UpBundle
bundle epoch seen parts = record { epoch = record { 0 = epoch }; seen = seen; parts = parts }

-- process p's bundle is heard
abbrev pub hear : ℕ → UpBundle → Facts → Ruling Facts
hear p b f = bundle_ruling (λ f. f) facts_after 2 (λ fld. true) p b f

-- ---- the parent

-- a bundle that the parent hears, its answer, and what each process is sent
pub record ParentRow : Type 0 where
  pub before : Facts
  pub process : ℕ
  pub heard : UpBundle
  pub answer : Answer
  pub to_first : List DownPart
  pub to_second : List DownPart

-- what comes of the bundle of a row
abbrev pub outcome_of : ParentRow → Answer × (List DownPart × List DownPart)
outcome_of r = let ruling = hear r.process r.heard r.before in
    (ruling.answer, (ruling.sends 0, ruling.sends 1))

abbrev pub wanted_of : ParentRow → Answer × (List DownPart × List DownPart)
wanted_of r = (r.answer, (r.to_first, r.to_second))

abbrev pub hears : Facts → ℕ → UpBundle → Answer → List DownPart → List DownPart → ParentRow
hears before p b answer first second = record {
  before = before;
  process = p;
  heard = b;
  answer = answer;
  to_first = first;
  to_second = second;
}

-- the tab is discarded
abbrev pub tab_gone : Facts
tab_gone = facts_after (Removed tab None) at_start

unfoldable pub parent_rows : List ParentRow
parent_rows =
    -- a field that all may write goes to the others
    hears at_start 0 (bundle 1 0 (ups.Commit tab (one DisplayMode (Number 2)) ∷ []))
    (Parts (notes.Commit tab (record { field = DisplayMode; mark = Applied } ∷ []) ∷ []))
    [] (downs.Commit tab (one DisplayMode (Number 2)) ∷ []) ∷
    -- one that only the owner may write goes back, with the parent's value
    hears at_start 1 (bundle 1 0 (ups.Commit tab (one Name (Words (codes "n"))) ∷ []))
    (Parts (notes.Commit tab (record { field = Name; mark = Reverted } ∷ []) ∷ []))
    [] (downs.Commit tab (one Name (Words [])) ∷ []) ∷
    -- one that no process may write ends its writer
    hears at_start 1 (bundle 1 0 (ups.Commit tab (one Muted (Flag true)) ∷ []))
    (EndedBy (Denied tab (record { 0 = 128 }))) [] (downs.Kill ∷ []) ∷
    -- an epoch that isn't due, more taken than was sent, another's id, a part behind a later kind
    hears at_start 1 (bundle 5 0 (ups.Commit tab (one DisplayMode (Number 1)) ∷ []))
    (EndedBy (BadEpoch (record { 0 = 5 }) (record { 0 = 1 }))) [] (downs.Kill ∷ []) ∷
    hears at_start 1 (bundle 0 9 (ups.DropAck tab ∷ [])) (EndedBy (BadStamp 9 0)) [] (downs.Kill ∷ []) ∷
    hears at_start 1 (bundle 0 0 (ups.Create frame tab ∷ []))
    (EndedBy (BadId (ids.Context frame))) [] (downs.Kill ∷ []) ∷
    hears at_start 1 (bundle 1 0 (ups.Commit tab (one DisplayMode (Number 1)) ∷ ups.DropAck tab ∷ []))
    (EndedBy (BadPart 2)) [] (downs.Kill ∷ []) ∷
    -- the end of a process is told to nobody
    hears at_start 1 (bundle 0 0 (ups.Gone ∷ [])) (EndedBy Failed) [] [] ∷
    -- a frame of the owner, and one that is dropped in the same bundle
    hears at_start 0 (bundle 0 0 (ups.Create frame tab ∷ []))
    (Parts (notes.Create frame Done ∷ []))
    [] (downs.Create (record {
      context = frame;
      group = group;
      parent = Some tab;
      owned = false;
      fields = initial_table;
    }) ∷ []) ∷
    hears (facts_after (Made 0 frame tab) at_start) 0 (bundle 0 0 (ups.Drop frame ∷ []))
    (Parts (notes.Drop frame Done ∷ [])) [] (downs.Discard frame ∷ []) ∷
    -- a frame in a tab that is gone is discarded by its maker, and a commit there changes nothing
    hears tab_gone 0 (bundle 0 0 (ups.Create frame tab ∷ []))
    (Parts (notes.Create frame Late ∷ [])) (downs.Discard frame ∷ []) [] ∷
    hears tab_gone 0 (bundle 1 0 (ups.Commit tab (one DisplayMode (Number 1)) ∷ []))
    (Parts (notes.CommitIgnored tab ∷ [])) [] [] ∷ []

-- each row comes to what it says
abbrev pub ParentRowsHold : Type 0
ParentRowsHold = map outcome_of parent_rows ≡ map wanted_of parent_rows

-- whether the group is kept behind sayings
abbrev pub kept_behind : List Saying → Bool
kept_behind ys = (behind_all facts_after ys at_start).groups.kept group

-- a group is kept until the last acknowledgement that is awaited in it
abbrev pub GroupRowsHold : Type 0
GroupRowsHold =
    (kept_behind (Removed tab None ∷ []) ≡ true)
    × (kept_behind (Removed tab None ∷ Acked 0 tab ∷ []) ≡ true)
    × (kept_behind (Removed tab None ∷ Acked 0 tab ∷ Acked 1 tab ∷ []) ≡ false)

-- ---- a process

-- nothing is held
abbrev pub nothing_seen : Seen
nothing_seen = record {
  running = true;
  commits = 0;
  taken = 0;
  frames_made = 0;
  holds = λ x. false;
  group = λ x. None;
  above = λ x. None;
  under = λ x y. false;
  owns = λ x. false;
  value = λ x fld. None;
  newest = λ x fld. 0;
  order = [];
}

-- the tab, as its owner is told of it
abbrev pub tab_known : Known
tab_known = record { context = tab; group = group; parent = None; owned = true; fields = initial_table }

-- the first process
abbrev pub owner : Seen
owner = seen_after 0 (Came tab_known) nothing_seen

abbrev pub takes : Seen → ℕ → List DownPart → Step Seen
takes s epoch parts =
    bundle_step (λ s. s) (seen_after 0) 0 (record { epoch = record { 0 = epoch }; parts = parts }) s

-- the process wrote a field
abbrev pub after_write : Seen
after_write = seen_after 0 (Wrote tab (one DisplayMode (Number 2))) owner

-- a bundle that the process takes, its answer, what it sends, and the field's value then
pub record ProcessRow : Type 0 where
  pub before : Seen
  pub epoch : ℕ
  pub parts : List DownPart
  pub answer : Answer
  pub sends : List UpPart
  pub shown : Option Value

abbrev pub step_of : ProcessRow → Answer × (List UpPart × Option Value)
step_of r = let step = takes r.before r.epoch r.parts in
    (step.answer, (step.sends, step.kept.value tab DisplayMode))

abbrev pub wanted_step : ProcessRow → Answer × (List UpPart × Option Value)
wanted_step r = (r.answer, (r.sends, r.shown))

abbrev pub sees : Seen → ℕ → List DownPart → Answer → List UpPart → Option Value → ProcessRow
sees before epoch parts answer sends shown = record {
  before = before;
  epoch = epoch;
  parts = parts;
  answer = answer;
  sends = sends;
  shown = shown;
}

-- the notes of a commit of one field
abbrev pub commit_answer : FieldMark → Answer
commit_answer mark = Parts (notes.Commit tab (record { field = DisplayMode; mark = mark } ∷ []) ∷ [])

unfoldable pub process_rows : List ProcessRow
process_rows =
    -- what the parent sent before it heard the write is obsolete, and what it sent behind isn't
    sees after_write 0 (downs.Commit tab (one DisplayMode (Number 1)) ∷ [])
    (commit_answer Obsolete) [] (Some (Number 2)) ∷
    sees after_write 1 (downs.Commit tab (one DisplayMode (Number 1)) ∷ [])
    (commit_answer Applied) [] (Some (Number 1)) ∷
    -- a discard is acknowledged, unless the process is told to stop
    sees after_write 0 (downs.Discard tab ∷ []) (Parts (notes.Discard tab ∷ [])) (ups.DropAck tab ∷ []) None ∷
    sees after_write 0 (downs.Discard tab ∷ downs.Kill ∷ [])
    (Parts (notes.Discard tab ∷ notes.Kill ∷ [])) [] None ∷
    -- a context that is told of twice stays as it is
    sees after_write 0 (downs.Create tab_known ∷ [])
    (Parts (notes.Create tab Ignored ∷ [])) [] (Some (Number 2)) ∷ []

abbrev pub ProcessRowsHold : Type 0
ProcessRowsHold = map step_of process_rows ≡ map wanted_step process_rows

-- why the first process is refused
abbrev pub refused_for : Action → Option Refusal
refused_for action = own.refusal 0 owner action

-- a field that no process may write, a context that isn't held, a drop of what is top-level
abbrev pub RefusalRowsHold : Type 0
RefusalRowsHold =
    (refused_for (actions.Set tab (one Muted (Flag true))) ≡ Some (refusals.Denied (record { 0 = 128 })))
    × (refused_for (actions.Frame frame) ≡ Some refusals.NoContext)
    × (refused_for (actions.Drop tab) ≡ Some refusals.NotMine)
    × (refused_for (actions.Frame tab) ≡ None)
