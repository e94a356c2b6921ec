-- What each entry came to, by looking back through those before it.
use Rattle.std.specs.Prelude.{ℕ, ◌+◌, ◌==◌, Bool, true, false, if◌then◌else◌}
use Rattle.std.specs.Prelude.{List, [], ◌∷◌, ◌++◌, length, Option, None, Some, unwrap_or}
use Rattle.std.specs.List.{list_any}
use Rattle.fission_ids.specs.declared.context.ContextId.{ContextId}
use Rattle.field_table.specs.declared.field.Field.{Field}
use Rattle.field_table.specs.Table.{initial_table}
use Rattle.wire_msgs.specs.declared.action.Action.{Action}
use Rattle.wire_msgs.specs.declared.answer.Answer.{Answer}
use Rattle.wire_msgs.specs.declared.answer.Answer.TheVariants.{Parts, Ended as EndedBy, Done, Refused}
use Rattle.wire_msgs.specs.declared.bundle.DownBundle.{DownBundle}
use Rattle.wire_msgs.specs.declared.bundle.UpBundle.{UpBundle}
use Rattle.wire_msgs.specs.declared.config.Config.{Config}
use Rattle.wire_msgs.specs.declared.note.PartNote.{PartNote}
use Rattle.wire_msgs.specs.declared.note.PartNote.TheVariants as notes
use Rattle.wire_msgs.specs.declared.note.Mark.TheVariants.{Ignored}
use Rattle.wire_msgs.specs.declared.part.DownPart.{DownPart}
use Rattle.wire_msgs.specs.declared.part.DownPart.TheVariants.{Create, Discard}
use Rattle.wire_msgs.specs.declared.part.Known.{Known}
use Rattle.wire_msgs.specs.declared.refusal.Refusal.TheVariants.{Stopped, Empty}
use Rattle.journal.specs.declared.entry.Step.{Step}
use Rattle.journal.specs.declared.entry.Step.TheVariants.{Act, Take, Raw as RawStep, ParentAct, Hear}
use Rattle.protocol.specs.Questions.{Facts}
use Rattle.protocol.specs.Sayings.{Saying}
use Rattle.protocol.specs.Sayings.Saying.{Ended}
use Rattle.protocol.specs.Seen.{Seen, Doing}
use Rattle.protocol.specs.Seen.Doing.{Framed, Went}
use Rattle.protocol.specs.Bundle.{Ruling, bundle_ruling, bundle_for}
use Rattle.protocol.specs.ParentActs.{action_ruling}
use Rattle.protocol.specs.Take.{bundle_step, bundle_sent}
use Rattle.protocol.specs.OwnActs.{action_step}
use Rattle.protocol.specs.Outside.{told_allowed}
use Rattle.traces.specs.Event.{Event, Bundle}
use Rattle.traces.specs.Event.Event.{Writes, Sends, Takes, Accepts, Reverts, Ignores}
use Rattle.traces.specs.Event.Event.{Changes, Does, Ends}
use Rattle.traces.specs.Links.{writes_waiting, bundles_waiting}
use Rattle.model.specs.Journal.{Journal}
use Rattle.model.specs.Parent.{asked}
use Rattle.model.specs.Process.{own_asked}

-- what a write or a change is, in the events of a process: a bundle of its own acts, one that is none of
-- them, or what the parent said in an entry
pub data Written : Type 0 where
  Own : (bundle : UpBundle) → Written
  Raw : (bundle : UpBundle) → Written
  Said : (says : List Saying) → Written

-- an event of a process
abbrev pub ProcessEvent : Type 0
ProcessEvent = Event Written DownBundle

-- what an entry came to: what the parent said, what each process did, and the events of each process, each
-- with the newest first, and its answer
pub record Moment : Type 0 where
  pub says : List Saying
  pub did : ℕ → List Doing
  pub events : ℕ → List ProcessEvent
  pub answer : Answer

-- ---- what a list of moments tells, the newest first

abbrev pub said : List Moment → List Saying
said [] = []
said (m ∷ ms) = m.says ++ said ms

abbrev pub did_by : ℕ → List Moment → List Doing
did_by p [] = []
did_by p (m ∷ ms) = m.did p ++ did_by p ms

abbrev pub events_of : ℕ → List Moment → List ProcessEvent
events_of p [] = []
events_of p (m ∷ ms) = m.events p ++ events_of p ms

-- the parent's answers
abbrev pub facts_now : Config → List Moment → Facts
facts_now c ms = asked c.tabs (said ms)

-- those of a process
abbrev pub seen_now : Config → ℕ → List Moment → Seen
seen_now c p ms = own_asked c.tabs p (did_by p ms)

-- ---- what an entry comes to

-- a list for one process, and nothing for the others
abbrev pub for_one : {X : Type 0} → ℕ → List X → ℕ → List X
for_one p xs q = if q == p then xs else []

-- nothing but an answer
abbrev pub only_answer : Answer → Moment
only_answer a = record { says = []; did = λ q. []; events = λ q. []; answer = a }

-- the event of a process that sends this, if it sends anything
abbrev pub written : Option UpBundle → List ProcessEvent
written None = []
written (Some b) = Writes (Own b) ∷ []

-- a frame that a process made, as it would be told of it
abbrev pub own_known : Seen → ContextId → ContextId → Known
own_known s x above = record {
  context = x;
  group = unwrap_or (s.group x) (record { 0 = 0 });
  parent = Some above;
  owned = true;
  fields = initial_table;
}

-- a part that a process does by itself, as a bundle that has it
abbrev pub deed : DownPart → ProcessEvent
deed part = Does (record { epoch = record { 0 = 0 }; parts = part ∷ [] })

-- the events of what a process made and dropped by itself
abbrev pub deeds : Seen → List Doing → List ProcessEvent
deeds s [] = []
deeds s (Framed x above ∷ did) = deed (Create (own_known s x above)) ∷ deeds s did
deeds s (Went x ∷ did) = deed (Discard x) ∷ deeds s did
deeds s (_ ∷ did) = deeds s did

-- a process acts; what it did is added to what it did before
abbrev pub act_moment : Config → ℕ → Action → List Moment → Moment
act_moment c p action ms =
    let now : List Doing → Seen = λ did. own_asked c.tabs p (did ++ did_by p ms) in
    let step = action_step now (λ d did. d ∷ did) p action [] in
    record {
      says = [];
      did = for_one p step.kept;
      events =
          for_one p (written (bundle_sent (now step.kept) step.sends) ++ deeds (now step.kept) step.kept);
      answer = step.answer;
    }

-- a process takes the bundle that waited first
abbrev pub taken_moment : Config → ℕ → List Moment → List (Bundle DownBundle) → Moment
taken_moment c p ms [] = only_answer (Refused Empty)
taken_moment c p ms (b ∷ bs) =
    let now : List Doing → Seen = λ did. own_asked c.tabs p (did ++ did_by p ms) in
    let step = bundle_step now (λ d did. d ∷ did) p b.content [] in
    record {
      says = [];
      did = for_one p step.kept;
      events = for_one p (written (bundle_sent (now step.kept) step.sends) ++ Takes b ∷ []);
      answer = step.answer;
    }

-- a process sends a bundle that is none of its own acts
abbrev pub raw_moment : ℕ → UpBundle → Moment
raw_moment p b = record {
  says = [];
  did = λ q. [];
  events = for_one p (Writes (Raw b) ∷ []);
  answer = Done;
}

-- a step of a process, unless it stopped
abbrev pub if_running : Config → ℕ → List Moment → Moment → Moment
if_running c p ms m = if (seen_now c p ms).running then m else only_answer (Refused Stopped)

-- whether a process was ended by a saying
abbrev pub is_end_of : ℕ → Saying → Bool
is_end_of p (Ended q cause) = p == q
is_end_of p y = false

-- the event of a process that is ended by one of these, if it is
abbrev pub ends : ℕ → List Saying → List ProcessEvent
ends p says = if list_any (is_end_of p) says then Ends ∷ [] else []

-- the event of a process that is sent this in entry k, in which the parent said this
abbrev pub told : ℕ → List Saying → Option DownBundle → ProcessEvent
told k says None = Changes k (Said says)
told k says (Some d) = Sends k (Said says) d

-- what process q is sent by a ruling behind these moments
abbrev pub sent_to : Config → List Moment → Ruling (List Saying) → ℕ → Option DownBundle
sent_to c ms rule q = bundle_for (asked c.tabs (rule.kept ++ said ms)) q (rule.sends q)

-- the parent acts
abbrev pub parent_moment : Config → List Moment → Ruling (List Saying) → Moment
parent_moment c ms rule = record {
  says = rule.kept;
  did = λ q. [];
  events = λ q. ends q rule.kept ++ told (length ms + 1) rule.kept (sent_to c ms rule q) ∷ [];
  answer = rule.answer;
}

-- whether the parent did something with a part
abbrev pub is_done_with : PartNote → Bool
is_done_with (notes.Drop x Ignored) = false
is_done_with (notes.CommitIgnored x) = false
is_done_with note = true

-- whether it did something with a bundle
abbrev pub is_done : Answer → Bool
is_done (Parts ns) = list_any is_done_with ns
is_done answer = false

-- the events of the process whose bundle the parent hears in entry k, by what it is sent
abbrev pub heard : ℕ → Written → Answer → List Saying → Option DownBundle → List ProcessEvent
heard k w (EndedBy cause) says None = Ignores k w ∷ []
heard k w (EndedBy cause) says (Some d) = Sends k (Said says) d ∷ Ignores k w ∷ []
heard k w answer says None = (if is_done answer then Accepts k w else Ignores k w) ∷ []
heard k w answer says (Some d) = Reverts k w d ∷ []

-- the events of each process as the parent hears a bundle of process p
abbrev pub events_heard : Config → ℕ → List Moment → Written → Ruling (List Saying) → ℕ
    → List ProcessEvent
events_heard c p ms w rule q =
    ends q rule.kept ++ (if q == p then heard (length ms + 1) w rule.answer rule.kept (sent_to c ms rule p)
    else told (length ms + 1) rule.kept (sent_to c ms rule q) ∷ [])

-- the parent hears a bundle of process p; the test says of which fields the functions of the outside allow
-- the value
abbrev pub bundle_moment : Config → ℕ → List Moment → (Field → Bool) → Written → UpBundle → Moment
bundle_moment c p ms allows w b =
    let rule : Ruling (List Saying) =
    bundle_ruling (λ says. asked c.tabs (says ++ said ms)) (λ y says. y ∷ says)
    (length c.types) allows p b [] in
    record {
      says = rule.kept;
      did = λ q. [];
      events = events_heard c p ms w rule;
      answer = rule.answer;
    }

-- it hears the one that waited first
abbrev pub heard_moment : Config → ℕ → List Moment → (Field → Bool) → List Written → Moment
heard_moment c p ms allows (Own b ∷ rest) = bundle_moment c p ms allows (Own b) b
heard_moment c p ms allows (Raw b ∷ rest) = bundle_moment c p ms allows (Raw b) b
heard_moment c p ms allows others = only_answer (Refused Empty)

-- what a step comes to
abbrev pub moment : Config → List Moment → (Field → Bool) → Step → Moment
moment c ms allows (Act p action) = act_moment c p.0 action ms
moment c ms allows (Take p) =
    if_running c p.0 ms (taken_moment c p.0 ms (bundles_waiting (events_of p.0 ms)))
moment c ms allows (RawStep p b) = if_running c p.0 ms (raw_moment p.0 b)
moment c ms allows (ParentAct action) = parent_moment c ms
    (action_ruling (λ says. asked c.tabs (says ++ said ms)) (λ y says. y ∷ says) (length c.types) action [])
moment c ms allows (Hear p) = heard_moment c p.0 ms allows (writes_waiting (events_of p.0 ms))

-- the moments of the entries of a journal, the newest first; what the functions of the outside allowed is
-- read back from the notes of each
unfoldable pub moments_of : Config → Journal → List Moment
moments_of c [] = []
moments_of c (e ∷ older) =
    moment c (moments_of c older) (told_allowed e.answer) e.step ∷ moments_of c older
