-- What an entry is for a process that is honest, told once for all that is to be shown of it.
use Rattle.std.proofs.Common.{◌≡◌, ◌⊎◌, ℕ, ◌+◌, ◌==◌, Bool, true, false, if◌then◌else◌, Option, None, Some, List, [], ◌∷◌, ◌++◌, length}
use Rattle.std.specs.Prelude.{is_some}
use Rattle.std.specs.List.{AllByRecursion, list_any}
use Rattle.fission_ids.specs.declared.context.ContextId.{ContextId}
use Rattle.fission_ids.specs.declared.group.GroupId.{GroupId}
use Rattle.field_table.specs.declared.field.Field.{Field}
use Rattle.field_table.specs.Table.{initial_table}
use Rattle.transaction.specs.Transaction.{Changes}
use Rattle.wire_msgs.specs.declared.answer.Answer.TheVariants.{Ended as EndedBy}
use Rattle.wire_msgs.specs.declared.bundle.DownBundle.{DownBundle}
use Rattle.wire_msgs.specs.declared.bundle.UpBundle.{UpBundle}
use Rattle.wire_msgs.specs.declared.cause.EndCause.{EndCause}
use Rattle.wire_msgs.specs.declared.cause.EndCause.TheVariants.{Killed}
use Rattle.wire_msgs.specs.declared.note.FieldNote.{FieldNote}
use Rattle.wire_msgs.specs.declared.config.Config.{Config}
use Rattle.wire_msgs.specs.declared.part.DownPart.{DownPart}
use Rattle.wire_msgs.specs.declared.part.DownPart.TheVariants as downs
use Rattle.wire_msgs.specs.declared.part.Known.{Known}
use Rattle.wire_msgs.specs.declared.part.UpPart.{UpPart}
use Rattle.wire_msgs.specs.declared.part.UpPart.TheVariants as ups
use Rattle.protocol.specs.Bundle.{bundle_for}
use Rattle.protocol.specs.Fold.{after_parts, posts_of}
use Rattle.protocol.specs.Commits.{applied, sent_back}
use Rattle.protocol.specs.Hear.{field_notes, frame_known, is_late}
use Rattle.protocol.specs.Order.{in_order}
use Rattle.protocol.specs.OwnActs.{denied_to_process, next_frame}
use Rattle.protocol.specs.Questions.{Facts, option_any, is_subscribed, is_told, is_judged}
use Rattle.protocol.specs.Sayings.{Saying}
use Rattle.protocol.specs.ParentActs.{register_of}
use Rattle.protocol.specs.Sayings.Saying.{Opened, Made, BornDead, Removed, Wrote as SaysWrote, Acked, Subscribed, Counted, Sent, Ended}
use Rattle.protocol.specs.Seen.{Seen}
use Rattle.protocol.specs.Seen.Doing.{Framed, Went, Wrote, Took}
use Rattle.protocol.specs.Take.{take_rules, bundle_sent, is_kill}
use Rattle.traces.specs.Event.{Bundle}
use Rattle.traces.specs.Event.Event.{Writes, Sends, Takes, Accepts, Reverts, Ignores, Ends}
use Rattle.traces.specs.Links.{writes_waiting, bundles_waiting}
use Rattle.model.specs.Moments.{Moment, Written, said, did_by, events_of, facts_now, seen_now, own_known, deed, told, heard, is_done, written}
use Rattle.model.specs.Moments.Written.{Own, Said}
use Rattle.model.specs.Parent.{asked}
use Rattle.model.specs.Process.{own_asked}
use Rattle.model.proofs.Fitting.{SayingFits, MadeFits, BornFits}

-- these, said behind what was said before, fit
abbrev pub FitsOver : Config → List Saying → List Saying → Type 0
FitsOver c old [] = Unit {0}
FitsOver c old (y ∷ ys) = SayingFits (asked c.tabs (ys ++ old)) y × FitsOver c old ys

-- a bundle of one part that a process sends of its own accord
pub record IsSent (s : Seen) (epoch : ℕ) (part : UpPart) (b : UpBundle) : Type 0 where
  pub parts : b.parts ≡ part ∷ []
  pub epoch_is : b.epoch.0 ≡ epoch
  pub seen_is : b.seen ≡ s.taken

-- ---- what is posted to a process as others do something

-- so that one part or none is sent of a change
abbrev pub IsCommitOf : ContextId → Changes → List DownPart → Type 0
IsCommitOf x t ds = (ds ≡ downs.Commit x t ∷ []) ⊎ ((ds ≡ []) × (list_any is_some t ≡ false))

-- a tab's context, as process p is told of it when process q comes to own it
abbrev pub tab_known : ℕ → ContextId → GroupId → ℕ → Known
tab_known p x g q = record { context = x; group = g; parent = None; owned = q == p; fields = initial_table }

-- what process p is sent of a saying, by the answers before it
abbrev pub PostOf : Facts → ℕ → Saying → List DownPart → Type 0
PostOf f p (Opened x g is_new q) ds =
    ds ≡ (if is_subscribed f p g then downs.Create (tab_known p x g q) ∷ [] else [])
PostOf f p (Subscribed q g) ds = ds ≡ (if q == p then register_of f p g ∷ [] else [])
PostOf f p (Made q x a) ds = ds ≡ (if is_told f p a then downs.Create (frame_known f x a) ∷ [] else [])
PostOf f p (Removed w but) ds = ds ≡ (if is_told f p w then downs.Discard w ∷ [] else [])
PostOf f p (SaysWrote x t) ds =
    ((is_told f p x ≡ true) × IsCommitOf x t ds) ⊎ ((is_told f p x ≡ false) × (ds ≡ []))
PostOf f p y ds = ds ≡ []

-- a saying that isn't of process p itself
abbrev pub IsOfOthers : ℕ → Saying → Type 0
IsOfOthers p (Made q x a) = (q == p) ≡ false
IsOfOthers p (BornDead q x a) = (q == p) ≡ false
IsOfOthers p (Counted q) = (q == p) ≡ false
IsOfOthers p (Ended q cause) = (q == p) ≡ false
IsOfOthers p y = Unit {0}

-- what it is sent of all of them, in the order of the sayings, the first one first
pub data Posted (c : Config) (p : ℕ) (old : List Saying) : List Saying → List DownPart → Type 0 where
  NonePosted : Posted c p old [] []
  OnePosted : (y : Saying) (ys : List Saying) (before ds : List DownPart) → Posted c p old ys before → IsOfOthers p y
      → PostOf (asked c.tabs (ys ++ old)) p y ds → Posted c p old (y ∷ ys) (before ++ ds)

-- what is posted is of others
pub others_posted : (c : Config) (p : ℕ) (old ys : List Saying) (ds : List DownPart) → Posted c p old ys ds → AllByRecursion (IsOfOthers p) ys
others_posted c p old _ _ NonePosted = tt
others_posted c p old _ _ (OnePosted y ys before ds posted other post) = (other, others_posted c p old ys before posted)

abbrev pub IsSending : Saying → Type 0
IsSending (Sent q) = Unit {0}
IsSending y = ⊥

abbrev pub IsAck : UpPart → Type 0
IsAck (ups.DropAck x) = Unit {0}
IsAck part = ⊥

-- a bundle was sent, or an acknowledgement came
abbrev pub IsAcking : Saying → Type 0
IsAcking (Acked q x) = Unit {0}
IsAcking (Sent q) = Unit {0}
IsAcking y = ⊥

-- ---- subscriptions

-- a saying that subscribes nobody
abbrev pub IsNoJoin : Saying → Type 0
IsNoJoin (Subscribed q g) = ⊥
IsNoJoin y = Unit {0}

-- a saying that opens a tab in a group
abbrev pub IsOpeningIn : GroupId → Saying → Type 0
IsOpeningIn g (Opened x h is_new q) = h ≡ g
IsOpeningIn g y = ⊥

-- before a subscription nothing is said but that tabs were opened in the group, and behind it but that bundles were
-- sent
abbrev pub JoinsLast : List Saying → Type 0
JoinsLast [] = Unit {0}
JoinsLast (Sent q ∷ ys) = JoinsLast ys
JoinsLast (Subscribed q g ∷ ys) = AllByRecursion (IsOpeningIn g) ys
JoinsLast (y ∷ ys) = AllByRecursion IsNoJoin ys

-- ---- what the process does

module _ (c : Config) (p : ℕ) (ms : List Moment) (m : Moment) where
  abbrev f : Facts
  f = facts_now c ms

  abbrev s : Seen
  s = seen_now c p ms

  -- nothing, and nothing is said
  pub record IsIdle : Type 0 where
    pub says : m.says ≡ []
    pub did : m.did p ≡ []
    pub events : m.events p ≡ []

  -- it writes fields
  pub record IsSet (x : ContextId) (t : Changes) (b : UpBundle) : Type 0 where
    pub says : m.says ≡ []
    pub runs : s.running ≡ true
    pub held : s.holds x ≡ true
    pub allowed : denied_to_process p s x t ≡ []
    pub sent : IsSent s (s.commits + 1) (ups.Commit x t) b
    pub did : m.did p ≡ Wrote x t ∷ []
    pub events : m.events p ≡ Writes (Own b) ∷ []

  -- it makes a frame
  pub record IsFrame (a : ContextId) (b : UpBundle) : Type 0 where
    pub says : m.says ≡ []
    pub runs : s.running ≡ true
    pub held : s.holds a ≡ true
    pub owned : s.owns a ≡ true
    pub few : (s.frames_made == 240) ≡ false
    pub sent : IsSent s s.commits (ups.Create (next_frame p s) a) b
    pub did : m.did p ≡ Framed (next_frame p s) a ∷ []
    pub events : m.events p ≡ Writes (Own b) ∷
        deed (downs.Create (own_known (seen_now c p (m ∷ ms)) (next_frame p s) a)) ∷ []

  -- it drops one
  pub record IsDrop (x : ContextId) (b : UpBundle) : Type 0 where
    pub says : m.says ≡ []
    pub runs : s.running ≡ true
    pub held : s.holds x ≡ true
    pub owned : option_any s.owns (s.above x) ≡ true
    pub sent : IsSent s s.commits (ups.Drop x) b
    pub did : m.did p ≡ Went x ∷ []
    pub events : m.events p ≡ Writes (Own b) ∷ deed (downs.Discard x) ∷ []

  -- it takes a bundle
  pub record IsTake (d : Bundle DownBundle) (rest : List (Bundle DownBundle)) : Type 0 where
    pub says : m.says ≡ []
    pub runs : s.running ≡ true
    pub first : bundles_waiting (events_of p ms) ≡ d ∷ rest
    pub did : m.did p ≡ Took ∷ after_parts (take_rules p d.content.epoch.0)
        (λ did. own_asked c.tabs p (did ++ did_by p ms)) (λ e did. e ∷ did) [] d.content.parts
    pub events : m.events p ≡ written (bundle_sent (seen_now c p (m ∷ ms))
        (if list_any is_kill d.content.parts then []
        else posts_of (take_rules p d.content.epoch.0)
        (λ did. own_asked c.tabs p (did ++ did_by p ms)) (λ e did. e ∷ did) [] d.content.parts))
        ++ Takes d ∷ []

  -- ---- what the parent says

  -- the parent acts, or another's bundle is heard: the process, which isn't ended by it, is told some parts
  pub record IsTold (posts : List DownPart) : Type 0 where
    pub did : m.did p ≡ []
    pub fits : FitsOver c (said ms) m.says
    pub joins : JoinsLast m.says
    pub posted : Posted c p (said ms) m.says posts
    pub events : m.events p ≡ told (length ms + 1) m.says (bundle_for (facts_now c (m ∷ ms)) p (in_order posts)) ∷ []

  -- it is killed
  pub record IsKilled (d : DownBundle) : Type 0 where
    pub did : m.did p ≡ []
    pub running : f.processes.ended p ≡ None
    pub says : m.says ≡ Sent p ∷ Ended p Killed ∷ []
    pub kill : d.parts ≡ downs.Kill ∷ []
    pub events : m.events p ≡ Ends ∷ Sends (length ms + 1) (Said m.says) d ∷ []

  -- ---- the parent hears the bundle that waited first from the process

  -- the parts that a saying is made of, but for bundles that were sent
  pub record Says (core : List Saying) : Type 0 where
    pub sent : List Saying
    pub all_sent : AllByRecursion IsSending sent
    pub is : m.says ≡ sent ++ core

  pub record HeardMade (b : UpBundle) (x a : ContextId) : Type 0 where
    pub did : m.did p ≡ []
    pub parts : b.parts ≡ ups.Create x a ∷ []
    pub says : Says (Made p x a ∷ [])
    pub fits : MadeFits f p x a
    pub events : m.events p ≡ Accepts (length ms + 1) (Own b) ∷ []

  pub record HeardLate (b : UpBundle) (x a : ContextId) (d : DownBundle) : Type 0 where
    pub did : m.did p ≡ []
    pub parts : b.parts ≡ ups.Create x a ∷ []
    pub says : Says (BornDead p x a ∷ [])
    pub fits : BornFits f p x a
    pub late : is_late f p a ≡ true
    pub alive : f.processes.ended p ≡ None
    pub back : d.parts ≡ downs.Discard x ∷ []
    pub events : m.events p ≡ Reverts (length ms + 1) (Own b) d ∷ []

  pub record HeardDrop (b : UpBundle) (x : ContextId) : Type 0 where
    pub did : m.did p ≡ []
    pub parts : b.parts ≡ ups.Drop x ∷ []
    pub says : Says (Removed x (Some p) ∷ [])
    pub live : f.contexts.live x ≡ true
    pub events : m.events p ≡ Accepts (length ms + 1) (Own b) ∷ []

  pub record HeardOldDrop (b : UpBundle) (x : ContextId) : Type 0 where
    pub did : m.did p ≡ []
    pub parts : b.parts ≡ ups.Drop x ∷ []
    pub says : m.says ≡ []
    pub known : f.contexts.known x ≡ true
    pub dead : f.contexts.live x ≡ false
    pub events : m.events p ≡ Ignores (length ms + 1) (Own b) ∷ []

  pub record HeardAcks (b : UpBundle) : Type 0 where
    pub did : m.did p ≡ []
    pub parts : AllByRecursion IsAck b.parts
    pub says : AllByRecursion IsAcking m.says
    pub events : m.events p ≡ Accepts (length ms + 1) (Own b) ∷ []

  -- a commit, of which these fields are applied, and with the rest the parent's values go back
  pub record HeardCommit (b : UpBundle) (x : ContextId) (t : Changes) (ns : List FieldNote) (back : Option DownBundle) : Type 0 where
    pub did : m.did p ≡ []
    pub parts : b.parts ≡ ups.Commit x t ∷ []
    pub says : Says (SaysWrote x (applied ns t) ∷ Counted p ∷ [])
    pub notes : (allows : Field → Bool) × (ns ≡ field_notes allows f p x t)
    pub live : f.contexts.live x ≡ true
    pub told : is_told f p x ≡ true
    pub is_back : back ≡ bundle_for (facts_now c (m ∷ ms)) p (sent_back ns f x)
    pub events : m.events p ≡ heard (length ms + 1) (Own b) m.answer m.says back
    pub done : is_done m.answer ≡ true
    pub runs_on : (cause : EndCause) → m.answer ≡ EndedBy cause → ⊥

  pub record HeardOldCommit (b : UpBundle) (x : ContextId) (t : Changes) : Type 0 where
    pub did : m.did p ≡ []
    pub parts : b.parts ≡ ups.Commit x t ∷ []
    pub says : m.says ≡ Counted p ∷ []
    pub unjudged : is_judged f p x ≡ false
    pub events : m.events p ≡ Ignores (length ms + 1) (Own b) ∷ []

  -- of a process that was ended nothing is heard any more
  pub record HeardOver (b : UpBundle) : Type 0 where
    pub did : m.did p ≡ []
    pub over : is_some (f.processes.ended p) ≡ true
    pub says : m.says ≡ []
    pub events : m.events p ≡ Ignores (length ms + 1) (Own b) ∷ []

  -- what the parent hears
  pub data Hearing (b : UpBundle) : Type 0 where
    AsMade : (x a : ContextId) → HeardMade b x a → Hearing b
    AsLate : (x a : ContextId) (d : DownBundle) → HeardLate b x a d → Hearing b
    AsDrop : (x : ContextId) → HeardDrop b x → Hearing b
    AsOldDrop : (x : ContextId) → HeardOldDrop b x → Hearing b
    AsAcks : HeardAcks b → Hearing b
    AsCommit : (x : ContextId) (t : Changes) (ns : List FieldNote) (back : Option DownBundle) → HeardCommit b x t ns back → Hearing b
    AsOldCommit : (x : ContextId) (t : Changes) → HeardOldCommit b x t → Hearing b
    AsOver : HeardOver b → Hearing b

  -- what an entry is for the process
  pub data Entry : Type 0 where
    Idle : IsIdle → Entry
    Sets : (x : ContextId) (t : Changes) (b : UpBundle) → IsSet x t b → Entry
    Frames : (a : ContextId) (b : UpBundle) → IsFrame a b → Entry
    Drops : (x : ContextId) (b : UpBundle) → IsDrop x b → Entry
    TakesOne : (d : Bundle DownBundle) (rest : List (Bundle DownBundle)) → IsTake d rest → Entry
    Tells : (posts : List DownPart) → IsTold posts → Entry
    Killing : (d : DownBundle) → IsKilled d → Entry
    HearsOne : (b : UpBundle) (rest : List Written) → writes_waiting (events_of p ms) ≡ Own b ∷ rest → Hearing b → Entry
