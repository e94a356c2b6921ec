-- What the doings of a process make of what it keeps, while a step works on it.
use Rattle.std.specs.Prelude.{◌≡◌, ◌==◌, ℕ, true, false, List, length, Option, Some, None, if◌then◌else◌}
use Rattle.std.specs.FinMap.{get, insert}
use Rattle.fission_ids.specs.declared.context.ContextId.{ContextId}
use Rattle.fission_ids.specs.Ids.{same_context}
use Rattle.field_table.specs.Field.{fields}
use Rattle.field_table.specs.Table.{Table, initial_table}
use Rattle.epochs.specs.FieldEpochs.{no_epochs}
use Rattle.context_tree.specs.Tree.{nodes_after, without, is_under}
use Rattle.wire_msgs.specs.declared.config.StartTab.{StartTab}
use Rattle.wire_msgs.specs.declared.note.PartNote.{PartNote}
use Rattle.wire_msgs.specs.declared.part.DownPart.{DownPart}
use Rattle.protocol.specs.Seen.{Doing}
use Rattle.protocol.specs.SeenAfter.{seen_after}
use Rattle.protocol.specs.Fold.{behind_all, after_part, after_parts, notes_of}
use Rattle.protocol.specs.Start.{seen_at_start, nth_context, is_of_tab}
use Rattle.protocol.specs.Take.{take_rules}
use Rattle.content_core.specs.declared.contexts.Contexts.{Contexts}
use Rattle.content_core.specs.declared.hold.Hold.{Hold}
use Rattle.content_core.specs.declared.held.Held.{Held}
use Rattle.content_core.specs.Content.{Kept, IsWhole, seen_of, hold_of}

-- what is kept
abbrev pub kept_of : Held → Kept
kept_of h = record {
  process = h.process.0;
  nodes = h.contexts.tree;
  contexts = h.contexts.store;
  holds = h.contexts.holds.entries;
  commits = h.clock;
  taken = h.taken;
  frames_made = h.frames_made;
  running = h.running;
}

-- process p before any step, where it holds these contexts
abbrev pub kept_at_start : ℕ → Contexts → Kept
kept_at_start p contexts = record {
  process = p;
  nodes = contexts.tree;
  contexts = contexts.store;
  holds = contexts.holds.entries;
  commits = 0;
  taken = 0;
  frames_made = 0;
  running = true;
}

-- these are the contexts that process p holds at the start, with these tabs
pub record AreAtStart (tabs : List StartTab) (p : ℕ) (contexts : Contexts) : Type 0 where
  pub whole : IsWhole (kept_at_start p contexts)
  pub seen : seen_of (kept_at_start p contexts) ≡ seen_at_start tabs p

-- a context more is held, as the last child of its parent, and nothing of it was written
pub record HoldsMore (x : ContextId) (parent : Option ContextId) (hold : Hold) (values : Table)
    (old new : Contexts) : Type 0 where
  pub long : length values ≡ length fields
  pub tree : new.tree ≡ nodes_after parent x old.tree
  pub store : new.store ≡ insert old.store x (record { fields = values; epochs = no_epochs })
  pub holds : (y : ContextId) → hold_of y new.holds.entries ≡
      (if same_context x y then Some hold else hold_of y old.holds.entries)

-- the context of a tab, with this serial, is held where process p has the tab
pub record AddsTab (p : ℕ) (tab : StartTab) (serial : ℕ) (old new : Contexts) : Type 0 where
  pub its : is_of_tab p (Some tab) ≡ true →
      HoldsMore (nth_context serial) None
      (record { group = record { 0 = serial }; owned = tab.owner.0 == p }) initial_table old new
  pub other : is_of_tab p (Some tab) ≡ false → new ≡ old

-- a context and all below it are held no more
pub record HoldsLess (x : ContextId) (old new : Contexts) : Type 0 where
  pub tree : new.tree ≡ without x old.tree
  pub store : (y : ContextId) →
      get new.store y ≡ (if is_under y x old.tree then None else get old.store y)
  pub holds : (y : ContextId) → hold_of y new.holds.entries ≡
      (if is_under y x old.tree then None else hold_of y old.holds.entries)

-- the answers behind are those behind a doing
pub record Does (did : Doing) (old new : Kept) : Type 0 where
  pub process : new.process ≡ old.process
  pub taken : new.taken ≡ old.taken
  pub seen : seen_of new ≡ seen_after old.process did (seen_of old)
  pub whole : IsWhole new

-- the answers behind are those behind doings, the first one first
pub record DoesAll (dids : List Doing) (old new : Kept) : Type 0 where
  pub process : new.process ≡ old.process
  pub taken : new.taken ≡ old.taken
  pub seen : seen_of new ≡ behind_all (seen_after old.process) dids (seen_of old)
  pub whole : IsWhole new

-- a part is taken, in a bundle of an epoch
pub record TakesPart (part : DownPart) (epoch : ℕ) (told : PartNote) (old new : Kept) : Type 0 where
  pub process : new.process ≡ old.process
  pub taken : new.taken ≡ old.taken
  pub seen : seen_of new ≡
      after_part (take_rules old.process epoch) (λ s. s) (seen_after old.process) part (seen_of old)
  pub note : told ≡ (take_rules old.process epoch).note (seen_of old) part
  pub whole : IsWhole new

-- all parts of a bundle are taken
pub record TakesParts (parts : List DownPart) (epoch : ℕ) (told : List PartNote)
    (old new : Kept) : Type 0 where
  pub process : new.process ≡ old.process
  pub taken : new.taken ≡ old.taken
  pub seen : seen_of new ≡
      after_parts (take_rules old.process epoch) (λ s. s) (seen_after old.process) (seen_of old) parts
  pub notes : told ≡
      notes_of (take_rules old.process epoch) (λ s. s) (seen_after old.process) (seen_of old) parts
  pub whole : IsWhole new
