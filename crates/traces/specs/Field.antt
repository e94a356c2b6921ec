-- What the events of a process are for one field of one context: the contents alone are looked into.
use Rattle.std.specs.Prelude.{ℕ, Option, None, Some, List, [], ◌∷◌}
use Rattle.traces.specs.Event.{Bundle, Event}
use Rattle.traces.specs.Event.Event.{Writes, Sends, Takes, Accepts, Reverts, Ignores, Changes, Does, Ends}
use Rattle.traces.specs.Event.Event.{Rests}

-- what a bundle holds for the field
pub data Content (V : Type 0) : Type 0 where
  Nothing : Content V
  Gives : (value : V) → Content V  -- the field's new value
  Begins : (value : V) → Content V  -- the context comes, with this value
  Removes : Content V  -- the context goes for good
  Leaves : Content V  -- the process is taken out of the context's group, and may come back

-- a write or a change has a value for the field, or none
abbrev pub FieldEvent : Type 0 → Type 0
FieldEvent V = Event (Option V) (Content V)

-- the events of one field of one context, the newest first
abbrev pub Trace : Type 0 → Type 0
Trace V = List (FieldEvent V)

-- how the field is found in a write, and in a bundle
pub record Look (W B V : Type 0) : Type 0 where
  pub value_in : W → Option V  -- what a write has for the field
  pub content_in : B → Content V  -- what a bundle has for it

-- a bundle, looked into
abbrev pub bundle_for : {B V : Type 0} → (B → Content V) → Bundle B → Bundle (Content V)
bundle_for content_in d = record {
  entry = d.entry;
  epoch = d.epoch;
  content = content_in d.content;
}

-- a hear that sends something back: reverted for a field that was written and is given back, and for all
-- others accepted, with a bundle sent in the same entry
abbrev pub reverted_for : {V : Type 0} → ℕ → Option V → Content V → Trace V → Trace V
reverted_for k (Some v) (Gives back) h = Reverts k (Some v) (Gives back) ∷ h
reverted_for k w c h = Sends k None c ∷ Accepts k w ∷ h

-- one event of the process, for the field, over what was before
abbrev pub event_for : {W B V : Type 0} → Look W B V → Event W B → Trace V → Trace V
event_for look (Writes w) h = Writes (look.value_in w) ∷ h
event_for look (Sends k u c) h = Sends k (look.value_in u) (look.content_in c) ∷ h
event_for look (Takes d) h = Takes (bundle_for look.content_in d) ∷ h
event_for look (Accepts k w) h = Accepts k (look.value_in w) ∷ h
event_for look (Reverts k w c) h = reverted_for k (look.value_in w) (look.content_in c) h
event_for look (Ignores k w) h = Ignores k (look.value_in w) ∷ h
event_for look (Changes k u) h = Changes k (look.value_in u) ∷ h
event_for look (Does c) h = Does (look.content_in c) ∷ h
event_for look Ends h = Ends ∷ h
event_for look Rests h = Rests ∷ h

-- the field's trace
abbrev pub trace_for : {W B V : Type 0} → Look W B V → List (Event W B) → Trace V
trace_for look [] = []
trace_for look (e ∷ h) = event_for look e (trace_for look h)
