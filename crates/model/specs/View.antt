-- What each side shows of a field: what a process sees of a journal is told as a trace of that field, and it
-- shows the view of its trace.
use Rattle.std.specs.Prelude.{ℕ, Bool, true, false, List, [], ◌∷◌, ◌++◌, map, Option, None, Some}
use Rattle.std.specs.Prelude.{if◌then◌else◌}
use Rattle.fission_ids.specs.declared.context.ContextId.{ContextId}
use Rattle.fission_ids.specs.Ids.{same_context}
use Rattle.field_table.specs.declared.field.Field.{Field}
use Rattle.field_table.specs.declared.value.Value.{Value}
use Rattle.field_table.specs.Field.{initial}
use Rattle.field_table.specs.Table.{value_in}
use Rattle.transaction.specs.Transaction.{Changes, new_value}
use Rattle.wire_msgs.specs.declared.config.Config.{Config}
use Rattle.wire_msgs.specs.declared.bundle.DownBundle.{DownBundle}
use Rattle.wire_msgs.specs.declared.part.DownPart.{DownPart}
use Rattle.wire_msgs.specs.declared.part.DownPart.TheVariants as downs
use Rattle.wire_msgs.specs.declared.part.Known.{Known}
use Rattle.wire_msgs.specs.declared.part.UpPart.{UpPart}
use Rattle.wire_msgs.specs.declared.part.UpPart.TheVariants as ups
use Rattle.protocol.specs.Fold.{or_later}
use Rattle.protocol.specs.Sayings.{Saying}
use Rattle.protocol.specs.Sayings.Saying.{Wrote}
use Rattle.protocol.specs.Start.{is_held_at_start}
use Rattle.traces.specs.Field.{Content, Look, Trace, trace_for}
use Rattle.traces.specs.Field.Content.{Nothing, Gives, Begins, Removes}
use Rattle.traces.specs.Event.{Bundle}
use Rattle.traces.specs.Event.Event.{Writes}
use Rattle.traces.specs.Laws.{Stands}
use Rattle.traces.specs.Links.{bundles_waiting}
use Rattle.traces.specs.Words.{Start, Stage, Fate, stage, while_held}
use Rattle.traces.specs.Words.Stage.{Held, Coming}
use Rattle.traces.specs.Words.Fate.{Reverted}
use Rattle.traces.specs.Words as words
use Rattle.model.specs.Journal.{Journal}
use Rattle.model.specs.Lines.{Making, makings, line, is_among}
use Rattle.model.specs.Moments.{Moment, Written, ProcessEvent, events_of, facts_now, moments_of}
use Rattle.model.specs.Moments.Written.{Own, Raw, Said}

-- ---- a field of a context, in writes and in bundles

-- the value that changes of a context have for a field of context x
abbrev pub value_for : ContextId → Field → ContextId → Changes → Option Value
value_for x f y t = if same_context x y then new_value t f else None

-- the value that a process's bundle has for it
abbrev pub value_in_parts : ContextId → Field → List UpPart → Option Value
value_in_parts x f [] = None
value_in_parts x f (ups.Commit y t ∷ parts) = or_later (value_for x f y t) (value_in_parts x f parts)
value_in_parts x f (_ ∷ parts) = value_in_parts x f parts

-- the value that the parent said of it last
abbrev pub value_said : ContextId → Field → List Saying → Option Value
value_said x f [] = None
value_said x f (Wrote y t ∷ older) = or_later (value_for x f y t) (value_said x f older)
value_said x f (_ ∷ older) = value_said x f older

abbrev pub value_written : ContextId → Field → Written → Option Value
value_written x f (Own b) = value_in_parts x f b.parts
value_written x f (Raw b) = value_in_parts x f b.parts
value_written x f (Said says) = value_said x f says

-- a new value, unless what is behind it has one or takes the context away
abbrev pub given : Option Value → Content Value → Content Value
given (Some v) Nothing = Gives v
given o c = c

-- a context comes with a value, unless what is behind it has another or takes it away
abbrev pub begun : Value → Content Value → Content Value
begun v Nothing = Begins v
begun v (Gives w) = Begins w
begun v c = c

-- the parts of a bundle, with a context that comes in each in place of those of a group at once
abbrev pub singles : List DownPart → List DownPart
singles [] = []
singles (downs.Register g ks ∷ parts) = map (λ (k : Known). downs.Create k) ks ++ singles parts
singles (part ∷ parts) = part ∷ singles parts

-- what the parent's parts hold for a field of a context with this line
abbrev pub content_of : ContextId → List ContextId → Field → List DownPart → Content Value
content_of x line f [] = Nothing
content_of x line f (downs.Create k ∷ parts) =
    if same_context x k.context then begun (value_in k.fields f) (content_of x line f parts)
    else content_of x line f parts
content_of x line f (downs.Commit y t ∷ parts) = given (value_for x f y t) (content_of x line f parts)
content_of x line f (downs.Discard w ∷ parts) =
    if is_among w line then Removes else content_of x line f parts
content_of x line f (_ ∷ parts) = content_of x line f parts

-- by what is above the context in these makings
abbrev pub look : ContextId → Field → List Making → Look Written DownBundle Value
look x f ms = record {
  value_in = value_written x f;
  content_in = λ d. content_of x (line x ms) f (singles d.parts);
}

-- ---- honest processes

-- whether each bundle that a process sent was of its own acts
abbrev pub all_own : List ProcessEvent → Bool
all_own [] = true
all_own (Writes (Raw b) ∷ h) = false
all_own (_ ∷ h) = all_own h

-- whether process p is honest: it sent no raw bundle
abbrev pub is_honest : Config → ℕ → Journal → Bool
is_honest c p j = all_own (events_of p (moments_of c j))

-- ---- a process's trace of the field

-- how it begins: a process holds the contexts of its tabs
abbrev pub begin : Config → ℕ → ContextId → Field → Start Value
begin c p x f = record { initial = initial f; stage = if is_held_at_start c.tabs p x then Held else Coming }

abbrev pub trace : ℕ → ContextId → Field → List Moment → Trace Value
trace p x f ms = trace_for (look x f (makings p ms)) (events_of p ms)

-- the entry that sent the last bundle that process p took, or 0
abbrev pub base : Config → ℕ → ContextId → Field → Journal → ℕ
base c p x f j = words.base (trace p x f (moments_of c j))

-- the entry up to which process p knows the parent's value: its base, or a later one that accepted its write
abbrev pub point : Config → ℕ → ContextId → Field → Journal → ℕ
point c p x f j = words.point (trace p x f (moments_of c j))

-- the parent's value after entry k, by what concerns process p
abbrev pub value_at : Config → ℕ → ContextId → Field → ℕ → Journal → Value
value_at c p x f k j = words.value_at (begin c p x f).initial k (trace p x f (moments_of c j))

-- the entry of a revert
abbrev pub entry_of_revert : Fate → Option ℕ
entry_of_revert (Reverted k) = Some k
entry_of_revert other = None

-- the entry that reverted the write of process p with number n, if one did
abbrev pub reverted_in : ℕ → Config → ℕ → ContextId → Field → Journal → Option ℕ
reverted_in n c p x f j = entry_of_revert (words.fate n (trace p x f (moments_of c j)))

-- the number of its newest write to it, or 0
abbrev pub newest : Config → ℕ → ContextId → Field → Journal → ℕ
newest c p x f j = words.newest (trace p x f (moments_of c j))

-- whether its write number n is answered: accepted, or reverted and the revert was taken
abbrev pub is_answered : ℕ → Config → ℕ → ContextId → Field → Journal → Bool
is_answered n c p x f j = words.is_answered (begin c p x f).stage n (trace p x f (moments_of c j))

-- a bundle that entry k sent waits for process p, and gives it this value
abbrev pub IsOnItsWay : ℕ → Value → Config → ℕ → ContextId → Field → Journal → Type 0
IsOnItsWay k v c p x f j = Stands k (Gives v) (bundles_waiting (trace p x f (moments_of c j)))

-- the entry that sent the first of these bundles
abbrev pub first_sent : List (Bundle DownBundle) → Option ℕ
first_sent [] = None
first_sent (d ∷ ds) = Some d.entry

-- the entry that sent the bundle that waited first for process p
abbrev pub sent_first : Config → ℕ → Journal → Option ℕ
sent_first c p j = first_sent (bundles_waiting (events_of p (moments_of c j)))

-- what process p shows of it, if it holds the context: its newest own write not yet answered, else the
-- parent's value at its point
unfoldable pub view : Config → ℕ → ContextId → Field → Journal → Option Value
view c p x f j =
    let h = trace p x f (moments_of c j) in
    while_held (stage (begin c p x f).stage h) (words.view (begin c p x f) h)

-- what the parent shows of it, if the context is live
abbrev pub parent_view : Config → ContextId → Field → Journal → Option Value
parent_view c x f j = (facts_now c (moments_of c j)).contexts.value x f
