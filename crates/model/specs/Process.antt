-- The answers of a process by looking back through what it did, the newest first.
use Rattle.std.specs.Prelude.{ℕ, ◌+◌, ◌==◌, Bool, true, false, not, ◌&&◌, ◌||◌, if◌then◌else◌}
use Rattle.std.specs.Prelude.{List, [], ◌∷◌, filter, insert, Option, None, Some, is_some}
use Rattle.fission_ids.specs.declared.context.ContextId.{ContextId}
use Rattle.fission_ids.specs.declared.group.GroupId.{GroupId}
use Rattle.fission_ids.specs.Ids.{same_context}
use Rattle.field_table.specs.declared.field.Field.{Field}
use Rattle.field_table.specs.declared.value.Value.{Value}
use Rattle.field_table.specs.Field.{initial}
use Rattle.field_table.specs.Table.{value_in}
use Rattle.transaction.specs.Transaction.{new_value}
use Rattle.wire_msgs.specs.declared.config.StartTab.{StartTab}
use Rattle.wire_msgs.specs.declared.part.Known.{Known}
use Rattle.protocol.specs.Fold.{or_later}
use Rattle.protocol.specs.Questions.{option_any}
use Rattle.protocol.specs.Seen.{Seen, Doing}
use Rattle.protocol.specs.Seen.Doing.{Came, Framed, Went, Wrote, Given, Disowned, Took, Stopped}
use Rattle.protocol.specs.SeenAfter.{place_among}
use Rattle.protocol.specs.Start.{seen_at_start}
use Rattle.protocol.specs.Take.{option_all}

-- ---- counts

-- whether the process runs
unfoldable pub running : List Doing → Bool
running [] = true
running (Stopped ∷ older) = false
running (_ ∷ older) = running older

-- how many commits the process made
unfoldable pub commits : List Doing → ℕ
commits [] = 0
commits (Wrote x t ∷ older) = commits older + 1
commits (_ ∷ older) = commits older

-- how many bundles it took
unfoldable pub taken : List Doing → ℕ
taken [] = 0
taken (Took ∷ older) = taken older + 1
taken (_ ∷ older) = taken older

-- how many frames it made
unfoldable pub frames_made : List Doing → ℕ
frames_made [] = 0
frames_made (Framed x a ∷ older) = frames_made older + 1
frames_made (_ ∷ older) = frames_made older

-- ---- contexts

-- whether it holds a context from when it is told of it: it doesn't hold it yet, another made it, and the
-- context that it's in is held
abbrev pub comes_if : ℕ → Known → Bool → Bool → Bool
comes_if p k is_held parent_held = not is_held && not (k.context.creator == p + 1) && parent_held

unfoldable mutual
  -- whether it holds a context: it had it from the start, made it or was told of it, and neither it nor a
  -- context above it went
  pub holds : List StartTab → ℕ → ContextId → List Doing → Bool
  holds tabs p x [] = (seen_at_start tabs p).holds x
  holds tabs p x (Came k ∷ older) =
      if comes_if p k (holds tabs p k.context older) (option_all (λ a. holds tabs p a older) k.parent)
      then if same_context x k.context then true else holds tabs p x older
      else holds tabs p x older
  holds tabs p x (Framed y a ∷ older) = if same_context x y then true else holds tabs p x older
  holds tabs p x (Went w ∷ older) = if under tabs p x w older then false else holds tabs p x older
  holds tabs p x (_ ∷ older) = holds tabs p x older

  -- whether the first is held, and is the second or below it
  pub under : List StartTab → ℕ → ContextId → ContextId → List Doing → Bool
  under tabs p x z [] = (seen_at_start tabs p).under x z
  under tabs p x z (Came k ∷ older) =
      if comes_if p k (holds tabs p k.context older) (option_all (λ a. holds tabs p a older) k.parent)
      then if same_context x k.context
      then same_context x z || option_any (λ a. under tabs p a z older) k.parent
      else under tabs p x z older
      else under tabs p x z older
  under tabs p x z (Framed y a ∷ older) =
      if same_context x y then same_context x z || under tabs p a z older else under tabs p x z older
  under tabs p x z (Went w ∷ older) =
      if under tabs p x w older then false else under tabs p x z older
  under tabs p x z (_ ∷ older) = under tabs p x z older

-- the same of a context that it is told of
abbrev pub comes : List StartTab → ℕ → Known → List Doing → Bool
comes tabs p k did =
    comes_if p k (holds tabs p k.context did) (option_all (λ a. holds tabs p a did) k.parent)

-- the group of a held context
unfoldable pub group : List StartTab → ℕ → ContextId → List Doing → Option GroupId
group tabs p x [] = (seen_at_start tabs p).group x
group tabs p x (Came k ∷ older) =
    if comes tabs p k older then if same_context x k.context then Some k.group else group tabs p x older
    else group tabs p x older
group tabs p x (Framed y a ∷ older) =
    if same_context x y then group tabs p a older else group tabs p x older
group tabs p x (Went w ∷ older) = if under tabs p x w older then None else group tabs p x older
group tabs p x (_ ∷ older) = group tabs p x older

-- the context that a held one is a frame of
unfoldable pub above : List StartTab → ℕ → ContextId → List Doing → Option ContextId
above tabs p x [] = (seen_at_start tabs p).above x
above tabs p x (Came k ∷ older) =
    if comes tabs p k older then if same_context x k.context then k.parent else above tabs p x older
    else above tabs p x older
above tabs p x (Framed y a ∷ older) = if same_context x y then Some a else above tabs p x older
above tabs p x (Went w ∷ older) = if under tabs p x w older then None else above tabs p x older
above tabs p x (_ ∷ older) = above tabs p x older

-- whether it owns a held context
unfoldable pub owns : List StartTab → ℕ → ContextId → List Doing → Bool
owns tabs p x [] = (seen_at_start tabs p).owns x
owns tabs p x (Came k ∷ older) =
    if comes tabs p k older then if same_context x k.context then k.owned else owns tabs p x older
    else owns tabs p x older
owns tabs p x (Framed y a ∷ older) = if same_context x y then true else owns tabs p x older
owns tabs p x (Went w ∷ older) = if under tabs p x w older then false else owns tabs p x older
owns tabs p x (Disowned y ∷ older) = if same_context x y then false else owns tabs p x older
owns tabs p x (_ ∷ older) = owns tabs p x older

-- the value of a field of a held context: the last one that it wrote or was given, else the one that it came,
-- was made or began with
unfoldable pub value : List StartTab → ℕ → ContextId → Field → List Doing → Option Value
value tabs p x f [] = (seen_at_start tabs p).value x f
value tabs p x f (Came k ∷ older) =
    if comes tabs p k older
    then if same_context x k.context then Some (value_in k.fields f) else value tabs p x f older
    else value tabs p x f older
value tabs p x f (Framed y a ∷ older) =
    if same_context x y then Some (initial f) else value tabs p x f older
value tabs p x f (Went w ∷ older) = if under tabs p x w older then None else value tabs p x f older
value tabs p x f (Wrote y t ∷ older) =
    if same_context x y then or_later (new_value t f) (value tabs p x f older) else value tabs p x f older
value tabs p x f (Given y t ∷ older) =
    if same_context x y then or_later (new_value t f) (value tabs p x f older) else value tabs p x f older
value tabs p x f (_ ∷ older) = value tabs p x f older

-- the number of its newest write to a field of a held context since that came, or 0
unfoldable pub newest : List StartTab → ℕ → ContextId → Field → List Doing → ℕ
newest tabs p x f [] = 0
newest tabs p x f (Came k ∷ older) =
    if comes tabs p k older then if same_context x k.context then 0 else newest tabs p x f older
    else newest tabs p x f older
newest tabs p x f (Framed y a ∷ older) = if same_context x y then 0 else newest tabs p x f older
newest tabs p x f (Went w ∷ older) = if under tabs p x w older then 0 else newest tabs p x f older
newest tabs p x f (Wrote y t ∷ older) =
    if same_context x y && is_some (new_value t f) then commits older + 1 else newest tabs p x f older
newest tabs p x f (_ ∷ older) = newest tabs p x f older

-- where a context goes among the held ones
abbrev pub place : List StartTab → ℕ → List Doing → ContextId → Option ContextId → List ContextId → ℕ
place tabs p did x parent held =
    place_among (λ y. above tabs p y did) (λ y z. under tabs p y z did) held x parent

-- those that it holds, in pre-order
unfoldable pub order : List StartTab → ℕ → List Doing → List ContextId
order tabs p [] = (seen_at_start tabs p).order
order tabs p (Came k ∷ older) =
    if comes tabs p k older
    then insert (order tabs p older) (place tabs p older k.context k.parent (order tabs p older)) k.context
    else order tabs p older
order tabs p (Framed y a ∷ older) =
    insert (order tabs p older) (place tabs p older y (Some a) (order tabs p older)) y
order tabs p (Went w ∷ older) = filter (λ y. not (under tabs p y w older)) (order tabs p older)
order tabs p (_ ∷ older) = order tabs p older

-- ---- all answers

abbrev pub own_asked : List StartTab → ℕ → List Doing → Seen
own_asked tabs p did = record {
  running = running did;
  commits = commits did;
  taken = taken did;
  frames_made = frames_made did;
  holds = λ x. holds tabs p x did;
  group = λ x. group tabs p x did;
  above = λ x. above tabs p x did;
  under = λ x z. under tabs p x z did;
  owns = λ x. owns tabs p x did;
  value = λ x f. value tabs p x f did;
  newest = λ x f. newest tabs p x f did;
  order = order tabs p did;
}
