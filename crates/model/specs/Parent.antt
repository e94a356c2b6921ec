-- The parent's answers by looking back through what it said, the newest saying first.
use Rattle.std.specs.Prelude.{ℕ, ◌+◌, ◌==◌, nat_lt, Bool, true, false, not, ◌&&◌, ◌||◌, if◌then◌else◌}
use Rattle.std.specs.Prelude.{List, [], ◌∷◌, length, filter, insert, Option, None, Some}
use Rattle.std.specs.List.{list_any, position_or_len}
use Rattle.std.specs.Option.{option_map_or}
use Rattle.fission_ids.specs.declared.context.ContextId.{ContextId}
use Rattle.fission_ids.specs.declared.group.GroupId.{GroupId}
use Rattle.fission_ids.specs.declared.process.ProcSet.{ProcSet}
use Rattle.fission_ids.specs.Ids.{same_context}
use Rattle.fission_ids.specs.ProcSet.{has, with}
use Rattle.context_group.specs.declared.acks.Awaited.{Awaited}
use Rattle.context_group.specs.Acks.{acks_with, acks_without, is_due, is_of, is_owed_by}
use Rattle.context_group.specs.Sets.{set_without}
use Rattle.field_table.specs.declared.field.Field.{Field}
use Rattle.field_table.specs.declared.value.Value.{Value}
use Rattle.field_table.specs.Field.{initial}
use Rattle.transaction.specs.Transaction.{new_value}
use Rattle.wire_msgs.specs.declared.cause.EndCause.{EndCause}
use Rattle.wire_msgs.specs.declared.config.StartTab.{StartTab}
use Rattle.protocol.specs.Questions.{Facts, option_any}
use Rattle.protocol.specs.ParentActs.{same_group}
use Rattle.protocol.specs.Sayings.{Saying}
use Rattle.protocol.specs.Sayings.Saying.{Opened, Made, BornDead, Removed, Wrote}
use Rattle.protocol.specs.Sayings.Saying.{Acked, Subscribed, Counted, Sent, Ended}
use Rattle.protocol.specs.Fold.{or_later}
use Rattle.protocol.specs.FactsAfter.{one_if, raised}
use Rattle.protocol.specs.Start.{facts_at_start, is_live, nth_context}

-- ---- contexts

-- whether a context was made
unfoldable pub known : List StartTab → ContextId → List Saying → Bool
known tabs x [] = (facts_at_start tabs).contexts.known x
known tabs x (Opened y g is_new p ∷ older) = if same_context x y then true else known tabs x older
known tabs x (Made p y a ∷ older) = if same_context x y then true else known tabs x older
known tabs x (BornDead p y a ∷ older) = if same_context x y then true else known tabs x older
known tabs x (_ ∷ older) = known tabs x older

-- the group that it was made in: that of the context above a frame
unfoldable pub group : List StartTab → ContextId → List Saying → Option GroupId
group tabs x [] = (facts_at_start tabs).contexts.group x
group tabs x (Opened y g is_new p ∷ older) = if same_context x y then Some g else group tabs x older
group tabs x (Made p y a ∷ older) = if same_context x y then group tabs a older else group tabs x older
group tabs x (BornDead p y a ∷ older) = if same_context x y then group tabs a older else group tabs x older
group tabs x (_ ∷ older) = group tabs x older

-- the context that it was made a frame of
unfoldable pub above : List StartTab → ContextId → List Saying → Option ContextId
above tabs x [] = (facts_at_start tabs).contexts.above x
above tabs x (Opened y g is_new p ∷ older) = if same_context x y then None else above tabs x older
above tabs x (Made p y a ∷ older) = if same_context x y then Some a else above tabs x older
above tabs x (BornDead p y a ∷ older) = if same_context x y then Some a else above tabs x older
above tabs x (_ ∷ older) = above tabs x older

-- whether the first is live, and is the second or below it
unfoldable pub under : List StartTab → ContextId → ContextId → List Saying → Bool
under tabs x z [] = (facts_at_start tabs).contexts.under x z
under tabs x z (Opened y g is_new p ∷ older) =
    if same_context x y then same_context x z || option_any (λ a. under tabs a z older) None
    else under tabs x z older
under tabs x z (Made p y a ∷ older) =
    if same_context x y then same_context x z || under tabs a z older else under tabs x z older
under tabs x z (Removed w but ∷ older) = if under tabs x w older then false else under tabs x z older
under tabs x z (_ ∷ older) = under tabs x z older

-- whether it is live: it was made in time, and neither it nor a context above it was removed
unfoldable pub live : List StartTab → ContextId → List Saying → Bool
live tabs x [] = (facts_at_start tabs).contexts.live x
live tabs x (Opened y g is_new p ∷ older) = if same_context x y then true else live tabs x older
live tabs x (Made p y a ∷ older) = if same_context x y then true else live tabs x older
live tabs x (Removed w but ∷ older) = if under tabs x w older then false else live tabs x older
live tabs x (_ ∷ older) = live tabs x older

-- the owner of a live one: who it was made for, unless that was ended
unfoldable pub owner : List StartTab → ContextId → List Saying → Option ℕ
owner tabs x [] = (facts_at_start tabs).contexts.owner x
owner tabs x (Opened y g is_new p ∷ older) = if same_context x y then Some p else owner tabs x older
owner tabs x (Made p y a ∷ older) = if same_context x y then Some p else owner tabs x older
owner tabs x (Removed w but ∷ older) = if under tabs x w older then None else owner tabs x older
owner tabs x (Ended p cause ∷ older) =
    if option_any (λ q. q == p) (owner tabs x older) then None else owner tabs x older
owner tabs x (_ ∷ older) = owner tabs x older

-- the value of a field of a live one: what was written last, else the initial one
unfoldable pub value : List StartTab → ContextId → Field → List Saying → Option Value
value tabs x f [] = (facts_at_start tabs).contexts.value x f
value tabs x f (Opened y g is_new p ∷ older) =
    if same_context x y then Some (initial f) else value tabs x f older
value tabs x f (Made p y a ∷ older) = if same_context x y then Some (initial f) else value tabs x f older
value tabs x f (Removed w but ∷ older) = if under tabs x w older then None else value tabs x f older
value tabs x f (Wrote y t ∷ older) =
    if same_context x y then or_later (new_value t f) (value tabs x f older) else value tabs x f older
value tabs x f (_ ∷ older) = value tabs x f older

-- the live ones in pre-order: a tab goes to the end, a frame behind all that is in the context above it
unfoldable pub order : List StartTab → List Saying → List ContextId
order tabs [] = (facts_at_start tabs).contexts.order
order tabs (Opened y g is_new p ∷ older) = insert (order tabs older) (length (order tabs older)) y
order tabs (Made p y a ∷ older) =
    insert (order tabs older) (position_or_len (same_context a) (order tabs older)
    + length (filter (λ z. under tabs z a older) (order tabs older))) y
order tabs (Removed w but ∷ older) = filter (λ y. not (under tabs y w older)) (order tabs older)
order tabs (_ ∷ older) = order tabs older

-- ---- groups

-- how many groups were made
unfoldable pub groups_made : List StartTab → List Saying → ℕ
groups_made tabs [] = (facts_at_start tabs).groups.made
groups_made tabs (Opened y g true p ∷ older) = groups_made tabs older + 1
groups_made tabs (_ ∷ older) = groups_made tabs older

-- the subscribers of a group: those of the start and those who came, but for those that were ended
unfoldable pub subscribers : List StartTab → GroupId → List Saying → ProcSet
subscribers tabs g [] = (facts_at_start tabs).groups.subscribers g
subscribers tabs g (Subscribed p h ∷ older) =
    if same_group h g then with (subscribers tabs g older) p else subscribers tabs g older
subscribers tabs g (Ended p cause ∷ older) = set_without p (subscribers tabs g older)
subscribers tabs g (_ ∷ older) = subscribers tabs g older

-- whether a group is kept, and which acknowledgements are awaited in it
pub record Keeping : Type 0 where
  pub kept : Bool
  pub awaited : List Awaited

-- whether a context is of the group, as it was made
abbrev pub is_of_group : List StartTab → GroupId → List Saying → ContextId → Bool
is_of_group tabs g says x = option_any (same_group g) (group tabs x says)

-- whether the group has a live context
abbrev pub has_live : List StartTab → GroupId → List Saying → Bool
has_live tabs g says = list_any (is_of_group tabs g says) (order tabs says)

-- the processes of a set owe the acknowledgement of a context, if the group is its own and is kept
abbrev pub keeping_with : Bool → ProcSet → ContextId → Keeping → Keeping
keeping_with is_own who x k =
    record k { awaited = if is_own && k.kept then acks_with who x k.awaited else k.awaited }

-- a group that was changed is kept only if it has a live context or awaits something
abbrev pub keeping_if : Bool → Bool → Keeping → Keeping
keeping_if is_changed lives k =
    record k { kept = k.kept && (not is_changed || (lives || nat_lt 0 (length k.awaited))) }

-- who is subscribed to the group of a context, but perhaps for one
abbrev pub told_of : List StartTab → ContextId → List Saying → Option ℕ → ProcSet
told_of tabs x says but =
    let all = option_map_or (λ g. subscribers tabs g says) (group tabs x says) (record { 0 = 0 }) in
    option_map_or (λ p. set_without p all) but all

unfoldable pub keeping : List StartTab → GroupId → List Saying → Keeping
keeping tabs g [] = record { kept = is_live tabs (nth_context g.0); awaited = [] }
keeping tabs g (Opened y h true p ∷ older) =
    record (keeping tabs g older) { kept = if same_group h g then true else (keeping tabs g older).kept }
keeping tabs g (BornDead p y a ∷ older) =
    keeping_with (is_of_group tabs g (BornDead p y a ∷ older) y)
    (one_if (option_any (λ h. has (subscribers tabs h older) p) (group tabs y (BornDead p y a ∷ older))) p) y
    (keeping tabs g older)
keeping tabs g (Removed w but ∷ older) =
    keeping_if (is_of_group tabs g older w) (has_live tabs g (Removed w but ∷ older))
    (keeping_with (is_of_group tabs g older w) (told_of tabs w older but) w (keeping tabs g older))
keeping tabs g (Acked p y ∷ older) =
    let k = keeping tabs g older in
    keeping_if (list_any (is_due p y) k.awaited) (has_live tabs g older)
    (record k { awaited = acks_without p (is_of y) k.awaited })
keeping tabs g (Ended p cause ∷ older) =
    let k = keeping tabs g older in
    keeping_if (has (subscribers tabs g older) p || list_any (is_owed_by p) k.awaited)
    (has_live tabs g older) (record k { awaited = acks_without p (λ a. true) k.awaited })
keeping tabs g (_ ∷ older) = keeping tabs g older

-- ---- processes

-- how many bundles with a commit were heard of a process
unfoldable pub commits_heard : ℕ → List Saying → ℕ
commits_heard p [] = 0
commits_heard p (Counted q ∷ older) = raised (p == q) (commits_heard p older)
commits_heard p (_ ∷ older) = commits_heard p older

-- how many bundles were sent to a process
unfoldable pub bundles_sent : ℕ → List Saying → ℕ
bundles_sent p [] = 0
bundles_sent p (Sent q ∷ older) = raised (p == q) (bundles_sent p older)
bundles_sent p (_ ∷ older) = bundles_sent p older

-- why a process was ended, if it was
unfoldable pub ended : ℕ → List Saying → Option EndCause
ended p [] = None
ended p (Ended q cause ∷ older) = if p == q then Some cause else ended p older
ended p (_ ∷ older) = ended p older

-- how many tabs were opened
unfoldable pub tabs_made : List StartTab → List Saying → ℕ
tabs_made tabs [] = (facts_at_start tabs).tabs_made
tabs_made tabs (Opened y g is_new p ∷ older) = tabs_made tabs older + 1
tabs_made tabs (_ ∷ older) = tabs_made tabs older

-- ---- all answers

abbrev pub asked : List StartTab → List Saying → Facts
asked tabs says = record {
  contexts = record {
    known = λ x. known tabs x says;
    group = λ x. group tabs x says;
    above = λ x. above tabs x says;
    live = λ x. live tabs x says;
    under = λ x z. under tabs x z says;
    owner = λ x. owner tabs x says;
    value = λ x f. value tabs x f says;
    order = order tabs says;
  };
  groups = record {
    made = groups_made tabs says;
    kept = λ g. (keeping tabs g says).kept;
    subscribers = λ g. subscribers tabs g says;
    awaited = λ g. (keeping tabs g says).awaited;
  };
  processes = record {
    ended = λ p. ended p says;
    commits_heard = λ p. commits_heard p says;
    bundles_sent = λ p. bundles_sent p says;
    last_load = λ p x. 0;
  };
  tabs_made = tabs_made tabs says;
}
