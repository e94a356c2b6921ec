-- What a context was made below: fixed when it was made, and told of contexts too that a side doesn't hold or
-- know. What a process made counts from then on, though the parent hears of it later.
use Rattle.std.specs.Prelude.{ℕ, Bool, List, [], ◌∷◌, ◌++◌, Option, None, Some, if◌then◌else◌}
use Rattle.std.specs.List.{list_any}
use Rattle.fission_ids.specs.declared.context.ContextId.{ContextId}
use Rattle.fission_ids.specs.declared.group.GroupId.{GroupId}
use Rattle.fission_ids.specs.Ids.{same_context}
use Rattle.wire_msgs.specs.declared.config.StartTab.{StartTab}
use Rattle.protocol.specs.Fold.{or_later}
use Rattle.protocol.specs.Sayings.{Saying}
use Rattle.protocol.specs.Sayings.Saying.{Opened, Made, BornDead}
use Rattle.protocol.specs.Seen.{Doing}
use Rattle.protocol.specs.Seen.Doing.{Framed}
use Rattle.protocol.specs.Start.{group_of}
use Rattle.model.specs.Moments.{Moment}

-- how a context was made: below another, or top-level in a group
pub data Making : Type 0 where
  Below : (made above : ContextId) → Making
  Top : (made : ContextId) (group : GroupId) → Making

-- those that the parent said
abbrev pub makings_said : List Saying → List Making
makings_said [] = []
makings_said (Opened x g is_new p ∷ older) = Top x g ∷ makings_said older
makings_said (Made p x above ∷ older) = Below x above ∷ makings_said older
makings_said (BornDead p x above ∷ older) = Below x above ∷ makings_said older
makings_said (_ ∷ older) = makings_said older

-- those of a process itself
abbrev pub makings_done : List Doing → List Making
makings_done [] = []
makings_done (Framed x above ∷ older) = Below x above ∷ makings_done older
makings_done (_ ∷ older) = makings_done older

-- all that process p could know of, the newest first
abbrev pub makings : ℕ → List Moment → List Making
makings p [] = []
makings p (m ∷ ms) = (makings_said m.says ++ makings_done (m.did p)) ++ makings p ms

-- a context and those above it, the nearest first
abbrev pub line : ContextId → List Making → List ContextId
line x [] = x ∷ []
line x (Below y above ∷ older) = if same_context x y then x ∷ line above older else line x older
line x (Top y g ∷ older) = line x older

-- the context above, if there is one
abbrev pub above_in : List Making → ContextId → Option ContextId
above_in [] x = None
above_in (Below y above ∷ older) x = if same_context x y then Some above else above_in older x
above_in (Top y g ∷ older) x = above_in older x

-- whether a context is in a line
abbrev pub is_among : ContextId → List ContextId → Bool
is_among x xs = list_any (same_context x) xs

-- the top-level context that it is below, or itself
abbrev pub root : ContextId → List Making → ContextId
root x [] = x
root x (Below y above ∷ older) = if same_context x y then root above older else root x older
root x (Top y g ∷ older) = root x older

-- the group in which a top-level context was made later
abbrev pub opened_in : List Making → ContextId → Option GroupId
opened_in [] x = None
opened_in (Below y above ∷ older) x = opened_in older x
opened_in (Top y g ∷ older) x = if same_context x y then Some g else opened_in older x

-- the group of a context: that of its top-level one, from the start or from its making on
abbrev pub group_in : List StartTab → List Making → ContextId → Option GroupId
group_in tabs ms x = or_later (group_of tabs (root x ms)) (opened_in ms (root x ms))
