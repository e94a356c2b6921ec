-- What the parent keeps, and what it answers by it.
use Rattle.std.specs.Prelude.{◌≡◌, ℕ, ◌<◌, ◌≤◌, ◌==◌, Bool, true, if◌then◌else◌, List, [], ◌∷◌}
use Rattle.std.specs.Prelude.{length, filter, slice_index_or, Option, None, Some, is_some, option_and_then}
use Rattle.std.specs.List.{AllByRecursion}
use Rattle.std.specs.Map.{lookup}
use Rattle.std.specs.Option.{option_map}
use Rattle.fission_ids.specs.declared.context.ContextId.{ContextId}
use Rattle.fission_ids.specs.declared.group.GroupId.{GroupId}
use Rattle.fission_ids.specs.Ids.{same_context}
use Rattle.context_tree.specs.Node.{Node}
use Rattle.context_tree.specs.Tree.{IsTree, contexts, is_held, is_under, parent_in}
use Rattle.context_group.specs.declared.group.Group.{Group}
use Rattle.context_group.specs.Groups.{AreSound, group_at, is_kept}
use Rattle.context_store.specs.Content.{Content, is_there}
use Rattle.wire_msgs.specs.Config.{ConfigFits}
use Rattle.wire_msgs.specs.declared.config.Config.{Config}
use Rattle.wire_msgs.specs.declared.cause.EndCause.{EndCause}
use Rattle.protocol.specs.Questions.{Facts, option_any}
use Rattle.protocol.specs.ParentActs.{same_group}
use Rattle.parent_core.specs.Contents.{value_at}
use Rattle.parent_core.specs.declared.origin.Origin.{Origin}

-- of a process: how many bundles with a commit were heard of it, and how many bundles were sent to it
pub record Counted : Type 0 where
  pub heard : ℕ
  pub sent : ℕ

-- a process that was ended, and why
pub record End : Type 0 where
  pub process : ℕ
  pub cause : EndCause

-- its configuration, the tree of the live contexts, their fields, what was fixed when each context was made,
-- live or not, the groups, the counts of each process, the processes that were ended, the newest first, and
-- how many contexts the parent made
pub record Kept : Type 0 where
  pub config : Config
  pub nodes : List Node
  pub contexts : Content
  pub origins : List (ContextId × Origin)
  pub groups : List Group
  pub processes : List Counted
  pub ends : List End
  pub tabs : ℕ

-- ---- what was fixed when a context was made

abbrev pub origin_of : ContextId → List (ContextId × Origin) → Option Origin
origin_of x origins = lookup (same_context x) origins

-- whether it was made
abbrev pub is_known : ContextId → List (ContextId × Origin) → Bool
is_known x origins = is_some (origin_of x origins)

-- its group
abbrev pub group_in : ContextId → List (ContextId × Origin) → Option GroupId
group_in x origins = option_map (λ o. o.group) (origin_of x origins)

-- the context that it is a frame of
abbrev pub above_in : ContextId → List (ContextId × Origin) → Option ContextId
above_in x origins = option_and_then (λ o. o.parent) (origin_of x origins)

-- the process that owned it first
abbrev pub owner_in : ContextId → List (ContextId × Origin) → Option ℕ
owner_in x origins = option_map (λ o. o.owner.0) (origin_of x origins)

-- whether it is of this group
abbrev pub is_of_group : GroupId → List (ContextId × Origin) → ContextId → Bool
is_of_group g origins x = option_any (same_group g) (group_in x origins)

-- how many of these are of this group
abbrev pub count_in : GroupId → List (ContextId × Origin) → List ContextId → ℕ
count_in g origins xs = length (filter (is_of_group g origins) xs)

-- ---- processes

-- the counts of a process; 0 where there is no such process
abbrev pub counted_of : ℕ → List Counted → Counted
counted_of p processes = slice_index_or processes p (record { heard = 0; sent = 0 })

-- why a process was ended, if it was
abbrev pub cause_of : ℕ → List End → Option EndCause
cause_of q [] = None
cause_of q (e ∷ older) = if q == e.process then Some e.cause else cause_of q older

-- an owner, unless it is p
abbrev pub owner_without : ℕ → Option ℕ → Option ℕ
owner_without p o = if option_any (λ q. q == p) o then None else o

-- an owner, if it wasn't ended
abbrev pub owner_left : List End → Option ℕ → Option ℕ
owner_left [] o = o
owner_left (e ∷ older) o = owner_without e.process (owner_left older o)

-- ---- what it answers

-- the process that owns a live context
abbrev pub owner_at : ContextId → Kept → Option ℕ
owner_at x k = if is_held x k.nodes then owner_left k.ends (owner_in x k.origins) else None

abbrev pub facts_of : Kept → Facts
facts_of k = record {
  contexts = record {
    known = λ x. is_known x k.origins;
    group = λ x. group_in x k.origins;
    above = λ x. above_in x k.origins;
    live = λ x. is_held x k.nodes;
    under = λ x y. is_under x y k.nodes;
    owner = λ x. owner_at x k;
    value = λ x fld. value_at x fld k.contexts;
    order = contexts k.nodes;
  };
  groups = record {
    made = length k.groups;
    kept = λ g. is_kept g k.groups;
    subscribers = λ g. (group_at g k.groups).subscribers;
    awaited = λ g. (group_at g k.groups).awaited;
  };
  processes = record {
    ended = λ p. cause_of p k.ends;
    commits_heard = λ p. (counted_of p k.processes).heard;
    bundles_sent = λ p. (counted_of p k.processes).sent;
    last_load = λ p x. 0;  -- so far nothing is loaded
  };
  tabs_made = k.tabs;
}

-- ---- what holds of all that is kept

-- an id that a context can have: of one of sixteen processes or the parent, and of one of 240 serials
pub record IsInRange (x : ContextId) : Type 0 where
  pub creator : x.creator ≤ 16
  pub from : 1 ≤ x.serial
  pub to : x.serial ≤ 240

-- the contexts that the parent made are numbered up to their count, and each top-level context is of them
pub record CountsTabs (tabs : ℕ) (origins : List (ContextId × Origin)) : Type 0 where
  pub most : tabs ≤ 240
  pub numbered : (x : ContextId) → is_known x origins ≡ true → x.creator ≡ 0 → x.serial ≤ tabs
  pub tops : (x : ContextId) → is_known x origins ≡ true → above_in x origins ≡ None → x.creator ≡ 0

-- there are fields of the contexts in the tree, and of no other. Each was made in the context that it hangs
-- from. A frame has the group of the context that it was made in, and a group counts its live contexts.
-- There are counts for each process, and those that were ended have a number that a set can hold
pub record HoldsAll (k : Kept) : Type 0 where
  pub config : ConfigFits k.config
  pub tree : IsTree k.nodes
  pub sound : AreSound k.groups
  pub stored : (x : ContextId) → is_there x k.contexts ≡ is_held x k.nodes
  pub known : (x : ContextId) → is_held x k.nodes ≡ true → is_known x k.origins ≡ true
  pub above : (x : ContextId) → is_held x k.nodes ≡ true → parent_in x k.nodes ≡ above_in x k.origins
  pub inside : (x a : ContextId) → above_in x k.origins ≡ Some a → group_in x k.origins ≡ group_in a k.origins
  pub range : (x : ContextId) → is_known x k.origins ≡ true → IsInRange x
  pub live : (g : GroupId) → (group_at g k.groups).live ≡ count_in g k.origins (contexts k.nodes)
  pub processes : length k.processes ≡ length k.config.types
  pub ends : AllByRecursion (λ e. e.process < 16) k.ends
  pub tabs : CountsTabs k.tabs k.origins
