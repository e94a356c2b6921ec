-- Until when a group is kept.
use Rattle.std.specs.Prelude.{◌≡◌, ◌≤◌, ◌==◌, ◌&&◌, ◌||◌, if◌then◌else◌, [], ◌∷◌, ◌++◌, false, length}
use Rattle.std.specs.Prelude.{map, true, Bool, List, ℕ}
use Rattle.fission_ids.specs.ProcSet.{has}
use Rattle.fission_ids.specs.declared.context.ContextId.{ContextId}
use Rattle.fission_ids.specs.declared.group.GroupId.{GroupId}
use Rattle.fission_ids.specs.declared.process.ProcSet.{ProcSet}
use Rattle.context_group.specs.declared.group.Group.{Group}
use Rattle.context_group.specs.Groups.{at_group, awaits, awaits_any, group_after_ack, group_after_await}
use Rattle.context_group.specs.Groups.{group_after_drop, group_after_grow, group_after_shrink}
use Rattle.context_group.specs.Groups.{group_after_subscribe, group_at, is_kept, is_needed, new_group}
use Rattle.context_group.specs.Groups.{IsMade, IsSound}

-- whether the group of this number has a live context or awaits an acknowledgement
abbrev pub is_needed_at : GroupId → List Group → Bool
is_needed_at g gs = is_needed (group_at g gs)

-- each group is kept as before
abbrev pub SameKept : List Group → List Group → Type 0
SameKept old new = (g : GroupId) → is_kept g new ≡ is_kept g old

-- a group that has begun is kept, and the others are kept as before
pub record KeptAfterBegin (old new : List Group) : Type 0 where
  pub begun : (g : GroupId) → g.0 ≡ length new → is_kept g new ≡ true
  pub others : (g : GroupId) → g.0 ≤ length old → is_kept g new ≡ is_kept g old

-- a changed group that was kept stays so exactly where it has a live context or awaits an acknowledgement
-- then, and the others are kept as before
abbrev pub KeptWhereNeeded : (GroupId → Bool) → List Group → List Group → Type 0
KeptWhereNeeded is_changed old new = (g : GroupId) →
    is_kept g new ≡ (if is_changed g then is_kept g old && is_needed_at g new else is_kept g old)

-- a group is kept from begin on until a shrink, an acknowledgement or the drop of a process leaves it without
-- a live context and without an awaited acknowledgement
pub record GroupsAreKeptUntilEnded : Type 0 where
  pub begin : (gs : List Group) → KeptAfterBegin gs (gs ++ new_group ∷ [])
  pub subscribe : (p : ℕ) (g : GroupId) (gs : List Group) → IsMade g gs →
      SameKept gs (at_group (group_after_subscribe p) g gs)
  pub grow : (g : GroupId) (gs : List Group) → IsMade g gs → SameKept gs (at_group group_after_grow g gs)
  pub await_acks : (who : ProcSet) (x : ContextId) (g : GroupId) (gs : List Group) → IsMade g gs →
      SameKept gs (at_group (group_after_await who x) g gs)
  pub shrink : (g : GroupId) (gs : List Group) → IsMade g gs →
      KeptWhereNeeded (λ h. h.0 == g.0) gs (at_group group_after_shrink g gs)
  pub ack : (p : ℕ) (x : ContextId) (gs : List Group) →
      KeptWhereNeeded (λ g. awaits p x (group_at g gs)) gs (map (group_after_ack p x) gs)
  pub drop_process : (p : ℕ) (gs : List Group) →
      KeptWhereNeeded (λ g. has (group_at g gs).subscribers p || awaits_any p (group_at g gs)) gs
      (map (group_after_drop p) gs)

-- no group that was made is kept where it wasn't
abbrev pub NoneKeptAgain : List Group → List Group → Type 0
NoneKeptAgain old new = (g : GroupId) → IsMade g old → is_kept g new ≡ true → is_kept g old ≡ true

-- no call makes a group kept again
pub record EndedGroupsStayEnded : Type 0 where
  pub begin : (gs : List Group) → NoneKeptAgain gs (gs ++ new_group ∷ [])
  pub subscribe : (p : ℕ) (g : GroupId) (gs : List Group) → IsMade g gs →
      NoneKeptAgain gs (at_group (group_after_subscribe p) g gs)
  pub grow : (g : GroupId) (gs : List Group) → IsMade g gs → NoneKeptAgain gs (at_group group_after_grow g gs)
  pub await_acks : (who : ProcSet) (x : ContextId) (g : GroupId) (gs : List Group) → IsMade g gs →
      NoneKeptAgain gs (at_group (group_after_await who x) g gs)
  pub shrink : (g : GroupId) (gs : List Group) → IsMade g gs →
      NoneKeptAgain gs (at_group group_after_shrink g gs)
  pub ack : (p : ℕ) (x : ContextId) (gs : List Group) → NoneKeptAgain gs (map (group_after_ack p x) gs)
  pub drop_process : (p : ℕ) (gs : List Group) → NoneKeptAgain gs (map (group_after_drop p) gs)

-- a sound group awaits something exactly where some process owes an acknowledgement
abbrev pub AwaitsWhereOwed : Type 0
AwaitsWhereOwed = (group : Group) → IsSound group →
    (group.awaited ≡ [] → (p : ℕ) (x : ContextId) → awaits p x group ≡ false)
    × (((p : ℕ) (x : ContextId) → awaits p x group ≡ false) → group.awaited ≡ [])
