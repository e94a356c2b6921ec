-- Groups: which processes are subscribed, what is awaited, how many contexts live, and which groups are kept.
use Rattle.std.specs.Prelude.{◌≡◌, ◌<◌, ◌≤◌, ◌^◌, ◌+◌, ◌-◌, ◌&&◌, ◌||◌, if◌then◌else◌, [], ◌∷◌, false}
use Rattle.std.specs.Prelude.{length, nat_lt, slice_index_or, slice_set, true, All, Bool, List, ℕ}
use Rattle.std.specs.List.{list_any}
use Rattle.fission_ids.specs.ProcSet.{has, with}
use Rattle.fission_ids.specs.declared.context.ContextId.{ContextId}
use Rattle.fission_ids.specs.declared.group.GroupId.{GroupId}
use Rattle.fission_ids.specs.declared.process.ProcSet.{ProcSet}
use Rattle.context_group.specs.declared.group.Group.{Group}
use Rattle.context_group.specs.Sets.{set_without}
use Rattle.context_group.specs.Acks.{acks_with, acks_without, is_due, is_of, is_owed_by, AreSoundAcks}

-- a group that wasn't made
abbrev pub no_group : Group
no_group = record { subscribers = record { 0 = 0 }; awaited = []; live = 0; is_kept = false }

-- a group that has just begun
abbrev pub new_group : Group
new_group = record { subscribers = record { 0 = 0 }; awaited = []; live = 0; is_kept = true }

-- the group of this number, g1 first; no_group where it wasn't made
abbrev pub group_at : GroupId → List Group → Group
group_at g gs = slice_index_or (no_group ∷ gs) g.0 no_group

-- the group was made
abbrev pub IsMade : GroupId → List Group → Type 0
IsMade g gs = (1 ≤ g.0) × (g.0 ≤ length gs)

-- the groups with f done to one that was made
abbrev pub at_group : (Group → Group) → GroupId → List Group → List Group
at_group f g gs = slice_set gs (g.0 - 1) (f (group_at g gs))

-- whether p owes the acknowledgement of x in the group
abbrev pub awaits : ℕ → ContextId → Group → Bool
awaits p x group = list_any (is_due p x) group.awaited

-- whether p owes any acknowledgement in the group
abbrev pub awaits_any : ℕ → Group → Bool
awaits_any p group = list_any (is_owed_by p) group.awaited

-- whether p is subscribed to the group of this number
abbrev pub is_subscribed : ℕ → GroupId → List Group → Bool
is_subscribed p g gs = has (group_at g gs).subscribers p

-- whether p owes the acknowledgement of x in the group of this number
abbrev pub is_awaited : ℕ → ContextId → GroupId → List Group → Bool
is_awaited p x g gs = awaits p x (group_at g gs)

-- whether the group of this number is kept
abbrev pub is_kept : GroupId → List Group → Bool
is_kept g gs = (group_at g gs).is_kept

-- each group has the same subscribers before and after
abbrev pub SameSubscribers : List Group → List Group → Type 0
SameSubscribers old new = (g : GroupId) → (group_at g new).subscribers ≡ (group_at g old).subscribers

-- each group awaits the same before and after
abbrev pub SameAwaited : List Group → List Group → Type 0
SameAwaited old new = (g : GroupId) → (group_at g new).awaited ≡ (group_at g old).awaited

-- whether the group has a live context or awaits an acknowledgement
abbrev pub is_needed : Group → Bool
is_needed group = nat_lt 0 group.live || nat_lt 0 (length group.awaited)

-- the group is kept no longer if it isn't needed
abbrev pub group_kept_if_needed : Group → Group
group_kept_if_needed group = record group { is_kept = group.is_kept && is_needed group }

-- the group with p subscribed
abbrev pub group_after_subscribe : ℕ → Group → Group
group_after_subscribe p group = record group { subscribers = with group.subscribers p }

-- the group with one live context more
abbrev pub group_after_grow : Group → Group
group_after_grow group = record group { live = group.live + 1 }

-- the group with one live context fewer
abbrev pub group_after_shrink : Group → Group
group_after_shrink group = group_kept_if_needed (record group { live = group.live - 1 })

-- the group once these processes owe the acknowledgement of x as well
abbrev pub group_after_await : ProcSet → ContextId → Group → Group
group_after_await who x group = record group { awaited = acks_with who x group.awaited }

-- the group once it was heard that p acknowledges x
abbrev pub group_after_ack : ℕ → ContextId → Group → Group
group_after_ack p x group =
    if awaits p x group
    then group_kept_if_needed (record group { awaited = acks_without p (is_of x) group.awaited })
    else group

-- the group without p among its subscribers and those that owe an acknowledgement
abbrev pub group_after_drop : ℕ → Group → Group
group_after_drop p group =
    if has group.subscribers p || awaits_any p group
    then group_kept_if_needed (record group {
      subscribers = set_without p group.subscribers;
      awaited = acks_without p (λ _. true) group.awaited;
    })
    else group

-- what each group keeps: a group that isn't kept has no live context and awaits nothing
pub record IsSound (group : Group) : Type 0 where
  pub subscribers : group.subscribers.0 < 2 ^ 16
  pub awaited : AreSoundAcks group.awaited
  pub live : group.live ≤ 4080
  pub ended : group.is_kept ≡ false → is_needed group ≡ false

-- what the groups keep
pub record AreSound (gs : List Group) : Type 0 where
  pub few : length gs ≤ 64
  pub each : All IsSound gs
