-- What becomes of the groups with the contexts that come and go, and what the tabs of the start make.
use Rattle.std.specs.Prelude.{◌≡◌, ℕ, zero, suc, ◌<◌, List, [], ◌∷◌, ◌++◌, Bool, true, if◌then◌else◌}
use Rattle.std.specs.Prelude.{Option, None, Some}
use Rattle.fission_ids.specs.declared.context.ContextId.{ContextId}
use Rattle.fission_ids.specs.declared.group.GroupId.{GroupId}
use Rattle.fission_ids.specs.declared.process.ProcSet.{ProcSet}
use Rattle.fission_ids.specs.ProcSet.{has, with}
use Rattle.context_group.specs.declared.group.Group.{Group}
use Rattle.context_group.specs.Groups.{at_group, group_after_grow, group_after_shrink}
use Rattle.context_group.specs.Groups.{group_after_subscribe, group_at, is_kept}
use Rattle.context_group.specs.Groups.{new_group, IsMade}
use Rattle.wire_msgs.specs.declared.config.StartTab.{StartTab}
use Rattle.protocol.specs.Start.{processes_of_tab}
use Rattle.parent_core.specs.declared.origin.Origin.{Origin}

-- the groups with so many live contexts fewer in one, one after the other
abbrev pub shrunk : ℕ → GroupId → List Group → List Group
shrunk zero g gs = gs
shrunk (suc n) g gs = at_group group_after_shrink g (shrunk n g gs)

-- those of the first n processes that are in a set
abbrev pub some_below : ℕ → ProcSet → ProcSet
some_below zero s = record { 0 = 0 }
some_below (suc n) s = if has s n then with (some_below n s) n else some_below n s

-- a group with these subscribers
abbrev pub group_with : ProcSet → Group → Group
group_with s group = record group { subscribers = s }

-- a group with a process more, if a test holds
abbrev pub group_with_more : Bool → ℕ → Group → Group
group_with_more test p group = if test then group_after_subscribe p group else group

-- a group that was made, and in which nothing is yet
pub record IsBegun (g : GroupId) (gs : List Group) : Type 0 where
  pub made : IsMade g gs
  pub new : group_at g gs ≡ new_group

-- a group that is kept and has room for a live context
pub record HasRoom (gs : List Group) (g : GroupId) : Type 0 where
  pub kept : is_kept g gs ≡ true
  pub room : (group_at g gs).live < 4080

-- a group with these subscribers and one live context
abbrev pub group_begun : ProcSet → Group
group_begun s = record { subscribers = s; awaited = []; live = 1; is_kept = true }

-- the groups with one live context more in the group that is named, or in a new one
abbrev pub groups_opened : Option GroupId → List Group → List Group
groups_opened None gs = gs ++ group_begun (record { 0 = 0 }) ∷ []
groups_opened (Some g) gs = at_group group_after_grow g gs

-- what a tab of the start makes: a group, and what is fixed of its context
abbrev pub group_of_tab : StartTab → Group
group_of_tab tab = group_begun (processes_of_tab tab)

abbrev pub origin_of_tab : ContextId → StartTab → Origin
origin_of_tab x tab = record { group = record { 0 = x.serial }; parent = None; owner = tab.owner }
