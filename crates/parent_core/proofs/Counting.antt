-- The live contexts of a group, as the group counts them.
use Rattle.std.proofs.Common.{◌≡◌, nat_lt, List, ap, ◌∙◌}
use Rattle.std.specs.List.{list_any}
use Rattle.fission_ids.specs.declared.group.GroupId.{GroupId}
use Rattle.context_group.specs.declared.group.Group.{Group}
use Rattle.context_group.specs.Groups.{group_at, AreSound}
use Rattle.context_tree.specs.Tree.{contexts}
use Rattle.parent_core.specs.Parent.{Kept, HoldsAll, is_of_group}
use Rattle.parent_core.proofs.Lists.{any_passing}

-- a group has a live context where it counts one
pub lives : (k : Kept) → HoldsAll k → (g : GroupId) → nat_lt 0 (group_at g k.groups).live ≡ list_any (is_of_group g k.origins) (contexts k.nodes)
lives k h g = ap (nat_lt 0) (h.live g) ∙ any_passing (is_of_group g k.origins) (contexts k.nodes)

-- other groups that count the same
pub holds_groups : (k : Kept) (gs : List Group) → HoldsAll k → AreSound gs → ((g : GroupId) → (group_at g gs).live ≡ (group_at g k.groups).live) → HoldsAll (record k { groups = gs })
holds_groups k gs h sound same = record {
  config = h.config;
  tree = h.tree;
  sound = sound;
  stored = h.stored;
  known = h.known;
  above = h.above;
  inside = h.inside;
  range = h.range;
  live = λ g. same g ∙ h.live g;
  processes = h.processes;
  ends = h.ends;
  tabs = h.tabs;
}
