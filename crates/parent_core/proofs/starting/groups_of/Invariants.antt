use Rattle.std.proofs.Common.{◌≡◌, map, take}
use Rattle.parent_core.specs.Membership.{group_of_tab}
use Rattle.parent_core.proofs.starting.groups_of.Given as goal

abbrev pub invariant-loop-n : goal.invariant-loop-n
invariant-loop-n l = l.groups ≡ map group_of_tab (take l.n l.tabs)
