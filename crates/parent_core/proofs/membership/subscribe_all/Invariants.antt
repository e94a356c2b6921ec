use Rattle.std.proofs.Common.{◌≡◌}
use Rattle.context_group.specs.Groups.{at_group}
use Rattle.parent_core.specs.Membership.{group_with, some_below}
use Rattle.parent_core.proofs.membership.subscribe_all.Given as goal

abbrev pub invariant-loop-p : goal.invariant-loop-p
invariant-loop-p l = l.groups ≡ at_group (group_with (some_below l.p l.members)) l.g l.fn.groups
