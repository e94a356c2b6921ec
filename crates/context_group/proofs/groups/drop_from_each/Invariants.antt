use Rattle.context_group.specs.Groups.{group_after_drop}
use Rattle.context_group.proofs.Lists.{MappedTo}
use Rattle.context_group.proofs.groups.drop_from_each.Given as goal

abbrev pub invariant-loop-group : goal.invariant-loop-group
invariant-loop-group l = MappedTo (group_after_drop l.p.0) l.group-index l.groups l.fn.groups
