use Rattle.std.proofs.Common.{◌≡◌, take}
use Rattle.std.specs.List.{list_any}
use Rattle.context_group.specs.Groups.{awaits, group_after_ack}
use Rattle.context_group.proofs.Lists.{MappedTo}
use Rattle.context_group.proofs.groups.ack_each.Given as goal

abbrev pub invariant-loop-group : goal.invariant-loop-group
invariant-loop-group l = record {
  groups : MappedTo (group_after_ack l.p.0 l.x) l.group-index l.groups l.fn.groups;
  answer : l.was_awaited ≡ list_any (awaits l.p.0 l.x) (take l.group-index l.fn.groups);
}
