use Rattle.std.proofs.Common.{◌≡◌}
use Rattle.parent_core.specs.Membership.{shrunk}
use Rattle.parent_core.proofs.membership.shrink_by.Given as goal

abbrev pub invariant-loop : goal.invariant-loop
invariant-loop l = l.groups ≡ shrunk l.counter l.g l.fn.groups
