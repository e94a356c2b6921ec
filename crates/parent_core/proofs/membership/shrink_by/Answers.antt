use Rattle.std.proofs.Common.{◌≡◌, ap, ◌∙◌, arith}
use Rattle.parent_core.specs.Membership.{shrunk}
use Rattle.parent_core.proofs.Shrinking.{may_shrink, shrunk_next}
use Rattle.parent_core.proofs.membership.shrink_by.Goals as goal

pub shrink-requires : goal.shrink-requires
shrink-requires c = may_shrink c.args.g c.args.groups.now c.loop.counter c.args.count c.loop.groups c.requires c.loop-test.true c.loop.invariant

pub loop-preserved : goal.loop-preserved
loop-preserved c = shrunk_next c.args.g c.args.groups.now c.loop.counter c.loop.groups c.shrink.new.self c.loop.invariant c.shrink.ensures.groups

pub returns-clause-groups : goal.returns-clause-groups
returns-clause-groups c =
    let all : c.loop.counter ≡ c.args.count = omega arith in
    c.loop.invariant ∙ ap (λ n. shrunk n c.args.g c.args.groups.now) all
