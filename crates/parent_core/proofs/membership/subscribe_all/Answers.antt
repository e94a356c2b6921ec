use Rattle.std.proofs.Common.{◌<◌, ◌≤◌, arith}
use Rattle.parent_core.proofs.Subscribing.{none_subscribed, made_yet, absent_yet, subscribed_next, all_subscribed}
use Rattle.parent_core.proofs.membership.subscribe_all.Goals as goal

pub loop-p-init : goal.loop-p-init
loop-p-init c = none_subscribed c.args.g c.args.groups.now c.args.members c.requires.begun

pub subscribe_if-requires-clause-made : goal.subscribe_if-requires-clause-made
subscribe_if-requires-clause-made c = made_yet c.args.g c.args.groups.now c.args.members c.requires.begun c.loop-p.p c.loop-p.groups c.loop-p.invariant

pub subscribe_if-requires-clause-absent : goal.subscribe_if-requires-clause-absent
subscribe_if-requires-clause-absent c = absent_yet c.args.g c.args.groups.now c.args.members c.requires.begun c.loop-p.p c.loop-p.groups c.loop-p.invariant

pub loop-p-preserved : goal.loop-p-preserved
loop-p-preserved c = subscribed_next c.args.g c.args.groups.now c.args.members c.requires.begun c.loop-p.p c.loop-p.groups c.loop-p.invariant c.subscribe_if.new.groups c.subscribe_if.ensures

pub returns : goal.returns
returns c = all_subscribed c.args.g c.args.groups.now c.args.members c.requires.begun c.loop-p.p c.loop-p.groups c.loop-p.invariant
    (λ q e. let low : q < 16 = c.requires.low q e in let all : 16 ≤ c.loop-p.p = c.loop-p-test.false in omega (arith, low, all))
