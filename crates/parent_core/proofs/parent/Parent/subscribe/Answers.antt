use Rattle.std.proofs.Common.{◌≡◌, ◌≤◌, length, ap, ◌∙◌, arith}
use Rattle.context_group.specs.Groups.{IsMade, is_kept}
use Rattle.context_group.proofs.Places.{made_if_kept}
use Rattle.parent_core.specs.Opening.{after_subscribing}
use Rattle.parent_core.specs.Parent.{Kept, facts_of}
use Rattle.parent_core.specs.contracts.parent.Parent as parent
use Rattle.parent_core.proofs.Joined.{facts_joined, holds_joined}
use Rattle.parent_core.proofs.parent.Parent.subscribe.Goals as goal

pub subscribe-requires-clause-process : goal.subscribe-requires-clause-process
subscribe-requires-clause-process c =
    let inside : Kept = parent.the_view c.self.inside in
    let few : length inside.config.types ≤ 16 = c.self.invariant.config.few in
    let len : length inside.config.types ≡ length c.args.self.config.types = ap (λ (k : Kept). length k.config.types) c.self.view_is in
    omega (arith, few, len, c.requires.process)

pub subscribe-requires-clause-made : goal.subscribe-requires-clause-made
subscribe-requires-clause-made c =
    let inside : Kept = parent.the_view c.self.inside in
    made_if_kept c.args.g inside.groups (ap (λ (k : Kept). is_kept c.args.g k.groups) c.self.view_is ∙ c.requires.kept)

pub invariant_of-result : goal.invariant_of-result
invariant_of-result c =
    let inside : Kept = parent.the_view c.self.inside in
    let made : IsMade c.args.g inside.groups = made_if_kept c.args.g inside.groups (ap (λ (k : Kept). is_kept c.args.g k.groups) c.self.view_is ∙ c.requires.kept) in
    holds_joined inside c.self.invariant c.args.p.0 c.args.g made c.subscribe.new.groups c.subscribe.ensures.groups c.subscribe.ensures.sound

pub returns-clause-facts : goal.returns-clause-facts
returns-clause-facts c =
    let inside : Kept = parent.the_view c.self.inside in
    let made : IsMade c.args.g inside.groups = made_if_kept c.args.g inside.groups (ap (λ (k : Kept). is_kept c.args.g k.groups) c.self.view_is ∙ c.requires.kept) in
    facts_joined inside c.self.invariant c.args.p.0 c.args.g made c.subscribe.new.groups c.subscribe.ensures.groups
    ∙ ap (λ (k : Kept). after_subscribing c.args.p.0 c.args.g (facts_of k)) c.self.view_is
