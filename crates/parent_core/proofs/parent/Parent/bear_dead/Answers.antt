use Rattle.std.proofs.Common.{◌≡◌, ap, ◌∙◌}
use Rattle.parent_core.specs.Parent.{Kept, facts_of, is_known, group_in}
use Rattle.protocol.specs.Sayings.Saying.{BornDead}
use Rattle.protocol.specs.FactsAfter.{facts_after}
use Rattle.parent_core.specs.contracts.parent.Parent as parent
use Rattle.parent_core.proofs.Born.{facts_born, holds_born}
use Rattle.parent_core.proofs.Range.{frame_in_range, frame_of_process}
use Rattle.parent_core.proofs.parent.Parent.bear_dead.Goals as goal

pub invariant_of-result : goal.invariant_of-result
invariant_of-result c =
    let inside : Kept = parent.the_view c.self.inside in
    let view : inside ≡ c.args.self = c.self.view_is in
    holds_born inside c.self.invariant c.args.p.0 c.args.x c.args.above c.group_of_known-group.result c.note_origin.new.known.entries c.in_ok-note_origin.ensures
    (ap (λ (k : Kept). is_known c.args.x k.origins) view ∙ c.requires.new) (ap (λ (k : Kept). is_known c.args.above k.origins) view ∙ c.requires.above)
    (ap (λ (k : Kept). group_in c.args.above k.origins) view ∙ c.group_of_known-group.ensures)
    c.one_subscribed-who.result c.one_subscribed-who.ensures c.await_if_kept.new.groups c.in_ok-await_if_kept.ensures.groups
    (frame_in_range c.args.self inside view c.self.invariant c.args.p.0 c.args.x c.requires.process c.requires.frame) (frame_of_process c.args.p.0 c.args.x c.requires.frame) c.in_ok-await_if_kept.ensures.sound

pub returns-clause-facts : goal.returns-clause-facts
returns-clause-facts c =
    let inside : Kept = parent.the_view c.self.inside in
    let view : inside ≡ c.args.self = c.self.view_is in
    facts_born inside c.self.invariant c.args.p.0 c.args.x c.args.above c.group_of_known-group.result c.note_origin.new.known.entries c.in_ok-note_origin.ensures
    (ap (λ (k : Kept). is_known c.args.x k.origins) view ∙ c.requires.new) (ap (λ (k : Kept). is_known c.args.above k.origins) view ∙ c.requires.above)
    (ap (λ (k : Kept). group_in c.args.above k.origins) view ∙ c.group_of_known-group.ensures)
    c.one_subscribed-who.result c.one_subscribed-who.ensures c.await_if_kept.new.groups c.in_ok-await_if_kept.ensures.groups
    ∙ ap (λ (k : Kept). facts_after (BornDead c.args.p.0 c.args.x c.args.above) (facts_of k)) view
