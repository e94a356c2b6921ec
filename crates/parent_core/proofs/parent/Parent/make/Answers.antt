use Rattle.std.proofs.Common.{◌≡◌, ap, ◌∙◌}
use Rattle.context_tree.specs.Tree.{is_held}
use Rattle.parent_core.specs.Parent.{Kept, facts_of, is_known, group_in, cause_of}
use Rattle.protocol.specs.Sayings.Saying.{Made}
use Rattle.protocol.specs.FactsAfter.{facts_after}
use Rattle.parent_core.specs.contracts.parent.Parent as parent
use Rattle.parent_core.proofs.Made.{facts_made, holds_made, group_kept}
use Rattle.parent_core.proofs.Range.{frame_in_range, frame_of_process, has_room}
use Rattle.parent_core.proofs.parent.Parent.make.Goals as goal

pub grow-requires-clause-kept : goal.grow-requires-clause-kept
grow-requires-clause-kept c =
    let inside : Kept = parent.the_view c.self.inside in
    let view : inside ≡ c.args.self = c.self.view_is in
    group_kept inside c.self.invariant c.args.p.0 c.args.x c.args.above c.group_of_known-group.result c.note_origin.new.known.entries c.in_ok-note_origin.ensures
    (ap (λ (k : Kept). is_known c.args.x k.origins) view ∙ c.requires.new) (ap (λ (k : Kept). is_held c.args.above k.nodes) view ∙ c.requires.above)
    (ap (λ (k : Kept). group_in c.args.above k.origins) view ∙ c.group_of_known-group.ensures)

pub grow-requires-clause-room : goal.grow-requires-clause-room
grow-requires-clause-room c =
    let inside : Kept = parent.the_view c.self.inside in
    let view : inside ≡ c.args.self = c.self.view_is in
    has_room inside c.self.invariant c.args.x (ap (λ (k : Kept). is_known c.args.x k.origins) view ∙ c.requires.new)
    (frame_in_range c.args.self inside view c.self.invariant c.args.p.0 c.args.x c.requires.process c.requires.frame) c.group_of_known-group.result

pub invariant_of-result : goal.invariant_of-result
invariant_of-result c =
    let inside : Kept = parent.the_view c.self.inside in
    let view : inside ≡ c.args.self = c.self.view_is in
    holds_made inside c.self.invariant c.args.p.0 c.args.x c.args.above c.group_of_known-group.result c.note_origin.new.known.entries c.in_ok-note_origin.ensures
    (ap (λ (k : Kept). is_known c.args.x k.origins) view ∙ c.requires.new) (ap (λ (k : Kept). is_held c.args.above k.nodes) view ∙ c.requires.above)
    (ap (λ (k : Kept). group_in c.args.above k.origins) view ∙ c.group_of_known-group.ensures)
    c.attach.new.tree c.in_ok-attach.ensures.nodes c.add_to.new.contexts c.in_ok-add_to.ensures c.grow.new.groups c.grow.ensures.groups
    c.in_ok-attach.ensures.tree (frame_in_range c.args.self inside view c.self.invariant c.args.p.0 c.args.x c.requires.process c.requires.frame) (frame_of_process c.args.p.0 c.args.x c.requires.frame) c.grow.ensures.sound

pub returns-clause-facts : goal.returns-clause-facts
returns-clause-facts c =
    let inside : Kept = parent.the_view c.self.inside in
    let view : inside ≡ c.args.self = c.self.view_is in
    facts_made inside c.self.invariant c.args.p.0 c.args.x c.args.above c.group_of_known-group.result c.note_origin.new.known.entries c.in_ok-note_origin.ensures
    (ap (λ (k : Kept). is_known c.args.x k.origins) view ∙ c.requires.new) (ap (λ (k : Kept). is_held c.args.above k.nodes) view ∙ c.requires.above)
    (ap (λ (k : Kept). group_in c.args.above k.origins) view ∙ c.group_of_known-group.ensures)
    c.attach.new.tree c.in_ok-attach.ensures.nodes c.add_to.new.contexts c.in_ok-add_to.ensures c.grow.new.groups c.grow.ensures.groups
    (ap (λ (k : Kept). cause_of c.args.p.0 k.ends) view ∙ c.requires.runs)
    ∙ ap (λ (k : Kept). facts_after (Made c.args.p.0 c.args.x c.args.above) (facts_of k)) view
