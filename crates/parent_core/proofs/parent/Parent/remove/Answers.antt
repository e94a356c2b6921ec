use Rattle.std.proofs.Common.{◌≡◌, List, ap, refl, ◌∙◌, length, ◌≤◌, if◌then◌else◌, None, arith}
use Rattle.std.specs.FinMap.{get}
use Rattle.std.specs.List.{list_any}
use Rattle.std.specs.Option.{option_map}
use Rattle.fission_ids.specs.declared.context.ContextId.{ContextId}
use Rattle.fission_ids.specs.declared.process.ProcId.{ProcId}
use Rattle.fission_ids.specs.Ids.{same_context}
use Rattle.context_group.specs.declared.group.Group.{Group}
use Rattle.context_group.specs.Groups.{group_at}
use Rattle.context_tree.specs.Tree.{contexts, is_held, subtree}
use Rattle.parent_core.specs.Parent.{Kept, facts_of, group_in}
use Rattle.parent_core.specs.Membership.{shrunk}
use Rattle.protocol.specs.Sayings.Saying.{Removed}
use Rattle.protocol.specs.FactsAfter.{facts_after}
use Rattle.parent_core.specs.contracts.parent.Parent as parent
use Rattle.parent_core.proofs.Awaiting.{same_more}
use Rattle.parent_core.proofs.Removed.{but_by_id, facts_removed, few_gone, holds_removed}
use Rattle.parent_core.proofs.parent.Parent.remove.Goals as goal

pub shrink_by-requires : goal.shrink_by-requires
shrink_by-requires c =
    let inside : Kept = parent.the_view c.self.inside in
    let view : inside ≡ c.args.self = c.self.view_is in
    let few : length (contexts (subtree c.args.x inside.nodes)) ≤ (group_at c.group_of_known-group.result inside.groups).live =
    few_gone inside c.self.invariant c.args.x c.group_of_known-group.result (ap (λ (k : Kept). is_held c.args.x k.nodes) view ∙ c.requires.live) (ap (λ (k : Kept). group_in c.args.x k.origins) view ∙ c.group_of_known-group.ensures) in
    let size : c.len.result ≡ length c.in_ok-gone.gone.items = omega arith in
    let ids : length c.in_ok-gone.gone.items ≡ length (contexts (subtree c.args.x inside.nodes)) = ap length c.in_ok-gone.ensures.ids in
    let same : (group_at c.group_of_known-group.result c.await_if_kept.new.groups).live ≡ (group_at c.group_of_known-group.result inside.groups).live =
    ap (λ (l : List Group). (group_at c.group_of_known-group.result l).live) c.in_ok-await_if_kept.ensures.groups
    ∙ same_more c.subscribed_but-who.result c.args.x c.group_of_known-group.result inside.groups (λ (v : Group). v.live) (λ v. refl) c.group_of_known-group.result in
    omega (arith, few, size, ids, same)

pub invariant_of-result : goal.invariant_of-result
invariant_of-result c =
    let inside : Kept = parent.the_view c.self.inside in
    let view : inside ≡ c.args.self = c.self.view_is in
    let size : c.len.result ≡ length c.in_ok-gone.gone.items = omega arith in
    let ids : c.in_ok-gone.gone.items ≡ contexts (subtree c.args.x inside.nodes) = c.in_ok-gone.ensures.ids in
    holds_removed inside c.self.invariant c.args.x c.group_of_known-group.result (ap (λ (k : Kept). is_held c.args.x k.nodes) view ∙ c.requires.live) (ap (λ (k : Kept). group_in c.args.x k.origins) view ∙ c.group_of_known-group.ensures)
    c.subscribed_but-who.result (option_map (λ (p : ProcId). p.0) c.args.but) (c.subscribed_but-who.ensures ∙ but_by_id c.args.but (group_at c.group_of_known-group.result inside.groups).subscribers)
    c.detach.new.tree c.in_ok-gone.ensures.nodes c.remove_all.new.contexts
    (λ y. c.remove_all.ensures y ∙ ap (λ (l : List ContextId). if list_any (same_context y) l then None else get inside.contexts y) (c.as_slice.ensures.value ∙ ids))
    c.shrink_by.new.groups c.len.result (size ∙ ap length ids)
    (c.shrink_by.ensures.groups ∙ ap (shrunk c.len.result c.group_of_known-group.result) c.in_ok-await_if_kept.ensures.groups) c.in_ok-gone.ensures.tree c.shrink_by.ensures.sound

pub returns-clause-facts : goal.returns-clause-facts
returns-clause-facts c =
    let inside : Kept = parent.the_view c.self.inside in
    let view : inside ≡ c.args.self = c.self.view_is in
    let size : c.len.result ≡ length c.in_ok-gone.gone.items = omega arith in
    let ids : c.in_ok-gone.gone.items ≡ contexts (subtree c.args.x inside.nodes) = c.in_ok-gone.ensures.ids in
    facts_removed inside c.self.invariant c.args.x c.group_of_known-group.result (ap (λ (k : Kept). is_held c.args.x k.nodes) view ∙ c.requires.live) (ap (λ (k : Kept). group_in c.args.x k.origins) view ∙ c.group_of_known-group.ensures)
    c.subscribed_but-who.result (option_map (λ (p : ProcId). p.0) c.args.but) (c.subscribed_but-who.ensures ∙ but_by_id c.args.but (group_at c.group_of_known-group.result inside.groups).subscribers)
    c.detach.new.tree c.in_ok-gone.ensures.nodes c.remove_all.new.contexts
    (λ y. c.remove_all.ensures y ∙ ap (λ (l : List ContextId). if list_any (same_context y) l then None else get inside.contexts y) (c.as_slice.ensures.value ∙ ids))
    c.shrink_by.new.groups c.len.result (size ∙ ap length ids)
    (c.shrink_by.ensures.groups ∙ ap (shrunk c.len.result c.group_of_known-group.result) c.in_ok-await_if_kept.ensures.groups)
    ∙ ap (λ (k : Kept). facts_after (Removed c.args.x (option_map (λ (p : ProcId). p.0) c.args.but)) (facts_of k)) view
