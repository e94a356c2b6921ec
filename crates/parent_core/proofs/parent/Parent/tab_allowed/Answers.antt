use Rattle.std.proofs.Common.{◌-◌, ◌^◌, List, ap, length, ◌∙◌}
use Rattle.std.specs.Prelude.{is_none}
use Rattle.wire_msgs.specs.declared.action.ParentAction.TheVariants.{Tab}
use Rattle.wire_msgs.specs.declared.answer.Answer.TheVariants as answers
use Rattle.parent_core.specs.Parent.{facts_of}
use Rattle.parent_core.specs.Posts.{Posted, bundle_parts, sent_to}
use Rattle.parent_core.specs.Ruled.{RuledBy}
use Rattle.parent_core.proofs.Actions.{act_ruling}
use Rattle.parent_core.proofs.Openings.{kept_behind, live_behind, opened_with, owner_behind, sent_opened, tab_behind, tab_done}
use Rattle.parent_core.proofs.Sends.{plain_ruling}
use Rattle.parent_core.proofs.Steps.{ok_map}
use Rattle.parent_core.proofs.parent.Parent.tab_allowed.Goals as goal

pub subscribe-core-requires-clause-kept : goal.subscribe-core-requires-clause-kept
subscribe-core-requires-clause-kept c =
    kept_behind c.args.self c.in_ok-opened.opened c.args.p c.args.named c.context_of_tab-x.result c.group_of_tab-g.result c.requires.allowed
    (opened_with c.args.self c.in_ok-opened.opened c.args.p.0 c.args.named c.context_of_tab-x.result c.group_of_tab-g.result c.context_of_tab-x.ensures c.group_of_tab-g.ensures
    c.in_ok-opened.ensures.facts) c.group_of_tab-g.ensures

pub post_tab-requires-clause-live : goal.post_tab-requires-clause-live
post_tab-requires-clause-live c =
    live_behind c.args.self c.subscribe-core.result c.args.p.0 c.context_of_tab-x.result c.group_of_tab-g.result (is_none c.args.named)
    (tab_behind c.args.self c.in_ok-opened.opened c.subscribe-core.result c.args.p.0 c.args.named c.context_of_tab-x.result c.group_of_tab-g.result c.context_of_tab-x.ensures c.group_of_tab-g.ensures
    c.in_ok-opened.ensures.facts c.subscribe-core.ensures.facts)

pub post_tab-requires-clause-owner : goal.post_tab-requires-clause-owner
post_tab-requires-clause-owner c =
    owner_behind c.args.self c.subscribe-core.result c.args.p.0 c.context_of_tab-x.result c.group_of_tab-g.result (is_none c.args.named)
    (tab_behind c.args.self c.in_ok-opened.opened c.subscribe-core.result c.args.p.0 c.args.named c.context_of_tab-x.result c.group_of_tab-g.result c.context_of_tab-x.ensures c.group_of_tab-g.ensures
    c.in_ok-opened.ensures.facts c.subscribe-core.ensures.facts)

pub finish-requires : goal.finish-requires
finish-requires c =
    sent_opened c.args.self c.subscribe-core.result c.args.p.0 c.context_of_tab-x.result c.group_of_tab-g.result (is_none c.args.named)
    (tab_behind c.args.self c.in_ok-opened.opened c.subscribe-core.result c.args.p.0 c.args.named c.context_of_tab-x.result c.group_of_tab-g.result c.context_of_tab-x.ensures c.group_of_tab-g.ensures
    c.in_ok-opened.ensures.facts c.subscribe-core.ensures.facts) (2 ^ 64 - 1) c.requires.counts.sent

pub returns : goal.returns
returns c =
    let k = c.args.self in
    let core = c.subscribe-core.result in
    let x = c.context_of_tab-x.result in
    let g = c.group_of_tab-g.result in
    let new = c.as_slice.result.now in
    ok_map
    (RuledBy core (plain_ruling (length core.config.types) (answers.Tab g x) (bundle_parts new) (facts_of core)))
    (RuledBy k (act_ruling k (Tab c.args.p c.args.named)))
    c.finish.result
    (λ r h. tab_done k core c.args.p c.args.named x g c.subscribers-told.result c.new-posts.result.items new r c.has_few_processes.ensures c.requires.allowed
    (c.subscribe-core.ensures.config ∙ c.in_ok-opened.ensures.config) c.context_of_tab-x.ensures c.group_of_tab-g.ensures c.subscribers-told.ensures
    (tab_behind k c.in_ok-opened.opened core c.args.p.0 c.args.named x g c.context_of_tab-x.ensures c.group_of_tab-g.ensures c.in_ok-opened.ensures.facts c.subscribe-core.ensures.facts)
    c.new-posts.ensures.items
    (λ q lt. ap (λ (ps : List Posted). sent_to ps q) c.as_slice.ensures.value ∙ c.in_ok-post_tab.ensures q lt) h)
    c.finish.ensures
