use Rattle.std.proofs.Common.{◌-◌, ◌^◌, List, ap, length, ◌∙◌}
use Rattle.wire_msgs.specs.declared.action.ParentAction.TheVariants.{Subscribe}
use Rattle.wire_msgs.specs.declared.answer.Answer.TheVariants.{Done}
use Rattle.parent_core.specs.Parent.{facts_of}
use Rattle.parent_core.specs.Posts.{Posted, bundle_parts, sent_to}
use Rattle.parent_core.specs.Ruled.{RuledBy}
use Rattle.parent_core.proofs.Actions.{act_ruling}
use Rattle.parent_core.proofs.Openings.{join_done, join_kept, sent_joined}
use Rattle.parent_core.proofs.Sends.{plain_ruling}
use Rattle.parent_core.proofs.Steps.{ok_map}
use Rattle.parent_core.proofs.parent.Parent.join_allowed.Goals as goal

pub subscribe-core-requires-clause-kept : goal.subscribe-core-requires-clause-kept
subscribe-core-requires-clause-kept c = join_kept (facts_of c.args.self) c.args.p c.args.g c.requires.allowed

pub finish-requires : goal.finish-requires
finish-requires c = sent_joined (2 ^ 64 - 1) c.args.self c.subscribe-core.result c.args.p.0 c.args.g c.subscribe-core.ensures.facts c.requires.counts.sent

pub returns : goal.returns
returns c =
    let k = c.args.self in
    let core = c.subscribe-core.result in
    let new = c.as_slice.result.now in
    ok_map
    (RuledBy core (plain_ruling (length core.config.types) Done (bundle_parts new) (facts_of core)))
    (RuledBy k (act_ruling k (Subscribe c.args.p c.args.g)))
    c.finish.result
    (λ r h. join_done k core c.args.p c.args.g c.subscribers-told.result c.new-posts.result.items new r c.has_few_processes.ensures c.requires.allowed c.subscribe-core.ensures.config
    c.subscribers-told.ensures c.subscribe-core.ensures.facts c.new-posts.ensures.items
    (λ q lt. ap (λ (ps : List Posted). sent_to ps q) c.as_slice.ensures.value ∙ c.in_ok-post_joining.ensures q lt) h)
    c.finish.ensures
