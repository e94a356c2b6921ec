use Rattle.std.proofs.Common.{◌-◌, ◌^◌, List, ap, length, ◌∙◌}
use Rattle.wire_msgs.specs.declared.action.ParentAction.TheVariants.{Set}
use Rattle.wire_msgs.specs.declared.answer.Answer.TheVariants.{Done}
use Rattle.parent_core.specs.Parent.{facts_of}
use Rattle.parent_core.specs.Posts.{Posted, bundle_parts, sent_to}
use Rattle.parent_core.specs.Ruled.{RuledBy}
use Rattle.parent_core.proofs.Actions.{act_ruling, set_done, set_live}
use Rattle.parent_core.proofs.Steps.{ok_map, sent_wrote}
use Rattle.parent_core.proofs.Sends.{plain_ruling}
use Rattle.parent_core.proofs.parent.Parent.set_allowed.Goals as goal

pub write-requires : goal.write-requires
write-requires c = set_live (facts_of c.args.self) c.args.x c.args.t c.requires.allowed

pub finish-requires : goal.finish-requires
finish-requires c = sent_wrote (2 ^ 64 - 1) c.args.self c.write.result c.args.x c.args.t c.write.ensures.facts c.requires.counts.sent

pub returns : goal.returns
returns c =
    let k = c.args.self in
    let after = c.write.result in
    let new = c.as_slice.result.now in
    ok_map
    (RuledBy after (plain_ruling (length after.config.types) Done (bundle_parts new) (facts_of after)))
    (RuledBy k (act_ruling k (Set c.args.x c.args.t)))
    c.finish.result
    (λ r h. set_done k after c.told_of.result c.new-posts.result.items new c.args.x r c.has_few_processes.ensures c.write.ensures.config c.told_of.ensures c.new-posts.ensures.items h c.args.t
    c.requires.allowed c.write.ensures.facts (λ q. ap (λ (ps : List Posted). sent_to ps q) c.as_slice.ensures.value ∙ c.in_ok-post_commit.ensures q))
    c.finish.ensures
