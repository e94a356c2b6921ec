use Rattle.std.proofs.Common.{◌-◌, ◌^◌, None, List, ap, length, ◌∙◌}
use Rattle.wire_msgs.specs.declared.action.ParentAction.TheVariants.{Discard}
use Rattle.wire_msgs.specs.declared.answer.Answer.TheVariants.{Done}
use Rattle.parent_core.specs.Parent.{facts_of}
use Rattle.parent_core.specs.Posts.{Posted, bundle_parts, sent_to}
use Rattle.parent_core.specs.Ruled.{RuledBy}
use Rattle.parent_core.proofs.Actions.{act_ruling, discard_done}
use Rattle.parent_core.proofs.Steps.{ok_map, sent_removed}
use Rattle.parent_core.proofs.Sends.{plain_ruling}
use Rattle.parent_core.proofs.parent.Parent.discard_live.Goals as goal

pub finish-requires : goal.finish-requires
finish-requires c = sent_removed (2 ^ 64 - 1) c.args.self c.in_ok-remove.field-0 c.args.x None c.in_ok-remove.ensures.facts c.requires.counts.sent

pub returns : goal.returns
returns c =
    let k = c.args.self in
    let after = c.in_ok-remove.field-0 in
    let new = c.as_slice.result.now in
    ok_map
    (RuledBy after (plain_ruling (length after.config.types) Done (bundle_parts new) (facts_of after)))
    (RuledBy k (act_ruling k (Discard c.args.x)))
    c.finish.result
    (λ r h. discard_done k after c.told_of.result c.new-posts.result.items new c.args.x r c.has_few_processes.ensures c.in_ok-remove.ensures.config c.told_of.ensures c.new-posts.ensures.items h
    c.requires.live c.in_ok-remove.ensures.facts (λ q. ap (λ (ps : List Posted). sent_to ps q) c.as_slice.ensures.value ∙ c.in_ok-post_part.ensures q))
    c.finish.ensures
