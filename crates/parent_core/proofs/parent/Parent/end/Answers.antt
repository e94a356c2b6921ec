use Rattle.std.proofs.Common.{◌-◌, ◌^◌, List, ap, length, ◌∙◌}
use Rattle.protocol.specs.Sayings.Saying.{Ended}
use Rattle.protocol.specs.FactsAfter.{facts_after}
use Rattle.parent_core.specs.Parent.{facts_of}
use Rattle.parent_core.specs.Posts.{Posted, bundle_parts, end_to, sent_to}
use Rattle.parent_core.specs.Ruled.{RuledBy}
use Rattle.parent_core.proofs.Actions.{ended_by}
use Rattle.parent_core.proofs.Steps.{ok_map, sent_ended}
use Rattle.parent_core.proofs.Sends.{plain_ruling}
use Rattle.parent_core.proofs.parent.Parent.end.Goals as goal

pub finish-requires : goal.finish-requires
finish-requires c = sent_ended (2 ^ 64 - 1) c.args.self c.in_ok-note_end.field-0 c.args.p.0 c.args.cause c.in_ok-note_end.ensures.facts c.requires.counts

pub returns : goal.returns
returns c =
    let k = c.args.self in
    let after = c.in_ok-note_end.field-0 in
    let new = c.as_slice.result.now in
    let p = c.args.p.0 in
    let cause = c.args.cause in
    ok_map
    (RuledBy after (plain_ruling (length after.config.types) c.args.answer (bundle_parts new) (facts_of after)))
    (RuledBy k (plain_ruling (length k.config.types) c.args.answer (end_to p cause) (facts_after (Ended p cause) (facts_of k))))
    c.finish.result
    (λ r h. ended_by k after p cause c.args.answer c.new-posts.result.items new r c.has_few_processes.ensures c.in_ok-note_end.ensures.config c.in_ok-note_end.ensures.facts c.new-posts.ensures.items
    (λ q lt. ap (λ (ps : List Posted). sent_to ps q) c.as_slice.ensures.value ∙ c.in_ok-post_end.ensures q lt) h)
    c.finish.ensures
