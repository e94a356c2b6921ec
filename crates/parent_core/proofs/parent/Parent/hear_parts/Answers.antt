use Rattle.std.proofs.Common.{◌-◌, ◌^◌, length, ap}
use Rattle.field_rules.specs.RuleBounds.{bounds_of}
use Rattle.wire_msgs.specs.declared.answer.Answer.TheVariants.{Parts}
use Rattle.protocol.specs.Bundle.{parts_ruling}
use Rattle.protocol.specs.FactsAfter.{facts_after}
use Rattle.protocol.specs.Outside.{allowed_of}
use Rattle.parent_core.specs.Parent.{facts_of}
use Rattle.parent_core.specs.Posts.{bundle_parts}
use Rattle.parent_core.specs.Ruled.{RuledBy}
use Rattle.parent_core.proofs.Bundles.{parts_count, ruled_heard}
use Rattle.parent_core.proofs.Steps.{ok_map}
use Rattle.parent_core.proofs.Sends.{plain_ruling}
use Rattle.parent_core.proofs.parent.Parent.hear_parts.Goals as goal

pub finish-requires : goal.finish-requires
finish-requires g c =
    parts_count (2 ^ 64 - 1) (allowed_of (bounds_of c.args.rules.now) c.args.bundle) c.args.p.0 (facts_of c.args.self) (facts_of c.in_ok-heard.heard.core) c.args.bundle.parts c.in_ok-heard.ensures.facts
    c.requires.counts

pub returns : goal.returns
returns g c =
    let k = c.args.self in
    let heard = c.in_ok-heard.heard in
    let new = c.as_slice.result.now in
    let allows = allowed_of (bounds_of c.args.rules.now) c.args.bundle in
    ok_map
    (RuledBy heard.core (plain_ruling (length heard.core.config.types) (Parts c.from_vec.result) (bundle_parts new) (facts_of heard.core)))
    (RuledBy k (parts_ruling (λ f. f) facts_after (length k.config.types) allows c.args.p.0 c.args.bundle (facts_of k)))
    c.finish.result
    (λ r h. ruled_heard k allows c.args.p.0 c.args.bundle heard (Parts c.from_vec.result) new r c.has_few_processes.ensures c.in_ok-heard.ensures (ap Parts c.from_vec.ensures) c.as_slice.ensures.value h)
    c.finish.ensures
