use Rattle.std.proofs.Common.{◌≡◌, ◌-◌, ◌^◌, Bool, if◌then◌else◌, length, sym, ap, ◌∙◌}
use Rattle.field_rules.specs.RuleBounds.{bounds_of}
use Rattle.protocol.specs.Bundle.{end_ruling, parts_ruling}
use Rattle.protocol.specs.Sayings.Saying.{Counted}
use Rattle.protocol.specs.FactsAfter.{facts_after}
use Rattle.protocol.specs.Outside.{allowed_of}
use Rattle.parent_core.specs.Parent.{facts_of}
use Rattle.parent_core.specs.Ruled.{RuledBy}
use Rattle.parent_core.proofs.Bundles.{counted_facts, whole_ruling, still_counts, still_runs, ruled_cause, ruled_parts, faultless_envelope, faultless_parts}
use Rattle.parent_core.proofs.Folding.{commits_alike}
use Rattle.parent_core.proofs.Steps.{ok_map}
use Rattle.parent_core.proofs.parent.Parent.hear_judged.Goals as goal

pub end-requires-clause-counts : goal.end-requires-clause-counts
end-requires-clause-counts g c =
    still_counts (2 ^ 64 - 1) c.args.counted c.args.p.0 (facts_of c.args.self) (facts_of c.record_if-core.result) c.record_if-core.ensures.facts c.requires.counts.sent

pub hear_parts-requires-clause-counts : goal.hear_parts-requires-clause-counts
hear_parts-requires-clause-counts g c =
    still_counts (2 ^ 64 - 1) c.args.counted c.args.p.0 (facts_of c.args.self) (facts_of c.record_if-core.result) c.record_if-core.ensures.facts c.requires.counts.sent

pub hear_parts-requires-clause-runs : goal.hear_parts-requires-clause-runs
hear_parts-requires-clause-runs g c = still_runs c.args.counted c.args.p.0 (facts_of c.args.self) (facts_of c.record_if-core.result) c.record_if-core.ensures.facts c.requires.runs

pub hear_parts-requires-clause-commits : goal.hear_parts-requires-clause-commits
hear_parts-requires-clause-commits g c =
    commits_alike (facts_of c.args.self) c.args.p.0 c.args.bundle
    (faultless_envelope c.args.self (allowed_of (bounds_of c.args.rules.now) c.args.bundle) c.args.p.0 c.args.bundle c.record_if-core.result c.requires.runs c.record_if-core.ensures.config
    (c.record_if-core.ensures.facts ∙ ap (λ (b : Bool). if b then facts_after (Counted c.args.p.0) (facts_of c.args.self) else facts_of c.args.self) c.requires.counted) (sym c.in-None.is ∙ c.requires.cause))

pub hear_parts-requires-clause-faultless : goal.hear_parts-requires-clause-faultless
hear_parts-requires-clause-faultless g c =
    faultless_parts c.args.self (allowed_of (bounds_of c.args.rules.now) c.args.bundle) c.args.p.0 c.args.bundle c.record_if-core.result c.requires.runs c.record_if-core.ensures.config
    (c.record_if-core.ensures.facts ∙ ap (λ (b : Bool). if b then facts_after (Counted c.args.p.0) (facts_of c.args.self) else facts_of c.args.self) c.requires.counted) (sym c.in-None.is ∙ c.requires.cause)

pub returns-in-Some : goal.returns-in-Some
returns-in-Some g c =
    let before = c.args.self in
    let k = c.record_if-core.result in
    let allows = allowed_of (bounds_of c.args.rules.now) c.args.bundle in
    let p = c.args.p.0 in
    let cause = c.in-Some.cause in
    let facts : facts_of k ≡ counted_facts (facts_of before) p c.args.bundle =
    c.record_if-core.ensures.facts ∙ ap (λ (b : Bool). if b then facts_after (Counted p) (facts_of before) else facts_of before) c.requires.counted in
    ok_map
    (RuledBy k (end_ruling (λ f. f) facts_after (length k.config.types) p cause (facts_of k)))
    (RuledBy before (whole_ruling before allows p c.args.bundle))
    c.end.result
    (λ r h. ruled_cause before allows p c.args.bundle k c.requires.runs c.record_if-core.ensures.config facts cause r (sym c.in-Some.is ∙ c.requires.cause) h)
    c.end.ensures

pub returns-in-None : goal.returns-in-None
returns-in-None g c =
    let before = c.args.self in
    let k = c.record_if-core.result in
    let allows = allowed_of (bounds_of c.args.rules.now) c.args.bundle in
    let p = c.args.p.0 in
    let facts : facts_of k ≡ counted_facts (facts_of before) p c.args.bundle =
    c.record_if-core.ensures.facts ∙ ap (λ (b : Bool). if b then facts_after (Counted p) (facts_of before) else facts_of before) c.requires.counted in
    ok_map
    (RuledBy k (parts_ruling (λ f. f) facts_after (length k.config.types) allows p c.args.bundle (facts_of k)))
    (RuledBy before (whole_ruling before allows p c.args.bundle))
    c.hear_parts.result
    (λ r h. ruled_parts before allows p c.args.bundle k c.requires.runs c.record_if-core.ensures.config facts r (sym c.in-None.is ∙ c.requires.cause) h)
    c.hear_parts.ensures
