use Rattle.std.proofs.Common.{◌≡◌, ◌<◌, [], arith, length, sym, subst, ◌∙◌}
use Rattle.std.proofs.Common.{refl}
use Rattle.std.proofs.lemmas.List.{nil_from_length}
use Rattle.field_rules.specs.RuleBounds.{bounds_of}
use Rattle.wire_msgs.specs.declared.config.Config.{Config}
use Rattle.protocol.specs.Outside.{changes_in}
use Rattle.parent_core.proofs.Folding.{goes_start, goes_next, goes_end, next_faultless, next_played, next_runs}
use Rattle.parent_core.proofs.parent.Parent.do_parts.Goals as goal

pub loop-part-init : goal.loop-part-init
loop-part-init g c =
    goes_start (bounds_of c.args.rules.now) c.args.p.0 (changes_in c.args.parts) c.args.self c.args.parts c.into_iter-part-iterator.result.rest.items c.new-notes.result.items c.new-posts.result.items
    (c.into_iter-part-iterator.ensures.into_iter_gives.0 ∙ c.into_vec-part-items.ensures) c.new-notes.ensures.items c.new-posts.ensures.items c.requires.faultless c.requires.parts c.requires.commits

pub hear_part-requires-clause-process : goal.hear_part-requires-clause-process
hear_part-requires-clause-process g c = subst (λ (k : Config). c.args.p.0 < length k.types) (sym c.loop-part.invariant.config) c.requires.process

pub hear_part-requires-clause-runs : goal.hear_part-requires-clause-runs
hear_part-requires-clause-runs g c =
    next_runs (bounds_of c.args.rules.now) c.args.p.0 (changes_in c.args.parts) c.args.self c.args.parts c.loop-part.core c.loop-part.part-iterator.rest.items c.loop-part.notes.items c.loop-part.posts.items
    c.loop-part.invariant c.in-Some.part c.next.new.self.rest.items c.in-Some.ensures.steps.0 c.requires.runs

pub hear_part-requires-clause-part : goal.hear_part-requires-clause-part
hear_part-requires-clause-part g c =
    next_played (bounds_of c.args.rules.now) c.args.p.0 (changes_in c.args.parts) c.args.self c.args.parts c.loop-part.core c.loop-part.part-iterator.rest.items c.loop-part.notes.items c.loop-part.posts.items
    c.loop-part.invariant c.in-Some.part c.next.new.self.rest.items c.in-Some.ensures.steps.0

pub hear_part-requires-clause-faultless : goal.hear_part-requires-clause-faultless
hear_part-requires-clause-faultless g c =
    next_faultless (bounds_of c.args.rules.now) c.args.p.0 (changes_in c.args.parts) c.args.self c.args.parts c.loop-part.core c.loop-part.part-iterator.rest.items c.loop-part.notes.items c.loop-part.posts.items
    c.loop-part.invariant c.in-Some.part c.next.new.self.rest.items c.in-Some.ensures.steps.0

pub loop-part-preserved : goal.loop-part-preserved
loop-part-preserved g c =
    goes_next (bounds_of c.args.rules.now) c.args.p.0 (changes_in c.args.parts) c.args.self c.args.parts c.loop-part.core c.loop-part.part-iterator.rest.items c.loop-part.notes.items c.loop-part.posts.items
    c.loop-part.invariant c.in-Some.part c.next.new.self.rest.items c.in-Some.ensures.steps.0 c.in_ok-heard.heard c.push.new.self.items c.hear_part.new.posts.items c.in_ok-heard.ensures c.in_ok-push.ensures.items

pub returns : goal.returns
returns g c =
    let rest = c.loop-part.part-iterator.rest in
    let len : length rest.items ≡ 0 = omega (arith, c.in-None.ensures.steps.0) in
    let none : rest.items ≡ [] = nil_from_length rest.items len in
    goes_end (bounds_of c.args.rules.now) c.args.p.0 (changes_in c.args.parts) c.args.self c.args.parts c.loop-part.core c.loop-part.part-iterator.rest.items c.loop-part.notes.items c.loop-part.posts.items
    c.loop-part.invariant (record { core = c.loop-part.core; notes = c.loop-part.notes; posts = c.loop-part.posts }) none refl refl refl
