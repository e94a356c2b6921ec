use Rattle.field_rules.specs.RuleBounds.{bounds_of}
use Rattle.parent_core.proofs.Doing.{commit_done}
use Rattle.parent_core.proofs.parent.Parent.apply.Goals as goal

pub returns : goal.returns
returns g c =
    commit_done c.args.self c.write-core.result (bounds_of c.args.rules.now) c.args.p.0 c.args.x c.is_top.result c.is_owner.result c.args.t c.without-applied.result c.in_ok-back.back
    c.reverted_fields-reverted.result c.in_ok-note.note c.args.posts.now.items c.post_verdict.new.posts.items
    c.requires.judged c.is_top.ensures c.is_owner.ensures c.reverted_fields-reverted.ensures c.in_ok-note.ensures c.in_ok-back.ensures c.without-applied.ensures
    c.write-core.ensures.config c.write-core.ensures.facts c.in_ok-post_verdict.ensures
