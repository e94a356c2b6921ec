use Rattle.parent_core.proofs.Doing.{late_done}
use Rattle.parent_core.proofs.parent.Parent.create_late.Goals as goal

pub returns : goal.returns
returns c =
    late_done c.args.p.0 c.args.x c.args.above c.args.self c.in_ok-core.core c.args.posts.now.items c.post_part.new.posts.items c.only.result
    c.in_ok-core.ensures.config c.requires.late c.in_ok-core.ensures.facts c.only.ensures c.in_ok-post_part.ensures
