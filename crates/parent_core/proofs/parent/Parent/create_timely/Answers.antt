use Rattle.parent_core.proofs.Doing.{timely_done}
use Rattle.parent_core.proofs.parent.Parent.create_timely.Goals as goal

pub returns : goal.returns
returns c =
    timely_done c.args.p.0 c.args.x c.args.above c.args.self c.in_ok-core.core c.args.posts.now.items c.post_part.new.posts.items c.others.result
    c.in_ok-core.ensures.config c.in_ok-part.part c.requires.timely c.in_ok-core.ensures.facts c.in_ok-part.ensures c.others.ensures c.in_ok-post_part.ensures
