use Rattle.parent_core.proofs.Doing.{drop_done}
use Rattle.parent_core.proofs.parent.Parent.drop_live.Goals as goal

pub returns : goal.returns
returns c =
    drop_done c.args.p.0 c.args.x c.args.x c.args.self c.in_ok-core.core c.args.posts.now.items c.post_part.new.posts.items c.others.result
    c.in_ok-core.ensures.config c.requires.live c.in_ok-core.ensures.facts c.others.ensures c.in_ok-post_part.ensures
