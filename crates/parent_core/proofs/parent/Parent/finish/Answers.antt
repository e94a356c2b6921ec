use Rattle.std.proofs.Common.{refl}
use Rattle.parent_core.specs.Parent.{facts_of}
use Rattle.parent_core.specs.Posts.{bundle_parts}
use Rattle.parent_core.proofs.Sends.{ruled_sent}
use Rattle.parent_core.proofs.parent.Parent.finish.Goals as goal

pub returns : goal.returns
returns c =
    ruled_sent c.args.self c.args.self c.send_out.new.self c.args.answer (bundle_parts c.args.posts.now) (facts_of c.args.self) c.in_ok-sent.sent
    refl refl c.in_ok-sent.ensures.config c.in_ok-sent.ensures.facts c.in_ok-sent.ensures.sent
