use Rattle.std.proofs.Common.{length, ◌∙◌}
use Rattle.parent_core.specs.Parent.{counted_of}
use Rattle.parent_core.specs.Posts.{bundle_parts}
use Rattle.parent_core.proofs.Sends.{bundles_more, bundles_done}
use Rattle.parent_core.proofs.sending.bundles.Goals as goal

pub loop-i-preserved : goal.loop-i-preserved
loop-i-preserved c =
    let i = c.loop-i.i in
    let ps = c.args.processes.now in
    bundles_more (bundle_parts c.args.posts.now) (λ q. (counted_of q ps).heard) i (length ps) c.loop-i.sent.items c.put_next.new.sent.items _ c.loop-i-test.true c.in_ok-put_next.ensures c.loop-i.invariant

pub returns : goal.returns
returns c =
    let ps = c.args.processes.now in
    c.from_vec.ensures ∙ bundles_done (bundle_parts c.args.posts.now) (λ q. (counted_of q ps).heard) c.loop-i.i (length ps) c.loop-i.sent.items _ c.loop-i-test.false c.loop-i.invariant
