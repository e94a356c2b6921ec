use Rattle.std.proofs.Common.{◌≡◌, drop, arith, List, ◌&&◌, nat_lt, length, ap, ◌∙◌}
use Rattle.parent_core.specs.Parent.{Counted, Kept, counted_of, facts_of}
use Rattle.parent_core.specs.Posts.{bundle_parts, is_sent_to}
use Rattle.parent_core.specs.Sending.{counted_after}
use Rattle.parent_core.specs.contracts.parent.Parent as parent
use Rattle.parent_core.proofs.Lists.{written_over}
use Rattle.parent_core.proofs.Kept.{facts_sent, with_processes}
use Rattle.parent_core.proofs.Sends.{sent_or_not}
use Rattle.parent_core.proofs.parent.Parent.send_out.Goals as goal

pub returns-clause-facts : goal.returns-clause-facts
returns-clause-facts c =
    let whole : length c.count_sent.new.processes ≡ c.self.inside.processes.len = omega arith in
    let inside : Kept = parent.the_view c.self.inside in
    ap (λ (ps : List Counted). facts_of (with_processes ps inside))
    (written_over c.self.inside.processes.len c.count_sent.new.processes (drop (length c.count_sent.new.processes) c.self.inside.processes.items) whole)
    ∙ facts_sent inside c.args.self.now c.self.view_is (bundle_parts c.args.posts.now) (is_sent_to c.args.posts.now) c.count_sent.new.processes (sent_or_not c.args.posts.now) c.self.invariant.processes
    (λ q. c.count_sent.ensures.counts q ∙ ap (λ (l : List Counted). counted_after (nat_lt q (length l) && is_sent_to c.args.posts.now q) (counted_of q l)) c.as_mut_slice.ensures.value)
