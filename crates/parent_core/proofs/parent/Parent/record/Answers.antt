use Rattle.std.proofs.Common.{◌≡◌, drop, length, arith, List, ◌==◌, ap, ◌∙◌}
use Rattle.parent_core.specs.Parent.{Counted, Kept, counted_of, facts_of}
use Rattle.parent_core.specs.Sending.{heard_after}
use Rattle.parent_core.specs.contracts.parent.Parent as parent
use Rattle.parent_core.proofs.Lists.{written_over}
use Rattle.parent_core.proofs.Kept.{facts_counted, with_processes}
use Rattle.parent_core.proofs.parent.Parent.record.Goals as goal

pub returns-clause-facts : goal.returns-clause-facts
returns-clause-facts c =
    let whole : length c.record_epoch.new.processes ≡ c.self.inside.processes.len = omega arith in
    let inside : Kept = parent.the_view c.self.inside in
    ap (λ (ps : List Counted). facts_of (with_processes ps inside))
    (written_over c.self.inside.processes.len c.record_epoch.new.processes (drop (length c.record_epoch.new.processes) c.self.inside.processes.items) whole)
    ∙ facts_counted inside c.args.self.now c.self.view_is c.args.p.0 c.record_epoch.new.processes
    (λ q. c.record_epoch.ensures.counts q ∙ ap (λ (l : List Counted). heard_after (q == c.args.p.0) (counted_of q l)) c.as_mut_slice.ensures.value)
