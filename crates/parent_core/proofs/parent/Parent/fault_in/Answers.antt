use Rattle.std.proofs.Common.{sym, ap, ◌∙◌}
use Rattle.transaction.specs.Transaction.{Changes}
use Rattle.parent_core.specs.Drafts.{commit_fault, fault_in}
use Rattle.parent_core.specs.Parent.{facts_of}
use Rattle.parent_core.proofs.parent.Parent.fault_in.Goals as goal

pub returns-in-Commit : goal.returns-in-Commit
unfolding fault_in
returns-in-Commit c =
    c.commit_fault.ensures
    ∙ ap (λ (t : Changes). commit_fault (facts_of c.args.self.now) c.args.p.0 c.in-Commit.context t c.args.draft.now) c.get.ensures
    ∙ sym (ap (fault_in (facts_of c.args.self.now) c.args.p.0 c.args.draft.now) c.in-Commit.is)
