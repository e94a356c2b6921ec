use Rattle.std.proofs.Common.{sym}
use Rattle.parent_core.specs.Parent.{facts_of}
use Rattle.parent_core.proofs.Actions.{refusal_absent, refusal_live}
use Rattle.parent_core.proofs.parent.Parent.set_refusal.Goals as goal

pub returns-then-is_live : goal.returns-then-is_live
returns-then-is_live c =
    refusal_live (facts_of c.args.self.now) c.args.x c.args.t.now c.is_top.result c.denial.result (sym c.if-is_live.ensures) c.is_top.ensures c.denial.ensures

pub returns-else-is_live : goal.returns-else-is_live
returns-else-is_live c = refusal_absent (facts_of c.args.self.now) c.args.x c.args.t.now (sym c.if-is_live.ensures)
