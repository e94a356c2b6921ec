use Rattle.std.proofs.Common.{sym}
use Rattle.wire_msgs.specs.declared.action.ParentAction.TheVariants.{Discard}
use Rattle.wire_msgs.specs.declared.refusal.Refusal.TheVariants.{NoContext}
use Rattle.parent_core.specs.Parent.{facts_of}
use Rattle.parent_core.proofs.Actions.{act_refused, discard_refused}
use Rattle.parent_core.proofs.parent.Parent.discard.Goals as goal

pub returns-else-is_live : goal.returns-else-is_live
returns-else-is_live c = act_refused c.args.self (Discard c.args.x) NoContext c.refuse.result (discard_refused (facts_of c.args.self) c.args.x (sym c.if-is_live.ensures)) c.refuse.ensures
