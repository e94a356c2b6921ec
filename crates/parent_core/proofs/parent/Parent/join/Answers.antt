use Rattle.wire_msgs.specs.declared.action.ParentAction.TheVariants.{Subscribe}
use Rattle.parent_core.proofs.Actions.{act_refused}
use Rattle.parent_core.proofs.parent.Parent.join.Goals as goal

pub returns-in-Some : goal.returns-in-Some
returns-in-Some c = act_refused c.args.self (Subscribe c.args.p c.args.g) c.in-Some.why c.refuse.result c.in-Some.ensures c.refuse.ensures
