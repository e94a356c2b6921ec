use Rattle.wire_msgs.specs.declared.action.ParentAction.TheVariants.{Tab}
use Rattle.parent_core.proofs.Actions.{act_refused}
use Rattle.parent_core.proofs.parent.Parent.tab.Goals as goal

pub returns-in-Some : goal.returns-in-Some
returns-in-Some c = act_refused c.args.self (Tab c.args.p c.args.named) c.in-Some.why c.refuse.result c.in-Some.ensures c.refuse.ensures
