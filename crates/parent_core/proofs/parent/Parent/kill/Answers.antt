use Rattle.std.proofs.Common.{length}
use Rattle.wire_msgs.specs.declared.action.ParentAction.TheVariants.{Kill}
use Rattle.wire_msgs.specs.declared.answer.Answer.TheVariants.{Done}
use Rattle.wire_msgs.specs.declared.cause.EndCause.TheVariants.{Killed}
use Rattle.wire_msgs.specs.declared.refusal.Refusal.TheVariants.{NoProcess}
use Rattle.protocol.specs.Sayings.Saying.{Ended}
use Rattle.protocol.specs.FactsAfter.{facts_after}
use Rattle.parent_core.specs.Parent.{facts_of}
use Rattle.parent_core.specs.Posts.{end_to}
use Rattle.parent_core.specs.Ruled.{RuledBy}
use Rattle.parent_core.proofs.Actions.{act_ruling, act_refused, kill_refused, kill_done}
use Rattle.parent_core.proofs.Steps.{ok_map}
use Rattle.parent_core.proofs.Sends.{plain_ruling}
use Rattle.parent_core.proofs.parent.Parent.kill.Goals as goal

pub returns-in-Some : goal.returns-in-Some
returns-in-Some c = act_refused c.args.self (Kill c.args.p) NoProcess c.refuse.result (kill_refused (facts_of c.args.self) c.args.p _ c.in-Some.ensures) c.refuse.ensures

pub returns-in-None : goal.returns-in-None
returns-in-None c =
    let k = c.args.self in
    ok_map
    (RuledBy k (plain_ruling (length k.config.types) Done (end_to c.args.p.0 Killed) (facts_after (Ended c.args.p.0 Killed) (facts_of k))))
    (RuledBy k (act_ruling k (Kill c.args.p)))
    c.end.result
    (λ r h. kill_done k c.args.p r c.in-None.ensures h)
    c.end.ensures
