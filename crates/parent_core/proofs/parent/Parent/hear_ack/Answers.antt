use Rattle.parent_core.proofs.Doing.{ack_done}
use Rattle.parent_core.proofs.parent.Parent.hear_ack.Goals as goal

pub returns : goal.returns
returns c = λ allows sent. ack_done c.args.p.0 c.args.x c.args.self c.acknowledge-core.result sent c.acknowledge-core.ensures.config c.acknowledge-core.ensures.facts allows
