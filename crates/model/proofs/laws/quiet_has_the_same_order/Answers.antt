use Rattle.model.proofs.QuietOrder.{has_the_same_order}
use Rattle.model.proofs.laws.quiet_has_the_same_order.Goals as goal

pub returns : goal.returns
returns c = has_the_same_order
