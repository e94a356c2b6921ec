use Rattle.process_switch.proofs.Least.{least_live}
use Rattle.process_switch.proofs.laws.choice_is_the_least.Goals as goal

pub returns : goal.returns
returns c = least_live
