use Rattle.process_switch.proofs.Least.{other_than_owner}
use Rattle.process_switch.proofs.laws.switch_leaves_the_owner.Goals as goal

pub returns : goal.returns
returns c = other_than_owner
