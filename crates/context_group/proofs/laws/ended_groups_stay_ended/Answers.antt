use Rattle.context_group.proofs.Kept.{stay_ended}
use Rattle.context_group.proofs.laws.ended_groups_stay_ended.Goals as goal

pub returns : goal.returns
returns c = stay_ended
