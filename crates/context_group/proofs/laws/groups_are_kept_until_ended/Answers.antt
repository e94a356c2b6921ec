use Rattle.context_group.proofs.Kept.{until_ended}
use Rattle.context_group.proofs.laws.groups_are_kept_until_ended.Goals as goal

pub returns : goal.returns
returns c = until_ended
