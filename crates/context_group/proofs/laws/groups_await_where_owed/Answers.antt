use Rattle.context_group.proofs.Kept.{where_owed}
use Rattle.context_group.proofs.laws.groups_await_where_owed.Goals as goal

pub returns : goal.returns
returns c = where_owed
