use Rattle.scenario.proofs.Keys.{member_of_entries}
use Rattle.scenario.proofs.members.has_member.Goals as goal

pub returns : goal.returns
returns c = member_of_entries c.args.members.now.entries c.is_empty.result c.is_empty.ensures.0 c.is_empty.ensures.1
