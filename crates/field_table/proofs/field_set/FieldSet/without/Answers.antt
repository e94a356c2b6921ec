use Rattle.std.proofs.Common.{rules}
use Rattle.field_table.proofs.FieldSets.{members_without}
use Rattle.field_table.proofs.field_set.FieldSet.without.Goals as goal

pub returns-clause-members : goal.returns-clause-members
returns-clause-members c = members_without _ _ c.args.f (search rules)
