use Rattle.std.proofs.Common.{rules}
use Rattle.field_table.proofs.FieldSets.{members_with}
use Rattle.field_table.proofs.field_set.FieldSet.with.Goals as goal

pub returns-clause-members : goal.returns-clause-members
returns-clause-members c = members_with _ _ c.args.f (search rules)
