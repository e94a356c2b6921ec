use Rattle.std.proofs.Common.{refl, rules}
use Rattle.field_table.proofs.FieldSets.{members_minus}
use Rattle.field_table.proofs.field_set.FieldSet.minus.Goals as goal

pub returns-clause-members : goal.returns-clause-members
returns-clause-members c = members_minus _ c.args.self c.args.s (search rules) refl
