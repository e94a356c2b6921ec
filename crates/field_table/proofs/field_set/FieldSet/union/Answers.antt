use Rattle.std.proofs.Common.{refl}
use Rattle.field_table.proofs.FieldSets.{members_union}
use Rattle.field_table.proofs.field_set.FieldSet.union.Goals as goal

pub returns-clause-members : goal.returns-clause-members
returns-clause-members c = members_union _ c.args.self c.args.s refl
