use Rattle.std.proofs.Common.{refl}
use Rattle.field_rules.specs.Rules.{row}
use Rattle.field_rules.specs.WorkedRows.{worked_rows}
use Rattle.field_rules.proofs.laws.worked_rows.Goals as goal

pub returns : goal.returns
unfolding row worked_rows
returns c = refl
