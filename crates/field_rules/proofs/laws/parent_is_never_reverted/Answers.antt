use Rattle.field_rules.proofs.Verdicts.{reverts_no_parent}
use Rattle.field_rules.proofs.laws.parent_is_never_reverted.Goals as goal

pub returns : goal.returns
returns c b q = reverts_no_parent _ b q
