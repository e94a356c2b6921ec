use Rattle.model.proofs.FieldLaws.{reverts_stand}
use Rattle.model.proofs.laws.reverts_wait.Goals as goal

pub returns : goal.returns
returns c = reverts_stand
