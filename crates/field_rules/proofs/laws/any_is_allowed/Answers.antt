use Rattle.field_rules.proofs.Verdicts.{any_allows}
use Rattle.field_rules.proofs.laws.any_is_allowed.Goals as goal

pub returns : goal.returns
returns c b q = any_allows _ b q
