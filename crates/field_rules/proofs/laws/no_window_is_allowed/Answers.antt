use Rattle.field_rules.proofs.Verdicts.{window_allows_none}
use Rattle.field_rules.proofs.laws.no_window_is_allowed.Goals as goal

pub returns : goal.returns
returns c b q = window_allows_none _ b q
