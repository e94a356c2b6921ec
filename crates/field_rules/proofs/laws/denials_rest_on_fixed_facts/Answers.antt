use Rattle.field_rules.proofs.Verdicts.{both_denied, both_deny}
use Rattle.field_rules.proofs.laws.denials_rest_on_fixed_facts.Goals as goal

pub returns-clause-denied : goal.returns-clause-denied
returns-clause-denied c = both_denied

pub returns-clause-verdict : goal.returns-clause-verdict
returns-clause-verdict c = both_deny
