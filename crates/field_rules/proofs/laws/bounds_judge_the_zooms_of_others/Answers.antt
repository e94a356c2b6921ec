use Rattle.field_rules.proofs.Verdicts.{zoom_of_owner, zoom_of_other}
use Rattle.field_rules.proofs.laws.bounds_judge_the_zooms_of_others.Goals as goal

pub returns-clause-owner : goal.returns-clause-owner
returns-clause-owner c b q = zoom_of_owner _ b q

pub returns-clause-others : goal.returns-clause-others
returns-clause-others c b q = zoom_of_other _ b q
