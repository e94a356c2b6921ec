use Rattle.field_rules.proofs.Verdicts.{reads_no_bounds}
use Rattle.field_rules.proofs.laws.bounds_judge_zooms_alone.Goals as goal

pub returns : goal.returns
returns c b d q = reads_no_bounds _ b d q
