use Rattle.traces.proofs.Comings.{bring_value}
use Rattle.traces.proofs.laws.comings_bring_the_value.Goals as goal

pub returns : goal.returns
returns g c = bring_value _
