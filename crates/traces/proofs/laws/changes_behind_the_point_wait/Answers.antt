use Rattle.traces.proofs.Changed.{changes_wait}
use Rattle.traces.proofs.laws.changes_behind_the_point_wait.Goals as goal

pub returns : goal.returns
returns g c = changes_wait _
