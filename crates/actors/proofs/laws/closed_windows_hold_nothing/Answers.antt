use Rattle.actors.proofs.Holds.{torn_down}
use Rattle.actors.proofs.laws.closed_windows_hold_nothing.Goals as goal

pub returns : goal.returns
returns c = torn_down
