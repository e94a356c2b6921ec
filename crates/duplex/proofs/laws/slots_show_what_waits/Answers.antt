use Rattle.duplex.proofs.Shows.{shows_down, shows_up}
use Rattle.duplex.proofs.laws.slots_show_what_waits.Goals as goal

pub returns-clause-down : goal.returns-clause-down
returns-clause-down g c = shows_down g.U.Stamped.stamp_of

pub returns-clause-up : goal.returns-clause-up
returns-clause-up g c = shows_up g.U.Stamped.stamp_of
