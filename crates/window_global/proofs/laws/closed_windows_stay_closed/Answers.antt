use Rattle.window_global.proofs.Stays.{begin_stays, close_stays}
use Rattle.window_global.proofs.laws.closed_windows_stay_closed.Goals as goal

pub returns : goal.returns
returns c = record { begin = begin_stays; close = close_stays }
