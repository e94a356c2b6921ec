use Rattle.window_global.proofs.Rows.{live_is_open, open_is_live}
use Rattle.window_global.proofs.laws.open_windows_are_shown.Goals as goal

pub returns : goal.returns
returns c = λ rs s w x. (live_is_open rs s w x, open_is_live rs s w x)
