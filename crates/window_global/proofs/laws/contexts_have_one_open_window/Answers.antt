use Rattle.window_global.specs.Windows.{is_at}
use Rattle.window_global.proofs.Rows.{begun_sound, closed_sound}
use Rattle.window_global.proofs.laws.contexts_have_one_open_window.Goals as goal

pub returns : goal.returns
returns c = record { begin = begun_sound; close = λ w. closed_sound (is_at w) }
