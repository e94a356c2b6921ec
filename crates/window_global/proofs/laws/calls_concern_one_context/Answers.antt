use Rattle.window_global.proofs.Rows.{live_begin, live_close}
use Rattle.window_global.proofs.laws.calls_concern_one_context.Goals as goal

pub returns : goal.returns
returns c = record { begin = live_begin; close = live_close }
