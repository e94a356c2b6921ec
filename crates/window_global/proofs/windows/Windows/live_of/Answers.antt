use Rattle.std.proofs.Common.{◌∙◌}
use Rattle.window_global.proofs.Rows.{noted_seen}
use Rattle.window_global.proofs.windows.Windows.live_of.Goals as goal

pub returns : goal.returns
returns c =
    c.copied.ensures ∙ c.get.ensures.value
    ∙ noted_seen c.self.inside.rows.entries c.self.inside.live.entries c.args.self.now c.self.invariant c.self.view_is c.args.x
