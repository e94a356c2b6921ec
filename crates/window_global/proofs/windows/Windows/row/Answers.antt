use Rattle.std.proofs.Common.{◌∙◌}
use Rattle.window_global.proofs.Rows.{row_by_key}
use Rattle.window_global.proofs.windows.Windows.row.Goals as goal

pub returns : goal.returns
returns c =
    c.get.ensures.value
    ∙ row_by_key c.args.w c.key_of.result c.self.inside.rows.entries c.self.inside.live.entries c.args.self.now c.key_of.ensures c.self.invariant c.self.view_is
