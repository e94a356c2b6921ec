use Rattle.std.proofs.Common.{◌∙◌, sym}
use Rattle.window_global.specs.Windows.{is_at, windows_after_close}
use Rattle.window_global.proofs.Rows.{tied_seen, noted_seen, keeps_rows, rows_seen, close_nothing, closed_sound, close_noted}
use Rattle.window_global.proofs.windows.Windows.close.Goals as goal

pub returns-in_default-clause-rows : goal.returns-in_default-clause-rows
returns-in_default-clause-rows c =
    let t = tied_seen c.self.inside.rows.entries c.self.inside.live.entries c.args.self.now c.self.invariant c.self.view_is in
    sym (close_nothing c.args.w c.args.self.now t.sound (sym c.open_context.ensures ∙ c.in_default.is))

pub invariant_of-self : goal.invariant_of-self
invariant_of-self c =
    let t = tied_seen c.self.inside.rows.entries c.self.inside.live.entries c.args.self.now c.self.invariant c.self.view_is in
    let noted = noted_seen c.self.inside.rows.entries c.self.inside.live.entries c.args.self.now c.self.invariant c.self.view_is in
    keeps_rows c.shut.new.rows.entries c.swap_remove.new.self.entries (windows_after_close c.args.w c.args.self.now)
    (c.shut.ensures.rows c.args.self.now t)
    (closed_sound (is_at c.args.w) c.args.self.now t.sound)
    (close_noted c.args.w c.in-Some.x c.self.inside.live.entries c.swap_remove.new.self.entries c.args.self.now t.sound (sym c.open_context.ensures ∙ c.in-Some.is) noted c.swap_remove.ensures.updates.0)

pub returns-clause-rows : goal.returns-clause-rows
returns-clause-rows c =
    let t = tied_seen c.self.inside.rows.entries c.self.inside.live.entries c.args.self.now c.self.invariant c.self.view_is in
    rows_seen c.shut.new.rows.entries (windows_after_close c.args.w c.args.self.now) (c.shut.ensures.rows c.args.self.now t)
