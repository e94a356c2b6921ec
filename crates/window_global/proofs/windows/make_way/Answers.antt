use Rattle.std.proofs.Common.{◌≡◌, ◌∙◌, ap, sym, cond, Some, None}
use Rattle.window_global.specs.Windows.{live_of, windows_without_open}
use Rattle.window_global.specs.Kept.{entries_of}
use Rattle.window_global.proofs.Rows.{close_open, none_open}
use Rattle.window_global.proofs.windows.make_way.Goals as goal

pub returns-in-Some-clause-rows : goal.returns-in-Some-clause-rows
returns-in-Some-clause-rows c = λ rs t noted.
    let at : live_of c.args.x rs ≡ Some c.in-Some.before = sym noted ∙ sym c.in_ok-before.ensures.old ∙ c.in-Some.is in
    c.shut.ensures.rows rs (record { entries = c.reserve.ensures.entries ∙ t.entries; sound = t.sound })
    ∙ ap entries_of (close_open c.args.x c.in-Some.before rs t.sound at)
    ∙ sym (ap (λ b. entries_of (cond b rs (windows_without_open c.args.x rs))) c.if-late.false)

pub returns-in_default-clause-rows : goal.returns-in_default-clause-rows
returns-in_default-clause-rows c = λ rs t noted.
    let at : live_of c.args.x rs ≡ None = sym noted ∙ sym c.in_ok-before.ensures.old ∙ c.in_default.is in
    c.reserve.ensures.entries ∙ t.entries
    ∙ ap entries_of (sym (none_open c.args.x rs at))
    ∙ sym (ap (λ b. entries_of (cond b rs (windows_without_open c.args.x rs))) c.if-late.false)
