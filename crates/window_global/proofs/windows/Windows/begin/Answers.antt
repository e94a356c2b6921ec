use Rattle.std.proofs.Common.{◌∙◌, ◌&&◌, ◌==◌, ◌++◌, [], ◌∷◌, ℕ, Bool, sym, ap}
use Rattle.indexmap.proofs.CallerLemmas.{insert_entry-new}
use Rattle.window_global.specs.Windows.{windows_after_begin}
use Rattle.window_global.proofs.Rows.{tied_seen, noted_seen, keeps_rows, rows_seen, begun_sound, begin_noted, key_absent, begun_entries}
use Rattle.window_global.proofs.windows.Windows.begin.Goals as goal

abbrev same_key : ℕ × ℕ → ℕ × ℕ → Bool
same_key a b = a.0 == b.0 && a.1 == b.1

pub invariant_of-self-2 : goal.invariant_of-self-2
invariant_of-self-2 c =
    let t = tied_seen c.self.inside.rows.entries c.self.inside.live.entries c.args.self.now c.self.invariant c.self.view_is in
    let noted = noted_seen c.self.inside.rows.entries c.self.inside.live.entries c.args.self.now c.self.invariant c.self.view_is in
    let new = sym c.is_made.ensures ∙ c.if-is_made.false in
    let rows = c.in_ok-make_way.ensures.rows c.args.self.now t (noted c.args.x) in
    let absent = key_absent c.args.w c.args.x c.args.late c.key_of.result c.make_way.new.rows.entries c.args.self.now c.key_of.ensures new rows in
    let entries = (rw c.unwrap.ensures at c.insert.ensures.entries) ∙ insert_entry-new same_key c.make_way.new.rows c.key_of.result _ absent ∙ ap (λ r. c.make_way.new.rows.entries ++ (c.key_of.result, r) ∷ []) c.begun.ensures in
    keeps_rows c.insert.new.self.entries c.make_way.new.live.entries (windows_after_begin c.args.w c.args.x c.args.url c.args.late c.args.self.now)
    (begun_entries c.args.w c.args.x c.args.url c.args.late c.key_of.result c.make_way.new.rows.entries c.insert.new.self.entries c.args.self.now c.key_of.ensures rows entries)
    (begun_sound c.args.w c.args.x c.args.url c.args.late c.args.self.now t.sound new)
    (begin_noted c.args.w c.args.x c.args.url c.args.late c.self.inside.live.entries c.make_way.new.live.entries c.args.self.now noted c.in_ok-make_way.ensures.live)

pub returns-clause-ok : goal.returns-clause-ok
returns-clause-ok c =
    let t = tied_seen c.self.inside.rows.entries c.self.inside.live.entries c.args.self.now c.self.invariant c.self.view_is in
    let noted = noted_seen c.self.inside.rows.entries c.self.inside.live.entries c.args.self.now c.self.invariant c.self.view_is in
    let new = sym c.is_made.ensures ∙ c.if-is_made.false in
    let rows = c.in_ok-make_way.ensures.rows c.args.self.now t (noted c.args.x) in
    let absent = key_absent c.args.w c.args.x c.args.late c.key_of.result c.make_way.new.rows.entries c.args.self.now c.key_of.ensures new rows in
    let entries = (rw c.unwrap.ensures at c.insert.ensures.entries) ∙ insert_entry-new same_key c.make_way.new.rows c.key_of.result _ absent ∙ ap (λ r. c.make_way.new.rows.entries ++ (c.key_of.result, r) ∷ []) c.begun.ensures in
    rows_seen c.insert.new.self.entries (windows_after_begin c.args.w c.args.x c.args.url c.args.late c.args.self.now)
    (begun_entries c.args.w c.args.x c.args.url c.args.late c.key_of.result c.make_way.new.rows.entries c.insert.new.self.entries c.args.self.now c.key_of.ensures rows entries)
