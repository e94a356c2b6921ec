use Rattle.std.proofs.Common.{◌∙◌, ap, sym}
use Rattle.std.specs.Option.{option_copied_mut}
use Rattle.window_global.proofs.Rows.{shut_written, shut_nothing}
use Rattle.window_global.proofs.windows.shut.Goals as goal

pub returns-in-Some-clause-rows : goal.returns-in-Some-clause-rows
returns-in-Some-clause-rows c = λ rs t.
    shut_written c.args.w c.key_of.result c.args.rows.now.entries _ c.in-Some.row.now c.close.new.self rs c.key_of.ensures t c.in-Some.ensures.value c.close.ensures (c.get_mut.follows.holds c.close.new.self).0

pub returns-in_default-clause-rows : goal.returns-in_default-clause-rows
returns-in_default-clause-rows c = λ rs t.
    ap (λ m. m.entries) c.get_mut.follows.holds-at-none
    ∙ shut_nothing c.args.w c.key_of.result c.args.rows.now.entries rs c.key_of.ensures t (sym (ap option_copied_mut c.in_default.is) ∙ c.get_mut.ensures.value)
