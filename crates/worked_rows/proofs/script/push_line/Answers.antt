use Rattle.std.proofs.Common.{◌++◌, [], length, string_bytes, refl, sym, ap, ◌∙◌, append-nil}
use Rattle.std.specs.Option.{option_map_or}
use Rattle.std.proofs.lemmas.Option.{slice_get_past, slice_get_read}
use Rattle.worked_rows.proofs.script.push_line.Goals as goal

pub returns-in_ok-push_str-in-Some : goal.returns-in_ok-push_str-in-Some
returns-in_ok-push_str-in-Some c =
    let there = slice_get_read c.args.lines.now (length c.args.lines.now) c.args.number c.in-Some.line.now refl c.in-Some.ensures.lookup.3.0 c.in-Some.ensures.lookup.1 in
    c.in_ok-push_str-in-Some.ensures.bytes ∙ ap (λ l. string_bytes c.args.text.now ++ l) (c.as_str.ensures.value ∙ sym (ap (λ o. option_map_or string_bytes o []) there))

pub returns-in-None : goal.returns-in-None
returns-in-None c =
    let past = slice_get_past c.args.lines.now c.args.number c.in-None.ensures.lookup.3 in
    sym (ap (λ l. string_bytes c.args.text.now ++ l) (ap (λ o. option_map_or string_bytes o []) past) ∙ append-nil (string_bytes c.args.text.now))
