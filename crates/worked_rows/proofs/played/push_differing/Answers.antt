use Rattle.std.proofs.Common.{◌≡◌, ◌++◌, map, string_bytes, ap, ◌∙◌, arith}
use Rattle.worked_rows.specs.Rows.{names_among}
use Rattle.worked_rows.specs.Script.{count_of_texts}
use Rattle.worked_rows.proofs.Worked.{none_named, named_more}
use Rattle.worked_rows.proofs.played.push_differing.Goals as goal

pub loop-k-init : goal.loop-k-init
loop-k-init c = none_named c.args.row.now (map string_bytes c.args.names.now.items)

pub loop-k-preserved : goal.loop-k-preserved
loop-k-preserved c = named_more c.args.row.now c.loop-k.k (map string_bytes c.args.names.now.items) _ _ c.loop-k.invariant c.in_ok-push_if_differs.ensures

pub returns : goal.returns
returns c =
    let at : c.loop-k.k ≡ c.count_texts-k-end.result = omega (arith, c.loop-k-test.false, c.loop-k.auto.k-end) in
    c.loop-k.invariant ∙ ap (λ n. map string_bytes c.args.names.now.items ++ names_among c.args.row.now n) (at ∙ c.count_texts-k-end.ensures ∙ ap count_of_texts c.as_slice.ensures.value)
