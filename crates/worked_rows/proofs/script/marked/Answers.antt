use Rattle.worked_rows.proofs.Scripts.{times_marked, numbered_marked}
use Rattle.worked_rows.proofs.script.marked.Goals as goal

pub returns-in-Some-cut : goal.returns-in-Some-cut
returns-in-Some-cut c =
    times_marked c.in_ok-count_in.field-0 c.in_ok-from_str.field-0 c.in-Some-cut.count.now c.in-Some-cut.piece.now c.args.mark.now c.in_ok-count_in.ensures c.in_ok-from_str.ensures.ok c.in-Some-cut.ensures.found

pub returns : goal.returns
returns c =
    numbered_marked c.in_ok-count_in-2.field-0 c.in_ok-from_str-2.field-0 c.in-Some-cut-2.count.now c.in-Some-cut-2.piece.now c.args.mark.now c.in_ok-count_in-2.ensures c.in_ok-from_str-2.ensures.ok c.in-Some-cut-2.ensures.found
