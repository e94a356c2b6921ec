use Rattle.worked_rows.proofs.Worked.{one_row_more}
use Rattle.worked_rows.proofs.rows.rows_in.Goals as goal

pub more-preserved : goal.more-preserved
more-preserved c =
    let next = one_row_more c.more.rows.items c.in_ok-row_of.field-0 c.in-Some.name.now c.in-Some.scenario.now c.in-Some.report.now c.in-Some.behind.now c.more.rest.now c.args.text.now
    c.in_ok-row_of.ensures.name c.in_ok-row_of.ensures.scenario c.in_ok-row_of.ensures.report c.in-Some.ensures.found c.more.invariant.so_far in
    record { so_far = rw c.in_ok-push.ensures.items next; utf8 = c.in-Some.ensures.utf8 }
