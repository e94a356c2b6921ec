use Rattle.worked_rows.proofs.Scripts.{line_more, last_line, line_shorter}
use Rattle.worked_rows.proofs.script.lines_in.Goals as goal

pub more-smaller : goal.more-smaller
more-smaller c = line_shorter c.in-Some.line.now c.in-Some.behind.now c.more.rest.now c.in-Some.ensures.found

pub more-preserved : goal.more-preserved
more-preserved c =
    let next = line_more c.more.lines.items c.in_ok-from_str.field-0 c.in-Some.line.now c.in-Some.behind.now c.more.rest.now c.args.text.now c.in_ok-from_str.ensures.ok c.in-Some.ensures.found c.more.invariant.so_far in
    record { so_far = rw c.in_ok-push.ensures.items next; utf8 = c.in-Some.ensures.utf8 }

pub returns : goal.returns
returns c = rw c.in_ok-push-2.ensures.items (last_line c.more.lines.items c.in_ok-from_str-2.field-0 c.more.rest.now c.args.text.now c.in_ok-from_str-2.ensures.ok c.more.invariant.so_far)
