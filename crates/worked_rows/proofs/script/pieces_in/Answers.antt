use Rattle.worked_rows.proofs.Scripts.{two_more, last_one, shorter}
use Rattle.worked_rows.proofs.script.pieces_in.Goals as goal

pub more-smaller : goal.more-smaller
more-smaller c = shorter c.in-Some.plain.now c.in-Some-cut.mark.now c.in-Some.behind.now c.in-Some-cut.behind.now c.more.rest.now c.in-Some.ensures.found c.in-Some-cut.ensures.found

pub more-preserved : goal.more-preserved
more-preserved c =
    let next = two_more c.more.pieces.items c.in_ok-from_str.field-0 c.in_ok-marked.field-0 c.in-Some.plain.now c.in-Some-cut.mark.now c.in-Some.behind.now c.in-Some-cut.behind.now c.more.rest.now c.args.text.now
    c.in_ok-from_str.ensures.ok c.in_ok-marked.ensures c.in-Some.ensures.found c.in-Some-cut.ensures.found c.more.invariant.so_far in
    record { so_far = rw (c.in_ok-push-2.ensures.items, c.in_ok-push.ensures.items) next; utf8 = c.in-Some-cut.ensures.utf8 }

pub returns : goal.returns
returns c = rw c.in_ok-push-3.ensures.items (last_one c.more.pieces.items c.in_ok-from_str-2.field-0 c.more.rest.now c.args.text.now c.in_ok-from_str-2.ensures.ok c.more.invariant.so_far)
