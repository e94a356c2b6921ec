use Rattle.std.proofs.Common.{arith}
use Rattle.std.proofs.lemmas.Result.{err_from_is_err_and}
use Rattle.serde_json.specs.View.{view, items_view}
use Rattle.scenario.specs.Reading.{line_of, lines_of}
use Rattle.scenario.proofs.Loop.{goes_on, ends, stops, is_done}
use Rattle.scenario.proofs.Turns.{lines_turn, lines_past, lines_end}
use Rattle.scenario.proofs.steps.lines_of.Goals as goal

pub returns-then-place-gt-MAX_STEPS : goal.returns-then-place-gt-MAX_STEPS
returns-then-place-gt-MAX_STEPS c =
    let past = lines_past c.loop-v.place c.args.count c.args.values.now c.loop-v.v-index c.v-item.result c.loop-v-test.true c.v-item.is c.if-place-gt-MAX_STEPS.true in
    stops 20001 c.loop-v.lines _ (lines_of 1 c.args.count (items_view c.args.values.now)) past c.loop-v.invariant.so_far

pub returns-in_err-line_of : goal.returns-in_err-line_of
returns-in_err-line_of c =
    let p = err_from_is_err_and c.from_residual.result c.from_residual.ensures.1 in
    let turn = lines_turn c.loop-v.place c.args.count c.args.values.now c.loop-v.v-index c.v-item.result c.loop-v-test.true c.v-item.is c.if-place-gt-MAX_STEPS.false in
    rw (p.1, p.2) (ends c.in_err-line_of.field-0.0 c.loop-v.lines (line_of c.loop-v.place c.args.count (view c.v-item.result)) _ _ (lines_of 1 c.args.count (items_view c.args.values.now)) turn c.in_err-line_of.ensures c.loop-v.invariant.so_far)

pub loop-v-preserved : goal.loop-v-preserved
loop-v-preserved c =
    let turn = lines_turn c.loop-v.place c.args.count c.args.values.now c.loop-v.v-index c.v-item.result c.loop-v-test.true c.v-item.is c.if-place-gt-MAX_STEPS.false in
    record {
      so_far = rw c.in_ok-push.ensures.ok (goes_on c.loop-v.lines (line_of c.loop-v.place c.args.count (view c.v-item.result)) c.in_ok-line_of.field-0 _ _ (lines_of 1 c.args.count (items_view c.args.values.now)) turn c.in_ok-line_of.ensures c.loop-v.invariant.so_far);
      place = omega arith;
    }

pub returns : goal.returns
returns c = is_done c.loop-v.lines _ (lines_of 1 c.args.count (items_view c.args.values.now)) (lines_end c.loop-v.place c.args.count c.args.values.now c.loop-v.v-index c.loop-v-test.false) c.loop-v.invariant.so_far
