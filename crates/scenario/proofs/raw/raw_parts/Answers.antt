use Rattle.std.proofs.lemmas.Result.{err_from_is_err_and}
use Rattle.serde_json.specs.View.{view, items_view}
use Rattle.scenario.specs.Reading.{raw_part, raw_parts}
use Rattle.scenario.proofs.Loop.{goes_on, ends, is_done}
use Rattle.scenario.proofs.Turns.{parts_turn, parts_end}
use Rattle.scenario.proofs.raw.raw_parts.Goals as goal

pub returns-in_err-raw_part : goal.returns-in_err-raw_part
returns-in_err-raw_part c =
    let p = err_from_is_err_and c.from_residual.result c.from_residual.ensures.1 in
    let turn = parts_turn c.args.place c.args.values.now c.loop-v.v-index c.v-item.result c.loop-v-test.true c.v-item.is in
    rw (p.1, p.2) (ends c.in_err-raw_part.field-0.0 c.loop-v.parts (raw_part c.args.place (view c.v-item.result)) _ _ (raw_parts c.args.place (items_view c.args.values.now)) turn c.in_err-raw_part.ensures c.loop-v.invariant)

pub loop-v-preserved : goal.loop-v-preserved
loop-v-preserved c =
    let turn = parts_turn c.args.place c.args.values.now c.loop-v.v-index c.v-item.result c.loop-v-test.true c.v-item.is in
    rw c.in_ok-push.ensures.ok (goes_on c.loop-v.parts (raw_part c.args.place (view c.v-item.result)) c.in_ok-raw_part.field-0 _ _ (raw_parts c.args.place (items_view c.args.values.now)) turn c.in_ok-raw_part.ensures c.loop-v.invariant)

pub returns : goal.returns
returns c = is_done c.loop-v.parts _ (raw_parts c.args.place (items_view c.args.values.now)) (parts_end c.args.place c.args.values.now c.loop-v.v-index c.loop-v-test.false) c.loop-v.invariant
