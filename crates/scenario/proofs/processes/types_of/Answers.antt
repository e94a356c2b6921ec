use Rattle.std.proofs.Common.{arith}
use Rattle.std.proofs.lemmas.List.{length_push}
use Rattle.std.proofs.lemmas.Result.{err_from_is_err_and}
use Rattle.serde_json.specs.View.{view, items_view}
use Rattle.scenario.specs.Reading.{type_of, types_of}
use Rattle.scenario.proofs.Loop.{goes_on, ends, is_done}
use Rattle.scenario.proofs.Turns.{types_turn, types_end}
use Rattle.scenario.proofs.processes.types_of.Goals as goal

pub returns-in_err-type_of-clause-exact : goal.returns-in_err-type_of-clause-exact
returns-in_err-type_of-clause-exact c =
    let p = err_from_is_err_and c.from_residual.result c.from_residual.ensures.1 in
    let turn = types_turn c.args.values.now c.loop-v.v-index c.v-item.result c.loop-v-test.true c.v-item.is in
    rw (p.1, p.2) (ends c.in_err-type_of.field-0.0 c.loop-v.types (type_of (view c.v-item.result)) _ _ (types_of (items_view c.args.values.now)) turn c.in_err-type_of.ensures c.loop-v.invariant.so_far)

pub loop-v-preserved : goal.loop-v-preserved
loop-v-preserved c =
    let turn = types_turn c.args.values.now c.loop-v.v-index c.v-item.result c.loop-v-test.true c.v-item.is in
    record {
      so_far = rw c.in_ok-push.ensures.ok (goes_on c.loop-v.types (type_of (view c.v-item.result)) c.in_ok-type_of.field-0 _ _ (types_of (items_view c.args.values.now)) turn c.in_ok-type_of.ensures c.loop-v.invariant.so_far);
      len = rw c.in_ok-push.ensures.ok (omega (arith, length_push c.loop-v.types c.in_ok-type_of.field-0));
    }

pub returns-clause-exact : goal.returns-clause-exact
returns-clause-exact c = is_done c.loop-v.types _ (types_of (items_view c.args.values.now)) (types_end c.args.values.now c.loop-v.v-index c.loop-v-test.false) c.loop-v.invariant.so_far
