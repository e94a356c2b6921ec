use Rattle.std.proofs.Common.{arith}
use Rattle.std.proofs.lemmas.Result.{err_from_is_err_and}
use Rattle.serde_json.specs.View.{view, items_view}
use Rattle.scenario.specs.Reading.{start_tab_of, start_tabs_of}
use Rattle.scenario.proofs.Loop.{goes_on, ends, is_done}
use Rattle.scenario.proofs.Turns.{tabs_turn, tabs_end}
use Rattle.scenario.proofs.processes.start_tabs_of.Goals as goal

pub returns-in_err-start_tab_of : goal.returns-in_err-start_tab_of
returns-in_err-start_tab_of c =
    let p = err_from_is_err_and c.from_residual.result c.from_residual.ensures.1 in
    let turn = tabs_turn c.loop-v.place c.args.count c.args.values.now c.loop-v.v-index c.v-item.result c.loop-v-test.true c.v-item.is in
    record { exact = rw (p.1, p.2) (ends c.in_err-start_tab_of.field-0.0 c.loop-v.tabs (start_tab_of c.loop-v.place c.args.count (view c.v-item.result)) _ _ (start_tabs_of 100001 c.args.count (items_view c.args.values.now)) turn c.in_err-start_tab_of.ensures c.loop-v.invariant.so_far) }

pub loop-v-preserved : goal.loop-v-preserved
loop-v-preserved c =
    let turn = tabs_turn c.loop-v.place c.args.count c.args.values.now c.loop-v.v-index c.v-item.result c.loop-v-test.true c.v-item.is in
    record {
      so_far = rw c.in_ok-push.ensures.ok (goes_on c.loop-v.tabs (start_tab_of c.loop-v.place c.args.count (view c.v-item.result)) c.in_ok-start_tab_of.field-0 _ _ (start_tabs_of 100001 c.args.count (items_view c.args.values.now)) turn c.in_ok-start_tab_of.ensures c.loop-v.invariant.so_far);
      place = omega arith;
    }

pub returns : goal.returns
returns c = record { exact = is_done c.loop-v.tabs _ (start_tabs_of 100001 c.args.count (items_view c.args.values.now)) (tabs_end c.loop-v.place c.args.count c.args.values.now c.loop-v.v-index c.loop-v-test.false) c.loop-v.invariant.so_far }
