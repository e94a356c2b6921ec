use Rattle.std.proofs.Common.{true, false, sym, ◌∙◌}
use Rattle.std.proofs.lemmas.Result.{err_from_is_err_and}
use Rattle.scenario.proofs.Turns.{also_fails, also_asks, also_end}
use Rattle.scenario.proofs.processes.also_of.Goals as goal

pub returns-in_err-p : goal.returns-in_err-p
returns-in_err-p c =
    let p = err_from_is_err_and c.from_residual.result c.from_residual.ensures.1 in
    rw (p.1, p.2) (also_fails c.in_err-p.field-0.0 c.args.place c.args.count c.args.owner c.loop-v.also c.args.values.now c.loop-v.v-index c.v-item.result _ c.loop-v-test.true c.v-item.is c.in_err-p.ensures.exact c.loop-v.invariant)

pub returns-then-not-may_join : goal.returns-then-not-may_join
returns-then-not-may_join c = also_asks c.args.place c.args.count c.args.owner c.loop-v.also c.args.values.now c.loop-v.v-index c.v-item.result c.in_ok-p.p false _ c.loop-v-test.true c.v-item.is c.in_ok-p.ensures.exact c.if-not-may_join.ensures c.loop-v.invariant

pub loop-v-preserved : goal.loop-v-preserved
loop-v-preserved c =
    let more = also_asks c.args.place c.args.count c.args.owner c.loop-v.also c.args.values.now c.loop-v.v-index c.v-item.result c.in_ok-p.p true _ c.loop-v-test.true c.v-item.is c.in_ok-p.ensures.exact c.if-not-may_join.ensures c.loop-v.invariant in
    rw c.with-also.ensures.value (sym more)

pub returns : goal.returns
returns c = sym c.loop-v.invariant ∙ also_end c.args.place c.args.count c.args.owner c.loop-v.also c.args.values.now c.loop-v.v-index c.loop-v-test.false
