use Rattle.std.proofs.Common.{[], ◌∷◌, ◌++◌}
use Rattle.std.specs.Vec.Iter.{into_iter_items}
use Rattle.context_store.proofs.Runs.{content-more, replies-more, whole-more, stopped, OnErr-of}
use Rattle.context_store.proofs.ops.run_ops.Goals as goal

pub loop-op-preserved : goal.loop-op-preserved
loop-op-preserved g c =
    let m = g.S.Store.content c.args.store.now in
    let done = c.loop-op.yielded in
    record {
      can = tt;
      ends = tt;
      answers = replies-more done c.in-Some.op m _ _ _ _ c.loop-op.invariant.content c.loop-op.invariant.answers c.in_ok-run_op.ensures.reply c.in_ok-push.ensures.items;
      content = content-more done c.in-Some.op m _ _ c.loop-op.invariant.content c.in_ok-run_op.ensures.content;
      whole = whole-more done c.in-Some.op _ _ _ c.loop-op.invariant.whole c.in-Some.ensures.steps.0;
    }

pub returns-in_err-push-clause-stopped : goal.returns-in_err-push-clause-stopped
returns-in_err-push-clause-stopped g c =
    let m = g.S.Store.content c.args.store.now in
    let done = c.loop-op.yielded in
    OnErr-of c.from_residual-in_err-push.result
    (stopped (done ++ c.in-Some.op ∷ []) (into_iter_items c.next.new.self) c.args.ops.items m _
    (whole-more done c.in-Some.op _ _ _ c.loop-op.invariant.whole c.in-Some.ensures.steps.0)
    (content-more done c.in-Some.op m _ _ c.loop-op.invariant.content c.in_ok-run_op.ensures.content))
