use Rattle.std.proofs.Common.{◌≡◌, ◌++◌}
use Rattle.std.specs.Vec.Iter.{into_iter_items}
use Rattle.context_store.specs.Ops.{content_after, replies}
use Rattle.context_store.proofs.ops.run_ops.Given as goal

abbrev pub invariant-loop-op : goal.invariant-loop-op
invariant-loop-op g l = record {
  can : (goal.iterator-loop-op g).can_next l.op-iterator;
  ends : (goal.iterator-loop-op g).is_finite l.op-iterator;
  answers : l.replies.items ≡ replies l.yielded (g.S.Store.content l.fn.store);
  content : g.S.Store.content l.store ≡ content_after l.yielded (g.S.Store.content l.fn.store);
  whole : l.yielded ++ into_iter_items l.op-iterator ≡ l.fn.ops.items;
}
