use Rattle.std.proofs.Common.{◌≡◌, take, drop}
use Rattle.transaction.specs.Transaction.{table_after}
use Rattle.transaction.proofs.transaction.put_in.Given as goal

abbrev pub invariant-loop-f : goal.invariant-loop-f
invariant-loop-f l = record {
  done : l.fields ≡ table_after (take l.f-index l.fn.values) l.fn.fields;
  rest : drop l.f-index l.values ≡ drop l.f-index l.fn.values;
}
