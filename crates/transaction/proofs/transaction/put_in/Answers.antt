use Rattle.std.proofs.Common.{◌≡◌, ◌<◌, ℕ, length, arith, Option, Some, None, get_or, set, take, sym, ap, ◌∙◌}
use Rattle.std.proofs.lemmas.List.{get_or_read, take_all}
use Rattle.field_table.specs.Table.{Table}
use Rattle.field_table.specs.declared.value.Value.{Value}
use Rattle.field_table.proofs.Tables.{number-at}
use Rattle.transaction.specs.Transaction.{Changes, table_after}
use Rattle.transaction.proofs.Merging.{value_in-merged, put_at, merged_more, still_left, is_of-put}
use Rattle.transaction.proofs.transaction.put_in.Goals as goal
use Rattle.transaction.proofs.transaction.put_in.Goals.{in-Some, in_default}

pub put-requires : goal.put-requires
put-requires c =
    let at : c.number.result ≡ c.loop-f.f-index = c.number.ensures ∙ number-at c.loop-f.f-index _ c.loop-f-test.true in
    let within : c.number.result < length c.loop-f.values = omega arith in
    is_of-put c.loop-f.f-index c.number.result c.args.values.now c.loop-f.values _ c.in-Some.v c.requires.kinds c.number.ensures at c.loop-f.invariant.rest
    (sym (get_or_read _ _ _ within c.index-values-number.is None) ∙ c.index-values-number.is ∙ sym c.take.ensures.value ∙ c.in-Some.is)

pub loop-f-preserved : goal.loop-f-preserved
loop-f-preserved c =
    let i = c.loop-f.f-index in
    let n = c.number.result in
    let fields = c.loop-f.fields in
    let at : n ≡ i = c.number.ensures ∙ number-at i _ c.loop-f-test.true in
    let within : n < length c.loop-f.values = omega arith in
    let read : c.take.result ≡ get_or c.loop-f.values n None = c.take.ensures.value ∙ sym c.index-values-number.is ∙ get_or_read _ _ _ within c.index-values-number.is None in
    let put_is : (o : Option Value) (new : Table) → c.take.result ≡ o → new ≡ put_at o n fields → new ≡ put_at (get_or c.loop-f.values n None) n fields =
    λ o new h e. e ∙ ap (λ (x : Option Value). put_at x n fields) (sym h ∙ read) in
    let done : (new : Table) → new ≡ put_at (get_or c.loop-f.values n None) n fields → new ≡ _ =
    λ new put. merged_more i n _ c.loop-f.values _ fields new at c.loop-f.invariant.rest c.loop-f.invariant.done put in
    record {
      done = elim c.match-take.branch [
        | in-Some w ↦ done _ (put_is (Some w.in-Some.v) _ w.in-Some.is (w.fields-is ∙ w.put.ensures.whole ∙ ap (λ (k : ℕ). set fields k w.in-Some.v) (sym c.number.ensures)))
        | in_default w ↦ done _ (put_is None _ w.in_default.is w.fields-is)
      ];
      rest = still_left i n _ c.loop-f.values _ at c.loop-f.invariant.rest;
    }

pub returns-clause-values : goal.returns-clause-values
returns-clause-values c f =
    let all : take c.loop-f.f-index c.args.values.now ≡ c.args.values.now = take_all c.loop-f.f-index c.args.values.now (omega arith) in
    value_in-merged _ _ _ f (c.loop-f.invariant.done ∙ ap (λ (t : Changes). table_after t c.args.fields.now) all) c.requires.table
