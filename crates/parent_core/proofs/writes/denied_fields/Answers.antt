use Rattle.std.proofs.Common.{◌∙◌, sym, Bool, ◌&&◌}
use Rattle.std.specs.Prelude.{is_some}
use Rattle.field_table.specs.declared.field.Field.{Field}
use Rattle.field_table.proofs.FieldSets.{none_of, all_of, some_more_in, some_more_out}
use Rattle.transaction.specs.Transaction.{new_value}
use Rattle.parent_core.specs.Writes.{is_denied_from}
use Rattle.parent_core.proofs.writes.denied_fields.Goals as goal
use Rattle.parent_core.proofs.writes.denied_fields.Goals.{then-is_denied_in, else-is_denied_in}

pub loop-f-init : goal.loop-f-init
loop-f-init c = none_of (λ f. is_some (new_value c.args.t.now f) && is_denied_from c.args.from c.args.x c.args.top c.args.owns c.args.t.now f)

pub loop-f-preserved : goal.loop-f-preserved
loop-f-preserved c =
    let p : Field → Bool = λ f. is_some (new_value c.args.t.now f) && is_denied_from c.args.from c.args.x c.args.top c.args.owns c.args.t.now f in
    elim c.if-is_denied_in.branch [
      | then-is_denied_in w ↦ some_more_in p c.loop-f.f-index _ _ _ c.loop-f-test.true c.loop-f.invariant (sym c.is_denied_in.ensures ∙ w.if-is_denied_in.true) (w.denied-is ∙ w.with-denied.ensures.whole)
      | else-is_denied_in w ↦ some_more_out p c.loop-f.f-index _ _ _ c.loop-f-test.true c.loop-f.invariant (sym c.is_denied_in.ensures ∙ w.if-is_denied_in.false) w.denied-is
    ]

pub returns : goal.returns
returns c =
    c.loop-f.invariant
    ∙ all_of (λ f. is_some (new_value c.args.t.now f) && is_denied_from c.args.from c.args.x c.args.top c.args.owns c.args.t.now f) c.loop-f.f-index c.loop-f-test.false
