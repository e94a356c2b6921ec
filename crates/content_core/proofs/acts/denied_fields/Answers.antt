use Rattle.std.proofs.Common.{◌∙◌, sym, Bool}
use Rattle.field_table.specs.declared.field.Field.{Field}
use Rattle.field_table.proofs.FieldSets.{none_of, all_of, some_more_in, some_more_out}
use Rattle.content_core.specs.Steps.{is_field_denied}
use Rattle.content_core.proofs.acts.denied_fields.Goals as goal
use Rattle.content_core.proofs.acts.denied_fields.Goals.{then-is_field_denied, else-is_field_denied}

pub loop-f-init : goal.loop-f-init
loop-f-init c = none_of (is_field_denied c.args.p.0 c.args.top c.args.owned c.args.x c.args.t.now)

pub loop-f-preserved : goal.loop-f-preserved
loop-f-preserved c =
    let p : Field → Bool = is_field_denied c.args.p.0 c.args.top c.args.owned c.args.x c.args.t.now in
    elim c.if-is_field_denied.branch [
      | then-is_field_denied w ↦ some_more_in p c.loop-f.f-index _ _ _ c.loop-f-test.true c.loop-f.invariant (sym c.is_field_denied.ensures ∙ w.if-is_field_denied.true) (w.denied-is ∙ w.with-denied.ensures.whole)
      | else-is_field_denied w ↦ some_more_out p c.loop-f.f-index _ _ _ c.loop-f-test.true c.loop-f.invariant (sym c.is_field_denied.ensures ∙ w.if-is_field_denied.false) w.denied-is
    ]

pub returns : goal.returns
returns c = c.loop-f.invariant ∙ all_of (is_field_denied c.args.p.0 c.args.top c.args.owned c.args.x c.args.t.now) c.loop-f.f-index c.loop-f-test.false
