use Rattle.std.proofs.Common.{◌≡◌, ◌∙◌, refl, Bool, true, false, Option, None, if◌then◌else◌}
use Rattle.field_table.specs.declared.field.Field.{Field}
use Rattle.field_table.specs.declared.value.Value.{Value}
use Rattle.field_table.specs.FieldSet.{has}
use Rattle.field_table.proofs.Filling.{filled_more, filled_same, filled_all}
use Rattle.transaction.specs.Transaction.{new_value}
use Rattle.transaction.proofs.transaction.keep_in.Goals as goal
use Rattle.transaction.proofs.transaction.keep_in.Goals.{then-not-has, else-not-has}

taken_out : (b r : Bool) (v : Option Value) → r ≡ b → r ≡ false → None ≡ (if b then v else None)
taken_out true r v e f = absurd (cc)
taken_out false r v e f = refl

left_in : (b r : Bool) (v : Option Value) → r ≡ b → r ≡ true → (if b then v else None) ≡ v
left_in true r v e f = refl
left_in false r v e f = absurd (cc)

pub loop-f-preserved : goal.loop-f-preserved
loop-f-preserved c =
    let vs = c.args.values.now in
    let h : Field → Option Value = λ f. if has c.args.s f then new_value vs f else None in
    elim c.if-not-has.branch [
      | then-not-has w ↦ filled_more h c.loop-f.f-index _ None vs c.loop-f-test.true c.requires _ _ _ _ c.loop-f.invariant (w.values-is ∙ w.unset.ensures) refl (taken_out _ _ _ c.has.ensures w.if-not-has.true)
      | else-not-has w ↦ filled_same h c.loop-f.f-index _ None vs c.loop-f-test.true c.requires _ _ c.loop-f.invariant (left_in _ _ _ c.has.ensures w.if-not-has.false) w.values-is
    ]

pub returns : goal.returns
returns c =
    let vs = c.args.values.now in
    let h : Field → Option Value = λ f. if has c.args.s f then new_value vs f else None in
    c.loop-f.invariant ∙ filled_all h c.loop-f.f-index vs c.loop-f-test.false c.requires
