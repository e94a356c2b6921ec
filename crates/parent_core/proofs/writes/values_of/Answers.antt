use Rattle.std.proofs.Common.{◌≡◌, ◌∙◌, refl, sym, ap, Bool, true, false, Option, None, Some, if◌then◌else◌}
use Rattle.field_table.specs.declared.field.Field.{Field}
use Rattle.field_table.specs.declared.value.Value.{Value}
use Rattle.field_table.specs.FieldSet.{has}
use Rattle.field_table.specs.Table.{value_in}
use Rattle.field_table.proofs.Filling.{filled_more, filled_same, filled_all}
use Rattle.field_table.proofs.Tables.{at_number}
use Rattle.transaction.specs.Transaction.{nothing}
use Rattle.parent_core.proofs.writes.values_of.Goals as goal
use Rattle.parent_core.proofs.writes.values_of.Goals.{then-has+in_ok-copy, else-has}

put_in : (b r : Bool) (v w : Value) → r ≡ b → r ≡ true → v ≡ w → Some v ≡ (if b then Some w else None)
put_in true r v w e f same = ap Some same
put_in false r v w e f same = absurd (cc)

left_out : (b r : Bool) (o : Option Value) → r ≡ b → r ≡ false → (if b then o else None) ≡ None
left_out true r o e f = absurd (cc)
left_out false r o e f = refl

pub loop-f-init : goal.loop-f-init
loop-f-init c = c.new-values.ensures

pub loop-f-preserved : goal.loop-f-preserved
loop-f-preserved c =
    let h : Field → Option Value = λ f. if has c.args.s f then Some (value_in c.args.fields.now f) else None in
    elim c.if-has.branch [
      | then-has+in_ok-copy w ↦ filled_more h c.loop-f.f-index _ None nothing c.loop-f-test.true refl _ _ _ _ c.loop-f.invariant (w.values-is ∙ w.set.ensures.whole) refl (put_in _ _ _ _ c.has.ensures w.if-has.true (w.in_ok-copy.ensures ∙ w.get.ensures.value))
      | else-has w ↦ filled_same h c.loop-f.f-index _ None nothing c.loop-f-test.true refl _ _ c.loop-f.invariant (left_out _ _ _ c.has.ensures w.if-has.false ∙ sym (at_number (λ f. None) None _)) w.values-is
    ]

pub returns : goal.returns
returns c =
    let h : Field → Option Value = λ f. if has c.args.s f then Some (value_in c.args.fields.now f) else None in
    c.loop-f.invariant ∙ filled_all h c.loop-f.f-index nothing c.loop-f-test.false refl
