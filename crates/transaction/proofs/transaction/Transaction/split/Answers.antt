use Rattle.std.proofs.Common.{◌≡◌, ◌∙◌, sym, ap, refl, Bool, true, false, not, ◌&&◌, ◌||◌, Option, Some, None, if◌then◌else◌}
use Rattle.std.specs.Prelude.{is_some, IsTrue, IsSome}
use Rattle.field_table.specs.declared.field.Field.{Field}
use Rattle.field_table.specs.declared.value.Value.{Value}
use Rattle.field_table.specs.FieldSet.{has}
use Rattle.field_table.proofs.Filling.{same_by_fields}
use Rattle.transaction.specs.Transaction.{Changes, new_value}
use Rattle.transaction.specs.declared.transaction.Split.{Split}
use Rattle.transaction.proofs.transaction.Transaction.split.Goals as goal

neither : (now : Option Value) (out : Bool) → (if is_some now && not out then now else None) ≡ (if out then None else now)
neither (Some v) true = refl
neither (Some v) false = refl
neither None true = refl
neither None false = refl

left_is : (now : Option Value) (left r d : Bool) → left ≡ (is_some now && not (r || d)) → (if left then now else None) ≡ (if r || d then None else now)
left_is now left r d left_by = ap (λ (b : Bool). if b then now else None) left_by ∙ neither now (r || d)

each_part : (now : Option Value) (r d : Bool) → (IsTrue (r || d) → IsSome now) → is_some now ≡ (is_some (if r || d then None else now) || r || d)
each_part (Some v) true true m = refl
each_part (Some v) true false m = refl
each_part (Some v) false true m = refl
each_part (Some v) false false m = refl
each_part None true true m = m refl
each_part None true false m = m refl
each_part None false true m = m refl
each_part None false false m = refl

pub returns-clause-whole : goal.returns-clause-whole
returns-clause-whole c =
    let made : Changes → Split = λ a. record { allowed = a; reverted = c.args.reverted; denied = c.args.denied } in
    let left_at : (f : Field) → (if has c.modified_beside-left.result f then new_value c.args.self f else None) ≡ (if has c.args.reverted f || has c.args.denied f then None else new_value c.args.self f) =
    λ f. left_is _ _ (has c.args.reverted f) (has c.args.denied f) (c.modified_beside-left.ensures f) in
    ap made (c.keep.ensures.whole ∙ same_by_fields _ _ left_at)

pub returns-clause-values : goal.returns-clause-values
returns-clause-values c f = c.keep.ensures.values f ∙ left_is _ _ (has c.args.reverted f) (has c.args.denied f) (c.modified_beside-left.ensures f)

pub returns-clause-parts : goal.returns-clause-parts
returns-clause-parts c f =
    each_part (new_value c.args.self f) (has c.args.reverted f) (has c.args.denied f) (c.requires.modified f)
    ∙ ap (λ (o : Option Value). is_some o || has c.args.reverted f || has c.args.denied f) (sym (c.keep.ensures.values f ∙ left_is _ _ (has c.args.reverted f) (has c.args.denied f) (c.modified_beside-left.ensures f)))
