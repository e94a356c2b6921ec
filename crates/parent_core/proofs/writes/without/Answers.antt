use Rattle.std.proofs.Common.{◌≡◌, ◌∙◌, refl, ap, Bool, true, false, not, ◌&&◌, Option, None, Some, if◌then◌else◌}
use Rattle.std.specs.Prelude.{is_some}
use Rattle.field_table.specs.declared.value.Value.{Value}
use Rattle.field_table.specs.FieldSet.{has}
use Rattle.field_table.proofs.Filling.{same_by_fields}
use Rattle.transaction.specs.Transaction.{new_value}
use Rattle.parent_core.proofs.writes.without.Goals as goal

kept : (b : Bool) (o : Option Value) → (if is_some o && not b then o else None) ≡ (if b then None else o)
kept true None = refl
kept true (Some v) = refl
kept false None = refl
kept false (Some v) = refl

pub returns : goal.returns
returns c =
    c.keep.ensures.whole
    ∙ same_by_fields (λ f. if has c.minus-kept.result f then new_value c.args.t f else None) (λ f. if has c.args.s f then None else new_value c.args.t f)
    (λ f. ap (λ (b : Bool). if b then new_value c.args.t f else None) (c.minus-kept.ensures.members f ∙ ap (λ b. b && not (has c.args.s f)) (c.modified.ensures.members f)) ∙ kept (has c.args.s f) (new_value c.args.t f))
