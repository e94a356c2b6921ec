use Rattle.std.proofs.Common.{◌∙◌, ap, Option, None, if◌then◌else◌}
use Rattle.field_table.specs.declared.field.Field.{Field}
use Rattle.field_table.specs.declared.value.Value.{Value}
use Rattle.field_table.specs.FieldSet.{has}
use Rattle.field_table.proofs.Tables.{at_number}
use Rattle.transaction.specs.Transaction.{Changes, new_value, changes_in}
use Rattle.transaction.proofs.Merging.{IsChanges-kept}
use Rattle.transaction.proofs.transaction.Transaction.keep.Goals as goal

pub invariant_of-self : goal.invariant_of-self
invariant_of-self c = IsChanges-kept c.args.s _ _ c.keep_in.ensures c.self.invariant

pub returns-clause-whole : goal.returns-clause-whole
returns-clause-whole c = c.keep_in.ensures ∙ ap (changes_in c.args.s) c.self.view_is

pub returns-clause-values : goal.returns-clause-values
returns-clause-values c f =
    let h : Field → Option Value = λ g. if has c.args.s g then new_value c.args.self.now g else None in
    ap (λ (t : Changes). new_value t f) (c.keep_in.ensures ∙ ap (changes_in c.args.s) c.self.view_is) ∙ at_number h None f
