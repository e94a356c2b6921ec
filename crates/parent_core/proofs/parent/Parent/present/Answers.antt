use Rattle.std.proofs.Common.{◌≡◌, refl, sym, ap, ◌∙◌, Bool, true, false, Option, None, Some, if◌then◌else◌}
use Rattle.std.specs.Option.{option_map, option_copied}
use Rattle.std.specs.FinMap.{get}
use Rattle.field_table.specs.declared.field.Field.{Field}
use Rattle.field_table.specs.declared.value.Value.{Value}
use Rattle.field_table.specs.FieldSet.{has}
use Rattle.field_table.specs.Table.{value_in}
use Rattle.field_table.proofs.Filling.{same_by_fields}
use Rattle.context_store.specs.Content.{Stored, fields_at}
use Rattle.parent_core.specs.Parent.{Kept, facts_of}
use Rattle.parent_core.proofs.parent.Parent.present.Goals as goal

none_there : (o : Option Stored) (f : Field) (b : Bool) → option_map (λ s. s.fields) o ≡ None → None ≡ (if b then option_map (λ s. value_in s.fields f) o else None)
none_there None f true e = refl
none_there None f false e = refl
none_there (Some s) f b e = absurd (cc)

pub returns-in-None : goal.returns-in-None
returns-in-None c =
    let none : fields_at c.args.x c.args.self.now.contexts ≡ None =
    ap (λ (k : Kept). fields_at c.args.x k.contexts) (sym c.self.view_is) ∙ sym c.get.ensures ∙ ap option_copied c.in-None.is in
    let value : Field → Option Value = λ f. if has c.args.s f then (facts_of c.args.self.now).contexts.value c.args.x f else None in
    c.new.ensures ∙ same_by_fields (λ f. None) value (λ f. none_there (get c.args.self.now.contexts c.args.x) f (has c.args.s f) none)
