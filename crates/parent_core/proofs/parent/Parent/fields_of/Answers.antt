use Rattle.std.proofs.Common.{◌≡◌, ap, sym, ◌∙◌}
use Rattle.std.specs.Option.{option_copied}
use Rattle.field_table.specs.Table.{Table}
use Rattle.context_store.specs.Content.{fields_at}
use Rattle.parent_core.specs.Opening.{present_fields}
use Rattle.parent_core.specs.Parent.{Kept, facts_of}
use Rattle.parent_core.proofs.Steps.{ok_map}
use Rattle.parent_core.proofs.Told.{fields_shown}
use Rattle.parent_core.proofs.parent.Parent.fields_of.Goals as goal

pub returns : goal.returns
returns c =
    let k : Kept = c.args.self.now in
    let shown : Table = c.in-Some.fields.now in
    ok_map (λ (t : Table). t ≡ shown) (λ (t : Table). t ≡ present_fields (facts_of k) c.args.x) c.copy.result
    (λ t e. e ∙ fields_shown k c.args.x shown c.covers_each_field.ensures (ap (λ (l : Kept). fields_at c.args.x l.contexts) (sym c.self.view_is) ∙ sym c.get.ensures ∙ ap option_copied c.in-Some.is))
    c.copy.ensures
