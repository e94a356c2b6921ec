use Rattle.std.proofs.Common.{◌≡◌, ◌∙◌, sym, ap, Some, None}
use Rattle.std.specs.Option.{option_copied, option_map}
use Rattle.field_table.specs.Table.{Table}
use Rattle.context_store.specs.Content.{Stored}
use Rattle.context_store.specs.Joined.{key_of}
use Rattle.context_store.proofs.Joining.{at_key}
use Rattle.context_store.proofs.slab_store.SlabStoreStore.get.Goals as goal

pub returns-in_err-key : goal.returns-in_err-key
returns-in_err-key c =
    let none : key_of c.args.x c.self.inside.keys.entries ≡ None = sym c.get.ensures.value ∙ ap option_copied c.in_err-key.was in
    ap option_copied c.from_residual.ensures
    ∙ sym (ap (option_map (λ (s : Stored). s.fields)) (at_key _ c.self.inside.records _ c.self.view_is c.args.x None none))

pub returns-in_err-get : goal.returns-in_err-get
returns-in_err-get c =
    let at : key_of c.args.x c.self.inside.keys.entries ≡ Some c.in_ok-key.field-0.now = sym c.get.ensures.value ∙ ap option_copied c.in_ok-key.was in
    ap option_copied c.from_residual-in_err-get.ensures
    ∙ sym (ap (option_map (λ (s : Stored). s.fields))
    (at_key _ c.self.inside.records _ c.self.view_is c.args.x (Some c.in_ok-key.field-0.now) at ∙ sym c.get-2.ensures ∙ ap option_copied c.in_err-get.was))

pub returns : goal.returns
returns c =
    let at : key_of c.args.x c.self.inside.keys.entries ≡ Some c.in_ok-key.field-0.now = sym c.get.ensures.value ∙ ap option_copied c.in_ok-key.was in
    ap (λ (t : Table). Some t) c.fields.ensures
    ∙ sym (ap (option_map (λ (s : Stored). s.fields))
    (at_key _ c.self.inside.records _ c.self.view_is c.args.x (Some c.in_ok-key.field-0.now) at ∙ sym c.get-2.ensures ∙ ap option_copied c.in_ok-get.was))
