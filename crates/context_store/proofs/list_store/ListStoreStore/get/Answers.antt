use Rattle.std.proofs.Common.{◌∙◌, sym, ap, Some}
use Rattle.std.specs.Option.{option_copied, option_map}
use Rattle.field_table.specs.Table.{Table}
use Rattle.context_store.specs.Content.{Stored}
use Rattle.context_store.proofs.Entries.{placed, listed_absent, listed_there}
use Rattle.context_store.proofs.list_store.ListStoreStore.get.Goals as goal

pub returns-in_err-place : goal.returns-in_err-place
returns-in_err-place c =
    let none = placed _ _ _ _ _ c.as_slice.ensures.value c.place_of.ensures c.in_err-place.was in
    ap option_copied c.from_residual.ensures
    ∙ sym (ap (option_map (λ (s : Stored). s.fields)) (listed_absent _ _ _ c.self.view_is none))

pub returns : goal.returns
returns c =
    let at = placed _ _ _ _ _ c.as_slice.ensures.value c.place_of.ensures c.in_ok-place.was in
    ap (λ (t : Table). Some t) c.fields.ensures
    ∙ sym (ap (option_map (λ (s : Stored). s.fields)) (listed_there _ _ _ c.self.view_is c.in_ok-place.place c.index.result.now at c.index.ensures))
