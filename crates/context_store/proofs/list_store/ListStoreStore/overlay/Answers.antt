use Rattle.std.proofs.Common.{◌∙◌, sym, ap, Some}
use Rattle.std.specs.Option.{option_map}
use Rattle.field_table.specs.declared.field_set.FieldSet.{FieldSet}
use Rattle.context_store.specs.Content.{obsolete_fields, stored_after_overlay}
use Rattle.context_store.proofs.Contexts.{changed_at-absent}
use Rattle.context_store.proofs.Entries.{placed, listed_absent, listed_there, listed_written}
use Rattle.context_store.proofs.list_store.ListStoreStore.overlay.Goals as goal

pub returns-in_err-place-clause-content : goal.returns-in_err-place-clause-content
returns-in_err-place-clause-content c =
    let none = placed _ _ _ _ _ c.as_slice.ensures.value c.place_of.ensures c.in_err-place.was in
    sym (changed_at-absent (stored_after_overlay c.args.t c.args.e) c.args.x c.args.self.now (listed_absent _ _ _ c.self.view_is none))

pub returns-in_err-place-clause-answer : goal.returns-in_err-place-clause-answer
returns-in_err-place-clause-answer c =
    let none = placed _ _ _ _ _ c.as_slice.ensures.value c.place_of.ensures c.in_err-place.was in
    c.from_residual.ensures ∙ sym (ap (option_map (obsolete_fields c.args.t c.args.e)) (listed_absent _ _ _ c.self.view_is none))

pub returns-clause-content : goal.returns-clause-content
returns-clause-content c =
    let at = placed _ _ _ _ _ c.as_slice.ensures.value c.place_of.ensures c.in_ok-place.was in
    listed_written _ _ _ c.self.view_is (stored_after_overlay c.args.t c.args.e) c.in_ok-place.place c.index_mut.result.now _ at c.index_mut.ensures.value c.overlay.ensures.whole

pub returns-clause-answer : goal.returns-clause-answer
returns-clause-answer c =
    let at = placed _ _ _ _ _ c.as_slice.ensures.value c.place_of.ensures c.in_ok-place.was in
    ap (λ (s : FieldSet). Some s) c.overlay.ensures.obsolete
    ∙ sym (ap (option_map (obsolete_fields c.args.t c.args.e)) (listed_there _ _ _ c.self.view_is c.in_ok-place.place c.index_mut.result.now at c.index_mut.ensures.value))
