-- What a commit and an overlay make of what is there for a context, step by step.
use Rattle.std.proofs.Common.{◌≡◌, ◌∙◌, ap, ap₂}
use Rattle.fission_ids.specs.declared.epoch.Epoch.{Epoch}
use Rattle.field_table.specs.declared.field_set.FieldSet.{FieldSet}
use Rattle.field_table.specs.FieldSet.{minus}
use Rattle.field_table.specs.Table.{Table}
use Rattle.transaction.specs.Transaction.{Changes, changes_in, modified_in, table_after}
use Rattle.epochs.specs.FieldEpochs.{Epochs, obsolete_in}
use Rattle.context_store.specs.Content.{Stored, obsolete_fields, stored_after_overlay}

module _ (t : Changes) (e : Epoch) (modified obsolete : FieldSet) (old : Table) (epochs : Epochs) (is_modified : modified ≡ modified_in t)
    (is_obsolete : obsolete ≡ obsolete_in modified e epochs) where
  abbrev before : Stored
  before = record { fields = old; epochs = epochs }

  -- the fields that are told are the obsolete ones
  pub obsolete-told : obsolete ≡ obsolete_fields t e before
  obsolete-told = is_obsolete ∙ ap (λ (m : FieldSet). obsolete_in m e epochs) is_modified

  -- the rest is applied
  pub fields-overlaid : (left : FieldSet) (rest : Changes) (new : Table) → left ≡ minus modified obsolete → rest ≡ changes_in left t → new ≡ table_after rest old
      → new ≡ (stored_after_overlay t e before).fields
  fields-overlaid left rest new is_left is_rest applied =
      applied
      ∙ ap (λ (r : Changes). table_after r old) (is_rest ∙ ap (λ (s : FieldSet). changes_in s t) (is_left ∙ ap₂ minus is_modified obsolete-told))
