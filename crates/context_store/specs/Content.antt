-- What a store holds: a finite map from contexts to their fields and field epochs.
use Rattle.std.specs.Prelude.{List, Bool, Option, None, Some, refl}
use Rattle.std.specs.declared.cmp.Ordering.{Ordering}
use Rattle.std.specs.Ordering.{nat_cmp, ordering_then}
use Rattle.std.specs.Option.{option_map, option_map_or}
use Rattle.std.specs.Coded.{Coded, code_by, coded×, coded_list}
use Rattle.std.specs.FinMap.{FinMap, get, insert, contains_key}
use Rattle.std.specs.FinMap as map
use Rattle.fission_ids.specs.declared.context.ContextId.{ContextId}
use Rattle.fission_ids.specs.declared.epoch.Epoch.{Epoch}
use Rattle.fission_ids.specs.contracts.context.ContextId as context
use Rattle.fission_ids.specs.contracts.epoch.Epoch as epoch
use Rattle.field_table.specs.declared.field_set.FieldSet.{FieldSet}
use Rattle.field_table.specs.declared.value.Value.{Value}
use Rattle.field_table.specs.contracts.value.Value as value
use Rattle.field_table.specs.FieldSet.{minus}
use Rattle.field_table.specs.Table.{Table}
use Rattle.transaction.specs.Transaction.{Changes, changes_in, modified_in, table_after}
use Rattle.epochs.specs.FieldEpochs.{Epochs, epochs_after, obsolete_in}

-- the fields of a context, and the epochs of the last own writes to them
pub record Stored : Type 0 where
  pub fields : Table
  pub epochs : Epochs

-- it is stored as the pair of its parts
abbrev pub stored_code : Coded Stored
stored_code =
    code_by
    (List Value × List Epoch)
    (coded× (coded_list value.the_row.coded) (coded_list epoch.the_row.coded))
    (λ s. (s.fields, s.epochs))
    (λ p. record { fields = p.0; epochs = p.1 })
    (λ _. refl)

-- contexts by their creators, and those of one creator by their serials
abbrev pub context_order : ContextId → ContextId → Ordering
context_order x y = ordering_then (nat_cmp x.creator y.creator) (nat_cmp x.serial y.serial)

-- what is there for each context
abbrev pub Content : Type 0
Content = FinMap context_order Stored

-- the code of an entry
abbrev pub entry_code : Coded (ContextId × Stored)
entry_code = coded× context.the_row.coded stored_code

-- the code of a content
abbrev pub content_code : Coded Content
content_code = map.code context.the_row.coded stored_code

-- whether a context is there
abbrev pub is_there : ContextId → Content → Bool
is_there x m = contains_key m x

-- the fields of a context, where it is there
abbrev pub fields_at : ContextId → Content → Option Table
fields_at x m = option_map (λ s. s.fields) (get m x)

-- the content where what is there for a context is changed; the same where it isn't there
abbrev pub content_after_change : (Stored → Stored) → ContextId → Content → Content
content_after_change f x m = option_map_or (λ s. insert m x (f s)) (get m x) m

-- the epochs where the modified fields are marked, if an epoch is given
abbrev pub epochs_after_commit : Changes → Option Epoch → Epochs → Epochs
epochs_after_commit t None old = old
epochs_after_commit t (Some e) old = epochs_after (modified_in t) e old

-- a context where a transaction is applied, and its fields are marked where an epoch is given
abbrev pub stored_after_commit : Changes → Option Epoch → Stored → Stored
stored_after_commit t e s = record {
  fields = table_after t s.fields;
  epochs = epochs_after_commit t e s.epochs;
}

-- the modified fields that were written behind an epoch
abbrev pub obsolete_fields : Changes → Epoch → Stored → FieldSet
obsolete_fields t e s = obsolete_in (modified_in t) e s.epochs

-- a context where a transaction is applied without its obsolete fields
abbrev pub stored_after_overlay : Changes → Epoch → Stored → Stored
stored_after_overlay t e s = record {
  fields = table_after (changes_in (minus (modified_in t) (obsolete_fields t e s)) t) s.fields;
  epochs = s.epochs;
}

-- the obsolete fields at a context, where it is there
abbrev pub obsolete_at : ContextId → Changes → Epoch → Content → Option FieldSet
obsolete_at x t e m = option_map (obsolete_fields t e) (get m x)
