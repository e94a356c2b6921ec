-- The epochs of a process's last writes.
use Rattle.std.specs.Prelude.{List, ◌&&◌, map, slice_index_or, nat_lt, if◌then◌else◌}
use Rattle.fission_ids.specs.declared.epoch.Epoch.{Epoch}
use Rattle.field_table.specs.declared.field.Field.{Field}
use Rattle.field_table.specs.declared.field_set.FieldSet.{FieldSet}
use Rattle.field_table.specs.Field.{fields, number}
use Rattle.field_table.specs.FieldSet.{has, set_of}

-- the epochs by the fields' numbers
abbrev pub Epochs : Type 0
Epochs = List Epoch

-- the epoch of a field
abbrev pub epoch_of : Epochs → Field → Epoch
epoch_of t f = slice_index_or t (number f) (record { 0 = 0 })

-- no field was written
abbrev pub no_epochs : Epochs
no_epochs = map (λ _. record { 0 = 0 }) fields

-- the fields of the set have the epoch
abbrev pub epochs_after : FieldSet → Epoch → Epochs → Epochs
epochs_after s e t = map (λ f. if has s f then e else epoch_of t f) fields

-- the fields of the set whose epoch is greater
abbrev pub obsolete_in : FieldSet → Epoch → Epochs → FieldSet
obsolete_in s e t = set_of (λ f. has s f && nat_lt e.0 (epoch_of t f).0)
