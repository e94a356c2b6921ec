-- The epochs of a context's fields as sixteen numbers under a mask.
use Rattle.std.specs.Prelude.{ℕ, List, map, slice_index, if◌then◌else◌}
use Rattle.field_table.specs.declared.field.Field.{Field}
use Rattle.field_table.specs.declared.field_set.FieldSet.{FieldSet}
use Rattle.field_table.specs.Field.{fields, number}
use Rattle.field_table.specs.FieldSet.{has}
use Rattle.epochs.specs.FieldEpochs.{Epochs}

-- the number of a field under the mask, 0 where the mask hasn't the field
abbrev pub number_under : FieldSet → List ℕ → Field → ℕ
number_under mask numbers f = if has mask f then slice_index numbers (number f) else 0

-- the epochs that the numbers under the mask are
abbrev pub epochs_under : FieldSet → List ℕ → Epochs
epochs_under mask numbers = map (λ f. record { 0 = number_under mask numbers f }) fields

-- the numbers where the fields of the set have this one
abbrev pub numbers_after : FieldSet → ℕ → List ℕ → List ℕ
numbers_after s n numbers = map (λ f. if has s f then n else slice_index numbers (number f)) fields
