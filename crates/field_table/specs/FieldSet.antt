-- Sets of fields.
use Rattle.std.specs.Prelude.{◌≡◌, ℕ, ◌+◌, ◌*◌, ◌^◌, ◌==◌, Bool, false, List, [], ◌∷◌, map, bit_or, bit_and}
use Rattle.std.specs.Prelude.{if◌then◌else◌}
use Rattle.std.specs.Int.{bit_at, bit_not, w16}
use Rattle.field_table.specs.declared.field.Field.{Field}
use Rattle.field_table.specs.declared.field_set.FieldSet.{FieldSet}
use Rattle.field_table.specs.Field.{fields, number}

-- whether a field is in the set
abbrev pub has : FieldSet → Field → Bool
has s f = bit_at s.0 (number f) == 1

-- no field is in the set
abbrev pub IsEmpty : FieldSet → Type 0
IsEmpty s = (f : Field) → has s f ≡ false

-- the set with the field in it
abbrev pub with : FieldSet → Field → FieldSet
with s f = record { 0 = bit_or s.0 (2 ^ number f) }

-- the set without the field
abbrev pub without : FieldSet → Field → FieldSet
without s f = record { 0 = bit_and s.0 (bit_not w16 (2 ^ number f)) }

-- the fields that are in either set
abbrev pub union : FieldSet → FieldSet → FieldSet
union s t = record { 0 = bit_or s.0 t.0 }

-- the fields that are in the first set and not in the second
abbrev pub minus : FieldSet → FieldSet → FieldSet
minus s t = record { 0 = bit_and s.0 (bit_not w16 t.0) }

-- the number with these bits, the lowest one first
unfoldable pub number_of_bits : List Bool → ℕ
number_of_bits [] = 0
number_of_bits (b ∷ bs) = (if b then 1 else 0) + 2 * number_of_bits bs

-- the set of the fields that pass a test
abbrev pub set_of : (Field → Bool) → FieldSet
set_of p = record { 0 = number_of_bits (map p fields) }
