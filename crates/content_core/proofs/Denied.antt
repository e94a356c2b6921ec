-- The fields that a process may not write, as a set.
use Rattle.std.proofs.Common.{◌≡◌, ◌≢◌, ◌∙◌, refl, sym, ap, ℕ, ◌==◌, Bool, true, false, ◌&&◌, ◌||◌, List, [], ◌∷◌, filter, None, Some, true≢false}
use Rattle.std.proofs.lemmas.Nat.Bits.{bit_at-zero}
use Rattle.std.proofs.lemmas.Map.Views.{any-filter_same}
use Rattle.std.specs.Int.{bit_at}
use Rattle.std.specs.List.{list_any}
use Rattle.field_table.specs.declared.field.Field.{Field}
use Rattle.field_table.specs.Field.{fields, number}
use Rattle.field_table.specs.FieldSet.{has, set_of, number_of_bits}
use Rattle.field_table.proofs.Filling.{same_by_fields}
use Rattle.field_table.proofs.FieldSets.{members_set_of}
use Rattle.wire_msgs.specs.declared.refusal.Refusal.TheVariants.{Denied}
use Rattle.protocol.specs.Hear.{same_field, set_of_fields}
use Rattle.protocol.specs.ParentActs.{denial_refused}
use Rattle.content_core.proofs.Notes.{is_field, same-itself, is_among}

-- the set of the fields that pass two tests, one after the other
module _ (m q : Field → Bool) where
  turned : (a b : Bool) → (b && (a && true)) ≡ (a && b)
  turned true true = refl
  turned true false = refl
  turned false true = refl
  turned false false = refl

  member : (g : Field) → list_any (same_field g) (filter q (filter m fields)) ≡ (m g && q g)
  member g =
      any-filter_same (same_field g) q (q g) (λ f same. ap q (sym (is_field g f same))) (filter m fields)
      ∙ ap (λ (b : Bool). q g && b)
      (any-filter_same (same_field g) m (m g) (λ f same. ap m (sym (is_field g f same))) fields
      ∙ ap (λ (b : Bool). m g && b) (is_among (same_field g) g (same-itself g)))
      ∙ turned (m g) (q g)

  pub set-filtered : set_of_fields (filter q (filter m fields)) ≡ set_of (λ f. m f && q f)
  set-filtered = ap (λ (bs : List Bool). record { 0 = number_of_bits bs }) (same_by_fields _ _ member)

-- a set of no field denies nothing
pub none-denied : (flds : List Field) → (set_of_fields flds).0 ≡ 0 → denial_refused flds ≡ None
none-denied [] is = refl
none-denied (f ∷ flds) is =
    let member : has (set_of_fields (f ∷ flds)) f ≡ true =
    members_set_of (set_of_fields (f ∷ flds)) (λ g. list_any (same_field g) (f ∷ flds)) refl f
    ∙ ap (λ (b : Bool). b || list_any (same_field f) flds) (same-itself f) in
    let none : has (set_of_fields (f ∷ flds)) f ≡ false =
    ap (λ (n : ℕ). bit_at n (number f) == 1) is ∙ ap (λ (n : ℕ). n == 1) (bit_at-zero (number f)) in
    absurd (true≢false (sym member ∙ none))

-- else its fields are denied
pub some-denied : (flds : List Field) → (set_of_fields flds).0 ≢ 0 → denial_refused flds ≡ Some (Denied (set_of_fields flds))
unfolding number_of_bits
some-denied [] some = absurd (some refl)
some-denied (f ∷ flds) some = refl
