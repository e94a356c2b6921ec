-- What the notes of a taken commit tell of one field.
use Rattle.std.proofs.Common.{◌≡◌, ◌∙◌, refl, sym, ap, ap₂, ℕ, ◌^◌, ◌<◌, Bool, true, false, not, ◌&&◌, ◌||◌, cond, if◌then◌else◌, List, [], ◌∷◌, length, get_or, map, filter, arith, eq-eqb, lit<}
use Rattle.std.proofs.Math.Nat.{pow-suc}
use Rattle.std.proofs.lemmas.Bool.{eqb-true}
use Rattle.std.proofs.lemmas.List.Folds.{list_any_at}
use Rattle.std.proofs.lemmas.Map.Views.{any-filter_same}
use Rattle.std.specs.Prelude.{is_some, nat_lt, None}
use Rattle.std.specs.List.{list_any}
use Rattle.field_table.specs.declared.field.Field.{Field}
use Rattle.field_table.specs.declared.field_set.FieldSet.{FieldSet}
use Rattle.field_table.specs.Field.{fields, number}
use Rattle.field_table.specs.FieldSet.{has, minus, set_of, number_of_bits}
use Rattle.field_table.proofs.Tables.{stands, at_number}
use Rattle.field_table.proofs.FieldSets.{members_set_of, members_minus}
use Rattle.transaction.specs.Transaction.{Changes, new_value, modified_in, changes_in}
use Rattle.epochs.specs.FieldEpochs.{Epochs, epoch_of, obsolete_in}
use Rattle.fission_ids.specs.declared.epoch.Epoch.{Epoch}
use Rattle.wire_msgs.specs.declared.note.FieldNote.{FieldNote}
use Rattle.wire_msgs.specs.declared.note.FieldMark.{FieldMark}
use Rattle.wire_msgs.specs.declared.note.FieldMark.TheVariants.{Applied, Obsolete}
use Rattle.protocol.specs.Hear.{modified_fields, changes_where, is_noted, is_applied, same_field}
use Rattle.content_core.specs.Steps.{notes_beside}

-- a field's note, by its mark
abbrev pub with_mark : (Field → FieldMark) → Field → FieldNote
with_mark mark f = record { field = f; mark = mark f }

-- the mark of a field, by whether it is obsolete
abbrev pub mark_if : (Field → Bool) → Field → FieldMark
mark_if test f = if test f then Obsolete else Applied

-- two fields of one number are one
pub is_field : (f g : Field) → same_field f g ≡ true → f ≡ g
is_field f g e = sym ((stands f).at f) ∙ ap (λ (n : ℕ). get_or fields n f) (eqb-true _ _ e) ∙ (stands g).at f

pub same-itself : (f : Field) → same_field f f ≡ true
same-itself f = eq-eqb (number f) (number f) refl

-- each field is among the fields
pub is_among : (test : Field → Bool) (fld : Field) → test fld ≡ true → list_any test fields ≡ true
is_among test fld is = list_any_at test fields (number fld) fld (stands fld).below (ap test ((stands fld).at fld) ∙ is)

true_right : (b : Bool) → (b && true) ≡ b
true_right true = refl
true_right false = refl

false_right : (b : Bool) → (b && false) ≡ false
false_right true = refl
false_right false = refl

-- the mark that a field is noted with, if it is modified
module _ (has_mark : FieldMark → Bool) (mark : Field → FieldMark) (m : Field → Bool) (fld : Field) where
  abbrev note : Field → FieldNote
  note = with_mark mark

  abbrev at : FieldNote → Bool
  at n = same_field n.field fld && has_mark n.mark

  found : (a h b : Bool) → ((a && h) || (h && b)) ≡ (h && (a || b))
  found true true b = refl
  found true false b = refl
  found false true b = refl
  found false false b = refl

  marked_so : (f : Field) (a : Bool) → same_field f fld ≡ a → (a && has_mark (mark f)) ≡ (a && has_mark (mark fld))
  marked_so f true same = ap (λ (g : Field). has_mark (mark g)) (is_field f fld same)
  marked_so f false same = refl

  any_marked : (fs : List Field) → list_any at (map note fs) ≡ (has_mark (mark fld) && list_any (λ f. same_field f fld) fs)
  any_marked [] = sym (false_right (has_mark (mark fld)))
  any_marked (f ∷ fs) =
      ap₂ (λ (a b : Bool). a || b) (marked_so f (same_field f fld) refl) (any_marked fs)
      ∙ found (same_field f fld) (has_mark (mark fld)) (list_any (λ g. same_field g fld) fs)

  turned : (h b : Bool) → (h && (b && true)) ≡ (b && h)
  turned true true = refl
  turned true false = refl
  turned false true = refl
  turned false false = refl

  pub noted : is_noted has_mark (map (with_mark mark) (filter m fields)) fld ≡ (m fld && has_mark (mark fld))
  noted =
      any_marked (filter m fields)
      ∙ ap (λ (b : Bool). has_mark (mark fld) && b)
      (any-filter_same (λ f. same_field f fld) m (m fld) (λ f same. ap m (is_field f fld same)) fields
      ∙ ap (λ (b : Bool). m fld && b) (is_among (λ f. same_field f fld) fld (same-itself fld)))
      ∙ turned (has_mark (mark fld)) (m fld)

-- two tests that agree on the modified fields give the same notes
module _ (m o l : Field → Bool) (agree : (f : Field) → o f ≡ (m f && l f)) where
  abbrev noted_by : (Field → Bool) → Field → FieldNote
  noted_by test = with_mark (mark_if test)

  pub same_notes : (fs : List Field) → map (noted_by o) (filter m fs) ≡ map (noted_by l) (filter m fs)
  same_notes [] = refl
  same_notes (f ∷ fs) = by (m f) refl (same_notes fs)
    where
      by : (b : Bool) → m f ≡ b → map (noted_by o) (filter m fs) ≡ map (noted_by l) (filter m fs)
          → map (noted_by o) (cond b (f ∷ filter m fs) (filter m fs)) ≡ map (noted_by l) (cond b (f ∷ filter m fs) (filter m fs))
      by true is rest =
          ap₂ (λ (b : Bool) (ns : List FieldNote). record { field = f; mark = if b then Obsolete else Applied } ∷ ns)
          (agree f ∙ ap (λ (b : Bool). b && l f) is) rest
      by false is rest = rest

-- ---- what is applied of a commit

below : (bs : List Bool) → number_of_bits bs < 2 ^ length bs
unfolding number_of_bits
below [] = lit< tt
below (true ∷ bs) = omega (arith, below bs, pow-suc 2 (length bs))
below (false ∷ bs) = omega (arith, below bs, pow-suc 2 (length bs))

fits : (p : Field → Bool) → (set_of p).0 < 2 ^ 16
fits p = below (map p fields)

module _ (t : Changes) (e : Epoch) (epochs : Epochs) where
  abbrev is_newer : Field → Bool
  is_newer f = nat_lt e.0 (epoch_of epochs f).0

  abbrev is_modified : Field → Bool
  is_modified f = is_some (new_value t f)

  -- the obsolete fields are those that are modified, and were written later
  pub obsolete-members : (f : Field) → has (obsolete_in (modified_in t) e epochs) f ≡ (is_modified f && is_newer f)
  obsolete-members f =
      members_set_of (obsolete_in (modified_in t) e epochs) (λ g. has (modified_in t) g && is_newer g) refl f
      ∙ ap (λ (b : Bool). b && is_newer f) (members_set_of (modified_in t) is_modified refl f)

  abbrev marks : Field → FieldMark
  marks = mark_if is_newer

  applied : (b : Bool) → is_applied (if b then Obsolete else Applied) ≡ not b
  applied true = refl
  applied false = refl

  left : (a b : Bool) → (a && not (a && b)) ≡ (a && not b)
  left true b = refl
  left false b = refl

  -- what is left of a commit for the overlay is what its notes say is applied
  pub left-applied : (f : Field) → new_value (changes_in (minus (modified_in t) (obsolete_in (modified_in t) e epochs)) t) f
      ≡ new_value (changes_where (is_noted is_applied (map (with_mark marks) (modified_fields t))) t) f
  left-applied f =
      let obsolete : FieldSet = obsolete_in (modified_in t) e epochs in
      let kept : FieldSet = minus (modified_in t) obsolete in
      let notes : List FieldNote = map (with_mark marks) (modified_fields t) in
      at_number (λ g. if has kept g then new_value t g else None) None f
      ∙ ap (λ (b : Bool). if b then new_value t f else None)
      (members_minus kept (modified_in t) obsolete (fits (λ g. has (modified_in t) g && is_newer g)) refl f
      ∙ ap₂ (λ (a b : Bool). a && not b) (members_set_of (modified_in t) is_modified refl f) (obsolete-members f)
      ∙ left (is_modified f) (is_newer f)
      ∙ sym (noted is_applied marks is_modified f ∙ ap (λ (b : Bool). is_modified f && b) (applied (is_newer f))))
      ∙ sym (at_number (λ g. if is_noted is_applied notes g then new_value t g else None) None f)

  -- the notes by the set of the obsolete fields
  pub notes-by_set : notes_beside (obsolete_in (modified_in t) e epochs) t ≡ map (with_mark marks) (modified_fields t)
  notes-by_set = same_notes is_modified (has (obsolete_in (modified_in t) e epochs)) is_newer obsolete-members fields
