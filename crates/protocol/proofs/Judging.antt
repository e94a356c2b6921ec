-- How a commit is judged: what is denied rests on no answer of the outside, what the outside answered is read
-- back from the notes, and it is what the bounds of its functions say.
use Rattle.std.proofs.Common.{◌≡◌, ℕ, zero, suc, ◌<◌, Bool, true, false, not, ◌&&◌, ◌||◌, if◌then◌else◌, List, [], ◌∷◌, map, refl, sym, ap, ◌∙◌, arith}
use Rattle.std.proofs.lemmas.Bool.{lt-leb}
use Rattle.std.specs.Prelude.{is_some, filter, unwrap_or, nat_le}
use Rattle.std.proofs.Math.Path.{fun_ext}
use Rattle.fission_ids.specs.declared.context.ContextId.{ContextId}
use Rattle.field_table.specs.declared.field.Field.{Field}
use Rattle.field_table.specs.declared.value.Value.TheVariants.{Flag}
use Rattle.field_table.specs.declared.verdict.Verdict.{Verdict}
use Rattle.field_table.specs.declared.verdict.Verdict.TheVariants.{Allow, Deny, Revert}
use Rattle.field_table.specs.Field.{fields}
use Rattle.transaction.specs.Transaction.{Changes, new_value}
use Rattle.field_rules.specs.Bounds.{Bounds, is_within, no_number}
use Rattle.field_rules.specs.declared.rule.Rule.{Rule}
use Rattle.field_rules.specs.declared.rule.Rule.TheVariants.{Any, ParentOnly, TopOnly, OwnerElseRevert, Window, Custom}
use Rattle.field_rules.specs.declared.rule.Zoom.{Zoom}
use Rattle.field_rules.specs.declared.rule.Zoom.TheVariants.{Full, Text}
use Rattle.field_rules.specs.Rules.{Question, rule, row, range_of, number_in, is_denied, verdict, is_on_frame, is_zoom, is_from_parent}
use Rattle.wire_msgs.specs.declared.note.FieldNote.{FieldNote}
use Rattle.protocol.specs.Questions.{Facts}
use Rattle.protocol.specs.Hear.{modified_fields, question_of, bounds_where, verdict_of, is_denial, denied_of, mark_of, field_notes, is_applied, is_noted}
use Rattle.protocol.specs.Outside.{is_allowed_by}
use Rattle.protocol.proofs.Notes.{noted}

-- ---- lists

pub map-filter_same : {A B : Type 0} (f h : A → B) (g : A → Bool) → ((a : A) → g a ≡ true → f a ≡ h a) → (xs : List A) → map f (filter g xs) ≡ map h (filter g xs)
map-filter_same f h g same [] = refl
map-filter_same f h g same (x ∷ xs) = one (g x) refl (map-filter_same f h g same xs)
  where
    one : (b : Bool) → g x ≡ b → map f (filter g xs) ≡ map h (filter g xs) → map f (if b then x ∷ filter g xs else filter g xs) ≡ map h (if b then x ∷ filter g xs else filter g xs)
    one true e rest = ap (λ y. y ∷ map f (filter g xs)) (same x e) ∙ ap (λ ys. h x ∷ ys) rest
    one false e rest = rest

-- ---- what is denied

denial_by : (denies allows : Bool) → is_denial (if denies then Deny else if allows then Allow else Revert) ≡ denies
denial_by true allows = refl
denial_by false true = refl
denial_by false false = refl

pub denial_is : (b : Bounds) (q : Question) → is_denial (verdict b q) ≡ is_denied q
denial_is b q = denial_by (is_denied q) ((row (rule q.field)).allows b q)

-- the fields that are denied, by the fixed facts
pub denied_is : (answers : Field → Bool) (f : Facts) (p : ℕ) (x : ContextId) (t : Changes)
    → denied_of answers f p x t ≡ filter (λ fld. is_denied (question_of f p x fld (unwrap_or (new_value t fld) (Flag false)))) (modified_fields t)
denied_is answers f p x t =
    ap (λ test. filter test (modified_fields t))
    (fun_ext (λ fld. denial_is (bounds_where (answers fld)) (question_of f p x fld (unwrap_or (new_value t fld) (Flag false)))))

-- ---- what the outside answered

-- a verdict by a rule, where a function of the outside allows the value or doesn't
abbrev by_rule : Rule → Question → Bool → Verdict
by_rule r q a = if (row r).denies q then Deny else if (row r).allows (bounds_where a) q then Allow else Revert

-- the verdict on a zoom
abbrev on_zoom : Bool → Bool → Bool → Bool → Bool → Verdict
on_zoom frame zoom parent owner within = if frame || not zoom then Deny else if parent || owner || within then Allow else Revert

again_on_zoom : (frame zoom parent owner within : Bool) (a : Bool)
    → on_zoom frame zoom parent owner (if is_applied (mark_of (on_zoom frame zoom parent owner (if a then zoom else within))) then zoom else within)
    ≡ on_zoom frame zoom parent owner (if a then zoom else within)
again_on_zoom true zoom parent owner within a = refl
again_on_zoom false false parent owner within a = refl
again_on_zoom false true true owner within a = refl
again_on_zoom false true false true within a = refl
again_on_zoom false true false false within true = refl
again_on_zoom false true false false true false = refl
again_on_zoom false true false false false false = refl

-- the verdict on a zoom, in those words
abbrev zoom_verdict : Question → Bool → Verdict
zoom_verdict q a = on_zoom (is_on_frame q) (is_zoom q) (is_from_parent q) q.owner_is_sender (if a then is_zoom q else is_within no_number (number_in q.value))

zoom_is : (z : Zoom) (q : Question) (a : Bool) → by_rule (Custom z) q a ≡ zoom_verdict q a
unfolding row
zoom_is Full q true = refl
zoom_is Full q false = refl
zoom_is Text q true = refl
zoom_is Text q false = refl

again_by : (r : Rule) (q : Question) (a : Bool) → by_rule r q (is_applied (mark_of (by_rule r q a))) ≡ by_rule r q a
unfolding row
again_by Any q a = refl
again_by ParentOnly q a = refl
again_by TopOnly q a = refl
again_by OwnerElseRevert q a = refl
again_by Window q a = refl
again_by (Custom z) q a =
    zoom_is z q (is_applied (mark_of (by_rule (Custom z) q a)))
    ∙ ap (λ v. zoom_verdict q (is_applied (mark_of v))) (zoom_is z q a)
    ∙ again_on_zoom (is_on_frame q) (is_zoom q) (is_from_parent q) q.owner_is_sender (is_within no_number (number_in q.value)) a
    ∙ sym (zoom_is z q a)

-- a verdict that is told tells what the outside answered
pub verdict_again : (q : Question) (a : Bool) → verdict (bounds_where (is_applied (mark_of (verdict (bounds_where a) q)))) q ≡ verdict (bounds_where a) q
verdict_again q a = again_by (rule q.field) q a

-- so the notes of a commit do
pub notes_again : (answers : Field → Bool) (f : Facts) (p : ℕ) (x : ContextId) (t : Changes)
    → field_notes (is_noted is_applied (field_notes answers f p x t)) f p x t ≡ field_notes answers f p x t
notes_again answers f p x t = map-filter_same (note is_read) (note answers) (λ fld. is_some (new_value t fld)) same fields
  where
    is_read : Field → Bool
    is_read = is_noted is_applied (field_notes answers f p x t)

    note : (Field → Bool) → Field → FieldNote
    note says fld = record { field = fld; mark = mark_of (verdict_of says f p x t fld) }

    same : (fld : Field) → is_some (new_value t fld) ≡ true → note is_read fld ≡ note answers fld
    same fld e =
        let q : Question = question_of f p x fld (unwrap_or (new_value t fld) (Flag false)) in
        let told : is_read fld ≡ is_applied (mark_of (verdict_of answers f p x t fld)) =
        noted is_applied (λ g. mark_of (verdict_of answers f p x t g)) t fld ∙ ap (λ b. b && is_applied (mark_of (verdict_of answers f p x t fld))) e in
        ap (λ a. record { field = fld; mark = mark_of (verdict (bounds_where a) q) }) told
        ∙ ap (λ v. record { field = fld; mark = mark_of v }) (verdict_again q (answers fld))

-- ---- what the bounds say

none_both : (b : Bool) → (b && false) ≡ false
none_both true = refl
none_both false = refl

nothing_within : (n : ℕ) → is_within no_number n ≡ false
nothing_within zero = refl
nothing_within (suc n) = let past : 0 < suc n = omega arith in ap (λ b. nat_le 1 (suc n) && b) (lt-leb (suc n) 0 past) ∙ none_both (nat_le 1 (suc n))

-- a rule by what its function answers is the rule by the bounds
bounded_on_zoom : (frame zoom parent owner within none : Bool) → none ≡ false
    → on_zoom frame zoom parent owner (if within then zoom else none) ≡ on_zoom frame zoom parent owner within
bounded_on_zoom true zoom parent owner within none e = refl
bounded_on_zoom false false parent owner within none e = refl
bounded_on_zoom false true parent owner true none e = refl
bounded_on_zoom false true parent owner false none e = ap (λ b. on_zoom false true parent owner b) e

bounded_by : (r : Rule) (b : Bounds) (q : Question) → by_rule r q (is_allowed_by b r q.value) ≡ (if (row r).denies q then Deny else if (row r).allows b q then Allow else Revert)
unfolding row
bounded_by Any b q = refl
bounded_by ParentOnly b q = refl
bounded_by TopOnly b q = refl
bounded_by OwnerElseRevert b q = refl
bounded_by Window b q = refl
bounded_by (Custom z) b q =
    zoom_is z q (is_within (range_of z b) (number_in q.value))
    ∙ bounded_on_zoom (is_on_frame q) (is_zoom q) (is_from_parent q) q.owner_is_sender (is_within (range_of z b) (number_in q.value)) (is_within no_number (number_in q.value)) (nothing_within (number_in q.value))

pub verdict_bounded : (b : Bounds) (q : Question) → verdict (bounds_where (is_allowed_by b (rule q.field) q.value)) q ≡ verdict b q
verdict_bounded b q = bounded_by (rule q.field) b q
