-- What notes and changes have for a field.
use Rattle.std.proofs.Common.{◌≡◌, ℕ, zero, suc, ◌<◌, length, subst, Bool, true, false, ◌&&◌, ◌||◌, if◌then◌else◌, Option, None, Some, List, [], ◌∷◌, map, get_or, is_some, refl, ap, ap₂, sym, ◌∙◌, eq-eqb, eqb-true}
use Rattle.std.specs.Prelude.{filter}
use Rattle.std.specs.List.{list_any}
use Rattle.std.proofs.lemmas.List.{ext_get_or, get_or-map, length-map}
use Rattle.std.proofs.lemmas.List.Folds.{list_any_at}
use Rattle.field_table.specs.declared.field.Field.{Field}
use Rattle.field_table.specs.declared.field.Field.TheVariants.{Name}
use Rattle.field_table.specs.Field.{fields, number}
use Rattle.field_table.proofs.Tables.{stands, number-at, at_number}
use Rattle.transaction.specs.Transaction.{Changes, new_value}
use Rattle.wire_msgs.specs.declared.note.FieldNote.{FieldNote}
use Rattle.wire_msgs.specs.declared.note.FieldMark.{FieldMark}
use Rattle.protocol.specs.Hear.{modified_fields, changes_where, same_field, is_noted}

same_refl : (f : Field) → same_field f f ≡ true
same_refl f = eq-eqb (number f) (number f) refl

same_is : (g f : Field) → same_field g f ≡ true → g ≡ f
same_is g f e = sym ((stands g).at Name) ∙ ap (λ n. get_or fields n Name) (eqb-true (number g) (number f) e) ∙ (stands f).at Name

found : (f : Field) → list_any (λ g. same_field g f) fields ≡ true
found f = list_any_at (λ g. same_field g f) fields (number f) Name (stands f).below (ap (λ g. same_field g f) ((stands f).at Name) ∙ same_refl f)

-- ---- notes

opened : {A B : Type 0} (test : B → Bool) (make : A → B) (b : Bool) (a : A) (rest : List A) → list_any test (map make (if b then a ∷ rest else rest)) ≡ ((b && test (make a)) || list_any test (map make rest))
opened test make true a rest = refl
opened test make false a rest = refl

absorbed : (a b : Bool) → (b || (a && b)) ≡ b
absorbed a true = refl
absorbed true false = refl
absorbed false false = refl

-- one more field, which is the one that is asked of or not
counted : (same more p q m n : Bool) → (same ≡ true → p ≡ q) → (same ≡ true → m ≡ n) → ((p && (same && m)) || (more && (q && n))) ≡ ((same || more) && (q && n))
counted true more p q m n e i = ap₂ (λ a b. (a && b) || (more && (q && n))) (e refl) (i refl) ∙ absorbed more (q && n)
counted false more true q m n e i = refl
counted false more false q m n e i = refl

noted_in : (passes : Field → Bool) (has_mark : FieldMark → Bool) (mark : Field → FieldMark) (f : Field) (flds : List Field)
    → is_noted has_mark (map (λ g. record { field = g; mark = mark g }) (filter passes flds)) f ≡ (list_any (λ g. same_field g f) flds && (passes f && has_mark (mark f)))
noted_in passes has_mark mark f [] = refl
noted_in passes has_mark mark f (g ∷ flds) =
    opened (λ (n : FieldNote). same_field n.field f && has_mark n.mark) (λ g. record { field = g; mark = mark g }) (passes g) g (filter passes flds)
    ∙ ap (λ b. (passes g && (same_field g f && has_mark (mark g))) || b) (noted_in passes has_mark mark f flds)
    ∙ counted (same_field g f) (list_any (λ h. same_field h f) flds) (passes g) (passes f) (has_mark (mark g)) (has_mark (mark f))
    (λ e. ap passes (same_is g f e)) (λ e. ap (λ h. has_mark (mark h)) (same_is g f e))

-- a field has a note with this mark exactly where it is modified and has the mark
pub noted : (has_mark : FieldMark → Bool) (mark : Field → FieldMark) (t : Changes) (f : Field)
    → is_noted has_mark (map (λ g. record { field = g; mark = mark g }) (modified_fields t)) f ≡ (is_some (new_value t f) && has_mark (mark f))
noted has_mark mark t f =
    noted_in (λ g. is_some (new_value t g)) has_mark mark f fields
    ∙ ap (λ b. b && (is_some (new_value t f) && has_mark (mark f))) (found f)

-- ---- changes

pub kept_value : (passes : Field → Bool) (t : Changes) (f : Field) → new_value (changes_where passes t) f ≡ (if passes f then new_value t f else None)
kept_value passes t f = at_number (λ g. if passes g then new_value t g else None) None f

where_some : {A : Type 0} (b : Bool) (o : Option A) → (if is_some o && b then o else None) ≡ (if b then o else None)
where_some true None = refl
where_some false None = refl
where_some true (Some a) = refl
where_some false (Some a) = refl

-- what is kept of the changes whose notes have a mark
pub marked_value : (has_mark : FieldMark → Bool) (mark : Field → FieldMark) (t : Changes) (f : Field)
    → new_value (changes_where (is_noted has_mark (map (λ g. record { field = g; mark = mark g }) (modified_fields t))) t) f ≡ (if has_mark (mark f) then new_value t f else None)
marked_value has_mark mark t f =
    kept_value (is_noted has_mark (map (λ g. record { field = g; mark = mark g }) (modified_fields t))) t f
    ∙ ap (λ b. if b then new_value t f else None) (noted has_mark mark t f)
    ∙ where_some (has_mark (mark f)) (new_value t f)

or_none : (a b : Bool) → (a || b) ≡ false → (a ≡ false) × (b ≡ false)
or_none true b e = absurd cc
or_none false b e = (refl, e)

none_at : (t : Changes) (i : ℕ) → list_any is_some t ≡ false → get_or t i None ≡ None
none_at [] i e = refl
none_at (None ∷ t) zero e = refl
none_at (Some v ∷ t) zero e = absurd cc
none_at (o ∷ t) (suc i) e = let p : (is_some o ≡ false) × (list_any is_some t ≡ false) = or_none (is_some o) (list_any is_some t) e in none_at t i p.1

-- changes that modify nothing have nothing for any field
pub unmodified : (t : Changes) (f : Field) → list_any is_some t ≡ false → new_value t f ≡ None
unmodified t f e = none_at t (number f) e

-- ---- changes, whole

-- changes are what they have for each field
pub by_fields : (t : Changes) → length t ≡ length fields → map (new_value t) fields ≡ t
by_fields t len = ext_get_or None (map (new_value t) fields) t (length-map fields (new_value t) ∙ sym len) at
  where
    at : (i : ℕ) → i < length (map (new_value t) fields) → get_or (map (new_value t) fields) i None ≡ get_or t i None
    at i lt =
        let within : i < length fields = subst (λ n. i < n) (length-map fields (new_value t)) lt in
        get_or-map (new_value t) fields i Name None within ∙ ap (λ n. get_or t n None) (number-at i Name within)
