-- Sets of fields: what is modified, and what is denied.
use Rattle.std.proofs.Common.{◌≡◌, ◌≢◌, ℕ, zero, suc, ◌<◌, ◌==◌, Bool, true, false, not, ◌&&◌, ◌||◌, None, Some, List, [], ◌∷◌, length, get_or, refl, sym, ap, subst, ◌∙◌, arith, eq-eqb, eqb-true}
use Rattle.std.specs.Prelude.{is_some, filter}
use Rattle.std.specs.List.{list_any}
use Rattle.std.proofs.Math.Path.{fun_ext}
use Rattle.std.proofs.lemmas.Bool.{false≢true}
use Rattle.std.proofs.lemmas.List.Folds.{list_any_at}
use Rattle.std.proofs.lemmas.Map.Views.{any-filter_same}
use Rattle.std.proofs.lemmas.Nat.Bits.{bit_at-zero}
use Rattle.fission_ids.specs.declared.context.ContextId.{ContextId}
use Rattle.field_table.specs.declared.field.Field.{Field}
use Rattle.field_table.specs.declared.field.Field.TheVariants.{Name}
use Rattle.field_table.specs.declared.field_set.FieldSet.{FieldSet}
use Rattle.field_table.specs.Field.{fields, number}
use Rattle.field_table.specs.FieldSet.{has, set_of, number_of_bits}
use Rattle.field_table.proofs.Tables.{stands, number-at}
use Rattle.field_table.proofs.FieldSets.{members_set_of}
use Rattle.transaction.specs.Transaction.{Changes, new_value, modified_in}
use Rattle.wire_msgs.specs.declared.cause.EndCause.TheVariants.{Denied as DeniedEnd}
use Rattle.wire_msgs.specs.declared.refusal.Refusal.TheVariants.{Denied}
use Rattle.protocol.specs.Hear.{denial, same_field, set_of_fields, modified_fields}
use Rattle.protocol.specs.ParentActs.{denial_refused}

-- the set without a field
abbrev pub no_field : FieldSet
no_field = record { 0 = 0 }

has_none : (f : Field) → has no_field f ≡ false
has_none f = ap (λ (n : ℕ). n == 1) (bit_at-zero (number f))

-- the set of the fields that pass a test that none passes
set_of_none : (p : Field → Bool) → ((f : Field) → p f ≡ false) → set_of p ≡ no_field
unfolding number_of_bits
set_of_none p none = ap set_of (fun_ext none)

-- ---- what is modified

none_at : (t : Changes) (i : ℕ) → list_any is_some t ≡ false → is_some (get_or t i None) ≡ false
none_at [] i e = refl
none_at (None ∷ t) zero e = refl
none_at (None ∷ t) (suc i) e = none_at t i e
none_at (Some v ∷ t) i e = absurd (cc)

none_in : (t : Changes) → ((i : ℕ) → i < length t → is_some (get_or t i None) ≡ false) → list_any is_some t ≡ false
none_in [] none = refl
none_in (c ∷ t) none =
    let from : 0 < length (c ∷ t) = omega arith in
    ap (λ b. b || list_any is_some t) (none 0 from) ∙ none_in t (λ i below. none (suc i) (omega arith))

modified_none : (t : Changes) → list_any is_some t ≡ false → modified_in t ≡ no_field
modified_none t e = set_of_none (λ f. is_some (new_value t f)) (λ f. none_at t (number f) e)

none_modified : (t : Changes) → length t ≡ length fields → modified_in t ≡ no_field → list_any is_some t ≡ false
none_modified t len e = none_in t at
  where
    at : (i : ℕ) → i < length t → is_some (get_or t i None) ≡ false
    at i below =
        let within : i < length fields = subst (λ (n : ℕ). i < n) len below in
        let f : Field = get_or fields i Name in
        ap (λ n. is_some (get_or t n None)) (sym (number-at i Name within))
        ∙ sym (members_set_of (modified_in t) (λ g. is_some (new_value t g)) refl f)
        ∙ ap (λ (s : FieldSet). has s f) e
        ∙ has_none f

-- whether nothing is modified, by the set of what is modified
pub empty_by : (b : Bool) (t : Changes) → length t ≡ length fields → (b ≡ true → modified_in t ≡ no_field) → (modified_in t ≡ no_field → b ≡ true) → b ≡ not (list_any is_some t)
empty_by b t len to from = by b (list_any is_some t) refl refl
  where
    by : (c d : Bool) → b ≡ c → list_any is_some t ≡ d → c ≡ not d
    by true false e f = refl
    by false true e f = refl
    by true true e f = absurd (false≢true (sym (none_modified t len (to e)) ∙ f))
    by false false e f = absurd (false≢true (sym e ∙ from (modified_none t f)))

-- ---- what is denied

field_same : (g h : Field) → number g ≡ number h → g ≡ h
field_same g h e = sym ((stands g).at Name) ∙ ap (λ n. get_or fields n Name) e ∙ (stands h).at Name

any_filtered : (p : Field → Bool) (g : Field) (xs : List Field) → list_any (same_field g) (filter p xs) ≡ (p g && list_any (same_field g) xs)
any_filtered p g xs = any-filter_same (same_field g) p (p g) (λ h e. ap p (sym (field_same g h (eqb-true (number g) (number h) e)))) xs

among_fields : (g : Field) → list_any (same_field g) fields ≡ true
among_fields g =
    list_any_at (same_field g) fields (number g) Name (stands g).below
    (ap (same_field g) ((stands g).at Name) ∙ eq-eqb (number g) (number g) refl)

-- the set of the fields that are modified and pass a test
set_of_both : (p : Field → Bool) (t : Changes) → set_of (λ f. is_some (new_value t f) && p f) ≡ set_of_fields (filter p (modified_fields t))
set_of_both p t = ap set_of (fun_ext (λ g. sym (
    any_filtered p g (modified_fields t)
    ∙ ap (λ b. p g && b) (any_filtered (λ f. is_some (new_value t f)) g fields ∙ ap (λ b. is_some (new_value t g) && b) (among_fields g))
    ∙ swap (p g) (is_some (new_value t g)))))
  where
    swap : (b c : Bool) → (b && (c && true)) ≡ (c && b)
    swap true true = refl
    swap true false = refl
    swap false true = refl
    swap false false = refl

-- a set of some fields isn't empty
some_in : (f : Field) (flds : List Field) → set_of_fields (f ∷ flds) ≢ no_field
some_in f flds e =
    false≢true (sym (has_none f) ∙ ap (λ (s : FieldSet). has s f) (sym e)
    ∙ members_set_of (set_of_fields (f ∷ flds)) (λ g. list_any (same_field g) (f ∷ flds)) refl f
    ∙ ap (λ b. b || list_any (same_field f) flds) (eq-eqb (number f) (number f) refl))

denial_none : (flds : List Field) → set_of_fields flds ≡ no_field → denial_refused flds ≡ None
denial_none [] e = refl
denial_none (f ∷ flds) e = absurd (some_in f flds e)

denial_some : (flds : List Field) → set_of_fields flds ≢ no_field → denial_refused flds ≡ Some (Denied (set_of_fields flds))
denial_some [] ne = absurd (ne (set_of_none (λ g. false) (λ g. refl)))
denial_some (f ∷ flds) ne = refl

ends_none : (x : ContextId) (flds : List Field) → set_of_fields flds ≡ no_field → denial x flds ≡ None
ends_none x [] e = refl
ends_none x (f ∷ flds) e = absurd (some_in f flds e)

ends_some : (x : ContextId) (flds : List Field) → set_of_fields flds ≢ no_field → denial x flds ≡ Some (DeniedEnd x (set_of_fields flds))
ends_some x [] ne = absurd (ne (set_of_none (λ g. false) (λ g. refl)))
ends_some x (f ∷ flds) ne = refl

module _ (denies : Field → Bool) (t : Changes) (denied : FieldSet) (is : denied ≡ set_of (λ f. is_some (new_value t f) && denies f)) where
  denied_set : denied ≡ set_of_fields (filter denies (modified_fields t))
  denied_set = is ∙ set_of_both denies t

  none_in_it : denied.0 ≡ 0 → set_of_fields (filter denies (modified_fields t)) ≡ no_field
  none_in_it e =
      let made : ℕ → FieldSet = λ n. record { 0 = n } in
      sym denied_set ∙ ap made e

  some_in_it : denied.0 ≢ 0 → set_of_fields (filter denies (modified_fields t)) ≢ no_field
  some_in_it ne e = ne (ap (λ (s : FieldSet). s.0) (denied_set ∙ e))

  pub none_refused_by : denied.0 ≡ 0 → None ≡ denial_refused (filter denies (modified_fields t))
  none_refused_by e = sym (denial_none (filter denies (modified_fields t)) (none_in_it e))

  pub some_refused_by : denied.0 ≢ 0 → Some (Denied denied) ≡ denial_refused (filter denies (modified_fields t))
  some_refused_by ne =
      ap (λ (s : FieldSet). Some (Denied s)) denied_set
      ∙ sym (denial_some (filter denies (modified_fields t)) (some_in_it ne))

  pub none_ended_by : (x : ContextId) → denied.0 ≡ 0 → None ≡ denial x (filter denies (modified_fields t))
  none_ended_by x e = sym (ends_none x (filter denies (modified_fields t)) (none_in_it e))

  pub some_ended_by : (x : ContextId) → denied.0 ≢ 0 → Some (DeniedEnd x denied) ≡ denial x (filter denies (modified_fields t))
  some_ended_by x ne =
      ap (λ (s : FieldSet). Some (DeniedEnd x s)) denied_set
      ∙ sym (ends_some x (filter denies (modified_fields t)) (some_in_it ne))
