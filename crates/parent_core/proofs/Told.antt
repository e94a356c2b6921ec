-- What is told of the contexts: their present fields, and that those in the order are live.
use Rattle.std.proofs.Common.{false, ◌≡◌, ℕ, zero, suc, ◌+◌, ◌<◌, ◌≤◌, Bool, true, ◌||◌, Option, None, Some, List, [], ◌∷◌, length, map, get_or, refl, sym, ap, subst, ◌∙◌, arith}
use Rattle.std.specs.Prelude.{unwrap_or}
use Rattle.std.specs.List.{list_any}
use Rattle.std.specs.Option.{option_map}
use Rattle.std.specs.FinMap.{get}
use Rattle.fission_ids.specs.declared.context.ContextId.{ContextId}
use Rattle.fission_ids.specs.Ids.{same_context}
use Rattle.field_table.specs.declared.field.Field.{Field}
use Rattle.field_table.specs.declared.field.Field.TheVariants.{Name}
use Rattle.field_table.specs.declared.value.Value.TheVariants.{Flag}
use Rattle.field_table.specs.Field.{fields}
use Rattle.field_table.specs.Table.{Table, value_in}
use Rattle.field_table.proofs.Filling.{filled, filled_all, filled_same, same_by_fields}
use Rattle.context_store.specs.Content.{Stored, fields_at}
use Rattle.context_tree.specs.Tree.{contexts, is_held}
use Rattle.context_tree.proofs.Distinct.{held_among}
use Rattle.context_tree.proofs.Same.{same_itself}
use Rattle.parent_core.specs.Opening.{present_fields}
use Rattle.parent_core.specs.Parent.{Kept, facts_of}

-- ---- fields

-- a table, by the fields
whole_table : (t : Table) → length t ≡ length fields → t ≡ map (value_in t) fields
whole_table t long = let all : length fields ≤ length fields = omega arith in so_far (length fields) all ∙ filled_all (value_in t) (length fields) t all long
  where
    so_far : (n : ℕ) → n ≤ length fields → t ≡ filled (value_in t) n t
    so_far zero le = refl
    so_far (suc n) le =
        let within : n < length fields = omega (arith, le) in
        let before : n ≤ length fields = omega (arith, le) in
        let one : n + 1 ≡ suc n = omega arith in
        subst (λ m. t ≡ filled (value_in t) m t) one (filled_same (value_in t) n Name (Flag false) t within long t t (so_far n before) refl refl)

pub fields_shown : (k : Kept) (x : ContextId) (t : Table) → length t ≡ length fields → fields_at x k.contexts ≡ Some t → t ≡ present_fields (facts_of k) x
fields_shown k x t long there =
    whole_table t long
    ∙ same_by_fields (value_in t) (λ fld. unwrap_or (option_map (λ (s : Stored). value_in s.fields fld) (get k.contexts x)) (Flag false)) (λ fld. by (get k.contexts x) fld there)
  where
    by : (o : Option Stored) (fld : Field) → option_map (λ (s : Stored). s.fields) o ≡ Some t → value_in t fld ≡ unwrap_or (option_map (λ (s : Stored). value_in s.fields fld) o) (Flag false)
    by None fld e = absurd (cc)
    by (Some s) fld e = let same : s.fields ≡ t = cc in ap (λ (u : Table). value_in u fld) (sym same)

-- ---- the contexts in the order

among : (xs : List ContextId) (i : ℕ) (d : ContextId) → i < length xs → list_any (same_context (get_or xs i d)) xs ≡ true
among [] i d lt = absurd (omega (arith, lt))
among (x ∷ xs) zero d lt = ap (λ b. b || list_any (same_context x) xs) (same_itself x)
among (x ∷ xs) (suc i) d lt = more (same_context (get_or xs i d) x) (among xs i d (omega (arith, lt)))
  where
    more : (b : Bool) → list_any (same_context (get_or xs i d)) xs ≡ true → (b || list_any (same_context (get_or xs i d)) xs) ≡ true
    more true e = refl
    more false e = e

-- those in the order are live
pub live_in_order : (k : Kept) (xs : List ContextId) (i : ℕ) (x d : ContextId) → xs ≡ contexts k.nodes → i < length xs → x ≡ get_or xs i d → is_held x k.nodes ≡ true
live_in_order k xs i x d order within is =
    held_among x k.nodes ∙ ap (λ (l : List ContextId). list_any (same_context x) l) (sym order) ∙ ap (λ (y : ContextId). list_any (same_context y) xs) is ∙ among xs i d within
