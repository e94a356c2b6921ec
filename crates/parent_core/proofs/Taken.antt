-- The fields of the contexts, of which some are taken away one after the other.
use Rattle.std.proofs.Common.{◌≡◌, ℕ, ◌+◌, ◌<◌, Bool, true, false, ◌||◌, cond, if◌then◌else◌, Option, None, List, [], ◌∷◌, length, take, refl, sym, ap, ◌∙◌}
use Rattle.std.specs.FinMap.{get, remove, get-remove}
use Rattle.std.specs.Prelude.{slice_index_or}
use Rattle.std.specs.List.{list_any}
use Rattle.std.proofs.lemmas.List.{take_more}
use Rattle.std.proofs.lemmas.List.Folds.{list_any-append}
use Rattle.fission_ids.specs.declared.context.ContextId.{ContextId}
use Rattle.fission_ids.specs.Ids.{same_context}
use Rattle.context_store.specs.Content.{Content, Stored}
use Rattle.context_store.proofs.Contexts.{context_order_total, same_context-tied}

-- new is old without the first i of these
abbrev pub WithoutFirst : ℕ → List ContextId → Content → Content → Type 0
WithoutFirst i xs old new = (y : ContextId) → get new y ≡ (if list_any (same_context y) (take i xs) then None else get old y)

pub without_none : (xs : List ContextId) (m : Content) → WithoutFirst 0 xs m m
without_none xs m y = refl

pub without_next : (i : ℕ) (xs : List ContextId) (old new next : Content) → i < length xs → next ≡ remove new (slice_index_or xs i (record { creator = 0; serial = 0 }))
    → WithoutFirst i xs old new → WithoutFirst (i + 1) xs old next
without_next i xs old new next within is so_far y =
    let x : ContextId = slice_index_or xs i (record { creator = 0; serial = 0 }) in
    ap (λ (m : Content). get m y) is
    ∙ get-remove context_order_total new x y
    ∙ ap (λ b. cond b None (get new y)) (sym (same_context-tied y x))
    ∙ ap (λ (o : Option Stored). cond (same_context y x) None o) (so_far y)
    ∙ either (same_context y x) (list_any (same_context y) (take i xs))
    ∙ ap (λ b. if b then None else get old y) (sym (list_any-append (same_context y) (take i xs) (x ∷ [])))
    ∙ ap (λ (l : List ContextId). if list_any (same_context y) l then None else get old y) (sym (take_more xs i (record { creator = 0; serial = 0 }) within))
  where
    either : (b c : Bool) → cond b None (if c then None else get old y) ≡ (if c || (b || false) then None else get old y)
    either true true = refl
    either true false = refl
    either false true = refl
    either false false = refl
