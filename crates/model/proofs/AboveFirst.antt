-- In pre-order each context stands behind the one that it is below.
use Rattle.std.proofs.Common.{◌≡◌, ◌⊎◌, inl, inr, Bool, true, false, ◌&&◌, ◌||◌, Some, List, [], ◌∷◌, drop, filter, refl, ap, sym, ◌∙◌, cond}
use Rattle.std.specs.List.{IsDistinct, list_any}
use Rattle.fission_ids.specs.declared.context.ContextId.{ContextId}
use Rattle.fission_ids.specs.Ids.{same_context}
use Rattle.context_tree.specs.Tree.{Hangs}
use Rattle.context_tree.proofs.Distinct.{distinct_head, distinct_tail}
use Rattle.context_tree.proofs.Lists.{any_in_end, ends_with_places}
use Rattle.model.specs.Lines.{Making, line, above_in, is_among}
use Rattle.model.proofs.Cases.{true_false}
use Rattle.model.proofs.Lining.{Lined}
use Rattle.model.proofs.Living.{among_itself, among_either}
use Rattle.model.proofs.Preorder.{Preorder, each_once, nodes, among_filtered, line_first}

-- each stands once, and what it is below doesn't stand behind it
abbrev pub AboveFirst : List Making → List ContextId → Type 0
AboveFirst mk [] = Unit {0}
AboveFirst mk (x ∷ xs) = (list_any (same_context x) xs ≡ false) × ((a : ContextId) → above_in mk x ≡ Some a → list_any (same_context a) xs ≡ false) × AboveFirst mk xs

module _ (mk : List Making) (l : Lined mk) where
  abbrev upper : ContextId → List ContextId
  upper x = drop 1 (line x mk)

  above_among : (x a : ContextId) → above_in mk x ≡ Some a → is_among a (drop 1 (line x mk)) ≡ true
  above_among x a up = ap (is_among a) (ap (drop 1) (l.line_step x a up) ∙ sym (line_first mk a)) ∙ among_itself a (upper a)

  record Lies (before xs : List ContextId) : Type 0 where
    hangs : Hangs before (nodes mk xs)
    distinct : IsDistinct same_context xs
    fresh : (z : ContextId) → is_among z before ≡ true → list_any (same_context z) xs ≡ false

  in_before : (before : List ContextId) (x : ContextId) (xs : List ContextId) → Hangs before (nodes mk (x ∷ xs)) → (z : ContextId) → is_among z (drop 1 (line x mk)) ≡ true → is_among z before ≡ true
  in_before before x xs hangs z e = by_test (is_among z before) refl
    where
      by_test : (b : Bool) → is_among z before ≡ b → is_among z before ≡ true
      by_test true is = is
      by_test false isnt = true_false (is_among z (upper x)) e (any_in_end (same_context z) before (upper x) (ends_with_places before (upper x) _ hangs.0) isnt)

  second : (u v : Bool) → (u || v) ≡ false → v ≡ false
  second true v e = absurd cc
  second false v e = e

  lies_on : (before : List ContextId) (x : ContextId) (xs : List ContextId) → Lies before (x ∷ xs) → Lies (x ∷ drop 1 (line x mk)) xs
  lies_on before x xs b = record {
    hangs = b.hangs.1;
    distinct = distinct_tail x xs b.distinct;
    fresh = λ z e. by_either z (among_either z x (upper x) e);
  }
    where
      by_either : (z : ContextId) → (z ≡ x) ⊎ (is_among z (drop 1 (line x mk)) ≡ true) → list_any (same_context z) xs ≡ false
      by_either z (inl is) = ap (λ v. list_any (same_context v) xs) is ∙ distinct_head x xs b.distinct
      by_either z (inr e) = second (same_context z x) (list_any (same_context z) xs) (b.fresh z (in_before before x xs b.hangs z e))

  all_first : (before xs : List ContextId) → Lies before xs → AboveFirst mk xs
  all_first before [] b = tt
  all_first before (x ∷ xs) b = (
    distinct_head x xs b.distinct,
    (λ a up. second (same_context a x) (list_any (same_context a) xs) (b.fresh a (in_before before x xs b.hangs a (above_among x a up)))),
    all_first (x ∷ upper x) xs (lies_on before x xs b),
  )

  pub above_first : (xs : List ContextId) (is_there : ContextId → Bool) → Preorder mk xs is_there → AboveFirst mk xs
  above_first xs is_there o = all_first [] xs (record { hangs = o.tree.hangs; distinct = each_once mk xs is_there o; fresh = λ z e. absurd cc })

-- so it is of those that are kept
pub first_kept : (mk : List Making) (p : ContextId → Bool) (xs : List ContextId) → AboveFirst mk xs → AboveFirst mk (filter p xs)
first_kept mk p [] first = tt
first_kept mk p (x ∷ xs) first = by_test (p x) (first_kept mk p xs first.2)
  where
    still : (z : ContextId) → list_any (same_context z) xs ≡ false → list_any (same_context z) (filter p xs) ≡ false
    still z e = among_filtered p z xs ∙ ap (λ b. b && p z) e

    by_test : (b : Bool) → AboveFirst mk (filter p xs) → AboveFirst mk (cond b (x ∷ filter p xs) (filter p xs))
    by_test true rest = (still x first.0, (λ a up. still a (first.1 a up)), rest)
    by_test false rest = rest
