-- Lists: one that is written over another of its length, what filters leave, and what is put in.
use Rattle.std.proofs.Common.{◌≡◌, ℕ, suc, ◌+◌, ◌<◌, Bool, true, false, not, ◌||◌, cond, nat_lt, List, [], ◌∷◌, ◌++◌, length, map, filter, take, drop, refl, sym, ap, ap₂, ◌∙◌, arith, length-append}
use Rattle.std.specs.Prelude.{insert}
use Rattle.std.specs.List.{list_any}
use Rattle.std.proofs.lemmas.Bool.{lt-ltb}
use Rattle.std.proofs.Math.Seq.{take-append_seam}
use Rattle.std.proofs.lemmas.List.{map-append, take-map, take-append-drop}
use Rattle.std.proofs.lemmas.List.Elements.{filter-append}
use Rattle.context_tree.proofs.Spans.{drop_of_map}
use Rattle.fission_ids.specs.declared.context.ContextId.{ContextId}
use Rattle.fission_ids.specs.Ids.{same_context}
use Rattle.context_tree.proofs.Same.{same_itself}

-- a list that is written over one of its own length
pub written_over : {A : Type 0} (n : ℕ) (xs ys : List A) → length xs ≡ n → take n (xs ++ ys) ≡ xs
written_over n xs ys len = ap (λ m. take m (xs ++ ys)) (sym len) ∙ take-append_seam xs ys

-- what is put in is mapped with the rest
pub map_insert : {A B : Type 0} (f : A → B) (xs : List A) (k : ℕ) (x : A) → map f (insert xs k x) ≡ insert (map f xs) k (f x)
map_insert f xs k x =
    map-append f (take k xs) (x ∷ drop k xs)
    ∙ ap₂ (λ l m. l ++ f x ∷ m) (sym (take-map f k xs)) (sym (drop_of_map f k xs))

module _ {A : Type 0} (p : A → Bool) where
  -- how many pass
  abbrev pub passing : List A → ℕ
  passing xs = length (filter p xs)

  passing_both : (xs ys : List A) → passing (xs ++ ys) ≡ passing xs + passing ys
  passing_both xs ys = ap length (filter-append p xs ys) ∙ length-append (filter p xs) (filter p ys)

  -- how many pass of what one was put into
  pub passing_insert : (xs : List A) (k : ℕ) (x : A) → passing (insert xs k x) ≡ passing (x ∷ []) + passing xs
  passing_insert xs k x =
      let whole : passing (take k xs ++ x ∷ drop k xs) ≡ passing (take k xs) + passing (x ∷ drop k xs) = passing_both (take k xs) (x ∷ drop k xs) in
      let here : passing (x ∷ drop k xs) ≡ passing (x ∷ []) + passing (drop k xs) = passing_both (x ∷ []) (drop k xs) in
      let parts : passing xs ≡ passing (take k xs) + passing (drop k xs) = ap passing (sym (take-append-drop k xs)) ∙ passing_both (take k xs) (drop k xs) in
      omega (arith, whole, here, parts)

  some : (n : ℕ) → nat_lt 0 (suc n) ≡ true
  some n = let lt : 0 < suc n = omega arith in lt-ltb 0 (suc n) lt

  -- whether any passes
  pub any_passing : (xs : List A) → nat_lt 0 (passing xs) ≡ list_any p xs
  any_passing [] = refl
  any_passing (x ∷ xs) = by (p x) (any_passing xs)
    where
      by : (b : Bool) → nat_lt 0 (passing xs) ≡ list_any p xs → nat_lt 0 (length (cond b (x ∷ filter p xs) (filter p xs))) ≡ (b || list_any p xs)
      by true e = some (length (filter p xs))
      by false e = e

  -- those that pass are parted by another test
  pub passing_parted : (q : A → Bool) (xs : List A) → passing (filter q xs) + passing (filter (λ x. not (q x)) xs) ≡ passing xs
  passing_parted q [] = refl
  passing_parted q (x ∷ xs) = by (q x) (p x) (passing_parted q xs)
    where
      rest : List A
      rest = filter p xs

      by : (b c : Bool) → passing (filter q xs) + passing (filter (λ x. not (q x)) xs) ≡ passing xs
          → passing (cond b (x ∷ filter q xs) (filter q xs)) + passing (cond (not b) (x ∷ filter (λ x. not (q x)) xs) (filter (λ x. not (q x)) xs)) ≡ passing (x ∷ xs)
      by true c e = at (p x)
        where
          at : (d : Bool) → length (cond d (x ∷ filter p (filter q xs)) (filter p (filter q xs))) + passing (filter (λ x. not (q x)) xs) ≡ length (cond d (x ∷ filter p xs) (filter p xs))
          at true = omega (arith, e)
          at false = e
      by false c e = at (p x)
        where
          at : (d : Bool) → passing (filter q xs) + length (cond d (x ∷ filter p (filter (λ x. not (q x)) xs)) (filter p (filter (λ x. not (q x)) xs))) ≡ length (cond d (x ∷ filter p xs) (filter p xs))
          at true = omega (arith, e)
          at false = e

-- tests that agree on a list leave the same of it
pub filter_agree : (p q : ContextId → Bool) (xs : List ContextId) → ((x : ContextId) → list_any (same_context x) xs ≡ true → p x ≡ q x) → filter p xs ≡ filter q xs
filter_agree p q [] same = refl
filter_agree p q (x ∷ xs) same =
    let here : p x ≡ q x = same x (ap (λ b. b || list_any (same_context x) xs) (same_itself x)) in
    let rest : filter p xs ≡ filter q xs = filter_agree p q xs (λ y among. same y (or_true (same_context y x) among)) in
    ap₂ (λ b l. cond b (x ∷ l) l) here rest
  where
    or_true : (b : Bool) {c : Bool} → c ≡ true → (b || c) ≡ true
    or_true true e = refl
    or_true false e = e

-- tests that hold on all of a list leave all of it
pub filter_all : (p : ContextId → Bool) (xs : List ContextId) → ((x : ContextId) → list_any (same_context x) xs ≡ true → p x ≡ true) → filter p xs ≡ xs
filter_all p xs all = filter_agree p (λ x. true) xs all ∙ whole xs
  where
    whole : (xs : List ContextId) → filter (λ x. true) xs ≡ xs
    whole [] = refl
    whole (x ∷ xs) = ap (λ l. x ∷ l) (whole xs)

-- tests that fail on all of a list leave none of it
pub filter_none_of : (p : ContextId → Bool) (xs : List ContextId) → ((x : ContextId) → list_any (same_context x) xs ≡ true → p x ≡ false) → filter p xs ≡ []
filter_none_of p xs none = filter_agree p (λ x. false) xs none ∙ nothing xs
  where
    nothing : (xs : List ContextId) → filter (λ x. false) xs ≡ []
    nothing [] = refl
    nothing (x ∷ xs) = nothing xs
