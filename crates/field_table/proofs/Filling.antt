-- Filling a list by the fields' numbers, one field after the other.
use Rattle.std.proofs.Common.{◌≡◌, ℕ, ◌+◌, ◌<◌, ◌≤◌, List, [], ◌∷◌, ◌++◌, length, get_or, set, map, take, drop, sym, ap, ◌∙◌, arith, append_assoc, refl}
use Rattle.std.proofs.lemmas.List.{map_more, drop_more, set_at, length-map, length-take-le, take_all, drop_all, append-nil}
use Rattle.field_table.specs.declared.field.Field.{Field}
use Rattle.field_table.specs.Field.{fields, number}
use Rattle.field_table.proofs.FieldSets.{number-at}

-- the first places filled, and the others as they were
abbrev pub filled : {A : Type 0} → (Field → A) → ℕ → List A → List A
filled h i xs = map h (take i fields) ++ drop i xs

module _ {A : Type 0} (h : Field → A) (i : ℕ) (d : Field) (e : A) (xs : List A) (within : i < length fields) (long : length xs ≡ length fields) where
  split_at : filled h i xs ≡ map h (take i fields) ++ (get_or xs i e ∷ drop (i + 1) xs)
  split_at = ap (λ (r : List A). map h (take i fields) ++ r) (drop_more xs i e (omega arith))

  one_more : filled h (i + 1) xs ≡ map h (take i fields) ++ (h (get_or fields i d) ∷ drop (i + 1) xs)
  one_more = ap (λ (r : List A). r ++ drop (i + 1) xs) (map_more h fields i d within) ∙ append_assoc (map h (take i fields)) (h (get_or fields i d) ∷ []) (drop (i + 1) xs)

  so_far : length (map h (take i fields)) ≡ i
  so_far = length-map (take i fields) h ∙ length-take-le i fields (omega arith)

  -- the next place is written
  pub filled_more : (old new : List A) (k : ℕ) (v : A) → old ≡ filled h i xs → new ≡ set old k v → k ≡ number (get_or fields i d) → v ≡ h (get_or fields i d) → new ≡ filled h (i + 1) xs
  filled_more old new k v before write at value =
      write
      ∙ ap (λ (n : ℕ). set old n v) (at ∙ number-at i d within)
      ∙ ap (λ (l : List A). set l i v) (before ∙ split_at)
      ∙ set_at (map h (take i fields)) (get_or xs i e) (drop (i + 1) xs) v i so_far
      ∙ ap (λ (x : A). map h (take i fields) ++ (x ∷ drop (i + 1) xs)) value
      ∙ sym one_more

  -- the next place has what it is to have
  pub filled_same : (old new : List A) → old ≡ filled h i xs → h (get_or fields i d) ≡ get_or xs (number (get_or fields i d)) e → new ≡ old → new ≡ filled h (i + 1) xs
  filled_same old new before has_it same =
      same ∙ before ∙ split_at
      ∙ ap (λ (x : A). map h (take i fields) ++ (x ∷ drop (i + 1) xs)) (sym (has_it ∙ ap (λ (n : ℕ). get_or xs n e) (number-at i d within)))
      ∙ sym one_more

-- two lists by the fields' numbers that have the same for each field
pub same_by_fields : {A : Type 0} (h g : Field → A) → ((f : Field) → h f ≡ g f) → map h fields ≡ map g fields
same_by_fields {A} h g same = by_items fields
  where
    by_items : (fs : List Field) → map h fs ≡ map g fs
    by_items [] = refl
    by_items (f ∷ fs) = ap (λ (x : A). x ∷ map h fs) (same f) ∙ ap (λ (xs : List A). g f ∷ xs) (by_items fs)

-- at the end
pub filled_all : {A : Type 0} (h : Field → A) (i : ℕ) (xs : List A) → length fields ≤ i → length xs ≡ length fields → filled h i xs ≡ map h fields
filled_all {A} h i xs past long =
    ap (λ (r : List A). map h (take i fields) ++ r) (drop_all i xs (omega arith))
    ∙ append-nil (map h (take i fields))
    ∙ ap (map h) (take_all i fields past)
