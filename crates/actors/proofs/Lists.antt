-- Lists out of which the items are taken that pass a test.
use Rattle.std.proofs.Common.{◌≡◌, ◌∙◌, refl, ap, ℕ, ◌+◌, ◌≤◌, Bool, true, false, cond, not, ◌&&◌, List, [], ◌∷◌, ◌++◌, filter, map, None, Some, arith}
use Rattle.std.specs.Prelude.{find}
use Rattle.std.specs.List.{count_by}
use Rattle.std.proofs.lemmas.List.Sums.{sum_by-cons}

-- a value that passes a test counts one
abbrev pub one_if : Bool → ℕ
one_if b = cond b 1 0

pub no_truth : false ≡ true → ⊥
no_truth h = cc

module _ {X : Type 0} where
  -- how many pass, the first item by itself
  count_cons : (t : X → Bool) (x : X) (xs : List X) → count_by t (x ∷ xs) ≡ one_if (t x) + count_by t xs
  count_cons t x xs = sum_by-cons (λ y. one_if (t y)) x xs

  pub count_push : (t : X → Bool) (xs : List X) (y : X) → count_by t (xs ++ y ∷ []) ≡ count_by t xs + one_if (t y)
  count_push t [] y = omega arith
  count_push t (x ∷ xs) y = omega (arith, count_push t xs y, count_cons t x (xs ++ y ∷ []), count_cons t x xs)

  -- where nothing is found, nothing passes
  pub none_counted : (t : X → Bool) (xs : List X) → find t xs ≡ None → count_by t xs ≡ 0
  none_counted t [] e = refl
  none_counted t (x ∷ xs) e = count_cons t x xs ∙ by (t x) e (none_counted t xs)
    where
      by : (b : Bool) → cond b (Some x) (find t xs) ≡ None → (find t xs ≡ None → count_by t xs ≡ 0) → one_if b + count_by t xs ≡ 0
      by true e rest = absurd (cc)
      by false e rest = omega (arith, rest e)

  -- where nothing is found, nothing is taken out
  pub none_taken : (t : X → Bool) (xs : List X) → find t xs ≡ None → filter (λ x. not (t x)) xs ≡ xs
  none_taken t [] e = refl
  none_taken t (x ∷ xs) e = by (t x) e (none_taken t xs)
    where
      by : (b : Bool) → cond b (Some x) (find t xs) ≡ None → (find t xs ≡ None → filter (λ x. not (t x)) xs ≡ xs)
          → cond (not b) (x ∷ filter (λ x. not (t x)) xs) (filter (λ x. not (t x)) xs) ≡ x ∷ xs
      by true e rest = absurd (cc)
      by false e rest = ap (λ l. x ∷ l) (rest e)

  -- as many pass as before, or fewer
  pub count_left : (t u : X → Bool) (xs : List X) → count_by t (filter u xs) ≤ count_by t xs
  count_left t u [] = omega arith
  count_left t u (x ∷ xs) = by (u x) (count_left t u xs)
    where
      by : (b : Bool) → count_by t (filter u xs) ≤ count_by t xs → count_by t (cond b (x ∷ filter u xs) (filter u xs)) ≤ count_by t (x ∷ xs)
      by true rest = omega (arith, rest, count_cons t x (filter u xs), count_cons t x xs)
      by false rest = omega (arith, rest, count_cons t x xs)

  -- none that is left passes
  pub none_left : (t : X → Bool) (xs : List X) → count_by t (filter (λ x. not (t x)) xs) ≡ 0
  none_left t [] = refl
  none_left t (x ∷ xs) = by (t x) refl (none_left t xs)
    where
      by : (b : Bool) → t x ≡ b → count_by t (filter (λ x. not (t x)) xs) ≡ 0
          → count_by t (cond (not b) (x ∷ filter (λ x. not (t x)) xs) (filter (λ x. not (t x)) xs)) ≡ 0
      by true e rest = rest
      by false e rest = omega (arith, rest, ap one_if e, count_cons t x (filter (λ x. not (t x)) xs))

  -- what is found among those that are left
  pub find_left : (t u : X → Bool) (xs : List X) → find t (filter u xs) ≡ find (λ x. u x && t x) xs
  find_left t u [] = refl
  find_left t u (x ∷ xs) = by (u x) (find_left t u xs)
    where
      by : (b : Bool) → find t (filter u xs) ≡ find (λ x. u x && t x) xs
          → find t (cond b (x ∷ filter u xs) (filter u xs)) ≡ cond (b && t x) (Some x) (find (λ x. u x && t x) xs)
      by true rest = ap (cond (t x) (Some x)) rest
      by false rest = rest

  -- tests that agree on each item
  pub find_same : (t u : X → Bool) → ((x : X) → t x ≡ u x) → (xs : List X) → find t xs ≡ find u xs
  find_same t u same [] = refl
  find_same t u same (x ∷ xs) = ap (λ b. cond b (Some x) (find t xs)) (same x) ∙ ap (cond (u x) (Some x)) (find_same t u same xs)

  -- where no item passes, nothing is found
  pub never_found : (t : X → Bool) → ((x : X) → t x ≡ false) → (xs : List X) → find t xs ≡ None
  never_found t never [] = refl
  never_found t never (x ∷ xs) = ap (λ b. cond b (Some x) (find t xs)) (never x) ∙ never_found t never xs

  -- where no changed item passes, none does among the changed
  pub none_changed : (t : X → Bool) (f : X → X) → ((x : X) → t (f x) ≡ false) → (xs : List X) → count_by t (map f xs) ≡ 0
  none_changed t f never [] = refl
  none_changed t f never (x ∷ xs) = omega (arith, ap one_if (never x), none_changed t f never xs, count_cons t (f x) (map f xs))
