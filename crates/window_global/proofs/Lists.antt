-- Lists in which at most one item passes a test: what is found, how many pass, and what a change of those that pass leaves.
use Rattle.std.proofs.Common.{◌≡◌, ◌∙◌, refl, sym, ap, subst, ℕ, ◌+◌, ◌≤◌, Bool, true, false, cond, not, ◌&&◌, List, [], ◌∷◌, ◌++◌, map, Option, None, Some, arith}
use Rattle.std.specs.Prelude.{find}
use Rattle.std.specs.List.{count_by}
use Rattle.std.specs.Option.{option_map}
use Rattle.std.proofs.lemmas.List.Sums.{sum_by-cons}

-- a value that passes a test counts one
abbrev pub one_if : Bool → ℕ
one_if b = cond b 1 0

pub no_truth : false ≡ true → ⊥
no_truth h = cc

module _ {X : Type 0} where
  pub same_some : (y z : X) → Some y ≡ Some z → y ≡ z
  same_some y z e = cc

  -- how many pass, the first item by itself
  count_cons : (t : X → Bool) (x : X) (xs : List X) → count_by t (x ∷ xs) ≡ one_if (t x) + count_by t xs
  count_cons t x xs = sum_by-cons (λ y. one_if (t y)) x xs

  pub at_most : (t : X → Bool) (x : X) (xs : List X) (k : ℕ) → count_by t (x ∷ xs) ≤ k → one_if (t x) + count_by t xs ≤ k
  at_most t x xs k few = omega (arith, few, count_cons t x xs)

  -- the first of these
  abbrev pub first_of : Option X → Option X → Option X
  first_of None o = o
  first_of (Some x) o = Some x

  -- what is found behind the rest
  pub find_push : (t : X → Bool) (xs : List X) (y : X) → find t (xs ++ y ∷ []) ≡ first_of (find t xs) (cond (t y) (Some y) None)
  find_push t [] y = refl
  find_push t (x ∷ xs) y = by (t x) (find_push t xs y)
    where
      by : (b : Bool) → find t (xs ++ y ∷ []) ≡ first_of (find t xs) (cond (t y) (Some y) None)
          → cond b (Some x) (find t (xs ++ y ∷ [])) ≡ first_of (cond b (Some x) (find t xs)) (cond (t y) (Some y) None)
      by true rest = refl
      by false rest = rest

  pub count_push : (t : X → Bool) (xs : List X) (y : X) → count_by t (xs ++ y ∷ []) ≡ count_by t xs + one_if (t y)
  count_push t [] y = omega arith
  count_push t (x ∷ xs) y = omega (arith, count_push t xs y, count_cons t x (xs ++ y ∷ []), count_cons t x xs)

  -- who is found passes
  pub found_passes : (t : X → Bool) (xs : List X) (r : X) → find t xs ≡ Some r → t r ≡ true
  found_passes t [] r e = absurd (cc)
  found_passes t (x ∷ xs) r e = by (t x) refl e (found_passes t xs r)
    where
      by : (b : Bool) → t x ≡ b → cond b (Some x) (find t xs) ≡ Some r → (find t xs ≡ Some r → t r ≡ true) → t r ≡ true
      by true here e rest = subst (λ y. t y ≡ true) (same_some x r e) here
      by false here e rest = rest e

  -- and counts
  pub found_counts : (t u : X → Bool) (xs : List X) (r : X) → find t xs ≡ Some r → u r ≡ true → 1 ≤ count_by u xs
  found_counts t u [] r e passes = absurd (cc)
  found_counts t u (x ∷ xs) r e passes =
      subst (λ n. 1 ≤ n) (sym (count_cons u x xs)) (by (t x) (u x) refl refl e (λ e. found_counts t u xs r e passes))
    where
      by : (b c : Bool) → t x ≡ b → u x ≡ c → cond b (Some x) (find t xs) ≡ Some r → (find t xs ≡ Some r → 1 ≤ count_by u xs) → 1 ≤ one_if c + count_by u xs
      by true true here there e rest = omega arith
      by false true here there e rest = omega arith
      by true false here there e rest = absurd (no_truth (sym there ∙ ap u (same_some x r e) ∙ passes))
      by false false here there e rest = omega (arith, rest e)

  -- where nothing passes, nothing is found
  pub none_found : (t : X → Bool) (xs : List X) → count_by t xs ≤ 0 → find t xs ≡ None
  none_found t [] few = refl
  none_found t (x ∷ xs) few = by (t x) (at_most t x xs 0 few) (none_found t xs)
    where
      by : (b : Bool) → one_if b + count_by t xs ≤ 0 → (count_by t xs ≤ 0 → find t xs ≡ None) → cond b (Some x) (find t xs) ≡ None
      by true few rest = absurd (omega (arith, few))
      by false few rest = rest (omega (arith, few))

  -- and where nothing is found, nothing passes
  pub none_counted : (t : X → Bool) (xs : List X) → find t xs ≡ None → count_by t xs ≡ 0
  none_counted t [] e = refl
  none_counted t (x ∷ xs) e = count_cons t x xs ∙ by (t x) e (none_counted t xs)
    where
      by : (b : Bool) → cond b (Some x) (find t xs) ≡ None → (find t xs ≡ None → count_by t xs ≡ 0) → one_if b + count_by t xs ≡ 0
      by true e rest = absurd (cc)
      by false e rest = omega (arith, rest e)

  -- where no item passes, nothing is found
  pub never_found : (t : X → Bool) → ((x : X) → t x ≡ false) → (xs : List X) → find t xs ≡ None
  never_found t never [] = refl
  never_found t never (x ∷ xs) = ap (λ b. cond b (Some x) (find t xs)) (never x) ∙ never_found t never xs

  -- the only one that passes a test is the one that is found by another
  pub find_only : (t u : X → Bool) (xs : List X) (r : X) → count_by t xs ≤ 1 → find u xs ≡ Some r → t r ≡ true → find t xs ≡ Some r
  find_only t u [] r few e passes = absurd (cc)
  find_only t u (x ∷ xs) r few e passes = by (t x) (u x) refl refl (at_most t x xs 1 few) e (λ f g. find_only t u xs r f g passes)
    where
      by : (b c : Bool) → t x ≡ b → u x ≡ c → one_if b + count_by t xs ≤ 1 → cond c (Some x) (find u xs) ≡ Some r
          → (count_by t xs ≤ 1 → find u xs ≡ Some r → find t xs ≡ Some r) → cond b (Some x) (find t xs) ≡ Some r
      by true true here there few e rest = e
      by true false here there few e rest = absurd (omega (arith, few, found_counts u t xs r e passes))
      by false true here there few e rest = absurd (no_truth (sym here ∙ ap t (same_some x r e) ∙ passes))
      by false false here there few e rest = rest (omega (arith, few)) e

  -- tests that agree on each item
  pub find_same : (t u : X → Bool) → ((x : X) → t x ≡ u x) → (xs : List X) → find t xs ≡ find u xs
  find_same t u same [] = refl
  find_same t u same (x ∷ xs) = ap (λ b. cond b (Some x) (find t xs)) (same x) ∙ ap (cond (u x) (Some x)) (find_same t u same xs)

  pub count_same : (t u : X → Bool) → ((x : X) → t x ≡ u x) → (xs : List X) → count_by t xs ≡ count_by u xs
  count_same t u same [] = refl
  count_same t u same (x ∷ xs) =
      omega (arith, ap one_if (same x), count_same t u same xs, count_cons t x xs, count_cons u x xs)

  -- fewer pass a stronger test
  pub count_fewer : (t u : X → Bool) → ((x : X) → t x ≡ true → u x ≡ true) → (xs : List X) → count_by t xs ≤ count_by u xs
  count_fewer t u weaker [] = omega arith
  count_fewer t u weaker (x ∷ xs) =
      omega (arith, by (t x) (u x) (weaker x), count_fewer t u weaker xs, count_cons t x xs, count_cons u x xs)
    where
      by : (b c : Bool) → (b ≡ true → c ≡ true) → one_if b ≤ one_if c
      by true c h = omega (arith, ap one_if (h refl))
      by false c h = omega arith

  -- where none passes t, those that don't pass it are all
  pub find_others : (t u : X → Bool) (xs : List X) → count_by t xs ≤ 0 → find (λ x. not (t x) && u x) xs ≡ find u xs
  find_others t u [] few = refl
  find_others t u (x ∷ xs) few = by (t x) (at_most t x xs 0 few) (find_others t u xs)
    where
      by : (b : Bool) → one_if b + count_by t xs ≤ 0 → (count_by t xs ≤ 0 → find (λ x. not (t x) && u x) xs ≡ find u xs)
          → cond (not b && u x) (Some x) (find (λ x. not (t x) && u x) xs) ≡ cond (u x) (Some x) (find u xs)
      by true few rest = absurd (omega (arith, few))
      by false few rest = ap (cond (u x) (Some x)) (rest (omega (arith, few)))

  -- where the only one that passes t doesn't pass u
  pub find_beside : (t u : X → Bool) (xs : List X) (r : X) → count_by t xs ≤ 1 → find t xs ≡ Some r → u r ≡ false
      → find (λ x. not (t x) && u x) xs ≡ find u xs
  find_beside t u [] r few e fails = refl
  find_beside t u (x ∷ xs) r few e fails = by (t x) (u x) refl refl (at_most t x xs 1 few) e (λ f g. find_beside t u xs r f g fails)
    where
      by : (b c : Bool) → t x ≡ b → u x ≡ c → one_if b + count_by t xs ≤ 1 → cond b (Some x) (find t xs) ≡ Some r
          → (count_by t xs ≤ 1 → find t xs ≡ Some r → find (λ x. not (t x) && u x) xs ≡ find u xs)
          → cond (not b && c) (Some x) (find (λ x. not (t x) && u x) xs) ≡ cond c (Some x) (find u xs)
      by true true here there few e rest = absurd (no_truth (sym fails ∙ ap u (sym (same_some x r e)) ∙ there))
      by true false here there few e rest = find_others t u xs (omega (arith, few))
      by false c here there few e rest = ap (cond c (Some x)) (rest (omega (arith, few)) e)

  -- where the only one that passes t is the only one that passes u
  pub find_neither : (t u : X → Bool) (xs : List X) (r : X) → count_by t xs ≤ 1 → count_by u xs ≤ 1 → find t xs ≡ Some r → u r ≡ true
      → find (λ x. not (t x) && u x) xs ≡ None
  find_neither t u [] r few one e passes = refl
  find_neither t u (x ∷ xs) r few one e passes = by (t x) (u x) refl refl (at_most t x xs 1 few) (at_most u x xs 1 one) e (λ f g h. find_neither t u xs r f g h passes)
    where
      by : (b c : Bool) → t x ≡ b → u x ≡ c → one_if b + count_by t xs ≤ 1 → one_if c + count_by u xs ≤ 1 → cond b (Some x) (find t xs) ≡ Some r
          → (count_by t xs ≤ 1 → count_by u xs ≤ 1 → find t xs ≡ Some r → find (λ x. not (t x) && u x) xs ≡ None)
          → cond (not b && c) (Some x) (find (λ x. not (t x) && u x) xs) ≡ None
      by true true here there few one e rest = find_others t u xs (omega (arith, few)) ∙ none_found u xs (omega (arith, one))
      by true false here there few one e rest = absurd (no_truth (sym there ∙ ap u (same_some x r e) ∙ passes))
      by false true here there few one e rest = absurd (omega (arith, one, found_counts t u xs r e passes))
      by false false here there few one e rest = rest (omega (arith, few)) (omega (arith, one)) e

  -- a change of those that pass
  abbrev pub changed : (X → Bool) → (X → X) → List X → List X
  changed t f xs = map (λ x. cond (t x) (f x) x) xs

  pub none_changed : (t : X → Bool) (f : X → X) (xs : List X) → count_by t xs ≤ 0 → changed t f xs ≡ xs
  none_changed t f [] few = refl
  none_changed t f (x ∷ xs) few = by (t x) (at_most t x xs 0 few) (none_changed t f xs)
    where
      by : (b : Bool) → one_if b + count_by t xs ≤ 0 → (count_by t xs ≤ 0 → changed t f xs ≡ xs) → cond b (f x) x ∷ changed t f xs ≡ x ∷ xs
      by true few rest = absurd (omega (arith, few))
      by false few rest = ap (λ l. x ∷ l) (rest (omega (arith, few)))

  -- the only one that passes t is the only one that passes u
  pub changed_same : (t u : X → Bool) (f : X → X) (xs : List X) (r : X) → count_by t xs ≤ 1 → count_by u xs ≤ 1 → find u xs ≡ Some r → t r ≡ true
      → changed t f xs ≡ changed u f xs
  changed_same t u f [] r few one e passes = refl
  changed_same t u f (x ∷ xs) r few one e passes = by (t x) (u x) refl refl (at_most t x xs 1 few) (at_most u x xs 1 one) e (λ a b c. changed_same t u f xs r a b c passes)
    where
      by : (b c : Bool) → t x ≡ b → u x ≡ c → one_if b + count_by t xs ≤ 1 → one_if c + count_by u xs ≤ 1 → cond c (Some x) (find u xs) ≡ Some r
          → (count_by t xs ≤ 1 → count_by u xs ≤ 1 → find u xs ≡ Some r → changed t f xs ≡ changed u f xs)
          → cond b (f x) x ∷ changed t f xs ≡ cond c (f x) x ∷ changed u f xs
      by true true here there few one e rest = ap (λ l. f x ∷ l) (none_changed t f xs (omega (arith, few)) ∙ sym (none_changed u f xs (omega (arith, one))))
      by false true here there few one e rest = absurd (no_truth (sym here ∙ ap t (same_some x r e) ∙ passes))
      by true false here there few one e rest = absurd (omega (arith, few, found_counts u t xs r e passes))
      by false false here there few one e rest = ap (λ l. x ∷ l) (rest (omega (arith, few)) (omega (arith, one)) e)

  -- a change that leaves the only one that passes
  pub changed_nothing : (t : X → Bool) (f : X → X) (xs : List X) (r : X) → count_by t xs ≤ 1 → find t xs ≡ Some r → f r ≡ r → changed t f xs ≡ xs
  changed_nothing t f [] r few e stays = refl
  changed_nothing t f (x ∷ xs) r few e stays = by (t x) (at_most t x xs 1 few) e (λ a b. changed_nothing t f xs r a b stays)
    where
      by : (b : Bool) → one_if b + count_by t xs ≤ 1 → cond b (Some x) (find t xs) ≡ Some r → (count_by t xs ≤ 1 → find t xs ≡ Some r → changed t f xs ≡ xs)
          → cond b (f x) x ∷ changed t f xs ≡ x ∷ xs
      by true few e rest =
          let is = same_some x r e in
          ap (λ l. f x ∷ l) (none_changed t f xs (omega (arith, few))) ∙ ap (λ y. y ∷ xs) (ap f is ∙ stays ∙ sym is)
      by false few e rest = ap (λ l. x ∷ l) (rest (omega (arith, few)) e)

  -- what is found among the changed ones, and how many pass
  pub find_changed : (t u : X → Bool) (f : X → X) → ((x : X) → t (f x) ≡ u x) → (xs : List X) → find t (map f xs) ≡ option_map f (find u xs)
  find_changed t u f same [] = refl
  find_changed t u f same (x ∷ xs) = ap (λ b. cond b (Some (f x)) (find t (map f xs))) (same x) ∙ by (u x) (find_changed t u f same xs)
    where
      by : (b : Bool) → find t (map f xs) ≡ option_map f (find u xs) → cond b (Some (f x)) (find t (map f xs)) ≡ option_map f (cond b (Some x) (find u xs))
      by true rest = refl
      by false rest = rest

  pub count_changed : (t u : X → Bool) (f : X → X) → ((x : X) → t (f x) ≡ u x) → (xs : List X) → count_by t (map f xs) ≡ count_by u xs
  count_changed t u f same [] = refl
  count_changed t u f same (x ∷ xs) =
      omega (arith, ap one_if (same x), count_changed t u f same xs, count_cons t (f x) (map f xs), count_cons u x xs)
