-- Lists that end with others, and filters that keep all or nothing.
use Rattle.std.proofs.Common.{◌≡◌, ℕ, suc, ◌+◌, ◌-◌, ◌≤◌, Bool, true, false, not, ◌||◌, ◌&&◌, cond, List, [], ◌∷◌, ◌++◌, length, take, drop, filter, refl, sym, ap, ◌∙◌, arith, append_assoc, length-append}
use Rattle.std.specs.List.{list_any, list_all}
use Rattle.std.proofs.lemmas.List.{take-append-drop}
use Rattle.std.proofs.lemmas.List.Folds.{list_any-append}
use Rattle.std.proofs.Math.Seq.{drop-append_seam}

-- xs ends with ys
pub record EndsWith {X : Type 0} (xs ys : List X) : Type 0 where
  pub front : List X
  pub whole : xs ≡ front ++ ys

-- the end of an end
pub ends_through : {X : Type 0} {xs ys zs : List X} → EndsWith xs ys → EndsWith ys zs → EndsWith xs zs
ends_through {zs = zs} a b = record {
  front = a.front ++ b.front;
  whole = a.whole ∙ ap (λ l. a.front ++ l) b.whole ∙ sym (append_assoc a.front b.front zs);
}

-- an end is no longer
pub end_short : {X : Type 0} (xs ys : List X) → EndsWith xs ys → length ys ≤ length xs
end_short xs ys e =
    let n : length xs ≡ length e.front + length ys = ap length e.whole ∙ length-append e.front ys in omega (arith, n)

-- of two ends of a list, the shorter is an end of the longer
pub ends_nested : {X : Type 0} (a b xs ys : List X) → a ++ xs ≡ b ++ ys → length xs ≤ length ys → EndsWith ys xs
ends_nested [] [] xs ys e h = record { front = []; whole = sym e }
ends_nested [] (y ∷ b) xs ys e h =
    let n : length xs ≡ suc (length (b ++ ys)) = ap length e in
    absurd (omega (arith, n, length-append b ys, h))
ends_nested (z ∷ a) [] xs ys e h = record { front = z ∷ a; whole = sym e }
ends_nested (z ∷ a) (y ∷ b) xs ys e h = ends_nested a b xs ys (ap (drop 1) e) h

-- the last places of a list that ends with ys are ys
pub last_places : {X : Type 0} (xs ys : List X) → EndsWith xs ys → ys ≡ drop (length xs - length ys) xs
last_places xs ys e =
    let n : length xs ≡ length e.front + length ys = ap length e.whole ∙ length-append e.front ys in
    let d : length xs - length ys ≡ length e.front = omega (arith, n) in
    sym (ap (λ k. drop k xs) d ∙ ap (drop (length e.front)) e.whole ∙ drop-append_seam e.front ys)

-- and the other way round
pub ends_with_places : {X : Type 0} (xs ys : List X) (k : ℕ) → ys ≡ drop k xs → EndsWith xs ys
ends_with_places xs ys k e = record {
  front = take k xs;
  whole = sym (take-append-drop k xs) ∙ ap (λ l. take k xs ++ l) (sym e);
}

module _ {X : Type 0} (p : X → Bool) where
  -- what isn't in a list isn't in its end
  pub any_in_end : (xs ys : List X) → EndsWith xs ys → list_any p xs ≡ false → list_any p ys ≡ false
  any_in_end xs ys e h =
      let w : (list_any p e.front || list_any p ys) ≡ false =
      sym (list_any-append p e.front ys) ∙ sym (ap (list_any p) e.whole) ∙ h in
      by (list_any p e.front) (list_any p ys) w
    where
      by : (a b : Bool) → (a || b) ≡ false → b ≡ false
      by false b e = e
      by true b e = cc

  -- where none passes nothing is kept
  pub filter_none : (xs : List X) → list_any p xs ≡ false → filter p xs ≡ []
  filter_none [] h = refl
  filter_none (x ∷ xs) h = by (p x) refl h (filter_none xs)
    where
      by : (b : Bool) → p x ≡ b → (b || list_any p xs) ≡ false → (list_any p xs ≡ false → filter p xs ≡ [])
          → cond (p x) (x ∷ filter p xs) (filter p xs) ≡ []
      by true e h more = cc
      by false e h more = ap (λ b. cond b (x ∷ filter p xs) (filter p xs)) e ∙ more h

  pub filter_not_none : (xs : List X) → list_any p xs ≡ false → filter (λ x. not (p x)) xs ≡ xs
  filter_not_none [] h = refl
  filter_not_none (x ∷ xs) h = by (p x) refl h (filter_not_none xs)
    where
      by : (b : Bool) → p x ≡ b → (b || list_any p xs) ≡ false → (list_any p xs ≡ false → filter (λ x. not (p x)) xs ≡ xs)
          → cond (not (p x)) (x ∷ filter (λ x. not (p x)) xs) (filter (λ x. not (p x)) xs) ≡ x ∷ xs
      by true e h more = cc
      by false e h more =
          ap (λ b. cond (not b) (x ∷ filter (λ x. not (p x)) xs) (filter (λ x. not (p x)) xs)) e ∙ ap (λ l. x ∷ l) (more h)

  -- where all pass all are kept
  pub filter_whole : (xs : List X) → list_all p xs ≡ true → filter p xs ≡ xs
  filter_whole [] h = refl
  filter_whole (x ∷ xs) h = by (p x) refl h (filter_whole xs)
    where
      by : (b : Bool) → p x ≡ b → (b && list_all p xs) ≡ true → (list_all p xs ≡ true → filter p xs ≡ xs)
          → cond (p x) (x ∷ filter p xs) (filter p xs) ≡ x ∷ xs
      by false e h more = cc
      by true e h more = ap (λ b. cond b (x ∷ filter p xs) (filter p xs)) e ∙ ap (λ l. x ∷ l) (more h)

  pub filter_not_whole : (xs : List X) → list_all p xs ≡ true → filter (λ x. not (p x)) xs ≡ []
  filter_not_whole [] h = refl
  filter_not_whole (x ∷ xs) h = by (p x) refl h (filter_not_whole xs)
    where
      by : (b : Bool) → p x ≡ b → (b && list_all p xs) ≡ true → (list_all p xs ≡ true → filter (λ x. not (p x)) xs ≡ [])
          → cond (not (p x)) (x ∷ filter (λ x. not (p x)) xs) (filter (λ x. not (p x)) xs) ≡ []
      by false e h more = cc
      by true e h more = ap (λ b. cond (not b) (x ∷ filter (λ x. not (p x)) xs) (filter (λ x. not (p x)) xs)) e ∙ more h
