-- Lists that are filtered by tests of which one is stronger, or that none passes.
use Rattle.std.proofs.Common.{◌≡◌, ℕ, Bool, true, false, List, [], ◌∷◌, ◌++◌, drop, refl, ap, sym, subst, ◌∙◌, append_assoc, append-nil}
use Prim.Native.Nat.{zero, suc}
use Rattle.std.specs.Prelude.{filter, cond}
use Rattle.std.specs.List.{AllByRecursion}
use Rattle.std.proofs.lemmas.List.Elements.{filter-append}
use Rattle.traces.specs.Rules.{IsFirst}

pub all_drop : {X : Type 0} (P : X → Type 0) (n : ℕ) (xs : List X) → AllByRecursion P xs → AllByRecursion P (drop n xs)
all_drop P zero xs a = a
all_drop P (suc n) [] a = a
all_drop P (suc n) (x ∷ xs) a = all_drop P n xs a.1

pub all_push : {X : Type 0} (P : X → Type 0) (xs : List X) (x : X) → AllByRecursion P xs → P x → AllByRecursion P (xs ++ x ∷ [])
all_push P [] x a p = (p, tt)
all_push P (y ∷ xs) x a p = (a.0, all_push P xs x a.1 p)

pub first_is : {X : Type 0} (P : X → Type 0) (n : ℕ) (xs : List X) (x : X) → IsFirst x (drop n xs) → AllByRecursion P xs → P x
first_is P n xs x f a = go (subst (AllByRecursion P) f.is (all_drop P n xs a))
  where
    go : AllByRecursion P (x ∷ f.rest) → P x
    go (p, rest) = p

-- equal tests filter alike
pub filter_same : {X : Type 0} (p q : X → Bool) → ((x : X) → p x ≡ q x) → (xs : List X) → filter p xs ≡ filter q xs
filter_same p q same [] = refl
filter_same p q same (x ∷ xs) = rw (same x) (ap (λ ys. cond (q x) (x ∷ ys) ys) (filter_same p q same xs))

pub filter_none : {X : Type 0} (p : X → Bool) (P : X → Type 0) → ((x : X) → P x → p x ≡ false) → (xs : List X) → AllByRecursion P xs → filter p xs ≡ []
filter_none p P none [] a = refl
filter_none p P none (x ∷ xs) a = rw (none x a.0) (filter_none p P none xs a.1)

-- a stronger test passes what it passes of what the weaker one passes
pub filter_still : {X : Type 0} (p q : X → Bool) → ((x : X) → p x ≡ true → q x ≡ true) → (xs : List X) → filter p (filter q xs) ≡ filter p xs
filter_still p q weaker [] = refl
filter_still p q weaker (x ∷ xs) = still_first (p x) (q x) refl refl (weaker x) (filter_still p q weaker xs)
  where
    still_first : (a b : Bool) → p x ≡ a → q x ≡ b → (p x ≡ true → q x ≡ true) → filter p (filter q xs) ≡ filter p xs →
        filter p (cond b (x ∷ filter q xs) (filter q xs)) ≡ cond a (x ∷ filter p xs) (filter p xs)
    still_first true true pa qb passes rest = rw pa (ap (λ ys. x ∷ ys) rest)
    still_first true false pa qb passes rest = let both : q x ≡ true = passes pa in absurd cc
    still_first false true pa qb passes rest = rw pa rest
    still_first false false pa qb passes rest = rest

pub stronger : {X : Type 0} (p q : X → Bool) → ((x : X) → p x ≡ true → q x ≡ true) → (xs ys : List X) → filter q xs ≡ filter q ys → filter p xs ≡ filter p ys
stronger p q weaker xs ys e = sym (filter_still p q weaker xs) ∙ ap (filter p) e ∙ filter_still p q weaker ys

-- more at the end of both
pub both_more : {X : Type 0} (p : X → Bool) (xs ys zs : List X) → filter p xs ≡ filter p ys → filter p (xs ++ zs) ≡ filter p (ys ++ zs)
both_more p xs ys zs e = filter-append p xs zs ∙ ap (λ fs. fs ++ filter p zs) e ∙ sym (filter-append p ys zs)

-- what the test doesn't pass at the end, or in the middle, isn't there
pub end_out : {X : Type 0} (p : X → Bool) (xs zs : List X) → filter p zs ≡ [] → filter p (xs ++ zs) ≡ filter p xs
end_out p xs zs e = filter-append p xs zs ∙ ap (λ fs. filter p xs ++ fs) e ∙ append-nil (filter p xs)

pub middle_out : {X : Type 0} (p : X → Bool) (xs ys zs : List X) → filter p ys ≡ [] → filter p (xs ++ (ys ++ zs)) ≡ filter p (xs ++ zs)
middle_out p xs ys zs e = ap (filter p) (sym (append_assoc xs ys zs)) ∙ both_more p (xs ++ ys) xs zs (end_out p xs ys e)
