-- Proofs by cases of a test, and of contexts that are one or not.
use Rattle.std.proofs.Common.{◌≡◌, ◌⊎◌, inl, inr, ℕ, ◌==◌, Bool, true, false, ◌&&◌, ◌||◌, if◌then◌else◌, None, Some, refl, ap₂, sym, subst, eq-eqb, eqb-true}
use Rattle.fission_ids.specs.declared.context.ContextId.{ContextId}
use Rattle.fission_ids.specs.Ids.{same_context}

pub by_if : {A : Type 0} (P : A → Type 0) (b : Bool) (t e : A) → (b ≡ true → P t) → (b ≡ false → P e) → P (if b then t else e)
by_if P true t e holds fails = holds refl
by_if P false t e holds fails = fails refl

pub both_true : (a b : Bool) → (a && b) ≡ true → (a ≡ true) × (b ≡ true)
both_true true b e = (refl, e)
both_true false b e = absurd cc

pub either_true : (a b : Bool) → (a || b) ≡ true → (a ≡ true) ⊎ (b ≡ true)
either_true true b e = inl refl
either_true false b e = inr e

pub true_false : {A : Type 0} (b : Bool) → b ≡ true → b ≡ false → A
true_false b is not_so = absurd cc

pub same_context_is : (x y : ContextId) → same_context x y ≡ true → x ≡ y
same_context_is x y e =
    let both : ((x.creator == y.creator) ≡ true) × ((x.serial == y.serial) ≡ true) = both_true (x.creator == y.creator) (x.serial == y.serial) e in
    ap₂ (λ (c s : ℕ). record { creator = c; serial = s }) (eqb-true x.creator y.creator both.0) (eqb-true x.serial y.serial both.1)

pub same_itself : (x : ContextId) → same_context x x ≡ true
same_itself x = ap₂ (λ a b. a && b) (eq-eqb x.creator x.creator refl) (eq-eqb x.serial x.serial refl)

pub same_when : (x y : ContextId) → x ≡ y → same_context x y ≡ true
same_when x y e = subst (λ z. same_context x z ≡ true) e (same_itself x)

swapped : (m n : ℕ) → (m == n) ≡ (n == m)
swapped m n = go (m == n) refl (n == m) refl
  where
    go : (a : Bool) → (m == n) ≡ a → (b : Bool) → (n == m) ≡ b → a ≡ b
    go true e true d = refl
    go false e false d = refl
    go true e false d = let other : (n == m) ≡ true = eq-eqb n m (sym (eqb-true m n e)) in absurd cc
    go false e true d = let other : (m == n) ≡ true = eq-eqb m n (sym (eqb-true n m d)) in absurd cc

pub same_swapped : (x y : ContextId) → same_context x y ≡ same_context y x
same_swapped x y = ap₂ (λ a b. a && b) (swapped x.creator y.creator) (swapped x.serial y.serial)

pub some_is : {A : Type 0} (a b : A) → Some a ≡ Some b → a ≡ b
some_is a b e = cc

pub none_some : {A B : Type 0} (a : A) → None ≡ Some a → B
none_some a e = absurd cc
