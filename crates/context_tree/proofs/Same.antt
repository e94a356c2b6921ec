-- Whether two ids are the same.
use Rattle.std.proofs.Common.{◌≡◌, Bool, true, false, not, ◌&&◌, ◌==◌, refl, sym, ap, ◌∙◌, eqb-true, eq-eqb}
use Rattle.fission_ids.specs.declared.context.ContextId.{ContextId}
use Rattle.fission_ids.specs.Ids.{same_context}

-- the parts of a test
pub both_hold : (a b : Bool) → (a && b) ≡ true → (a ≡ true) × (b ≡ true)
both_hold true b h = (refl, h)
both_hold false b h = cc

-- ids that are the same are equal
pub same_equal : (x y : ContextId) → same_context x y ≡ true → x ≡ y
same_equal x y h =
    let parts = both_hold (x.creator == y.creator) (x.serial == y.serial) h in
    let creators : x.creator ≡ y.creator = eqb-true x.creator y.creator parts.0 in
    let serials : x.serial ≡ y.serial = eqb-true x.serial y.serial parts.1 in
    (λ j. record { creator = creators j; serial = serials j })

pub same_itself : (x : ContextId) → same_context x x ≡ true
same_itself x =
    ap (λ b. b && (x.serial == x.serial)) (eq-eqb x.creator x.creator refl) ∙ eq-eqb x.serial x.serial refl

pub same_swapped : (x y : ContextId) → same_context x y ≡ same_context y x
same_swapped x y = by (same_context x y) (same_context y x) refl refl
  where
    by : (a b : Bool) → same_context x y ≡ a → same_context y x ≡ b → same_context x y ≡ same_context y x
    by true b e f = e ∙ sym (same_itself x) ∙ ap (λ z. same_context z x) (same_equal x y e)
    by false false e f = e ∙ sym f
    by false true e f = absurd (no (sym e ∙ ap (λ z. same_context x z) (same_equal y x f) ∙ same_itself x))
      where
        no : false ≡ true → ⊥
        no h = cc

pub not_true : (b : Bool) → true ≡ not b → b ≡ false
not_true false h = refl
not_true true h = cc

pub not_false : (b : Bool) → false ≡ not b → b ≡ true
not_false true h = refl
not_false false h = cc
