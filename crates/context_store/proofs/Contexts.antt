-- The order of contexts, and what a content has for each of them.
use Rattle.std.proofs.Common.{◌≡◌, ◌≢◌, ◌∙◌, refl, sym, ap, ap₂, ℕ, Bool, true, false, cond, Option, None, Some, true≢false}
use Rattle.std.specs.declared.cmp.Ordering.{Ordering}
use Rattle.std.specs.declared.cmp.Ordering.TheVariants.{Less, Equal, Greater}
use Rattle.std.specs.Ordering.{ordering_then, eq_by_cmp, is_eq}
use Rattle.std.specs.Option.{option_map, option_map_or}
use Rattle.std.specs.Cmp.{IsTotalOrder, on_total, then_total, nat_cmp_total, both_tied, unsigned_ties, tied_itself}
use Rattle.std.specs.FinMap.{IsAntisymmetric, nat_cmp-IsAntisymmetric, get, insert, remove, get-insert, get-remove, same_map}
use Rattle.fission_ids.specs.declared.context.ContextId.{ContextId}
use Rattle.fission_ids.specs.Ids.{same_context}
use Rattle.context_store.specs.Content.{Content, Stored, context_order, content_after_change}

-- ---- the order

pub context_order_total : IsTotalOrder context_order
context_order_total =
    then_total
    (on_total (λ (x : ContextId). x.creator) nat_cmp_total)
    (on_total (λ (x : ContextId). x.serial) nat_cmp_total)

both_equal : (a b : Ordering) → ordering_then a b ≡ Equal → (a ≡ Equal) × (b ≡ Equal)
both_equal Less b e = absurd (cc)
both_equal Equal b e = (refl, e)
both_equal Greater b e = absurd (cc)

pub context_order-IsAntisymmetric : IsAntisymmetric context_order
context_order-IsAntisymmetric x y e =
    let made : ℕ → ℕ → ContextId = λ creator serial. record { creator = creator; serial = serial } in
    let parts = both_equal _ _ e in
    ap₂ made (nat_cmp-IsAntisymmetric _ _ parts.0) (nat_cmp-IsAntisymmetric _ _ parts.1)

-- whether two contexts are the same, as the order tells it
abbrev pub are_tied : ContextId → ContextId → Bool
are_tied = eq_by_cmp context_order

pub same_context-tied : (x y : ContextId) → same_context x y ≡ are_tied x y
same_context-tied x y = both_tied _ _ _ _ (unsigned_ties x.creator y.creator) (unsigned_ties x.serial y.serial)

is_Equal : (o : Ordering) → is_eq o ≡ true → o ≡ Equal
is_Equal Less e = absurd (true≢false (sym e))
is_Equal Equal e = refl
is_Equal Greater e = absurd (true≢false (sym e))

pub tied_same : (x y : ContextId) → are_tied x y ≡ true → x ≡ y
tied_same x y e = context_order-IsAntisymmetric x y (is_Equal _ e)

pub tied_refl : (x : ContextId) → are_tied x x ≡ true
tied_refl x = ap is_eq (tied_itself context_order_total x)

pub tied_apart : (x y : ContextId) → x ≢ y → are_tied x y ≡ false
tied_apart x y apart = by (are_tied x y) refl
  where
    by : (b : Bool) → are_tied x y ≡ b → b ≡ false
    by true e = absurd (apart (tied_same x y e))
    by false e = refl

-- ---- contents

-- two contents with the same at each context are equal
pub same_content : (m n : Content) → ((q : ContextId) → get m q ≡ get n q) → m ≡ n
same_content = same_map context_order_total context_order-IsAntisymmetric

-- what is at a context is at each that is the same
at_tied : (m : Content) (x q : ContextId) (o : Option Stored) → get m x ≡ o → get m q ≡ cond (are_tied q x) o (get m q)
at_tied m x q o e = by (are_tied q x) refl
  where
    by : (b : Bool) → are_tied q x ≡ b → get m q ≡ cond b o (get m q)
    by true tied = ap (get m) (tied_same q x tied) ∙ e
    by false tied = refl

-- what a content has at each context, where it is changed at one
pub get-changed_at : (f : Stored → Stored) (x : ContextId) (m : Content) (q : ContextId) → get (content_after_change f x m) q ≡ cond (are_tied q x) (option_map f (get m x)) (get m q)
get-changed_at f x m q = by (get m x) refl
  where
    by : (o : Option Stored) → get m x ≡ o → get (option_map_or (λ s. insert m x (f s)) o m) q ≡ cond (are_tied q x) (option_map f o) (get m q)
    by None e = at_tied m x q None e
    by (Some s) e = get-insert context_order_total m x (f s) q

-- a change leaves the other contexts
pub others-changed_at : (f : Stored → Stored) (x y : ContextId) (m : Content) → y ≢ x → get (content_after_change f x m) y ≡ get m y
others-changed_at f x y m apart = get-changed_at f x m y ∙ ap (λ (b : Bool). cond b (option_map f (get m x)) (get m y)) (tied_apart y x apart)

-- what is to be changed at a context that isn't there changes nothing
pub changed_at-absent : (f : Stored → Stored) (x : ContextId) (m : Content) → get m x ≡ None → content_after_change f x m ≡ m
changed_at-absent f x m e = ap (λ (o : Option Stored). option_map_or (λ (s : Stored). insert m x (f s)) o m) e

-- to take away a context that isn't there changes nothing
pub remove-absent : (x : ContextId) (m : Content) → get m x ≡ None → remove m x ≡ m
remove-absent x m e = same_content _ _ (λ q. get-remove context_order_total m x q ∙ sym (at_tied m x q None e))
