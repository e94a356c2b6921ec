-- Ids that stand once.
use Rattle.std.proofs.Common.{◌≡◌, Bool, true, false, ◌||◌, cond, List, [], ◌∷◌, ◌++◌, filter, refl, ap, ◌∙◌, is_some}
use Rattle.std.specs.Prelude.{Some}
use Rattle.std.specs.List.{IsDistinct, AllByRecursion, list_any}
use Rattle.fission_ids.specs.declared.context.ContextId.{ContextId}
use Rattle.fission_ids.specs.Ids.{same_context}
use Rattle.context_tree.specs.Node.{Node, is_at}
use Rattle.context_tree.specs.Tree.{contexts, is_held, node_of}
use Rattle.context_tree.proofs.Same.{same_swapped}

-- the parts of a test that fails
pub both_fail : (a b : Bool) → (a || b) ≡ false → (a ≡ false) × (b ≡ false)
both_fail false b h = (refl, h)
both_fail true b h = cc

pub either_fails : {a b : Bool} → a ≡ false → b ≡ false → (a || b) ≡ false
either_fails {b = b} e f = ap (λ v. v || b) e ∙ f

module _ {X : Type 0} (p : X → Bool) where
  none_of_all : (xs : List X) → AllByRecursion (λ y. p y ≡ false) xs → list_any p xs ≡ false
  none_of_all [] h = refl
  none_of_all (x ∷ xs) h = either_fails h.0 (none_of_all xs h.1)

  all_of_none : (xs : List X) → list_any p xs ≡ false → AllByRecursion (λ y. p y ≡ false) xs
  all_of_none [] h = tt
  all_of_none (x ∷ xs) h = let parts = both_fail (p x) (list_any p xs) h in (parts.0, all_of_none xs parts.1)

pub distinct_head : (x : ContextId) (xs : List ContextId) → IsDistinct same_context (x ∷ xs) → list_any (same_context x) xs ≡ false
unfolding IsDistinct
distinct_head x xs h = none_of_all (same_context x) xs h.0

pub distinct_tail : (x : ContextId) (xs : List ContextId) → IsDistinct same_context (x ∷ xs) → IsDistinct same_context xs
unfolding IsDistinct
distinct_tail x xs h = h.1

pub distinct_cons : (x : ContextId) (xs : List ContextId) → list_any (same_context x) xs ≡ false → IsDistinct same_context xs
    → IsDistinct same_context (x ∷ xs)
unfolding IsDistinct
distinct_cons x xs h d = (all_of_none (same_context x) xs h, d)

pub distinct_none : IsDistinct same_context []
unfolding IsDistinct
distinct_none = tt

module _ (p : Node → Bool) (q : ContextId → Bool) where
  -- what isn't in a list isn't in what a filter leaves
  pub none_in_filter : (ns : List Node) → list_any q (contexts ns) ≡ false → list_any q (contexts (filter p ns)) ≡ false
  none_in_filter [] h = refl
  none_in_filter (n ∷ ns) h =
      let parts = both_fail (q n.context) (list_any q (contexts ns)) h in by (p n) parts.0 (none_in_filter ns parts.1)
    where
      by : (b : Bool) → q n.context ≡ false → list_any q (contexts (filter p ns)) ≡ false
          → list_any q (contexts (cond b (n ∷ filter p ns) (filter p ns))) ≡ false
      by true e f = either_fails e f
      by false e f = f

-- what isn't in a list isn't in its front
pub none_in_front : (q : ContextId → Bool) (front back : List Node) → list_any q (contexts (front ++ back)) ≡ false
    → list_any q (contexts front) ≡ false
none_in_front q [] back h = refl
none_in_front q (n ∷ front) back h =
    let parts = both_fail (q n.context) (list_any q (contexts (front ++ back))) h in either_fails parts.0 (none_in_front q front back parts.1)

-- ids stand once in the front of such a list
pub distinct_front : (front back : List Node) → IsDistinct same_context (contexts (front ++ back)) → IsDistinct same_context (contexts front)
distinct_front [] back d = distinct_none
distinct_front (n ∷ front) back d =
    distinct_cons n.context (contexts front)
    (none_in_front (same_context n.context) front back (distinct_head n.context (contexts (front ++ back)) d))
    (distinct_front front back (distinct_tail n.context (contexts (front ++ back)) d))

-- ids stand once in what a filter leaves
pub distinct_filter : (p : Node → Bool) (ns : List Node) → IsDistinct same_context (contexts ns) → IsDistinct same_context (contexts (filter p ns))
distinct_filter p [] h = h
distinct_filter p (n ∷ ns) h = by (p n) (distinct_filter p ns (distinct_tail n.context (contexts ns) h))
  where
    by : (b : Bool) → IsDistinct same_context (contexts (filter p ns)) → IsDistinct same_context (contexts (cond b (n ∷ filter p ns) (filter p ns)))
    by true d = distinct_cons n.context (contexts (filter p ns))
        (none_in_filter p (same_context n.context) ns (distinct_head n.context (contexts ns) h)) d
    by false d = d

-- a test of the ids with a node put in
pub any_put : (q : ContextId → Bool) (front : List Node) (n : Node) (back : List Node)
    → list_any q (contexts (front ++ n ∷ back)) ≡ (q n.context || list_any q (contexts (front ++ back)))
any_put q [] n back = refl
any_put q (m ∷ front) n back =
    ap (λ b. q m.context || b) (any_put q front n back) ∙ swapped (q m.context) (q n.context) (list_any q (contexts (front ++ back)))
  where
    swapped : (a b c : Bool) → (a || (b || c)) ≡ (b || (a || c))
    swapped false b c = refl
    swapped true false c = refl
    swapped true true c = refl

-- a new id put in leaves each id standing once
pub distinct_put : (front : List Node) (n : Node) (back : List Node) → list_any (same_context n.context) (contexts (front ++ back)) ≡ false
    → IsDistinct same_context (contexts (front ++ back)) → IsDistinct same_context (contexts (front ++ n ∷ back))
distinct_put [] n back h d = distinct_cons n.context (contexts back) h d
distinct_put (m ∷ front) n back h d =
    let parts = both_fail (same_context n.context m.context) (list_any (same_context n.context) (contexts (front ++ back))) h in
    let own : list_any (same_context m.context) (contexts (front ++ n ∷ back)) ≡ false =
    any_put (same_context m.context) front n back
    ∙ either_fails (same_swapped m.context n.context ∙ parts.0) (distinct_head m.context (contexts (front ++ back)) d) in
    distinct_cons m.context (contexts (front ++ n ∷ back)) own
    (distinct_put front n back parts.1 (distinct_tail m.context (contexts (front ++ back)) d))

-- a context is held where its id is among those of the nodes
pub held_among : (x : ContextId) (ns : List Node) → is_held x ns ≡ list_any (same_context x) (contexts ns)
held_among x [] = refl
held_among x (n ∷ ns) = by (is_at x n) (held_among x ns)
  where
    by : (b : Bool) → is_held x ns ≡ list_any (same_context x) (contexts ns)
        → is_some (cond b (Some n) (node_of x ns)) ≡ (b || list_any (same_context x) (contexts ns))
    by true e = refl
    by false e = e
