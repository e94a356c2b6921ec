-- Top-level ids that rise.
use Rattle.std.proofs.Common.{◌≡◌, ℕ, ◌+◌, Bool, true, false, ◌||◌, ◌&&◌, ◌==◌, cond, not, List, [], ◌∷◌, ◌++◌, take, drop, filter, nat_lt, refl, sym, ap, ◌∙◌, subst, arith, one-add}
use Rattle.std.specs.List.{AllByRecursion, list_any, position_or_len}
use Rattle.std.proofs.lemmas.Bool.Decides.{nat_tests}
use Rattle.fission_ids.specs.declared.context.ContextId.{ContextId}
use Rattle.fission_ids.specs.Ids.{same_context}
use Rattle.context_tree.specs.Node.{Node, is_top}
use Rattle.context_tree.specs.Tree.{contexts, is_less, are_rising, TopsRise}
use Rattle.context_tree.proofs.Same.{both_hold}
use Rattle.context_tree.proofs.Distinct.{both_fail}

-- of two ids that differ, one is less
total : (a b c d : ℕ) → (nat_lt a b || (a == b && nat_lt c d)) ≡ false → (a == b && c == d) ≡ false
    → (nat_lt b a || (b == a && nat_lt d c)) ≡ true
total a b c d h k = grind (arith, nat_tests)

through : (a b c d e f : ℕ) → (nat_lt a b || (a == b && nat_lt c d)) ≡ true → (nat_lt b e || (b == e && nat_lt d f)) ≡ true
    → (nat_lt a e || (a == e && nat_lt c f)) ≡ true
through a b c d e f h k = grind (arith, nat_tests)

pub less_total : (x y : ContextId) → is_less x y ≡ false → same_context x y ≡ false → is_less y x ≡ true
less_total x y h k = total x.creator y.creator x.serial y.serial h k

pub less_through : (x y z : ContextId) → is_less x y ≡ true → is_less y z ≡ true → is_less x z ≡ true
less_through x y z h k = through x.creator y.creator x.serial y.serial z.creator z.serial h k

module _ {X : Type 0} (P : X → Type 0) where
  all_filter : (p : X → Bool) (xs : List X) → AllByRecursion P xs → AllByRecursion P (filter p xs)
  all_filter p [] h = tt
  all_filter p (x ∷ xs) h = by (p x) (all_filter p xs h.1)
    where
      by : (b : Bool) → AllByRecursion P (filter p xs) → AllByRecursion P (cond b (x ∷ filter p xs) (filter p xs))
      by true r = (h.0, r)
      by false r = r

  all_put : (front : List X) (x : X) (back : List X) → P x → AllByRecursion P (front ++ back) → AllByRecursion P (front ++ x ∷ back)
  all_put [] x back p h = (p, h)
  all_put (y ∷ front) x back p h = (h.0, all_put front x back p h.1)

  all_behind : (front back : List X) → AllByRecursion P (front ++ back) → AllByRecursion P back
  all_behind [] back h = h
  all_behind (y ∷ front) back h = all_behind front back h.1

pub rises_filter : (p : Node → Bool) (ns : List Node) → TopsRise ns → TopsRise (filter p ns)
rises_filter p [] h = tt
rises_filter p (n ∷ ns) h = by (p n) (rises_filter p ns h.1)
  where
    by : (b : Bool) → TopsRise (filter p ns) → TopsRise (cond b (n ∷ filter p ns) (filter p ns))
    by true r = (all_filter (λ m. are_rising n m ≡ true) p ns h.0, r)
    by false r = r

pub rises_put : (front : List Node) (n : Node) (back : List Node) → AllByRecursion (λ m. are_rising m n ≡ true) front
    → AllByRecursion (λ m. are_rising n m ≡ true) back → TopsRise (front ++ back) → TopsRise (front ++ n ∷ back)
rises_put [] n back f b h = (b, h)
rises_put (m ∷ front) n back f b h = (all_put (λ k. are_rising m k ≡ true) front n back f.0 h.0, rises_put front n back f.1 b h.1)

rises_behind : (front back : List Node) → TopsRise (front ++ back) → TopsRise back
rises_behind [] back h = h
rises_behind (m ∷ front) back h = rises_behind front back h.1

-- a node that isn't top-level rises with all
below_rises : (n m : Node) → is_top m ≡ false → are_rising n m ≡ true
below_rises n m h = ap (λ b. not (is_top n && b) || is_less n.context m.context) h ∙ by (is_top n)
  where
    by : (b : Bool) → (not (b && false) || is_less n.context m.context) ≡ true
    by true = refl
    by false = refl

rises_below : (n m : Node) → is_top n ≡ false → are_rising n m ≡ true
rises_below n m h = ap (λ b. not (b && is_top m) || is_less n.context m.context) h

pub rises_put_below : (front : List Node) (n : Node) (back : List Node) → is_top n ≡ false → TopsRise (front ++ back) → TopsRise (front ++ n ∷ back)
rises_put_below front n back h r = rises_put front n back (before front) (behind back) r
  where
    before : (ms : List Node) → AllByRecursion (λ m. are_rising m n ≡ true) ms
    before [] = tt
    before (m ∷ ms) = (below_rises m n h, before ms)

    behind : (ms : List Node) → AllByRecursion (λ m. are_rising n m ≡ true) ms
    behind [] = tt
    behind (m ∷ ms) = (rises_below n m h, behind ms)

-- whether a top-level node has a greater id
abbrev pub is_past : ContextId → Node → Bool
is_past x n = is_top n && is_less x n.context

-- those before the first such node rise with x
before_rises : (n : Node) (ns : List Node) → list_any (same_context n.context) (contexts ns) ≡ false
    → AllByRecursion (λ m. are_rising m n ≡ true) (take (position_or_len (is_past n.context) ns) ns)
before_rises n [] h = tt
before_rises n (m ∷ ns) h =
    let parts = both_fail (same_context n.context m.context) (list_any (same_context n.context) (contexts ns)) h in
    by (is_past n.context m) refl parts.0 (before_rises n ns parts.1)
  where
    own : (a c : Bool) → (a && c) ≡ false → c ≡ is_less n.context m.context → same_context n.context m.context ≡ false
        → (not (a && is_top n) || is_less m.context n.context) ≡ true
    own false c e f d = refl
    own true c e f d =
        ap (λ b. not (is_top n) || b) (less_total n.context m.context (sym f ∙ e) d) ∙ or_true (not (is_top n))
      where
        or_true : (b : Bool) → (b || true) ≡ true
        or_true true = refl
        or_true false = refl

    by : (b : Bool) → is_past n.context m ≡ b → same_context n.context m.context ≡ false
        → AllByRecursion (λ k. are_rising k n ≡ true) (take (position_or_len (is_past n.context) ns) ns)
        → AllByRecursion (λ k. are_rising k n ≡ true) (take (cond (not b) (1 + position_or_len (is_past n.context) ns) 0) (m ∷ ns))
    by true e d more = tt
    by false e d more =
        subst (λ k. AllByRecursion (λ j. are_rising j n ≡ true) (take k (m ∷ ns))) (sym (one-add (position_or_len (is_past n.context) ns)))
        (own (is_top m) (is_less n.context m.context) e refl d, more)

-- and the first such node and those behind it too
behind_rises : (n : Node) (ns : List Node) → TopsRise ns
    → AllByRecursion (λ m. are_rising n m ≡ true) (drop (position_or_len (is_past n.context) ns) ns)
behind_rises n [] r = tt
behind_rises n (m ∷ ns) r = by (is_past n.context m) refl (behind_rises n ns r.1)
  where
    either : (a b : Bool) → b ≡ true → (a || b) ≡ true
    either true b e = refl
    either false b e = e

    rest : is_top m ≡ true → is_less n.context m.context ≡ true → (ks : List Node) → AllByRecursion (λ k. are_rising m k ≡ true) ks
        → AllByRecursion (λ k. are_rising n k ≡ true) ks
    rest top less [] h = tt
    rest top less (k ∷ ks) h = (own (is_top k) refl, rest top less ks h.1)
      where
        own : (b : Bool) → is_top k ≡ b → are_rising n k ≡ true
        own false e = below_rises n k e
        own true e =
            let next : is_less m.context k.context ≡ true =
            sym (ap (λ v. not (v && is_top k) || is_less m.context k.context) top
            ∙ ap (λ v. not v || is_less m.context k.context) e) ∙ h.0 in
            either (not (is_top n && is_top k)) (is_less n.context k.context) (less_through n.context m.context k.context less next)

    by : (b : Bool) → is_past n.context m ≡ b
        → AllByRecursion (λ k. are_rising n k ≡ true) (drop (position_or_len (is_past n.context) ns) ns)
        → AllByRecursion (λ k. are_rising n k ≡ true) (drop (cond (not b) (1 + position_or_len (is_past n.context) ns) 0) (m ∷ ns))
    by true e more =
        let parts = both_hold (is_top m) (is_less n.context m.context) e in
        (either (not (is_top n && is_top m)) (is_less n.context m.context) parts.1, rest parts.0 parts.1 ns r.0)
    by false e more =
        subst (λ k. AllByRecursion (λ j. are_rising n j ≡ true) (drop k (m ∷ ns))) (sym (one-add (position_or_len (is_past n.context) ns))) more

-- a top-level node put where it goes rises with the others
pub rises_put_top : (n : Node) (ns : List Node) → list_any (same_context n.context) (contexts ns) ≡ false → TopsRise ns
    → TopsRise (take (position_or_len (is_past n.context) ns) ns ++ drop (position_or_len (is_past n.context) ns) ns)
    → TopsRise (take (position_or_len (is_past n.context) ns) ns ++ n ∷ drop (position_or_len (is_past n.context) ns) ns)
rises_put_top n ns h r whole =
    rises_put (take (position_or_len (is_past n.context) ns) ns) n (drop (position_or_len (is_past n.context) ns) ns)
    (before_rises n ns h) (behind_rises n ns r) whole
