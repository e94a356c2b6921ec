-- Where the last node is in the subtree of a context, the list ends with this subtree.
use Rattle.std.proofs.Common.{◌≡◌, ℕ, suc, ◌+◌, ◌-◌, Bool, true, false, ◌||◌, List, [], ◌∷◌, ◌++◌, length, drop, refl, sym, ap, ◌∙◌, subst, arith, append_assoc, length-append}
use Rattle.std.proofs.lemmas.List.{append-nil}
use Rattle.std.specs.Prelude.{Some, None, Option, slice_get}
use Rattle.std.specs.List.{list_any, prefix_len}
use Rattle.std.specs.Option.{option_map, option_map_or}
use Rattle.fission_ids.specs.declared.context.ContextId.{ContextId}
use Rattle.context_tree.specs.Node.{Node, is_at, is_in, is_child}
use Rattle.context_tree.specs.Tree.{IsTree, node_of, subtree}
use Rattle.context_tree.specs.declared.tree.Place.{Place}
use Rattle.context_tree.specs.Places.{IsRun, EndsRun, index_of, place_of}
use Rattle.context_tree.proofs.Changes.{child_below}
use Rattle.context_tree.proofs.Distinct.{both_fail}
use Rattle.context_tree.proofs.Parts.{parts_of, subtree_is, position_is}
use Rattle.context_tree.proofs.Runs.{is_deeper}
use Rattle.context_tree.proofs.Spans.{has_place, run_ends, run_is}

-- who is x or a child of x is in x
at_or_child : (x : ContextId) (m : Node) → (is_at x m || is_child x m) ≡ true → is_in x m ≡ true
at_or_child x m h = by (is_in x m) refl
  where
    by : (b : Bool) → is_in x m ≡ b → b ≡ true
    by true e = refl
    by false e =
        let out : (is_at x m || is_child x m) ≡ false = ap (λ b. b || is_child x m) (both_fail (is_at x m) _ e).0 ∙ child_below x m e in
        absurd (no (sym out ∙ h))
      where
        no : false ≡ true → ⊥
        no h = cc

-- where none passes the last one doesn't
last_fails : (q : Node → Bool) (r : Node) (rs : List Node) (m : Node) → slice_get (r ∷ rs) (length rs) ≡ Some m
    → list_any q (r ∷ rs) ≡ false → q m ≡ false
last_fails q r [] m e h = let same : r ≡ m = cc in ap q (sym same) ∙ (both_fail (q r) false h).0
last_fails q r (s ∷ rs) m e h = last_fails q s rs m e (both_fail (q r) (list_any q (s ∷ rs)) h).1

last_behind : (q : Node → Bool) (front : List Node) (r : Node) (rs : List Node) (m : Node) (i : ℕ) → i ≡ length front + length rs
    → slice_get (front ++ r ∷ rs) i ≡ Some m → list_any q (r ∷ rs) ≡ false → q m ≡ false
last_behind q [] r rs m i k e h =
    let end : i ≡ length rs = omega (arith, k) in
    last_fails q r rs m (ap (slice_get (r ∷ rs)) (sym end) ∙ e) h
last_behind q (f ∷ front) r rs m i k e h =
    let next : i ≡ suc (length front + length rs) = omega (arith, k) in
    last_behind q front r rs m (length front + length rs) refl (ap (slice_get (f ∷ (front ++ r ∷ rs))) (sym next) ∙ e) h

-- where the last one passes nothing stands behind the front
nothing_behind : (q : Node → Bool) (front rest ns : List Node) (m : Node) → ns ≡ front ++ rest → slice_get ns (length ns - 1) ≡ Some m
    → q m ≡ true → list_any q rest ≡ false → rest ≡ []
nothing_behind q front [] ns m whole e h none = refl
nothing_behind q front (r ∷ rs) ns m whole e h none =
    let size : length ns ≡ length front + suc (length rs) = ap length whole ∙ length-append front (r ∷ rs) in
    let end : length ns - 1 ≡ length front + length rs = omega (arith, size) in
    let fails : q m ≡ false =
    last_behind q front r rs m (length ns - 1) end (ap (λ l. slice_get l (length ns - 1)) (sym whole) ∙ e) none in
    absurd (no (sym fails ∙ h))
  where
    no : false ≡ true → ⊥
    no h = cc

run_whole : (x : ContextId) (ns : List Node) → IsTree ns → (n : Node) → node_of x ns ≡ Some n
    → (m : Node) → slice_get ns (length ns - 1) ≡ Some m → is_in x m ≡ true
    → IsRun x ns (record { start = index_of x ns; end = length ns; depth = length n.above })
run_whole x ns t n e m last inside =
    let p = parts_of x ns t n e in
    let front : List Node = p.front ++ n ∷ p.run in
    let whole : ns ≡ front ++ p.rest = p.whole ∙ sym (append_assoc p.front (n ∷ p.run) p.rest) in
    let none : p.rest ≡ [] = nothing_behind (is_in x) front p.rest ns m whole last inside p.none_behind in
    let size : length ns ≡ length front = ap length (whole ∙ ap (λ l. front ++ l) none ∙ append-nil front) in
    let parted : length front ≡ length p.front + suc (length p.run) = length-append p.front (n ∷ p.run) in
    let sub : length (subtree x ns) ≡ suc (length p.run) = ap length (subtree_is x n [] ns p) in
    let place : index_of x ns ≡ length p.front = position_is x n [] ns p in
    let deeper : ℕ = prefix_len (is_deeper (length n.above)) (drop (index_of x ns + 1) ns) in
    let r = run_is x ns t n e deeper refl in
    let behind : index_of x ns + 1 + deeper ≡ index_of x ns + length (subtree x ns) = r.behind in
    let end : index_of x ns + 1 + deeper ≡ length ns = omega (arith, size, parted, sub, place, behind) in
    subst (λ k. IsRun x ns (record { start = index_of x ns; end = k; depth = length n.above })) end r

-- the run that ends with the list
pub run_to_end : (x : ContextId) (ns : List Node) → IsTree ns → (p : Place) → Some p ≡ option_map place_of (node_of x ns)
    → option_map_or (λ n. is_at x n || is_child x n) (slice_get ns (length ns - 1)) false ≡ true
    → EndsRun x ns (length ns) p.depth
run_to_end x ns t p h k = by (slice_get ns (length ns - 1)) refl k
  where
    by : (o : Option Node) → slice_get ns (length ns - 1) ≡ o → option_map_or (λ n. is_at x n || is_child x n) o false ≡ true
        → EndsRun x ns (length ns) p.depth
    by None e k = cc
    by (Some m) e k =
        let own = has_place x ns p h in
        subst (λ d. EndsRun x ns (length ns) d) (sym (ap (λ q. q.depth) own.is))
        (run_ends x ns (index_of x ns) (length ns) (length own.node.above) (run_whole x ns t own.node own.found m e (at_or_child x m k)))
