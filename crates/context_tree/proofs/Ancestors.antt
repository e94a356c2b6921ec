-- Going up by parents.
use Rattle.std.proofs.Common.{◌≡◌, ℕ, zero, suc, ◌<◌, arith, Bool, true, false, ◌||◌, cond, not, List, [], ◌∷◌, ◌++◌, length, refl, sym, ap, ◌∙◌, subst, is_some}
use Rattle.std.specs.Prelude.{Some, None, Option, unwrap_or, slice_get, option_and_then}
use Rattle.std.specs.List.{IsDistinct, list_any, AllByRecursion}
use Rattle.std.specs.Option.{option_map, option_map_or}
use Rattle.fission_ids.specs.declared.context.ContextId.{ContextId}
use Rattle.fission_ids.specs.Ids.{same_context}
use Rattle.context_tree.specs.Node.{Node, line, parent_of, top_of, is_at, is_below, is_in}
use Rattle.context_tree.specs.Tree.{Hangs, IsTree, contexts, node_of, is_held, subtree, is_missing, line_above, line_of, is_under, parent_in, top_in, ancestor}
use Rattle.context_tree.specs.Places.{depth_in}
use Rattle.context_tree.proofs.Lists.{EndsWith, ends_with_places}
use Rattle.context_tree.proofs.Same.{same_equal, same_itself, same_swapped}
use Rattle.context_tree.proofs.Distinct.{both_fail, distinct_head, distinct_tail, distinct_front, none_in_filter}
use Rattle.context_tree.proofs.Runs.{line_behind, hangs_parted}

-- each of a line is held, with the rest of the line above it
abbrev pub Lined : List Node → List ContextId → Type 0
Lined all [] = Unit {0}
Lined all (c ∷ cs) = (node_of c all ≡ Some (record { context = c; above = cs })) × Lined all cs

lined_front : (all : List Node) (front cs : List ContextId) → Lined all (front ++ cs) → Lined all cs
lined_front all [] cs h = h
lined_front all (c ∷ front) cs h = lined_front all front cs h.1

lined_end : (all : List Node) (xs ys : List ContextId) → EndsWith xs ys → Lined all xs → Lined all ys
lined_end all xs ys e h = lined_front all e.front ys (subst (Lined all) e.whole h)

-- each node is found by its id
abbrev pub AllFound : List Node → List Node → Type 0
AllFound all ns = AllByRecursion (λ n. node_of n.context all ≡ Some n) ns

found_more : (n : Node) (all ns : List Node) → list_any (same_context n.context) (contexts ns) ≡ false → AllFound all ns → AllFound (n ∷ all) ns
found_more n all [] h f = tt
found_more n all (m ∷ ns) h f =
    let parts = both_fail (same_context n.context m.context) (list_any (same_context n.context) (contexts ns)) h in
    (ap (λ b. cond b (Some n) (node_of m.context all)) (same_swapped m.context n.context ∙ parts.0) ∙ f.0, found_more n all ns parts.1 f.1)

pub all_found : (ns : List Node) → IsDistinct same_context (contexts ns) → AllFound ns ns
all_found [] d = tt
all_found (n ∷ ns) d = (
  ap (λ b. cond b (Some n) (node_of n.context ns)) (same_itself n.context),
  found_more n ns ns (distinct_head n.context (contexts ns) d) (all_found ns (distinct_tail n.context (contexts ns) d)),
)

-- the line behind nodes that are all found
lined_behind : (all : List Node) (before : List ContextId) (ns : List Node) → Lined all before → AllFound all ns → Hangs before ns
    → Lined all (line_behind before ns)
lined_behind all before [] l f h = l
lined_behind all before (n ∷ ns) l f h =
    lined_behind all (line n) ns (f.0, lined_end all before n.above (ends_with_places before n.above _ h.0) l) f.1 h.1

-- the line of a node that is found
lined_node : (all : List Node) (before : List ContextId) (ns : List Node) → Lined all before → AllFound all ns → Hangs before ns
    → (x : ContextId) (n : Node) → node_of x ns ≡ Some n → Lined all (line n)
lined_node all before [] l f h x n e = cc
lined_node all before (m ∷ ns) l f h x n e =
    by (is_at x m) e (lined_node all (line m) ns own f.1 h.1 x n)
  where
    own : Lined all (line m)
    own = (f.0, lined_end all before m.above (ends_with_places before m.above _ h.0) l)

    by : (b : Bool) → cond b (Some m) (node_of x ns) ≡ Some n → (node_of x ns ≡ Some n → Lined all (line n)) → Lined all (line n)
    by true e more = let same : m ≡ n = cc in subst (λ k. Lined all (line k)) same own
    by false e more = more e

pub lined : (ns : List Node) → IsTree ns → (x : ContextId) (n : Node) → node_of x ns ≡ Some n → Lined ns (line n)
lined ns t x n e = lined_node ns [] ns tt (all_found ns t.distinct) t.hangs x n e

-- who is found is the one who was looked for
pub found_is : (x : ContextId) (ns : List Node) (n : Node) → node_of x ns ≡ Some n → x ≡ n.context
found_is x [] n e = cc
found_is x (m ∷ ns) n e = by (is_at x m) refl e (found_is x ns n)
  where
    by : (b : Bool) → is_at x m ≡ b → cond b (Some m) (node_of x ns) ≡ Some n → (node_of x ns ≡ Some n → x ≡ n.context) → x ≡ n.context
    by true at e more = let same : m ≡ n = cc in same_equal x m.context at ∙ ap (λ k. k.context) same
    by false at e more = more e

-- one up along a line
up_along : (all : List Node) (cs : List ContextId) → Lined all cs → (k : ℕ)
    → option_and_then (λ y. parent_in y all) (slice_get cs k) ≡ slice_get cs (suc k)
up_along all [] l k = refl
up_along all (c ∷ cs) l zero = ap (option_and_then parent_of) l.0
up_along all (c ∷ cs) l (suc k) = up_along all cs l.1 k

-- who is reached by going up is read off the line
pub ancestors_above : (ns : List Node) → IsTree ns → (x : ContextId) (k : ℕ)
    → ancestor k x ns ≡ option_and_then (λ xs. slice_get xs k) (line_of x ns)
ancestors_above ns t x zero = by (node_of x ns) refl
  where
    by : (o : Option Node) → node_of x ns ≡ o → cond (is_some o) (Some x) None ≡ option_and_then (λ xs. slice_get xs 0) (option_map line o)
    by None e = refl
    by (Some n) e = ap Some (found_is x ns n e)
ancestors_above ns t x (suc k) =
    ap (option_and_then (λ y. parent_in y ns)) (ancestors_above ns t x k) ∙ by (node_of x ns) refl
  where
    by : (o : Option Node) → node_of x ns ≡ o
        → option_and_then (λ y. parent_in y ns) (option_and_then (λ xs. slice_get xs k) (option_map line o))
        ≡ option_and_then (λ xs. slice_get xs (suc k)) (option_map line o)
    by None e = refl
    by (Some n) e = up_along ns (line n) (lined ns t x n e) k

-- who is in a subtree
pub under_subtree : (x y : ContextId) (ns : List Node) → IsDistinct same_context (contexts ns)
    → list_any (same_context x) (contexts (subtree y ns)) ≡ is_under x y ns
under_subtree x y [] d = refl
under_subtree x y (m ∷ ns) d =
    by (is_at x m) (is_in y m) refl refl (under_subtree x y ns (distinct_tail m.context (contexts ns) d))
  where
    by : (a b : Bool) → is_at x m ≡ a → is_in y m ≡ b
        → list_any (same_context x) (contexts (subtree y ns)) ≡ is_under x y ns
        → list_any (same_context x) (contexts (cond b (m ∷ subtree y ns) (subtree y ns)))
        ≡ option_map_or (is_in y) (cond a (Some m) (node_of x ns)) false
    by false true e f more = ap (λ v. v || list_any (same_context x) (contexts (subtree y ns))) e ∙ more
    by false false e f more = more
    by true true e f more = ap (λ v. v || list_any (same_context x) (contexts (subtree y ns))) e ∙ sym f
    by true false e f more =
        none_in_filter (is_in y) (same_context x) ns
        (ap (λ c. list_any (same_context c) (contexts ns)) (same_equal x m.context e) ∙ distinct_head m.context (contexts ns) d)
        ∙ sym f

-- a place of an id in a line
place_of_any : (y : ContextId) (cs : List ContextId) → list_any (same_context y) cs ≡ true → (k : ℕ) × (slice_get cs k ≡ Some y)
place_of_any y [] h = cc
place_of_any y (c ∷ cs) h = by (same_context y c) refl h (place_of_any y cs)
  where
    by : (b : Bool) → same_context y c ≡ b → (b || list_any (same_context y) cs) ≡ true
        → (list_any (same_context y) cs ≡ true → (k : ℕ) × (slice_get cs k ≡ Some y)) → (k : ℕ) × (slice_get (c ∷ cs) k ≡ Some y)
    by true e h more = (0, ap Some (sym (same_equal y c e)))
    by false e h more = let r = more h in (suc r.0, r.1)

any_at_place : (y : ContextId) (cs : List ContextId) (k : ℕ) → slice_get cs k ≡ Some y → list_any (same_context y) cs ≡ true
any_at_place y [] k h = cc
any_at_place y (c ∷ cs) zero h =
    let same : c ≡ y = cc in ap (λ z. same_context y z || list_any (same_context y) cs) same ∙ ap (λ b. b || list_any (same_context y) cs) (same_itself y)
any_at_place y (c ∷ cs) (suc k) h = ap (λ b. same_context y c || b) (any_at_place y cs k h) ∙ or_true (same_context y c)
  where
    or_true : (a : Bool) → (a || true) ≡ true
    or_true true = refl
    or_true false = refl

-- who is under y reaches y by going up, and the other way round
pub reaches : (ns : List Node) → IsTree ns → (x y : ContextId) → is_under x y ns ≡ true → (k : ℕ) × (ancestor k x ns ≡ Some y)
reaches ns t x y h = by (node_of x ns) refl h
  where
    by : (o : Option Node) → node_of x ns ≡ o → option_map_or (is_in y) o false ≡ true → (k : ℕ) × (ancestor k x ns ≡ Some y)
    by None e h = cc
    by (Some n) e h =
        let r = place_of_any y (line n) h in
        (r.0, ancestors_above ns t x r.0 ∙ ap (λ o. option_and_then (λ xs. slice_get xs r.0) (option_map line o)) e ∙ r.1)

pub reached : (ns : List Node) → IsTree ns → (x y : ContextId) (k : ℕ) → ancestor k x ns ≡ Some y → is_under x y ns ≡ true
reached ns t x y k h = by (node_of x ns) (sym (ancestors_above ns t x k) ∙ h)
  where
    by : (o : Option Node) → option_and_then (λ xs. slice_get xs k) (option_map line o) ≡ Some y → option_map_or (is_in y) o false ≡ true
    by None e = cc
    by (Some n) e = any_at_place y (line n) k e

-- the parent of a node stands before it, with what is above it
pub parent_first : (front : List Node) (n : Node) (back : List Node) → IsTree (front ++ n ∷ back)
    → (is_missing (parent_of n) front ≡ false) × (n.above ≡ line_above (parent_of n) front)
parent_first front n back t =
    let parted = hangs_parted [] front (n ∷ back) t.hangs in
    let own : Lined front n.above =
    lined_end front (line_behind [] front) n.above (ends_with_places _ n.above _ parted.1.0)
    (lined_behind front [] front tt (all_found front (distinct_front front (n ∷ back) t.distinct)) parted.0) in
    by n.above own
  where
    by : (l : List ContextId) → Lined front l → (is_missing (slice_get l 0) front ≡ false) × (l ≡ line_above (slice_get l 0) front)
    by [] h = (refl, refl)
    by (c ∷ cs) h = (ap (λ o. not (is_some o)) h.0, sym (ap (λ o. unwrap_or (option_map line o) []) h.0))

-- what a step up to the parent changes
pub record StepsUp (x p : ContextId) (ns : List Node) : Type 0 where
  pub held : is_held p ns ≡ true
  pub top : top_in p ns ≡ top_in x ns
  pub less : depth_in p ns < depth_in x ns
  pub under : (y : ContextId) → is_under x y ns ≡ (same_context y x || is_under p y ns)

pub steps_up : (ns : List Node) → IsTree ns → (x p : ContextId) → parent_in x ns ≡ Some p → StepsUp x p ns
steps_up ns t x p h = by (node_of x ns) refl h
  where
    from : (c : ContextId) (cs : List ContextId) → node_of x ns ≡ Some (record { context = c; above = cs }) → slice_get cs 0 ≡ Some p → StepsUp x p ns
    from c [] e h = cc
    from c (q ∷ cs) e h =
        let found : node_of q ns ≡ Some (record { context = q; above = cs }) = (lined ns t x (record { context = c; above = q ∷ cs }) e).1.0 in
        let is : q ≡ p = cc in
        subst (λ z. StepsUp x z ns) is (record {
          held = ap is_some found;
          top = ap (option_and_then top_of) found ∙ sym (ap (option_and_then top_of) e);
          less = subst (λ d. depth_in q ns < d) (sym (ap (λ o. option_map_or (λ n. length n.above) o 0) e))
              (subst (λ d. d < suc (length cs)) (sym (ap (λ o. option_map_or (λ n. length n.above) o 0) found)) (omega arith));
          under = λ y. ap (λ o. option_map_or (is_in y) o false) e
              ∙ ap (λ z. same_context y z || list_any (same_context y) (q ∷ cs)) (sym (found_is x ns _ e))
              ∙ ap (λ b. same_context y x || b) (sym (ap (λ o. option_map_or (is_in y) o false) found));
        })

    by : (o : Option Node) → node_of x ns ≡ o → option_and_then parent_of o ≡ Some p → StepsUp x p ns
    by None e h = cc
    by (Some n) e h = from n.context n.above e h

-- what holds of a context with no parent
pub record IsAtTop (x : ContextId) (ns : List Node) : Type 0 where
  pub top : top_in x ns ≡ Some x
  pub under : (y : ContextId) → is_under x y ns ≡ same_context y x

pub at_top : (ns : List Node) (x : ContextId) → is_held x ns ≡ true → parent_in x ns ≡ None → IsAtTop x ns
at_top ns x held h = by (node_of x ns) refl held h
  where
    or_false : (b : Bool) → (b || false) ≡ b
    or_false true = refl
    or_false false = refl

    from : (c : ContextId) (cs : List ContextId) → node_of x ns ≡ Some (record { context = c; above = cs }) → slice_get cs 0 ≡ None → IsAtTop x ns
    from c (q ∷ cs) e h = cc
    from c [] e h = record {
      top = ap (option_and_then top_of) e ∙ ap Some (sym (found_is x ns _ e));
      under = λ y. ap (λ o. option_map_or (is_in y) o false) e ∙ ap (λ z. same_context y z || false) (sym (found_is x ns _ e))
          ∙ or_false (same_context y x);
    }

    by : (o : Option Node) → node_of x ns ≡ o → is_some o ≡ true → option_and_then parent_of o ≡ None → IsAtTop x ns
    by None e held h = cc
    by (Some n) e held h = from n.context n.above e h

-- a context that is held is under itself
pub under_itself : (ns : List Node) (x : ContextId) → is_held x ns ≡ true → is_under x x ns ≡ true
under_itself ns x held = by (node_of x ns) refl held
  where
    by : (o : Option Node) → node_of x ns ≡ o → is_some o ≡ true → option_map_or (is_in x) o false ≡ true
    by None e held = cc
    by (Some n) e held =
        ap (λ z. same_context x z || is_below x n) (sym (found_is x ns n e)) ∙ ap (λ b. b || is_below x n) (same_itself x)

-- nothing is under or above what isn't held
pub nothing_held : (ns : List Node) (x : ContextId) → is_held x ns ≡ false → (top_in x ns ≡ None) × ((y : ContextId) → is_under x y ns ≡ false)
nothing_held ns x h = by (node_of x ns) h
  where
    by : (o : Option Node) → is_some o ≡ false → (option_and_then top_of o ≡ None) × ((y : ContextId) → option_map_or (is_in y) o false ≡ false)
    by None h = (refl, λ y. refl)
    by (Some n) h = cc
