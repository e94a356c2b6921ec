-- A tree as what stands before a context, the context, the run of what hangs below it, and the rest.
use Rattle.std.proofs.Common.{◌≡◌, ◌+◌, Bool, true, false, ◌||◌, cond, not, List, [], ◌∷◌, ◌++◌, length, filter, refl, sym, ap, ◌∙◌, subst, arith}
use Rattle.std.specs.Prelude.{Some}
use Rattle.std.specs.List.{IsDistinct, list_any, list_all, prefix_len, position_or_len}
use Rattle.std.proofs.lemmas.List.{append-nil, map-append}
use Rattle.std.proofs.lemmas.List.Elements.{filter-append}
use Rattle.fission_ids.specs.declared.context.ContextId.{ContextId}
use Rattle.fission_ids.specs.Ids.{same_context}
use Rattle.context_tree.specs.Node.{Node, line, is_at, is_below, is_in}
use Rattle.context_tree.specs.Tree.{Hangs, IsTree, contexts, node_of, subtree, without}
use Rattle.context_tree.proofs.Lists.{EndsWith, ends_with_places, any_in_end, filter_none, filter_not_none, filter_whole, filter_not_whole}
use Rattle.context_tree.proofs.Same.{same_equal}
use Rattle.context_tree.proofs.Distinct.{both_fail, either_fails, distinct_head, distinct_tail}
use Rattle.context_tree.proofs.Runs.{line_behind, is_deeper, run_below}

-- where x is neither on the line nor among the ids, nothing is in x
pub outside : (x : ContextId) (before : List ContextId) (ns : List Node) → list_any (same_context x) before ≡ false
    → list_any (same_context x) (contexts ns) ≡ false → Hangs before ns → list_any (is_in x) ns ≡ false
outside x before [] b h t = refl
outside x before (n ∷ ns) b h t =
    let parts = both_fail (is_at x n) (list_any (same_context x) (contexts ns)) h in
    let own : is_in x n ≡ false =
    either_fails parts.0 (any_in_end (same_context x) before n.above (ends_with_places before n.above _ t.0) b) in
    either_fails own (outside x (line n) ns own parts.1 t.1)

-- the nodes as what stands before the node n of x, n, what is below it, and the rest
pub record Parts (x : ContextId) (n : Node) (before : List ContextId) (ns : List Node) : Type 0 where
  pub front : List Node
  pub run : List Node
  pub rest : List Node
  pub whole : ns ≡ front ++ n ∷ (run ++ rest)
  pub here : is_at x n ≡ true
  pub none_before : list_any (is_in x) front ≡ false
  pub all_below : list_all (is_in x) run ≡ true
  pub none_behind : list_any (is_in x) rest ≡ false
  pub count : prefix_len (is_deeper (length n.above)) (run ++ rest) ≡ length run
  pub front_hangs : Hangs before front
  pub hangs : EndsWith (line_behind before front) n.above
  pub run_hangs : Hangs (line n) run
  pub end : EndsWith (line_behind (line n) run) (line n)
  pub rest_hangs : Hangs n.above rest

-- the parts where x comes first
first_parts : (x : ContextId) (before : List ContextId) (n : Node) (ns : List Node) → list_any (same_context x) before ≡ false
    → IsDistinct same_context (contexts (n ∷ ns)) → Hangs before (n ∷ ns) → is_at x n ≡ true → Parts x n before (n ∷ ns)
first_parts x before n ns b d t at =
    let mine : EndsWith before n.above = ends_with_places before n.above _ t.0 in
    let is : x ≡ n.context = same_equal x n.context at in
    let own : EndsWith (line n) (x ∷ n.above) = record { front = []; whole = ap (λ c. c ∷ n.above) (sym is) } in
    let r = run_below x n.above (line n) ns own t.1 in
    let new : list_any (same_context x) (contexts ns) ≡ false =
    ap (λ c. list_any (same_context c) (contexts ns)) is ∙ distinct_head n.context (contexts ns) d in
    let behind : EndsWith (contexts ns) (contexts r.rest) =
    record { front = contexts r.run; whole = ap contexts r.whole ∙ map-append (λ m. m.context) r.run r.rest } in
    record {
      front = [];
      run = r.run;
      rest = r.rest;
      whole = ap (λ l. n ∷ l) r.whole;
      here = at;
      none_before = refl;
      all_below = r.below;
      none_behind = outside x n.above r.rest (any_in_end (same_context x) before n.above mine b)
          (any_in_end (same_context x) (contexts ns) (contexts r.rest) behind new) r.rest_hangs;
      count = ap (prefix_len (is_deeper (length n.above))) (sym r.whole) ∙ r.count;
      front_hangs = tt;
      hangs = mine;
      run_hangs = r.hangs;
      end = subst (λ c. EndsWith (line_behind (line n) r.run) (c ∷ n.above)) is r.end;
      rest_hangs = r.rest_hangs;
    }

-- the parts with one more node in front
later_parts : (x : ContextId) (n : Node) (before : List ContextId) (m : Node) (ns : List Node) → Hangs before (m ∷ ns) → is_in x m ≡ false
    → Parts x n (line m) ns → Parts x n before (m ∷ ns)
later_parts x n before m ns t out p = record {
  front = m ∷ p.front;
  run = p.run;
  rest = p.rest;
  whole = ap (λ l. m ∷ l) p.whole;
  here = p.here;
  none_before = either_fails out p.none_before;
  all_below = p.all_below;
  none_behind = p.none_behind;
  count = p.count;
  front_hangs = (t.0, p.front_hangs);
  hangs = p.hangs;
  run_hangs = p.run_hangs;
  end = p.end;
  rest_hangs = p.rest_hangs;
}

-- the parts of nodes that hold x
pub parts_behind : (x : ContextId) (before : List ContextId) (ns : List Node) → list_any (same_context x) before ≡ false
    → IsDistinct same_context (contexts ns) → Hangs before ns → (n : Node) → node_of x ns ≡ Some n → Parts x n before ns
parts_behind x before [] b d t n e = cc
parts_behind x before (m ∷ ns) b d t n e =
    by (is_at x m) refl e (parts_behind x (line m) ns)
  where
    by : (v : Bool) → is_at x m ≡ v → cond v (Some m) (node_of x ns) ≡ Some n
        → (list_any (same_context x) (line m) ≡ false → IsDistinct same_context (contexts ns) → Hangs (line m) ns
        → (k : Node) → node_of x ns ≡ Some k → Parts x k (line m) ns)
        → Parts x n before (m ∷ ns)
    by true at e more =
        let same : m ≡ n = cc in
        subst (λ k. Parts x k before (m ∷ ns)) same (first_parts x before m ns b d t at)
    by false at e more =
        let out : is_in x m ≡ false =
        either_fails at (any_in_end (same_context x) before m.above (ends_with_places before m.above _ t.0) b) in
        later_parts x n before m ns t out (more out (distinct_tail m.context (contexts ns) d) t.1 n e)

-- the parts of a tree that holds x
pub parts_of : (x : ContextId) (ns : List Node) → IsTree ns → (n : Node) → node_of x ns ≡ Some n → Parts x n [] ns
parts_of x ns t n e = parts_behind x [] ns refl t.distinct t.hangs n e

module _ (x : ContextId) (n : Node) (before : List ContextId) (ns : List Node) (p : Parts x n before ns) where
  own_in : is_in x n ≡ true
  own_in = ap (λ b. b || is_below x n) p.here

  -- the subtree is x and the run
  pub subtree_is : subtree x ns ≡ n ∷ p.run
  subtree_is =
      let behind : filter (is_in x) (p.run ++ p.rest) ≡ p.run =
      filter-append (is_in x) p.run p.rest
      ∙ ap (λ l. l ++ filter (is_in x) p.rest) (filter_whole (is_in x) p.run p.all_below)
      ∙ ap (λ l. p.run ++ l) (filter_none (is_in x) p.rest p.none_behind) ∙ append-nil p.run in
      ap (filter (is_in x)) p.whole ∙ filter-append (is_in x) p.front (n ∷ (p.run ++ p.rest))
      ∙ ap (λ l. l ++ filter (is_in x) (n ∷ (p.run ++ p.rest))) (filter_none (is_in x) p.front p.none_before)
      ∙ ap (λ b. cond b (n ∷ filter (is_in x) (p.run ++ p.rest)) (filter (is_in x) (p.run ++ p.rest))) own_in
      ∙ ap (λ l. n ∷ l) behind

  -- without x the front and the rest are left
  pub without_is : without x ns ≡ p.front ++ p.rest
  without_is =
      let q : Node → Bool = λ m. not (is_in x m) in
      let behind : filter q (p.run ++ p.rest) ≡ p.rest =
      filter-append q p.run p.rest
      ∙ ap (λ l. l ++ filter q p.rest) (filter_not_whole (is_in x) p.run p.all_below)
      ∙ filter_not_none (is_in x) p.rest p.none_behind in
      ap (filter q) p.whole ∙ filter-append q p.front (n ∷ (p.run ++ p.rest))
      ∙ ap (λ l. l ++ filter q (n ∷ (p.run ++ p.rest))) (filter_not_none (is_in x) p.front p.none_before)
      ∙ ap (λ b. p.front ++ cond (not b) (n ∷ filter q (p.run ++ p.rest)) (filter q (p.run ++ p.rest))) own_in
      ∙ ap (λ l. p.front ++ l) behind

  -- x stands behind the front
  pub position_is : position_or_len (is_at x) ns ≡ length p.front
  position_is = ap (position_or_len (is_at x)) p.whole ∙ first_at p.front p.none_before
    where
      first_at : (front : List Node) → list_any (is_in x) front ≡ false → position_or_len (is_at x) (front ++ n ∷ (p.run ++ p.rest)) ≡ length front
      first_at [] h = ap (λ b. cond (not b) (1 + position_or_len (is_at x) (p.run ++ p.rest)) 0) p.here
      first_at (m ∷ front) h =
          let parts = both_fail (is_in x m) (list_any (is_in x) front) h in
          let away : is_at x m ≡ false = (both_fail (is_at x m) (is_below x m) parts.0).0 in
          let more : position_or_len (is_at x) (front ++ n ∷ (p.run ++ p.rest)) ≡ length front = first_at front parts.1 in
          ap (λ b. cond (not b) (1 + position_or_len (is_at x) (front ++ n ∷ (p.run ++ p.rest))) 0) away ∙ omega (arith, more)
