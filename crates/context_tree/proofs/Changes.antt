-- What a tree is without a context, and with one more.
use Rattle.std.proofs.Common.{◌≡◌, ℕ, suc, ◌+◌, ◌-◌, Bool, true, false, ◌&&◌, cond, not, List, [], ◌∷◌, ◌++◌, length, filter, take, drop, refl, sym, ap, ◌∙◌, subst, arith, append_assoc, length-append, one-add, is_some}
use Rattle.std.specs.Prelude.{insert, Some, None, Option, ⊤, unwrap_or, slice_get, is_none, if◌then◌else◌}
use Rattle.std.specs.List.{IsDistinct, list_any, position_or_len}
use Rattle.std.specs.Option.{option_map, option_map_or}
use Rattle.std.proofs.lemmas.List.{append-nil, map-append, take-append-drop}
use Rattle.std.proofs.lemmas.List.Elements.{filter-append}
use Rattle.std.proofs.Math.Seq.{drop-append_seam, take-append_seam}
use Rattle.fission_ids.specs.declared.context.ContextId.{ContextId}
use Rattle.fission_ids.specs.Ids.{same_context}
use Rattle.context_tree.specs.declared.fault.TreeFault.TheVariants.{Known, NoParent}
use Rattle.context_tree.specs.Node.{Node, line, is_top, is_at, is_below, is_in, is_child}
use Rattle.context_tree.specs.Tree.{Hangs, IsTree, TopsRise, contexts, node_of, is_held, subtree, without, is_missing, refusal, line_above, place_in, nodes_after, is_less, is_under, children}
use Rattle.context_tree.proofs.Lists.{EndsWith, filter_none, filter_not_none, last_places}
use Rattle.context_tree.proofs.Same.{same_equal, both_hold}
use Rattle.context_tree.proofs.Distinct.{both_fail, either_fails, distinct_filter, distinct_put, distinct_head, distinct_tail, none_in_filter, none_in_front, held_among}
use Rattle.context_tree.proofs.Runs.{line_behind, hangs_parted, hangs_joined, hangs_longer}
use Rattle.context_tree.proofs.Tops.{rises_filter, rises_put_top, rises_put_below}
use Rattle.context_tree.proofs.Parts.{Parts, parts_of, outside, subtree_is, without_is, position_is}

-- where x isn't held nothing is in it
pub unknown : (x : ContextId) (ns : List Node) → IsTree ns → is_held x ns ≡ false → list_any (is_in x) ns ≡ false
unknown x ns t h = outside x [] ns refl (sym (held_among x ns) ∙ h) t.hangs

-- a context that isn't found isn't held
pub not_found : (x : ContextId) (ns : List Node) → node_of x ns ≡ None → is_held x ns ≡ false
not_found x ns e = ap is_some e

-- what is left without a context is a tree
pub without_tree : (ns : List Node) → IsTree ns → (x : ContextId) → IsTree (without x ns)
without_tree ns t x = record {
  hangs = by (node_of x ns) refl;
  distinct = distinct_filter (λ n. not (is_in x n)) ns t.distinct;
  rises = rises_filter (λ n. not (is_in x n)) ns t.rises;
}
  where
    by : (o : Option Node) → node_of x ns ≡ o → Hangs [] (without x ns)
    by None e = subst (Hangs []) (sym (filter_not_none (is_in x) ns (unknown x ns t (not_found x ns e)))) t.hangs
    by (Some n) e =
        let p = parts_of x ns t n e in
        subst (Hangs []) (sym (without_is x n [] ns p))
        (hangs_joined [] p.front p.rest p.front_hangs (hangs_longer n.above (line_behind [] p.front) p.rest p.hangs p.rest_hangs))

-- an id that isn't in the nodes isn't found
pub not_among : (y : ContextId) (ns : List Node) → list_any (same_context y) (contexts ns) ≡ false → node_of y ns ≡ None
not_among y [] h = refl
not_among y (m ∷ ns) h =
    let parts = both_fail (is_at y m) (list_any (same_context y) (contexts ns)) h in
    ap (λ b. cond b (Some m) (node_of y ns)) parts.0 ∙ not_among y ns parts.1

-- who is found without x
pub found_without : (x y : ContextId) (ns : List Node) → IsDistinct same_context (contexts ns)
    → node_of y (without x ns) ≡ (if is_under y x ns then None else node_of y ns)
found_without x y [] d = refl
found_without x y (m ∷ ns) d =
    by (is_at y m) (is_in x m) refl refl (found_without x y ns (distinct_tail m.context (contexts ns) d))
  where
    rest : List Node
    rest = filter (λ n. not (is_in x n)) ns

    by : (a b : Bool) → is_at y m ≡ a → is_in x m ≡ b
        → node_of y (without x ns) ≡ (if is_under y x ns then None else node_of y ns)
        → node_of y (cond (not b) (m ∷ without x ns) (without x ns))
        ≡ (if option_map_or (is_in x) (cond a (Some m) (node_of y ns)) false then None else cond a (Some m) (node_of y ns))
    by false true e f more = more
    by false false e f more = ap (λ v. cond v (Some m) (node_of y (without x ns))) e ∙ more
    by true true e f more =
        let gone : node_of y (without x ns) ≡ None =
        not_among y (without x ns) (none_in_filter (λ n. not (is_in x n)) (same_context y) ns
        (ap (λ c. list_any (same_context c) (contexts ns)) (same_equal y m.context e) ∙ distinct_head m.context (contexts ns) d)) in
        gone ∙ sym (ap (λ v. if v then None else Some m) f)
    by true false e f more =
        ap (λ v. cond v (Some m) (node_of y (without x ns))) e ∙ sym (ap (λ v. if v then None else Some m) f)

-- an item put in where two lists meet
pub insert_seam : {X : Type 0} (xs ys : List X) (k : ℕ) (y : X) → k ≡ length xs → insert (xs ++ ys) k y ≡ xs ++ y ∷ ys
insert_seam xs ys k y e =
    ap (λ i. take i (xs ++ ys) ++ y ∷ drop i (xs ++ ys)) e
    ∙ ap (λ l. l ++ y ∷ drop (length xs) (xs ++ ys)) (take-append_seam xs ys)
    ∙ ap (λ l. xs ++ y ∷ l) (drop-append_seam xs ys)

pub line_behind_both : (before : List ContextId) (xs ys : List Node) → line_behind before (xs ++ ys) ≡ line_behind (line_behind before xs) ys
line_behind_both before [] ys = refl
line_behind_both before (x ∷ xs) ys = line_behind_both (line x) xs ys

-- a node that is attached
abbrev pub new_node : Option ContextId → ContextId → List Node → Node
new_node parent x ns = record { context = x; above = line_above parent ns }

-- the nodes before and behind one that is attached
pub record Attached (parent : Option ContextId) (x : ContextId) (ns : List Node) : Type 0 where
  pub front : List Node
  pub back : List Node
  pub whole : ns ≡ front ++ back
  pub after : nodes_after parent x ns ≡ front ++ new_node parent x ns ∷ back
  pub hangs : Hangs [] (front ++ new_node parent x ns ∷ back)
  pub behind : (p : ContextId) → parent ≡ Some p → list_any (is_in p) back ≡ false
  pub nearest : (y : ContextId) → is_child y (new_node parent x ns) ≡ option_map_or (same_context y) parent false

attached_below : (p x : ContextId) (ns : List Node) (n : Node) → node_of p ns ≡ Some n → Parts p n [] ns → Attached (Some p) x ns
attached_below p x ns n e parts =
    let front : List Node = parts.front ++ n ∷ parts.run in
    let above : line_above (Some p) ns ≡ line n = ap (λ o. unwrap_or (option_map line o) []) e in
    let size : length front ≡ length parts.front + suc (length parts.run) = length-append parts.front (n ∷ parts.run) in
    let position : position_or_len (is_at p) ns ≡ length parts.front = position_is p n [] ns parts in
    let count : length (subtree p ns) ≡ suc (length parts.run) = ap length (subtree_is p n [] ns parts) in
    let place : place_in (Some p) x ns ≡ length front = omega (arith, size, position, count) in
    let whole : ns ≡ front ++ parts.rest = parts.whole ∙ sym (append_assoc parts.front (n ∷ parts.run) parts.rest) in
    let last : line_behind [] front ≡ line_behind (line n) parts.run = line_behind_both [] parts.front (n ∷ parts.run) in
    let front_hangs : Hangs [] front =
    hangs_joined [] parts.front (n ∷ parts.run) parts.front_hangs (last_places _ n.above parts.hangs, parts.run_hangs) in
    let node : Node = record { context = x; above = line n } in
    let back_hangs : Hangs (line_behind [] front) (node ∷ parts.rest) = (
      last_places _ (line n) (subst (λ l. EndsWith l (line n)) (sym last) parts.end),
      hangs_longer n.above (line node) parts.rest (record { front = x ∷ n.context ∷ []; whole = refl }) parts.rest_hangs,
    ) in
    record {
      front = front;
      back = parts.rest;
      whole = whole;
      after = ap (λ l. insert l (place_in (Some p) x ns) (new_node (Some p) x ns)) whole
          ∙ insert_seam front parts.rest (place_in (Some p) x ns) (new_node (Some p) x ns) place;
      hangs = subst (λ l. Hangs [] (front ++ (record { context = x; above = l }) ∷ parts.rest)) (sym above)
          (hangs_joined [] front (node ∷ parts.rest) front_hangs back_hangs);
      behind = λ q f. subst (λ z. list_any (is_in z) parts.rest ≡ false) (some_is f) parts.none_behind;
      nearest = λ y. ap (λ l. option_map_or (same_context y) (slice_get l 0) false) above
          ∙ ap (same_context y) (sym (same_equal p n.context parts.here));
    }
  where
    some_is : {a b : ContextId} → Some a ≡ Some b → a ≡ b
    some_is f = cc

-- the first node, if there is one, is top-level
abbrev BeginsAtTop : List Node → Type 0
BeginsAtTop [] = ⊤
BeginsAtTop (n ∷ ns) = n.above ≡ []

top_alone : (n : Node) → is_top n ≡ true → n.above ≡ []
top_alone n h = by n.above h
  where
    by : (l : List ContextId) → not (is_some (slice_get l 0)) ≡ true → l ≡ []
    by [] h = refl
    by (c ∷ l) h = cc

begins_behind : (q : Node → Bool) → ((n : Node) → q n ≡ true → n.above ≡ []) → (ns : List Node) → BeginsAtTop (drop (position_or_len q ns) ns)
begins_behind q tops [] = tt
begins_behind q tops (n ∷ ns) = by (q n) refl (begins_behind q tops ns)
  where
    by : (b : Bool) → q n ≡ b → BeginsAtTop (drop (position_or_len q ns) ns)
        → BeginsAtTop (drop (cond (not b) (1 + position_or_len q ns) 0) (n ∷ ns))
    by true e more = tops n e
    by false e more = subst (λ k. BeginsAtTop (drop k (n ∷ ns))) (sym (one-add (position_or_len q ns))) more

-- what begins at the top hangs from nothing
hangs_alone : (before : List ContextId) (ns : List Node) → BeginsAtTop ns → Hangs before ns → Hangs [] ns
hangs_alone before [] top h = tt
hangs_alone before (n ∷ ns) top h =
    (subst (λ l. l ≡ drop (0 - length l) []) (sym top) refl, h.1)

attached_at_top : (x : ContextId) (ns : List Node) → IsTree ns → Attached None x ns
attached_at_top x ns t =
    let q : Node → Bool = λ n. is_top n && is_less x n.context in
    let k : ℕ = position_or_len q ns in
    let whole : ns ≡ take k ns ++ drop k ns = sym (take-append-drop k ns) in
    let parted = hangs_parted [] (take k ns) (drop k ns) (subst (Hangs []) whole t.hangs) in
    let tops : (n : Node) → q n ≡ true → n.above ≡ [] = λ n h. top_alone n (both_hold (is_top n) (is_less x n.context) h).0 in
    let alone : Hangs [] (drop k ns) = hangs_alone _ (drop k ns) (begins_behind q tops ns) parted.1 in
    record {
      front = take k ns;
      back = drop k ns;
      whole = whole;
      after = refl;
      hangs = hangs_joined [] (take k ns) (new_node None x ns ∷ drop k ns) parted.0 (
        last_places _ [] (record { front = line_behind [] (take k ns); whole = sym (append-nil _) }),
        hangs_longer [] (x ∷ []) (drop k ns) (record { front = x ∷ []; whole = refl }) alone,
      );
      behind = λ p f. cc;
      nearest = λ y. refl;
    }

-- what is wrong
pub is_known : (parent : Option ContextId) (x : ContextId) (ns : List Node) → is_held x ns ≡ true → refusal parent x ns ≡ Some Known
is_known parent x ns h = ap (λ b. if b then Some Known else if is_missing parent ns then Some NoParent else None) h

pub has_no_parent : (parent : Option ContextId) (x : ContextId) (ns : List Node) → is_held x ns ≡ false → is_missing parent ns ≡ true
    → refusal parent x ns ≡ Some NoParent
has_no_parent parent x ns h k =
    ap (λ b. if b then Some Known else if is_missing parent ns then Some NoParent else None) h
    ∙ ap (λ b. if b then Some NoParent else None) k

pub is_allowed : (parent : Option ContextId) (x : ContextId) (ns : List Node) → is_held x ns ≡ false → is_missing parent ns ≡ false
    → refusal parent x ns ≡ None
is_allowed parent x ns h k =
    ap (λ b. if b then Some Known else if is_missing parent ns then Some NoParent else None) h
    ∙ ap (λ b. if b then Some NoParent else None) k

-- what it means that nothing is wrong
pub allowed : (parent : Option ContextId) (x : ContextId) (ns : List Node) → refusal parent x ns ≡ None
    → (is_held x ns ≡ false) × (is_missing parent ns ≡ false)
allowed parent x ns h = by (is_held x ns) (is_missing parent ns) h
  where
    by : (a b : Bool) → (if a then Some Known else if b then Some NoParent else None) ≡ None → (a ≡ false) × (b ≡ false)
    by false false h = (refl, refl)
    by false true h = cc
    by true b h = cc

-- a context whose parent isn't missing can be attached
pub attached : (ns : List Node) → IsTree ns → (parent : Option ContextId) (x : ContextId) → is_missing parent ns ≡ false → Attached parent x ns
attached ns t None x h = attached_at_top x ns t
attached ns t (Some p) x h = by (node_of p ns) refl h
  where
    by : (o : Option Node) → node_of p ns ≡ o → not (is_some o) ≡ false → Attached (Some p) x ns
    by None e h = cc
    by (Some n) e h = attached_below p x ns n e (parts_of p ns t n e)

-- and the top-level ids rise
after_rises : (ns : List Node) → IsTree ns → (parent : Option ContextId) (x : ContextId) → is_held x ns ≡ false → is_missing parent ns ≡ false
    → TopsRise (nodes_after parent x ns)
after_rises ns t None x new there =
    rises_put_top (new_node None x ns) ns (sym (held_among x ns) ∙ new) t.rises
    (subst TopsRise (sym (take-append-drop (place_in None x ns) ns)) t.rises)
after_rises ns t (Some p) x new there =
    let a = attached ns t (Some p) x there in
    subst TopsRise (sym a.after)
    (rises_put_below a.front (new_node (Some p) x ns) a.back (below (node_of p ns) there) (subst TopsRise a.whole t.rises))
  where
    below : (o : Option Node) → not (is_some o) ≡ false → is_none (slice_get (unwrap_or (option_map line o) []) 0) ≡ false
    below None h = cc
    below (Some n) h = refl

-- a tree with a new context attached is a tree
pub after_tree : (ns : List Node) → IsTree ns → (parent : Option ContextId) (x : ContextId) → is_held x ns ≡ false → is_missing parent ns ≡ false
    → IsTree (nodes_after parent x ns)
after_tree ns t parent x new there =
    let a = attached ns t parent x there in
    subst IsTree (sym a.after) (record {
      hangs = a.hangs;
      distinct = distinct_put a.front (new_node parent x ns) a.back
          (ap (λ l. list_any (same_context x) (contexts l)) (sym a.whole) ∙ sym (held_among x ns) ∙ new)
          (subst (λ l. IsDistinct same_context (contexts l)) a.whole t.distinct);
      rises = subst TopsRise a.after (after_rises ns t parent x new there);
    })

-- who is found beside a node put in
found_put : (y : ContextId) (front : List Node) (n : Node) (back : List Node) → list_any (same_context n.context) (contexts front) ≡ false
    → node_of y (front ++ n ∷ back) ≡ cond (same_context y n.context) (Some n) (node_of y (front ++ back))
found_put y [] n back h = refl
found_put y (m ∷ front) n back h =
    let parts = both_fail (same_context n.context m.context) (list_any (same_context n.context) (contexts front)) h in
    by (is_at y m) (is_at y n) refl refl parts.0 (found_put y front n back parts.1)
  where
    by : (a b : Bool) → is_at y m ≡ a → is_at y n ≡ b → same_context n.context m.context ≡ false
        → node_of y (front ++ n ∷ back) ≡ cond b (Some n) (node_of y (front ++ back))
        → cond a (Some m) (node_of y (front ++ n ∷ back)) ≡ cond b (Some n) (cond a (Some m) (node_of y (front ++ back)))
    by false b e f apart more = more
    by true false e f apart more = refl
    by true true e f apart more =
        absurd (no (sym apart ∙ ap (λ z. same_context z m.context) (sym (same_equal y n.context f)) ∙ e))
      where
        no : false ≡ true → ⊥
        no h = cc

-- who is found after a context was attached
pub found_after : (ns : List Node) → IsTree ns → (parent : Option ContextId) (x y : ContextId) → is_held x ns ≡ false → is_missing parent ns ≡ false
    → node_of y (nodes_after parent x ns) ≡ cond (same_context y x) (Some (new_node parent x ns)) (node_of y ns)
found_after ns t parent x y new there =
    let a = attached ns t parent x there in
    let none : list_any (same_context x) (contexts (a.front ++ a.back)) ≡ false =
    ap (λ l. list_any (same_context x) (contexts l)) (sym a.whole) ∙ sym (held_among x ns) ∙ new in
    ap (node_of y) a.after
    ∙ found_put y a.front (new_node parent x ns) a.back (none_in_front (same_context x) a.front a.back none)
    ∙ ap (λ l. cond (same_context y x) (Some (new_node parent x ns)) (node_of y l)) (sym a.whole)

-- a child hangs below its parent
pub child_below : (y : ContextId) (n : Node) → is_in y n ≡ false → is_child y n ≡ false
child_below y n h = by n.above (both_fail (is_at y n) (is_below y n) h).1
  where
    by : (l : List ContextId) → list_any (same_context y) l ≡ false → option_map_or (same_context y) (slice_get l 0) false ≡ false
    by [] h = refl
    by (c ∷ l) h = (both_fail (same_context y c) (list_any (same_context y) l) h).0

pub no_children : (y : ContextId) (ns : List Node) → list_any (is_in y) ns ≡ false → list_any (is_child y) ns ≡ false
no_children y [] h = refl
no_children y (n ∷ ns) h =
    let parts = both_fail (is_in y n) (list_any (is_in y) ns) h in either_fails (child_below y n parts.0) (no_children y ns parts.1)

-- a given parent
given : (y : ContextId) (parent : Option ContextId) → option_map_or (same_context y) parent false ≡ true
    → (p : ContextId) × (parent ≡ Some p) × (y ≡ p)
given y None h = cc
given y (Some p) h = (p, refl, same_equal y p h)

-- whose child an attached context is
pub children_after : (ns : List Node) → IsTree ns → (parent : Option ContextId) (x y : ContextId) → is_missing parent ns ≡ false
    → children y (nodes_after parent x ns) ≡ children y ns ++ cond (option_map_or (same_context y) parent false) (x ∷ []) []
children_after ns t parent x y there =
    ap (children y) a.after ∙ by (option_map_or (same_context y) parent false) refl
    ∙ ap (λ l. children y l ++ cond (option_map_or (same_context y) parent false) (x ∷ []) []) (sym a.whole)
  where
    a : Attached parent x ns
    a = attached ns t parent x there

    c : Node → Bool
    c = is_child y

    node : Node
    node = new_node parent x ns

    joined : children y (a.front ++ node ∷ a.back) ≡ contexts (filter c a.front ++ cond (c node) (node ∷ filter c a.back) (filter c a.back))
    joined = ap contexts (filter-append c a.front (node ∷ a.back))

    before : children y (a.front ++ a.back) ≡ contexts (filter c a.front ++ filter c a.back)
    before = ap contexts (filter-append c a.front a.back)

    by : (b : Bool) → option_map_or (same_context y) parent false ≡ b
        → children y (a.front ++ node ∷ a.back) ≡ children y (a.front ++ a.back) ++ cond b (x ∷ []) []
    by false e =
        joined ∙ ap (λ b. contexts (filter c a.front ++ cond b (node ∷ filter c a.back) (filter c a.back))) (a.nearest y ∙ e)
        ∙ sym before ∙ sym (append-nil (children y (a.front ++ a.back)))
    by true e =
        let own = given y parent e in
        let none : filter c a.back ≡ [] =
        filter_none c a.back (no_children y a.back (ap (λ z. list_any (is_in z) a.back) own.2 ∙ a.behind own.0 own.1)) in
        joined ∙ ap (λ b. contexts (filter c a.front ++ cond b (node ∷ filter c a.back) (filter c a.back))) (a.nearest y ∙ e)
        ∙ ap (λ l. contexts (filter c a.front ++ node ∷ l)) none
        ∙ map-append (λ n. n.context) (filter c a.front) (node ∷ [])
        ∙ ap (λ l. l ++ x ∷ [])
        (sym (before ∙ ap (λ l. contexts (filter c a.front ++ l)) none ∙ ap contexts (append-nil (filter c a.front))))
