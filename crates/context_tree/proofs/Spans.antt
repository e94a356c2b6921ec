-- What the code finds by ids and depths is what the definitions say of nodes.
use Rattle.std.proofs.Common.{◌≡◌, ℕ, zero, suc, ◌+◌, ◌-◌, ◌<◌, ◌≤◌, Bool, true, false, ◌&&◌, ◌||◌, ◌==◌, cond, not, List, [], ◌∷◌, ◌++◌, length, map, take, drop, nat_lt, refl, sym, ap, ◌∙◌, subst, arith, length-append, append_assoc, add-one, is_some}
use Rattle.std.specs.Prelude.{Some, None, Option, insert, zip, slice_get, slice_range, filter, unwrap_or}
use Rattle.std.specs.List.{prefix_len, position_or_len, remove_range}
use Rattle.std.specs.Map.{lookup}
use Rattle.std.specs.Option.{option_map, option_map_or}
use Rattle.std.proofs.lemmas.Bool.Decides.{nat_tests}
use Rattle.std.proofs.lemmas.List.{map-append}
use Rattle.std.proofs.lemmas.List.Sums.{prefix_len-le-length}
use Rattle.std.proofs.Math.Seq.{drop-append_seam, take-append_seam, drop-append-add}
use Rattle.fission_ids.specs.declared.context.ContextId.{ContextId}
use Rattle.fission_ids.specs.Ids.{same_context}
use Rattle.context_tree.specs.declared.tree.Place.{Place}
use Rattle.context_tree.specs.Node.{Node, line, is_at, is_top, is_in, is_child}
use Rattle.context_tree.specs.Tree.{Hangs, IsTree, contexts, node_of, is_held, subtree, children, is_less, place_in, line_above, is_missing, nodes_after}
use Rattle.context_tree.specs.Places.{entry_of, depth_of, place_of, IsRun, IsUnknown, EndsRun, Keeps, index_of, depth_in}
use Rattle.context_tree.proofs.Lists.{end_short, ends_with_places, filter_none, filter_not_none}
use Rattle.context_tree.proofs.Runs.{line_behind, is_deeper}
use Rattle.context_tree.proofs.Parts.{parts_of, subtree_is, without_is, position_is}
use Rattle.context_tree.proofs.Changes.{unknown, child_below, no_children, new_node, found_after, found_without, after_tree, without_tree}
use Rattle.context_tree.proofs.Same.{same_swapped}
use Rattle.std.specs.List.{list_any}
use Rattle.std.proofs.lemmas.List.{length-map}
use Rattle.std.proofs.lemmas.Option.{slice_get-map}
use Rattle.std.specs.Prelude.{option_and_then}
use Rattle.context_tree.specs.Tree.{without, parent_in, is_under}
use Rattle.context_tree.specs.Node.{parent_of}
use Rattle.context_tree.specs.declared.tree.Run.{Run}
use Rattle.context_tree.proofs.Ancestors.{found_is, AllFound, all_found, under_subtree}
use Rattle.context_tree.proofs.Kept.{zip_entries}

module _ {X : Type 0} (p : X → Bool) where
  pub prefix_of_map : {Y : Type 0} (f : Y → X) (ys : List Y) → prefix_len p (map f ys) ≡ prefix_len (λ y. p (f y)) ys
  prefix_of_map f [] = refl
  prefix_of_map f (y ∷ ys) = ap (λ k. cond (p (f y)) (1 + k) 0) (prefix_of_map f ys)

pub drop_of_map : {X Y : Type 0} (f : X → Y) (k : ℕ) (xs : List X) → drop k (map f xs) ≡ map f (drop k xs)
drop_of_map f zero xs = refl
drop_of_map f (suc k) [] = refl
drop_of_map f (suc k) (x ∷ xs) = drop_of_map f k xs

pub take_of_map : {X Y : Type 0} (f : X → Y) (k : ℕ) (xs : List X) → take k (map f xs) ≡ map f (take k xs)
take_of_map f zero xs = refl
take_of_map f (suc k) [] = refl
take_of_map f (suc k) (x ∷ xs) = ap (λ l. f x ∷ l) (take_of_map f k xs)

pub range_of_map : {X Y : Type 0} (f : X → Y) (xs : List X) (i j : ℕ) → slice_range (map f xs) i j ≡ map f (slice_range xs i j)
range_of_map f xs i j = ap (take (j - i)) (drop_of_map f i xs) ∙ take_of_map f (j - i) (drop i xs)

-- the index among the ids is that among the nodes
pub index_is : (x : ContextId) (ns : List Node) → position_or_len (same_context x) (contexts ns) ≡ index_of x ns
index_is x ns = prefix_of_map (λ y. not (same_context x y)) (λ n. n.context) ns

-- who has a place is held, and its depth is told
pub record HasPlace (x : ContextId) (ns : List Node) (p : Place) : Type 0 where
  pub node : Node
  pub found : node_of x ns ≡ Some node
  pub is : p ≡ place_of node

pub has_place : (x : ContextId) (ns : List Node) (p : Place) → Some p ≡ option_map place_of (node_of x ns) → HasPlace x ns p
has_place x ns p h = by (node_of x ns) refl h
  where
    by : (o : Option Node) → node_of x ns ≡ o → Some p ≡ option_map place_of o → HasPlace x ns p
    by None e h = cc
    by (Some n) e h = record { node = n; found = e; is = cc }

-- who has none isn't held
pub no_place : (x : ContextId) (ns : List Node) → ◌≡◌ {A = Option Place} None (option_map place_of (node_of x ns)) → is_held x ns ≡ false
no_place x ns h = by (node_of x ns) h
  where
    by : (o : Option Node) → ◌≡◌ {A = Option Place} None (option_map place_of o) → is_some o ≡ false
    by None h = refl
    by (Some n) h = cc

-- a line is no longer than the nodes that it goes through
pub line_short : (before : List ContextId) (ns : List Node) → Hangs before ns → length (line_behind before ns) ≤ length before + length ns
line_short before [] h = omega arith
line_short before (n ∷ ns) h =
    let rest = line_short (line n) ns h.1 in
    let own : length n.above ≤ length before = end_short before n.above (ends_with_places before n.above _ h.0) in
    omega (arith, rest, own)

-- the run that is found has the subtree
pub run_is : (x : ContextId) (ns : List Node) → IsTree ns → (n : Node) → node_of x ns ≡ Some n → (deeper : ℕ)
    → deeper ≡ prefix_len (is_deeper (length n.above)) (drop (index_of x ns + 1) ns)
    → IsRun x ns (record { start = index_of x ns; end = index_of x ns + 1 + deeper; depth = length n.above })
run_is x ns t n e deeper k =
    let p = parts_of x ns t n e in
    let front : List Node = p.front ++ n ∷ p.run in
    let index : index_of x ns ≡ length p.front = position_is x n [] ns p in
    let size : length front ≡ length p.front + suc (length p.run) = length-append p.front (n ∷ p.run) in
    let whole : ns ≡ front ++ p.rest = p.whole ∙ sym (append_assoc p.front (n ∷ p.run) p.rest) in
    let all : length ns ≡ length front + length p.rest = ap length whole ∙ length-append front p.rest in
    let at : drop (length p.front) ns ≡ n ∷ (p.run ++ p.rest) =
    ap (drop (length p.front)) p.whole ∙ drop-append_seam p.front (n ∷ (p.run ++ p.rest)) in
    let behind : drop (index_of x ns + 1) ns ≡ p.run ++ p.rest =
    ap (λ i. drop (i + 1) ns) index ∙ ap (drop (length p.front + 1)) p.whole
    ∙ drop-append-add p.front (n ∷ (p.run ++ p.rest)) 1 in
    let count : deeper ≡ length p.run = k ∙ ap (prefix_len (is_deeper (length n.above))) behind ∙ p.count in
    let last : index_of x ns + 1 + deeper ≡ length front = omega (arith, index, size, count) in
    let inside : length front - length p.front ≡ length (n ∷ p.run) = omega (arith, size) in
    let above : length n.above ≤ length p.front =
    let line : length n.above ≤ length (line_behind [] p.front) = end_short (line_behind [] p.front) n.above p.hangs in
    omega (arith, line, line_short [] p.front p.front_hangs) in
    record {
      held = ap is_some e;
      ordered = omega arith;
      within = omega (arith, last, all);
      inside =
          (λ j. slice_range ns (index j) (last j)) ∙ ap (λ l. take (length front - length p.front) l) at
          ∙ ap (λ k. take k (n ∷ (p.run ++ p.rest))) inside ∙ take-append_seam (n ∷ p.run) p.rest ∙ sym (subtree_is x n [] ns p);
      outside =
          (λ j. remove_range ns (index j) (last j))
          ∙ ap (λ l. l ++ drop (length front) ns) (ap (take (length p.front)) p.whole ∙ take-append_seam p.front (n ∷ (p.run ++ p.rest)))
          ∙ ap (λ l. p.front ++ l) (ap (drop (length front)) whole ∙ drop-append_seam front p.rest)
          ∙ sym (without_is x n [] ns p);
      behind = let sub : length (subtree x ns) ≡ suc (length p.run) = ap length (subtree_is x n [] ns p) in omega (arith, sub, count);
      depth = sym (ap (λ o. option_map_or (λ m. length m.above) o 0) e);
      shallow = omega (arith, above, index);
    }

pub is_unknown : (x : ContextId) (ns : List Node) → IsTree ns → is_held x ns ≡ false → IsUnknown x ns
is_unknown x ns t h =
    let none = unknown x ns t h in
    record {
      held = h;
      inside = filter_none (is_in x) ns none;
      outside = filter_not_none (is_in x) ns none;
      childless = ap contexts (filter_none (is_child x) ns (no_children x ns none));
    }

pub run_found : (x : ContextId) (ns : List Node) → IsTree ns → (p : Place) → Some p ≡ option_map place_of (node_of x ns)
    → (start deeper : ℕ) → start ≡ index_of x ns → deeper ≡ prefix_len (nat_lt p.depth) (drop (start + 1) (map depth_of ns))
    → IsRun x ns (record { start = start; end = start + 1 + deeper; depth = p.depth })
run_found x ns t p h start deeper first k =
    let own = has_place x ns p h in
    let n : Node = own.node in
    let second : p.depth ≡ length n.above = ap (λ q. q.depth) own.is in
    let count : deeper ≡ prefix_len (is_deeper (length n.above)) (drop (index_of x ns + 1) ns) =
    k ∙ (λ j. prefix_len (nat_lt (second j)) (drop (first j + 1) (map depth_of ns)))
    ∙ ap (prefix_len (nat_lt (length n.above))) (drop_of_map depth_of (index_of x ns + 1) ns)
    ∙ prefix_of_map (nat_lt (length n.above)) depth_of (drop (index_of x ns + 1) ns) in
    subst (λ i. IsRun x ns (record { start = i; end = i + 1 + deeper; depth = p.depth })) (sym first)
    (subst (λ d. IsRun x ns (record { start = index_of x ns; end = index_of x ns + 1 + deeper; depth = d })) (sym second)
    (run_is x ns t n own.found deeper count))

-- an id that is found stands within the nodes
pub index_within : (x : ContextId) (ns : List Node) (n : Node) → node_of x ns ≡ Some n → index_of x ns < length ns
index_within x [] n e = cc
index_within x (m ∷ ms) n e = step (is_at x m) e (index_within x ms n)
  where
    step : (b : Bool) → cond b (Some m) (node_of x ms) ≡ Some n → (node_of x ms ≡ Some n → index_of x ms < length ms)
        → cond (not b) (1 + index_of x ms) 0 < suc (length ms)
    step true e more = omega arith
    step false e more = let h = more e in omega (arith, h)

-- what a run tells of its end
pub run_ends : (x : ContextId) (ns : List Node) (start end depth : ℕ) → IsRun x ns (record { start = start; end = end; depth = depth })
    → EndsRun x ns end depth
run_ends x ns start end depth r = record { held = r.held; behind = r.behind; above = r.depth; shallow = r.shallow }

-- the depth of a place and whether it is at the top
same_top : (n : Node) → (length n.above == 0) ≡ is_top n
same_top n = by n.above
  where
    by : (l : List ContextId) → (length l == 0) ≡ not (is_some (slice_get l 0))
    by [] = refl
    by (c ∷ l) = let more : (suc (length l) == 0) ≡ false = grind (arith, nat_tests) in more

pub top_place_is : (x : ContextId) (ns : List Node)
    → position_or_len (λ e. e.1 == 0 && is_less x e.0) (zip (contexts ns) (map depth_of ns)) ≡ place_in None x ns
top_place_is x ns =
    ap (position_or_len (λ e. e.1 == 0 && is_less x e.0)) (zip_entries ns)
    ∙ prefix_of_map (λ e. not (e.1 == 0 && is_less x e.0)) entry_of ns
    ∙ (λ j. prefix_len (λ n. not (same_top n j && is_less x n.context)) ns)

-- how deep a child of p is
pub depth_below : (p : ContextId) (ns : List Node) → is_held p ns ≡ true → depth_in p ns + 1 ≡ length (line_above (Some p) ns)
depth_below p ns h = by (node_of p ns) h
  where
    by : (o : Option Node) → is_some o ≡ true → option_map_or (λ n. length n.above) o 0 + 1 ≡ length (unwrap_or (option_map line o) [])
    by None h = cc
    by (Some n) h = add-one (length n.above)

-- whether x is the parent of the context c
abbrev pub has_parent : List Node → ContextId → ContextId → Bool
has_parent ns x c = option_map_or (same_context x) (parent_in c ns) false

-- of one that is found by its id, the parent by the id is its parent
pub parent_of_found : (ns : List Node) (x : ContextId) (n : Node) → node_of n.context ns ≡ Some n → has_parent ns x n.context ≡ is_child x n
parent_of_found ns x n e = ap (λ o. option_map_or (same_context x) (option_and_then parent_of o) false) e

-- the children among nodes that are found by their ids
children_found : (ns : List Node) (x : ContextId) (ms : List Node) → AllFound ns ms
    → filter (has_parent ns x) (contexts ms) ≡ children x ms
children_found ns x [] f = refl
children_found ns x (m ∷ ms) f =
    (λ j. cond (parent_of_found ns x m f.0 j) (m.context ∷ children_found ns x ms f.1 j) (children_found ns x ms f.1 j))
    ∙ by (is_child x m)
  where
    by : (b : Bool) → cond b (m.context ∷ children x ms) (children x ms) ≡ contexts (cond b (m ∷ filter (is_child x) ms) (filter (is_child x) ms))
    by true = refl
    by false = refl

found_among : (ns : List Node) (k : ℕ) (ms : List Node) → AllFound ns ms → AllFound ns (drop k ms)
found_among ns zero ms f = f
found_among ns (suc k) [] f = tt
found_among ns (suc k) (m ∷ ms) f = found_among ns k ms f.1

found_first : (ns : List Node) (k : ℕ) (ms : List Node) → AllFound ns ms → AllFound ns (take k ms)
found_first ns zero ms f = tt
found_first ns (suc k) [] f = tt
found_first ns (suc k) (m ∷ ms) f = (f.0, found_first ns k ms f.1)

-- the children among a run
pub children_of_run : (ns : List Node) → IsTree ns → (x : ContextId) (i j : ℕ)
    → filter (has_parent ns x) (slice_range (contexts ns) i j) ≡ children x (slice_range ns i j)
children_of_run ns t x i j =
    ap (filter (has_parent ns x)) (range_of_map (λ n. n.context) ns i j)
    ∙ children_found ns x (slice_range ns i j) (found_first ns (j - i) (drop i ns) (found_among ns i ns (all_found ns t.distinct)))

found_at : (ns : List Node) (ms : List Node) → AllFound ns ms → (k : ℕ) (n : Node) → slice_get ms k ≡ Some n → node_of n.context ns ≡ Some n
found_at ns [] f k n e = cc
found_at ns (m ∷ ms) f zero n e = let same : m ≡ n = cc in subst (λ q. node_of q.context ns ≡ Some q) same f.0
found_at ns (m ∷ ms) f (suc k) n e = found_at ns ms f.1 k n e

-- whether the last id is directly in x
pub last_child : (ns : List Node) → IsTree ns → (x c : ContextId) → Some c ≡ slice_get (contexts ns) (length (contexts ns) - 1)
    → same_context x c ≡ false
    → has_parent ns x c ≡ option_map_or (λ n. is_at x n || is_child x n) (slice_get ns (length ns - 1)) false
last_child ns t x c h away = by (slice_get ns (length ns - 1)) refl at
  where
    at : Some c ≡ option_map (λ n. n.context) (slice_get ns (length ns - 1))
    at = h ∙ ap (λ k. slice_get (contexts ns) (k - 1)) (length-map ns (λ n. n.context)) ∙ slice_get-map (λ n. n.context) ns (length ns - 1)

    by : (o : Option Node) → slice_get ns (length ns - 1) ≡ o → Some c ≡ option_map (λ n. n.context) o
        → has_parent ns x c ≡ option_map_or (λ n. is_at x n || is_child x n) o false
    by None e g = cc
    by (Some n) e g =
        let same : c ≡ n.context = cc in
        ap (has_parent ns x) same ∙ parent_of_found ns x n (found_at ns ns (all_found ns t.distinct) (length ns - 1) n e)
        ∙ sym (ap (λ b. b || is_child x n) (ap (same_context x) (sym same) ∙ away))

-- all children are in the subtree
pub children_in_subtree : (x : ContextId) (ns : List Node) → children x (subtree x ns) ≡ children x ns
children_in_subtree x [] = refl
children_in_subtree x (n ∷ ns) = by (is_in x n) (is_child x n) refl refl (children_in_subtree x ns)
  where
    by : (a b : Bool) → is_in x n ≡ a → is_child x n ≡ b → children x (subtree x ns) ≡ children x ns
        → children x (cond a (n ∷ subtree x ns) (subtree x ns)) ≡ contexts (cond b (n ∷ filter (is_child x) ns) (filter (is_child x) ns))
    by false false e f more = more
    by false true e f more = absurd (no (sym f ∙ child_below x n e))
      where
        no : true ≡ false → ⊥
        no h = cc
    by true false e f more = ap (λ b. contexts (cond b (n ∷ filter (is_child x) (subtree x ns)) (filter (is_child x) (subtree x ns)))) f ∙ more
    by true true e f more =
        ap (λ b. contexts (cond b (n ∷ filter (is_child x) (subtree x ns)) (filter (is_child x) (subtree x ns)))) f
        ∙ ap (λ l. n.context ∷ l) more

-- a parent that is held is the nearest of those above
pub nearest_above : (parent : Option ContextId) (ns : List Node) → is_missing parent ns ≡ false → slice_get (line_above parent ns) 0 ≡ parent
nearest_above None ns h = refl
nearest_above (Some p) ns h = by (node_of p ns) refl h
  where
    by : (o : Option Node) → node_of p ns ≡ o → not (is_some o) ≡ false → slice_get (unwrap_or (option_map line o) []) 0 ≡ Some p
    by None e h = cc
    by (Some n) e h = ap Some (sym (found_is p ns n e))

-- where a context goes is within the nodes
pub place_within : (parent : Option ContextId) (x : ContextId) (ns : List Node) → IsTree ns → is_missing parent ns ≡ false
    → place_in parent x ns ≤ length ns
place_within None x ns t h = prefix_len-le-length _ ns
place_within (Some p) x ns t h = by (node_of p ns) refl h
  where
    by : (o : Option Node) → node_of p ns ≡ o → not (is_some o) ≡ false → place_in (Some p) x ns ≤ length ns
    by None e h = cc
    by (Some n) e h =
        let r = run_is p ns t n e (prefix_len (is_deeper (length n.above)) (drop (index_of p ns + 1) ns)) refl in
        subst (λ k. k ≤ length ns) r.behind r.within

-- what is kept, with one put in
put_mapped : {X : Type 0} (f : Node → X) (ns : List Node) (i : ℕ) (n : Node) → insert (map f ns) i (f n) ≡ map f (insert ns i n)
put_mapped f ns i n =
    ap (λ l. l ++ f n ∷ drop i (map f ns)) (take_of_map f i ns)
    ∙ ap (λ l. map f (take i ns) ++ f n ∷ l) (drop_of_map f i ns)
    ∙ sym (map-append f (take i ns) (n ∷ drop i ns))

-- and with a run taken out
cut_mapped : {X : Type 0} (f : Node → X) (ns : List Node) (i j : ℕ) → remove_range (map f ns) i j ≡ map f (remove_range ns i j)
cut_mapped f ns i j =
    ap (λ l. l ++ drop j (map f ns)) (take_of_map f i ns)
    ∙ ap (λ l. map f (take i ns) ++ l) (drop_of_map f j ns)
    ∙ sym (map-append f (take i ns) (drop j ns))

-- what is kept with a context attached is kept of the tree with it
pub keeps_attached : (ns : List Node) (ids : List ContextId) (depths : List ℕ) (places : List (ContextId × Place)) → Keeps ns ids depths places
    → (parent : Option ContextId) (x : ContextId) (at depth : ℕ) → is_held x ns ≡ false → is_missing parent ns ≡ false
    → at ≡ place_in parent x ns → depth ≡ length (line_above parent ns)
    → (ids2 : List ContextId) (depths2 : List ℕ) (places2 : List (ContextId × Place))
    → ids2 ≡ insert ids at x → depths2 ≡ insert depths at depth
    → ((y : ContextId) → lookup (same_context y) places2
    ≡ cond (same_context x y) (Some (record { parent = parent; depth = depth })) (lookup (same_context y) places))
    → Keeps (nodes_after parent x ns) ids2 depths2 places2
keeps_attached ns ids depths places k parent x at depth free there place deep ids2 depths2 places2 i d p = record {
  ids_tied = i ∙ (λ j. insert (k.ids_tied j) (place j) x) ∙ put_mapped (λ n. n.context) ns (place_in parent x ns) (new_node parent x ns);
  depths_tied = d ∙ (λ j. insert (k.depths_tied j) (place j) (deep j)) ∙ put_mapped depth_of ns (place_in parent x ns) (new_node parent x ns);
  by_key = λ y. p y ∙ (λ j. cond (same_swapped x y j) (Some (new_place j)) (k.by_key y j)) ∙ by y (same_context y x)
      ∙ sym (ap (option_map place_of) (found_after ns k.tree parent x y free there));
  tree = after_tree ns k.tree parent x free there;
}
  where
    new_place : ◌≡◌ {A = Place} (record { parent = parent; depth = depth }) (place_of (new_node parent x ns))
    new_place = (λ j. record { parent = sym (nearest_above parent ns there) j; depth = deep j })

    by : (y : ContextId) (b : Bool) → cond b (Some (place_of (new_node parent x ns))) (option_map place_of (node_of y ns))
        ≡ option_map place_of (cond b (Some (new_node parent x ns)) (node_of y ns))
    by y true = refl
    by y false = refl

-- and without one
pub keeps_without : (ns : List Node) (ids : List ContextId) (depths : List ℕ) (places : List (ContextId × Place)) → Keeps ns ids depths places
    → (x : ContextId) (r : Run) → IsRun x ns r → (gone : List ContextId) → gone ≡ contexts (subtree x ns)
    → (ids2 : List ContextId) (depths2 : List ℕ) (places2 : List (ContextId × Place))
    → ids2 ≡ remove_range ids r.start r.end → depths2 ≡ remove_range depths r.start r.end
    → ((y : ContextId) → lookup (same_context y) places2 ≡ cond (list_any (same_context y) gone) None (lookup (same_context y) places))
    → Keeps (without x ns) ids2 depths2 places2
keeps_without ns ids depths places k x r run gone g ids2 depths2 places2 i d p = record {
  ids_tied = i ∙ ap (λ l. remove_range l r.start r.end) k.ids_tied ∙ cut_mapped (λ n. n.context) ns r.start r.end ∙ ap contexts run.outside;
  depths_tied = d ∙ ap (λ l. remove_range l r.start r.end) k.depths_tied ∙ cut_mapped depth_of ns r.start r.end ∙ ap (map depth_of) run.outside;
  by_key = λ y. p y
      ∙ (λ j. cond ((ap (list_any (same_context y)) g ∙ under_subtree y x ns k.tree.distinct) j) None (k.by_key y j)) ∙ by y (is_under y x ns)
      ∙ sym (ap (option_map place_of) (found_without x y ns k.tree.distinct));
  tree = without_tree ns k.tree x;
}
  where
    by : (y : ContextId) (b : Bool) → cond b None (option_map place_of (node_of y ns)) ≡ option_map place_of (cond b None (node_of y ns))
    by y true = refl
    by y false = refl
