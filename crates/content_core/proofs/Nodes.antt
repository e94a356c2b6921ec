-- What a tree answers behind a context that came, and behind one that went.
use Rattle.std.proofs.Common.{◌≡◌, ◌∙◌, refl, sym, ap, ap₂, ℕ, ◌+◌, Bool, true, false, not, ◌&&◌, ◌||◌, cond, if◌then◌else◌, List, [], ◌∷◌, ◌++◌, length, filter, take, drop, Option, None, Some}
use Rattle.std.proofs.lemmas.List.{map-append, length-map}
use Rattle.std.specs.Prelude.{is_some, is_none, insert, option_and_then, slice_get, unwrap_or}
use Rattle.std.specs.List.{list_any, position_or_len}
use Rattle.std.specs.Option.{option_map, option_map_or}
use Rattle.fission_ids.specs.declared.context.ContextId.{ContextId}
use Rattle.fission_ids.specs.Ids.{same_context}
use Rattle.context_tree.specs.Node.{Node, line, parent_of, is_top, is_in}
use Rattle.context_tree.specs.Tree.{IsTree, contexts, node_of, is_held, parent_in, is_under, is_less, is_missing, line_above, subtree, without, place_in, nodes_after}
use Rattle.context_tree.proofs.Ancestors.{AllFound, all_found, found_is}
use Rattle.context_tree.proofs.Changes.{found_after, found_without, new_node}
use Rattle.context_tree.proofs.Same.{same_equal, same_swapped}
use Rattle.context_tree.proofs.Spans.{take_of_map, drop_of_map, index_is}
use Rattle.protocol.specs.Questions.{option_any}
use Rattle.protocol.specs.SeenAfter.{is_greater}

-- ---- tests of nodes, and tests of their ids that agree with them

module _ (all : List Node) (r : Node → Bool) (q : ContextId → Bool) (agree : (n : Node) → node_of n.context all ≡ Some n → q n.context ≡ r n) where
  along_position : (ns : List Node) → AllFound all ns → position_or_len r ns ≡ position_or_len q (contexts ns)
  along_position [] found = refl
  along_position (n ∷ ns) found =
      ap₂ (λ (b : Bool) (k : ℕ). cond (not b) (1 + k) 0) (sym (agree n found.0)) (along_position ns found.1)

  along_filter : (ns : List Node) → AllFound all ns → contexts (filter r ns) ≡ filter q (contexts ns)
  along_filter [] found = refl
  along_filter (n ∷ ns) found =
      by (r n)
      ∙ ap₂ (λ (b : Bool) (xs : List ContextId). cond b (n.context ∷ xs) xs) (sym (agree n found.0)) (along_filter ns found.1)
    where
      by : (b : Bool) → contexts (cond b (n ∷ filter r ns) (filter r ns)) ≡ cond b (n.context ∷ contexts (filter r ns)) (contexts (filter r ns))
      by true = refl
      by false = refl

-- ---- the order

-- where a context goes, by the answers alone
abbrev pub place_by_answers : Option ContextId → ContextId → List Node → ℕ
place_by_answers None x ns = position_or_len (λ y. is_none (parent_in y ns) && is_greater y x) (contexts ns)
place_by_answers (Some p) x ns =
    position_or_len (same_context p) (contexts ns) + length (filter (λ y. is_under y p ns) (contexts ns))

place_is : (parent : Option ContextId) (x : ContextId) (ns : List Node) → IsTree ns → place_in parent x ns ≡ place_by_answers parent x ns
place_is None x ns t =
    along_position ns (λ n. is_top n && is_less x n.context) (λ y. is_none (parent_in y ns) && is_greater y x)
    (λ n found. ap (λ (o : Option Node). is_none (option_and_then parent_of o) && is_less x n.context) found)
    ns (all_found ns t.distinct)
place_is (Some p) x ns t =
    ap₂ (λ (k l : ℕ). k + l) (sym (index_is p ns))
    (sym (length-map (subtree p ns) (λ n. n.context))
    ∙ ap length (along_filter ns (is_in p) (λ y. is_under y p ns) (λ n found. ap (λ (o : Option Node). option_map_or (is_in p) o false) found) ns (all_found ns t.distinct)))

-- the ids of the nodes with one put in
contexts_put : (ns : List Node) (k : ℕ) (n : Node) → contexts (insert ns k n) ≡ insert (contexts ns) k n.context
contexts_put ns k n =
    map-append (λ m. m.context) (take k ns) (n ∷ drop k ns)
    ∙ ap₂ (λ (xs ys : List ContextId). xs ++ n.context ∷ ys) (sym (take_of_map (λ m. m.context) k ns)) (sym (drop_of_map (λ m. m.context) k ns))

pub order_put : (parent : Option ContextId) (x : ContextId) (ns : List Node) → IsTree ns → contexts (nodes_after parent x ns) ≡ insert (contexts ns) (place_by_answers parent x ns) x
order_put parent x ns t =
    contexts_put ns (place_in parent x ns) (new_node parent x ns)
    ∙ ap (λ (k : ℕ). insert (contexts ns) k x) (place_is parent x ns t)

pub order_left : (x : ContextId) (ns : List Node) → IsTree ns → contexts (without x ns) ≡ filter (λ y. not (is_under y x ns)) (contexts ns)
order_left x ns t =
    along_filter ns (λ n. not (is_in x n)) (λ y. not (is_under y x ns))
    (λ n found. ap (λ (o : Option Node). not (option_map_or (is_in x) o false)) found) ns (all_found ns t.distinct)

-- ---- behind a context that came

module _ (parent : Option ContextId) (x : ContextId) (ns : List Node) (t : IsTree ns) (new : is_held x ns ≡ false) (there : is_missing parent ns ≡ false) where
  abbrev after : List Node
  after = nodes_after parent x ns

  found : (y : ContextId) → node_of y after ≡ cond (same_context y x) (Some (new_node parent x ns)) (node_of y ns)
  found y = found_after ns t parent x y new there

  pub held_put : (y : ContextId) → is_held y after ≡ (if same_context y x then true else is_held y ns)
  held_put y = ap is_some (found y) ∙ by (same_context y x)
    where
      by : (b : Bool) → is_some (cond b (Some (new_node parent x ns)) (node_of y ns)) ≡ (if b then true else is_held y ns)
      by true = refl
      by false = refl

  -- the nearest above is the parent
  nearest : (o : Option ContextId) → is_missing o ns ≡ false → slice_get (line_above o ns) 0 ≡ o
  nearest None is = refl
  nearest (Some p) is = by (node_of p ns) refl is
    where
      by : (o : Option Node) → node_of p ns ≡ o → not (is_some o) ≡ false → slice_get (unwrap_or (option_map line o) []) 0 ≡ Some p
      by None e h = absurd (cc)
      by (Some n) e h = ap Some (sym (found_is p ns n e))

  pub above_put : (y : ContextId) → parent_in y after ≡ (if same_context y x then parent else parent_in y ns)
  above_put y = ap (option_and_then parent_of) (found y) ∙ by (same_context y x)
    where
      by : (b : Bool) → option_and_then parent_of (cond b (Some (new_node parent x ns)) (node_of y ns)) ≡ (if b then parent else parent_in y ns)
      by true = nearest parent there
      by false = refl

  -- who is above is who is above the parent, or the parent
  below : (o : Option ContextId) (z : ContextId) → list_any (same_context z) (line_above o ns) ≡ option_any (λ a. is_under a z ns) o
  below None z = refl
  below (Some a) z = by (node_of a ns)
    where
      by : (o : Option Node) → list_any (same_context z) (unwrap_or (option_map line o) []) ≡ option_map_or (is_in z) o false
      by None = refl
      by (Some n) = refl

  pub under_put : (y z : ContextId) → is_under y z after
      ≡ (if same_context y x then same_context y z || option_any (λ a. is_under a z ns) parent else is_under y z ns)
  under_put y z = ap (λ (o : Option Node). option_map_or (is_in z) o false) (found y) ∙ by (same_context y x) refl
    where
      by : (b : Bool) → same_context y x ≡ b → option_map_or (is_in z) (cond b (Some (new_node parent x ns)) (node_of y ns)) false
          ≡ (if b then same_context y z || option_any (λ a. is_under a z ns) parent else is_under y z ns)
      by true same =
          ap₂ (λ (b c : Bool). b || c) (same_swapped z x ∙ ap (λ (w : ContextId). same_context w z) (sym (same_equal y x same))) (below parent z)
      by false other = refl

-- ---- behind a context that went

module _ (x : ContextId) (ns : List Node) (t : IsTree ns) where
  left : (y : ContextId) → node_of y (without x ns) ≡ (if is_under y x ns then None else node_of y ns)
  left y = found_without x y ns t.distinct

  pub held_left : (y : ContextId) → is_held y (without x ns) ≡ (if is_under y x ns then false else is_held y ns)
  held_left y = ap is_some (left y) ∙ by (is_under y x ns)
    where
      by : (b : Bool) → is_some (if b then None else node_of y ns) ≡ (if b then false else is_held y ns)
      by true = refl
      by false = refl

  pub above_left : (y : ContextId) → parent_in y (without x ns) ≡ (if is_under y x ns then None else parent_in y ns)
  above_left y = ap (option_and_then parent_of) (left y) ∙ by (is_under y x ns)
    where
      by : (b : Bool) → option_and_then parent_of (if b then None else node_of y ns) ≡ (if b then None else parent_in y ns)
      by true = refl
      by false = refl

  pub under_left : (y z : ContextId) → is_under y z (without x ns) ≡ (if is_under y x ns then false else is_under y z ns)
  under_left y z = ap (λ (o : Option Node). option_map_or (is_in z) o false) (left y) ∙ by (is_under y x ns)
    where
      by : (b : Bool) → option_map_or (is_in z) (if b then None else node_of y ns) false ≡ (if b then false else is_under y z ns)
      by true = refl
      by false = refl
