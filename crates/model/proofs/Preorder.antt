-- Contexts in pre-order, with what the makings tell above each, are a tree: one more goes behind all that is in the one
-- above it, and is its last child; what goes takes all below it.
use Rattle.std.proofs.Common.{◌≡◌, ℕ, zero, suc, ◌+◌, ◌-◌, Bool, true, false, not, ◌&&◌, ◌||◌, if◌then◌else◌, Option, None, Some, List, [], ◌∷◌, ◌++◌, length, map, filter, take, drop, is_some, refl, ap, ap₂, sym, subst, ◌∙◌, arith, cond}
use Rattle.std.specs.Prelude.{insert, slice_get, unwrap_or, is_none}
use Rattle.std.proofs.lemmas.Bool.Decides.{nat_tests}
use Rattle.std.specs.List.{AllByRecursion, IsDistinct, list_any, position_or_len}
use Rattle.std.specs.Option.{option_map, option_map_or}
use Rattle.std.proofs.lemmas.List.{append-nil, map-append, take-map, drop-map, length-map}
use Rattle.fission_ids.specs.declared.context.ContextId.{ContextId}
use Rattle.fission_ids.specs.Ids.{same_context}
use Rattle.context_tree.specs.Node.{Node, is_at, is_in, is_child, is_top}
use Rattle.context_tree.specs.Tree.{IsTree, Hangs, TopsRise, are_rising, contexts, node_of, is_held, nodes_after, subtree, children, is_less, line_above}
use Rattle.context_tree.proofs.Changes.{after_tree, children_after, found_after, without_tree}
use Rattle.context_tree.proofs.Distinct.{held_among, distinct_cons, distinct_none}
use Rattle.context_tree.proofs.Lists.{last_places}
use Rattle.protocol.specs.Questions.{option_any}
use Rattle.model.specs.Lines.{Making, line, above_in, is_among}
use Rattle.model.specs.Lines.Making.{Below, Top}
use Rattle.model.proofs.Cases.{true_false, same_context_is, same_itself}
use Rattle.model.proofs.Lining.{Lined, line_top}

-- ---- lists

pub filter_within : (p q : ContextId → Bool) (xs : List ContextId) → ((x : ContextId) → list_any (same_context x) xs ≡ true → p x ≡ q x) → filter p xs ≡ filter q xs
filter_within p q [] same = refl
filter_within p q (x ∷ xs) same =
    ap (λ (b : Bool). cond b (x ∷ filter p xs) (filter p xs)) (same x (ap (λ b. b || list_any (same_context x) xs) (same_itself x)))
    ∙ ap (λ ys. cond (q x) (x ∷ ys) ys) (filter_within p q xs (λ y among. same y (later (same_context y x) (list_any (same_context y) xs) among)))
  where
    later : (a b : Bool) → b ≡ true → (a || b) ≡ true
    later true b e = refl
    later false b e = e

pub filter_all : (P : ContextId → Type 0) (p q : ContextId → Bool) (xs : List ContextId) → AllByRecursion P xs → ((x : ContextId) → P x → p x ≡ q x) → filter p xs ≡ filter q xs
filter_all P p q [] all same = refl
filter_all P p q (x ∷ xs) all same = ap (λ (b : Bool). cond b (x ∷ filter p xs) (filter p xs)) (same x all.0) ∙ ap (λ ys. cond (q x) (x ∷ ys) ys) (filter_all P p q xs all.1 same)

pub filter_twice : (p q : ContextId → Bool) (xs : List ContextId) → filter p (filter q xs) ≡ filter (λ x. p x && q x) xs
filter_twice p q [] = refl
filter_twice p q (x ∷ xs) = by_tests (p x) refl (q x) (filter_twice p q xs)
  where
    by_tests : (a : Bool) → p x ≡ a → (b : Bool) → filter p (filter q xs) ≡ filter (λ y. p y && q y) xs → filter p (cond b (x ∷ filter q xs) (filter q xs)) ≡ cond (a && b) (x ∷ filter (λ y. p y && q y) xs) (filter (λ y. p y && q y) xs)
    by_tests true e true more = ap (λ c. cond c (x ∷ filter p (filter q xs)) (filter p (filter q xs))) e ∙ ap (λ ys. x ∷ ys) more
    by_tests true e false more = more
    by_tests false e true more = ap (λ c. cond c (x ∷ filter p (filter q xs)) (filter p (filter q xs))) e ∙ more
    by_tests false e false more = more

and_swapped : (a b : Bool) → (a && b) ≡ (b && a)
and_swapped true true = refl
and_swapped true false = refl
and_swapped false true = refl
and_swapped false false = refl

pub filter_swapped : (p q : ContextId → Bool) (xs : List ContextId) → filter p (filter q xs) ≡ filter q (filter p xs)
filter_swapped p q xs = filter_twice p q xs ∙ filter_within (λ x. p x && q x) (λ x. q x && p x) xs (λ x among. and_swapped (p x) (q x)) ∙ sym (filter_twice q p xs)

pub among_filtered : (p : ContextId → Bool) (x : ContextId) (xs : List ContextId) → list_any (same_context x) (filter p xs) ≡ (list_any (same_context x) xs && p x)
among_filtered p x [] = refl
among_filtered p x (y ∷ xs) = by_test (same_context x y) refl (p y) refl (among_filtered p x xs)
  where
    by_test : (a : Bool) → same_context x y ≡ a → (b : Bool) → p y ≡ b → list_any (same_context x) (filter p xs) ≡ (list_any (same_context x) xs && p x)
        → list_any (same_context x) (cond b (y ∷ filter p xs) (filter p xs)) ≡ ((a || list_any (same_context x) xs) && p x)
    by_test true e true d more = ap (λ c. c || list_any (same_context x) (filter p xs)) e ∙ sym (ap p (same_context_is x y e) ∙ d)
    by_test false e true d more = ap (λ c. c || list_any (same_context x) (filter p xs)) e ∙ more
    by_test true e false d more = more ∙ ap (λ b. list_any (same_context x) xs && b) (ap p (same_context_is x y e) ∙ d) ∙ and_false (list_any (same_context x) xs) ∙ sym (ap p (same_context_is x y e) ∙ d)
      where
        and_false : (a : Bool) → (a && false) ≡ false
        and_false true = refl
        and_false false = refl
    by_test false e false d more = more

pub all_kept : (P : ContextId → Type 0) (p : ContextId → Bool) (xs : List ContextId) → AllByRecursion P xs → AllByRecursion P (filter p xs)
all_kept P p [] all = tt
all_kept P p (x ∷ xs) all = by_test (p x) (all_kept P p xs all.1)
  where
    by_test : (b : Bool) → AllByRecursion P (filter p xs) → AllByRecursion P (cond b (x ∷ filter p xs) (filter p xs))
    by_test true more = (all.0, more)
    by_test false more = more

-- ---- nodes

-- a context with those above it
abbrev pub node : List Making → ContextId → Node
node mk x = record { context = x; above = drop 1 (line x mk) }

abbrev pub nodes : List Making → List ContextId → List Node
nodes mk xs = map (node mk) xs

-- those of these that are right below y
abbrev pub below_of : List Making → ContextId → List ContextId → List ContextId
below_of mk y xs = filter (λ x. option_any (same_context y) (above_in mk x)) xs

-- one that is top-level is right below nothing, wherever it goes
pub below_inserted : (mk : List Making) (y x : ContextId) → above_in mk x ≡ None → (xs : List ContextId) (n : ℕ) → below_of mk y (insert xs n x) ≡ below_of mk y xs
below_inserted mk y x up [] zero = ap (λ (o : Option ContextId). cond (option_any (same_context y) o) (x ∷ []) []) up
below_inserted mk y x up [] (suc n) = ap (λ (o : Option ContextId). cond (option_any (same_context y) o) (x ∷ []) []) up
below_inserted mk y x up (z ∷ xs) zero = ap (λ (o : Option ContextId). cond (option_any (same_context y) o) (x ∷ below_of mk y (z ∷ xs)) (below_of mk y (z ∷ xs))) up
below_inserted mk y x up (z ∷ xs) (suc n) = ap (λ zs. cond (option_any (same_context y) (above_in mk z)) (z ∷ zs) zs) (below_inserted mk y x up xs n)

pub line_first : (mk : List Making) (x : ContextId) → x ∷ drop 1 (line x mk) ≡ line x mk
line_first [] x = refl
line_first (Top y g ∷ mk) x = line_first mk x
line_first (Below y a ∷ mk) x = by_test (same_context x y) (line_first mk x)
  where
    by_test : (b : Bool) → x ∷ drop 1 (line x mk) ≡ line x mk → x ∷ drop 1 (if b then x ∷ line a mk else line x mk) ≡ (if b then x ∷ line a mk else line x mk)
    by_test true more = refl
    by_test false more = more

in_is_among : (mk : List Making) (w x : ContextId) → is_in w (node mk x) ≡ is_among w (line x mk)
in_is_among mk w x = ap (is_among w) (line_first mk x)

pub contexts_are : (mk : List Making) (xs : List ContextId) → contexts (nodes mk xs) ≡ xs
contexts_are mk [] = refl
contexts_are mk (x ∷ xs) = ap (λ ys. x ∷ ys) (contexts_are mk xs)

position_are : (mk : List Making) (a : ContextId) (xs : List ContextId) → position_or_len (is_at a) (nodes mk xs) ≡ position_or_len (same_context a) xs
position_are mk a [] = refl
position_are mk a (x ∷ xs) = ap (λ n. cond (not (same_context a x)) (1 + n) 0) (position_are mk a xs)

-- where a test of nodes says what one of contexts says
position_by : (mk : List Making) (q : Node → Bool) (p : ContextId → Bool) → ((x : ContextId) → q (node mk x) ≡ p x) → (xs : List ContextId) → position_or_len q (nodes mk xs) ≡ position_or_len p xs
position_by mk q p same [] = refl
position_by mk q p same (x ∷ xs) = ap₂ (λ (b : Bool) n. cond (not b) (1 + n) 0) (same x) (position_by mk q p same xs)

pub position_within : (p q : ContextId → Bool) (xs : List ContextId) → ((x : ContextId) → list_any (same_context x) xs ≡ true → p x ≡ q x) → position_or_len p xs ≡ position_or_len q xs
position_within p q [] same = refl
position_within p q (x ∷ xs) same =
    ap₂ (λ (b : Bool) n. cond (not b) (1 + n) 0) (same x (ap (λ b. b || list_any (same_context x) xs) (same_itself x)))
    (position_within p q xs (λ y among. same y (later (same_context y x) (list_any (same_context y) xs) among)))
  where
    later : (a b : Bool) → b ≡ true → (a || b) ≡ true
    later true b e = refl
    later false b e = e

-- behind the last, where none passes
pub position_none : (xs : List ContextId) → position_or_len (λ (x : ContextId). false) xs ≡ length xs
position_none [] = refl
position_none (x ∷ xs) = omega (arith, position_none xs)

filter_nodes : (mk : List Making) (q : Node → Bool) (p : ContextId → Bool) → ((x : ContextId) → q (node mk x) ≡ p x) → (xs : List ContextId) → filter q (nodes mk xs) ≡ nodes mk (filter p xs)
filter_nodes mk q p same [] = refl
filter_nodes mk q p same (x ∷ xs) = ap (λ (b : Bool). cond b (node mk x ∷ filter q (nodes mk xs)) (filter q (nodes mk xs))) (same x) ∙ by_test (p x) (filter_nodes mk q p same xs)
  where
    by_test : (b : Bool) → filter q (nodes mk xs) ≡ nodes mk (filter p xs) → cond b (node mk x ∷ filter q (nodes mk xs)) (filter q (nodes mk xs)) ≡ nodes mk (cond b (x ∷ filter p xs) (filter p xs))
    by_test true more = ap (λ ns. node mk x ∷ ns) more
    by_test false more = more

insert_nodes : (mk : List Making) (xs : List ContextId) (n : ℕ) (x : ContextId) → nodes mk (insert xs n x) ≡ insert (nodes mk xs) n (node mk x)
insert_nodes mk xs n x =
    map-append (node mk) (take n xs) (x ∷ drop n xs)
    ∙ ap₂ (λ front back. front ++ node mk x ∷ back) (sym (take-map (node mk) n xs)) (sym (drop-map (node mk) n xs))

node_is : (mk : List Making) (a : ContextId) (xs : List ContextId) → list_any (same_context a) xs ≡ true → node_of a (nodes mk xs) ≡ Some (node mk a)
node_is mk a [] e = absurd cc
node_is mk a (x ∷ xs) e = by_test (same_context a x) refl e (node_is mk a xs)
  where
    by_test : (b : Bool) → same_context a x ≡ b → (b || list_any (same_context a) xs) ≡ true → (list_any (same_context a) xs ≡ true → node_of a (nodes mk xs) ≡ Some (node mk a)) → cond b (Some (node mk x)) (node_of a (nodes mk xs)) ≡ Some (node mk a)
    by_test true is e more = ap (λ z. Some (node mk z)) (sym (same_context_is a x is))
    by_test false is e more = more e

-- ---- in pre-order

-- these are all that are there, each once, a parent before its children, and what is below a context right behind it
pub record Preorder (mk : List Making) (xs : List ContextId) (is_there : ContextId → Bool) : Type 0 where
  pub tree : IsTree (nodes mk xs)
  pub members : (x : ContextId) → list_any (same_context x) xs ≡ is_there x

pub there_same : (mk : List Making) (xs : List ContextId) (u v : ContextId → Bool) → ((x : ContextId) → u x ≡ v x) → Preorder mk xs u → Preorder mk xs v
there_same mk xs u v same o = record { tree = o.tree; members = λ x. o.members x ∙ same x }

pub each_once : (mk : List Making) (xs : List ContextId) (is_there : ContextId → Bool) → Preorder mk xs is_there → IsDistinct same_context xs
each_once mk xs is_there o = subst (IsDistinct same_context) (contexts_are mk xs) o.tree.distinct

module _ (mk : List Making) (l : Lined mk) where
  child_is : (y x : ContextId) → is_child y (node mk x) ≡ option_any (same_context y) (above_in mk x)
  child_is y x = by_above (above_in mk x) refl
    where
      by_above : (o : Option ContextId) → above_in mk x ≡ o → is_child y (node mk x) ≡ option_any (same_context y) o
      by_above None up = ap (λ zs. option_map_or (same_context y) (slice_get (drop 1 zs) 0) false) (line_top x mk up)
      by_above (Some a) up = ap (λ zs. option_map_or (same_context y) (slice_get (drop 1 zs) 0) false) (l.line_step x a up ∙ ap (λ zs. x ∷ zs) (sym (line_first mk a)))

  pub children_are : (y : ContextId) (xs : List ContextId) → children y (nodes mk xs) ≡ below_of mk y xs
  children_are y xs = ap contexts (filter_nodes mk (is_child y) (λ x. option_any (same_context y) (above_in mk x)) (child_is y) xs) ∙ contexts_are mk (below_of mk y xs)

  -- ---- one more

  -- where a context goes that is made below a
  abbrev pub place_below : ContextId → List ContextId → ℕ
  place_below a xs = position_or_len (same_context a) xs + length (filter (λ z. is_among a (line z mk)) xs)

  module _ (xs : List ContextId) (is_there : ContextId → Bool) (o : Preorder mk xs is_there) (x a : ContextId) (up : above_in mk x ≡ Some a) (new : is_there x ≡ false) (there : is_there a ≡ true) where
    missing : is_held x (nodes mk xs) ≡ false
    missing = held_among x (nodes mk xs) ∙ ap (list_any (same_context x)) (contexts_are mk xs) ∙ o.members x ∙ new

    found : node_of a (nodes mk xs) ≡ Some (node mk a)
    found = node_is mk a xs (o.members a ∙ there)

    has_parent : not (is_held a (nodes mk xs)) ≡ false
    has_parent = ap (λ (n : Option Node). not (is_some n)) found

    attached_is : nodes mk (insert xs (place_below a xs) x) ≡ nodes_after (Some a) x (nodes mk xs)
    attached_is =
        insert_nodes mk xs (place_below a xs) x
        ∙ ap₂ (λ n ns. insert (nodes mk xs) n ns) place (ap (λ zs. record { context = x; above = zs }) above)
      where
        place : place_below a xs ≡ position_or_len (is_at a) (nodes mk xs) + length (subtree a (nodes mk xs))
        place = ap₂ (λ m n. m + n) (sym (position_are mk a xs)) (sym (ap length (filter_nodes mk (is_in a) (λ z. is_among a (line z mk)) (in_is_among mk a) xs) ∙ length-map (filter (λ z. is_among a (line z mk)) xs) (node mk)))

        above : drop 1 (line x mk) ≡ line_above (Some a) (nodes mk xs)
        above = ap (drop 1) (l.line_step x a up) ∙ sym (line_first mk a) ∙ sym (ap (λ (o : Option Node). unwrap_or (option_map (λ n. n.context ∷ n.above) o) []) found)

    pub preorder_with : Preorder mk (insert xs (place_below a xs) x) (λ z. if same_context z x then true else is_there z)
    preorder_with = record {
      tree = subst IsTree (sym attached_is) (after_tree (nodes mk xs) o.tree (Some a) x missing has_parent);
      members = λ z.
          ap (list_any (same_context z)) (sym (contexts_are mk (insert xs (place_below a xs) x)))
          ∙ sym (held_among z (nodes mk (insert xs (place_below a xs) x)))
          ∙ ap (is_held z) attached_is
          ∙ ap is_some (found_after (nodes mk xs) o.tree (Some a) x z missing has_parent)
          ∙ by_test (same_context z x) z _;
    }
      where
        by_test : (b : Bool) (z : ContextId) (n : Node) → is_some (cond b (Some n) (node_of z (nodes mk xs))) ≡ (if b then true else is_there z)
        by_test true z n = refl
        by_test false z n = held_among z (nodes mk xs) ∙ ap (list_any (same_context z)) (contexts_are mk xs) ∙ o.members z

    pub below_with : (y : ContextId) → below_of mk y (insert xs (place_below a xs) x) ≡ below_of mk y xs ++ (if same_context y a then x ∷ [] else [])
    below_with y =
        sym (children_are y (insert xs (place_below a xs) x)) ∙ ap (children y) attached_is
        ∙ children_after (nodes mk xs) o.tree (Some a) x y has_parent
        ∙ ap (λ zs. zs ++ (if same_context y a then x ∷ [] else [])) (children_are y xs)

  -- ---- one more that is top-level

  pub top_node : (x : ContextId) → above_in mk x ≡ None → drop 1 (line x mk) ≡ []
  top_node x up = ap (drop 1) (line_top x mk up)

  -- where a top-level one goes: before the first that is greater
  abbrev pub place_of_top : ContextId → List ContextId → ℕ
  place_of_top x xs = position_or_len (λ y. is_none (above_in mk y) && is_less x y) xs

  top_is : (y : ContextId) → is_top (node mk y) ≡ is_none (above_in mk y)
  top_is y = by_above (above_in mk y) refl
    where
      by_above : (o : Option ContextId) → above_in mk y ≡ o → is_top (node mk y) ≡ is_none o
      by_above None up = ap (λ zs. is_none (slice_get (drop 1 zs) 0)) (line_top y mk up)
      by_above (Some a) up = ap (λ zs. is_none (slice_get (drop 1 zs) 0)) (l.line_step y a up ∙ ap (λ zs. y ∷ zs) (sym (line_first mk a)))

  module _ (xs : List ContextId) (is_there : ContextId → Bool) (o : Preorder mk xs is_there) (x : ContextId) (up : above_in mk x ≡ None) (new : is_there x ≡ false) where
    absent : is_held x (nodes mk xs) ≡ false
    absent = held_among x (nodes mk xs) ∙ ap (list_any (same_context x)) (contexts_are mk xs) ∙ o.members x ∙ new

    top_attached_is : nodes mk (insert xs (place_of_top x xs) x) ≡ nodes_after None x (nodes mk xs)
    top_attached_is =
        insert_nodes mk xs (place_of_top x xs) x
        ∙ ap₂ (λ n ns. insert (nodes mk xs) n ns)
        (sym (position_by mk (λ n. is_top n && is_less x n.context) (λ y. is_none (above_in mk y) && is_less x y) (λ y. ap (λ b. b && is_less x y) (top_is y)) xs))
        (ap (λ zs. record { context = x; above = zs }) (top_node x up))

    pub preorder_with_top : Preorder mk (insert xs (place_of_top x xs) x) (λ z. if same_context z x then true else is_there z)
    preorder_with_top = record {
      tree = subst IsTree (sym top_attached_is) (after_tree (nodes mk xs) o.tree None x absent refl);
      members = λ z.
          ap (list_any (same_context z)) (sym (contexts_are mk (insert xs (place_of_top x xs) x)))
          ∙ sym (held_among z (nodes mk (insert xs (place_of_top x xs) x)))
          ∙ ap (is_held z) top_attached_is
          ∙ ap is_some (found_after (nodes mk xs) o.tree None x z absent refl)
          ∙ by_test (same_context z x) z _;
    }
      where
        by_test : (b : Bool) (z : ContextId) (n : Node) → is_some (cond b (Some n) (node_of z (nodes mk xs))) ≡ (if b then true else is_there z)
        by_test true z n = refl
        by_test false z n = held_among z (nodes mk xs) ∙ ap (list_any (same_context z)) (contexts_are mk xs) ∙ o.members z

  -- ---- what is left

  abbrev pub is_outside : ContextId → ContextId → Bool
  is_outside w z = not (is_among w (line z mk))

  pub preorder_without : (xs : List ContextId) (is_there : ContextId → Bool) (w : ContextId) → Preorder mk xs is_there → Preorder mk (filter (is_outside w) xs) (λ z. is_there z && is_outside w z)
  preorder_without xs is_there w o = record {
    tree = subst IsTree (filter_nodes mk (λ n. not (is_in w n)) (is_outside w) (λ x. ap not (in_is_among mk w x)) xs) (without_tree (nodes mk xs) o.tree w);
    members = λ z. among_filtered (is_outside w) z xs ∙ ap (λ b. b && is_outside w z) (o.members z);
  }

  pub below_without : (xs : List ContextId) (w y : ContextId) → below_of mk y (filter (is_outside w) xs) ≡ filter (is_outside w) (below_of mk y xs)
  below_without xs w y = filter_swapped (λ x. option_any (same_context y) (above_in mk x)) (is_outside w) xs

  -- ---- at the start: nothing but tabs, by rising ids

  abbrev pub Rises : List ContextId → Type 0
  Rises [] = Unit {0}
  Rises (x ∷ xs) = AllByRecursion (λ y. is_less x y ≡ true) xs × Rises xs

  pub rises_kept : (p : ContextId → Bool) (xs : List ContextId) → Rises xs → Rises (filter p xs)
  rises_kept p [] r = tt
  rises_kept p (x ∷ xs) r = by_test (p x) (rises_kept p xs r.1)
    where
      by_test : (b : Bool) → Rises (filter p xs) → Rises (cond b (x ∷ filter p xs) (filter p xs))
      by_test true more = (all_kept (λ y. is_less x y ≡ true) p xs r.0, more)
      by_test false more = more

  hang_all : (before : List ContextId) (xs : List ContextId) → AllByRecursion (λ x. above_in mk x ≡ None) xs → Hangs before (nodes mk xs)
  hang_all before [] tops = tt
  hang_all before (x ∷ xs) tops =
      (subst (λ zs. zs ≡ drop (length before - length zs) before) (sym (top_node x tops.0)) (last_places before [] (record { front = before; whole = sym (append-nil before) })), hang_all (x ∷ drop 1 (line x mk)) xs tops.1)

  apart : (x y : ContextId) → is_less x y ≡ true → same_context x y ≡ false
  apart x y e = by_test (same_context x y) refl
    where
      never : (x : ContextId) → is_less x x ≡ false
      never x = grind (arith, nat_tests)

      by_test : (b : Bool) → same_context x y ≡ b → b ≡ false
      by_test false is = refl
      by_test true is = true_false (is_less x y) e (ap (λ z. is_less x z) (sym (same_context_is x y is)) ∙ never x)

  pub none_among : (x : ContextId) (xs : List ContextId) → AllByRecursion (λ y. is_less x y ≡ true) xs → list_any (same_context x) xs ≡ false
  none_among x [] r = refl
  none_among x (y ∷ xs) r = ap₂ (λ a b. a || b) (apart x y r.0) (none_among x xs r.1)

  distinct_all : (xs : List ContextId) → Rises xs → IsDistinct same_context (contexts (nodes mk xs))
  distinct_all [] r = distinct_none
  distinct_all (x ∷ xs) r = distinct_cons x (contexts (nodes mk xs)) (ap (list_any (same_context x)) (contexts_are mk xs) ∙ none_among x xs r.0) (distinct_all xs r.1)

  rise_all : (xs : List ContextId) → Rises xs → TopsRise (nodes mk xs)
  rise_all [] r = tt
  rise_all (x ∷ xs) r = (behind xs r.0, rise_all xs r.1)
    where
      either : (a b : Bool) → b ≡ true → (a || b) ≡ true
      either true b e = refl
      either false b e = e

      behind : (ys : List ContextId) → AllByRecursion (λ y. is_less x y ≡ true) ys → AllByRecursion (λ m. are_rising (node mk x) m ≡ true) (nodes mk ys)
      behind [] all = tt
      behind (y ∷ ys) all = (either _ (is_less x y) all.0, behind ys all.1)

  pub tops_in_order : (xs : List ContextId) (is_there : ContextId → Bool) → Rises xs → AllByRecursion (λ x. above_in mk x ≡ None) xs → ((x : ContextId) → list_any (same_context x) xs ≡ is_there x) → Preorder mk xs is_there
  tops_in_order xs is_there r tops members = record {
    tree = record { hangs = hang_all [] xs tops; distinct = distinct_all xs r; rises = rise_all xs r };
    members = members;
  }
