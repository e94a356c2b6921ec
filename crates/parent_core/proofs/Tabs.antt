-- The contexts of the tabs as they are made one after the other: the tree, what is fixed of each, the groups.
use Rattle.std.proofs.Common.{◌≡◌, ℕ, zero, suc, ◌+◌, ◌-◌, ◌<◌, ◌≤◌, ◌==◌, Bool, true, false, not, ◌&&◌, ◌||◌, cond, if◌then◌else◌, Option, None, Some, List, [], ◌∷◌, ◌++◌, length, map, take, drop, get_or, refl, sym, ap, ◌∙◌, subst, arith, eq-eqb, eqb-true}
use Rattle.std.specs.Prelude.{insert, is_some, slice_get}
use Rattle.std.specs.List.{AllByRecursion, position_or_len}
use Rattle.std.specs.Option.{option_map}
use Rattle.std.proofs.lemmas.Bool.{le-ltb, lt-ltb}
use Rattle.std.proofs.lemmas.List.{append-nil, length-map, map-append, take_more}
use Rattle.std.proofs.lemmas.Option.{slice_get-get_or}
use Rattle.fission_ids.specs.declared.context.ContextId.{ContextId}
use Rattle.fission_ids.specs.Ids.{same_context}
use Rattle.fission_ids.specs.ProcSet.{has}
use Rattle.context_group.specs.declared.group.Group.{Group}
use Rattle.context_group.proofs.SetLemmas.{has-with}
use Rattle.context_tree.specs.Node.{Node, is_top}
use Rattle.context_tree.specs.Tree.{IsTree, contexts, is_held, is_less, node_of, nodes_after, place_in, refusal}
use Rattle.context_tree.proofs.Changes.{found_after, insert_seam, is_allowed, new_node}
use Rattle.context_tree.proofs.Same.{same_equal, same_swapped}
use Rattle.wire_msgs.specs.Config.{TabFits}
use Rattle.wire_msgs.specs.declared.config.StartTab.{StartTab}
use Rattle.protocol.specs.Start.{nth_context, numbers, some_if, tab_of, processes_of_tab}
use Rattle.parent_core.specs.Membership.{group_of_tab, origin_of_tab}
use Rattle.parent_core.specs.Parent.{origin_of}
use Rattle.parent_core.specs.declared.origin.Origin.{Origin}
use Rattle.parent_core.proofs.Committed.{is_among, is_serial, serial_in, serial_more, serial_next, serial_out}
use Rattle.parent_core.proofs.Lists.{map_insert}

-- ---- the tree

abbrev pub top_node : ContextId → Node
top_node x = record { context = x; above = [] }

-- one number more at the end
pub numbers_more : (k n : ℕ) → numbers k (suc n) ≡ numbers k n ++ (k + n) ∷ []
numbers_more k zero = let e : k ≡ k + 0 = omega arith in ap (λ m. m ∷ []) e
numbers_more k (suc n) =
    let e : suc k + n ≡ k + suc n = omega arith in
    ap (λ l. k ∷ l) (numbers_more (suc k) n) ∙ ap (λ m. k ∷ (numbers (suc k) n ++ m ∷ [])) e

-- the contexts of the first n tabs
abbrev pub first_contexts : ℕ → List ContextId
first_contexts n = map nth_context (numbers 1 n)

pub contexts_more : (n : ℕ) → first_contexts n ++ nth_context (n + 1) ∷ [] ≡ first_contexts (n + 1)
contexts_more n =
    let one : 1 + n ≡ n + 1 = omega arith in
    let next : suc n ≡ n + 1 = omega arith in
    ap (λ m. first_contexts n ++ nth_context m ∷ []) (sym one)
    ∙ sym (map-append nth_context (numbers 1 n) ((1 + n) ∷ []))
    ∙ ap (map nth_context) (sym (numbers_more 1 n))
    ∙ ap (λ m. map nth_context (numbers 1 m)) next

-- a tab's context goes behind those with less serials
goes_last : (s k n : ℕ) (ns : List Node) → contexts ns ≡ map nth_context (numbers k n) → k + n ≤ s
    → position_or_len (λ m. is_top m && is_less (nth_context s) m.context) ns ≡ length ns
goes_last s k n [] e le = refl
goes_last s k zero (m ∷ ns) e le = absurd (cc)
goes_last s k (suc n) (m ∷ ns) e le =
    let first : m.context ≡ nth_context k = cc in
    let rest : contexts ns ≡ map nth_context (numbers (suc k) n) = ap (drop 1) e in
    let past : k ≤ s = omega (arith, le) in
    let test : (is_top m && is_less (nth_context s) m.context) ≡ false =
    ap (λ (x : ContextId). is_top m && is_less (nth_context s) x) first ∙ ap (λ b. is_top m && b) (le-ltb s k past) ∙ none (is_top m) in
    let more : position_or_len (λ m. is_top m && is_less (nth_context s) m.context) ns ≡ length ns = goes_last s (suc k) n ns rest (omega (arith, le)) in
    let one : 1 + length ns ≡ suc (length ns) = omega arith in
    ap (λ b. cond (not b) (1 + position_or_len (λ m. is_top m && is_less (nth_context s) m.context) ns) 0) test ∙ ap (λ n. 1 + n) more ∙ one
  where
    none : (b : Bool) → (b && false) ≡ false
    none true = refl
    none false = refl

-- the tree of the first n tabs
pub record HasTabs (n : ℕ) (ns : List Node) : Type 0 where
  pub found : (x : ContextId) → node_of x ns ≡ some_if (is_among n x) (top_node x)
  pub order : contexts ns ≡ first_contexts n
  pub tree : IsTree ns

pub no_tabs : (ns : List Node) → ns ≡ [] → IsTree ns → HasTabs 0 ns
no_tabs ns e tree = record {
  found = λ x. let past : 0 ≤ x.serial - 1 = omega arith in ap (node_of x) e ∙ sym (by x (x.creator == 0) (serial_out 0 x.serial past));
  order = ap contexts e;
  tree = tree;
}
  where
    by : (x : ContextId) (b : Bool) → is_serial 0 x.serial ≡ false → some_if (b && is_serial 0 x.serial) (top_node x) ≡ None
    by x true e = ap (λ c. some_if c (top_node x)) e
    by x false e = refl

module _ (n : ℕ) (ns : List Node) (h : HasTabs n ns) where
  next_unheld : is_held (nth_context (n + 1)) ns ≡ false
  next_unheld =
      let past : n ≤ n + 1 - 1 = omega arith in
      ap is_some (h.found (nth_context (n + 1))) ∙ ap (λ b. is_some (some_if b (top_node (nth_context (n + 1))))) (serial_out n (n + 1) past)

  pub next_allowed : refusal None (nth_context (n + 1)) ns ≡ None
  next_allowed = is_allowed None (nth_context (n + 1)) ns next_unheld refl

  pub next_tab : (next : List Node) → next ≡ nodes_after None (nth_context (n + 1)) ns → IsTree next → HasTabs (n + 1) next
  next_tab next is tree = record {
    found = λ y.
        ap (node_of y) is
        ∙ found_after ns h.tree None (nth_context (n + 1)) y next_unheld refl
        ∙ ap (λ (o : Option Node). cond (same_context y (nth_context (n + 1))) (Some (top_node (nth_context (n + 1)))) o) (h.found y)
        ∙ renamed y (same_context y (nth_context (n + 1))) refl
        ∙ by y (y.creator == 0);
    order =
        ap contexts is
        ∙ map_insert (λ (m : Node). m.context) ns (place_in None (nth_context (n + 1)) ns) (new_node None (nth_context (n + 1)) ns)
        ∙ ap (λ k. insert (contexts ns) k (nth_context (n + 1))) (goes_last (n + 1) 1 n ns h.order (omega arith))
        ∙ ap (λ (l : List ContextId). insert l (length ns) (nth_context (n + 1))) (sym (append-nil (contexts ns)))
        ∙ insert_seam (contexts ns) [] (length ns) (nth_context (n + 1)) (sym (length-map ns (λ (m : Node). m.context)))
        ∙ ap (λ l. l ++ nth_context (n + 1) ∷ []) h.order
        ∙ contexts_more n;
    tree = tree;
  }
    where
      renamed : (y : ContextId) (b : Bool) → same_context y (nth_context (n + 1)) ≡ b
          → cond b (Some (top_node (nth_context (n + 1)))) (some_if (is_among n y) (top_node y)) ≡ cond b (Some (top_node y)) (some_if (is_among n y) (top_node y))
      renamed y true e = ap (λ (z : ContextId). Some (top_node z)) (sym (same_equal y (nth_context (n + 1)) e))
      renamed y false e = refl

      by : (y : ContextId) (b : Bool) → cond (b && y.serial == n + 1) (Some (top_node y)) (some_if (b && is_serial n y.serial) (top_node y)) ≡ some_if (b && is_serial (n + 1) y.serial) (top_node y)
      by y true = serial_next n y.serial (top_node y)
      by y false = refl

-- ---- what is fixed of each

-- what is fixed of the contexts of the first n tabs
abbrev pub FixedTo : ℕ → List StartTab → List (ContextId × Origin) → Type 0
FixedTo n tabs os = (x : ContextId) → origin_of x os ≡ (if is_among n x then option_map (origin_of_tab x) (tab_of tabs x) else None)

pub none_fixed : (tabs : List StartTab) (os : List (ContextId × Origin)) → os ≡ [] → FixedTo 0 tabs os
none_fixed tabs os e x =
    let past : 0 ≤ x.serial - 1 = omega arith in
    ap (origin_of x) e ∙ sym (by (x.creator == 0) (serial_out 0 x.serial past))
  where
    by : (b : Bool) → is_serial 0 x.serial ≡ false → (if b && is_serial 0 x.serial then option_map (origin_of_tab x) (tab_of tabs x) else None) ≡ None
    by true e = ap (λ c. if c then option_map (origin_of_tab x) (tab_of tabs x) else None) e
    by false e = refl

pub next_fixed : (n : ℕ) (tabs : List StartTab) (d : StartTab) (old new : List (ContextId × Origin)) → n < length tabs
    → ((y : ContextId) → origin_of y new ≡ (if same_context (nth_context (n + 1)) y then Some (record { group = record { 0 = n + 1 }; parent = None; owner = (get_or tabs n d).owner }) else origin_of y old))
    → FixedTo n tabs old → FixedTo (n + 1) tabs new
next_fixed n tabs d old new within put so_far y = put y ∙ by (same_context (nth_context (n + 1)) y) refl
  where
    made : Origin
    made = record { group = record { 0 = n + 1 }; parent = None; owner = (get_or tabs n d).owner }

    other : (b : Bool) → (y.serial ≡ n + 1 → (y.creator == 0) ≡ false) → (y.creator == 0) ≡ b → (b && is_serial n y.serial) ≡ (b && is_serial (n + 1) y.serial)
    other true apart e = serial_more n y.serial (λ same. absurd (no (sym e ∙ apart same)))
      where
        no : true ≡ false → ⊥
        no f = cc
    other false apart e = refl

    by : (b : Bool) → same_context (nth_context (n + 1)) y ≡ b
        → (if b then Some (record { group = record { 0 = n + 1 }; parent = None; owner = (get_or tabs n d).owner }) else origin_of y old)
        ≡ (if is_among (n + 1) y then option_map (origin_of_tab y) (tab_of tabs y) else None)
    by true e =
        let same : nth_context (n + 1) ≡ y = same_equal (nth_context (n + 1)) y e in
        let from : 0 < n + 1 = omega arith in
        let below : n + 1 - 1 < n + 1 = omega arith in
        let less : n + 1 - 1 ≡ n = omega arith in
        let own : tab_of tabs (nth_context (n + 1)) ≡ Some (get_or tabs n d) =
        ap (λ b. if b then slice_get tabs (n + 1 - 1) else None) (lt-ltb 0 (n + 1) from) ∙ ap (slice_get tabs) less ∙ slice_get-get_or tabs n d within in
        sym (ap (λ b. if b then option_map (origin_of_tab (nth_context (n + 1))) (tab_of tabs (nth_context (n + 1))) else None) (serial_in (n + 1) (n + 1) from below) ∙ ap (option_map (origin_of_tab (nth_context (n + 1)))) own)
        ∙ ap (λ (z : ContextId). if is_among (n + 1) z then option_map (origin_of_tab z) (tab_of tabs z) else None) same
    by false e = so_far y ∙ ap (λ b. if b then option_map (origin_of_tab y) (tab_of tabs y) else None)
        (other (y.creator == 0) (λ same. apart_by (y.creator == 0) (y.serial == n + 1) (eq-eqb y.serial (n + 1) same) (same_swapped y (nth_context (n + 1)) ∙ e)) refl)
      where
        apart_by : (a b : Bool) → b ≡ true → (a && b) ≡ false → a ≡ false
        apart_by true b t f = absurd (no (sym t ∙ f))
          where
            no : true ≡ false → ⊥
            no h = cc
        apart_by false b t f = refl

-- ---- the groups

pub groups_next : (n : ℕ) (tabs : List StartTab) (d : StartTab) (old new : List Group) → n < length tabs → old ≡ map group_of_tab (take n tabs)
    → new ≡ old ++ group_of_tab (get_or tabs n d) ∷ [] → new ≡ map group_of_tab (take (n + 1) tabs)
groups_next n tabs d old new within so_far is =
    is ∙ ap (λ l. l ++ group_of_tab (get_or tabs n d) ∷ []) so_far
    ∙ sym (map-append group_of_tab (take n tabs) (get_or tabs n d ∷ []))
    ∙ ap (map group_of_tab) (sym (take_more tabs n d within))

fits_in : (P : StartTab → Type 0) (tabs : List StartTab) (n : ℕ) (d : StartTab) → AllByRecursion P tabs → n < length tabs → P (get_or tabs n d)
fits_in P [] n d all lt = absurd (omega (arith, lt))
fits_in P (t ∷ tabs) zero d all lt = all.0
fits_in P (t ∷ tabs) (suc n) d all lt = fits_in P tabs n d all.1 (omega (arith, lt))

-- the processes that have a tab are below 16
pub tab_low : (tabs : List StartTab) (n : ℕ) (d : StartTab) → AllByRecursion (TabFits 16) tabs → n < length tabs → (q : ℕ) → has (processes_of_tab (get_or tabs n d)) q ≡ true → q < 16
tab_low tabs n d all within q e =
    let fits : TabFits 16 (get_or tabs n d) = fits_in (TabFits 16) tabs n d all within in
    by fits (q == (get_or tabs n d).owner.0) refl (sym (has-with (get_or tabs n d).also (get_or tabs n d).owner.0 q) ∙ e)
  where
    by : TabFits 16 (get_or tabs n d) → (b : Bool) → (q == (get_or tabs n d).owner.0) ≡ b → (b || has (get_or tabs n d).also q) ≡ true → q < 16
    by fits true is h = subst (λ m. m < 16) (sym (eqb-true q (get_or tabs n d).owner.0 is)) fits.owner
    by fits false is h = fits.also q h

-- what fits n processes fits 16
pub fit_all : (n : ℕ) (tabs : List StartTab) → n ≤ 16 → AllByRecursion (TabFits n) tabs → AllByRecursion (TabFits 16) tabs
fit_all n [] le all = tt
fit_all n (t ∷ tabs) le all = (
  record {
    owner = omega (arith, all.0.owner, le);
    also = λ p e. let low : p < n = all.0.also p e in omega (arith, low, le);
    others = all.0.others;
  },
  fit_all n tabs le all.1,
)

-- what is where there is something
pub where_live : {A B : Type 0} (f : A → B) (o : Option A) → (if is_some o then option_map f o else None) ≡ option_map f o
where_live f None = refl
where_live f (Some a) = refl

-- there is room for one group more
pub room_left : (n : ℕ) (tabs : List StartTab) (gs : List Group) → length tabs ≤ 64 → n < length tabs → gs ≡ map group_of_tab (take n tabs) → length gs < 64
room_left n tabs gs few lt is =
    let count : length gs ≡ length (take n tabs) = ap length is ∙ length-map (take n tabs) group_of_tab in
    let less : length (take n tabs) ≤ n = take_short n tabs in
    omega (arith, count, less, few, lt)
  where
    take_short : {A : Type 0} (n : ℕ) (xs : List A) → length (take n xs) ≤ n
    take_short zero xs = omega arith
    take_short (suc n) [] = omega arith
    take_short (suc n) (x ∷ xs) = let less : length (take n xs) ≤ n = take_short n xs in omega (arith, less)
