-- Two pre-orders are one list where they have the same contexts, and below each of them the same ones in the same order. And
-- what is kept of a pre-order is one again, where whole trees are kept.
use Rattle.std.proofs.Common.{◌≡◌, ◌⊎◌, inl, inr, ℕ, ◌-◌, ◌<◌, ◌≤◌, Bool, true, false, not, ◌&&◌, ◌||◌, Option, None, Some, List, [], ◌∷◌, length, filter, drop, refl, ap, ap₂, sym, subst, ◌∙◌, arith, cond}
use Rattle.std.specs.Prelude.{is_none, nat_lt, slice_get}
use Rattle.std.specs.List.{AllByRecursion, IsDistinct, list_any}
use Rattle.std.proofs.lemmas.Bool.Decides.{nat_tests}
use Rattle.fission_ids.specs.declared.context.ContextId.{ContextId}
use Rattle.fission_ids.specs.Ids.{same_context}
use Rattle.context_tree.specs.Node.{is_top, is_child}
use Rattle.context_tree.specs.Tree.{IsTree, Hangs, TopsRise, are_rising, contexts, is_less, outermost}
use Rattle.context_tree.proofs.Changes.{no_children}
use Rattle.context_tree.proofs.Distinct.{distinct_head, distinct_tail}
use Rattle.context_tree.proofs.Lists.{EndsWith, any_in_end, ends_with_places, filter_none}
use Rattle.context_tree.proofs.Parts.{outside}
use Rattle.protocol.specs.Questions.{option_any}
use Rattle.model.specs.Lines.{Making, line, above_in, is_among}
use Rattle.model.proofs.Cases.{true_false, same_context_is, same_itself, same_swapped}
use Rattle.model.proofs.Lining.{Lined}
use Rattle.model.proofs.Living.{among_itself, among_either, up_the_line}
use Rattle.model.proofs.Preorder.{Preorder, each_once, node, nodes, below_of, filter_within, filter_twice, among_filtered, children_are, contexts_are, line_first, top_node, none_among, is_outside, preorder_without, Rises}

-- ---- lists

all_passing : (p : ContextId → Bool) (xs : List ContextId) → AllByRecursion (λ x. p x ≡ true) (filter p xs)
all_passing p [] = tt
all_passing p (x ∷ xs) = by_test (p x) refl (all_passing p xs)
  where
    by_test : (b : Bool) → p x ≡ b → AllByRecursion (λ z. p z ≡ true) (filter p xs) → AllByRecursion (λ z. p z ≡ true) (cond b (x ∷ filter p xs) (filter p xs))
    by_test true e more = (e, more)
    by_test false e more = more

all_at : (P : ContextId → Type 0) (x : ContextId) (xs : List ContextId) → AllByRecursion P xs → list_any (same_context x) xs ≡ true → P x
all_at P x [] all e = absurd cc
all_at P x (y ∷ ys) all e = by_test (same_context x y) refl e (all_at P x ys all.1)
  where
    by_test : (b : Bool) → same_context x y ≡ b → (b || list_any (same_context x) ys) ≡ true → (list_any (same_context x) ys ≡ true → P x) → P x
    by_test true is e more = subst P (sym (same_context_is x y is)) all.0
    by_test false isnt e more = more e

either : (a b : Bool) → a ≡ true → (a || b) ≡ true
either true b e = refl
either false b e = absurd cc

cons_is : (x y : ContextId) (xs ys : List ContextId) → x ∷ xs ≡ y ∷ ys → (x ≡ y) × (xs ≡ ys)
cons_is x y xs ys e = (cc, cc)

module _ (mk : List Making) (l : Lined mk) where
  -- ---- lists that rise

  never_both : (x y : ContextId) → is_less x y ≡ true → is_less y x ≡ true → ⊥
  never_both x y e d = grind (arith, nat_tests, e, d)

  rising_same : (xs ys : List ContextId) → Rises mk l xs → Rises mk l ys → ((z : ContextId) → list_any (same_context z) xs ≡ list_any (same_context z) ys) → xs ≡ ys
  rising_same [] [] r s same = refl
  rising_same [] (y ∷ ys) r s same = true_false (list_any (same_context y) (y ∷ ys)) (either (same_context y y) (list_any (same_context y) ys) (same_itself y)) (sym (same y))
  rising_same (x ∷ xs) [] r s same = true_false (list_any (same_context x) (x ∷ xs)) (either (same_context x x) (list_any (same_context x) xs) (same_itself x)) (same x)
  rising_same (x ∷ xs) (y ∷ ys) r s same = by_test (same_context x y) refl (rising_same xs ys r.1 s.1)
    where
      -- the first of one is among the others, or it is the first there too
      later : (v w : ContextId) (vs ws : List ContextId) → same_context v w ≡ false → list_any (same_context v) (v ∷ vs) ≡ list_any (same_context v) (w ∷ ws) → list_any (same_context v) ws ≡ true
      later v w vs ws isnt is = sym (ap (λ b. b || list_any (same_context v) ws) isnt) ∙ sym is ∙ either (same_context v v) (list_any (same_context v) vs) (same_itself v)

      rest : x ≡ y → (z : ContextId) (b : Bool) → same_context z x ≡ b → list_any (same_context z) xs ≡ list_any (same_context z) ys
      rest e z true is =
          ap (λ v. list_any (same_context v) xs) (same_context_is z x is) ∙ none_among mk l x xs r.0
          ∙ sym (ap (λ v. list_any (same_context v) ys) (same_context_is z x is ∙ e) ∙ none_among mk l y ys s.0)
      rest e z false isnt =
          sym (ap (λ b. b || list_any (same_context z) xs) isnt) ∙ same z
          ∙ ap (λ b. b || list_any (same_context z) ys) (ap (same_context z) (sym e) ∙ isnt)

      by_test : (b : Bool) → same_context x y ≡ b → (((z : ContextId) → list_any (same_context z) xs ≡ list_any (same_context z) ys) → xs ≡ ys) → x ∷ xs ≡ y ∷ ys
      by_test true is more = let e : x ≡ y = same_context_is x y is in ap₂ (λ v vs. v ∷ vs) e (more (λ z. rest e z (same_context z x) refl))
      by_test false isnt more = absurd (never_both x y
          (all_at (λ z. is_less x z ≡ true) y xs r.0 (later y x ys xs (same_swapped y x ∙ isnt) (sym (same y))))
          (all_at (λ z. is_less y z ≡ true) x ys s.0 (later x y xs ys isnt (same x))))

  -- ---- nodes

  -- those above a context
  abbrev upper : ContextId → List ContextId
  upper x = drop 1 (line x mk)

  upper_is : (x a : ContextId) → above_in mk x ≡ Some a → upper x ≡ line a mk
  upper_is x a up = ap (drop 1) (l.line_step x a up)

  nearest : (x : ContextId) → slice_get (upper x) 0 ≡ above_in mk x
  nearest x = by_above (above_in mk x) refl
    where
      by_above : (o : Option ContextId) → above_in mk x ≡ o → slice_get (upper x) 0 ≡ o
      by_above None up = ap (λ zs. slice_get zs 0) (top_node mk l x up)
      by_above (Some a) up = ap (λ zs. slice_get zs 0) (upper_is x a up ∙ sym (line_first mk a))

  in_its_line : (a : ContextId) → is_among a (line a mk) ≡ true
  in_its_line a = ap (is_among a) (sym (line_first mk a)) ∙ among_itself a (upper a)

  shorter : (n : ℕ) (x a : ContextId) → length (line x mk) ≤ n → above_in mk x ≡ Some a → length (line a mk) ≤ n
  shorter n x a less up = let len : length (line x mk) ≡ length (x ∷ line a mk) = ap length (l.line_step x a up) in omega (arith, less, len)

  line_fits : (a b : ContextId) → is_among a (line b mk) ≡ true → length (line a mk) ≤ length (line b mk)
  line_fits a b e = up_the_line mk (λ z. length (line z mk) ≤ length (line b mk)) l (λ x c less up. shorter (length (line b mk)) x c less up) (length (line b mk)) a b (omega arith) (omega arith) e

  -- ---- right below a context, or top-level

  abbrev is_by : Option ContextId → Option ContextId → Bool
  is_by None o = is_none o
  is_by (Some y) o = option_any (same_context y) o

  is_by_itself : (o : Option ContextId) → is_by o o ≡ true
  is_by_itself None = refl
  is_by_itself (Some y) = same_itself y

  abbrev kin : Option ContextId → List ContextId → List ContextId
  kin o xs = filter (λ x. is_by o (above_in mk x)) xs

  first_kin : (x : ContextId) (xs : List ContextId) → kin (above_in mk x) (x ∷ xs) ≡ x ∷ kin (above_in mk x) xs
  first_kin x xs = ap (λ b. cond b (x ∷ kin (above_in mk x) xs) (kin (above_in mk x) xs)) (is_by_itself (above_in mk x))

  -- nothing is below what is neither there nor on the line before
  childless : (a : ContextId) (before xs : List ContextId) → is_among a before ≡ false → list_any (same_context a) xs ≡ false → Hangs before (nodes mk xs) → below_of mk a xs ≡ []
  childless a before xs off new hangs =
      sym (children_are mk l a xs)
      ∙ ap contexts (filter_none (is_child a) (nodes mk xs) (no_children a (nodes mk xs)
      (outside a before (nodes mk xs) off (ap (list_any (same_context a)) (contexts_are mk xs) ∙ new) hangs)))

  -- ---- what stands behind a line

  record Lies (before xs : List ContextId) : Type 0 where
    hangs : Hangs before (nodes mk xs)
    distinct : IsDistinct same_context xs
    fresh : (z : ContextId) → is_among z before ≡ true → list_any (same_context z) xs ≡ false

  upper_ends : (before : List ContextId) (x : ContextId) (xs : List ContextId) → Hangs before (nodes mk (x ∷ xs)) → EndsWith before (upper x)
  upper_ends before x xs hangs = ends_with_places before (upper x) _ hangs.0

  in_before : (before : List ContextId) (x : ContextId) (xs : List ContextId) → Hangs before (nodes mk (x ∷ xs)) → (z : ContextId) → is_among z (upper x) ≡ true → is_among z before ≡ true
  in_before before x xs hangs z e = by_test (is_among z before) refl
    where
      by_test : (b : Bool) → is_among z before ≡ b → is_among z before ≡ true
      by_test true is = is
      by_test false isnt = true_false (is_among z (upper x)) e (any_in_end (same_context z) before (upper x) (upper_ends before x xs hangs) isnt)

  lies_on : (before : List ContextId) (x : ContextId) (xs : List ContextId) → Lies before (x ∷ xs) → Lies (x ∷ upper x) xs
  lies_on before x xs b = record {
    hangs = b.hangs.1;
    distinct = distinct_tail x xs b.distinct;
    fresh = λ z e. by_either z (among_either z x (upper x) e);
  }
    where
      second : (u v : Bool) → (u || v) ≡ false → v ≡ false
      second true v e = absurd cc
      second false v e = e

      by_either : (z : ContextId) → (z ≡ x) ⊎ (is_among z (upper x) ≡ true) → list_any (same_context z) xs ≡ false
      by_either z (inl is) = ap (λ v. list_any (same_context v) xs) is ∙ distinct_head x xs b.distinct
      by_either z (inr e) = second (same_context z x) (list_any (same_context z) xs) (b.fresh z (in_before before x xs b.hangs z e))

  -- of two that stand behind one line, with the same ones below each, none begins deeper than the other
  not_deeper : (before : List ContextId) (x y : ContextId) (xs ys : List ContextId) → Lies before (x ∷ xs) → Lies before (y ∷ ys) → ((o : Option ContextId) → kin o (x ∷ xs) ≡ kin o (y ∷ ys))
      → length (upper x) < length (upper y) → ⊥
  not_deeper before x y xs ys b d same less = by_above (above_in mk y) refl
    where
      by_above : (o : Option ContextId) → above_in mk y ≡ o → ⊥
      by_above None up = let none : length (upper y) ≡ 0 = ap length (top_node mk l y up) in absurd (omega (arith, less, none))
      by_above (Some a) up =
          let size : length (upper y) ≡ length (line a mk) = ap length (upper_is y a up) in
          let new : list_any (same_context a) (x ∷ xs) ≡ false = b.fresh a (in_before before y ys d.hangs a (ap (is_among a) (upper_is y a up) ∙ in_its_line a)) in
          let none : below_of mk a (x ∷ xs) ≡ [] = childless a (upper x) (x ∷ xs) (off size (is_among a (upper x)) refl (above_in mk x) refl) new (own, b.hangs.1) in
          let some : kin (Some a) (y ∷ ys) ≡ y ∷ kin (Some a) ys = subst (λ o. kin o (y ∷ ys) ≡ y ∷ kin o ys) up (first_kin y ys) in
          let both : [] ≡ y ∷ kin (Some a) ys = sym none ∙ same (Some a) ∙ some in
          absurd cc
        where
          own : upper x ≡ outermost (length (upper x)) (upper x)
          own = let zero : length (upper x) - length (upper x) ≡ 0 = omega arith in sym (ap (λ n. drop n (upper x)) zero)

          off : length (upper y) ≡ length (line a mk) → (v : Bool) → is_among a (upper x) ≡ v → (o : Option ContextId) → above_in mk x ≡ o → is_among a (upper x) ≡ false
          off size false isnt o over = isnt
          off size true is None over = true_false (is_among a (upper x)) is (ap (is_among a) (top_node mk l x over))
          off size true is (Some c) over =
              let fits : length (line a mk) ≤ length (line c mk) = line_fits a c (sym (ap (is_among a) (upper_is x c over)) ∙ is) in
              let other : length (upper x) ≡ length (line c mk) = ap length (upper_is x c over) in
              absurd (omega (arith, fits, other, size, less))

  same_lists : (before xs ys : List ContextId) → Lies before xs → Lies before ys → ((o : Option ContextId) → kin o xs ≡ kin o ys) → xs ≡ ys
  same_lists before [] [] b d same = refl
  same_lists before [] (y ∷ ys) b d same = let none : [] ≡ y ∷ kin (above_in mk y) ys = same (above_in mk y) ∙ first_kin y ys in absurd cc
  same_lists before (x ∷ xs) [] b d same = let none : [] ≡ x ∷ kin (above_in mk x) xs = sym (same (above_in mk x)) ∙ first_kin x xs in absurd cc
  same_lists before (x ∷ xs) (y ∷ ys) b d same =
      by_depth (nat_lt (length (upper x)) (length (upper y))) refl (nat_lt (length (upper y)) (length (upper x))) refl (same_lists (x ∷ upper x) xs)
    where
      one : length (upper x) ≡ length (upper y) → x ≡ y
      one size =
          let uppers : upper x ≡ upper y = b.hangs.0 ∙ ap (λ n. outermost n before) size ∙ sym d.hangs.0 in
          let over : above_in mk x ≡ above_in mk y = sym (nearest x) ∙ ap (λ zs. slice_get zs 0) uppers ∙ nearest y in
          (cons_is x y (kin (above_in mk x) xs) (kin (above_in mk x) ys)
          (sym (first_kin x xs) ∙ same (above_in mk x) ∙ subst (λ o. kin o (y ∷ ys) ≡ y ∷ kin o ys) (sym over) (first_kin y ys))).0

      more_same : x ≡ y → (o : Option ContextId) → kin o xs ≡ kin o ys
      more_same e o = by_test (is_by o (above_in mk x)) refl (same o ∙ ap (λ z. kin o (z ∷ ys)) (sym e))
        where
          by_test : (v : Bool) → is_by o (above_in mk x) ≡ v → kin o (x ∷ xs) ≡ kin o (x ∷ ys) → kin o xs ≡ kin o ys
          by_test true is both = (cons_is x x (kin o xs) (kin o ys) (sym (ap (λ v. cond v (x ∷ kin o xs) (kin o xs)) is) ∙ both ∙ ap (λ v. cond v (x ∷ kin o ys) (kin o ys)) is)).1
          by_test false isnt both = sym (ap (λ v. cond v (x ∷ kin o xs) (kin o xs)) isnt) ∙ both ∙ ap (λ v. cond v (x ∷ kin o ys) (kin o ys)) isnt

      by_depth : (v : Bool) → nat_lt (length (upper x)) (length (upper y)) ≡ v → (w : Bool) → nat_lt (length (upper y)) (length (upper x)) ≡ w
          → ((zs : List ContextId) → Lies (x ∷ upper x) xs → Lies (x ∷ upper x) zs → ((o : Option ContextId) → kin o xs ≡ kin o zs) → xs ≡ zs) → x ∷ xs ≡ y ∷ ys
      by_depth true less w other more = absurd (not_deeper before x y xs ys b d same (grind (arith, nat_tests, less)))
      by_depth false not_less true less more = absurd (not_deeper before y x ys xs d b (λ o. sym (same o)) (grind (arith, nat_tests, less)))
      by_depth false not_less false not_more more =
          let size : length (upper x) ≡ length (upper y) = grind (arith, nat_tests, not_less, not_more) in
          let e : x ≡ y = one size in
          ap₂ (λ z zs. z ∷ zs) e (more ys (lies_on before x xs b) (subst (λ z. Lies (z ∷ upper z) ys) (sym e) (lies_on before y ys d)) (more_same e))

  -- ---- of trees

  tops_rise : (xs : List ContextId) → TopsRise (nodes mk xs) → Rises mk l (kin None xs)
  tops_rise [] rise = tt
  tops_rise (x ∷ xs) rise = by_above (is_none (above_in mk x)) refl (tops_rise xs rise.1)
    where
      top : (z : ContextId) → is_none (above_in mk z) ≡ true → is_top (node mk z) ≡ true
      top z e = ap is_none (nearest z) ∙ e

      behind : is_none (above_in mk x) ≡ true → (ys : List ContextId) → AllByRecursion (λ m. are_rising (node mk x) m ≡ true) (nodes mk ys) → AllByRecursion (λ y. is_less x y ≡ true) (kin None ys)
      behind e [] all = tt
      behind e (y ∷ ys) all = by_test (is_none (above_in mk y)) refl (behind e ys all.1)
        where
          by_test : (v : Bool) → is_none (above_in mk y) ≡ v → AllByRecursion (λ z. is_less x z ≡ true) (kin None ys) → AllByRecursion (λ z. is_less x z ≡ true) (cond v (y ∷ kin None ys) (kin None ys))
          by_test true is more = (sym (ap₂ (λ a b. not (a && b) || is_less x y) (top x e) (top y is)) ∙ all.0, more)
          by_test false isnt more = more

      by_above : (v : Bool) → is_none (above_in mk x) ≡ v → Rises mk l (kin None xs) → Rises mk l (cond v (x ∷ kin None xs) (kin None xs))
      by_above true is more = (behind is xs rise.0, more)
      by_above false isnt more = more

  -- pre-orders of the same contexts, with the same ones below each
  pub same_order : (xs ys : List ContextId) (is_there : ContextId → Bool) → Preorder mk xs is_there → Preorder mk ys is_there
      → ((y : ContextId) → is_there y ≡ true → below_of mk y xs ≡ below_of mk y ys) → xs ≡ ys
  same_order xs ys is_there o q below = same_lists [] xs ys (lies xs o) (lies ys q) kins
    where
      lies : (zs : List ContextId) → Preorder mk zs is_there → Lies [] zs
      lies zs o = record { hangs = o.tree.hangs; distinct = each_once mk zs is_there o; fresh = λ z e. absurd cc }

      tops_same : (z : ContextId) → list_any (same_context z) (kin None xs) ≡ list_any (same_context z) (kin None ys)
      tops_same z =
          among_filtered (λ x. is_none (above_in mk x)) z xs ∙ ap (λ b. b && is_none (above_in mk z)) (o.members z ∙ sym (q.members z))
          ∙ sym (among_filtered (λ x. is_none (above_in mk x)) z ys)

      by_there : (y : ContextId) (b : Bool) → is_there y ≡ b → below_of mk y xs ≡ below_of mk y ys
      by_there y true is = below y is
      by_there y false isnt = childless y [] xs refl (o.members y ∙ isnt) o.tree.hangs ∙ sym (childless y [] ys refl (q.members y ∙ isnt) q.tree.hangs)

      kins : (o : Option ContextId) → kin o xs ≡ kin o ys
      kins None = rising_same (kin None xs) (kin None ys) (tops_rise xs o.tree.rises) (tops_rise ys q.tree.rises) tops_same
      kins (Some y) = by_there y (is_there y) refl

  -- ---- what is kept

  tree_without : (w : ContextId) (xs : List ContextId) → IsTree (nodes mk xs) → IsTree (nodes mk (filter (is_outside mk l w) xs))
  tree_without w xs t =
      let o : Preorder mk xs (λ x. list_any (same_context x) xs) = record { tree = t; members = λ x. refl } in
      (preorder_without mk l xs (λ x. list_any (same_context x) xs) w o).tree

  -- whether a context is below none of these
  abbrev is_left : List ContextId → ContextId → Bool
  is_left [] z = true
  is_left (w ∷ ws) z = is_outside mk l w z && is_left ws z

  tree_left : (ws xs : List ContextId) → IsTree (nodes mk xs) → IsTree (nodes mk (filter (is_left ws) xs))
  tree_left [] xs t = subst (λ zs. IsTree (nodes mk zs)) (sym (filter_true xs)) t
    where
      filter_true : (zs : List ContextId) → filter (λ z. true) zs ≡ zs
      filter_true [] = refl
      filter_true (z ∷ zs) = ap (λ vs. z ∷ vs) (filter_true zs)
  tree_left (w ∷ ws) xs t = subst (λ zs. IsTree (nodes mk zs)) (filter_twice (is_outside mk l w) (is_left ws) xs) (tree_without w (filter (is_left ws) xs) (tree_left ws xs t))

  -- where a test passes a context with all that is below it, or nothing of this
  module _ (p : ContextId → Bool) (goes_down : (x a : ContextId) → above_in mk x ≡ Some a → p x ≡ p a) where
    same_in_line : (w z : ContextId) → is_among w (line z mk) ≡ true → p w ≡ p z
    same_in_line w z e = up_the_line mk (λ v. p v ≡ p z) l (λ x a is up. sym (goes_down x a up) ∙ is) (length (line z mk)) w z (omega arith) refl e

    is_kept : (ws : List ContextId) → AllByRecursion (λ w. not (p w) ≡ true) ws → (z : ContextId) → p z ≡ true → is_left ws z ≡ true
    is_kept [] all z e = refl
    is_kept (w ∷ ws) all z e = ap₂ (λ a b. a && b) (by_test (is_among w (line z mk)) refl) (is_kept ws all.1 z e)
      where
        by_test : (v : Bool) → is_among w (line z mk) ≡ v → not (is_among w (line z mk)) ≡ true
        by_test false isnt = ap not isnt
        by_test true is = true_false (not (p w)) all.0 (ap not (same_in_line w z is ∙ e))

    isnt_kept : (ws : List ContextId) (z : ContextId) → list_any (same_context z) ws ≡ true → is_left ws z ≡ false
    isnt_kept [] z e = absurd cc
    isnt_kept (w ∷ ws) z e = by_test (same_context z w) refl e (isnt_kept ws z)
      where
        none : (a : Bool) → (a && false) ≡ false
        none true = refl
        none false = refl

        by_test : (v : Bool) → same_context z w ≡ v → (v || list_any (same_context z) ws) ≡ true → (list_any (same_context z) ws ≡ true → is_left ws z ≡ false) → (not (is_among w (line z mk)) && is_left ws z) ≡ false
        by_test true is e more = ap (λ b. not b && is_left ws z) (ap (λ v. is_among v (line z mk)) (sym (same_context_is z w is)) ∙ in_its_line z)
        by_test false isnt e more = ap (λ b. not (is_among w (line z mk)) && b) (more e) ∙ none (not (is_among w (line z mk)))

    pub tree_kept : (xs : List ContextId) → IsTree (nodes mk xs) → IsTree (nodes mk (filter p xs))
    tree_kept xs t = subst (λ zs. IsTree (nodes mk zs)) (filter_within (is_left gone) p xs (λ z among. by_test z among (p z) refl)) (tree_left gone xs t)
      where
        gone : List ContextId
        gone = filter (λ z. not (p z)) xs

        by_test : (z : ContextId) → list_any (same_context z) xs ≡ true → (v : Bool) → p z ≡ v → is_left gone z ≡ p z
        by_test z among true e = is_kept gone (all_passing (λ w. not (p w)) xs) z e ∙ sym e
        by_test z among false e = isnt_kept gone z (among_filtered (λ w. not (p w)) z xs ∙ ap₂ (λ a b. a && not b) among e) ∙ sym e
