-- What a process keeps and answers at the start.
use Rattle.std.proofs.Common.{◌≡◌, ◌∙◌, refl, sym, ap, ap₂, subst, ℕ, zero, suc, ◌+◌, ◌-◌, ◌<◌, ◌≤◌, ◌==◌, Bool, true, false, not, ◌&&◌, ◌||◌, cond, if◌then◌else◌, List, [], ◌∷◌, ◌++◌, length, get_or, map, filter, take, Option, None, Some, arith, length-take-le, length-append, append-nil, eq-eqb, eqb-true, true≢false}
use Rattle.std.proofs.lemmas.Bool.{ne_eqb}
use Rattle.std.proofs.lemmas.Bool.Decides.{nat_tests}
use Rattle.std.proofs.lemmas.List.{take_more, map-append, take_all, drop_all}
use Rattle.std.proofs.lemmas.List.Elements.{filter-append}
use Rattle.std.specs.Int.{bit_at}
use Rattle.std.specs.Prelude.{is_some, nat_lt, slice_get, insert, IfSome}
use Rattle.std.specs.List.{position_or_len}
use Rattle.std.specs.FinMap.{get, empty, get-empty}
use Rattle.std.specs.Option.{option_map, option_map_or}
use Rattle.fission_ids.specs.declared.context.ContextId.{ContextId}
use Rattle.fission_ids.specs.declared.group.GroupId.{GroupId}
use Rattle.fission_ids.specs.Ids.{same_context}
use Rattle.field_table.specs.declared.field.Field.{Field}
use Rattle.field_table.specs.declared.value.Value.{Value}
use Rattle.field_table.specs.Field.{fields, initial}
use Rattle.field_table.specs.Table.{initial_table, value_in}
use Rattle.field_table.proofs.Tables.{value_in-map}
use Rattle.context_store.specs.Content.{Content, Stored, context_order}
use Rattle.epochs.specs.FieldEpochs.{epoch_of}
use Rattle.context_tree.specs.Tree.{IsTree, contexts, is_held, parent_in, is_under}
use Rattle.context_tree.proofs.Distinct.{distinct_none}
use Rattle.context_tree.proofs.Same.{same_equal, same_itself}
use Rattle.wire_msgs.specs.declared.config.StartTab.{StartTab}
use Rattle.protocol.specs.Seen.{Seen}
use Rattle.protocol.specs.SeenAfter.{with_context, place_for, is_greater}
use Rattle.protocol.specs.Start.{seen_at_start, nth_context, numbers, contexts_of, tab_of, is_of_tab, is_held_at_start, some_if}
use Rattle.content_core.specs.Content.{Holds, hold_of}
use Rattle.content_core.specs.Held.{AreAtStart, AddsTab, HoldsMore}
use Rattle.content_core.specs.declared.contexts.Contexts.{Contexts}
use Rattle.content_core.specs.declared.hold.Hold.{Hold}
use Rattle.content_core.proofs.Coming.{seen-put, whole-put}
use Rattle.content_core.proofs.TabBits.{of_tab-either}

abbrev no_context : Option ContextId
no_context = None

abbrev no_tab : Option StartTab
no_tab = None

-- ---- one tab more

none_before : (n : ℕ) → (0 == suc n) ≡ false
none_before n = grind (arith, nat_tests)

none_behind : (n : ℕ) → (suc n == 0) ≡ false
none_behind n = grind (arith, nat_tests)

one_less : (k n : ℕ) → (k == n) ≡ (suc k == suc n)
one_less k n = grind (arith, nat_tests)

slice_get-push : {X : Type 0} (xs : List X) (y : X) (k : ℕ) → slice_get (xs ++ y ∷ []) k ≡ (if k == length xs then Some y else slice_get xs k)
slice_get-push [] y zero = refl
slice_get-push {X} [] y (suc k) = ap (λ (b : Bool). cond {A = Option X} b (Some y) None) (sym (none_behind k))
slice_get-push {X} (x ∷ xs) y zero = ap (λ (b : Bool). cond {A = Option X} b (Some y) (Some x)) (sym (none_before (length xs)))
slice_get-push {X} (x ∷ xs) y (suc k) = slice_get-push xs y k ∙ ap (λ (b : Bool). cond {A = Option X} b (Some y) (slice_get xs k)) (one_less k (length xs))

place : (n s : ℕ) → nat_lt 0 s ≡ true → (s - 1 == n) ≡ (s == n + 1)
place n s above = grind (arith, nat_tests)

no_place : (n s : ℕ) → nat_lt 0 s ≡ false → (s == n + 1) ≡ false
no_place n s none = grind (arith, nat_tests)

tab_of-push : (tabs : List StartTab) (tab : StartTab) (x : ContextId) → tab_of (tabs ++ tab ∷ []) x ≡ (if same_context x (nth_context (length tabs + 1)) then Some tab else tab_of tabs x)
tab_of-push tabs tab x = by (x.creator == 0) (nat_lt 0 x.serial) refl
  where
    by : (a b : Bool) → nat_lt 0 x.serial ≡ b → (if a && b then slice_get (tabs ++ tab ∷ []) (x.serial - 1) else None)
        ≡ (if a && (x.serial == length tabs + 1) then Some tab else if a && b then slice_get tabs (x.serial - 1) else None)
    by false b is = refl
    by true true is =
        slice_get-push tabs tab (x.serial - 1)
        ∙ ap (λ (c : Bool). if c then Some tab else slice_get tabs (x.serial - 1)) (place (length tabs) x.serial is)
    by true false is = ap (λ (c : Bool). if c then Some tab else None) (sym (no_place (length tabs) x.serial is))

slice_get-end : {X : Type 0} (xs : List X) → slice_get xs (length xs) ≡ None
slice_get-end [] = refl
slice_get-end (x ∷ xs) = slice_get-end xs

-- the next context has no tab yet
tab_of-end : (tabs : List StartTab) → tab_of tabs (nth_context (length tabs + 1)) ≡ None
tab_of-end tabs =
    let above : nat_lt 0 (length tabs + 1) ≡ true = grind (arith, nat_tests) in
    let at : length tabs + 1 - 1 ≡ length tabs = omega arith in
    ap (λ (b : Bool). if b then slice_get tabs (length tabs + 1 - 1) else None) above ∙ ap (slice_get tabs) at ∙ slice_get-end tabs

-- ---- the answers with one tab more

numbers_more : (k n : ℕ) → numbers k (n + 1) ≡ numbers k n ++ (k + n) ∷ []
numbers_more k zero = ap (λ (m : ℕ). m ∷ []) (omega arith)
numbers_more k (suc n) =
    let m : suc k + n ≡ k + suc n = omega arith in
    let one : suc n + 1 ≡ suc (n + 1) = omega arith in
    ap (numbers k) one ∙ ap (λ (ms : List ℕ). k ∷ ms) (numbers_more (suc k) n) ∙ ap (λ (i : ℕ). k ∷ numbers (suc k) n ++ i ∷ []) m

contexts_more : (tabs : List StartTab) (tab : StartTab) → contexts_of (tabs ++ tab ∷ []) ≡ contexts_of tabs ++ nth_context (length tabs + 1) ∷ []
contexts_more tabs tab =
    let one : 1 + length tabs ≡ length tabs + 1 = omega arith in
    ap (λ (n : ℕ). map nth_context (numbers 1 n)) (length-append tabs (tab ∷ []))
    ∙ ap (map nth_context) (numbers_more 1 (length tabs))
    ∙ map-append nth_context (numbers 1 (length tabs)) ((1 + length tabs) ∷ [])
    ∙ ap (λ (n : ℕ). map nth_context (numbers 1 (length tabs)) ++ nth_context n ∷ []) one

module _ (tabs : List StartTab) (tab : StartTab) (p : ℕ) where
  abbrev x : ContextId
  x = nth_context (length tabs + 1)

  abbrev more : List StartTab
  more = tabs ++ tab ∷ []

  -- the tests of the contexts before don't change
  held_before : (k : ℕ) → k < length tabs + 1 → is_held_at_start more p (nth_context k) ≡ is_held_at_start tabs p (nth_context k)
  held_before k below =
      let other : (k == length tabs + 1) ≡ false = ne_eqb k (length tabs + 1) (λ e. absurd (omega (arith, below, e))) in
      ap (is_of_tab p) (tab_of-push tabs tab (nth_context k) ∙ ap (λ (b : Bool). if b then Some tab else tab_of tabs (nth_context k)) other)

  filter_before : (k n : ℕ) → k + n ≤ length tabs + 1 → filter (is_held_at_start more p) (map nth_context (numbers k n)) ≡ filter (is_held_at_start tabs p) (map nth_context (numbers k n))
  filter_before k zero le = refl
  filter_before k (suc n) le =
      ap₂ (λ (b : Bool) (xs : List ContextId). cond b (nth_context k ∷ xs) xs) (held_before k (omega (arith, le))) (filter_before (suc k) n (omega (arith, le)))

  -- none of them is greater than the new one
  none_greater : (q : ContextId → Bool) (k n : ℕ) → k + n ≤ length tabs + 1
      → position_or_len (λ y. true && is_greater y x) (filter q (map nth_context (numbers k n))) ≡ length (filter q (map nth_context (numbers k n)))
  none_greater q k zero le = refl
  none_greater q k (suc n) le = by (q (nth_context k)) (none_greater q (suc k) n (omega (arith, le)))
    where
      rest : List ContextId
      rest = filter q (map nth_context (numbers (suc k) n))

      less : nat_lt (length tabs + 1) k ≡ false
      less = let le' : k ≤ length tabs + 1 = omega (arith, le) in grind (arith, nat_tests, le')

      by : (b : Bool) → position_or_len (λ y. true && is_greater y x) rest ≡ length rest
          → position_or_len (λ y. true && is_greater y x) (cond b (nth_context k ∷ rest) rest) ≡ length (cond b (nth_context k ∷ rest) rest)
      by true is =
          let one : 1 + length rest ≡ suc (length rest) = omega arith in
          ap₂ (λ (b : Bool) (m : ℕ). cond (not b) (1 + m) 0) less is ∙ one
      by false is = is

  its : (b : Bool) → is_of_tab p (Some tab) ≡ b → is_held_at_start more p x ≡ b
  its b is = ap (is_of_tab p) (tab_of-push tabs tab x ∙ ap (λ (c : Bool). if c then Some tab else tab_of tabs x) (same_itself x)) ∙ is

  -- the order
  order_is : (b : Bool) → is_of_tab p (Some tab) ≡ b → (seen_at_start more p).order ≡ (seen_at_start tabs p).order ++ cond b (x ∷ []) []
  order_is b is =
      ap (filter (is_held_at_start more p)) (contexts_more tabs tab)
      ∙ filter-append (is_held_at_start more p) (contexts_of tabs) (x ∷ [])
      ∙ ap₂ (λ (ys : List ContextId) (c : Bool). ys ++ cond c (x ∷ []) []) (filter_before 1 (length tabs) (omega arith)) (its b is)

  order_same : is_of_tab p (Some tab) ≡ false → (seen_at_start tabs p).order ≡ (seen_at_start more p).order
  order_same other = sym (order_is false other ∙ append-nil (seen_at_start tabs p).order)

  order_more : is_of_tab p (Some tab) ≡ true
      → insert (seen_at_start tabs p).order (place_for (seen_at_start tabs p) x None) x ≡ (seen_at_start more p).order
  order_more is =
      let order : List ContextId = (seen_at_start tabs p).order in
      ap (λ (k : ℕ). insert order k x) (none_greater (is_held_at_start tabs p) 1 (length tabs) (omega arith))
      ∙ ap₂ (λ (ys zs : List ContextId). ys ++ x ∷ zs) (take_all (length order) order (omega arith)) (drop_all (length order) order (omega arith))
      ∙ sym (order_is true is)

  tab_at : (y : ContextId) → (if same_context y x then Some tab else tab_of tabs y) ≡ tab_of more y
  tab_at y = sym (tab_of-push tabs tab y)

  abbrev of_owner : Bool
  of_owner = tab.owner.0 == p

  abbrev its_group : GroupId
  its_group = record { 0 = length tabs + 1 }

  -- what is asked of a context, by its tab
  abbrev group_by : ContextId → Option StartTab → Option GroupId
  group_by y o = if is_of_tab p o then option_map (λ t. record { 0 = y.serial }) o else None

  abbrev owns_by : Option StartTab → Bool
  owns_by o = option_map_or (λ t. t.owner.0 == p) o false

  module _ (is : is_of_tab p (Some tab) ≡ true) where
    holds_more : (b : Bool) (o : Option StartTab) → (if b then true else is_of_tab p o) ≡ is_of_tab p (if b then Some tab else o)
    holds_more true o = sym is
    holds_more false o = refl

    group_more : (y : ContextId) (b : Bool) → same_context y x ≡ b → (o : Option StartTab) → (if b then Some its_group else group_by y o) ≡ group_by y (if b then Some tab else o)
    group_more y true same o =
        ap (λ (z : ContextId). Some (record { 0 = z.serial })) (sym (same_equal y x same))
        ∙ ap (λ (c : Bool). if c then Some (record { 0 = y.serial }) else None) (sym is)
    group_more y false other o = refl

    above_more : (b : Bool) → (if b then None else None) ≡ no_context
    above_more true = refl
    above_more false = refl

    under_more : (b c : Bool) (o : Option StartTab) → (if b then c || false else is_of_tab p o && c) ≡ (is_of_tab p (if b then Some tab else o) && c)
    under_more true true o = ap (λ (d : Bool). d && true) (sym is)
    under_more true false o = ap (λ (d : Bool). d && false) (sym is)
    under_more false c o = refl

    owns_more : (b : Bool) (o : Option StartTab) → (if b then of_owner else owns_by o) ≡ owns_by (if b then Some tab else o)
    owns_more true o = refl
    owns_more false o = refl

    value_more : (fld : Field) (b : Bool) (o : Option StartTab)
        → (if b then Some (value_in initial_table fld) else some_if (is_of_tab p o) (initial fld)) ≡ some_if (is_of_tab p (if b then Some tab else o)) (initial fld)
    value_more fld true o = ap (λ (v : Value). Some v) (value_in-map initial fld) ∙ ap (λ (c : Bool). some_if c (initial fld)) (sym is)
    value_more fld false o = refl

    nothing : (b : Bool) → ◌≡◌ {A = ℕ} (if b then 0 else 0) 0
    nothing true = refl
    nothing false = refl

    start_more : record (with_context x (Some its_group) None of_owner (value_in initial_table) (seen_at_start tabs p)) { frames_made = 0 } ≡ seen_at_start more p
    start_more = λ j. record {
      running = true;
      commits = 0;
      taken = 0;
      frames_made = 0;
      holds = λ y. (holds_more (same_context y x) (tab_of tabs y) ∙ ap (is_of_tab p) (tab_at y)) j;
      group = λ y. (group_more y (same_context y x) refl (tab_of tabs y) ∙ ap (group_by y) (tab_at y)) j;
      above = λ y. above_more (same_context y x) j;
      under = λ y z. (under_more (same_context y x) (same_context y z) (tab_of tabs y) ∙ ap (λ (o : Option StartTab). is_of_tab p o && same_context y z) (tab_at y)) j;
      owns = λ y. (owns_more (same_context y x) (tab_of tabs y) ∙ ap owns_by (tab_at y)) j;
      value = λ y fld. (value_more fld (same_context y x) (tab_of tabs y) ∙ ap (λ (o : Option StartTab). some_if (is_of_tab p o) (initial fld)) (tab_at y)) j;
      newest = λ y fld. nothing (same_context y x) j;
      order = order_more is j;
    }

  module _ (other : is_of_tab p (Some tab) ≡ false) where
    not_owner : false ≡ of_owner
    not_owner = by of_owner refl
      where
        either : (p == tab.owner.0) ≡ false
        either = first (p == tab.owner.0) (bit_at tab.also.0 p == 1) (sym (of_tab-either p tab.owner.0 tab.also.0) ∙ other)
          where
            first : (a b : Bool) → (a || b) ≡ false → a ≡ false
            first false b e = refl
            first true b e = absurd (true≢false e)

        by : (b : Bool) → of_owner ≡ b → false ≡ b
        by false e = refl
        by true e = absurd (true≢false (sym (eq-eqb p tab.owner.0 (sym (eqb-true tab.owner.0 p e))) ∙ either))

    -- what is asked of the new context is what is asked of none
    same_by : {A : Type 0} (f : Option StartTab → A) → f None ≡ f (Some tab) → (y : ContextId) → f (tab_of tabs y) ≡ f (tab_of more y)
    same_by f same y = by (same_context y x) refl ∙ ap f (tab_at y)
      where
        by : (b : Bool) → same_context y x ≡ b → f (tab_of tabs y) ≡ f (if b then Some tab else tab_of tabs y)
        by true e = ap f (ap (tab_of tabs) (same_equal y x e) ∙ tab_of-end tabs) ∙ same
        by false e = refl

    start_same : seen_at_start tabs p ≡ seen_at_start more p
    start_same = λ j. record {
      running = true;
      commits = 0;
      taken = 0;
      frames_made = 0;
      holds = λ y. same_by (is_of_tab p) (sym other) y j;
      group = λ y. same_by (group_by y) (ap (λ (c : Bool). if c then Some (record { 0 = y.serial }) else None) (sym other)) y j;
      above = λ y. None;
      under = λ y z. same_by (λ o. is_of_tab p o && same_context y z) (ap (λ (c : Bool). c && same_context y z) (sym other)) y j;
      owns = λ y. same_by owns_by not_owner y j;
      value = λ y fld. same_by (λ o. some_if (is_of_tab p o) (initial fld)) (ap (λ (c : Bool). some_if c (initial fld)) (sym other)) y j;
      newest = λ y fld. 0;
      order = order_same other j;
    }

  -- ---- the contexts

  module _ (old new : Contexts) (at : AreAtStart tabs p old) where
    -- the context of the tab isn't held yet
    pub tab_fresh : is_held x old.tree ≡ false
    tab_fresh = ap (λ (s : Seen). s.holds x) at.seen ∙ ap (is_of_tab p) (tab_of-end tabs)

    at_more : is_of_tab p (Some tab) ≡ true → HoldsMore x None (record { group = its_group; owned = of_owner }) initial_table old new → AreAtStart more p new
    at_more is put =
        let hold : Hold = record { group = its_group; owned = of_owner } in
        record {
          whole = whole-put p x None hold initial_table old new 0 at.whole put tab_fresh refl 0 (omega arith) (omega arith) (λ mine. absurd (omega (arith, mine)));
          seen =
              seen-put p x None hold initial_table old new 0 at.whole put tab_fresh refl 0 0 0 true
              ∙ ap (λ (s : Seen). record (with_context x (Some its_group) None of_owner (value_in initial_table) s) { frames_made = 0 }) at.seen
              ∙ start_more is;
        }

    at_same : is_of_tab p (Some tab) ≡ false → new ≡ old → AreAtStart more p new
    at_same other same = subst (AreAtStart more p) (sym same) (record { whole = at.whole; seen = at.seen ∙ start_same other })

-- ---- no tab

pub at_none : (p : ℕ) (held : Contexts) → p < 16 → held.tree ≡ [] → held.store ≡ empty → held.holds.entries ≡ [] → AreAtStart [] p held
at_none p held number tree store holds = record {
  whole = record {
    tree = subst IsTree (sym tree) (record { hangs = tt; distinct = distinct_none; rises = tt });
    there = λ y. ap is_some (at y) ∙ sym (ap (is_held y) tree);
    known = λ y. ap (λ (hs : Holds). is_some (hold_of y hs)) holds ∙ sym (ap (is_held y) tree);
    long = λ y. subst (λ (o : Option Stored). IfSome o (λ s. length s.fields ≡ length fields)) (sym (at y)) tt;
    own = λ y is. absurd (true≢false (sym is ∙ ap (is_held y) tree));
    few = omega arith;
    number = number;
  };
  seen = λ j. record {
    running = true;
    commits = 0;
    taken = 0;
    frames_made = 0;
    holds = λ y. (ap (is_held y) tree ∙ ap (is_of_tab p) (sym (none y))) j;
    group = λ y. (ap (λ (hs : Holds). option_map (λ h. h.group) (hold_of y hs)) holds ∙ ap (λ (o : Option StartTab). if is_of_tab p o then option_map (λ t. record { 0 = y.serial }) o else None) (sym (none y))) j;
    above = λ y. ap (parent_in y) tree j;
    under = λ y z. (ap (is_under y z) tree ∙ ap (λ (o : Option StartTab). is_of_tab p o && same_context y z) (sym (none y))) j;
    owns = λ y. (ap (λ (hs : Holds). option_map_or (λ h. h.owned) (hold_of y hs) false) holds ∙ ap (λ (o : Option StartTab). option_map_or (λ t. t.owner.0 == p) o false) (sym (none y))) j;
    value = λ y fld. (ap (option_map (λ (s : Stored). value_in s.fields fld)) (at y) ∙ ap (λ (o : Option StartTab). some_if (is_of_tab p o) (initial fld)) (sym (none y))) j;
    newest = λ y fld. ap (λ (o : Option Stored). option_map_or (λ s. (epoch_of s.epochs fld).0) o 0) (at y) j;
    order = ap contexts tree j;
  };
}
  where
    at : (y : ContextId) → get held.store y ≡ None
    at y = ap (λ (m : Content). get m y) store ∙ get-empty context_order y

    none : (y : ContextId) → tab_of [] y ≡ None
    none y = by (y.creator == 0 && nat_lt 0 y.serial)
      where
        by : (b : Bool) → (if b then None else None) ≡ no_tab
        by true = refl
        by false = refl

-- ---- a step of the loop

pub at_step : (tabs : List StartTab) (i serial p : ℕ) (d : StartTab) (old new : Contexts) → i < length tabs → serial ≡ i + 1 → AreAtStart (take i tabs) p old
    → AddsTab p (get_or tabs i d) serial old new → AreAtStart (take (i + 1) tabs) p new
at_step tabs i serial p d old new within serial_is at adds =
    let tab : StartTab = get_or tabs i d in
    let long : length (take i tabs) ≡ i = length-take-le i tabs (omega (arith, within)) in
    let n : serial ≡ length (take i tabs) + 1 = omega (arith, long, serial_is) in
    let named : AddsTab p tab (length (take i tabs) + 1) old new = subst (λ (k : ℕ). AddsTab p tab k old new) n adds in
    subst (λ (ts : List StartTab). AreAtStart ts p new) (sym (take_more tabs i d within)) (by (is_of_tab p (Some tab)) refl tab named)
  where
    by : (b : Bool) → is_of_tab p (Some (get_or tabs i d)) ≡ b → (tab : StartTab) → AddsTab p (get_or tabs i d) (length (take i tabs) + 1) old new → AreAtStart (take i tabs ++ get_or tabs i d ∷ []) p new
    by true is tab adds = at_more (take i tabs) (get_or tabs i d) p old new at is (adds.its is)
    by false is tab adds = at_same (take i tabs) (get_or tabs i d) p old new at is (adds.other is)

-- the next context isn't held yet
pub next_fresh : (tabs : List StartTab) (i serial p : ℕ) (held : Contexts) → i < length tabs → serial ≡ i + 1 → AreAtStart (take i tabs) p held → is_held (nth_context serial) held.tree ≡ false
next_fresh tabs i serial p held within serial_is at =
    let long : length (take i tabs) ≡ i = length-take-le i tabs (omega (arith, within)) in
    let n : serial ≡ length (take i tabs) + 1 = omega (arith, long, serial_is) in
    ap (λ (k : ℕ). is_held (nth_context k) held.tree) n
    ∙ tab_fresh (take i tabs) (record { owner = record { 0 = 0 }; also = record { 0 = 0 } }) p held held at
