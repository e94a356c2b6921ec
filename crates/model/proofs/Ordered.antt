-- Both sides hold their contexts in pre-order: those in the order are the live ones of the parent, and the held ones of a
-- process.
use Rattle.std.proofs.Common.{◌≡◌, ℕ, zero, suc, ◌+◌, ◌-◌, ◌<◌, ◌≤◌, ◌==◌, Bool, true, false, not, ◌&&◌, ◌||◌, if◌then◌else◌, Option, None, Some, List, [], ◌∷◌, ◌++◌, length, map, filter, is_some, refl, ap, ap₂, sym, subst, ◌∙◌, arith}
use Rattle.std.specs.Prelude.{insert, nat_lt, nat_le, slice_get, is_none}
use Rattle.std.specs.List.{AllByRecursion, list_any, position_or_len}
use Rattle.std.proofs.lemmas.Bool.Decides.{nat_tests}
use Rattle.fission_ids.specs.declared.context.ContextId.{ContextId}
use Rattle.fission_ids.specs.declared.group.GroupId.{GroupId}
use Rattle.fission_ids.specs.Ids.{same_context}
use Rattle.context_tree.specs.Tree.{is_less}
use Rattle.field_table.specs.Table.{value_in}
use Rattle.wire_msgs.specs.declared.config.StartTab.{StartTab}
use Rattle.wire_msgs.specs.declared.part.Known.{Known}
use Rattle.protocol.specs.FactsAfter.{facts_after, last_place_in}
use Rattle.protocol.specs.Questions.{Facts}
use Rattle.protocol.specs.Sayings.{Saying}
use Rattle.protocol.specs.Sayings.Saying.{Opened, Made, BornDead, Removed, Wrote, Acked, Subscribed, Counted, Sent, Ended}
use Rattle.protocol.specs.Seen.{Seen, Doing}
use Rattle.protocol.specs.Seen.Doing.{Came, Framed, Went, Wrote as OwnWrote, Given, Disowned, Took, Stopped}
use Rattle.protocol.specs.SeenAfter.{seen_after, with_context, place_for, is_greater}
use Rattle.protocol.specs.Start.{nth_context, numbers, contexts_of, tab_of, is_live, is_of_tab, is_held_at_start}
use Rattle.protocol.specs.Take.{may_come, option_all}
use Rattle.model.specs.Lines.{Making, makings_said, line, above_in, is_among}
use Rattle.model.specs.Parent.{asked}
use Rattle.model.specs.Parent as parent
use Rattle.model.specs.Process.{own_asked}
use Rattle.model.specs.Process as own
use Rattle.model.proofs.AskedMore.{asked_more, own_asked_more}
use Rattle.model.proofs.Cases.{by_if, true_false, same_itself}
use Rattle.model.proofs.Fitting.{SayingFits, MadeFits, OpenedFits, FactsTies, AllFit, facts_tied, told_first}
use Rattle.model.proofs.Holding.{DoingFits, FramedFits, KnownFits, SeenTies, AllDone, seen_tied}
use Rattle.model.proofs.Lining.{Lined, IsToldBy}
use Rattle.model.proofs.Living.{opened_new, opened_top}
use Rattle.model.proofs.Preorder.{Preorder, there_same, filter_within, among_filtered, all_kept, place_below, place_of_top, position_within, position_none, preorder_with, preorder_with_top, preorder_without, below_inserted, below_with, below_without, below_of, is_outside, Rises, rises_kept, tops_in_order}

-- ---- the tabs of the start

rising_from : (j k n : ℕ) → j < k → AllByRecursion (λ y. is_less (nth_context j) y ≡ true) (map nth_context (numbers k n))
rising_from j k zero less = tt
rising_from j k (suc n) less = (grind (arith, nat_tests), rising_from j (suc k) n (omega (arith, less)))

tab_among : (x : ContextId) (k n : ℕ) → list_any (same_context x) (map nth_context (numbers k n)) ≡ (x.creator == 0 && (nat_le k x.serial && nat_lt x.serial (k + n)))
tab_among x k zero = by_tests (x.creator == 0)
  where
    empty : false ≡ (nat_le k x.serial && nat_lt x.serial (k + 0))
    empty = grind (arith, nat_tests)

    by_tests : (b : Bool) → false ≡ (b && (nat_le k x.serial && nat_lt x.serial (k + 0)))
    by_tests true = empty
    by_tests false = refl
tab_among x k (suc n) = ap (λ b. (x.creator == 0 && x.serial == k) || b) (tab_among x (suc k) n) ∙ by_tests (x.creator == 0)
  where
    one_more : (x.serial == k || (nat_le (suc k) x.serial && nat_lt x.serial (suc k + n))) ≡ (nat_le k x.serial && nat_lt x.serial (k + suc n))
    one_more = grind (arith, nat_tests)

    by_tests : (b : Bool) → ((b && x.serial == k) || (b && (nat_le (suc k) x.serial && nat_lt x.serial (suc k + n)))) ≡ (b && (nat_le k x.serial && nat_lt x.serial (k + suc n)))
    by_tests true = one_more
    by_tests false = refl

some_at : {A : Type 0} (xs : List A) (i : ℕ) → is_some (slice_get xs i) ≡ nat_lt i (length xs)
some_at [] i = grind (arith, nat_tests)
some_at (x ∷ xs) zero = grind (arith, nat_tests)
some_at (x ∷ xs) (suc i) = some_at xs i ∙ one_less i (length xs)
  where
    one_less : (i n : ℕ) → nat_lt i n ≡ nat_lt (suc i) (suc n)
    one_less i n = grind (arith, nat_tests)

pub tabs_are : (tabs : List StartTab) (x : ContextId) → list_any (same_context x) (contexts_of tabs) ≡ is_live tabs x
tabs_are tabs x = tab_among x 1 (length tabs) ∙ by_tests (x.creator == 0) (nat_lt 0 x.serial) refl
  where
    within : (b : Bool) → nat_lt 0 x.serial ≡ b → (nat_le 1 x.serial && nat_lt x.serial (1 + length tabs)) ≡ (b && nat_lt (x.serial - 1) (length tabs))
    within b e = grind (arith, nat_tests)

    by_tests : (a b : Bool) → nat_lt 0 x.serial ≡ b → (a && (nat_le 1 x.serial && nat_lt x.serial (1 + length tabs))) ≡ is_some (if a && b then slice_get tabs (x.serial - 1) else None)
    by_tests false b e = refl
    by_tests true true e = within true e ∙ sym (some_at tabs (x.serial - 1))
    by_tests true false e = within false e

-- ---- each in the parent's order is known

all_among : (ys xs : List ContextId) → ((x : ContextId) → list_any (same_context x) xs ≡ true → list_any (same_context x) ys ≡ true) → AllByRecursion (λ x. list_any (same_context x) ys ≡ true) xs
all_among ys [] within = tt
all_among ys (x ∷ xs) within = (within x (ap (λ b. b || list_any (same_context x) xs) (same_itself x)), all_among ys xs (λ y e. within y (later (same_context y x) (list_any (same_context y) xs) e)))
  where
    later : (a b : Bool) → b ≡ true → (a || b) ≡ true
    later true b e = refl
    later false b e = e

all_inserted : (P : ContextId → Type 0) (xs : List ContextId) (n : ℕ) (x : ContextId) → AllByRecursion P xs → P x → AllByRecursion P (insert xs n x)
all_inserted P [] zero x all one = (one, tt)
all_inserted P [] (suc n) x all one = (one, tt)
all_inserted P (y ∷ xs) zero x all one = (one, all)
all_inserted P (y ∷ xs) (suc n) x all one = (all.0, all_inserted P xs n x all.1 one)

all_into : (P Q : ContextId → Type 0) (xs : List ContextId) → ((x : ContextId) → P x → Q x) → AllByRecursion P xs → AllByRecursion Q xs
all_into P Q [] step all = tt
all_into P Q (x ∷ xs) step all = (step x all.0, all_into P Q xs step all.1)

order_known_still : (f : Facts) (y : Saying) → AllByRecursion (λ x. f.contexts.known x ≡ true) f.contexts.order
    → AllByRecursion (λ x. (facts_after y f).contexts.known x ≡ true) (facts_after y f).contexts.order
unfolding facts_after
order_known_still f (Opened x g is_new p) all =
    all_inserted (λ z. (if same_context z x then true else f.contexts.known z) ≡ true) f.contexts.order (length f.contexts.order) x
    (all_into (λ z. f.contexts.known z ≡ true) (λ z. (if same_context z x then true else f.contexts.known z) ≡ true) f.contexts.order
    (λ z e. by_if (λ b. b ≡ true) (same_context z x) true (f.contexts.known z) (λ is. refl) (λ isnt. e)) all)
    (ap (λ (b : Bool). if b then true else f.contexts.known x) (same_itself x))
order_known_still f (Made p x a) all =
    all_inserted (λ z. (if same_context z x then true else f.contexts.known z) ≡ true) f.contexts.order (last_place_in a f.contexts) x
    (all_into (λ z. f.contexts.known z ≡ true) (λ z. (if same_context z x then true else f.contexts.known z) ≡ true) f.contexts.order
    (λ z e. by_if (λ b. b ≡ true) (same_context z x) true (f.contexts.known z) (λ is. refl) (λ isnt. e)) all)
    (ap (λ (b : Bool). if b then true else f.contexts.known x) (same_itself x))
order_known_still f (BornDead p x a) all =
    all_into (λ z. f.contexts.known z ≡ true) (λ z. (if same_context z x then true else f.contexts.known z) ≡ true) f.contexts.order
    (λ z e. by_if (λ b. b ≡ true) (same_context z x) true (f.contexts.known z) (λ is. refl) (λ isnt. e)) all
order_known_still f (Removed w but) all = all_kept (λ z. f.contexts.known z ≡ true) (λ z. not (f.contexts.under z w)) f.contexts.order all
order_known_still f (Subscribed p g) all = all
order_known_still f (Wrote x c) all = all
order_known_still f (Acked p x) all = all
order_known_still f (Counted p) all = all
order_known_still f (Sent p) all = all
order_known_still f (Ended p cause) all = all

pub order_known : (tabs : List StartTab) (says : List Saying) → AllByRecursion (λ x. (asked tabs says).contexts.known x ≡ true) (asked tabs says).contexts.order
unfolding parent.order parent.known
order_known tabs [] =
    all_into (λ x. list_any (same_context x) (contexts_of tabs) ≡ true) (λ x. is_live tabs x ≡ true) (contexts_of tabs) (λ x e. sym (tabs_are tabs x) ∙ e)
    (all_among (contexts_of tabs) (contexts_of tabs) (λ x e. e))
order_known tabs (y ∷ says) =
    subst (λ (f : Facts). AllByRecursion (λ x. f.contexts.known x ≡ true) f.contexts.order) (sym (asked_more tabs y says)) (order_known_still (asked tabs says) y (order_known tabs says))

-- ---- the orders

module _ (tabs : List StartTab) (mk : List Making) (l : Lined mk) where
  rise_numbers : (k n : ℕ) → Rises mk l (map nth_context (numbers k n))
  rise_numbers k zero = tt
  rise_numbers k (suc n) = (rising_from k (suc k) n (omega arith), rise_numbers (suc k) n)

  top_numbers : (k n : ℕ) → AllByRecursion (λ x. above_in mk x ≡ None) (map nth_context (numbers k n))
  top_numbers k zero = tt
  top_numbers k (suc n) = (l.tabs (nth_context k) refl, top_numbers (suc k) n)

  pub parent_start : Preorder mk (asked tabs []).contexts.order (asked tabs []).contexts.live
  unfolding parent.order parent.live
  parent_start = tops_in_order mk l (contexts_of tabs) (is_live tabs) (rise_numbers 1 (length tabs)) (top_numbers 1 (length tabs)) (tabs_are tabs)

  pub held_start : (p : ℕ) → Preorder mk (own_asked tabs p []).order (own_asked tabs p []).holds
  unfolding own.order own.holds
  held_start p =
      tops_in_order mk l (filter (is_held_at_start tabs p) (contexts_of tabs)) (is_held_at_start tabs p)
      (rises_kept mk l (is_held_at_start tabs p) (contexts_of tabs) (rise_numbers 1 (length tabs)))
      (all_kept (λ x. above_in mk x ≡ None) (is_held_at_start tabs p) (contexts_of tabs) (top_numbers 1 (length tabs)))
      (λ x. among_filtered (is_held_at_start tabs p) x (contexts_of tabs) ∙ ap (λ b. b && is_held_at_start tabs p x) (tabs_are tabs x) ∙ both (tab_of tabs x))
    where
      both : (o : Option StartTab) → (is_some o && is_of_tab p o) ≡ is_of_tab p o
      both None = refl
      both (Some tab) = refl

  -- ---- the parent

  made_order : (f : Facts) (p : ℕ) (x a : ContextId) → FactsTies tabs mk f → Preorder mk f.contexts.order f.contexts.live → (facts_after (Made p x a) f).contexts.order ≡ insert f.contexts.order (place_below mk l a f.contexts.order) x
  unfolding facts_after
  made_order f p x a t o =
      ap (λ zs. insert f.contexts.order (position_or_len (same_context a) f.contexts.order + length zs) x)
      (filter_within (λ z. f.contexts.under z a) (λ z. is_among a (line z mk)) f.contexts.order (λ z among. t.live_under z a (sym (o.members z) ∙ among)))

  removed_order : (f : Facts) (w : ContextId) (but : Option ℕ) → FactsTies tabs mk f → Preorder mk f.contexts.order f.contexts.live → (facts_after (Removed w but) f).contexts.order ≡ filter (is_outside mk l w) f.contexts.order
  unfolding facts_after
  removed_order f w but t o = filter_within (λ z. not (f.contexts.under z w)) (is_outside mk l w) f.contexts.order (λ z among. ap not (t.live_under z w (sym (o.members z) ∙ among)))

  pub made_below : (f : Facts) (p : ℕ) (x a y : ContextId) → above_in mk x ≡ Some a → MadeFits f p x a → FactsTies tabs mk f → Preorder mk f.contexts.order f.contexts.live
      → below_of mk y (facts_after (Made p x a) f).contexts.order ≡ below_of mk y f.contexts.order ++ (if same_context y a then x ∷ [] else [])
  made_below f p x a y up fits t o = ap (below_of mk y) (made_order f p x a t o) ∙ below_with mk l f.contexts.order f.contexts.live o x a up (new_dead f x t fits.new) fits.live y
    where
      new_dead : (f : Facts) (x : ContextId) → FactsTies tabs mk f → f.contexts.known x ≡ false → f.contexts.live x ≡ false
      new_dead f x t new = by_live (f.contexts.live x) refl
        where
          by_live : (b : Bool) → f.contexts.live x ≡ b → b ≡ false
          by_live false e = refl
          by_live true e = true_false (f.contexts.known x) (t.live_known x e) new

  pub removed_below : (f : Facts) (w : ContextId) (but : Option ℕ) (y : ContextId) → FactsTies tabs mk f → Preorder mk f.contexts.order f.contexts.live
      → below_of mk y (facts_after (Removed w but) f).contexts.order ≡ filter (is_outside mk l w) (below_of mk y f.contexts.order)
  removed_below f w but y t o = ap (below_of mk y) (removed_order f w but t o) ∙ below_without mk l f.contexts.order w y

  made_in_order : (f : Facts) (p : ℕ) (x a : ContextId) → above_in mk x ≡ Some a → MadeFits f p x a → FactsTies tabs mk f → Preorder mk f.contexts.order f.contexts.live
      → Preorder mk (facts_after (Made p x a) f).contexts.order (facts_after (Made p x a) f).contexts.live
  unfolding facts_after
  made_in_order f p x a up fits t o =
      subst (λ xs. Preorder mk xs (λ z. if same_context z x then true else f.contexts.live z)) (sym (made_order f p x a t o))
      (preorder_with mk l f.contexts.order f.contexts.live o x a up (by_live (f.contexts.live x) refl) fits.live)
    where
      by_live : (b : Bool) → f.contexts.live x ≡ b → f.contexts.live x ≡ false
      by_live false e = e
      by_live true e = true_false (f.contexts.known x) (t.live_known x e) fits.new

  removed_in_order : (f : Facts) (w : ContextId) (but : Option ℕ) → FactsTies tabs mk f → Preorder mk f.contexts.order f.contexts.live
      → Preorder mk (facts_after (Removed w but) f).contexts.order (facts_after (Removed w but) f).contexts.live
  unfolding facts_after
  removed_in_order f w but t o =
      subst (λ xs. Preorder mk xs (λ z. if f.contexts.under z w then false else f.contexts.live z)) (sym (removed_order f w but t o))
      (there_same mk (filter (is_outside mk l w) f.contexts.order) (λ z. f.contexts.live z && is_outside mk l w z) (λ z. if f.contexts.under z w then false else f.contexts.live z) (λ z. left z (f.contexts.live z) refl)
      (preorder_without mk l f.contexts.order f.contexts.live w o))
    where
      outside : (u : Bool) → not u ≡ (if u then false else true)
      outside true = refl
      outside false = refl

      left : (z : ContextId) (b : Bool) → f.contexts.live z ≡ b → (b && is_outside mk l w z) ≡ (if f.contexts.under z w then false else f.contexts.live z)
      left z true e = outside (is_among w (line z mk)) ∙ ap₂ (λ (u v : Bool). if u then false else v) (sym (t.live_under z w e)) (sym e)
      left z false e = sym (ap (λ (u : Bool). if u then false else f.contexts.live z) (t.dead_under z w e) ∙ e)

  -- a tab's context goes behind all others, as they are its tabs before it, or frames
  opened_place : (f : Facts) (x : ContextId) (p : ℕ) → OpenedFits f x p → FactsTies tabs mk f → Preorder mk f.contexts.order f.contexts.live
      → length f.contexts.order ≡ place_of_top mk l x f.contexts.order
  opened_place f x p fits t o =
      sym (position_none f.contexts.order)
      ∙ position_within (λ y. false) (λ y. is_none (above_in mk y) && is_less x y) f.contexts.order (λ y among. by_above y (t.live_known y (sym (o.members y) ∙ among)) (above_in mk y) refl)
    where
      no_less : (y : ContextId) → x.creator ≡ 0 → y.creator ≡ 0 → y.serial ≤ x.serial → false ≡ (nat_lt x.creator y.creator || (x.creator == y.creator && nat_lt x.serial y.serial))
      no_less y a b c = grind (arith, nat_tests)

      by_above : (y : ContextId) → f.contexts.known y ≡ true → (o : Option ContextId) → above_in mk y ≡ o → false ≡ (is_none o && is_less x y)
      by_above y known None up =
          let tab : y.creator ≡ 0 = t.known_tops y known up in
          let serial_is : x.serial ≡ f.tabs_made + 1 = ap (λ (w : ContextId). w.serial) fits.next in
          no_less y (ap (λ (w : ContextId). w.creator) fits.next) tab (omega (arith, serial_is, t.tabs_low y known tab))
      by_above y known (Some a) up = refl

  opened_in_order : (f : Facts) (x : ContextId) (g : GroupId) (is_new : Bool) (p : ℕ) → OpenedFits f x p → FactsTies tabs mk f → Preorder mk f.contexts.order f.contexts.live
      → Preorder mk (facts_after (Opened x g is_new p) f).contexts.order (facts_after (Opened x g is_new p) f).contexts.live
  unfolding facts_after
  opened_in_order f x g is_new p fits t o =
      subst (λ n. Preorder mk (insert f.contexts.order n x) (λ z. if same_context z x then true else f.contexts.live z)) (sym (opened_place f x p fits t o))
      (preorder_with_top mk l f.contexts.order f.contexts.live o x (opened_top mk f x p l fits) (by_live (f.contexts.live x) refl))
    where
      by_live : (b : Bool) → f.contexts.live x ≡ b → f.contexts.live x ≡ false
      by_live false e = e
      by_live true e = true_false (f.contexts.known x) (t.live_known x e) (opened_new tabs mk f x p t fits)

  -- it is a child of none
  pub opened_below : (f : Facts) (x : ContextId) (g : GroupId) (is_new : Bool) (p : ℕ) (y : ContextId) → OpenedFits f x p
      → below_of mk y (facts_after (Opened x g is_new p) f).contexts.order ≡ below_of mk y f.contexts.order
  unfolding facts_after
  opened_below f x g is_new p y fits = below_inserted mk y x (opened_top mk f x p l fits) f.contexts.order (length f.contexts.order)

  -- what is said keeps the order
  pub order_still : (f : Facts) (y : Saying) → AllByRecursion (IsToldBy mk) (makings_said (y ∷ [])) → SayingFits f y → FactsTies tabs mk f → Preorder mk f.contexts.order f.contexts.live
      → Preorder mk (facts_after y f).contexts.order (facts_after y f).contexts.live
  unfolding facts_after
  order_still f (Opened x g is_new p) told fits t o = opened_in_order f x g is_new p fits t o
  order_still f (Made p x a) told fits t o = made_in_order f p x a told.0 fits t o
  order_still f (BornDead p x a) told fits t o = o
  order_still f (Removed w but) told fits t o = removed_in_order f w but t o
  order_still f (Subscribed p g) told fits t o = o
  order_still f (Wrote x c) told fits t o = o
  order_still f (Acked p x) told fits t o = o
  order_still f (Counted p) told fits t o = o
  order_still f (Sent p) told fits t o = o
  order_still f (Ended p cause) told fits t o = o

  pub parent_in_order : (says : List Saying) → AllByRecursion (IsToldBy mk) (makings_said says) → AllFit tabs says → Preorder mk (asked tabs says).contexts.order (asked tabs says).contexts.live
  parent_in_order [] told fit = parent_start
  parent_in_order (y ∷ says) told fit =
      let parts : AllByRecursion (IsToldBy mk) (makings_said (y ∷ [])) × AllByRecursion (IsToldBy mk) (makings_said says) = told_first mk y says told in
      subst (λ g. Preorder mk g.contexts.order g.contexts.live) (sym (asked_more tabs y says))
      (order_still (asked tabs says) y parts.0 fit.0 (facts_tied tabs mk says l parts.1 fit.1) (parent_in_order says parts.1 fit.1))

  -- ---- a process

  module _ (p : ℕ) where
    place_is : (s : Seen) (x a : ContextId) → SeenTies tabs p mk s → Preorder mk s.order s.holds → insert s.order (place_for s x (Some a)) x ≡ insert s.order (place_below mk l a s.order) x
    place_is s x a t o =
        ap (λ zs. insert s.order (position_or_len (same_context a) s.order + length zs) x)
        (filter_within (λ z. s.under z a) (λ z. is_among a (line z mk)) s.order (λ z among. t.held_under z a (sym (o.members z) ∙ among)))

    went_order : (s : Seen) (w : ContextId) → SeenTies tabs p mk s → Preorder mk s.order s.holds → filter (λ z. not (s.under z w)) s.order ≡ filter (is_outside mk l w) s.order
    went_order s w t o = filter_within (λ z. not (s.under z w)) (is_outside mk l w) s.order (λ z among. ap not (t.held_under z w (sym (o.members z) ∙ among)))

    -- where one comes
    one_in_order : (s : Seen) (x a : ContextId) → above_in mk x ≡ Some a → s.holds x ≡ false → s.holds a ≡ true → SeenTies tabs p mk s → Preorder mk s.order s.holds
        → Preorder mk (insert s.order (place_for s x (Some a)) x) (λ z. if same_context z x then true else s.holds z)
    one_in_order s x a up new held t o =
        subst (λ xs. Preorder mk xs (λ z. if same_context z x then true else s.holds z)) (sym (place_is s x a t o)) (preorder_with mk l s.order s.holds o x a up new held)

    pub one_below : (s : Seen) (x a y : ContextId) → above_in mk x ≡ Some a → s.holds x ≡ false → s.holds a ≡ true → SeenTies tabs p mk s → Preorder mk s.order s.holds
        → below_of mk y (insert s.order (place_for s x (Some a)) x) ≡ below_of mk y s.order ++ (if same_context y a then x ∷ [] else [])
    one_below s x a y up new held t o = ap (below_of mk y) (place_is s x a t o) ∙ below_with mk l s.order s.holds o x a up new held y

    pub went_below : (s : Seen) (w y : ContextId) → SeenTies tabs p mk s → Preorder mk s.order s.holds → below_of mk y (seen_after p (Went w) s).order ≡ filter (is_outside mk l w) (below_of mk y s.order)
    unfolding seen_after
    went_below s w y t o = ap (below_of mk y) (went_order s w t o) ∙ below_without mk l s.order w y

    -- the parts of what may come
    pub comes_where : (s : Seen) (k : Known) (a : ContextId) → k.parent ≡ Some a → may_come p s k ≡ true → (s.holds k.context ≡ false) × (s.holds a ≡ true)
    comes_where s k a frame e = parts (s.holds k.context) (not (k.context.creator == p + 1)) (s.holds a) (sym (ap (λ o. not (s.holds k.context) && not (k.context.creator == p + 1) && option_all s.holds o) frame) ∙ e)
      where
        parts : (u v w : Bool) → (not u && v && w) ≡ true → (u ≡ false) × (w ≡ true)
        parts true v w e = absurd cc
        parts false true w e = (refl, e)
        parts false false w e = absurd cc

    -- a top-level one goes before the first that is greater
    top_place : (s : Seen) (x : ContextId) → SeenTies tabs p mk s → Preorder mk s.order s.holds → place_for s x None ≡ place_of_top mk l x s.order
    top_place s x t o = position_within (λ y. is_none (s.above y) && is_greater y x) (λ y. is_none (above_in mk y) && is_less x y) s.order
        (λ y among. ap (λ (a : Option ContextId). is_none a && is_less x y) (t.held_above y (sym (o.members y) ∙ among)))

    top_in_order : (s : Seen) (x : ContextId) → above_in mk x ≡ None → s.holds x ≡ false → SeenTies tabs p mk s → Preorder mk s.order s.holds
        → Preorder mk (insert s.order (place_for s x None) x) (λ z. if same_context z x then true else s.holds z)
    top_in_order s x up new t o =
        subst (λ n. Preorder mk (insert s.order n x) (λ z. if same_context z x then true else s.holds z)) (sym (top_place s x t o)) (preorder_with_top mk l s.order s.holds o x up new)

    -- and is a child of none
    pub top_below : (s : Seen) (x y : ContextId) → above_in mk x ≡ None → below_of mk y (insert s.order (place_for s x None) x) ≡ below_of mk y s.order
    top_below s x y up = below_inserted mk y x up s.order (place_for s x None)

    -- what may come isn't held
    pub comes_unheld : (s : Seen) (k : Known) → may_come p s k ≡ true → s.holds k.context ≡ false
    comes_unheld s k e = first (s.holds k.context) (not (k.context.creator == p + 1)) (option_all s.holds k.parent) e
      where
        first : (u v w : Bool) → (not u && v && w) ≡ true → u ≡ false
        first true v w e = absurd cc
        first false v w e = refl

    came_in_order : (s : Seen) (k : Known) → KnownFits tabs mk k → SeenTies tabs p mk s → Preorder mk s.order s.holds → Preorder mk (seen_after p (Came k) s).order (seen_after p (Came k) s).holds
    unfolding seen_after
    came_in_order s k fits t o = by_test (may_come p s k) refl
      where
        came : Option ContextId → Seen
        came parent = with_context k.context (Some k.group) parent k.owned (value_in k.fields) s

        by_parent : (parent : Option ContextId) → k.parent ≡ parent → may_come p s k ≡ true → Preorder mk (came parent).order (came parent).holds
        by_parent None is e = top_in_order s k.context (sym fits.above ∙ is) (comes_unheld s k e) t o
        by_parent (Some a) is e =
            let both : (s.holds k.context ≡ false) × (s.holds a ≡ true) = comes_where s k a is e in
            one_in_order s k.context a (sym fits.above ∙ is) both.0 both.1 t o

        by_test : (b : Bool) → may_come p s k ≡ b → Preorder mk (if b then came k.parent else s).order (if b then came k.parent else s).holds
        by_test false e = o
        by_test true e = by_parent k.parent refl e

    pub framed_new : (s : Seen) (x a : ContextId) → FramedFits p mk s x a → SeenTies tabs p mk s → s.holds x ≡ false
    framed_new s x a fits t = by_held (s.holds x) refl
      where
        by_held : (b : Bool) → s.holds x ≡ b → s.holds x ≡ false
        by_held false e = e
        by_held true e = absurd (omega (arith, t.held_own x e (ap (λ (z : ContextId). z.creator) fits.next), ap (λ (z : ContextId). z.serial) fits.next))

    went_in_order : (s : Seen) (w : ContextId) → SeenTies tabs p mk s → Preorder mk s.order s.holds → Preorder mk (seen_after p (Went w) s).order (seen_after p (Went w) s).holds
    unfolding seen_after
    went_in_order s w t o =
        subst (λ xs. Preorder mk xs (λ z. if s.under z w then false else s.holds z)) (sym (went_order s w t o))
        (there_same mk (filter (is_outside mk l w) s.order) (λ z. s.holds z && is_outside mk l w z) (λ z. if s.under z w then false else s.holds z) (λ z. left z (s.holds z) refl) (preorder_without mk l s.order s.holds w o))
      where
        outside : (u : Bool) → not u ≡ (if u then false else true)
        outside true = refl
        outside false = refl

        left : (z : ContextId) (b : Bool) → s.holds z ≡ b → (b && is_outside mk l w z) ≡ (if s.under z w then false else s.holds z)
        left z true e = outside (is_among w (line z mk)) ∙ ap₂ (λ (u v : Bool). if u then false else v) (sym (t.held_under z w e)) (sym e)
        left z false e = sym (ap (λ (u : Bool). if u then false else s.holds z) (t.unheld_under z w e) ∙ e)

    -- what is done keeps the order
    pub held_order_still : (s : Seen) (d : Doing) → DoingFits tabs p mk s d → SeenTies tabs p mk s → Preorder mk s.order s.holds → Preorder mk (seen_after p d s).order (seen_after p d s).holds
    unfolding seen_after
    held_order_still s (Came k) fits t o = came_in_order s k fits t o
    held_order_still s (Framed x a) fits t o = one_in_order s x a fits.made (framed_new s x a fits t) fits.held t o
    held_order_still s (Went w) fits t o = went_in_order s w t o
    held_order_still s (OwnWrote x c) fits t o = o
    held_order_still s (Given x c) fits t o = o
    held_order_still s (Disowned x) fits t o = o
    held_order_still s Took fits t o = o
    held_order_still s Stopped fits t o = o

    pub held_in_order : (did : List Doing) → AllDone tabs p mk did → Preorder mk (own_asked tabs p did).order (own_asked tabs p did).holds
    held_in_order [] all = held_start p
    held_in_order (d ∷ did) all =
        subst (λ (s : Seen). Preorder mk s.order s.holds) (sym (own_asked_more tabs p d did)) (held_order_still (own_asked tabs p did) d all.0 (seen_tied tabs p mk did l all.1) (held_in_order did all.1))
