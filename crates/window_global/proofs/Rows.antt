-- Windows, and what the code keeps for them.
use Rattle.std.proofs.Common.{◌≡◌, ◌∙◌, refl, sym, ap, subst, ℕ, ◌+◌, ◌≤◌, Bool, true, false, cond, not, ◌&&◌, ◌==◌, List, [], ◌∷◌, ◌++◌, Option, None, Some, arith, eqb-true, eq-eqb}
use Rattle.std.specs.Prelude.{find, is_some, option_and_then}
use Rattle.std.specs.List.{count_by}
use Rattle.std.specs.Map.{lookup, set_value}
use Rattle.std.specs.Option.{option_map, option_map_or}
use Rattle.fission_ids.specs.Ids.{same_context, same_window}
use Rattle.fission_ids.specs.declared.context.ContextId.{ContextId}
use Rattle.fission_ids.specs.declared.window.WindowId.{WindowId}
use Rattle.url.specs.Parts.{Parts}
use Rattle.window_global.specs.declared.row.WindowRow.{WindowRow}
use Rattle.window_global.specs.Windows.{is_at, is_open_for, row_of, is_made, is_live, open_context, live_of, closed, windows_after_closing, windows_after_close, windows_without_open, windows_after_begin, AreSound}
use Rattle.window_global.specs.Kept.{key_of, rows_in, entries_of, AreTied, AreKept}
use Rattle.window_global.proofs.Lists.{first_of, one_if, at_most, same_some, never_found, find_only, no_truth, find_push, count_push, found_passes, none_counted, find_same, count_fewer, find_beside, find_neither, none_changed, changed_same, changed_nothing, find_changed, count_changed}

-- ---- ids

both_hold : (a b : Bool) → (a && b) ≡ true → (a ≡ true) × (b ≡ true)
both_hold true b h = (refl, h)
both_hold false b h = cc

-- ids that are the same are equal
pub window_equal : (v w : WindowId) → same_window v w ≡ true → v ≡ w
window_equal v w h =
    let parts = both_hold (v.creator == w.creator) (v.serial == w.serial) h in
    let creators : v.creator ≡ w.creator = eqb-true v.creator w.creator parts.0 in
    let serials : v.serial ≡ w.serial = eqb-true v.serial w.serial parts.1 in
    (λ j. record { creator = creators j; serial = serials j })

pub window_itself : (w : WindowId) → same_window w w ≡ true
window_itself w = ap (λ b. b && (w.serial == w.serial)) (eq-eqb w.creator w.creator refl) ∙ eq-eqb w.serial w.serial refl

pub context_equal : (x y : ContextId) → same_context x y ≡ true → x ≡ y
context_equal x y h =
    let parts = both_hold (x.creator == y.creator) (x.serial == y.serial) h in
    let creators : x.creator ≡ y.creator = eqb-true x.creator y.creator parts.0 in
    let serials : x.serial ≡ y.serial = eqb-true x.serial y.serial parts.1 in
    (λ j. record { creator = creators j; serial = serials j })

pub context_itself : (x : ContextId) → same_context x x ≡ true
context_itself x = ap (λ b. b && (x.serial == x.serial)) (eq-eqb x.creator x.creator refl) ∙ eq-eqb x.serial x.serial refl

pub context_swapped : (x y : ContextId) → same_context x y ≡ same_context y x
context_swapped x y = by (same_context x y) (same_context y x) refl refl
  where
    by : (a b : Bool) → same_context x y ≡ a → same_context y x ≡ b → same_context x y ≡ same_context y x
    by true b e f = e ∙ sym (context_itself x) ∙ ap (λ z. same_context z x) (context_equal x y e)
    by false false e f = e ∙ sym f
    by false true e f = absurd (no_truth (sym e ∙ ap (λ z. same_context x z) (context_equal y x f) ∙ context_itself x))

-- ---- entries

pub rows_of_entries : (rs : List WindowRow) → rows_in (entries_of rs) ≡ rs
rows_of_entries [] = refl
rows_of_entries (r ∷ rs) = ap (λ l. r ∷ l) (rows_of_entries rs)

pub entries_push : (rs : List WindowRow) (r : WindowRow) → entries_of (rs ++ r ∷ []) ≡ entries_of rs ++ (key_of r.window, r) ∷ []
entries_push [] r = refl
entries_push (s ∷ rs) r = ap (λ l. (key_of s.window, s) ∷ l) (entries_push rs r)

-- the test of a key
abbrev pub is_key : WindowId → ℕ × ℕ → Bool
is_key w k = w.creator == k.0 && w.serial == k.1

pub lookup_entries : (w : WindowId) (rs : List WindowRow) → lookup (is_key w) (entries_of rs) ≡ row_of w rs
lookup_entries w [] = refl
lookup_entries w (r ∷ rs) = ap (cond (is_at w r) (Some r)) (lookup_entries w rs)

-- a row is written under its key
pub entries_written : (w : WindowId) (rs : List WindowRow) (r : WindowRow) → count_by (is_at w) rs ≤ 1 → row_of w rs ≡ Some r
    → set_value (is_key w) (entries_of rs) (closed r) ≡ entries_of (windows_after_close w rs)
entries_written w [] r few e = refl
entries_written w (s ∷ rs) r few e = by (is_at w s) (at_most (is_at w) s rs 1 few) e (entries_written w rs r)
  where
    by : (b : Bool) → one_if b + count_by (is_at w) rs ≤ 1 → cond b (Some s) (row_of w rs) ≡ Some r
        → (count_by (is_at w) rs ≤ 1 → row_of w rs ≡ Some r → set_value (is_key w) (entries_of rs) (closed r) ≡ entries_of (windows_after_close w rs))
        → cond b ((key_of s.window, closed r) ∷ entries_of rs) ((key_of s.window, s) ∷ set_value (is_key w) (entries_of rs) (closed r))
        ≡ entries_of (cond b (closed s) s ∷ windows_after_close w rs)
    by true few e rest =
        ap (λ q. (key_of s.window, closed q) ∷ entries_of rs) (sym (same_some s r e))
        ∙ ap (λ l. (key_of s.window, closed s) ∷ entries_of l) (sym (none_changed (is_at w) closed rs (omega (arith, few))))
    by false few e rest = ap (λ l. (key_of s.window, s) ∷ l) (rest (omega (arith, few)) e)

-- ---- what closes

abbrev pub close_if : (WindowRow → Bool) → WindowRow → WindowRow
close_if t r = cond (t r) (closed r) r

-- a closing leaves whose row it is
at_close : (t : WindowRow → Bool) (v : WindowId) (r : WindowRow) → is_at v (close_if t r) ≡ is_at v r
at_close t v r = by (t r)
  where
    by : (b : Bool) → is_at v (cond b (closed r) r) ≡ is_at v r
    by true = refl
    by false = refl

-- what is open for a context behind a closing
open_close : (t : WindowRow → Bool) (y : ContextId) (r : WindowRow) → is_open_for y (close_if t r) ≡ (not (t r) && is_open_for y r)
open_close t y r = by (t r)
  where
    by : (b : Bool) → is_open_for y (cond b (closed r) r) ≡ (not b && is_open_for y r)
    by true = refl
    by false = refl

same_id : (t : WindowRow → Bool) (o : Option WindowRow) → option_map (λ r. r.window) (option_map (close_if t) o) ≡ option_map (λ r. r.window) o
same_id t None = refl
same_id t (Some r) = by (t r)
  where
    by : (b : Bool) → Some (cond b (closed r) r).window ≡ Some r.window
    by true = refl
    by false = refl

-- the row of a window behind a closing
pub row_closed : (t : WindowRow → Bool) (v : WindowId) (rs : List WindowRow) → row_of v (windows_after_closing t rs) ≡ option_map (close_if t) (row_of v rs)
row_closed t v rs = find_changed (is_at v) (is_at v) (close_if t) (at_close t v) rs

-- the open window of a context behind a closing
pub live_closed : (t : WindowRow → Bool) (y : ContextId) (rs : List WindowRow)
    → live_of y (windows_after_closing t rs) ≡ option_map (λ r. r.window) (find (λ r. not (t r) && is_open_for y r) rs)
live_closed t y rs =
    ap (option_map (λ r. r.window)) (find_changed (is_open_for y) (λ r. not (t r) && is_open_for y r) (close_if t) (open_close t y) rs)
    ∙ same_id t (find (λ r. not (t r) && is_open_for y r) rs)

-- each window is there once, and each context has one open window at most
pub closed_sound : (t : WindowRow → Bool) (rs : List WindowRow) → AreSound rs → AreSound (windows_after_closing t rs)
closed_sound t rs s = record {
  once = λ w. subst (λ n. n ≤ 1) (sym (count_changed (is_at w) (is_at w) (close_if t) (at_close t w) rs)) (s.once w);
  one_open = λ x.
      let fewer = count_fewer (λ r. not (t r) && is_open_for x r) (is_open_for x) (λ r h. (both_hold (not (t r)) (is_open_for x r) h).1) rs in
      subst (λ n. n ≤ 1) (sym (count_changed (is_open_for x) (λ r. not (t r) && is_open_for x r) (close_if t) (open_close t x) rs))
      (omega (arith, fewer, s.one_open x));
}

-- the row of the open window of a context
pub record Shown (x : ContextId) (w : WindowId) (rs : List WindowRow) : Type 0 where
  pub row : WindowRow
  pub found : find (is_open_for x) rs ≡ Some row
  pub window : row.window ≡ w

pub shown_row : (x : ContextId) (w : WindowId) (rs : List WindowRow) → live_of x rs ≡ Some w → Shown x w rs
shown_row x w rs e = by (find (is_open_for x) rs) refl e
  where
    by : (o : Option WindowRow) → find (is_open_for x) rs ≡ o → option_map (λ r. r.window) o ≡ Some w → Shown x w rs
    by None f e = absurd (cc)
    by (Some r) f e = record { row = r; found = f; window = same_some r.window w e }

pub nothing_found : (x : ContextId) (rs : List WindowRow) → live_of x rs ≡ None → find (is_open_for x) rs ≡ None
nothing_found x rs e = by (find (is_open_for x) rs) e
  where
    by : (o : Option WindowRow) → option_map (λ r. r.window) o ≡ None → o ≡ None
    by None e = refl
    by (Some r) e = absurd (cc)

-- the row of a window that is open for a context
pub record Opened (w : WindowId) (x : ContextId) (rs : List WindowRow) : Type 0 where
  pub row : WindowRow
  pub found : row_of w rs ≡ Some row
  pub is_open : row.is_open ≡ true
  pub context : row.context ≡ x

pub opened_row : (w : WindowId) (x : ContextId) (rs : List WindowRow) → open_context w rs ≡ Some x → Opened w x rs
opened_row w x rs e = by (row_of w rs) refl e
  where
    with_row : (r : WindowRow) → row_of w rs ≡ Some r → (b : Bool) → r.is_open ≡ b → cond b (Some r.context) None ≡ Some x → Opened w x rs
    with_row r f true h e = record { row = r; found = f; is_open = h; context = same_some r.context x e }
    with_row r f false h e = absurd (cc)

    by : (o : Option WindowRow) → row_of w rs ≡ o → option_and_then (λ r. cond r.is_open (Some r.context) None) o ≡ Some x → Opened w x rs
    by None f e = absurd (cc)
    by (Some r) f e = with_row r f r.is_open refl e

-- the open window of a context closes where the window closes that it is
pub close_open : (x : ContextId) (v : WindowId) (rs : List WindowRow) → AreSound rs → live_of x rs ≡ Some v → windows_after_close v rs ≡ windows_without_open x rs
close_open x v rs s e =
    let shown = shown_row x v rs e in
    changed_same (is_at v) (is_open_for x) closed rs shown.row (s.once v) (s.one_open x) shown.found
    (ap (same_window v) shown.window ∙ window_itself v)

-- where there is none, nothing closes
pub none_open : (x : ContextId) (rs : List WindowRow) → live_of x rs ≡ None → windows_without_open x rs ≡ rs
none_open x rs e =
    let none = none_counted (is_open_for x) rs (nothing_found x rs e) in
    none_changed (is_open_for x) closed rs (omega (arith, none))

stays_closed : (r : WindowRow) → r.is_open ≡ false → closed r ≡ r
stays_closed r e = (λ j. record { window = r.window; context = r.context; url = r.url; is_open = sym e j })

-- where a window isn't open, its closing changes nothing
pub close_nothing : (w : WindowId) (rs : List WindowRow) → AreSound rs → open_context w rs ≡ None → windows_after_close w rs ≡ rs
close_nothing w rs s e = by (row_of w rs) refl e
  where
    with_row : (r : WindowRow) → row_of w rs ≡ Some r → (b : Bool) → r.is_open ≡ b → cond b (Some r.context) None ≡ None → windows_after_close w rs ≡ rs
    with_row r f true h e = absurd (cc)
    with_row r f false h e = changed_nothing (is_at w) closed rs r (s.once w) f (stays_closed r h)

    by : (o : Option WindowRow) → row_of w rs ≡ o → option_and_then (λ r. cond r.is_open (Some r.context) None) o ≡ None → windows_after_close w rs ≡ rs
    by None f e = none_changed (is_at w) closed rs (omega (arith, none_counted (is_at w) rs f))
    by (Some r) f e = with_row r f r.is_open refl e

-- a window is open exactly where it is open for a context
pub live_somewhere : (w : WindowId) (rs : List WindowRow) → is_some (open_context w rs) ≡ is_live w rs
live_somewhere w rs = by (row_of w rs)
  where
    with_open : (b : Bool) (x : ContextId) → is_some (cond b (Some x) None) ≡ b
    with_open true x = refl
    with_open false x = refl

    by : (o : Option WindowRow) → is_some (option_and_then (λ r. cond r.is_open (Some r.context) None) o) ≡ option_map_or (λ r. r.is_open) o false
    by None = refl
    by (Some r) = with_open r.is_open r.context

-- ---- what is open behind a call

same_live : (a b : Bool) → (a ≡ true → b ≡ true → ⊥) → (not a && b) ≡ b
same_live true true apart = absurd (apart refl refl)
same_live true false apart = refl
same_live false b apart = refl

never_both : (b : Bool) → (not b && b) ≡ false
never_both true = refl
never_both false = refl

-- what is open where the open window of a context closed
pub live_without : (x y : ContextId) (rs : List WindowRow) → live_of y (windows_without_open x rs) ≡ cond (same_context y x) None (live_of y rs)
live_without x y rs = live_closed (is_open_for x) y rs ∙ by (same_context y x) refl
  where
    by : (b : Bool) → same_context y x ≡ b → option_map (λ r. r.window) (find (λ r. not (is_open_for x r) && is_open_for y r) rs) ≡ cond b None (live_of y rs)
    by true e =
        let is = context_equal y x e in
        ap (option_map (λ r. r.window))
        (never_found (λ r. not (is_open_for x r) && is_open_for y r)
        (λ r. ap (λ z. not (is_open_for x r) && is_open_for z r) is ∙ never_both (is_open_for x r)) rs)
    by false e =
        ap (option_map (λ r. r.window))
        (find_same (λ r. not (is_open_for x r) && is_open_for y r) (is_open_for y)
        (λ r. same_live (is_open_for x r) (is_open_for y r) (λ a b.
        let one = context_equal x r.context (both_hold r.is_open (same_context x r.context) a).1 in
        let two = context_equal y r.context (both_hold r.is_open (same_context y r.context) b).1 in
        no_truth (sym e ∙ ap (same_context y) (one ∙ sym two) ∙ context_itself y))) rs)

first_none : {A : Type 0} (o : Option A) → first_of o None ≡ o
first_none None = refl
first_none (Some a) = refl

first_mapped : (o : Option WindowRow) (b : Bool) (r : WindowRow)
    → option_map (λ q. q.window) (first_of o (cond b (Some r) None)) ≡ first_of (option_map (λ q. q.window) o) (cond b (Some r.window) None)
first_mapped None true r = refl
first_mapped None false r = refl
first_mapped (Some q) b r = refl

pub live_push : (y : ContextId) (rs : List WindowRow) (r : WindowRow) → live_of y (rs ++ r ∷ []) ≡ first_of (live_of y rs) (cond (is_open_for y r) (Some r.window) None)
live_push y rs r =
    ap (option_map (λ q. q.window)) (find_push (is_open_for y) rs r) ∙ first_mapped (find (is_open_for y) rs) (is_open_for y r) r

first_cond : (b : Bool) (o : Option WindowId) (w : WindowId) → first_of (cond b None o) (cond b (Some w) None) ≡ cond b (Some w) o
first_cond true o w = refl
first_cond false o w = first_none o

-- what is open where a window begins
pub live_begin : (w : WindowId) (x : ContextId) (url : Parts) (late : Bool) (rs : List WindowRow) (y : ContextId)
    → live_of y (windows_after_begin w x url late rs) ≡ cond late (live_of y rs) (cond (same_context y x) (Some w) (live_of y rs))
live_begin w x url true rs y =
    live_push y rs (record { window = w; context = x; url = url; is_open = false }) ∙ first_none (live_of y rs)
live_begin w x url false rs y =
    live_push y (windows_without_open x rs) (record { window = w; context = x; url = url; is_open = true })
    ∙ ap (λ o. first_of o (cond (same_context y x) (Some w) None)) (live_without x y rs)
    ∙ first_cond (same_context y x) (live_of y rs) w

-- what is open where a window closes
pub live_close : (w : WindowId) (rs : List WindowRow) → AreSound rs → (y : ContextId)
    → live_of y (windows_after_close w rs) ≡ cond (option_map_or (same_context y) (open_context w rs) false) None (live_of y rs)
live_close w rs s y = by (open_context w rs) refl
  where
    with_test : (x : ContextId) (o : Opened w x rs) (b : Bool) → same_context y x ≡ b → live_of y (windows_after_close w rs) ≡ cond b None (live_of y rs)
    with_test x o true e =
        live_closed (is_at w) y rs
        ∙ ap (option_map (λ r. r.window)) (find_neither (is_at w) (is_open_for y) rs o.row (s.once w) (s.one_open y) o.found
        (ap (λ b. b && same_context y o.row.context) o.is_open ∙ ap (same_context y) o.context ∙ e))
    with_test x o false e =
        live_closed (is_at w) y rs
        ∙ ap (option_map (λ r. r.window)) (find_beside (is_at w) (is_open_for y) rs o.row (s.once w) o.found
        (ap (λ b. b && same_context y o.row.context) o.is_open ∙ ap (same_context y) o.context ∙ e))

    by : (o : Option ContextId) → open_context w rs ≡ o → live_of y (windows_after_close w rs) ≡ cond (option_map_or (same_context y) o false) None (live_of y rs)
    by None e = ap (live_of y) (close_nothing w rs s e)
    by (Some x) e = with_test x (opened_row w x rs e) (same_context y x) refl

-- the open window of a context is one exactly where that one is open for it
pub live_is_open : (rs : List WindowRow) → AreSound rs → (w : WindowId) (x : ContextId) → live_of x rs ≡ Some w → open_context w rs ≡ Some x
live_is_open rs s w x e =
    let shown = shown_row x w rs e in
    let parts = both_hold shown.row.is_open (same_context x shown.row.context) (found_passes (is_open_for x) rs shown.row shown.found) in
    let row = find_only (is_at w) (is_open_for x) rs shown.row (s.once w) shown.found (ap (same_window w) shown.window ∙ window_itself w) in
    ap (option_and_then (λ r. cond r.is_open (Some r.context) None)) row
    ∙ ap (λ b. cond b (Some shown.row.context) None) parts.0
    ∙ ap Some (sym (context_equal x shown.row.context parts.1))

pub open_is_live : (rs : List WindowRow) → AreSound rs → (w : WindowId) (x : ContextId) → open_context w rs ≡ Some x → live_of x rs ≡ Some w
open_is_live rs s w x e =
    let o = opened_row w x rs e in
    let passes : is_open_for x o.row ≡ true = ap (λ b. b && same_context x o.row.context) o.is_open ∙ ap (same_context x) o.context ∙ context_itself x in
    ap (option_map (λ r. r.window)) (find_only (is_open_for x) (is_at w) rs o.row (s.one_open x) o.found passes)
    ∙ ap Some (sym (window_equal w o.row.window (found_passes (is_at w) rs o.row o.found)))

-- ---- what begins

unmade_row : (w : WindowId) (rs : List WindowRow) → is_made w rs ≡ false → row_of w rs ≡ None
unmade_row w rs e = by (row_of w rs) e
  where
    by : (o : Option WindowRow) → is_some o ≡ false → o ≡ None
    by None e = refl
    by (Some r) e = absurd (cc)

-- a new row, behind rows in which its window isn't made and, where it is open, nothing is open for its context
pub pushed_sound : (r : WindowRow) (rs : List WindowRow) → AreSound rs → is_made r.window rs ≡ false → (r.is_open ≡ true → live_of r.context rs ≡ None) → AreSound (rs ++ r ∷ [])
pushed_sound r rs s new alone = record {
  once = λ w. subst (λ n. n ≤ 1) (sym (count_push (is_at w) rs r)) (once w (is_at w r) refl);
  one_open = λ x. subst (λ n. n ≤ 1) (sym (count_push (is_open_for x) rs r)) (one_open x (is_open_for x r) refl);
}
  where
    once : (w : WindowId) (b : Bool) → is_at w r ≡ b → count_by (is_at w) rs + one_if b ≤ 1
    once w true e =
        let none = none_counted (is_at r.window) rs (unmade_row r.window rs new) in
        let same : count_by (is_at w) rs ≡ 0 = ap (λ v. count_by (is_at v) rs) (window_equal w r.window e) ∙ none in
        omega (arith, same)
    once w false e = omega (arith, s.once w)

    one_open : (x : ContextId) (b : Bool) → is_open_for x r ≡ b → count_by (is_open_for x) rs + one_if b ≤ 1
    one_open x true e =
        let parts = both_hold r.is_open (same_context x r.context) e in
        let none = none_counted (is_open_for r.context) rs (nothing_found r.context rs (alone parts.0)) in
        let same : count_by (is_open_for x) rs ≡ 0 = ap (λ y. count_by (is_open_for y) rs) (context_equal x r.context parts.1) ∙ none in
        omega (arith, same)
    one_open x false e = omega (arith, s.one_open x)

still_unmade : (t : WindowRow → Bool) (w : WindowId) (rs : List WindowRow) → is_made w rs ≡ false → is_made w (windows_after_closing t rs) ≡ false
still_unmade t w rs e = ap is_some (row_closed t w rs ∙ ap (option_map (close_if t)) (unmade_row w rs e))

-- the rows with a new window are sound
pub begun_sound : (w : WindowId) (x : ContextId) (url : Parts) (late : Bool) (rs : List WindowRow) → AreSound rs → is_made w rs ≡ false → AreSound (windows_after_begin w x url late rs)
begun_sound w x url true rs s new =
    pushed_sound (record { window = w; context = x; url = url; is_open = false }) rs s new (λ h. absurd (no_truth h))
begun_sound w x url false rs s new =
    pushed_sound (record { window = w; context = x; url = url; is_open = true }) (windows_without_open x rs) (closed_sound (is_open_for x) rs s)
    (still_unmade (is_open_for x) w rs new)
    (λ h. live_without x x rs ∙ ap (λ b. cond b None (live_of x rs)) (context_itself x))

-- ---- what is kept

-- the entries that are kept are those of the rows that are seen
pub tied_seen : (es : List ((ℕ × ℕ) × WindowRow)) (live : List (ContextId × WindowId)) (rs : List WindowRow) → AreKept es live → rows_in es ≡ rs → AreTied es rs
tied_seen es live rs k v = subst (AreTied es) v k.tied

pub noted_seen : (es : List ((ℕ × ℕ) × WindowRow)) (live : List (ContextId × WindowId)) (rs : List WindowRow) → AreKept es live → rows_in es ≡ rs
    → (x : ContextId) → lookup (same_context x) live ≡ live_of x rs
noted_seen es live rs k v x = k.noted x ∙ ap (live_of x) v

-- entries of sound rows are kept, where the live windows are noted
pub keeps_rows : (es : List ((ℕ × ℕ) × WindowRow)) (live : List (ContextId × WindowId)) (rs : List WindowRow) → es ≡ entries_of rs → AreSound rs
    → ((x : ContextId) → lookup (same_context x) live ≡ live_of x rs) → AreKept es live
keeps_rows es live rs e s noted =
    let is : rows_in es ≡ rs = ap rows_in e ∙ rows_of_entries rs in
    record {
      tied = record { entries = e ∙ ap entries_of (sym is); sound = subst AreSound (sym is) s };
      noted = λ x. noted x ∙ ap (live_of x) (sym is);
    }

pub rows_seen : (es : List ((ℕ × ℕ) × WindowRow)) (rs : List WindowRow) → es ≡ entries_of rs → rows_in es ≡ rs
rows_seen es rs e = ap rows_in e ∙ rows_of_entries rs

-- a window is looked up by its key
pub row_by_key : (w : WindowId) (key : ℕ × ℕ) (es : List ((ℕ × ℕ) × WindowRow)) (live : List (ContextId × WindowId)) (rs : List WindowRow) → key ≡ key_of w → AreKept es live → rows_in es ≡ rs
    → lookup (λ k. key.0 == k.0 && key.1 == k.1) es ≡ row_of w rs
row_by_key w key es live rs e k v =
    ap (λ (q : ℕ × ℕ). lookup (λ k. q.0 == k.0 && q.1 == k.1) es) e
    ∙ ap (lookup (is_key w)) (tied_seen es live rs k v).entries
    ∙ lookup_entries w rs

-- the row under a key is closed
pub shut_written : (w : WindowId) (key : ℕ × ℕ) (es new : List ((ℕ × ℕ) × WindowRow)) (r q : WindowRow) (rs : List WindowRow) → key ≡ key_of w → AreTied es rs
    → Some r ≡ lookup (λ k. key.0 == k.0 && key.1 == k.1) es → q ≡ closed r → new ≡ set_value (λ k. key.0 == k.0 && key.1 == k.1) es q
    → new ≡ entries_of (windows_after_close w rs)
shut_written w key es new r q rs e t found is write =
    let row : row_of w rs ≡ Some r =
    sym (ap (λ (q : ℕ × ℕ). lookup (λ k. q.0 == k.0 && q.1 == k.1) es) e ∙ ap (lookup (is_key w)) t.entries ∙ lookup_entries w rs) ∙ sym found in
    write
    ∙ ap (λ (q : WindowRow). set_value (λ k. key.0 == k.0 && key.1 == k.1) es q) is
    ∙ ap (λ (q : ℕ × ℕ). set_value (λ k. q.0 == k.0 && q.1 == k.1) es (closed r)) e
    ∙ ap (λ (l : List ((ℕ × ℕ) × WindowRow)). set_value (is_key w) l (closed r)) t.entries
    ∙ entries_written w rs r (t.sound.once w) row

-- no row is under a key
pub shut_nothing : (w : WindowId) (key : ℕ × ℕ) (es : List ((ℕ × ℕ) × WindowRow)) (rs : List WindowRow) → key ≡ key_of w → AreTied es rs
    → None ≡ lookup (λ k. key.0 == k.0 && key.1 == k.1) es → es ≡ entries_of (windows_after_close w rs)
shut_nothing w key es rs e t found =
    let row : row_of w rs ≡ None =
    sym (ap (λ (q : ℕ × ℕ). lookup (λ k. q.0 == k.0 && q.1 == k.1) es) e ∙ ap (lookup (is_key w)) t.entries ∙ lookup_entries w rs) ∙ sym found in
    t.entries ∙ ap entries_of (sym (none_changed (is_at w) closed rs (omega (arith, none_counted (is_at w) rs row))))

-- the context of a window that closed is noted no longer
pub close_noted : (w : WindowId) (x : ContextId) (old new : List (ContextId × WindowId)) (rs : List WindowRow) → AreSound rs → open_context w rs ≡ Some x
    → ((y : ContextId) → lookup (same_context y) old ≡ live_of y rs) → ((y : ContextId) → lookup (same_context y) new ≡ cond (same_context x y) None (lookup (same_context y) old))
    → (y : ContextId) → lookup (same_context y) new ≡ live_of y (windows_after_close w rs)
close_noted w x old new rs s at noted updates y =
    updates y
    ∙ ap (cond (same_context x y) None) (noted y)
    ∙ ap (λ b. cond b None (live_of y rs)) (context_swapped x y)
    ∙ sym (live_close w rs s y ∙ ap (λ o. cond (option_map_or (same_context y) o false) None (live_of y rs)) at)

-- the window that begins is noted, unless it is late
pub begin_noted : (w : WindowId) (x : ContextId) (url : Parts) (late : Bool) (old new : List (ContextId × WindowId)) (rs : List WindowRow)
    → ((y : ContextId) → lookup (same_context y) old ≡ live_of y rs)
    → ((y : ContextId) → lookup (same_context y) new ≡ cond late (lookup (same_context y) old) (cond (same_context x y) (Some w) (lookup (same_context y) old)))
    → (y : ContextId) → lookup (same_context y) new ≡ live_of y (windows_after_begin w x url late rs)
begin_noted w x url late old new rs noted updates y =
    updates y
    ∙ ap (λ o. cond late o (cond (same_context x y) (Some w) o)) (noted y)
    ∙ ap (λ b. cond late (live_of y rs) (cond b (Some w) (live_of y rs))) (context_swapped x y)
    ∙ sym (live_begin w x url late rs y)

-- the rows before a new one
abbrev pub before_begin : ContextId → Bool → List WindowRow → List WindowRow
before_begin x late rs = cond late rs (windows_without_open x rs)

unmade_before : (w : WindowId) (x : ContextId) (late : Bool) (rs : List WindowRow) → is_made w rs ≡ false → row_of w (before_begin x late rs) ≡ None
unmade_before w x true rs e = unmade_row w rs e
unmade_before w x false rs e = unmade_row w (windows_without_open x rs) (still_unmade (is_open_for x) w rs e)

-- no row is under the key of a window that isn't made
pub key_absent : (w : WindowId) (x : ContextId) (late : Bool) (key : ℕ × ℕ) (es : List ((ℕ × ℕ) × WindowRow)) (rs : List WindowRow) → key ≡ key_of w → is_made w rs ≡ false
    → es ≡ entries_of (before_begin x late rs) → lookup (λ k. key.0 == k.0 && key.1 == k.1) es ≡ None
key_absent w x late key es rs e new is =
    ap (λ (q : ℕ × ℕ). lookup (λ k. q.0 == k.0 && q.1 == k.1) es) e
    ∙ ap (lookup (is_key w)) is
    ∙ lookup_entries w (before_begin x late rs)
    ∙ unmade_before w x late rs new

-- the entries with a new row
pub begun_entries : (w : WindowId) (x : ContextId) (url : Parts) (late : Bool) (key : ℕ × ℕ) (es new : List ((ℕ × ℕ) × WindowRow)) (rs : List WindowRow) → key ≡ key_of w
    → es ≡ entries_of (before_begin x late rs) → new ≡ es ++ (key, record { window = w; context = x; url = url; is_open = not late }) ∷ []
    → new ≡ entries_of (windows_after_begin w x url late rs)
begun_entries w x url late key es new rs e is push =
    let row : WindowRow = record { window = w; context = x; url = url; is_open = not late } in
    push
    ∙ ap (λ (q : ℕ × ℕ). es ++ (q, row) ∷ []) e
    ∙ ap (λ (l : List ((ℕ × ℕ) × WindowRow)). l ++ (key_of w, row) ∷ []) is
    ∙ sym (entries_push (before_begin x late rs) row)
