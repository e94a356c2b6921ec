-- How long a query is held.
use Rattle.std.proofs.Common.{◌≡◌, ◌∙◌, refl, sym, ap, subst, ◌+◌, ◌≤◌, Bool, true, false, cond, not, ◌&&◌, ◌||◌, ◌==◌, List, [], ◌∷◌, ◌++◌, filter, Option, None, Some, arith, eqb-true, eq-eqb}
use Rattle.std.specs.Prelude.{find, is_some}
use Rattle.std.specs.List.{count_by}
use Rattle.std.specs.Option.{option_map}
use Rattle.fission_ids.specs.Ids.{same_query}
use Rattle.fission_ids.specs.declared.query.QueryId.{QueryId}
use Rattle.fission_ids.specs.declared.window.WindowId.{WindowId}
use Rattle.fission_ids.specs.declared.outcome.Outcome.TheVariants.{Aborted}
use Rattle.actor_registry.specs.declared.entry.Mode.{Mode}
use Rattle.actor_registry.specs.declared.entry.Mode.TheVariants as modes
use Rattle.queries.specs.declared.row.QState.TheVariants.{Settled}
use Rattle.queries.specs.declared.row.QueryRow.{QueryRow}
use Rattle.queries.specs.Row.{is_of, is_pending, settled}
use Rattle.actors.specs.Side.{is_held_as, is_on, holder_of, is_held, is_ignored, after_mode, after_receive, HeldOnce, Side}
use Rattle.actors.specs.Laws.{AnsweredQueriesAreHeldNoLonger, ClosedWindowsHoldNothing}
use Rattle.actors.proofs.Lists.{one_if, no_truth, count_push, none_counted, count_left, none_left, find_left, find_same, never_found, none_changed}

both_hold : (a b : Bool) → (a && b) ≡ true → (a ≡ true) × (b ≡ true)
both_hold true b h = (refl, h)
both_hold false b h = cc

query_equal : (p q : QueryId) → same_query p q ≡ true → p ≡ q
query_equal p q h =
    let parts = both_hold (p.creator == q.creator) (p.serial == q.serial) h in
    let creators : p.creator ≡ q.creator = eqb-true p.creator q.creator parts.0 in
    let serials : p.serial ≡ q.serial = eqb-true p.serial q.serial parts.1 in
    (λ j. record { creator = creators j; serial = serials j })

query_itself : (q : QueryId) → same_query q q ≡ true
query_itself q = ap (λ b. b && (q.serial == q.serial)) (eq-eqb q.creator q.creator refl) ∙ eq-eqb q.serial q.serial refl

pub not_found : (q : QueryId) (held : List (QueryId × WindowId)) → holder_of q held ≡ None → find (is_held_as q) held ≡ None
not_found q held e = by (find (is_held_as q) held) e
  where
    by : (o : Option (QueryId × WindowId)) → option_map (λ h. h.1) o ≡ None → o ≡ None
    by None e = refl
    by (Some h) e = absurd (cc)

none_some : (o : Option WindowId) → is_some o ≡ false → o ≡ None
none_some None e = refl
none_some (Some w) e = absurd (cc)

-- a query that isn't held is held once with what is put behind the others
pub pushed_once : (q : QueryId) (w : WindowId) (held : List (QueryId × WindowId)) → HeldOnce held → is_held q held ≡ false → HeldOnce (held ++ (q, w) ∷ [])
pushed_once q w held once free p = subst (λ n. n ≤ 1) (sym (count_push (is_held_as p) held (q, w))) (by (same_query q p) refl)
  where
    by : (b : Bool) → same_query q p ≡ b → count_by (is_held_as p) held + one_if b ≤ 1
    by true e =
        let none = none_counted (is_held_as q) held (not_found q held (none_some (holder_of q held) free)) in
        let same : count_by (is_held_as p) held ≡ 0 = ap (λ r. count_by (is_held_as r) held) (sym (query_equal q p e)) ∙ none in
        omega (arith, same)
    by false e = omega (arith, once p)

-- what is left is held once
pub left_once : (t : QueryId × WindowId → Bool) (held : List (QueryId × WindowId)) → HeldOnce held → HeldOnce (filter t held)
left_once t held once q = omega (arith, count_left (is_held_as q) t held, once q)

free_unless_ignored : (a b : Bool) → (not a || b) ≡ false → b ≡ false
free_unless_ignored true b e = e
free_unless_ignored false b e = absurd (cc)

pub received_once : (q : QueryId) (w : WindowId) (mode : Mode) (is_open : Bool) (s : Side) → HeldOnce s.held → HeldOnce (after_receive q w mode is_open s).held
received_once q w mode is_open s once = by (is_ignored q is_open s) refl
  where
    held : (m : Mode) → is_held q s.held ≡ false → HeldOnce (after_mode q w m s).held
    held modes.Echo free = once
    held modes.Reject free = once
    held modes.Hold free = pushed_once q w s.held once free

    by : (b : Bool) → is_ignored q is_open s ≡ b → HeldOnce (cond b s (after_mode q w mode s)).held
    by true e = once
    by false e = held mode (free_unless_ignored is_open (is_held q s.held) e)

never_both : (b : Bool) → (not b && b) ≡ false
never_both true = refl
never_both false = refl

apart : (a b : Bool) → (a ≡ true → b ≡ true → ⊥) → (not a && b) ≡ b
apart true true differ = absurd (differ refl refl)
apart true false differ = refl
apart false b differ = refl

pub answered : AnsweredQueriesAreHeldNoLonger
answered q p s = ap (option_map (λ h. h.1)) (find_left (is_held_as p) (λ h. not (is_held_as q h)) s.held) ∙ by (same_query p q) refl
  where
    by : (b : Bool) → same_query p q ≡ b → option_map (λ h. h.1) (find (λ h. not (is_held_as q h) && is_held_as p h) s.held) ≡ cond b None (holder_of p s.held)
    by true e =
        let same = query_equal p q e in
        ap (option_map (λ h. h.1))
        (never_found (λ h. not (is_held_as q h) && is_held_as p h)
        (λ h. ap (λ r. not (is_held_as q h) && is_held_as r h) same ∙ never_both (is_held_as q h)) s.held)
    by false e =
        ap (option_map (λ h. h.1))
        (find_same (λ h. not (is_held_as q h) && is_held_as p h) (is_held_as p)
        (λ h. apart (is_held_as q h) (is_held_as p h) (λ a b.
        let one = query_equal h.0 q a in
        let two = query_equal h.0 p b in
        no_truth (sym e ∙ ap (λ r. same_query r q) (sym two ∙ one) ∙ query_itself q))) s.held)

never_end : (b : Bool) → (b && false) ≡ false
never_end true = refl
never_end false = refl

-- a row of the window isn't pending once it is aborted
aborted_row : (w : WindowId) (r : QueryRow) → (is_of w (cond (is_of w r) (settled Aborted r) r) && is_pending (cond (is_of w r) (settled Aborted r) r).state) ≡ false
aborted_row w r = by (is_of w r) refl
  where
    with_state : (b : Bool) → is_pending r.state ≡ b → (is_of w (cond b (record r { state = Settled Aborted }) r) && is_pending (cond b (record r { state = Settled Aborted }) r).state) ≡ false
    with_state true e = never_end (is_of w r)
    with_state false e = ap (λ b. is_of w r && b) e ∙ never_end (is_of w r)

    by : (b : Bool) → is_of w r ≡ b → (is_of w (cond b (settled Aborted r) r) && is_pending (cond b (settled Aborted r) r).state) ≡ false
    by true e = with_state (is_pending r.state) refl
    by false e = ap (λ b. b && is_pending r.state) e

pub torn_down : ClosedWindowsHoldNothing
torn_down = record {
  held = λ w s. none_left (is_on w) s.held;
  asked = λ w s. none_changed (λ r. is_of w r && is_pending r.state) (λ r. cond (is_of w r) (settled Aborted r) r) (aborted_row w) s.queries.rows;
}
