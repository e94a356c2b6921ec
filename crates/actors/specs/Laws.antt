-- How long a query is held.
use Rattle.std.specs.Prelude.{◌≡◌, ◌&&◌, if◌then◌else◌, None, Bool}
use Rattle.std.specs.List.{count_by}
use Rattle.fission_ids.specs.Ids.{same_query}
use Rattle.fission_ids.specs.declared.query.QueryId.{QueryId}
use Rattle.fission_ids.specs.declared.window.WindowId.{WindowId}
use Rattle.actor_registry.specs.declared.entry.Mode.{Mode}
use Rattle.queries.specs.Row.{is_of, is_pending}
use Rattle.actors.specs.Side.{after_answer, after_receive, after_teardown, holder_of, is_on}
use Rattle.actors.specs.Side.{HeldOnce, Side}

-- no call makes a query held twice
pub record QueriesAreHeldOnce : Type 0 where
  pub receive : (q : QueryId) (w : WindowId) (mode : Mode) (is_open : Bool) (s : Side) →
      HeldOnce s.held → HeldOnce (after_receive q w mode is_open s).held
  pub answer : (q : QueryId) (s : Side) → HeldOnce s.held → HeldOnce (after_answer q s).held
  pub teardown : (w : WindowId) (s : Side) → HeldOnce s.held → HeldOnce (after_teardown w s).held

-- a query that is answered is held no longer, and each other is held on the same window
abbrev pub AnsweredQueriesAreHeldNoLonger : Type 0
AnsweredQueriesAreHeldNoLonger = (q p : QueryId) (s : Side) →
    holder_of p (after_answer q s).held ≡ (if same_query p q then None else holder_of p s.held)

-- on a window that closed nothing is held, and nothing that was asked is pending
pub record ClosedWindowsHoldNothing : Type 0 where
  pub held : (w : WindowId) (s : Side) → count_by (is_on w) (after_teardown w s).held ≡ 0
  pub asked : (w : WindowId) (s : Side) →
      count_by (λ r. is_of w r && is_pending r.state) (after_teardown w s).queries.rows ≡ 0
