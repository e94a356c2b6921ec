-- A query that was asked.
use Rattle.std.specs.Prelude.{Bool, true, false, if◌then◌else◌}
use Rattle.fission_ids.specs.Ids.{same_query, same_window}
use Rattle.fission_ids.specs.declared.outcome.Outcome.{Outcome}
use Rattle.fission_ids.specs.declared.query.QueryId.{QueryId}
use Rattle.fission_ids.specs.declared.window.WindowId.{WindowId}
use Rattle.queries.specs.declared.row.QState.{QState}
use Rattle.queries.specs.declared.row.QState.TheVariants.{Pending, Settled}
use Rattle.queries.specs.declared.row.QueryRow.{QueryRow}

-- whether a row is that of this query
abbrev pub is_for : QueryId → QueryRow → Bool
is_for q r = same_query q r.query

-- whether a query was asked on this window
abbrev pub is_of : WindowId → QueryRow → Bool
is_of w r = same_window w r.window

-- whether a query is neither answered nor aborted
abbrev pub is_pending : QState → Bool
is_pending Pending = true
is_pending (Settled o) = false

-- the row once its query is settled as o: one that was settled before stays as it is
abbrev pub settled : Outcome → QueryRow → QueryRow
settled o r = if is_pending r.state then record r { state = Settled o } else r
