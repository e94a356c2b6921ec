-- The queries that one side asked.
use Rattle.std.specs.Prelude.{◌≡◌, ℕ, ◌+◌, Bool, false, if◌then◌else◌, List, [], ◌∷◌, ◌++◌, length, map}
use Rattle.std.specs.Prelude.{find, ⊤, Option, Some}
use Rattle.std.specs.Option.{option_map, option_map_or}
use Rattle.fission_ids.specs.declared.outcome.Outcome.{Outcome}
use Rattle.fission_ids.specs.declared.query.QueryId.{QueryId}
use Rattle.fission_ids.specs.declared.window.WindowId.{WindowId}
use Rattle.queries.specs.declared.row.QState.{QState}
use Rattle.queries.specs.declared.row.QState.TheVariants.{Pending, Settled}
use Rattle.queries.specs.declared.row.QueryRow.{QueryRow}
use Rattle.queries.specs.Row.{is_for, is_pending, settled}

-- who asks, as the creator of queries, and what was asked, by rising serial
pub record Asked : Type 0 where
  pub creator : ℕ
  pub rows : List QueryRow

-- the queries have this creator, and their serials count up from n
abbrev pub AreNumbered : ℕ → ℕ → List QueryRow → Type 0
AreNumbered creator n [] = ⊤
AreNumbered creator n (r ∷ rows) =
    (r.query ≡ record { creator = creator; serial = n }) × AreNumbered creator (n + 1) rows

-- how a query stands, if it was asked
abbrev pub state_in : QueryId → List QueryRow → Option QState
state_in q rows = option_map (λ r. r.state) (find (is_for q) rows)

-- whether a query was asked and is pending
abbrev pub is_pending_in : QueryId → List QueryRow → Bool
is_pending_in q rows = option_map_or is_pending (state_in q rows) false

-- the id of the next query
abbrev pub next_query : Asked → QueryId
next_query t = record { creator = t.creator; serial = length t.rows + 1 }

-- what was asked, with one query more
abbrev pub with_query : WindowId → List ℕ → Asked → Asked
with_query w actor t = record t {
  rows = t.rows
      ++ record { query = next_query t; window = w; actor = actor; state = Pending } ∷ [];
}

-- the rows once the pending queries that pass the test are settled as o
abbrev pub settle_where : (QueryRow → Bool) → Outcome → List QueryRow → List QueryRow
settle_where test o rows = map (λ r. if test r then settled o r else r) rows

-- a query that was settled is still settled, and as the same
abbrev pub SettledStay : List QueryRow → List QueryRow → Type 0
SettledStay before after = (q : QueryId) (o : Outcome) →
    state_in q before ≡ Some (Settled o) → state_in q after ≡ Some (Settled o)
