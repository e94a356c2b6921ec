-- One side of the actors: what it holds, and what it was told.
use Rattle.std.specs.Prelude.{◌≤◌, ◌||◌, ◌++◌, [], ◌∷◌, filter, find, if◌then◌else◌, is_some}
use Rattle.std.specs.Prelude.{not, Bool, List, Option, ℕ}
use Rattle.std.specs.List.{count_by}
use Rattle.std.specs.Option.{option_map}
use Rattle.fission_ids.specs.Ids.{same_query, same_window}
use Rattle.fission_ids.specs.declared.query.QueryId.{QueryId}
use Rattle.fission_ids.specs.declared.window.WindowId.{WindowId}
use Rattle.fission_ids.specs.declared.outcome.Outcome.{Outcome}
use Rattle.fission_ids.specs.declared.outcome.Outcome.TheVariants.{Aborted}
use Rattle.actor_registry.specs.declared.entry.Mode.{Mode}
use Rattle.actor_registry.specs.declared.entry.Mode.TheVariants as modes
use Rattle.queries.specs.Row.{is_for, is_of}
use Rattle.queries.specs.declared.row.QueryRow.{QueryRow}
use Rattle.queries.specs.Table.{Asked, settle_where, with_query}
use Rattle.actors.specs.declared.reaction.Reaction.{Reaction}
use Rattle.actors.specs.declared.reaction.Reaction.TheVariants as reactions

-- the queries that the side asked; those that it holds, each with its window; and the texts that it was told,
-- each with its window and its actor's name
pub record Side : Type 0 where
  pub queries : Asked
  pub held : List (QueryId × WindowId)
  pub inbox : List (WindowId × List ℕ × List ℕ)

-- whether an entry is that of a query
abbrev pub is_held_as : QueryId → QueryId × WindowId → Bool
is_held_as q h = same_query h.0 q

-- whether an entry is of a query on this window
abbrev pub is_on : WindowId → QueryId × WindowId → Bool
is_on w h = same_window h.1 w

-- the window of a query that is held
abbrev pub holder_of : QueryId → List (QueryId × WindowId) → Option WindowId
holder_of q held = option_map (λ h. h.1) (find (is_held_as q) held)

-- whether a query is held
abbrev pub is_held : QueryId → List (QueryId × WindowId) → Bool
is_held q held = is_some (holder_of q held)

-- no query is held twice
abbrev pub HeldOnce : List (QueryId × WindowId) → Type 0
HeldOnce held = (q : QueryId) → count_by (is_held_as q) held ≤ 1

-- whether a query is ignored: its window isn't open, or it is held already
abbrev pub is_ignored : QueryId → Bool → Side → Bool
is_ignored q is_open s = not is_open || is_held q s.held

-- the side once it asked a query
abbrev pub after_asking : WindowId → List ℕ → Side → Side
after_asking w actor s = record s { queries = with_query w actor s.queries }

-- what a side asked once the pending queries that pass the test are settled
abbrev pub with_settled : (QueryRow → Bool) → Outcome → Asked → Asked
with_settled test o a = record a { rows = settle_where test o a.rows }

-- the side once its query was replied to
abbrev pub after_reply : QueryId → Outcome → Side → Side
after_reply q o s = record s { queries = with_settled (is_for q) o s.queries }

-- how an actor of this mode reacts
abbrev pub reaction_by : Mode → List ℕ → Reaction
reaction_by modes.Echo text = reactions.Reply text
reaction_by modes.Reject text = reactions.Reject text
reaction_by modes.Hold text = reactions.Hold

-- how the side reacts to a query
abbrev pub reaction_to : QueryId → List ℕ → Mode → Bool → Side → Reaction
reaction_to q text mode is_open s =
    if is_ignored q is_open s then reactions.Ignore else reaction_by mode text

-- the side once an actor of this mode has a query that isn't ignored
abbrev pub after_mode : QueryId → WindowId → Mode → Side → Side
after_mode q w modes.Echo s = s
after_mode q w modes.Reject s = s
after_mode q w modes.Hold s = record s { held = s.held ++ (q, w) ∷ [] }

-- the side once it received a query
abbrev pub after_receive : QueryId → WindowId → Mode → Bool → Side → Side
after_receive q w mode is_open s = if is_ignored q is_open s then s else after_mode q w mode s

-- the side once it was told a text
abbrev pub after_told : WindowId → List ℕ → List ℕ → Side → Side
after_told w actor text s = record s { inbox = s.inbox ++ (w, actor, text) ∷ [] }

-- the side once a query was answered: it is held no longer, and the others are, in their order
abbrev pub after_answer : QueryId → Side → Side
after_answer q s = record s { held = filter (λ h. not (is_held_as q h)) s.held }

-- the side once a window closed: what it asked on it and is pending is aborted, nothing is held on it, and
-- what is held on others is, in its order
abbrev pub after_teardown : WindowId → Side → Side
after_teardown w s = record s {
  queries = with_settled (is_of w) Aborted s.queries;
  held = filter (λ h. not (is_on w h)) s.held;
}
