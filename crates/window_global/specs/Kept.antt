-- The entries that the code keeps for the windows.
use Rattle.std.specs.Prelude.{◌≡◌, List, map, ℕ}
use Rattle.std.specs.Map.{lookup, values_of}
use Rattle.fission_ids.specs.Ids.{same_context}
use Rattle.fission_ids.specs.declared.context.ContextId.{ContextId}
use Rattle.fission_ids.specs.declared.window.WindowId.{WindowId}
use Rattle.window_global.specs.declared.row.WindowRow.{WindowRow}
use Rattle.window_global.specs.Windows.{live_of, AreSound}

-- the key of a window
abbrev pub key_of : WindowId → ℕ × ℕ
key_of w = (w.creator, w.serial)

-- the rows in the entries
abbrev pub rows_in : List ((ℕ × ℕ) × WindowRow) → List WindowRow
rows_in es = values_of es

-- what is kept of rows, each under its window
abbrev pub entries_of : List WindowRow → List ((ℕ × ℕ) × WindowRow)
entries_of rs = map (λ r. (key_of r.window, r)) rs

-- the entries are those of these rows, and the rows are sound
pub record AreTied (es : List ((ℕ × ℕ) × WindowRow)) (rs : List WindowRow) : Type 0 where
  pub entries : es ≡ entries_of rs
  pub sound : AreSound rs

-- the entries are tied to the rows that are seen, and the live windows are noted by context
pub record AreKept (es : List ((ℕ × ℕ) × WindowRow)) (live : List (ContextId × WindowId)) : Type 0 where
  pub tied : AreTied es (rows_in es)
  pub noted : (x : ContextId) → lookup (same_context x) live ≡ live_of x (rows_in es)
