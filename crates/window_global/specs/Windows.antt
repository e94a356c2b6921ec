-- Windows: which were made, for which contexts, and which are open.
use Rattle.std.specs.Prelude.{◌≤◌, ◌&&◌, if◌then◌else◌, [], ◌∷◌, ◌++◌, false, find, is_some}
use Rattle.std.specs.Prelude.{map, not, option_and_then, Bool, List, None, Option, Some}
use Rattle.std.specs.List.{count_by}
use Rattle.std.specs.Option.{option_map, option_map_or}
use Rattle.fission_ids.specs.Ids.{same_context, same_window}
use Rattle.fission_ids.specs.declared.context.ContextId.{ContextId}
use Rattle.fission_ids.specs.declared.window.WindowId.{WindowId}
use Rattle.url.specs.Parts.{Parts}
use Rattle.window_global.specs.declared.row.WindowRow.{WindowRow}

-- whether a row is that of a window
abbrev pub is_at : WindowId → WindowRow → Bool
is_at w r = same_window w r.window

-- whether a row is of a window that is open for a context
abbrev pub is_open_for : ContextId → WindowRow → Bool
is_open_for x r = r.is_open && same_context x r.context

-- the row of a window, if it was made
abbrev pub row_of : WindowId → List WindowRow → Option WindowRow
row_of w rs = find (is_at w) rs

-- whether a window was made
abbrev pub is_made : WindowId → List WindowRow → Bool
is_made w rs = is_some (row_of w rs)

-- the context that a window was made for
abbrev pub context_of : WindowId → List WindowRow → Option ContextId
context_of w rs = option_map (λ r. r.context) (row_of w rs)

-- the address of a window
abbrev pub url_of : WindowId → List WindowRow → Option Parts
url_of w rs = option_map (λ r. r.url) (row_of w rs)

-- whether a window is open
abbrev pub is_live : WindowId → List WindowRow → Bool
is_live w rs = option_map_or (λ r. r.is_open) (row_of w rs) false

-- the context of a window that is open
abbrev pub open_context : WindowId → List WindowRow → Option ContextId
open_context w rs = option_and_then (λ r. if r.is_open then Some r.context else None) (row_of w rs)

-- the open window of a context
abbrev pub live_of : ContextId → List WindowRow → Option WindowId
live_of x rs = option_map (λ r. r.window) (find (is_open_for x) rs)

-- the row of a window that begins, which is closed at once where it is late
abbrev pub begun : WindowId → ContextId → Parts → Bool → WindowRow
begun w x url late = record { window = w; context = x; url = url; is_open = not late }

-- a row whose window has closed
abbrev pub closed : WindowRow → WindowRow
closed r = record r { is_open = false }

-- the rows with the windows closed that pass the test
abbrev pub windows_after_closing : (WindowRow → Bool) → List WindowRow → List WindowRow
windows_after_closing is_meant rs = map (λ r. if is_meant r then closed r else r) rs

-- the rows with a window closed
abbrev pub windows_after_close : WindowId → List WindowRow → List WindowRow
windows_after_close w rs = windows_after_closing (is_at w) rs

-- the rows with the open window of a context closed
abbrev pub windows_without_open : ContextId → List WindowRow → List WindowRow
windows_without_open x rs = windows_after_closing (is_open_for x) rs

-- the rows with a window that begins: unless it is late, the open one of its context closes
abbrev pub windows_after_begin : WindowId → ContextId → Parts → Bool → List WindowRow → List WindowRow
windows_after_begin w x url late rs =
    (if late then rs else windows_without_open x rs) ++ begun w x url late ∷ []

-- each window was made once, and each context has at most one that is open
pub record AreSound (rs : List WindowRow) : Type 0 where
  pub once : (w : WindowId) → count_by (is_at w) rs ≤ 1
  pub one_open : (x : ContextId) → count_by (is_open_for x) rs ≤ 1
