-- How long windows are open.
use Rattle.std.specs.Prelude.{◌≡◌, ◌↔◌, false, if◌then◌else◌, true, Bool, List, None, Some}
use Rattle.std.specs.Option.{option_map_or}
use Rattle.fission_ids.specs.Ids.{same_context}
use Rattle.fission_ids.specs.declared.context.ContextId.{ContextId}
use Rattle.fission_ids.specs.declared.window.WindowId.{WindowId}
use Rattle.url.specs.Parts.{Parts}
use Rattle.window_global.specs.declared.row.WindowRow.{WindowRow}
use Rattle.window_global.specs.Windows.{context_of, is_live, is_made, live_of, open_context}
use Rattle.window_global.specs.Windows.{windows_after_begin, windows_after_close, AreSound}

-- each window is made once and each context has at most one that is open, behind each call
pub record ContextsHaveOneOpenWindow : Type 0 where
  pub begin : (w : WindowId) (x : ContextId) (url : Parts) (late : Bool) (rs : List WindowRow) →
      AreSound rs → is_made w rs ≡ false → AreSound (windows_after_begin w x url late rs)
  pub close : (w : WindowId) (rs : List WindowRow) → AreSound rs → AreSound (windows_after_close w rs)

-- the open window of a context is w exactly where w is open and was made for it
abbrev pub OpenWindowsAreShown : Type 0
OpenWindowsAreShown = (rs : List WindowRow) → AreSound rs → (w : WindowId) (x : ContextId) →
    (live_of x rs ≡ Some w) ↔ (open_context w rs ≡ Some x)

-- a window that was made and is closed is so behind the call, and is still that of its context
abbrev pub StaysClosed : WindowId → List WindowRow → List WindowRow → Type 0
StaysClosed v old new = is_made v old ≡ true → is_live v old ≡ false →
    (is_live v new ≡ false) × (context_of v new ≡ context_of v old)

-- a closed window never opens again
pub record ClosedWindowsStayClosed : Type 0 where
  pub begin : (v w : WindowId) (x : ContextId) (url : Parts) (late : Bool) (rs : List WindowRow) →
      StaysClosed v rs (windows_after_begin w x url late rs)
  pub close : (v w : WindowId) (rs : List WindowRow) → StaysClosed v rs (windows_after_close w rs)

-- which window is open behind each call: one that begins and isn't late is the open one of its context, one
-- that closes isn't, and all else stays
pub record CallsConcernOneContext : Type 0 where
  pub begin : (w : WindowId) (x : ContextId) (url : Parts) (late : Bool) (rs : List WindowRow)
      (y : ContextId) → live_of y (windows_after_begin w x url late rs) ≡
      (if late then live_of y rs else if same_context y x then Some w else live_of y rs)
  pub close : (w : WindowId) (rs : List WindowRow) → AreSound rs → (y : ContextId) →
      live_of y (windows_after_close w rs) ≡
      (if option_map_or (same_context y) (open_context w rs) false then None else live_of y rs)
