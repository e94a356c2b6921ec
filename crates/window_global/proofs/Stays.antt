-- A window that has closed stays closed, for its context.
use Rattle.std.proofs.Common.{◌≡◌, ◌∙◌, refl, sym, ap, Bool, true, false, cond, List, [], ◌∷◌, ◌++◌, Option, None, Some}
use Rattle.std.specs.Prelude.{is_some}
use Rattle.std.specs.Option.{option_map, option_map_or}
use Rattle.fission_ids.specs.declared.context.ContextId.{ContextId}
use Rattle.fission_ids.specs.declared.window.WindowId.{WindowId}
use Rattle.url.specs.Parts.{Parts}
use Rattle.window_global.specs.declared.row.WindowRow.{WindowRow}
use Rattle.window_global.specs.Windows.{is_at, is_open_for, row_of, is_made, context_of, is_live, closed, windows_after_close, windows_without_open, windows_after_begin}
use Rattle.window_global.specs.Laws.{StaysClosed}
use Rattle.window_global.proofs.Lists.{first_of, find_push}
use Rattle.window_global.proofs.Rows.{close_if, row_closed}

-- the row of a window that was made and is closed
record ClosedRow (v : WindowId) (rs : List WindowRow) : Type 0 where
  row : WindowRow
  found : row_of v rs ≡ Some row
  is_closed : row.is_open ≡ false

closed_row : (v : WindowId) (rs : List WindowRow) → is_made v rs ≡ true → is_live v rs ≡ false → ClosedRow v rs
closed_row v rs made live = by (row_of v rs) refl made live
  where
    by : (o : Option WindowRow) → row_of v rs ≡ o → is_some o ≡ true → option_map_or (λ r. r.is_open) o false ≡ false → ClosedRow v rs
    by None f made live = absurd (cc)
    by (Some r) f made live = record { row = r; found = f; is_closed = live }

-- a row that is found behind a call, and is closed and of the same context
told : (v : WindowId) (rs new : List WindowRow) (r q : WindowRow) → row_of v rs ≡ Some r → row_of v new ≡ Some q → q.is_open ≡ false → q.context ≡ r.context
    → (is_live v new ≡ false) × (context_of v new ≡ context_of v rs)
told v rs new r q was is is_closed same = (
  ap (λ o. option_map_or (λ r. r.is_open) o false) is ∙ is_closed,
  ap (option_map (λ r. r.context)) is ∙ ap Some same ∙ sym (ap (option_map (λ r. r.context)) was),
)

shut_stays : (t : WindowRow → Bool) (r : WindowRow) → r.is_open ≡ false → (close_if t r).is_open ≡ false
shut_stays t r e = by (t r)
  where
    by : (b : Bool) → (cond b (closed r) r).is_open ≡ false
    by true = refl
    by false = e

same_place : (t : WindowRow → Bool) (r : WindowRow) → (close_if t r).context ≡ r.context
same_place t r = by (t r)
  where
    by : (b : Bool) → (cond b (closed r) r).context ≡ r.context
    by true = refl
    by false = refl

pub close_stays : (v w : WindowId) (rs : List WindowRow) → StaysClosed v rs (windows_after_close w rs)
close_stays v w rs made live =
    let r = closed_row v rs made live in
    told v rs (windows_after_close w rs) r.row (close_if (is_at w) r.row) r.found (row_closed (is_at w) v rs ∙ ap (option_map (close_if (is_at w))) r.found)
    (shut_stays (is_at w) r.row r.is_closed) (same_place (is_at w) r.row)

pub begin_stays : (v w : WindowId) (x : ContextId) (url : Parts) (late : Bool) (rs : List WindowRow) → StaysClosed v rs (windows_after_begin w x url late rs)
begin_stays v w x url true rs made live =
    let r = closed_row v rs made live in
    let new : WindowRow = record { window = w; context = x; url = url; is_open = false } in
    told v rs (rs ++ new ∷ []) r.row r.row r.found
    (find_push (is_at v) rs new ∙ ap (λ o. first_of o (cond (is_at v new) (Some new) None)) r.found) r.is_closed refl
begin_stays v w x url false rs made live =
    let r = closed_row v rs made live in
    let new : WindowRow = record { window = w; context = x; url = url; is_open = true } in
    let row = row_closed (is_open_for x) v rs ∙ ap (option_map (close_if (is_open_for x))) r.found in
    told v rs (windows_without_open x rs ++ new ∷ []) r.row (close_if (is_open_for x) r.row) r.found
    (find_push (is_at v) (windows_without_open x rs) new ∙ ap (λ o. first_of o (cond (is_at v new) (Some new) None)) row)
    (shut_stays (is_open_for x) r.row r.is_closed) (same_place (is_open_for x) r.row)
