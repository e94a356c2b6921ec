-- Verdicts that were worked by hand.
use Rattle.std.specs.Prelude.{◌≡◌, Bool, true, false, List, [], ◌∷◌, map, codes, Option, None, Some}
use Rattle.fission_ids.specs.declared.context.ContextId.{ContextId}
use Rattle.field_table.specs.declared.field.Field.{Field}
use Rattle.field_table.specs.declared.field.Field.TheVariants.{Name, Closed, CurrentInnerWindowId}
use Rattle.field_table.specs.declared.field.Field.TheVariants.{FullZoom, TextZoom, Muted, DisplayMode}
use Rattle.field_table.specs.declared.value.Value.{Value}
use Rattle.field_table.specs.declared.value.Value.TheVariants.{Flag, Number, Words}
use Rattle.field_table.specs.declared.verdict.Verdict.{Verdict}
use Rattle.field_table.specs.declared.verdict.Verdict.TheVariants.{Allow, Deny, Revert}
use Rattle.field_rules.specs.declared.ask.WindowFact.{WindowFact}
use Rattle.field_rules.specs.Bounds.{Bounds, range, no_number}
use Rattle.field_rules.specs.Rules.{Question, verdict}

-- the context that is written
abbrev pub tab : ContextId
tab = record { creator = 0; serial = 1 }

-- another context
abbrev pub other_tab : ContextId
other_tab = record { creator = 0; serial = 2 }

-- a window that was made for the context, open or not
abbrev pub window_here : Bool → Option WindowFact
window_here is_open = Some (record { made_for = tab; is_open = is_open })

-- an open window that was made for another context
abbrev pub window_elsewhere : Option WindowFact
window_elsewhere = Some (record { made_for = other_tab; is_open = true })

-- the parent's write to a context that is top-level or not
abbrev pub by_parent : Field → Value → Bool → Option WindowFact → Question
by_parent f v top window = record {
  field = f;
  value = v;
  context = tab;
  top = top;
  window = window;
  from = None;
  owner_is_sender = false;
}

-- the write of a process, which owns the context or not
abbrev pub by_process : Bool → Field → Value → Bool → Option WindowFact → Question
by_process owns f v top window = record {
  field = f;
  value = v;
  context = tab;
  top = top;
  window = window;
  from = Some (record { 0 = 3 });
  owner_is_sender = owns;
}

-- the write of the process that owns the context
abbrev pub by_owner : Field → Value → Bool → Option WindowFact → Question
by_owner = by_process true

-- the write of a process that doesn't own the context
abbrev pub by_other : Field → Value → Bool → Option WindowFact → Question
by_other = by_process false

-- a rule function for the whole page allows 50 to 300, and there is none for the text
abbrev pub worked_bounds : Bounds
worked_bounds = record { full = range 50 300; text = no_number }

-- a write, and its verdict
pub record WorkedRow : Type 0 where
  pub write : Question
  pub wants : Verdict

-- the row of a write with its verdict
abbrev pub has : Question → Verdict → WorkedRow
has q v = record { write = q; wants = v }

-- the rows: a write of each rule by each side, and the edges of zooms
unfoldable pub worked_rows : List WorkedRow
worked_rows =
    has (by_other Closed (Flag true) false None) Allow ∷
    has (by_owner Muted (Flag true) true None) Deny ∷
    has (by_parent Muted (Flag true) true None) Allow ∷
    has (by_parent DisplayMode (Number 3) false None) Deny ∷
    has (by_other DisplayMode (Number 3) true None) Allow ∷
    has (by_parent Name (Words (codes "a")) true None) Allow ∷
    has (by_owner Name (Words (codes "a")) true None) Allow ∷
    has (by_other Name (Words (codes "a")) true None) Revert ∷
    has (by_parent CurrentInnerWindowId (Number 0) true None) Allow ∷
    has (by_parent CurrentInnerWindowId (Number 4294967297) true (window_here true)) Deny ∷
    has (by_other CurrentInnerWindowId (Number 0) true None) Allow ∷
    has (by_owner CurrentInnerWindowId (Number 4294967297) true None) Deny ∷
    has (by_owner CurrentInnerWindowId (Number 4294967297) true window_elsewhere) Deny ∷
    has (by_owner CurrentInnerWindowId (Number 4294967297) true (window_here false)) Revert ∷
    has (by_other CurrentInnerWindowId (Number 4294967297) true (window_here true)) Revert ∷
    has (by_owner CurrentInnerWindowId (Number 4294967297) false (window_here true)) Allow ∷
    has (by_parent FullZoom (Number 100) false None) Deny ∷
    has (by_parent FullZoom (Number 29) true None) Deny ∷
    has (by_parent FullZoom (Number 500) true None) Allow ∷
    has (by_owner FullZoom (Number 501) true None) Deny ∷
    has (by_owner FullZoom (Number 30) true None) Allow ∷
    has (by_other FullZoom (Number 49) true None) Revert ∷
    has (by_other FullZoom (Number 50) true None) Allow ∷
    has (by_other FullZoom (Number 300) true None) Allow ∷
    has (by_other FullZoom (Number 301) true None) Revert ∷
    has (by_other TextZoom (Number 100) true None) Revert ∷ []

-- the table gives each worked row
abbrev pub WorkedRowsHold : Type 0
WorkedRowsHold = map (λ r. verdict worked_bounds r.write) worked_rows ≡ map (λ r. r.wants) worked_rows
