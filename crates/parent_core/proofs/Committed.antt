-- The fields of the contexts: at the start, and behind a commit.
use Rattle.std.proofs.Common.{◌≡◌, ◌≢◌, ℕ, suc, ◌+◌, ◌-◌, ◌<◌, ◌≤◌, ◌==◌, nat_lt, Bool, true, false, ◌&&◌, cond, if◌then◌else◌, Option, None, Some, List, length, inl, inr, refl, sym, ap, ◌∙◌, arith, eq-eqb, unwrap_or}
use Rattle.std.specs.Prelude.{is_some}
use Rattle.std.specs.List.{slice_get}
use Rattle.std.specs.Option.{option_map}
use Rattle.std.specs.FinMap.{get, insert, get-insert}
use Rattle.std.proofs.lemmas.Bool.{cases_eq, ne_eqb, le-ltb, lt-ltb, ltb-true, false≢true}
use Rattle.std.proofs.lemmas.Option.{slice_get_cases}
use Rattle.fission_ids.specs.declared.context.ContextId.{ContextId}
use Rattle.fission_ids.specs.Ids.{same_context}
use Rattle.field_table.specs.declared.field.Field.{Field}
use Rattle.field_table.specs.declared.value.Value.{Value}
use Rattle.field_table.specs.Field.{fields}
use Rattle.field_table.specs.Table.{value_in}
use Rattle.transaction.specs.Transaction.{Changes, new_value, table_after}
use Rattle.transaction.proofs.Merging.{value_in-merged}
use Rattle.context_store.specs.Content.{Content, Stored, is_there, content_after_change, stored_after_commit}
use Rattle.context_store.proofs.Contexts.{context_order_total, are_tied, same_context-tied, tied_same, get-changed_at}
use Rattle.wire_msgs.specs.declared.config.StartTab.{StartTab}
use Rattle.protocol.specs.Fold.{or_later}
use Rattle.protocol.specs.Start.{is_live, some_if}
use Rattle.parent_core.proofs.Facts.{below_more}
use Rattle.parent_core.specs.Contents.{value_at}

-- ---- the start

-- whether a serial is among the first n
abbrev pub is_serial : ℕ → ℕ → Bool
is_serial n serial = if nat_lt 0 serial then nat_lt (serial - 1) n else false

-- whether a context is among the first n of the parent
abbrev pub is_among : ℕ → ContextId → Bool
is_among n x = x.creator == 0 && is_serial n x.serial

pub serial_in : (n s : ℕ) → 0 < s → s - 1 < n → is_serial n s ≡ true
serial_in n s from below = ap (λ b. if b then nat_lt (s - 1) n else false) (lt-ltb 0 s from) ∙ lt-ltb (s - 1) n below

pub serial_out : (n s : ℕ) → n ≤ s - 1 → is_serial n s ≡ false
serial_out n s past = by (nat_lt 0 s)
  where
    by : (b : Bool) → (if b then nat_lt (s - 1) n else false) ≡ false
    by true = le-ltb (s - 1) n past
    by false = refl

pub serial_more : (n s : ℕ) → s ≢ n + 1 → is_serial n s ≡ is_serial (n + 1) s
serial_more n s ne = by (nat_lt 0 s) refl
  where
    by : (b : Bool) → nat_lt 0 s ≡ b → (if b then nat_lt (s - 1) n else false) ≡ (if b then nat_lt (s - 1) (n + 1) else false)
    by true e =
        let from : 0 < s = ltb-true 0 s e in
        let other : s - 1 ≢ n = λ same. ne (omega arith) in
        let one : suc n ≡ n + 1 = omega arith in
        below_more (s - 1) n other ∙ ap (nat_lt (s - 1)) one
    by false e = refl

pub serial_next : {X : Type 0} (n s : ℕ) (v : X) → cond (s == n + 1) (Some v) (some_if (is_serial n s) v) ≡ some_if (is_serial (n + 1) s) v
serial_next n s v = elim (cases_eq s (n + 1)) [
  | inl e ↦
      let from : 0 < s = omega arith in
      let below : s - 1 < n + 1 = omega arith in
      ap (λ b. cond b (Some v) (some_if (is_serial n s) v)) (eq-eqb s (n + 1) e) ∙ sym (ap (λ b. some_if b v) (serial_in (n + 1) s from below))
  | inr ne ↦
      ap (λ b. cond b (Some v) (some_if (is_serial n s) v)) (ne_eqb s (n + 1) ne) ∙ ap (λ b. some_if b v) (serial_more n s ne)
]

-- the contexts with this at each of the first n
abbrev pub StartedTo : Stored → ℕ → Content → Type 0
StartedTo v n m = (x : ContextId) → get m x ≡ some_if (is_among n x) v

-- the next one isn't there yet
pub next_absent : (v : Stored) (n : ℕ) (m : Content) → StartedTo v n m → get m (record { creator = 0; serial = n + 1 }) ≡ None
next_absent v n m started =
    let past : n ≤ n + 1 - 1 = omega arith in
    started (record { creator = 0; serial = n + 1 }) ∙ ap (λ b. some_if b v) (serial_out n (n + 1) past)

pub started_next : (v : Stored) (n : ℕ) (old new : Content) → StartedTo v n old → new ≡ insert old (record { creator = 0; serial = n + 1 }) v → StartedTo v (n + 1) new
started_next v n old new started e x =
    let next : ContextId = record { creator = 0; serial = n + 1 } in
    ap (λ (m : Content). get m x) e
    ∙ get-insert context_order_total old next v x
    ∙ ap (λ b. cond b (Some v) (get old x)) (sym (same_context-tied x next))
    ∙ ap (λ (o : Option Stored). cond (x.creator == 0 && x.serial == n + 1) (Some v) o) (started x)
    ∙ by (x.creator == 0)
  where
    by : (b : Bool) → cond (b && x.serial == n + 1) (Some v) (some_if (b && is_serial n x.serial) v) ≡ some_if (b && is_serial (n + 1) x.serial) v
    by true = serial_next n x.serial v
    by false = refl

is_some_get : {X : Type 0} (xs : List X) (i : ℕ) → is_some (slice_get xs i) ≡ nat_lt i (length xs)
is_some_get xs i = elim (slice_get_cases xs i).1 [
  | inl w ↦ ap is_some w.2 ∙ sym (lt-ltb i (length xs) w.1)
  | inr w ↦ ap is_some w.1 ∙ sym (le-ltb i (length xs) w.0)
]

pub among_live : (tabs : List StartTab) (x : ContextId) → is_among (length tabs) x ≡ is_live tabs x
among_live tabs x = by (x.creator == 0) (nat_lt 0 x.serial)
  where
    by : (b c : Bool) → (b && (if c then nat_lt (x.serial - 1) (length tabs) else false)) ≡ is_some (if b && c then slice_get tabs (x.serial - 1) else None)
    by true true = sym (is_some_get tabs (x.serial - 1))
    by true false = refl
    by false c = refl

pub none_started : (v : Stored) (m : Content) → ((x : ContextId) → get m x ≡ None) → StartedTo v 0 m
none_started v m none x =
    let past : 0 ≤ x.serial - 1 = omega arith in
    none x ∙ sym (by (x.creator == 0) (serial_out 0 x.serial past))
  where
    by : (b : Bool) → is_serial 0 x.serial ≡ false → some_if (b && is_serial 0 x.serial) v ≡ None
    by true e = ap (λ c. some_if c v) e
    by false e = refl

-- ---- a commit

or_unwrap : (o : Option Value) (v : Value) → Some (unwrap_or o v) ≡ or_later o (Some v)
or_unwrap None v = refl
or_unwrap (Some w) v = refl

module _ (x : ContextId) (t : Changes) (m n : Content) (is : n ≡ content_after_change (stored_after_commit t None) x m) where
  -- the fields of the context have the new values
  pub values_committed : is_there x m ≡ true → ((s : Stored) → get m x ≡ Some s → length s.fields ≡ length fields) → (y : ContextId) (fld : Field)
      → value_at y fld n ≡ (if same_context y x then or_later (new_value t fld) (value_at y fld m) else value_at y fld m)
  values_committed there whole y fld =
      ap (λ (c : Content). value_at y fld c) is
      ∙ ap (option_map value) (get-changed_at (stored_after_commit t None) x m y)
      ∙ ap (λ b. option_map value (cond b (option_map (stored_after_commit t None) (get m x)) (get m y))) (sym (same_context-tied y x))
      ∙ by (same_context y x) refl
    where
      value : Stored → Value
      value s = value_in s.fields fld

      at : (o : Option Stored) → get m x ≡ o → option_map value (option_map (stored_after_commit t None) o) ≡ or_later (new_value t fld) (option_map value o)
      at None e = absurd (false≢true (sym (ap is_some e) ∙ there))
      at (Some s) e = ap Some (value_in-merged t s.fields (table_after t s.fields) fld refl (whole s e)) ∙ or_unwrap (new_value t fld) (value_in s.fields fld)

      by : (b : Bool) → same_context y x ≡ b → option_map value (cond b (option_map (stored_after_commit t None) (get m x)) (get m y))
          ≡ cond b (or_later (new_value t fld) (option_map value (get m y))) (option_map value (get m y))
      by true e =
          let same : y ≡ x = tied_same y x (sym (same_context-tied y x) ∙ e) in
          at (get m x) refl ∙ ap (λ (z : ContextId). or_later (new_value t fld) (option_map value (get m z))) (sym same)
      by false e = refl

  -- and the same contexts are there
  pub there_committed : (y : ContextId) → is_there y n ≡ is_there y m
  there_committed y =
      ap (λ (c : Content). is_there y c) is
      ∙ ap is_some (get-changed_at (stored_after_commit t None) x m y)
      ∙ by (are_tied y x) refl
    where
      kept : (o : Option Stored) → is_some (option_map (stored_after_commit t None) o) ≡ is_some o
      kept None = refl
      kept (Some s) = refl

      by : (b : Bool) → are_tied y x ≡ b → is_some (cond b (option_map (stored_after_commit t None) (get m x)) (get m y)) ≡ is_some (get m y)
      by true e = kept (get m x) ∙ ap (λ (z : ContextId). is_some (get m z)) (sym (tied_same y x e))
      by false e = refl
