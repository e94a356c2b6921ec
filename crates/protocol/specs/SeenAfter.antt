-- What a doing does to all answers of a process at once.
use Rattle.std.specs.Prelude.{ℕ, ◌+◌, ◌==◌, nat_lt, Bool, true, false}
use Rattle.std.specs.Prelude.{not, ◌&&◌, ◌||◌, if◌then◌else◌, filter, insert, length}
use Rattle.std.specs.Prelude.{List, Option, None, Some, is_none, is_some}
use Rattle.std.specs.List.{position_or_len}
use Rattle.fission_ids.specs.declared.context.ContextId.{ContextId}
use Rattle.fission_ids.specs.declared.group.GroupId.{GroupId}
use Rattle.fission_ids.specs.Ids.{same_context}
use Rattle.field_table.specs.declared.field.Field.{Field}
use Rattle.field_table.specs.declared.value.Value.{Value}
use Rattle.field_table.specs.Field.{initial}
use Rattle.field_table.specs.Table.{value_in}
use Rattle.transaction.specs.Transaction.{Changes, new_value}
use Rattle.protocol.specs.Questions.{option_any}
use Rattle.protocol.specs.Fold.{or_later}
use Rattle.protocol.specs.Seen.{Seen, Doing}
use Rattle.protocol.specs.Seen.Doing.{Came, Framed, Went, Wrote, Given, Disowned, Took, Stopped}
use Rattle.protocol.specs.Take.{may_come}

-- whether an id is greater than another: by creator, then by serial
abbrev pub is_greater : ContextId → ContextId → Bool
is_greater x y = nat_lt y.creator x.creator || (y.creator == x.creator && nat_lt y.serial x.serial)

-- where a context goes among those in order: a top-level one before the first with a greater id, another
-- behind all in its parent
abbrev pub place_among : (ContextId → Option ContextId) → (ContextId → ContextId → Bool) → List ContextId
    → ContextId → Option ContextId → ℕ
place_among above under order x None = position_or_len (λ y. is_none (above y) && is_greater y x) order
place_among above under order x (Some a) =
    position_or_len (same_context a) order + length (filter (λ y. under y a) order)

abbrev pub place_for : Seen → ContextId → Option ContextId → ℕ
place_for s x parent = place_among s.above s.under s.order x parent

-- the process holds one context more
abbrev pub with_context : ContextId → Option GroupId → Option ContextId → Bool → (Field → Value) → Seen → Seen
with_context x group above owned values s = record s {
  holds = λ y. if same_context y x then true else s.holds y;
  group = λ y. if same_context y x then group else s.group y;
  above = λ y. if same_context y x then above else s.above y;
  under = λ y z.
      if same_context y x then same_context y z || option_any (λ a. s.under a z) above else s.under y z;
  owns = λ y. if same_context y x then owned else s.owns y;
  value = λ y fld. if same_context y x then Some (values fld) else s.value y fld;
  newest = λ y fld. if same_context y x then 0 else s.newest y fld;
  order = insert s.order (place_for s x above) x;
}

-- x is gone with all below it
abbrev pub without_context : ContextId → Seen → Seen
without_context x s = record s {
  holds = λ y. if s.under y x then false else s.holds y;
  group = λ y. if s.under y x then None else s.group y;
  above = λ y. if s.under y x then None else s.above y;
  under = λ y z. if s.under y x then false else s.under y z;
  owns = λ y. if s.under y x then false else s.owns y;
  value = λ y fld. if s.under y x then None else s.value y fld;
  newest = λ y fld. if s.under y x then 0 else s.newest y fld;
  order = filter (λ y. not (s.under y x)) s.order;
}

-- fields of a context have new values
abbrev pub with_values : ContextId → Changes → Seen → Seen
with_values x t s = record s {
  value = λ y fld. if same_context y x then or_later (new_value t fld) (s.value y fld) else s.value y fld;
}

unfoldable pub seen_after : ℕ → Doing → Seen → Seen
seen_after p (Came k) s =
    if may_come p s k then with_context k.context (Some k.group) k.parent k.owned (value_in k.fields) s else s
seen_after p (Framed x above) s =
    record (with_context x (s.group above) (Some above) true initial s) { frames_made = s.frames_made + 1 }
seen_after p (Went x) s = without_context x s
seen_after p (Wrote x t) s = record (with_values x t s) {
  commits = s.commits + 1;
  newest = λ y fld.
      if same_context y x && is_some (new_value t fld) then s.commits + 1 else s.newest y fld;
}
seen_after p (Given x t) s = with_values x t s
seen_after p (Disowned x) s = record s { owns = λ y. if same_context y x then false else s.owns y }
seen_after p Took s = record s { taken = s.taken + 1 }
seen_after p Stopped s = record s { running = false }
