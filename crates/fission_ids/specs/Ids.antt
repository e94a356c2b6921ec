-- Ids: which numbers they have, and how they are written.
use Rattle.std.specs.Prelude.{◌≡◌, ◌≢◌, ℕ, ◌+◌, ◌*◌, ◌≤◌, ◌==◌, Bool, nat_le, ◌&&◌, if◌then◌else◌, List, ◌++◌}
use Rattle.std.specs.Prelude.{length, drop, slice_index, Option, Some, None, codes, decimal}
use Rattle.std.specs.List.{before_first, after_first}
use Rattle.std.specs.Option.{option_map}
use Rattle.std.specs.Str.{bytes_eq}
use Rattle.std.specs.Str.Parse.{digits_value}
use Rattle.fission_ids.specs.declared.group.GroupId.{GroupId}
use Rattle.fission_ids.specs.declared.context.ContextId.{ContextId}
use Rattle.fission_ids.specs.declared.window.WindowId.{WindowId}
use Rattle.fission_ids.specs.declared.query.QueryId.{QueryId}

-- a creator is 0 for the parent and p + 1 for process p, and serials count from 1
abbrev pub AreInRange : ℕ → ℕ → Type 0
AreInRange creator serial = (creator ≤ 16) × (1 ≤ serial) × (serial ≤ 4294967295)

abbrev pub IsGroupId : GroupId → Type 0
IsGroupId g = (1 ≤ g.0) × (g.0 ≤ 4294967295)

abbrev pub IsContextId : ContextId → Type 0
IsContextId x = AreInRange x.creator x.serial

abbrev pub IsWindowId : WindowId → Type 0
IsWindowId w = AreInRange w.creator w.serial

abbrev pub IsQueryId : QueryId → Type 0
IsQueryId q = AreInRange q.creator q.serial

-- digits without a sign in front, and without a zero in front of others
abbrev pub IsPlain : List ℕ → Type 0
IsPlain digits = (slice_index digits 0 ≢ 43) × (slice_index digits 0 ≡ 48 → length digits ≡ 1)

-- two numbers with a dot between them
abbrev pub numbers_text : ℕ → ℕ → List ℕ
numbers_text creator serial = decimal creator ++ (codes "." ++ decimal serial)

abbrev pub group_text : GroupId → List ℕ
group_text g = codes "g" ++ decimal g.0

abbrev pub context_text : ContextId → List ℕ
context_text x = codes "c" ++ numbers_text x.creator x.serial

abbrev pub window_text : WindowId → List ℕ
window_text w = codes "w" ++ numbers_text w.creator w.serial

abbrev pub query_text : QueryId → List ℕ
query_text q = codes "q" ++ numbers_text q.creator q.serial

-- two numbers as one
abbrev pub id_number : ℕ → ℕ → ℕ
id_number creator serial = creator * 4294967296 + serial

abbrev pub context_number : ContextId → ℕ
context_number x = id_number x.creator x.serial

abbrev pub window_number : WindowId → ℕ
window_number w = id_number w.creator w.serial

-- the same as `AreInRange`, as a test
abbrev pub are_in_range : ℕ → ℕ → Bool
are_in_range creator serial =
    nat_le creator 16
    && nat_le 1 serial
    && nat_le serial 4294967295

abbrev pub is_dot : ℕ → Bool
is_dot b = b == 46

-- the number that the digits between the letter and the first dot give
abbrev pub creator_in : List ℕ → ℕ
creator_in text = digits_value 10 (before_first is_dot (drop 1 text))

-- the number that the digits behind the first dot give
abbrev pub serial_in : List ℕ → ℕ
serial_in text = digits_value 10 (after_first is_dot (drop 1 text))

-- the two numbers that the digits give, if they are in range and the text is the letter and these numbers
unfoldable pub numbers_of : List ℕ → List ℕ → Option (ℕ × ℕ)
numbers_of letter text =
    let creator = creator_in text in
    let serial = serial_in text in
    if are_in_range creator serial
    && bytes_eq text (letter ++ numbers_text creator serial)
    then Some (creator, serial) else None

-- the context that a text names
unfoldable pub context_of : List ℕ → Option ContextId
context_of text = option_map (λ n. record { creator = n.0; serial = n.1 }) (numbers_of (codes "c") text)

-- the window that a text names
unfoldable pub window_of : List ℕ → Option WindowId
window_of text = option_map (λ n. record { creator = n.0; serial = n.1 }) (numbers_of (codes "w") text)

-- the query that a text names
unfoldable pub query_of : List ℕ → Option QueryId
query_of text = option_map (λ n. record { creator = n.0; serial = n.1 }) (numbers_of (codes "q") text)

-- the group that a text names: the number behind the letter, if it is in range and the text is that of the
-- group
unfoldable pub group_of : List ℕ → Option GroupId
group_of text =
    let number = digits_value 10 (drop 1 text) in
    if nat_le 1 number
    && nat_le number 4294967295
    && bytes_eq text (codes "g" ++ decimal number)
    then Some (record { 0 = number }) else None

-- whether two ids are of one context
abbrev pub same_context : ContextId → ContextId → Bool
same_context x y = x.creator == y.creator && x.serial == y.serial

-- or of one window
abbrev pub same_window : WindowId → WindowId → Bool
same_window v w = v.creator == w.creator && v.serial == w.serial

-- or of one query
abbrev pub same_query : QueryId → QueryId → Bool
same_query p q = p.creator == q.creator && p.serial == q.serial
