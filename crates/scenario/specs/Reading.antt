-- What bytes read as: the scenario, or the first fault. A fault of shape tells its place: 0 for the top
-- object, 100000 + n for the n-th tab, n for the n-th step, 20001 for more than 20,000 steps.
use Rattle.std.specs.Prelude.{◌+◌, ◌==◌, ◌&&◌, ℕ, List, [], ◌∷◌, length, Bool, true, not}
use Rattle.std.specs.Prelude.{nat_lt, nat_le, if◌then◌else◌, Option, None, Some, option_and_then}
use Rattle.std.specs.Prelude.{Result, Ok, Err, codes}
use Rattle.std.specs.List.{list_all}
use Rattle.std.specs.Str.{is_utf8}
use Rattle.serde_json.specs.Data.{Data, Items, no_items, item, Members}
use Rattle.serde_json.specs.Read.{read as read_text}
use Rattle.serde_json.specs.Events.{items_len}
use Rattle.serde_json.specs.Find.{get, get_member, as_str, as_array, as_object}
use Rattle.fission_ids.specs.declared.process.ProcId.{ProcId}
use Rattle.fission_ids.specs.declared.process.ProcSet.{ProcSet}
use Rattle.fission_ids.specs.ProcSet.{with}
use Rattle.fission_ids.specs.declared.context.ContextId.{ContextId}
use Rattle.fission_ids.specs.declared.group.GroupId.{GroupId}
use Rattle.fission_ids.specs.Ids.{context_of, group_of}
use Rattle.field_table.specs.declared.field.Field.{Field}
use Rattle.field_table.specs.declared.value.Value.{Value}
use Rattle.field_table.specs.declared.value.ValueFault.{ValueFault}
use Rattle.field_table.specs.Field.{fields, field_of_name, name, kind}
use Rattle.field_table.specs.Reading.{value_of}
use Rattle.transaction.specs.Transaction.{Changes}
use Rattle.wire_msgs.specs.declared.action.Action.TheVariants as own
use Rattle.wire_msgs.specs.declared.action.ParentAction.TheVariants as parents
use Rattle.wire_msgs.specs.declared.part.UpPart.{UpPart}
use Rattle.wire_msgs.specs.declared.part.UpPart.TheVariants as ups
use Rattle.wire_msgs.specs.declared.config.StartTab.{StartTab}
use Rattle.wire_msgs.specs.Config.{is_remote_type}
use Rattle.journal.specs.declared.entry.Step.{Step}
use Rattle.journal.specs.declared.entry.Step.TheVariants as steps
use Rattle.scenario.specs.declared.fault.ReadFault.{ReadFault}
use Rattle.scenario.specs.declared.fault.ReadFault.TheVariants.{Unread, Shape}
use Rattle.scenario.specs.declared.line.Actor.{Actor}
use Rattle.scenario.specs.declared.line.Actor.TheVariants as actors
use Rattle.scenario.specs.declared.line.Show.TheVariants as shows
use Rattle.scenario.specs.declared.line.Line.{Line}
use Rattle.scenario.specs.declared.line.Line.TheVariants as lines
use Rattle.scenario.specs.declared.line.Scenario.{Scenario}
use Rattle.scenario.specs.declared.members.Kind.TheVariants as kinds
use Rattle.scenario.specs.Faults.{◌>>=◌, or_shape, asks}
use Rattle.scenario.specs.Members.{allows, is_field_name, all_named}
use Rattle.scenario.specs.Members.{has_only, has_member, is_text, whole_number}

-- ---- processes and tabs

unfoldable pub type_of : Data → Result (List ℕ) ReadFault
type_of d = or_shape 0 (as_str d) >>= λ s. asks 0 (is_remote_type s) (Ok s)

unfoldable pub types_of : Items → Result (List (List ℕ)) ReadFault
types_of no_items = Ok []
types_of (item d ds) = type_of d >>= λ t. types_of ds >>= λ ts. Ok (t ∷ ts)

-- 1 to 16 remote types
unfoldable pub processes_of : Option Data → Result (List (List ℕ)) ReadFault
processes_of found =
    or_shape 0 (option_and_then as_array found) >>= λ ds.
    asks 0 (nat_lt 0 (items_len ds) && nat_le (items_len ds) 16) (types_of ds)

-- the number of one of n processes
unfoldable pub process_of : ℕ → ℕ → Option Data → Result ProcId ReadFault
process_of place n found =
    or_shape place (whole_number found) >>= λ p. asks place (nat_lt p n) (Ok (record { 0 = p }))

-- the items of a member that may be left out
abbrev pub items_in : ℕ → Option Data → Result Items ReadFault
items_in place None = Ok no_items
items_in place (Some d) = or_shape place (as_array d)

-- the number of one of n processes, for each item
unfoldable pub process_numbers : ℕ → ℕ → Items → Result (List ProcId) ReadFault
process_numbers place n no_items = Ok []
process_numbers place n (item d ds) =
    process_of place n (Some d) >>= λ p. process_numbers place n ds >>= λ ps. Ok (p ∷ ps)

-- whether no process is there twice
abbrev pub all_differ : List ProcId → Bool
all_differ [] = true
all_differ (p ∷ ps) = list_all (λ q. not (q.0 == p.0)) ps && all_differ ps

-- whether the owner isn't among them
abbrev pub are_others : ProcId → List ProcId → Bool
are_others owner ps = list_all (λ p. not (p.0 == owner.0)) ps

-- the set of these processes
abbrev pub proc_set_of : List ProcId → ProcSet
proc_set_of [] = record { 0 = 0 }
proc_set_of (p ∷ ps) = with (proc_set_of ps) p.0

-- process numbers that differ from the owner and from each other
unfoldable pub also_of : ℕ → ℕ → ProcId → Items → Result ProcSet ReadFault
also_of place n owner ds =
    process_numbers place n ds >>= λ ps.
    asks place (are_others owner ps && all_differ ps) (Ok (proc_set_of ps))

unfoldable pub start_tab_of : ℕ → ℕ → Data → Result StartTab ReadFault
start_tab_of place n d =
    asks place (has_only (allows kinds.Tab) d)
    (process_of place n (get (codes "owner") d) >>= λ owner.
    items_in place (get (codes "also") d) >>= λ ds.
    also_of place n owner ds >>= λ also.
    Ok (record { owner = owner; also = also }))

unfoldable pub start_tabs_of : ℕ → ℕ → Items → Result (List StartTab) ReadFault
start_tabs_of place n no_items = Ok []
start_tabs_of place n (item d ds) =
    start_tab_of place n d >>= λ t. start_tabs_of (place + 1) n ds >>= λ ts. Ok (t ∷ ts)

-- ---- steps

-- the parent, or the number of a process
unfoldable pub actor_of : ℕ → ℕ → Option Data → Result Actor ReadFault
actor_of place n found =
    if is_text (codes "parent") found then Ok actors.Parent
    else (process_of place n found >>= λ p. Ok (actors.Process p))

-- the context that a member names
unfoldable pub context_at : ℕ → Option Data → Result ContextId ReadFault
context_at place found = or_shape place (option_and_then context_of (option_and_then as_str found))

-- the group that a member names
unfoldable pub group_at : ℕ → Option Data → Result GroupId ReadFault
group_at place found = or_shape place (option_and_then group_of (option_and_then as_str found))

-- the group that a member names, if it is there
unfoldable pub group_named : ℕ → Option Data → Result (Option GroupId) ReadFault
group_named place None = Ok None
group_named place (Some d) = group_at place (Some d) >>= λ g. Ok (Some g)

-- the value of a field, or a fault of shape where the field takes no such value
abbrev pub or_no_value : ℕ → Result Value ValueFault → Result Value ReadFault
or_no_value place (Ok v) = Ok v
or_no_value place (Err fault) = Err (Shape place)

-- the new value of a field, if it is named
abbrev pub change_of : ℕ → Field → Option Data → Result (Option Value) ReadFault
change_of place f None = Ok None
change_of place f (Some d) = or_no_value place (value_of (kind f) d) >>= λ v. Ok (Some v)

-- the new values of these fields
unfoldable pub changes_of : ℕ → List Field → Members → Result Changes ReadFault
changes_of place [] ms = Ok []
changes_of place (f ∷ fs) ms =
    change_of place f (get_member (name f) ms) >>= λ c. changes_of place fs ms >>= λ cs. Ok (c ∷ cs)

-- the new values of the fields, where each key is the name of one
abbrev pub named_changes : ℕ → Members → Result Changes ReadFault
named_changes place ms = asks place (all_named is_field_name ms) (changes_of place fields ms)

-- the field of a name, and its new value
abbrev pub named_change : ℕ → List ℕ → Data → Result (Field × Value) ReadFault
named_change place key d =
    or_shape place (field_of_name key) >>= λ f.
    or_no_value place (value_of (kind f) d) >>= λ v. Ok (f, v)

-- an object of one field at least, and its value
unfoldable pub transaction_of : ℕ → Option Data → Result Changes ReadFault
transaction_of place found =
    or_shape place (option_and_then as_object found) >>= λ ms.
    asks place (has_member ms) (named_changes place ms)

-- what one side does that writes fields
abbrev pub write_of : Actor → ContextId → Changes → Step
write_of actors.Parent x t = steps.ParentAct (parents.Set x t)
write_of (actors.Process p) x t = steps.Act p (own.Set x t)

-- fields that one side writes
unfoldable pub set_line : ℕ → ℕ → Data → Result Line ReadFault
set_line place n d =
    asks place (has_only (allows kinds.Set) d)
    (actor_of place n (get (codes "at") d) >>= λ who.
    context_at place (get (codes "context") d) >>= λ context.
    transaction_of place (get (codes "fields") d) >>= λ t. Ok (lines.Step (write_of who context t)))

-- a bundle that a process takes
unfoldable pub take_line : ℕ → ℕ → Data → Result Line ReadFault
take_line place n d =
    asks place (has_only (allows kinds.Take) d)
    (process_of place n (get (codes "at") d) >>= λ p. Ok (lines.Step (steps.Take p)))

-- a bundle of a process that the parent hears
unfoldable pub hear_line : ℕ → ℕ → Data → Result Line ReadFault
hear_line place n d =
    asks place (has_only (allows kinds.Hear) d)
    (asks place (is_text (codes "parent") (get (codes "at") d))
    (process_of place n (get (codes "from") d) >>= λ p. Ok (lines.Step (steps.Hear p))))

-- a frame that a process makes in a context
unfoldable pub frame_line : ℕ → ℕ → Data → Result Line ReadFault
frame_line place n d =
    asks place (has_only (allows kinds.OneContext) d)
    (process_of place n (get (codes "at") d) >>= λ p.
    context_at place (get (codes "context") d) >>= λ context.
    Ok (lines.Step (steps.Act p (own.Frame context))))

-- a context that a process drops
unfoldable pub drop_line : ℕ → ℕ → Data → Result Line ReadFault
drop_line place n d =
    asks place (has_only (allows kinds.OneContext) d)
    (process_of place n (get (codes "at") d) >>= λ p.
    context_at place (get (codes "context") d) >>= λ context.
    Ok (lines.Step (steps.Act p (own.Drop context))))

-- a context that the parent discards
unfoldable pub discard_line : ℕ → Data → Result Line ReadFault
discard_line place d =
    asks place (has_only (allows kinds.OneContext) d)
    (asks place (is_text (codes "parent") (get (codes "at") d))
    (context_at place (get (codes "context") d) >>= λ context.
    Ok (lines.Step (steps.ParentAct (parents.Discard context)))))

-- a tab that the parent opens
unfoldable pub tab_line : ℕ → ℕ → Data → Result Line ReadFault
tab_line place n d =
    asks place (has_only (allows kinds.OpenTab) d)
    (asks place (is_text (codes "parent") (get (codes "at") d))
    (process_of place n (get (codes "owner") d) >>= λ p.
    group_named place (get (codes "group") d) >>= λ g.
    Ok (lines.Step (steps.ParentAct (parents.Tab p g)))))

-- a process that the parent subscribes to a group
unfoldable pub subscribe_line : ℕ → ℕ → Data → Result Line ReadFault
subscribe_line place n d =
    asks place (has_only (allows kinds.Subscribe) d)
    (asks place (is_text (codes "parent") (get (codes "at") d))
    (process_of place n (get (codes "process") d) >>= λ p.
    group_at place (get (codes "group") d) >>= λ g.
    Ok (lines.Step (steps.ParentAct (parents.Subscribe p g)))))

-- a process that the parent ends
unfoldable pub kill_line : ℕ → ℕ → Data → Result Line ReadFault
kill_line place n d =
    asks place (has_only (allows kinds.Kill) d)
    (asks place (is_text (codes "parent") (get (codes "at") d))
    (process_of place n (get (codes "process") d) >>= λ p.
    Ok (lines.Step (steps.ParentAct (parents.Kill p)))))

-- fields of a context that a bundle writes
unfoldable pub commit_part : ℕ → Data → Result UpPart ReadFault
commit_part place d =
    asks place (has_only (allows kinds.CommitPart) d)
    (context_at place (get (codes "context") d) >>= λ context.
    transaction_of place (get (codes "fields") d) >>= λ t. Ok (ups.Commit context t))

-- a frame that a bundle makes
unfoldable pub create_part : ℕ → Data → Result UpPart ReadFault
create_part place d =
    asks place (has_only (allows kinds.CreatePart) d)
    (context_at place (get (codes "context") d) >>= λ context.
    context_at place (get (codes "parent") d) >>= λ above. Ok (ups.Create context above))

-- the one context that a part names
unfoldable pub context_part : ℕ → Data → Result ContextId ReadFault
context_part place d =
    asks place (has_only (allows kinds.ContextPart) d) (context_at place (get (codes "context") d))

-- a context that a bundle drops
unfoldable pub drop_part : ℕ → Data → Result UpPart ReadFault
drop_part place d = context_part place d >>= λ context. Ok (ups.Drop context)

-- a discard that a bundle acknowledges
unfoldable pub ack_part : ℕ → Data → Result UpPart ReadFault
ack_part place d = context_part place d >>= λ context. Ok (ups.DropAck context)

-- a part of a bundle, by its kind
unfoldable pub raw_part : ℕ → Data → Result UpPart ReadFault
raw_part place d =
    if is_text (codes "commit") (get (codes "part") d) then commit_part place d
    else (if is_text (codes "create") (get (codes "part") d) then create_part place d
    else (if is_text (codes "drop") (get (codes "part") d) then drop_part place d
    else (if is_text (codes "ack") (get (codes "part") d) then ack_part place d
    else Err (Shape place))))

unfoldable pub raw_parts : ℕ → Items → Result (List UpPart) ReadFault
raw_parts place no_items = Ok []
raw_parts place (item d ds) =
    raw_part place d >>= λ part. raw_parts place ds >>= λ parts. Ok (part ∷ parts)

-- 1 to 16 parts
unfoldable pub parts_of : ℕ → Option Data → Result (List UpPart) ReadFault
parts_of place found =
    or_shape place (option_and_then as_array found) >>= λ ds.
    asks place (nat_lt 0 (items_len ds) && nat_le (items_len ds) 16) (raw_parts place ds)

-- what a process sends with this epoch, when it has taken so many bundles
abbrev pub raw_of : ProcId → ℕ → ℕ → List UpPart → Step
raw_of p epoch seen parts =
    steps.Raw p (record { epoch = record { 0 = epoch }; seen = seen; parts = parts })

-- a bundle that a process sends, whatever it did
unfoldable pub raw_line : ℕ → ℕ → Data → Result Line ReadFault
raw_line place n d =
    asks place (has_only (allows kinds.Raw) d)
    (process_of place n (get (codes "at") d) >>= λ p.
    or_shape place (whole_number (get (codes "epoch") d)) >>= λ epoch.
    or_shape place (whole_number (get (codes "seen") d)) >>= λ seen.
    parts_of place (get (codes "parts") d) >>= λ parts.
    Ok (lines.Step (raw_of p epoch seen parts)))

-- all that waits, which is heard and taken
unfoldable pub settle_line : ℕ → Data → Result Line ReadFault
settle_line place d = asks place (has_only (allows kinds.Settle) d) (Ok lines.Settle)

unfoldable pub field_of : ℕ → Option Data → Result Field ReadFault
field_of place found = or_shape place (option_and_then field_of_name (option_and_then as_str found))

-- a field of a context that is shown, as one side has it
unfoldable pub show_one : ℕ → ℕ → Data → Result Line ReadFault
show_one place n d =
    asks place (has_only (allows kinds.ShowOne) d)
    (actor_of place n (get (codes "at") d) >>= λ who.
    context_at place (get (codes "context") d) >>= λ context.
    field_of place (get (codes "field") d) >>= λ f.
    Ok (lines.Show (shows.One who context f)))

-- a whole side that is shown
unfoldable pub show_side : ℕ → ℕ → Data → Result Line ReadFault
show_side place n d =
    actor_of place n (get (codes "at") d) >>= λ who. Ok (lines.Show (shows.Side who))

-- what is shown, by the members that are there: all, a side, or a field of a context
unfoldable pub show_line : ℕ → ℕ → Data → Result Line ReadFault
show_line place n d =
    if has_only (allows kinds.ShowAll) d then Ok (lines.Show shows.All)
    else (if has_only (allows kinds.ShowSide) d then show_side place n d else show_one place n d)

-- a step, by what it does
unfoldable pub line_of : ℕ → ℕ → Data → Result Line ReadFault
line_of place n d =
    if is_text (codes "set") (get (codes "do") d) then set_line place n d
    else (if is_text (codes "take") (get (codes "do") d) then take_line place n d
    else (if is_text (codes "hear") (get (codes "do") d) then hear_line place n d
    else (if is_text (codes "frame") (get (codes "do") d) then frame_line place n d
    else (if is_text (codes "drop") (get (codes "do") d) then drop_line place n d
    else (if is_text (codes "discard") (get (codes "do") d) then discard_line place d
    else (if is_text (codes "tab") (get (codes "do") d) then tab_line place n d
    else (if is_text (codes "subscribe") (get (codes "do") d) then subscribe_line place n d
    else (if is_text (codes "kill") (get (codes "do") d) then kill_line place n d
    else (if is_text (codes "raw") (get (codes "do") d) then raw_line place n d
    else (if is_text (codes "settle") (get (codes "do") d) then settle_line place d
    else (if is_text (codes "show") (get (codes "do") d) then show_line place n d
    else Err (Shape place))))))))))))

-- the steps from this place on, of which there are at most 20,000
unfoldable pub lines_of : ℕ → ℕ → Items → Result (List Line) ReadFault
lines_of place n no_items = Ok []
lines_of place n (item d ds) =
    asks 20001 (nat_le place 20000)
    (line_of place n d >>= λ l. lines_of (place + 1) n ds >>= λ ls. Ok (l ∷ ls))

-- ---- the whole

-- the scenario of these processes
abbrev pub with_types : List (List ℕ) → Items → Items → Result Scenario ReadFault
with_types types tabs steps =
    start_tabs_of 100001 (length types) tabs >>= λ tabs.
    lines_of 1 (length types) steps >>= λ lines.
    Ok (record { config = record { types = types; tabs = tabs }; lines = lines })

-- the scenario of a JSON value
unfoldable pub scenario_of : Data → Result Scenario ReadFault
scenario_of d =
    asks 0 (has_only (allows kinds.Top) d)
    (or_shape 0 (whole_number (get (codes "version") d)) >>= λ version.
    asks 0 (version == 1)
    (processes_of (get (codes "processes") d) >>= λ types.
    items_in 0 (get (codes "tabs") d) >>= λ tabs.
    asks 0 (nat_le (items_len tabs) 64)
    (or_shape 0 (option_and_then as_array (get (codes "steps") d)) >>= λ steps.
    with_types types tabs steps)))

-- the JSON value that the bytes read as
abbrev pub data_of : List ℕ → Option Data
data_of bytes = if is_utf8 bytes then read_text bytes else None

abbrev pub or_unread : Option Data → Result Data ReadFault
or_unread None = Err Unread
or_unread (Some d) = Ok d

-- what bytes read as
abbrev pub reading : List ℕ → Result Scenario ReadFault
reading bytes = or_unread (data_of bytes) >>= scenario_of
