-- What a saying does to all answers of the parent at once.
use Rattle.std.specs.Prelude.{ℕ, ◌+◌, ◌==◌, Bool, true, false}
use Rattle.std.specs.Prelude.{not, ◌&&◌, ◌||◌, if◌then◌else◌, filter, insert, length}
use Rattle.std.specs.Prelude.{Option, None, Some}
use Rattle.std.specs.List.{list_any, position_or_len}
use Rattle.fission_ids.specs.declared.context.ContextId.{ContextId}
use Rattle.fission_ids.specs.declared.group.GroupId.{GroupId}
use Rattle.fission_ids.specs.Ids.{same_context}
use Rattle.field_table.specs.Field.{initial}
use Rattle.transaction.specs.Transaction.{new_value}
use Rattle.fission_ids.specs.declared.process.ProcSet.{ProcSet}
use Rattle.fission_ids.specs.ProcSet.{with}
use Rattle.std.specs.Prelude.{nat_lt}
use Rattle.std.specs.Option.{option_map_or}
use Rattle.context_group.specs.Sets.{set_without}
use Rattle.context_group.specs.Acks.{acks_with, acks_without, is_due, is_of, is_owed_by}
use Rattle.protocol.specs.Fold.{or_later}
use Rattle.protocol.specs.Questions.{Facts, Contexts, option_any, is_subscribed, is_told}
use Rattle.protocol.specs.ParentActs.{same_group}
use Rattle.protocol.specs.Sayings.{Saying}
use Rattle.protocol.specs.Sayings.Saying.{Opened, Made, BornDead, Removed, Wrote}
use Rattle.protocol.specs.Sayings.Saying.{Acked, Subscribed, Counted, Sent, Ended}

-- ---- contexts

-- a context was made, in a group, in another or top-level
abbrev pub with_known : ContextId → Option GroupId → Option ContextId → Contexts → Contexts
with_known x g above c = record c {
  known = λ y. if same_context y x then true else c.known y;
  group = λ y. if same_context y x then g else c.group y;
  above = λ y. if same_context y x then above else c.above y;
}

-- and is live, with initial fields
abbrev pub with_live : ContextId → Option ContextId → ℕ → ℕ → Contexts → Contexts
with_live x above owner place c = record c {
  live = λ y. if same_context y x then true else c.live y;
  under = λ y z.
      if same_context y x then same_context y z || option_any (λ a. c.under a z) above else c.under y z;
  owner = λ y. if same_context y x then Some owner else c.owner y;
  value = λ y fld. if same_context y x then Some (initial fld) else c.value y fld;
  order = insert c.order place x;
}

-- x and all below it are discarded
abbrev pub without_context : ContextId → Contexts → Contexts
without_context x c = record c {
  live = λ y. if c.under y x then false else c.live y;
  under = λ y z. if c.under y x then false else c.under y z;
  owner = λ y. if c.under y x then None else c.owner y;
  value = λ y fld. if c.under y x then None else c.value y fld;
  order = filter (λ y. not (c.under y x)) c.order;
}

-- behind all that is in a context
abbrev pub last_place_in : ContextId → Contexts → ℕ
last_place_in x c = position_or_len (same_context x) c.order + length (filter (λ y. c.under y x) c.order)

-- ---- groups

-- whether a group has a live context, or an acknowledgement is awaited in it
abbrev pub is_needed : Facts → GroupId → Bool
is_needed f g =
    list_any (λ x. option_any (same_group g) (f.contexts.group x)) f.contexts.order
    || nat_lt 0 (length (f.groups.awaited g))

-- a group that isn't needed is kept no longer, if it is one of those that were changed
abbrev pub kept_if_needed : (GroupId → Bool) → Facts → Facts
kept_if_needed is_changed f = record f {
  groups = record f.groups { kept = λ g. f.groups.kept g && (not (is_changed g) || is_needed f g) };
}

-- the processes of a set owe the acknowledgement of a context, if its group is kept
abbrev pub with_awaited : ProcSet → ContextId → Facts → Facts
with_awaited who x f = record f {
  groups = record f.groups {
    awaited = λ g.
        if option_any (same_group g) (f.contexts.group x) && f.groups.kept g
        then acks_with who x (f.groups.awaited g) else f.groups.awaited g;
  };
}

-- those who are told of a context's end: every subscriber, but perhaps one
abbrev pub subscribers_told : Facts → ContextId → Option ℕ → ProcSet
subscribers_told f x but =
    let all = option_map_or f.groups.subscribers (f.contexts.group x) (record { 0 = 0 }) in
    option_map_or (λ p. set_without p all) but all

-- one process, if a test holds
abbrev pub one_if : Bool → ℕ → ProcSet
one_if test p = if test then with (record { 0 = 0 }) p else record { 0 = 0 }

abbrev pub is_group_of : Facts → ContextId → GroupId → Bool
is_group_of f x g = option_any (same_group g) (f.contexts.group x)

-- one context less is live, with all below it
abbrev pub without_removed : ContextId → Facts → Facts
without_removed x f = record f { contexts = without_context x f.contexts }

-- a count, one higher if a test holds
abbrev pub raised : Bool → ℕ → ℕ
raised test n = if test then n + 1 else n

-- ---- all sayings

unfoldable pub facts_after : Saying → Facts → Facts
facts_after (Opened x g is_new owner) f = record f {
  contexts = with_live x None owner (length f.contexts.order) (with_known x (Some g) None f.contexts);
  groups = if is_new then record f.groups {
    made = f.groups.made + 1;
    kept = λ h. if same_group g h then true else f.groups.kept h;
  } else f.groups;
  tabs_made = f.tabs_made + 1;
}
facts_after (Made p x above) f = record f {
  contexts = with_live x (Some above) p (last_place_in above f.contexts)
      (with_known x (f.contexts.group above) (Some above) f.contexts);
}
facts_after (BornDead p x above) f =
    let known = record f { contexts = with_known x (f.contexts.group above) (Some above) f.contexts } in
    with_awaited (one_if (is_told known p x) p) x known
facts_after (Removed x but) f =
    kept_if_needed (is_group_of f x) (without_removed x (with_awaited (subscribers_told f x but) x f))
facts_after (Wrote x t) f = record f {
  contexts = record f.contexts {
    value = λ y fld.
        if same_context y x then or_later (new_value t fld) (f.contexts.value y fld)
        else f.contexts.value y fld;
  };
}
facts_after (Acked p x) f = kept_if_needed (λ g. list_any (is_due p x) (f.groups.awaited g)) (record f {
  groups = record f.groups { awaited = λ g. acks_without p (is_of x) (f.groups.awaited g) };
})
facts_after (Subscribed p g) f = record f {
  groups = record f.groups {
    subscribers = λ h. if same_group g h then with (f.groups.subscribers h) p else f.groups.subscribers h;
  };
}
facts_after (Counted p) f = record f {
  processes = record f.processes { commits_heard = λ q. raised (q == p) (f.processes.commits_heard q) };
}
facts_after (Sent p) f = record f {
  processes = record f.processes { bundles_sent = λ q. raised (q == p) (f.processes.bundles_sent q) };
}
facts_after (Ended p cause) f =
    kept_if_needed (λ g. is_subscribed f p g || list_any (is_owed_by p) (f.groups.awaited g)) (record f {
      contexts = record f.contexts {
        owner = λ x. if option_any (λ q. q == p) (f.contexts.owner x) then None else f.contexts.owner x;
      };
      groups = record f.groups {
        subscribers = λ g. set_without p (f.groups.subscribers g);
        awaited = λ g. acks_without p (λ a. true) (f.groups.awaited g);
      };
      processes = record f.processes { ended = λ q. if q == p then Some cause else f.processes.ended q };
    })
