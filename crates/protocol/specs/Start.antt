-- What is answered before any step: each tab of the start has a group and a top-level context, which the
-- tab's owner and its `also` hold.
use Rattle.std.specs.Prelude.{ℕ, zero, suc, ◌-◌, ◌==◌, nat_lt, Bool, true, false, ◌&&◌, if◌then◌else◌}
use Rattle.std.specs.Prelude.{List, [], ◌∷◌, length, map, filter, slice_get, Option, None, Some, is_some}
use Rattle.std.specs.Option.{option_map, option_map_or}
use Rattle.fission_ids.specs.declared.context.ContextId.{ContextId}
use Rattle.fission_ids.specs.declared.group.GroupId.{GroupId}
use Rattle.fission_ids.specs.declared.process.ProcSet.{ProcSet}
use Rattle.fission_ids.specs.Ids.{same_context}
use Rattle.fission_ids.specs.ProcSet.{has, with}
use Rattle.field_table.specs.Field.{initial}
use Rattle.wire_msgs.specs.declared.config.StartTab.{StartTab}
use Rattle.protocol.specs.Questions.{Facts}
use Rattle.protocol.specs.Seen.{Seen}

-- ---- the tabs of the start

-- the context of the n-th tab, from 1 on
abbrev pub nth_context : ℕ → ContextId
nth_context n = record { creator = 0; serial = n }

-- n numbers from k on
abbrev pub numbers : ℕ → ℕ → List ℕ
numbers k zero = []
numbers k (suc n) = k ∷ numbers (suc k) n

-- the contexts of the tabs
abbrev pub contexts_of : List StartTab → List ContextId
contexts_of tabs = map nth_context (numbers 1 (length tabs))

-- the tab of a context, if there is one
abbrev pub tab_of : List StartTab → ContextId → Option StartTab
tab_of tabs x = if x.creator == 0 && nat_lt 0 x.serial then slice_get tabs (x.serial - 1) else None

-- whether the context is there
abbrev pub is_live : List StartTab → ContextId → Bool
is_live tabs x = is_some (tab_of tabs x)

-- the group of a tab's context
abbrev pub group_of : List StartTab → ContextId → Option GroupId
group_of tabs x = option_map (λ tab. record { 0 = x.serial }) (tab_of tabs x)

-- the processes that have a tab: its owner, and those of its `also`
abbrev pub processes_of_tab : StartTab → ProcSet
processes_of_tab tab = with tab.also tab.owner.0

-- whether process p has the tab
abbrev pub is_of_tab : ℕ → Option StartTab → Bool
is_of_tab p tab = option_map_or (λ t. has (processes_of_tab t) p) tab false

-- whether process p holds the context from the start
abbrev pub is_held_at_start : List StartTab → ℕ → ContextId → Bool
is_held_at_start tabs p x = is_of_tab p (tab_of tabs x)

-- a value where a test holds
abbrev pub some_if : {X : Type 0} → Bool → X → Option X
some_if test x = if test then Some x else None

-- ---- the answers

-- those of the parent
abbrev pub facts_at_start : List StartTab → Facts
facts_at_start tabs = record {
  contexts = record {
    known = is_live tabs;
    group = group_of tabs;
    above = λ x. None;
    live = is_live tabs;
    under = λ x y. is_live tabs x && same_context x y;
    owner = λ x. option_map (λ tab. tab.owner.0) (tab_of tabs x);
    value = λ x fld. some_if (is_live tabs x) (initial fld);
    order = contexts_of tabs;
  };
  groups = record {
    made = length tabs;
    kept = λ g. is_live tabs (nth_context g.0);
    subscribers = λ g. option_map_or processes_of_tab (tab_of tabs (nth_context g.0)) (record { 0 = 0 });
    awaited = λ g. [];
  };
  processes = record {
    ended = λ p. None;
    commits_heard = λ p. 0;
    bundles_sent = λ p. 0;
    last_load = λ p x. 0;
  };
  tabs_made = length tabs;
}

-- those of process p
abbrev pub seen_at_start : List StartTab → ℕ → Seen
seen_at_start tabs p = record {
  running = true;
  commits = 0;
  taken = 0;
  frames_made = 0;
  holds = is_held_at_start tabs p;
  group = λ x. if is_held_at_start tabs p x then group_of tabs x else None;
  above = λ x. None;
  under = λ x y. is_held_at_start tabs p x && same_context x y;
  owns = λ x. option_map_or (λ tab. tab.owner.0 == p) (tab_of tabs x) false;
  value = λ x fld. some_if (is_held_at_start tabs p x) (initial fld);
  newest = λ x fld. 0;
  order = filter (is_held_at_start tabs p) (contexts_of tabs);
}
