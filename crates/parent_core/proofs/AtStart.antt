-- What the parent answers and keeps before any step.
use Rattle.std.proofs.Common.{◌≡◌, ◌≢◌, ℕ, zero, suc, ◌+◌, ◌-◌, ◌<◌, ◌≤◌, ◌==◌, nat_lt, Bool, true, false, ◌&&◌, ◌||◌, cond, if◌then◌else◌, Option, None, Some, List, [], ◌∷◌, length, map, filter, inl, inr, refl, sym, ap, ap₂, ◌∙◌, arith, eq-eqb, eqb-true}
use Rattle.std.specs.Prelude.{is_some, option_and_then, slice_get, slice_index_or}
use Rattle.std.specs.List.{list_any}
use Rattle.std.specs.Option.{option_map, option_map_or}
use Rattle.std.specs.FinMap.{get}
use Rattle.std.proofs.lemmas.Bool.{cases_eq, ne_eqb, lt-ltb, ltb-true, ltb-false}
use Rattle.std.proofs.lemmas.List.{length-map}
use Rattle.fission_ids.specs.declared.context.ContextId.{ContextId}
use Rattle.fission_ids.specs.declared.group.GroupId.{GroupId}
use Rattle.fission_ids.specs.Ids.{same_context}
use Rattle.field_table.specs.declared.field.Field.{Field}
use Rattle.field_table.specs.Field.{initial}
use Rattle.field_table.specs.Table.{value_in}
use Rattle.context_group.specs.declared.group.Group.{Group}
use Rattle.context_group.specs.Groups.{group_at, no_group, is_kept, AreSound}
use Rattle.context_store.specs.Content.{Content, Stored}
use Rattle.context_tree.specs.Node.{Node, is_in, parent_of}
use Rattle.context_tree.specs.Tree.{IsTree, contexts, is_held, is_under, node_of}
use Rattle.context_tree.proofs.Distinct.{held_among}
use Rattle.context_tree.proofs.Same.{both_hold, same_swapped}
use Rattle.wire_msgs.specs.Config.{ConfigFits}
use Rattle.wire_msgs.specs.declared.config.Config.{Config}
use Rattle.wire_msgs.specs.declared.config.StartTab.{StartTab}
use Rattle.protocol.specs.Questions.{option_any}
use Rattle.protocol.specs.ParentActs.{same_group}
use Rattle.protocol.specs.Start.{contexts_of, facts_at_start, is_live, nth_context, numbers, processes_of_tab, some_if, tab_of}
use Rattle.parent_core.specs.Membership.{group_of_tab, origin_of_tab}
use Rattle.parent_core.specs.Parent.{Kept, Counted, CountsTabs, HoldsAll, IsInRange, counted_of, facts_of, origin_of, is_known, group_in, above_in, owner_in, is_of_group, count_in}
use Rattle.parent_core.specs.declared.origin.Origin.{Origin}
use Rattle.parent_core.proofs.Committed.{is_serial, among_live}
use Rattle.parent_core.proofs.Facts.{same_contexts, same_facts, same_groups, same_processes}
use Rattle.parent_core.proofs.Lists.{filter_agree}
use Rattle.parent_core.proofs.Made.{first_stored, first_value}
use Rattle.parent_core.proofs.Tabs.{top_node}

-- ---- how often a number stands among those in a row

-- whether the context has this number
abbrev has_serial : ℕ → ContextId → Bool
has_serial s y = s == y.serial

abbrev times : ℕ → ℕ → ℕ → ℕ
times s k n = length (filter (has_serial s) (map nth_context (numbers k n)))

times_past : (s k n : ℕ) → s < k → times s k n ≡ 0
times_past s k zero lt = refl
times_past s k (suc n) lt =
    let apart : s ≢ k = λ e. omega (arith, e, lt) in
    ap (λ b. length (cond b (nth_context k ∷ filter (has_serial s) (map nth_context (numbers (suc k) n))) (filter (has_serial s) (map nth_context (numbers (suc k) n))))) (ne_eqb s k apart)
    ∙ times_past s (suc k) n (omega (arith, lt))

times_beyond : (s k n : ℕ) → k + n ≤ s → times s k n ≡ 0
times_beyond s k zero le = refl
times_beyond s k (suc n) le =
    let apart : s ≢ k = λ e. omega (arith, e, le) in
    ap (λ b. length (cond b (nth_context k ∷ filter (has_serial s) (map nth_context (numbers (suc k) n))) (filter (has_serial s) (map nth_context (numbers (suc k) n))))) (ne_eqb s k apart)
    ∙ times_beyond s (suc k) n (omega (arith, le))

times_once : (s k n : ℕ) → k ≤ s → s < k + n → times s k n ≡ 1
times_once s k zero from below = absurd (omega (arith, from, below))
times_once s k (suc n) from below = elim (cases_eq s k) [
  | inl e ↦
      let next : s < suc k = omega (arith, e) in
      let rest : times s (suc k) n ≡ 0 = times_past s (suc k) n next in
      let one : suc (times s (suc k) n) ≡ 1 = ap suc rest in
      ap (λ b. length (cond b (nth_context k ∷ filter (has_serial s) (map nth_context (numbers (suc k) n))) (filter (has_serial s) (map nth_context (numbers (suc k) n))))) (eq-eqb s k e) ∙ one
  | inr ne ↦
      ap (λ b. length (cond b (nth_context k ∷ filter (has_serial s) (map nth_context (numbers (suc k) n))) (filter (has_serial s) (map nth_context (numbers (suc k) n))))) (ne_eqb s k ne)
      ∙ times_once s (suc k) n (omega (arith, from, ne)) (omega (arith, below))
]

one_if_serial : (n s : ℕ) → times s 1 n ≡ (if is_serial n s then 1 else 0)
one_if_serial n s = by (nat_lt 0 s) refl (nat_lt (s - 1) n) refl
  where
    by : (b : Bool) → nat_lt 0 s ≡ b → (c : Bool) → nat_lt (s - 1) n ≡ c → times s 1 n ≡ (if (if b then c else false) then 1 else 0)
    by true from true below = let f : 0 < s = ltb-true 0 s from in let l : s - 1 < n = ltb-true (s - 1) n below in times_once s 1 n (omega (arith, f)) (omega (arith, f, l))
    by true from false past = let f : 0 < s = ltb-true 0 s from in let l : n ≤ s - 1 = ltb-false (s - 1) n past in times_beyond s 1 n (omega (arith, f, l))
    by false none c e = let f : s ≤ 0 = ltb-false 0 s none in times_past s 1 n (omega (arith, f))

-- ---- the groups of the tabs

-- the group of a number is that of the tab with it
group_of_number : (tabs : List StartTab) (g : GroupId) → group_at g (map group_of_tab tabs) ≡ option_map_or group_of_tab (tab_of tabs (nth_context g.0)) no_group
group_of_number tabs g = by g.0
  where
    in_list : (ts : List StartTab) (i : ℕ) → slice_index_or (map group_of_tab ts) i no_group ≡ option_map_or group_of_tab (slice_get ts i) no_group
    in_list [] i = refl
    in_list (t ∷ ts) zero = refl
    in_list (t ∷ ts) (suc i) = in_list ts i

    by : (n : ℕ) → slice_index_or (no_group ∷ map group_of_tab tabs) n no_group ≡ option_map_or group_of_tab (tab_of tabs (nth_context n)) no_group
    by zero = refl
    by (suc n) =
        let some : 0 < suc n = omega arith in
        let less : suc n - 1 ≡ n = omega arith in
        in_list tabs n ∙ sym (ap (λ b. option_map_or group_of_tab (if b then slice_get tabs (suc n - 1) else None) no_group) (lt-ltb 0 (suc n) some) ∙ ap (λ m. option_map_or group_of_tab (slice_get tabs m) no_group) less)

module _ (config : Config) (fits : ConfigFits config) (nodes : List Node) (found : (x : ContextId) → node_of x nodes ≡ some_if (is_live config.tabs x) (top_node x))
    (order : contexts nodes ≡ contexts_of config.tabs) (stored : Content) (added : (x : ContextId) → get stored x ≡ some_if (is_live config.tabs x) first_stored)
    (origins : List (ContextId × Origin)) (fixed : (x : ContextId) → origin_of x origins ≡ option_map (origin_of_tab x) (tab_of config.tabs x))
    (gs : List Group) (begun : gs ≡ map group_of_tab config.tabs) (processes : List Counted) where
  abbrev kept : Kept
  kept = record { config = config; nodes = nodes; contexts = stored; origins = origins; groups = gs; processes = processes; ends = []; tabs = length config.tabs }

  is_some_if : {A : Type 0} (b : Bool) (a : A) → is_some (some_if b a) ≡ b
  is_some_if true a = refl
  is_some_if false a = refl

  held : (x : ContextId) → is_held x nodes ≡ is_live config.tabs x
  held x = ap is_some (found x) ∙ is_some_if (is_live config.tabs x) (top_node x)

  known : (x : ContextId) → is_known x origins ≡ is_live config.tabs x
  known x = ap is_some (fixed x) ∙ by (tab_of config.tabs x)
    where
      by : (o : Option StartTab) → is_some (option_map (origin_of_tab x) o) ≡ is_some o
      by None = refl
      by (Some t) = refl

  group : (x : ContextId) → group_in x origins ≡ option_map (λ (t : StartTab). record { 0 = x.serial }) (tab_of config.tabs x)
  group x = ap (option_map (λ (r : Origin). r.group)) (fixed x) ∙ by (tab_of config.tabs x)
    where
      by : (o : Option StartTab) → option_map (λ (r : Origin). r.group) (option_map (origin_of_tab x) o) ≡ option_map (λ (t : StartTab). record { 0 = x.serial }) o
      by None = refl
      by (Some t) = refl

  above : (x : ContextId) → above_in x origins ≡ None
  above x = ap (option_and_then (λ (r : Origin). r.parent)) (fixed x) ∙ by (tab_of config.tabs x)
    where
      by : (o : Option StartTab) → option_and_then (λ (r : Origin). r.parent) (option_map (origin_of_tab x) o) ≡ None
      by None = refl
      by (Some t) = refl

  under : (x y : ContextId) → is_under x y nodes ≡ (is_live config.tabs x && same_context x y)
  under x y = ap (λ (o : Option Node). option_map_or (is_in y) o false) (found x) ∙ by (is_live config.tabs x)
    where
      or_false : (b : Bool) → (b || false) ≡ b
      or_false true = refl
      or_false false = refl

      by : (b : Bool) → option_map_or (is_in y) (some_if b (top_node x)) false ≡ (b && same_context x y)
      by true = or_false (same_context y x) ∙ same_swapped y x
      by false = refl

  owned : (x : ContextId) → (if is_held x nodes then owner_in x origins else None) ≡ option_map (λ (t : StartTab). t.owner.0) (tab_of config.tabs x)
  owned x = ap₂ (λ b (o : Option Origin). if b then option_map (λ (r : Origin). r.owner.0) o else None) (held x) (fixed x) ∙ by (tab_of config.tabs x)
    where
      by : (o : Option StartTab) → (if is_some o then option_map (λ (r : Origin). r.owner.0) (option_map (origin_of_tab x) o) else None) ≡ option_map (λ (t : StartTab). t.owner.0) o
      by None = refl
      by (Some t) = refl

  value : (x : ContextId) (fld : Field) → option_map (λ (s : Stored). value_in s.fields fld) (get stored x) ≡ some_if (is_live config.tabs x) (initial fld)
  value x fld = ap (option_map (λ (s : Stored). value_in s.fields fld)) (added x) ∙ by (is_live config.tabs x)
    where
      by : (b : Bool) → option_map (λ (s : Stored). value_in s.fields fld) (some_if b first_stored) ≡ some_if b (initial fld)
      by true = ap Some (first_value fld)
      by false = refl

  at_number : (g : GroupId) → group_at g gs ≡ option_map_or group_of_tab (tab_of config.tabs (nth_context g.0)) no_group
  at_number g = ap (group_at g) begun ∙ group_of_number config.tabs g

  group_kept : (g : GroupId) → is_kept g gs ≡ is_live config.tabs (nth_context g.0)
  group_kept g = ap (λ (v : Group). v.is_kept) (at_number g) ∙ by (tab_of config.tabs (nth_context g.0))
    where
      by : (o : Option StartTab) → (option_map_or group_of_tab o no_group).is_kept ≡ is_some o
      by None = refl
      by (Some t) = refl

  subscribers : (g : GroupId) → (group_at g gs).subscribers ≡ option_map_or processes_of_tab (tab_of config.tabs (nth_context g.0)) (record { 0 = 0 })
  subscribers g = ap (λ (v : Group). v.subscribers) (at_number g) ∙ by (tab_of config.tabs (nth_context g.0))
    where
      by : (o : Option StartTab) → (option_map_or group_of_tab o no_group).subscribers ≡ option_map_or processes_of_tab o (record { 0 = 0 })
      by None = refl
      by (Some t) = refl

  awaited : (g : GroupId) → (group_at g gs).awaited ≡ []
  awaited g = ap (λ (v : Group). v.awaited) (at_number g) ∙ by (tab_of config.tabs (nth_context g.0))
    where
      by : (o : Option StartTab) → (option_map_or group_of_tab o no_group).awaited ≡ []
      by None = refl
      by (Some t) = refl

  pub facts_started : ((p : ℕ) → counted_of p processes ≡ record { heard = 0; sent = 0 }) → facts_of kept ≡ facts_at_start config.tabs
  facts_started counts = same_facts (facts_of kept) (facts_at_start config.tabs)
      (same_contexts _ _ (record {
        known = known;
        group = group;
        above = above;
        live = held;
        under = under;
        owner = owned;
        value = value;
        order = order;
      }))
      (same_groups _ _ (record {
        made = ap length begun ∙ length-map config.tabs group_of_tab;
        kept = group_kept;
        subscribers = subscribers;
        awaited = awaited;
      }))
      (same_processes _ _ (record {
        ended = λ p. refl;
        commits_heard = λ p. ap (λ (c : Counted). c.heard) (counts p);
        bundles_sent = λ p. ap (λ (c : Counted). c.sent) (counts p);
        last_load = λ p x. refl;
      }))
      refl

  -- ---- what holds

  numbered : (x : ContextId) → is_known x origins ≡ true → (x.creator ≡ 0) × ((1 ≤ x.serial) × (x.serial ≤ length config.tabs))
  numbered x e =
      let n : ℕ = length config.tabs in
      let among : (x.creator == 0 && is_serial n x.serial) ≡ true = among_live config.tabs x ∙ sym (known x) ∙ e in
      let parts : ((x.creator == 0) ≡ true) × (is_serial n x.serial ≡ true) = both_hold (x.creator == 0) (is_serial n x.serial) among in
      let creator : x.creator ≡ 0 = eqb-true x.creator 0 parts.0 in
      (creator, by (nat_lt 0 x.serial) refl (nat_lt (x.serial - 1) n) refl parts.1)
    where
      by : (b : Bool) → nat_lt 0 x.serial ≡ b → (c : Bool) → nat_lt (x.serial - 1) (length config.tabs) ≡ c → (if b then c else false) ≡ true → (1 ≤ x.serial) × (x.serial ≤ length config.tabs)
      by true from true below e = let f : 0 < x.serial = ltb-true 0 x.serial from in let l : x.serial - 1 < length config.tabs = ltb-true (x.serial - 1) (length config.tabs) below in (omega (arith, f), omega (arith, f, l))
      by true from false below e = absurd (cc)
      by false from c below e = absurd (cc)

  range : (x : ContextId) → is_known x origins ≡ true → IsInRange x
  range x e =
      let few : length config.tabs ≤ 64 = fits.few_tabs in
      let number : (x.creator ≡ 0) × ((1 ≤ x.serial) × (x.serial ≤ length config.tabs)) = numbered x e in
      record { creator = omega (arith, number.0); from = number.1.0; to = omega (arith, number.1.1, few) }

  tabs_counted : CountsTabs (length config.tabs) origins
  tabs_counted = record {
    most = omega (arith, fits.few_tabs);
    numbered = λ x e own. (numbered x e).1.1;
    tops = λ x e top. (numbered x e).0;
  }

  -- a live context is of the group with its number
  of_number : (g : GroupId) (y : ContextId) → list_any (same_context y) (contexts nodes) ≡ true → is_of_group g origins y ≡ has_serial g.0 y
  of_number g y among = ap (option_any (same_group g)) (group y) ∙ by (tab_of config.tabs y) (sym (held y) ∙ held_among y nodes ∙ among)
    where
      by : (o : Option StartTab) → is_some o ≡ true → option_any (same_group g) (option_map (λ (t : StartTab). record { 0 = y.serial }) o) ≡ (g.0 == y.serial)
      by None e = absurd (cc)
      by (Some t) e = refl

  counted : (g : GroupId) → (group_at g gs).live ≡ count_in g origins (contexts nodes)
  counted g =
      ap (λ (v : Group). v.live) (at_number g)
      ∙ by (tab_of config.tabs (nth_context g.0))
      ∙ ap (λ b. if b then 1 else 0) (sym (among_live config.tabs (nth_context g.0)))
      ∙ sym (one_if_serial (length config.tabs) g.0)
      ∙ ap (λ (l : List ContextId). length (filter (has_serial g.0) l)) (sym order)
      ∙ ap length (sym (filter_agree (is_of_group g origins) (has_serial g.0) (contexts nodes) (of_number g)))
    where
      by : (o : Option StartTab) → (option_map_or group_of_tab o no_group).live ≡ (if is_some o then 1 else 0)
      by None = refl
      by (Some t) = refl

  pub holds_started : IsTree nodes → AreSound gs → length processes ≡ length config.types → HoldsAll kept
  holds_started tree sound len = record {
    config = fits;
    tree = tree;
    sound = sound;
    stored = λ x. ap is_some (added x) ∙ is_some_if (is_live config.tabs x) first_stored ∙ sym (held x);
    known = λ x live. known x ∙ sym (held x) ∙ live;
    above = λ x live. ap (option_and_then parent_of) (found x) ∙ at_top x (is_live config.tabs x) ∙ sym (above x);
    inside = λ x a e. absurd (none_above a (sym (above x) ∙ e));
    range = range;
    live = counted;
    processes = len;
    ends = tt;
    tabs = tabs_counted;
  }
    where
      at_top : (x : ContextId) (b : Bool) → option_and_then parent_of (some_if b (top_node x)) ≡ None
      at_top x true = refl
      at_top x false = refl

      none_above : (a : ContextId) → ◌≡◌ {A = Option ContextId} None (Some a) → ⊥
      none_above a e = cc
