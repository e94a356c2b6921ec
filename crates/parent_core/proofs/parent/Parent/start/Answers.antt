use Rattle.std.proofs.Common.{ℕ, List, ap, ap₂, subst, sym, ◌∙◌, length, map}
use Rattle.std.specs.List.{AllByRecursion}
use Rattle.std.specs.Option.{option_map}
use Rattle.wire_msgs.specs.Config.{ConfigFits, TabFits}
use Rattle.wire_msgs.specs.declared.config.Config.{Config}
use Rattle.wire_msgs.specs.declared.config.StartTab.{StartTab}
use Rattle.protocol.specs.Start.{contexts_of, facts_at_start, is_live, some_if, tab_of}
use Rattle.parent_core.specs.Membership.{group_of_tab, origin_of_tab}
use Rattle.parent_core.specs.Parent.{End, HoldsAll, Kept, facts_of}
use Rattle.parent_core.proofs.AtStart.{facts_started, holds_started}
use Rattle.parent_core.proofs.Made.{first_stored}
use Rattle.parent_core.proofs.Tabs.{fit_all, top_node}
use Rattle.parent_core.proofs.parent.Parent.start.Goals as goal

pub groups_of-requires-clause-fit : goal.groups_of-requires-clause-fit
groups_of-requires-clause-fit c =
    subst (AllByRecursion (TabFits 16)) (sym (c.as_slice-tabs.ensures ∙ ap (λ (k : Config). k.tabs) c.in_ok-config.ensures))
    (fit_all (length c.args.config.now.types) c.args.config.now.tabs c.requires.few c.requires.tabs)

pub invariant_of-result : goal.invariant_of-result
invariant_of-result c =
    let with_ends : List End → ℕ → Kept = λ es n. record {
      config = c.in_ok-config.config;
      nodes = c.in_ok-tree.tree;
      contexts = c.in_ok-contexts.contexts;
      origins = c.in_ok-known.known.entries;
      groups = c.in_ok-groups.groups;
      processes = c.in_ok-processes.processes.items;
      ends = es;
      tabs = n;
    } in
    subst (λ (n : ℕ). HoldsAll (with_ends c.new.result.items n)) (sym (ap (λ (ts : List StartTab). length ts) c.as_slice-tabs.ensures))
    (subst (λ (es : List End). HoldsAll (with_ends es (length c.in_ok-config.config.tabs))) (sym c.new.ensures.items)
    (holds_started c.in_ok-config.config (subst ConfigFits (sym c.in_ok-config.ensures) c.requires) c.in_ok-tree.tree
    (λ x. c.in_ok-tree.ensures.found x ∙ ap (λ (ts : List StartTab). some_if (is_live ts x) (top_node x)) c.as_slice-tabs.ensures)
    (c.in_ok-tree.ensures.order ∙ ap contexts_of c.as_slice-tabs.ensures)
    c.in_ok-contexts.contexts (λ x. c.in_ok-contexts.ensures x ∙ ap (λ (ts : List StartTab). some_if (is_live ts x) first_stored) c.as_slice-tabs.ensures)
    c.in_ok-known.known.entries (λ x. c.in_ok-known.ensures x ∙ ap (λ (ts : List StartTab). option_map (origin_of_tab x) (tab_of ts x)) c.as_slice-tabs.ensures)
    c.in_ok-groups.groups (c.in_ok-groups.ensures.groups ∙ ap (map group_of_tab) c.as_slice-tabs.ensures)
    c.in_ok-processes.processes.items
    c.in_ok-tree.ensures.tree c.in_ok-groups.ensures.sound (c.in_ok-processes.ensures.len ∙ c.len.ensures)))

pub returns-clause-facts : goal.returns-clause-facts
returns-clause-facts c =
    let with_ends : List End → ℕ → Kept = λ es n. record {
      config = c.in_ok-config.config;
      nodes = c.in_ok-tree.tree;
      contexts = c.in_ok-contexts.contexts;
      origins = c.in_ok-known.known.entries;
      groups = c.in_ok-groups.groups;
      processes = c.in_ok-processes.processes.items;
      ends = es;
      tabs = n;
    } in
    ap₂ (λ (es : List End) (n : ℕ). facts_of (with_ends es n)) c.new.ensures.items (ap (λ (ts : List StartTab). length ts) c.as_slice-tabs.ensures)
    ∙ facts_started c.in_ok-config.config (subst ConfigFits (sym c.in_ok-config.ensures) c.requires) c.in_ok-tree.tree
    (λ x. c.in_ok-tree.ensures.found x ∙ ap (λ (ts : List StartTab). some_if (is_live ts x) (top_node x)) c.as_slice-tabs.ensures)
    (c.in_ok-tree.ensures.order ∙ ap contexts_of c.as_slice-tabs.ensures)
    c.in_ok-contexts.contexts (λ x. c.in_ok-contexts.ensures x ∙ ap (λ (ts : List StartTab). some_if (is_live ts x) first_stored) c.as_slice-tabs.ensures)
    c.in_ok-known.known.entries (λ x. c.in_ok-known.ensures x ∙ ap (λ (ts : List StartTab). option_map (origin_of_tab x) (tab_of ts x)) c.as_slice-tabs.ensures)
    c.in_ok-groups.groups (c.in_ok-groups.ensures.groups ∙ ap (map group_of_tab) c.as_slice-tabs.ensures)
    c.in_ok-processes.processes.items
    c.in_ok-processes.ensures.counts
    ∙ ap (λ (k : Config). facts_at_start k.tabs) c.in_ok-config.ensures
