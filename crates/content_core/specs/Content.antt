-- What a process keeps, and what it answers by it.
use Rattle.std.specs.Prelude.{◌≡◌, refl, ℕ, ◌+◌, ◌<◌, ◌≤◌, Bool, true, false, List, length, Option, is_some}
use Rattle.std.specs.Prelude.{IfSome}
use Rattle.std.specs.Coded.{Coded, code_by, coded_ℕ, coded_bool, coded×, coded_list}
use Rattle.std.specs.FinMap.{get}
use Rattle.std.specs.Map.{lookup}
use Rattle.std.specs.Option.{option_map, option_map_or}
use Rattle.fission_ids.specs.declared.context.ContextId.{ContextId}
use Rattle.fission_ids.specs.contracts.context.ContextId as context
use Rattle.fission_ids.specs.Ids.{same_context}
use Rattle.field_table.specs.Field.{fields}
use Rattle.field_table.specs.Table.{value_in}
use Rattle.epochs.specs.FieldEpochs.{epoch_of}
use Rattle.context_store.specs.Content.{Content, content_code, is_there}
use Rattle.context_tree.specs.Node.{Node, node_code}
use Rattle.context_tree.specs.Tree.{IsTree, contexts, is_held, parent_in, is_under}
use Rattle.protocol.specs.Seen.{Seen}
use Rattle.content_core.specs.declared.hold.Hold.{Hold}
use Rattle.content_core.specs.contracts.hold.Hold as hold

-- how contexts are held
abbrev pub Holds : Type 0
Holds = List (ContextId × Hold)

-- how a context is held, if it is
abbrev pub hold_of : ContextId → Holds → Option Hold
hold_of x holds = lookup (same_context x) holds

-- its number, the tree of the contexts that it holds, their fields and field epochs, how it holds each, how
-- many commits it made, bundles it took and frames it made, and whether it runs
pub record Kept : Type 0 where
  pub process : ℕ
  pub nodes : List Node
  pub contexts : Content
  pub holds : Holds
  pub commits : ℕ
  pub taken : ℕ
  pub frames_made : ℕ
  pub running : Bool

-- the whole is stored as the tuple of its parts
abbrev pub kept_code : Coded Kept
kept_code =
    code_by
    (ℕ × (List Node × (Content × (Holds × (ℕ × (ℕ × (ℕ × Bool)))))))
    (coded× coded_ℕ (coded× (coded_list node_code) (coded× content_code
    (coded× (coded_list (coded× context.the_row.coded hold.the_row.coded))
    (coded× coded_ℕ (coded× coded_ℕ (coded× coded_ℕ coded_bool)))))))
    (λ k. (
      k.process,
      (
        k.nodes,
        (
          k.contexts,
          (k.holds, (k.commits, (k.taken, (k.frames_made, k.running)))),
        ),
      ),
    ))
    (λ t. record {
      process = t.0;
      nodes = t.1.0;
      contexts = t.1.1.0;
      holds = t.1.1.1.0;
      commits = t.1.1.1.1.0;
      taken = t.1.1.1.1.1.0;
      frames_made = t.1.1.1.1.1.1.0;
      running = t.1.1.1.1.1.1.1;
    })
    (λ _. refl)

-- what it answers
abbrev pub seen_of : Kept → Seen
seen_of k = record {
  running = k.running;
  commits = k.commits;
  taken = k.taken;
  frames_made = k.frames_made;
  holds = λ x. is_held x k.nodes;
  group = λ x. option_map (λ h. h.group) (hold_of x k.holds);
  above = λ x. parent_in x k.nodes;
  under = λ x y. is_under x y k.nodes;
  owns = λ x. option_map_or (λ h. h.owned) (hold_of x k.holds) false;
  value = λ x fld. option_map (λ s. value_in s.fields fld) (get k.contexts x);
  newest = λ x fld. option_map_or (λ s. (epoch_of s.epochs fld).0) (get k.contexts x) 0;
  order = contexts k.nodes;
}

-- the contexts of a tree are all that there is of process p, which made so many frames
pub record HoldsItsTree (p : ℕ) (nodes : List Node) (m : Content) (holds : Holds)
    (frames_made : ℕ) : Type 0 where
  pub tree : IsTree nodes
  pub there : (x : ContextId) → is_there x m ≡ is_held x nodes
  pub known : (x : ContextId) → is_some (hold_of x holds) ≡ is_held x nodes
  pub long : (x : ContextId) → IfSome (get m x) (λ s. length s.fields ≡ length fields)
  pub own : (x : ContextId) → is_held x nodes ≡ true → x.creator ≡ p + 1 → x.serial ≤ frames_made
  pub few : frames_made ≤ 240
  pub number : p < 16

-- a process keeps what belongs to the contexts that it holds, and to no other
abbrev pub IsWhole : Kept → Type 0
IsWhole k = HoldsItsTree k.process k.nodes k.contexts k.holds k.frames_made
