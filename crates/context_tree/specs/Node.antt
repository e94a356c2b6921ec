-- Contexts in a tree, each with those above it.
use Rattle.std.specs.Prelude.{◌||◌, Bool, false, List, ◌∷◌, Option, Some, slice_get, is_none, refl}
use Rattle.std.specs.Coded.{Coded, code_by, coded×, coded_list}
use Rattle.std.specs.List.{list_any, last_or}
use Rattle.std.specs.Option.{option_map_or}
use Rattle.fission_ids.specs.declared.context.ContextId.{ContextId}
use Rattle.fission_ids.specs.contracts.context.ContextId as context
use Rattle.fission_ids.specs.Ids.{same_context}

-- a context, and those above it, the nearest first
pub record Node : Type 0 where
  pub context : ContextId
  pub above : List ContextId

-- a node is stored as the context and those above it
abbrev pub node_code : Coded Node
node_code =
    code_by
    (ContextId × List ContextId)
    (coded× context.the_row.coded (coded_list context.the_row.coded))
    (λ n. (n.context, n.above))
    (λ p. record { context = p.0; above = p.1 })
    (λ _. refl)

-- the context and those above it
abbrev pub line : Node → List ContextId
line n = n.context ∷ n.above

-- the parent, the nearest of those above
abbrev pub parent_of : Node → Option ContextId
parent_of n = slice_get n.above 0

-- the top-level context of the line, its last one
abbrev pub top_of : Node → Option ContextId
top_of n = last_or (Some n.context) n.above

-- whether nothing is above
abbrev pub is_top : Node → Bool
is_top n = is_none (parent_of n)

-- whether n is the node of x
abbrev pub is_at : ContextId → Node → Bool
is_at x n = same_context x n.context

-- whether n is somewhere below x
abbrev pub is_below : ContextId → Node → Bool
is_below x n = list_any (same_context x) n.above

-- whether n is the node of x, or below x
abbrev pub is_in : ContextId → Node → Bool
is_in x n = is_at x n || is_below x n

-- whether x is the parent of n
abbrev pub is_child : ContextId → Node → Bool
is_child x n = option_map_or (same_context x) (parent_of n) false
