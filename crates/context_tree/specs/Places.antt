-- What the code keeps for a tree.
use Rattle.std.specs.Prelude.{◌≡◌, ℕ, ◌+◌, ◌<◌, ◌≤◌, true, false, List, [], ◌∷◌, length, map, zip}
use Rattle.std.specs.Prelude.{slice_range}
use Rattle.std.specs.List.{position_or_len, remove_range}
use Rattle.std.specs.Map.{lookup}
use Rattle.std.specs.Option.{option_map, option_map_or}
use Rattle.fission_ids.specs.declared.context.ContextId.{ContextId}
use Rattle.fission_ids.specs.Ids.{same_context}
use Rattle.context_tree.specs.declared.tree.Place.{Place}
use Rattle.context_tree.specs.declared.tree.Run.{Run}
use Rattle.context_tree.specs.Node.{Node, line, parent_of, is_at}
use Rattle.context_tree.specs.Tree.{outermost, IsTree, contexts, node_of, is_held, subtree, without, children}

-- how many are above a node
abbrev pub depth_of : Node → ℕ
depth_of n = length n.above

-- where a node hangs
abbrev pub place_of : Node → Place
place_of n = record { parent = parent_of n; depth = depth_of n }

-- an id with its depth, of the node
abbrev pub entry_of : Node → ContextId × ℕ
entry_of n = (n.context, depth_of n)

-- the node of an id with its depth that stands behind a node with this line
abbrev pub node_behind : List ContextId → ContextId × ℕ → Node
node_behind before e = record { context = e.0; above = outermost e.1 before }

-- the nodes of ids with depths that stand behind a node with this line
unfoldable pub nodes_behind : List ContextId → List (ContextId × ℕ) → List Node
nodes_behind before [] = []
nodes_behind before (e ∷ es) = node_behind before e ∷ nodes_behind (line (node_behind before e)) es

-- the nodes of ids and depths in pre-order
abbrev pub nodes_of : List ContextId → List ℕ → List Node
nodes_of ids depths = nodes_behind [] (zip ids depths)

-- the ids and depths are those of these nodes, which are a tree, and by key is kept where each hangs
pub record Keeps (ns : List Node) (ids : List ContextId) (depths : List ℕ)
    (places : List (ContextId × Place)) : Type 0 where
  pub ids_tied : ids ≡ contexts ns
  pub depths_tied : depths ≡ map depth_of ns
  pub by_key : (x : ContextId) → lookup (same_context x) places ≡ option_map place_of (node_of x ns)
  pub tree : IsTree ns

-- what is kept is that of a tree
abbrev pub KeepsTree : List ContextId → List ℕ → List (ContextId × Place) → Type 0
KeepsTree ids depths places = Keeps (nodes_of ids depths) ids depths places

-- how many nodes stand before that of x
abbrev pub index_of : ContextId → List Node → ℕ
index_of x ns = position_or_len (is_at x) ns

-- how many contexts are above x
abbrev pub depth_in : ContextId → List Node → ℕ
depth_in x ns = option_map_or (λ n. length n.above) (node_of x ns) 0

-- x isn't held, and nothing is below it
pub record IsUnknown (x : ContextId) (ns : List Node) : Type 0 where
  pub held : is_held x ns ≡ false
  pub inside : subtree x ns ≡ []
  pub outside : without x ns ≡ ns
  pub childless : children x ns ≡ []

-- the run has x and all below it
pub record IsRun (x : ContextId) (ns : List Node) (r : Run) : Type 0 where
  pub held : is_held x ns ≡ true
  pub ordered : r.start ≤ r.end
  pub within : r.end ≤ length ns
  pub inside : slice_range ns r.start r.end ≡ subtree x ns
  pub outside : remove_range ns r.start r.end ≡ without x ns
  pub behind : r.end ≡ index_of x ns + length (subtree x ns)
  pub depth : r.depth ≡ depth_in x ns
  pub shallow : r.depth < r.end

-- the run of x ends here, and so many are above x
pub record EndsRun (x : ContextId) (ns : List Node) (end depth : ℕ) : Type 0 where
  pub held : is_held x ns ≡ true
  pub behind : end ≡ index_of x ns + length (subtree x ns)
  pub above : depth ≡ depth_in x ns
  pub shallow : depth < end
