-- Trees of contexts, each the list of its nodes in pre-order.
use Rattle.std.specs.Prelude.{◌≡◌, ℕ, zero, suc, ◌+◌, ◌-◌, ◌==◌, nat_lt, Bool, true, false, not, ◌&&◌, ◌||◌}
use Rattle.std.specs.Prelude.{if◌then◌else◌, List, [], ◌∷◌, length, drop, map, filter, insert, find, ⊤}
use Rattle.std.specs.Prelude.{Option, None, Some, is_some, unwrap_or, option_and_then}
use Rattle.std.specs.List.{IsDistinct, position_or_len, AllByRecursion}
use Rattle.std.specs.Option.{option_map, option_map_or}
use Rattle.fission_ids.specs.declared.context.ContextId.{ContextId}
use Rattle.fission_ids.specs.Ids.{same_context}
use Rattle.context_tree.specs.declared.fault.TreeFault.{TreeFault}
use Rattle.context_tree.specs.declared.fault.TreeFault.TheVariants.{Known, NoParent}
use Rattle.context_tree.specs.Node.{Node, line, parent_of, top_of, is_top, is_at, is_in, is_child}

-- whether an id is less than another: by creator, then by serial
abbrev pub is_less : ContextId → ContextId → Bool
is_less x y = nat_lt x.creator y.creator || (x.creator == y.creator && nat_lt x.serial y.serial)

-- the ids, in the order of the nodes
abbrev pub contexts : List Node → List ContextId
contexts ns = map (λ n. n.context) ns

-- the node of a context
abbrev pub node_of : ContextId → List Node → Option Node
node_of x ns = find (is_at x) ns

-- whether the tree holds a context
abbrev pub is_held : ContextId → List Node → Bool
is_held x ns = is_some (node_of x ns)

-- the parent of a context
abbrev pub parent_in : ContextId → List Node → Option ContextId
parent_in x ns = option_and_then parent_of (node_of x ns)

-- the top-level context above a context, or the context itself
abbrev pub top_in : ContextId → List Node → Option ContextId
top_in x ns = option_and_then top_of (node_of x ns)

-- a context and those above it
abbrev pub line_of : ContextId → List Node → Option (List ContextId)
line_of x ns = option_map line (node_of x ns)

-- whether x is held, and is y or somewhere below it
abbrev pub is_under : ContextId → ContextId → List Node → Bool
is_under x y ns = option_map_or (is_in y) (node_of x ns) false

-- the node of x and those below it
abbrev pub subtree : ContextId → List Node → List Node
subtree x ns = filter (is_in x) ns

-- the nodes that are neither x nor below it
abbrev pub without : ContextId → List Node → List Node
without x ns = filter (λ n. not (is_in x n)) ns

-- the ids of the subtree of x, if x is held
abbrev pub subtree_if_held : ContextId → List Node → Option (List ContextId)
subtree_if_held x ns = if is_held x ns then Some (contexts (subtree x ns)) else None

-- the ids of those whose parent is x
abbrev pub children : ContextId → List Node → List ContextId
children x ns = contexts (filter (is_child x) ns)

-- whether a parent is given that isn't held
abbrev pub is_missing : Option ContextId → List Node → Bool
is_missing None ns = false
is_missing (Some p) ns = not (is_held p ns)

-- why a context can't be attached, if something is wrong
abbrev pub refusal : Option ContextId → ContextId → List Node → Option TreeFault
refusal parent x ns =
    if is_held x ns then Some Known
    else if is_missing parent ns then Some NoParent
    else None

-- what is above a context with this parent
abbrev pub line_above : Option ContextId → List Node → List ContextId
line_above None ns = []
line_above (Some p) ns = unwrap_or (line_of p ns) []

-- where a context goes: a top-level one before the first with a greater id, another behind all of its
-- parent's subtree
abbrev pub place_in : Option ContextId → ContextId → List Node → ℕ
place_in None x ns = position_or_len (λ n. is_top n && is_less x n.context) ns
place_in (Some p) x ns = position_or_len (is_at p) ns + length (subtree p ns)

-- the nodes with a context attached
abbrev pub nodes_after : Option ContextId → ContextId → List Node → List Node
nodes_after parent x ns = insert ns (place_in parent x ns)
    (record { context = x; above = line_above parent ns })

-- the last d of a line, which are the outermost
abbrev pub outermost : ℕ → List ContextId → List ContextId
outermost d xs = drop (length xs - d) xs

-- each node hangs from the one before it or from one above that, or is top-level
abbrev pub Hangs : List ContextId → List Node → Type 0
Hangs before [] = ⊤
Hangs before (n ∷ ns) = (n.above ≡ outermost (length n.above) before) × Hangs (line n) ns

-- whether two nodes in this order, if both are top-level, have rising ids
abbrev pub are_rising : Node → Node → Bool
are_rising n m = not (is_top n && is_top m) || is_less n.context m.context

-- the ids of the top-level nodes rise
abbrev pub TopsRise : List Node → Type 0
TopsRise [] = ⊤
TopsRise (n ∷ ns) = AllByRecursion (λ m. are_rising n m ≡ true) ns × TopsRise ns

-- the list is a tree in pre-order, in which each id stands once and the top-level ids rise
pub record IsTree (ns : List Node) : Type 0 where
  pub hangs : Hangs [] ns
  pub distinct : IsDistinct same_context (contexts ns)
  pub rises : TopsRise ns

-- the k-th ancestor of x by parents: x itself where it is held, its parent, the parent of that, and so on
abbrev pub ancestor : ℕ → ContextId → List Node → Option ContextId
ancestor zero x ns = if is_held x ns then Some x else None
ancestor (suc k) x ns = option_and_then (λ y. parent_in y ns) (ancestor k x ns)
