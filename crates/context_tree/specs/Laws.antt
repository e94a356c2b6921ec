-- What holds of every tree.
use Rattle.std.specs.Prelude.{◌≡◌, ◌↔◌, ℕ, List, [], ◌∷◌, ◌++◌, false, IsTrue, slice_get}
use Rattle.std.specs.Prelude.{Option, None, Some, option_and_then, if◌then◌else◌}
use Rattle.std.specs.List.{list_any}
use Rattle.std.specs.Option.{option_map_or}
use Rattle.fission_ids.specs.declared.context.ContextId.{ContextId}
use Rattle.fission_ids.specs.Ids.{same_context}
use Rattle.context_tree.specs.Node.{Node, parent_of}
use Rattle.context_tree.specs.Tree.{IsTree, ancestor, line_of, line_above, contexts, subtree, without}
use Rattle.context_tree.specs.Tree.{node_of, children, is_missing, is_held, is_under, refusal, nodes_after}

-- a parent stands before its children, and above a node are its parent and those above that
abbrev pub ParentsComeFirst : Type 0
ParentsComeFirst = (front : List Node) (n : Node) (back : List Node) → IsTree (front ++ n ∷ back) →
    (is_missing (parent_of n) front ≡ false) × (n.above ≡ line_above (parent_of n) front)

-- who is reached from a context by going up k times is k places behind it in its line
abbrev pub AncestorsAreAbove : Type 0
AncestorsAreAbove = (ns : List Node) → IsTree ns → (x : ContextId) (k : ℕ) →
    ancestor k x ns ≡ option_and_then (λ xs. slice_get xs k) (line_of x ns)

-- in the subtree of y are y and those that reach y by going up
abbrev pub SubtreesHangTogether : Type 0
SubtreesHangTogether = (ns : List Node) → IsTree ns → (x y : ContextId) →
    IsTrue (list_any (same_context x) (contexts (subtree y ns))) ↔ ((k : ℕ) × (ancestor k x ns ≡ Some y))

-- nothing is below a context that isn't held
abbrev pub NothingIsBelowTheUnknown : Type 0
NothingIsBelowTheUnknown = (ns : List Node) → IsTree ns → (x : ContextId) → is_held x ns ≡ false →
    (subtree x ns ≡ []) × (without x ns ≡ ns)

-- what is left without a context is a tree
abbrev pub DetachLeavesATree : Type 0
DetachLeavesATree = (ns : List Node) → IsTree ns → (x : ContextId) → IsTree (without x ns)

-- and the others have the same above them as before
abbrev pub DetachLeavesTheOthers : Type 0
DetachLeavesTheOthers = (ns : List Node) → IsTree ns → (x y : ContextId) →
    node_of y (without x ns) ≡ (if is_under y x ns then None else node_of y ns)

-- a tree with a context attached is a tree
abbrev pub AttachLeavesATree : Type 0
AttachLeavesATree = (ns : List Node) → IsTree ns → (parent : Option ContextId) (x : ContextId) →
    refusal parent x ns ≡ None → IsTree (nodes_after parent x ns)

-- and the others have the same above them as before
abbrev pub AttachLeavesTheOthers : Type 0
AttachLeavesTheOthers = (ns : List Node) → IsTree ns → (parent : Option ContextId) (x y : ContextId) →
    refusal parent x ns ≡ None →
    node_of y (nodes_after parent x ns) ≡
    (if same_context y x then Some (record { context = x; above = line_above parent ns }) else node_of y ns)

-- an attached context is the last child of its parent, and no other context gets or loses a child
abbrev pub AttachedIsTheLastChild : Type 0
AttachedIsTheLastChild = (ns : List Node) → IsTree ns → (parent : Option ContextId) (x y : ContextId) →
    refusal parent x ns ≡ None →
    children y (nodes_after parent x ns) ≡
    children y ns ++ (if option_map_or (same_context y) parent false then x ∷ [] else [])
