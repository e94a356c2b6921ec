-- What is kept, and the nodes that it stands for.
use Rattle.std.proofs.Common.{◌≡◌, ℕ, List, [], ◌∷◌, map, refl, sym, ap, ◌∙◌, subst}
use Rattle.std.specs.Prelude.{zip}
use Rattle.fission_ids.specs.declared.context.ContextId.{ContextId}
use Rattle.context_tree.specs.declared.tree.Place.{Place}
use Rattle.context_tree.specs.Node.{Node, line}
use Rattle.context_tree.specs.Tree.{Hangs, IsTree, contexts}
use Rattle.context_tree.specs.Places.{entry_of, depth_of, node_behind, nodes_behind, nodes_of, Keeps, KeepsTree}

-- the entries of nodes stand for these nodes
pub nodes_entries : (before : List ContextId) (ns : List Node) → Hangs before ns → nodes_behind before (map entry_of ns) ≡ ns
unfolding nodes_behind
nodes_entries before [] h = refl
nodes_entries before (n ∷ ns) h =
    let own : node_behind before (entry_of n) ≡ n = (λ j. record { context = n.context; above = sym h.0 j }) in
    ap (λ m. m ∷ nodes_behind (line m) (map entry_of ns)) own ∙ ap (λ l. n ∷ l) (nodes_entries (line n) ns h.1)

pub zip_entries : (ns : List Node) → zip (contexts ns) (map depth_of ns) ≡ map entry_of ns
zip_entries [] = refl
zip_entries (n ∷ ns) = ap (λ l. entry_of n ∷ l) (zip_entries ns)

-- what is kept of a tree is seen as the tree
pub seen : (ns : List Node) (ids : List ContextId) (depths : List ℕ) → ids ≡ contexts ns → depths ≡ map depth_of ns → IsTree ns
    → nodes_of ids depths ≡ ns
seen ns ids depths e f t =
    (λ j. nodes_behind [] (zip (e j) (f j))) ∙ ap (nodes_behind []) (zip_entries ns) ∙ nodes_entries [] ns t.hangs

pub keeps : (ns : List Node) (ids : List ContextId) (depths : List ℕ) (places : List (ContextId × Place)) → Keeps ns ids depths places
    → KeepsTree ids depths places
keeps ns ids depths places k =
    subst (λ ms. Keeps ms ids depths places) (sym (seen ns ids depths k.ids_tied k.depths_tied k.tree)) k

pub kept : (ns : List Node) (ids : List ContextId) (depths : List ℕ) (places : List (ContextId × Place)) → KeepsTree ids depths places
    → nodes_of ids depths ≡ ns → Keeps ns ids depths places
kept ns ids depths places k v = subst (λ ms. Keeps ms ids depths places) v k
