-- Subtrees by their contexts, and which group those of a subtree are of.
use Rattle.std.proofs.Common.{◌≡◌, ℕ, zero, suc, Bool, true, false, not, ◌||◌, cond, if◌then◌else◌, nat_lt, Option, None, Some, List, [], ◌∷◌, filter, refl, sym, ap, ◌∙◌, ◌==◌, eq-eqb}
use Rattle.std.specs.Prelude.{is_some, option_and_then}
use Rattle.std.specs.List.{IsDistinct, AllByRecursion, list_any}
use Rattle.std.specs.Option.{option_map_or}
use Rattle.fission_ids.specs.declared.context.ContextId.{ContextId}
use Rattle.fission_ids.specs.declared.group.GroupId.{GroupId}
use Rattle.fission_ids.specs.Ids.{same_context}
use Rattle.context_group.specs.Groups.{group_at, is_kept}
use Rattle.context_group.proofs.Lists.{or_first}
use Rattle.context_group.proofs.Soundness.{sound_here}
use Rattle.context_tree.specs.Node.{Node, is_in, parent_of}
use Rattle.context_tree.specs.Tree.{ancestor, contexts, is_held, is_under, node_of, parent_in, subtree, without}
use Rattle.context_tree.proofs.Ancestors.{all_found, reaches}
use Rattle.context_tree.proofs.Distinct.{held_among}
use Rattle.context_tree.proofs.Same.{same_equal}
use Rattle.protocol.specs.Questions.{option_any}
use Rattle.protocol.specs.ParentActs.{same_group}
use Rattle.parent_core.specs.Parent.{Kept, HoldsAll, group_in, is_of_group}
use Rattle.parent_core.proofs.Counting.{lives}
use Rattle.parent_core.proofs.Origins.{not_both}

-- a test of the ids that is one of the nodes leaves the same of both
filter_contexts : (p : ContextId → Bool) (q : Node → Bool) (ns : List Node) → AllByRecursion (λ n. p n.context ≡ q n) ns → filter p (contexts ns) ≡ contexts (filter q ns)
filter_contexts p q [] same = refl
filter_contexts p q (n ∷ ns) same =
    ap (λ b. cond b (n.context ∷ filter p (contexts ns)) (filter p (contexts ns))) same.0
    ∙ ap (λ (l : List ContextId). cond (q n) (n.context ∷ l) l) (filter_contexts p q ns same.1)
    ∙ by (q n)
  where
    by : (b : Bool) → cond b (n.context ∷ contexts (filter q ns)) (contexts (filter q ns)) ≡ contexts (cond b (n ∷ filter q ns) (filter q ns))
    by true = refl
    by false = refl

each_in : (y : ContextId) (all ns : List Node) → AllByRecursion (λ n. node_of n.context all ≡ Some n) ns → AllByRecursion (λ n. is_under n.context y all ≡ is_in y n) ns
each_in y all [] f = tt
each_in y all (n ∷ ns) f = (ap (λ (o : Option Node). option_map_or (is_in y) o false) f.0, each_in y all ns f.1)

each_not : (p : ContextId → Bool) (q : Node → Bool) (ns : List Node) → AllByRecursion (λ n. p n.context ≡ q n) ns → AllByRecursion (λ n. not (p n.context) ≡ not (q n)) ns
each_not p q [] f = tt
each_not p q (n ∷ ns) f = (ap not f.0, each_not p q ns f.1)

-- the contexts of a subtree, and the others
pub under_contexts : (y : ContextId) (ns : List Node) → IsDistinct same_context (contexts ns) → contexts (subtree y ns) ≡ filter (λ z. is_under z y ns) (contexts ns)
under_contexts y ns d = sym (filter_contexts (λ z. is_under z y ns) (is_in y) ns (each_in y ns ns (all_found ns d)))

pub other_contexts : (y : ContextId) (ns : List Node) → IsDistinct same_context (contexts ns) → contexts (without y ns) ≡ filter (λ z. not (is_under z y ns)) (contexts ns)
other_contexts y ns d = sym (filter_contexts (λ z. not (is_under z y ns)) (λ n. not (is_in y n)) ns (each_not (λ z. is_under z y ns) (is_in y) ns (each_in y ns ns (all_found ns d))))

-- what has a parent is held
parent_held : (z y : ContextId) (ns : List Node) → parent_in z ns ≡ Some y → is_held z ns ≡ true
parent_held z y ns = by (node_of z ns)
  where
    by : (o : Option Node) → option_and_then parent_of o ≡ Some y → is_some o ≡ true
    by None e = absurd (cc)
    by (Some n) e = refl

-- those that are reached by going up are of one group
up_same : (k : Kept) → HoldsAll k → (x y : ContextId) (n : ℕ) → ancestor n x k.nodes ≡ Some y → group_in x k.origins ≡ group_in y k.origins
up_same k h x y zero e = by (is_held x k.nodes) e
  where
    by : (b : Bool) → (if b then Some x else None) ≡ Some y → group_in x k.origins ≡ group_in y k.origins
    by true e = let same : x ≡ y = cc in ap (λ (z : ContextId). group_in z k.origins) same
    by false e = absurd (cc)
up_same k h x y (suc n) e = by (ancestor n x k.nodes) refl e (λ z. up_same k h x z n)
  where
    by : (o : Option ContextId) → ancestor n x k.nodes ≡ o → option_and_then (λ z. parent_in z k.nodes) o ≡ Some y
        → ((z : ContextId) → ancestor n x k.nodes ≡ Some z → group_in x k.origins ≡ group_in z k.origins) → group_in x k.origins ≡ group_in y k.origins
    by None is e rest = absurd (cc)
    by (Some z) is e rest = rest z is ∙ h.inside z y (sym (h.above z (parent_held z y k.nodes e)) ∙ e)

-- so are those of a subtree
pub under_same : (k : Kept) → HoldsAll k → (x y : ContextId) → is_under x y k.nodes ≡ true → group_in x k.origins ≡ group_in y k.origins
under_same k h x y e = let r = reaches k.nodes h.tree x y e in up_same k h x y r.0 r.1

-- a test that holds of one of a list holds of any
any_of : (x : ContextId) (p : ContextId → Bool) (xs : List ContextId) → list_any (same_context x) xs ≡ true → p x ≡ true → list_any p xs ≡ true
any_of x p [] e px = absurd (cc)
any_of x p (y ∷ xs) e px = by (same_context x y) refl e (λ f. any_of x p xs f px)
  where
    or_true : (b : Bool) {c : Bool} → c ≡ true → (b || c) ≡ true
    or_true true e = refl
    or_true false e = e

    by : (b : Bool) → same_context x y ≡ b → (b || list_any (same_context x) xs) ≡ true → (list_any (same_context x) xs ≡ true → list_any p xs ≡ true) → (p y || list_any p xs) ≡ true
    by true is e rest = ap (λ b. b || list_any p xs) (ap p (sym (same_equal x y is)) ∙ px)
    by false is e rest = or_true (p y) (rest e)

-- a group of which a context is live is kept, and counts it
pub count_some : (k : Kept) → HoldsAll k → (x : ContextId) (g : GroupId) → is_held x k.nodes ≡ true → group_in x k.origins ≡ Some g → nat_lt 0 (group_at g k.groups).live ≡ true
count_some k h x g held group = lives k h g ∙ any_of x (is_of_group g k.origins) (contexts k.nodes) (sym (held_among x k.nodes) ∙ held) (ap (option_any (same_group g)) group ∙ same_number)
  where
    same_number : (g.0 == g.0) ≡ true
    same_number = eq-eqb g.0 g.0 refl

pub none_there : (k : Kept) → HoldsAll k → (x : ContextId) (g : GroupId) → is_held x k.nodes ≡ true → group_in x k.origins ≡ Some g → is_kept g k.groups ≡ false → ⊥
none_there k h x g held group ended =
    let none : nat_lt 0 (group_at g k.groups).live ≡ false = or_first _ _ ((sound_here g k.groups h.sound).ended ended) in
    not_both (nat_lt 0 (group_at g k.groups).live) (count_some k h x g held group) none
