-- What is fixed of the contexts, with one context more.
use Rattle.std.proofs.Common.{◌≡◌, Bool, true, false, if◌then◌else◌, Option, None, Some, List, length, refl, sym, ap, ◌∙◌}
use Rattle.std.specs.Prelude.{is_some, option_and_then}
use Rattle.std.specs.List.{list_any}
use Rattle.std.specs.Option.{option_map}
use Rattle.std.proofs.lemmas.Bool.{false≢true}
use Rattle.fission_ids.specs.declared.context.ContextId.{ContextId}
use Rattle.fission_ids.specs.declared.group.GroupId.{GroupId}
use Rattle.fission_ids.specs.Ids.{same_context}
use Rattle.context_tree.specs.Tree.{contexts, is_held}
use Rattle.context_tree.proofs.Distinct.{held_among}
use Rattle.context_tree.proofs.Same.{same_equal, same_swapped}
use Rattle.protocol.specs.Questions.{option_any}
use Rattle.protocol.specs.ParentActs.{same_group}
use Rattle.parent_core.specs.Parent.{Kept, HoldsAll, origin_of, is_known, group_in, above_in, owner_in, is_of_group, count_in}
use Rattle.parent_core.specs.declared.origin.Origin.{Origin}
use Rattle.parent_core.proofs.Lists.{filter_agree}

-- a function of what is chosen
pub chosen : {A B : Type 0} (f : A → B) (b : Bool) (p q : A) → f (if b then p else q) ≡ (if b then f p else f q)
chosen f true p q = refl
chosen f false p q = refl

-- a test that holds isn't one that fails
pub not_both : (b : Bool) → b ≡ true → b ≡ false → ⊥
not_both true e f = absurd (false≢true (sym f))
not_both false e f = absurd (false≢true e)

known_of_group : (y : ContextId) (os : List (ContextId × Origin)) → is_some (group_in y os) ≡ is_known y os
known_of_group y os = by (origin_of y os)
  where
    by : (o : Option Origin) → is_some (option_map (λ (r : Origin). r.group) o) ≡ is_some o
    by None = refl
    by (Some r) = refl

-- what is in another was made
pub known_of_above : (y a : ContextId) (os : List (ContextId × Origin)) → above_in y os ≡ Some a → is_known y os ≡ true
known_of_above y a os = by (origin_of y os)
  where
    by : (o : Option Origin) → option_and_then (λ (r : Origin). r.parent) o ≡ Some a → is_some o ≡ true
    by None e = absurd (cc)
    by (Some r) e = refl

-- and that other too, where both have one group
pub known_above : (y a : ContextId) (os : List (ContextId × Origin)) → above_in y os ≡ Some a → group_in y os ≡ group_in a os → is_known a os ≡ true
known_above y a os e same = sym (known_of_group a os) ∙ ap is_some (sym same) ∙ known_of_group y os ∙ known_of_above y a os e

-- what isn't known isn't held
pub unheld : (k : Kept) → HoldsAll k → (x : ContextId) → is_known x k.origins ≡ false → is_held x k.nodes ≡ false
unheld k h x new = by (is_held x k.nodes) refl
  where
    by : (b : Bool) → is_held x k.nodes ≡ b → b ≡ false
    by true e = absurd (not_both (is_known x k.origins) (h.known x e) new)
    by false e = refl

module _ (old new : List (ContextId × Origin)) (x : ContextId) (o : Origin) (put : (y : ContextId) → origin_of y new ≡ (if same_context x y then Some o else origin_of y old)) where
  put_at : (y : ContextId) → origin_of y new ≡ (if same_context y x then Some o else origin_of y old)
  put_at y = put y ∙ ap (λ b. if b then Some o else origin_of y old) (same_swapped x y)

  pub known_put : (y : ContextId) → is_known y new ≡ (if same_context y x then true else is_known y old)
  known_put y = ap is_some (put_at y) ∙ chosen is_some (same_context y x) (Some o) (origin_of y old)

  pub group_put : (y : ContextId) → group_in y new ≡ (if same_context y x then Some o.group else group_in y old)
  group_put y = ap (option_map (λ (r : Origin). r.group)) (put_at y) ∙ chosen (option_map (λ (r : Origin). r.group)) (same_context y x) (Some o) (origin_of y old)

  pub above_put : (y : ContextId) → above_in y new ≡ (if same_context y x then o.parent else above_in y old)
  above_put y = ap (option_and_then (λ (r : Origin). r.parent)) (put_at y) ∙ chosen (option_and_then (λ (r : Origin). r.parent)) (same_context y x) (Some o) (origin_of y old)

  pub owner_put : (y : ContextId) → owner_in y new ≡ (if same_context y x then Some o.owner.0 else owner_in y old)
  owner_put y = ap (option_map (λ (r : Origin). r.owner.0)) (put_at y) ∙ chosen (option_map (λ (r : Origin). r.owner.0)) (same_context y x) (Some o) (origin_of y old)

  module _ (fresh : is_known x old ≡ false) where
    -- what was known is another
    pub apart : (y : ContextId) → is_known y old ≡ true → same_context y x ≡ false
    apart y known = by (same_context y x) refl
      where
        by : (b : Bool) → same_context y x ≡ b → b ≡ false
        by true e = absurd (not_both (is_known x old) (ap (λ (z : ContextId). is_known z old) (sym (same_equal y x e)) ∙ known) fresh)
        by false e = refl

    pub group_stays : (y : ContextId) → is_known y old ≡ true → group_in y new ≡ group_in y old
    group_stays y known = group_put y ∙ ap (λ b. if b then Some o.group else group_in y old) (apart y known)

    -- what each is in has the same group
    pub inside_put : (above : ContextId) → o.parent ≡ Some above → group_in above old ≡ Some o.group → is_known above old ≡ true
        → ((y a : ContextId) → above_in y old ≡ Some a → group_in y old ≡ group_in a old)
        → (y a : ContextId) → above_in y new ≡ Some a → group_in y new ≡ group_in a new
    inside_put above parent group there inside y a e = by (same_context y x) (sym (above_put y) ∙ e) (group_put y)
      where
        by : (b : Bool) → (if b then o.parent else above_in y old) ≡ Some a → group_in y new ≡ (if b then Some o.group else group_in y old) → group_in y new ≡ group_in a new
        by true at is =
            let same : above ≡ a = cc in
            is ∙ sym group ∙ sym (group_stays above there) ∙ ap (λ (z : ContextId). group_in z new) same
        by false at is = is ∙ inside y a at ∙ sym (group_stays a (known_above y a old at (inside y a at)))

    -- as many of those that were known are of a group
    pub count_stays : (g : GroupId) (xs : List ContextId) → ((y : ContextId) → list_any (same_context y) xs ≡ true → is_known y old ≡ true) → count_in g new xs ≡ count_in g old xs
    count_stays g xs known = ap length (filter_agree (is_of_group g new) (is_of_group g old) xs (λ y among. ap (option_any (same_group g)) (group_stays y (known y among))))

-- those in the tree are known
pub all_known : (k : Kept) → HoldsAll k → (y : ContextId) → list_any (same_context y) (contexts k.nodes) ≡ true → is_known y k.origins ≡ true
all_known k h y among = h.known y (held_among y k.nodes ∙ among)
