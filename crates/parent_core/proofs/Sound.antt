-- What the answers of a parent keep.
use Rattle.std.proofs.Common.{◌≡◌, Bool, true, false, ◌||◌, Option, None, Some, refl, ap, ◌∙◌}
use Rattle.std.specs.Prelude.{is_some}
use Rattle.std.specs.Option.{option_map_or}
use Rattle.fission_ids.specs.declared.context.ContextId.{ContextId}
use Rattle.fission_ids.specs.Ids.{same_context}
use Rattle.context_tree.specs.Node.{Node, is_in}
use Rattle.context_tree.specs.Tree.{is_held, is_under, node_of, parent_in}
use Rattle.context_tree.proofs.Ancestors.{steps_up, at_top, under_itself}
use Rattle.context_tree.proofs.Same.{same_swapped}
use Rattle.protocol.specs.Questions.{option_any}
use Rattle.parent_core.specs.Parent.{Kept, HoldsAll, facts_of}
use Rattle.parent_core.specs.Sound.{IsSound}

module _ (k : Kept) (h : HoldsAll k) where
  held_under : (x y : ContextId) → is_under x y k.nodes ≡ true → is_held x k.nodes ≡ true
  held_under x y = by (node_of x k.nodes)
    where
      by : (o : Option Node) → option_map_or (is_in y) o false ≡ true → is_some o ≡ true
      by None e = absurd (cc)
      by (Some n) e = refl

  or_none : (b : Bool) → b ≡ (b || false)
  or_none true = refl
  or_none false = refl

  hangs : (x y : ContextId) → is_held x k.nodes ≡ true → is_under x y k.nodes ≡ (same_context x y || option_any (λ a. is_under a y k.nodes) (parent_in x k.nodes))
  hangs x y held = by (parent_in x k.nodes) refl
    where
      by : (o : Option ContextId) → parent_in x k.nodes ≡ o → is_under x y k.nodes ≡ (same_context x y || option_any (λ a. is_under a y k.nodes) o)
      by None e = (at_top k.nodes x held e).under y ∙ same_swapped y x ∙ or_none (same_context x y)
      by (Some a) e = (steps_up k.nodes h.tree x a e).under y ∙ ap (λ b. b || is_under a y k.nodes) (same_swapped y x)

  pub is_sound : IsSound (facts_of k)
  is_sound = record {
    live_known = h.known;
    under_live = held_under;
    under_itself = under_itself k.nodes;
    above_live = λ x a live e. (steps_up k.nodes h.tree x a (h.above x live ∙ e)).held;
    under_above = λ x y live. hangs x y live ∙ ap (λ (o : Option ContextId). same_context x y || option_any (λ a. is_under a y k.nodes) o) (h.above x live);
    group_above = λ x a known e. h.inside x a e;
  }
