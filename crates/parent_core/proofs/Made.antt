-- What the parent answers and keeps where a frame was made.
use Rattle.std.proofs.Common.{◌≡◌, ℕ, ◌==◌, ◌+◌, ◌-◌, ◌≤◌, Bool, true, false, not, ◌||◌, cond, if◌then◌else◌, Option, None, Some, List, [], ◌∷◌, length, refl, sym, ap, ap₂, ◌∙◌, arith, length-set}
use Rattle.std.specs.Prelude.{is_some, insert, option_and_then, unwrap_or}
use Rattle.std.specs.List.{list_any}
use Rattle.std.specs.Option.{option_map, option_map_or}
use Rattle.std.specs.FinMap.{get}
use Rattle.std.proofs.lemmas.List.{length-map}
use Rattle.fission_ids.specs.declared.context.ContextId.{ContextId}
use Rattle.fission_ids.specs.declared.group.GroupId.{GroupId}
use Rattle.fission_ids.specs.Ids.{same_context}
use Rattle.field_table.specs.declared.field.Field.{Field}
use Rattle.field_table.specs.declared.value.Value.{Value}
use Rattle.field_table.specs.declared.value.Value.TheVariants.{Flag}
use Rattle.field_table.specs.Field.{initial}
use Rattle.field_table.specs.Table.{value_in, initial_table}
use Rattle.field_table.proofs.Tables.{at_number}
use Rattle.epochs.specs.FieldEpochs.{no_epochs}
use Rattle.context_group.specs.declared.group.Group.{Group}
use Rattle.context_group.specs.Groups.{group_at, at_group, is_kept, group_after_grow, AreSound, IsMade}
use Rattle.context_group.proofs.Places.{group_at-set, made_if_kept, same_at}
use Rattle.context_store.specs.Content.{Content, Stored}
use Rattle.context_tree.specs.Node.{Node, line, is_in, parent_of}
use Rattle.context_tree.specs.Tree.{IsTree, contexts, is_held, is_missing, is_under, line_above, node_of, nodes_after, parent_in, place_in, refusal, subtree}
use Rattle.context_tree.proofs.Changes.{found_after, is_allowed, new_node}
use Rattle.context_tree.proofs.Same.{same_equal, same_itself, same_swapped}
use Rattle.context_tree.proofs.Spans.{index_is, nearest_above}
use Rattle.protocol.specs.Questions.{option_any}
use Rattle.protocol.specs.ParentActs.{same_group}
use Rattle.protocol.specs.Sayings.Saying.{Made}
use Rattle.protocol.specs.FactsAfter.{facts_after, last_place_in}
use Rattle.parent_core.specs.Parent.{Kept, End, HoldsAll, IsInRange, facts_of, origin_of, is_known, group_in, above_in, owner_in, owner_left, cause_of, is_of_group, count_in}
use Rattle.parent_core.specs.Contents.{value_at}
use Rattle.parent_core.specs.declared.origin.Origin.{Origin}
use Rattle.parent_core.proofs.Awaiting.{group_same as same_number}
use Rattle.parent_core.proofs.Born.{frame_of, known_same, group_same, range_put, tabs_put}
use Rattle.parent_core.proofs.Facts.{same_contexts, same_facts, same_groups}
use Rattle.parent_core.proofs.Lists.{map_insert, passing, passing_insert}
use Rattle.parent_core.proofs.Origins.{chosen, above_put, group_put, owner_put, inside_put, count_stays, all_known, unheld}
use Rattle.parent_core.proofs.Subtrees.{none_there, under_contexts}

-- an owner that wasn't ended is left
pub owner_runs : (p : ℕ) (ends : List End) → cause_of p ends ≡ None → owner_left ends (Some p) ≡ Some p
owner_runs p [] e = refl
owner_runs p (end ∷ ends) e = by (p == end.process) refl e (owner_runs p ends)
  where
    by : (b : Bool) → (p == end.process) ≡ b → (if b then Some end.cause else cause_of p ends) ≡ None → (cause_of p ends ≡ None → owner_left ends (Some p) ≡ Some p)
        → (if option_any (λ q. q == end.process) (owner_left ends (Some p)) then None else owner_left ends (Some p)) ≡ Some p
    by true is at rest = absurd (cc)
    by false is at rest = ap (λ (o : Option ℕ). if option_any (λ q. q == end.process) o then None else o) (rest at) ∙ ap (λ b. if b then None else Some p) is

-- the fields that a new context has
abbrev pub first_stored : Stored
first_stored = record { fields = initial_table; epochs = no_epochs }

pub first_value : (fld : Field) → value_in initial_table fld ≡ initial fld
first_value fld = at_number initial (Flag false) fld

-- where a frame goes
pub last_place : (k : Kept) → HoldsAll k → (above : ContextId) → place_in (Some above) above k.nodes ≡ last_place_in above (facts_of k).contexts
last_place k h above = ap₂ (λ m n. m + n) (sym (index_is above k.nodes)) (sym (length-map (subtree above k.nodes) (λ (n : Node). n.context)) ∙ ap length (under_contexts above k.nodes h.tree.distinct))

module _ (k : Kept) (h : HoldsAll k) (p : ℕ) (x above : ContextId) (group : GroupId) (new : List (ContextId × Origin))
    (put : (y : ContextId) → origin_of y new ≡ (if same_context x y then Some (frame_of p group above) else origin_of y k.origins))
    (fresh : is_known x k.origins ≡ false) (live : is_held above k.nodes ≡ true) (in_group : group_in above k.origins ≡ Some group) where
  there : is_known above k.origins ≡ true
  there = h.known above live

  missing : is_missing (Some above) k.nodes ≡ false
  missing = ap (λ b. not b) live

  unknown : is_held x k.nodes ≡ false
  unknown = unheld k h x fresh

  pub may_attach : refusal (Some above) x k.nodes ≡ None
  may_attach = is_allowed (Some above) x k.nodes unknown missing

  -- its group is kept
  pub group_kept : is_kept group k.groups ≡ true
  group_kept = by (is_kept group k.groups) refl
    where
      by : (b : Bool) → is_kept group k.groups ≡ b → b ≡ true
      by true e = refl
      by false e = absurd (none_there k h above group live in_group e)

  module _ (nodes : List Node) (hung : nodes ≡ nodes_after (Some above) x k.nodes) (stored : Content)
      (added : (y : ContextId) → get stored y ≡ (if same_context y x then Some first_stored else get k.contexts y))
      (gs : List Group) (grown : gs ≡ at_group group_after_grow group k.groups) where
    found : (y : ContextId) → node_of y nodes ≡ (if same_context y x then Some (new_node (Some above) x k.nodes) else node_of y k.nodes)
    found y = ap (node_of y) hung ∙ found_after k.nodes h.tree (Some above) x y unknown missing

    held : (y : ContextId) → is_held y nodes ≡ (if same_context y x then true else is_held y k.nodes)
    held y = ap is_some (found y) ∙ chosen is_some (same_context y x) (Some (new_node (Some above) x k.nodes)) (node_of y k.nodes)

    -- who is above the new one
    above_it : (z : ContextId) → list_any (same_context z) (line_above (Some above) k.nodes) ≡ is_under above z k.nodes
    above_it z = by (node_of above k.nodes) refl
      where
        by : (o : Option Node) → node_of above k.nodes ≡ o → list_any (same_context z) (unwrap_or (option_map line o) []) ≡ option_map_or (is_in z) o false
        by None e = refl
        by (Some n) e = refl

    under : (y z : ContextId) → is_under y z nodes ≡ (if same_context y x then (same_context y z || option_any (λ a. is_under a z k.nodes) (Some above)) else is_under y z k.nodes)
    under y z =
        ap (λ (o : Option Node). option_map_or (is_in z) o false) (found y)
        ∙ chosen (λ (o : Option Node). option_map_or (is_in z) o false) (same_context y x) (Some (new_node (Some above) x k.nodes)) (node_of y k.nodes)
        ∙ by (same_context y x) refl
      where
        by : (b : Bool) → same_context y x ≡ b → (if b then (same_context z x || list_any (same_context z) (line_above (Some above) k.nodes)) else is_under y z k.nodes)
            ≡ (if b then (same_context y z || is_under above z k.nodes) else is_under y z k.nodes)
        by true e = ap₂ (λ b c. b || c) (same_swapped z x ∙ ap (λ (w : ContextId). same_context w z) (sym (same_equal y x e))) (above_it z)
        by false e = refl

    order : contexts nodes ≡ insert (contexts k.nodes) (last_place_in above (facts_of k).contexts) x
    order =
        ap contexts hung
        ∙ map_insert (λ (n : Node). n.context) k.nodes (place_in (Some above) x k.nodes) (new_node (Some above) x k.nodes)
        ∙ ap (λ n. insert (contexts k.nodes) n x) (last_place k h above)

    other : (y : ContextId) → same_context y x ≡ false → is_held y nodes ≡ is_held y k.nodes
    other y e = held y ∙ ap (λ b. if b then true else is_held y k.nodes) e

    made : IsMade group k.groups
    made = made_if_kept group k.groups group_kept

    -- what growing leaves
    same_grown : {A : Type 0} (part : Group → A) → ((v : Group) → part (group_after_grow v) ≡ part v) → (g : GroupId) → part (group_at g gs) ≡ part (group_at g k.groups)
    same_grown part same g = ap (λ l. part (group_at g l)) grown ∙ same_at part group g k.groups (group_after_grow (group_at group k.groups)) made (same (group_at group k.groups))

    pub facts_made : cause_of p k.ends ≡ None → facts_of (record k { nodes = nodes; contexts = stored; origins = new; groups = gs }) ≡ facts_after (Made p x above) (facts_of k)
    unfolding facts_after
    facts_made runs = same_facts (facts_of (record k { nodes = nodes; contexts = stored; origins = new; groups = gs })) (facts_after (Made p x above) (facts_of k))
        (same_contexts _ _ (record {
          known = known_same k h p x above group new put fresh there in_group;
          group = group_same k h p x above group new put fresh there in_group;
          above = above_put k.origins new x (frame_of p group above) put;
          live = held;
          under = under;
          owner = λ y. owned y (same_context y x) refl;
          value = λ y fld. ap (option_map (λ (s : Stored). value_in s.fields fld)) (added y)
              ∙ chosen (option_map (λ (s : Stored). value_in s.fields fld)) (same_context y x) (Some first_stored) (get k.contexts y)
              ∙ ap (λ (v : Value). if same_context y x then Some v else value_at y fld k.contexts) (first_value fld);
          order = order;
        }))
        (same_groups _ _ (record {
          made = ap length grown ∙ length-set k.groups (group.0 - 1) (group_after_grow (group_at group k.groups));
          kept = same_grown (λ (v : Group). v.is_kept) (λ v. refl);
          subscribers = same_grown (λ (v : Group). v.subscribers) (λ v. refl);
          awaited = same_grown (λ (v : Group). v.awaited) (λ v. refl);
        }))
        refl refl
      where
        owned : (y : ContextId) (b : Bool) → same_context y x ≡ b → (if is_held y nodes then owner_left k.ends (owner_in y new) else None)
            ≡ (if b then Some p else if is_held y k.nodes then owner_left k.ends (owner_in y k.origins) else None)
        owned y true e =
            ap₂ (λ b (o : Option ℕ). if b then owner_left k.ends o else None)
            (held y ∙ ap (λ b. if b then true else is_held y k.nodes) e)
            (owner_put k.origins new x (frame_of p group above) put y ∙ ap (λ b. if b then Some p else owner_in y k.origins) e)
            ∙ owner_runs p k.ends runs
        owned y false e =
            ap₂ (λ b (o : Option ℕ). if b then owner_left k.ends o else None) (other y e)
            (owner_put k.origins new x (frame_of p group above) put y ∙ ap (λ b. if b then Some p else owner_in y k.origins) e)

    counted : (g : GroupId) → (group_at g gs).live ≡ count_in g new (contexts nodes)
    counted g =
        let place : ℕ = last_place_in above (facts_of k).contexts in
        let test : ContextId → Bool = is_of_group g new in
        let more : passing test (insert (contexts k.nodes) place x) ≡ passing test (x ∷ []) + passing test (contexts k.nodes) = passing_insert test (contexts k.nodes) place x in
        let rest : passing test (contexts k.nodes) ≡ (group_at g k.groups).live = count_stays k.origins new x (frame_of p group above) put fresh g (contexts k.nodes) (all_known k h) ∙ sym (h.live g) in
        let own : test x ≡ (g.0 == group.0) = ap (option_any (same_group g)) (group_put k.origins new x (frame_of p group above) put x ∙ ap (λ b. if b then Some group else group_in x k.origins) (same_itself x)) in
        let one : passing test (x ∷ []) ≡ length (cond (g.0 == group.0) (x ∷ []) []) = ap (λ b. length (cond b (x ∷ []) [])) own in
        let now : (group_at g gs).live ≡ (if g.0 == group.0 then group_after_grow (group_at group k.groups) else group_at g k.groups).live =
        ap (λ l. (group_at g l).live) grown ∙ ap (λ (v : Group). v.live) (group_at-set group g k.groups (group_after_grow (group_at group k.groups)) made) in
        now ∙ by (g.0 == group.0) refl ∙ sym (ap₂ (λ m n. m + n) one rest) ∙ sym more ∙ ap (passing test) (sym order)
      where
        by : (b : Bool) → (g.0 == group.0) ≡ b → (if b then group_after_grow (group_at group k.groups) else group_at g k.groups).live ≡ length (cond b (x ∷ []) []) + (group_at g k.groups).live
        by true e =
            let same : (group_at group k.groups).live ≡ (group_at g k.groups).live = ap (λ (v : Group). v.live) (sym (same_number g group k.groups e)) in
            omega (arith, same)
        by false e = omega arith

    pub holds_made : IsTree nodes → IsInRange x → 1 ≤ x.creator → AreSound gs → HoldsAll (record k { nodes = nodes; contexts = stored; origins = new; groups = gs })
    holds_made tree low from sound = record {
      config = h.config;
      tree = tree;
      sound = sound;
      stored = λ y. ap is_some (added y) ∙ chosen is_some (same_context y x) (Some first_stored) (get k.contexts y)
          ∙ ap (λ b. if same_context y x then true else b) (h.stored y) ∙ sym (held y);
      known = λ y live. known_same k h p x above group new put fresh there in_group y ∙ was y (same_context y x) (sym (held y) ∙ live);
      above = λ y live. hangs y (same_context y x) refl (sym (held y) ∙ live);
      inside = inside_put k.origins new x (frame_of p group above) put fresh above refl in_group there h.inside;
      range = range_put k h p x above group new put fresh there in_group low;
      live = counted;
      processes = h.processes;
      ends = h.ends;
      tabs = tabs_put k h p x above group new put fresh there in_group from;
    }
      where
        was : (y : ContextId) (b : Bool) → (if b then true else is_held y k.nodes) ≡ true → (if b then true else is_known y k.origins) ≡ true
        was y true e = refl
        was y false e = h.known y e

        hangs : (y : ContextId) (b : Bool) → same_context y x ≡ b → (if b then true else is_held y k.nodes) ≡ true → parent_in y nodes ≡ above_in y new
        hangs y true e _ =
            ap (option_and_then parent_of) (found y ∙ ap (λ b. if b then Some (new_node (Some above) x k.nodes) else node_of y k.nodes) e)
            ∙ nearest_above (Some above) k.nodes missing
            ∙ sym (above_put k.origins new x (frame_of p group above) put y ∙ ap (λ b. if b then Some above else above_in y k.origins) e)
        hangs y false e live =
            ap (option_and_then parent_of) (found y ∙ ap (λ b. if b then Some (new_node (Some above) x k.nodes) else node_of y k.nodes) e)
            ∙ h.above y live
            ∙ sym (above_put k.origins new x (frame_of p group above) put y ∙ ap (λ b. if b then Some above else above_in y k.origins) e)
