-- What the parent answers and keeps where a context is gone with all below it.
use Rattle.std.proofs.Common.{◌≡◌, ℕ, zero, suc, ◌==◌, ◌≤◌, ◌+◌, nat_lt, Bool, true, false, not, ◌&&◌, ◌||◌, if◌then◌else◌, Option, None, Some, List, [], ◌∷◌, length, filter, refl, sym, ap, ap₂, ◌∙◌, arith, eq-eqb}
use Rattle.std.specs.Prelude.{is_some, option_and_then}
use Rattle.std.specs.List.{list_any}
use Rattle.std.specs.Option.{option_map, option_map_or}
use Rattle.std.specs.FinMap.{get}
use Rattle.fission_ids.specs.declared.context.ContextId.{ContextId}
use Rattle.fission_ids.specs.declared.group.GroupId.{GroupId}
use Rattle.fission_ids.specs.declared.process.ProcId.{ProcId}
use Rattle.fission_ids.specs.declared.process.ProcSet.{ProcSet}
use Rattle.fission_ids.specs.Ids.{same_context}
use Rattle.field_table.specs.Table.{value_in}
use Rattle.context_group.specs.declared.acks.Awaited.{Awaited}
use Rattle.context_group.specs.declared.group.Group.{Group}
use Rattle.context_group.specs.Sets.{set_without}
use Rattle.context_group.specs.Acks.{acks_with}
use Rattle.context_group.specs.Groups.{group_at, is_kept, group_after_await, group_after_shrink, AreSound}
use Rattle.context_group.specs.Laws.{is_needed_at}
use Rattle.context_store.specs.Content.{Content, Stored}
use Rattle.context_tree.specs.Node.{Node, is_in, parent_of}
use Rattle.context_tree.specs.Tree.{IsTree, contexts, is_held, is_under, node_of, subtree, without}
use Rattle.context_tree.proofs.Ancestors.{under_itself, under_subtree}
use Rattle.context_tree.proofs.Changes.{found_without}
use Rattle.protocol.specs.Questions.{option_any}
use Rattle.protocol.specs.ParentActs.{same_group}
use Rattle.protocol.specs.Sayings.Saying.{Removed}
use Rattle.protocol.specs.FactsAfter.{facts_after}
use Rattle.parent_core.specs.Membership.{shrunk}
use Rattle.parent_core.specs.Parent.{Kept, HoldsAll, facts_of, group_in, owner_in, owner_left, is_of_group, count_in}
use Rattle.parent_core.proofs.Awaiting.{group_same, more_awaited, same_more, length_more, awaited_more}
use Rattle.parent_core.proofs.Facts.{same_contexts, same_facts, same_groups}
use Rattle.parent_core.proofs.Lists.{any_passing, filter_all, filter_none_of, passing_parted}
use Rattle.parent_core.proofs.Origins.{chosen}
use Rattle.parent_core.proofs.Settled.{kept_by}
use Rattle.parent_core.proofs.Shrinking.{live_shrunk, same_shrunk, length_shrunk, others_shrunk, kept_shrunk}
use Rattle.parent_core.proofs.Subtrees.{none_there, other_contexts, under_contexts, under_same}

-- the processes of a set, but perhaps one
abbrev pub set_but : Option ℕ → ProcSet → ProcSet
set_but but all = option_map_or (λ p. set_without p all) but all

module _ (k : Kept) (h : HoldsAll k) (x : ContextId) (group : GroupId) (live : is_held x k.nodes ≡ true) (in_group : group_in x k.origins ≡ Some group) where
  -- those that go
  abbrev gone : List ContextId
  gone = contexts (subtree x k.nodes)

  -- all that go are of one group
  gone_of : (g : GroupId) (y : ContextId) → list_any (same_context y) gone ≡ true → is_of_group g k.origins y ≡ (g.0 == group.0)
  gone_of g y among = ap (option_any (same_group g)) (under_same k h y x (sym (under_subtree y x k.nodes h.tree.distinct) ∙ among) ∙ in_group)

  -- so a group counts all that go, and those that are left
  parted : (g : GroupId) → count_in g k.origins gone + count_in g k.origins (contexts (without x k.nodes)) ≡ (group_at g k.groups).live
  parted g =
      ap₂ (λ (l m : List ContextId). count_in g k.origins l + count_in g k.origins m) (under_contexts x k.nodes h.tree.distinct) (other_contexts x k.nodes h.tree.distinct)
      ∙ passing_parted (is_of_group g k.origins) (λ z. is_under z x k.nodes) (contexts k.nodes)
      ∙ sym (h.live g)

  all_gone : (g : GroupId) → (g.0 == group.0) ≡ true → count_in g k.origins gone ≡ length gone
  all_gone g same = ap length (filter_all (is_of_group g k.origins) gone (λ y among. gone_of g y among ∙ same))

  none_gone : (g : GroupId) → (g.0 == group.0) ≡ false → count_in g k.origins gone ≡ 0
  none_gone g apart = ap length (filter_none_of (is_of_group g k.origins) gone (λ y among. gone_of g y among ∙ apart))

  pub few_gone : length gone ≤ (group_at group k.groups).live
  few_gone =
      let all : count_in group k.origins gone ≡ length gone = all_gone group (eq-eqb group.0 group.0 refl) in
      let parts : count_in group k.origins gone + count_in group k.origins (contexts (without x k.nodes)) ≡ (group_at group k.groups).live = parted group in
      omega (arith, all, parts)

  some_gone : 1 ≤ length gone
  some_gone =
      let some : list_any (same_context x) gone ≡ true = under_subtree x x k.nodes h.tree.distinct ∙ under_itself k.nodes x live in
      at_least gone some
    where
      at_least : (l : List ContextId) → list_any (same_context x) l ≡ true → 1 ≤ length l
      at_least [] e = absurd (cc)
      at_least (y ∷ l) e = omega arith

  pub group_kept : is_kept group k.groups ≡ true
  group_kept = by (is_kept group k.groups) refl
    where
      by : (b : Bool) → is_kept group k.groups ≡ b → b ≡ true
      by true e = refl
      by false e = absurd (none_there k h x group live in_group e)

  module _ (who : ProcSet) (but : Option ℕ) (is : who ≡ set_but but (group_at group k.groups).subscribers)
      (nodes : List Node) (cut : nodes ≡ without x k.nodes) (stored : Content)
      (taken : (y : ContextId) → get stored y ≡ (if list_any (same_context y) gone then None else get k.contexts y))
      (gs : List Group) (n : ℕ) (size : n ≡ length gone) (done : gs ≡ shrunk n group (more_awaited who x group k.groups)) where
    abbrev more : List Group
    more = more_awaited who x group k.groups

    live_more : (g : GroupId) → (group_at g more).live ≡ (group_at g k.groups).live
    live_more = same_more who x group k.groups (λ (v : Group). v.live) (λ v. refl)

    fits : n ≤ (group_at group more).live
    fits = let few : length gone ≤ (group_at group k.groups).live = few_gone in let same : (group_at group more).live ≡ (group_at group k.groups).live = live_more group in omega (arith, few, same, size)

    found : (y : ContextId) → node_of y nodes ≡ (if is_under y x k.nodes then None else node_of y k.nodes)
    found y = ap (node_of y) cut ∙ found_without x y k.nodes h.tree.distinct

    held : (y : ContextId) → is_held y nodes ≡ (if is_under y x k.nodes then false else is_held y k.nodes)
    held y = ap is_some (found y) ∙ chosen is_some (is_under y x k.nodes) None (node_of y k.nodes)

    lost : (y : ContextId) → get stored y ≡ (if is_under y x k.nodes then None else get k.contexts y)
    lost y = taken y ∙ ap (λ b. if b then None else get k.contexts y) (under_subtree y x k.nodes h.tree.distinct)

    same_part : {A : Type 0} (part : Group → A) → ((v : Group) → part (group_after_shrink v) ≡ part v) → ((v : Group) → part (group_after_await who x v) ≡ part v)
        → (g : GroupId) → part (group_at g gs) ≡ part (group_at g k.groups)
    same_part part shrinks awaits g = ap (λ l. part (group_at g l)) done ∙ same_shrunk group more part shrinks n fits g ∙ same_more who x group k.groups part awaits g

    awaited : (g : GroupId) → (group_at g gs).awaited ≡ (if g.0 == group.0 && is_kept g k.groups then acks_with who x (group_at g k.groups).awaited else (group_at g k.groups).awaited)
    awaited g = ap (λ l. (group_at g l).awaited) done ∙ same_shrunk group more (λ (v : Group). v.awaited) (λ v. refl) n fits g ∙ awaited_more who x group k.groups g

    -- the groups count those that are left
    counted : (g : GroupId) → (group_at g gs).live ≡ count_in g k.origins (contexts nodes)
    counted g = ap (λ l. (group_at g l).live) done ∙ by (g.0 == group.0) refl ∙ ap (λ (l : List Node). count_in g k.origins (contexts l)) (sym cut)
      where
        by : (b : Bool) → (g.0 == group.0) ≡ b → (group_at g (shrunk n group more)).live ≡ count_in g k.origins (contexts (without x k.nodes))
        by true same =
            let left : (group_at group (shrunk n group more)).live + n ≡ (group_at group more).live = live_shrunk group more n fits in
            let here : (group_at g (shrunk n group more)).live ≡ (group_at group (shrunk n group more)).live = ap (λ (v : Group). v.live) (group_same g group (shrunk n group more) same) in
            let was : (group_at group more).live ≡ (group_at group k.groups).live = live_more group in
            let that : (group_at g k.groups).live ≡ (group_at group k.groups).live = ap (λ (v : Group). v.live) (group_same g group k.groups same) in
            let all : count_in g k.origins gone ≡ length gone = all_gone g same in
            let parts : count_in g k.origins gone + count_in g k.origins (contexts (without x k.nodes)) ≡ (group_at g k.groups).live = parted g in
            omega (arith, left, here, was, that, all, parts, size)
        by false apart =
            let here : (group_at g (shrunk n group more)).live ≡ (group_at g more).live = ap (λ (v : Group). v.live) (others_shrunk group more n fits g apart) in
            let was : (group_at g more).live ≡ (group_at g k.groups).live = live_more g in
            let none : count_in g k.origins gone ≡ 0 = none_gone g apart in
            let parts : count_in g k.origins gone + count_in g k.origins (contexts (without x k.nodes)) ≡ (group_at g k.groups).live = parted g in
            omega (arith, here, was, none, parts)

    kept : (g : GroupId) → is_kept g gs ≡ (is_kept g k.groups && (not (g.0 == group.0) || (list_any (is_of_group g k.origins) (contexts nodes) || nat_lt 0 (length (group_at g gs).awaited))))
    kept g = kept_by (g.0 == group.0) (is_kept g k.groups) (is_kept g gs) (is_needed_at g gs) (list_any (is_of_group g k.origins) (contexts nodes) || nat_lt 0 (length (group_at g gs).awaited))
        (ap (is_kept g) done ∙ by n size fits ∙ ap₂ (λ b (l : List Group). if g.0 == group.0 then b && is_needed_at g l else b) (same_more who x group k.groups (λ (v : Group). v.is_kept) (λ v. refl) g) (sym done))
        (ap (λ b. b || nat_lt 0 (length (group_at g gs).awaited)) (ap (nat_lt 0) (counted g) ∙ any_passing (is_of_group g k.origins) (contexts nodes)))
      where
        by : (m : ℕ) → m ≡ length gone → m ≤ (group_at group more).live
            → is_kept g (shrunk m group more) ≡ (if g.0 == group.0 then is_kept g more && is_needed_at g (shrunk m group more) else is_kept g more)
        by zero e le = let some : 1 ≤ length gone = some_gone in absurd (omega (arith, some, e))
        by (suc m) e le = kept_shrunk group more m le g

    pub facts_removed : facts_of (record k { nodes = nodes; contexts = stored; groups = gs }) ≡ facts_after (Removed x but) (facts_of k)
    unfolding facts_after
    facts_removed = same_facts (facts_of (record k { nodes = nodes; contexts = stored; groups = gs })) (facts_after (Removed x but) (facts_of k))
        (same_contexts _ _ (record {
          known = λ y. refl;
          group = λ y. refl;
          above = λ y. refl;
          live = held;
          under = λ y z. ap (λ (o : Option Node). option_map_or (is_in z) o false) (found y) ∙ chosen (λ (o : Option Node). option_map_or (is_in z) o false) (is_under y x k.nodes) None (node_of y k.nodes);
          owner = λ y. ap (λ b. if b then owner_left k.ends (owner_in y k.origins) else None) (held y) ∙ owned (is_under y x k.nodes) (is_held y k.nodes) (owner_left k.ends (owner_in y k.origins));
          value = λ y fld. ap (option_map (λ (s : Stored). value_in s.fields fld)) (lost y) ∙ chosen (option_map (λ (s : Stored). value_in s.fields fld)) (is_under y x k.nodes) None (get k.contexts y);
          order = ap contexts cut ∙ other_contexts x k.nodes h.tree.distinct;
        }))
        (same_groups _ _ (record {
          made = ap length done ∙ length_shrunk group more n ∙ length_more who x group k.groups;
          kept = λ g. kept g ∙ needed g;
          subscribers = same_part (λ (v : Group). v.subscribers) (λ v. refl) (λ v. refl);
          awaited = λ g. awaited g ∙ owed g;
        }))
        refl refl
      where
        owned : (b c : Bool) (o : Option ℕ) → (if (if b then false else c) then o else None) ≡ (if b then None else if c then o else None)
        owned true c o = refl
        owned false c o = refl

        -- what is owed, by the group that is asked for
        by_group : GroupId → Option GroupId → List Awaited
        by_group g z =
            if option_any (same_group g) z && is_kept g k.groups
            then acks_with (set_but but (option_map_or (λ l. (group_at l k.groups).subscribers) z (record { 0 = 0 }))) x (group_at g k.groups).awaited else (group_at g k.groups).awaited

        owed : (g : GroupId) → (if g.0 == group.0 && is_kept g k.groups then acks_with who x (group_at g k.groups).awaited else (group_at g k.groups).awaited) ≡ by_group g (group_in x k.origins)
        owed g =
            ap (λ (s : ProcSet). if g.0 == group.0 && is_kept g k.groups then acks_with s x (group_at g k.groups).awaited else (group_at g k.groups).awaited) is
            ∙ sym (ap (by_group g) in_group)

        needed : (g : GroupId) → (is_kept g k.groups && (not (g.0 == group.0) || (list_any (is_of_group g k.origins) (contexts nodes) || nat_lt 0 (length (group_at g gs).awaited))))
            ≡ (is_kept g k.groups && (not (option_any (same_group g) (group_in x k.origins))
            || (list_any (is_of_group g k.origins) (filter (λ y. not (is_under y x k.nodes)) (contexts k.nodes)) || nat_lt 0 (length (by_group g (group_in x k.origins))))))
        needed g =
            ap (λ b. is_kept g k.groups && (not b || (list_any (is_of_group g k.origins) (contexts nodes) || nat_lt 0 (length (group_at g gs).awaited)))) (sym (ap (option_any (same_group g)) in_group))
            ∙ ap₂ (λ (l : List ContextId) (a : List Awaited). is_kept g k.groups && (not (option_any (same_group g) (group_in x k.origins)) || (list_any (is_of_group g k.origins) l || nat_lt 0 (length a))))
            (ap contexts cut ∙ other_contexts x k.nodes h.tree.distinct) (awaited g ∙ owed g)

    pub holds_removed : IsTree nodes → AreSound gs → HoldsAll (record k { nodes = nodes; contexts = stored; groups = gs })
    holds_removed tree sound = record {
      config = h.config;
      tree = tree;
      sound = sound;
      stored = λ y. ap is_some (lost y) ∙ chosen is_some (is_under y x k.nodes) None (get k.contexts y)
          ∙ ap (λ b. if is_under y x k.nodes then false else b) (h.stored y) ∙ sym (held y);
      known = λ y e. h.known y (was (is_under y x k.nodes) (is_held y k.nodes) (sym (held y) ∙ e)).1;
      above = λ y e.
          let both : (is_under y x k.nodes ≡ false) × (is_held y k.nodes ≡ true) = was (is_under y x k.nodes) (is_held y k.nodes) (sym (held y) ∙ e) in
          ap (option_and_then parent_of) (found y ∙ ap (λ b. if b then None else node_of y k.nodes) both.0) ∙ h.above y both.1;
      inside = h.inside;
      range = h.range;
      live = counted;
      processes = h.processes;
      ends = h.ends;
      tabs = h.tabs;
    }
      where
        was : (b c : Bool) → (if b then false else c) ≡ true → (b ≡ false) × (c ≡ true)
        was true c e = absurd (cc)
        was false c e = (refl, e)

-- the same by the process
pub but_by_id : (but : Option ProcId) (all : ProcSet) → option_map_or (λ (p : ProcId). set_without p.0 all) but all ≡ set_but (option_map (λ (p : ProcId). p.0) but) all
but_by_id None all = refl
but_by_id (Some p) all = refl
