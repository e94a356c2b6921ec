-- What the parent answers and keeps where it opened a tab.
use Rattle.std.proofs.Common.{◌≡◌, ◌≢◌, ℕ, zero, suc, ◌==◌, ◌+◌, ◌-◌, ◌<◌, ◌≤◌, nat_lt, Bool, true, false, not, ◌&&◌, ◌||◌, cond, if◌then◌else◌, Option, None, Some, List, [], ◌∷◌, ◌++◌}
use Rattle.std.proofs.Common.{length, get_or, refl, sym, ap, ap₂, ◌∙◌, subst, arith, inl, inr, eq-eqb, length-set, length-append}
use Rattle.std.specs.Prelude.{MatchOption, insert, is_none, is_some, option_and_then, unwrap_or}
use Rattle.std.specs.List.{AllByRecursion, position_or_len}
use Rattle.std.specs.Option.{option_map, option_map_or}
use Rattle.std.specs.FinMap.{get}
use Rattle.std.proofs.lemmas.Bool.{cases_eq, ne_eqb}
use Rattle.std.proofs.lemmas.Bool.Decides.{nat_tests}
use Rattle.std.proofs.lemmas.List.{get_or_past, length-map}
use Rattle.fission_ids.specs.declared.context.ContextId.{ContextId}
use Rattle.fission_ids.specs.declared.group.GroupId.{GroupId}
use Rattle.fission_ids.specs.declared.process.ProcId.{ProcId}
use Rattle.fission_ids.specs.Ids.{same_context}
use Rattle.field_table.specs.declared.value.Value.{Value}
use Rattle.field_table.specs.Table.{value_in}
use Rattle.context_group.specs.declared.group.Group.{Group}
use Rattle.context_group.specs.Groups.{group_at, at_group, is_kept, group_after_grow, no_group, AreSound, IsMade}
use Rattle.context_group.proofs.Places.{group_at-set, made_if_kept, same_at}
use Rattle.context_store.specs.Content.{Content, Stored}
use Rattle.context_tree.specs.Node.{Node, is_in, is_top, parent_of}
use Rattle.context_tree.specs.Tree.{IsTree, contexts, is_held, is_less, is_under, node_of, nodes_after, parent_in, place_in, refusal as tree_refusal}
use Rattle.context_tree.proofs.Ancestors.{all_found}
use Rattle.context_tree.proofs.Changes.{found_after, is_allowed, new_node}
use Rattle.context_tree.proofs.Same.{same_equal, same_itself, same_swapped}
use Rattle.wire_msgs.specs.declared.action.ParentAction.TheVariants.{Tab}
use Rattle.wire_msgs.specs.declared.cause.EndCause.{EndCause}
use Rattle.wire_msgs.specs.declared.refusal.Refusal.TheVariants as refusals
use Rattle.wire_msgs.specs.declared.refusal.Counted.TheVariants as counted
use Rattle.protocol.specs.Questions.{Facts, Groups, option_any}
use Rattle.protocol.specs.ParentActs.{refusal, refused_if, same_group}
use Rattle.protocol.specs.Sayings.Saying.{Opened}
use Rattle.protocol.specs.FactsAfter.{facts_after}
use Rattle.parent_core.specs.Membership.{HasRoom, group_begun, groups_opened}
use Rattle.parent_core.specs.Parent.{Kept, CountsTabs, HoldsAll, IsInRange, facts_of, origin_of, is_known, group_in, above_in, owner_in, owner_left, cause_of, is_of_group, count_in}
use Rattle.parent_core.specs.Contents.{value_at}
use Rattle.parent_core.specs.declared.origin.Origin.{Origin}
use Rattle.parent_core.proofs.Awaiting.{group_same as same_number}
use Rattle.parent_core.proofs.Facts.{same_contexts, same_facts, same_groups}
use Rattle.parent_core.proofs.Lists.{map_insert, passing, passing_insert}
use Rattle.parent_core.proofs.Made.{first_stored, first_value, owner_runs}
use Rattle.parent_core.proofs.Origins.{chosen, known_put, above_put, group_put, owner_put, group_stays, known_above, count_stays, all_known, unheld}
use Rattle.parent_core.proofs.Range.{has_room}

-- ---- why a tab isn't refused

pub record MayOpen (f : Facts) (p : ℕ) (named : Option GroupId) : Type 0 where
  pub runs : f.processes.ended p ≡ None
  pub contexts : f.tabs_made ≢ 240
  pub group : MatchOption named (f.groups.made ≢ 64) (λ g. f.groups.kept g ≡ true)

pub may_open : (f : Facts) (p : ProcId) (named : Option GroupId) → refusal f (Tab p named) ≡ None → MayOpen f p.0 named
unfolding refusal
may_open f p named e = by (f.processes.ended p.0) refl named e
  where
    differs : (m n : ℕ) → (m == n) ≡ false → m ≢ n
    differs m n other same = grind (arith, nat_tests, other, same)

    full : (b : Bool) → refused_if b (refusals.TooMany counted.Contexts 240) None ≡ None → b ≡ false
    full true h = absurd (cc)
    full false h = refl

    alone : (b c : Bool) → refused_if b (refusals.TooMany counted.Groups 64) (refused_if c (refusals.TooMany counted.Contexts 240) None) ≡ None → (b ≡ false) × (c ≡ false)
    alone true c h = absurd (cc)
    alone false c h = (refl, full c h)

    in_one : (b c : Bool) → refused_if (not b) refusals.NoGroup (refused_if c (refusals.TooMany counted.Contexts 240) None) ≡ None → (b ≡ true) × (c ≡ false)
    in_one true c h = (refl, full c h)
    in_one false c h = absurd (cc)

    by : (o : Option EndCause) → f.processes.ended p.0 ≡ o → (named : Option GroupId)
        → refused_if (is_some o) refusals.NoProcess
        (refused_if (option_any (λ g. not (f.groups.kept g)) named) refusals.NoGroup
        (refused_if (is_none named && f.groups.made == 64) (refusals.TooMany counted.Groups 64)
        (refused_if (f.tabs_made == 240) (refusals.TooMany counted.Contexts 240) None))) ≡ None → MayOpen f p.0 named
    by (Some cause) is named h = absurd (cc)
    by None is None h =
        let parts : ((f.groups.made == 64) ≡ false) × ((f.tabs_made == 240) ≡ false) = alone (f.groups.made == 64) (f.tabs_made == 240) h in
        record { runs = is; contexts = differs f.tabs_made 240 parts.1; group = differs f.groups.made 64 parts.0 }
    by None is (Some g) h =
        let parts : (f.groups.kept g ≡ true) × ((f.tabs_made == 240) ≡ false) = in_one (f.groups.kept g) (f.tabs_made == 240) h in
        record { runs = is; contexts = differs f.tabs_made 240 parts.1; group = parts.0 }

-- ---- the groups

-- one group more at the end, which is as one that wasn't made
pushed : {A : Type 0} (part : Group → A) (n : ℕ) (gs : List Group) (v d : Group) → part v ≡ part d → part (get_or (gs ++ v ∷ []) n d) ≡ part (get_or gs n d)
pushed part zero [] v d same = same
pushed part (suc n) [] v d same = refl
pushed part zero (g ∷ gs) v d same = refl
pushed part (suc n) (g ∷ gs) v d same = pushed part n gs v d same

at_end : (n : ℕ) (gs : List Group) (v d : Group) → n ≡ length gs → get_or (gs ++ v ∷ []) n d ≡ v
at_end zero [] v d e = refl
at_end (suc n) [] v d e = absurd (omega (arith, e))
at_end zero (g ∷ gs) v d e = absurd (omega (arith, e))
at_end (suc n) (g ∷ gs) v d e = at_end n gs v d (omega (arith, e))

elsewhere : (n : ℕ) (gs : List Group) (v d : Group) → n ≢ length gs → get_or (gs ++ v ∷ []) n d ≡ get_or gs n d
elsewhere zero [] v d ne = absurd (ne refl)
elsewhere (suc n) [] v d ne = refl
elsewhere zero (g ∷ gs) v d ne = refl
elsewhere (suc n) (g ∷ gs) v d ne = elsewhere n gs v d (λ e. ne (ap suc e))

pushed_at : (n : ℕ) (gs : List Group) (v d : Group) → get_or (gs ++ v ∷ []) n d ≡ (if n == length gs then v else get_or gs n d)
pushed_at n gs v d = elim (cases_eq n (length gs)) [
  | inl e ↦ at_end n gs v d e ∙ sym (ap (λ b. if b then v else get_or gs n d) (eq-eqb n (length gs) e))
  | inr ne ↦ elsewhere n gs v d ne ∙ sym (ap (λ b. if b then v else get_or gs n d) (ne_eqb n (length gs) ne))
]

-- a number that wasn't given yet
beyond : (n : ℕ) (gs : List Group) → n ≡ length gs + 1 → get_or (no_group ∷ gs) n no_group ≡ no_group
beyond zero gs e = absurd (omega (arith, e))
beyond (suc n) gs e = get_or_past gs n no_group (omega (arith, e))

-- what the groups answer
abbrev pub answers : List Group → Groups
answers gs = record {
  made = length gs;
  kept = λ g. is_kept g gs;
  subscribers = λ g. (group_at g gs).subscribers;
  awaited = λ g. (group_at g gs).awaited;
}

-- with a group more, if it is new
abbrev pub answers_with : Bool → GroupId → Groups → Groups
answers_with is_new g f = if is_new then record f { made = f.made + 1; kept = λ h. if same_group g h then true else f.kept h } else f

-- what the groups are behind a tab in one of them
pub record OpenedIn (is_new : Bool) (g : GroupId) (old new : List Group) : Type 0 where
  pub answers : answers new ≡ answers_with is_new g (answers old)
  pub live : (h : GroupId) → (group_at h new).live ≡ (if h.0 == g.0 then 1 else 0) + (group_at h old).live

pub opened_in : (named : Option GroupId) (g : GroupId) (old new : List Group) → MatchOption named (length old < 64) (HasRoom old) → g ≡ unwrap_or named (record { 0 = length old + 1 })
    → new ≡ groups_opened named old → OpenedIn (is_none named) g old new
opened_in None g old new room is done = record {
  answers =
      ap answers done
      ∙ same_groups (answers (old ++ group_begun (record { 0 = 0 }) ∷ [])) (answers_with true g (answers old)) (record {
        made = length-append old (group_begun (record { 0 = 0 }) ∷ []);
        kept = λ h. ap (λ (v : Group). v.is_kept) (found h) ∙ chosen (λ (v : Group). v.is_kept) (h.0 == suc (length old)) (group_begun (record { 0 = 0 })) (group_at h old)
            ∙ ap (λ b. if b then true else is_kept h old) (number h);
        subscribers = λ h. pushed (λ (v : Group). v.subscribers) h.0 (no_group ∷ old) (group_begun (record { 0 = 0 })) no_group refl;
        awaited = λ h. pushed (λ (v : Group). v.awaited) h.0 (no_group ∷ old) (group_begun (record { 0 = 0 })) no_group refl;
      });
  live = λ h. ap (λ l. (group_at h l).live) done ∙ ap (λ (v : Group). v.live) (found h) ∙ by h (h.0 == suc (length old)) refl (number h);
}
  where
    next : g.0 ≡ length old + 1
    next = ap (λ (x : GroupId). x.0) is

    found : (h : GroupId) → group_at h (old ++ group_begun (record { 0 = 0 }) ∷ []) ≡ (if h.0 == suc (length old) then group_begun (record { 0 = 0 }) else group_at h old)
    found h = pushed_at h.0 (no_group ∷ old) (group_begun (record { 0 = 0 })) no_group

    flipped : (m n k : ℕ) → k ≡ n + 1 → (m == suc n) ≡ (k == m)
    flipped m n k e = grind (arith, nat_tests, e)

    number : (h : GroupId) → (h.0 == suc (length old)) ≡ (g.0 == h.0)
    number h = flipped h.0 (length old) g.0 next

    turned : (m n : ℕ) → (m == n) ≡ (n == m)
    turned m n = grind (arith, nat_tests)

    at_next : (m n : ℕ) → (m == suc n) ≡ true → m ≡ n + 1
    at_next m n e = grind (arith, nat_tests, e)

    by : (h : GroupId) (b : Bool) → (h.0 == suc (length old)) ≡ b → (h.0 == suc (length old)) ≡ (g.0 == h.0)
        → (if b then group_begun (record { 0 = 0 }) else group_at h old).live ≡ (if h.0 == g.0 then 1 else 0) + (group_at h old).live
    by h true e same =
        let none : (group_at h old).live ≡ 0 = ap (λ (v : Group). v.live) (beyond h.0 old (at_next h.0 (length old) e)) in
        sym (ap₂ (λ b n. (if b then 1 else 0) + n) (turned h.0 g.0 ∙ sym same ∙ e) none)
    by h false e same =
        let whole : (group_at h old).live ≡ 0 + (group_at h old).live = omega arith in
        whole ∙ sym (ap (λ b. (if b then 1 else 0) + (group_at h old).live) (turned h.0 g.0 ∙ sym same ∙ e))
opened_in (Some named) g old new room is done = record {
  answers = ap answers done
      ∙ same_groups (answers (at_group group_after_grow named old)) (answers old) (record {
        made = length-set old (named.0 - 1) (group_after_grow (group_at named old));
        kept = grown (λ (v : Group). v.is_kept) (λ v. refl);
        subscribers = grown (λ (v : Group). v.subscribers) (λ v. refl);
        awaited = grown (λ (v : Group). v.awaited) (λ v. refl);
      });
  live = λ h. ap (λ l. (group_at h l).live) done ∙ ap (λ (v : Group). v.live) (group_at-set named h old (group_after_grow (group_at named old)) made)
      ∙ by h (h.0 == named.0) refl ∙ ap (λ (x : GroupId). (if h.0 == x.0 then 1 else 0) + (group_at h old).live) (sym is);
}
  where
    made : IsMade named old
    made = made_if_kept named old room.kept

    grown : {A : Type 0} (part : Group → A) → ((v : Group) → part (group_after_grow v) ≡ part v) → (h : GroupId) → part (group_at h (at_group group_after_grow named old)) ≡ part (group_at h old)
    grown part same h = same_at part named h old (group_after_grow (group_at named old)) made (same (group_at named old))

    by : (h : GroupId) (b : Bool) → (h.0 == named.0) ≡ b → (if b then group_after_grow (group_at named old) else group_at h old).live ≡ (if b then 1 else 0) + (group_at h old).live
    by h true e =
        let same : (group_at named old).live ≡ (group_at h old).live = ap (λ (v : Group). v.live) (sym (same_number h named old e)) in
        omega (arith, same)
    by h false e = omega arith

-- ---- a context that is new

-- what is fixed of the context of a tab
abbrev pub top_of_tab : ℕ → GroupId → Origin
top_of_tab p group = record { group = group; parent = None; owner = record { 0 = p } }

module _ (k : Kept) (h : HoldsAll k) (x : ContextId) (own : x.creator ≡ 0) (next : x.serial ≡ k.tabs + 1) where
  pub new_tab : is_known x k.origins ≡ false
  new_tab = by (is_known x k.origins) refl
    where
      by : (b : Bool) → is_known x k.origins ≡ b → b ≡ false
      by true e = let low : x.serial ≤ k.tabs = h.tabs.numbered x e own in absurd (omega (arith, low, next))
      by false e = refl

  unknown : is_held x k.nodes ≡ false
  unknown = unheld k h x new_tab

  pub may_hang : tree_refusal None x k.nodes ≡ None
  may_hang = is_allowed None x k.nodes unknown refl

  pub not_stored : get k.contexts x ≡ None
  not_stored = by (get k.contexts x) (h.stored x ∙ unknown)
    where
      by : (o : Option Stored) → is_some o ≡ false → o ≡ None
      by None e = refl
      by (Some s) e = absurd (cc)

  pub tab_in_range : k.tabs ≢ 240 → IsInRange x
  tab_in_range room =
      let most : k.tabs ≤ 240 = h.tabs.most in
      record { creator = omega (arith, own); from = omega (arith, next); to = omega (arith, next, most, room) }

  pub groups_take : k.tabs ≢ 240 → (named : Option GroupId) → MatchOption named (length k.groups ≢ 64) (λ g. is_kept g k.groups ≡ true) → MatchOption named (length k.groups < 64) (HasRoom k.groups)
  groups_take room None some = let few : length k.groups ≤ 64 = h.sound.few in omega (arith, few, some)
  groups_take room (Some g) kept = record { kept = kept; room = has_room k h x new_tab (tab_in_range room) g }

  -- no top-level context has a greater id
  goes_last : (ns : List Node) → AllByRecursion (λ n. node_of n.context k.nodes ≡ Some n) ns → position_or_len (λ m. is_top m && is_less x m.context) ns ≡ length ns
  goes_last [] all = refl
  goes_last (m ∷ ns) all =
      let rest : position_or_len (λ m. is_top m && is_less x m.context) ns ≡ length ns = goes_last ns all.1 in
      let one : 1 + length ns ≡ suc (length ns) = omega arith in
      ap (λ b. cond (not b) (1 + position_or_len (λ m. is_top m && is_less x m.context) ns) 0) (passed m all.0 (parent_of m) refl) ∙ ap (λ n. 1 + n) rest ∙ one
    where
      no_less : (c s c' s' t : ℕ) → c ≡ 0 → s ≡ t + 1 → c' ≡ 0 → s' ≤ t → (nat_lt c c' || (c == c' && nat_lt s s')) ≡ false
      no_less c s c' s' t e f e' f' = grind (arith, nat_tests, e, f, e', f')

      passed : (m : Node) → node_of m.context k.nodes ≡ Some m → (o : Option ContextId) → parent_of m ≡ o → (is_none o && is_less x m.context) ≡ false
      passed m found (Some a) e = refl
      passed m found None e =
          let held : is_held m.context k.nodes ≡ true = ap is_some found in
          let known : is_known m.context k.origins ≡ true = h.known m.context held in
          let top : above_in m.context k.origins ≡ None = sym (h.above m.context held) ∙ ap (option_and_then parent_of) found ∙ e in
          let creator : m.context.creator ≡ 0 = h.tabs.tops m.context known top in
          no_less x.creator x.serial m.context.creator m.context.serial k.tabs own next creator (h.tabs.numbered m.context known creator)

  module _ (p : ℕ) (group : GroupId) (new : List (ContextId × Origin)) (put : (y : ContextId) → origin_of y new ≡ (if same_context x y then Some (top_of_tab p group) else origin_of y k.origins))
      (nodes : List Node) (hung : nodes ≡ nodes_after None x k.nodes) (stored : Content)
      (added : (y : ContextId) → get stored y ≡ (if same_context y x then Some first_stored else get k.contexts y))
      (is_new : Bool) (gs : List Group) (opened : OpenedIn is_new group k.groups gs) where
    abbrev pub behind : Kept
    behind = record k { nodes = nodes; contexts = stored; origins = new; groups = gs; tabs = k.tabs + 1 }

    found : (y : ContextId) → node_of y nodes ≡ (if same_context y x then Some (new_node None x k.nodes) else node_of y k.nodes)
    found y = ap (node_of y) hung ∙ found_after k.nodes h.tree None x y unknown refl

    held : (y : ContextId) → is_held y nodes ≡ (if same_context y x then true else is_held y k.nodes)
    held y = ap is_some (found y) ∙ chosen is_some (same_context y x) (Some (new_node None x k.nodes)) (node_of y k.nodes)

    under : (y z : ContextId) → is_under y z nodes ≡ (if same_context y x then (same_context y z || false) else is_under y z k.nodes)
    under y z =
        ap (λ (o : Option Node). option_map_or (is_in z) o false) (found y)
        ∙ chosen (λ (o : Option Node). option_map_or (is_in z) o false) (same_context y x) (Some (new_node None x k.nodes)) (node_of y k.nodes)
        ∙ by (same_context y x) refl
      where
        by : (b : Bool) → same_context y x ≡ b → (if b then (same_context z x || false) else is_under y z k.nodes) ≡ (if b then (same_context y z || false) else is_under y z k.nodes)
        by true e = ap (λ b. b || false) (same_swapped z x ∙ ap (λ (w : ContextId). same_context w z) (sym (same_equal y x e)))
        by false e = refl

    order : contexts nodes ≡ insert (contexts k.nodes) (length (contexts k.nodes)) x
    order =
        ap contexts hung
        ∙ map_insert (λ (n : Node). n.context) k.nodes (place_in None x k.nodes) (new_node None x k.nodes)
        ∙ ap (λ n. insert (contexts k.nodes) n x) (goes_last k.nodes (all_found k.nodes h.tree.distinct) ∙ sym (length-map k.nodes (λ (n : Node). n.context)))

    pub facts_opened : cause_of p k.ends ≡ None → facts_of behind ≡ facts_after (Opened x group is_new p) (facts_of k)
    unfolding facts_after
    facts_opened runs = same_facts (facts_of behind) (facts_after (Opened x group is_new p) (facts_of k))
        (same_contexts _ _ (record {
          known = known_put k.origins new x (top_of_tab p group) put;
          group = group_put k.origins new x (top_of_tab p group) put;
          above = above_put k.origins new x (top_of_tab p group) put;
          live = held;
          under = under;
          owner = λ y. owned y (same_context y x) refl;
          value = λ y fld. ap (option_map (λ (s : Stored). value_in s.fields fld)) (added y)
              ∙ chosen (option_map (λ (s : Stored). value_in s.fields fld)) (same_context y x) (Some first_stored) (get k.contexts y)
              ∙ ap (λ (v : Value). if same_context y x then Some v else value_at y fld k.contexts) (first_value fld);
          order = order;
        }))
        opened.answers refl refl
      where
        owned : (y : ContextId) (b : Bool) → same_context y x ≡ b → (if is_held y nodes then owner_left k.ends (owner_in y new) else None)
            ≡ (if b then Some p else if is_held y k.nodes then owner_left k.ends (owner_in y k.origins) else None)
        owned y true e =
            ap₂ (λ b (o : Option ℕ). if b then owner_left k.ends o else None)
            (held y ∙ ap (λ b. if b then true else is_held y k.nodes) e)
            (owner_put k.origins new x (top_of_tab p group) put y ∙ ap (λ b. if b then Some p else owner_in y k.origins) e)
            ∙ owner_runs p k.ends runs
        owned y false e =
            ap₂ (λ b (o : Option ℕ). if b then owner_left k.ends o else None)
            (held y ∙ ap (λ b. if b then true else is_held y k.nodes) e)
            (owner_put k.origins new x (top_of_tab p group) put y ∙ ap (λ b. if b then Some p else owner_in y k.origins) e)

    live_counted : (g : GroupId) → (group_at g gs).live ≡ count_in g new (contexts nodes)
    live_counted g =
        let place : ℕ = length (contexts k.nodes) in
        let test : ContextId → Bool = is_of_group g new in
        let more : passing test (insert (contexts k.nodes) place x) ≡ passing test (x ∷ []) + passing test (contexts k.nodes) = passing_insert test (contexts k.nodes) place x in
        let rest : passing test (contexts k.nodes) ≡ (group_at g k.groups).live = count_stays k.origins new x (top_of_tab p group) put new_tab g (contexts k.nodes) (all_known k h) ∙ sym (h.live g) in
        let its_own : test x ≡ (g.0 == group.0) =
        ap (option_any (same_group g)) (group_put k.origins new x (top_of_tab p group) put x ∙ ap (λ b. if b then Some group else group_in x k.origins) (same_itself x)) in
        let one : passing test (x ∷ []) ≡ length (cond (g.0 == group.0) (x ∷ []) []) = ap (λ b. length (cond b (x ∷ []) [])) its_own in
        opened.live g ∙ ap (λ n. n + (group_at g k.groups).live) (by (g.0 == group.0)) ∙ sym (ap₂ (λ m n. m + n) one rest) ∙ sym more ∙ ap (passing test) (sym order)
      where
        by : (b : Bool) → (if b then 1 else 0) ≡ length (cond b (x ∷ []) [])
        by true = refl
        by false = refl

    tabs_counted : k.tabs ≢ 240 → CountsTabs (k.tabs + 1) new
    tabs_counted room = record {
      most = let most : k.tabs ≤ 240 = h.tabs.most in omega (arith, most, room);
      numbered = λ y known mine. below y mine (same_context y x) refl (sym (known_put k.origins new x (top_of_tab p group) put y) ∙ known);
      tops = λ y known top. its_own y (same_context y x) refl (sym (known_put k.origins new x (top_of_tab p group) put y) ∙ known) (sym (above_put k.origins new x (top_of_tab p group) put y) ∙ top);
    }
      where
        below : (y : ContextId) → y.creator ≡ 0 → (b : Bool) → same_context y x ≡ b → (if b then true else is_known y k.origins) ≡ true → y.serial ≤ k.tabs + 1
        below y mine true e _ = let same : y.serial ≡ x.serial = ap (λ (z : ContextId). z.serial) (same_equal y x e) in omega (arith, same, next)
        below y mine false e was = let low : y.serial ≤ k.tabs = h.tabs.numbered y was mine in omega (arith, low)

        its_own : (y : ContextId) (b : Bool) → same_context y x ≡ b → (if b then true else is_known y k.origins) ≡ true → (if b then None else above_in y k.origins) ≡ None → y.creator ≡ 0
        its_own y true e _ _ = ap (λ (z : ContextId). z.creator) (same_equal y x e) ∙ own
        its_own y false e was top = h.tabs.tops y was top

    pub holds_opened : IsTree nodes → k.tabs ≢ 240 → AreSound gs → HoldsAll behind
    holds_opened tree room sound = record {
      config = h.config;
      tree = tree;
      sound = sound;
      stored = λ y. ap is_some (added y) ∙ chosen is_some (same_context y x) (Some first_stored) (get k.contexts y)
          ∙ ap (λ b. if same_context y x then true else b) (h.stored y) ∙ sym (held y);
      known = λ y live. known_put k.origins new x (top_of_tab p group) put y ∙ was y (same_context y x) (sym (held y) ∙ live);
      above = λ y live. hangs y (same_context y x) refl (sym (held y) ∙ live);
      inside = λ y a e. inside y a (same_context y x) refl (sym (above_put k.origins new x (top_of_tab p group) put y) ∙ e) (group_put k.origins new x (top_of_tab p group) put y);
      range = λ y known. ranged y (same_context y x) refl (sym (known_put k.origins new x (top_of_tab p group) put y) ∙ known);
      live = live_counted;
      processes = h.processes;
      ends = h.ends;
      tabs = tabs_counted room;
    }
      where
        was : (y : ContextId) (b : Bool) → (if b then true else is_held y k.nodes) ≡ true → (if b then true else is_known y k.origins) ≡ true
        was y true e = refl
        was y false e = h.known y e

        hangs : (y : ContextId) (b : Bool) → same_context y x ≡ b → (if b then true else is_held y k.nodes) ≡ true → parent_in y nodes ≡ above_in y new
        hangs y true e _ =
            ap (option_and_then parent_of) (found y ∙ ap (λ b. if b then Some (new_node None x k.nodes) else node_of y k.nodes) e)
            ∙ sym (above_put k.origins new x (top_of_tab p group) put y ∙ ap (λ b. if b then None else above_in y k.origins) e)
        hangs y false e live =
            ap (option_and_then parent_of) (found y ∙ ap (λ b. if b then Some (new_node None x k.nodes) else node_of y k.nodes) e)
            ∙ h.above y live
            ∙ sym (above_put k.origins new x (top_of_tab p group) put y ∙ ap (λ b. if b then None else above_in y k.origins) e)

        inside : (y a : ContextId) (b : Bool) → same_context y x ≡ b → (if b then None else above_in y k.origins) ≡ Some a → group_in y new ≡ (if b then Some group else group_in y k.origins)
            → group_in y new ≡ group_in a new
        inside y a true e at is = absurd (cc)
        inside y a false e at is = is ∙ h.inside y a at ∙ sym (group_stays k.origins new x (top_of_tab p group) put new_tab a (known_above y a k.origins at (h.inside y a at)))

        ranged : (y : ContextId) (b : Bool) → same_context y x ≡ b → (if b then true else is_known y k.origins) ≡ true → IsInRange y
        ranged y true e _ = subst IsInRange (sym (same_equal y x e)) (tab_in_range room)
        ranged y false e before = h.range y before
