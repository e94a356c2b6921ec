-- What the parent answers and keeps where a frame was made too late.
use Rattle.std.proofs.Common.{◌≡◌, ℕ, ◌≤◌, ◌==◌, Bool, true, false, ◌&&◌, if◌then◌else◌, Option, None, Some, List, length, refl, sym, ap, ◌∙◌, subst, arith}
use Rattle.fission_ids.specs.declared.context.ContextId.{ContextId}
use Rattle.fission_ids.specs.declared.group.GroupId.{GroupId}
use Rattle.fission_ids.specs.declared.process.ProcSet.{ProcSet}
use Rattle.fission_ids.specs.Ids.{same_context}
use Rattle.fission_ids.specs.ProcSet.{has}
use Rattle.context_group.specs.declared.group.Group.{Group}
use Rattle.context_group.specs.declared.acks.Awaited.{Awaited}
use Rattle.context_group.specs.Acks.{acks_with}
use Rattle.context_group.specs.Groups.{group_at, is_kept, AreSound}
use Rattle.context_tree.specs.Tree.{contexts, is_held}
use Rattle.context_tree.proofs.Same.{same_itself, same_equal}
use Rattle.protocol.specs.Questions.{option_any}
use Rattle.protocol.specs.ParentActs.{same_group}
use Rattle.protocol.specs.Sayings.Saying.{BornDead}
use Rattle.protocol.specs.FactsAfter.{facts_after, one_if}
use Rattle.parent_core.specs.Parent.{Kept, CountsTabs, HoldsAll, IsInRange, facts_of, origin_of, is_known, group_in, above_in, owner_in, owner_left}
use Rattle.parent_core.specs.declared.origin.Origin.{Origin}
use Rattle.parent_core.proofs.Facts.{same_contexts, same_facts, same_groups}
use Rattle.parent_core.proofs.Origins.{known_put, group_put, above_put, owner_put, apart, inside_put, count_stays, all_known}
use Rattle.parent_core.proofs.Awaiting.{more_awaited, same_more, length_more, awaited_more}

-- a frame that was made, in the group of what it is in
abbrev pub frame_of : ℕ → GroupId → ContextId → Origin
frame_of p group above = record { group = group; parent = Some above; owner = record { 0 = p } }

module _ (k : Kept) (h : HoldsAll k) (p : ℕ) (x above : ContextId) (group : GroupId) (new : List (ContextId × Origin))
    (put : (y : ContextId) → origin_of y new ≡ (if same_context x y then Some (frame_of p group above) else origin_of y k.origins))
    (fresh : is_known x k.origins ≡ false) (there : is_known above k.origins ≡ true) (in_group : group_in above k.origins ≡ Some group) where
  -- the range of the ids stays
  pub range_put : IsInRange x → (y : ContextId) → is_known y new ≡ true → IsInRange y
  range_put low y known = by (same_context y x) refl (sym (known_put k.origins new x (frame_of p group above) put y) ∙ known)
    where
      by : (b : Bool) → same_context y x ≡ b → (if b then true else is_known y k.origins) ≡ true → IsInRange y
      by true e _ = subst IsInRange (sym (same_equal y x e)) low
      by false e was = h.range y was

  -- what is known, and of which group and in what each context is
  pub known_same : (y : ContextId) → is_known y new ≡ (if same_context y x then true else is_known y k.origins)
  known_same = known_put k.origins new x (frame_of p group above) put

  pub group_same : (y : ContextId) → group_in y new ≡ (if same_context y x then group_in above k.origins else group_in y k.origins)
  group_same y = group_put k.origins new x (frame_of p group above) put y ∙ ap (λ (g : Option GroupId). if same_context y x then g else group_in y k.origins) (sym in_group)

  -- the contexts that the parent made stay
  pub tabs_put : 1 ≤ x.creator → CountsTabs k.tabs new
  tabs_put from = record {
    most = h.tabs.most;
    numbered = λ y known own. below y own (same_context y x) refl (sym (known_same y) ∙ known);
    tops = λ y known top. own y (same_context y x) (sym (known_same y) ∙ known) (sym (above_put k.origins new x (frame_of p group above) put y) ∙ top);
  }
    where
      below : (y : ContextId) → y.creator ≡ 0 → (b : Bool) → same_context y x ≡ b → (if b then true else is_known y k.origins) ≡ true → y.serial ≤ k.tabs
      below y none true e _ = let same : y.creator ≡ x.creator = ap (λ (z : ContextId). z.creator) (same_equal y x e) in absurd (omega (arith, none, same, from))
      below y none false e was = h.tabs.numbered y was none

      own : (y : ContextId) (b : Bool) → (if b then true else is_known y k.origins) ≡ true → (if b then Some above else above_in y k.origins) ≡ None → y.creator ≡ 0
      own y true _ top = absurd (cc)
      own y false was top = h.tabs.tops y was top

  module _ (who : ProcSet) (is : who ≡ one_if (has (group_at group k.groups).subscribers p) p) (gs : List Group) (done : gs ≡ more_awaited who x group k.groups) where
    pub facts_born : facts_of (record k { origins = new; groups = gs }) ≡ facts_after (BornDead p x above) (facts_of k)
    unfolding facts_after
    facts_born = same_facts (facts_of (record k { origins = new; groups = gs })) (facts_after (BornDead p x above) (facts_of k))
        (same_contexts _ _ (record {
          known = known_same;
          group = group_same;
          above = above_put k.origins new x (frame_of p group above) put;
          live = λ y. refl;
          under = λ y z. refl;
          owner = λ y. owned y (is_held y k.nodes) refl;
          value = λ y fld. refl;
          order = refl;
        }))
        (same_groups _ _ (record {
          made = ap length done ∙ length_more who x group k.groups;
          kept = λ g. ap (is_kept g) done ∙ same_more who x group k.groups (λ (v : Group). v.is_kept) (λ v. refl) g;
          subscribers = λ g. ap (λ l. (group_at g l).subscribers) done ∙ same_more who x group k.groups (λ (v : Group). v.subscribers) (λ v. refl) g;
          awaited = owed;
        }))
        refl refl
      where
        owned : (y : ContextId) (b : Bool) → is_held y k.nodes ≡ b → (if b then owner_left k.ends (owner_in y new) else None) ≡ (if b then owner_left k.ends (owner_in y k.origins) else None)
        owned y true held = ap (owner_left k.ends) (owner_put k.origins new x (frame_of p group above) put y
            ∙ ap (λ b. if b then Some p else owner_in y k.origins) (apart k.origins new x (frame_of p group above) put fresh y (h.known y held)))
        owned y false held = refl

        by_group : GroupId → Option GroupId → List Awaited
        by_group g z = if option_any (same_group g) z && is_kept g k.groups then acks_with (one_if (option_any (λ l. has (group_at l k.groups).subscribers p) z) p) x (group_at g k.groups).awaited else (group_at g k.groups).awaited

        owed : (g : GroupId) → (group_at g gs).awaited ≡ by_group g (if same_context x x then group_in above k.origins else group_in x k.origins)
        owed g =
            ap (λ l. (group_at g l).awaited) done
            ∙ awaited_more who x group k.groups g
            ∙ ap (λ (s : ProcSet). if g.0 == group.0 && is_kept g k.groups then acks_with s x (group_at g k.groups).awaited else (group_at g k.groups).awaited) is
            ∙ sym (ap (by_group g) (ap (λ b. if b then group_in above k.origins else group_in x k.origins) (same_itself x) ∙ in_group))

    pub holds_born : IsInRange x → 1 ≤ x.creator → AreSound gs → HoldsAll (record k { origins = new; groups = gs })
    holds_born low from sound = record {
      config = h.config;
      tree = h.tree;
      sound = sound;
      stored = h.stored;
      known = λ y held. known_same y ∙ ap (λ b. if b then true else is_known y k.origins) (other y held) ∙ h.known y held;
      above = λ y held. h.above y held ∙ sym (above_put k.origins new x (frame_of p group above) put y ∙ ap (λ b. if b then Some above else above_in y k.origins) (other y held));
      inside = inside_put k.origins new x (frame_of p group above) put fresh above refl in_group there h.inside;
      range = range_put low;
      live = λ g. ap (λ l. (group_at g l).live) done ∙ same_more who x group k.groups (λ (v : Group). v.live) (λ v. refl) g ∙ h.live g
          ∙ sym (count_stays k.origins new x (frame_of p group above) put fresh g (contexts k.nodes) (all_known k h));
      processes = h.processes;
      ends = h.ends;
      tabs = tabs_put from;
    }
      where
        other : (y : ContextId) → is_held y k.nodes ≡ true → same_context y x ≡ false
        other y held = apart k.origins new x (frame_of p group above) put fresh y (h.known y held)
