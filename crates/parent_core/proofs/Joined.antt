-- What the parent answers and keeps where a process was subscribed.
use Rattle.std.proofs.Common.{◌≡◌, ℕ, ◌-◌, ◌==◌, Bool, true, false, if◌then◌else◌, List, refl, sym, ap, ◌∙◌, arith, length-set}
use Rattle.std.proofs.lemmas.Bool.Decides.{nat_tests}
use Rattle.fission_ids.specs.declared.group.GroupId.{GroupId}
use Rattle.fission_ids.specs.ProcSet.{has, with}
use Rattle.context_group.specs.declared.group.Group.{Group}
use Rattle.context_group.specs.Groups.{group_at, at_group, group_after_subscribe, AreSound, IsMade}
use Rattle.context_group.proofs.Places.{group_at-set, same_at}
use Rattle.protocol.specs.Questions.{Groups}
use Rattle.protocol.specs.ParentActs.{same_group}
use Rattle.protocol.specs.Sayings.Saying.{Subscribed}
use Rattle.protocol.specs.FactsAfter.{facts_after}
use Rattle.parent_core.specs.Opening.{after_subscribing}
use Rattle.parent_core.specs.Parent.{Kept, HoldsAll, facts_of}
use Rattle.parent_core.proofs.Awaiting.{group_same as same_number}
use Rattle.parent_core.proofs.Counting.{holds_groups}
use Rattle.parent_core.proofs.Facts.{same_groups}
use Rattle.parent_core.proofs.Opened.{answers}

module _ (p : ℕ) (g : GroupId) (gs : List Group) (made : IsMade g gs) where
  abbrev joined : List Group
  joined = at_group (group_after_subscribe p) g gs

  same_joined : {A : Type 0} (part : Group → A) → ((v : Group) → part (group_after_subscribe p v) ≡ part v) → (h : GroupId) → part (group_at h joined) ≡ part (group_at h gs)
  same_joined part same h = same_at part g h gs (group_after_subscribe p (group_at g gs)) made (same (group_at g gs))

  turned : (m n : ℕ) → (m == n) ≡ (n == m)
  turned m n = grind (arith, nat_tests)

  subscribers : (h : GroupId) → (group_at h joined).subscribers ≡ (if same_group g h then with (group_at h gs).subscribers p else (group_at h gs).subscribers)
  subscribers h =
      ap (λ (v : Group). v.subscribers) (group_at-set g h gs (group_after_subscribe p (group_at g gs)) made)
      ∙ by (h.0 == g.0) refl
      ∙ ap (λ b. if b then with (group_at h gs).subscribers p else (group_at h gs).subscribers) (turned h.0 g.0)
    where
      by : (b : Bool) → (h.0 == g.0) ≡ b
          → (if b then group_after_subscribe p (group_at g gs) else group_at h gs).subscribers ≡ (if b then with (group_at h gs).subscribers p else (group_at h gs).subscribers)
      by true e = ap (λ (v : Group). with v.subscribers p) (sym (same_number h g gs e))
      by false e = refl

module _ (k : Kept) (h : HoldsAll k) (p : ℕ) (g : GroupId) (made : IsMade g k.groups) (gs : List Group)
    (done : gs ≡ (if has (group_at g k.groups).subscribers p then k.groups else at_group (group_after_subscribe p) g k.groups)) where
  pub facts_joined : facts_of (record k { groups = gs }) ≡ after_subscribing p g (facts_of k)
  unfolding facts_after
  facts_joined = ap (λ (l : List Group). facts_of (record k { groups = l })) done ∙ by (has (group_at g k.groups).subscribers p)
    where
      by : (b : Bool) → facts_of (record k { groups = if b then k.groups else at_group (group_after_subscribe p) g k.groups }) ≡ (if b then facts_of k else facts_after (Subscribed p g) (facts_of k))
      by true = refl
      by false = ap (λ (a : Groups). record (facts_of k) { groups = a })
          (same_groups (answers (at_group (group_after_subscribe p) g k.groups)) (facts_after (Subscribed p g) (facts_of k)).groups (record {
            made = length-set k.groups (g.0 - 1) (group_after_subscribe p (group_at g k.groups));
            kept = same_joined p g k.groups made (λ (v : Group). v.is_kept) (λ v. refl);
            subscribers = subscribers p g k.groups made;
            awaited = same_joined p g k.groups made (λ (v : Group). v.awaited) (λ v. refl);
          }))

  pub holds_joined : AreSound gs → HoldsAll (record k { groups = gs })
  holds_joined sound = holds_groups k gs h sound (λ m. ap (λ l. (group_at m l).live) done ∙ by m (has (group_at g k.groups).subscribers p))
    where
      by : (m : GroupId) (b : Bool) → (group_at m (if b then k.groups else at_group (group_after_subscribe p) g k.groups)).live ≡ (group_at m k.groups).live
      by m true = refl
      by m false = same_joined p g k.groups made (λ (v : Group). v.live) (λ v. refl) m
