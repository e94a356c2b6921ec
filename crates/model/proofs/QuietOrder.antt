-- An honest process that wasn't ended, with nothing on its links, has the parent's contexts that it is told of, in the same
-- order.
use Rattle.std.proofs.Common.{◌≡◌, ℕ, Bool, true, false, ◌&&◌, Option, Some, None, List, filter, refl, ap, sym, subst, ◌∙◌}
use Rattle.std.specs.List.{list_any}
use Rattle.fission_ids.specs.declared.context.ContextId.{ContextId}
use Rattle.fission_ids.specs.Ids.{same_context}
use Rattle.context_tree.specs.Tree.{IsTree}
use Rattle.protocol.specs.Questions.{Facts, option_any, is_told}
use Rattle.protocol.specs.Seen.{Seen}
use Rattle.model.specs.Laws.{IsAtRest, QuietHasTheSameOrder}
use Rattle.model.specs.Lines.{Making, makings, above_in}
use Rattle.model.specs.Moments.{Moment, ProcessEvent, said, did_by, events_of, moments_of, facts_now, seen_now}
use Rattle.model.specs.Next.{Run}
use Rattle.model.proofs.Cases.{same_context_is}
use Rattle.model.proofs.Fitting.{FactsTies}
use Rattle.model.proofs.Lining.{Lined, group_step}
use Rattle.model.proofs.Ordered.{parent_in_order, held_in_order}
use Rattle.model.proofs.Preorder.{Preorder, nodes, below_of, among_filtered, filter_within, filter_twice}
use Rattle.model.proofs.QuietTrees.{all, run, st, told, held_told, told_known, holds_the_parents, has_the_same_frames}
use Rattle.model.proofs.Run.{facts_of_run}
use Rattle.model.proofs.RunHolds.{own_lined}
use Rattle.model.proofs.SameOrder.{same_order, tree_kept}
use Rattle.model.proofs.Subscribers.{group_told, told_by_group}

-- ---- two orders, of which one has what the other has in some trees

module _ (mk : List Making) (l : Lined mk) (all own : List ContextId) (live holds told aware : ContextId → Bool) (all_order : Preorder mk all live) (own_order : Preorder mk own holds)
    (goes_down : (x a : ContextId) → above_in mk x ≡ Some a → aware x ≡ aware a) (told_is : (x : ContextId) → live x ≡ true → told x ≡ aware x)
    (holds_is : (x : ContextId) → holds x ≡ (live x && told x)) (held_aware : (x : ContextId) → holds x ≡ true → aware x ≡ true)
    (same_below : (y : ContextId) → holds y ≡ true → below_of mk y own ≡ below_of mk y all)
  where
    live_at : (x : ContextId) → list_any (same_context x) all ≡ true → live x ≡ true
    live_at x among = sym (all_order.members x) ∙ among

    told_order : Preorder mk (filter told all) holds
    told_order = record {
      tree = subst (λ xs. IsTree (nodes mk xs)) (filter_within aware told all (λ x among. sym (told_is x (live_at x among)))) (tree_kept mk l aware goes_down all all_order.tree);
      members = λ x. among_filtered told x all ∙ ap (λ b. b && told x) (all_order.members x) ∙ sym (holds_is x);
    }

    -- what is right below one of its contexts is told
    told_below : (y : ContextId) → holds y ≡ true → below_of mk y (filter told all) ≡ below_of mk y all
    told_below y held =
        filter_twice (λ x. option_any (same_context y) (above_in mk x)) told all
        ∙ filter_within (λ x. option_any (same_context y) (above_in mk x) && told x) (λ x. option_any (same_context y) (above_in mk x)) all (λ x among. by_above x among (above_in mk x) refl)
      where
        by_test : (x a : ContextId) → list_any (same_context x) all ≡ true → above_in mk x ≡ Some a → (b : Bool) → same_context y a ≡ b → (b && told x) ≡ b
        by_test x a among up false isnt = refl
        by_test x a among up true is = told_is x (live_at x among) ∙ goes_down x a up ∙ ap aware (sym (same_context_is y a is)) ∙ held_aware y held

        by_above : (x : ContextId) → list_any (same_context x) all ≡ true → (o : Option ContextId) → above_in mk x ≡ o → (option_any (same_context y) (above_in mk x) && told x) ≡ option_any (same_context y) (above_in mk x)
        by_above x among None up = subst (λ o. (option_any (same_context y) o && told x) ≡ option_any (same_context y) o) (sym up) refl
        by_above x among (Some a) up = subst (λ o. (option_any (same_context y) o && told x) ≡ option_any (same_context y) o) (sym up) (by_test x a among up (same_context y a) refl)

    told_in_order : own ≡ filter told all
    told_in_order = same_order mk l own (filter told all) holds own_order told_order (λ y held. same_below y held ∙ sym (told_below y held))

-- ---- at rest

module _ (r : Run) (p : ℕ) (rest : IsAtRest r p) where
  abbrev ms : List Moment
  ms = moments_of r.config r.journal

  abbrev mk : List Making
  mk = makings p (moments_of r.config r.journal)

  abbrev f : Facts
  f = facts_now r.config (moments_of r.config r.journal)

  abbrev s : Seen
  s = seen_now r.config p (moments_of r.config r.journal)

  abbrev h : List ProcessEvent
  h = events_of p (moments_of r.config r.journal)

  l : Lined mk
  l = own_lined r.config p r.journal (all r p rest)

  ft : FactsTies r.config.tabs mk f
  ft = facts_of_run r.config p mk ms l (run r p rest)

  all_order : Preorder mk f.contexts.order f.contexts.live
  all_order = parent_in_order r.config.tabs mk l (said ms) (run r p rest).told (run r p rest).fit

  own_order : Preorder mk s.order s.holds
  own_order = held_in_order r.config.tabs mk l p (did_by p ms) (run r p rest).done

  below_are : (y : ContextId) → s.holds y ≡ true → below_of mk y s.order ≡ below_of mk y f.contexts.order
  below_are y held =
      filter_within (λ x. option_any (same_context y) (above_in mk x)) (λ x. option_any (same_context y) (s.above x)) s.order
      (λ x among. ap (option_any (same_context y)) (sym ((st r p rest).held_above x (sym (own_order.members x) ∙ among))))
      ∙ has_the_same_frames r p y rest held
      ∙ filter_within (λ x. option_any (same_context y) (f.contexts.above x)) (λ x. option_any (same_context y) (above_in mk x)) f.contexts.order
      (λ x among. ap (option_any (same_context y)) (ft.known_above x (ft.live_known x (sym (all_order.members x) ∙ among))))

  -- it is told of a context if it is of the one above
  told_down : (x a : ContextId) → above_in mk x ≡ Some a → told r p rest x ≡ told r p rest a
  told_down x a up =
      told_by_group r.config p mk x h ∙ ap (option_any (λ g. group_told r.config p g h)) (group_step r.config.tabs mk l x a up) ∙ sym (told_by_group r.config p mk a h)

  order_is : s.order ≡ filter (λ x. is_told f p x) f.contexts.order
  order_is = told_in_order mk l f.contexts.order s.order f.contexts.live s.holds (λ x. is_told f p x) (told r p rest) all_order own_order
      told_down
      (λ x live. told_known r p rest x (ft.live_known x live))
      (λ x. holds_the_parents r p x rest)
      (λ x held. held_told r p rest x held)
      below_are

pub has_the_same_order : QuietHasTheSameOrder
has_the_same_order r p rest = order_is r p rest
