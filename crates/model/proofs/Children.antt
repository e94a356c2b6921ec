-- The children of a context, as the parent answers them in pre-order, are those that the events of a process tell.
use Rattle.std.proofs.Common.{◌≡◌, ℕ, ◌+◌, ◌<◌, Bool, true, false, not, ◌&&◌, if◌then◌else◌, Option, None, Some, List, [], ◌∷◌, ◌++◌, length, map, filter, zero, suc, refl, ap, ap₂, sym, subst, ◌∙◌, arith, append_assoc, cond}
use Rattle.std.specs.List.{AllByRecursion, list_any}
use Rattle.std.specs.Prelude.{is_some}
use Rattle.std.proofs.lemmas.List.{append-nil}
use Rattle.std.proofs.lemmas.List.Elements.{filter-append}
use Rattle.fission_ids.specs.declared.context.ContextId.{ContextId}
use Rattle.fission_ids.specs.declared.group.GroupId.{GroupId}
use Rattle.fission_ids.specs.Ids.{same_context}
use Rattle.transaction.specs.Transaction.{Changes}
use Rattle.wire_msgs.specs.declared.answer.Answer.{Answer}
use Rattle.wire_msgs.specs.declared.answer.Answer.TheVariants.{Parts}
use Rattle.wire_msgs.specs.declared.bundle.DownBundle.{DownBundle}
use Rattle.wire_msgs.specs.declared.bundle.UpBundle.{UpBundle}
use Rattle.wire_msgs.specs.declared.config.Config.{Config}
use Rattle.wire_msgs.specs.declared.config.StartTab.{StartTab}
use Rattle.wire_msgs.specs.declared.note.FieldNote.{FieldNote}
use Rattle.wire_msgs.specs.declared.part.DownPart.{DownPart}
use Rattle.wire_msgs.specs.declared.part.DownPart.TheVariants as downs
use Rattle.wire_msgs.specs.declared.part.UpPart.{UpPart}
use Rattle.wire_msgs.specs.declared.part.UpPart.TheVariants as ups
use Rattle.protocol.specs.Bundle.{bundle_for}
use Rattle.protocol.specs.Commits.{applied, sent_back}
use Rattle.protocol.specs.FactsAfter.{facts_after}
use Rattle.protocol.specs.Hear.{commit_unless_empty, values_where, is_noted, is_reverted}
use Rattle.protocol.specs.Order.{in_order}
use Rattle.protocol.specs.Questions.{Facts, option_any}
use Rattle.protocol.specs.Sayings.{Saying}
use Rattle.protocol.specs.Sayings.Saying.{Opened, Made, BornDead, Removed, Wrote, Acked, Subscribed, Counted, Sent, Ended}
use Rattle.protocol.specs.Start.{nth_context, numbers, contexts_of}
use Rattle.traces.specs.Event.Event.{Writes, Takes, Accepts, Reverts, Ignores}
use Rattle.traces.specs.Words.{Stage}
use Rattle.traces.specs.Words.Stage.{Coming, Held}
use Rattle.trees.specs.Children.{attached, live_below}
use Rattle.trees.specs.Look.{moved}
use Rattle.trees.specs.Look.Effect.{Stays}
use Rattle.trees.specs.Words.{life, is_held}
use Rattle.trees.proofs.Effects.{new_before}
use Rattle.model.specs.Lines.{Making, makings_said, line, above_in, is_among}
use Rattle.model.specs.Moments.{Moment, ProcessEvent, said, events_of, facts_now, told, heard, is_done, written}
use Rattle.model.specs.Moments.Written.{Own}
use Rattle.model.specs.Parent.{asked}
use Rattle.model.specs.Parent as parent
use Rattle.model.specs.Trees.{comes_if, goes_if, both, parts_do, parts_make, parts_tell, says_do, says_make, tree_look, tree_begin}
use Rattle.model.specs.View.{singles}
use Rattle.model.proofs.AskedMore.{asked_more}
use Rattle.model.proofs.Cases.{by_if, true_false, same_context_is, same_itself, some_is, none_some}
use Rattle.model.proofs.Entry.{FitsOver, IsSending, IsAck, IsAcking, Says, Entry, IsTold, IsKilled, HeardMade, HeardLate, HeardDrop, HeardAcks, HeardCommit, Hearing}
use Rattle.model.proofs.Entry.Entry.{Idle, Sets, Frames, Drops, TakesOne, Tells, Killing, HearsOne}
use Rattle.model.proofs.Entry.Hearing.{AsMade, AsLate, AsDrop, AsOldDrop, AsAcks, AsCommit, AsOldCommit, AsOver}
use Rattle.model.proofs.Fitting.{SayingFits, MadeFits, OpenedFits, FactsTies, told_first}
use Rattle.model.proofs.Lining.{Lined, IsToldBy}
use Rattle.model.proofs.Living.{LifeTies, both_moved, says_one, says_more, up_the_line, was_coming, opened_new, facts_all, life_all}
use Rattle.model.proofs.Ordered.{parent_start, order_still, opened_below, made_below, removed_below}
use Rattle.model.proofs.Preorder.{Preorder, filter_within, filter_all, filter_twice, below_of, is_outside}

-- ---- lists

pub all_join : (P : ContextId → Type 0) (xs ys : List ContextId) → AllByRecursion P xs → AllByRecursion P ys → AllByRecursion P (xs ++ ys)
all_join P [] ys one two = two
all_join P (x ∷ xs) ys one two = (one.0, all_join P xs ys one.1 two)

pub all_from : (P Q : ContextId → Type 0) (xs : List ContextId) → ((x : ContextId) → P x → Q x) → AllByRecursion P xs → AllByRecursion Q xs
all_from P Q [] f all = tt
all_from P Q (x ∷ xs) f all = (f x all.0, all_from P Q xs f all.1)

pub all_both : (P Q : ContextId → Type 0) (xs : List ContextId) → AllByRecursion P xs → AllByRecursion Q xs → AllByRecursion (λ x. P x × Q x) xs
all_both P Q [] one two = tt
all_both P Q (x ∷ xs) one two = ((one.0, two.0), all_both P Q xs one.1 two.1)

units : (zs : List ContextId) → AllByRecursion (λ z. Unit {0}) zs
units [] = tt
units (z ∷ zs) = (tt, units zs)

pub filter_of_none : (p : ContextId → Bool) (xs : List ContextId) → AllByRecursion (λ x. p x ≡ false) xs → filter p xs ≡ []
filter_of_none p [] all = refl
filter_of_none p (x ∷ xs) all = ap (λ (b : Bool). cond b (x ∷ filter p xs) (filter p xs)) all.0 ∙ filter_of_none p xs all.1

-- ---- the children of one

-- of those that were attached below y, each has come, and those that are live are the children that the parent has
pub record LiveBelow (mk : List Making) (y : ContextId) (f : Facts) (L : ContextId → Stage) (xs : List ContextId) : Type 0 where
  pub order : Preorder mk f.contexts.order f.contexts.live
  pub children : below_of mk y f.contexts.order ≡ filter (λ x. is_held (L x)) xs
  pub known : AllByRecursion (λ x. f.contexts.known x ≡ true) xs
  pub below : AllByRecursion (λ x. above_in mk x ≡ Some y) xs
  pub old : AllByRecursion (λ x. L x ≡ Coming → ⊥) xs

came_still : (P : ContextId → Type 0) (L M : ContextId → Stage) (xs : List ContextId) → AllByRecursion P xs → ((x : ContextId) → P x → M x ≡ Coming → L x ≡ Coming) → AllByRecursion (λ x. L x ≡ Coming → ⊥) xs
    → AllByRecursion (λ x. M x ≡ Coming → ⊥) xs
came_still P L M xs all before came = all_from (λ x. P x × (L x ≡ Coming → ⊥)) (λ x. M x ≡ Coming → ⊥) xs (λ x both new. both.1 (before x both.0 new)) (all_both P (λ x. L x ≡ Coming → ⊥) xs all came)

-- with lives that are the same of those
pub lives_same : (mk : List Making) (y : ContextId) (f : Facts) (L M : ContextId → Stage) (xs : List ContextId) (P : ContextId → Type 0) → AllByRecursion P xs → ((x : ContextId) → P x → L x ≡ M x)
    → LiveBelow mk y f L xs → LiveBelow mk y f M xs
lives_same mk y f L M xs P all same b = record {
  order = b.order;
  children = b.children ∙ filter_all P (λ x. is_held (L x)) (λ x. is_held (M x)) xs all (λ x in_it. ap is_held (same x in_it));
  known = b.known;
  below = b.below;
  old = came_still P L M xs all (λ x in_it new. same x in_it ∙ new) b.old;
}

module _ (tabs : List StartTab) (mk : List Making) (l : Lined mk) (y : ContextId) where
  -- where nothing comes and nothing goes
  below_same : (f g : Facts) (L : ContextId → Stage) (xs : List ContextId) → Preorder mk g.contexts.order g.contexts.live → below_of mk y g.contexts.order ≡ below_of mk y f.contexts.order
      → ((x : ContextId) → f.contexts.known x ≡ true → g.contexts.known x ≡ true) → LiveBelow mk y f L xs → LiveBelow mk y g L (xs ++ [])
  below_same f g L xs order same known b = subst (LiveBelow mk y g L) (sym (append-nil xs)) (record {
    order = order;
    children = same ∙ b.children;
    known = all_from (λ x. f.contexts.known x ≡ true) (λ x. g.contexts.known x ≡ true) xs known b.known;
    below = b.below;
    old = b.old;
  })

  below_made : (f : Facts) (L : ContextId → Stage) (xs : List ContextId) (p : ℕ) (x a : ContextId) → above_in mk x ≡ Some a → MadeFits f p x a → FactsTies tabs mk f → LifeTies mk f L
      → Preorder mk (facts_after (Made p x a) f).contexts.order (facts_after (Made p x a) f).contexts.live
      → LiveBelow mk y f L xs → LiveBelow mk y (facts_after (Made p x a) f) (λ z. moved (says_one mk z (Made p x a)) (L z)) (xs ++ says_make y (Made p x a ∷ []))
  unfolding facts_after
  below_made f L xs p x a up fits ft lt order b = record {
    order = order;
    children = made_below tabs mk l f p x a y up fits ft b.order ∙ ap (λ zs. zs ++ added) b.children ∙ sym (filter-append (λ z. is_held (M z)) xs added ∙ ap₂ (λ us vs. us ++ vs) old new);
    known = all_join (λ z. known_now z ≡ true) xs added (all_from (λ z. f.contexts.known z ≡ true) (λ z. known_now z ≡ true) xs (λ z e. by_if (λ v. v ≡ true) (same_context z x) true (f.contexts.known z) (λ is. refl) (λ isnt. e)) b.known) (known_added (same_context y a));
    below = all_join (λ z. above_in mk z ≡ Some y) xs added b.below (below_added (same_context y a) refl);
    old = all_join (λ z. M z ≡ Coming → ⊥) xs added
        (came_still (λ z. Unit {0}) L M xs (units xs) (λ z u new. new_before (says_one mk z (Made p x a)) (L z) new) b.old) (came_added (same_context y a) refl);
  }
    where
      M : ContextId → Stage
      M z = moved (says_one mk z (Made p x a)) (L z)

      known_now : ContextId → Bool
      known_now z = if same_context z x then true else f.contexts.known z

      added : List ContextId
      added = if same_context y a then x ∷ [] else []

      known_added : (v : Bool) → AllByRecursion (λ z. known_now z ≡ true) (if v then x ∷ [] else [])
      known_added true = (ap (λ (u : Bool). if u then true else f.contexts.known x) (same_itself x), tt)
      known_added false = tt

      below_added : (v : Bool) → same_context y a ≡ v → AllByRecursion (λ z. above_in mk z ≡ Some y) (if v then x ∷ [] else [])
      below_added true is = (up ∙ ap Some (sym (same_context_is y a is)), tt)
      below_added false isnt = tt

      another : (z : ContextId) → f.contexts.known z ≡ true → same_context z x ≡ false
      another z e = by_test (same_context z x) refl
        where
          by_test : (v : Bool) → same_context z x ≡ v → same_context z x ≡ false
          by_test false isnt = isnt
          by_test true is = true_false (f.contexts.known z) e (ap f.contexts.known (same_context_is z x is) ∙ fits.new)

      old : filter (λ z. is_held (moved (says_one mk z (Made p x a)) (L z))) xs ≡ filter (λ z. is_held (L z)) xs
      old = filter_all (λ z. f.contexts.known z ≡ true) (λ z. is_held (M z)) (λ z. is_held (L z)) xs b.known (λ z e. ap (λ v. is_held (moved (both (comes_if v) Stays) (L z))) (another z e))

      coming_x : same_context y a ≡ true → L x ≡ Coming
      coming_x is = was_coming tabs mk l f L x a lt fits.new up fits.live

      held_x : same_context y a ≡ true → moved (says_one mk x (Made p x a)) (L x) ≡ Held
      held_x is = ap₂ (λ v s. moved (both (comes_if v) Stays) s) (same_itself x) (coming_x is)

      came_added : (v : Bool) → same_context y a ≡ v → AllByRecursion (λ z. moved (says_one mk z (Made p x a)) (L z) ≡ Coming → ⊥) (if v then x ∷ [] else [])
      came_added true is = ((λ new. let two : Held ≡ Coming = sym (held_x is) ∙ new in absurd cc), tt)
      came_added false isnt = tt

      new : filter (λ z. is_held (moved (says_one mk z (Made p x a)) (L z))) (if same_context y a then x ∷ [] else []) ≡ (if same_context y a then x ∷ [] else [])
      new = by_test (same_context y a) refl
        where
          by_test : (v : Bool) → same_context y a ≡ v → filter (λ z. is_held (moved (says_one mk z (Made p x a)) (L z))) (if v then x ∷ [] else []) ≡ (if v then x ∷ [] else [])
          by_test false isnt = refl
          by_test true is = ap (λ (s : Stage). cond (is_held s) (x ∷ []) []) (held_x is)

  -- a context that is opened is below none
  below_opened : (f : Facts) (L : ContextId → Stage) (xs : List ContextId) (x : ContextId) (g : GroupId) (is_new : Bool) (p : ℕ) → OpenedFits f x p → FactsTies tabs mk f
      → Preorder mk (facts_after (Opened x g is_new p) f).contexts.order (facts_after (Opened x g is_new p) f).contexts.live
      → LiveBelow mk y f L xs → LiveBelow mk y (facts_after (Opened x g is_new p) f) (λ z. moved (says_one mk z (Opened x g is_new p)) (L z)) (xs ++ [])
  unfolding facts_after
  below_opened f L xs x g is_new p fits ft order b = subst (LiveBelow mk y (facts_after (Opened x g is_new p) f) (λ z. moved (says_one mk z (Opened x g is_new p)) (L z))) (sym (append-nil xs)) (record {
    order = order;
    children = opened_below tabs mk l f x g is_new p y fits ∙ b.children ∙ sym (filter_all (λ z. f.contexts.known z ≡ true) (λ z. is_held (M z)) (λ z. is_held (L z)) xs b.known (λ z e. ap is_held (same z e)));
    known = all_from (λ z. f.contexts.known z ≡ true) (λ z. (if same_context z x then true else f.contexts.known z) ≡ true) xs (λ z e. by_if (λ v. v ≡ true) (same_context z x) true (f.contexts.known z) (λ is. refl) (λ isnt. e)) b.known;
    below = b.below;
    old = came_still (λ z. f.contexts.known z ≡ true) L M xs b.known (λ z e new. sym (same z e) ∙ new) b.old;
  })
    where
      M : ContextId → Stage
      M z = moved (says_one mk z (Opened x g is_new p)) (L z)

      another : (z : ContextId) → f.contexts.known z ≡ true → same_context z x ≡ false
      another z e = by_test (same_context z x) refl
        where
          by_test : (v : Bool) → same_context z x ≡ v → same_context z x ≡ false
          by_test false isnt = isnt
          by_test true is = true_false (f.contexts.known z) e (ap f.contexts.known (same_context_is z x is) ∙ opened_new tabs mk f x p ft fits)

      same : (z : ContextId) → f.contexts.known z ≡ true → moved (says_one mk z (Opened x g is_new p)) (L z) ≡ L z
      same z e = ap (λ v. moved (both (comes_if v) Stays) (L z)) (another z e)

  below_removed : (f : Facts) (L : ContextId → Stage) (xs : List ContextId) (w : ContextId) (but : Option ℕ) → FactsTies tabs mk f
      → Preorder mk (facts_after (Removed w but) f).contexts.order (facts_after (Removed w but) f).contexts.live
      → LiveBelow mk y f L xs → LiveBelow mk y (facts_after (Removed w but) f) (λ z. moved (says_one mk z (Removed w but)) (L z)) (xs ++ [])
  unfolding facts_after
  below_removed f L xs w but ft order b = subst (LiveBelow mk y (facts_after (Removed w but) f) (λ z. moved (says_one mk z (Removed w but)) (L z))) (sym (append-nil xs)) (record {
    order = order;
    children = removed_below tabs mk l f w but y ft b.order ∙ ap (filter (is_outside mk l w)) b.children ∙ filter_twice (is_outside mk l w) (λ z. is_held (L z)) xs
        ∙ filter_all (λ z. above_in mk z ≡ Some y) (λ z. is_outside mk l w z && is_held (L z)) (λ z. is_held (moved (says_one mk z (Removed w but)) (L z))) xs b.below (λ z e. left (is_among w (line z mk)) (L z));
    known = b.known;
    below = b.below;
    old = came_still (λ z. Unit {0}) L (λ z. moved (says_one mk z (Removed w but)) (L z)) xs (units xs) (λ z u new. new_before (says_one mk z (Removed w but)) (L z) new) b.old;
  })
    where
      left : (v : Bool) (s : Stage) → (not v && is_held s) ≡ is_held (moved (both (goes_if v) Stays) s)
      left true s = refl
      left false s = refl

  pub below_still : (f : Facts) (L : ContextId → Stage) (xs : List ContextId) (s : Saying) → AllByRecursion (IsToldBy mk) (makings_said (s ∷ [])) → SayingFits f s → FactsTies tabs mk f → LifeTies mk f L
      → Preorder mk (facts_after s f).contexts.order (facts_after s f).contexts.live
      → LiveBelow mk y f L xs → LiveBelow mk y (facts_after s f) (λ z. moved (says_one mk z s) (L z)) (xs ++ says_make y (s ∷ []))
  unfolding facts_after
  below_still f L xs (Opened x g is_new p) told fits ft lt order b = below_opened f L xs x g is_new p fits ft order b
  below_still f L xs (Made p x a) told fits ft lt order b = below_made f L xs p x a told.0 fits ft lt order b
  below_still f L xs (BornDead p x a) told fits ft lt order b =
      below_same f (facts_after (BornDead p x a) f) L xs order refl (λ z e. by_if (λ v. v ≡ true) (same_context z x) true (f.contexts.known z) (λ is. refl) (λ isnt. e)) b
  below_still f L xs (Removed w but) told fits ft lt order b = below_removed f L xs w but ft order b
  below_still f L xs (Subscribed p g) told fits ft lt order b = below_same f (facts_after (Subscribed p g) f) L xs order refl (λ z e. e) b
  below_still f L xs (Wrote x c) told fits ft lt order b = below_same f (facts_after (Wrote x c) f) L xs order refl (λ z e. e) b
  below_still f L xs (Acked p x) told fits ft lt order b = below_same f (facts_after (Acked p x) f) L xs order refl (λ z e. e) b
  below_still f L xs (Counted p) told fits ft lt order b = below_same f (facts_after (Counted p) f) L xs order refl (λ z e. e) b
  below_still f L xs (Sent p) told fits ft lt order b = below_same f (facts_after (Sent p) f) L xs order refl (λ z e. e) b
  below_still f L xs (Ended p cause) told fits ft lt order b = below_same f (facts_after (Ended p cause) f) L xs order refl (λ z e. e) b

  makes_more : (s : Saying) (ys : List Saying) → says_make y (s ∷ ys) ≡ says_make y ys ++ says_make y (s ∷ [])
  makes_more (Made p x a) ys = refl
  makes_more (_) ys = sym (append-nil (says_make y ys))

  -- ---- all that is said in an entry

  module _ (c : Config) (same_tabs : tabs ≡ c.tabs) (old : List Saying) where
    pub below_all : (L : ContextId → Stage) (xs : List ContextId) (ys : List Saying) → AllByRecursion (IsToldBy mk) (makings_said ys) → FitsOver c old ys → FactsTies c.tabs mk (asked c.tabs old) → LifeTies mk (asked c.tabs old) L
        → LiveBelow mk y (asked c.tabs old) L xs → LiveBelow mk y (asked c.tabs (ys ++ old)) (λ z. moved (says_do z (line z mk) ys) (L z)) (xs ++ says_make y ys)
    below_all L xs [] told fits ft lt b = subst (LiveBelow mk y (asked c.tabs old) L) (sym (append-nil xs)) b
    below_all L xs (s ∷ ys) told fits ft lt b =
        let parts : AllByRecursion (IsToldBy mk) (makings_said (s ∷ [])) × AllByRecursion (IsToldBy mk) (makings_said ys) = told_first mk s ys told in
        let before : LiveBelow mk y (asked c.tabs (ys ++ old)) (λ z. moved (says_do z (line z mk) ys) (L z)) (xs ++ says_make y ys) = below_all L xs ys parts.1 fits.1 ft lt b in
        let ties : FactsTies tabs mk (asked c.tabs (ys ++ old)) = subst (λ ts. FactsTies ts mk (asked c.tabs (ys ++ old))) (sym same_tabs) (facts_all tabs mk l c same_tabs old ys parts.1 fits.1 ft) in
        let lives : LifeTies mk (asked c.tabs (ys ++ old)) (λ z. moved (says_do z (line z mk) ys) (L z)) = life_all tabs mk l c same_tabs old L ys parts.1 fits.1 ft lt in
        let now : LiveBelow mk y (facts_after s (asked c.tabs (ys ++ old))) (λ z. moved (says_one mk z s) (moved (says_do z (line z mk) ys) (L z))) ((xs ++ says_make y ys) ++ says_make y (s ∷ [])) =
        below_still (asked c.tabs (ys ++ old)) (λ z. moved (says_do z (line z mk) ys) (L z)) (xs ++ says_make y ys) s parts.0 fits.0 ties lives
        (order_still tabs mk l (asked c.tabs (ys ++ old)) s parts.0 fits.0 ties before.order) before in
        subst (λ g. LiveBelow mk y g (λ z. moved (says_do z (line z mk) (s ∷ ys)) (L z)) (xs ++ says_make y (s ∷ ys))) (sym (asked_more c.tabs s (ys ++ old)))
        (lives_same mk y (facts_after s (asked c.tabs (ys ++ old))) (λ z. moved (says_one mk z s) (moved (says_do z (line z mk) ys) (L z))) (λ z. moved (says_do z (line z mk) (s ∷ ys)) (L z)) (xs ++ says_make y (s ∷ ys)) (λ z. Unit {0}) (units (xs ++ says_make y (s ∷ ys)))
        (λ z u. sym (both_moved (says_one mk z s) (says_do z (line z mk) ys) (L z)) ∙ ap (λ e. moved e (L z)) (sym (says_more mk z s ys)))
        (subst (LiveBelow mk y (facts_after s (asked c.tabs (ys ++ old))) (λ z. moved (says_one mk z s) (moved (says_do z (line z mk) ys) (L z)))) (append_assoc xs (says_make y ys) (says_make y (s ∷ [])) ∙ ap (λ zs. xs ++ zs) (sym (makes_more s ys))) now))

-- ---- as the events of the process tell it

abbrev pub ChildrenLive : Config → ℕ → List Making → Facts → List ProcessEvent → Type 0
ChildrenLive c p mk f h = (y : ContextId) → LiveBelow mk y f (λ x. life (tree_look c p mk) (tree_begin c p mk) x h) (attached (tree_look c p mk) y h)

-- so the parent's order has them as they stand there
pub children_live : (c : Config) (p : ℕ) (mk : List Making) (f : Facts) (h : List ProcessEvent) → FactsTies c.tabs mk f → ChildrenLive c p mk f h → (y : ContextId)
    → filter (λ x. option_any (same_context y) (f.contexts.above x)) f.contexts.order ≡ live_below (tree_look c p mk) (tree_begin c p mk) y h
children_live c p mk f h ft b y =
    filter_within (λ x. option_any (same_context y) (f.contexts.above x)) (λ x. option_any (same_context y) (above_in mk x)) f.contexts.order
    (λ x among. ap (option_any (same_context y)) (ft.known_above x (ft.live_known x (sym ((b y).order.members x) ∙ among))))
    ∙ (b y).children

pub children_at_start : (c : Config) (p : ℕ) (mk : List Making) → Lined mk → ChildrenLive c p mk (facts_now c []) (events_of p [])
unfolding parent.order
children_at_start c p mk l y = record {
  order = parent_start c.tabs mk l;
  children = filter_of_none (λ x. option_any (same_context y) (above_in mk x)) (contexts_of c.tabs) (tops 1 (length c.tabs));
  known = tt;
  below = tt;
  old = tt;
}
  where
    tops : (k n : ℕ) → AllByRecursion (λ x. option_any (same_context y) (above_in mk x) ≡ false) (map nth_context (numbers k n))
    tops k zero = tt
    tops k (suc n) = (ap (option_any (same_context y)) (l.tabs (nth_context k) refl), tops (suc k) n)

-- ---- an entry

module _ (c : Config) (p : ℕ) (ms : List Moment) (m : Moment) (mk : List Making) (l : Lined mk) (ft : FactsTies c.tabs mk (facts_now c ms)) (told_all : AllByRecursion (IsToldBy mk) (makings_said m.says))
    (lives : LifeTies mk (facts_now c ms) (λ x. life (tree_look c p mk) (tree_begin c p mk) x (events_of p ms))) (b : ChildrenLive c p mk (facts_now c ms) (events_of p ms))
  where
    abbrev life_of : ContextId → List ProcessEvent → Stage
    life_of x h = life (tree_look c p mk) (tree_begin c p mk) x h

    -- the children behind what was said
    behind : (y : ContextId) → FitsOver c (said ms) m.says
        → LiveBelow mk y (facts_now c (m ∷ ms)) (λ z. moved (says_do z (line z mk) m.says) (life (tree_look c p mk) (tree_begin c p mk) z (events_of p ms))) (attached (tree_look c p mk) y (events_of p ms) ++ says_make y m.says)
    behind y fits = below_all c.tabs mk l y c refl (said ms) (λ z. life_of z (events_of p ms)) (attached (tree_look c p mk) y (events_of p ms)) m.says told_all fits ft lives (b y)

    -- where the events do what is said
    by_events : (es : List ProcessEvent) → m.events p ≡ es → FitsOver c (said ms) m.says
        → ((x : ContextId) → life (tree_look c p mk) (tree_begin c p mk) x (es ++ events_of p ms) ≡ moved (says_do x (line x mk) m.says) (life (tree_look c p mk) (tree_begin c p mk) x (events_of p ms)))
        → ((y : ContextId) → attached (tree_look c p mk) y (es ++ events_of p ms) ≡ attached (tree_look c p mk) y (events_of p ms) ++ says_make y m.says)
        → ChildrenLive c p mk (facts_now c (m ∷ ms)) (m.events p ++ events_of p ms)
    by_events es is fits same makes = subst (λ ds. ChildrenLive c p mk (facts_now c (m ∷ ms)) (ds ++ events_of p ms)) (sym is) (λ y.
        let now : LiveBelow mk y (facts_now c (m ∷ ms)) (λ z. moved (says_do z (line z mk) m.says) (life_of z (events_of p ms))) (attached (tree_look c p mk) y (es ++ events_of p ms)) =
        subst (LiveBelow mk y (facts_now c (m ∷ ms)) (λ z. moved (says_do z (line z mk) m.says) (life_of z (events_of p ms)))) (sym (makes y)) (behind y fits) in
        lives_same mk y (facts_now c (m ∷ ms)) (λ z. moved (says_do z (line z mk) m.says) (life_of z (events_of p ms))) (λ z. life_of z (es ++ events_of p ms)) (attached (tree_look c p mk) y (es ++ events_of p ms)) (λ z. above_in mk z ≡ Some y) now.below
        (λ z up. sym (same z)) now)

    -- ---- what is said to it

    by_telling : (k : ℕ) (o : Option DownBundle) (x : ContextId) → life (tree_look c p mk) (tree_begin c p mk) x (told k m.says o ∷ events_of p ms) ≡ moved (says_do x (line x mk) m.says) (life (tree_look c p mk) (tree_begin c p mk) x (events_of p ms))
    by_telling k None x = refl
    by_telling k (Some d) x = refl

    told_makes : (k : ℕ) (o : Option DownBundle) (y : ContextId) → attached (tree_look c p mk) y (told k m.says o ∷ events_of p ms) ≡ attached (tree_look c p mk) y (events_of p ms) ++ says_make y m.says
    told_makes k None y = refl
    told_makes k (Some d) y = refl

    pub told_kept : (posts : List DownPart) → IsTold c p ms m posts → ChildrenLive c p mk (facts_now c (m ∷ ms)) (m.events p ++ events_of p ms)
    told_kept posts e =
        let o : Option DownBundle = bundle_for (facts_now c (m ∷ ms)) p (in_order posts) in
        by_events (told (length ms + 1) m.says o ∷ []) e.events e.fits (by_telling (length ms + 1) o) (told_makes (length ms + 1) o)

    pub killed_kept : (d : DownBundle) → p < 16 → IsKilled c p ms m d → ChildrenLive c p mk (facts_now c (m ∷ ms)) (m.events p ++ events_of p ms)
    killed_kept d low e =
        by_events _ e.events (subst (FitsOver c (said ms)) (sym e.says) (tt, (low, tt))) (by_telling (length ms + 1) (Some d)) (told_makes (length ms + 1) (Some d))

    -- ---- what is heard of it

    sent_do : (x : ContextId) (ln : List ContextId) (sent core : List Saying) → AllByRecursion IsSending sent → says_do x ln (sent ++ core) ≡ says_do x ln core
    sent_do x ln [] core all = refl
    sent_do x ln (Sent q ∷ sent) core all = sent_do x ln sent core all.1
    sent_do x ln (_ ∷ sent) core all = absurd all.0

    sent_make : (y : ContextId) (sent core : List Saying) → AllByRecursion IsSending sent → says_make y (sent ++ core) ≡ says_make y core
    sent_make y [] core all = refl
    sent_make y (Sent q ∷ sent) core all = sent_make y sent core all.1
    sent_make y (_ ∷ sent) core all = absurd all.0

    sent_fit : (sent core : List Saying) → AllByRecursion IsSending sent → FitsOver c (said ms) core → FitsOver c (said ms) (sent ++ core)
    sent_fit [] core all fits = fits
    sent_fit (Sent q ∷ sent) core all fits = (tt, sent_fit sent core all.1 fits)
    sent_fit (_ ∷ sent) core all fits = absurd all.0

    core_do : (core : List Saying) → Says c p ms m core → (x : ContextId) (ln : List ContextId) → says_do x ln m.says ≡ says_do x ln core
    core_do core s x ln = ap (says_do x ln) s.is ∙ sent_do x ln s.sent core s.all_sent

    core_make : (core : List Saying) → Says c p ms m core → (y : ContextId) → says_make y m.says ≡ says_make y core
    core_make core s y = ap (says_make y) s.is ∙ sent_make y s.sent core s.all_sent

    core_fit : (core : List Saying) → Says c p ms m core → FitsOver c (said ms) core → FitsOver c (said ms) m.says
    core_fit core s fits = subst (FitsOver c (said ms)) (sym s.is) (sent_fit s.sent core s.all_sent fits)

    -- it does what the bundle does
    accepted : (b' : UpBundle) → m.events p ≡ Accepts (length ms + 1) (Own b') ∷ [] → FitsOver c (said ms) m.says
        → ((x : ContextId) → parts_do x (line x mk) b'.parts ≡ says_do x (line x mk) m.says) → ((y : ContextId) → parts_make y b'.parts ≡ says_make y m.says) → ChildrenLive c p mk (facts_now c (m ∷ ms)) (m.events p ++ events_of p ms)
    accepted b' is fits does makes = by_events (Accepts (length ms + 1) (Own b') ∷ []) is fits
        (λ x. ap (λ e. moved e (life_of x (events_of p ms))) (does x)) (λ y. ap (λ zs. attached (tree_look c p mk) y (events_of p ms) ++ zs) (makes y))

    -- nothing of a tree happens
    unmoved : (es : List ProcessEvent) → m.events p ≡ es → FitsOver c (said ms) m.says → ((x : ContextId) → says_do x (line x mk) m.says ≡ Stays) → ((y : ContextId) → says_make y m.says ≡ [])
        → ((x : ContextId) → life (tree_look c p mk) (tree_begin c p mk) x (es ++ events_of p ms) ≡ life (tree_look c p mk) (tree_begin c p mk) x (events_of p ms))
        → ((y : ContextId) → attached (tree_look c p mk) y (es ++ events_of p ms) ≡ attached (tree_look c p mk) y (events_of p ms)) → ChildrenLive c p mk (facts_now c (m ∷ ms)) (m.events p ++ events_of p ms)
    unmoved es is fits stays none same more = by_events es is fits
        (λ x. same x ∙ sym (ap (λ e. moved e (life_of x (events_of p ms))) (stays x)))
        (λ y. more y ∙ sym (append-nil (attached (tree_look c p mk) y (events_of p ms))) ∙ ap (λ zs. attached (tree_look c p mk) y (events_of p ms) ++ zs) (sym (none y)))

    unsaid : (es : List ProcessEvent) → m.events p ≡ es → m.says ≡ [] → ((x : ContextId) → life (tree_look c p mk) (tree_begin c p mk) x (es ++ events_of p ms) ≡ life (tree_look c p mk) (tree_begin c p mk) x (events_of p ms))
        → ((y : ContextId) → attached (tree_look c p mk) y (es ++ events_of p ms) ≡ attached (tree_look c p mk) y (events_of p ms)) → ChildrenLive c p mk (facts_now c (m ∷ ms)) (m.events p ++ events_of p ms)
    unsaid es is none same more = unmoved es is (subst (FitsOver c (said ms)) (sym none) tt) (λ x. ap (says_do x (line x mk)) none) (λ y. ap (says_make y) none) same more

    made_kept : (b' : UpBundle) (x a : ContextId) → HeardMade c p ms m b' x a → ChildrenLive c p mk (facts_now c (m ∷ ms)) (m.events p ++ events_of p ms)
    made_kept b' x a e = accepted b' e.events (core_fit (Made p x a ∷ []) e.says (e.fits, tt))
        (λ z. ap (parts_do z (line z mk)) e.parts ∙ sym (core_do (Made p x a ∷ []) e.says z (line z mk)))
        (λ y. ap (parts_make y) e.parts ∙ sym (core_make (Made p x a ∷ []) e.says y))

    drop_kept : (b' : UpBundle) (x : ContextId) → HeardDrop c p ms m b' x → ChildrenLive c p mk (facts_now c (m ∷ ms)) (m.events p ++ events_of p ms)
    drop_kept b' x e = accepted b' e.events (core_fit (Removed x (Some p) ∷ []) e.says (e.live, tt))
        (λ z. ap (parts_do z (line z mk)) e.parts ∙ sym (core_do (Removed x (Some p) ∷ []) e.says z (line z mk)))
        (λ y. ap (parts_make y) e.parts ∙ sym (core_make (Removed x (Some p) ∷ []) e.says y))

    acks_kept : (b' : UpBundle) → HeardAcks c p ms m b' → ChildrenLive c p mk (facts_now c (m ∷ ms)) (m.events p ++ events_of p ms)
    acks_kept b' e = accepted b' e.events (fit m.says e.says) (λ z. parts_stay z (line z mk) b'.parts e.parts ∙ sym (says_stay z (line z mk) m.says e.says)) (λ y. parts_none y b'.parts e.parts ∙ sym (says_none y m.says e.says))
      where
        fit : (ys : List Saying) → AllByRecursion IsAcking ys → FitsOver c (said ms) ys
        fit [] all = tt
        fit (Sent q ∷ ys) all = (tt, fit ys all.1)
        fit (Acked q x ∷ ys) all = (tt, fit ys all.1)
        fit (_ ∷ ys) all = absurd all.0

        says_stay : (x : ContextId) (ln : List ContextId) (ys : List Saying) → AllByRecursion IsAcking ys → says_do x ln ys ≡ Stays
        says_stay x ln [] all = refl
        says_stay x ln (Sent q ∷ ys) all = says_stay x ln ys all.1
        says_stay x ln (Acked q z ∷ ys) all = says_stay x ln ys all.1
        says_stay x ln (_ ∷ ys) all = absurd all.0

        says_none : (y : ContextId) (ys : List Saying) → AllByRecursion IsAcking ys → says_make y ys ≡ []
        says_none y [] all = refl
        says_none y (Sent q ∷ ys) all = says_none y ys all.1
        says_none y (Acked q z ∷ ys) all = says_none y ys all.1
        says_none y (_ ∷ ys) all = absurd all.0

        parts_stay : (z : ContextId) (ln : List ContextId) (parts : List UpPart) → AllByRecursion IsAck parts → parts_do z ln parts ≡ Stays
        parts_stay z ln [] all = refl
        parts_stay z ln (ups.DropAck x ∷ parts) all = parts_stay z ln parts all.1
        parts_stay z ln (_ ∷ parts) all = absurd all.0

        parts_none : (y : ContextId) (parts : List UpPart) → AllByRecursion IsAck parts → parts_make y parts ≡ []
        parts_none y [] all = refl
        parts_none y (ups.DropAck x ∷ parts) all = parts_none y parts all.1
        parts_none y (_ ∷ parts) all = absurd all.0

    -- what was made too late is known to nobody yet, so nothing is below it
    late_kept : (b' : UpBundle) (x a : ContextId) (d : DownBundle) → HeardLate c p ms m b' x a d → ChildrenLive c p mk (facts_now c (m ∷ ms)) (m.events p ++ events_of p ms)
    late_kept b' x a d e = subst (λ ds. ChildrenLive c p mk (facts_now c (m ∷ ms)) (ds ++ events_of p ms)) (sym e.events) (λ y.
        let before : LiveBelow mk y (facts_now c ms) (λ z. life_of z (events_of p ms)) (attached (tree_look c p mk) y (events_of p ms)) = b y in
        let now : LiveBelow mk y (facts_now c (m ∷ ms)) (λ z. moved (says_do z (line z mk) m.says) (life_of z (events_of p ms))) (attached (tree_look c p mk) y (events_of p ms)) =
        subst (LiveBelow mk y (facts_now c (m ∷ ms)) (λ z. moved (says_do z (line z mk) m.says) (life_of z (events_of p ms)))) (ap (λ zs. attached (tree_look c p mk) y (events_of p ms) ++ zs) (core_make (BornDead p x a ∷ []) e.says y) ∙ append-nil (attached (tree_look c p mk) y (events_of p ms)))
        (behind y (core_fit (BornDead p x a ∷ []) e.says (e.fits, tt))) in
        lives_same mk y (facts_now c (m ∷ ms)) (λ z. moved (says_do z (line z mk) m.says) (life_of z (events_of p ms))) (λ z. life_of z (Reverts (length ms + 1) (Own b') d ∷ events_of p ms)) (attached (tree_look c p mk) y (events_of p ms)) (λ z. (facts_now c ms).contexts.known z ≡ true) before.known
        (λ z known. ap (λ g. moved g (life_of z (events_of p ms))) (core_do (BornDead p x a ∷ []) e.says z (line z mk) ∙ sym (ap (λ ps. parts_tell z (line z mk) (singles ps)) e.back ∙ outside z known))) now)
      where
        outside : (z : ContextId) → (facts_now c ms).contexts.known z ≡ true → both (goes_if (is_among x (line z mk))) Stays ≡ Stays
        outside z known = by_line (is_among x (line z mk)) refl
          where
            by_line : (v : Bool) → is_among x (line z mk) ≡ v → both (goes_if v) Stays ≡ Stays
            by_line false isnt = refl
            by_line true is = true_false ((facts_now c ms).contexts.known x)
                (up_the_line mk (λ w. (facts_now c ms).contexts.known w ≡ true) l (λ w u on up. ft.above_known w u on up) (length (line z mk)) x z (omega arith) known is) e.fits.new

    -- a commit
    abbrev IsCommit : DownPart → Type 0
    IsCommit (downs.Commit x cs) = Unit {0}
    IsCommit part = ⊥

    back_commits : (x : ContextId) (cs : Changes) → AllByRecursion IsCommit (commit_unless_empty x cs)
    back_commits x cs = by_if (AllByRecursion IsCommit) (list_any is_some cs) (downs.Commit x cs ∷ []) [] (λ is. (tt, tt)) (λ isnt. tt)

    bundle_parts : (f : Facts) (parts : List DownPart) (d : DownBundle) → AllByRecursion IsCommit parts → Some d ≡ bundle_for f p parts → AllByRecursion IsCommit d.parts
    bundle_parts f [] d all is = none_some d (sym is)
    bundle_parts f (part ∷ parts) d all is = subst (λ (g : DownBundle). AllByRecursion IsCommit g.parts) (some_is (record { epoch = record { 0 = f.processes.commits_heard p }; parts = part ∷ parts }) d (sym is)) all

    commits_tell : (z : ContextId) (ln : List ContextId) (parts : List DownPart) → AllByRecursion IsCommit parts → parts_tell z ln (singles parts) ≡ Stays
    commits_tell z ln [] all = refl
    commits_tell z ln (downs.Commit x cs ∷ parts) all = commits_tell z ln parts all.1
    commits_tell z ln (_ ∷ parts) all = absurd all.0

    abbrev heard_as : UpBundle → Option DownBundle → List ProcessEvent
    heard_as b' None = Accepts (length ms + 1) (Own b') ∷ []
    heard_as b' (Some d) = Reverts (length ms + 1) (Own b') d ∷ []

    heard_done : (b' : UpBundle) (answer : Answer) (back : Option DownBundle) → is_done answer ≡ true → heard (length ms + 1) (Own b') answer m.says back ≡ heard_as b' back
    heard_done b' (Parts ns) None done = ap (λ (v : Bool). (if v then Accepts (length ms + 1) (Own b') else Ignores (length ms + 1) (Own b')) ∷ []) done
    heard_done b' (Parts ns) (Some d) done = refl
    heard_done b' (_) back done = absurd cc

    live_counted : (x : ContextId) → (facts_now c ms).contexts.live x ≡ true → (asked c.tabs (Counted p ∷ said ms)).contexts.live x ≡ true
    unfolding parent.live
    live_counted x live = live

    commit_kept : (b' : UpBundle) (x : ContextId) (cs : Changes) (ns : List FieldNote) (back : Option DownBundle) → HeardCommit c p ms m b' x cs ns back → ChildrenLive c p mk (facts_now c (m ∷ ms)) (m.events p ++ events_of p ms)
    commit_kept b' x cs ns back e = by_back back e.is_back (e.events ∙ heard_done b' m.answer back e.done)
      where
        core : List Saying
        core = Wrote x (applied ns cs) ∷ Counted p ∷ []

        fits : FitsOver c (said ms) m.says
        fits = core_fit core e.says (live_counted x e.live, (tt, tt))

        by_back : (o : Option DownBundle) → o ≡ bundle_for (facts_now c (m ∷ ms)) p (sent_back ns (facts_now c ms) x) → m.events p ≡ heard_as b' o → ChildrenLive c p mk (facts_now c (m ∷ ms)) (m.events p ++ events_of p ms)
        by_back None is events = accepted b' events fits
            (λ z. ap (parts_do z (line z mk)) e.parts ∙ sym (core_do core e.says z (line z mk))) (λ y. ap (parts_make y) e.parts ∙ sym (core_make core e.says y))
        by_back (Some d) is events =
            let all : AllByRecursion IsCommit d.parts = bundle_parts (facts_now c (m ∷ ms)) (sent_back ns (facts_now c ms) x) d (back_commits x (values_where (is_noted is_reverted ns) (facts_now c ms) x)) is in
            unmoved (Reverts (length ms + 1) (Own b') d ∷ []) events fits (λ z. core_do core e.says z (line z mk)) (λ y. core_make core e.says y)
            (λ z. ap (λ g. moved g (life_of z (events_of p ms))) (commits_tell z (line z mk) d.parts all))
            (λ y. refl)

    pub heard_kept : (b' : UpBundle) → Hearing c p ms m b' → ChildrenLive c p mk (facts_now c (m ∷ ms)) (m.events p ++ events_of p ms)
    heard_kept b' (AsMade x a e) = made_kept b' x a e
    heard_kept b' (AsLate x a d e) = late_kept b' x a d e
    heard_kept b' (AsDrop x e) = drop_kept b' x e
    heard_kept b' (AsOldDrop x e) = unsaid (Ignores (length ms + 1) (Own b') ∷ []) e.events e.says (λ z. refl) (λ y. refl)
    heard_kept b' (AsAcks e) = acks_kept b' e
    heard_kept b' (AsCommit x cs ns back e) = commit_kept b' x cs ns back e
    heard_kept b' (AsOldCommit x cs e) =
        unmoved (Ignores (length ms + 1) (Own b') ∷ []) e.events (subst (FitsOver c (said ms)) (sym e.says) (tt, tt)) (λ z. ap (says_do z (line z mk)) e.says) (λ y. ap (says_make y) e.says) (λ z. refl) (λ y. refl)
    heard_kept b' (AsOver e) = unsaid (Ignores (length ms + 1) (Own b') ∷ []) e.events e.says (λ z. refl) (λ y. refl)

    -- ---- what it does itself

    module _ (low : p < 16) where
      pub children_kept : Entry c p ms m → ChildrenLive c p mk (facts_now c (m ∷ ms)) (m.events p ++ events_of p ms)
      children_kept (Idle e) = unsaid [] e.events e.says (λ z. refl) (λ y. refl)
      children_kept (Sets x t b' e) = unsaid _ e.events e.says (λ z. refl) (λ y. refl)
      children_kept (Frames a b' e) = unsaid _ e.events e.says (λ z. refl) (λ y. refl)
      children_kept (Drops x b' e) = unsaid _ e.events e.says (λ z. refl) (λ y. refl)
      children_kept (TakesOne d rest e) = taken_kept _ e.events e.says
        where
          taken_kept : (o : Option UpBundle) → m.events p ≡ written o ++ Takes d ∷ [] → m.says ≡ [] → ChildrenLive c p mk (facts_now c (m ∷ ms)) (m.events p ++ events_of p ms)
          taken_kept None is none = unsaid (Takes d ∷ []) is none (λ z. refl) (λ y. refl)
          taken_kept (Some u) is none = unsaid (Writes (Own u) ∷ Takes d ∷ []) is none (λ z. refl) (λ y. refl)
      children_kept (Tells posts e) = told_kept posts e
      children_kept (Killing d e) = killed_kept d low e
      children_kept (HearsOne b' rest first e) = heard_kept b' e
