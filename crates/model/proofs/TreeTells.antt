-- What a process is told of keeps what the parent answers of the trees; a kill does nothing to them.
use Rattle.std.proofs.Common.{◌≡◌, ◌⊎◌, inl, inr, ℕ, ◌+◌, ◌<◌, ◌==◌, Bool, true, false, ◌&&◌, ◌||◌, Option, None, Some, List, [], ◌∷◌, ◌++◌, length, refl, ap, ap₂, sym, subst, ◌∙◌, arith, eqb-true, eq-eqb}
use Rattle.std.specs.Prelude.{nat_lt, nat_le}
use Rattle.std.specs.List.{AllByRecursion}
use Rattle.fission_ids.specs.declared.context.ContextId.{ContextId}
use Rattle.fission_ids.specs.declared.group.GroupId.{GroupId}
use Rattle.fission_ids.specs.Ids.{same_context}
use Rattle.wire_msgs.specs.declared.bundle.DownBundle.{DownBundle}
use Rattle.wire_msgs.specs.declared.config.Config.{Config}
use Rattle.wire_msgs.specs.declared.part.DownPart.{DownPart}
use Rattle.protocol.specs.Bundle.{bundle_for}
use Rattle.protocol.specs.Hear.{is_new_frame}
use Rattle.protocol.specs.Order.{in_order}
use Rattle.protocol.specs.Questions.{is_subscribed}
use Rattle.protocol.specs.Sayings.{Saying}
use Rattle.protocol.specs.Sayings.Saying.{Opened, Made, BornDead}
use Rattle.traces.specs.Event.Event.{Sends, Changes}
use Rattle.traces.specs.Links.{is_ended}
use Rattle.traces.specs.Rules.{Flows}
use Rattle.trees.specs.Children.{owned}
use Rattle.trees.specs.Look.{moved, owned_behind, Look, Begin}
use Rattle.trees.specs.Rules.{Fit}
use Rattle.trees.specs.Words.{life, is_known}
use Rattle.model.specs.Lines.{Making, makings_said, line}
use Rattle.model.specs.Moments.{Moment, Written, ProcessEvent, said, events_of, facts_now, told}
use Rattle.model.specs.Moments.Written.{Said}
use Rattle.model.specs.Parent.{asked}
use Rattle.model.specs.Trees.{says_do, tree_look, tree_begin}
use Rattle.model.proofs.Cases.{either_true, true_false, same_context_is}
use Rattle.model.proofs.Children.{ChildrenLive}
use Rattle.model.proofs.Entry.{FitsOver, IsOfOthers, IsTold, others_posted}
use Rattle.model.proofs.Fitting.{AllFit, FactsTies}
use Rattle.model.proofs.Lining.{Lined, IsToldBy}
use Rattle.model.proofs.Owning.{owner_all, known_all, created_known}
use Rattle.model.proofs.Subscribers.{group_told}
use Rattle.model.proofs.Telling.{Saids, lives_behind}
use Rattle.model.proofs.TreeFacts.{TreeFacts}
use Rattle.model.proofs.TreeHeard.{says_name, known_is, ties_same}
use Rattle.model.proofs.TreeTold.{no_ends, told_fits, groups_told}

first_of_three : (u v w : Bool) → (u && v && w) ≡ true → u ≡ true
first_of_three true v w e = refl
first_of_three false v w e = absurd cc

-- an id of another process isn't one of this
others_id : (p q : ℕ) (x z : ContextId) → is_new_frame q z ≡ true → (q == p) ≡ false → x.creator ≡ p + 1 → same_context x z ≡ false
others_id p q x z frame other own = by_test (same_context x z) refl
  where
    by_test : (v : Bool) → same_context x z ≡ v → same_context x z ≡ false
    by_test false is = is
    by_test true is =
        let made : z.creator ≡ q + 1 = eqb-true z.creator (q + 1) (first_of_three (z.creator == q + 1) (nat_lt 0 z.serial) (nat_le z.serial 240) frame) in
        let same : q ≡ p = omega (arith, made, own, ap (λ (w : ContextId). w.creator) (same_context_is x z is)) in true_false (q == p) (eq-eqb q p same) other

-- nor is that of a tab
tabs_id : (p : ℕ) (x z : ContextId) → z.creator ≡ 0 → x.creator ≡ p + 1 → same_context x z ≡ false
tabs_id p x z tab own = by_test (same_context x z) refl
  where
    by_test : (v : Bool) → same_context x z ≡ v → same_context x z ≡ false
    by_test false is = is
    by_test true is = absurd (omega (arith, tab, own, ap (λ (w : ContextId). w.creator) (same_context_is x z is)))

-- what others name as made is theirs
named_by_others : (c : Config) (p : ℕ) (old ys : List Saying) (x : ContextId) → FitsOver c old ys → AllByRecursion (IsOfOthers p) ys → x.creator ≡ p + 1 → says_name x ys ≡ false
named_by_others c p old [] x fits others own = refl
named_by_others c p old (Opened z g is_new q ∷ ys) x fits others own = ap₂ (λ u v. u || v) (tabs_id p x z (ap (λ (w : ContextId). w.creator) fits.0.next) own)
    (named_by_others c p old ys x fits.1 others.1 own)
named_by_others c p old (Made q z a ∷ ys) x fits others own = ap₂ (λ u v. u || v) (others_id p q x z fits.0.frame others.0 own) (named_by_others c p old ys x fits.1 others.1 own)
named_by_others c p old (BornDead q z a ∷ ys) x fits others own = ap₂ (λ u v. u || v) (others_id p q x z fits.0.frame others.0 own) (named_by_others c p old ys x fits.1 others.1 own)
named_by_others c p old (_ ∷ ys) x fits others own = named_by_others c p old ys x fits.1 others.1 own

module _ (c : Config) (p : ℕ) (mk : List Making) (l : Lined mk) (old : List Saying) (ft : FactsTies c.tabs mk (asked c.tabs old)) (h : List ProcessEvent)
    (t : TreeFacts c p mk (asked c.tabs old) h) (ys : List Saying) (s : Saids c mk l old ft ys) (others : AllByRecursion (IsOfOthers p) ys)
  where
    abbrev look : Look ContextId Written DownBundle
    look = tree_look c p mk

    abbrev begin : Begin ContextId
    begin = tree_begin c p mk

    -- an event that does to lives, owners and names what was said
    by_event : (e : ProcessEvent) → Fit (tree_look c p mk) (tree_begin c p mk) e h
        → ((x : ContextId) → life (tree_look c p mk) (tree_begin c p mk) x (e ∷ h) ≡ moved ((tree_look c p mk).does x (Said ys)) (life (tree_look c p mk) (tree_begin c p mk) x h))
        → ((x : ContextId) → owned (tree_look c p mk) (tree_begin c p mk) x (e ∷ h) ≡ owned_behind ((tree_look c p mk).hands x (Said ys)) (owned (tree_look c p mk) (tree_begin c p mk) x h))
        → ((x : ContextId) → is_known (tree_look c p mk) (tree_begin c p mk) x (e ∷ h) ≡ ((tree_look c p mk).creates x (Said ys) || is_known (tree_look c p mk) (tree_begin c p mk) x h))
        → ((g : GroupId) → is_subscribed (asked c.tabs (ys ++ old)) p g ≡ group_told c p g (e ∷ h))
        → TreeFacts c p mk (asked c.tabs (ys ++ old)) (e ∷ h)
    by_event e fits life_is owned_is knows told_is = record {
      fits = ((λ r. fits), t.fits);
      told = told_is;
      lives = ties_same mk (asked c.tabs (ys ++ old)) (λ z. moved (says_do z (line z mk) ys) (life look begin z h)) (λ x. life look begin x (e ∷ h))
          (λ x. sym (life_is x))
          (lives_behind c mk l old ft (λ x. life look begin x h) t.lives ys s);
      owners = λ x live. owned_is x ∙ owner_all c p old (λ x. owned look begin x h) ys s.fits (no_ends p ys others) t.owners x live;
      known = λ x e. by_known x (either_true (look.creates x (Said ys)) (is_known look begin x h) (sym (knows x) ∙ e));
      own_known = λ x own e. knows x ∙ ap (λ b. look.creates x (Said ys) || b) (t.own_known x own (sym (ap (λ b. b || (asked c.tabs old).contexts.known x) (named_by_others c p old ys x s.fits others own)) ∙ sym (known_is c old ys x) ∙ e)) ∙ or_true (look.creates x (Said ys));
    }
      where
        or_true : (b : Bool) → (b || true) ≡ true
        or_true true = refl
        or_true false = refl

        by_known : (x : ContextId) → ((tree_look c p mk).creates x (Said ys) ≡ true) ⊎ (is_known (tree_look c p mk) (tree_begin c p mk) x h ≡ true) → (asked c.tabs (ys ++ old)).contexts.known x ≡ true
        by_known x (inl now) = created_known c old ys x s.fits now
        by_known x (inr was) = known_all c old ys x (t.known x was)

    by_told : (k : ℕ) (o : Option DownBundle) → Fit (tree_look c p mk) (tree_begin c p mk) (told k ys o) h
        → ((g : GroupId) → is_subscribed (asked c.tabs (ys ++ old)) p g ≡ group_told c p g (told k ys o ∷ h))
        → TreeFacts c p mk (asked c.tabs (ys ++ old)) (told k ys o ∷ h)
    by_told k None fits told_is = by_event (Changes k (Said ys)) fits (λ x. refl) (λ x. refl) (λ x. refl) told_is
    by_told k (Some d) fits told_is = by_event (Sends k (Said ys) d) fits (λ x. refl) (λ x. refl) (λ x. refl) told_is

-- an entry that tells a process what others did
pub told_keeps : (c : Config) (p : ℕ) (ms : List Moment) (m : Moment) (mk : List Making) → Lined mk → p < 16 → FactsTies c.tabs mk (facts_now c ms) → AllFit c.tabs (said ms) → AllByRecursion (IsToldBy mk) (makings_said m.says)
    → is_ended (events_of p ms) ≡ false → Flows (events_of p ms) → TreeFacts c p mk (facts_now c ms) (events_of p ms)
    → ChildrenLive c p mk (facts_now c ms) (events_of p ms) → (posts : List DownPart) → IsTold c p ms m posts
    → TreeFacts c p mk (facts_now c (m ∷ ms)) (m.events p ++ events_of p ms)
told_keeps c p ms m mk l low ft fit told_by runs flows t children posts is =
    let s : Saids c mk l (said ms) ft m.says = record { told = told_by; fits = is.fits } in
    let others : AllByRecursion (IsOfOthers p) m.says = others_posted c p (said ms) m.says posts is.posted in
    subst (λ es. TreeFacts c p mk (facts_now c (m ∷ ms)) (es ++ events_of p ms)) (sym is.events)
    (by_told c p mk l (said ms) ft (events_of p ms) t m.says s others (length ms + 1) (bundle_for (facts_now c (m ∷ ms)) p (in_order posts))
    (told_fits c p mk l (said ms) ft low fit (events_of p ms) runs flows t children m.says s others is.joins posts is.posted (length ms + 1))
    (groups_told c p mk l (said ms) ft low fit (events_of p ms) runs flows t children m.says s others is.joins posts is.posted (length ms + 1)))
