-- An entry that tells a process what others did keeps the rules of the trees.
use Rattle.std.proofs.Common.{◌≡◌, ◌⊎◌, inl, inr, ℕ, ◌+◌, ◌<◌, ◌==◌, Bool, true, false, not, ◌||◌, if◌then◌else◌, Some, List, [], ◌∷◌, ◌++◌, refl, ap, ap₂, sym, subst, ◌∙◌, eq-eqb}
use Rattle.std.specs.List.{AllByRecursion, list_any}
use Rattle.fission_ids.specs.declared.context.ContextId.{ContextId}
use Rattle.fission_ids.specs.declared.group.GroupId.{GroupId}
use Rattle.fission_ids.specs.Ids.{same_context}
use Rattle.wire_msgs.specs.declared.bundle.DownBundle.{DownBundle}
use Rattle.wire_msgs.specs.declared.config.Config.{Config}
use Rattle.wire_msgs.specs.declared.part.DownPart.{DownPart}
use Rattle.protocol.specs.Bundle.{bundle_for}
use Rattle.protocol.specs.Order.{in_order}
use Rattle.protocol.specs.ParentActs.{register_of}
use Rattle.protocol.specs.Questions.{Facts, is_owner, is_subscribed}
use Rattle.protocol.specs.Sayings.{Saying}
use Rattle.protocol.specs.Sayings.Saying.{Opened, Made, BornDead}
use Rattle.traces.specs.Event.Event.{Sends, Changes}
use Rattle.traces.specs.Links.{is_ended}
use Rattle.traces.specs.Rules.{Flows}
use Rattle.traces.specs.Words.{Stage, is_gone}
use Rattle.traces.specs.Words.Stage.{Coming, Held, Gone}
use Rattle.std.specs.Prelude.{filter}
use Rattle.trees.specs.Children.{attached, is_alive, owned}
use Rattle.trees.specs.Look.{Effect, moved, owned_behind, Look, Begin}
use Rattle.trees.specs.Look.Effect.{Stays, Comes, Goes}
use Rattle.trees.specs.Look.Handing.{Same}
use Rattle.trees.specs.Rules.{Above, OtherChild, DoneByOthers, Told, told_whole, told_owner, Brought, Handed, Tells, Unsent, Fit}
use Rattle.trees.specs.Words.{is_told, life, is_held}
use Rattle.trees.proofs.Order.{untold_others}
use Rattle.model.specs.Lines.{Making, makings_said, line, above_in, group_in}
use Rattle.model.specs.Moments.{Written, ProcessEvent, told}
use Rattle.model.specs.Moments.Written.{Said}
use Rattle.model.specs.Parent.{asked}
use Rattle.model.specs.Trees.{comes_if, hand_if, registers_group, says_do, says_make, says_hand, says_create, parts_tell, parts_bring, parts_handed, handed_unless, tree_look, tree_begin}
use Rattle.model.specs.View.{singles}
use Rattle.model.proofs.Arranging.{tell_ordered, bring_ordered, handed_ordered}
use Rattle.model.proofs.Cases.{true_false, same_context_is, same_itself}
use Rattle.model.proofs.Children.{LiveBelow, ChildrenLive, all_join, below_all}
use Rattle.model.proofs.Entry.{FitsOver, IsOfOthers, Posted, JoinsLast}
use Rattle.model.proofs.Fitting.{AllFit, FactsTies}
use Rattle.model.proofs.Lining.{Lined, IsToldBy}
use Rattle.model.proofs.Living.{LifeTies, held_only}
use Rattle.model.proofs.Owning.{IsNoEndOf, owner_all, created_new, created_by_others, handed_created, created_handed}
use Rattle.model.proofs.Posting.{told_by, joined_by, subscribed_behind, effects_posted, brings_posted, hands_posted}
use Rattle.model.proofs.Preorder.{Preorder, below_of, filter_all, all_kept}
use Rattle.model.proofs.Registering.{IsQuiet, IsRegistered, quiet_tells, quiet_brings, quiet_hands, last_tells, last_brings, last_hands, single_tells, single_brings, single_hands, register_tells, register_brings, register_hands, quiet_posted, registers_posted, registered, registers_ordered}
use Rattle.model.proofs.Subscribers.{group_told, told_by_group, any_same}
use Rattle.model.proofs.Subscribing.{joins}
use Rattle.model.proofs.Telling.{Saids, facts_behind, lives_behind, comes_new, goes_along, comes_created}
use Rattle.model.proofs.TreeFacts.{TreeFacts}
use Rattle.model.proofs.TreeLawful.{say_moves, lawful}

pub no_ends : (p : ℕ) (ys : List Saying) → AllByRecursion (IsOfOthers p) ys → AllByRecursion (IsNoEndOf p) ys
no_ends p [] others = tt
no_ends p (y ∷ ys) others = (one y others.0, no_ends p ys others.1)
  where
    one : (y : Saying) → IsOfOthers p y → IsNoEndOf p y
    one (Rattle.protocol.specs.Sayings.Saying.Ended q cause) other = other
    one (_) other = tt

module _ (c : Config) (p : ℕ) (mk : List Making) (l : Lined mk) (old : List Saying) (ft : FactsTies c.tabs mk (asked c.tabs old)) (low : p < 16) (fit : AllFit c.tabs old)
    (h : List ProcessEvent) (runs : is_ended h ≡ false) (flows : Flows h) (t : TreeFacts c p mk (asked c.tabs old) h) (children : ChildrenLive c p mk (asked c.tabs old) h)
    (ys : List Saying) (s : Saids c mk l old ft ys) (others : AllByRecursion (IsOfOthers p) ys)
  where
    abbrev look : Look ContextId Written DownBundle
    look = tree_look c p mk

    abbrev begin : Begin ContextId
    begin = tree_begin c p mk

    abbrev before : Facts
    before = asked c.tabs old

    abbrev now : Facts
    now = asked c.tabs (ys ++ old)

    lives_now : LifeTies mk (asked c.tabs (ys ++ old)) (λ z. moved (says_do z (line z mk) ys) (life (tree_look c p mk) (tree_begin c p mk) z h))
    lives_now = lives_behind c mk l old ft (λ x. life look begin x h) t.lives ys s

    facts_now : FactsTies c.tabs mk (asked c.tabs (ys ++ old))
    facts_now = facts_behind c mk l old ft ys s

    new_of : (x : ContextId) → (tree_look c p mk).does x (Said ys) ≡ Comes → life (tree_look c p mk) (tree_begin c p mk) x h ≡ Coming
    new_of x e = comes_new c mk l old ft (λ x. life look begin x h) t.lives x ys s e

    created_of : (x : ContextId) → (tree_look c p mk).does x (Said ys) ≡ Comes → says_create x ys ≡ true
    created_of x e = comes_created x mk ys e

    -- what comes is live then, and so is what is above it
    live_of : (x : ContextId) → (tree_look c p mk).does x (Said ys) ≡ Comes → (asked c.tabs (ys ++ old)).contexts.live x ≡ true
    live_of x e = sym (lives_now.live x) ∙ ap is_held (ap₂ moved e (new_of x e))

    other_owner : (x y : ContextId) → (tree_look c p mk).does x (Said ys) ≡ Comes → above_in mk x ≡ Some y → is_owner (asked c.tabs (ys ++ old)) p y ≡ false
    other_owner x y e up = by_owner (is_owner now p y) refl
      where
        by_owner : (b : Bool) → is_owner (asked c.tabs (ys ++ old)) p y ≡ b → is_owner (asked c.tabs (ys ++ old)) p y ≡ false
        by_owner false is = is
        by_owner true is =
            let made : x.creator ≡ p + 1 = facts_now.owners_make x y p (live_of x e) up is in
            true_false (x.creator == p + 1) (eq-eqb x.creator (p + 1) made) (created_by_others c p old ys x s.fits others (created_of x e))

    other_own : (x : ContextId) → (tree_look c p mk).creates x (Said ys) ≡ true → (x.creator == p + 1) ≡ false
    other_own x e = created_by_others c p old ys x s.fits others e

    all_children : (x : ContextId) (zs : List Saying) → AllByRecursion (IsToldBy mk) (makings_said zs) → FitsOver c old zs → AllByRecursion (IsOfOthers p) zs → AllByRecursion (OtherChild (tree_look c p mk) x) (says_make x zs)
    all_children x [] told fits other = tt
    all_children x (Made q z a ∷ zs) told fits other = by_same (same_context x a) refl (all_children x zs told.1 fits.1 other.1)
      where
        more : (xs : List ContextId) → AllByRecursion (OtherChild (tree_look c p mk) x) xs → OtherChild (tree_look c p mk) x z → AllByRecursion (OtherChild (tree_look c p mk) x) (xs ++ z ∷ [])
        more [] all one = (one, tt)
        more (w ∷ xs) all one = (all.0, more xs all.1 one)

        none : (xs : List ContextId) → AllByRecursion (OtherChild (tree_look c p mk) x) xs → AllByRecursion (OtherChild (tree_look c p mk) x) (xs ++ [])
        none [] all = tt
        none (w ∷ xs) all = (all.0, none xs all.1)

        by_same : (b : Bool) → same_context x a ≡ b → AllByRecursion (OtherChild (tree_look c p mk) x) (says_make x zs) → AllByRecursion (OtherChild (tree_look c p mk) x) (says_make x zs ++ (if b then z ∷ [] else []))
        by_same true is all = more (says_make x zs) all (record {
          below = told.0 ∙ ap Some (sym (same_context_is x a is));
          other = created_by_others c p old (Made q z a ∷ zs) z fits other (ap (λ b. b || says_create z zs) (same_itself z));
        })
        by_same false isnt all = none (says_make x zs) all
    all_children x (Opened z g is_new q ∷ zs) told fits other = all_children x zs told.1 fits.1 other.1
    all_children x (BornDead q z a ∷ zs) told fits other = all_children x zs told.1 fits.1 other.1
    all_children x (_ ∷ zs) told fits other = all_children x zs told fits.1 other.1

    children_of : (x : ContextId) → AllByRecursion (OtherChild (tree_look c p mk) x) ((tree_look c p mk).makes x (Said ys))
    children_of x = all_children x ys s.told s.fits others

    owned_now : (y : ContextId) → (asked c.tabs (ys ++ old)).contexts.live y ≡ true
        → owned_behind (says_hand p y ys) (owned (tree_look c p mk) (tree_begin c p mk) y h) ≡ is_owner (asked c.tabs (ys ++ old)) p y
    owned_now y live = owner_all c p old (λ x. owned (tree_look c p mk) (tree_begin c p mk) x h) ys s.fits (no_ends p ys others) t.owners y live

    -- the change itself, in an event that does it to lives and owners
    module _ (e : ProcessEvent) (life_is : (x : ContextId) → life (tree_look c p mk) (tree_begin c p mk) x (e ∷ h) ≡ moved ((tree_look c p mk).does x (Said ys)) (life (tree_look c p mk) (tree_begin c p mk) x h))
        (owned_is : (x : ContextId) → owned (tree_look c p mk) (tree_begin c p mk) x (e ∷ h) ≡ owned_behind ((tree_look c p mk).hands x (Said ys)) (owned (tree_look c p mk) (tree_begin c p mk) x h))
      where
        life_now : (x : ContextId) → is_held (life (tree_look c p mk) (tree_begin c p mk) x (e ∷ h)) ≡ (asked c.tabs (ys ++ old)).contexts.live x
        life_now x = ap is_held (life_is x) ∙ lives_now.live x

        done_by_others : (x : ContextId) → DoneByOthers (tree_look c p mk) (tree_begin c p mk) e (Said ys) x h
        done_by_others x = record {
          done = record {
            new = new_of x;
            with_above = λ goes own new. above_of goes own new;
            below_live = λ comes y up. held_only (life look begin y (e ∷ h)) (life_now y ∙ facts_now.above_live x y (live_of x comes) up);
            by_owner = λ comes y up.
                created_by_others c p old ys x s.fits others (created_of x comes)
                ∙ sym (owned_is y ∙ owned_now y (facts_now.above_live x y (live_of x comes) up) ∙ other_owner x y comes up);
            cleared = λ y up. cleared_of y up (handed_created p y ys);
          };
          by_others = λ comes. created_by_others c p old ys x s.fits others (created_of x comes);
          owned = λ comes same. created_handed c p old x ys s.fits (created_of x comes) same;
          creates = λ comes. created_of x comes;
          creates_others = other_own x;
          children = children_of x;
        }
          where
            unmade : (x.creator == p + 1) ≡ true → says_create x ys ≡ false
            unmade own = by_made (says_create x ys) refl
              where
                by_made : (b : Bool) → says_create x ys ≡ b → says_create x ys ≡ false
                by_made false is = is
                by_made true is = true_false (x.creator == p + 1) own (created_by_others c p old ys x s.fits others is)

            above_of : (tree_look c p mk).does x (Said ys) ≡ Goes → (x.creator == p + 1) ≡ true → life (tree_look c p mk) (tree_begin c p mk) x h ≡ Coming → Above (tree_look c p mk) x (λ y. (tree_look c p mk).does y (Said ys) ≡ Goes)
            above_of goes own new = goes_along c mk l old ft (λ x. life look begin x h) t.lives x ys s (unmade own) goes new

            cleared_of : (y : ContextId) → above_in mk x ≡ Some y → (says_hand p y ys ≡ Same) ⊎ (says_create y ys ≡ true)
                → ((tree_look c p mk).hands y (Said ys) ≡ Same) ⊎ (life (tree_look c p mk) (tree_begin c p mk) x h ≡ Held → life (tree_look c p mk) (tree_begin c p mk) x (e ∷ h) ≡ Held → ⊥)
            cleared_of y up (inl same) = inl same
            cleared_of y up (inr made) = inr (λ was still.
                let x_live : before.contexts.live x ≡ true = sym (t.lives.live x) ∙ ap is_held was in
                created_new c old ys y ft.tabs_low s.fits made (ft.live_known y (ft.above_live x y x_live up)))

    -- the children of each, behind what was said
    children_now : (y : ContextId) → LiveBelow mk y (asked c.tabs (ys ++ old)) (λ z. moved (says_do z (line z mk) ys) (life (tree_look c p mk) (tree_begin c p mk) z h))
        (attached (tree_look c p mk) y h ++ says_make y ys)
    children_now y = below_all c.tabs mk l y c refl old (λ z. life look begin z h) (attached look y h) ys s.told s.fits ft t.lives (children y)

    ordered : (zs : List Saying) → Saids c mk l old ft zs → Preorder mk (asked c.tabs (zs ++ old)).contexts.order (asked c.tabs (zs ++ old)).contexts.live
    ordered zs z =
        (below_all c.tabs mk l (record { creator = 0; serial = 0 }) c refl old (λ x. life look begin x h)
        (attached look (record { creator = 0; serial = 0 }) h) zs z.told z.fits ft t.lives
        (children (record { creator = 0; serial = 0 }))).order

    -- whether the process is told of a context, by the answers
    told_here : (x : ContextId) → is_told (tree_look c p mk) (tree_begin c p mk) x h ≡ told_by c p mk old x
    told_here x = told_by_group c p mk x h ∙ sym (any_same (is_subscribed (asked c.tabs old) p) (λ g. group_told c p g h) t.told (group_in c.tabs mk x))

    -- ---- a bundle is sent, or none

    module _ (last : JoinsLast ys) (ds : List DownPart) (posted : Posted c p old ys ds) where
      -- of what the process was told before
      tells_are : (x : ContextId) → told_by c p mk old x ≡ true → parts_tell x (line x mk) (singles (in_order ds)) ≡ says_do x (line x mk) ys
      tells_are x m = single_tells x (line x mk) ds (registers_posted c p mk l old ft low fit ordered x ys ds s posted m) ∙ tell_ordered x (line x mk) ds
          ∙ effects_posted c p mk l old ft low fit ys ds s posted x m

      brings_are : (x : ContextId) → told_by c p mk old x ≡ true → parts_bring x (singles (in_order ds)) ≡ says_make x ys
      brings_are x m = single_brings x (line x mk) ds (registers_posted c p mk l old ft low fit ordered x ys ds s posted m) ∙ bring_ordered x ds
          ∙ brings_posted c p mk l old ft low fit ys ds s posted x m

      hands_are : (x : ContextId) → told_by c p mk old x ≡ true → parts_handed x (singles (in_order ds)) ≡ says_hand p x ys
      hands_are x m = single_hands x (line x mk) ds (registers_posted c p mk l old ft low fit ordered x ys ds s posted m) ∙ handed_ordered x ds
          ∙ hands_posted c p mk l old ft low fit ys ds s posted x m

      registers_here : (d : DownBundle) → d.parts ≡ in_order ds → (x : ContextId) → (tree_look c p mk).registers x d ≡ joined_by c p mk ys x
      registers_here d is x = any_same (λ g. list_any (registers_group g) d.parts) (λ g. list_any (joins p g) ys)
          (λ g. ap (list_any (registers_group g)) is ∙ registers_ordered c p old g ys ds posted) (group_in c.tabs mk x)

      -- ---- the process was told of the group

      told_fit : (k : ℕ) (d : DownBundle) → d.parts ≡ in_order ds → (x : ContextId) → told_by c p mk old x ≡ true → Tells (tree_look c p mk) (tree_begin c p mk) (Sends k (Said ys) d) (Said ys) d x h
      told_fit k d is x m = record {
        done = done_by_others (Sends k (Said ys) d) (λ x. refl) (λ x. refl) x;
        told = subst (λ b. Told b (look.registers x d) (look.does x (Said ys)) (look.tells x d) (life look begin x h)) (sym told_is) tells_same;
        brought = subst (λ b. Brought b (look.registers x d) (look.brings x d) (look.makes x (Said ys))
            (filter (is_alive look begin (Sends k (Said ys) d ∷ h)) (attached look x h ++ look.makes x (Said ys)))) (sym told_is) brings_same;
        others = subst (AllByRecursion (OtherChild look x)) (sym brings_same) (children_of x);
        handed = λ now. subst (λ b. Handed b (look.registers x d) (look.hands x (Said ys)) (look.handed x d) (owned look begin x (Sends k (Said ys) d ∷ h))) (sym told_is) (handed_same now);
        only_live = only (parts_tell x (line x mk) (singles d.parts)) refl;
      }
        where
          told_is : is_told (tree_look c p mk) (tree_begin c p mk) x h ≡ true
          told_is = told_here x ∙ m

          tells_same : (tree_look c p mk).tells x d ≡ (tree_look c p mk).does x (Said ys)
          tells_same = ap (λ ps. parts_tell x (line x mk) (singles ps)) is ∙ tells_are x m

          brings_same : (tree_look c p mk).brings x d ≡ (tree_look c p mk).makes x (Said ys)
          brings_same = ap (λ ps. parts_bring x (singles ps)) is ∙ brings_are x m

          hands_same : parts_handed x (singles d.parts) ≡ says_hand p x ys
          hands_same = ap (λ ps. parts_handed x (singles ps)) is ∙ hands_are x m

          -- behind a removal nothing is held
          not_gone : life (tree_look c p mk) (tree_begin c p mk) x (Sends k (Said ys) d ∷ h) ≡ Held → (tree_look c p mk).does x (Said ys) ≡ Goes → ⊥
          not_gone now goes = let two : Gone ≡ Held = sym (ap (λ a. moved a (life look begin x h)) goes) ∙ now in absurd cc

          handed_same : life (tree_look c p mk) (tree_begin c p mk) x (Sends k (Said ys) d ∷ h) ≡ Held → (tree_look c p mk).handed x d ≡ (tree_look c p mk).hands x (Said ys)
          handed_same now = by_effect (parts_tell x (line x mk) (singles d.parts)) refl
            where
              by_effect : (a : Effect) → parts_tell x (line x mk) (singles d.parts) ≡ a → handed_unless a (parts_handed x (singles d.parts)) ≡ says_hand p x ys
              by_effect Stays e = hands_same
              by_effect Comes e = hands_same
              by_effect Goes e = absurd (not_gone now (sym tells_same ∙ e))

          only : (a : Effect) → parts_tell x (line x mk) (singles d.parts) ≡ a
              → ((tree_look c p mk).handed x d ≡ Same) ⊎ (life (tree_look c p mk) (tree_begin c p mk) x (Sends k (Said ys) d ∷ h) ≡ Held)
          only Goes e = inl (ap (λ a. handed_unless a (parts_handed x (singles d.parts))) e)
          only Comes e = inr (ap₂ moved (sym tells_same ∙ e) (new_of x (sym tells_same ∙ e)))
          only Stays e = by_hand (handed_created p x ys)
            where
              by_hand : (says_hand p x ys ≡ Same) ⊎ (says_create x ys ≡ true)
                  → ((tree_look c p mk).handed x d ≡ Same) ⊎ (life (tree_look c p mk) (tree_begin c p mk) x (Sends k (Said ys) d ∷ h) ≡ Held)
              by_hand (inl same) = inl (ap (λ a. handed_unless a (parts_handed x (singles d.parts))) e ∙ hands_same ∙ same)
              by_hand (inr made) = absurd (say_moves c p mk l x (line x mk) ys made (sym tells_same ∙ e))

      -- ---- it is neither told nor subscribed

      untold_fit : (k : ℕ) (d : DownBundle) → d.parts ≡ in_order ds → (x : ContextId) → told_by c p mk old x ≡ false → joined_by c p mk ys x ≡ false
          → Tells (tree_look c p mk) (tree_begin c p mk) (Sends k (Said ys) d) (Said ys) d x h
      untold_fit k d is x untold out = record {
        done = done_by_others (Sends k (Said ys) d) (λ x. refl) (λ x. refl) x;
        told = subst (λ b. Told b (look.registers x d) (look.does x (Said ys)) (look.tells x d) (life look begin x h)) (sym untold_is)
            (subst (λ b. Told false b (look.does x (Said ys)) (look.tells x d) (life look begin x h)) (sym out_is) tells_none);
        brought = subst (λ b. Brought b (look.registers x d) (look.brings x d) (look.makes x (Said ys))
            (filter (is_alive look begin (Sends k (Said ys) d ∷ h)) (attached look x h ++ look.makes x (Said ys)))) (sym untold_is)
            (subst (λ b. Brought false b (look.brings x d) (look.makes x (Said ys)) (filter (is_alive look begin (Sends k (Said ys) d ∷ h)) (attached look x h ++ look.makes x (Said ys))))
            (sym out_is) brings_none);
        others = subst (AllByRecursion (OtherChild look x)) (sym brings_none) tt;
        handed = λ now. subst (λ b. Handed b (look.registers x d) (look.hands x (Said ys)) (look.handed x d) (owned look begin x (Sends k (Said ys) d ∷ h))) (sym untold_is)
            (subst (λ b. Handed false b (look.hands x (Said ys)) (look.handed x d) (owned look begin x (Sends k (Said ys) d ∷ h))) (sym out_is) tt);
        only_live = inl (ap₂ handed_unless tells_none hands_none);
      }
        where
          untold_is : is_told (tree_look c p mk) (tree_begin c p mk) x h ≡ false
          untold_is = told_here x ∙ untold

          out_is : (tree_look c p mk).registers x d ≡ false
          out_is = registers_here d is x ∙ out

          quiet : AllByRecursion (IsQuiet x (line x mk)) ds
          quiet = quiet_posted c p mk l old ft low fit ordered x ys ds s posted untold out

          tells_none : (tree_look c p mk).tells x d ≡ Stays
          tells_none = ap (λ ps. parts_tell x (line x mk) (singles ps)) is ∙ quiet_tells x (line x mk) ds quiet

          brings_none : (tree_look c p mk).brings x d ≡ []
          brings_none = ap (λ ps. parts_bring x (singles ps)) is ∙ quiet_brings x (line x mk) ds quiet

          hands_none : parts_handed x (singles d.parts) ≡ Same
          hands_none = ap (λ ps. parts_handed x (singles ps)) is ∙ quiet_hands x (line x mk) ds quiet

      -- ---- it is subscribed now

      joined_fit : (k : ℕ) (d : DownBundle) → d.parts ≡ in_order ds → (x : ContextId) → told_by c p mk old x ≡ false → joined_by c p mk ys x ≡ true
          → Tells (tree_look c p mk) (tree_begin c p mk) (Sends k (Said ys) d) (Said ys) d x h
      joined_fit k d is x untold in_it = record {
        done = done_by_others (Sends k (Said ys) d) (λ x. refl) (λ x. refl) x;
        told = subst (λ b. Told b (look.registers x d) (look.does x (Said ys)) (look.tells x d) (life look begin x h)) (sym untold_is)
            (subst (λ b. Told false b (look.does x (Said ys)) (look.tells x d) (life look begin x h)) (sym in_is)
            (tells_live ∙ ap comes_if (sym live_is) ∙ whole (moved (says_do x (line x mk) ys) (life look begin x h))));
        brought = subst (λ b. Brought b (look.registers x d) (look.brings x d) (look.makes x (Said ys))
            (filter (is_alive look begin (Sends k (Said ys) d ∷ h)) (attached look x h ++ look.makes x (Said ys)))) (sym untold_is)
            (subst (λ b. Brought false b (look.brings x d) (look.makes x (Said ys)) (filter (is_alive look begin (Sends k (Said ys) d ∷ h)) (attached look x h ++ look.makes x (Said ys))))
            (sym in_is) brings_all);
        others = subst (AllByRecursion (OtherChild look x)) (sym brings_all)
            (all_kept (OtherChild look x) (is_alive look begin (Sends k (Said ys) d ∷ h)) (attached look x h ++ says_make x ys)
            (all_join (OtherChild look x) (attached look x h) (says_make x ys) (untold_others look begin (lawful c p mk l) x h flows t.fits untold_is runs) (children_of x)));
        handed = λ now. subst (λ b. Handed b (look.registers x d) (look.hands x (Said ys)) (look.handed x d) (owned look begin x (Sends k (Said ys) d ∷ h))) (sym untold_is)
            (subst (λ b. Handed false b (look.hands x (Said ys)) (look.handed x d) (owned look begin x (Sends k (Said ys) d ∷ h))) (sym in_is) (handed_live (sym live_is ∙ ap is_held now)));
        only_live = by_live (now.contexts.live x) refl;
      }
        where
          untold_is : is_told (tree_look c p mk) (tree_begin c p mk) x h ≡ false
          untold_is = told_here x ∙ untold

          in_is : (tree_look c p mk).registers x d ≡ true
          in_is = registers_here d is x ∙ in_it

          r : IsRegistered c p mk l old ft low fit ordered x ys ds
          r = registered c p mk l old ft low fit ordered x ys ds s last posted untold in_it

          parts_are : d.parts ≡ in_order (r.before ++ register_of (asked c.tabs (ys ++ old)) p r.group ∷ [])
          parts_are = is ∙ ap in_order r.is

          live_is : is_held (moved (says_do x (line x mk) ys) (life (tree_look c p mk) (tree_begin c p mk) x h)) ≡ (asked c.tabs (ys ++ old)).contexts.live x
          live_is = lives_now.live x

          whole : (a : Stage) → comes_if (is_held a) ≡ told_whole a
          whole Coming = refl
          whole Held = refl
          whole Gone = refl

          tells_live : (tree_look c p mk).tells x d ≡ comes_if ((asked c.tabs (ys ++ old)).contexts.live x)
          tells_live =
              ap (λ ps. parts_tell x (line x mk) (singles ps)) parts_are ∙ last_tells x (line x mk) r.before (register_of (asked c.tabs (ys ++ old)) p r.group) r.quiet
              ∙ register_tells c p mk l (asked c.tabs (ys ++ old)) facts_now (ordered ys s) r.group x r.in_group (line x mk)

          brings_live : (tree_look c p mk).brings x d ≡ below_of mk x (asked c.tabs (ys ++ old)).contexts.order
          brings_live =
              ap (λ ps. parts_bring x (singles ps)) parts_are ∙ last_brings x (line x mk) r.before (register_of (asked c.tabs (ys ++ old)) p r.group) r.quiet
              ∙ register_brings c p mk l (asked c.tabs (ys ++ old)) facts_now (ordered ys s) r.group x r.in_group

          hands_live : parts_handed x (singles d.parts) ≡ hand_if ((asked c.tabs (ys ++ old)).contexts.live x) (told_owner (is_owner (asked c.tabs (ys ++ old)) p x))
          hands_live =
              ap (λ ps. parts_handed x (singles ps)) parts_are ∙ last_hands x (line x mk) r.before (register_of (asked c.tabs (ys ++ old)) p r.group) r.quiet
              ∙ register_hands c p mk l (asked c.tabs (ys ++ old)) facts_now (ordered ys s) r.group x r.in_group

          -- what has come and isn't discarded is live
          alive_held : (a : Stage) → (a ≡ Coming → ⊥) → is_held a ≡ not (is_gone a)
          alive_held Coming came = absurd (came refl)
          alive_held Held came = refl
          alive_held Gone came = refl

          brings_all : (tree_look c p mk).brings x d ≡ filter (is_alive (tree_look c p mk) (tree_begin c p mk) (Sends k (Said ys) d ∷ h)) (attached (tree_look c p mk) x h ++ says_make x ys)
          brings_all =
              brings_live ∙ (children_now x).children
              ∙ filter_all (λ z. moved (says_do z (line z mk) ys) (life look begin z h) ≡ Coming → ⊥) (λ z. is_held (moved (says_do z (line z mk) ys) (life look begin z h)))
              (is_alive look begin (Sends k (Said ys) d ∷ h))
              (attached look x h ++ says_make x ys) (children_now x).old (λ z came. alive_held (moved (says_do z (line z mk) ys) (life look begin z h)) came)

          handed_live : (asked c.tabs (ys ++ old)).contexts.live x ≡ true → (tree_look c p mk).handed x d ≡ told_owner (owned (tree_look c p mk) (tree_begin c p mk) x (Sends k (Said ys) d ∷ h))
          handed_live live =
              ap₂ handed_unless (tells_live ∙ ap comes_if live) (hands_live ∙ ap (λ b. hand_if b (told_owner (is_owner now p x))) live) ∙ ap told_owner (sym (owned_now x live))

          by_live : (b : Bool) → (asked c.tabs (ys ++ old)).contexts.live x ≡ b
              → ((tree_look c p mk).handed x d ≡ Same) ⊎ (life (tree_look c p mk) (tree_begin c p mk) x (Sends k (Said ys) d ∷ h) ≡ Held)
          by_live true live = inr (held_only (moved (says_do x (line x mk) ys) (life look begin x h)) (live_is ∙ live))
          by_live false dead = inl (ap₂ handed_unless (tells_live ∙ ap comes_if dead) (hands_live ∙ ap (λ b. hand_if b (told_owner (is_owner now p x))) dead))

      pub sends_fit : (k : ℕ) (d : DownBundle) → d.parts ≡ in_order ds → (x : ContextId) → Tells (tree_look c p mk) (tree_begin c p mk) (Sends k (Said ys) d) (Said ys) d x h
      sends_fit k d is x = by_told (told_by c p mk old x) refl (joined_by c p mk ys x) refl
        where
          by_told : (b : Bool) → told_by c p mk old x ≡ b → (r : Bool) → joined_by c p mk ys x ≡ r → Tells (tree_look c p mk) (tree_begin c p mk) (Sends k (Said ys) d) (Said ys) d x h
          by_told true m r e = told_fit k d is x m
          by_told false untold true in_it = joined_fit k d is x untold in_it
          by_told false untold false out = untold_fit k d is x untold out

      pub unsent_fits : (k : ℕ) → in_order ds ≡ [] → (x : ContextId) → Unsent (tree_look c p mk) (tree_begin c p mk) (Changes k (Said ys)) (Said ys) x h
      unsent_fits k none x = record {
        done = done_by_others (Changes k (Said ys)) (λ x. refl) (λ x. refl) x;
        untold = λ e. sym (tells_are x (sym (told_here x) ∙ e)) ∙ ap (λ ps. parts_tell x (line x mk) (singles ps)) none;
        makes_none = λ e. sym (brings_are x (sym (told_here x) ∙ e)) ∙ ap (λ ps. parts_bring x (singles ps)) none;
        hands_none = λ e now. sym (hands_are x (sym (told_here x) ∙ e)) ∙ ap (λ ps. parts_handed x (singles ps)) none;
      }

      -- the event of the entry fits
      pub told_fits : (k : ℕ) → Fit (tree_look c p mk) (tree_begin c p mk) (told k ys (bundle_for (asked c.tabs (ys ++ old)) p (in_order ds))) h
      told_fits k = by_parts (in_order ds) refl
        where
          by_parts : (parts : List DownPart) → in_order ds ≡ parts → Fit (tree_look c p mk) (tree_begin c p mk) (told k ys (bundle_for (asked c.tabs (ys ++ old)) p parts)) h
          by_parts [] none = λ x. unsent_fits k none x
          by_parts (d ∷ more) is = λ x. sends_fit k (record { epoch = record { 0 = (asked c.tabs (ys ++ old)).processes.commits_heard p }; parts = d ∷ more }) (sym is) x

      -- and the groups of which it is told are those to which it is subscribed
      pub groups_told : (k : ℕ) (g : GroupId) → is_subscribed (asked c.tabs (ys ++ old)) p g ≡ group_told c p g (told k ys (bundle_for (asked c.tabs (ys ++ old)) p (in_order ds)) ∷ h)
      groups_told k g =
          subscribed_behind c p mk l old ft low fit ys s.fits others g ∙ ap₂ (λ a b. a || b) (sym (registers_ordered c p old g ys ds posted)) (t.told g) ∙ by_parts (in_order ds)
        where
          by_parts : (parts : List DownPart) → (list_any (registers_group g) parts || group_told c p g h) ≡ group_told c p g (told k ys (bundle_for (asked c.tabs (ys ++ old)) p parts) ∷ h)
          by_parts [] = refl
          by_parts (d ∷ more) = refl
