-- What a process is sent of an entry can be taken, a Register too: what comes in it is of others, and each stands
-- behind the one that it is below.
use Rattle.std.proofs.Common.{◌≡◌, ◌⊎◌, inl, inr, ℕ, ◌+◌, ◌≤◌, ◌<◌, ◌==◌, Bool, true, false, ◌||◌, if◌then◌else◌, Option, None, Some, List, [], ◌∷◌, ◌++◌, map, filter, refl, ap, ap₂, sym, subst, ◌∙◌, append-nil, cond, eqb-true}
use Rattle.std.specs.Prelude.{unwrap_or}
use Rattle.std.specs.List.{AllByRecursion, list_any}
use Rattle.fission_ids.specs.declared.context.ContextId.{ContextId}
use Rattle.fission_ids.specs.declared.group.GroupId.{GroupId}
use Rattle.fission_ids.specs.Ids.{same_context}
use Rattle.wire_msgs.specs.declared.config.Config.{Config}
use Rattle.wire_msgs.specs.declared.part.DownPart.{DownPart}
use Rattle.wire_msgs.specs.declared.part.DownPart.TheVariants as downs
use Rattle.wire_msgs.specs.declared.part.Known.{Known}
use Rattle.protocol.specs.Order.{parts_with_all, in_order}
use Rattle.protocol.specs.ParentActs.{known_of, register_of, same_group}
use Rattle.protocol.specs.Questions.{Facts, option_any, is_subscribed}
use Rattle.protocol.specs.Sayings.{Saying}
use Rattle.protocol.specs.Sayings.Saying.{Opened, Made, BornDead, Removed, Wrote, Acked, Subscribed, Counted, Sent, Ended}
use Rattle.model.specs.Lines.{Making, above_in, group_in}
use Rattle.model.specs.Parent.{asked, ended}
use Rattle.model.proofs.AboveFirst.{AboveFirst, above_first, first_kept}
use Rattle.model.proofs.Arranging.{ComeFirst, come_all}
use Rattle.model.proofs.AskedMore.{asked_more}
use Rattle.model.proofs.Cases.{true_false, same_swapped}
use Rattle.model.proofs.DownFits.{ComingFits, IsApart, ComeApart, DownFits}
use Rattle.model.proofs.DownsSent.{IsNoRegister, SentOf, sent_of, single_fits, known_at_first}
use Rattle.model.proofs.DownsSent.SentOf.{SendsNone, SendsCreate, SendsOpened, SendsRegister, SendsDiscard, SendsCommit}
use Rattle.model.proofs.Entry.{FitsOver, PostOf, Posted, tab_known, IsNoJoin, IsOpeningIn, JoinsLast, others_posted}
use Rattle.model.proofs.Entry.Posted.{NonePosted, OnePosted}
use Rattle.model.proofs.Fitting.{AllFit, FactsTies, told_first}
use Rattle.model.proofs.Lining.{Lined}
use Rattle.model.proofs.Ordered.{order_still}
use Rattle.model.proofs.OwnTold.{OwnTold}
use Rattle.model.proofs.Preorder.{Preorder, all_kept}
use Rattle.model.proofs.Registering.{all_live, register_sent, register_joined}
use Rattle.model.proofs.Subscribing.{subscribed_more}
use Rattle.model.proofs.Telling.{Saids, saids_before, facts_behind}

-- ---- a Register

creates_first : (ks : List Known) → ComeFirst (map (λ (k : Known). downs.Create k) ks ++ [])
creates_first [] = tt
creates_first (k ∷ ks) = ((λ later. absurd cc), creates_first ks)

creates_come : (ks : List Known) → come_all (map (λ (k : Known). downs.Create k) ks ++ []) ≡ ks
creates_come [] = refl
creates_come (k ∷ ks) = ap (λ zs. k ∷ zs) (creates_come ks)

first_false : (a b : Bool) → (a || b) ≡ false → a ≡ false
first_false true b e = absurd cc
first_false false b e = refl

second_false : (a b : Bool) → (a || b) ≡ false → b ≡ false
second_false true b e = absurd cc
second_false false b e = e

module _ (c : Config) (p : ℕ) (mk : List Making) (l : Lined mk) (f : Facts) (ties : FactsTies c.tabs mk f) (order : Preorder mk f.contexts.order f.contexts.live) (g : GroupId)
    (others : (z : ContextId) → f.contexts.known z ≡ true → z.creator ≡ p + 1 → option_any (same_group g) (f.contexts.group z) ≡ true → ⊥)
  where
    abbrev is_of_group : ContextId → Bool
    is_of_group z = option_any (same_group g) (f.contexts.group z)

    coming_one : (z : ContextId) → f.contexts.live z ≡ true → option_any (same_group g) (f.contexts.group z) ≡ true → ComingFits c p mk (known_of f p z)
    coming_one z live here = record {
      known = record { above = ties.known_above z known; in_group = grouped (f.contexts.group z) refl here };
      others = by_maker (z.creator == p + 1) refl;
    }
      where
        known : f.contexts.known z ≡ true
        known = ties.live_known z live

        grouped : (o : Option GroupId) → f.contexts.group z ≡ o → option_any (same_group g) o ≡ true → Some (unwrap_or (f.contexts.group z) (record { 0 = 0 })) ≡ group_in c.tabs mk z
        grouped None is e = absurd cc
        grouped (Some h) is e = ap (λ o. Some (unwrap_or o (record { 0 = 0 }))) is ∙ sym is ∙ ties.known_group z known

        by_maker : (b : Bool) → (z.creator == p + 1) ≡ b → b ≡ false
        by_maker false e = refl
        by_maker true e = absurd (others z known (eqb-true z.creator (p + 1) e) here)

    coming_all : (zs : List ContextId) → AllByRecursion (λ z. f.contexts.live z ≡ true) zs
        → AllByRecursion (ComingFits c p mk) (map (known_of f p) (filter (λ z. option_any (same_group g) (f.contexts.group z)) zs))
    coming_all [] all = tt
    coming_all (z ∷ zs) all = by_test (option_any (same_group g) (f.contexts.group z)) refl (coming_all zs all.1)
      where
        by_test : (b : Bool) → option_any (same_group g) (f.contexts.group z) ≡ b
            → AllByRecursion (ComingFits c p mk) (map (known_of f p) (filter (λ z. option_any (same_group g) (f.contexts.group z)) zs))
            → AllByRecursion (ComingFits c p mk) (map (known_of f p) (cond b (z ∷ filter (λ z. option_any (same_group g) (f.contexts.group z)) zs)
            (filter (λ z. option_any (same_group g) (f.contexts.group z)) zs)))
        by_test true here rest = (coming_one z all.0 here, rest)
        by_test false isnt rest = rest

    apart_one : (z : ContextId) → f.contexts.known z ≡ true → (ws : List ContextId) → list_any (same_context z) ws ≡ false
        → ((a : ContextId) → above_in mk z ≡ Some a → list_any (same_context a) ws ≡ false)
        → AllByRecursion (IsApart (known_of f p z)) (map (known_of f p) ws)
    apart_one z known [] none above = tt
    apart_one z known (w ∷ ws) none above = (
      record {
        other = same_swapped w z ∙ first_false (same_context z w) (list_any (same_context z) ws) none;
        not_above = ap (option_any (same_context w)) (ties.known_above z known) ∙ by_above (above_in mk z) refl;
      },
      apart_one z known ws (second_false (same_context z w) (list_any (same_context z) ws) none) (λ a up. second_false (same_context a w) (list_any (same_context a) ws) (above a up)),
    )
      where
        by_above : (o : Option ContextId) → above_in mk z ≡ o → option_any (same_context w) o ≡ false
        by_above None up = refl
        by_above (Some a) up = same_swapped w a ∙ first_false (same_context a w) (list_any (same_context a) ws) (above a up)

    apart_all : (zs : List ContextId) → AboveFirst mk zs → AllByRecursion (λ z. f.contexts.known z ≡ true) zs → ComeApart (map (known_of f p) zs)
    apart_all [] first known = tt
    apart_all (z ∷ zs) first known = (apart_one z known.0 zs first.0 first.1, apart_all zs first.2 known.1)

    pub register_fits : (made : ℕ) → DownFits c p mk made (register_of f p g ∷ [])
    register_fits made = record {
      first = creates_first (map (known_of f p) (filter (λ z. option_any (same_group g) (f.contexts.group z)) f.contexts.order));
      come = subst (AllByRecursion (ComingFits c p mk)) (sym (creates_come (map (known_of f p) (filter (λ z. option_any (same_group g) (f.contexts.group z)) f.contexts.order))))
          (coming_all f.contexts.order lives);
      apart = subst ComeApart (sym (creates_come (map (known_of f p) (filter (λ z. option_any (same_group g) (f.contexts.group z)) f.contexts.order))))
          (apart_all (filter (λ z. option_any (same_group g) (f.contexts.group z)) f.contexts.order) (first_kept mk is_of_group f.contexts.order (above_first mk l f.contexts.order f.contexts.live order))
          (all_kept (λ z. f.contexts.known z ≡ true) is_of_group f.contexts.order (known_all f.contexts.order lives)));
      kinds = (tt, tt);
    }
      where
        lives : AllByRecursion (λ z. f.contexts.live z ≡ true) f.contexts.order
        lives = all_live c p mk l f ties order g (record { creator = 0; serial = 0 })

        known_all : (zs : List ContextId) → AllByRecursion (λ z. f.contexts.live z ≡ true) zs → AllByRecursion (λ z. f.contexts.known z ≡ true) zs
        known_all [] all = tt
        known_all (z ∷ zs) all = (ties.live_known z all.0, known_all zs all.1)

-- ---- an entry

plain_of : (f : Facts) (p : ℕ) (y : Saying) (ds : List DownPart) → SentOf f p y ds → IsNoJoin y → AllByRecursion IsNoRegister ds
plain_of f p _ _ (SendsNone y) none = tt
plain_of f p _ _ (SendsCreate q z a told) none = (tt, tt)
plain_of f p _ _ (SendsOpened z g is_new q told) none = (tt, tt)
plain_of f p _ _ (SendsRegister q h) none = absurd none
plain_of f p _ _ (SendsDiscard w but) none = (tt, tt)
plain_of f p _ _ (SendsCommit y x t) none = (tt, tt)

all_join : {X : Type 0} (P : X → Type 0) (xs ys : List X) → AllByRecursion P xs → AllByRecursion P ys → AllByRecursion P (xs ++ ys)
all_join P [] ys a b = b
all_join P (x ∷ xs) ys a b = (a.0, all_join P xs ys a.1 b)

plain_posted : (c : Config) (p : ℕ) (old ys : List Saying) (ds : List DownPart) → Posted c p old ys ds → AllByRecursion IsNoJoin ys → AllByRecursion IsNoRegister ds
plain_posted c p old _ _ NonePosted none = tt
plain_posted c p old _ _ (OnePosted y ys before more posted other post) none =
    all_join IsNoRegister before more (plain_posted c p old ys before posted none.1) (plain_of (asked c.tabs (ys ++ old)) p y more (sent_of (asked c.tabs (ys ++ old)) p y more post) none.0)

openings_plain : (g : GroupId) (ys : List Saying) → AllByRecursion (IsOpeningIn g) ys → AllByRecursion IsNoJoin ys
openings_plain g [] all = tt
openings_plain g (Opened z h is_new q ∷ ys) all = (tt, openings_plain g ys all.1)
openings_plain g (_ ∷ ys) all = absurd all.0

-- an opening ends nobody
openings_end : (p : ℕ) (g : GroupId) (ys old : List Saying) → AllByRecursion (IsOpeningIn g) ys → ended p (ys ++ old) ≡ ended p old
unfolding ended
openings_end p g [] old all = refl
openings_end p g (Opened z h is_new q ∷ ys) old all = openings_end p g ys old all.1
openings_end p g (_ ∷ ys) old all = absurd all.0

module _ (c : Config) (p : ℕ) (mk : List Making) (l : Lined mk) (old : List Saying) (ft : FactsTies c.tabs mk (asked c.tabs old)) (low : p < 16) (fit : AllFit c.tabs old) where
  all_fit : (ys : List Saying) → FitsOver c old ys → AllFit c.tabs (ys ++ old)
  all_fit [] fits = fit
  all_fit (y ∷ ys) fits = (fits.0, all_fit ys fits.1)

  -- who isn't subscribed behind openings wasn't before, and is told nothing of them
  openings_untold : (g : GroupId) (ys : List Saying) (ds : List DownPart) → FitsOver c old ys → Posted c p old ys ds → AllByRecursion (IsOpeningIn g) ys
      → is_subscribed (asked c.tabs (ys ++ old)) p g ≡ false
      → (ds ≡ []) × (is_subscribed (asked c.tabs old) p g ≡ false)
  openings_untold g _ _ fits NonePosted all untold = (refl, untold)
  openings_untold g _ _ fits (OnePosted (Opened z h is_new q) ys before more posted other post) all untold =
      let before_it : is_subscribed (asked c.tabs (ys ++ old)) p g ≡ false = sym (subscribed_more c.tabs p g (Opened z h is_new q) (ys ++ old) low (fits.0, all_fit ys fits.1) tt) ∙ untold in
      let rest : (before ≡ []) × (is_subscribed (asked c.tabs old) p g ≡ false) = openings_untold g ys before fits.1 posted all.1 before_it in
      let none : more ≡ [] = post ∙ ap (λ (b : Bool). if b then downs.Create (tab_known p z h q) ∷ [] else []) (ap (is_subscribed (asked c.tabs (ys ++ old)) p) all.0 ∙ before_it) in
      (ap₂ (λ us vs. us ++ vs) rest.0 none, rest.1)
  openings_untold g _ _ fits (OnePosted (_) ys before more posted other post) all untold = absurd all.0

  -- one Register is all that is sent
  record IsRegister (ys : List Saying) (ds : List DownPart) : Type 0 where
    group : GroupId
    is : ds ≡ register_of (asked c.tabs (ys ++ old)) p group ∷ []
    untold : is_subscribed (asked c.tabs old) p group ≡ false
    alive : ended p old ≡ None

  plain_or_one : (ys : List Saying) (ds : List DownPart) → FitsOver c old ys → JoinsLast ys → Posted c p old ys ds → AllByRecursion IsNoRegister ds ⊎ IsRegister ys ds
  plain_or_one _ _ fits last NonePosted = inl tt
  plain_or_one _ _ fits last (OnePosted y ys before more posted other post) = by_saying y fits last post (λ earlier before_last. plain_or_one ys before earlier before_last posted)
    where
      by_plain : (y : Saying) → IsNoJoin y → AllByRecursion IsNoJoin ys → PostOf (asked c.tabs (ys ++ old)) p y more
          → AllByRecursion IsNoRegister (before ++ more) ⊎ IsRegister (y ∷ ys) (before ++ more)
      by_plain y none all post =
          inl (all_join IsNoRegister before more (plain_posted c p old ys before posted all) (plain_of (asked c.tabs (ys ++ old)) p y more (sent_of (asked c.tabs (ys ++ old)) p y more post) none))

      further : (q : ℕ) → more ≡ [] → AllByRecursion IsNoRegister before ⊎ IsRegister ys before → AllByRecursion IsNoRegister (before ++ more) ⊎ IsRegister (Sent q ∷ ys) (before ++ more)
      further q none (inl all) = inl (all_join IsNoRegister before more all (subst (AllByRecursion IsNoRegister) (sym none) tt))
      further q none (inr r) = inr (record {
        group = r.group;
        is = ap (λ es. before ++ es) none ∙ append-nil before ∙ r.is ∙ ap (λ d. d ∷ []) (sym (register_sent c p q (ys ++ old) r.group));
        untold = r.untold;
        alive = r.alive;
      })

      joins_now : (q : ℕ) (h : GroupId) → FitsOver c old (Subscribed q h ∷ ys) → AllByRecursion (IsOpeningIn h) ys → (b : Bool) → (q == p) ≡ b
          → more ≡ (if b then register_of (asked c.tabs (ys ++ old)) p h ∷ [] else [])
          → AllByRecursion IsNoRegister (before ++ more) ⊎ IsRegister (Subscribed q h ∷ ys) (before ++ more)
      joins_now q h fits all false other is = inl (all_join IsNoRegister before more (plain_posted c p old ys before posted (openings_plain h ys all))
          (subst (AllByRecursion IsNoRegister) (sym is) tt))
      joins_now q h fits all true self is =
          let out : (before ≡ []) × (is_subscribed (asked c.tabs old) p h ≡ false) =
          openings_untold h ys before fits.1 posted all (ap (λ k. is_subscribed (asked c.tabs (ys ++ old)) k h) (sym (eqb-true q p self)) ∙ fits.0.new) in
          inr (record {
            group = h;
            is = ap₂ (λ us vs. us ++ vs) out.0 is ∙ ap (λ d. d ∷ []) (sym (register_joined c p q h (ys ++ old) h));
            untold = out.1;
            alive = sym (openings_end p h ys old all) ∙ ap (λ k. ended k (ys ++ old)) (sym (eqb-true q p self)) ∙ fits.0.runs;
          })

      by_saying : (y : Saying) → FitsOver c old (y ∷ ys) → JoinsLast (y ∷ ys) → PostOf (asked c.tabs (ys ++ old)) p y more
          → (FitsOver c old ys → JoinsLast ys → AllByRecursion IsNoRegister before ⊎ IsRegister ys before) → AllByRecursion IsNoRegister (before ++ more) ⊎ IsRegister (y ∷ ys) (before ++ more)
      by_saying (Sent q) fits last post rest = further q post (rest fits.1 last)
      by_saying (Subscribed q h) fits last post rest = joins_now q h fits last (q == p) refl post
      by_saying (Opened z g is_new q) fits last post rest = by_plain (Opened z g is_new q) tt last post
      by_saying (Made q z a) fits last post rest = by_plain (Made q z a) tt last post
      by_saying (BornDead q z a) fits last post rest = by_plain (BornDead q z a) tt last post
      by_saying (Removed w but) fits last post rest = by_plain (Removed w but) tt last post
      by_saying (Wrote z t) fits last post rest = by_plain (Wrote z t) tt last post
      by_saying (Acked q z) fits last post rest = by_plain (Acked q z) tt last post
      by_saying (Counted q) fits last post rest = by_plain (Counted q) tt last post
      by_saying (Ended q cause) fits last post rest = by_plain (Ended q cause) tt last post

  -- the order behind what is said
  order_behind : Preorder mk (asked c.tabs old).contexts.order (asked c.tabs old).contexts.live → (ys : List Saying) → Saids c mk l old ft ys
      → Preorder mk (asked c.tabs (ys ++ old)).contexts.order (asked c.tabs (ys ++ old)).contexts.live
  order_behind order [] s = order
  order_behind order (y ∷ ys) s =
      let earlier : Saids c mk l old ft ys = saids_before c mk l old ft y ys s in
      subst (λ (f : Facts). Preorder mk f.contexts.order f.contexts.live) (sym (asked_more c.tabs y (ys ++ old)))
      (order_still c.tabs mk l (asked c.tabs (ys ++ old)) y (told_first mk y ys s.told).0 s.fits.0 (facts_behind c mk l old ft ys earlier) (order_behind order ys earlier))

  one_register : (d : DownPart) → in_order (d ∷ []) ≡ d ∷ []
  unfolding parts_with_all
  one_register d = refl

  -- all that is posted of an entry can be taken
  pub posted_fits : Preorder mk (asked c.tabs old).contexts.order (asked c.tabs old).contexts.live → (ended p old ≡ None → OwnTold c p mk old)
      → (made : ℕ) → ((x : ContextId) → (asked c.tabs old).contexts.known x ≡ true → x.creator ≡ p + 1 → x.serial ≤ made)
      → (ys : List Saying) (ds : List DownPart) → Saids c mk l old ft ys → JoinsLast ys → Posted c p old ys ds → DownFits c p mk made (in_order ds)
  posted_fits order own_told made own_known ys ds s last posted = by_kind (plain_or_one ys ds s.fits last posted)
    where
      ties : FactsTies c.tabs mk (asked c.tabs (ys ++ old))
      ties = facts_behind c mk l old ft ys s

      by_kind : AllByRecursion IsNoRegister ds ⊎ IsRegister ys ds → DownFits c p mk made (in_order ds)
      by_kind (inl plain) = single_fits c p mk l old ft made own_known ys ds s posted plain
      by_kind (inr r) = subst (DownFits c p mk made) (sym (ap in_order r.is ∙ one_register (register_of (asked c.tabs (ys ++ old)) p r.group)))
          (register_fits c p mk l (asked c.tabs (ys ++ old)) ties (order_behind order ys s) r.group others made)
        where
          -- what the process made is of groups of which it was told
          others : (z : ContextId) → (asked c.tabs (ys ++ old)).contexts.known z ≡ true → z.creator ≡ p + 1 → option_any (same_group r.group) ((asked c.tabs (ys ++ old)).contexts.group z) ≡ true → ⊥
          others z known own here = by_group ((asked c.tabs (ys ++ old)).contexts.group z) refl here
            where
              same_group_is : (g h : GroupId) → same_group g h ≡ true → g ≡ h
              same_group_is g h e = ap numbered (eqb-true g.0 h.0 e)
                where
                  numbered : ℕ → GroupId
                  numbered n = record { 0 = n }

              by_group : (o : Option GroupId) → (asked c.tabs (ys ++ old)).contexts.group z ≡ o → option_any (same_group r.group) o ≡ true → ⊥
              by_group None is e = absurd cc
              by_group (Some g) is e =
                  true_false (is_subscribed (asked c.tabs old) p g)
                  (ap (option_any (is_subscribed (asked c.tabs old) p)) (sym is ∙ ties.known_group z known)
                  ∙ own_told r.alive z (known_at_first c p mk l old ft made own_known ys s.fits (others_posted c p old ys ds posted) z own known) own)
                  (ap (is_subscribed (asked c.tabs old) p) (sym (same_group_is r.group g e)) ∙ r.untold)
