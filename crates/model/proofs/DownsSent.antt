-- What a process is sent of an entry can be taken: what comes in it is of others and new, and what goes was known.
use Rattle.std.proofs.Common.{◌≡◌, ◌⊎◌, inl, inr, ℕ, ◌+◌, ◌≤◌, ◌==◌, Bool, true, false, ◌&&◌, ◌||◌, Option, None, Some, List, [], ◌∷◌, ◌++◌, refl, ap, sym, subst, ◌∙◌, arith, append-nil, eqb-true, eq-eqb}
use Rattle.std.specs.Prelude.{nat_lt, nat_le, is_some, unwrap_or}
use Rattle.std.specs.List.{AllByRecursion, list_any}
use Rattle.fission_ids.specs.declared.context.ContextId.{ContextId}
use Rattle.fission_ids.specs.declared.group.GroupId.{GroupId}
use Rattle.fission_ids.specs.Ids.{same_context}
use Rattle.transaction.specs.Transaction.{Changes}
use Rattle.wire_msgs.specs.declared.bundle.DownBundle.{DownBundle}
use Rattle.wire_msgs.specs.declared.config.Config.{Config}
use Rattle.wire_msgs.specs.declared.note.FieldNote.{FieldNote}
use Rattle.wire_msgs.specs.declared.part.DownPart.{DownPart}
use Rattle.wire_msgs.specs.declared.part.DownPart.TheVariants as downs
use Rattle.wire_msgs.specs.declared.part.Known.{Known}
use Rattle.protocol.specs.Bundle.{bundle_for}
use Rattle.protocol.specs.Commits.{sent_back}
use Rattle.protocol.specs.FactsAfter.{facts_after}
use Rattle.protocol.specs.Hear.{frame_known, is_new_frame, is_noted, is_reverted, values_where}
use Rattle.protocol.specs.Order.{down_rank, parts_with, parts_with_all, in_order}
use Rattle.protocol.specs.Questions.{Facts, option_any, is_subscribed, is_told}
use Rattle.protocol.specs.Sayings.{Saying}
use Rattle.protocol.specs.Sayings.Saying.{Opened, Made, BornDead, Removed, Wrote, Acked, Subscribed, Counted, Sent, Ended}
use Rattle.protocol.specs.ParentActs.{register_of}
use Rattle.trees.proofs.Lists.{all_push}
use Rattle.model.specs.View.{singles}
use Rattle.model.specs.Lines.{Making, group_in}
use Rattle.model.specs.Parent.{asked}
use Rattle.model.specs.Trees.{says_create}
use Rattle.model.proofs.Arranging.{ComeFirst, put, put_is, come_one, come_all, come_append, come_with, come_ordered}
use Rattle.model.proofs.AskedMore.{asked_more}
use Rattle.model.proofs.Cases.{by_if, true_false, same_context_is, same_itself, some_is, none_some}
use Rattle.model.proofs.DownFits.{ComingFits, IsApart, ComeApart, PartFits, DownFits}
use Rattle.model.proofs.Entry.{FitsOver, IsOfOthers, PostOf, IsCommitOf, Posted, tab_known, others_posted}
use Rattle.model.proofs.Entry.Posted.{NonePosted, OnePosted}
use Rattle.model.proofs.Fitting.{SayingFits, FactsTies, made_or}
use Rattle.model.proofs.Lining.{Lined, group_step}
use Rattle.model.proofs.Living.{opened_new}
use Rattle.model.proofs.Owning.{known_all, created_known, created_by_others}
use Rattle.model.proofs.Posting.{group_opened}
use Rattle.model.proofs.Telling.{Saids, saids_before, facts_behind}

-- ---- lists of parts

all_append : {X : Type 0} (P : X → Type 0) (xs ys : List X) → AllByRecursion P xs → AllByRecursion P ys → AllByRecursion P (xs ++ ys)
all_append P [] ys a b = b
all_append P (x ∷ xs) ys a b = (a.0, all_append P xs ys a.1 b)

pub all_more : {X : Type 0} (P Q : X → Type 0) → ((x : X) → P x → Q x) → (xs : List X) → AllByRecursion P xs → AllByRecursion Q xs
all_more P Q more [] a = tt
all_more P Q more (x ∷ xs) a = (more x a.0, all_more P Q more xs a.1)

all_put : (P : DownPart → Type 0) (d : DownPart) (es : List DownPart) → P d → AllByRecursion P es → AllByRecursion P (put d es)
all_put P d [] one all = (one, tt)
all_put P d (e ∷ es) one all = by_if (AllByRecursion P) (nat_lt (down_rank d) (down_rank e)) (d ∷ e ∷ es) (e ∷ put d es) (λ is. (one, all)) (λ isnt. (all.0, all_put P d es one all.1))

all_put_all : (P : DownPart → Type 0) (ds es : List DownPart) → AllByRecursion P ds → AllByRecursion P es → AllByRecursion P (parts_with_all ds es)
unfolding parts_with_all
all_put_all P [] es new all = all
all_put_all P (d ∷ ds) es new all = all_put_all P ds (parts_with d es) new.1 (subst (AllByRecursion P) (sym (put_is d es)) (all_put P d es new.0 all))

-- what holds of each part holds of each in order
pub all_ordered : (P : DownPart → Type 0) (ds : List DownPart) → AllByRecursion P ds → AllByRecursion P (in_order ds)
all_ordered P ds all = all_put_all P ds [] all tt

apart_push : (ks : List Known) (k : Known) → ComeApart ks → AllByRecursion (λ earlier. IsApart earlier k) ks → ComeApart (ks ++ k ∷ [])
apart_push [] k apart new = (tt, tt)
apart_push (e ∷ ks) k apart new = (all_push (IsApart e) ks k apart.0 new.0, apart_push ks k apart.1 new.1)

-- what the process made later goes later
pub still_fits : (c : Config) (p : ℕ) (mk : List Making) (made more : ℕ) → made ≤ more → (parts : List DownPart) → DownFits c p mk made parts → DownFits c p mk more parts
still_fits c p mk made more grows parts fits = record { first = fits.first; come = fits.come; apart = fits.apart; kinds = all_more (PartFits p made) (PartFits p more) one parts fits.kinds }
  where
    one : (d : DownPart) → PartFits p made d → PartFits p more d
    one (downs.Create k) fits = tt
    one (downs.Commit x t) fits = tt
    one (downs.Discard w) fits = λ own. omega (arith, fits own, grows)
    one downs.Kill fits = tt
    one (downs.Register g ks) fits = fits
    one (downs.CloseWindow x) fits = fits
    one (downs.Load x url) fits = fits
    one (downs.Ask q w actor text) fits = fits
    one (downs.Tell w actor text) fits = fits
    one (downs.Reply q outcome) fits = fits

-- a part that registers nothing
abbrev pub IsNoRegister : DownPart → Type 0
IsNoRegister (downs.Register g ks) = ⊥
IsNoRegister d = Unit {0}

pub single_is : (ds : List DownPart) → AllByRecursion IsNoRegister ds → singles ds ≡ ds
single_is [] all = refl
single_is (downs.Register g ks ∷ ds) all = absurd all.0
single_is (d ∷ ds) all = ap (λ es. d ∷ es) (single_is ds all.1)

-- ---- what an entry of others sends

-- a context that is known, as is the one above
pub record IsKnownBy (f : Facts) (k : Known) : Type 0 where
  pub known : f.contexts.known k.context ≡ true
  pub above_known : (a : ContextId) → k.parent ≡ Some a → f.contexts.known a ≡ true

-- what was unknown is apart from it
new_apart : (f : Facts) (k later : Known) → IsKnownBy f k → f.contexts.known later.context ≡ false → IsApart k later
new_apart f k later is new = record { other = unlike k.context is.known; not_above = by_above k.parent refl }
  where
    unlike : (y : ContextId) → f.contexts.known y ≡ true → same_context later.context y ≡ false
    unlike y known = by_test (same_context later.context y) refl
      where
        by_test : (b : Bool) → same_context later.context y ≡ b → same_context later.context y ≡ false
        by_test false is = is
        by_test true is = true_false (f.contexts.known later.context) (ap f.contexts.known (same_context_is later.context y is) ∙ known) new

    by_above : (o : Option ContextId) → k.parent ≡ o → option_any (same_context later.context) o ≡ false
    by_above None up = refl
    by_above (Some a) up = unlike a (is.above_known a up)

-- what is sent of a saying, as PostOf has it, case by case
pub data SentOf (f : Facts) (p : ℕ) : Saying → List DownPart → Type 0 where
  SendsNone : (y : Saying) → SentOf f p y []
  SendsCreate : (q : ℕ) (z a : ContextId) → is_told f p a ≡ true → SentOf f p (Made q z a) (downs.Create (frame_known f z a) ∷ [])
  SendsOpened : (z : ContextId) (g : GroupId) (is_new : Bool) (q : ℕ) → is_subscribed f p g ≡ true → SentOf f p (Opened z g is_new q) (downs.Create (tab_known p z g q) ∷ [])
  SendsRegister : (q : ℕ) (h : GroupId) → SentOf f p (Subscribed q h) (register_of f p h ∷ [])
  SendsDiscard : (w : ContextId) (but : Option ℕ) → SentOf f p (Removed w but) (downs.Discard w ∷ [])
  SendsCommit : (y : Saying) (x : ContextId) (t : Changes) → SentOf f p y (downs.Commit x t ∷ [])

pub sent_of : (f : Facts) (p : ℕ) (y : Saying) (ds : List DownPart) → PostOf f p y ds → SentOf f p y ds
sent_of f p (Made q z a) ds post = subst (SentOf f p (Made q z a)) (sym post)
    (by_if (SentOf f p (Made q z a)) (is_told f p a) (downs.Create (frame_known f z a) ∷ []) [] (λ told. SendsCreate q z a told) (λ untold. SendsNone (Made q z a)))
sent_of f p (Removed w but) ds post = subst (SentOf f p (Removed w but)) (sym post)
    (by_if (SentOf f p (Removed w but)) (is_told f p w) (downs.Discard w ∷ []) [] (λ told. SendsDiscard w but) (λ untold. SendsNone (Removed w but)))
sent_of f p (Wrote x t) ds post = by_post post
  where
    commit_only : IsCommitOf x t ds → SentOf f p (Wrote x t) ds
    commit_only (inl is) = subst (SentOf f p (Wrote x t)) (sym is) (SendsCommit (Wrote x t) x t)
    commit_only (inr none) = subst (SentOf f p (Wrote x t)) (sym none.0) (SendsNone (Wrote x t))

    by_post : ((is_told f p x ≡ true) × IsCommitOf x t ds) ⊎ ((is_told f p x ≡ false) × (ds ≡ [])) → SentOf f p (Wrote x t) ds
    by_post (inl told) = commit_only told.1
    by_post (inr untold) = subst (SentOf f p (Wrote x t)) (sym untold.1) (SendsNone (Wrote x t))
sent_of f p (Opened z g is_new q) ds post = subst (SentOf f p (Opened z g is_new q)) (sym post)
    (by_if (SentOf f p (Opened z g is_new q)) (is_subscribed f p g) (downs.Create (tab_known p z g q) ∷ []) [] (λ told. SendsOpened z g is_new q told) (λ untold. SendsNone (Opened z g is_new q)))
sent_of f p (BornDead q z a) ds post = subst (SentOf f p (BornDead q z a)) (sym post) (SendsNone (BornDead q z a))
sent_of f p (Acked q z) ds post = subst (SentOf f p (Acked q z)) (sym post) (SendsNone (Acked q z))
sent_of f p (Subscribed q g) ds post = subst (SentOf f p (Subscribed q g)) (sym post)
    (by_if (SentOf f p (Subscribed q g)) (q == p) (register_of f p g ∷ []) [] (λ self. SendsRegister q g) (λ other. SendsNone (Subscribed q g)))
sent_of f p (Counted q) ds post = subst (SentOf f p (Counted q)) (sym post) (SendsNone (Counted q))
sent_of f p (Sent q) ds post = subst (SentOf f p (Sent q)) (sym post) (SendsNone (Sent q))
sent_of f p (Ended q cause) ds post = subst (SentOf f p (Ended q cause)) (sym post) (SendsNone (Ended q cause))

module _ (c : Config) (p : ℕ) (mk : List Making) (l : Lined mk) (old : List Saying) (ft : FactsTies c.tabs mk (asked c.tabs old)) where
  -- ---- what comes

  created_first : (q : ℕ) (z a : ContextId) (ys : List Saying) → says_create z (Made q z a ∷ ys) ≡ true
  created_first q z a ys = ap (λ b. b || says_create z ys) (same_itself z)

  coming_of : (ys : List Saying) (q : ℕ) (z a : ContextId) → Saids c mk l old ft (Made q z a ∷ ys) → AllByRecursion (IsOfOthers p) (Made q z a ∷ ys)
      → is_told (asked c.tabs (ys ++ old)) p a ≡ true → ComingFits c p mk (frame_known (asked c.tabs (ys ++ old)) z a)
  coming_of ys q z a s others told = record {
    known = record { above = sym s.told.0; in_group = grouped ((asked c.tabs (ys ++ old)).contexts.group a) refl told };
    others = created_by_others c p old (Made q z a ∷ ys) z s.fits others (created_first q z a ys);
  }
    where
      earlier : Saids c mk l old ft ys
      earlier = saids_before c mk l old ft (Made q z a) ys s

      ties : FactsTies c.tabs mk (asked c.tabs (ys ++ old))
      ties = facts_behind c mk l old ft ys earlier

      a_known : (asked c.tabs (ys ++ old)).contexts.known a ≡ true
      a_known = ties.live_known a s.fits.0.live

      grouped : (o : Option GroupId) → (asked c.tabs (ys ++ old)).contexts.group a ≡ o → option_any (is_subscribed (asked c.tabs (ys ++ old)) p) o ≡ true
          → Some (unwrap_or ((asked c.tabs (ys ++ old)).contexts.group a) (record { 0 = 0 })) ≡ group_in c.tabs mk z
      grouped None is told = absurd cc
      grouped (Some g) is told =
          ap (λ o. Some (unwrap_or o (record { 0 = 0 }))) is ∙ sym is ∙ ties.known_group a a_known ∙ sym (group_step c.tabs mk l z a s.told.0)

  opened_first : (z : ContextId) (g : GroupId) (is_new : Bool) (q : ℕ) (ys : List Saying) → says_create z (Opened z g is_new q ∷ ys) ≡ true
  opened_first z g is_new q ys = ap (λ b. b || says_create z ys) (same_itself z)

  opening_of : (ys : List Saying) (z : ContextId) (g : GroupId) (is_new : Bool) (q : ℕ) → Saids c mk l old ft (Opened z g is_new q ∷ ys) → AllByRecursion (IsOfOthers p) (Opened z g is_new q ∷ ys)
      → ComingFits c p mk (tab_known p z g q)
  opening_of ys z g is_new q s others = record {
    known = record { above = sym (l.tabs z (ap (λ (w : ContextId). w.creator) s.fits.0.next)); in_group = sym (group_opened c p mk l old ft ys z g is_new q s) };
    others = created_by_others c p old (Opened z g is_new q ∷ ys) z s.fits others (opened_first z g is_new q ys);
  }

  come_of : (ys : List Saying) (y : Saying) (ds : List DownPart) → Saids c mk l old ft (y ∷ ys) → AllByRecursion (IsOfOthers p) (y ∷ ys) → SentOf (asked c.tabs (ys ++ old)) p y ds → AllByRecursion (ComingFits c p mk) (come_all ds)
  come_of ys _ _ s others (SendsNone y) = tt
  come_of ys _ _ s others (SendsCreate q z a told) = (coming_of ys q z a s others told, tt)
  come_of ys _ _ s others (SendsOpened z g is_new q told) = (opening_of ys z g is_new q s others, tt)
  come_of ys _ _ s others (SendsRegister q h) = tt
  come_of ys _ _ s others (SendsDiscard w but) = tt
  come_of ys _ _ s others (SendsCommit y x t) = tt

  come_posted : (ys : List Saying) (ds : List DownPart) → Saids c mk l old ft ys → Posted c p old ys ds → AllByRecursion (ComingFits c p mk) (come_all ds)
  come_posted _ _ s NonePosted = tt
  come_posted _ _ s (OnePosted y ys before more posted other post) =
      subst (AllByRecursion (ComingFits c p mk)) (sym (come_append before more))
      (all_append (ComingFits c p mk) (come_all before) (come_all more) (come_posted ys before (saids_before c mk l old ft y ys s) posted)
      (come_of ys y more s (other, others_posted c p old ys before posted) (sent_of (asked c.tabs (ys ++ old)) p y more post)))

  -- ---- and is known behind it

  known_of : (ys : List Saying) (y : Saying) (ds : List DownPart) → Saids c mk l old ft (y ∷ ys) → SentOf (asked c.tabs (ys ++ old)) p y ds → AllByRecursion (IsKnownBy (asked c.tabs (y ∷ ys ++ old))) (come_all ds)
  known_of ys _ _ s (SendsNone y) = tt
  known_of ys _ _ s (SendsCreate q z a told) = (
    record {
      known = created_known c old (Made q z a ∷ ys) z s.fits (created_first q z a ys);
      above_known = λ b up. subst (λ w. (asked c.tabs (Made q z a ∷ ys ++ old)).contexts.known w ≡ true) (some_is a b up)
          (known_all c (ys ++ old) (Made q z a ∷ []) a ((facts_behind c mk l old ft ys (saids_before c mk l old ft (Made q z a) ys s)).live_known a s.fits.0.live));
    },
    tt,
  )
  known_of ys _ _ s (SendsOpened z g is_new q told) =
      (record { known = created_known c old (Opened z g is_new q ∷ ys) z s.fits (opened_first z g is_new q ys); above_known = λ b up. none_some b up }, tt)
  known_of ys _ _ s (SendsRegister q h) = tt
  known_of ys _ _ s (SendsDiscard w but) = tt
  known_of ys _ _ s (SendsCommit y x t) = tt

  known_more : (ys : List Saying) (y : Saying) (k : Known) → IsKnownBy (asked c.tabs (ys ++ old)) k → IsKnownBy (asked c.tabs (y ∷ ys ++ old)) k
  known_more ys y k is = record {
    known = known_all c (ys ++ old) (y ∷ []) k.context is.known;
    above_known = λ a up. known_all c (ys ++ old) (y ∷ []) a (is.above_known a up);
  }

  known_posted : (ys : List Saying) (ds : List DownPart) → Saids c mk l old ft ys → Posted c p old ys ds → AllByRecursion (IsKnownBy (asked c.tabs (ys ++ old))) (come_all ds)
  known_posted _ _ s NonePosted = tt
  known_posted _ _ s (OnePosted y ys before more posted other post) =
      subst (AllByRecursion (IsKnownBy (asked c.tabs (y ∷ ys ++ old)))) (sym (come_append before more))
      (all_append (IsKnownBy (asked c.tabs (y ∷ ys ++ old))) (come_all before) (come_all more)
      (all_more (IsKnownBy (asked c.tabs (ys ++ old))) (IsKnownBy (asked c.tabs (y ∷ ys ++ old))) (known_more ys y) (come_all before) (known_posted ys before (saids_before c mk l old ft y ys s) posted))
      (known_of ys y more s (sent_of (asked c.tabs (ys ++ old)) p y more post)))

  apart_of : (ys : List Saying) (y : Saying) (ds : List DownPart) (ks : List Known) → Saids c mk l old ft ys → SayingFits (asked c.tabs (ys ++ old)) y
      → AllByRecursion (IsKnownBy (asked c.tabs (ys ++ old))) ks → ComeApart ks
      → SentOf (asked c.tabs (ys ++ old)) p y ds → ComeApart (ks ++ come_all ds)
  apart_of ys _ _ ks s fits known apart (SendsNone y) = subst ComeApart (sym (append-nil ks)) apart
  apart_of ys _ _ ks s fits known apart (SendsCreate q z a told) =
      apart_push ks (frame_known (asked c.tabs (ys ++ old)) z a) apart
      (all_more (IsKnownBy (asked c.tabs (ys ++ old))) (λ k. IsApart k (frame_known (asked c.tabs (ys ++ old)) z a)) (λ k is. new_apart (asked c.tabs (ys ++ old)) k (frame_known (asked c.tabs (ys ++ old)) z a) is fits.new) ks known)
  apart_of ys _ _ ks s fits known apart (SendsOpened z g is_new q told) =
      apart_push ks (tab_known p z g q) apart
      (all_more (IsKnownBy (asked c.tabs (ys ++ old))) (λ k. IsApart k (tab_known p z g q))
      (λ k is. new_apart (asked c.tabs (ys ++ old)) k (tab_known p z g q) is (opened_new c.tabs mk (asked c.tabs (ys ++ old)) z q (facts_behind c mk l old ft ys s) fits)) ks known)
  apart_of ys _ _ ks s fits known apart (SendsRegister q h) = subst ComeApart (sym (append-nil ks)) apart
  apart_of ys _ _ ks s fits known apart (SendsDiscard w but) = subst ComeApart (sym (append-nil ks)) apart
  apart_of ys _ _ ks s fits known apart (SendsCommit y x t) = subst ComeApart (sym (append-nil ks)) apart

  apart_posted : (ys : List Saying) (ds : List DownPart) → Saids c mk l old ft ys → Posted c p old ys ds → ComeApart (come_all ds)
  apart_posted _ _ s NonePosted = tt
  apart_posted _ _ s (OnePosted y ys before more posted other post) =
      let earlier : Saids c mk l old ft ys = saids_before c mk l old ft y ys s in
      subst ComeApart (sym (come_append before more))
      (apart_of ys y more (come_all before) earlier s.fits.0 (known_posted ys before earlier posted) (apart_posted ys before earlier posted) (sent_of (asked c.tabs (ys ++ old)) p y more post))

  -- ---- what goes

  of_other : (q : ℕ) (z : ContextId) → is_new_frame q z ≡ true → (q == p) ≡ false → z.creator ≡ p + 1 → ⊥
  of_other q z frame other mine =
      let of_q : z.creator ≡ q + 1 = eqb-true z.creator (q + 1) (first_of_three (z.creator == q + 1) (nat_lt 0 z.serial) (nat_le z.serial 240) frame) in
      let same : q ≡ p = omega (arith, of_q, mine) in
      true_false (q == p) (eq-eqb q p same) other
    where
      first_of_three : (u v w : Bool) → (u && v && w) ≡ true → u ≡ true
      first_of_three true v w e = refl
      first_of_three false v w e = absurd cc

  module _ (made : ℕ) (own_known : (x : ContextId) → (asked c.tabs old).contexts.known x ≡ true → x.creator ≡ p + 1 → x.serial ≤ made) where
    -- of what the process made others make nothing known
    known_before : (f : Facts) (y : Saying) (x : ContextId) → SayingFits f y → IsOfOthers p y → x.creator ≡ p + 1 → (facts_after y f).contexts.known x ≡ true → f.contexts.known x ≡ true
    unfolding facts_after
    known_before f (Made q z a) x fits other own e = made_or (λ w. w.creator ≡ p + 1 → f.contexts.known w ≡ true) z x f.contexts.known e (λ mine. absurd (of_other q z fits.frame other mine)) (λ was mine. was) own
    known_before f (BornDead q z a) x fits other own e = made_or (λ w. w.creator ≡ p + 1 → f.contexts.known w ≡ true) z x f.contexts.known e (λ mine. absurd (of_other q z fits.frame other mine)) (λ was mine. was) own
    known_before f (Opened z g is_new q) x fits other own e = made_or (λ w. w.creator ≡ p + 1 → f.contexts.known w ≡ true) z x f.contexts.known e
        (λ mine. absurd (omega (arith, mine, ap (λ (w : ContextId). w.creator) fits.next))) (λ was mine. was) own
    known_before f (Subscribed q g) x fits other own e = e
    known_before f (Removed w but) x fits other own e = e
    known_before f (Wrote z t) x fits other own e = e
    known_before f (Acked q z) x fits other own e = e
    known_before f (Counted q) x fits other own e = e
    known_before f (Sent q) x fits other own e = e
    known_before f (Ended q cause) x fits other own e = e

    pub known_at_first : (ys : List Saying) → FitsOver c old ys → AllByRecursion (IsOfOthers p) ys → (x : ContextId) → x.creator ≡ p + 1 → (asked c.tabs (ys ++ old)).contexts.known x ≡ true
        → (asked c.tabs old).contexts.known x ≡ true
    known_at_first [] fits others x own e = e
    known_at_first (y ∷ ys) fits others x own e =
        known_at_first ys fits.1 others.1 x own (known_before (asked c.tabs (ys ++ old)) y x fits.0 others.0 own (ap (λ (g : Facts). g.contexts.known x) (sym (asked_more c.tabs y (ys ++ old))) ∙ e))

    kinds_of : (ys : List Saying) (y : Saying) (ds : List DownPart) → Saids c mk l old ft (y ∷ ys) → AllByRecursion (IsOfOthers p) ys → SentOf (asked c.tabs (ys ++ old)) p y ds → AllByRecursion (PartFits p made) ds
    kinds_of ys _ _ s others (SendsNone y) = tt
    kinds_of ys _ _ s others (SendsCreate q z a told) = (tt, tt)
    kinds_of ys _ _ s others (SendsOpened z g is_new q told) = (tt, tt)
    kinds_of ys _ _ s others (SendsRegister q h) = (tt, tt)
    kinds_of ys _ _ s others (SendsDiscard w but) = (
      (λ own. own_known w (known_at_first ys s.fits.1 others w own ((facts_behind c mk l old ft ys (saids_before c mk l old ft (Removed w but) ys s)).live_known w s.fits.0)) own),
      tt,
    )
    kinds_of ys _ _ s others (SendsCommit y x t) = (tt, tt)

    kinds_posted : (ys : List Saying) (ds : List DownPart) → Saids c mk l old ft ys → Posted c p old ys ds → AllByRecursion (PartFits p made) ds
    kinds_posted _ _ s NonePosted = tt
    kinds_posted _ _ s (OnePosted y ys before more posted other post) =
        all_append (PartFits p made) before more (kinds_posted ys before (saids_before c mk l old ft y ys s) posted)
        (kinds_of ys y more s (others_posted c p old ys before posted) (sent_of (asked c.tabs (ys ++ old)) p y more post))

    -- all that is posted of an entry can be taken, where it has no Register
    pub single_fits : (ys : List Saying) (ds : List DownPart) → Saids c mk l old ft ys → Posted c p old ys ds → AllByRecursion IsNoRegister ds → DownFits c p mk made (in_order ds)
    single_fits ys ds s posted plain = record {
      first = subst ComeFirst (sym (single_is (in_order ds) (all_ordered IsNoRegister ds plain))) (come_with ds [] tt).1;
      come = subst (λ ps. AllByRecursion (ComingFits c p mk) (come_all ps)) (sym (single_is (in_order ds) (all_ordered IsNoRegister ds plain)))
          (subst (AllByRecursion (ComingFits c p mk)) (sym (come_ordered ds)) (come_posted ys ds s posted));
      apart = subst (λ ps. ComeApart (come_all ps)) (sym (single_is (in_order ds) (all_ordered IsNoRegister ds plain))) (subst ComeApart (sym (come_ordered ds)) (apart_posted ys ds s posted));
      kinds = all_ordered (PartFits p made) ds (kinds_posted ys ds s posted);
    }

-- ---- what else is sent

-- a bundle of one part that tells of nothing
pub one_part : (c : Config) (p : ℕ) (mk : List Making) (made : ℕ) (d : DownPart) → IsNoRegister d → come_one d ≡ [] → PartFits p made d → DownFits c p mk made (d ∷ [])
one_part c p mk made d plain none fits =
    let nothing : come_all (singles (d ∷ [])) ≡ [] = ap come_all (single_is (d ∷ []) (plain, tt)) ∙ append-nil (come_one d) ∙ none in
    record {
      first = subst ComeFirst (sym (single_is (d ∷ []) (plain, tt))) ((λ later. refl), tt);
      come = subst (AllByRecursion (ComingFits c p mk)) (sym nothing) tt;
      apart = subst ComeApart (sym nothing) tt;
      kinds = (fits, tt);
    }

no_part : (c : Config) (p : ℕ) (mk : List Making) (made : ℕ) → DownFits c p mk made []
no_part c p mk made = record { first = tt; come = tt; apart = tt; kinds = tt }

-- what goes back to who wrote
pub back_fits : (c : Config) (p : ℕ) (mk : List Making) (made : ℕ) (ns : List FieldNote) (f : Facts) (x : ContextId) → DownFits c p mk made (sent_back ns f x)
back_fits c p mk made ns f x = by_if (DownFits c p mk made) (list_any is_some (values_where (is_noted is_reverted ns) f x)) (downs.Commit x (values_where (is_noted is_reverted ns) f x) ∷ []) []
    (λ some. one_part c p mk made (downs.Commit x (values_where (is_noted is_reverted ns) f x)) tt refl tt) (λ none. no_part c p mk made)

-- parts that are sent are those of the bundle
pub bundle_parts : (P : List DownPart → Type 0) (f : Facts) (p : ℕ) (ds : List DownPart) (d : DownBundle) → bundle_for f p ds ≡ Some d → P ds → P d.parts
bundle_parts P f p [] d e fits = none_some d e
bundle_parts P f p (a ∷ ds) d e fits = subst (λ (b : DownBundle). P b.parts) (some_is (record { epoch = record { 0 = f.processes.commits_heard p }; parts = a ∷ ds }) d e) fits
