-- What a process is sent of an entry is what was said in it, of the groups that it was told of before; of others it is
-- sent nothing, unless it is subscribed to them in the entry.
use Rattle.std.proofs.Common.{◌≡◌, ◌⊎◌, inl, inr, ℕ, ◌<◌, ◌==◌, Bool, true, false, ◌||◌, if◌then◌else◌, Option, None, Some, List, [], ◌∷◌, ◌++◌, refl, ap, ap₂, sym, ◌∙◌, append-nil}
use Rattle.std.specs.List.{AllByRecursion, list_any}
use Rattle.fission_ids.specs.declared.context.ContextId.{ContextId}
use Rattle.fission_ids.specs.Ids.{same_context}
use Rattle.wire_msgs.specs.declared.config.Config.{Config}
use Rattle.fission_ids.specs.declared.group.GroupId.{GroupId}
use Rattle.wire_msgs.specs.declared.part.DownPart.{DownPart}
use Rattle.wire_msgs.specs.declared.part.DownPart.TheVariants as downs
use Rattle.protocol.specs.Hear.{frame_known}
use Rattle.protocol.specs.FactsAfter.{facts_after}
use Rattle.protocol.specs.Fold.{or_later}
use Rattle.protocol.specs.ParentActs.{register_of}
use Rattle.protocol.specs.Questions.{Facts, option_any, is_subscribed, is_told}
use Rattle.protocol.specs.Start.{group_of}
use Rattle.protocol.specs.Sayings.{Saying}
use Rattle.protocol.specs.Sayings.Saying.{Opened, Made, BornDead, Removed, Wrote, Acked, Subscribed, Counted, Sent, Ended}
use Rattle.trees.specs.Look.{Handing}
use Rattle.trees.specs.Look.Effect.{Stays}
use Rattle.trees.specs.Look.Handing.{Same, Given, Taken}
use Rattle.trees.specs.Rules.{told_owner}
use Rattle.model.specs.Lines.{Making, makings_said, line, root, opened_in, group_in, is_among}
use Rattle.model.specs.Parent.{asked}
use Rattle.model.specs.Trees.{comes_if, goes_if, both, says_do, says_make, later_hand, hand_if, says_hand, parts_tell, parts_bring, parts_handed}
use Rattle.model.proofs.AskedMore.{asked_more}
use Rattle.model.proofs.Cases.{true_false, same_context_is, same_itself}
use Rattle.model.proofs.Entry.{FitsOver, IsOfOthers, PostOf, IsCommitOf, Posted, tab_known, others_posted}
use Rattle.model.proofs.Entry.Posted.{NonePosted, OnePosted}
use Rattle.model.proofs.Fitting.{SayingFits, OpenedFits, AllFit, FactsTies}
use Rattle.model.proofs.Lining.{Lined, IsToldBy, group_step}
use Rattle.model.proofs.Living.{both_swapped, both_joined, says_one, says_more, root_of}
use Rattle.model.proofs.Owning.{later_same, hand_one, hand_more}
use Rattle.model.proofs.Subscribing.{joins, subscribed_more}
use Rattle.model.proofs.Telling.{Saids, saids_before, facts_behind}

-- ---- lists of parts

pub tell_append : (x : ContextId) (ln : List ContextId) (ds es : List DownPart) → parts_tell x ln (ds ++ es) ≡ both (parts_tell x ln ds) (parts_tell x ln es)
tell_append x ln [] es = refl
tell_append x ln (downs.Create k ∷ ds) es = ap (both (comes_if (same_context x k.context))) (tell_append x ln ds es) ∙ sym (both_joined (comes_if (same_context x k.context)) (parts_tell x ln ds) (parts_tell x ln es))
tell_append x ln (downs.Discard w ∷ ds) es = ap (both (goes_if (is_among w ln))) (tell_append x ln ds es) ∙ sym (both_joined (goes_if (is_among w ln)) (parts_tell x ln ds) (parts_tell x ln es))
tell_append x ln (_ ∷ ds) es = tell_append x ln ds es

pub bring_append : (y : ContextId) (ds es : List DownPart) → parts_bring y (ds ++ es) ≡ parts_bring y ds ++ parts_bring y es
bring_append y [] es = refl
bring_append y (downs.Create k ∷ ds) es = by_test (option_any (same_context y) k.parent) (bring_append y ds es)
  where
    by_test : (b : Bool) → parts_bring y (ds ++ es) ≡ parts_bring y ds ++ parts_bring y es → (if b then k.context ∷ parts_bring y (ds ++ es) else parts_bring y (ds ++ es)) ≡ (if b then k.context ∷ parts_bring y ds else parts_bring y ds) ++ parts_bring y es
    by_test true e = ap (λ xs. k.context ∷ xs) e
    by_test false e = e
bring_append y (_ ∷ ds) es = bring_append y ds es

later_joined : (a b c : Handing) → later_hand (later_hand a b) c ≡ later_hand a (later_hand b c)
later_joined Same b c = refl
later_joined Given b c = refl
later_joined Taken b c = refl

-- the last parts hand over last
pub handed_append : (y : ContextId) (ds es : List DownPart) → parts_handed y (ds ++ es) ≡ later_hand (parts_handed y es) (parts_handed y ds)
handed_append y [] es = sym (later_same (parts_handed y es))
handed_append y (downs.Create k ∷ ds) es = ap (λ h. later_hand h (hand_if (same_context y k.context) (told_owner k.owned))) (handed_append y ds es) ∙ later_joined (parts_handed y es) (parts_handed y ds) (hand_if (same_context y k.context) (told_owner k.owned))
handed_append y (_ ∷ ds) es = handed_append y ds es

-- ---- groups

-- whether the process is told of the group of a context by these answers
abbrev pub told_by : Config → ℕ → List Making → List Saying → ContextId → Bool
told_by c p mk says x = option_any (is_subscribed (asked c.tabs says) p) (group_in c.tabs mk x)

-- whether these subscribe it to the group
abbrev pub joined_by : Config → ℕ → List Making → List Saying → ContextId → Bool
joined_by c p mk says x = option_any (λ g. list_any (joins p g) says) (group_in c.tabs mk x)

pub same_group_in : (c : Config) (mk : List Making) (x y : ContextId) → root x mk ≡ root y mk → group_in c.tabs mk x ≡ group_in c.tabs mk y
same_group_in c mk x y same = ap (λ r. or_later (group_of c.tabs r) (opened_in mk r)) same

-- ---- an entry

-- a tab that is opened is in its group
known_opened : (f : Facts) (z : ContextId) (g : GroupId) (is_new : Bool) (q : ℕ)
    → ((facts_after (Opened z g is_new q) f).contexts.known z ≡ true) × ((facts_after (Opened z g is_new q) f).contexts.group z ≡ Some g)
unfolding facts_after
known_opened f z g is_new q = (ap (λ (b : Bool). if b then true else f.contexts.known z) (same_itself z), ap (λ (b : Bool). if b then Some g else f.contexts.group z) (same_itself z))

pub group_opened : (c : Config) (p : ℕ) (mk : List Making) (l : Lined mk) (old : List Saying) (ft : FactsTies c.tabs mk (asked c.tabs old)) (ys : List Saying) (z : ContextId) (g : GroupId)
    (is_new : Bool) (q : ℕ)
    → Saids c mk l old ft (Opened z g is_new q ∷ ys) → group_in c.tabs mk z ≡ Some g
group_opened c p mk l old ft ys z g is_new q now =
    let is : ((facts_after (Opened z g is_new q) (asked c.tabs (ys ++ old))).contexts.known z ≡ true) ×
    ((facts_after (Opened z g is_new q) (asked c.tabs (ys ++ old))).contexts.group z ≡ Some g) = known_opened (asked c.tabs (ys ++ old)) z g is_new q in
    sym ((facts_behind c mk l old ft (Opened z g is_new q ∷ ys) now).known_group z (ap (λ (f : Facts). f.contexts.known z) (asked_more c.tabs (Opened z g is_new q) (ys ++ old)) ∙ is.0))
    ∙ ap (λ (f : Facts). f.contexts.group z) (asked_more c.tabs (Opened z g is_new q) (ys ++ old)) ∙ is.1

module _ (c : Config) (p : ℕ) (mk : List Making) (l : Lined mk) (old : List Saying) (ft : FactsTies c.tabs mk (asked c.tabs old)) (low : p < 16) (fit : AllFit c.tabs old) where
  all_fit : (ys : List Saying) → FitsOver c old ys → AllFit c.tabs (ys ++ old)
  all_fit [] fits = fit
  all_fit (y ∷ ys) fits = (fits.0, all_fit ys fits.1)

  or_joined : (a b c : Bool) → (a || (b || c)) ≡ ((a || b) || c)
  or_joined true b c = refl
  or_joined false b c = refl

  -- who is subscribed behind an entry of others was before, or is by a saying of it
  pub subscribed_behind : (ys : List Saying) → FitsOver c old ys → AllByRecursion (IsOfOthers p) ys → (g : GroupId)
      → is_subscribed (asked c.tabs (ys ++ old)) p g ≡ (list_any (joins p g) ys || is_subscribed (asked c.tabs old) p g)
  subscribed_behind [] fits others g = refl
  subscribed_behind (y ∷ ys) fits others g =
      subscribed_more c.tabs p g y (ys ++ old) low (fits.0, all_fit ys fits.1) others.0
      ∙ ap (λ b. joins p g y || b) (subscribed_behind ys fits.1 others.1 g)
      ∙ or_joined (joins p g y) (list_any (joins p g) ys) (is_subscribed (asked c.tabs old) p g)

  pub told_behind : (ys : List Saying) → FitsOver c old ys → AllByRecursion (IsOfOthers p) ys → (x : ContextId)
      → told_by c p mk (ys ++ old) x ≡ (joined_by c p mk ys x || told_by c p mk old x)
  told_behind ys fits others x = by (group_in c.tabs mk x)
    where
      by : (o : Option GroupId) → option_any (is_subscribed (asked c.tabs (ys ++ old)) p) o
          ≡ (option_any (λ g. list_any (joins p g) ys) o || option_any (is_subscribed (asked c.tabs old) p) o)
      by None = refl
      by (Some g) = subscribed_behind ys fits others g

  -- of what is known the process is told by its group
  pub told_of_known : (ys : List Saying) → Saids c mk l old ft ys → (a : ContextId) → (asked c.tabs (ys ++ old)).contexts.known a ≡ true
      → is_told (asked c.tabs (ys ++ old)) p a ≡ told_by c p mk (ys ++ old) a
  told_of_known ys s a known = ap (option_any (is_subscribed (asked c.tabs (ys ++ old)) p)) ((facts_behind c mk l old ft ys s).known_group a known)

  -- ---- what comes and goes

  -- where a context of a group that it was told of is named, the process is told
  pub named_told : (ys : List Saying) → Saids c mk l old ft ys → AllByRecursion (IsOfOthers p) ys → (x a : ContextId) → (asked c.tabs (ys ++ old)).contexts.known a ≡ true
      → group_in c.tabs mk a ≡ group_in c.tabs mk x
      → told_by c p mk old x ≡ true → is_told (asked c.tabs (ys ++ old)) p a ≡ false → {A : Type 0} → A
  named_told ys s others x a known same aware untold =
      true_false (is_told (asked c.tabs (ys ++ old)) p a)
      (told_of_known ys s a known ∙ ap (option_any (is_subscribed (asked c.tabs (ys ++ old)) p)) same ∙ told_behind ys s.fits others x
      ∙ either (joined_by c p mk ys x) (told_by c p mk old x) aware) untold
    where
      either : (u v : Bool) → v ≡ true → (u || v) ≡ true
      either true v e = refl
      either false v e = e

  pub opened_group : (ys : List Saying) → Saids c mk l old ft ys → (z : ContextId) (g : GroupId) (is_new : Bool) (q : ℕ) → OpenedFits (asked c.tabs (ys ++ old)) z q → opened_in mk z ≡ Some g
      → group_in c.tabs mk z ≡ Some g
  opened_group ys s z g is_new q fits opened = group_opened c p mk l old ft ys z g is_new q (record { told = (opened, s.told); fits = (fits, s.fits) })

  -- who was told of the tab's group was subscribed
  opened_told : (ys : List Saying) → Saids c mk l old ft ys → AllByRecursion (IsOfOthers p) ys → (x : ContextId) (g : GroupId) → group_in c.tabs mk x ≡ Some g → told_by c p mk old x ≡ true
      → is_subscribed (asked c.tabs (ys ++ old)) p g ≡ true
  opened_told ys s others x g in_group aware =
      ap (option_any (is_subscribed (asked c.tabs (ys ++ old)) p)) (sym in_group) ∙ told_behind ys s.fits others x ∙ either (joined_by c p mk ys x) (told_by c p mk old x) aware
    where
      either : (u v : Bool) → v ≡ true → (u || v) ≡ true
      either true v e = refl
      either false v e = e

  effect_of : (ys : List Saying) → Saids c mk l old ft ys → AllByRecursion (IsOfOthers p) ys → (y : Saying) → SayingFits (asked c.tabs (ys ++ old)) y → AllByRecursion (IsToldBy mk) (makings_said (y ∷ [])) → (ds : List DownPart)
      → PostOf (asked c.tabs (ys ++ old)) p y ds → (x : ContextId) → told_by c p mk old x ≡ true → parts_tell x (line x mk) ds ≡ says_one mk x y
  effect_of ys s others (Opened z g is_new q) fits told ds post x aware = ap (parts_tell x (line x mk)) post ∙ by_told (is_subscribed (asked c.tabs (ys ++ old)) p g) refl
    where
      by_told : (b : Bool) → is_subscribed (asked c.tabs (ys ++ old)) p g ≡ b
          → parts_tell x (line x mk) (if b then downs.Create (tab_known p z g q) ∷ [] else []) ≡ both (comes_if (same_context x z)) Stays
      by_told true is = refl
      by_told false untold = by_same (same_context x z) refl
        where
          by_same : (b : Bool) → same_context x z ≡ b → Stays ≡ both (comes_if b) Stays
          by_same false e = refl
          by_same true e =
              true_false (is_subscribed (asked c.tabs (ys ++ old)) p g) (opened_told ys s others x g
              (ap (group_in c.tabs mk) (same_context_is x z e) ∙ opened_group ys s z g is_new q fits told.0) aware) untold
  effect_of ys s others (Subscribed q g) fits told ds post x aware = ap (parts_tell x (line x mk)) post ∙ by_self (q == p)
    where
      by_self : (b : Bool) → parts_tell x (line x mk) (if b then register_of (asked c.tabs (ys ++ old)) p g ∷ [] else []) ≡ Stays
      by_self true = refl
      by_self false = refl
  effect_of ys s others (Made q z a) fits told ds post x aware = ap (parts_tell x (line x mk)) post ∙ by_told (is_told (asked c.tabs (ys ++ old)) p a) refl
    where
      by_told : (b : Bool) → is_told (asked c.tabs (ys ++ old)) p a ≡ b → parts_tell x (line x mk) (if b then downs.Create (frame_known (asked c.tabs (ys ++ old)) z a) ∷ [] else []) ≡ both (comes_if (same_context x z)) Stays
      by_told true is = refl
      by_told false untold = by_same (same_context x z) refl
        where
          by_same : (b : Bool) → same_context x z ≡ b → Stays ≡ both (comes_if b) Stays
          by_same false e = refl
          by_same true e =
              named_told ys s others x a ((facts_behind c mk l old ft ys s).live_known a fits.live)
              (sym (group_step c.tabs mk l z a told.0) ∙ ap (group_in c.tabs mk) (sym (same_context_is x z e))) aware untold
  effect_of ys s others (BornDead q z a) fits told ds post x aware = ap (parts_tell x (line x mk)) post
  effect_of ys s others (Removed w but) fits told ds post x aware = ap (parts_tell x (line x mk)) post ∙ by_told (is_told (asked c.tabs (ys ++ old)) p w) refl
    where
      by_told : (b : Bool) → is_told (asked c.tabs (ys ++ old)) p w ≡ b → parts_tell x (line x mk) (if b then downs.Discard w ∷ [] else []) ≡ both (goes_if (is_among w (line x mk))) Stays
      by_told true is = refl
      by_told false untold = by_line (is_among w (line x mk)) refl
        where
          by_line : (b : Bool) → is_among w (line x mk) ≡ b → Stays ≡ both (goes_if b) Stays
          by_line false e = refl
          by_line true e = named_told ys s others x w ((facts_behind c mk l old ft ys s).live_known w fits) (same_group_in c mk w x (root_of mk l w x e)) aware untold
  effect_of ys s others (Wrote z t) fits told ds post x aware = by_post post
    where
      commit_only : IsCommitOf z t ds → parts_tell x (line x mk) ds ≡ Stays
      commit_only (inl is) = ap (parts_tell x (line x mk)) is
      commit_only (inr none) = ap (parts_tell x (line x mk)) none.0

      by_post : ((is_told (asked c.tabs (ys ++ old)) p z ≡ true) × IsCommitOf z t ds) ⊎ ((is_told (asked c.tabs (ys ++ old)) p z ≡ false) × (ds ≡ [])) → parts_tell x (line x mk) ds ≡ Stays
      by_post (inl told) = commit_only told.1
      by_post (inr untold) = ap (parts_tell x (line x mk)) untold.1
  effect_of ys s others (Acked q z) fits told ds post x aware = ap (parts_tell x (line x mk)) post
  effect_of ys s others (Counted q) fits told ds post x aware = ap (parts_tell x (line x mk)) post
  effect_of ys s others (Sent q) fits told ds post x aware = ap (parts_tell x (line x mk)) post
  effect_of ys s others (Ended q cause) fits told ds post x aware = ap (parts_tell x (line x mk)) post

  pub first_told : (y : Saying) (ys : List Saying) → AllByRecursion (IsToldBy mk) (makings_said (y ∷ ys)) → AllByRecursion (IsToldBy mk) (makings_said (y ∷ []))
  first_told (Opened z g is_new q) ys all = (all.0, tt)
  first_told (Made q x a) ys all = (all.0, tt)
  first_told (BornDead q x a) ys all = (all.0, tt)
  first_told (_) ys all = tt

  pub effects_posted : (ys : List Saying) (ds : List DownPart) → Saids c mk l old ft ys → Posted c p old ys ds → (x : ContextId) → told_by c p mk old x ≡ true
      → parts_tell x (line x mk) ds ≡ says_do x (line x mk) ys
  effects_posted _ _ s NonePosted x aware = refl
  effects_posted _ _ s (OnePosted y ys before more posted other post) x aware =
      let earlier : Saids c mk l old ft ys = saids_before c mk l old ft y ys s in
      tell_append x (line x mk) before more
      ∙ ap₂ both (effects_posted ys before earlier posted x aware)
      (effect_of ys earlier (others_posted c p old ys before posted) y s.fits.0 (first_told y ys s.told) more post x aware)
      ∙ both_swapped (says_do x (line x mk) ys) (says_one mk x y) ∙ sym (says_more mk x y ys)

  -- ---- children

  make_one : (y : ContextId) (s : Saying) (ys : List Saying) → says_make y (s ∷ ys) ≡ says_make y ys ++ says_make y (s ∷ [])
  make_one y (Made q x a) ys = refl
  make_one y (_) ys = sym (append-nil (says_make y ys))

  brings_of : (ys : List Saying) → Saids c mk l old ft ys → AllByRecursion (IsOfOthers p) ys → (y : Saying) → SayingFits (asked c.tabs (ys ++ old)) y → (ds : List DownPart)
      → PostOf (asked c.tabs (ys ++ old)) p y ds → (x : ContextId) → told_by c p mk old x ≡ true → parts_bring x ds ≡ says_make x (y ∷ [])
  brings_of ys s others (Opened z g is_new q) fits ds post x aware = ap (parts_bring x) post ∙ by_told (is_subscribed (asked c.tabs (ys ++ old)) p g)
    where
      by_told : (b : Bool) → parts_bring x (if b then downs.Create (tab_known p z g q) ∷ [] else []) ≡ []
      by_told true = refl
      by_told false = refl
  brings_of ys s others (Subscribed q g) fits ds post x aware = ap (parts_bring x) post ∙ by_self (q == p)
    where
      by_self : (b : Bool) → parts_bring x (if b then register_of (asked c.tabs (ys ++ old)) p g ∷ [] else []) ≡ []
      by_self true = refl
      by_self false = refl
  brings_of ys s others (Made q z a) fits ds post x aware = ap (parts_bring x) post ∙ by_told (is_told (asked c.tabs (ys ++ old)) p a) refl
    where
      by_told : (b : Bool) → is_told (asked c.tabs (ys ++ old)) p a ≡ b → parts_bring x (if b then downs.Create (frame_known (asked c.tabs (ys ++ old)) z a) ∷ [] else []) ≡ (if same_context x a then z ∷ [] else [])
      by_told true is = refl
      by_told false untold = by_same (same_context x a) refl
        where
          by_same : (b : Bool) → same_context x a ≡ b → [] ≡ (if b then z ∷ [] else [])
          by_same false e = refl
          by_same true e = named_told ys s others x a ((facts_behind c mk l old ft ys s).live_known a fits.live) (ap (group_in c.tabs mk) (sym (same_context_is x a e))) aware untold
  brings_of ys s others (BornDead q z a) fits ds post x aware = ap (parts_bring x) post
  brings_of ys s others (Removed w but) fits ds post x aware = ap (parts_bring x) post ∙ by_told (is_told (asked c.tabs (ys ++ old)) p w)
    where
      by_told : (b : Bool) → parts_bring x (if b then downs.Discard w ∷ [] else []) ≡ []
      by_told true = refl
      by_told false = refl
  brings_of ys s others (Wrote z t) fits ds post x aware = by_post post
    where
      commit_only : IsCommitOf z t ds → parts_bring x ds ≡ []
      commit_only (inl is) = ap (parts_bring x) is
      commit_only (inr none) = ap (parts_bring x) none.0

      by_post : ((is_told (asked c.tabs (ys ++ old)) p z ≡ true) × IsCommitOf z t ds) ⊎ ((is_told (asked c.tabs (ys ++ old)) p z ≡ false) × (ds ≡ [])) → parts_bring x ds ≡ []
      by_post (inl told) = commit_only told.1
      by_post (inr untold) = ap (parts_bring x) untold.1
  brings_of ys s others (Acked q z) fits ds post x aware = ap (parts_bring x) post
  brings_of ys s others (Counted q) fits ds post x aware = ap (parts_bring x) post
  brings_of ys s others (Sent q) fits ds post x aware = ap (parts_bring x) post
  brings_of ys s others (Ended q cause) fits ds post x aware = ap (parts_bring x) post

  pub brings_posted : (ys : List Saying) (ds : List DownPart) → Saids c mk l old ft ys → Posted c p old ys ds → (x : ContextId) → told_by c p mk old x ≡ true → parts_bring x ds ≡ says_make x ys
  brings_posted _ _ s NonePosted x aware = refl
  brings_posted _ _ s (OnePosted y ys before more posted other post) x aware =
      let earlier : Saids c mk l old ft ys = saids_before c mk l old ft y ys s in
      bring_append x before more ∙ ap₂ (λ u v. u ++ v) (brings_posted ys before earlier posted x aware) (brings_of ys earlier (others_posted c p old ys before posted) y s.fits.0 more post x aware) ∙ sym (make_one x y ys)

  -- ---- owners

  hands_of : (ys : List Saying) → Saids c mk l old ft ys → AllByRecursion (IsOfOthers p) ys → (y : Saying) → SayingFits (asked c.tabs (ys ++ old)) y → IsOfOthers p y → AllByRecursion (IsToldBy mk) (makings_said (y ∷ [])) → (ds : List DownPart)
      → PostOf (asked c.tabs (ys ++ old)) p y ds → (x : ContextId) → told_by c p mk old x ≡ true → parts_handed x ds ≡ hand_one p x y
  hands_of ys s others (Opened z g is_new q) fits other told ds post x aware = ap (parts_handed x) post ∙ by_told (is_subscribed (asked c.tabs (ys ++ old)) p g) refl
    where
      by_told : (b : Bool) → is_subscribed (asked c.tabs (ys ++ old)) p g ≡ b
          → parts_handed x (if b then downs.Create (tab_known p z g q) ∷ [] else []) ≡ later_hand (hand_if (same_context x z) (told_owner (q == p))) Same
      by_told true is = sym (later_same (hand_if (same_context x z) (told_owner (q == p))))
      by_told false untold = by_same (same_context x z) refl
        where
          by_same : (b : Bool) → same_context x z ≡ b → Same ≡ later_hand (hand_if b (told_owner (q == p))) Same
          by_same false e = refl
          by_same true e =
              true_false (is_subscribed (asked c.tabs (ys ++ old)) p g) (opened_told ys s others x g
              (ap (group_in c.tabs mk) (same_context_is x z e) ∙ opened_group ys s z g is_new q fits told.0) aware) untold
  hands_of ys s others (Subscribed q g) fits other told ds post x aware = ap (parts_handed x) post ∙ by_self (q == p)
    where
      by_self : (b : Bool) → parts_handed x (if b then register_of (asked c.tabs (ys ++ old)) p g ∷ [] else []) ≡ Same
      by_self true = refl
      by_self false = refl
  hands_of ys s others (Made q z a) fits other told ds post x aware = ap (parts_handed x) post ∙ by_told (is_told (asked c.tabs (ys ++ old)) p a) refl
    where
      by_told : (b : Bool) → is_told (asked c.tabs (ys ++ old)) p a ≡ b → parts_handed x (if b then downs.Create (frame_known (asked c.tabs (ys ++ old)) z a) ∷ [] else []) ≡ later_hand (hand_if (same_context x z) (told_owner (q == p))) Same
      by_told true is = sym (later_same (hand_if (same_context x z) (told_owner (q == p))) ∙ ap (λ b. hand_if (same_context x z) (told_owner b)) other)
      by_told false untold = by_same (same_context x z) refl
        where
          by_same : (b : Bool) → same_context x z ≡ b → Same ≡ later_hand (hand_if b (told_owner (q == p))) Same
          by_same false e = refl
          by_same true e =
              named_told ys s others x a ((facts_behind c mk l old ft ys s).live_known a fits.live)
              (sym (group_step c.tabs mk l z a told.0) ∙ ap (group_in c.tabs mk) (sym (same_context_is x z e))) aware untold
  hands_of ys s others (BornDead q z a) fits other told ds post x aware = ap (parts_handed x) post
  hands_of ys s others (Removed w but) fits other told ds post x aware = ap (parts_handed x) post ∙ by_told (is_told (asked c.tabs (ys ++ old)) p w)
    where
      by_told : (b : Bool) → parts_handed x (if b then downs.Discard w ∷ [] else []) ≡ Same
      by_told true = refl
      by_told false = refl
  hands_of ys s others (Wrote z t) fits other told ds post x aware = by_post post
    where
      commit_only : IsCommitOf z t ds → parts_handed x ds ≡ Same
      commit_only (inl is) = ap (parts_handed x) is
      commit_only (inr none) = ap (parts_handed x) none.0

      by_post : ((is_told (asked c.tabs (ys ++ old)) p z ≡ true) × IsCommitOf z t ds) ⊎ ((is_told (asked c.tabs (ys ++ old)) p z ≡ false) × (ds ≡ [])) → parts_handed x ds ≡ Same
      by_post (inl told) = commit_only told.1
      by_post (inr untold) = ap (parts_handed x) untold.1
  hands_of ys s others (Acked q z) fits other told ds post x aware = ap (parts_handed x) post
  hands_of ys s others (Counted q) fits other told ds post x aware = ap (parts_handed x) post
  hands_of ys s others (Sent q) fits other told ds post x aware = ap (parts_handed x) post
  hands_of ys s others (Ended q cause) fits other told ds post x aware = ap (parts_handed x) post

  pub hands_posted : (ys : List Saying) (ds : List DownPart) → Saids c mk l old ft ys → Posted c p old ys ds → (x : ContextId) → told_by c p mk old x ≡ true → parts_handed x ds ≡ says_hand p x ys
  hands_posted _ _ s NonePosted x aware = refl
  hands_posted _ _ s (OnePosted y ys before more posted other post) x aware =
      let earlier : Saids c mk l old ft ys = saids_before c mk l old ft y ys s in
      handed_append x before more
      ∙ ap₂ later_hand (hands_of ys earlier (others_posted c p old ys before posted) y s.fits.0 other (first_told y ys s.told) more post x aware) (hands_posted ys before earlier posted x aware)
      ∙ sym (hand_more p x y ys)
