-- Ids that are named in what waits on the links of a process, and in what it takes.
use Rattle.std.proofs.Common.{◌≡◌, ◌⊎◌, inl, inr, ℕ, ◌+◌, ◌≤◌, ◌==◌, Bool, true, false, ◌||◌, if◌then◌else◌, Some, List, [], ◌∷◌, ◌++◌, map, filter, refl, ap, sym, subst, ◌∙◌, arith}
use Rattle.std.specs.Prelude.{nat_lt}
use Rattle.std.specs.List.{AllByRecursion}
use Rattle.fission_ids.specs.declared.context.ContextId.{ContextId}
use Rattle.fission_ids.specs.declared.group.GroupId.{GroupId}
use Rattle.field_table.specs.Table.{value_in}
use Rattle.wire_msgs.specs.declared.answer.Answer.{Answer}
use Rattle.wire_msgs.specs.declared.answer.Answer.TheVariants.{Ended as EndedBy}
use Rattle.wire_msgs.specs.declared.cause.EndCause.{EndCause}
use Rattle.wire_msgs.specs.declared.bundle.DownBundle.{DownBundle}
use Rattle.wire_msgs.specs.declared.bundle.UpBundle.{UpBundle}
use Rattle.wire_msgs.specs.declared.config.Config.{Config}
use Rattle.wire_msgs.specs.declared.config.StartTab.{StartTab}
use Rattle.wire_msgs.specs.declared.note.PartNote.{PartNote}
use Rattle.wire_msgs.specs.declared.note.PartNote.TheVariants as notes
use Rattle.wire_msgs.specs.declared.part.DownPart.{DownPart}
use Rattle.wire_msgs.specs.declared.part.DownPart.TheVariants as downs
use Rattle.wire_msgs.specs.declared.part.Known.{Known}
use Rattle.wire_msgs.specs.declared.part.UpPart.{UpPart}
use Rattle.wire_msgs.specs.declared.part.UpPart.TheVariants as ups
use Rattle.protocol.specs.Bundle.{bundle_for}
use Rattle.protocol.specs.Fold.{behind_all, after_parts, posts_of}
use Rattle.protocol.specs.Hear.{frame_known}
use Rattle.protocol.specs.Order.{down_rank, parts_with, parts_with_all, in_order}
use Rattle.protocol.specs.Questions.{Facts, option_any, is_subscribed, is_told}
use Rattle.protocol.specs.ParentActs.{same_group, known_of, register_of}
use Rattle.protocol.specs.Sayings.{Saying}
use Rattle.protocol.specs.Sayings.Saying.{Opened, Made, BornDead, Removed, Wrote as SaysWrote, Acked, Subscribed, Counted, Sent, Ended}
use Rattle.protocol.specs.Seen.{Seen, Doing}
use Rattle.protocol.specs.Seen.Doing.{Came, Framed, Went, Wrote, Given, Disowned, Took, Stopped}
use Rattle.protocol.specs.SeenAfter.{seen_after, with_context}
use Rattle.protocol.specs.Take.{may_come, note, says, posts, take_rules, bundle_sent}
use Rattle.traces.specs.Event.{Bundle}
use Rattle.traces.specs.Event.Event.{Writes, Sends, Takes, Accepts, Reverts, Ignores, Does}
use Rattle.traces.specs.Links.{hears, writes_waiting, bundles_waiting}
use Rattle.traces.specs.Rules.{Flows}
use Rattle.traces.proofs.Waits.{write_waits, sent_waits, heard_leaves, taken_leaves}
use Rattle.trees.proofs.Lists.{all_push}
use Rattle.model.specs.Lines.{Making, above_in}
use Rattle.model.specs.Moments.{Written, ProcessEvent, told, heard, is_done, written}
use Rattle.model.specs.Moments.Written.{Own, Said}
use Rattle.model.specs.Parent.{asked}
use Rattle.model.specs.Process.{own_asked}
use Rattle.model.specs.Trees.{says_create}
use Rattle.model.proofs.AskedMore.{own_asked_more}
use Rattle.model.proofs.Arranging.{put, put_is}
use Rattle.model.proofs.Cases.{by_if, same_itself}
use Rattle.model.proofs.Entry.{FitsOver, IsCommitOf, PostOf, Posted, tab_known}
use Rattle.model.proofs.Entry.Posted.{NonePosted, OnePosted}
use Rattle.model.proofs.Fitting.{made_or}
use Rattle.model.proofs.Naming.{all_map, IsAgain}
use Rattle.model.proofs.Ordered.{order_known}
use Rattle.model.proofs.Owning.{known_all, created_known}
use Rattle.model.proofs.Preorder.{all_kept}

-- ---- what waits

-- a context that comes is known
abbrev pub PartKnown : Facts → DownPart → Type 0
PartKnown f (downs.Create k) = f.contexts.known k.context ≡ true
PartKnown f (downs.Register g contexts) = AllByRecursion (λ (k : Known). f.contexts.known k.context ≡ true) contexts
PartKnown f part = Unit {0}

abbrev pub BundleKnown : Facts → Bundle DownBundle → Type 0
BundleKnown f d = AllByRecursion (PartKnown f) d.content.parts

-- a frame that the process tells of is its own, made below the same
abbrev pub PartMade : ℕ → ℕ → List Making → UpPart → Type 0
PartMade p n mk (ups.Create x a) = IsAgain p n mk x a
PartMade p n mk part = Unit {0}

abbrev pub WriteMade : ℕ → ℕ → List Making → Written → Type 0
WriteMade p n mk (Own b) = AllByRecursion (PartMade p n mk) b.parts
WriteMade p n mk w = Unit {0}

pub record NamesWaiting (p : ℕ) (f : Facts) (n : ℕ) (mk : List Making) (h : List ProcessEvent) : Type 0 where
  pub coming : AllByRecursion (BundleKnown f) (bundles_waiting h)
  pub makes : AllByRecursion (WriteMade p n mk) (writes_waiting h)

known_more : (f g : Facts) → ((x : ContextId) → f.contexts.known x ≡ true → g.contexts.known x ≡ true) → (d : DownPart) → PartKnown f d → PartKnown g d
known_more f g more (downs.Create k) known = more k.context known
known_more f g more (downs.Register i contexts) known =
    all_map (λ (k : Known). f.contexts.known k.context ≡ true) (λ (k : Known). g.contexts.known k.context ≡ true) (λ k e. more k.context e) contexts known
known_more f g more (_) known = tt

made_more : (p n k : ℕ) (mk nk : List Making) → n ≤ k → ((x a : ContextId) → above_in mk x ≡ Some a → above_in nk x ≡ Some a) → (a : UpPart) → PartMade p n mk a → PartMade p k nk a
made_more p n k mk nk more grows (ups.Create x a) made = record { told = grows x a made.told; own = made.own; counted = omega (arith, more, made.counted) }
made_more p n k mk nk more grows (_) made = tt

write_more : (p n k : ℕ) (mk nk : List Making) → n ≤ k → ((x a : ContextId) → above_in mk x ≡ Some a → above_in nk x ≡ Some a) → (w : Written) → WriteMade p n mk w → WriteMade p k nk w
write_more p n k mk nk more grows (Own b) made = all_map (PartMade p n mk) (PartMade p k nk) (made_more p n k mk nk more grows) b.parts made
write_more p n k mk nk more grows (_) made = tt

-- more is known, and more was made
pub waits_more : (p : ℕ) (f g : Facts) (n k : ℕ) (mk nk : List Making) (h : List ProcessEvent) → ((x : ContextId) → f.contexts.known x ≡ true → g.contexts.known x ≡ true) → n ≤ k
    → ((x a : ContextId) → above_in mk x ≡ Some a → above_in nk x ≡ Some a) → NamesWaiting p f n mk h → NamesWaiting p g k nk h
waits_more p f g n k mk nk h known more grows w = record {
  coming = all_map (BundleKnown f) (BundleKnown g) (λ d all. all_map (PartKnown f) (PartKnown g) (known_more f g known) d.content.parts all) (bundles_waiting h) w.coming;
  makes = all_map (WriteMade p n mk) (WriteMade p k nk) (write_more p n k mk nk more grows) (writes_waiting h) w.makes;
}

-- ---- an event more

module _ (p : ℕ) (f : Facts) (n : ℕ) (mk : List Making) (h : List ProcessEvent) (flows : Flows h) (w : NamesWaiting p f n mk h) where
  pub waits_write : (b : UpBundle) → AllByRecursion (PartMade p n mk) b.parts → NamesWaiting p f n mk (Writes (Own b) ∷ h)
  waits_write b made = record {
    coming = w.coming;
    makes = subst (AllByRecursion (WriteMade p n mk)) (sym (write_waits (Own b) h flows)) (all_push (WriteMade p n mk) (writes_waiting h) (Own b) w.makes made);
  }

  pub waits_deed : (d : DownBundle) → NamesWaiting p f n mk (Does d ∷ h)
  waits_deed d = record { coming = w.coming; makes = w.makes }

  pub waits_send : (k : ℕ) (u : Written) (d : DownBundle) → AllByRecursion (PartKnown f) d.parts → NamesWaiting p f n mk (Sends k u d ∷ h)
  waits_send k u d known =
      let bundle : Bundle DownBundle = record { entry = k; epoch = hears h; content = d } in
      record {
        coming = subst (AllByRecursion (BundleKnown f)) (sym (sent_waits bundle h flows)) (all_push (BundleKnown f) (bundles_waiting h) bundle w.coming known);
        makes = w.makes;
      }

  pub waits_take : (d : Bundle DownBundle) (rest : List (Bundle DownBundle)) → bundles_waiting h ≡ d ∷ rest → NamesWaiting p f n mk (Takes d ∷ h)
  waits_take d rest first = record {
    coming = subst (AllByRecursion (BundleKnown f)) (sym (taken_leaves d h (record { rest = rest; is = first }))) (subst (AllByRecursion (BundleKnown f)) first w.coming).1;
    makes = w.makes;
  }

  -- what is heard waits no more
  heard_rest : (v : Written) (rest : List Written) → writes_waiting h ≡ v ∷ rest → AllByRecursion (WriteMade p n mk) rest
  heard_rest v rest first = (subst (AllByRecursion (WriteMade p n mk)) first w.makes).1

  pub waits_accept : (k : ℕ) (v : Written) (rest : List Written) → writes_waiting h ≡ v ∷ rest → NamesWaiting p f n mk (Accepts k v ∷ h)
  waits_accept k v rest first = record {
    coming = w.coming;
    makes = subst (AllByRecursion (WriteMade p n mk)) (sym (heard_leaves v h (record { rest = rest; is = first }))) (heard_rest v rest first);
  }

  pub waits_ignore : (k : ℕ) (v : Written) (rest : List Written) → writes_waiting h ≡ v ∷ rest → NamesWaiting p f n mk (Ignores k v ∷ h)
  waits_ignore k v rest first = record {
    coming = w.coming;
    makes = subst (AllByRecursion (WriteMade p n mk)) (sym (heard_leaves v h (record { rest = rest; is = first }))) (heard_rest v rest first);
  }

  pub waits_revert : (k : ℕ) (v : Written) (rest : List Written) (d : DownBundle) → writes_waiting h ≡ v ∷ rest → AllByRecursion (PartKnown f) d.parts → NamesWaiting p f n mk (Reverts k v d ∷ h)
  waits_revert k v rest d first known =
      let bundle : Bundle DownBundle = record { entry = k; epoch = hears h + 1; content = d } in
      record {
        coming = subst (AllByRecursion (BundleKnown f)) (sym (sent_waits bundle h flows)) (all_push (BundleKnown f) (bundles_waiting h) bundle w.coming known);
        makes = subst (AllByRecursion (WriteMade p n mk)) (sym (heard_leaves v h (record { rest = rest; is = first }))) (heard_rest v rest first);
      }

  -- what may be sent
  pub waits_told : (k : ℕ) (ys : List Saying) (g : Facts) (parts : List DownPart) → AllByRecursion (PartKnown f) parts → NamesWaiting p f n mk (told k ys (bundle_for g p parts) ∷ h)
  waits_told k ys g [] known = record { coming = w.coming; makes = w.makes }
  waits_told k ys g (d ∷ ds) known = waits_send k (Said ys) (record { epoch = record { 0 = g.processes.commits_heard p }; parts = d ∷ ds }) known

  -- what is sent back, if anything is
  pub waits_heard : (k : ℕ) (v : Written) (rest : List Written) → writes_waiting h ≡ v ∷ rest → (answer : Answer) → ((cause : EndCause) → answer ≡ EndedBy cause → ⊥) → (ys : List Saying) (g : Facts) (parts : List DownPart)
      → AllByRecursion (PartKnown f) parts → NamesWaiting p f n mk (heard k v answer ys (bundle_for g p parts) ++ h)
  waits_heard k v rest first (EndedBy cause) runs_on ys g parts known = absurd (runs_on cause refl)
  waits_heard k v rest first answer runs_on ys g [] known =
      by_if (λ e. NamesWaiting p f n mk (e ∷ h)) (is_done answer) (Accepts k v) (Ignores k v) (λ done. waits_accept k v rest first) (λ idle. waits_ignore k v rest first)
  waits_heard k v rest first answer runs_on ys g (d ∷ ds) known = waits_revert k v rest (record { epoch = record { 0 = g.processes.commits_heard p }; parts = d ∷ ds }) first known

  -- what may be written
  pub waits_written : (s : Seen) (parts : List UpPart) → AllByRecursion (PartMade p n mk) parts → NamesWaiting p f n mk (written (bundle_sent s parts) ++ h)
  waits_written s [] made = w
  waits_written s (a ∷ parts) made = waits_write (record { epoch = record { 0 = s.commits }; seen = s.taken; parts = a ∷ parts }) made

-- ---- what is sent of an entry

all_append : {X : Type 0} (P : X → Type 0) (xs ys : List X) → AllByRecursion P xs → AllByRecursion P ys → AllByRecursion P (xs ++ ys)
all_append P [] ys a b = b
all_append P (x ∷ xs) ys a b = (a.0, all_append P xs ys a.1 b)

all_put : (P : DownPart → Type 0) (d : DownPart) (es : List DownPart) → P d → AllByRecursion P es → AllByRecursion P (put d es)
all_put P d [] one all = (one, tt)
all_put P d (e ∷ es) one all =
    let rest : AllByRecursion P (put d es) = all_put P d es one all.1 in
    by_if (AllByRecursion P) (nat_lt (down_rank d) (down_rank e)) (d ∷ e ∷ es) (e ∷ put d es) (λ before. (one, all)) (λ behind. (all.0, rest))

all_with : (P : DownPart → Type 0) (ds es : List DownPart) → AllByRecursion P ds → AllByRecursion P es → AllByRecursion P (parts_with_all ds es)
unfolding parts_with_all
all_with P [] es more all = all
all_with P (d ∷ ds) es more all = all_with P ds (parts_with d es) more.1 (subst (AllByRecursion P) (sym (put_is d es)) (all_put P d es more.0 all))

pub all_ordered : (P : DownPart → Type 0) (ds : List DownPart) → AllByRecursion P ds → AllByRecursion P (in_order ds)
all_ordered P ds all = all_with P ds [] all tt

-- a Register tells of what is in the order
register_known : (f : Facts) (p : ℕ) (g : GroupId) → AllByRecursion (λ x. f.contexts.known x ≡ true) f.contexts.order → PartKnown f (register_of f p g)
register_known f p g all =
    told_of (filter (λ x. option_any (same_group g) (f.contexts.group x)) f.contexts.order)
    (all_kept (λ x. f.contexts.known x ≡ true) (λ x. option_any (same_group g) (f.contexts.group x)) f.contexts.order all)
  where
    told_of : (xs : List ContextId) → AllByRecursion (λ x. f.contexts.known x ≡ true) xs → AllByRecursion (λ (k : Known). f.contexts.known k.context ≡ true) (map (known_of f p) xs)
    told_of [] all = tt
    told_of (x ∷ xs) all = (all.0, told_of xs all.1)

post_known : (c : Config) (p : ℕ) (old ys : List Saying) (y : Saying) (ds : List DownPart) → FitsOver c old (y ∷ ys) → PostOf (asked c.tabs (ys ++ old)) p y ds → AllByRecursion (PartKnown (asked c.tabs ((y ∷ ys) ++ old))) ds
post_known c p old ys (Opened x g is_new q) ds fits post =
    subst (AllByRecursion (PartKnown (asked c.tabs ((Opened x g is_new q ∷ ys) ++ old)))) (sym post)
    (by_if (AllByRecursion (PartKnown (asked c.tabs ((Opened x g is_new q ∷ ys) ++ old)))) (is_subscribed (asked c.tabs (ys ++ old)) p g) (downs.Create (tab_known p x g q) ∷ []) []
    (λ is. (known, tt)) (λ isnt. tt))
  where
    known : (asked c.tabs ((Opened x g is_new q ∷ ys) ++ old)).contexts.known x ≡ true
    known = created_known c old (Opened x g is_new q ∷ ys) x fits (ap (λ b. b || says_create x ys) (same_itself x))
post_known c p old ys (Made q x a) ds fits post =
    subst (AllByRecursion (PartKnown (asked c.tabs ((Made q x a ∷ ys) ++ old)))) (sym post)
    (by_if (AllByRecursion (PartKnown (asked c.tabs ((Made q x a ∷ ys) ++ old)))) (is_told (asked c.tabs (ys ++ old)) p a) (downs.Create (frame_known (asked c.tabs (ys ++ old)) x a) ∷ []) [] (λ is. (known, tt)) (λ isnt. tt))
  where
    known : (asked c.tabs ((Made q x a ∷ ys) ++ old)).contexts.known x ≡ true
    known = created_known c old (Made q x a ∷ ys) x fits (ap (λ b. b || says_create x ys) (same_itself x))
post_known c p old ys (Removed w but) ds fits post =
    subst (AllByRecursion (PartKnown (asked c.tabs ((Removed w but ∷ ys) ++ old)))) (sym post)
    (by_if (AllByRecursion (PartKnown (asked c.tabs ((Removed w but ∷ ys) ++ old)))) (is_told (asked c.tabs (ys ++ old)) p w) (downs.Discard w ∷ []) [] (λ is. (tt, tt)) (λ isnt. tt))
post_known c p old ys (SaysWrote x t) ds fits post = by_post post
  where
    none : ds ≡ [] → AllByRecursion (PartKnown (asked c.tabs ((SaysWrote x t ∷ ys) ++ old))) ds
    none is = subst (AllByRecursion (PartKnown (asked c.tabs ((SaysWrote x t ∷ ys) ++ old)))) (sym is) tt

    commit : IsCommitOf x t ds → AllByRecursion (PartKnown (asked c.tabs ((SaysWrote x t ∷ ys) ++ old))) ds
    commit (inl is) = subst (AllByRecursion (PartKnown (asked c.tabs ((SaysWrote x t ∷ ys) ++ old)))) (sym is) (tt, tt)
    commit (inr is) = none is.0

    by_post : ((is_told (asked c.tabs (ys ++ old)) p x ≡ true) × IsCommitOf x t ds) ⊎ ((is_told (asked c.tabs (ys ++ old)) p x ≡ false) × (ds ≡ [])) → AllByRecursion (PartKnown (asked c.tabs ((SaysWrote x t ∷ ys) ++ old))) ds
    by_post (inl told) = commit told.1
    by_post (inr untold) = none untold.1
post_known c p old ys (BornDead q x a) ds fits post = subst (AllByRecursion (PartKnown (asked c.tabs ((BornDead q x a ∷ ys) ++ old)))) (sym post) tt
post_known c p old ys (Acked q x) ds fits post = subst (AllByRecursion (PartKnown (asked c.tabs ((Acked q x ∷ ys) ++ old)))) (sym post) tt
post_known c p old ys (Subscribed q g) ds fits post =
    subst (AllByRecursion (PartKnown (asked c.tabs ((Subscribed q g ∷ ys) ++ old)))) (sym post)
    (by_if (AllByRecursion (PartKnown (asked c.tabs ((Subscribed q g ∷ ys) ++ old)))) (q == p) (register_of (asked c.tabs (ys ++ old)) p g ∷ []) [] (λ is. (known, tt)) (λ isnt. tt))
  where
    known : PartKnown (asked c.tabs ((Subscribed q g ∷ ys) ++ old)) (register_of (asked c.tabs (ys ++ old)) p g)
    known = known_more (asked c.tabs (ys ++ old)) (asked c.tabs ((Subscribed q g ∷ ys) ++ old)) (λ x e. known_all c (ys ++ old) (Subscribed q g ∷ []) x e) (register_of (asked c.tabs (ys ++ old)) p g)
        (register_known (asked c.tabs (ys ++ old)) p g (order_known c.tabs (ys ++ old)))
post_known c p old ys (Counted q) ds fits post = subst (AllByRecursion (PartKnown (asked c.tabs ((Counted q ∷ ys) ++ old)))) (sym post) tt
post_known c p old ys (Sent q) ds fits post = subst (AllByRecursion (PartKnown (asked c.tabs ((Sent q ∷ ys) ++ old)))) (sym post) tt
post_known c p old ys (Ended q cause) ds fits post = subst (AllByRecursion (PartKnown (asked c.tabs ((Ended q cause ∷ ys) ++ old)))) (sym post) tt

-- what is posted names what is known behind the entry
pub posts_known : (c : Config) (p : ℕ) (old ys : List Saying) (ds : List DownPart) → FitsOver c old ys → Posted c p old ys ds → AllByRecursion (PartKnown (asked c.tabs (ys ++ old))) ds
posts_known c p old _ _ fits NonePosted = tt
posts_known c p old _ _ fits (OnePosted y ys before ds posted other post) = all_append (PartKnown (asked c.tabs ((y ∷ ys) ++ old))) before ds
    (all_map (PartKnown (asked c.tabs (ys ++ old))) (PartKnown (asked c.tabs ((y ∷ ys) ++ old)))
    (known_more (asked c.tabs (ys ++ old)) (asked c.tabs ((y ∷ ys) ++ old)) (λ x e. known_all c (ys ++ old) (y ∷ []) x e)) before (posts_known c p old ys before fits.1 posted))
    (post_known c p old ys y ds fits post)

-- ---- what is taken

-- of what a process holds behind what it did, it held all before or it is known; and it made no frame
pub record HoldsMore (f : Facts) (s t : Seen) : Type 0 where
  pub made : t.frames_made ≡ s.frames_made
  pub held : (x : ContextId) → t.holds x ≡ true → (s.holds x ≡ true) ⊎ (f.contexts.known x ≡ true)

abbrev pub DoingKnown : Facts → Doing → Type 0
DoingKnown f (Came k) = f.contexts.known k.context ≡ true
DoingKnown f (Framed x a) = ⊥
DoingKnown f d = Unit {0}

did_one : (p : ℕ) (f : Facts) (s : Seen) (d : Doing) → DoingKnown f d → HoldsMore f s (seen_after p d s)
unfolding seen_after
did_one p f s (Came k) known = by_if (HoldsMore f s) (may_come p s k) (with_context k.context (Some k.group) k.parent k.owned (value_in k.fields) s) s
    (λ comes. record { made = refl; held = λ x e. made_or (λ z. (s.holds z ≡ true) ⊎ (f.contexts.known z ≡ true)) k.context x s.holds e (inr known) (λ was. inl was) })
    (λ not. record { made = refl; held = λ x e. inl e })
did_one p f s (Framed x a) known = absurd known
did_one p f s (Went w) known = record { made = refl; held = λ x e. inl (left (s.under x w) (s.holds x) e) }
  where
    left : (u v : Bool) → (if u then false else v) ≡ true → v ≡ true
    left true v e = absurd cc
    left false v e = e
did_one p f s (Wrote x t) known = record { made = refl; held = λ x e. inl e }
did_one p f s (Given x t) known = record { made = refl; held = λ x e. inl e }
did_one p f s (Disowned x) known = record { made = refl; held = λ x e. inl e }
did_one p f s Took known = record { made = refl; held = λ x e. inl e }
did_one p f s Stopped known = record { made = refl; held = λ x e. inl e }

pub did_all : (tabs : List StartTab) (p : ℕ) (f : Facts) (old did : List Doing) → AllByRecursion (DoingKnown f) did → HoldsMore f (own_asked tabs p old) (own_asked tabs p (did ++ old))
did_all tabs p f old [] known = record { made = refl; held = λ x e. inl e }
did_all tabs p f old (d ∷ did) known = subst (HoldsMore f (own_asked tabs p old)) (sym (own_asked_more tabs p d (did ++ old)))
    (joined (did_all tabs p f old did known.1) (did_one p f (own_asked tabs p (did ++ old)) d known.0))
  where
    joined : {s t u : Seen} → HoldsMore f s t → HoldsMore f t u → HoldsMore f s u
    joined {s} {t} {u} a b = record { made = b.made ∙ a.made; held = λ x e. by_last x (b.held x e) }
      where
        by_last : (x : ContextId) → (t.holds x ≡ true) ⊎ (f.contexts.known x ≡ true) → (s.holds x ≡ true) ⊎ (f.contexts.known x ≡ true)
        by_last x (inl was) = a.held x was
        by_last x (inr known) = inr known

module _ (p epoch : ℕ) (f : Facts) (seen : List Doing → Seen) where
  come_did : (ks : List Known) (did : List Doing) → AllByRecursion (λ (k : Known). f.contexts.known k.context ≡ true) ks → AllByRecursion (DoingKnown f) did
      → AllByRecursion (DoingKnown f) (behind_all (λ e did. e ∷ did) (map Came ks) did)
  unfolding behind_all
  come_did [] did known all = all
  come_did (k ∷ ks) did known all = come_did ks (Came k ∷ did) known.1 (known.0, all)

  part_did : (a : DownPart) (ruled : PartNote) (did : List Doing) → PartKnown f a → AllByRecursion (DoingKnown f) did → AllByRecursion (DoingKnown f) (behind_all (λ e did. e ∷ did) (says a ruled) did)
  unfolding behind_all says
  part_did (downs.Register g contexts) ruled did known all = come_did contexts did known all
  part_did (downs.Create k) ruled did known all = (known, all)
  part_did (downs.Commit x t) (notes.Commit y ns) did known all = (tt, all)
  part_did (downs.Commit x t) (_) did known all = all
  part_did (downs.Discard x) ruled did known all = (tt, all)
  part_did (downs.CloseWindow x) ruled did known all = (tt, all)
  part_did downs.Kill ruled did known all = (tt, all)
  part_did (_) ruled did known all = all

  pub parts_did : (did : List Doing) (parts : List DownPart) → AllByRecursion (PartKnown f) parts → AllByRecursion (DoingKnown f) did
      → AllByRecursion (DoingKnown f) (after_parts (take_rules p epoch) seen (λ e did. e ∷ did) did parts)
  unfolding after_parts
  parts_did did [] known all = all
  parts_did did (a ∷ parts) known all =
      let ruled : PartNote = note p epoch (seen did) a in
      parts_did (behind_all (λ e did. e ∷ did) (says a ruled) did) parts known.1 (part_did a ruled did known.0 all)

  part_posts : (n : ℕ) (mk : List Making) (a : DownPart) → AllByRecursion (PartMade p n mk) (posts a)
  unfolding posts
  part_posts n mk (downs.Discard x) = (tt, tt)
  part_posts n mk (_) = tt

  -- and tells of no frame
  pub parts_post : (n : ℕ) (mk : List Making) (did : List Doing) (parts : List DownPart) → AllByRecursion (PartMade p n mk) (posts_of (take_rules p epoch) seen (λ e did. e ∷ did) did parts)
  unfolding posts_of
  parts_post n mk did [] = tt
  parts_post n mk did (a ∷ parts) =
      let behind : List Doing = behind_all (λ e did. e ∷ did) (says a (note p epoch (seen did) a)) did in
      all_append (PartMade p n mk) (posts a) (posts_of (take_rules p epoch) seen (λ e did. e ∷ did) behind parts) (part_posts n mk a) (parts_post n mk behind parts)
