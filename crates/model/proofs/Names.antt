-- What process p could know of by name so far is known to the parent or is its own, whatever entry comes next. Hence
-- the makings of its run go together.
use Rattle.std.proofs.Common.{◌≡◌, ◌⊎◌, inl, inr, ℕ, zero, suc, ◌+◌, ◌-◌, ◌<◌, ◌≤◌, ◌==◌, Bool, true, false, ◌&&◌, if◌then◌else◌, Option, None, Some, is_some, List, [], ◌∷◌, ◌++◌, length, refl, ap, sym, subst, ◌∙◌, arith, eqb-true, append_assoc, append-nil}
use Rattle.std.specs.Prelude.{nat_lt, slice_get}
use Rattle.std.specs.List.{AllByRecursion, list_any}
use Rattle.fission_ids.specs.declared.context.ContextId.{ContextId}
use Rattle.transaction.specs.Transaction.{Changes}
use Rattle.wire_msgs.specs.declared.bundle.DownBundle.{DownBundle}
use Rattle.wire_msgs.specs.declared.bundle.UpBundle.{UpBundle}
use Rattle.wire_msgs.specs.declared.config.Config.{Config}
use Rattle.wire_msgs.specs.declared.config.StartTab.{StartTab}
use Rattle.wire_msgs.specs.declared.note.FieldNote.{FieldNote}
use Rattle.wire_msgs.specs.declared.part.DownPart.{DownPart}
use Rattle.wire_msgs.specs.declared.part.DownPart.TheVariants as downs
use Rattle.wire_msgs.specs.declared.part.UpPart.{UpPart}
use Rattle.wire_msgs.specs.declared.part.UpPart.TheVariants as ups
use Rattle.protocol.specs.Bundle.{bundle_for}
use Rattle.protocol.specs.Commits.{applied, sent_back}
use Rattle.protocol.specs.Fold.{after_parts, posts_of}
use Rattle.protocol.specs.Hear.{is_noted, is_reverted, values_where}
use Rattle.protocol.specs.Order.{in_order}
use Rattle.protocol.specs.OwnActs.{next_frame}
use Rattle.protocol.specs.Questions.{Facts}
use Rattle.protocol.specs.Sayings.{Saying}
use Rattle.protocol.specs.Sayings.Saying.{Opened, Made, BornDead, Removed, Wrote as SaysWrote, Acked, Counted, Sent}
use Rattle.protocol.specs.Seen.{Seen, Doing}
use Rattle.protocol.specs.Seen.Doing.{Framed, Went, Wrote, Took}
use Rattle.protocol.specs.SeenAfter.{seen_after}
use Rattle.protocol.specs.Start.{is_live, is_of_tab, tab_of}
use Rattle.protocol.specs.Take.{take_rules, bundle_sent, is_kill}
use Rattle.traces.specs.Event.{Bundle}
use Rattle.traces.specs.Event.Event.{Writes, Sends, Takes, Accepts, Reverts, Ignores, Does, Ends}
use Rattle.traces.specs.Links.{writes_waiting}
use Rattle.traces.specs.Rules.{Flows}
use Rattle.model.specs.Lines.{Making, makings_said, makings_done, makings, above_in}
use Rattle.model.specs.Lines.Making.{Below}
use Rattle.model.specs.Moments.{Moment, Written, ProcessEvent, said, did_by, events_of, facts_now, seen_now, told, heard, written}
use Rattle.model.specs.Moments.Written.{Own, Said}
use Rattle.model.specs.Parent.{asked, known, live, tabs_made}
use Rattle.model.specs.Process.{own_asked}
use Rattle.model.specs.Process as own
use Rattle.model.proofs.AskedMore.{own_asked_more}
use Rattle.model.proofs.Cases.{by_if, both_true, same_itself}
use Rattle.model.proofs.Entry.{Entry, FitsOver, IsOfOthers, IsSending, IsAcking, IsTake, IsTold, IsKilled, Says, Hearing, HeardLate, HeardCommit, others_posted}
use Rattle.model.proofs.Entry.Entry.{Idle, Sets, Frames, Drops, TakesOne, Tells, Killing, HearsOne}
use Rattle.model.proofs.Entry.Hearing.{AsMade, AsLate, AsDrop, AsOldDrop, AsAcks, AsCommit, AsOldCommit, AsOver}
use Rattle.model.proofs.Fitting.{made_or}
use Rattle.model.proofs.Naming.{IsNamed, IsAgain, MakingTies, AllNamesFit, named_more, said_all, framed_one, above_still}
use Rattle.model.proofs.NamesLinks.{PartKnown, PartMade, BundleKnown, WriteMade, NamesWaiting, HoldsMore, DoingKnown, waits_more, waits_write, waits_deed, waits_send, waits_take, waits_accept, waits_ignore, waits_revert, waits_told, waits_heard, waits_written, all_ordered, posts_known, did_all, parts_did, parts_post}
use Rattle.model.proofs.Owning.{known_all}

-- what is named by the makings, by what the process holds and by what waits on its links
pub record NameTies (p : ℕ) (f : Facts) (s : Seen) (mk : List Making) (h : List ProcessEvent) : Type 0 where
  pub ids : MakingTies p f s.frames_made mk
  pub held : (x : ContextId) → s.holds x ≡ true → IsNamed p f s.frames_made x
  pub waits : NamesWaiting p f s.frames_made mk h

pub names_at_start : (c : Config) (p : ℕ) → NameTies p (facts_now c []) (seen_now c p []) (makings p []) (events_of p [])
unfolding known live tabs_made own.holds own.frames_made
names_at_start c p = record {
  ids = record {
    coherent = tt;
    frames = tt;
    named = tt;
    own_known = λ x e own. absurd (omega (arith, sym own ∙ tab x e));
    tabs_low = λ x e is_tab. low_tab (x.creator == 0 && nat_lt 0 x.serial) x.serial e;
    live_known = λ x e. e;
  };
  held = λ x e. inl (held_live (tab_of c.tabs x) e);
  waits = record { coming = tt; makes = tt };
}
  where
    some_of : {A : Type 0} (b : Bool) (o : Option A) → is_some (if b then o else None) ≡ true → b ≡ true
    some_of true o e = refl
    some_of false o e = absurd cc

    within : {A : Type 0} (xs : List A) (i : ℕ) → is_some (slice_get xs i) ≡ true → i < length xs
    within [] i e = absurd cc
    within (x ∷ xs) zero e = omega arith
    within (x ∷ xs) (suc i) e = omega (arith, within xs i e)

    low_tab : (b : Bool) (i : ℕ) → is_some (if b then slice_get c.tabs (i - 1) else None) ≡ true → i ≤ length c.tabs
    low_tab false i e = absurd cc
    low_tab true i e = omega (arith, within c.tabs (i - 1) e)

    tab : (x : ContextId) → is_live c.tabs x ≡ true → x.creator ≡ 0
    tab x e = eqb-true x.creator 0 (both_true (x.creator == 0) (nat_lt 0 x.serial) (some_of (x.creator == 0 && nat_lt 0 x.serial) (slice_get c.tabs (x.serial - 1)) e)).0

    held_live : (o : Option StartTab) → is_of_tab p o ≡ true → is_some o ≡ true
    held_live (Some tab) e = refl
    held_live None e = absurd cc

-- ---- sayings that fit

module _ (c : Config) (p n : ℕ) (old : List Saying) (mk : List Making) where
  others_fit : (ys : List Saying) → FitsOver c old ys → AllByRecursion (IsOfOthers p) ys → AllNamesFit c p n old mk ys
  others_fit [] fits others = tt
  others_fit (Opened x g is_new q ∷ ys) fits others = (fits.0, others_fit ys fits.1 others.1)
  others_fit (Made q x a ∷ ys) fits others = ((fits.0, inl others.0), others_fit ys fits.1 others.1)
  others_fit (BornDead q x a ∷ ys) fits others = ((fits.0, inl others.0), others_fit ys fits.1 others.1)
  others_fit (_ ∷ ys) fits others = (tt, others_fit ys fits.1 others.1)

  sent_fit : (sent core : List Saying) → AllByRecursion IsSending sent → AllNamesFit c p n old mk core → AllNamesFit c p n old mk (sent ++ core)
  sent_fit [] core all fits = fits
  sent_fit (Sent q ∷ sent) core all fits = (tt, sent_fit sent core all.1 fits)
  sent_fit (_ ∷ sent) core all fits = absurd all.0

  acks_fit : (ys : List Saying) → AllByRecursion IsAcking ys → AllNamesFit c p n old mk ys
  acks_fit [] all = tt
  acks_fit (Acked q x ∷ ys) all = (tt, acks_fit ys all.1)
  acks_fit (Sent q ∷ ys) all = (tt, acks_fit ys all.1)
  acks_fit (_ ∷ ys) all = absurd all.0

-- where no frame is made nothing is
none_done : (f : Facts) (did : List Doing) → AllByRecursion (DoingKnown f) did → makings_done did ≡ []
none_done f [] all = refl
none_done f (Framed x a ∷ did) all = absurd all.0
none_done f (_ ∷ did) all = none_done f did all.1

-- a value that is given back
back_known : (f g : Facts) (ns : List FieldNote) (x : ContextId) → AllByRecursion (PartKnown g) (sent_back ns f x)
back_known f g ns x = by_if (AllByRecursion (PartKnown g)) (list_any is_some (values_where (is_noted is_reverted ns) f x)) (downs.Commit x (values_where (is_noted is_reverted ns) f x) ∷ []) [] (λ some. (tt, tt)) (λ none. tt)

-- ---- an entry

module _ (c : Config) (p : ℕ) (ms : List Moment) (m : Moment) (flows : Flows (events_of p ms)) (t : NameTies p (facts_now c ms) (seen_now c p ms) (makings p ms) (events_of p ms)) where
  abbrev f : Facts
  f = facts_now c ms

  abbrev s : Seen
  s = seen_now c p ms

  abbrev n : ℕ
  n = (seen_now c p ms).frames_made

  abbrev mk : List Making
  mk = makings p ms

  abbrev h : List ProcessEvent
  h = events_of p ms

  -- what holds behind an entry in which this is said, done and seen
  abbrev At : List Saying → List Doing → List ProcessEvent → Type 0
  At says did es =
      NameTies p (asked c.tabs (says ++ said ms)) (own_asked c.tabs p (did ++ did_by p ms)) ((makings_said says ++ makings_done did) ++ makings p ms) (es ++ events_of p ms)

  at_entry : (says : List Saying) (did : List Doing) (es : List ProcessEvent) → m.says ≡ says → m.did p ≡ did → m.events p ≡ es → At says did es → At m.says (m.did p) (m.events p)
  at_entry says did es a b d now =
      subst (λ z. At z (m.did p) (m.events p)) (sym a) (subst (λ z. At says z (m.events p)) (sym b) (subst (λ z. At says did z) (sym d) now))

  -- ---- what is said

  said_ties : (says : List Saying) → AllNamesFit c p n (said ms) mk says → MakingTies p (asked c.tabs (says ++ said ms)) n ((makings_said says ++ []) ++ mk)
  said_ties says fits = subst (λ ns. MakingTies p (asked c.tabs (says ++ said ms)) n (ns ++ mk)) (sym (append-nil (makings_said says))) (said_all c p n (said ms) mk says fits t.ids)

  said_waits : (says : List Saying) → AllNamesFit c p n (said ms) mk says → NamesWaiting p (asked c.tabs (says ++ said ms)) n ((makings_said says ++ []) ++ mk) h
  said_waits says fits = waits_more p f (asked c.tabs (says ++ said ms)) n n mk ((makings_said says ++ []) ++ mk) h (known_all c (said ms) says) (omega arith)
      (above_still (makings_said says ++ []) mk (said_ties says fits).coherent) t.waits

  at_said : (says : List Saying) → AllNamesFit c p n (said ms) mk says → (es : List ProcessEvent) → NamesWaiting p (asked c.tabs (says ++ said ms)) n ((makings_said says ++ []) ++ mk) (es ++ h) → At says [] es
  at_said says fits es waits = record {
    ids = said_ties says fits;
    held = λ x e. named_more p f (asked c.tabs (says ++ said ms)) n n x (known_all c (said ms) says x) (omega arith) (t.held x e);
    waits = waits;
  }

  -- ---- what is done

  at_did : (did : List Doing) → AllByRecursion (DoingKnown f) did → (es : List ProcessEvent) → NamesWaiting p f n mk (es ++ h) → At [] did es
  at_did did known es waits =
      let more : HoldsMore f s (own_asked c.tabs p (did ++ did_by p ms)) = did_all c.tabs p f (did_by p ms) did known in
      subst (λ ns. NameTies p f (own_asked c.tabs p (did ++ did_by p ms)) (ns ++ mk) (es ++ h)) (sym (none_done f did known))
      (record {
        ids = subst (λ k. MakingTies p f k mk) (sym more.made) t.ids;
        held = λ x e. subst (λ k. IsNamed p f k x) (sym more.made) (by_held x (more.held x e));
        waits = subst (λ k. NamesWaiting p f k mk (es ++ h)) (sym more.made) waits;
      })
    where
      by_held : (x : ContextId) → (s.holds x ≡ true) ⊎ (f.contexts.known x ≡ true) → IsNamed p f n x
      by_held x (inl was) = t.held x was
      by_held x (inr known) = inl known

  abbrev next_made : ContextId → Making
  next_made a = Below (next_frame p s) a

  at_framed : (a : ContextId) (b : UpBundle) (own : DownBundle) → s.holds a ≡ true → b.parts ≡ ups.Create (next_frame p s) a ∷ [] → At [] (Framed (next_frame p s) a ∷ []) (Writes (Own b) ∷ Does own ∷ [])
  unfolding seen_after
  at_framed a b own held parts =
      subst (λ (u : Seen). NameTies p f u (next_made a ∷ mk) (Writes (Own b) ∷ Does own ∷ h)) (sym (own_asked_more c.tabs p (Framed (next_frame p s) a) (did_by p ms)))
      (record {
        ids = ids;
        held = λ x e. made_or (IsNamed p f (n + 1)) (next_frame p s) x s.holds e (inr (refl, omega arith)) (λ was. named_more p f f n (n + 1) x (λ is. is) (omega arith) (t.held x was));
        waits = waits_write p f (n + 1) (next_made a ∷ mk) (Does own ∷ h) (tt, flows) (waits_deed p f (n + 1) (next_made a ∷ mk) h flows waits own) b (subst (AllByRecursion (PartMade p (n + 1) (next_made a ∷ mk))) (sym parts) (again, tt));
      })
    where
      ids : MakingTies p f (n + 1) (next_made a ∷ mk)
      ids = framed_one p f n mk a (t.held a held) t.ids

      waits : NamesWaiting p f (n + 1) (next_made a ∷ mk) h
      waits = waits_more p f f n (n + 1) mk (next_made a ∷ mk) h (λ x e. e) (omega arith) (above_still (next_made a ∷ []) mk ids.coherent) t.waits

      again : IsAgain p (n + 1) (next_made a ∷ mk) (next_frame p s) a
      again = record {
        told = ap (λ (v : Bool). if v then Some a else above_in mk (next_frame p s)) (same_itself (next_frame p s));
        own = refl;
        counted = omega arith;
      }

  abbrev asked_behind : List Doing → Seen
  asked_behind did = own_asked c.tabs p (did ++ did_by p ms)

  -- what a bundle comes to that is taken, and what it has the process send
  abbrev done : Bundle DownBundle → List Doing
  done d = after_parts (take_rules p d.content.epoch.0) (λ did. own_asked c.tabs p (did ++ did_by p ms)) (λ e did. e ∷ did) [] d.content.parts

  abbrev sends : Bundle DownBundle → List UpPart
  sends d =
      if list_any is_kill d.content.parts then []
      else posts_of (take_rules p d.content.epoch.0) (λ did. own_asked c.tabs p (did ++ did_by p ms)) (λ e did. e ∷ did) [] d.content.parts

  at_taken : (d : Bundle DownBundle) (rest : List (Bundle DownBundle)) → IsTake c p ms m d rest → At m.says (m.did p) (m.events p)
  at_taken d rest e = at_entry [] (Took ∷ done d) (written (bundle_sent (seen_now c p (m ∷ ms)) (sends d)) ++ Takes d ∷ []) e.says e.did e.events
      (at_did (Took ∷ done d) (tt, parts_did p d.content.epoch.0 f asked_behind [] d.content.parts known tt) (written (bundle_sent (seen_now c p (m ∷ ms)) (sends d)) ++ Takes d ∷ [])
      (subst (NamesWaiting p f n mk) (sym (append_assoc (written (bundle_sent (seen_now c p (m ∷ ms)) (sends d))) (Takes d ∷ []) h))
      (waits_written p f n mk (Takes d ∷ h) (record { rest = rest; is = e.first }, flows) (waits_take p f n mk h flows t.waits d rest e.first) (seen_now c p (m ∷ ms)) (sends d) made)))
    where
      known : AllByRecursion (PartKnown f) d.content.parts
      known = (subst (AllByRecursion (BundleKnown f)) e.first t.waits.coming).0

      made : AllByRecursion (PartMade p n mk) (sends d)
      made = by_if (AllByRecursion (PartMade p n mk)) (list_any is_kill d.content.parts) []
          (posts_of (take_rules p d.content.epoch.0) (λ did. own_asked c.tabs p (did ++ did_by p ms)) (λ e did. e ∷ did) [] d.content.parts)
          (λ kill. tt) (λ on. parts_post p d.content.epoch.0 f asked_behind n mk [] d.content.parts)

  -- ---- what is told

  at_told : (posts : List DownPart) → IsTold c p ms m posts → At m.says (m.did p) (m.events p)
  at_told posts e =
      let fits : AllNamesFit c p n (said ms) mk m.says = others_fit c p n (said ms) mk m.says e.fits (others_posted c p (said ms) m.says posts e.posted) in
      let known : AllByRecursion (PartKnown (facts_now c (m ∷ ms))) (in_order posts) = all_ordered (PartKnown (facts_now c (m ∷ ms))) posts (posts_known c p (said ms) m.says posts e.fits e.posted) in
      at_entry m.says [] (told (length ms + 1) m.says (bundle_for (facts_now c (m ∷ ms)) p (in_order posts)) ∷ []) refl e.did e.events
      (at_said m.says fits (told (length ms + 1) m.says (bundle_for (facts_now c (m ∷ ms)) p (in_order posts)) ∷ [])
      (waits_told p (facts_now c (m ∷ ms)) n ((makings_said m.says ++ []) ++ mk) h flows (said_waits m.says fits) (length ms + 1) m.says (facts_now c (m ∷ ms)) (in_order posts) known))

  at_killed : (d : DownBundle) → IsKilled c p ms m d → At m.says (m.did p) (m.events p)
  at_killed d e =
      let fits : AllNamesFit c p n (said ms) mk m.says = subst (AllNamesFit c p n (said ms) mk) (sym e.says) (tt, (tt, tt)) in
      let g : Facts = facts_now c (m ∷ ms) in
      let nk : List Making = (makings_said m.says ++ []) ++ mk in
      at_entry m.says [] (Ends ∷ Sends (length ms + 1) (Said m.says) d ∷ []) refl e.did e.events
      (at_said m.says fits (Ends ∷ Sends (length ms + 1) (Said m.says) d ∷ [])
      (ended g nk (waits_send p g n nk h flows (said_waits m.says fits) (length ms + 1) (Said m.says) d (subst (AllByRecursion (PartKnown g)) (sym e.kill) (tt, tt)))))
    where
      ended : (g : Facts) (nk : List Making) → NamesWaiting p g n nk (Sends (length ms + 1) (Said m.says) d ∷ h) → NamesWaiting p g n nk (Ends ∷ Sends (length ms + 1) (Said m.says) d ∷ h)
      ended g nk w = record { coming = w.coming; makes = w.makes }

  -- ---- what is heard

  module _ (b : UpBundle) (rest : List Written) (first : writes_waiting (events_of p ms) ≡ Own b ∷ rest) where
    -- what the bundle tells of was made
    made : AllByRecursion (PartMade p n mk) b.parts
    made = (subst (AllByRecursion (WriteMade p n mk)) first t.waits.makes).0

    made_again : (x a : ContextId) → b.parts ≡ ups.Create x a ∷ [] → IsAgain p n mk x a
    made_again x a parts = (subst (AllByRecursion (PartMade p n mk)) parts made).0

    says_fit : (core : List Saying) → Says c p ms m core → AllNamesFit c p n (said ms) mk core → AllNamesFit c p n (said ms) mk m.says
    says_fit core says fits = subst (AllNamesFit c p n (said ms) mk) (sym says.is) (sent_fit c p n (said ms) mk says.sent core says.all_sent fits)

    at_accepted : AllNamesFit c p n (said ms) mk m.says → m.did p ≡ [] → m.events p ≡ Accepts (length ms + 1) (Own b) ∷ [] → At m.says (m.did p) (m.events p)
    at_accepted fits did events = at_entry m.says [] (Accepts (length ms + 1) (Own b) ∷ []) refl did events
        (at_said m.says fits (Accepts (length ms + 1) (Own b) ∷ [])
        (waits_accept p (facts_now c (m ∷ ms)) n ((makings_said m.says ++ []) ++ mk) h flows (said_waits m.says fits) (length ms + 1) (Own b) rest first))

    at_ignored : AllNamesFit c p n (said ms) mk m.says → m.did p ≡ [] → m.events p ≡ Ignores (length ms + 1) (Own b) ∷ [] → At m.says (m.did p) (m.events p)
    at_ignored fits did events = at_entry m.says [] (Ignores (length ms + 1) (Own b) ∷ []) refl did events
        (at_said m.says fits (Ignores (length ms + 1) (Own b) ∷ [])
        (waits_ignore p (facts_now c (m ∷ ms)) n ((makings_said m.says ++ []) ++ mk) h flows (said_waits m.says fits) (length ms + 1) (Own b) rest first))

    at_late : (x a : ContextId) (d : DownBundle) → HeardLate c p ms m b x a d → At m.says (m.did p) (m.events p)
    at_late x a d e =
        let fits : AllNamesFit c p n (said ms) mk m.says = says_fit (BornDead p x a ∷ []) e.says ((e.fits, inr (made_again x a e.parts)), tt) in
        at_entry m.says [] (Reverts (length ms + 1) (Own b) d ∷ []) refl e.did e.events
        (at_said m.says fits (Reverts (length ms + 1) (Own b) d ∷ [])
        (waits_revert p (facts_now c (m ∷ ms)) n ((makings_said m.says ++ []) ++ mk) h flows (said_waits m.says fits) (length ms + 1) (Own b) rest d first
        (subst (AllByRecursion (PartKnown (facts_now c (m ∷ ms)))) (sym e.back) (tt, tt))))

    at_commit : (x : ContextId) (u : Changes) (ns : List FieldNote) (back : Option DownBundle) → HeardCommit c p ms m b x u ns back → At m.says (m.did p) (m.events p)
    at_commit x u ns back e =
        let fits : AllNamesFit c p n (said ms) mk m.says = says_fit (SaysWrote x (applied ns u) ∷ Counted p ∷ []) e.says (tt, (tt, tt)) in
        let g : Facts = facts_now c (m ∷ ms) in
        let sent : Option DownBundle = bundle_for g p (sent_back ns f x) in
        at_entry m.says [] (heard (length ms + 1) (Own b) m.answer m.says sent) refl e.did (e.events ∙ ap (heard (length ms + 1) (Own b) m.answer m.says) e.is_back)
        (at_said m.says fits (heard (length ms + 1) (Own b) m.answer m.says sent)
        (waits_heard p g n ((makings_said m.says ++ []) ++ mk) h flows (said_waits m.says fits) (length ms + 1) (Own b) rest first m.answer e.runs_on m.says g (sent_back ns f x) (back_known f g ns x)))

    at_heard : Hearing c p ms m b → At m.says (m.did p) (m.events p)
    at_heard (AsMade x a e) = at_accepted (says_fit (Made p x a ∷ []) e.says ((e.fits, inr (made_again x a e.parts)), tt)) e.did e.events
    at_heard (AsLate x a d e) = at_late x a d e
    at_heard (AsDrop x e) = at_accepted (says_fit (Removed x (Some p) ∷ []) e.says (tt, tt)) e.did e.events
    at_heard (AsOldDrop x e) = at_ignored (subst (AllNamesFit c p n (said ms) mk) (sym e.says) tt) e.did e.events
    at_heard (AsAcks e) = at_accepted (acks_fit c p n (said ms) mk m.says e.says) e.did e.events
    at_heard (AsCommit x u ns back e) = at_commit x u ns back e
    at_heard (AsOldCommit x u e) = at_ignored (subst (AllNamesFit c p n (said ms) mk) (sym e.says) (tt, tt)) e.did e.events
    at_heard (AsOver e) = at_ignored (subst (AllNamesFit c p n (said ms) mk) (sym e.says) tt) e.did e.events

  -- ---- all entries

  at_any : Entry c p ms m → At m.says (m.did p) (m.events p)
  at_any (Idle e) = at_entry [] [] [] e.says e.did e.events t
  at_any (Sets x u b e) = at_entry [] (Wrote x u ∷ []) (Writes (Own b) ∷ []) e.says e.did e.events
      (at_did (Wrote x u ∷ []) (tt, tt) (Writes (Own b) ∷ []) (waits_write p f n mk h flows t.waits b (subst (AllByRecursion (PartMade p n mk)) (sym e.sent.parts) (tt, tt))))
  at_any (Frames a b e) = framed e.held e.sent.parts e.says e.did e.events
    where
      framed : {own : DownBundle} → s.holds a ≡ true → b.parts ≡ ups.Create (next_frame p s) a ∷ [] → m.says ≡ [] → m.did p ≡ Framed (next_frame p s) a ∷ [] → m.events p ≡ Writes (Own b) ∷ Does own ∷ [] → At m.says (m.did p) (m.events p)
      framed {own} held parts says did events = at_entry [] (Framed (next_frame p s) a ∷ []) (Writes (Own b) ∷ Does own ∷ []) says did events (at_framed a b own held parts)
  at_any (Drops x b e) = dropped e.sent.parts e.says e.did e.events
    where
      dropped : {own : DownBundle} → b.parts ≡ ups.Drop x ∷ [] → m.says ≡ [] → m.did p ≡ Went x ∷ [] → m.events p ≡ Writes (Own b) ∷ Does own ∷ [] → At m.says (m.did p) (m.events p)
      dropped {own} parts says did events = at_entry [] (Went x ∷ []) (Writes (Own b) ∷ Does own ∷ []) says did events
          (at_did (Went x ∷ []) (tt, tt) (Writes (Own b) ∷ Does own ∷ [])
          (waits_write p f n mk (Does own ∷ h) (tt, flows) (waits_deed p f n mk h flows t.waits own) b (subst (AllByRecursion (PartMade p n mk)) (sym parts) (tt, tt))))
  at_any (TakesOne d rest e) = at_taken d rest e
  at_any (Tells posts e) = at_told posts e
  at_any (Killing d e) = at_killed d e
  at_any (HearsOne b rest first e) = at_heard b rest first e

-- and so whatever comes next
pub names_still : (c : Config) (p : ℕ) (ms : List Moment) (m : Moment) → Entry c p ms m → Flows (events_of p ms) → NameTies p (facts_now c ms) (seen_now c p ms) (makings p ms) (events_of p ms)
    → NameTies p (facts_now c (m ∷ ms)) (seen_now c p (m ∷ ms)) (makings p (m ∷ ms)) (events_of p (m ∷ ms))
names_still c p ms m e flows t = at_any c p ms m flows t e
