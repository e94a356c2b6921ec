-- The counts of a process, of the parent and of the bundles on their way go together, behind every entry.
use Rattle.std.proofs.Common.{◌≡◌, inl, inr, ℕ, suc, ◌+◌, ◌==◌, Bool, true, false, ◌||◌, if◌then◌else◌, Option, None, Some, List, [], ◌∷◌, ◌++◌, length, refl, ap, sym, subst, ◌∙◌, arith, eq-eqb, eqb-true, length-append}
use Rattle.std.specs.List.{AllByRecursion, list_any}
use Rattle.fission_ids.specs.declared.context.ContextId.{ContextId}
use Rattle.transaction.specs.Transaction.{Changes}
use Rattle.wire_msgs.specs.declared.bundle.DownBundle.{DownBundle}
use Rattle.wire_msgs.specs.declared.bundle.UpBundle.{UpBundle}
use Rattle.wire_msgs.specs.declared.config.Config.{Config}
use Rattle.wire_msgs.specs.declared.note.FieldNote.{FieldNote}
use Rattle.wire_msgs.specs.declared.part.DownPart.{DownPart}
use Rattle.wire_msgs.specs.declared.part.DownPart.TheVariants as downs
use Rattle.wire_msgs.specs.declared.part.UpPart.{UpPart}
use Rattle.wire_msgs.specs.declared.part.UpPart.TheVariants as ups
use Rattle.field_table.specs.Table.{value_in}
use Rattle.protocol.specs.Bundle.{bundle_for, is_commit}
use Rattle.protocol.specs.Commits.{applied, sent_back}
use Rattle.protocol.specs.FactsAfter.{raised}
use Rattle.protocol.specs.Order.{in_order}
use Rattle.protocol.specs.OwnActs.{next_frame}
use Rattle.protocol.specs.Sayings.{Saying}
use Rattle.protocol.specs.Sayings.Saying.{Made, BornDead, Removed, Wrote as SaysWrote, Acked, Counted, Sent}
use Rattle.protocol.specs.Seen.{Seen, Doing}
use Rattle.protocol.specs.Seen.Doing.{Framed, Went, Wrote, Given, Took}
use Rattle.protocol.specs.SeenAfter.{seen_after, with_context}
use Rattle.protocol.specs.Take.{bundle_sent, is_kill, may_come}
use Rattle.traces.specs.Event.{Bundle}
use Rattle.traces.specs.Event.Event.{Writes, Sends, Takes, Accepts, Reverts, Ignores, Ends}
use Rattle.traces.specs.Links.{writes, hears, bundles_sent, bundles_waiting, is_ended, writes_waiting}
use Rattle.traces.specs.Rules.{Flows}
use Rattle.traces.proofs.Waits.{heard_fits}
use Rattle.trees.proofs.Lists.{all_push}
use Rattle.model.specs.Lines.{Making}
use Rattle.model.specs.Moments.{Moment, Written, ProcessEvent, said, did_by, events_of, facts_now, seen_now, own_known, deed, told, heard, written}
use Rattle.model.specs.Moments.Written.{Own, Said}
use Rattle.model.specs.Parent.{commits_heard}
use Rattle.model.specs.View.{singles}
use Rattle.model.specs.Process.{own_asked, commits}
use Rattle.model.proofs.AskedMore.{own_asked_more}
use Rattle.model.proofs.Cases.{by_if, true_false, none_some, some_is}
use Rattle.model.proofs.Counting.{commit_of, counted, count_to, count_push, count_last, count_first}
use Rattle.model.proofs.DownFits.{PartFits, DownFits}
use Rattle.model.proofs.Entry.{IsAck, IsSending, IsAcking, Says, IsOfOthers, HeardCommit, Hearing, Entry, Posted}
use Rattle.model.proofs.Entry.Posted.{NonePosted, OnePosted}
use Rattle.model.proofs.Entry.Entry.{Idle, Sets, Frames, Drops, TakesOne, Tells, Killing, HearsOne}
use Rattle.model.proofs.Entry.Hearing.{AsMade, AsLate, AsDrop, AsOldDrop, AsAcks, AsCommit, AsOldCommit, AsOver}
use Rattle.model.proofs.FieldBefore.{FieldBefore}
use Rattle.model.proofs.FieldFacts.{heard_accepts, heard_reverts}
use Rattle.model.proofs.Shown.{IsNoCommit, Stamped, NumberTies}
use Rattle.model.proofs.Stages.{acks_posted, by_acks}
use Rattle.model.proofs.Taken.{step, steps, steps_are}

-- ---- commits that are heard

others_heard : (p : ℕ) (ys old : List Saying) → AllByRecursion (IsOfOthers p) ys → commits_heard p (ys ++ old) ≡ commits_heard p old
unfolding commits_heard
others_heard p [] old all = refl
others_heard p (Counted q ∷ ys) old all = ap (λ w. raised w (commits_heard p (ys ++ old))) (apart (p == q) refl) ∙ others_heard p ys old all.1
  where
    apart : (w : Bool) → (p == q) ≡ w → (p == q) ≡ false
    apart false e = e
    apart true e = true_false (q == p) (eq-eqb q p (sym (eqb-true p q e))) all.0
others_heard p (_ ∷ ys) old all = others_heard p ys old all.1

posted_of_others : (c : Config) (p : ℕ) (old ys : List Saying) (ds : List DownPart) → Posted c p old ys ds → AllByRecursion (IsOfOthers p) ys
posted_of_others c p old _ _ NonePosted = tt
posted_of_others c p old _ _ (OnePosted y ys before more posted other post) = (other, posted_of_others c p old ys before posted)

sent_heard : (p : ℕ) (sent core old : List Saying) → AllByRecursion IsSending sent → commits_heard p ((sent ++ core) ++ old) ≡ commits_heard p (core ++ old)
unfolding commits_heard
sent_heard p [] core old all = refl
sent_heard p (Sent q ∷ sent) core old all = sent_heard p sent core old all.1
sent_heard p (_ ∷ sent) core old all = absurd all.0

acking_heard : (p : ℕ) (ys old : List Saying) → AllByRecursion IsAcking ys → commits_heard p (ys ++ old) ≡ commits_heard p old
unfolding commits_heard
acking_heard p [] old all = refl
acking_heard p (Acked q x ∷ ys) old all = acking_heard p ys old all.1
acking_heard p (Sent q ∷ ys) old all = acking_heard p ys old all.1
acking_heard p (_ ∷ ys) old all = absurd all.0

plain_heard : (p : ℕ) (old : List Saying) (x a : ContextId) (but : Option ℕ) → (commits_heard p (Made p x a ∷ old) ≡ commits_heard p old) × (commits_heard p (BornDead p x a ∷ old) ≡ commits_heard p old) × (commits_heard p (Removed x but ∷ old) ≡ commits_heard p old)
unfolding commits_heard
plain_heard p old x a but = (refl, refl, refl)

counted_heard : (p : ℕ) (old : List Saying) (x : ContextId) (t : Changes) → (commits_heard p (SaysWrote x t ∷ Counted p ∷ old) ≡ commits_heard p old + 1) × (commits_heard p (Counted p ∷ old) ≡ commits_heard p old + 1)
unfolding commits_heard
counted_heard p old x t = let up : raised (p == p) (commits_heard p old) ≡ commits_heard p old + 1 = ap (λ w. raised w (commits_heard p old)) (eq-eqb p p refl) in (up, up)

-- ---- commits that are made

acks_plain : (parts : List UpPart) → AllByRecursion IsAck parts → list_any is_commit parts ≡ false
acks_plain [] acks = refl
acks_plain (ups.DropAck x ∷ parts) acks = acks_plain parts acks.1
acks_plain (_ ∷ parts) acks = absurd acks.0

one_step : (c : Config) (p epoch : ℕ) (a : DownPart) (s : Seen) → (step c p epoch a s).commits ≡ s.commits
unfolding seen_after
one_step c p epoch (downs.Create k) s = by_come (may_come p s k)
  where
    by_come : (w : Bool) → (if w then with_context k.context (Some k.group) k.parent k.owned (value_in k.fields) s else s).commits ≡ s.commits
    by_come true = refl
    by_come false = refl
one_step c p epoch (downs.Commit y t) s = by_held (s.holds y)
  where
    by_held : (w : Bool) → (if w then seen_after p (Given y (Rattle.model.proofs.Taken.fresh c p epoch s y t)) s else s).commits ≡ s.commits
    by_held true = refl
    by_held false = refl
one_step c p epoch (downs.Discard w) s = refl
one_step c p epoch downs.Kill s = refl
one_step c p epoch (_) s = refl

all_steps : (c : Config) (p epoch : ℕ) (parts : List DownPart) (s : Seen) → (steps c p epoch parts s).commits ≡ s.commits
all_steps c p epoch [] s = refl
all_steps c p epoch (a ∷ parts) s = all_steps c p epoch parts (step c p epoch a s) ∙ one_step c p epoch a s

own_commits : (p : ℕ) (s : Seen) (x a : ContextId) (t : Changes)
    → ((seen_after p (Wrote x t) s).commits ≡ s.commits + 1) × ((seen_after p (Framed x a) s).commits ≡ s.commits) × ((seen_after p (Went x) s).commits ≡ s.commits) × ((seen_after p Took s).commits ≡ s.commits)
unfolding seen_after
own_commits p s x a t = (refl, refl, refl, refl)

-- ---- stamps

stamp_push : (ws : List Written) (w : Written) (d : Bundle DownBundle) → Stamped ws d → Stamped (ws ++ w ∷ []) d
stamp_push ws w d (inl plain) = inl plain
stamp_push ws w d (inr stamp) = inr (record { epoch = stamp.epoch ∙ sym (count_push d.epoch ws w stamp.within); within = omega (arith, stamp.within, length-append ws (w ∷ [])) })

stamps_push : (ws : List Written) (w : Written) (ds : List (Bundle DownBundle)) → AllByRecursion (Stamped ws) ds → AllByRecursion (Stamped (ws ++ w ∷ [])) ds
stamps_push ws w [] all = tt
stamps_push ws w (d ∷ ds) all = (stamp_push ws w d all.0, stamps_push ws w ds all.1)

module _ (c : Config) (p : ℕ) (mk : List Making) (ms : List Moment) (m : Moment) (b : FieldBefore c p mk ms m)
    (downs_fit : AllByRecursion (λ (d : Bundle DownBundle). DownFits c p mk (seen_now c p ms).frames_made d.content.parts) (bundles_waiting (events_of p ms))) (t : NumberTies c p ms)
  where
    abbrev h : List ProcessEvent
    h = events_of p ms

    -- behind these events, with so many commits made and heard
    pub record NumbersNext (made heard_now : ℕ) (es : List ProcessEvent) : Type 0 where
      pub made_is : made ≡ count_to (length (writes (es ++ events_of p ms))) (writes (es ++ events_of p ms))
      pub heard : is_ended (es ++ events_of p ms) ≡ false → heard_now ≡ count_to (hears (es ++ events_of p ms)) (writes (es ++ events_of p ms))
      pub stamps : AllByRecursion (Stamped (writes (es ++ events_of p ms))) (bundles_sent (es ++ events_of p ms))

    abbrev Made0 : ℕ
    Made0 = (seen_now c p ms).commits

    abbrev Heard0 : ℕ
    Heard0 = (facts_now c ms).processes.commits_heard p

    as_before : NumbersNext (seen_now c p ms).commits ((facts_now c ms).processes.commits_heard p) []
    as_before = record { made_is = t.made; heard = t.heard; stamps = t.stamps }

    -- one write more
    one_write : (u : UpBundle) (made heard_now : ℕ) (es : List ProcessEvent) → Flows (es ++ events_of p ms) → (w : Bool) → commit_of (Own u) ≡ w → NumbersNext made heard_now es → NumbersNext (counted w made) heard_now (Writes (Own u) ∷ es)
    one_write u made heard_now es flows w is r = let len : suc (length (writes (es ++ h))) ≡ length (writes (es ++ h) ++ Own u ∷ []) = omega (arith, length-append (writes (es ++ h)) (Own u ∷ [])) in record {
      made_is = ap (counted w) r.made_is ∙ ap (λ v. counted v (count_to (length (writes (es ++ h))) (writes (es ++ h)))) (sym is) ∙ sym (count_last (writes (es ++ h)) (Own u))
          ∙ ap (λ k. count_to k (writes (es ++ h) ++ Own u ∷ [])) len;
      heard = λ runs. r.heard runs ∙ sym (count_push (hears (es ++ h)) (writes (es ++ h)) (Own u) (heard_fits (es ++ h) flows));
      stamps = stamps_push (writes (es ++ h)) (Own u) (bundles_sent (es ++ h)) r.stamps;
    }

    -- a write is heard
    first_counts : (u : UpBundle) (rest : List Written) → writes_waiting (events_of p ms) ≡ Own u ∷ rest → is_ended (events_of p ms) ≡ false → (w : Bool) → commit_of (Own u) ≡ w
        → counted w ((facts_now c ms).processes.commits_heard p) ≡ count_to (hears (events_of p ms) + 1) (writes (events_of p ms))
    first_counts u rest first runs w is = let next : suc (hears h) ≡ hears h + 1 = omega arith in
        ap (counted w) (t.heard runs) ∙ ap (λ v. counted v (count_to (hears h) (writes h))) (sym is) ∙ sym (count_first (hears h) (writes h) rest (Own u) first)
        ∙ ap (λ k. count_to k (writes h)) next

    hears_next : (u : UpBundle) (rest : List Written) → writes_waiting (events_of p ms) ≡ Own u ∷ rest → (w : Bool) → commit_of (Own u) ≡ w
        → NumbersNext (seen_now c p ms).commits (counted w ((facts_now c ms).processes.commits_heard p)) (Accepts (length ms + 1) (Own u) ∷ [])
        × NumbersNext (seen_now c p ms).commits (counted w ((facts_now c ms).processes.commits_heard p)) (Ignores (length ms + 1) (Own u) ∷ [])
    hears_next u rest first w is = (
      record { made_is = t.made; heard = λ runs. first_counts u rest first runs w is; stamps = t.stamps },
      record { made_is = t.made; heard = λ runs. first_counts u rest first runs w is; stamps = t.stamps },
    )

    -- and something is sent back
    reverts_next : (u : UpBundle) (rest : List Written) (d : DownBundle) → writes_waiting (events_of p ms) ≡ Own u ∷ rest → (w : Bool) → commit_of (Own u) ≡ w
        → Stamped (writes (events_of p ms)) (record { entry = length ms + 1; epoch = hears (events_of p ms) + 1; content = d }) → NumbersNext (seen_now c p ms).commits (counted w ((facts_now c ms).processes.commits_heard p)) (Reverts (length ms + 1) (Own u) d ∷ [])
    reverts_next u rest d first w is stamp = record {
      made_is = t.made;
      heard = λ runs. first_counts u rest first runs w is;
      stamps = all_push (Stamped (writes h)) (bundles_sent h) (record { entry = length ms + 1; epoch = hears h + 1; content = d }) t.stamps stamp;
    }

    told_next : (parts : List DownPart) (heard_now : ℕ) → heard_now ≡ (facts_now c ms).processes.commits_heard p → (facts_now c (m ∷ ms)).processes.commits_heard p ≡ heard_now → Flows (told (length ms + 1) m.says (bundle_for (facts_now c (m ∷ ms)) p parts) ∷ events_of p ms)
        → NumbersNext (seen_now c p ms).commits heard_now (told (length ms + 1) m.says (bundle_for (facts_now c (m ∷ ms)) p parts) ∷ [])
    told_next [] heard_now same now flows = record { made_is = t.made; heard = λ runs. same ∙ t.heard runs; stamps = t.stamps }
    told_next (d ∷ ds) heard_now same now flows = record {
      made_is = t.made;
      heard = λ runs. same ∙ t.heard runs;
      stamps = all_push (Stamped (writes h)) (bundles_sent h) (record { entry = length ms + 1; epoch = hears h; content = record { epoch = record { 0 = (facts_now c (m ∷ ms)).processes.commits_heard p }; parts = d ∷ ds } }) t.stamps
          (inr (record { epoch = now ∙ same ∙ t.heard flows.0; within = heard_fits h b.flows }));
    }

    -- ---- all entries

    turn : (made heard_now : ℕ) (es : List ProcessEvent) → (seen_now c p (m ∷ ms)).commits ≡ made → (facts_now c (m ∷ ms)).processes.commits_heard p ≡ heard_now → m.events p ≡ es → NumbersNext made heard_now es
        → NumbersNext (seen_now c p (m ∷ ms)).commits ((facts_now c (m ∷ ms)).processes.commits_heard p) (m.events p)
    turn made heard_now es e d is r =
        subst (NumbersNext (seen_now c p (m ∷ ms)).commits ((facts_now c (m ∷ ms)).processes.commits_heard p)) (sym is)
        (subst (λ k. NumbersNext k ((facts_now c (m ∷ ms)).processes.commits_heard p) es) (sym e) (subst (λ k. NumbersNext made k es) (sym d) r))

    did_none : m.did p ≡ [] → (seen_now c p (m ∷ ms)).commits ≡ (seen_now c p ms).commits
    did_none is = ap (λ ds. (own_asked c.tabs p (ds ++ did_by p ms)).commits) is

    did_one : (e : Doing) → m.did p ≡ e ∷ [] → (seen_now c p (m ∷ ms)).commits ≡ (seen_after p e (seen_now c p ms)).commits
    did_one e is = ap (λ ds. (own_asked c.tabs p (ds ++ did_by p ms)).commits) is ∙ ap (λ (z : Seen). z.commits) (own_asked_more c.tabs p e (did_by p ms))

    none_said : m.says ≡ [] → (facts_now c (m ∷ ms)).processes.commits_heard p ≡ (facts_now c ms).processes.commits_heard p
    none_said is = ap (λ ys. commits_heard p (ys ++ said ms)) is

    core_said : (core : List Saying) (k : ℕ) → Says c p ms m core → commits_heard p (core ++ said ms) ≡ k → (facts_now c (m ∷ ms)).processes.commits_heard p ≡ k
    core_said core k s is = ap (λ ys. commits_heard p (ys ++ said ms)) s.is ∙ sent_heard p s.sent core (said ms) s.all_sent ∙ is

    not_commit : (u : UpBundle) (a : UpPart) → u.parts ≡ a ∷ [] → is_commit a ≡ false → commit_of (Own u) ≡ false
    not_commit u a is plain = ap (list_any is_commit) is ∙ ap (λ w. w || false) plain

    one_more : (k : ℕ) → k + 1 ≡ suc k
    one_more k = omega arith

    commit_next : (u : UpBundle) (rest : List Written) → writes_waiting (events_of p ms) ≡ Own u ∷ rest → (y : ContextId) (d : Changes) (ns : List FieldNote) (back : Option DownBundle) → HeardCommit c p ms m u y d ns back
        → (o : Option DownBundle) → m.events p ≡ heard (length ms + 1) (Own u) m.answer m.says o → bundle_for (facts_now c (m ∷ ms)) p (sent_back ns (facts_now c ms) y) ≡ o → NumbersNext (seen_now c p (m ∷ ms)).commits ((facts_now c (m ∷ ms)).processes.commits_heard p) (m.events p)
    commit_next u rest first y d ns back is o events same = by_back o events same
      where
        heard_is : (facts_now c (m ∷ ms)).processes.commits_heard p ≡ suc ((facts_now c ms).processes.commits_heard p)
        heard_is = core_said (SaysWrote y (applied ns d) ∷ Counted p ∷ []) (suc Heard0) is.says ((counted_heard p (said ms) y (applied ns d)).0 ∙ one_more (commits_heard p (said ms)))

        commits : commit_of (Own u) ≡ true
        commits = ap (list_any is_commit) is.parts

        runs : is_ended (events_of p ms) ≡ false
        runs = b.heard_alive u y d ns back is

        epoch_is : (g : DownBundle) (parts : List DownPart) → bundle_for (facts_now c (m ∷ ms)) p parts ≡ Some g → g.epoch.0 ≡ (facts_now c (m ∷ ms)).processes.commits_heard p
        epoch_is g [] none = none_some g none
        epoch_is g (a ∷ parts) one = sym (ap (λ (v : DownBundle). v.epoch.0) (some_is _ g one))

        by_back : (o : Option DownBundle) → m.events p ≡ heard (length ms + 1) (Own u) m.answer m.says o → bundle_for (facts_now c (m ∷ ms)) p (sent_back ns (facts_now c ms) y) ≡ o → NumbersNext (seen_now c p (m ∷ ms)).commits ((facts_now c (m ∷ ms)).processes.commits_heard p) (m.events p)
        by_back None events same = turn Made0 (suc Heard0) (Accepts (length ms + 1) (Own u) ∷ []) (did_none is.did) heard_is (events ∙ heard_accepts (length ms + 1) (Own u) m.answer m.says is.done) (hears_next u rest first true commits).0
        by_back (Some g) events same =
            let events_are : m.events p ≡ Reverts (length ms + 1) (Own u) g ∷ [] = events ∙ heard_reverts (length ms + 1) (Own u) m.answer m.says g is.done in
            turn Made0 (suc Heard0) (Reverts (length ms + 1) (Own u) g ∷ []) (did_none is.did) heard_is events_are
            (reverts_next u rest g first true commits (inr (record {
              epoch = epoch_is g (sent_back ns (facts_now c ms) y) same ∙ heard_is ∙ first_counts u rest first runs true commits;
              within = heard_fits (Reverts (length ms + 1) (Own u) g ∷ h) (subst (λ es. Flows (es ++ h)) events_are b.next_flows);
            })))

    hearing_next : (u : UpBundle) (rest : List Written) → writes_waiting (events_of p ms) ≡ Own u ∷ rest → Hearing c p ms m u → NumbersNext (seen_now c p (m ∷ ms)).commits ((facts_now c (m ∷ ms)).processes.commits_heard p) (m.events p)
    hearing_next u rest first (AsMade y a is) = turn Made0 Heard0 _ (did_none is.did) (core_said _ Heard0 is.says (plain_heard p (said ms) y a None).0) is.events (hears_next u rest first false (not_commit u _ is.parts refl)).0
    hearing_next u rest first (AsLate y a d is) = turn Made0 Heard0 _ (did_none is.did) (core_said _ Heard0 is.says (plain_heard p (said ms) y a None).1) is.events
        (reverts_next u rest d first false (not_commit u _ is.parts refl) (inl (subst (AllByRecursion IsNoCommit) (sym is.back) (tt, tt))))
    hearing_next u rest first (AsDrop y is) = turn Made0 Heard0 _ (did_none is.did) (core_said _ Heard0 is.says (plain_heard p (said ms) y y (Some p)).2) is.events (hears_next u rest first false (not_commit u _ is.parts refl)).0
    hearing_next u rest first (AsOldDrop y is) = turn Made0 Heard0 _ (did_none is.did) (none_said is.says) is.events (hears_next u rest first false (not_commit u _ is.parts refl)).1
    hearing_next u rest first (AsAcks is) = turn Made0 Heard0 _ (did_none is.did) (acking_heard p m.says (said ms) is.says) is.events (hears_next u rest first false (acks_plain u.parts is.parts)).0
    hearing_next u rest first (AsCommit y d ns back is) = commit_next u rest first y d ns back is back is.events (sym is.is_back)
    hearing_next u rest first (AsOldCommit y d is) = turn Made0 (suc Heard0) _ (did_none is.did) (ap (λ ys. commits_heard p (ys ++ said ms)) is.says ∙ (counted_heard p (said ms) y d).1 ∙ one_more (commits_heard p (said ms))) is.events
        (hears_next u rest first true (ap (list_any is_commit) is.parts)).1
    hearing_next u rest first (AsOver is) = turn Made0 Heard0 (Ignores (length ms + 1) (Own u) ∷ []) (did_none is.did) (none_said is.says) is.events
        (record { made_is = t.made; heard = λ runs. true_false (is_ended h) (b.over ∙ is.over) runs; stamps = t.stamps })

    acks_next : (d : Bundle DownBundle) (made : ℕ) (acked : List UpPart) → AllByRecursion IsAck acked → Flows (Takes d ∷ events_of p ms) → NumbersNext made ((facts_now c ms).processes.commits_heard p) (Takes d ∷ [])
        → NumbersNext made ((facts_now c ms).processes.commits_heard p) (written (bundle_sent (seen_now c p (m ∷ ms)) acked) ++ Takes d ∷ [])
    acks_next d made acked acks flows r = by_acks (λ es. NumbersNext made ((facts_now c ms).processes.commits_heard p) (es ++ Takes d ∷ [])) (seen_now c p (m ∷ ms)) acked acks r
        (λ u plain. one_write u made Heard0 (Takes d ∷ []) flows false (acks_plain u.parts plain) r)

    entry_next : Entry c p ms m → NumbersNext (seen_now c p (m ∷ ms)).commits ((facts_now c (m ∷ ms)).processes.commits_heard p) (m.events p)
    entry_next (Idle is) = turn Made0 Heard0 [] (did_none is.did) (none_said is.says) is.events as_before
    entry_next (Sets y d u is) = turn (suc Made0) Heard0 _ (did_one (Wrote y d) is.did ∙ (own_commits p (seen_now c p ms) y y d).0 ∙ one_more Made0) (none_said is.says) is.events (one_write u Made0 Heard0 [] b.flows true (ap (list_any is_commit) is.sent.parts) as_before)
    entry_next (Frames y u is) = turn Made0 Heard0 _ (did_one (Framed (next_frame p (seen_now c p ms)) y) is.did ∙ (own_commits p (seen_now c p ms) (next_frame p (seen_now c p ms)) y []).1) (none_said is.says) is.events
        (one_write u Made0 Heard0 (deed (downs.Create (own_known (seen_now c p (m ∷ ms)) (next_frame p (seen_now c p ms)) y)) ∷ []) (tt, b.flows) false (not_commit u _ is.sent.parts refl) (record { made_is = t.made; heard = t.heard; stamps = t.stamps }))
    entry_next (Drops y u is) = turn Made0 Heard0 _ (did_one (Went y) is.did ∙ (own_commits p (seen_now c p ms) y y []).2) (none_said is.says) is.events
        (one_write u Made0 Heard0 (deed (downs.Discard y) ∷ []) (tt, b.flows) false (not_commit u _ is.sent.parts refl) (record { made_is = t.made; heard = t.heard; stamps = t.stamps }))
    entry_next (TakesOne d rest is) = turn Made0 Heard0 _ commits_are (none_said is.says) is.events
        (acks_next d Made0 _ (by_if (AllByRecursion IsAck) (list_any is_kill d.content.parts) [] _ (λ kill. tt) (λ lives. acks_posted p d.content.epoch.0 _ _ d.content.parts [])) (record { rest = rest; is = is.first }, b.flows)
        (record { made_is = t.made; heard = t.heard; stamps = t.stamps }))
      where
        kinds : AllByRecursion (PartFits p (seen_now c p ms).frames_made) d.content.parts
        kinds = of_all (subst (AllByRecursion (λ (d : Bundle DownBundle). DownFits c p mk (seen_now c p ms).frames_made d.content.parts)) is.first downs_fit)
          where
            of_all : AllByRecursion (λ (d : Bundle DownBundle). DownFits c p mk (seen_now c p ms).frames_made d.content.parts) (d ∷ rest) → AllByRecursion (PartFits p (seen_now c p ms).frames_made) d.content.parts
            of_all all = all.0.kinds

        commits_are : (seen_now c p (m ∷ ms)).commits ≡ (seen_now c p ms).commits
        commits_are =
            ap (λ ds. (own_asked c.tabs p (ds ++ did_by p ms)).commits) is.did ∙ ap (λ (z : Seen). z.commits) (own_asked_more c.tabs p Took _)
            ∙ (own_commits p _ (record { creator = 0; serial = 0 }) (record { creator = 0; serial = 0 }) []).3
            ∙ ap (λ (z : Seen). z.commits) (steps_are c p d.content.epoch.0 (did_by p ms) (seen_now c p ms).frames_made d.content.parts [] kinds) ∙ all_steps c p d.content.epoch.0 (singles d.content.parts) (seen_now c p ms)
    entry_next (Tells posts is) = turn Made0 Heard0 _ (did_none is.did) (others_heard p m.says (said ms) (posted_of_others c p (said ms) m.says posts is.posted)) is.events
        (told_next (in_order posts) Heard0 refl (others_heard p m.says (said ms) (posted_of_others c p (said ms) m.says posts is.posted)) (subst (λ es. Flows (es ++ h)) is.events b.next_flows))
    entry_next (Killing d is) = turn Made0 ((facts_now c (m ∷ ms)).processes.commits_heard p) (Ends ∷ Sends (length ms + 1) (Said m.says) d ∷ []) (did_none is.did) refl is.events
        (record {
          made_is = t.made;
          heard = λ runs. absurd cc;
          stamps = all_push (Stamped (writes h)) (bundles_sent h) (record { entry = length ms + 1; epoch = hears h; content = d }) t.stamps (inl (subst (AllByRecursion IsNoCommit) (sym is.kill) (tt, tt)));
        })
    entry_next (HearsOne u rest first hears) = hearing_next u rest first hears

    pub numbers_kept : Entry c p ms m → NumberTies c p (m ∷ ms)
    numbers_kept e = let r : NumbersNext (seen_now c p (m ∷ ms)).commits ((facts_now c (m ∷ ms)).processes.commits_heard p) (m.events p) = entry_next e in record { made = r.made_is; heard = r.heard; stamps = r.stamps }

pub numbers_start : (c : Config) (p : ℕ) → NumberTies c p []
unfolding commits commits_heard
numbers_start c p = record { made = refl; heard = λ runs. refl; stamps = tt }
