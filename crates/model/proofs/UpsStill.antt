-- Every entry leaves what waits from an honest process due.
use Rattle.std.proofs.Common.{◌≡◌, ℕ, ◌+◌, ◌≤◌, ◌==◌, Bool, true, false, if◌then◌else◌, Option, None, Some, List, [], ◌∷◌, ◌++◌, length, drop, is_some, map, refl, ap, sym, subst, ◌∙◌, arith, append_assoc, eqb-true, eq-eqb, ◌&&◌, ◌||◌}
use Rattle.std.specs.Prelude.{nat_lt, nat_le}
use Rattle.std.specs.List.{AllByRecursion, list_any}
use Rattle.fission_ids.specs.declared.context.ContextId.{ContextId}
use Rattle.transaction.specs.Transaction.{Changes}
use Rattle.wire_msgs.specs.declared.answer.Answer.{Answer}
use Rattle.wire_msgs.specs.declared.answer.Answer.TheVariants.{Ended as EndedBy}
use Rattle.wire_msgs.specs.declared.bundle.DownBundle.{DownBundle}
use Rattle.wire_msgs.specs.declared.bundle.UpBundle.{UpBundle}
use Rattle.wire_msgs.specs.declared.cause.EndCause.TheVariants.{Killed}
use Rattle.wire_msgs.specs.declared.config.Config.{Config}
use Rattle.wire_msgs.specs.declared.note.PartNote.{PartNote}
use Rattle.wire_msgs.specs.declared.note.PartNote.TheVariants as notes
use Rattle.wire_msgs.specs.declared.part.DownPart.{DownPart}
use Rattle.wire_msgs.specs.declared.part.DownPart.TheVariants as downs
use Rattle.wire_msgs.specs.declared.part.Known.{Known}
use Rattle.wire_msgs.specs.declared.part.UpPart.{UpPart}
use Rattle.wire_msgs.specs.declared.part.UpPart.TheVariants as ups
use Rattle.protocol.specs.Bundle.{is_commit, bundle_for}
use Rattle.protocol.specs.FactsAfter.{raised}
use Rattle.protocol.specs.Fold.{behind_all, after_part, after_parts, posts_of}
use Rattle.protocol.specs.Hear.{is_new_frame}
use Rattle.protocol.specs.Order.{in_order}
use Rattle.protocol.specs.OwnActs.{next_frame}
use Rattle.protocol.specs.Questions.{Facts, option_any}
use Rattle.protocol.specs.Sayings.{Saying}
use Rattle.protocol.specs.Sayings.Saying.{Made, BornDead, Removed, Wrote as SaysWrote, Acked, Counted, Sent, Ended}
use Rattle.protocol.specs.Seen.{Seen, Doing}
use Rattle.protocol.specs.Seen.Doing.{Came, Framed, Went, Wrote, Took}
use Rattle.protocol.specs.Take.{take_rules, bundle_sent, is_kill}
use Rattle.protocol.specs.Take as take
use Rattle.traces.specs.Event.{Bundle}
use Rattle.traces.specs.Event.Event.{Writes, Takes, Accepts, Ignores}
use Rattle.traces.specs.Links.{writes, hears, writes_waiting, bundles_waiting}
use Rattle.traces.specs.Rules.{Flows}
use Rattle.traces.proofs.Waits.{write_waits, heard_leaves}
use Rattle.trees.proofs.Lists.{all_push}
use Rattle.model.specs.Lines.{Making, makings_done, above_in}
use Rattle.model.specs.Moments.{Moment, Written, ProcessEvent, said, did_by, events_of, facts_now, seen_now, is_done, told, heard, written}
use Rattle.model.specs.Moments.Written.{Own}
use Rattle.model.specs.Parent.{commits_heard, bundles_sent}
use Rattle.model.specs.Process.{own_asked, commits, taken, frames_made}
use Rattle.model.proofs.Cases.{true_false}
use Rattle.model.proofs.Entry.{Posted, IsOfOthers, IsSending, IsAck, IsAcking, Entry, IsSet, IsFrame, IsDrop, IsTake, Says, Hearing}
use Rattle.model.proofs.Entry.Posted.{NonePosted, OnePosted}
use Rattle.model.proofs.Entry.Entry.{Idle, Sets, Frames, Drops, TakesOne, Tells, Killing, HearsOne}
use Rattle.model.proofs.Entry.Hearing.{AsMade, AsLate, AsDrop, AsOldDrop, AsAcks, AsCommit, AsOldCommit, AsOver}
use Rattle.model.proofs.Holding.{SeenTies}
use Rattle.model.proofs.Lining.{Lined, IsToldBy}
use Rattle.model.proofs.Ups.{denied_own, UpFit, UpFits, one_commit, UpsDue, UpTies, acks_count}
use Rattle.model.proofs.Ups.UpShape.{ShapedFrame, ShapedDrop, ShapedAcks, ShapedCommit}

-- ---- what waits, as numbers change

due_pushed : (made made' n : ℕ) (ws : List Written) (b : UpBundle) → UpsDue made n ws → b.epoch.0 ≡ made + one_commit b → made' ≡ made + one_commit b → UpsDue made' n (ws ++ Own b ∷ [])
due_pushed made made' n [] b due epoch more = (epoch ∙ ap (λ k. k + one_commit b) due, more ∙ ap (λ k. k + one_commit b) due)
due_pushed made made' n (Own w ∷ ws) b due epoch more = (due.0, due_pushed made made' (n + one_commit w) ws b due.1 epoch more)
due_pushed made made' n (_ ∷ ws) b due epoch more = absurd due

fit_later : (c : Config) (p : ℕ) (mk : List Making) (sent later : ℕ) → sent ≤ later → (ws : List Written) → AllByRecursion (UpFits c p mk sent) ws → AllByRecursion (UpFits c p mk later) ws
fit_later c p mk sent later more [] all = tt
fit_later c p mk sent later more (Own b ∷ ws) all = (record { seen = omega (arith, more, all.0.seen); shape = all.0.shape }, fit_later c p mk sent later more ws all.1)
fit_later c p mk sent later more (_ ∷ ws) all = absurd all.0

module _ (c : Config) (p : ℕ) (mk : List Making) (f f' : Facts) (s s' : Seen) (h h' : List ProcessEvent) (t : UpTies c p mk f s h) (sent : f.processes.bundles_sent p ≤ f'.processes.bundles_sent p) (few : s'.frames_made ≤ 240)
  where
    fits_still : AllByRecursion (UpFits c p mk (f'.processes.bundles_sent p)) (writes_waiting h)
    fits_still = fit_later c p mk (f.processes.bundles_sent p) (f'.processes.bundles_sent p) sent (writes_waiting h) t.fit

    -- nothing is written and nothing heard
    quiet : f'.processes.commits_heard p ≡ f.processes.commits_heard p → s'.commits ≡ s.commits → writes_waiting h' ≡ writes_waiting h → UpTies c p mk f' s' h'
    quiet heard made waits = record {
      due = subst (UpsDue s'.commits (f'.processes.commits_heard p)) (sym waits)
          (subst (λ n. UpsDue s'.commits n (writes_waiting h)) (sym heard) (subst (λ n. UpsDue n (f.processes.commits_heard p) (writes_waiting h)) (sym made) t.due));
      fit = subst (AllByRecursion (UpFits c p mk (f'.processes.bundles_sent p))) (sym waits) fits_still;
      few = few;
    }

    -- a bundle more waits
    wrote : (b : UpBundle) → f'.processes.commits_heard p ≡ f.processes.commits_heard p → writes_waiting h' ≡ writes_waiting h ++ Own b ∷ [] → b.epoch.0 ≡ s.commits + one_commit b → s'.commits ≡ s.commits + one_commit b
        → UpFit c p mk (f'.processes.bundles_sent p) b → UpTies c p mk f' s' h'
    wrote b heard waits epoch made fit = record {
      due = subst (UpsDue s'.commits (f'.processes.commits_heard p)) (sym waits)
          (subst (λ n. UpsDue s'.commits n (writes_waiting h ++ Own b ∷ [])) (sym heard) (due_pushed s.commits s'.commits (f.processes.commits_heard p) (writes_waiting h) b t.due epoch made));
      fit = subst (AllByRecursion (UpFits c p mk (f'.processes.bundles_sent p))) (sym waits) (all_push (UpFits c p mk (f'.processes.bundles_sent p)) (writes_waiting h) (Own b) fits_still fit);
      few = few;
    }

    -- the first waits no longer
    popped : (b : UpBundle) (rest : List Written) → writes_waiting h ≡ Own b ∷ rest → writes_waiting h' ≡ rest → f'.processes.commits_heard p ≡ f.processes.commits_heard p + one_commit b → s'.commits ≡ s.commits
        → UpTies c p mk f' s' h'
    popped b rest first waits heard made =
        let due : UpsDue s.commits (f.processes.commits_heard p) (Own b ∷ rest) = subst (UpsDue s.commits (f.processes.commits_heard p)) first t.due in
        let fit : AllByRecursion (UpFits c p mk (f'.processes.bundles_sent p)) (Own b ∷ rest) = subst (AllByRecursion (UpFits c p mk (f'.processes.bundles_sent p))) first fits_still in
        record {
          due = subst (UpsDue s'.commits (f'.processes.commits_heard p)) (sym waits)
              (subst (λ n. UpsDue s'.commits n rest) (sym heard) (subst (λ n. UpsDue n (f.processes.commits_heard p + one_commit b) rest) (sym made) due.1));
          fit = subst (AllByRecursion (UpFits c p mk (f'.processes.bundles_sent p))) (sym waits) fit.1;
          few = few;
        }

-- ---- counts of what is said

raised_least : (b : Bool) (n : ℕ) → n ≤ raised b n
raised_least true n = omega arith
raised_least false n = omega arith

-- the bundles that were sent never fall
sent_grows : (p : ℕ) (ys old : List Saying) → bundles_sent p old ≤ bundles_sent p (ys ++ old)
unfolding bundles_sent
sent_grows p [] old = omega arith
sent_grows p (Sent q ∷ ys) old = omega (arith, sent_grows p ys old, raised_least (p == q) (bundles_sent p (ys ++ old)))
sent_grows p (_ ∷ ys) old = sent_grows p ys old

other_way : (p q : ℕ) → (q == p) ≡ false → (p == q) ≡ false
other_way p q e = go (p == q) refl
  where
    go : (b : Bool) → (p == q) ≡ b → (p == q) ≡ false
    go false is = is
    go true is = true_false (q == p) (eq-eqb q p (sym (eqb-true p q is))) e

-- what others do counts nothing of the process
others_count : (c : Config) (p : ℕ) (old ys : List Saying) (ds : List DownPart) → Posted c p old ys ds → commits_heard p (ys ++ old) ≡ commits_heard p old
unfolding commits_heard
others_count c p old _ _ NonePosted = refl
others_count c p old _ _ (OnePosted y ys before ds posted other post) = by_saying y other (others_count c p old ys before posted)
  where
    by_saying : (y : Saying) → IsOfOthers p y → commits_heard p (ys ++ old) ≡ commits_heard p old → commits_heard p (y ∷ ys ++ old) ≡ commits_heard p old
    by_saying (Counted q) other rest = ap (λ (b : Bool). raised b (commits_heard p (ys ++ old))) (other_way p q other) ∙ rest
    by_saying (_) other rest = rest

sendings_count : (p : ℕ) (ys old : List Saying) → AllByRecursion IsSending ys → commits_heard p (ys ++ old) ≡ commits_heard p old
unfolding commits_heard
sendings_count p [] old all = refl
sendings_count p (Sent q ∷ ys) old all = sendings_count p ys old all.1
sendings_count p (_ ∷ ys) old all = absurd all.0

ackings_count : (p : ℕ) (ys old : List Saying) → AllByRecursion IsAcking ys → commits_heard p (ys ++ old) ≡ commits_heard p old
unfolding commits_heard
ackings_count p [] old all = refl
ackings_count p (Sent q ∷ ys) old all = ackings_count p ys old all.1
ackings_count p (Acked q x ∷ ys) old all = ackings_count p ys old all.1
ackings_count p (_ ∷ ys) old all = absurd all.0

one_counted : (p : ℕ) (old : List Saying) → commits_heard p (Counted p ∷ old) ≡ commits_heard p old + 1
unfolding commits_heard
one_counted p old = ap (λ (b : Bool). raised b (commits_heard p old)) (eq-eqb p p refl)

written_counted : (p : ℕ) (x : ContextId) (t : Changes) (old : List Saying) → commits_heard p (SaysWrote x t ∷ Counted p ∷ old) ≡ commits_heard p old + 1
unfolding commits_heard
written_counted p x t old = ap (λ (b : Bool). raised b (commits_heard p old)) (eq-eqb p p refl)

made_counted : (p q : ℕ) (x a : ContextId) (old : List Saying) → commits_heard p (Made q x a ∷ old) ≡ commits_heard p old
unfolding commits_heard
made_counted p q x a old = refl

born_counted : (p q : ℕ) (x a : ContextId) (old : List Saying) → commits_heard p (BornDead q x a ∷ old) ≡ commits_heard p old
unfolding commits_heard
born_counted p q x a old = refl

removed_counted : (p : ℕ) (x : ContextId) (but : Option ℕ) (old : List Saying) → commits_heard p (Removed x but ∷ old) ≡ commits_heard p old
unfolding commits_heard
removed_counted p x but old = refl

-- ---- what a bundle that is taken does

-- neither a write nor a frame nor the count of a bundle
abbrev pub IsTaking : Doing → Type 0
IsTaking (Framed x a) = ⊥
IsTaking (Wrote x t) = ⊥
IsTaking Took = ⊥
IsTaking d = Unit {0}

came_taking : (ks : List Known) → AllByRecursion IsTaking (map Came ks)
came_taking [] = tt
came_taking (k ∷ ks) = (tt, came_taking ks)

says_taking : (part : DownPart) (n : PartNote) → AllByRecursion IsTaking (take.says part n)
unfolding take.says
says_taking (downs.Register g contexts) n = came_taking contexts
says_taking (downs.Create known) n = (tt, tt)
says_taking (downs.Commit x t) (notes.Commit y ns) = (tt, tt)
says_taking (downs.Commit x t) (_) = tt
says_taking (downs.Discard x) n = (tt, tt)
says_taking (downs.CloseWindow x) n = (tt, tt)
says_taking downs.Kill n = (tt, tt)
says_taking (_) n = tt

behind_taking : (ys did : List Doing) → AllByRecursion IsTaking ys → AllByRecursion IsTaking did → AllByRecursion IsTaking (behind_all (λ e did. e ∷ did) ys did)
unfolding behind_all
behind_taking [] did all so_far = so_far
behind_taking (y ∷ ys) did all so_far = behind_taking ys (y ∷ did) all.1 (all.0, so_far)

parts_taking : (p epoch : ℕ) (seen : List Doing → Seen) (did : List Doing) (parts : List DownPart) → AllByRecursion IsTaking did
    → AllByRecursion IsTaking (after_parts (take_rules p epoch) seen (λ e did. e ∷ did) did parts)
unfolding after_parts
parts_taking p epoch seen did [] so_far = so_far
parts_taking p epoch seen did (a ∷ parts) so_far =
    parts_taking p epoch seen (after_part (take_rules p epoch) seen (λ e did. e ∷ did) a did) parts
    (behind_taking (take.says a (take.note p epoch (seen did) a)) did (says_taking a (take.note p epoch (seen did) a)) so_far)

-- what is sent of it is acknowledgements
part_acks : (a : DownPart) → AllByRecursion IsAck (take.posts a)
unfolding take.posts
part_acks (downs.Discard x) = (tt, tt)
part_acks (_) = tt

all_joined : {X : Type 0} (P : X → Type 0) (xs ys : List X) → AllByRecursion P xs → AllByRecursion P ys → AllByRecursion P (xs ++ ys)
all_joined P [] ys one two = two
all_joined P (x ∷ xs) ys one two = (one.0, all_joined P xs ys one.1 two)

parts_ack : (p epoch : ℕ) (seen : List Doing → Seen) (did : List Doing) (parts : List DownPart) → AllByRecursion IsAck (posts_of (take_rules p epoch) seen (λ e did. e ∷ did) did parts)
unfolding posts_of
parts_ack p epoch seen did [] = tt
parts_ack p epoch seen did (a ∷ parts) =
    all_joined IsAck (take.posts a) (posts_of (take_rules p epoch) seen (λ e did. e ∷ did) (after_part (take_rules p epoch) seen (λ e did. e ∷ did) a did) parts) (part_acks a)
    (parts_ack p epoch seen (after_part (take_rules p epoch) seen (λ e did. e ∷ did) a did) parts)

taking_commits : (did old : List Doing) → AllByRecursion IsTaking did → commits (did ++ old) ≡ commits old
unfolding commits
taking_commits [] old all = refl
taking_commits (Framed x a ∷ did) old all = absurd all.0
taking_commits (Wrote x t ∷ did) old all = absurd all.0
taking_commits (Took ∷ did) old all = absurd all.0
taking_commits (_ ∷ did) old all = taking_commits did old all.1

taking_frames : (did old : List Doing) → AllByRecursion IsTaking did → frames_made (did ++ old) ≡ frames_made old
unfolding frames_made
taking_frames [] old all = refl
taking_frames (Framed x a ∷ did) old all = absurd all.0
taking_frames (Wrote x t ∷ did) old all = absurd all.0
taking_frames (Took ∷ did) old all = absurd all.0
taking_frames (_ ∷ did) old all = taking_frames did old all.1

taking_taken : (did old : List Doing) → AllByRecursion IsTaking did → taken (did ++ old) ≡ taken old
unfolding taken
taking_taken [] old all = refl
taking_taken (Framed x a ∷ did) old all = absurd all.0
taking_taken (Wrote x t ∷ did) old all = absurd all.0
taking_taken (Took ∷ did) old all = absurd all.0
taking_taken (_ ∷ did) old all = taking_taken did old all.1

-- the counts behind a bundle that was taken
pub record TakenCounts (did old : List Doing) : Type 0 where
  pub commits_are : commits (did ++ old) ≡ commits old
  pub frames_are : frames_made (did ++ old) ≡ frames_made old
  pub taken_are : taken (did ++ old) ≡ taken old + 1

took_counts : (did old : List Doing) → AllByRecursion IsTaking did → TakenCounts (Took ∷ did) old
unfolding commits taken frames_made
took_counts did old all = record { commits_are = taking_commits did old all; frames_are = taking_frames did old all; taken_are = ap (λ n. n + 1) (taking_taken did old all) }

wrote_commits : (x : ContextId) (t : Changes) (old : List Doing) → commits (Wrote x t ∷ old) ≡ commits old + 1
unfolding commits
wrote_commits x t old = refl

wrote_frames : (x : ContextId) (t : Changes) (old : List Doing) → frames_made (Wrote x t ∷ old) ≡ frames_made old
unfolding frames_made
wrote_frames x t old = refl

framed_commits : (x a : ContextId) (old : List Doing) → commits (Framed x a ∷ old) ≡ commits old
unfolding commits
framed_commits x a old = refl

framed_frames : (x a : ContextId) (old : List Doing) → frames_made (Framed x a ∷ old) ≡ frames_made old + 1
unfolding frames_made
framed_frames x a old = refl

went_commits : (x : ContextId) (old : List Doing) → commits (Went x ∷ old) ≡ commits old
unfolding commits
went_commits x old = refl

went_frames : (x : ContextId) (old : List Doing) → frames_made (Went x ∷ old) ≡ frames_made old
unfolding frames_made
went_frames x old = refl

-- ---- what an event does to what waits

told_waits : (k : ℕ) (ys : List Saying) (d : Option DownBundle) (h : List ProcessEvent) → writes_waiting (told k ys d ∷ h) ≡ writes_waiting h
told_waits k ys None h = refl
told_waits k ys (Some d) h = refl

-- what is heard is behind the rest
heard_waits : (k : ℕ) (b : UpBundle) (a : Answer) (ys : List Saying) (back : Option DownBundle) (h : List ProcessEvent) → writes_waiting (heard k (Own b) a ys back ++ h) ≡ drop (hears h + 1) (writes h)
heard_waits k b (EndedBy cause) ys None h = refl
heard_waits k b (EndedBy cause) ys (Some d) h = refl
heard_waits k b a ys None h = by_done (is_done a)
  where
    by_done : (v : Bool) → writes_waiting ((if v then Accepts k (Own b) else Ignores k (Own b)) ∷ h) ≡ drop (hears h + 1) (writes h)
    by_done true = refl
    by_done false = refl
heard_waits k b a ys (Some d) h = refl

-- ---- an entry more

-- what of an entry is taken from elsewhere: what the process makes is a making, what was sent to it was taken or waits,
-- and it wasn't ended
pub record UpPremises (c : Config) (p : ℕ) (mk : List Making) (ms : List Moment) (m : Moment) : Type 0 where
  pub lined : Lined mk
  pub ties : SeenTies c.tabs p mk (seen_now c p ms)
  pub made : AllByRecursion (IsToldBy mk) (makings_done (m.did p))
  pub flows : Flows (events_of p ms)
  pub running : (facts_now c ms).processes.ended p ≡ None
  pub sent : (seen_now c p ms).taken + length (bundles_waiting (events_of p ms)) ≡ (facts_now c ms).processes.bundles_sent p

module _ (c : Config) (p : ℕ) (mk : List Making) (ms : List Moment) (m : Moment) (r : UpPremises c p mk ms m) where
  abbrev f : Facts
  f = facts_now c ms

  abbrev s : Seen
  s = seen_now c p ms

  abbrev h : List ProcessEvent
  h = events_of p ms

  abbrev f' : Facts
  f' = facts_now c (m ∷ ms)

  abbrev s' : Seen
  s' = seen_now c p (m ∷ ms)

  abbrev h' : List ProcessEvent
  h' = events_of p (m ∷ ms)

  abbrev Before : Type 0
  Before = UpTies c p mk (facts_now c ms) (seen_now c p ms) (events_of p ms)

  abbrev After : Type 0
  After = UpTies c p mk (facts_now c (m ∷ ms)) (seen_now c p (m ∷ ms)) (events_of p (m ∷ ms))

  grows : f.processes.bundles_sent p ≤ f'.processes.bundles_sent p
  grows = sent_grows p m.says (said ms)

  -- by what is said, done and written
  heard_by : (ys : List Saying) → m.says ≡ ys → f'.processes.commits_heard p ≡ commits_heard p (ys ++ said ms)
  heard_by ys is = ap (λ (zs : List Saying). commits_heard p (zs ++ said ms)) is

  commits_by : (ds : List Doing) → m.did p ≡ ds → s'.commits ≡ commits (ds ++ did_by p ms)
  commits_by ds is = ap (λ (zs : List Doing). commits (zs ++ did_by p ms)) is

  frames_by : (ds : List Doing) → m.did p ≡ ds → s'.frames_made ≡ frames_made (ds ++ did_by p ms)
  frames_by ds is = ap (λ (zs : List Doing). frames_made (zs ++ did_by p ms)) is

  waits_by : (es : List ProcessEvent) → m.events p ≡ es → writes_waiting h' ≡ writes_waiting (es ++ h)
  waits_by es is = ap (λ (gs : List ProcessEvent). writes_waiting (gs ++ h)) is

  few_by : Before → s'.frames_made ≡ s.frames_made → s'.frames_made ≤ 240
  few_by t is = omega (arith, is, t.few)

  -- the process neither writes nor is heard
  quiet_now : Before → m.did p ≡ [] → f'.processes.commits_heard p ≡ f.processes.commits_heard p → writes_waiting h' ≡ writes_waiting h → After
  quiet_now t did heard waits = quiet c p mk f f' s s' h h' t grows (few_by t (frames_by [] did)) heard (commits_by [] did) waits

  -- it is heard
  popped_now : Before → m.did p ≡ [] → (b : UpBundle) (rest : List Written) → writes_waiting (events_of p ms) ≡ Own b ∷ rest → f'.processes.commits_heard p ≡ f.processes.commits_heard p + one_commit b
      → writes_waiting h' ≡ drop (hears h + 1) (writes h) → After
  popped_now t did b rest first heard waits =
      popped c p mk f f' s s' h h' t grows (few_by t (frames_by [] did)) b rest first (waits ∙ heard_leaves (Own b) h (record { rest = rest; is = first })) heard (commits_by [] did)

  -- it writes one part
  one_of : (part : UpPart) (b : UpBundle) → b.parts ≡ part ∷ [] → one_commit b ≡ (if is_commit part || false then 1 else 0)
  one_of part b is = ap (λ (ps : List UpPart). if list_any is_commit ps then 1 else 0) is

  seen_before : (b : UpBundle) → b.seen ≡ s.taken → b.seen ≤ f'.processes.bundles_sent p
  seen_before b is = omega (arith, is, r.sent, grows)

  after_set : Before → (x : ContextId) (t : Changes) (b : UpBundle) → IsSet c p ms m x t b → After
  after_set ties x t b e = wrote c p mk f f' s s' h h' ties grows (few_by ties (frames_by (Wrote x t ∷ []) e.did ∙ wrote_frames x t (did_by p ms))) b (heard_by [] e.says)
      (waits_by (Writes (Own b) ∷ []) e.events ∙ write_waits (Own b) h r.flows)
      (e.sent.epoch_is ∙ sym (ap (λ n. s.commits + n) (one_of (ups.Commit x t) b e.sent.parts)))
      (commits_by (Wrote x t ∷ []) e.did ∙ wrote_commits x t (did_by p ms) ∙ sym (ap (λ n. s.commits + n) (one_of (ups.Commit x t) b e.sent.parts)))
      (record { seen = seen_before b e.sent.seen_is; shape = ShapedCommit x t e.sent.parts (sym (denied_own mk p s x t (r.ties.held_above x e.held)) ∙ e.allowed) })

  no_more : (n k : ℕ) → k ≡ 0 → n ≡ n + k
  no_more n k e = omega (arith, e)

  after_frame : Before → (a : ContextId) (b : UpBundle) → IsFrame c p ms m a b → After
  after_frame ties a b e = wrote c p mk f f' s s' h h' ties grows (omega (arith, frames, few)) b (heard_by [] e.says)
      (waits_by _ e.events ∙ write_waits (Own b) h r.flows)
      (e.sent.epoch_is ∙ no_more s.commits (one_commit b) (one_of (ups.Create (next_frame p s) a) b e.sent.parts))
      (commits_by (Framed (next_frame p s) a ∷ []) e.did ∙ framed_commits (next_frame p s) a (did_by p ms) ∙ no_more s.commits (one_commit b) (one_of (ups.Create (next_frame p s) a) b e.sent.parts))
      (record { seen = seen_before b e.sent.seen_is; shape = ShapedFrame (next_frame p s) a e.sent.parts new up })
    where
      frames : s'.frames_made ≡ s.frames_made + 1
      frames = frames_by (Framed (next_frame p s) a ∷ []) e.did ∙ framed_frames (next_frame p s) a (did_by p ms)

      few : s.frames_made + 1 ≤ 240
      few = by_count (s.frames_made == 240) refl
        where
          by_count : (v : Bool) → (s.frames_made == 240) ≡ v → s.frames_made + 1 ≤ 240
          by_count true is = true_false (s.frames_made == 240) is e.few
          by_count false is = grind (arith, is, ties.few)

      up : above_in mk (next_frame p s) ≡ Some a
      up = (subst (λ ds. AllByRecursion (IsToldBy mk) (makings_done ds)) e.did r.made).0

      three : (u v w : Bool) → u ≡ true → v ≡ true → w ≡ true → (u && v && w) ≡ true
      three u v w x y z = ap (λ b. b && v && w) x ∙ ap (λ b. b && w) y ∙ z

      new : is_new_frame p (next_frame p s) ≡ true
      new = three (p + 1 == p + 1) (nat_lt 0 (s.frames_made + 1)) (nat_le (s.frames_made + 1) 240) (eq-eqb (p + 1) (p + 1) refl) (grind arith) (grind (arith, few))

  after_drop : Before → (x : ContextId) (b : UpBundle) → IsDrop c p ms m x b → After
  after_drop ties x b e = by_above (s.above x) refl
    where
      by_above : (o : Option ContextId) → s.above x ≡ o → After
      by_above None up = let two : false ≡ true = sym (ap (option_any s.owns) up) ∙ e.owned in absurd cc
      by_above (Some a) up = wrote c p mk f f' s s' h h' ties grows (few_by ties (frames_by (Went x ∷ []) e.did ∙ went_frames x (did_by p ms))) b (heard_by [] e.says)
          (waits_by _ e.events ∙ write_waits (Own b) h r.flows)
          (e.sent.epoch_is ∙ no_more s.commits (one_commit b) (one_of (ups.Drop x) b e.sent.parts))
          (commits_by (Went x ∷ []) e.did ∙ went_commits x (did_by p ms) ∙ no_more s.commits (one_commit b) (one_of (ups.Drop x) b e.sent.parts))
          (record { seen = seen_before b e.sent.seen_is; shape = ShapedDrop x a e.sent.parts (sym (r.ties.held_above x e.held) ∙ up) })

  after_take : Before → (d : Bundle DownBundle) (rest : List (Bundle DownBundle)) → IsTake c p ms m d rest → After
  after_take ties d rest e = by_posts posts acks e.events
    where
      now : List Doing → Seen
      now did = own_asked c.tabs p (did ++ did_by p ms)

      posts : List UpPart
      posts = if list_any is_kill d.content.parts then [] else posts_of (take_rules p d.content.epoch.0) (λ did. own_asked c.tabs p (did ++ did_by p ms)) (λ e did. e ∷ did) [] d.content.parts

      acks : AllByRecursion IsAck posts
      acks = by_kill (list_any is_kill d.content.parts)
        where
          by_kill : (v : Bool) → AllByRecursion IsAck (if v then [] else posts_of (take_rules p d.content.epoch.0) now (λ e did. e ∷ did) [] d.content.parts)
          by_kill true = tt
          by_kill false = parts_ack p d.content.epoch.0 now [] d.content.parts

      counts : TakenCounts (m.did p) (did_by p ms)
      counts = subst (λ ds. TakenCounts ds (did_by p ms)) (sym e.did)
          (took_counts (after_parts (take_rules p d.content.epoch.0) now (λ e did. e ∷ did) [] d.content.parts) (did_by p ms) (parts_taking p d.content.epoch.0 now [] d.content.parts tt))

      seen_still : s'.taken ≤ f'.processes.bundles_sent p
      seen_still = let one : length (bundles_waiting (events_of p ms)) ≡ length (d ∷ rest) = ap length e.first in
          omega (arith, counts.taken_are, one, r.sent, grows)

      by_posts : (ps : List UpPart) → AllByRecursion IsAck ps → m.events p ≡ written (bundle_sent (seen_now c p (m ∷ ms)) ps) ++ Takes d ∷ [] → After
      by_posts [] all events = quiet c p mk f f' s s' h h' ties grows (few_by ties counts.frames_are) (heard_by [] e.says) counts.commits_are (waits_by (Takes d ∷ []) events)
      by_posts (a ∷ ps) all events = wrote c p mk f f' s s' h h' ties grows (few_by ties counts.frames_are) sent (heard_by [] e.says)
          (waits_by (Writes (Own sent) ∷ Takes d ∷ []) events ∙ write_waits (Own sent) h r.flows) (counts.commits_are ∙ no_more s.commits (one_commit sent) none) (counts.commits_are ∙ no_more s.commits (one_commit sent) none)
          (record { seen = seen_still; shape = ShapedAcks a ps refl all })
        where
          sent : UpBundle
          sent = record { epoch = record { 0 = s'.commits }; seen = s'.taken; parts = a ∷ ps }

          none : one_commit sent ≡ 0
          none = ap (λ (v : Bool). if v then 1 else 0) (acks_count (a ∷ ps) all)

  -- by the parts that it has and what is said of them
  said_of : (core : List Saying) (n : ℕ) → Says c p ms m core → commits_heard p (core ++ said ms) ≡ commits_heard p (said ms) + n → f'.processes.commits_heard p ≡ f.processes.commits_heard p + n
  said_of core n e more = heard_by (e.sent ++ core) e.is ∙ ap (commits_heard p) (append_assoc e.sent core (said ms)) ∙ sendings_count p e.sent (core ++ said ms) e.all_sent ∙ more

  after_heard : Before → (b : UpBundle) (rest : List Written) → writes_waiting (events_of p ms) ≡ Own b ∷ rest → Hearing c p ms m b → After
  after_heard t b rest first (AsMade x a e) = popped_now t e.did b rest first
      (said_of (Made p x a ∷ []) (one_commit b) e.says (made_counted p p x a (said ms) ∙ no_more (commits_heard p (said ms)) (one_commit b) (one_of (ups.Create x a) b e.parts))) (waits_by _ e.events)
  after_heard t b rest first (AsLate x a d e) = popped_now t e.did b rest first
      (said_of (BornDead p x a ∷ []) (one_commit b) e.says (born_counted p p x a (said ms) ∙ no_more (commits_heard p (said ms)) (one_commit b) (one_of (ups.Create x a) b e.parts))) (waits_by _ e.events)
  after_heard t b rest first (AsDrop x e) = popped_now t e.did b rest first
      (said_of (Removed x (Some p) ∷ []) (one_commit b) e.says (removed_counted p x (Some p) (said ms) ∙ no_more (commits_heard p (said ms)) (one_commit b) (one_of (ups.Drop x) b e.parts))) (waits_by _ e.events)
  after_heard t b rest first (AsOldDrop x e) = popped_now t e.did b rest first (heard_by [] e.says ∙ no_more (commits_heard p (said ms)) (one_commit b) (one_of (ups.Drop x) b e.parts)) (waits_by _ e.events)
  after_heard t b rest first (AsAcks e) = popped_now t e.did b rest first
      (ackings_count p m.says (said ms) e.says ∙ no_more (commits_heard p (said ms)) (one_commit b) (ap (λ (v : Bool). if v then 1 else 0) (acks_count b.parts e.parts))) (waits_by _ e.events)
  after_heard t b rest first (AsCommit x d ns back e) = popped_now t e.did b rest first
      (said_of _ (one_commit b) e.says (written_counted p x _ (said ms) ∙ sym (ap (λ n. commits_heard p (said ms) + n) (one_of (ups.Commit x d) b e.parts))))
      (waits_by (heard (length ms + 1) (Own b) m.answer m.says back) e.events ∙ heard_waits (length ms + 1) b m.answer m.says back h)
  after_heard t b rest first (AsOldCommit x d e) = popped_now t e.did b rest first
      (heard_by (Counted p ∷ []) e.says ∙ one_counted p (said ms) ∙ sym (ap (λ n. commits_heard p (said ms) + n) (one_of (ups.Commit x d) b e.parts))) (waits_by _ e.events)
  after_heard t b rest first (AsOver e) = let two : false ≡ true = sym (ap is_some r.running) ∙ e.over in absurd cc

  killed_counted : commits_heard p (Sent p ∷ Ended p Killed ∷ said ms) ≡ commits_heard p (said ms)
  unfolding commits_heard
  killed_counted = refl

  -- what waits stays due
  pub ups_still : Entry c p ms m → Before → After
  ups_still (Idle e) t = quiet_now t e.did (heard_by [] e.says) (waits_by [] e.events)
  ups_still (Sets x d b e) t = after_set t x d b e
  ups_still (Frames a b e) t = after_frame t a b e
  ups_still (Drops x b e) t = after_drop t x b e
  ups_still (TakesOne d rest e) t = after_take t d rest e
  ups_still (Tells posts e) t = quiet_now t e.did (others_count c p (said ms) m.says posts e.posted)
      (waits_by (told (length ms + 1) m.says (bundle_for (facts_now c (m ∷ ms)) p (in_order posts)) ∷ []) e.events ∙ told_waits (length ms + 1) m.says (bundle_for (facts_now c (m ∷ ms)) p (in_order posts)) h)
  ups_still (Killing d e) t = quiet_now t e.did (heard_by (Sent p ∷ Ended p Killed ∷ []) e.says ∙ killed_counted) (waits_by _ e.events)
  ups_still (HearsOne b rest first e) t = after_heard t b rest first e

-- at the start nothing waits
pub ups_at_start : (c : Config) (p : ℕ) (mk : List Making) → UpTies c p mk (facts_now c []) (seen_now c p []) (events_of p [])
unfolding commits_heard commits frames_made
ups_at_start c p mk = record { due = refl; fit = tt; few = omega arith }
