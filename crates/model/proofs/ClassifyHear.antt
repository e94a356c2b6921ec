-- The parent hears an honest process: the bundle that waited first is no fault of its sender, and is done by its kind.
use Rattle.std.proofs.Common.{◌≡◌, ℕ, zero, suc, ◌+◌, ◌==◌, Bool, true, false, not, ◌&&◌, ◌||◌, if◌then◌else◌, Option, None, Some, is_some, option_map, List, [], ◌∷◌, ◌++◌, length, refl, ap, sym, subst, ◌∙◌, eq-eqb}
use Rattle.std.specs.Prelude.{nat_lt}
use Rattle.std.specs.List.{AllByRecursion, list_any}
use Rattle.std.specs.Option.{option_map_or}
use Rattle.std.proofs.lemmas.Bool.{le-ltb}
use Rattle.fission_ids.specs.declared.any_id.AnyId.TheVariants as ids
use Rattle.fission_ids.specs.declared.context.ContextId.{ContextId}
use Rattle.field_table.specs.declared.field.Field.{Field}
use Rattle.transaction.specs.Transaction.{Changes}
use Rattle.wire_msgs.specs.declared.answer.Answer.{Answer}
use Rattle.wire_msgs.specs.declared.answer.Answer.TheVariants as answers
use Rattle.wire_msgs.specs.declared.bundle.UpBundle.{UpBundle}
use Rattle.wire_msgs.specs.declared.cause.EndCause.{EndCause}
use Rattle.wire_msgs.specs.declared.cause.EndCause.TheVariants.{BadId, BadEpoch, BadStamp, BadPart, Failed}
use Rattle.wire_msgs.specs.declared.config.Config.{Config}
use Rattle.wire_msgs.specs.declared.note.FieldNote.{FieldNote}
use Rattle.wire_msgs.specs.declared.note.Mark.TheVariants.{Done, Late, Ignored}
use Rattle.wire_msgs.specs.declared.note.PartNote.{PartNote}
use Rattle.wire_msgs.specs.declared.note.PartNote.TheVariants as notes
use Rattle.wire_msgs.specs.declared.part.DownPart.{DownPart}
use Rattle.wire_msgs.specs.declared.part.DownPart.TheVariants as downs
use Rattle.wire_msgs.specs.declared.part.UpPart.{UpPart}
use Rattle.wire_msgs.specs.declared.part.UpPart.TheVariants as ups
use Rattle.protocol.specs.Questions.{Facts, is_told, is_judged, is_owner}
use Rattle.protocol.specs.Sayings.{Saying}
use Rattle.protocol.specs.Sayings.Saying.{Made, BornDead, Removed, Wrote, Acked, Counted, Sent}
use Rattle.protocol.specs.Fold.{or_later, behind_all, after_parts, first_fault, notes_of, posts_of}
use Rattle.protocol.specs.Hear.{fault, note, says, posts, hear_rules, is_new_frame, is_late, may_be_dropped, is_other_told, frame_known, field_notes, denied_of, denial, changes_where, values_where, is_noted, is_applied, is_reverted, commit_unless_empty}
use Rattle.protocol.specs.Commits.{applied, sent_back}
use Rattle.protocol.specs.Order.{in_order, parts_with_all, first_misplaced, is_misplaced}
use Rattle.protocol.specs.Bundle.{Ruling, end_ruling, parts_ruling, bundle_ruling, bundle_for, envelope_fault, is_counted, is_commit, is_end, due}
use Rattle.model.specs.Moments.{Moment, said, ends, told, heard, is_done}
use Rattle.model.specs.Moments.Written.{Own}
use Rattle.model.specs.Parent.{asked, ended, above, group, live, owner, value, subscribers, commits_heard}
use Rattle.model.proofs.Cases.{by_if, both_true}
use Rattle.model.proofs.Entry.{Hearing, IsAck, IsAcking}
use Rattle.model.proofs.Entry.Hearing.{AsMade, AsLate, AsDrop, AsOldDrop, AsAcks, AsCommit, AsOldCommit, AsOver}
use Rattle.model.proofs.Good.{IsGood, IsDue}
use Rattle.model.proofs.Good.IsGood.{GoodCreate, GoodDrop, GoodAcks, GoodCommit}
use Rattle.model.proofs.ClassifySending.{SentBehind, behind, sending_adds, sending_none, sending_ends}
use Rattle.model.proofs.ClassifyTold.{hear_moment, facts_behind, ruling_behind, nothing_in_order, one_in_order, not_false}

-- ---- the envelope

envelope_by : {A : Type 0} (e d s : Bool) (m : Option A) (u v w : EndCause) (g : A → EndCause) → e ≡ false → d ≡ true → s ≡ false → m ≡ None
    → (if e then Some u else if not d then Some v else if s then Some w else option_map g m) ≡ None
envelope_by false true false None u v w g e_is d_is s_is m_is = refl
envelope_by true d s m u v w g e_is d_is s_is m_is = absurd cc
envelope_by false false s m u v w g e_is d_is s_is m_is = absurd cc
envelope_by false true true m u v w g e_is d_is s_is m_is = absurd cc
envelope_by false true false (Some a) u v w g e_is d_is s_is m_is = absurd cc

-- the bundle's parts, of which so many are commits, are in order
envelope_clear : (f : Facts) (p : ℕ) (b : UpBundle) (parts : List UpPart) (commits : Bool) → b.parts ≡ parts → is_end parts ≡ false → list_any is_commit parts ≡ commits → IsDue f p (if commits then 1 else 0) b
    → first_misplaced 1 [] parts ≡ None → envelope_fault f p b ≡ None
unfolding envelope_fault
envelope_clear f p b parts commits e no_end commits_are is_due placed =
    envelope_by (is_end b.parts) (b.epoch.0 == due f p b.parts) (nat_lt (f.processes.bundles_sent p) b.seen) (first_misplaced 1 [] b.parts)
    Failed (BadEpoch b.epoch (record { 0 = due f p b.parts })) (BadStamp b.seen (f.processes.bundles_sent p)) BadPart
    (ap is_end e ∙ no_end)
    (eq-eqb b.epoch.0 (due f p b.parts) (is_due.epoch ∙ ap (λ (v : Bool). f.processes.commits_heard p + (if v then 1 else 0)) (sym (ap (list_any is_commit) e ∙ commits_are))))
    (le-ltb (f.processes.bundles_sent p) b.seen is_due.seen)
    (ap (first_misplaced 1 []) e ∙ placed)

counted_by : (e c d v : Bool) → e ≡ false → c ≡ v → d ≡ true → (not e && c && d) ≡ v
counted_by false c true v e_is c_is d_is = go c c_is
  where
    go : (c : Bool) → c ≡ v → (c && true) ≡ v
    go true is = is
    go false is = is
counted_by true c d v e_is c_is d_is = absurd cc
counted_by false c false v e_is c_is d_is = absurd cc

counted_is : (f : Facts) (p : ℕ) (b : UpBundle) (parts : List UpPart) (commits : Bool) → b.parts ≡ parts → is_end parts ≡ false → list_any is_commit parts ≡ commits → IsDue f p (if commits then 1 else 0) b → is_counted f p b ≡ commits
counted_is f p b parts commits e no_end commits_are is_due =
    counted_by (is_end b.parts) (list_any is_commit b.parts) (b.epoch.0 == due f p b.parts) commits (ap is_end e ∙ no_end) (ap (list_any is_commit) e ∙ commits_are)
    (eq-eqb b.epoch.0 (due f p b.parts) (is_due.epoch ∙ ap (λ (v : Bool). f.processes.commits_heard p + (if v then 1 else 0)) (sym (ap (list_any is_commit) e ∙ commits_are))))

-- acknowledgements are in order, and no commits

threes : ℕ → List ℕ
threes zero = []
threes (suc k) = 3 ∷ threes k

threes_placed : (k : ℕ) → is_misplaced (threes k) 3 ≡ false
unfolding threes
threes_placed zero = refl
threes_placed (suc k) = threes_placed k

acks_placed : (n k : ℕ) (parts : List UpPart) → AllByRecursion IsAck parts → first_misplaced n (threes k) parts ≡ None
unfolding first_misplaced threes
acks_placed n k [] all = refl
acks_placed n k (ups.DropAck x ∷ parts) all =
    ap (λ (v : Bool). if v || false then Some n else first_misplaced (n + 1) (3 ∷ threes k) parts) (threes_placed k) ∙ acks_placed (n + 1) (suc k) parts all.1
acks_placed n k (_ ∷ parts) all = absurd all.0

acks_no_commit : (parts : List UpPart) → AllByRecursion IsAck parts → list_any is_commit parts ≡ false
acks_no_commit [] all = refl
acks_no_commit (ups.DropAck x ∷ parts) all = acks_no_commit parts all.1
acks_no_commit (_ ∷ parts) all = absurd all.0

-- ---- what a hear comes to, by its ruling

parts_end : (ns : List PartNote) (cause : EndCause) → answers.Parts ns ≡ answers.Ended cause → ⊥
parts_end ns cause e = cc

module _ (c : Config) (allows : Field → Bool) (p : ℕ) (ms : List Moment) (b : UpBundle) where
  abbrev f : Facts
  f = asked c.tabs (said ms)

  -- the moment of a ruling
  abbrev moment_by : ℕ → Answer → (ℕ → List DownPart) → List Saying → Moment
  moment_by n answer sends ys = hear_moment c p ms (Own b) (ruling_behind c ms n answer sends ys)

  abbrev kept_by : ℕ → (ℕ → List DownPart) → List Saying → List Saying
  kept_by n sends ys = behind (facts_behind c ms) n sends ys

  abbrev IsHeard : Ruling (List Saying) → Type 0
  IsHeard rule = Hearing c p ms (hear_moment c p ms (Own b) rule) b

  itself : (p == p) ≡ true
  itself = eq-eqb p p refl

  heard_events : (n : ℕ) (answer : Answer) (sends : ℕ → List DownPart) (ys : List Saying) (ds : List DownPart) → ends p ys ≡ [] → sends p ≡ ds
      → (moment_by n answer sends ys).events p ≡ heard (length ms + 1) (Own b) answer (kept_by n sends ys) (bundle_for (asked c.tabs (kept_by n sends ys ++ said ms)) p ds)
  heard_events n answer sends ys ds none is =
      ap (λ (v : Bool). ends p kept ++ (if v then heard (length ms + 1) (Own b) answer kept (bundle_for (asked c.tabs (kept ++ said ms)) p (sends p))
      else told (length ms + 1) kept (bundle_for (asked c.tabs (kept ++ said ms)) p (sends p)) ∷ [])) itself
      ∙ ap (λ es. es ++ heard (length ms + 1) (Own b) answer kept (bundle_for (asked c.tabs (kept ++ said ms)) p (sends p))) (sending_ends (facts_behind c ms) n sends ys p ∙ none)
      ∙ ap (λ ds. heard (length ms + 1) (Own b) answer kept (bundle_for (asked c.tabs (kept ++ said ms)) p ds)) is
    where
      kept : List Saying
      kept = kept_by n sends ys

  -- one that was ended
  heard_over : (n : ℕ) → is_some (ended p (said ms)) ≡ true → IsHeard (ruling_behind c ms n answers.Ignored (λ q. []) [])
  heard_over n over = AsOver (record {
    did = refl;
    over = over;
    says = sending_none (facts_behind c ms) n (λ q. []) [] (λ q. refl);
    events = heard_events n answers.Ignored (λ q. []) [] [] refl refl;
  })

  -- the parts are done
  abbrev done_by : ℕ → List Saying → List UpPart → Ruling (List Saying)
  done_by n ys parts =
      ruling_behind c ms n (answers.Parts (notes_of (hear_rules allows p p) (facts_behind c ms) (λ y says. y ∷ says) ys parts))
      (λ q. in_order (posts_of (hear_rules allows p q) (facts_behind c ms) (λ y says. y ∷ says) ys parts))
      (after_parts (hear_rules allows p p) (facts_behind c ms) (λ y says. y ∷ says) ys parts)

  -- where there is no fault
  clear_runs : (n : ℕ) (commits : Bool) (parts : List UpPart) → b.parts ≡ parts → is_end parts ≡ false → list_any is_commit parts ≡ commits → IsDue (asked c.tabs (said ms)) p (if commits then 1 else 0) b → first_misplaced 1 [] parts ≡ None
      → first_fault (hear_rules allows p p) (facts_behind c ms) (λ y says. y ∷ says) 1 (if commits then Counted p ∷ [] else []) parts ≡ None
      → IsHeard (done_by n (if commits then Counted p ∷ [] else []) parts)
      → IsHeard (option_map_or (λ cause. end_ruling (facts_behind c ms) (λ y says. y ∷ says) n p cause (if is_counted (asked c.tabs (said ms)) p b then Counted p ∷ [] else []))
      (or_later (envelope_fault (asked c.tabs (said ms)) p b) (first_fault (hear_rules allows p p) (facts_behind c ms) (λ y says. y ∷ says) 1 (if is_counted (asked c.tabs (said ms)) p b then Counted p ∷ [] else []) b.parts))
      (parts_ruling (facts_behind c ms) (λ y says. y ∷ says) n allows p b (if is_counted (asked c.tabs (said ms)) p b then Counted p ∷ [] else [])))
  clear_runs n commits parts e no_end commits_are is_due placed clear is_done =
      subst (λ (v : Bool). IsHeard (option_map_or (λ cause. end_ruling (facts_behind c ms) (λ y says. y ∷ says) n p cause (if v then Counted p ∷ [] else []))
      (or_later (envelope_fault (asked c.tabs (said ms)) p b) (first_fault (hear_rules allows p p) (facts_behind c ms) (λ y says. y ∷ says) 1 (if v then Counted p ∷ [] else []) b.parts))
      (parts_ruling (facts_behind c ms) (λ y says. y ∷ says) n allows p b (if v then Counted p ∷ [] else []))))
      (sym (counted_is (asked c.tabs (said ms)) p b parts commits e no_end commits_are is_due))
      (subst (λ parts. IsHeard (option_map_or (λ cause. end_ruling (facts_behind c ms) (λ y says. y ∷ says) n p cause (if commits then Counted p ∷ [] else []))
      (or_later (envelope_fault (asked c.tabs (said ms)) p b) (first_fault (hear_rules allows p p) (facts_behind c ms) (λ y says. y ∷ says) 1 (if commits then Counted p ∷ [] else []) parts))
      (done_by n (if commits then Counted p ∷ [] else []) parts)))
      (sym e)
      (subst (λ o. IsHeard (option_map_or (λ cause. end_ruling (facts_behind c ms) (λ y says. y ∷ says) n p cause (if commits then Counted p ∷ [] else []))
      (or_later (envelope_fault (asked c.tabs (said ms)) p b) o) (done_by n (if commits then Counted p ∷ [] else []) parts)))
      (sym clear)
      (subst (λ o. IsHeard (option_map_or (λ cause. end_ruling (facts_behind c ms) (λ y says. y ∷ says) n p cause (if commits then Counted p ∷ [] else []))
      (or_later o None) (done_by n (if commits then Counted p ∷ [] else []) parts)))
      (sym (envelope_clear (asked c.tabs (said ms)) p b parts commits e no_end commits_are is_due placed)) is_done)))

  -- ---- a frame

  create_is : (x a : ContextId) → is_new_frame p x ≡ true → f.contexts.known x ≡ false → f.contexts.known a ≡ true → fault allows p 1 (asked c.tabs (said ms)) (ups.Create x a) ≡ None
  unfolding fault
  create_is x a frame new below =
      ap (λ (v : Bool). if not v || f.contexts.known x then Some (BadId (ids.Context x)) else if not (f.contexts.known a) then Some (BadId (ids.Context a)) else None) frame
      ∙ ap (λ (v : Bool). if v then Some (BadId (ids.Context x)) else if not (f.contexts.known a) then Some (BadId (ids.Context a)) else None) new
      ∙ ap (λ (v : Bool). if not v then Some (BadId (ids.Context a)) else None) below

  -- nothing is sent to a process itself where the others are told
  none_itself : (v : Bool) (d : DownPart) → in_order ((if not (p == p) && v then d ∷ [] else []) ++ []) ≡ []
  unfolding parts_with_all
  none_itself v d = ap (λ (u : Bool). in_order ((if not u && v then d ∷ [] else []) ++ [])) itself

  create_done : (n : ℕ) (x a : ContextId) → b.parts ≡ ups.Create x a ∷ [] → is_new_frame p x ≡ true → f.contexts.known x ≡ false → f.contexts.known a ≡ true → ended p (said ms) ≡ None → IsHeard (done_by n [] (ups.Create x a ∷ []))
  unfolding notes_of after_parts posts_of note says posts behind_all
  create_done n x a e frame new below runs = by_late (is_late f p a) refl
    where
      by_late : (v : Bool) → is_late f p a ≡ v
          → IsHeard (ruling_behind c ms n (answers.Parts (notes.Create x (if v then Late else Done) ∷ [])) (λ q. in_order (posts f p (ups.Create x a) (notes.Create x (if v then Late else Done)) q ++ []))
          (behind_all (λ y says. y ∷ says) (says p (ups.Create x a) (notes.Create x (if v then Late else Done))) []))
      by_late false late =
          let both : (f.contexts.live a ≡ true) × (is_owner f p a ≡ true) = both_true (f.contexts.live a) (is_owner f p a) (not_false (f.contexts.live a && is_owner f p a) late) in
          let sends : ℕ → List DownPart = λ q. in_order ((if is_other_told f p q a then downs.Create (frame_known f x a) ∷ [] else []) ++ []) in
          let adds : SentBehind (kept_by n sends (Made p x a ∷ [])) (Made p x a ∷ []) = sending_adds (facts_behind c ms) n sends (Made p x a ∷ []) in
          AsMade x a (record {
            did = refl;
            parts = e;
            says = record { sent = adds.sent; all_sent = adds.all_sent; is = adds.is };
            fits = record { frame = frame; new = new; live = both.0; owner = both.1 };
            events = heard_events n (answers.Parts (notes.Create x Done ∷ [])) sends (Made p x a ∷ []) [] refl (none_itself (is_told f p a) (downs.Create (frame_known f x a)));
          })
      by_late true late =
          let sends : ℕ → List DownPart = λ q. in_order ((if q == p then downs.Discard x ∷ [] else []) ++ []) in
          let kept : List Saying = kept_by n sends (BornDead p x a ∷ []) in
          let adds : SentBehind kept (BornDead p x a ∷ []) = sending_adds (facts_behind c ms) n sends (BornDead p x a ∷ []) in
          AsLate x a (record { epoch = record { 0 = commits_heard p (kept ++ said ms) }; parts = downs.Discard x ∷ [] }) (record {
            did = refl;
            parts = e;
            says = record { sent = adds.sent; all_sent = adds.all_sent; is = adds.is };
            fits = record { frame = frame; new = new; below = below };
            late = late;
            alive = runs;
            back = refl;
            events = heard_events n (answers.Parts (notes.Create x Late ∷ [])) sends (BornDead p x a ∷ []) (downs.Discard x ∷ []) refl
                (ap (λ (v : Bool). in_order ((if v then downs.Discard x ∷ [] else []) ++ [])) itself ∙ one_in_order (downs.Discard x));
          })

  -- ---- a drop

  drop_is : (x : ContextId) → f.contexts.known x ≡ true → may_be_dropped f p x ≡ true → fault allows p 1 (asked c.tabs (said ms)) (ups.Drop x) ≡ None
  unfolding fault
  drop_is x is_known may =
      ap (λ (v : Bool). if v && may_be_dropped f p x then None else Some (BadId (ids.Context x))) is_known ∙ ap (λ (v : Bool). if v then None else Some (BadId (ids.Context x))) may

  drop_done : (n : ℕ) (x : ContextId) → b.parts ≡ ups.Drop x ∷ [] → f.contexts.known x ≡ true → IsHeard (done_by n [] (ups.Drop x ∷ []))
  unfolding notes_of after_parts posts_of note says posts behind_all
  drop_done n x e is_known = by_live (f.contexts.live x) refl
    where
      by_live : (v : Bool) → f.contexts.live x ≡ v
          → IsHeard (ruling_behind c ms n (answers.Parts (notes.Drop x (if v then Done else Ignored) ∷ [])) (λ q. in_order (posts f p (ups.Drop x) (notes.Drop x (if v then Done else Ignored)) q ++ []))
          (behind_all (λ y says. y ∷ says) (says p (ups.Drop x) (notes.Drop x (if v then Done else Ignored))) []))
      by_live true lives =
          let sends : ℕ → List DownPart = λ q. in_order ((if is_other_told f p q x then downs.Discard x ∷ [] else []) ++ []) in
          let adds : SentBehind (kept_by n sends (Removed x (Some p) ∷ [])) (Removed x (Some p) ∷ []) = sending_adds (facts_behind c ms) n sends (Removed x (Some p) ∷ []) in
          AsDrop x (record {
            did = refl;
            parts = e;
            says = record { sent = adds.sent; all_sent = adds.all_sent; is = adds.is };
            live = lives;
            events = heard_events n (answers.Parts (notes.Drop x Done ∷ [])) sends (Removed x (Some p) ∷ []) [] refl (none_itself (is_told f p x) (downs.Discard x));
          })
      by_live false dead = AsOldDrop x (record {
        did = refl;
        parts = e;
        says = sending_none (facts_behind c ms) n (λ q. in_order []) [] (λ q. nothing_in_order);
        known = is_known;
        dead = dead;
        events = heard_events n (answers.Parts (notes.Drop x Ignored ∷ [])) (λ q. in_order []) [] [] refl nothing_in_order;
      })

  -- ---- acknowledgements

  acks_clear : (n : ℕ) (parts : List UpPart) (ys : List Saying) → AllByRecursion IsAck parts → first_fault (hear_rules allows p p) (facts_behind c ms) (λ y says. y ∷ says) n ys parts ≡ None
  unfolding first_fault fault note says behind_all
  acks_clear n [] ys all = refl
  acks_clear n (ups.DropAck x ∷ parts) ys all = acks_clear (n + 1) parts (Acked p x ∷ ys) all.1
  acks_clear n (_ ∷ parts) ys all = absurd all.0

  acks_said : (parts : List UpPart) (ys : List Saying) → AllByRecursion IsAck parts → AllByRecursion IsAcking ys → AllByRecursion IsAcking (after_parts (hear_rules allows p p) (facts_behind c ms) (λ y says. y ∷ says) ys parts)
  unfolding after_parts note says behind_all
  acks_said [] ys all acking = acking
  acks_said (ups.DropAck x ∷ parts) ys all acking = acks_said parts (Acked p x ∷ ys) all.1 (tt, acking)
  acks_said (_ ∷ parts) ys all acking = absurd all.0

  acks_post : (q : ℕ) (parts : List UpPart) (ys : List Saying) → AllByRecursion IsAck parts → posts_of (hear_rules allows p q) (facts_behind c ms) (λ y says. y ∷ says) ys parts ≡ []
  unfolding posts_of note says posts behind_all
  acks_post q [] ys all = refl
  acks_post q (ups.DropAck x ∷ parts) ys all = acks_post q parts (Acked p x ∷ ys) all.1
  acks_post q (_ ∷ parts) ys all = absurd all.0

  acks_ends : (ys : List Saying) → AllByRecursion IsAcking ys → ends p ys ≡ []
  acks_ends [] all = refl
  acks_ends (Acked q x ∷ ys) all = acks_ends ys all.1
  acks_ends (Sent q ∷ ys) all = acks_ends ys all.1
  acks_ends (_ ∷ ys) all = absurd all.0

  acks_done : (n : ℕ) (x : ContextId) (parts : List UpPart) → b.parts ≡ ups.DropAck x ∷ parts → AllByRecursion IsAck parts → IsHeard (done_by n [] (ups.DropAck x ∷ parts))
  unfolding notes_of note
  acks_done n x parts e all =
      let all_acks : AllByRecursion IsAck (ups.DropAck x ∷ parts) = (tt, all) in
      let answer : Answer = answers.Parts (notes_of (hear_rules allows p p) (facts_behind c ms) (λ y says. y ∷ says) [] (ups.DropAck x ∷ parts)) in
      let sends : ℕ → List DownPart = λ q. in_order (posts_of (hear_rules allows p q) (facts_behind c ms) (λ y says. y ∷ says) [] (ups.DropAck x ∷ parts)) in
      let ys : List Saying = after_parts (hear_rules allows p p) (facts_behind c ms) (λ y says. y ∷ says) [] (ups.DropAck x ∷ parts) in
      let acking : AllByRecursion IsAcking ys = acks_said (ups.DropAck x ∷ parts) [] all_acks tt in
      let none : (q : ℕ) → sends q ≡ [] = λ q. ap in_order (acks_post q (ups.DropAck x ∷ parts) [] all_acks) ∙ nothing_in_order in
      AsAcks (record {
        did = refl;
        parts = subst (AllByRecursion IsAck) (sym e) all_acks;
        says = subst (AllByRecursion IsAcking) (sym (sending_none (facts_behind c ms) n sends ys none)) acking;
        events = heard_events n answer sends ys [] (acks_ends ys acking) (none p);
      })

  -- ---- a commit

  commit_is : (x : ContextId) (t : Changes) → (is_judged f p x ≡ true → denied_of allows f p x t ≡ []) → fault allows p 1 (asked c.tabs (Counted p ∷ said ms)) (ups.Commit x t) ≡ None
  unfolding fault live group subscribers above owner
  commit_is x t nothing_denied = by_judged (is_judged f p x) refl
    where
      by_judged : (v : Bool) → is_judged f p x ≡ v → (if v then denial x (denied_of allows f p x t) else None) ≡ None
      by_judged true e = ap (denial x) (nothing_denied e)
      by_judged false e = refl

  commit_in_order : (x : ContextId) (v : Bool) (u : Changes) → in_order ((if v then downs.Commit x u ∷ [] else []) ++ []) ≡ (if v then downs.Commit x u ∷ [] else [])
  unfolding parts_with_all
  commit_in_order x true u = refl
  commit_in_order x false u = refl

  commit_done : (n : ℕ) (x : ContextId) (t : Changes) → b.parts ≡ ups.Commit x t ∷ [] → IsHeard (done_by n (Counted p ∷ []) (ups.Commit x t ∷ []))
  unfolding notes_of after_parts posts_of note says posts behind_all live group subscribers above owner value
  commit_done n x t e = by_judged (is_judged f p x) refl
    where
      ns : List FieldNote
      ns = field_notes allows f p x t

      sent_by : ℕ → List DownPart
      sent_by q = (if q == p then commit_unless_empty x (values_where (is_noted is_reverted ns) f x)
          else if is_told f q x then commit_unless_empty x (changes_where (is_noted is_applied ns) t) else []) ++ []

      ys : List Saying
      ys = Wrote x (applied ns t) ∷ Counted p ∷ []

      judged : is_judged f p x ≡ true → IsHeard (ruling_behind c ms n (answers.Parts (notes.Commit x ns ∷ [])) (λ q. in_order (sent_by q)) ys)
      judged e_judged =
          let sends : ℕ → List DownPart = λ q. in_order (sent_by q) in
          let kept : List Saying = kept_by n sends ys in
          let adds : SentBehind kept ys = sending_adds (facts_behind c ms) n sends ys in
          AsCommit x t ns (bundle_for (asked c.tabs (kept ++ said ms)) p (sent_back ns f x)) (record {
            did = refl;
            parts = e;
            says = record { sent = adds.sent; all_sent = adds.all_sent; is = adds.is };
            notes = (allows, refl);
            live = (both_true (f.contexts.live x) (is_told f p x) e_judged).0;
            told = (both_true (f.contexts.live x) (is_told f p x) e_judged).1;
            is_back = refl;
            events = heard_events n (answers.Parts (notes.Commit x ns ∷ [])) sends ys (sent_back ns f x) refl
                (ap (λ (v : Bool). in_order ((if v then commit_unless_empty x (values_where (is_noted is_reverted ns) f x)
                else if is_told f p x then commit_unless_empty x (changes_where (is_noted is_applied ns) t) else []) ++ [])) itself
                ∙ commit_in_order x (list_any is_some (values_where (is_noted is_reverted ns) f x)) (values_where (is_noted is_reverted ns) f x));
            done = refl;
            runs_on = λ cause is. parts_end (notes.Commit x ns ∷ []) cause is;
          })

      unjudged : is_judged f p x ≡ false → IsHeard (ruling_behind c ms n (answers.Parts (notes.CommitIgnored x ∷ [])) (λ q. in_order []) (Counted p ∷ []))
      unjudged e_unjudged = AsOldCommit x t (record {
        did = refl;
        parts = e;
        says = sending_none (facts_behind c ms) n (λ q. in_order []) (Counted p ∷ []) (λ q. nothing_in_order);
        unjudged = e_unjudged;
        events = heard_events n (answers.Parts (notes.CommitIgnored x ∷ [])) (λ q. in_order []) (Counted p ∷ []) [] refl nothing_in_order;
      })

      by_judged : (v : Bool) → is_judged f p x ≡ v
          → IsHeard (ruling_behind c ms n (answers.Parts ((if v then notes.Commit x ns else notes.CommitIgnored x) ∷ []))
          (λ q. in_order (posts f p (ups.Commit x t) (if v then notes.Commit x ns else notes.CommitIgnored x) q ++ []))
          (behind_all (λ y says. y ∷ says) (says p (ups.Commit x t) (if v then notes.Commit x ns else notes.CommitIgnored x)) (Counted p ∷ [])))
      by_judged true e_judged = judged e_judged
      by_judged false e_unjudged = unjudged e_unjudged

  -- ---- any good bundle

  good_runs : (n : ℕ) → ended p (said ms) ≡ None → IsGood f p b
      → IsHeard (option_map_or (λ cause. end_ruling (facts_behind c ms) (λ y says. y ∷ says) n p cause (if is_counted (asked c.tabs (said ms)) p b then Counted p ∷ [] else []))
      (or_later (envelope_fault (asked c.tabs (said ms)) p b) (first_fault (hear_rules allows p p) (facts_behind c ms) (λ y says. y ∷ says) 1 (if is_counted (asked c.tabs (said ms)) p b then Counted p ∷ [] else []) b.parts))
      (parts_ruling (facts_behind c ms) (λ y says. y ∷ says) n allows p b (if is_counted (asked c.tabs (said ms)) p b then Counted p ∷ [] else [])))
  unfolding first_fault first_misplaced threes
  good_runs n runs (GoodCreate x a e is_due frame new below) =
      clear_runs n false (ups.Create x a ∷ []) e refl refl is_due refl (ap (λ o. or_later o None) (create_is x a frame new below)) (create_done n x a e frame new below runs)
  good_runs n runs (GoodDrop x e is_due is_known may) =
      clear_runs n false (ups.Drop x ∷ []) e refl refl is_due refl (ap (λ o. or_later o None) (drop_is x is_known may)) (drop_done n x e is_known)
  good_runs n runs (GoodAcks (ups.DropAck x) parts e all is_due) =
      clear_runs n false (ups.DropAck x ∷ parts) e refl (acks_no_commit (ups.DropAck x ∷ parts) all) is_due (acks_placed 1 0 (ups.DropAck x ∷ parts) all) (acks_clear 1 (ups.DropAck x ∷ parts) [] all)
      (acks_done n x parts e all.1)
  good_runs n runs (GoodAcks (_) parts e all is_due) = absurd all.0
  good_runs n runs (GoodCommit x t e is_due nothing_denied) =
      clear_runs n true (ups.Commit x t ∷ []) e refl refl is_due refl (ap (λ o. or_later o None) (commit_is x t (λ judged. nothing_denied judged allows))) (commit_done n x t e)

  none_is : (o : Option EndCause) → is_some o ≡ false → o ≡ None
  none_is None e = refl
  none_is (Some cause) e = absurd cc

  pub own_heard : (n : ℕ) → (ended p (said ms) ≡ None → IsGood (asked c.tabs (said ms)) p b) → IsHeard (bundle_ruling (facts_behind c ms) (λ y says. y ∷ says) n allows p b [])
  own_heard n good =
      by_if IsHeard (is_some (ended p (said ms))) (ruling_behind c ms n answers.Ignored (λ q. []) [])
      (option_map_or (λ cause. end_ruling (facts_behind c ms) (λ y says. y ∷ says) n p cause (if is_counted (asked c.tabs (said ms)) p b then Counted p ∷ [] else []))
      (or_later (envelope_fault (asked c.tabs (said ms)) p b) (first_fault (hear_rules allows p p) (facts_behind c ms) (λ y says. y ∷ says) 1 (if is_counted (asked c.tabs (said ms)) p b then Counted p ∷ [] else []) b.parts))
      (parts_ruling (facts_behind c ms) (λ y says. y ∷ says) n allows p b (if is_counted (asked c.tabs (said ms)) p b then Counted p ∷ [] else [])))
      (λ over. heard_over n over) (λ runs. good_runs n (none_is (ended p (said ms)) runs) (good (none_is (ended p (said ms)) runs)))
