-- The counts of what was sent and taken go with the events, and the entries of the events rise, whatever step is made.
use Rattle.std.proofs.Common.{◌≡◌, ◌⊎◌, inl, inr, ℕ, zero, suc, ◌+◌, ◌<◌, ◌≤◌, ◌==◌, Bool, true, false, not, if◌then◌else◌, Option, None, Some, List, [], ◌∷◌, ◌++◌, length, map, refl, ap, sym, subst, ◌∙◌, arith, eq-eqb, eqb-true, ne_eqb, length-append, length-drop}
use Rattle.std.specs.Prelude.{is_some, is_none, drop}
use Rattle.std.specs.List.{AllByRecursion}
use Rattle.std.proofs.lemmas.Bool.{cases_eq}
use Rattle.field_table.specs.declared.field.Field.{Field}
use Rattle.wire_msgs.specs.declared.action.Action.{Action}
use Rattle.wire_msgs.specs.declared.action.Action.TheVariants as own
use Rattle.wire_msgs.specs.declared.action.ParentAction.{ParentAction}
use Rattle.wire_msgs.specs.declared.action.ParentAction.TheVariants as parents
use Rattle.wire_msgs.specs.declared.answer.Answer.{Answer}
use Rattle.wire_msgs.specs.declared.answer.Answer.TheVariants as answers
use Rattle.wire_msgs.specs.declared.bundle.DownBundle.{DownBundle}
use Rattle.wire_msgs.specs.declared.bundle.UpBundle.{UpBundle}
use Rattle.wire_msgs.specs.declared.cause.EndCause.{EndCause}
use Rattle.wire_msgs.specs.declared.config.Config.{Config}
use Rattle.wire_msgs.specs.declared.note.Mark.TheVariants.{Done, Late}
use Rattle.wire_msgs.specs.declared.note.PartNote.{PartNote}
use Rattle.wire_msgs.specs.declared.note.PartNote.TheVariants as notes
use Rattle.wire_msgs.specs.declared.part.DownPart.{DownPart}
use Rattle.wire_msgs.specs.declared.part.DownPart.TheVariants as downs
use Rattle.wire_msgs.specs.declared.part.Known.{Known}
use Rattle.wire_msgs.specs.declared.part.UpPart.{UpPart}
use Rattle.wire_msgs.specs.declared.part.UpPart.TheVariants as ups
use Rattle.wire_msgs.specs.declared.refusal.Refusal.TheVariants.{Stopped}
use Rattle.journal.specs.declared.entry.Step.{Step}
use Rattle.journal.specs.declared.entry.Step.TheVariants.{Act, Take, Raw as RawStep, ParentAct, Hear}
use Rattle.protocol.specs.Bundle.{Ruling, is_no_bundle, bundle_for, bundle_ruling, envelope_fault, is_counted, end_parts}
use Rattle.protocol.specs.Fold.{or_later, behind_all, after_part, after_parts, first_fault, notes_of}
use Rattle.protocol.specs.FactsAfter.{raised}
use Rattle.protocol.specs.Hear as hear
use Rattle.protocol.specs.OwnActs as acts
use Rattle.protocol.specs.ParentActs as parent_acts
use Rattle.protocol.specs.Questions.{Facts, is_subscribed}
use Rattle.protocol.specs.Sayings.{Saying}
use Rattle.protocol.specs.Sayings.Saying.{Opened, Subscribed, Counted, Sent, Ended}
use Rattle.protocol.specs.Seen.{Seen, Doing}
use Rattle.protocol.specs.Seen.Doing.{Came, Framed, Went, Took}
use Rattle.protocol.specs.Take as take
use Rattle.traces.specs.Event.{Bundle}
use Rattle.traces.specs.Event.Event.{Writes, Sends, Takes, Accepts, Reverts, Ignores, Changes, Does, Ends}
use Rattle.traces.specs.Links.{takes, now, hears, last_sending, writes_waiting, bundles_waiting}
use Rattle.traces.specs.Links as links
use Rattle.traces.specs.Rules.{Flows, Rises}
use Rattle.traces.proofs.Waits.{taken_fits}
use Rattle.model.specs.Moments.{Moment, Written, ProcessEvent, said, did_by, events_of, facts_now, seen_now, only_answer, written, deeds, act_moment, taken_moment, raw_moment, if_running, ends, told, parent_moment, heard, is_done, heard_moment, moment}
use Rattle.model.specs.Moments.Written.{Own, Raw, Said}
use Rattle.model.specs.Parent.{bundles_sent}
use Rattle.model.specs.Process.{own_asked, taken}
use Rattle.model.proofs.Cases.{by_if}
use Rattle.model.proofs.ClassifySending.{behind}
use Rattle.model.proofs.ClassifyTold.{by_option, hear_moment, facts_behind, ruling_behind}

-- ---- what is in some events

-- how many of them send a bundle
abbrev pub sent_in : List ProcessEvent → ℕ
sent_in [] = 0
sent_in (Sends k u d ∷ es) = sent_in es + 1
sent_in (Reverts k w d ∷ es) = sent_in es + 1
sent_in (_ ∷ es) = sent_in es

sent_over : (es h : List ProcessEvent) → length (links.bundles_sent (es ++ h)) ≡ sent_in es + length (links.bundles_sent h)
sent_over [] h = omega arith
sent_over (Sends k u d ∷ es) h = omega (arith, length-append (links.bundles_sent (es ++ h)) (record { entry = k; epoch = hears (es ++ h); content = d } ∷ []), sent_over es h)
sent_over (Reverts k w d ∷ es) h = omega (arith, length-append (links.bundles_sent (es ++ h)) (record { entry = k; epoch = hears (es ++ h) + 1; content = d } ∷ []), sent_over es h)
sent_over (_ ∷ es) h = sent_over es h

takes_over : (es h : List ProcessEvent) → takes (es ++ h) ≡ takes es + takes h
takes_over [] h = omega arith
takes_over (Takes d ∷ es) h = omega (arith, takes_over es h)
takes_over (_ ∷ es) h = takes_over es h

taken_over : (did old : List Doing) → taken (did ++ old) ≡ taken did + taken old
unfolding taken
taken_over [] old = omega arith
taken_over (Took ∷ did) old = omega (arith, taken_over did old)
taken_over (_ ∷ did) old = taken_over did old

-- the entries of these events rise, to this one
pub record RisesTo (n : ℕ) (h : List ProcessEvent) : Type 0 where
  pub rises : Rises h
  pub now_is : now h ≤ n

last_past : (h : List ProcessEvent) → Rises h → last_sending h ≤ now h
last_past [] r = omega arith
last_past (Sends k u d ∷ h) r = omega arith
last_past (Reverts k w d ∷ h) r = omega arith
last_past (Accepts k w ∷ h) r = omega (arith, r.0, last_past h r.1)
last_past (Ignores k w ∷ h) r = omega (arith, r.0, last_past h r.1)
last_past (Changes k u ∷ h) r = omega (arith, r.0, last_past h r.1)
last_past (_ ∷ h) r = last_past h r.1

-- ---- what an entry adds

module _ (c : Config) (p : ℕ) (ms : List Moment) where
  abbrev old : List Saying
  old = said ms

  -- what was said, was done and happened goes together
  pub record Counts (says : List Saying) (did : List Doing) (es : List ProcessEvent) : Type 0 where
    pub sent : bundles_sent p (says ++ said ms) ≡ sent_in es + bundles_sent p (said ms)
    pub took : taken did ≡ takes es
    pub later : (h : List ProcessEvent) → RisesTo (length ms) h → RisesTo (length ms + 1) (es ++ h)

  abbrev pub MomentCounts : Moment → Type 0
  MomentCounts m = Counts m.says (m.did p) (m.events p)

  -- ---- where nothing is said

  abbrev IsQuiet : ProcessEvent → Type 0
  IsQuiet (Writes w) = Unit {0}
  IsQuiet (Takes d) = Unit {0}
  IsQuiet (Does d) = Unit {0}
  IsQuiet e = ⊥

  quiet_sends : (es : List ProcessEvent) → AllByRecursion IsQuiet es → sent_in es ≡ 0
  quiet_sends [] all = refl
  quiet_sends (Writes w ∷ es) all = quiet_sends es all.1
  quiet_sends (Takes d ∷ es) all = quiet_sends es all.1
  quiet_sends (Does d ∷ es) all = quiet_sends es all.1
  quiet_sends (_ ∷ es) all = absurd all.0

  quiet_later : (es h : List ProcessEvent) → AllByRecursion IsQuiet es → RisesTo (length ms) h → RisesTo (length ms + 1) (es ++ h)
  quiet_later [] h all r = record { rises = r.rises; now_is = omega (arith, r.now_is) }
  quiet_later (Writes w ∷ es) h all r = let rest : RisesTo (length ms + 1) (es ++ h) = quiet_later es h all.1 r in record { rises = (tt, rest.rises); now_is = rest.now_is }
  quiet_later (Takes d ∷ es) h all r = let rest : RisesTo (length ms + 1) (es ++ h) = quiet_later es h all.1 r in record { rises = (tt, rest.rises); now_is = rest.now_is }
  quiet_later (Does d ∷ es) h all r = let rest : RisesTo (length ms + 1) (es ++ h) = quiet_later es h all.1 r in record { rises = (tt, rest.rises); now_is = rest.now_is }
  quiet_later (_ ∷ es) h all r = absurd all.0

  quiet_counts : (did : List Doing) (es : List ProcessEvent) → AllByRecursion IsQuiet es → taken did ≡ takes es → Counts [] did es
  quiet_counts did es all took = record {
    sent = omega (arith, quiet_sends es all);
    took = took;
    later = λ h r. quiet_later es h all r;
  }

  nothing_counts : Counts [] [] []
  unfolding taken
  nothing_counts = quiet_counts [] [] tt refl

  written_quiet : (o : Option UpBundle) (es : List ProcessEvent) → AllByRecursion IsQuiet es → AllByRecursion IsQuiet (written o ++ es)
  written_quiet None es all = all
  written_quiet (Some b) es all = (tt, all)

  written_takes : (o : Option UpBundle) (es : List ProcessEvent) → takes (written o ++ es) ≡ takes es
  written_takes None es = refl
  written_takes (Some b) es = refl

  deeds_quiet : (s : Seen) (did : List Doing) → AllByRecursion IsQuiet (deeds s did)
  deeds_quiet s [] = tt
  deeds_quiet s (Framed x a ∷ did) = (tt, deeds_quiet s did)
  deeds_quiet s (Went x ∷ did) = (tt, deeds_quiet s did)
  deeds_quiet s (_ ∷ did) = deeds_quiet s did

  deeds_takes : (s : Seen) (did : List Doing) → takes (deeds s did) ≡ 0
  deeds_takes s [] = refl
  deeds_takes s (Framed x a ∷ did) = deeds_takes s did
  deeds_takes s (Went x ∷ did) = deeds_takes s did
  deeds_takes s (_ ∷ did) = deeds_takes s did

  -- of one process alone
  if_counts : (b : Bool) (did : List Doing) (es : List ProcessEvent) → Counts [] did es → Counts [] (if b then did else []) (if b then es else [])
  if_counts true did es counts = counts
  if_counts false did es counts = nothing_counts

  says_took : (q : ℕ) (s : Seen) (action : Action) → taken (behind_all (λ d did. d ∷ did) (acts.says q s action) []) ≡ 0
  unfolding taken behind_all acts.says
  says_took q s (own.Set x t) = refl
  says_took q s (own.Frame a) = refl
  says_took q s (own.Drop x) = refl
  says_took q s (_) = refl

  none_taken : taken [] ≡ 0
  unfolding taken
  none_taken = refl

  act_took : (q : ℕ) (action : Action) (seen : List Doing → Seen) → taken (acts.action_step seen (λ d did. d ∷ did) q action []).kept ≡ 0
  act_took q action seen = by_option (λ (st : take.Step (List Doing)). taken st.kept ≡ 0) _ (acts.refusal q (seen []) action) _ (λ why refused. none_taken) (λ allowed. says_took q (seen []) action)

  act_counts : (q : ℕ) (action : Action) → MomentCounts (act_moment c q action ms)
  act_counts q action =
      if_counts (p == q) did (written o ++ deeds s did) (quiet_counts did (written o ++ deeds s did) (written_quiet o (deeds s did) (deeds_quiet s did))
      (act_took q action now_seen ∙ sym (written_takes o (deeds s did) ∙ deeds_takes s did)))
    where
      now_seen : List Doing → Seen
      now_seen = λ did. own_asked c.tabs q (did ++ did_by q ms)

      did : List Doing
      did = (acts.action_step now_seen (λ d did. d ∷ did) q action []).kept

      s : Seen
      s = now_seen did

      o : Option UpBundle
      o = take.bundle_sent s (acts.action_step now_seen (λ d did. d ∷ did) q action []).sends

  -- ---- a take

  came_took : (ks : List Known) (did : List Doing) → taken (behind_all (λ d did. d ∷ did) (map Came ks) did) ≡ taken did
  unfolding taken behind_all
  came_took [] did = refl
  came_took (k ∷ ks) did = came_took ks (Came k ∷ did)

  part_took : (a : DownPart) (n : PartNote) (did : List Doing) → taken (behind_all (λ d did. d ∷ did) (take.says a n) did) ≡ taken did
  unfolding taken behind_all take.says
  part_took (downs.Register g ks) n did = came_took ks did
  part_took (downs.Create k) n did = refl
  part_took (downs.Commit x t) (notes.Commit y ns) did = refl
  part_took (downs.Discard x) n did = refl
  part_took (downs.CloseWindow x) n did = refl
  part_took downs.Kill n did = refl
  part_took (_) n did = refl

  parts_took : (q epoch : ℕ) (seen : List Doing → Seen) (parts : List DownPart) (did : List Doing) → taken (after_parts (take.take_rules q epoch) seen (λ d did. d ∷ did) did parts) ≡ taken did
  unfolding after_parts
  parts_took q epoch seen [] did = refl
  parts_took q epoch seen (a ∷ parts) did =
      parts_took q epoch seen parts (after_part (take.take_rules q epoch) seen (λ d did. d ∷ did) a did) ∙ part_took a (take.note q epoch (seen did) a) did

  one_took : (did : List Doing) → taken did ≡ 0 → taken (Took ∷ did) ≡ 1
  unfolding taken
  one_took did none = omega (arith, none)

  take_counts : (q : ℕ) (bs : List (Bundle DownBundle)) → MomentCounts (taken_moment c q ms bs)
  take_counts q [] = nothing_counts
  take_counts q (b ∷ bs) =
      if_counts (p == q) (Took ∷ did) (written o ++ Takes b ∷ []) (quiet_counts (Took ∷ did) (written o ++ Takes b ∷ []) (written_quiet o (Takes b ∷ []) (tt, tt))
      (one_took did (parts_took q b.content.epoch.0 now_seen b.content.parts [] ∙ none_taken) ∙ sym (written_takes o (Takes b ∷ []))))
    where
      now_seen : List Doing → Seen
      now_seen = λ did. own_asked c.tabs q (did ++ did_by q ms)

      did : List Doing
      did = after_parts (take.take_rules q b.content.epoch.0) now_seen (λ d did. d ∷ did) [] b.content.parts

      o : Option UpBundle
      o = take.bundle_sent (now_seen (Took ∷ did)) (take.bundle_step now_seen (λ d did. d ∷ did) q b.content []).sends

  running_counts : (q : ℕ) (m : Moment) → MomentCounts m → MomentCounts (if_running c q ms m)
  running_counts q m counts = by_if MomentCounts (seen_now c q ms).running m (only_answer (answers.Refused Stopped)) (λ runs. counts) (λ stopped. nothing_counts)

  raw_counts : (q : ℕ) (b : UpBundle) → MomentCounts (raw_moment q b)
  raw_counts q b = by_test (p == q)
    where
      by_test : (r : Bool) → Counts [] [] (if r then Writes (Raw b) ∷ [] else [])
      by_test true = quiet_counts [] (Writes (Raw b) ∷ []) (tt, tt) none_taken
      by_test false = nothing_counts

  -- ---- the bundles that the parent sends

  sent_either : (n : ℕ) (b : Bool) (says : List Saying) → bundles_sent p ((if b then says else Sent n ∷ says) ++ old) ≡ (if p == n then raised (not b) (bundles_sent p (says ++ old)) else bundles_sent p (says ++ old))
  unfolding bundles_sent
  sent_either n true says = same (p == n)
    where
      same : (b : Bool) → bundles_sent p (says ++ old) ≡ (if b then bundles_sent p (says ++ old) else bundles_sent p (says ++ old))
      same true = refl
      same false = refl
  sent_either n false says = same (p == n)
    where
      same : (b : Bool) → raised b (bundles_sent p (says ++ old)) ≡ (if b then raised true (bundles_sent p (says ++ old)) else bundles_sent p (says ++ old))
      same true = refl
      same false = refl

  -- of a process that isn't among them it counts nothing
  sent_past : (facts : List Saying → Facts) (n : ℕ) (sends : ℕ → List DownPart) (says : List Saying) → n ≤ p → bundles_sent p (behind facts n sends says ++ old) ≡ bundles_sent p (says ++ old)
  sent_past facts zero sends says le = refl
  sent_past facts (suc n) sends says le =
      sent_either n (is_no_bundle (sends n)) (behind facts n sends says)
      ∙ ap (λ (b : Bool). if b then raised (not (is_no_bundle (sends n))) (bundles_sent p (behind facts n sends says ++ old)) else bundles_sent p (behind facts n sends says ++ old)) (ne_eqb p n (λ e. omega arith))
      ∙ sent_past facts n sends says (omega arith)

  -- of one that is, a bundle where it is sent anything
  sent_at : (facts : List Saying → Facts) (n : ℕ) (sends : ℕ → List DownPart) (says : List Saying) → p < n
      → bundles_sent p (behind facts n sends says ++ old) ≡ raised (not (is_no_bundle (sends p))) (bundles_sent p (says ++ old))
  sent_at facts zero sends says lt = absurd (omega arith)
  sent_at facts (suc n) sends says lt =
      sent_either n (is_no_bundle (sends n)) (behind facts n sends says) ∙ go (cases_eq p n) (sent_at facts n sends says)
    where
      go : ((p ≡ n) ⊎ (p ≡ n → ⊥)) → (p < n → bundles_sent p (behind facts n sends says ++ old) ≡ raised (not (is_no_bundle (sends p))) (bundles_sent p (says ++ old)))
          → (if p == n then raised (not (is_no_bundle (sends n))) (bundles_sent p (behind facts n sends says ++ old)) else bundles_sent p (behind facts n sends says ++ old))
          ≡ raised (not (is_no_bundle (sends p))) (bundles_sent p (says ++ old))
      go (inl e) rest =
          ap (λ (b : Bool). if b then raised (not (is_no_bundle (sends n))) (bundles_sent p (behind facts n sends says ++ old)) else bundles_sent p (behind facts n sends says ++ old)) (eq-eqb p n e)
          ∙ ap (λ k. raised (not (is_no_bundle (sends n))) k) (sent_past facts n sends says (omega arith))
          ∙ ap (λ k. raised (not (is_no_bundle (sends k))) (bundles_sent p (says ++ old))) (sym e)
      go (inr ne) rest =
          ap (λ (b : Bool). if b then raised (not (is_no_bundle (sends n))) (bundles_sent p (behind facts n sends says ++ old)) else bundles_sent p (behind facts n sends says ++ old)) (ne_eqb p n ne)
          ∙ rest (omega arith)

  -- ---- the events of what the process is sent

  abbrev one_sent : Option DownBundle → ℕ
  one_sent None = 0
  one_sent (Some d) = 1

  bundle_raises : (f : Facts) (ds : List DownPart) (k : ℕ) → raised (not (is_no_bundle ds)) k ≡ one_sent (bundle_for f p ds) + k
  bundle_raises f [] k = omega arith
  bundle_raises f (d ∷ ds) k = omega arith

  -- events in the next entry that send this, if anything
  record Tells (o : Option DownBundle) (es : List ProcessEvent) : Type 0 where
    sent : sent_in es ≡ one_sent o
    took : takes es ≡ 0
    later : (h : List ProcessEvent) → RisesTo (length ms) h → RisesTo (length ms + 1) (es ++ h)

  accepts_tells : (w : Written) → Tells None (Accepts (length ms + 1) w ∷ [])
  accepts_tells w = record { sent = refl; took = refl; later = λ h r. record { rises = (omega (arith, r.now_is), r.rises); now_is = omega arith } }

  ignores_tells : (w : Written) → Tells None (Ignores (length ms + 1) w ∷ [])
  ignores_tells w = record { sent = refl; took = refl; later = λ h r. record { rises = (omega (arith, r.now_is), r.rises); now_is = omega arith } }

  reverts_tells : (w : Written) (d : DownBundle) → Tells (Some d) (Reverts (length ms + 1) w d ∷ [])
  reverts_tells w d = record { sent = refl; took = refl; later = λ h r. record { rises = (omega (arith, r.now_is), r.rises); now_is = omega arith } }

  told_tells : (says : List Saying) (o : Option DownBundle) → Tells o (told (length ms + 1) says o ∷ [])
  told_tells says None = record { sent = refl; took = refl; later = λ h r. record { rises = (omega (arith, r.now_is), r.rises); now_is = omega arith } }
  told_tells says (Some d) = record {
    sent = refl;
    took = refl;
    later = λ h r. record { rises = (record { once = omega (arith, r.now_is, last_past h r.rises); after = omega (arith, r.now_is) }, r.rises); now_is = omega arith };
  }

  over_tells : (w : Written) (says : List Saying) (d : DownBundle) → Tells (Some d) (Sends (length ms + 1) (Said says) d ∷ Ignores (length ms + 1) w ∷ [])
  over_tells w says d = record {
    sent = refl;
    took = refl;
    later = λ h r. record { rises = (record { once = omega (arith, r.now_is, last_past h r.rises); after = omega arith }, (omega (arith, r.now_is), r.rises)); now_is = omega arith };
  }

  heard_tells : (w : Written) (answer : Answer) (says : List Saying) (o : Option DownBundle) → Tells o (heard (length ms + 1) w answer says o)
  heard_tells w (answers.Ended cause) says None = ignores_tells w
  heard_tells w (answers.Ended cause) says (Some d) = over_tells w says d
  heard_tells w (answers.Parts ns) says None = by_if (λ e. Tells None (e ∷ [])) (is_done (answers.Parts ns)) _ _ (λ done. accepts_tells w) (λ undone. ignores_tells w)
  heard_tells w (_) says None = ignores_tells w
  heard_tells w (_) says (Some d) = reverts_tells w d

  -- and what ends it before
  ends_tells : (says : List Saying) (o : Option DownBundle) (es : List ProcessEvent) → Tells o es → Tells o (ends p says ++ es)
  ends_tells says o es t =
      by_if (λ before. Tells o (before ++ es)) _ (Ends ∷ []) []
      (λ over. record { sent = t.sent; took = t.took; later = λ h r. let rest : RisesTo (length ms + 1) (es ++ h) = t.later h r in record { rises = (tt, rest.rises); now_is = rest.now_is } })
      (λ alive. t)

  ruling_counts : (f : Facts) (facts : List Saying → Facts) (n : ℕ) (sends : ℕ → List DownPart) (ys : List Saying) (es : List ProcessEvent) → p < n → bundles_sent p (ys ++ old) ≡ bundles_sent p old
      → Tells (bundle_for f p (sends p)) es → Counts (behind facts n sends ys) [] es
  ruling_counts f facts n sends ys es lt none t = record {
    sent =
        sent_at facts n sends ys lt ∙ ap (λ k. raised (not (is_no_bundle (sends p))) k) none ∙ bundle_raises f (sends p) (bundles_sent p old)
        ∙ ap (λ k. k + bundles_sent p old) (sym t.sent);
    took = none_taken ∙ sym t.took;
    later = t.later;
  }

  parent_counts : (n : ℕ) (answer : Answer) (sends : ℕ → List DownPart) (ys : List Saying) → p < n → bundles_sent p (ys ++ old) ≡ bundles_sent p old
      → MomentCounts (parent_moment c ms (ruling_behind c ms n answer sends ys))
  parent_counts n answer sends ys lt none =
      let kept : List Saying = behind (facts_behind c ms) n sends ys in
      let f : Facts = facts_behind c ms kept in
      ruling_counts f (facts_behind c ms) n sends ys _ lt none (ends_tells kept (bundle_for f p (sends p)) _ (told_tells kept (bundle_for f p (sends p))))

  hear_counts : (q : ℕ) (w : Written) (n : ℕ) (answer : Answer) (sends : ℕ → List DownPart) (ys : List Saying) → p < n → bundles_sent p (ys ++ old) ≡ bundles_sent p old
      → MomentCounts (hear_moment c q ms w (ruling_behind c ms n answer sends ys))
  hear_counts q w n answer sends ys lt none = by_test (p == q) refl
    where
      kept : List Saying
      kept = behind (facts_behind c ms) n sends ys

      f : Facts
      f = facts_behind c ms kept

      by_test : (b : Bool) → (p == q) ≡ b → Counts kept [] (ends p kept ++ (if b then heard (length ms + 1) w answer kept (bundle_for f q (sends q)) else told (length ms + 1) kept (bundle_for f p (sends p)) ∷ []))
      by_test true e =
          subst (λ r. Counts kept [] (ends p kept ++ heard (length ms + 1) w answer kept (bundle_for f r (sends r)))) (eqb-true p q e)
          (ruling_counts f (facts_behind c ms) n sends ys _ lt none (ends_tells kept (bundle_for f p (sends p)) _ (heard_tells w answer kept (bundle_for f p (sends p)))))
      by_test false e = ruling_counts f (facts_behind c ms) n sends ys _ lt none (ends_tells kept (bundle_for f p (sends p)) _ (told_tells kept (bundle_for f p (sends p))))

  -- ---- the sayings of parts and acts send nothing

  part_says : (q : ℕ) (a : UpPart) (n : PartNote) (ys : List Saying) → bundles_sent p (behind_all (λ y says. y ∷ says) (hear.says q a n) ys ++ old) ≡ bundles_sent p (ys ++ old)
  unfolding bundles_sent behind_all hear.says
  part_says q (ups.Create x a) (notes.Create y Done) ys = refl
  part_says q (ups.Create x a) (notes.Create y Late) ys = refl
  part_says q (ups.Drop x) (notes.Drop y Done) ys = refl
  part_says q (ups.DropAck x) (notes.Ack y) ys = refl
  part_says q (ups.Commit x t) (notes.Commit y ns) ys = refl
  part_says q (_) (_) ys = refl

  parts_say : (allows : Field → Bool) (q : ℕ) (facts : List Saying → Facts) (parts : List UpPart) (ys : List Saying)
      → bundles_sent p (after_parts (hear.hear_rules allows q q) facts (λ y says. y ∷ says) ys parts ++ old) ≡ bundles_sent p (ys ++ old)
  unfolding after_parts
  parts_say allows q facts [] ys = refl
  parts_say allows q facts (a ∷ parts) ys =
      parts_say allows q facts parts (after_part (hear.hear_rules allows q q) facts (λ y says. y ∷ says) a ys) ∙ part_says q a (hear.note allows q (facts ys) a) ys

  act_says : (f : Facts) (action : ParentAction) → bundles_sent p (behind_all (λ y says. y ∷ says) (parent_acts.says f action) [] ++ old) ≡ bundles_sent p old
  unfolding bundles_sent behind_all parent_acts.says
  act_says f (parents.Set x t) = refl
  act_says f (parents.Tab q named) = by_test (is_subscribed f q.0 (parent_acts.group_of_tab f named))
    where
      by_test : (b : Bool) → bundles_sent p (behind_all (λ y says. y ∷ says) (Opened (parent_acts.context_of_tab f) (parent_acts.group_of_tab f named) (is_none named) q.0
          ∷ (if b then [] else Subscribed q.0 (parent_acts.group_of_tab f named) ∷ [])) [] ++ old) ≡ bundles_sent p old
      by_test true = refl
      by_test false = refl
  act_says f (parents.Subscribe q g) = by_test (is_subscribed f q.0 g)
    where
      by_test : (b : Bool) → bundles_sent p (behind_all (λ y says. y ∷ says) (if b then [] else Subscribed q.0 g ∷ []) [] ++ old) ≡ bundles_sent p old
      by_test true = refl
      by_test false = refl
  act_says f (parents.Discard x) = refl
  act_says f (parents.Kill q) = refl
  act_says f (_) = refl

  parent_act_counts : (n : ℕ) (action : ParentAction) → p < n → MomentCounts (parent_moment c ms (parent_acts.action_ruling (facts_behind c ms) (λ y says. y ∷ says) n action []))
  parent_act_counts n action lt =
      by_option (λ (rule : Ruling (List Saying)). MomentCounts (parent_moment c ms rule)) _ (parent_acts.refusal (facts_behind c ms []) action) _
      (λ why refused. parent_counts n (answers.Refused why) (λ q. []) [] lt refl)
      (λ allowed. parent_counts n (parent_acts.answer (facts_behind c ms []) action) _ (behind_all (λ y says. y ∷ says) (parent_acts.says (facts_behind c ms []) action) []) lt (act_says (facts_behind c ms []) action))

  counted_says : (q : ℕ) (b : Bool) → bundles_sent p ((if b then Counted q ∷ [] else []) ++ old) ≡ bundles_sent p old
  unfolding bundles_sent
  counted_says q true = refl
  counted_says q false = refl

  ended_says : (q : ℕ) (cause : EndCause) (ys : List Saying) → bundles_sent p (ys ++ old) ≡ bundles_sent p old → bundles_sent p (Ended q cause ∷ ys ++ old) ≡ bundles_sent p old
  unfolding bundles_sent
  ended_says q cause ys none = none

  bundle_counts : (allows : Field → Bool) (q n : ℕ) (w : Written) (b : UpBundle) → p < n → MomentCounts (hear_moment c q ms w (bundle_ruling (facts_behind c ms) (λ y says. y ∷ says) n allows q b []))
  bundle_counts allows q n w b lt =
      by_if (λ (rule : Ruling (List Saying)). MomentCounts (hear_moment c q ms w rule)) (is_some ((facts_behind c ms []).processes.ended q)) _ _
      (λ over. hear_counts q w n answers.Ignored (λ r. []) [] lt refl)
      (λ alive. by_option (λ (rule : Ruling (List Saying)). MomentCounts (hear_moment c q ms w rule)) _
      (or_later (envelope_fault (facts_behind c ms []) q b) (first_fault (hear.hear_rules allows q q) (facts_behind c ms) (λ y says. y ∷ says) 1 counted b.parts)) _
      (λ cause faulty. hear_counts q w n (answers.Ended cause) (λ r. if r == q then end_parts cause else []) (Ended q cause ∷ counted) lt (ended_says q cause counted (counted_says q is)))
      (λ fine. hear_counts q w n (answers.Parts (notes_of (hear.hear_rules allows q q) (facts_behind c ms) (λ y says. y ∷ says) counted b.parts)) _ (after_parts (hear.hear_rules allows q q) (facts_behind c ms) (λ y says. y ∷ says) counted b.parts) lt
      (parts_say allows q (facts_behind c ms) b.parts counted ∙ counted_says q is)))
    where
      is : Bool
      is = is_counted (facts_behind c ms []) q b

      counted : List Saying
      counted = if is then Counted q ∷ [] else []

  heard_counts : (allows : Field → Bool) (q : ℕ) (ws : List Written) → p < length c.types → MomentCounts (heard_moment c q ms allows ws)
  heard_counts allows q (Own b ∷ rest) lt = bundle_counts allows q (length c.types) (Own b) b lt
  heard_counts allows q (Raw b ∷ rest) lt = bundle_counts allows q (length c.types) (Raw b) b lt
  heard_counts allows q (Said says ∷ rest) lt = nothing_counts
  heard_counts allows q [] lt = nothing_counts

  -- whatever step is made
  pub moment_counts : (allows : Field → Bool) (s : Step) → p < length c.types → MomentCounts (moment c ms allows s)
  moment_counts allows (Act q action) lt = act_counts q.0 action
  moment_counts allows (Take q) lt = running_counts q.0 (taken_moment c q.0 ms (bundles_waiting (events_of q.0 ms))) (take_counts q.0 (bundles_waiting (events_of q.0 ms)))
  moment_counts allows (RawStep q b) lt = running_counts q.0 (raw_moment q.0 b) (raw_counts q.0 b)
  moment_counts allows (ParentAct action) lt = parent_act_counts (length c.types) action lt
  moment_counts allows (Hear q) lt = heard_counts allows q.0 (writes_waiting (events_of q.0 ms)) lt

-- ---- what stands at each entry

-- the parent's count of the bundles that were sent is theirs
pub counts_still : (c : Config) (p : ℕ) (ms : List Moment) (allows : Field → Bool) (s : Step) → p < length c.types
    → (facts_now c ms).processes.bundles_sent p ≡ length (links.bundles_sent (events_of p ms))
    → (facts_now c (moment c ms allows s ∷ ms)).processes.bundles_sent p ≡ length (links.bundles_sent (events_of p (moment c ms allows s ∷ ms)))
counts_still c p ms allows s lt before =
    let m : Moment = moment c ms allows s in
    let counts : MomentCounts c p ms m = moment_counts c p ms allows s lt in
    counts.sent ∙ ap (λ k. sent_in (m.events p) + k) before ∙ sym (sent_over (m.events p) (events_of p ms))

-- and the process's count of those that it took
pub taken_still : (c : Config) (p : ℕ) (ms : List Moment) (allows : Field → Bool) (s : Step) → p < length c.types
    → (seen_now c p ms).taken ≡ takes (events_of p ms) → (seen_now c p (moment c ms allows s ∷ ms)).taken ≡ takes (events_of p (moment c ms allows s ∷ ms))
taken_still c p ms allows s lt before =
    let m : Moment = moment c ms allows s in
    let counts : MomentCounts c p ms m = moment_counts c p ms allows s lt in
    taken_over (m.did p) (did_by p ms) ∙ ap (λ k. k + taken (did_by p ms)) counts.took ∙ ap (λ k. takes (m.events p) + k) before ∙ sym (takes_over (m.events p) (events_of p ms))

-- so that those that it took and those that wait are those that were sent
pub taken_and_waiting : (c : Config) (p : ℕ) (ms : List Moment) → Flows (events_of p ms) → (facts_now c ms).processes.bundles_sent p ≡ length (links.bundles_sent (events_of p ms)) → (seen_now c p ms).taken ≡ takes (events_of p ms)
    → (seen_now c p ms).taken + length (bundles_waiting (events_of p ms)) ≡ (facts_now c ms).processes.bundles_sent p
taken_and_waiting c p ms flows sent took =
    let h : List ProcessEvent = events_of p ms in
    ap (λ k. k + length (bundles_waiting h)) took ∙ all_counted (takes h) (links.bundles_sent h) (taken_fits h flows) ∙ sym sent
  where
    all_counted : (n : ℕ) (ds : List (Bundle DownBundle)) → n ≤ length ds → n + length (drop n ds) ≡ length ds
    all_counted n ds le = omega (arith, length-drop n ds, le)

-- the entries rise, and none is later than the last
pub rises_still : (c : Config) (p : ℕ) (ms : List Moment) (allows : Field → Bool) (s : Step) → p < length c.types
    → RisesTo (length ms) (events_of p ms) → RisesTo (length (moment c ms allows s ∷ ms)) (events_of p (moment c ms allows s ∷ ms))
rises_still c p ms allows s lt before =
    let next : RisesTo (length ms + 1) (events_of p (moment c ms allows s ∷ ms)) = (moment_counts c p ms allows s lt).later (events_of p ms) before in
    record { rises = next.rises; now_is = omega (arith, next.now_is) }

-- ---- at the start

pub counts_start : (c : Config) (p : ℕ) → (facts_now c []).processes.bundles_sent p ≡ length (links.bundles_sent (events_of p []))
unfolding bundles_sent
counts_start c p = refl

pub taken_start : (c : Config) (p : ℕ) → (seen_now c p []).taken ≡ takes (events_of p [])
unfolding taken
taken_start c p = refl

pub rises_start : (p : ℕ) → RisesTo 0 (events_of p [])
rises_start p = record { rises = tt; now_is = omega arith }
