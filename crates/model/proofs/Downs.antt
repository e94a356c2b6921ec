-- Every bundle that waits for a process can be taken: what an entry sends it fits, and what fits does so later too.
use Rattle.std.proofs.Common.{◌≡◌, ℕ, ◌+◌, ◌≤◌, ◌<◌, Bool, true, if◌then◌else◌, Option, None, Some, List, [], ◌∷◌, ◌++◌, length, drop, refl, ap, sym, subst, ◌∙◌, arith}
use Rattle.std.specs.List.{AllByRecursion, list_any}
use Rattle.fission_ids.specs.declared.context.ContextId.{ContextId}
use Rattle.wire_msgs.specs.declared.answer.Answer.{Answer}
use Rattle.wire_msgs.specs.declared.answer.Answer.TheVariants as answers
use Rattle.wire_msgs.specs.declared.bundle.DownBundle.{DownBundle}
use Rattle.wire_msgs.specs.declared.bundle.UpBundle.{UpBundle}
use Rattle.wire_msgs.specs.declared.config.Config.{Config}
use Rattle.wire_msgs.specs.declared.part.DownPart.{DownPart}
use Rattle.wire_msgs.specs.declared.part.DownPart.TheVariants as downs
use Rattle.wire_msgs.specs.declared.part.UpPart.{UpPart}
use Rattle.wire_msgs.specs.declared.part.UpPart.TheVariants as ups
use Rattle.protocol.specs.Bundle.{bundle_for}
use Rattle.protocol.specs.Commits.{sent_back}
use Rattle.protocol.specs.Order.{in_order}
use Rattle.protocol.specs.Sayings.{Saying}
use Rattle.protocol.specs.Fold.{after_part, posts_of}
use Rattle.protocol.specs.OwnActs.{next_frame}
use Rattle.protocol.specs.Seen.{Seen, Doing}
use Rattle.protocol.specs.Seen.Doing.{Framed}
use Rattle.protocol.specs.Take.{take_rules, bundle_sent, is_kill, posts}
use Rattle.traces.specs.Event.{Bundle}
use Rattle.traces.specs.Event.Event.{Writes, Sends, Takes, Accepts, Reverts, Ignores, Ends}
use Rattle.traces.specs.Links.{writes, takes, hears, bundles_sent, bundles_waiting, writes_waiting}
use Rattle.traces.specs.Rules.{Flows}
use Rattle.traces.proofs.Waits.{sent_waits, taken_leaves, write_waits, heard_leaves}
use Rattle.trees.proofs.Lists.{all_push}
use Rattle.model.specs.Lines.{Making, makings_said}
use Rattle.model.specs.Moments.{Moment, Written, ProcessEvent, said, did_by, events_of, facts_now, seen_now, deed, own_known as own_frame, told, heard, written, is_done}
use Rattle.model.specs.Moments.Written.{Own, Raw, Said}
use Rattle.model.specs.Parent.{ended}
use Rattle.model.specs.Process.{own_asked, frames_made}
use Rattle.model.proofs.Cases.{by_if}
use Rattle.model.proofs.DownFits.{DownFits}
use Rattle.model.proofs.DownsSent.{all_more, still_fits, one_part, back_fits, bundle_parts}
use Rattle.model.proofs.Entry.{Entry, Hearing}
use Rattle.model.proofs.Entry.Entry.{Idle, Sets, Frames, Drops, TakesOne, Tells, Killing, HearsOne}
use Rattle.model.proofs.Entry.Hearing.{AsMade, AsLate, AsDrop, AsOldDrop, AsAcks, AsCommit, AsOldCommit, AsOver}
use Rattle.model.proofs.Fitting.{AllFit, FactsTies}
use Rattle.model.proofs.OwnTold.{OwnTold}
use Rattle.model.proofs.Preorder.{Preorder}
use Rattle.model.proofs.RegisterFits.{posted_fits}
use Rattle.model.proofs.Lining.{Lined, IsToldBy}

-- ---- what waits

module _ (P : Bundle DownBundle → Type 0) (h : List ProcessEvent) (flows : Flows h) (all : AllByRecursion P (bundles_waiting h)) where
  more_waits : (d : Bundle DownBundle) → P d → AllByRecursion P (drop (takes h) (bundles_sent h ++ d ∷ []))
  more_waits d one = subst (AllByRecursion P) (sym (sent_waits d h flows)) (all_push P (bundles_waiting h) d all one)

  less_waits : (d : Bundle DownBundle) (rest : List (Bundle DownBundle)) → bundles_waiting h ≡ d ∷ rest → AllByRecursion P (drop (takes h + 1) (bundles_sent h))
  less_waits d rest first = subst (AllByRecursion P) (sym (taken_leaves d h (record { rest = rest; is = first }))) (left (subst (AllByRecursion P) first all))
    where
      left : AllByRecursion P (d ∷ rest) → AllByRecursion P rest
      left both = both.1

-- ---- all entries

-- the frames that a bundle of the process makes are of those that it made
abbrev pub CreateMade : ℕ → UpPart → Type 0
CreateMade made (ups.Create x a) = x.serial ≤ made
CreateMade made part = Unit {0}

abbrev pub WriteMade : ℕ → Written → Type 0
WriteMade made (Own b) = AllByRecursion (CreateMade made) b.parts
WriteMade made w = Unit {0}

-- all that waits from a process makes what it made
abbrev pub OwnMade : Config → ℕ → List Moment → Type 0
OwnMade c p ms = AllByRecursion (WriteMade (seen_now c p ms).frames_made) (writes_waiting (events_of p ms))

-- what it made and the parent knows
abbrev pub OwnKnown : Config → ℕ → List Moment → Type 0
OwnKnown c p ms = (x : ContextId) → (facts_now c ms).contexts.known x ≡ true → x.creator ≡ p + 1 → x.serial ≤ (seen_now c p ms).frames_made

-- all that waits for a process can be taken
abbrev pub AllDownFit : Config → ℕ → List Making → List Moment → Type 0
AllDownFit c p mk ms = AllByRecursion (λ d. DownFits c p mk (seen_now c p ms).frames_made d.content.parts) (bundles_waiting (events_of p ms))

-- a process makes ever more
pub made_grows : (did older : List Doing) → frames_made older ≤ frames_made (did ++ older)
unfolding frames_made
made_grows [] older = omega arith
made_grows (Framed x a ∷ did) older = omega (arith, made_grows did older)
made_grows (_ ∷ did) older = made_grows did older

heard_none : (k : ℕ) (w : Written) (answer : Answer) (says : List Saying) → is_done answer ≡ true → heard k w answer says None ≡ Accepts k w ∷ []
heard_none k w (answers.Parts ns) says done = ap (λ (b : Bool). (if b then Accepts k w else Ignores k w) ∷ []) done
heard_none k w (_) says done = absurd cc

heard_some : (k : ℕ) (w : Written) (answer : Answer) (says : List Saying) (d : DownBundle) → is_done answer ≡ true → heard k w answer says (Some d) ≡ Reverts k w d ∷ []
heard_some k w (answers.Parts ns) says d done = refl
heard_some k w (_) says d done = absurd cc

module _ (c : Config) (p : ℕ) (mk : List Making) (ms : List Moment) (m : Moment) (l : Lined mk) (low : p < 16) (ft : FactsTies c.tabs mk (facts_now c ms)) (fit : AllFit c.tabs (said ms)) (told_by : AllByRecursion (IsToldBy mk) (makings_said m.says))
    (flows : Flows (events_of p ms)) (order : Preorder mk (facts_now c ms).contexts.order (facts_now c ms).contexts.live)
    (own_told : ended p (said ms) ≡ None → OwnTold c p mk (said ms))
    (own_known : OwnKnown c p ms) (own_made : OwnMade c p ms) (all : AllDownFit c p mk ms)
  where
    abbrev Fits : Bundle DownBundle → Type 0
    Fits d = DownFits c p mk (seen_now c p (m ∷ ms)).frames_made d.content.parts

    grows : (seen_now c p ms).frames_made ≤ (seen_now c p (m ∷ ms)).frames_made
    grows = made_grows (m.did p) (did_by p ms)

    raised : AllByRecursion (λ d. DownFits c p mk (seen_now c p (m ∷ ms)).frames_made d.content.parts) (bundles_waiting (events_of p ms))
    raised = all_more (λ d. DownFits c p mk (seen_now c p ms).frames_made d.content.parts) Fits
        (λ d fits. still_fits c p mk (seen_now c p ms).frames_made (seen_now c p (m ∷ ms)).frames_made grows d.content.parts fits) (bundles_waiting (events_of p ms)) all

    pushed : (d : Bundle DownBundle) → DownFits c p mk (seen_now c p (m ∷ ms)).frames_made d.content.parts
        → AllByRecursion (λ d. DownFits c p mk (seen_now c p (m ∷ ms)).frames_made d.content.parts) (drop (takes (events_of p ms)) (bundles_sent (events_of p ms) ++ d ∷ []))
    pushed d one = more_waits Fits (events_of p ms) flows raised d one

    -- by the events of the entry
    by_events : (es : List ProcessEvent) → m.events p ≡ es → AllByRecursion (λ d. DownFits c p mk (seen_now c p (m ∷ ms)).frames_made d.content.parts) (bundles_waiting (es ++ events_of p ms)) → AllDownFit c p mk (m ∷ ms)
    by_events es is fits = subst (λ es. AllByRecursion (λ d. DownFits c p mk (seen_now c p (m ∷ ms)).frames_made d.content.parts) (bundles_waiting (es ++ events_of p ms))) (sym is) fits

    -- a bundle is sent, or none
    tells_fit : (says : List Saying) (o : Option DownBundle) → ((d : DownBundle) → o ≡ Some d → DownFits c p mk (seen_now c p (m ∷ ms)).frames_made d.parts)
        → AllByRecursion (λ d. DownFits c p mk (seen_now c p (m ∷ ms)).frames_made d.content.parts) (bundles_waiting (told (length ms + 1) says o ∷ events_of p ms))
    tells_fit says None fits = raised
    tells_fit says (Some d) fits = pushed (record { entry = length ms + 1; epoch = hears (events_of p ms); content = d }) (fits d refl)

    takes_fit : (o : Option UpBundle) (d : Bundle DownBundle) (rest : List (Bundle DownBundle)) → bundles_waiting (events_of p ms) ≡ d ∷ rest
        → AllByRecursion (λ d. DownFits c p mk (seen_now c p (m ∷ ms)).frames_made d.content.parts) (bundles_waiting ((written o ++ Takes d ∷ []) ++ events_of p ms))
    takes_fit None d rest first = less_waits Fits (events_of p ms) flows raised d rest first
    takes_fit (Some b) d rest first = less_waits Fits (events_of p ms) flows raised d rest first

    backs_fit : (b : UpBundle) (back : Option DownBundle) → is_done m.answer ≡ true → ((d : DownBundle) → back ≡ Some d → DownFits c p mk (seen_now c p (m ∷ ms)).frames_made d.parts)
        → AllByRecursion (λ d. DownFits c p mk (seen_now c p (m ∷ ms)).frames_made d.content.parts) (bundles_waiting (heard (length ms + 1) (Own b) m.answer m.says back ++ events_of p ms))
    backs_fit b None done fits =
        subst (λ es. AllByRecursion (λ d. DownFits c p mk (seen_now c p (m ∷ ms)).frames_made d.content.parts) (bundles_waiting (es ++ events_of p ms))) (sym (heard_none (length ms + 1) (Own b) m.answer m.says done)) raised
    backs_fit b (Some d) done fits =
        subst (λ es. AllByRecursion (λ d. DownFits c p mk (seen_now c p (m ∷ ms)).frames_made d.content.parts) (bundles_waiting (es ++ events_of p ms))) (sym (heard_some (length ms + 1) (Own b) m.answer m.says d done))
        (pushed (record { entry = length ms + 1; epoch = hears (events_of p ms) + 1; content = d }) (fits d refl))

    -- what is made too late is of those that it made
    late_serial : (b : UpBundle) (rest : List Written) (x a : ContextId) → writes_waiting (events_of p ms) ≡ Own b ∷ rest → b.parts ≡ ups.Create x a ∷ [] → x.serial ≤ (seen_now c p (m ∷ ms)).frames_made
    late_serial b rest x a first parts = omega (arith, grows, of_parts (subst (AllByRecursion (CreateMade (seen_now c p ms).frames_made)) parts (of_first (subst (AllByRecursion (WriteMade (seen_now c p ms).frames_made)) first own_made))))
      where
        of_first : AllByRecursion (WriteMade (seen_now c p ms).frames_made) (Own b ∷ rest) → AllByRecursion (CreateMade (seen_now c p ms).frames_made) b.parts
        of_first both = both.0

        of_parts : AllByRecursion (CreateMade (seen_now c p ms).frames_made) (ups.Create x a ∷ []) → x.serial ≤ (seen_now c p ms).frames_made
        of_parts both = both.0

    hears_fit : (b : UpBundle) (rest : List Written) → writes_waiting (events_of p ms) ≡ Own b ∷ rest → Hearing c p ms m b → AllDownFit c p mk (m ∷ ms)
    hears_fit b rest first (AsMade x a e) = by_events (Accepts (length ms + 1) (Own b) ∷ []) e.events raised
    hears_fit b rest first (AsLate x a d e) =
        by_events (Reverts (length ms + 1) (Own b) d ∷ []) e.events
        (pushed (record { entry = length ms + 1; epoch = hears (events_of p ms) + 1; content = d })
        (subst (DownFits c p mk (seen_now c p (m ∷ ms)).frames_made) (sym e.back)
        (one_part c p mk (seen_now c p (m ∷ ms)).frames_made (downs.Discard x) tt refl (λ own. late_serial b rest x a first e.parts))))
    hears_fit b rest first (AsDrop x e) = by_events (Accepts (length ms + 1) (Own b) ∷ []) e.events raised
    hears_fit b rest first (AsOldDrop x e) = by_events (Ignores (length ms + 1) (Own b) ∷ []) e.events raised
    hears_fit b rest first (AsAcks e) = by_events (Accepts (length ms + 1) (Own b) ∷ []) e.events raised
    hears_fit b rest first (AsCommit x t ns back e) =
        by_events (heard (length ms + 1) (Own b) m.answer m.says back) e.events
        (backs_fit b back e.done (λ d is. bundle_parts (DownFits c p mk (seen_now c p (m ∷ ms)).frames_made) (facts_now c (m ∷ ms)) p (sent_back ns (facts_now c ms) x) d (sym e.is_back ∙ is)
        (back_fits c p mk (seen_now c p (m ∷ ms)).frames_made ns (facts_now c ms) x)))
    hears_fit b rest first (AsOldCommit x t e) = by_events (Ignores (length ms + 1) (Own b) ∷ []) e.events raised
    hears_fit b rest first (AsOver e) = by_events (Ignores (length ms + 1) (Own b) ∷ []) e.events raised

    -- all that waits can be taken, after every entry
    pub downs_still : Entry c p ms m → AllDownFit c p mk (m ∷ ms)
    downs_still (Idle e) = by_events [] e.events raised
    downs_still (Sets x t b e) = by_events (Writes (Own b) ∷ []) e.events raised
    downs_still (Frames a b e) = by_events (Writes (Own b) ∷ deed (downs.Create (own_frame (seen_now c p (m ∷ ms)) (next_frame p (seen_now c p ms)) a)) ∷ []) e.events raised
    downs_still (Drops x b e) = by_events (Writes (Own b) ∷ deed (downs.Discard x) ∷ []) e.events raised
    downs_still (TakesOne d rest e) = subst (λ es. AllByRecursion (λ d. DownFits c p mk (seen_now c p (m ∷ ms)).frames_made d.content.parts) (bundles_waiting (es ++ events_of p ms))) (sym e.events)
        (takes_fit (bundle_sent (seen_now c p (m ∷ ms))
        (if list_any is_kill d.content.parts then [] else posts_of (take_rules p d.content.epoch.0) (λ did. own_asked c.tabs p (did ++ did_by p ms)) (λ e did. e ∷ did) [] d.content.parts)) d rest e.first)
    downs_still (Tells posts e) =
        by_events (told (length ms + 1) m.says (bundle_for (facts_now c (m ∷ ms)) p (in_order posts)) ∷ []) e.events
        (tells_fit m.says (bundle_for (facts_now c (m ∷ ms)) p (in_order posts)) (λ d is. bundle_parts (DownFits c p mk (seen_now c p (m ∷ ms)).frames_made) (facts_now c (m ∷ ms)) p (in_order posts) d is
        (still_fits c p mk (seen_now c p ms).frames_made (seen_now c p (m ∷ ms)).frames_made grows (in_order posts)
        (posted_fits c p mk l (said ms) ft low fit order own_told (seen_now c p ms).frames_made own_known m.says posts (record { told = told_by; fits = e.fits }) e.joins e.posted))))
    downs_still (Killing d e) =
        by_events (Ends ∷ Sends (length ms + 1) (Said m.says) d ∷ []) e.events
        (pushed (record { entry = length ms + 1; epoch = hears (events_of p ms); content = d })
        (subst (DownFits c p mk (seen_now c p (m ∷ ms)).frames_made) (sym e.kill) (one_part c p mk (seen_now c p (m ∷ ms)).frames_made downs.Kill tt refl tt)))
    downs_still (HearsOne b rest first hearing) = hears_fit b rest first hearing

-- at the start nothing waits
pub downs_start : (c : Config) (p : ℕ) (mk : List Making) → AllDownFit c p mk []
downs_start c p mk = tt

-- ---- what waits from the process makes what it made

made_more : (made more : ℕ) → made ≤ more → (ws : List Written) → AllByRecursion (WriteMade made) ws → AllByRecursion (WriteMade more) ws
made_more made more grows ws all = all_more (WriteMade made) (WriteMade more) by_written ws all
  where
    by_part : (a : UpPart) → CreateMade made a → CreateMade more a
    by_part (ups.Create x a) fits = omega (arith, fits, grows)
    by_part (_) fits = tt

    by_written : (w : Written) → WriteMade made w → WriteMade more w
    by_written (Own b) fits = all_more (CreateMade made) (CreateMade more) by_part b.parts fits
    by_written (Raw b) fits = tt
    by_written (Said says) fits = tt

-- of a bundle that it takes it sends acknowledgements
acks_made : (made p epoch : ℕ) (now : List Doing → Seen) (did : List Doing) (parts : List DownPart) → AllByRecursion (CreateMade made) (posts_of (take_rules p epoch) now (λ e did. e ∷ did) did parts)
unfolding posts_of posts
acks_made made p epoch now did [] = tt
acks_made made p epoch now did (downs.Discard x ∷ parts) = (tt, acks_made made p epoch now (after_part (take_rules p epoch) now (λ e did. e ∷ did) (downs.Discard x) did) parts)
acks_made made p epoch now did (downs.Register g ks ∷ parts) = acks_made made p epoch now (after_part (take_rules p epoch) now (λ e did. e ∷ did) (downs.Register g ks) did) parts
acks_made made p epoch now did (downs.Create k ∷ parts) = acks_made made p epoch now (after_part (take_rules p epoch) now (λ e did. e ∷ did) (downs.Create k) did) parts
acks_made made p epoch now did (downs.Commit x t ∷ parts) = acks_made made p epoch now (after_part (take_rules p epoch) now (λ e did. e ∷ did) (downs.Commit x t) did) parts
acks_made made p epoch now did (downs.CloseWindow x ∷ parts) = acks_made made p epoch now (after_part (take_rules p epoch) now (λ e did. e ∷ did) (downs.CloseWindow x) did) parts
acks_made made p epoch now did (downs.Load x url ∷ parts) = acks_made made p epoch now (after_part (take_rules p epoch) now (λ e did. e ∷ did) (downs.Load x url) did) parts
acks_made made p epoch now did (downs.Ask q w actor text ∷ parts) = acks_made made p epoch now (after_part (take_rules p epoch) now (λ e did. e ∷ did) (downs.Ask q w actor text) did) parts
acks_made made p epoch now did (downs.Tell w actor text ∷ parts) = acks_made made p epoch now (after_part (take_rules p epoch) now (λ e did. e ∷ did) (downs.Tell w actor text) did) parts
acks_made made p epoch now did (downs.Reply q outcome ∷ parts) = acks_made made p epoch now (after_part (take_rules p epoch) now (λ e did. e ∷ did) (downs.Reply q outcome) did) parts
acks_made made p epoch now did (downs.Kill ∷ parts) = acks_made made p epoch now (after_part (take_rules p epoch) now (λ e did. e ∷ did) downs.Kill did) parts

module _ (c : Config) (p : ℕ) (ms : List Moment) (m : Moment) (flows : Flows (events_of p ms)) (all : OwnMade c p ms) where
  wait_more : AllByRecursion (WriteMade (seen_now c p (m ∷ ms)).frames_made) (writes_waiting (events_of p ms))
  wait_more = made_more (seen_now c p ms).frames_made (seen_now c p (m ∷ ms)).frames_made (made_grows (m.did p) (did_by p ms)) (writes_waiting (events_of p ms)) all

  wait_push : (b : UpBundle) → AllByRecursion (CreateMade (seen_now c p (m ∷ ms)).frames_made) b.parts → AllByRecursion (WriteMade (seen_now c p (m ∷ ms)).frames_made) (writes_waiting (Writes (Own b) ∷ events_of p ms))
  wait_push b made = subst (AllByRecursion (WriteMade (seen_now c p (m ∷ ms)).frames_made)) (sym (write_waits (Own b) (events_of p ms) flows)) (all_push (WriteMade (seen_now c p (m ∷ ms)).frames_made) (writes_waiting (events_of p ms)) (Own b) wait_more made)

  wait_rest : (b : UpBundle) (rest : List Written) → writes_waiting (events_of p ms) ≡ Own b ∷ rest → AllByRecursion (WriteMade (seen_now c p (m ∷ ms)).frames_made) (drop (hears (events_of p ms) + 1) (writes (events_of p ms)))
  wait_rest b rest first =
      subst (AllByRecursion (WriteMade (seen_now c p (m ∷ ms)).frames_made)) (sym (heard_leaves (Own b) (events_of p ms) (record { rest = rest; is = first })))
      (left (subst (AllByRecursion (WriteMade (seen_now c p (m ∷ ms)).frames_made)) first wait_more))
    where
      left : AllByRecursion (WriteMade (seen_now c p (m ∷ ms)).frames_made) (Own b ∷ rest) → AllByRecursion (WriteMade (seen_now c p (m ∷ ms)).frames_made) rest
      left both = both.1

  made_by : (es : List ProcessEvent) → m.events p ≡ es → AllByRecursion (WriteMade (seen_now c p (m ∷ ms)).frames_made) (writes_waiting (es ++ events_of p ms)) → OwnMade c p (m ∷ ms)
  made_by es is fits = subst (λ es. AllByRecursion (WriteMade (seen_now c p (m ∷ ms)).frames_made) (writes_waiting (es ++ events_of p ms))) (sym is) fits

  told_made : (says : List Saying) (o : Option DownBundle) → AllByRecursion (WriteMade (seen_now c p (m ∷ ms)).frames_made) (writes_waiting (told (length ms + 1) says o ∷ events_of p ms))
  told_made says None = wait_more
  told_made says (Some d) = wait_more

  sent_made : (s : Seen) (parts : List UpPart) (d : Bundle DownBundle) → AllByRecursion (CreateMade (seen_now c p (m ∷ ms)).frames_made) parts
      → AllByRecursion (WriteMade (seen_now c p (m ∷ ms)).frames_made) (writes_waiting ((written (bundle_sent s parts) ++ Takes d ∷ []) ++ events_of p ms))
  sent_made s [] d made = wait_more
  sent_made s (a ∷ parts) d made = wait_push (record { epoch = record { 0 = s.commits }; seen = s.taken; parts = a ∷ parts }) made

  back_made : (b : UpBundle) (rest : List Written) (back : Option DownBundle) → is_done m.answer ≡ true → writes_waiting (events_of p ms) ≡ Own b ∷ rest
      → AllByRecursion (WriteMade (seen_now c p (m ∷ ms)).frames_made) (writes_waiting (heard (length ms + 1) (Own b) m.answer m.says back ++ events_of p ms))
  back_made b rest None done first =
      subst (λ es. AllByRecursion (WriteMade (seen_now c p (m ∷ ms)).frames_made) (writes_waiting (es ++ events_of p ms))) (sym (heard_none (length ms + 1) (Own b) m.answer m.says done)) (wait_rest b rest first)
  back_made b rest (Some d) done first =
      subst (λ es. AllByRecursion (WriteMade (seen_now c p (m ∷ ms)).frames_made) (writes_waiting (es ++ events_of p ms))) (sym (heard_some (length ms + 1) (Own b) m.answer m.says d done)) (wait_rest b rest first)

  hears_made : (b : UpBundle) (rest : List Written) → writes_waiting (events_of p ms) ≡ Own b ∷ rest → Hearing c p ms m b → OwnMade c p (m ∷ ms)
  hears_made b rest first (AsMade x a e) = made_by (Accepts (length ms + 1) (Own b) ∷ []) e.events (wait_rest b rest first)
  hears_made b rest first (AsLate x a d e) = made_by (Reverts (length ms + 1) (Own b) d ∷ []) e.events (wait_rest b rest first)
  hears_made b rest first (AsDrop x e) = made_by (Accepts (length ms + 1) (Own b) ∷ []) e.events (wait_rest b rest first)
  hears_made b rest first (AsOldDrop x e) = made_by (Ignores (length ms + 1) (Own b) ∷ []) e.events (wait_rest b rest first)
  hears_made b rest first (AsAcks e) = made_by (Accepts (length ms + 1) (Own b) ∷ []) e.events (wait_rest b rest first)
  hears_made b rest first (AsCommit x t ns back e) = made_by (heard (length ms + 1) (Own b) m.answer m.says back) e.events (back_made b rest back e.done first)
  hears_made b rest first (AsOldCommit x t e) = made_by (Ignores (length ms + 1) (Own b) ∷ []) e.events (wait_rest b rest first)
  hears_made b rest first (AsOver e) = made_by (Ignores (length ms + 1) (Own b) ∷ []) e.events (wait_rest b rest first)

  one_made : (b : UpBundle) (a : UpPart) → b.parts ≡ a ∷ [] → CreateMade (seen_now c p (m ∷ ms)).frames_made a → AllByRecursion (CreateMade (seen_now c p (m ∷ ms)).frames_made) b.parts
  one_made b a is made = subst (AllByRecursion (CreateMade (seen_now c p (m ∷ ms)).frames_made)) (sym is) (made, tt)

  framed_made : (x a : ContextId) → m.did p ≡ Framed x a ∷ [] → (seen_now c p ms).frames_made + 1 ≡ (seen_now c p (m ∷ ms)).frames_made
  unfolding frames_made
  framed_made x a did = ap (λ ds. frames_made (ds ++ did_by p ms)) (sym did)

  pub own_made_still : Entry c p ms m → OwnMade c p (m ∷ ms)
  own_made_still (Idle e) = made_by [] e.events wait_more
  own_made_still (Sets x t b e) = made_by (Writes (Own b) ∷ []) e.events (wait_push b (one_made b (ups.Commit x t) e.sent.parts tt))
  own_made_still (Frames a b e) =
      made_by (Writes (Own b) ∷ deed (downs.Create (own_frame (seen_now c p (m ∷ ms)) (next_frame p (seen_now c p ms)) a)) ∷ []) e.events
      (wait_push b (one_made b (ups.Create (next_frame p (seen_now c p ms)) a) e.sent.parts (omega (arith, framed_made (next_frame p (seen_now c p ms)) a e.did))))
  own_made_still (Drops x b e) = made_by (Writes (Own b) ∷ deed (downs.Discard x) ∷ []) e.events (wait_push b (one_made b (ups.Drop x) e.sent.parts tt))
  own_made_still (TakesOne d rest e) = subst (λ es. AllByRecursion (WriteMade (seen_now c p (m ∷ ms)).frames_made) (writes_waiting (es ++ events_of p ms))) (sym e.events)
      (sent_made (seen_now c p (m ∷ ms))
      (if list_any is_kill d.content.parts then [] else posts_of (take_rules p d.content.epoch.0) (λ did. own_asked c.tabs p (did ++ did_by p ms)) (λ e did. e ∷ did) [] d.content.parts) d
      (by_if (AllByRecursion (CreateMade (seen_now c p (m ∷ ms)).frames_made)) (list_any is_kill d.content.parts) [] (posts_of (take_rules p d.content.epoch.0) (λ did. own_asked c.tabs p (did ++ did_by p ms)) (λ e did. e ∷ did) [] d.content.parts)
      (λ kill. tt) (λ none. acks_made (seen_now c p (m ∷ ms)).frames_made p d.content.epoch.0 (λ did. own_asked c.tabs p (did ++ did_by p ms)) [] d.content.parts)))
  own_made_still (Tells posts e) =
      made_by (told (length ms + 1) m.says (bundle_for (facts_now c (m ∷ ms)) p (in_order posts)) ∷ []) e.events (told_made m.says (bundle_for (facts_now c (m ∷ ms)) p (in_order posts)))
  own_made_still (Killing d e) = made_by (Ends ∷ Sends (length ms + 1) (Said m.says) d ∷ []) e.events wait_more
  own_made_still (HearsOne b rest first hearing) = hears_made b rest first hearing

pub own_made_start : (c : Config) (p : ℕ) → OwnMade c p []
own_made_start c p = tt
