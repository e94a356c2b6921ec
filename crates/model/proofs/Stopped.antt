-- Behind every entry, a process that stopped has nothing that waits.
use Rattle.std.proofs.Common.{◌≡◌, ℕ, ◌+◌, Bool, true, false, ◌||◌, if◌then◌else◌, Option, None, Some, List, map, [], ◌∷◌, ◌++◌, length, refl, ap, sym, subst, ◌∙◌}
use Rattle.std.specs.Prelude.{is_some}
use Rattle.std.specs.List.{AllByRecursion, list_any}
use Rattle.wire_msgs.specs.declared.answer.Answer.{Answer}
use Rattle.wire_msgs.specs.declared.answer.Answer.TheVariants as answers
use Rattle.wire_msgs.specs.declared.bundle.DownBundle.{DownBundle}
use Rattle.wire_msgs.specs.declared.bundle.UpBundle.{UpBundle}
use Rattle.wire_msgs.specs.declared.config.Config.{Config}
use Rattle.wire_msgs.specs.declared.part.DownPart.{DownPart}
use Rattle.wire_msgs.specs.declared.part.DownPart.TheVariants as downs
use Rattle.wire_msgs.specs.declared.part.Known.{Known}
use Rattle.protocol.specs.Bundle.{bundle_for}
use Rattle.protocol.specs.Fold.{behind_all, after_parts}
use Rattle.protocol.specs.Order.{in_order}
use Rattle.protocol.specs.Questions.{Facts}
use Rattle.protocol.specs.Sayings.{Saying}
use Rattle.protocol.specs.Seen.{Seen, Doing}
use Rattle.protocol.specs.Seen.Doing.{Came, Framed, Went, Wrote as OwnWrote, Took}
use Rattle.protocol.specs.OwnActs.{next_frame}
use Rattle.protocol.specs.SeenAfter.{seen_after, with_context}
use Rattle.protocol.specs.Take.{is_kill, may_come, take_rules, taken_notes}
use Rattle.protocol.specs.Take as take
use Rattle.wire_msgs.specs.declared.note.PartNote.TheVariants as notes
use Rattle.field_table.specs.Table.{value_in}
use Rattle.traces.specs.Event.{Bundle}
use Rattle.traces.specs.Event.Event.{Writes, Sends, Takes, Accepts, Reverts, Ignores, Changes, Ends}
use Rattle.traces.specs.Links.{hears, is_ended, bundles_waiting}
use Rattle.traces.specs.Rules.{Flows}
use Rattle.traces.proofs.Waits.{sent_waits, taken_leaves}
use Rattle.model.specs.Moments.{Moment, Written, ProcessEvent, said, did_by, events_of, facts_now, seen_now, told, heard, is_done, written}
use Rattle.model.specs.Moments.Written.{Own, Said}
use Rattle.model.specs.Process.{own_asked}
use Rattle.model.proofs.Backs.{IsCommitPart, back_commits, bundle_parts}
use Rattle.model.proofs.Cases.{by_if, some_is}
use Rattle.model.proofs.AskedMore.{own_asked_more}
use Rattle.model.proofs.DownFits.{PartFits, DownFits}
use Rattle.model.proofs.Downs.{AllDownFit}
use Rattle.model.specs.Lines.{Making}
use Rattle.protocol.proofs.Same.{parts_same}
use Rattle.protocol.specs.Commits.{sent_back}
use Rattle.protocol.specs.Hear.{values_where, is_noted, is_reverted}
use Rattle.fission_ids.specs.declared.context.ContextId.{ContextId}
use Rattle.transaction.specs.Transaction.{Changes as FieldChanges}
use Rattle.model.proofs.Entry.{IsTake, Entry, Hearing}
use Rattle.model.proofs.Entry.Entry.{Idle, Sets, Frames, Drops, TakesOne, Tells, Killing, HearsOne}
use Rattle.model.proofs.Entry.Hearing.{AsMade, AsLate, AsDrop, AsOldDrop, AsAcks, AsCommit, AsOldCommit, AsOver}
use Rattle.model.proofs.NamesLinks.{all_ordered}
use Rattle.model.proofs.Stopping.{has_kill, IsNoKill, no_kill, Stops, posted_kinds, stops_same, stops_push, stops_take}
use Rattle.model.proofs.TreeTake.{behind_part, behind_parts}

-- contexts that come leave it running
runs_coming : (p : ℕ) (ks : List Known) (s : Seen) → (behind_all (seen_after p) (map Came ks) s).running ≡ s.running
unfolding behind_all seen_after
runs_coming p [] s = refl
runs_coming p (k ∷ ks) s = runs_coming p ks (seen_after p (Came k) s) ∙ by_may (may_come p s k)
  where
    by_may : (v : Bool) → (if v then with_context k.context (Some k.group) k.parent k.owned (value_in k.fields) s else s).running ≡ s.running
    by_may true = refl
    by_may false = refl

-- a take without a kill leaves it running
runs_one : (p epoch made : ℕ) (s : Seen) (a : DownPart) → PartFits p made a → is_kill a ≡ false → (behind_part p epoch a s).running ≡ s.running
unfolding behind_all take.says take.note seen_after
runs_one p epoch made s (downs.Create k) fits none = by_may (may_come p s k)
  where
    by_may : (v : Bool) → (if v then with_context k.context (Some k.group) k.parent k.owned (value_in k.fields) s else s).running ≡ s.running
    by_may true = refl
    by_may false = refl
runs_one p epoch made s (downs.Register g ks) fits none = runs_coming p ks s
runs_one p epoch made s (downs.Discard w) fits none = refl
runs_one p epoch made s (downs.Commit x d) fits none = by_held (s.holds x)
  where
    by_held : (v : Bool) → (behind_all (seen_after p) (take.says (downs.Commit x d) (if v then notes.Commit x (taken_notes epoch s x d) else notes.CommitIgnored x)) s).running ≡ s.running
    by_held true = refl
    by_held false = refl
runs_one p epoch made s downs.Kill fits none = absurd cc
runs_one p epoch made s (_) fits none = absurd fits

pub runs_on : (p epoch made : ℕ) (s : Seen) (parts : List DownPart) → AllByRecursion (PartFits p made) parts → list_any is_kill parts ≡ false → (behind_parts p epoch s parts).running ≡ s.running
unfolding after_parts
runs_on p epoch made s [] kinds none = refl
runs_on p epoch made s (a ∷ parts) kinds none = by_kill (is_kill a) refl none (runs_on p epoch made (behind_part p epoch a s) parts kinds.1)
  where
    by_kill : (v : Bool) → is_kill a ≡ v → (v || list_any is_kill parts) ≡ false → (list_any is_kill parts ≡ false → (behind_parts p epoch (behind_part p epoch a s) parts).running ≡ (behind_part p epoch a s).running)
        → (behind_parts p epoch (behind_part p epoch a s) parts).running ≡ s.running
    by_kill true is e rest = absurd cc
    by_kill false isnt e rest = rest e ∙ runs_one p epoch made s a kinds.0 isnt

-- ---- each entry

module _ (c : Config) (p : ℕ) (ms : List Moment) (m : Moment) (flows : Flows (events_of p ms)) (t : Stops (seen_now c p ms).running (events_of p ms)) where
  abbrev h : List ProcessEvent
  h = events_of p ms

  abbrev Next : List ProcessEvent → Type 0
  Next es = Stops (seen_now c p (m ∷ ms)).running (es ++ events_of p ms)

  by : (es : List ProcessEvent) → m.events p ≡ es → Next es → Next (m.events p)
  by es is next = subst Next (sym is) next

  quiet : m.did p ≡ [] → (seen_now c p (m ∷ ms)).running ≡ (seen_now c p ms).running
  quiet none = ap (λ ds. (own_asked c.tabs p (ds ++ did_by p ms)).running) none

  sends : (k : ℕ) (u : Written) (d : DownBundle) → m.did p ≡ [] → is_ended (events_of p ms) ≡ false → list_any is_kill d.parts ≡ false → Next (Sends k u d ∷ [])
  sends k u d none alive plain =
      let b : Bundle DownBundle = record { entry = k; epoch = hears h; content = d } in
      stops_push (seen_now c p ms).running (seen_now c p (m ∷ ms)).running h (Sends k u d ∷ h) b (sent_waits b h flows) alive (λ runs. plain) (quiet none) t

  back : (k : ℕ) (w : Written) (d : DownBundle) → m.did p ≡ [] → is_ended (events_of p ms) ≡ false → list_any is_kill d.parts ≡ false → Next (Reverts k w d ∷ [])
  back k w d none alive plain =
      let b : Bundle DownBundle = record { entry = k; epoch = hears h + 1; content = d } in
      stops_push (seen_now c p ms).running (seen_now c p (m ∷ ms)).running h (Reverts k w d ∷ h) b (sent_waits b h flows) alive (λ runs. plain) (quiet none) t

  same : (h' : List ProcessEvent) → bundles_waiting h' ≡ bundles_waiting (events_of p ms) → is_ended h' ≡ is_ended (events_of p ms) → (seen_now c p (m ∷ ms)).running ≡ (seen_now c p ms).running → Stops (seen_now c p (m ∷ ms)).running h'
  same h' waits ends running = stops_same (seen_now c p ms).running (seen_now c p (m ∷ ms)).running h h' waits ends running t

  -- ---- what is sent

  ordered_plain : (parts : List DownPart) → AllByRecursion IsNoKill parts → list_any is_kill (in_order parts) ≡ false
  ordered_plain parts all = no_kill (in_order parts) (all_ordered IsNoKill parts all)

  bundle_plain : (f : Facts) (parts : List DownPart) (d : DownBundle) → list_any is_kill parts ≡ false → bundle_for f p parts ≡ Some d → list_any is_kill d.parts ≡ false
  bundle_plain f [] d plain is = absurd (none_is d is)
    where
      none_is : (d : DownBundle) → None ≡ Some d → ⊥
      none_is d e = absurd cc
  bundle_plain f (a ∷ parts) d plain is = subst (λ (g : DownBundle). list_any is_kill g.parts ≡ false) (some_is (record { epoch = record { 0 = f.processes.commits_heard p }; parts = a ∷ parts }) d is) plain

  told_next : (k : ℕ) (ys : List Saying) (o : Option DownBundle) → m.did p ≡ [] → (is_some o ≡ true → is_ended (events_of p ms) ≡ false) → ((d : DownBundle) → o ≡ Some d → list_any is_kill d.parts ≡ false) → Next (told k ys o ∷ [])
  told_next k ys None none alive plain = same (Changes k (Said ys) ∷ h) refl refl (quiet none)
  told_next k ys (Some d) none alive plain = sends k (Said ys) d none (alive refl) (plain d refl)

  commits_plain : (parts : List DownPart) → AllByRecursion IsCommitPart parts → list_any is_kill parts ≡ false
  commits_plain [] all = refl
  commits_plain (downs.Commit x u ∷ parts) all = commits_plain parts all.1
  commits_plain (_ ∷ parts) all = absurd all.0

  -- ---- own acts

  own_same : (d : Doing) → m.did p ≡ d ∷ [] → ((s : Seen) → (seen_after p d s).running ≡ s.running) → (seen_now c p (m ∷ ms)).running ≡ (seen_now c p ms).running
  own_same d is keeps = ap (λ ds. (own_asked c.tabs p (ds ++ did_by p ms)).running) is ∙ ap (λ (u : Seen). u.running) (own_asked_more c.tabs p d (did_by p ms)) ∙ keeps (seen_now c p ms)

  wrote_on : (x : ContextId) (u : FieldChanges) (s : Seen) → (seen_after p (OwnWrote x u) s).running ≡ s.running
  unfolding seen_after
  wrote_on x u s = refl

  framed_on : (x a : ContextId) (s : Seen) → (seen_after p (Framed x a) s).running ≡ s.running
  unfolding seen_after
  framed_on x a s = refl

  went_on : (x : ContextId) (s : Seen) → (seen_after p (Went x) s).running ≡ s.running
  unfolding seen_after
  went_on x s = refl

  took_on : (s : Seen) → (seen_after p Took s).running ≡ s.running
  unfolding seen_after
  took_on s = refl

  sent_next : (o : Option UpBundle) (es : List ProcessEvent) → Next es → Next (written o ++ es)
  sent_next None es next = next
  sent_next (Some b) es next = stops_same (seen_now c p (m ∷ ms)).running (seen_now c p (m ∷ ms)).running (es ++ h) (Writes (Own b) ∷ es ++ h) refl refl refl next

  module _ (next_flows : Flows (m.events p ++ events_of p ms)) (mk : List Making) (downs_fit : AllDownFit c p mk ms) where
    flow_of : (es : List ProcessEvent) → m.events p ≡ es → Flows (es ++ events_of p ms)
    flow_of es is = subst (λ es. Flows (es ++ h)) is next_flows

    told_alive : (k : ℕ) (ys : List Saying) (o : Option DownBundle) → Flows (told k ys o ∷ events_of p ms) → is_some o ≡ true → is_ended (events_of p ms) ≡ false
    told_alive k ys None flow some = absurd cc
    told_alive k ys (Some d) flow some = flow.0

    take_next : (d : Bundle DownBundle) (rest : List (Bundle DownBundle)) → IsTake c p ms m d rest → Next (Takes d ∷ [])
    take_next d rest is =
        stops_take (seen_now c p ms).running (seen_now c p (m ∷ ms)).running h (Takes d ∷ h) d rest is.first (taken_leaves d h (record { rest = rest; is = is.first })) refl
        (λ none. running_is ∙ took_on (behind_parts p d.content.epoch.0 (seen_now c p ms) d.content.parts)
        ∙ runs_on p d.content.epoch.0 (seen_now c p ms).frames_made (seen_now c p ms) d.content.parts (subst (AllByRecursion (λ (d : Bundle DownBundle). DownFits c p mk (seen_now c p ms).frames_made d.content.parts)) is.first downs_fit).0.kinds none ∙ is.runs) t
      where
        running_is : (seen_now c p (m ∷ ms)).running ≡ (seen_after p Took (behind_parts p d.content.epoch.0 (seen_now c p ms) d.content.parts)).running
        running_is = ap (λ (u : Seen). u.running)
            (ap (λ ds. own_asked c.tabs p (ds ++ did_by p ms)) is.did
            ∙ own_asked_more c.tabs p Took (after_parts (take_rules p d.content.epoch.0) (λ did. own_asked c.tabs p (did ++ did_by p ms)) (λ e did. e ∷ did) [] d.content.parts ++ did_by p ms)
            ∙ ap (seen_after p Took) (parts_same (take_rules p d.content.epoch.0) (λ did. own_asked c.tabs p (did ++ did_by p ms)) (λ e did. e ∷ did) (seen_after p) (λ d did. own_asked_more c.tabs p d (did ++ did_by p ms)) d.content.parts []))

    heard_next : (b : UpBundle) (answer : Answer) (o : Option DownBundle) → is_done answer ≡ true → m.did p ≡ [] → Flows (heard (length ms + 1) (Own b) answer m.says o ++ events_of p ms) → ((d : DownBundle) → o ≡ Some d → list_any is_kill d.parts ≡ false)
        → Next (heard (length ms + 1) (Own b) answer m.says o)
    heard_next b (answers.Parts ns) None done none flow plain =
        by_if (λ (e : ProcessEvent). Stops (seen_now c p (m ∷ ms)).running (e ∷ h)) (is_done (answers.Parts ns)) (Accepts (length ms + 1) (Own b)) (Ignores (length ms + 1) (Own b))
        (λ is. same (Accepts (length ms + 1) (Own b) ∷ h) refl refl (quiet none)) (λ isnt. same (Ignores (length ms + 1) (Own b) ∷ h) refl refl (quiet none))
    heard_next b (answers.Parts ns) (Some d) done none flow plain = back (length ms + 1) (Own b) d none flow.0.alive (plain d refl)
    heard_next b (_) o done none flow plain = absurd cc

    hears_next : (b : UpBundle) → Hearing c p ms m b → Next (m.events p)
    hears_next b (AsMade x a e) = by (Accepts (length ms + 1) (Own b) ∷ []) e.events (same (Accepts (length ms + 1) (Own b) ∷ h) refl refl (quiet e.did))
    hears_next b (AsLate x a d e) = by (Reverts (length ms + 1) (Own b) d ∷ []) e.events (back (length ms + 1) (Own b) d e.did (flow_of (Reverts (length ms + 1) (Own b) d ∷ []) e.events).0.alive (ap (list_any is_kill) e.back))
    hears_next b (AsDrop x e) = by (Accepts (length ms + 1) (Own b) ∷ []) e.events (same (Accepts (length ms + 1) (Own b) ∷ h) refl refl (quiet e.did))
    hears_next b (AsOldDrop x e) = by (Ignores (length ms + 1) (Own b) ∷ []) e.events (same (Ignores (length ms + 1) (Own b) ∷ h) refl refl (quiet e.did))
    hears_next b (AsAcks e) = by (Accepts (length ms + 1) (Own b) ∷ []) e.events (same (Accepts (length ms + 1) (Own b) ∷ h) refl refl (quiet e.did))
    hears_next b (AsCommit x u ns o e) = by (heard (length ms + 1) (Own b) m.answer m.says o) e.events
        (heard_next b m.answer o e.done e.did (flow_of (heard (length ms + 1) (Own b) m.answer m.says o) e.events)
        (λ d is. commits_plain d.parts (bundle_parts (facts_now c (m ∷ ms)) p (sent_back ns (facts_now c ms) x) d (back_commits x (values_where (is_noted is_reverted ns) (facts_now c ms) x)) (sym is ∙ e.is_back))))
    hears_next b (AsOldCommit x u e) = by (Ignores (length ms + 1) (Own b) ∷ []) e.events (same (Ignores (length ms + 1) (Own b) ∷ h) refl refl (quiet e.did))
    hears_next b (AsOver e) = by (Ignores (length ms + 1) (Own b) ∷ []) e.events (same (Ignores (length ms + 1) (Own b) ∷ h) refl refl (quiet e.did))

    pub stops_next : Entry c p ms m → Stops (seen_now c p (m ∷ ms)).running (m.events p ++ events_of p ms)
    stops_next (Idle is) = by [] is.events (same h refl refl (quiet is.did))
    stops_next (Sets x u b is) = by (Writes (Own b) ∷ []) is.events (same (Writes (Own b) ∷ h) refl refl (own_same (OwnWrote x u) is.did (wrote_on x u)))
    stops_next (Frames a b is) = by _ is.events (same _ refl refl (own_same (Framed (next_frame p (seen_now c p ms)) a) is.did (framed_on (next_frame p (seen_now c p ms)) a)))
    stops_next (Drops x b is) = by _ is.events (same _ refl refl (own_same (Went x) is.did (went_on x)))
    stops_next (TakesOne d rest is) = by _ is.events (sent_next _ (Takes d ∷ []) (take_next d rest is))
    stops_next (Tells posts is) = by (told (length ms + 1) m.says (bundle_for (facts_now c (m ∷ ms)) p (in_order posts)) ∷ []) is.events
        (told_next (length ms + 1) m.says (bundle_for (facts_now c (m ∷ ms)) p (in_order posts)) is.did
        (told_alive (length ms + 1) m.says (bundle_for (facts_now c (m ∷ ms)) p (in_order posts)) (flow_of (told (length ms + 1) m.says (bundle_for (facts_now c (m ∷ ms)) p (in_order posts)) ∷ []) is.events))
        (λ d is_d. bundle_plain (facts_now c (m ∷ ms)) (in_order posts) d (ordered_plain posts (posted_kinds c p (said ms) m.says posts is.posted)) is_d))
    stops_next (Killing d is) = by (Ends ∷ Sends (length ms + 1) (Said m.says) d ∷ []) is.events
        (stops_push (seen_now c p ms).running (seen_now c p (m ∷ ms)).running h (Ends ∷ Sends (length ms + 1) (Said m.says) d ∷ h) (record { entry = length ms + 1; epoch = hears h; content = d })
        (sent_waits (record { entry = length ms + 1; epoch = hears h; content = d }) h flows) (flow_of (Ends ∷ Sends (length ms + 1) (Said m.says) d ∷ []) is.events).1.0 (λ runs. ended_now runs) (quiet is.did) t)
      where
        ended_now : true ≡ false → has_kill (record { entry = length ms + 1; epoch = hears h; content = d }) ≡ false
        ended_now e = absurd cc
    stops_next (HearsOne b rest first hears) = hears_next b hears
