-- The trees of an honest process behind a take, and behind any entry.
use Rattle.std.proofs.Common.{◌≡◌, inl, ℕ, ◌<◌, Bool, true, false, if◌then◌else◌, Some, List, [], ◌∷◌, ◌++◌, map, refl, ap, sym, subst, ◌∙◌}
use Rattle.std.specs.Prelude.{is_some}
use Rattle.std.specs.List.{AllByRecursion, list_any}
use Rattle.fission_ids.specs.declared.context.ContextId.{ContextId}
use Rattle.wire_msgs.specs.declared.bundle.DownBundle.{DownBundle}
use Rattle.wire_msgs.specs.declared.config.Config.{Config}
use Rattle.wire_msgs.specs.declared.part.DownPart.{DownPart}
use Rattle.wire_msgs.specs.declared.part.DownPart.TheVariants as downs
use Rattle.wire_msgs.specs.declared.part.Known.{Known}
use Rattle.wire_msgs.specs.declared.part.UpPart.{UpPart}
use Rattle.wire_msgs.specs.declared.part.UpPart.TheVariants as ups
use Rattle.field_table.specs.Table.{value_in}
use Rattle.protocol.specs.Fold.{after_parts, behind_all, posts_of}
use Rattle.model.proofs.Children.{ChildrenLive}
use Rattle.model.proofs.Cases.{by_if}
use Rattle.protocol.specs.Seen.{Seen}
use Rattle.protocol.specs.Seen.Doing.{Came, Took}
use Rattle.protocol.specs.SeenAfter.{seen_after, with_context}
use Rattle.protocol.specs.Take.{take_rules, is_kill, may_come, taken_notes}
use Rattle.protocol.specs.Take as take
use Rattle.wire_msgs.specs.declared.note.PartNote.TheVariants as notes
use Rattle.protocol.proofs.Same.{parts_same}
use Rattle.traces.specs.Event.{Bundle}
use Rattle.traces.specs.Event.Event.{Takes}
use Rattle.traces.specs.Links.{is_ended, bundles_waiting}
use Rattle.traces.specs.Rules.{IsFirst, Flows}
use Rattle.model.specs.Lines.{Making, makings_said, makings_done}
use Rattle.model.specs.Moments.{Moment, ProcessEvent, said, did_by, events_of, facts_now, seen_now}
use Rattle.model.specs.Moments.Written.{Own}
use Rattle.model.specs.Parent.{asked, ended}
use Rattle.model.specs.Process.{own_asked}
use Rattle.model.proofs.AskedMore.{own_asked_more}
use Rattle.model.proofs.DownFits.{PartFits, DownFits}
use Rattle.model.proofs.Downs.{AllDownFit}
use Rattle.model.proofs.Entry.{IsAck, IsTake, Entry}
use Rattle.model.proofs.Entry.Entry.{Idle, Sets, Frames, Drops, TakesOne, Tells, Killing, HearsOne}
use Rattle.model.proofs.Fitting.{AllFit, FactsTies}
use Rattle.model.proofs.Stages.{acks_posted, by_acks}
use Rattle.model.proofs.Holding.{SeenTies}
use Rattle.model.proofs.Lining.{Lined, IsToldBy}
use Rattle.model.proofs.TreeEvents.{until_end, never_ends, waits_same, flows_still}
use Rattle.model.proofs.TreeOwn.{IsPlain, TreeSeen, wrote_plain}
use Rattle.model.proofs.TreeParents.{Behind, behind_told, behind_killed, behind_heard}
use Rattle.model.proofs.TreeTake.{behind_part, behind_parts, took}
use Rattle.model.proofs.TreeTies.{TreeTies, wrote_ties, idle_ties, set_ties, frame_ties, drop_ties}

-- a take makes no frame
frames_one : (p epoch made : ℕ) (s : Seen) (a : DownPart) → PartFits p made a → (behind_part p epoch a s).frames_made ≡ s.frames_made
unfolding behind_all take.says take.note seen_after
frames_one p epoch made s (downs.Create k) fits = by_may (may_come p s k)
  where
    by_may : (v : Bool) → (if v then with_context k.context (Some k.group) k.parent k.owned (value_in k.fields) s else s).frames_made ≡ s.frames_made
    by_may true = refl
    by_may false = refl
frames_one p epoch made s (downs.Discard w) fits = refl
frames_one p epoch made s (downs.Commit x d) fits = by_held (s.holds x)
  where
    by_held : (v : Bool) → (behind_all (seen_after p) (take.says (downs.Commit x d) (if v then notes.Commit x (taken_notes epoch s x d) else notes.CommitIgnored x)) s).frames_made ≡ s.frames_made
    by_held true = refl
    by_held false = refl
frames_one p epoch made s downs.Kill fits = refl
frames_one p epoch made s (downs.Register g ks) fits = came_frames ks s
  where
    came_frames : (ks : List Known) (s : Seen) → (behind_all (seen_after p) (map Came ks) s).frames_made ≡ s.frames_made
    came_frames [] s = refl
    came_frames (k ∷ ks) s = came_frames ks (seen_after p (Came k) s) ∙ came_one s k
      where
        came_one : (s : Seen) (k : Known) → (seen_after p (Came k) s).frames_made ≡ s.frames_made
        came_one s k = by_may (may_come p s k)
          where
            by_may : (v : Bool) → (if v then with_context k.context (Some k.group) k.parent k.owned (value_in k.fields) s else s).frames_made ≡ s.frames_made
            by_may true = refl
            by_may false = refl
frames_one p epoch made s (_) fits = absurd fits

frames_kept : (p epoch made : ℕ) (s : Seen) (parts : List DownPart) → AllByRecursion (PartFits p made) parts → (behind_parts p epoch s parts).frames_made ≡ s.frames_made
unfolding after_parts
frames_kept p epoch made s [] kinds = refl
frames_kept p epoch made s (a ∷ parts) kinds = frames_kept p epoch made (behind_part p epoch a s) parts kinds.1 ∙ frames_one p epoch made s a kinds.0

plain_acks : (parts : List UpPart) → AllByRecursion IsAck parts → AllByRecursion IsPlain parts
plain_acks [] acks = tt
plain_acks (ups.DropAck x ∷ parts) acks = (tt, plain_acks parts acks.1)
plain_acks (_ ∷ parts) acks = absurd acks.0

until_takes : (d : Bundle DownBundle) (h : List ProcessEvent) → until_end (Takes d ∷ h) ≡ Takes d ∷ until_end h
until_takes d h = by_end (is_ended h)
  where
    by_end : (b : Bool) → (if b then Takes d ∷ until_end h else Takes d ∷ until_end h) ≡ Takes d ∷ until_end h
    by_end true = refl
    by_end false = refl

module _ (c : Config) (p : ℕ) (mk : List Making) (l : Lined mk) (low : p < 16) (ms : List Moment) (m : Moment) (ft : FactsTies c.tabs mk (facts_now c ms)) (fit : AllFit c.tabs (said ms)) (told_by : AllByRecursion (IsToldBy mk) (makings_said m.says))
    (told_did : AllByRecursion (IsToldBy mk) (makings_done (m.did p))) (flows : Flows (events_of p ms)) (over : is_ended (events_of p ms) ≡ is_some (ended p (said ms))) (st : SeenTies c.tabs p mk (seen_now c p ms))
    (st' : SeenTies c.tabs p mk (seen_now c p (m ∷ ms))) (downs_fit : AllDownFit c p mk ms) (t : TreeTies c p mk (facts_now c ms) (seen_now c p ms) (events_of p ms))
    (children : is_ended (events_of p ms) ≡ false → ChildrenLive c p mk (facts_now c ms) (events_of p ms))
  where
    abbrev h : List ProcessEvent
    h = events_of p ms

    abbrev s : Seen
    s = seen_now c p ms

    abbrev next : Seen
    next = seen_now c p (m ∷ ms)

    -- ---- a take

    module _ (d : Bundle DownBundle) (rest : List (Bundle DownBundle)) (is : IsTake c p ms m d rest) where
      first : IsFirst d (bundles_waiting (events_of p ms))
      first = record { rest = rest; is = is.first }

      fits : DownFits c p mk (seen_now c p ms).frames_made d.content.parts
      fits = (subst (AllByRecursion (λ (d : Bundle DownBundle). DownFits c p mk s.frames_made d.content.parts)) is.first downs_fit).0

      next_is : seen_now c p (m ∷ ms) ≡ seen_after p Took (behind_parts p d.content.epoch.0 (seen_now c p ms) d.content.parts)
      next_is =
          ap (λ ds. own_asked c.tabs p (ds ++ did_by p ms)) is.did
          ∙ own_asked_more c.tabs p Took (after_parts (take_rules p d.content.epoch.0) (λ did. own_asked c.tabs p (did ++ did_by p ms)) (λ e did. e ∷ did) [] d.content.parts ++ did_by p ms)
          ∙ ap (seen_after p Took) (parts_same (take_rules p d.content.epoch.0) (λ did. own_asked c.tabs p (did ++ did_by p ms)) (λ e did. e ∷ did) (seen_after p) (λ d did. own_asked_more c.tabs p d (did ++ did_by p ms)) d.content.parts [])

      took_holds : (u : Seen) (x : ContextId) → (seen_after p Took u).holds x ≡ u.holds x
      unfolding seen_after
      took_holds u x = refl

      took_owns : (u : Seen) (x : ContextId) → (seen_after p Took u).owns x ≡ u.owns x
      unfolding seen_after
      took_owns u x = refl

      took_frames : (u : Seen) → (seen_after p Took u).frames_made ≡ u.frames_made
      unfolding seen_after
      took_frames u = refl

      abbrev then_is : Seen
      then_is = behind_parts p d.content.epoch.0 (seen_now c p ms) d.content.parts

      seen_taken : TreeSeen c p mk (seen_now c p (m ∷ ms)) (Takes d ∷ until_end (events_of p ms))
      seen_taken =
          took c p mk l s st (until_end h) (never_ends h) (flows_still h flows) t.seen d (record { rest = rest; is = waits_same h flows ∙ is.first }) fits next d.content.epoch.0
          (λ x. ap (λ (u : Seen). u.holds x) next_is ∙ took_holds then_is x) (λ x. ap (λ (u : Seen). u.owns x) next_is ∙ took_owns then_is x)
          (ap (λ (u : Seen). u.frames_made) next_is ∙ took_frames then_is ∙ frames_kept p d.content.epoch.0 s.frames_made s d.content.parts fits.kinds)

      taken_ties : TreeTies c p mk (facts_now c ms) (seen_now c p (m ∷ ms)) (Takes d ∷ events_of p ms)
      taken_ties = record {
        facts = λ runs. let f = t.facts runs in record { fits = ((λ r. tt), f.fits); told = f.told; lives = f.lives; owners = f.owners; known = f.known; own_known = f.own_known };
        seen = subst (TreeSeen c p mk next) (sym (until_takes d h)) seen_taken;
      }

      -- what it sends back acknowledges alone
      acks : AllByRecursion IsAck (if list_any is_kill d.content.parts then [] else posts_of (take_rules p d.content.epoch.0) (λ did. own_asked c.tabs p (did ++ did_by p ms)) (λ e did. e ∷ did) [] d.content.parts)
      acks = by_if (AllByRecursion IsAck) (list_any is_kill d.content.parts) [] (posts_of (take_rules p d.content.epoch.0) (λ did. own_asked c.tabs p (did ++ did_by p ms)) (λ e did. e ∷ did) [] d.content.parts) (λ kill. tt)
          (λ lives. acks_posted p d.content.epoch.0 (λ did. own_asked c.tabs p (did ++ did_by p ms)) (λ e did. e ∷ did) d.content.parts [])

      -- what holds behind the events
      abbrev Then : List ProcessEvent → Type 0
      Then es = TreeTies c p mk (facts_now c ms) (seen_now c p (m ∷ ms)) (es ++ events_of p ms) × Flows (es ++ events_of p ms) × (is_ended (es ++ events_of p ms) ≡ is_ended (events_of p ms))

      events_then : Then (m.events p)
      events_then = subst Then (sym is.events) (by_acks (λ es. Then (es ++ Takes d ∷ [])) next
          (if list_any is_kill d.content.parts then [] else posts_of (take_rules p d.content.epoch.0) (λ did. own_asked c.tabs p (did ++ did_by p ms)) (λ e did. e ∷ did) [] d.content.parts) acks
          (taken_ties, (first, flows), refl)
          (λ u sent. (
            wrote_ties c p mk (facts_now c ms) next (Own u) (Takes d ∷ h) taken_ties.facts
                (wrote_plain c p mk l next st' (until_end (Takes d ∷ h)) (never_ends (Takes d ∷ h)) taken_ties.seen u (plain_acks u.parts sent) next (λ x. refl) (λ x. refl) refl),
            (tt, (first, flows)),
            refl,
          )))

      pub behind_taken : Behind c p mk ms m
      behind_taken = record {
        ties = subst (λ f. TreeTies c p mk f next (m.events p ++ h)) (ap (λ ys. asked c.tabs (ys ++ said ms)) (sym is.says)) events_then.0;
        flows = events_then.1;
        over = events_then.2 ∙ over ∙ ap (λ ys. is_some (ended p (ys ++ said ms))) (sym is.says);
        killed = inl (ap (λ ys. ended p (ys ++ said ms)) is.says);
      }

    -- ---- any entry

    -- own acts flow, and end nobody
    own_behind : TreeTies c p mk (facts_now c (m ∷ ms)) (seen_now c p (m ∷ ms)) (m.events p ++ events_of p ms) → m.says ≡ [] → Flows (m.events p ++ events_of p ms) × (is_ended (m.events p ++ events_of p ms) ≡ is_ended (events_of p ms)) → Behind c p mk ms m
    own_behind ties none events = record { ties = ties; flows = events.0; over = events.1 ∙ over ∙ ap (λ ys. is_some (ended p (ys ++ said ms))) (sym none); killed = inl (ap (λ ys. ended p (ys ++ said ms)) none) }

    abbrev Flow : List ProcessEvent → Type 0
    Flow es = Flows (es ++ events_of p ms) × (is_ended (es ++ events_of p ms) ≡ is_ended (events_of p ms))

    pub behind : Entry c p ms m → Behind c p mk ms m
    behind (Idle is) = own_behind (idle_ties c p mk l ms m st t is) is.says (subst Flow (sym is.events) (flows, refl))
    behind (Sets x d b is) = own_behind (set_ties c p mk l ms m st t x d b is) is.says (subst Flow (sym is.events) ((tt, flows), refl))
    behind (Frames a b is) = own_behind (frame_ties c p mk l ms m st t flows a b is told_did) is.says (subst Flow (sym is.events) ((tt, (tt, flows)), refl))
    behind (Drops x b is) = own_behind (drop_ties c p mk l ms m st t flows x b is) is.says (subst Flow (sym is.events) ((tt, (tt, flows)), refl))
    behind (TakesOne d rest is) = behind_taken d rest is
    behind (Tells posts is) = behind_told c p mk l low ms m ft fit told_by flows over t children posts is
    behind (Killing d is) = behind_killed c p mk l low ms m ft fit told_by flows over t d is
    behind (HearsOne b rest first hears) = behind_heard c p mk l low ms m ft fit told_by flows over t b (record { rest = rest; is = first }) hears
