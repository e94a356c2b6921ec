-- All that holds behind the entries of a journal, for a process that is honest: by recursion on the entries, and for all
-- makings that go on those so far.
use Rattle.std.proofs.Common.{◌≡◌, ◌⊎◌, inl, inr, ℕ, ◌+◌, ◌<◌, Bool, true, false, if◌then◌else◌, Option, None, Some, List, [], ◌∷◌, ◌++◌, length, map, refl, ap, sym, subst, ◌∙◌}
use Rattle.std.specs.Prelude.{is_some}
use Rattle.std.specs.List.{AllByRecursion}
use Rattle.wire_msgs.specs.declared.bundle.DownBundle.{DownBundle}
use Rattle.wire_msgs.specs.declared.bundle.UpBundle.{UpBundle}
use Rattle.wire_msgs.specs.declared.cause.EndCause.{EndCause}
use Rattle.wire_msgs.specs.declared.config.Config.{Config}
use Rattle.wire_msgs.specs.declared.note.PartNote.TheVariants as notes
use Rattle.wire_msgs.specs.declared.part.DownPart.{DownPart}
use Rattle.wire_msgs.specs.declared.part.DownPart.TheVariants as downs
use Rattle.wire_msgs.specs.declared.part.Known.{Known}
use Rattle.protocol.specs.Fold.{after_parts, behind_all}
use Rattle.protocol.specs.OwnActs.{next_frame}
use Rattle.protocol.specs.Sayings.{Saying}
use Rattle.protocol.specs.Sayings.Saying.{Opened, Made, BornDead}
use Rattle.protocol.specs.Seen.{Doing}
use Rattle.protocol.specs.Seen.Doing.{Came, Framed, Went, Wrote as OwnWrote, Given, Took, Stopped}
use Rattle.protocol.specs.Hear.{changes_where, is_noted, is_applied}
use Rattle.protocol.specs.Take.{take_rules, taken_notes}
use Rattle.protocol.specs.Take as take
use Rattle.traces.specs.Event.{Bundle}
use Rattle.traces.specs.Event.Event.{Writes}
use Rattle.traces.specs.Links.{is_ended, bundles_waiting}
use Rattle.traces.specs.Rules.{Flows, Rises}
use Rattle.model.specs.Lines.{Making, makings_said, makings_done}
use Rattle.model.specs.Lines.Making.{Below, Top}
use Rattle.model.specs.Moments.{Moment, ProcessEvent, said, did_by, events_of, facts_now, seen_now}
use Rattle.model.specs.Moments.Written.{Own, Raw}
use Rattle.model.specs.Parent.{ended}
use Rattle.model.specs.Process.{own_asked, running}
use Rattle.model.specs.View.{all_own, singles}
use Rattle.model.proofs.Arranging.{come_all}
use Rattle.model.proofs.Backs.{BackFits, entry_backs}
use Rattle.model.proofs.Stopping.{Stops}
use Rattle.model.proofs.Stopped.{stops_next}
use Rattle.model.proofs.Cases.{some_is, none_some}
use Rattle.wire_msgs.specs.declared.cause.EndCause.TheVariants.{Killed}
use Rattle.model.proofs.Children.{ChildrenLive, children_at_start, children_kept}
use Rattle.model.proofs.DownFits.{ComingFits, PartFits, DownFits}
use Rattle.model.proofs.Downs.{OwnMade, OwnKnown, AllDownFit, downs_still, downs_start, own_made_still, own_made_start}
use Rattle.model.proofs.Entry.{FitsOver, Hearing, Entry}
use Rattle.model.proofs.Entry.Hearing.{AsMade, AsLate, AsDrop, AsOldDrop, AsAcks, AsCommit, AsOldCommit, AsOver}
use Rattle.model.proofs.Entry.Entry.{Idle, Sets, Frames, Drops, TakesOne, Tells, Killing, HearsOne}
use Rattle.model.proofs.FieldBefore.{FieldBefore}
use Rattle.model.proofs.FieldFacts.{entry_fits}
use Rattle.model.proofs.Fields.{FieldsHold, fields_start, fields_kept}
use Rattle.model.proofs.Fitting.{AllFit, FactsTies, facts_tied}
use Rattle.model.proofs.HeldChildren.{ChildrenHeld, held_at_start, held_kept}
use Rattle.model.proofs.Holding.{SeenTies, AllDone, seen_tied}
use Rattle.model.proofs.Lining.{Lined, IsToldBy}
use Rattle.model.proofs.Ordered.{parent_in_order}
use Rattle.model.proofs.OwnTold.{own_told}
use Rattle.model.proofs.TreeEvents.{until_end}
use Rattle.model.proofs.TreeParents.{Behind, ended_before, told_runs}
use Rattle.model.proofs.TreeStart.{trees_start}
use Rattle.model.proofs.TreeTaken.{behind}
use Rattle.model.proofs.TreeTies.{TreeTies}
use Rattle.model.proofs.Ups.{UpTies}
use Rattle.model.proofs.UpsStill.{ups_still, ups_at_start}

-- ---- lists

pub all_before : {X : Type 0} (P : X → Type 0) (xs ys : List X) → AllByRecursion P (xs ++ ys) → AllByRecursion P xs
all_before P [] ys all = tt
all_before P (x ∷ xs) ys all = (all.0, all_before P xs ys all.1)

pub all_behind : {X : Type 0} (P : X → Type 0) (xs ys : List X) → AllByRecursion P (xs ++ ys) → AllByRecursion P ys
all_behind P [] ys all = all
all_behind P (x ∷ xs) ys all = all_behind P xs ys all.1

all_both : {X : Type 0} (P : X → Type 0) (xs ys : List X) → AllByRecursion P xs → AllByRecursion P ys → AllByRecursion P (xs ++ ys)
all_both P [] ys all more = more
all_both P (x ∷ xs) ys all more = (all.0, all_both P xs ys all.1 more)

makings_all : (ys old : List Saying) → makings_said (ys ++ old) ≡ makings_said ys ++ makings_said old
makings_all [] old = refl
makings_all (Opened x g is_new q ∷ ys) old = ap (λ ms. Top x g ∷ ms) (makings_all ys old)
makings_all (Made q x a ∷ ys) old = ap (λ ms. Below x a ∷ ms) (makings_all ys old)
makings_all (BornDead q x a ∷ ys) old = ap (λ ms. Below x a ∷ ms) (makings_all ys old)
makings_all (_ ∷ ys) old = makings_all ys old

fit_all : (c : Config) (old ys : List Saying) → FitsOver c old ys → AllFit c.tabs old → AllFit c.tabs (ys ++ old)
fit_all c old [] fits fit = fit
fit_all c old (y ∷ ys) fits fit = (fits.0, fit_all c old ys fits.1 fit)

pub own_behind : (es h : List ProcessEvent) → all_own (es ++ h) ≡ true → all_own h ≡ true
own_behind [] h e = e
own_behind (Writes (Raw b) ∷ es) h e = absurd cc
own_behind (Writes (Own b) ∷ es) h e = own_behind es h e
own_behind (_ ∷ es) h e = own_behind es h e

pub own_before : (es h : List ProcessEvent) → all_own (es ++ h) ≡ true → all_own es ≡ true
own_before [] h e = refl
own_before (Writes (Raw b) ∷ es) h e = absurd cc
own_before (Writes (Own b) ∷ es) h e = own_before es h e
own_before (_ ∷ es) h e = own_before es h e

-- ---- what is done fits

-- what comes at once and what comes behind it
come_both : (P : Known → Type 0) (ks : List Known) (parts : List DownPart) → AllByRecursion P (come_all (map (λ (k : Known). downs.Create k) ks ++ parts)) → AllByRecursion P ks × AllByRecursion P (come_all parts)
come_both P [] parts all = (tt, all)
come_both P (k ∷ ks) parts all = let rest : AllByRecursion P ks × AllByRecursion P (come_all parts) = come_both P ks parts all.1 in ((all.0, rest.0), rest.1)

module _ (c : Config) (p : ℕ) (mk : List Making) (old : List Doing) where
  come_done : (ks : List Known) → AllByRecursion (ComingFits c p mk) ks → (acc : List Doing) → AllDone c.tabs p mk (acc ++ old) → AllDone c.tabs p mk (behind_all (λ e did. e ∷ did) (map Came ks) acc ++ old)
  unfolding behind_all
  come_done [] all acc done = done
  come_done (k ∷ ks) all acc done = come_done ks all.1 (Came k ∷ acc) (all.0.known, done)

  take_done : (epoch made : ℕ) (parts : List DownPart) → AllByRecursion (ComingFits c p mk) (come_all (singles parts)) → AllByRecursion (PartFits p made) parts → (acc : List Doing) → AllDone c.tabs p mk (acc ++ old)
      → AllDone c.tabs p mk (after_parts (take_rules p epoch) (λ did. own_asked c.tabs p (did ++ old)) (λ e did. e ∷ did) acc parts ++ old)
  unfolding after_parts behind_all take.says take.note
  take_done epoch made [] come kinds acc done = done
  take_done epoch made (downs.Create k ∷ parts) come kinds acc done = take_done epoch made parts come.1 kinds.1 (Came k ∷ acc) (come.0.known, done)
  take_done epoch made (downs.Register g ks ∷ parts) come kinds acc done =
      let both : AllByRecursion (ComingFits c p mk) ks × AllByRecursion (ComingFits c p mk) (come_all (singles parts)) = come_both (ComingFits c p mk) ks (singles parts) come in
      take_done epoch made parts both.1 kinds.1 (behind_all (λ e did. e ∷ did) (map Came ks) acc) (come_done ks both.0 acc done)
  take_done epoch made (downs.Discard w ∷ parts) come kinds acc done = take_done epoch made parts come kinds.1 (Went w ∷ acc) (tt, done)
  take_done epoch made (downs.Commit x d ∷ parts) come kinds acc done = by_held ((own_asked c.tabs p (acc ++ old)).holds x) (take_done epoch made parts come kinds.1)
    where
      by_held : (v : Bool)
          → ((acc : List Doing) → AllDone c.tabs p mk (acc ++ old) → AllDone c.tabs p mk (after_parts (take_rules p epoch) (λ did. own_asked c.tabs p (did ++ old)) (λ e did. e ∷ did) acc parts ++ old))
          → AllDone c.tabs p mk (after_parts (take_rules p epoch) (λ did. own_asked c.tabs p (did ++ old)) (λ e did. e ∷ did)
          (behind_all (λ e did. e ∷ did) (take.says (downs.Commit x d) (if v then notes.Commit x (taken_notes epoch (own_asked c.tabs p (acc ++ old)) x d) else notes.CommitIgnored x)) acc) parts ++ old)
      by_held true rest = rest (Given x (changes_where (is_noted is_applied (taken_notes epoch (own_asked c.tabs p (acc ++ old)) x d)) d) ∷ acc) (tt, done)
      by_held false rest = rest acc done
  take_done epoch made (downs.Kill ∷ parts) come kinds acc done = take_done epoch made parts come kinds.1 (Stopped ∷ acc) (tt, done)
  take_done epoch made (_ ∷ parts) come kinds acc done = absurd kinds.0

-- ---- behind an entry

-- all of it, by these makings
pub record RunTies (c : Config) (p : ℕ) (mk : List Making) (ms : List Moment) : Type 0 where
  pub told : AllByRecursion (IsToldBy mk) (makings_said (said ms))
  pub fit : AllFit c.tabs (said ms)
  pub done : AllDone c.tabs p mk (did_by p ms)
  pub trees : TreeTies c p mk (facts_now c ms) (seen_now c p ms) (events_of p ms)
  pub flows : Flows (events_of p ms)
  pub over : is_ended (events_of p ms) ≡ is_some (ended p (said ms))
  pub downs : AllDownFit c p mk ms
  pub made : OwnMade c p ms
  pub ups : is_ended (events_of p ms) ≡ false → UpTies c p mk (facts_now c ms) (seen_now c p ms) (events_of p ms)
  pub live : is_ended (events_of p ms) ≡ false → ChildrenLive c p mk (facts_now c ms) (events_of p ms)
  pub held : ChildrenHeld c p mk (seen_now c p ms) (until_end (events_of p ms))
  pub fields : FieldsHold c p mk ms
  pub killed : (cause : EndCause) → ended p (said ms) ≡ Some cause → cause ≡ Killed
  pub backs : AllByRecursion BackFits (events_of p ms)
  pub stops : Stops (seen_now c p ms).running (events_of p ms)

pub facts_of_run : (c : Config) (p : ℕ) (mk : List Making) (ms : List Moment) → Lined mk → RunTies c p mk ms → FactsTies c.tabs mk (facts_now c ms)
facts_of_run c p mk ms l r = facts_tied c.tabs mk (said ms) l r.told r.fit

pub seen_of_run : (c : Config) (p : ℕ) (mk : List Making) (ms : List Moment) → Lined mk → RunTies c p mk ms → SeenTies c.tabs p mk (seen_now c p ms)
seen_of_run c p mk ms l r = seen_tied c.tabs p mk (did_by p ms) l r.done

never_so : {A : Type 0} → true ≡ false → A
never_so e = absurd cc

pub run_start : (c : Config) (p : ℕ) (mk : List Making) → Lined mk → RunTies c p mk []
unfolding ended running
run_start c p mk l = record {
  told = tt;
  fit = tt;
  done = tt;
  trees = trees_start c p mk;
  flows = tt;
  over = refl;
  downs = downs_start c p mk;
  made = own_made_start c p;
  ups = λ runs. ups_at_start c p mk;
  live = λ runs. children_at_start c p mk l;
  held = held_at_start c p mk l;
  fields = fields_start c p mk l;
  killed = λ cause e. none_some cause e;
  backs = tt;
  stops = record { last = tt; kills = λ runs. tt; runs = λ runs. refl; stopped = λ no_more. never_so no_more };
}

module _ (c : Config) (p : ℕ) (mk : List Making) (l : Lined mk) (low : p < 16) (ms : List Moment) (m : Moment) (r : RunTies c p mk ms) (told_by : AllByRecursion (IsToldBy mk) (makings_said m.says)) (told_did : AllByRecursion (IsToldBy mk) (makings_done (m.did p)))
    (known : OwnKnown c p ms) (sent : (seen_now c p ms).taken + length (bundles_waiting (events_of p ms)) ≡ (facts_now c ms).processes.bundles_sent p) (rises : Rises (events_of p ms)) (e : Entry c p ms m)
  where
    ft : FactsTies c.tabs mk (facts_now c ms)
    ft = facts_of_run c p mk ms l r

    st : SeenTies c.tabs p mk (seen_now c p ms)
    st = seen_of_run c p mk ms l r

    fits : FitsOver c (said ms) m.says
    fits = entry_fits c p ms m low e

    done_by : (ds : List Doing) → m.did p ≡ ds → AllDone c.tabs p mk (ds ++ did_by p ms) → AllDone c.tabs p mk (m.did p ++ did_by p ms)
    done_by ds is done = subst (λ ds. AllDone c.tabs p mk (ds ++ did_by p ms)) (sym is) done

    hears_nothing : (b : UpBundle) → Hearing c p ms m b → m.did p ≡ []
    hears_nothing b (AsMade x a e) = e.did
    hears_nothing b (AsLate x a d e) = e.did
    hears_nothing b (AsDrop x e) = e.did
    hears_nothing b (AsOldDrop x e) = e.did
    hears_nothing b (AsAcks e) = e.did
    hears_nothing b (AsCommit x t ns back e) = e.did
    hears_nothing b (AsOldCommit x t e) = e.did
    hears_nothing b (AsOver e) = e.did

    done_next : Entry c p ms m → AllDone c.tabs p mk (m.did p ++ did_by p ms)
    done_next (Idle is) = done_by [] is.did r.done
    done_next (Sets x t b is) = done_by (OwnWrote x t ∷ []) is.did (tt, r.done)
    done_next (Frames a b is) =
        done_by (Framed (next_frame p (seen_now c p ms)) a ∷ []) is.did
        (record { next = refl; held = is.held; made = (subst (λ ds. AllByRecursion (IsToldBy mk) (makings_done ds)) is.did told_did).0 }, r.done)
    done_next (Drops x b is) = done_by (Went x ∷ []) is.did (tt, r.done)
    done_next (TakesOne d rest is) =
        let d_fits : DownFits c p mk (seen_now c p ms).frames_made d.content.parts = (subst (AllByRecursion (λ (d : Bundle DownBundle). DownFits c p mk (seen_now c p ms).frames_made d.content.parts)) is.first r.downs).0 in
        done_by (Took ∷ after_parts (take_rules p d.content.epoch.0) (λ did. own_asked c.tabs p (did ++ did_by p ms)) (λ e did. e ∷ did) [] d.content.parts) is.did
        (tt, take_done c p mk (did_by p ms) d.content.epoch.0 (seen_now c p ms).frames_made d.content.parts d_fits.come d_fits.kinds [] r.done)
    done_next (Tells posts is) = done_by [] is.did r.done
    done_next (Killing d is) = done_by [] is.did r.done
    done_next (HearsOne b rest first hears) = done_by [] (hears_nothing b hears) r.done

    st' : SeenTies c.tabs p mk (seen_now c p (m ∷ ms))
    st' = seen_tied c.tabs p mk (did_by p (m ∷ ms)) l (done_next e)

    then_is : Behind c p mk ms m
    then_is = behind c p mk l low ms m ft r.fit told_by told_did r.flows r.over st st' r.downs r.trees r.live e

    none_of : (o : Option EndCause) → is_some o ≡ false → o ≡ None
    none_of None e = refl
    none_of (Some cause) e = absurd cc

    -- one that runs ran before
    ran : is_ended (events_of p (m ∷ ms)) ≡ false → is_ended (events_of p ms) ≡ false
    ran runs = r.over ∙ ap is_some (ended_before p m.says (said ms) (none_of (ended p (m.says ++ said ms)) (sym then_is.over ∙ runs)))

    alive : is_ended (events_of p ms) ≡ false → ended p (said ms) ≡ None
    alive runs = none_of (ended p (said ms)) (sym r.over ∙ runs)

    before : FieldBefore c p mk ms m
    before = record {
      low = low;
      lined = l;
      told = told_by;
      told_did = told_did;
      fit = r.fit;
      facts = ft;
      tree = r.trees.facts;
      ties = st;
      seen = r.trees.seen;
      named = λ x own is. known x is own;
      over = r.over;
      heard_alive = λ b x t ns back is. told_runs c p mk l low ms ft r.fit r.over x is.live is.told;
      flows = r.flows;
      next_flows = then_is.flows;
      rises = rises;
    }

    pub run_next : RunTies c p mk (m ∷ ms)
    run_next = record {
      told = subst (AllByRecursion (IsToldBy mk)) (sym (makings_all m.says (said ms))) (all_both (IsToldBy mk) (makings_said m.says) (makings_said (said ms)) told_by r.told);
      fit = fit_all c (said ms) m.says fits r.fit;
      done = done_next e;
      trees = then_is.ties;
      flows = then_is.flows;
      over = then_is.over;
      downs = downs_still c p mk ms m l low ft r.fit told_by r.flows (parent_in_order c.tabs mk l (said ms) r.told r.fit)
          (λ alive. let runs : is_ended (events_of p ms) ≡ false = r.over ∙ ap is_some alive in own_told c p mk l (said ms) (events_of p ms) r.flows runs (r.trees.facts runs)) known r.made r.downs e;
      made = own_made_still c p ms m r.flows r.made e;
      ups = λ runs. ups_still c p mk ms m (record { lined = l; ties = st; made = told_did; flows = r.flows; running = alive (ran runs); sent = sent }) e (r.ups (ran runs));
      live = λ runs. children_kept c p ms m mk l ft told_by (r.trees.facts (ran runs)).lives (r.live (ran runs)) low e;
      held = held_kept c p ms m mk l st told_did r.flows r.trees.seen r.downs r.held e;
      fields = fields_kept c p mk ms m before r.downs then_is.ties.seen e r.fields;
      killed = λ cause over. by_end cause over then_is.killed;
      backs = all_both BackFits (m.events p) (events_of p ms) (entry_backs c p ms m e) r.backs;
      stops = stops_next c p ms m r.flows r.stops then_is.flows mk r.downs e;
    }
      where
        by_end : (cause : EndCause) → ended p (m.says ++ said ms) ≡ Some cause → (ended p (m.says ++ said ms) ≡ ended p (said ms)) ⊎ (ended p (m.says ++ said ms) ≡ Some Killed) → cause ≡ Killed
        by_end cause is (inl same) = r.killed cause (sym same ∙ is)
        by_end cause is (inr kill) = some_is cause Killed (sym is ∙ kill)
