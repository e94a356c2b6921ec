-- The trees of an honest process behind what the parent does: what is told, what is heard, and its end.
use Rattle.std.proofs.Common.{◌≡◌, ◌⊎◌, inl, inr, ℕ, ◌+◌, ◌<◌, ◌==◌, Bool, true, false, if◌then◌else◌, Option, None, Some, List, [], ◌∷◌, ◌++◌, length, refl, ap, ap₂, sym, subst, ◌∙◌, eqb-true, eq-eqb}
use Rattle.std.specs.Prelude.{is_some, filter}
use Rattle.std.specs.List.{AllByRecursion, list_any}
use Rattle.fission_ids.specs.declared.context.ContextId.{ContextId}
use Rattle.fission_ids.specs.declared.group.GroupId.{GroupId}
use Rattle.wire_msgs.specs.declared.answer.Answer.{Answer}
use Rattle.wire_msgs.specs.declared.answer.Answer.TheVariants as answers
use Rattle.protocol.specs.Commits.{applied}
use Rattle.wire_msgs.specs.declared.bundle.DownBundle.{DownBundle}
use Rattle.wire_msgs.specs.declared.bundle.UpBundle.{UpBundle}
use Rattle.wire_msgs.specs.declared.cause.EndCause.{EndCause}
use Rattle.wire_msgs.specs.declared.config.Config.{Config}
use Rattle.wire_msgs.specs.declared.part.DownPart.{DownPart}
use Rattle.protocol.specs.Bundle.{bundle_for}
use Rattle.wire_msgs.specs.declared.part.DownPart.TheVariants as downs
use Rattle.protocol.specs.Hear.{frame_known}
use Rattle.protocol.specs.Order.{in_order, parts_with_all}
use Rattle.protocol.specs.ParentActs.{register_of}
use Rattle.protocol.specs.Questions.{Facts, option_any, is_subscribed, is_told}
use Rattle.protocol.specs.Sayings.{Saying}
use Rattle.protocol.specs.Sayings.Saying.{Opened, Made, BornDead, Removed, Wrote, Acked, Subscribed, Counted, Sent, Ended}
use Rattle.protocol.specs.Seen.{Seen}
use Rattle.traces.specs.Event.Event.{Sends, Accepts, Reverts, Ignores, Changes, Ends}
use Rattle.traces.specs.Links.{is_ended, writes_waiting}
use Rattle.traces.specs.Rules.{IsFirst, Flow, Flows}
use Rattle.trees.specs.Look.Effect.{Stays, Comes, Goes}
use Rattle.trees.specs.Look.Handing.{Same}
use Rattle.trees.specs.Rules.{Fits, Fit, Told, Brought, Handed, Tells}
use Rattle.trees.specs.Children.{attached, is_alive, owned}
use Rattle.trees.specs.Words.{life}
use Rattle.trees.specs.Words as trees
use Rattle.wire_msgs.specs.declared.cause.EndCause.TheVariants.{Killed}
use Rattle.model.specs.Lines.{Making, makings_said, line, group_in}
use Rattle.model.specs.Moments.{Moment, ProcessEvent, said, did_by, events_of, facts_now, seen_now, told, heard, is_done}
use Rattle.model.specs.Moments.Written.{Own, Said}
use Rattle.model.specs.Parent.{asked, ended}
use Rattle.model.specs.Process.{own_asked}
use Rattle.model.specs.View.{singles}
use Rattle.model.specs.Trees.{registers_group, parts_tell, parts_bring, parts_handed, handed_unless, tree_look, tree_begin}
use Rattle.model.proofs.Cases.{true_false, none_some}
use Rattle.model.proofs.Entry.{FitsOver, IsOfOthers, PostOf, IsCommitOf, Posted, tab_known, IsTold, IsKilled, Hearing, Says, IsSending, IsAcking, others_posted}
use Rattle.model.proofs.Entry.Posted.{NonePosted, OnePosted}
use Rattle.model.proofs.Entry.Hearing.{AsMade, AsLate, AsDrop, AsOldDrop, AsAcks, AsCommit, AsOldCommit, AsOver}
use Rattle.model.proofs.Fitting.{SayingFits, AllFit, FactsTies}
use Rattle.model.proofs.Lining.{Lined, IsToldBy}
use Rattle.model.proofs.Children.{ChildrenLive}
use Rattle.model.proofs.Subscribing.{ended_unsubscribed}
use Rattle.model.proofs.Telling.{Saids, saids_before, facts_behind}
use Rattle.model.proofs.TreeEvents.{until_end, all_events}
use Rattle.model.proofs.TreeFacts.{TreeFacts}
use Rattle.model.proofs.TreeHeard.{heard_keeps}
use Rattle.model.proofs.TreeOwn.{TreeSeen}
use Rattle.model.proofs.TreeTells.{told_keeps}
use Rattle.model.proofs.TreeTies.{TreeTies}

-- ---- ends

-- who isn't ended wasn't
pub ended_before : (p : ℕ) (ys old : List Saying) → ended p (ys ++ old) ≡ None → ended p old ≡ None
unfolding ended
ended_before p [] old e = e
ended_before p (Ended q cause ∷ ys) old e = by_test (p == q) e (ended_before p ys old)
  where
    by_test : (b : Bool) → (if b then Some cause else ended p (ys ++ old)) ≡ None → (ended p (ys ++ old) ≡ None → ended p old ≡ None) → ended p old ≡ None
    by_test true e rest = none_some cause (sym e)
    by_test false e rest = rest e
ended_before p (_ ∷ ys) old e = ended_before p ys old e

-- what others do ends nobody else
pub ended_still : (p : ℕ) (ys old : List Saying) → AllByRecursion (IsOfOthers p) ys → ended p (ys ++ old) ≡ ended p old
unfolding ended
ended_still p [] old others = refl
ended_still p (Ended q cause ∷ ys) old others = by_test (p == q) refl (ended_still p ys old others.1)
  where
    by_test : (b : Bool) → (p == q) ≡ b → ended p (ys ++ old) ≡ ended p old → (if b then Some cause else ended p (ys ++ old)) ≡ ended p old
    by_test true is rest = let same : p ≡ q = eqb-true p q is in true_false (q == p) (eq-eqb q p (sym same)) others.0
    by_test false is rest = rest
ended_still p (_ ∷ ys) old others = ended_still p ys old others.1

-- what is said of a bundle that is done ends nobody
pub sendings : (p : ℕ) (sent core old : List Saying) → AllByRecursion IsSending sent → ended p ((sent ++ core) ++ old) ≡ ended p (core ++ old)
unfolding ended
sendings p [] core old all = refl
sendings p (Sent q ∷ sent) core old all = sendings p sent core old all.1
sendings p (_ ∷ sent) core old all = absurd all.0

pub ackings : (p : ℕ) (ys old : List Saying) → AllByRecursion IsAcking ys → ended p (ys ++ old) ≡ ended p old
unfolding ended
ackings p [] old all = refl
ackings p (Acked q x ∷ ys) old all = ackings p ys old all.1
ackings p (Sent q ∷ ys) old all = ackings p ys old all.1
ackings p (_ ∷ ys) old all = absurd all.0

-- ---- one that was ended is told nothing

module _ (c : Config) (p : ℕ) (mk : List Making) (l : Lined mk) (low : p < 16) (old : List Saying) (ft : FactsTies c.tabs mk (asked c.tabs old)) (fit : AllFit c.tabs old) (over : is_some (ended p old) ≡ true) where
  all_fit : (ys : List Saying) → FitsOver c old ys → AllFit c.tabs (ys ++ old)
  all_fit [] fits = fit
  all_fit (y ∷ ys) fits = (fits.0, all_fit ys fits.1)

  unsubscribed : (ys : List Saying) → Saids c mk l old ft ys → AllByRecursion (IsOfOthers p) ys → (g : GroupId) → is_subscribed (asked c.tabs (ys ++ old)) p g ≡ false
  unsubscribed ys s others g = ended_unsubscribed c.tabs p g (ys ++ old) low (all_fit ys s.fits) (ap is_some (ended_still p ys old others) ∙ over)

  pub untold : (ys : List Saying) → Saids c mk l old ft ys → AllByRecursion (IsOfOthers p) ys → (a : ContextId) → (asked c.tabs (ys ++ old)).contexts.known a ≡ true → is_told (asked c.tabs (ys ++ old)) p a ≡ false
  untold ys s others a known = by_group ((asked c.tabs (ys ++ old)).contexts.group a)
    where
      by_group : (o : Option GroupId) → option_any (is_subscribed (asked c.tabs (ys ++ old)) p) o ≡ false
      by_group None = refl
      by_group (Some g) = unsubscribed ys s others g

  post_none : (ys : List Saying) → Saids c mk l old ft ys → AllByRecursion (IsOfOthers p) ys → (y : Saying) → SayingFits (asked c.tabs (ys ++ old)) y → (ds : List DownPart) → PostOf (asked c.tabs (ys ++ old)) p y ds → ds ≡ []
  post_none ys s others (Opened z g is_new q) fits ds post = post ∙ ap (λ (b : Bool). if b then downs.Create (tab_known p z g q) ∷ [] else []) (unsubscribed ys s others g)
  post_none ys s others (Subscribed q g) fits ds post = post ∙ ap (λ (b : Bool). if b then register_of (asked c.tabs (ys ++ old)) p g ∷ [] else []) (other (q == p) refl)
    where
      other : (b : Bool) → (q == p) ≡ b → b ≡ false
      other false e = refl
      other true e = true_false (is_some (ended p (ys ++ old))) (ap is_some (ended_still p ys old others) ∙ over)
          (ap (λ k. is_some (ended k (ys ++ old))) (sym (eqb-true q p e)) ∙ ap is_some fits.runs)
  post_none ys s others (Made q z a) fits ds post = post ∙ ap (λ (b : Bool). if b then downs.Create (frame_known (asked c.tabs (ys ++ old)) z a) ∷ [] else []) (untold ys s others a ((facts_behind c mk l old ft ys s).live_known a fits.live))
  post_none ys s others (Removed w but) fits ds post = post ∙ ap (λ (b : Bool). if b then downs.Discard w ∷ [] else []) (untold ys s others w ((facts_behind c mk l old ft ys s).live_known w fits))
  post_none ys s others (Wrote z t) fits ds post = by_post post
    where
      by_post : ((is_told (asked c.tabs (ys ++ old)) p z ≡ true) × IsCommitOf z t ds) ⊎ ((is_told (asked c.tabs (ys ++ old)) p z ≡ false) × (ds ≡ [])) → ds ≡ []
      by_post (inl is) = true_false (is_told (asked c.tabs (ys ++ old)) p z) is.0 (untold ys s others z ((facts_behind c mk l old ft ys s).live_known z fits))
      by_post (inr none) = none.1
  post_none ys s others (BornDead q z a) fits ds post = post
  post_none ys s others (Acked q z) fits ds post = post
  post_none ys s others (Counted q) fits ds post = post
  post_none ys s others (Sent q) fits ds post = post
  post_none ys s others (Ended q cause) fits ds post = post

  pub posts_none : (ys : List Saying) (ds : List DownPart) → Saids c mk l old ft ys → Posted c p old ys ds → ds ≡ []
  posts_none _ _ s NonePosted = refl
  posts_none _ _ s (OnePosted y ys before more posted other post) =
      ap₂ (λ us vs. us ++ vs) (posts_none ys before (saids_before c mk l old ft y ys s) posted)
      (post_none ys (saids_before c mk l old ft y ys s) (others_posted c p old ys before posted) y s.fits.0 more post)

nothing_ordered : in_order [] ≡ []
unfolding parts_with_all
nothing_ordered = refl

-- ---- events of the parent

-- what the parent does, but an end
abbrev pub IsParents : ProcessEvent → Type 0
IsParents (Sends k u d) = Unit {0}
IsParents (Accepts k w) = Unit {0}
IsParents (Reverts k w d) = Unit {0}
IsParents (Ignores k w) = Unit {0}
IsParents (Changes k u) = Unit {0}
IsParents e = ⊥

still_runs : (e : ProcessEvent) (h : List ProcessEvent) → IsParents e → is_ended (e ∷ h) ≡ is_ended h
still_runs (Sends k u d) h is = refl
still_runs (Accepts k w) h is = refl
still_runs (Reverts k w d) h is = refl
still_runs (Ignores k w) h is = refl
still_runs (Changes k u) h is = refl
still_runs (_) h is = absurd is

more_seen : (c : Config) (p : ℕ) (mk : List Making) (s : Seen) (e : ProcessEvent) (g : List ProcessEvent) → IsParents e → Fits (tree_look c p mk) (tree_begin c p mk) (e ∷ g) → TreeSeen c p mk s g → TreeSeen c p mk s (e ∷ g)
more_seen c p mk s (Sends k u d) g is fits t = record { fits = fits; stages = t.stages; owners = t.owners; unmade = λ x own later. let u = t.unmade x own later in record { unheld = u.unheld; with_above = u.with_above } }
more_seen c p mk s (Accepts k w) g is fits t = record { fits = fits; stages = t.stages; owners = t.owners; unmade = λ x own later. let u = t.unmade x own later in record { unheld = u.unheld; with_above = u.with_above } }
more_seen c p mk s (Reverts k w d) g is fits t = record { fits = fits; stages = t.stages; owners = t.owners; unmade = λ x own later. let u = t.unmade x own later in record { unheld = u.unheld; with_above = u.with_above } }
more_seen c p mk s (Ignores k w) g is fits t = record { fits = fits; stages = t.stages; owners = t.owners; unmade = λ x own later. let u = t.unmade x own later in record { unheld = u.unheld; with_above = u.with_above } }
more_seen c p mk s (Changes k w) g is fits t = record { fits = fits; stages = t.stages; owners = t.owners; unmade = λ x own later. let u = t.unmade x own later in record { unheld = u.unheld; with_above = u.with_above } }
more_seen c p mk s (_) g is fits t = absurd is

until_parents : (e : ProcessEvent) (h : List ProcessEvent) → IsParents e → until_end (e ∷ h) ≡ (if is_ended h then until_end h else e ∷ until_end h)
until_parents (Sends k u d) h is = refl
until_parents (Accepts k w) h is = refl
until_parents (Reverts k w d) h is = refl
until_parents (Ignores k w) h is = refl
until_parents (Changes k u) h is = refl
until_parents (_) h is = absurd is

-- an event of the parent, behind which the process answers the same
pub parents_ties : (c : Config) (p : ℕ) (mk : List Making) (f f' : Facts) (s : Seen) (e : ProcessEvent) (h : List ProcessEvent) → IsParents e → (is_ended h ≡ false → TreeFacts c p mk f h → TreeFacts c p mk f' (e ∷ h)) → TreeTies c p mk f s h
    → TreeTies c p mk f' s (e ∷ h)
parents_ties c p mk f f' s e h is keeps t = record { facts = λ runs. now (sym (still_runs e h is) ∙ runs); seen = subst (TreeSeen c p mk s) (sym (until_parents e h is)) (by_end (is_ended h) refl) }
  where
    now : is_ended h ≡ false → TreeFacts c p mk f' (e ∷ h)
    now runs = keeps runs (t.facts runs)

    by_end : (b : Bool) → is_ended h ≡ b → TreeSeen c p mk s (if b then until_end h else e ∷ until_end h)
    by_end true over = t.seen
    by_end false runs = subst (λ g. TreeSeen c p mk s (e ∷ g)) (sym (all_events h runs)) (more_seen c p mk s e h is (now runs).fits (subst (TreeSeen c p mk s) (all_events h runs) t.seen))

-- ---- entries

-- what stands behind an entry, beside the ties of before
pub record Behind (c : Config) (p : ℕ) (mk : List Making) (ms : List Moment) (m : Moment) : Type 0 where
  pub ties : TreeTies c p mk (facts_now c (m ∷ ms)) (seen_now c p (m ∷ ms)) (m.events p ++ events_of p ms)
  pub flows : Flows (m.events p ++ events_of p ms)
  pub over : is_ended (m.events p ++ events_of p ms) ≡ is_some (ended p (m.says ++ said ms))
  pub killed : (ended p (m.says ++ said ms) ≡ ended p (said ms)) ⊎ (ended p (m.says ++ said ms) ≡ Some Killed)

-- one that is told of a live context isn't ended
pub told_runs : (c : Config) (p : ℕ) (mk : List Making) → Lined mk → p < 16 → (ms : List Moment) → FactsTies c.tabs mk (facts_now c ms) → AllFit c.tabs (said ms) → is_ended (events_of p ms) ≡ is_some (ended p (said ms))
    → (x : ContextId) → (facts_now c ms).contexts.live x ≡ true → is_told (facts_now c ms) p x ≡ true → is_ended (events_of p ms) ≡ false
told_runs c p mk l low ms ft fit over x live is = by_end (is_ended (events_of p ms)) refl
  where
    by_end : (v : Bool) → is_ended (events_of p ms) ≡ v → is_ended (events_of p ms) ≡ false
    by_end false runs = runs
    by_end true ends = true_false (is_told (facts_now c ms) p x) is (untold c p mk l low (said ms) ft fit (sym over ∙ ends) [] (record { told = tt; fits = tt }) tt x (ft.live_known x live))

-- one event of the parent
record OneEvent (c : Config) (p : ℕ) (ms : List Moment) (m : Moment) (e : ProcessEvent) : Type 0 where
  parents : IsParents e
  did : m.did p ≡ []
  events : m.events p ≡ e ∷ []
  flow : Flow e (events_of p ms)
  ends : ended p (m.says ++ said ms) ≡ ended p (said ms)

module _ (c : Config) (p : ℕ) (mk : List Making) (l : Lined mk) (low : p < 16) (ms : List Moment) (m : Moment) (ft : FactsTies c.tabs mk (facts_now c ms)) (fit : AllFit c.tabs (said ms)) (told_by : AllByRecursion (IsToldBy mk) (makings_said m.says))
    (flows : Flows (events_of p ms)) (over : is_ended (events_of p ms) ≡ is_some (ended p (said ms))) (t : TreeTies c p mk (facts_now c ms) (seen_now c p ms) (events_of p ms))
  where
    abbrev h : List ProcessEvent
    h = events_of p ms

    none_of : (o : Option EndCause) → is_some o ≡ false → o ≡ None
    none_of None e = refl
    none_of (Some cause) e = absurd cc

    alive_of : is_ended (events_of p ms) ≡ false → ended p (said ms) ≡ None
    alive_of runs = none_of (ended p (said ms)) (sym over ∙ runs)

    behind_one : (e : ProcessEvent) → OneEvent c p ms m e → (is_ended (events_of p ms) ≡ false → TreeFacts c p mk (facts_now c ms) (events_of p ms) → TreeFacts c p mk (facts_now c (m ∷ ms)) (m.events p ++ events_of p ms)) → Behind c p mk ms m
    behind_one e one keeps = record {
      ties = subst (λ es. TreeTies c p mk (facts_now c (m ∷ ms)) (seen_now c p (m ∷ ms)) (es ++ h)) (sym one.events)
          (subst (λ u. TreeTies c p mk (facts_now c (m ∷ ms)) u (e ∷ h)) (ap (λ ds. own_asked c.tabs p (ds ++ did_by p ms)) (sym one.did))
          (parents_ties c p mk (facts_now c ms) (facts_now c (m ∷ ms)) (seen_now c p ms) e h one.parents (λ runs tf. subst (λ es. TreeFacts c p mk (facts_now c (m ∷ ms)) (es ++ h)) one.events (keeps runs tf)) t));
      flows = subst (λ es. Flows (es ++ h)) (sym one.events) (one.flow, flows);
      over = ap (λ es. is_ended (es ++ h)) one.events ∙ still_runs e h one.parents ∙ over ∙ ap is_some (sym one.ends);
      killed = inl one.ends;
    }

    -- ---- what is told

    told_parents : (k : ℕ) (ys : List Saying) (o : Option DownBundle) → IsParents (told k ys o)
    told_parents k ys None = tt
    told_parents k ys (Some d) = tt

    flow_told : (k : ℕ) (ys : List Saying) (o : Option DownBundle) → (is_some o ≡ true → is_ended (events_of p ms) ≡ false) → Flow (told k ys o) (events_of p ms)
    flow_told k ys None runs = tt
    flow_told k ys (Some d) runs = runs refl

    pub behind_told : (is_ended (events_of p ms) ≡ false → ChildrenLive c p mk (facts_now c ms) (events_of p ms)) → (posts : List DownPart) → IsTold c p ms m posts → Behind c p mk ms m
    behind_told children posts is =
        behind_one (told (length ms + 1) m.says (bundle_for (facts_now c (m ∷ ms)) p (in_order posts)))
        (record {
          parents = told_parents (length ms + 1) m.says (bundle_for (facts_now c (m ∷ ms)) p (in_order posts));
          did = is.did;
          events = is.events;
          flow = flow_told (length ms + 1) m.says (bundle_for (facts_now c (m ∷ ms)) p (in_order posts)) (λ some. runs_if (is_ended h) refl some);
          ends = ended_still p m.says (said ms) (others_posted c p (said ms) m.says posts is.posted);
        })
        (λ runs tf. told_keeps c p ms m mk l low ft fit told_by runs flows tf (children runs) posts is)
      where
        runs_if : (b : Bool) → is_ended (events_of p ms) ≡ b → is_some (bundle_for (facts_now c (m ∷ ms)) p (in_order posts)) ≡ true → is_ended (events_of p ms) ≡ false
        runs_if false runs some = runs
        runs_if true ends some =
            let none : posts ≡ [] = posts_none c p mk l low (said ms) ft fit (sym over ∙ ends) m.says posts (record { told = told_by; fits = is.fits }) is.posted in
            true_false (is_some (bundle_for (facts_now c (m ∷ ms)) p (in_order posts))) some (ap (λ ds. is_some (bundle_for (facts_now c (m ∷ ms)) p (in_order ds))) none ∙ ap (λ ds. is_some (bundle_for (facts_now c (m ∷ ms)) p ds)) nothing_ordered)

    -- ---- a kill

    abbrev end_said : List Saying
    end_said = Sent p ∷ Ended p Killed ∷ []

    kill_fit : (k : ℕ) (d : DownBundle) → d.parts ≡ downs.Kill ∷ [] → is_ended (events_of p ms) ≡ false → (x : ContextId) → Tells (tree_look c p mk) (tree_begin c p mk) (Sends k (Said end_said) d) (Said end_said) d x (events_of p ms)
    kill_fit k d kill runs x = record {
      done = record {
        done = record {
          new = λ e. stays (sym does ∙ e);
          with_above = λ e own new. goes (sym does ∙ e);
          below_live = λ e y up. stays (sym does ∙ e);
          by_owner = λ e y up. stays (sym does ∙ e);
          cleared = λ y up. inl refl;
        };
        by_others = λ e. stays (sym does ∙ e);
        owned = λ e same. stays (sym does ∙ e);
        creates = λ e. stays (sym does ∙ e);
        creates_others = λ e. absurd cc;
        children = tt;
      };
      told = subst (λ r. Told (is_told_by x) r Stays ((tree_look c p mk).tells x d) (life (tree_look c p mk) (tree_begin c p mk) x h)) (sym (registers (group_in c.tabs mk x)))
          (nothing_told (is_told_by x));
      brought = subst (λ r. Brought (is_told_by x) r ((tree_look c p mk).brings x d) []
          (filter (is_alive (tree_look c p mk) (tree_begin c p mk) (Sends k (Said end_said) d ∷ h)) (attached (tree_look c p mk) x h ++ [])))
          (sym (registers (group_in c.tabs mk x))) (nothing_brought (is_told_by x)
          (filter (is_alive (tree_look c p mk) (tree_begin c p mk) (Sends k (Said end_said) d ∷ h)) (attached (tree_look c p mk) x h ++ [])));
      others = subst (AllByRecursion _) (sym brings) tt;
      handed = λ now. subst (λ r. Handed (is_told_by x) r Same ((tree_look c p mk).handed x d) (owned (tree_look c p mk) (tree_begin c p mk) x (Sends k (Said end_said) d ∷ h)))
          (sym (registers (group_in c.tabs mk x)))
          (nothing_handed (is_told_by x) (owned (tree_look c p mk) (tree_begin c p mk) x (Sends k (Said end_said) d ∷ h)));
      only_live = inl handed;
    }
      where
        is_told_by : ContextId → Bool
        is_told_by x = trees.is_told (tree_look c p mk) (tree_begin c p mk) x h

        stays : {A : Type 0} → Stays ≡ Comes → A
        stays e = absurd cc

        goes : {A : Type 0} → Stays ≡ Goes → A
        goes e = absurd cc

        does : (tree_look c p mk).does x (Said end_said) ≡ Stays
        does = refl

        -- a kill registers nothing
        registers : (o : Option GroupId) → option_any (λ g. list_any (registers_group g) d.parts) o ≡ false
        registers None = refl
        registers (Some g) = ap (list_any (registers_group g)) kill

        tells : (tree_look c p mk).tells x d ≡ Stays
        tells = ap (λ ps. parts_tell x (line x mk) (singles ps)) kill

        brings : (tree_look c p mk).brings x d ≡ []
        brings = ap (λ ps. parts_bring x (singles ps)) kill

        handed : (tree_look c p mk).handed x d ≡ Same
        handed = ap (λ ps. handed_unless (parts_tell x (line x mk) (singles ps)) (parts_handed x (singles ps))) kill

        nothing_told : (b : Bool) → Told b false Stays ((tree_look c p mk).tells x d) (life (tree_look c p mk) (tree_begin c p mk) x (events_of p ms))
        nothing_told true = tells
        nothing_told false = tells

        nothing_brought : (b : Bool) (all : List ContextId) → Brought b false ((tree_look c p mk).brings x d) [] all
        nothing_brought true all = brings
        nothing_brought false all = brings

        nothing_handed : (b v : Bool) → Handed b false Same ((tree_look c p mk).handed x d) v
        nothing_handed true v = handed
        nothing_handed false v = tt

    pub behind_killed : (d : DownBundle) → IsKilled c p ms m d → Behind c p mk ms m
    unfolding ended
    behind_killed d is = record {
      ties = subst (λ es. TreeTies c p mk (facts_now c (m ∷ ms)) (seen_now c p (m ∷ ms)) (es ++ h)) (sym is.events) (record { facts = λ runs. absurd (ends_now runs); seen = seen_now_is });
      flows = subst (λ es. Flows (es ++ h)) (sym is.events) (tt, (runs, flows));
      over = ap (λ es. is_ended (es ++ h)) is.events ∙ sym (ap (λ ys. is_some (ended p (ys ++ said ms))) is.says ∙ ap (λ (b : Bool). is_some (if b then Some Killed else ended p (said ms))) (eq-eqb p p refl));
      killed = inr (ap (λ ys. ended p (ys ++ said ms)) is.says ∙ ap (λ (b : Bool). if b then Some Killed else ended p (said ms)) (eq-eqb p p refl));
    }
      where
        runs : is_ended (events_of p ms) ≡ false
        runs = over ∙ ap is_some is.running

        ends_now : true ≡ false → ⊥
        ends_now e = absurd cc

        seen_same : TreeSeen c p mk (seen_now c p (m ∷ ms)) (until_end (events_of p ms))
        seen_same = subst (λ u. TreeSeen c p mk u (until_end h)) (ap (λ ds. own_asked c.tabs p (ds ++ did_by p ms)) (sym is.did)) t.seen

        fits : Fits (tree_look c p mk) (tree_begin c p mk) (Sends (length ms + 1) (Said m.says) d ∷ events_of p ms)
        fits = ((λ r. subst (λ ys. Fit (tree_look c p mk) (tree_begin c p mk) (Sends (length ms + 1) (Said ys) d) h) (sym is.says) (kill_fit (length ms + 1) d is.kill runs)), (t.facts runs).fits)

        with_sends : TreeSeen c p mk (seen_now c p (m ∷ ms)) (Sends (length ms + 1) (Said m.says) d ∷ until_end (events_of p ms))
        with_sends = subst (λ g. TreeSeen c p mk (seen_now c p (m ∷ ms)) (Sends (length ms + 1) (Said m.says) d ∷ g)) (sym (all_events h runs))
            (more_seen c p mk (seen_now c p (m ∷ ms)) (Sends (length ms + 1) (Said m.says) d) h tt fits (subst (TreeSeen c p mk (seen_now c p (m ∷ ms))) (all_events h runs) seen_same))

        seen_now_is : TreeSeen c p mk (seen_now c p (m ∷ ms)) (until_end (Ends ∷ Sends (length ms + 1) (Said m.says) d ∷ events_of p ms))
        seen_now_is = subst (TreeSeen c p mk (seen_now c p (m ∷ ms)))
            (sym (ap (λ (b : Bool). if b then (if b then until_end h else Sends (length ms + 1) (Said m.says) d ∷ until_end h) else (if b then until_end h else Sends (length ms + 1) (Said m.says) d ∷ until_end h)) runs)) with_sends

    -- ---- what is heard

    module _ (b : UpBundle) (first : IsFirst (Own b) (writes_waiting (events_of p ms))) where
      heard_as : Option DownBundle → ProcessEvent
      heard_as None = Accepts (length ms + 1) (Own b)
      heard_as (Some d) = Reverts (length ms + 1) (Own b) d

      heard_done : (answer : Answer) (back : Option DownBundle) → is_done answer ≡ true → heard (length ms + 1) (Own b) answer m.says back ≡ heard_as back ∷ []
      unfolding heard_as
      heard_done (answers.Parts ns) None done = ap (λ (v : Bool). (if v then Accepts (length ms + 1) (Own b) else Ignores (length ms + 1) (Own b)) ∷ []) done
      heard_done (answers.Parts ns) (Some d) done = refl
      heard_done (_) back done = absurd cc

      said_core : (core : List Saying) (core_ends : ended p (core ++ said ms) ≡ ended p (said ms)) → Says c p ms m core → ended p (m.says ++ said ms) ≡ ended p (said ms)
      said_core core core_ends says = ap (λ ys. ended p (ys ++ said ms)) says.is ∙ sendings p says.sent core (said ms) says.all_sent ∙ core_ends

      one_event : Hearing c p ms m b → (e : ProcessEvent) × OneEvent c p ms m e
      unfolding ended heard_as
      one_event (AsMade x a e) = (Accepts (length ms + 1) (Own b), record { parents = tt; did = e.did; events = e.events; flow = first; ends = said_core (Made p x a ∷ []) refl e.says })
      one_event (AsLate x a d e) = (
        Reverts (length ms + 1) (Own b) d,
        record { parents = tt; did = e.did; events = e.events; flow = record { first = first; alive = over ∙ ap is_some e.alive }; ends = said_core (BornDead p x a ∷ []) refl e.says },
      )
      one_event (AsDrop x e) = (Accepts (length ms + 1) (Own b), record { parents = tt; did = e.did; events = e.events; flow = first; ends = said_core (Removed x (Some p) ∷ []) refl e.says })
      one_event (AsOldDrop x e) = (Ignores (length ms + 1) (Own b), record { parents = tt; did = e.did; events = e.events; flow = first; ends = ap (λ ys. ended p (ys ++ said ms)) e.says })
      one_event (AsAcks e) = (Accepts (length ms + 1) (Own b), record { parents = tt; did = e.did; events = e.events; flow = first; ends = ackings p m.says (said ms) e.says })
      one_event (AsCommit x u ns None e) = (
        Accepts (length ms + 1) (Own b),
        record { parents = tt; did = e.did; events = e.events ∙ heard_done m.answer None e.done; flow = first; ends = said_core (Wrote x (applied ns u) ∷ Counted p ∷ []) refl e.says },
      )
      one_event (AsCommit x u ns (Some d) e) = (
        Reverts (length ms + 1) (Own b) d,
        record {
          parents = tt;
          did = e.did;
          events = e.events ∙ heard_done m.answer (Some d) e.done;
          flow = record { first = first; alive = told_runs c p mk l low ms ft fit over x e.live e.told };
          ends = said_core (Wrote x (applied ns u) ∷ Counted p ∷ []) refl e.says;
        },
      )
      one_event (AsOldCommit x u e) = (Ignores (length ms + 1) (Own b), record { parents = tt; did = e.did; events = e.events; flow = first; ends = ap (λ ys. ended p (ys ++ said ms)) e.says })
      one_event (AsOver e) = (Ignores (length ms + 1) (Own b), record { parents = tt; did = e.did; events = e.events; flow = first; ends = ap (λ ys. ended p (ys ++ said ms)) e.says })

      pub behind_heard : Hearing c p ms m b → Behind c p mk ms m
      behind_heard hearing =
          let one : (e : ProcessEvent) × OneEvent c p ms m e = one_event hearing in
          behind_one one.0 one.1 (λ runs tf. heard_keeps c p ms m mk b l low ft told_by (alive_of runs) runs flows first tf hearing)
