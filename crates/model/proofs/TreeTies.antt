-- The trees of an honest process, and what the parent answers of them, behind every entry.
use Rattle.std.proofs.Common.{◌≡◌, ℕ, Bool, true, false, if◌then◌else◌, List, [], ◌∷◌, ◌++◌, refl, ap, sym, subst, ◌∙◌}
use Rattle.std.specs.List.{AllByRecursion}
use Rattle.fission_ids.specs.declared.context.ContextId.{ContextId}
use Rattle.transaction.specs.Transaction.{Changes}
use Rattle.wire_msgs.specs.declared.bundle.DownBundle.{DownBundle}
use Rattle.wire_msgs.specs.declared.bundle.UpBundle.{UpBundle}
use Rattle.wire_msgs.specs.declared.config.Config.{Config}
use Rattle.wire_msgs.specs.declared.part.DownPart.TheVariants as downs
use Rattle.protocol.specs.OwnActs.{next_frame}
use Rattle.protocol.specs.Questions.{Facts}
use Rattle.protocol.specs.Seen.{Seen, Doing}
use Rattle.protocol.specs.Seen.Doing.{Framed, Went, Wrote as OwnWrote}
use Rattle.protocol.specs.SeenAfter.{seen_after}
use Rattle.traces.specs.Event.Event.{Writes, Does}
use Rattle.traces.specs.Links.{is_ended}
use Rattle.traces.specs.Rules.{Flows}
use Rattle.trees.specs.Rules.{Fits}
use Rattle.model.specs.Lines.{Making, makings_done}
use Rattle.model.specs.Moments.{Moment, Written, ProcessEvent, said, did_by, events_of, facts_now, seen_now, own_known}
use Rattle.model.specs.Moments.Written.{Own}
use Rattle.model.specs.Parent.{asked}
use Rattle.model.specs.Process.{own_asked}
use Rattle.model.specs.Trees.{tree_look, tree_begin}
use Rattle.model.proofs.AskedMore.{own_asked_more}
use Rattle.model.proofs.Entry.{IsIdle, IsSet, IsFrame, IsDrop}
use Rattle.model.proofs.Holding.{SeenTies}
use Rattle.model.proofs.Lining.{Lined, IsToldBy}
use Rattle.model.proofs.TreeEvents.{until_end, all_events, never_ends, flows_still}
use Rattle.model.proofs.TreeFacts.{TreeFacts}
use Rattle.model.proofs.TreeOwn.{IsPlain, TreeSeen, wrote_plain, wrote_frame, wrote_drop}

-- what the process and the parent answer of the trees is what the events of the process tell
pub record TreeTies (c : Config) (p : ℕ) (mk : List Making) (f : Facts) (s : Seen) (h : List ProcessEvent) : Type 0 where
  pub facts : is_ended h ≡ false → TreeFacts c p mk f h
  pub seen : TreeSeen c p mk s (until_end h)

-- ---- own events

-- what the process does itself is seen of it, ended or not
until_own : (w : Written) (h : List ProcessEvent) → until_end (Writes w ∷ h) ≡ Writes w ∷ until_end h
until_own w h = by_end (is_ended h)
  where
    by_end : (b : Bool) → (if b then Writes w ∷ until_end h else Writes w ∷ until_end h) ≡ Writes w ∷ until_end h
    by_end true = refl
    by_end false = refl

until_deed : (d : DownBundle) (h : List ProcessEvent) → until_end (Does d ∷ h) ≡ Does d ∷ until_end h
until_deed d h = by_end (is_ended h)
  where
    by_end : (b : Bool) → (if b then Does d ∷ until_end h else Does d ∷ until_end h) ≡ Does d ∷ until_end h
    by_end true = refl
    by_end false = refl

-- the fits of who isn't ended are those up to its end
fits_all : (c : Config) (p : ℕ) (mk : List Making) (s : Seen) (h : List ProcessEvent) → TreeSeen c p mk s (until_end h) → is_ended h ≡ false → Fits (tree_look c p mk) (tree_begin c p mk) h
fits_all c p mk s h t runs = subst (Fits (tree_look c p mk) (tree_begin c p mk)) (all_events h runs) t.fits

-- a write leaves lives, owners and names
wrote_facts : (c : Config) (p : ℕ) (mk : List Making) (f : Facts) (w : Written) (h : List ProcessEvent) → Fits (tree_look c p mk) (tree_begin c p mk) (Writes w ∷ h) → TreeFacts c p mk f h → TreeFacts c p mk f (Writes w ∷ h)
wrote_facts c p mk f w h fits t = record { fits = fits; told = t.told; lives = t.lives; owners = t.owners; known = t.known; own_known = t.own_known }

deed_facts : (c : Config) (p : ℕ) (mk : List Making) (f : Facts) (d : DownBundle) (h : List ProcessEvent) → TreeFacts c p mk f h → TreeFacts c p mk f (Does d ∷ h)
deed_facts c p mk f d h t = record { fits = ((λ r. tt), t.fits); told = t.told; lives = t.lives; owners = t.owners; known = t.known; own_known = t.own_known }

deed_seen : (c : Config) (p : ℕ) (mk : List Making) (s : Seen) (d : DownBundle) (g : List ProcessEvent) → TreeSeen c p mk s g → TreeSeen c p mk s (Does d ∷ g)
deed_seen c p mk s d g t = record {
  fits = ((λ r. tt), t.fits);
  stages = t.stages;
  owners = t.owners;
  unmade = λ x own later. let u = t.unmade x own later in record { unheld = u.unheld; with_above = u.with_above };
}

pub wrote_ties : (c : Config) (p : ℕ) (mk : List Making) (f : Facts) (s' : Seen) (w : Written) (h : List ProcessEvent) → (is_ended h ≡ false → TreeFacts c p mk f h) → TreeSeen c p mk s' (Writes w ∷ until_end h)
    → TreeTies c p mk f s' (Writes w ∷ h)
wrote_ties c p mk f s' w h facts seen =
    let now : TreeSeen c p mk s' (until_end (Writes w ∷ h)) = subst (TreeSeen c p mk s') (sym (until_own w h)) seen in
    record { facts = λ runs. wrote_facts c p mk f w h (fits_all c p mk s' (Writes w ∷ h) now runs) (facts runs); seen = now }

module _ (c : Config) (p : ℕ) (mk : List Making) (l : Lined mk) (ms : List Moment) (m : Moment) (st : SeenTies c.tabs p mk (seen_now c p ms)) (t : TreeTies c p mk (facts_now c ms) (seen_now c p ms) (events_of p ms)) where
  abbrev h : List ProcessEvent
  h = events_of p ms

  -- where nothing is said
  same_facts : m.says ≡ [] → facts_now c ms ≡ facts_now c (m ∷ ms)
  same_facts none = ap (λ ys. asked c.tabs (ys ++ said ms)) (sym none)

  -- one thing is done
  done_one : (d : Doing) → m.did p ≡ d ∷ [] → seen_now c p (m ∷ ms) ≡ seen_after p d (seen_now c p ms)
  done_one d is = ap (λ ds. own_asked c.tabs p (ds ++ did_by p ms)) is ∙ own_asked_more c.tabs p d (did_by p ms)

  by_events : (es : List ProcessEvent) (s' : Seen) → m.says ≡ [] → m.events p ≡ es → seen_now c p (m ∷ ms) ≡ s' → TreeTies c p mk (facts_now c ms) s' (es ++ events_of p ms)
      → TreeTies c p mk (facts_now c (m ∷ ms)) (seen_now c p (m ∷ ms)) (m.events p ++ events_of p ms)
  by_events es s' none events seen ties =
      subst (λ f. TreeTies c p mk f (seen_now c p (m ∷ ms)) (m.events p ++ h)) (same_facts none)
      (subst (λ u. TreeTies c p mk (facts_now c ms) u (m.events p ++ h)) (sym seen)
      (subst (λ es. TreeTies c p mk (facts_now c ms) s' (es ++ h)) (sym events) ties))

  pub idle_ties : IsIdle c p ms m → TreeTies c p mk (facts_now c (m ∷ ms)) (seen_now c p (m ∷ ms)) (m.events p ++ events_of p ms)
  idle_ties is = by_events [] (seen_now c p ms) is.says is.events (ap (λ ds. own_asked c.tabs p (ds ++ did_by p ms)) is.did) t

  pub set_ties : (x : ContextId) (d : Changes) (b : UpBundle) → IsSet c p ms m x d b → TreeTies c p mk (facts_now c (m ∷ ms)) (seen_now c p (m ∷ ms)) (m.events p ++ events_of p ms)
  unfolding seen_after
  set_ties x d b is =
      by_events (Writes (Own b) ∷ []) (seen_after p (OwnWrote x d) (seen_now c p ms)) is.says is.events (done_one (OwnWrote x d) is.did)
      (wrote_ties c p mk (facts_now c ms) (seen_after p (OwnWrote x d) (seen_now c p ms)) (Own b) h t.facts
      (wrote_plain c p mk l (seen_now c p ms) st (until_end h) (never_ends h) t.seen b (subst (AllByRecursion IsPlain) (sym is.sent.parts) (tt, tt)) (seen_after p (OwnWrote x d) (seen_now c p ms)) (λ y. refl) (λ y. refl) refl))

  deed_ties : (b : UpBundle) (d : DownBundle) (s' : Seen) → TreeSeen c p mk s' (Writes (Own b) ∷ Does d ∷ until_end (events_of p ms)) → TreeTies c p mk (facts_now c ms) s' (Writes (Own b) ∷ Does d ∷ events_of p ms)
  deed_ties b d s' seen =
      wrote_ties c p mk (facts_now c ms) s' (Own b) (Does d ∷ h) (λ runs. deed_facts c p mk (facts_now c ms) d h (t.facts runs))
      (subst (λ g. TreeSeen c p mk s' (Writes (Own b) ∷ g)) (sym (until_deed d h)) seen)

  pub frame_ties : Flows (events_of p ms) → (a : ContextId) (b : UpBundle) → IsFrame c p ms m a b → AllByRecursion (IsToldBy mk) (makings_done (m.did p)) → TreeTies c p mk (facts_now c (m ∷ ms)) (seen_now c p (m ∷ ms)) (m.events p ++ events_of p ms)
  frame_ties flows a b is told =
      let z : ContextId = next_frame p (seen_now c p ms) in
      let made : AllByRecursion (IsToldBy mk) (makings_done (Framed (next_frame p (seen_now c p ms)) a ∷ [])) = subst (λ ds. AllByRecursion (IsToldBy mk) (makings_done ds)) is.did told in
      let d : DownBundle = record { epoch = record { 0 = 0 }; parts = downs.Create (own_known (seen_now c p (m ∷ ms)) (next_frame p (seen_now c p ms)) a) ∷ [] } in
      by_events (Writes (Own b) ∷ Does d ∷ []) (seen_after p (Framed (next_frame p (seen_now c p ms)) a) (seen_now c p ms)) is.says is.events (done_one (Framed (next_frame p (seen_now c p ms)) a) is.did)
      (deed_ties b d (seen_after p (Framed (next_frame p (seen_now c p ms)) a) (seen_now c p ms))
      (wrote_frame c p mk l (seen_now c p ms) st (Does d ∷ until_end h) (never_ends h) (deed_seen c p mk (seen_now c p ms) d (until_end h) t.seen) b (next_frame p (seen_now c p ms)) a
      (record { next = refl; held = is.held; made = made.0 }) is.sent.parts (tt, flows_still h flows)))

  pub drop_ties : Flows (events_of p ms) → (x : ContextId) (b : UpBundle) → IsDrop c p ms m x b → TreeTies c p mk (facts_now c (m ∷ ms)) (seen_now c p (m ∷ ms)) (m.events p ++ events_of p ms)
  drop_ties flows x b is =
      let d : DownBundle = record { epoch = record { 0 = 0 }; parts = downs.Discard x ∷ [] } in
      by_events (Writes (Own b) ∷ Does d ∷ []) (seen_after p (Went x) (seen_now c p ms)) is.says is.events (done_one (Went x) is.did)
      (deed_ties b d (seen_after p (Went x) (seen_now c p ms))
      (wrote_drop c p mk l (seen_now c p ms) st (Does d ∷ until_end h) (never_ends h) (deed_seen c p mk (seen_now c p ms) d (until_end h) t.seen) b x is.held is.owned is.sent.parts (tt, flows_still h flows)))
