-- The children of a context, as a process answers them in pre-order, are those that its events tell.
use Rattle.std.proofs.Common.{◌≡◌, ℕ, ◌+◌, ◌==◌, Bool, true, false, not, ◌&&◌, if◌then◌else◌, Some, List, [], ◌∷◌, ◌++◌, filter, map, length, zero, suc, refl, ap, ap₂, sym, subst, ◌∙◌, cond}
use Rattle.std.specs.List.{AllByRecursion, list_any}
use Rattle.std.proofs.lemmas.List.{append-nil}
use Rattle.std.proofs.lemmas.List.Elements.{filter-append}
use Rattle.fission_ids.specs.declared.context.ContextId.{ContextId}
use Rattle.fission_ids.specs.Ids.{same_context}
use Rattle.wire_msgs.specs.declared.bundle.DownBundle.{DownBundle}
use Rattle.wire_msgs.specs.declared.bundle.UpBundle.{UpBundle}
use Rattle.wire_msgs.specs.declared.config.Config.{Config}
use Rattle.wire_msgs.specs.declared.part.UpPart.{UpPart}
use Rattle.wire_msgs.specs.declared.part.UpPart.TheVariants as ups
use Rattle.protocol.specs.Fold.{after_parts}
use Rattle.protocol.specs.OwnActs.{next_frame}
use Rattle.protocol.specs.Questions.{option_any}
use Rattle.protocol.specs.Seen.{Seen, Doing}
use Rattle.protocol.specs.Seen.Doing.{Framed, Went, Wrote as OwnWrote, Took}
use Rattle.protocol.specs.SeenAfter.{seen_after}
use Rattle.protocol.specs.Start.{nth_context, numbers, contexts_of, is_held_at_start}
use Rattle.protocol.specs.Take.{take_rules, is_kill}
use Rattle.protocol.proofs.Same.{parts_same}
use Rattle.traces.specs.Event.{Bundle}
use Rattle.traces.specs.Event.Event.{Writes, Sends, Takes, Accepts, Reverts, Ignores, Changes, Does, Ends}
use Rattle.traces.specs.Links.{bundles_waiting, is_ended}
use Rattle.traces.specs.Rules.{IsFirst, Flows}
use Rattle.traces.specs.Words.{Stage}
use Rattle.traces.specs.Words.Stage.{Coming, Held, Gone}
use Rattle.trees.specs.Children.{came, held_below}
use Rattle.trees.specs.Look.{moved}
use Rattle.trees.specs.Look.Effect.{Stays, Comes}
use Rattle.trees.specs.Rules.{Keeps}
use Rattle.trees.specs.Words.{stage, is_held}
use Rattle.trees.proofs.Taking.{comings_below, first_new}
use Rattle.model.specs.Lines.{Making, makings_done, line, above_in, is_among}
use Rattle.model.specs.Moments.{Moment, ProcessEvent, did_by, events_of, seen_now}
use Rattle.model.specs.Moments.Written.{Own}
use Rattle.model.specs.Process.{own_asked}
use Rattle.model.specs.Process as own
use Rattle.model.specs.Trees.{comes_if, goes_if, parts_do, parts_make, parts_tell, parts_bring, tree_look, tree_begin}
use Rattle.model.specs.View.{singles}
use Rattle.model.proofs.AskedMore.{own_asked_more}
use Rattle.model.proofs.Cases.{by_if, true_false, same_context_is, same_itself}
use Rattle.model.proofs.Children.{all_join, all_from, filter_of_none}
use Rattle.model.proofs.ChildrenTaken.{stays, MayCome, Midway, MidwayBelow, Taken, behind_parts, taken_all}
use Rattle.model.proofs.DownFits.{DownFits}
use Rattle.model.proofs.Entry.{IsAck, Entry, IsFrame, IsDrop, IsTake, Hearing}
use Rattle.model.proofs.Entry.Entry.{Idle, Sets, Frames, Drops, TakesOne, Tells, Killing, HearsOne}
use Rattle.model.proofs.Entry.Hearing.{AsMade, AsLate, AsDrop, AsOldDrop, AsAcks, AsCommit, AsOldCommit, AsOver}
use Rattle.model.proofs.Holding.{FramedFits, SeenTies}
use Rattle.model.proofs.Lining.{Lined, IsToldBy}
use Rattle.model.proofs.Living.{both_stays}
use Rattle.model.proofs.Ordered.{held_start, held_order_still, framed_new, one_below, went_below}
use Rattle.model.proofs.Preorder.{Preorder, filter_within, filter_all, filter_twice, all_kept, below_of, is_outside}
use Rattle.model.proofs.Stages.{IsParents, told_parents, heard_parents, acks_posted, by_acks, acks_do}
use Rattle.model.proofs.SingleFits.{singles_fit}
use Rattle.model.proofs.Singles.{taken_single}
use Rattle.model.proofs.TreeEvents.{until_end, never_ends, waits_same, flows_still}
use Rattle.model.proofs.TreeLawful.{lawful}
use Rattle.model.proofs.TreeOwn.{TreeSeen, new_z}

-- ---- the children of one

-- of those that came below y, those that are held are the children that the process has
pub record HeldBelow (mk : List Making) (y : ContextId) (s : Seen) (L : ContextId → Stage) (xs : List ContextId) : Type 0 where
  pub order : Preorder mk s.order s.holds
  pub children : below_of mk y s.order ≡ filter (λ x. is_held (L x)) xs
  pub old : AllByRecursion (λ x. L x ≡ Coming → ⊥) xs
  pub below : AllByRecursion (λ x. above_in mk x ≡ Some y) xs

-- with stages that are the same of those
stages_same : (mk : List Making) (y : ContextId) (s : Seen) (L M : ContextId → Stage) (xs : List ContextId) → ((x : ContextId) → above_in mk x ≡ Some y → L x ≡ M x) → HeldBelow mk y s L xs → HeldBelow mk y s M xs
stages_same mk y s L M xs same b = record {
  order = b.order;
  children = b.children ∙ filter_all (λ x. above_in mk x ≡ Some y) (λ x. is_held (L x)) (λ x. is_held (M x)) xs b.below (λ x up. ap is_held (same x up));
  old = both_old xs b.old b.below;
  below = b.below;
}
  where
    both_old : (zs : List ContextId) → AllByRecursion (λ x. L x ≡ Coming → ⊥) zs → AllByRecursion (λ x. above_in mk x ≡ Some y) zs → AllByRecursion (λ x. M x ≡ Coming → ⊥) zs
    both_old [] old below = tt
    both_old (z ∷ zs) old below = ((λ e. old.0 (same z below.0 ∙ e)), both_old zs old.1 below.1)

-- with answers that are the same of the order
answers_same : (mk : List Making) (y : ContextId) (s after : Seen) (L : ContextId → Stage) (xs : List ContextId) → after.order ≡ s.order → ((x : ContextId) → after.holds x ≡ s.holds x) → HeldBelow mk y s L xs → HeldBelow mk y after L xs
answers_same mk y s after L xs order holds b = record {
  order = subst (λ zs. Preorder mk zs after.holds) (sym order) (record { tree = b.order.tree; members = λ x. b.order.members x ∙ sym (holds x) });
  children = ap (below_of mk y) order ∙ b.children;
  old = b.old;
  below = b.below;
}

-- ---- as the events of the process tell it

abbrev pub ChildrenHeld : Config → ℕ → List Making → Seen → List ProcessEvent → Type 0
ChildrenHeld c p mk s g = (y : ContextId) → HeldBelow mk y s (λ x. stage (tree_look c p mk) (tree_begin c p mk) x g) (came (tree_look c p mk) y g)

-- so the process's order has them as they stand there
pub children_held : (c : Config) (p : ℕ) (mk : List Making) (s : Seen) (g : List ProcessEvent) → SeenTies c.tabs p mk s → ChildrenHeld c p mk s g → (y : ContextId)
    → filter (λ x. option_any (same_context y) (s.above x)) s.order ≡ held_below (tree_look c p mk) (tree_begin c p mk) y g
children_held c p mk s g t b y =
    filter_within (λ x. option_any (same_context y) (s.above x)) (λ x. option_any (same_context y) (above_in mk x)) s.order
    (λ x among. ap (option_any (same_context y)) (t.held_above x (sym ((b y).order.members x) ∙ among)))
    ∙ (b y).children

pub held_at_start : (c : Config) (p : ℕ) (mk : List Making) → Lined mk → ChildrenHeld c p mk (seen_now c p []) (until_end (events_of p []))
unfolding own.order
held_at_start c p mk l y = record {
  order = held_start c.tabs mk l p;
  children = filter_of_none (λ x. option_any (same_context y) (above_in mk x)) (filter (is_held_at_start c.tabs p) (contexts_of c.tabs)) (all_kept (λ x. option_any (same_context y) (above_in mk x) ≡ false) (is_held_at_start c.tabs p) (contexts_of c.tabs) (tops 1 (length c.tabs)));
  old = tt;
  below = tt;
}
  where
    tops : (k n : ℕ) → AllByRecursion (λ x. option_any (same_context y) (above_in mk x) ≡ false) (map nth_context (numbers k n))
    tops k zero = tt
    tops k (suc n) = (ap (option_any (same_context y)) (l.tabs (nth_context k) refl), tops (suc k) n)

-- ---- what the process writes and takes

module _ (c : Config) (p : ℕ) (mk : List Making) (l : Lined mk) where
  abbrev stage_of : ContextId → List ProcessEvent → Stage
  stage_of x g = stage (tree_look c p mk) (tree_begin c p mk) x g

  -- nothing of a tree
  pub wrote_nothing : (s : Seen) (g : List ProcessEvent) (b : UpBundle) → ((x : ContextId) (ln : List ContextId) → parts_do x ln b.parts ≡ Stays) → ((y : ContextId) → parts_make y b.parts ≡ []) → ChildrenHeld c p mk s g → ChildrenHeld c p mk s (Writes (Own b) ∷ g)
  wrote_nothing s g b stays none h y =
      subst (HeldBelow mk y s (λ x. stage_of x (Writes (Own b) ∷ g))) (sym (ap (λ zs. came (tree_look c p mk) y g ++ zs) (none y) ∙ append-nil (came (tree_look c p mk) y g)))
      (stages_same mk y s (λ x. stage_of x g) (λ x. stage_of x (Writes (Own b) ∷ g)) (came (tree_look c p mk) y g)
      (λ x up. sym (ap (λ d. moved d (stage_of x g)) (stays x (line x mk)))) (h y))

  module _ (s : Seen) (st : SeenTies c.tabs p mk s) (g : List ProcessEvent) (h : ChildrenHeld c p mk s g) where
    -- it makes a frame
    wrote_frame : (b : UpBundle) (z a : ContextId) → FramedFits p mk s z a → b.parts ≡ ups.Create z a ∷ [] → stage (tree_look c p mk) (tree_begin c p mk) z g ≡ Coming → ChildrenHeld c p mk (seen_after p (Framed z a) s) (Writes (Own b) ∷ g)
    unfolding seen_after
    wrote_frame b z a fits is new y =
        subst (HeldBelow mk y (seen_after p (Framed z a) s) (λ x. stage_of x (Writes (Own b) ∷ g))) (sym (ap (λ zs. came (tree_look c p mk) y g ++ zs) (ap (parts_make y) is)))
        (stages_same mk y (seen_after p (Framed z a) s) L (λ x. stage_of x (Writes (Own b) ∷ g)) (came (tree_look c p mk) y g ++ added)
        (λ x up. sym (ap (λ d. moved d (stage_of x g)) (ap (parts_do x (line x mk)) is ∙ both_stays (comes_if (same_context x z))))) now)
      where
        L : ContextId → Stage
        L x = moved (comes_if (same_context x z)) (stage (tree_look c p mk) (tree_begin c p mk) x g)

        added : List ContextId
        added = if same_context y a then z ∷ [] else []

        before : HeldBelow mk y s (λ x. stage (tree_look c p mk) (tree_begin c p mk) x g) (came (tree_look c p mk) y g)
        before = h y

        held_z : is_held (moved (comes_if (same_context z z)) (stage (tree_look c p mk) (tree_begin c p mk) z g)) ≡ true
        held_z = ap₂ (λ v q. is_held (moved (comes_if v) q)) (same_itself z) new

        same_stage : (v : Bool) (u : Stage) → (u ≡ Coming → ⊥) → is_held (moved (comes_if v) u) ≡ is_held u
        same_stage false u old = refl
        same_stage true Coming old = absurd (old refl)
        same_stage true Held old = refl
        same_stage true Gone old = refl

        still_old : (v : Bool) (u : Stage) → (u ≡ Coming → ⊥) → moved (comes_if v) u ≡ Coming → ⊥
        still_old false u old e = old e
        still_old true Coming old e = old refl
        still_old true Held old e = absurd cc
        still_old true Gone old e = absurd cc

        added_held : (v : Bool) → filter (λ x. is_held (moved (comes_if (same_context x z)) (stage (tree_look c p mk) (tree_begin c p mk) x g))) (if v then z ∷ [] else []) ≡ (if v then z ∷ [] else [])
        added_held true = ap (λ (u : Bool). cond u (z ∷ []) []) held_z
        added_held false = refl

        added_old : (v : Bool) → AllByRecursion (λ x. moved (comes_if (same_context x z)) (stage (tree_look c p mk) (tree_begin c p mk) x g) ≡ Coming → ⊥) (if v then z ∷ [] else [])
        added_old true = ((λ e. true_false (is_held (L z)) held_z (ap is_held e)), tt)
        added_old false = tt

        added_below : (v : Bool) → same_context y a ≡ v → AllByRecursion (λ x. above_in mk x ≡ Some y) (if v then z ∷ [] else [])
        added_below true e = (fits.made ∙ ap Some (sym (same_context_is y a e)), tt)
        added_below false e = tt

        now : HeldBelow mk y (seen_after p (Framed z a) s) (λ x. moved (comes_if (same_context x z)) (stage (tree_look c p mk) (tree_begin c p mk) x g)) (came (tree_look c p mk) y g ++ (if same_context y a then z ∷ [] else []))
        now = record {
          order = held_order_still c.tabs mk l p s (Framed z a) fits st before.order;
          children = one_below c.tabs mk l p s z a y fits.made (framed_new c.tabs mk l p s z a fits st) fits.held st before.order
              ∙ ap₂ (λ us vs. us ++ vs) (before.children ∙ sym (filter_all (λ x. stage_of x g ≡ Coming → ⊥) (λ x. is_held (L x)) (λ x. is_held (stage_of x g)) (came (tree_look c p mk) y g) before.old (λ x old. same_stage (same_context x z) (stage_of x g) old))) (sym (added_held (same_context y a)))
              ∙ sym (filter-append (λ x. is_held (L x)) (came (tree_look c p mk) y g) added);
          old = all_join (λ x. L x ≡ Coming → ⊥) (came (tree_look c p mk) y g) added (all_from (λ x. stage_of x g ≡ Coming → ⊥) (λ x. L x ≡ Coming → ⊥) (came (tree_look c p mk) y g) (λ x old. still_old (same_context x z) (stage_of x g) old) before.old) (added_old (same_context y a));
          below = all_join (λ x. above_in mk x ≡ Some y) (came (tree_look c p mk) y g) added before.below (added_below (same_context y a) refl);
        }

    -- it drops a context
    wrote_drop : (b : UpBundle) (w : ContextId) → b.parts ≡ ups.Drop w ∷ [] → ChildrenHeld c p mk (seen_after p (Went w) s) (Writes (Own b) ∷ g)
    wrote_drop b w is y =
        subst (HeldBelow mk y (seen_after p (Went w) s) (λ x. stage_of x (Writes (Own b) ∷ g))) (sym (ap (λ zs. came (tree_look c p mk) y g ++ zs) (ap (parts_make y) is) ∙ append-nil (came (tree_look c p mk) y g)))
        (stages_same mk y (seen_after p (Went w) s) L (λ x. stage_of x (Writes (Own b) ∷ g)) (came (tree_look c p mk) y g)
        (λ x up. sym (ap (λ d. moved d (stage_of x g)) (ap (parts_do x (line x mk)) is ∙ both_stays (goes_if (is_among w (line x mk)))))) now)
      where
        L : ContextId → Stage
        L x = moved (goes_if (is_among w (line x mk))) (stage (tree_look c p mk) (tree_begin c p mk) x g)

        before : HeldBelow mk y s (λ x. stage (tree_look c p mk) (tree_begin c p mk) x g) (came (tree_look c p mk) y g)
        before = h y

        left : (v : Bool) (q : Stage) → (not v && is_held q) ≡ is_held (moved (goes_if v) q)
        left true q = refl
        left false q = refl

        still_old : (v : Bool) (u : Stage) → (u ≡ Coming → ⊥) → moved (goes_if v) u ≡ Coming → ⊥
        still_old false u old e = old e
        still_old true u old e = absurd cc

        now : HeldBelow mk y (seen_after p (Went w) s) (λ x. moved (goes_if (is_among w (line x mk))) (stage (tree_look c p mk) (tree_begin c p mk) x g)) (came (tree_look c p mk) y g)
        now = record {
          order = held_order_still c.tabs mk l p s (Went w) tt st before.order;
          children = went_below c.tabs mk l p s w y st before.order ∙ ap (filter (is_outside mk l w)) before.children ∙ filter_twice (is_outside mk l w) (λ x. is_held (stage_of x g)) (came (tree_look c p mk) y g)
              ∙ filter_all (λ x. stage_of x g ≡ Coming → ⊥) (λ x. is_outside mk l w x && is_held (stage_of x g)) (λ x. is_held (L x)) (came (tree_look c p mk) y g) before.old (λ x old. left (is_among w (line x mk)) (stage_of x g));
          old = all_from (λ x. stage_of x g ≡ Coming → ⊥) (λ x. L x ≡ Coming → ⊥) (came (tree_look c p mk) y g) (λ x old. still_old (is_among w (line x mk)) (stage_of x g) old) before.old;
          below = before.below;
        }

    -- it takes the bundle that waits first
    took : (made : ℕ) (d : Bundle DownBundle) → is_ended g ≡ false → Flows g → IsFirst d (bundles_waiting g) → TreeSeen c p mk s g → DownFits c p mk made d.content.parts
        → ChildrenHeld c p mk (behind_parts c p mk l d.content.epoch.0 made s d.content.parts) (Takes d ∷ g)
    took made d runs flows first t fits y =
        subst (λ q. HeldBelow mk y q (λ x. stage_of x (Takes d ∷ g)) (came (tree_look c p mk) y (Takes d ∷ g))) (taken_single p d.content.epoch.0 d.content.parts s) (record {
          order = done.midway.order;
          children = sym (all_stay (below_of mk y after.order)) ∙ done.below.children;
          old = done.below.old;
          below = done.below.below;
        })
      where
        after : Seen
        after = behind_parts c p mk l d.content.epoch.0 made s (singles d.content.parts)

        all_stay : (zs : List ContextId) → filter (λ z. true) zs ≡ zs
        all_stay [] = refl
        all_stay (z ∷ zs) = ap (λ ys. z ∷ ys) (all_stay zs)

        keeps : Keeps (tree_look c p mk) (tree_begin c p mk) g
        keeps = record { lawful = lawful c p mk l; flows = flows; fits = t.fits }

        come : (x z : ContextId) → (x.creator == p + 1) ≡ false → above_in mk x ≡ Some z → parts_tell x (line x mk) (singles d.content.parts) ≡ Comes
            → MayCome c p mk l (λ w. stage (tree_look c p mk) (tree_begin c p mk) w g) (singles d.content.parts) x z
        come x z other up comes =
            let told : (stage_of x g ≡ Held → ⊥)
            × (stage_of x g ≡ Coming → moved ((tree_look c p mk).tells z d.content) (stage_of z g) ≡ Held)
            × (stage_of x g ≡ Gone → moved ((tree_look c p mk).tells z d.content) (stage_of z g) ≡ Held → ⊥) =
            comings_below (tree_look c p mk) (tree_begin c p mk) d g keeps runs first x z other up comes in
            record { unheld = told.0; new = told.1; gone = told.2 }

        start : Midway c p mk l s (λ x. stage (tree_look c p mk) (tree_begin c p mk) x g) (singles d.content.parts)
        start = record {
          ties = st;
          order = (h y).order;
          stages = λ x left. t.stages x;
          coming = come;
          coming_top = λ x other top comes. first_new (tree_look c p mk) (tree_begin c p mk) (lawful c p mk l) x other top d g flows t.fits runs first comes;
        }

        start_below : MidwayBelow c p mk l y s (λ x. stage (tree_look c p mk) (tree_begin c p mk) x g) (came (tree_look c p mk) y g) (singles d.content.parts)
        start_below = record {
          children =
              ap (filter (stays mk (singles d.content.parts))) (h y).children
              ∙ filter_twice (stays mk (singles d.content.parts)) (λ x. is_held (stage_of x g)) (came (tree_look c p mk) y g);
          old = (h y).old;
          below = (h y).below;
        }

        done : Taken c p mk l d.content.epoch.0 made (behind_parts c p mk l d.content.epoch.0 made s (singles d.content.parts)) (λ x. moved (parts_tell x (line x mk) (singles d.content.parts)) (stage (tree_look c p mk) (tree_begin c p mk) x g)) y
            (came (tree_look c p mk) y g ++ parts_bring y (singles d.content.parts))
        done = taken_all c p mk l d.content.epoch.0 made y (singles d.content.parts) s (λ x. stage_of x g) (came (tree_look c p mk) y g) fits.first fits.come fits.apart (singles_fit p made d.content.parts fits.kinds) start start_below

-- ---- events of the process and of the parent

abbrev IsOwn : ProcessEvent → Type 0
IsOwn (Writes w) = Unit {0}
IsOwn (Takes d) = Unit {0}
IsOwn (Does d) = Unit {0}
IsOwn e = ⊥

own_event : (e : ProcessEvent) (h : List ProcessEvent) → IsOwn e → until_end (e ∷ h) ≡ e ∷ until_end h
own_event (Writes w) h mine = by_if (λ g. g ≡ Writes w ∷ until_end h) (is_ended h) (Writes w ∷ until_end h) (Writes w ∷ until_end h) (λ is. refl) (λ isnt. refl)
own_event (Takes d) h mine = by_if (λ g. g ≡ Takes d ∷ until_end h) (is_ended h) (Takes d ∷ until_end h) (Takes d ∷ until_end h) (λ is. refl) (λ isnt. refl)
own_event (Does d) h mine = by_if (λ g. g ≡ Does d ∷ until_end h) (is_ended h) (Does d ∷ until_end h) (Does d ∷ until_end h) (λ is. refl) (λ isnt. refl)
own_event (_) h mine = absurd mine

own_events : (es h : List ProcessEvent) → AllByRecursion IsOwn es → until_end (es ++ h) ≡ es ++ until_end h
own_events [] h all = refl
own_events (e ∷ es) h all = own_event e (es ++ h) all.0 ∙ ap (λ g. e ∷ g) (own_events es h all.1)

-- what the parent does is nothing of the process's answers
parents_event : (c : Config) (p : ℕ) (mk : List Making) (s : Seen) (e : ProcessEvent) (h : List ProcessEvent) → IsParents e → ChildrenHeld c p mk s (until_end h) → ChildrenHeld c p mk s (until_end (e ∷ h))
parents_event c p mk s (Sends k u d) h its b = by_if (ChildrenHeld c p mk s) (is_ended h) (until_end h) (Sends k u d ∷ until_end h) (λ is. b) (λ isnt. b)
parents_event c p mk s (Accepts k w) h its b = by_if (ChildrenHeld c p mk s) (is_ended h) (until_end h) (Accepts k w ∷ until_end h) (λ is. b) (λ isnt. b)
parents_event c p mk s (Reverts k w d) h its b = by_if (ChildrenHeld c p mk s) (is_ended h) (until_end h) (Reverts k w d ∷ until_end h) (λ is. b) (λ isnt. b)
parents_event c p mk s (Ignores k w) h its b = by_if (ChildrenHeld c p mk s) (is_ended h) (until_end h) (Ignores k w ∷ until_end h) (λ is. b) (λ isnt. b)
parents_event c p mk s (Changes k u) h its b = by_if (ChildrenHeld c p mk s) (is_ended h) (until_end h) (Changes k u ∷ until_end h) (λ is. b) (λ isnt. b)
parents_event c p mk s Ends h its b = by_if (ChildrenHeld c p mk s) (is_ended h) (until_end h) (until_end h) (λ is. b) (λ isnt. b)
parents_event c p mk s (_) h its b = absurd its

parents_events : (c : Config) (p : ℕ) (mk : List Making) (s : Seen) (es h : List ProcessEvent) → AllByRecursion IsParents es → ChildrenHeld c p mk s (until_end h) → ChildrenHeld c p mk s (until_end (es ++ h))
parents_events c p mk s [] h all b = b
parents_events c p mk s (e ∷ es) h all b = parents_event c p mk s e (es ++ h) all.0 (parents_events c p mk s es h all.1 b)

acks_make : (y : ContextId) (parts : List UpPart) → AllByRecursion IsAck parts → parts_make y parts ≡ []
acks_make y [] acks = refl
acks_make y (ups.DropAck x ∷ parts) acks = acks_make y parts acks.1
acks_make y (_ ∷ parts) acks = absurd acks.0

-- ---- an entry

module _ (c : Config) (p : ℕ) (ms : List Moment) (m : Moment) (mk : List Making) (l : Lined mk) (st : SeenTies c.tabs p mk (seen_now c p ms)) (told_done : AllByRecursion (IsToldBy mk) (makings_done (m.did p))) (flows : Flows (events_of p ms))
    (t : TreeSeen c p mk (seen_now c p ms) (until_end (events_of p ms))) (downs_fit : AllByRecursion (λ d. DownFits c p mk (seen_now c p ms).frames_made d.content.parts) (bundles_waiting (events_of p ms)))
    (b : ChildrenHeld c p mk (seen_now c p ms) (until_end (events_of p ms)))
  where
    abbrev s : Seen
    s = seen_now c p ms

    abbrev g : List ProcessEvent
    g = until_end (events_of p ms)

    abbrev Next : List ProcessEvent → List Doing → Type 0
    Next es did = ChildrenHeld c p mk (own_asked c.tabs p (did ++ did_by p ms)) (until_end (es ++ events_of p ms))

    with_both : (es : List ProcessEvent) (did : List Doing) → m.events p ≡ es → m.did p ≡ did → Next es did → Next (m.events p) (m.did p)
    with_both es did is done next = subst (λ e. Next e (m.did p)) (sym is) (subst (Next es) (sym done) next)

    -- the parent does something
    by_parents : (es : List ProcessEvent) → AllByRecursion IsParents es → m.events p ≡ es → m.did p ≡ [] → Next (m.events p) (m.did p)
    by_parents es all is none = with_both es [] is none (parents_events c p mk (seen_now c p ms) es (events_of p ms) all b)

    -- it does it itself
    by_itself : (es : List ProcessEvent) (d : Doing) → AllByRecursion IsOwn es → m.events p ≡ es → m.did p ≡ d ∷ [] → ChildrenHeld c p mk (seen_after p d (seen_now c p ms)) (es ++ until_end (events_of p ms)) → Next (m.events p) (m.did p)
    by_itself es d own is done next = with_both es (d ∷ []) is done
        (subst (ChildrenHeld c p mk (own_asked c.tabs p (d ∷ did_by p ms))) (sym (own_events es (events_of p ms) own))
        (subst (λ q. ChildrenHeld c p mk q (es ++ until_end (events_of p ms))) (sym (own_asked_more c.tabs p d (did_by p ms))) next))

    wrote_kept : (x : ContextId) (cs : _) → ChildrenHeld c p mk (seen_now c p ms) (until_end (events_of p ms)) → ChildrenHeld c p mk (seen_after p (OwnWrote x cs) (seen_now c p ms)) (until_end (events_of p ms))
    unfolding seen_after
    wrote_kept x cs b y = answers_same mk y s (seen_after p (OwnWrote x cs) s) (λ x. stage (tree_look c p mk) (tree_begin c p mk) x (until_end (events_of p ms))) (came (tree_look c p mk) y g) refl (λ x. refl) (b y)

    took_kept : (q : Seen) (h : List ProcessEvent) → ChildrenHeld c p mk q h → ChildrenHeld c p mk (seen_after p Took q) h
    unfolding seen_after
    took_kept q h b y = answers_same mk y q (seen_after p Took q) (λ x. stage (tree_look c p mk) (tree_begin c p mk) x h) (came (tree_look c p mk) y h) refl (λ x. refl) (b y)

    frame_kept : (a : ContextId) (u : UpBundle) → IsFrame c p ms m a u → Next (m.events p) (m.did p)
    frame_kept a u e =
        by_itself _ (Framed (next_frame p s) a) (tt, (tt, tt)) e.events e.did
        (wrote_frame c p mk l s st g b u (next_frame p s) a fits e.sent.parts (new_z c p mk l s st g (never_ends (events_of p ms)) t u (next_frame p s) a fits e.sent.parts))
      where
        fits : FramedFits p mk (seen_now c p ms) (next_frame p (seen_now c p ms)) a
        fits = record { next = refl; held = e.held; made = (subst (λ did. AllByRecursion (IsToldBy mk) (makings_done did)) e.did told_done).0 }

    drop_kept : (x : ContextId) (u : UpBundle) → IsDrop c p ms m x u → Next (m.events p) (m.did p)
    drop_kept x u e = by_itself _ (Went x) (tt, (tt, tt)) e.events e.did (wrote_drop c p mk l s st g b u x e.sent.parts)

    take_kept : (d : Bundle DownBundle) (rest : List (Bundle DownBundle)) → IsTake c p ms m d rest → Next (m.events p) (m.did p)
    take_kept d rest e = with_both _ _ e.events e.did
        (by_acks (λ es. Next (es ++ Takes d ∷ []) did) (seen_now c p (m ∷ ms)) _ (by_if (AllByRecursion IsAck) (list_any is_kill d.content.parts) [] _ (λ kill. tt) (λ lives. acks_posted p d.content.epoch.0 _ _ d.content.parts []))
        (held_then (Takes d ∷ []) (tt, tt) taken)
        (λ u acks. held_then (Writes (Own u) ∷ Takes d ∷ []) (tt, (tt, tt)) (wrote_nothing c p mk l after (Takes d ∷ g) u (λ x ln. acks_do x ln u.parts acks) (λ y. acks_make y u.parts acks) taken)))
      where
        did : List Doing
        did = Took ∷ after_parts (take_rules p d.content.epoch.0) (λ did. own_asked c.tabs p (did ++ did_by p ms)) (λ e did. e ∷ did) [] d.content.parts

        after : Seen
        after = seen_after p Took (behind_parts c p mk l d.content.epoch.0 (seen_now c p ms).frames_made (seen_now c p ms) d.content.parts)

        seen_is : own_asked c.tabs p (did ++ did_by p ms) ≡ seen_after p Took (behind_parts c p mk l d.content.epoch.0 (seen_now c p ms).frames_made (seen_now c p ms) d.content.parts)
        seen_is =
            own_asked_more c.tabs p Took (after_parts (take_rules p d.content.epoch.0) (λ did. own_asked c.tabs p (did ++ did_by p ms)) (λ e did. e ∷ did) [] d.content.parts ++ did_by p ms)
            ∙ ap (seen_after p Took) (parts_same (take_rules p d.content.epoch.0) (λ did. own_asked c.tabs p (did ++ did_by p ms)) (λ e did. e ∷ did) (seen_after p) (λ d did. own_asked_more c.tabs p d (did ++ did_by p ms)) d.content.parts [])

        held_then : (es : List ProcessEvent) → AllByRecursion IsOwn es → ChildrenHeld c p mk (seen_after p Took (behind_parts c p mk l d.content.epoch.0 (seen_now c p ms).frames_made (seen_now c p ms) d.content.parts)) (es ++ until_end (events_of p ms)) → Next es did
        held_then es own held = subst (ChildrenHeld c p mk (own_asked c.tabs p (did ++ did_by p ms))) (sym (own_events es (events_of p ms) own)) (subst (λ q. ChildrenHeld c p mk q (es ++ until_end (events_of p ms))) (sym seen_is) held)

        taken : ChildrenHeld c p mk (seen_after p Took (behind_parts c p mk l d.content.epoch.0 (seen_now c p ms).frames_made (seen_now c p ms) d.content.parts)) (Takes d ∷ until_end (events_of p ms))
        taken = took_kept (behind_parts c p mk l d.content.epoch.0 s.frames_made s d.content.parts) (Takes d ∷ g)
            (took c p mk l s st g b s.frames_made d (never_ends (events_of p ms)) (flows_still (events_of p ms) flows) (record { rest = rest; is = waits_same (events_of p ms) flows ∙ e.first }) t (subst (AllByRecursion (λ d. DownFits c p mk s.frames_made d.content.parts)) e.first downs_fit).0)

    hears_kept : (u : UpBundle) → Hearing c p ms m u → Next (m.events p) (m.did p)
    hears_kept u (AsMade x a e) = by_parents _ (tt, tt) e.events e.did
    hears_kept u (AsLate x a d e) = by_parents _ (tt, tt) e.events e.did
    hears_kept u (AsDrop x e) = by_parents _ (tt, tt) e.events e.did
    hears_kept u (AsOldDrop x e) = by_parents _ (tt, tt) e.events e.did
    hears_kept u (AsAcks e) = by_parents _ (tt, tt) e.events e.did
    hears_kept u (AsCommit x cs ns back e) = by_parents _ (heard_parents (length ms + 1) (Own u) m.answer m.says back) e.events e.did
    hears_kept u (AsOldCommit x cs e) = by_parents _ (tt, tt) e.events e.did
    hears_kept u (AsOver e) = by_parents _ (tt, tt) e.events e.did

    pub held_kept : Entry c p ms m → ChildrenHeld c p mk (seen_now c p (m ∷ ms)) (until_end (m.events p ++ events_of p ms))
    held_kept (Idle e) = by_parents [] tt e.events e.did
    held_kept (Sets x cs u e) = by_itself _ (OwnWrote x cs) (tt, tt) e.events e.did
        (wrote_nothing c p mk l (seen_after p (OwnWrote x cs) s) g u (λ z ln. ap (parts_do z ln) e.sent.parts) (λ y. ap (parts_make y) e.sent.parts) (wrote_kept x cs b))
    held_kept (Frames a u e) = frame_kept a u e
    held_kept (Drops x u e) = drop_kept x u e
    held_kept (TakesOne d rest e) = take_kept d rest e
    held_kept (Tells ds e) = by_parents _ (told_parents (length ms + 1) m.says _, tt) e.events e.did
    held_kept (Killing d e) = by_parents _ (tt, (tt, tt)) e.events e.did
    held_kept (HearsOne u rest first hears) = hears_kept u hears
