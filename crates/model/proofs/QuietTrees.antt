-- An honest process that wasn't ended, with nothing on its links, holds the parent's contexts that it is told of, as the
-- parent has them.
use Rattle.std.proofs.Common.{◌≡◌, ℕ, Bool, true, false, ◌&&◌, List, [], ◌∷◌, map, filter, refl, ap, ap₂, sym, subst, ◌∙◌}
use Rattle.std.specs.Prelude.{is_some}
use Rattle.std.specs.List.{AllByRecursion}
use Rattle.fission_ids.specs.declared.context.ContextId.{ContextId}
use Rattle.fission_ids.specs.Ids.{same_context}
use Rattle.wire_msgs.specs.declared.bundle.DownBundle.{DownBundle}
use Rattle.wire_msgs.specs.declared.config.Config.{Config}
use Rattle.protocol.specs.Questions.{Facts, is_told, option_any}
use Rattle.protocol.specs.Seen.{Seen}
use Rattle.traces.specs.Event.{Bundle}
use Rattle.traces.specs.Links.{is_ended, writes_waiting, bundles_waiting}
use Rattle.trees.specs.Children.{held_below}
use Rattle.trees.specs.Rules.{Keeps}
use Rattle.trees.specs.Words.{stage, is_held}
use Rattle.trees.specs.Words as words
use Rattle.model.specs.Laws.{IsAtRest, QuietHoldsTheParents, IsTheSame, QuietSaysTheSame, QuietHasTheSameFrames}
use Rattle.model.specs.Lines.{Making, makings}
use Rattle.model.specs.Links.{bundles_in, up_waiting, down_waiting, is_nothing}
use Rattle.model.specs.Moments.{Moment, Written, ProcessEvent, events_of, facts_now, seen_now, moments_of}
use Rattle.model.specs.Moments.Written.{Own, Raw, Said}
use Rattle.model.specs.Next.{Run}
use Rattle.model.specs.Trees.{tree_look, tree_begin}
use Rattle.model.proofs.Cases.{both_true, true_false}
use Rattle.model.proofs.Children.{children_live}
use Rattle.model.proofs.Fitting.{FactsTies}
use Rattle.model.proofs.HeldChildren.{children_held}
use Rattle.model.proofs.Holding.{SeenTies}
use Rattle.model.proofs.Lining.{Lined}
use Rattle.model.proofs.Run.{RunTies, facts_of_run, seen_of_run}
use Rattle.model.proofs.RunHolds.{Holds, holds, own_run, own_lined}
use Rattle.model.proofs.Subscribers.{told_is}
use Rattle.model.proofs.TreeEvents.{until_end, all_events}
use Rattle.model.proofs.TreeFacts.{TreeFacts}
use Rattle.model.proofs.TreeLawful.{lawful}
use Rattle.model.proofs.TreeOwn.{TreeSeen}
use Rattle.model.proofs.Ups.{UpFits}
use Rattle.trees.proofs.Order.{order}
use Rattle.trees.proofs.Agrees.{existence, nothing_held}
use Rattle.trees.proofs.Owners.{owners}

-- ---- nothing waits

none_mapped : {X Y : Type 0} (f : X → Y) (xs : List X) → is_nothing (map f xs) ≡ true → xs ≡ []
none_mapped f [] e = refl
none_mapped f (x ∷ xs) e = absurd cc

no_writes : (c : Config) (p : ℕ) (mk : List Making) (n : ℕ) (ws : List Written) → AllByRecursion (UpFits c p mk n) ws → is_nothing (bundles_in ws) ≡ true → ws ≡ []
no_writes c p mk n [] all e = refl
no_writes c p mk n (Own b ∷ ws) all e = absurd cc
no_writes c p mk n (Raw b ∷ ws) all e = absurd cc
no_writes c p mk n (Said says ∷ ws) all e = absurd all.0

module _ (r : Run) (p : ℕ) (rest : IsAtRest r p) where
  abbrev c : Config
  c = r.config

  abbrev ms : List Moment
  ms = moments_of r.config r.journal

  abbrev h : List ProcessEvent
  h = events_of p (moments_of r.config r.journal)

  abbrev mk : List Making
  mk = makings p (moments_of r.config r.journal)

  abbrev f : Facts
  f = facts_now r.config (moments_of r.config r.journal)

  abbrev s : Seen
  s = seen_now r.config p (moments_of r.config r.journal)

  pub all : Holds r.config p (moments_of r.config r.journal)
  all = holds c p r.journal rest.fits.config.few rest.process rest.fits.steps rest.honest

  l : Lined mk
  l = own_lined c p r.journal all

  pub run : RunTies r.config p mk (moments_of r.config r.journal)
  run = own_run c p r.journal all

  pub runs : is_ended h ≡ false
  runs = run.over ∙ ap is_some rest.runs

  ft : FactsTies r.config.tabs mk f
  ft = facts_of_run c p mk ms l run

  pub st : SeenTies r.config.tabs p mk s
  st = seen_of_run c p mk ms l run

  tf : TreeFacts r.config p mk f h
  tf = run.trees.facts runs

  pub ts : TreeSeen r.config p mk s h
  ts = subst (TreeSeen c p mk s) (all_events h runs) run.trees.seen

  keeps : Keeps (tree_look r.config p mk) (tree_begin r.config p mk) h
  keeps = record { lawful = lawful c p mk l; flows = run.flows; fits = tf.fits }

  -- whether it is told of a context, by its events
  abbrev pub told : ContextId → Bool
  told x =
      words.is_told (tree_look r.config p (makings p (moments_of r.config r.journal))) (tree_begin r.config p (makings p (moments_of r.config r.journal))) x
      (events_of p (moments_of r.config r.journal))

  empty : (is_nothing (up_waiting p (moments_of r.config r.journal)) ≡ true) × (is_nothing (down_waiting p (moments_of r.config r.journal)) ≡ true)
  empty = both_true (is_nothing (up_waiting p ms)) (is_nothing (down_waiting p ms)) rest.quiet

  pub up : writes_waiting h ≡ []
  up = no_writes c p mk (f.processes.bundles_sent p) (writes_waiting h) (run.ups runs).fit empty.0

  pub down : bundles_waiting h ≡ []
  down = none_mapped (λ (b : Bundle DownBundle). b.content) (bundles_waiting h) empty.1

  -- of what it is told it holds what is live
  pub held_live : (x : ContextId) → told x ≡ true → (seen_now r.config p (moments_of r.config r.journal)).holds x ≡ (facts_now r.config (moments_of r.config r.journal)).contexts.live x
  held_live x is = sym (ts.stages x) ∙ existence (tree_look c p mk) (tree_begin c p mk) h keeps up down x is ∙ tf.lives.live x

  -- and of all else nothing
  unheld : (x : ContextId) → told x ≡ false → (seen_now r.config p (moments_of r.config r.journal)).holds x ≡ false
  unheld x isnt = sym (ts.stages x) ∙ ap is_held (nothing_held (tree_look c p mk) (tree_begin c p mk) h keeps runs x isnt)

  pub held_told : (x : ContextId) → (seen_now r.config p (moments_of r.config r.journal)).holds x ≡ true → told x ≡ true
  held_told x held = by_told (told x) refl
    where
      by_told : (v : Bool) → told x ≡ v → told x ≡ true
      by_told true is = is
      by_told false isnt = true_false (s.holds x) held (unheld x isnt)

  -- as the parent answers it of what is known
  pub told_known : (x : ContextId) → (facts_now r.config (moments_of r.config r.journal)).contexts.known x ≡ true → is_told (facts_now r.config (moments_of r.config r.journal)) p x ≡ told x
  told_known x known = told_is c p mk f x h ft known tf.told

  holds_are : (x : ContextId) → (seen_now r.config p (moments_of r.config r.journal)).holds x ≡ ((facts_now r.config (moments_of r.config r.journal)).contexts.live x && is_told (facts_now r.config (moments_of r.config r.journal)) p x)
  holds_are x = by_live (f.contexts.live x) refl
    where
      by_told : (v w : Bool) → (facts_now r.config (moments_of r.config r.journal)).contexts.live x ≡ v → told x ≡ w → (seen_now r.config p (moments_of r.config r.journal)).holds x ≡ (v && w)
      by_told v true live is = held_live x is ∙ live ∙ and_true v
        where
          and_true : (v : Bool) → v ≡ (v && true)
          and_true true = refl
          and_true false = refl
      by_told v false live isnt = unheld x isnt ∙ and_false v
        where
          and_false : (v : Bool) → false ≡ (v && false)
          and_false true = refl
          and_false false = refl

      by_live : (v : Bool) → (facts_now r.config (moments_of r.config r.journal)).contexts.live x ≡ v
          → (seen_now r.config p (moments_of r.config r.journal)).holds x ≡ ((facts_now r.config (moments_of r.config r.journal)).contexts.live x && is_told (facts_now r.config (moments_of r.config r.journal)) p x)
      by_live true live = by_told true (told x) live refl ∙ sym (ap₂ (λ a b. a && b) live (told_known x (ft.live_known x live)))
      by_live false dead = by_told false (told x) dead refl ∙ sym (ap (λ a. a && is_told f p x) dead)

  same_of : (x : ContextId) → (seen_now r.config p (moments_of r.config r.journal)).holds x ≡ true → IsTheSame (facts_now r.config (moments_of r.config r.journal)) p (seen_now r.config p (moments_of r.config r.journal)) x
  same_of x held =
      let is : told x ≡ true = held_told x held in
      let live : f.contexts.live x ≡ true = sym (held_live x is) ∙ held in
      let is_held_now : is_held (stage (tree_look c p mk) (tree_begin c p mk) x h) ≡ true = ts.stages x ∙ held in
      record {
        group = st.held_group x held ∙ sym (ft.known_group x (ft.live_known x live));
        above = st.held_above x held ∙ sym (ft.known_above x (ft.live_known x live));
        owns = ts.owners x held ∙ owners (tree_look c p mk) (tree_begin c p mk) h keeps up down x is is_held_now ∙ tf.owners x live;
      }

  frames_are : (y : ContextId) → (seen_now r.config p (moments_of r.config r.journal)).holds y ≡ true
      → filter (λ x. option_any (same_context y) ((seen_now r.config p (moments_of r.config r.journal)).above x)) (seen_now r.config p (moments_of r.config r.journal)).order
      ≡ filter (λ x. option_any (same_context y) ((facts_now r.config (moments_of r.config r.journal)).contexts.above x)) (facts_now r.config (moments_of r.config r.journal)).contexts.order
  frames_are y held =
      children_held c p mk s (until_end h) st run.held y
      ∙ ap (held_below (tree_look c p mk) (tree_begin c p mk) y) (all_events h runs)
      ∙ order (tree_look c p mk) (tree_begin c p mk) h keeps up down y (held_told y held)
      ∙ sym (children_live c p mk f h ft (run.live runs) y)

pub holds_the_parents : QuietHoldsTheParents
holds_the_parents r p x rest = holds_are r p rest x

pub says_the_same : QuietSaysTheSame
says_the_same r p x rest held = same_of r p rest x held

pub has_the_same_frames : QuietHasTheSameFrames
has_the_same_frames r p y rest held = frames_are r p rest y held
