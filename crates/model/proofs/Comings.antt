-- What an honest process is without, of what is live and told to it, is on its way to it, with the parent's values and
-- owner, or was dropped by it.
use Rattle.std.proofs.Common.{◌≡◌, ◌⊎◌, inl, inr, ℕ, Bool, true, false, ◌||◌, List, [], ◌∷◌, ◌++◌, map, refl, ap, sym, subst, ◌∙◌}
use Rattle.std.specs.Prelude.{is_some}
use Rattle.std.specs.List.{AllByRecursion, list_any}
use Rattle.fission_ids.specs.declared.context.ContextId.{ContextId}
use Rattle.fission_ids.specs.Ids.{same_context}
use Rattle.field_table.specs.declared.value.Value.{Value}
use Rattle.wire_msgs.specs.declared.bundle.DownBundle.{DownBundle}
use Rattle.wire_msgs.specs.declared.bundle.UpBundle.{UpBundle}
use Rattle.wire_msgs.specs.declared.config.Config.{Config}
use Rattle.wire_msgs.specs.declared.part.DownPart.{DownPart}
use Rattle.wire_msgs.specs.declared.part.DownPart.TheVariants as downs
use Rattle.wire_msgs.specs.declared.part.Known.{Known}
use Rattle.wire_msgs.specs.declared.part.UpPart.{UpPart}
use Rattle.wire_msgs.specs.declared.part.UpPart.TheVariants as ups
use Rattle.protocol.specs.Questions.{Facts}
use Rattle.protocol.specs.Seen.{Seen}
use Rattle.traces.specs.Event.{Bundle}
use Rattle.traces.specs.Laws.{Projected}
use Rattle.traces.specs.Links.{is_ended, writes_waiting, bundles_waiting}
use Rattle.traces.specs.Words.Stage.{Coming, Held}
use Rattle.traces.proofs.Comings.{bring_value}
use Rattle.traces.proofs.Projection.{projection}
use Rattle.trees.specs.Laws.{ComingWaits, GoingWaits}
use Rattle.trees.specs.Look.Effect.{Stays, Comes, Goes}
use Rattle.trees.specs.Rules.{Keeps}
use Rattle.trees.specs.Words.{stage, life, joint, is_held, Stands}
use Rattle.trees.specs.Words as trees
use Rattle.trees.proofs.Comings.{missing, missing_comes, bring_owner}
use Rattle.trees.proofs.Effects.{held_is}
use Rattle.model.specs.Laws.{brings, coming_waits, drops_one, drop_waits, IsWithout, WhatIsToldComes, ComesWhole, WhatComesIsTheParents}
use Rattle.model.specs.Lines.{Making, makings, line, is_among}
use Rattle.model.specs.Links.{bundles_in}
use Rattle.model.specs.Moments.{Moment, Written, ProcessEvent, events_of, facts_now, seen_now, moments_of}
use Rattle.model.specs.Moments.Written.{Own, Raw, Said}
use Rattle.model.specs.Next.{Run}
use Rattle.model.specs.Trees.{comes_if, goes_if, parts_do, parts_tell, tree_look, tree_begin}
use Rattle.model.specs.View.{singles, look, begin}
use Rattle.model.proofs.Cases.{true_false}
use Rattle.model.proofs.Fields.{FieldHolds, keeps_rules}
use Rattle.model.proofs.Fitting.{FactsTies}
use Rattle.model.proofs.Lining.{Lined}
use Rattle.model.proofs.Living.{both_comes, both_goes, comes_when, goes_when}
use Rattle.model.proofs.Run.{RunTies, facts_of_run}
use Rattle.model.proofs.RunHolds.{Holds, holds, own_run, own_lined}
use Rattle.model.proofs.Stages.{trace_of, served_joint}
use Rattle.model.proofs.Subscribers.{told_is}
use Rattle.model.proofs.TreeEvents.{all_events}
use Rattle.model.proofs.TreeFacts.{TreeFacts}
use Rattle.model.proofs.TreeLawful.{lawful}
use Rattle.model.proofs.TreeOwn.{TreeSeen}
use Rattle.model.proofs.Ups.{UpFits}

-- ---- parts

either_first : (a b : Bool) → a ≡ true → (a || b) ≡ true
either_first a b is = ap (λ v. v || b) is

either_later : (a b : Bool) → b ≡ true → (a || b) ≡ true
either_later true b is = refl
either_later false b is = is

either_more : (a b c : Bool) → (b || c) ≡ true → ((a || b) || c) ≡ true
either_more true b c is = refl
either_more false b c is = is

never_comes : {A : Type 0} (b : Bool) → goes_if b ≡ Comes → A
never_comes true e = absurd cc
never_comes false e = absurd cc

never_goes : {A : Type 0} (b : Bool) → comes_if b ≡ Goes → A
never_goes true e = absurd cc
never_goes false e = absurd cc

-- what the Creates of these tell as coming is one of them, or told behind
known_brings : (x : ContextId) (ln : List ContextId) (ks : List Known) (parts : List DownPart) (v : Bool) → (parts_tell x ln parts ≡ Comes → v ≡ true)
    → parts_tell x ln (map (λ (k : Known). downs.Create k) ks ++ parts) ≡ Comes → (list_any (λ (k : Known). same_context x k.context) ks || v) ≡ true
known_brings x ln [] parts v later comes = later comes
known_brings x ln (k ∷ ks) parts v later comes =
    by_which (both_comes (comes_if (same_context x k.context)) (parts_tell x ln (map (λ (k : Known). downs.Create k) ks ++ parts)) comes) (known_brings x ln ks parts v later)
  where
    by_which : ((comes_if (same_context x k.context) ≡ Comes) × (parts_tell x ln (map (λ (k : Known). downs.Create k) ks ++ parts) ≡ Stays))
        ⊎ (parts_tell x ln (map (λ (k : Known). downs.Create k) ks ++ parts) ≡ Comes)
        → (parts_tell x ln (map (λ (k : Known). downs.Create k) ks ++ parts) ≡ Comes → (list_any (λ (k : Known). same_context x k.context) ks || v) ≡ true)
        → (list_any (λ (k : Known). same_context x k.context) (k ∷ ks) || v) ≡ true
    by_which (inl first) rest = ap (λ b. (b || list_any (λ (k : Known). same_context x k.context) ks) || v) (comes_when (same_context x k.context) first.0)
    by_which (inr behind) rest = either_more (same_context x k.context) (list_any (λ (k : Known). same_context x k.context) ks) v (rest behind)

-- what the parts tell as coming one of them brings
tells_brings : (x : ContextId) (ln : List ContextId) (parts : List DownPart) → parts_tell x ln (singles parts) ≡ Comes → list_any (brings x) parts ≡ true
tells_brings x ln [] comes = absurd cc
tells_brings x ln (downs.Create k ∷ parts) comes = by_which (both_comes (comes_if (same_context x k.context)) (parts_tell x ln (singles parts)) comes) (tells_brings x ln parts)
  where
    by_which : ((comes_if (same_context x k.context) ≡ Comes) × (parts_tell x ln (singles parts) ≡ Stays)) ⊎ (parts_tell x ln (singles parts) ≡ Comes)
        → (parts_tell x ln (singles parts) ≡ Comes → list_any (brings x) parts ≡ true) → (same_context x k.context || list_any (brings x) parts) ≡ true
    by_which (inl first) rest = either_first (same_context x k.context) (list_any (brings x) parts) (comes_when (same_context x k.context) first.0)
    by_which (inr behind) rest = either_later (same_context x k.context) (list_any (brings x) parts) (rest behind)
tells_brings x ln (downs.Register g ks ∷ parts) comes = known_brings x ln ks (singles parts) (list_any (brings x) parts) (tells_brings x ln parts) comes
tells_brings x ln (downs.Discard w ∷ parts) comes = by_which (both_comes (goes_if (is_among w ln)) (parts_tell x ln (singles parts)) comes) (tells_brings x ln parts)
  where
    by_which : ((goes_if (is_among w ln) ≡ Comes) × (parts_tell x ln (singles parts) ≡ Stays)) ⊎ (parts_tell x ln (singles parts) ≡ Comes)
        → (parts_tell x ln (singles parts) ≡ Comes → list_any (brings x) parts ≡ true) → list_any (brings x) parts ≡ true
    by_which (inl first) rest = never_comes (is_among w ln) first.0
    by_which (inr behind) rest = rest behind
tells_brings x ln (_ ∷ parts) comes = tells_brings x ln parts comes

-- what the parts do as going one of them drops
does_drops : (x : ContextId) (ln : List ContextId) (parts : List UpPart) → parts_do x ln parts ≡ Goes → list_any (drops_one ln) parts ≡ true
does_drops x ln [] goes = absurd cc
does_drops x ln (ups.Create y a ∷ parts) goes = by_which (both_goes (comes_if (same_context x y)) (parts_do x ln parts) goes) (does_drops x ln parts)
  where
    by_which : (comes_if (same_context x y) ≡ Goes) ⊎ (parts_do x ln parts ≡ Goes) → (parts_do x ln parts ≡ Goes → list_any (drops_one ln) parts ≡ true) → list_any (drops_one ln) parts ≡ true
    by_which (inl first) rest = never_goes (same_context x y) first
    by_which (inr behind) rest = rest behind
does_drops x ln (ups.Drop y ∷ parts) goes = by_which (both_goes (goes_if (is_among y ln)) (parts_do x ln parts) goes) (does_drops x ln parts)
  where
    by_which : (goes_if (is_among y ln) ≡ Goes) ⊎ (parts_do x ln parts ≡ Goes) → (parts_do x ln parts ≡ Goes → list_any (drops_one ln) parts ≡ true)
        → (is_among y ln || list_any (drops_one ln) parts) ≡ true
    by_which (inl first) rest = either_first (is_among y ln) (list_any (drops_one ln) parts) (goes_when (is_among y ln) first)
    by_which (inr behind) rest = either_later (is_among y ln) (list_any (drops_one ln) parts) (rest behind)
does_drops x ln (_ ∷ parts) goes = does_drops x ln parts goes

-- ---- bundles

coming_there : (x : ContextId) (ln : List ContextId) (ds : List (Bundle DownBundle)) → Stands (λ (d : Bundle DownBundle). parts_tell x ln (singles d.content.parts)) Comes ds
    → list_any (λ (d : DownBundle). list_any (brings x) d.parts) (map (λ (b : Bundle DownBundle). b.content) ds) ≡ true
coming_there x ln [] none = absurd none
coming_there x ln (d ∷ ds) (inl is) =
    either_first (list_any (brings x) d.content.parts) (list_any (λ (d : DownBundle). list_any (brings x) d.parts) (map (λ (b : Bundle DownBundle). b.content) ds))
    (tells_brings x ln d.content.parts is)
coming_there x ln (d ∷ ds) (inr later) =
    either_later (list_any (brings x) d.content.parts) (list_any (λ (d : DownBundle). list_any (brings x) d.parts) (map (λ (b : Bundle DownBundle). b.content) ds)) (coming_there x ln ds later)

drop_there : (c : Config) (p : ℕ) (mk : List Making) (n : ℕ) (x : ContextId) (ws : List Written) → AllByRecursion (UpFits c p mk n) ws → Stands ((tree_look c p mk).does x) Goes ws
    → list_any (λ (b : UpBundle). list_any (drops_one (line x mk)) b.parts) (bundles_in ws) ≡ true
drop_there c p mk n x [] all none = absurd none
drop_there c p mk n x (Own b ∷ ws) all (inl is) =
    either_first (list_any (drops_one (line x mk)) b.parts) (list_any (λ (b : UpBundle). list_any (drops_one (line x mk)) b.parts) (bundles_in ws)) (does_drops x (line x mk) b.parts is)
drop_there c p mk n x (Own b ∷ ws) all (inr later) =
    either_later (list_any (drops_one (line x mk)) b.parts) (list_any (λ (b : UpBundle). list_any (drops_one (line x mk)) b.parts) (bundles_in ws)) (drop_there c p mk n x ws all.1 later)
drop_there c p mk n x (Raw b ∷ ws) all stands = absurd all.0
drop_there c p mk n x (Said says ∷ ws) all stands = absurd all.0

-- ---- runs

module _ (r : Run) (p : ℕ) (x : ContextId) (w : IsWithout r p x) where
  abbrev c : Config
  c = r.config

  abbrev ms : List Moment
  ms = moments_of r.config r.journal

  abbrev h : List ProcessEvent
  h = events_of p (moments_of r.config r.journal)

  abbrev mk : List Making
  mk = makings p (moments_of r.config r.journal)

  abbrev f : Facts
  f = facts_now r.config (moments_of r.config r.journal)

  abbrev s : Seen
  s = seen_now r.config p (moments_of r.config r.journal)

  all : Holds r.config p (moments_of r.config r.journal)
  all = holds c p r.journal w.fits.config.few w.process w.fits.steps w.honest

  l : Lined mk
  l = own_lined c p r.journal all

  run : RunTies r.config p mk (moments_of r.config r.journal)
  run = own_run c p r.journal all

  runs : is_ended h ≡ false
  runs = run.over ∙ ap is_some w.runs

  ft : FactsTies r.config.tabs mk f
  ft = facts_of_run c p mk ms l run

  tf : TreeFacts r.config p mk f h
  tf = run.trees.facts runs

  ts : TreeSeen r.config p mk s h
  ts = subst (TreeSeen c p mk s) (all_events h runs) run.trees.seen

  keeps : Keeps (tree_look r.config p mk) (tree_begin r.config p mk) h
  keeps = record { lawful = lawful c p mk l; flows = run.flows; fits = tf.fits }

  -- by its events the process is told of the context, which is live and which it doesn't hold
  told_now : trees.is_told (tree_look r.config p mk) (tree_begin r.config p mk) x h ≡ true
  told_now = sym (told_is c p mk f x h ft (ft.live_known x w.live) tf.told) ∙ w.told

  live_now : life (tree_look r.config p mk) (tree_begin r.config p mk) x h ≡ Held
  live_now = held_is (life (tree_look c p mk) (tree_begin c p mk) x h) (tf.lives.live x ∙ w.live)

  unheld_now : is_held (stage (tree_look r.config p mk) (tree_begin r.config p mk) x h) ≡ false
  unheld_now = ts.stages x ∙ w.unheld

  coming_is : ComingWaits (tree_look r.config p mk) x h → coming_waits p x (moments_of r.config r.journal) ≡ true
  coming_is waits = coming_there x (line x mk) (bundles_waiting h) waits

  drop_is : GoingWaits (tree_look r.config p mk) x h → drop_waits p x (moments_of r.config r.journal) ≡ true
  drop_is waits = drop_there c p mk (f.processes.bundles_sent p) x (writes_waiting h) (run.ups runs).fit waits

  on_its_way : ComingWaits (tree_look r.config p mk) x h ⊎ GoingWaits (tree_look r.config p mk) x h
  on_its_way = missing ContextId Written DownBundle (tree_look c p mk) (tree_begin c p mk) h keeps x told_now live_now unheld_now

  waits_one : (coming_waits p x (moments_of r.config r.journal) || drop_waits p x (moments_of r.config r.journal)) ≡ true
  waits_one = by_which on_its_way
    where
      by_which : ComingWaits (tree_look r.config p mk) x h ⊎ GoingWaits (tree_look r.config p mk) x h
          → (coming_waits p x (moments_of r.config r.journal) || drop_waits p x (moments_of r.config r.journal)) ≡ true
      by_which (inl coming) = either_first (coming_waits p x ms) (drop_waits p x ms) (coming_is coming)
      by_which (inr going) = either_later (coming_waits p x ms) (drop_waits p x ms) (drop_is going)

  module _ (undropped : drop_waits p x (moments_of r.config r.journal) ≡ false) where
    no_drop : GoingWaits (tree_look r.config p mk) x h → ⊥
    no_drop going = true_false (drop_waits p x ms) (drop_is going) undropped

    coming : ComingWaits (tree_look r.config p mk) x h
    coming = by_which on_its_way
      where
        by_which : ComingWaits (tree_look r.config p mk) x h ⊎ GoingWaits (tree_look r.config p mk) x h → ComingWaits (tree_look r.config p mk) x h
        by_which (inl coming) = coming
        by_which (inr going) = absurd (no_drop going)

    -- it hasn't come yet, and all comes to having it
    comes_to : (stage (tree_look r.config p mk) (tree_begin r.config p mk) x h ≡ Coming) × (joint (tree_look r.config p mk) (tree_begin r.config p mk) x h ≡ Held)
    comes_to = missing_comes (tree_look c p mk) (tree_begin c p mk) h keeps x told_now live_now unheld_now no_drop

    whole : ComesWhole r p x
    whole = record {
      values = λ fld.
          let field : FieldHolds c p mk x fld ms = run.fields.own x fld in
          let same : Projected (look x fld mk) h = projection Written DownBundle Value (look x fld mk) h run.flows all.rises.rises field.ties.apart in
          bring_value Value (begin c p x fld) (trace_of c p mk x fld h) (keeps_rules c p mk x fld ms run.flows all.rises.rises field) (same.same_end ∙ runs) (field.ties.stages ∙ comes_to.0)
          (served_joint c p mk x fld h run.flows runs same field.ties.stages ∙ comes_to.1)
          ∙ sym (field.ties.told w.live);
      owner = λ before. bring_owner ContextId Written DownBundle (tree_look c p mk) (tree_begin c p mk) h keeps x told_now live_now coming before ∙ tf.owners x w.live;
    }

pub what_is_told : WhatIsToldComes
what_is_told r p x w = waits_one r p x w

pub what_comes : WhatComesIsTheParents
what_comes r p x w undropped = whole r p x w undropped
