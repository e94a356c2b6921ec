-- Each entry's events fit the rules of the traces, for every field of every context.
use Rattle.std.proofs.Common.{◌≡◌, ◌⊎◌, inl, inr, ℕ, ◌+◌, ◌==◌, Bool, true, false, ◌&&◌, if◌then◌else◌, Option, None, Some, is_some, List, [], ◌∷◌, ◌++◌, length, drop, zero, suc, refl, ap, ap₂, sym, subst, ◌∙◌, arith}
use Rattle.std.specs.List.{AllByRecursion, list_any}
use Rattle.fission_ids.specs.declared.context.ContextId.{ContextId}
use Rattle.fission_ids.specs.Ids.{same_context}
use Rattle.field_table.specs.declared.field.Field.{Field}
use Rattle.field_table.specs.declared.value.Value.{Value}
use Rattle.field_table.specs.Field.{initial}
use Rattle.field_table.specs.Table.{value_in, initial_table}
use Rattle.transaction.specs.Transaction.{Changes, new_value}
use Rattle.wire_msgs.specs.declared.bundle.DownBundle.{DownBundle}
use Rattle.wire_msgs.specs.declared.bundle.UpBundle.{UpBundle}
use Rattle.wire_msgs.specs.declared.config.Config.{Config}
use Rattle.wire_msgs.specs.declared.note.FieldNote.{FieldNote}
use Rattle.wire_msgs.specs.declared.part.DownPart.{DownPart}
use Rattle.wire_msgs.specs.declared.part.DownPart.TheVariants as downs
use Rattle.wire_msgs.specs.declared.part.UpPart.{UpPart}
use Rattle.wire_msgs.specs.declared.part.UpPart.TheVariants as ups
use Rattle.protocol.specs.Bundle.{bundle_for}
use Rattle.protocol.specs.Commits.{applied, sent_back}
use Rattle.protocol.specs.Fold.{or_later}
use Rattle.protocol.specs.Order.{in_order}
use Rattle.protocol.specs.OwnActs.{next_frame}
use Rattle.protocol.specs.Questions.{Facts, is_told, is_judged, is_subscribed}
use Rattle.protocol.specs.Sayings.{Saying}
use Rattle.protocol.specs.Sayings.Saying.{Opened, Made, BornDead, Removed, Wrote as SaysWrote, Acked, Subscribed, Counted, Sent, Ended}
use Rattle.protocol.specs.Seen.{Seen}
use Rattle.protocol.specs.Seen.Doing.{Framed}
use Rattle.protocol.specs.Take.{bundle_sent, is_kill}
use Rattle.traces.specs.Event.{Bundle}
use Rattle.traces.specs.Event.Event.{Sends, Takes, Accepts, Reverts, Ignores, Ends}
use Rattle.traces.specs.Field.{Content, Trace, reverted_for}
use Rattle.traces.specs.Field.Content.{Nothing, Gives, Removes}
use Rattle.traces.specs.Laws.{Projected}
use Rattle.traces.specs.Links.{writes, hears, writes_waiting, bundles_sent, bundles_waiting, takes, is_ended}
use Rattle.traces.specs.Rules.{Fits, Flows, Judges, Makes, Own as OwnFits, Stays, Tells as TellsField, Where}
use Rattle.traces.specs.Words.{Start, Stage, or_else}
use Rattle.traces.specs.Words.Stage.{Coming, Held, Gone}
use Rattle.traces.specs.Words as words
use Rattle.traces.proofs.Stages.{untouched_value}
use Rattle.trees.specs.Look.{Effect, moved}
use Rattle.trees.specs.Look.Effect.{Stays as NoEffect, Comes, Goes}
use Rattle.trees.specs.Rules.{Above}
use Rattle.trees.specs.Words.{stage, life, is_held, Stands}
use Rattle.trees.specs.Words as trees
use Rattle.trees.proofs.Agrees.{MakeWaits}
use Rattle.model.specs.Lines.{Making, makings_done, line, above_in, group_in, is_among}
use Rattle.model.specs.Moments.{Moment, Written, ProcessEvent, said, events_of, facts_now, seen_now, own_known, told, heard, written}
use Rattle.model.specs.Moments.Written.{Own, Said}
use Rattle.model.specs.Parent.{asked}
use Rattle.model.specs.Trees.{both, parts_do, says_do, tree_look, tree_begin}
use Rattle.model.specs.View.{value_for, value_in_parts, value_said, value_written, begun, singles, content_of, begin}
use Rattle.model.specs.View as view
use Rattle.model.proofs.Cases.{by_if, true_false, same_context_is, some_is}
use Rattle.model.proofs.Contents.{content_by, initially, later_none, said_content}
use Rattle.model.proofs.Entry.{IsAck, IsKilled, HeardCommit, HeardOldCommit, Hearing, Entry, Posted, others_posted}
use Rattle.model.proofs.Entry.Entry.{Idle, Sets, Frames, Drops, TakesOne, Tells, Killing, HearsOne}
use Rattle.model.proofs.Entry.Hearing.{AsMade, AsLate, AsDrop, AsOldDrop, AsAcks, AsCommit, AsOldCommit, AsOver}
use Rattle.model.proofs.FieldBefore.{FieldBefore, FieldTies, MadeFirst, IsUnsaid, projected, stage_until, ended_unserved, never_leaves, all_stay, news_drop}
use Rattle.model.proofs.FieldFacts.{WasApplied, WasSentBack, commit_for, back_single, heard_accepts, heard_reverts}
use Rattle.model.proofs.Lining.{IsToldBy}
use Rattle.model.proofs.Living.{says_one, says_more, held_only}
use Rattle.model.proofs.Owning.{created_new, created_by_others}
use Rattle.model.proofs.PostedContents.{is_aware, posted_content, LateContent, late_content}
use Rattle.model.proofs.PostedContents.LateContent.{IsNothing, IsWhole, IsRemoved}
use Rattle.model.proofs.Serving.{serves_live, serves_coming, serves_dead, serves_untold}
use Rattle.model.proofs.Subscribers.{any_same, group_told, told_by_group, told_is}
use Rattle.model.proofs.Stages.{trace_of, acks_posted, by_acks}
use Rattle.model.proofs.Telling.{Saids, saids_before, lives_behind, comes_new, comes_created}
use Rattle.model.proofs.TreeEvents.{until_end, never_ends}
use Rattle.model.proofs.TreeOwn.{IsUnmade, stage_held}

-- ---- rules that hold where there is a value

pub where_all : {V : Type 0} (o : Option V) (P : Type 0) → P → Where o P
where_all None P holds = tt
where_all (Some v) P holds = holds

pub where_none : {V : Type 0} (o : Option V) (P : Type 0) → o ≡ None → Where o P
where_none None P e = tt
where_none (Some v) P e = absurd cc

coming_only : (s : Stage) → (s ≡ Held → ⊥) → (s ≡ Gone → ⊥) → s ≡ Coming
coming_only Coming unheld kept = refl
coming_only Held unheld kept = absurd (unheld refl)
coming_only Gone unheld kept = absurd (kept refl)

pub acks_write : (x : ContextId) (fld : Field) (parts : List UpPart) → AllByRecursion IsAck parts → value_in_parts x fld parts ≡ None
acks_write x fld [] acks = refl
acks_write x fld (ups.DropAck y ∷ parts) acks = acks_write x fld parts acks.1
acks_write x fld (_ ∷ parts) acks = absurd acks.0

both_stay : (a b : Effect) → both a b ≡ NoEffect → (a ≡ NoEffect) × (b ≡ NoEffect)
both_stay NoEffect b e = (refl, e)
both_stay Goes b e = absurd cc
both_stay Comes Goes e = absurd cc
both_stay Comes NoEffect e = absurd cc
both_stay Comes Comes e = absurd cc

nothing_by : (e : Effect) (o : Option Value) (v : Value) → Nothing ≡ content_by e o v → o ≡ None
nothing_by NoEffect None v is = refl
nothing_by NoEffect (Some w) v is = absurd cc
nothing_by Comes o v is = absurd cc
nothing_by Goes o v is = absurd cc

module _ (c : Config) (p : ℕ) (mk : List Making) (x : ContextId) (fld : Field) (ms : List Moment) (m : Moment) (b : FieldBefore c p mk ms m) (t : FieldTies c p mk x fld ms) where
  abbrev h : List ProcessEvent
  h = events_of p ms

  abbrev T : Trace Value
  T = trace_of c p mk x fld (events_of p ms)

  abbrev start : Start Value
  start = begin c p x fld

  abbrev f : Facts
  f = facts_now c ms

  abbrev s : Seen
  s = seen_now c p ms

  same : Projected (view.look x fld mk) (events_of p ms)
  same = projected c p mk x fld ms m b t

  -- ---- what the process does

  pub held_tree : (y : ContextId) → (seen_now c p ms).holds y ≡ true → stage (tree_look c p mk) (tree_begin c p mk) y (until_end (events_of p ms)) ≡ Held
  held_tree y e = stage_held c p mk b.lined s b.ties (until_end h) (never_ends h) b.seen y e

  pub held_field : (seen_now c p ms).holds x ≡ true → words.stage (begin c p x fld).stage (trace_of c p mk x fld (events_of p ms)) ≡ Held
  held_field e = t.stages ∙ sym (stage_until c p mk x h) ∙ held_tree x e

  pub fits_set : (y : ContextId) (d : Changes) → (seen_now c p ms).holds y ≡ true → Where (or_later (value_for x fld y d) None) (words.stage (begin c p x fld).stage (trace_of c p mk x fld (events_of p ms)) ≡ Held)
  fits_set y d held = by_same (same_context x y) refl
    where
      by_same : (v : Bool) → same_context x y ≡ v → Where (or_later (if v then new_value d fld else None) None) (words.stage (begin c p x fld).stage (trace_of c p mk x fld (events_of p ms)) ≡ Held)
      by_same true is = where_all (or_later (new_value d fld) None) _ (held_field (ap s.holds (same_context_is x y is) ∙ held))
      by_same false is = tt

  -- what is made was coming, and nothing was said of it
  pub fits_frame : (a : ContextId) → (seen_now c p ms).holds a ≡ true → above_in mk (next_frame p (seen_now c p ms)) ≡ Some a → same_context x (next_frame p (seen_now c p ms)) ≡ true
      → Makes (begin c p x fld) (value_in initial_table fld) (trace_of c p mk x fld (events_of p ms))
  fits_frame a held up is = record {
    initially = initially fld;
    unheld = t.stages ∙ sym (stage_until c p mk x h) ∙ coming_only (stage (tree_look c p mk) (tree_begin c p mk) x (until_end h)) unmade.unheld (λ gone. below (unmade.with_above gone));
    untouched = unsaid.untouched;
    no_news = news_drop (takes T) (bundles_sent T) unsaid.no_news;
  }
    where
      x_is : x ≡ next_frame p (seen_now c p ms)
      x_is = same_context_is x (next_frame p s) is

      own : x.creator ≡ p + 1
      own = ap (λ (z : ContextId). z.creator) x_is

      serial : x.serial ≡ (seen_now c p ms).frames_made + 1
      serial = ap (λ (z : ContextId). z.serial) x_is

      unmade : IsUnmade c p mk x (until_end (events_of p ms))
      unmade = b.seen.unmade x own (omega (arith, serial))

      new : (v : Bool) → (facts_now c ms).contexts.known x ≡ v → (facts_now c ms).contexts.known x ≡ false
      new false e = e
      new true e = absurd (omega (arith, serial, b.named x own e))

      unsaid : IsUnsaid (trace_of c p mk x fld (events_of p ms))
      unsaid = t.unknown (new (f.contexts.known x) refl)

      below : Above (tree_look c p mk) x (λ y. stage (tree_look c p mk) (tree_begin c p mk) y (until_end (events_of p ms)) ≡ Gone) → ⊥
      below (y, upper, gone) =
          let one : a ≡ y = some_is a y (sym (ap (above_in mk) x_is ∙ up) ∙ upper) in
          let two : Held ≡ Gone = sym (held_tree a held) ∙ ap (λ z. stage (tree_look c p mk) (tree_begin c p mk) z (until_end h)) one ∙ gone in absurd cc

  fits_making : (a : ContextId) → (seen_now c p ms).holds a ≡ true → above_in mk (next_frame p (seen_now c p ms)) ≡ Some a
      → OwnFits (begin c p x fld) (content_of x (line x mk) fld (downs.Create (own_known (seen_now c p (m ∷ ms)) (next_frame p (seen_now c p ms)) a) ∷ [])) (trace_of c p mk x fld (events_of p ms))
  fits_making a held up = by_same (same_context x (next_frame p s)) refl
    where
      by_same : (v : Bool) → same_context x (next_frame p (seen_now c p ms)) ≡ v → OwnFits (begin c p x fld) (if v then begun (value_in initial_table fld) Nothing else Nothing) (trace_of c p mk x fld (events_of p ms))
      by_same true is = fits_frame a held up is
      by_same false is = tt

  fits_dropping : (y : ContextId) → OwnFits (begin c p x fld) (content_of x (line x mk) fld (downs.Discard y ∷ [])) (trace_of c p mk x fld (events_of p ms))
  fits_dropping y = by_line (is_among y (line x mk))
    where
      by_line : (v : Bool) → OwnFits (begin c p x fld) (if v then Removes else Nothing) (trace_of c p mk x fld (events_of p ms))
      by_line true = tt
      by_line false = tt

  -- ---- what is said

  -- a value of what isn't made and isn't removed is of what was live
  written_live : (runs : is_ended (events_of p ms) ≡ false) (ys : List Saying) → Saids c mk b.lined (said ms) b.facts ys → says_do x (line x mk) ys ≡ NoEffect → (v : Value) → value_said x fld ys ≡ Some v
      → is_held (life (tree_look c p mk) (tree_begin c p mk) x (events_of p ms)) ≡ true
  written_live runs [] sd e v is = absurd cc
  written_live runs (SaysWrote y d ∷ ys) sd e v is = by_same (same_context x y) refl is (written_live runs ys earlier e v)
    where
      earlier : Saids c mk b.lined (said ms) b.facts ys
      earlier = saids_before c mk b.lined (said ms) b.facts (SaysWrote y d) ys sd

      by_same : (w : Bool) → same_context x y ≡ w → or_later (if w then new_value d fld else None) (value_said x fld ys) ≡ Some v → (value_said x fld ys ≡ Some v → is_held (life (tree_look c p mk) (tree_begin c p mk) x (events_of p ms)) ≡ true)
          → is_held (life (tree_look c p mk) (tree_begin c p mk) x (events_of p ms)) ≡ true
      by_same true one is rest =
          ap (λ a. is_held (moved a (life (tree_look c p mk) (tree_begin c p mk) x h))) (sym e)
          ∙ (lives_behind c mk b.lined (said ms) b.facts (λ z. life (tree_look c p mk) (tree_begin c p mk) z h) (b.tree runs).lives ys earlier).live x
          ∙ ap (asked c.tabs (ys ++ said ms)).contexts.live (same_context_is x y one) ∙ sd.fits.0
      by_same false one is rest = rest is
  written_live runs (Opened y g is_new q ∷ ys) sd e v is = written_live runs ys (saids_before c mk b.lined (said ms) b.facts (Opened y g is_new q) ys sd)
      (both_stay (says_one mk x (Opened y g is_new q)) (says_do x (line x mk) ys) (sym (says_more mk x (Opened y g is_new q) ys) ∙ e)).1 v is
  written_live runs (Subscribed q g ∷ ys) sd e v is = written_live runs ys (saids_before c mk b.lined (said ms) b.facts (Subscribed q g) ys sd) e v is
  written_live runs (Made q y a ∷ ys) sd e v is = written_live runs ys (saids_before c mk b.lined (said ms) b.facts (Made q y a) ys sd) (both_stay (says_one mk x (Made q y a)) (says_do x (line x mk) ys) (sym (says_more mk x (Made q y a) ys) ∙ e)).1 v is
  written_live runs (Removed w but ∷ ys) sd e v is = written_live runs ys (saids_before c mk b.lined (said ms) b.facts (Removed w but) ys sd) (both_stay (says_one mk x (Removed w but)) (says_do x (line x mk) ys) (sym (says_more mk x (Removed w but) ys) ∙ e)).1 v is
  written_live runs (BornDead q y a ∷ ys) sd e v is = written_live runs ys (saids_before c mk b.lined (said ms) b.facts (BornDead q y a) ys sd) e v is
  written_live runs (Acked q y ∷ ys) sd e v is = written_live runs ys (saids_before c mk b.lined (said ms) b.facts (Acked q y) ys sd) e v is
  written_live runs (Counted q ∷ ys) sd e v is = written_live runs ys (saids_before c mk b.lined (said ms) b.facts (Counted q) ys sd) e v is
  written_live runs (Sent q ∷ ys) sd e v is = written_live runs ys (saids_before c mk b.lined (said ms) b.facts (Sent q) ys sd) e v is
  written_live runs (Ended q cause ∷ ys) sd e v is = written_live runs ys (saids_before c mk b.lined (said ms) b.facts (Ended q cause) ys sd) e v is

  -- whether the process is told of the context, by its events and by the parent's answers
  told_aware : is_ended (events_of p ms) ≡ false → trees.is_told (tree_look c p mk) (tree_begin c p mk) x (events_of p ms) ≡ is_aware c p mk x (said ms)
  told_aware runs =
      told_by_group c p mk x h ∙ sym (any_same (is_subscribed (facts_now c ms) p) (λ g. group_told c p g (events_of p ms)) (b.tree runs).told (group_in c.tabs mk x))

  -- what it isn't told of isn't served
  unserved : is_ended (events_of p ms) ≡ false → is_aware c p mk x (said ms) ≡ false → words.stage_served (begin c p x fld).stage (trace_of c p mk x fld (events_of p ms)) ≡ Coming
  unserved runs unaware = serves_untold c p mk x fld b.lined h b.flows runs (b.tree runs).fits same t.stages (told_aware runs ∙ unaware)

  not_held : (s : Stage) → s ≡ Coming → s ≡ Held → ⊥
  not_held s e d = let two : Coming ≡ Held = sym e ∙ d in absurd cc

  module _ (runs : is_ended (events_of p ms) ≡ false) (is_told_now : trees.is_told (tree_look c p mk) (tree_begin c p mk) x (events_of p ms) ≡ true) where
    live_serves : life (tree_look c p mk) (tree_begin c p mk) x (events_of p ms) ≡ Held → (words.stage (begin c p x fld).stage (trace_of c p mk x fld (events_of p ms)) ≡ Gone → ⊥)
        → words.stage_served (begin c p x fld).stage (trace_of c p mk x fld (events_of p ms)) ≡ Held
    live_serves live kept = serves_live c p mk x fld b.lined h b.flows runs (b.tree runs).fits same t.stages is_told_now live kept

    tells_said : (ys : List Saying) → Saids c mk b.lined (said ms) b.facts ys → (says_do x (line x mk) ys ≡ Comes → (x.creator == p + 1) ≡ false)
        → (words.stage (begin c p x fld).stage (trace_of c p mk x fld (events_of p ms)) ≡ Gone → ⊥)
        → TellsField (begin c p x fld) (value_said x fld ys) (said_content x fld mk ys) (trace_of c p mk x fld (events_of p ms))
    tells_said ys sd other kept = by_effect (says_do x (line x mk) ys) (value_said x fld ys) refl refl
      where
        by_effect : (e : Effect) (o : Option Value) → says_do x (line x mk) ys ≡ e → value_said x fld ys ≡ o → TellsField (begin c p x fld) o (content_by e o (initial fld)) (trace_of c p mk x fld (events_of p ms))
        by_effect Goes o is said_is = tt
        by_effect NoEffect None is said_is = tt
        by_effect NoEffect (Some v) is said_is = (refl, live_serves (held_only (life (tree_look c p mk) (tree_begin c p mk) x h) (written_live runs ys sd is v said_is)) kept)
        by_effect Comes o is said_is = (
          ap (or_else o) (untouched_value (initial fld) T (t.unknown (new (f.contexts.known x) refl)).untouched),
          serves_coming c p mk x fld b.lined h b.flows runs (b.tree runs).fits same t.stages is_told_now
              (comes_new c mk b.lined (said ms) b.facts (λ z. life (tree_look c p mk) (tree_begin c p mk) z h) (b.tree runs).lives x ys sd is) (other is) kept,
        )
          where
            new : (v : Bool) → (facts_now c ms).contexts.known x ≡ v → (facts_now c ms).contexts.known x ≡ false
            new false e = e
            new true e = absurd (created_new c (said ms) ys x b.facts.tabs_low sd.fits (comes_created x mk ys is) e)

  fits_told : (posts : List DownPart) → Posted c p (said ms) m.says posts → Saids c mk b.lined (said ms) b.facts m.says
      → (parts : List DownPart) → in_order posts ≡ parts → Flows (told (length ms + 1) m.says (bundle_for (facts_now c (m ∷ ms)) p parts) ∷ events_of p ms)
      → Fits (begin c p x fld) (trace_of c p mk x fld (told (length ms + 1) m.says (bundle_for (facts_now c (m ∷ ms)) p parts) ∷ events_of p ms))
  fits_told posts posted sd parts is flows = by_end (is_ended h) refl parts is flows
    where
      other : says_do x (line x mk) m.says ≡ Comes → (x.creator == p + 1) ≡ false
      other comes = created_by_others c p (said ms) m.says x sd.fits (others_posted c p (said ms) m.says posts posted) (comes_created x mk m.says comes)

      content_is : is_aware c p mk x (said ms) ≡ true → (parts : List DownPart) → in_order posts ≡ parts → content_of x (line x mk) fld (singles parts) ≡ said_content x fld mk m.says
      content_is aware parts is =
          ap (λ ps. content_of x (line x mk) fld (singles ps)) (sym is) ∙ posted_content c p mk b.lined (said ms) b.facts b.low x fld aware m.says posts sd posted

      base : Value
      base = words.value (initial fld) (trace_of c p mk x fld (events_of p ms))

      -- it comes with the parent's value, if it comes
      late_fits : is_ended (events_of p ms) ≡ false → is_aware c p mk x (said ms) ≡ false → (d : Content Value)
          → LateContent c p mk b.lined (said ms) b.facts b.low x fld base t.told (λ new. untouched_value (initial fld) T (t.unknown new).untouched) m.says d
          → TellsField (begin c p x fld) (value_said x fld m.says) d (trace_of c p mk x fld (events_of p ms))
      late_fits runs unaware d (IsNothing is) = subst (λ e. TellsField (begin c p x fld) (value_said x fld m.says) e (trace_of c p mk x fld (events_of p ms))) (sym is)
          (where_all (value_said x fld m.says) _ (not_held (words.stage_served start.stage T) (unserved runs unaware)))
      late_fits runs unaware d (IsWhole known is) = subst (λ e. TellsField (begin c p x fld) (value_said x fld m.says) e (trace_of c p mk x fld (events_of p ms))) (sym is)
          (refl, unserved runs unaware)
      late_fits runs unaware d (IsRemoved is) = subst (λ e. TellsField (begin c p x fld) (value_said x fld m.says) e (trace_of c p mk x fld (events_of p ms))) (sym is) tt

      by_told : (runs : is_ended (events_of p ms) ≡ false) → (v : Bool) → is_aware c p mk x (said ms) ≡ v → (parts : List DownPart) → in_order posts ≡ parts
          → Fits (begin c p x fld) (trace_of c p mk x fld (told (length ms + 1) m.says (bundle_for (facts_now c (m ∷ ms)) p parts) ∷ events_of p ms))
      by_told runs true aware [] is =
          ((λ kept. where_none (value_said x fld m.says) _ (nothing_by (says_do x (line x mk) m.says) (value_said x fld m.says) (initial fld) (content_is aware [] is))), t.fits)
      by_told runs true aware (d ∷ ds) is = (
        (λ kept. subst (λ o. TellsField (begin c p x fld) (value_said x fld m.says) o (trace_of c p mk x fld (events_of p ms))) (sym (content_is aware (d ∷ ds) is))
            (tells_said runs (told_aware runs ∙ aware) m.says sd other kept)),
        t.fits,
      )
      by_told runs false unaware [] is = ((λ kept. where_all (value_said x fld m.says) _ (not_held (words.stage_served start.stage T) (unserved runs unaware))), t.fits)
      by_told runs false unaware (d ∷ ds) is = (
        (λ kept. subst (λ ps. TellsField (begin c p x fld) (value_said x fld m.says) (content_of x (line x mk) fld (singles ps)) (trace_of c p mk x fld (events_of p ms))) is
            (late_fits runs unaware (content_of x (line x mk) fld (singles (in_order posts)))
            (late_content c p mk b.lined (said ms) b.facts b.low x fld base t.told (λ new. untouched_value (initial fld) T (t.unknown new).untouched) unaware m.says posts sd posted))),
        t.fits,
      )

      by_end : (v : Bool) → is_ended (events_of p ms) ≡ v → (parts : List DownPart) → in_order posts ≡ parts → Flows (told (length ms + 1) m.says (bundle_for (facts_now c (m ∷ ms)) p parts) ∷ events_of p ms)
          → Fits (begin c p x fld) (trace_of c p mk x fld (told (length ms + 1) m.says (bundle_for (facts_now c (m ∷ ms)) p parts) ∷ events_of p ms))
      by_end true over [] is flows = ((λ kept. where_all (value_said x fld m.says) _ (λ held. let two : Gone ≡ Held = sym (ended_unserved start.stage T same.flows (same.same_end ∙ over)) ∙ held in absurd cc)), t.fits)
      by_end true over (d ∷ ds) is flows = true_false (is_ended h) over flows.0
      by_end false runs parts is flows = by_told runs (is_aware c p mk x (said ms)) refl parts is

  fits_killed : (d : DownBundle) → IsKilled c p ms m d → Fits (begin c p x fld) (trace_of c p mk x fld (Ends ∷ Sends (length ms + 1) (Said m.says) d ∷ events_of p ms))
  fits_killed d is = (tt, ((λ kept. told), t.fits))
    where
      told : TellsField (begin c p x fld) (value_said x fld m.says) (content_of x (line x mk) fld (singles d.parts)) (trace_of c p mk x fld (events_of p ms))
      told = subst (λ ys. TellsField (begin c p x fld) (value_said x fld ys) (content_of x (line x mk) fld (singles d.parts)) (trace_of c p mk x fld (events_of p ms))) (sym is.says)
          (subst (λ ds. TellsField (begin c p x fld) None (content_of x (line x mk) fld (singles ds)) (trace_of c p mk x fld (events_of p ms))) (sym is.kill) tt)

  -- ---- what is heard

  heard_none : (k : ℕ) (u : UpBundle) → value_in_parts x fld u.parts ≡ None → Fits (begin c p x fld) (trace_of c p mk x fld (Accepts k (Own u) ∷ events_of p ms)) × Fits (begin c p x fld) (trace_of c p mk x fld (Ignores k (Own u) ∷ events_of p ms))
  heard_none k u none = (((λ kept. where_none (value_in_parts x fld u.parts) _ none), t.fits), ((λ kept. where_none (value_in_parts x fld u.parts) _ none), t.fits))

  heard_late : (k : ℕ) (u : UpBundle) (y a : ContextId) (d : DownBundle) → u.parts ≡ ups.Create y a ∷ [] → d.parts ≡ downs.Discard y ∷ [] → Fits (begin c p x fld) (trace_of c p mk x fld (Reverts k (Own u) d ∷ events_of p ms))
  heard_late k u y a d is back =
      subst (λ ps. Fits (begin c p x fld) (reverted_for k (value_in_parts x fld ps) (content_of x (line x mk) fld (singles d.parts)) (trace_of c p mk x fld (events_of p ms)))) (sym is)
      (subst (λ ds. Fits (begin c p x fld) (reverted_for k None (content_of x (line x mk) fld (singles ds)) (trace_of c p mk x fld (events_of p ms)))) (sym back) (by_line (is_among y (line x mk))))
    where
      by_line : (v : Bool) → Fits (begin c p x fld) (reverted_for k None (if v then Removes else Nothing) (trace_of c p mk x fld (events_of p ms)))
      by_line true = ((λ kept. tt), ((λ kept. tt), t.fits))
      by_line false = ((λ kept. tt), ((λ kept. tt), t.fits))

  -- a write to what is live is judged
  judges : is_ended (events_of p ms) ≡ false → trees.is_told (tree_look c p mk) (tree_begin c p mk) x (events_of p ms) ≡ true → (facts_now c ms).contexts.live x ≡ true → (words.stage (begin c p x fld).stage (trace_of c p mk x fld (events_of p ms)) ≡ Gone → ⊥) → Judges (begin c p x fld) (trace_of c p mk x fld (events_of p ms))
  judges runs aware live kept = record {
    serves = live_serves runs aware (held_only (life (tree_look c p mk) (tree_begin c p mk) x h) ((b.tree runs).lives.live x ∙ live)) kept;
    since = omega (arith, never_leaves c p mk x fld h);
    stays = subst (λ ds. Stays ds) (sym same.bundles_wait) (all_stay x (line x mk) fld (bundles_waiting h));
  }

  module _ (u : UpBundle) (y : ContextId) (d : Changes) (ns : List FieldNote) (back : Option DownBundle) (is : HeardCommit c p ms m u y d ns back) where
    runs_on : is_ended (events_of p ms) ≡ false
    runs_on = b.heard_alive u y d ns back is

    pub wrote_is : value_in_parts x fld u.parts ≡ value_for x fld y d
    wrote_is = ap (value_in_parts x fld) is.parts ∙ later_none (value_for x fld y d)

    live_here : same_context x y ≡ true → (facts_now c ms).contexts.live x ≡ true
    live_here e = ap f.contexts.live (same_context_is x y e) ∙ is.live

    told_here : same_context x y ≡ true → trees.is_told (tree_look c p mk) (tree_begin c p mk) x (events_of p ms) ≡ true
    told_here e = sym (told_is c p mk f x h b.facts (b.facts.live_known x (live_here e)) (b.tree runs_on).told) ∙ ap (is_told f p) (same_context_is x y e) ∙ is.told

    where_judged : (o : Option Value) → o ≡ value_for x fld y d → (words.stage (begin c p x fld).stage (trace_of c p mk x fld (events_of p ms)) ≡ Gone → ⊥) → Where o (Judges (begin c p x fld) (trace_of c p mk x fld (events_of p ms)))
    where_judged o e kept = by_same (same_context x y) refl e
      where
        by_same : (v : Bool) → same_context x y ≡ v → o ≡ (if v then new_value d fld else None) → Where o (Judges (begin c p x fld) (trace_of c p mk x fld (events_of p ms)))
        by_same true one e = where_all o _ (judges runs_on (told_here one) (live_here one) kept)
        by_same false one e = where_none o _ e

    pub commit_answer : WasApplied (value_for x fld y d) (value_for x fld y (applied ns d)) (content_of x (line x mk) fld (sent_back ns (facts_now c ms) y))
        ⊎ WasSentBack ((facts_now c ms).contexts.value x fld) (value_for x fld y d) (value_for x fld y (applied ns d)) (content_of x (line x mk) fld (sent_back ns (facts_now c ms) y))
    commit_answer = subst (λ n. WasApplied (value_for x fld y d) (value_for x fld y (applied n d)) (content_of x (line x mk) fld (sent_back n (facts_now c ms) y))
        ⊎ WasSentBack ((facts_now c ms).contexts.value x fld) (value_for x fld y d) (value_for x fld y (applied n d)) (content_of x (line x mk) fld (sent_back n (facts_now c ms) y))) (sym is.notes.1)
        (commit_for is.notes.0 (facts_now c ms) p y d x (line x mk) fld (words.value (initial fld) T) (λ e. t.told (live_here e)))

    reverts_fit : (k : ℕ) (content : Content Value) → WasApplied (value_for x fld y d) (value_for x fld y (applied ns d)) content ⊎ WasSentBack ((facts_now c ms).contexts.value x fld) (value_for x fld y d) (value_for x fld y (applied ns d)) content
        → Fits (begin c p x fld) (reverted_for k (value_in_parts x fld u.parts) content (trace_of c p mk x fld (events_of p ms)))
    reverts_fit k content (inl a) =
        subst (λ o. Fits (begin c p x fld) (reverted_for k (value_in_parts x fld u.parts) o (trace_of c p mk x fld (events_of p ms)))) (sym a.nothing) (by_value (value_in_parts x fld u.parts) wrote_is)
      where
        by_value : (o : Option Value) → o ≡ value_for x fld y d → Fits (begin c p x fld) (reverted_for k o Nothing (trace_of c p mk x fld (events_of p ms)))
        by_value None e = ((λ kept. tt), ((λ kept. tt), t.fits))
        by_value (Some v) e = ((λ kept. tt), ((λ kept. where_judged (Some v) e kept), t.fits))
    reverts_fit k content (inr r) =
        subst (λ o. Fits (begin c p x fld) (reverted_for k (value_in_parts x fld u.parts) o (trace_of c p mk x fld (events_of p ms)))) (sym r.gives)
        (subst (λ o. Fits (begin c p x fld) (reverted_for k o (Gives r.returns) (trace_of c p mk x fld (events_of p ms)))) (sym (wrote_is ∙ r.written)) back_fits)
      where
        at : {A : Type 0} → (v : Bool) → same_context x y ≡ v → Some r.value ≡ (if v then new_value d fld else None) → (same_context x y ≡ true → A) → A
        at true e is there = there e
        at false e is there = absurd cc

        here : same_context x y ≡ true
        here = at (same_context x y) refl (sym r.written) (λ e. e)

        current : r.returns ≡ words.value (initial fld) (trace_of c p mk x fld (events_of p ms))
        current = some_is r.returns (words.value (initial fld) T) (sym r.present ∙ t.told (live_here here))

        back_fits : Fits (begin c p x fld) (Reverts k (Some r.value) (Gives r.returns) ∷ trace_of c p mk x fld (events_of p ms))
        back_fits = (record { of_write = refl; back = ap (λ v. Gives v) current; judged = λ kept. judges runs_on (told_here here) (live_here here) kept }, t.fits)

    commit_fits : (o : Option DownBundle) → m.events p ≡ heard (length ms + 1) (Own u) m.answer m.says o → bundle_for (facts_now c (m ∷ ms)) p (sent_back ns (facts_now c ms) y) ≡ o
        → Fits (begin c p x fld) (trace_of c p mk x fld (m.events p ++ events_of p ms))
    commit_fits None events e =
        subst (λ es. Fits (begin c p x fld) (trace_of c p mk x fld (es ++ events_of p ms))) (sym (events ∙ heard_accepts (length ms + 1) (Own u) m.answer m.says is.done))
        ((λ kept. where_judged (value_in_parts x fld u.parts) wrote_is kept), t.fits)
    commit_fits (Some e) events same_bundle =
        subst (λ es. Fits (begin c p x fld) (trace_of c p mk x fld (es ++ events_of p ms))) (sym (events ∙ heard_reverts (length ms + 1) (Own u) m.answer m.says e is.done))
        (subst (λ ps. Fits (begin c p x fld) (reverted_for (length ms + 1) (value_in_parts x fld u.parts) (content_of x (line x mk) fld ps) (trace_of c p mk x fld (events_of p ms))))
        (sym (back_single ns (facts_now c ms) y) ∙ ap singles (parts_are (sent_back ns (facts_now c ms) y) same_bundle))
        (reverts_fit (length ms + 1) (content_of x (line x mk) fld (sent_back ns (facts_now c ms) y)) commit_answer))
      where
        parts_are : (parts : List DownPart) → bundle_for (facts_now c (m ∷ ms)) p parts ≡ Some e → parts ≡ e.parts
        parts_are [] none = absurd cc
        parts_are (a ∷ parts) one = ap (λ (v : DownBundle). v.parts) (some_is _ e one)

    pub heard_commit : Fits (begin c p x fld) (trace_of c p mk x fld (m.events p ++ events_of p ms))
    heard_commit = commit_fits back is.events (sym is.is_back)

  -- a commit to what isn't judged
  unmade_waits : (u : UpBundle) (rest : List Written) → writes_waiting (events_of p ms) ≡ Own u ∷ rest → (y : ContextId) (d : Changes) → u.parts ≡ ups.Commit y d ∷ [] → (v : Value) → value_in_parts x fld u.parts ≡ Some v
      → MakeWaits (tree_look c p mk) x (events_of p ms) → ⊥
  unmade_waits u rest first y d is v wrote waits = by_first (subst (MadeFirst ((tree_look c p mk).does x) (value_written x fld)) first (drop_first (hears h) (writes h) t.made_first)) (subst (Stands ((tree_look c p mk).does x) Comes) first waits)
    where
      drop_first : (n : ℕ) (ws : List Written) → MadeFirst ((tree_look c p mk).does x) (value_written x fld) ws → MadeFirst ((tree_look c p mk).does x) (value_written x fld) (drop n ws)
      drop_first zero ws made = made
      drop_first (suc n) [] made = made
      drop_first (suc n) (w ∷ ws) made = drop_first n ws made.1

      no_make : (tree_look c p mk).does x (Own u) ≡ Comes → ⊥
      no_make comes = let two : NoEffect ≡ Comes = sym (ap (parts_do x (line x mk)) is) ∙ comes in absurd cc

      by_first : MadeFirst ((tree_look c p mk).does x) (value_written x fld) (Own u ∷ rest) → Stands ((tree_look c p mk).does x) Comes (Own u ∷ rest) → ⊥
      by_first made (inl comes) = no_make comes
      by_first made (inr more) = by_value made.0
        where
          by_value : (value_written x fld (Own u) ≡ None) ⊎ (Stands ((tree_look c p mk).does x) Comes rest → ⊥) → ⊥
          by_value (inl none) = let two : Some v ≡ None = sym wrote ∙ none in absurd cc
          by_value (inr none) = none more

  -- what the process is told of isn't live where it isn't judged
  dead_when : is_ended (events_of p ms) ≡ false → trees.is_told (tree_look c p mk) (tree_begin c p mk) x (events_of p ms) ≡ true → is_judged (facts_now c ms) p x ≡ false → (facts_now c ms).contexts.live x ≡ false
  dead_when runs aware unjudged = by_live (f.contexts.live x) refl
    where
      by_live : (v : Bool) → (facts_now c ms).contexts.live x ≡ v → (facts_now c ms).contexts.live x ≡ false
      by_live false e = e
      by_live true e = true_false (is_judged f p x) (ap₂ (λ u v. u && v) e (told_is c p mk f x h b.facts (b.facts.live_known x e) (b.tree runs).told ∙ aware)) unjudged

  old_commit : (u : UpBundle) (rest : List Written) → writes_waiting (events_of p ms) ≡ Own u ∷ rest → (y : ContextId) (d : Changes) → HeardOldCommit c p ms m u y d
      → Where (value_in_parts x fld u.parts) (Judges (begin c p x fld) (trace_of c p mk x fld (events_of p ms)) → ⊥)
  old_commit u rest first y d is = by_value (value_in_parts x fld u.parts) refl
    where
      wrote_is : value_in_parts x fld u.parts ≡ value_for x fld y d
      wrote_is = ap (value_in_parts x fld) is.parts ∙ later_none (value_for x fld y d)

      here : (v : Value) → value_in_parts x fld u.parts ≡ Some v → same_context x y ≡ true
      here v e = at (same_context x y) (sym wrote_is ∙ e)
        where
          at : (w : Bool) → (if w then new_value d fld else None) ≡ Some v → w ≡ true
          at true e = refl
          at false e = absurd cc

      by_told : (w : Bool) → trees.is_told (tree_look c p mk) (tree_begin c p mk) x (events_of p ms) ≡ w → is_ended (events_of p ms) ≡ false → (v : Value) → value_in_parts x fld u.parts ≡ Some v
          → Judges (begin c p x fld) (trace_of c p mk x fld (events_of p ms)) → ⊥
      by_told true aware runs v e judges =
          serves_dead c p mk x fld b.lined h b.flows runs (b.tree runs).fits same t.stages aware
          ((b.tree runs).lives.live x ∙ dead_when runs aware (ap (is_judged f p) (same_context_is x y (here v e)) ∙ is.unjudged))
          (unmade_waits u rest first y d is.parts v e) judges.serves
      by_told false unaware runs v e judges = not_held (words.stage_served start.stage T) (unserved runs (sym (told_aware runs) ∙ unaware)) judges.serves

      by_end : (w : Bool) → is_ended (events_of p ms) ≡ w → (v : Value) → value_in_parts x fld u.parts ≡ Some v → Judges (begin c p x fld) (trace_of c p mk x fld (events_of p ms)) → ⊥
      by_end true over v e judges = let two : Gone ≡ Held = sym (ended_unserved start.stage T same.flows (same.same_end ∙ over)) ∙ judges.serves in absurd cc
      by_end false runs v e judges = by_told (trees.is_told (tree_look c p mk) (tree_begin c p mk) x h) refl runs v e judges

      by_value : (o : Option Value) → value_in_parts x fld u.parts ≡ o → Where o (Judges (begin c p x fld) (trace_of c p mk x fld (events_of p ms)) → ⊥)
      by_value None e = tt
      by_value (Some v) e = by_end (is_ended h) refl v e

  over_commit : (u : UpBundle) → is_some ((facts_now c ms).processes.ended p) ≡ true → Where (value_in_parts x fld u.parts) (Judges (begin c p x fld) (trace_of c p mk x fld (events_of p ms)) → ⊥)
  over_commit u over = where_all (value_in_parts x fld u.parts) _
      (λ judges. let two : Gone ≡ Held = sym (ended_unserved start.stage T same.flows (same.same_end ∙ b.over ∙ over)) ∙ judges.serves in absurd cc)

  -- ---- all entries

  abbrev FitsNext : List ProcessEvent → Type 0
  FitsNext es = Fits (begin c p x fld) (trace_of c p mk x fld (es ++ events_of p ms))

  fits_hears : (u : UpBundle) (rest : List Written) → writes_waiting (events_of p ms) ≡ Own u ∷ rest → Hearing c p ms m u → Fits (begin c p x fld) (trace_of c p mk x fld (m.events p ++ events_of p ms))
  fits_hears u rest first (AsMade y a is) = subst FitsNext (sym is.events) (heard_none (length ms + 1) u (ap (value_in_parts x fld) is.parts)).0
  fits_hears u rest first (AsLate y a d is) = subst FitsNext (sym is.events) (heard_late (length ms + 1) u y a d is.parts is.back)
  fits_hears u rest first (AsDrop y is) = subst FitsNext (sym is.events) (heard_none (length ms + 1) u (ap (value_in_parts x fld) is.parts)).0
  fits_hears u rest first (AsOldDrop y is) = subst FitsNext (sym is.events) (heard_none (length ms + 1) u (ap (value_in_parts x fld) is.parts)).1
  fits_hears u rest first (AsAcks is) = subst FitsNext (sym is.events) (heard_none (length ms + 1) u (acks_write x fld u.parts is.parts)).0
  fits_hears u rest first (AsCommit y d ns back is) = heard_commit u y d ns back is
  fits_hears u rest first (AsOldCommit y d is) = subst FitsNext (sym is.events) ((λ kept. old_commit u rest first y d is), t.fits)
  fits_hears u rest first (AsOver is) = subst FitsNext (sym is.events) ((λ kept. over_commit u is.over), t.fits)

  fits_acks : (d : Bundle DownBundle) (parts : List UpPart) → AllByRecursion IsAck parts → Fits (begin c p x fld) (trace_of c p mk x fld ((written (bundle_sent (seen_now c p (m ∷ ms)) parts) ++ Takes d ∷ []) ++ events_of p ms))
  fits_acks d parts acks = by_acks (λ es. FitsNext (es ++ Takes d ∷ [])) (seen_now c p (m ∷ ms)) parts acks (tt, t.fits)
      (λ u plain. (where_none (value_in_parts x fld u.parts) _ (acks_write x fld u.parts plain), (tt, t.fits)))

  pub framed_above : (z a : ContextId) → m.did p ≡ Framed z a ∷ [] → above_in mk z ≡ Some a
  framed_above z a is = of_all (subst (λ ds. AllByRecursion (IsToldBy mk) (makings_done ds)) is b.told_did)
    where
      of_all : AllByRecursion (IsToldBy mk) (makings_done (Framed z a ∷ [])) → above_in mk z ≡ Some a
      of_all all = all.0

  pub fits_next : Entry c p ms m → Fits (begin c p x fld) (trace_of c p mk x fld (m.events p ++ events_of p ms))
  fits_next (Idle is) = subst FitsNext (sym is.events) t.fits
  fits_next (Sets y d u is) = subst FitsNext (sym is.events)
      (subst (λ ps. Where (value_in_parts x fld ps) (words.stage (begin c p x fld).stage (trace_of c p mk x fld (events_of p ms)) ≡ Held)) (sym is.sent.parts) (fits_set y d is.held), t.fits)
  fits_next (Frames a u is) = subst FitsNext (sym is.events)
      (where_none (value_in_parts x fld u.parts) _ (ap (value_in_parts x fld) is.sent.parts), (fits_making a is.held (framed_above (next_frame p s) a is.did), t.fits))
  fits_next (Drops y u is) = subst FitsNext (sym is.events) (where_none (value_in_parts x fld u.parts) _ (ap (value_in_parts x fld) is.sent.parts), (fits_dropping y, t.fits))
  fits_next (TakesOne d rest is) = subst FitsNext (sym is.events)
      (fits_acks d _ (by_if (AllByRecursion IsAck) (list_any is_kill d.content.parts) [] _ (λ kill. tt) (λ lives. acks_posted p d.content.epoch.0 _ _ d.content.parts [])))
  fits_next (Tells posts is) = subst FitsNext (sym is.events)
      (fits_told posts is.posted (record { told = b.told; fits = is.fits }) (in_order posts) refl (subst (λ es. Flows (es ++ events_of p ms)) is.events b.next_flows))
  fits_next (Killing d is) = subst FitsNext (sym is.events) (fits_killed d is)
  fits_next (HearsOne u rest first hears) = fits_hears u rest first hears
