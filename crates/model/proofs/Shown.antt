-- What a process answers of a field is what the field's trace replays, at every moment.
use Rattle.std.proofs.Common.{◌≡◌, ◌⊎◌, inl, inr, ℕ, suc, ◌+◌, ◌≤◌, ◌==◌, Bool, true, false, ◌&&◌, if◌then◌else◌, Option, None, Some, is_some, List, [], ◌∷◌, ◌++◌, length, map, refl, ap, ap₂, sym, subst, ◌∙◌, arith, length-append}
use Rattle.std.specs.Prelude.{nat_lt}
use Rattle.std.specs.List.{AllByRecursion, list_any}
use Rattle.fission_ids.specs.declared.context.ContextId.{ContextId}
use Rattle.fission_ids.specs.Ids.{same_context}
use Rattle.field_table.specs.declared.field.Field.{Field}
use Rattle.field_table.specs.declared.value.Value.{Value}
use Rattle.field_table.specs.Field.{initial}
use Rattle.field_table.specs.Table.{value_in, initial_table}
use Rattle.transaction.specs.Transaction.{Changes, new_value}
use Rattle.wire_msgs.specs.declared.bundle.DownBundle.{DownBundle}
use Rattle.wire_msgs.specs.declared.bundle.UpBundle.{UpBundle}
use Rattle.wire_msgs.specs.declared.config.Config.{Config}
use Rattle.wire_msgs.specs.declared.part.DownPart.{DownPart}
use Rattle.wire_msgs.specs.declared.part.DownPart.TheVariants as downs
use Rattle.wire_msgs.specs.declared.part.Known.{Known}
use Rattle.wire_msgs.specs.declared.part.UpPart.{UpPart}
use Rattle.wire_msgs.specs.declared.part.UpPart.TheVariants as ups
use Rattle.protocol.specs.Bundle.{bundle_for}
use Rattle.protocol.specs.Fold.{or_later}
use Rattle.protocol.specs.Order.{in_order}
use Rattle.protocol.specs.OwnActs.{next_frame}
use Rattle.protocol.specs.Seen.{Seen, Doing}
use Rattle.protocol.specs.Seen.Doing.{Framed, Went, Wrote, Took}
use Rattle.protocol.specs.SeenAfter.{seen_after}
use Rattle.protocol.specs.Take.{bundle_sent, is_kill}
use Rattle.traces.specs.Event.{Bundle}
use Rattle.traces.specs.Event.Event.{Writes, Sends, Takes, Accepts, Reverts, Ignores, Changes as OthersChange, Ends}
use Rattle.traces.specs.Field.{Content, Trace, reverted_for}
use Rattle.traces.specs.Field.Content.{Nothing, Gives, Begins, Removes, Leaves}
use Rattle.traces.specs.Links.{writes, last_write, bundles_sent, bundles_waiting, takes, is_ended, hears}
use Rattle.traces.specs.Replay.{replay, shown_after_take, shown_after_write}
use Rattle.traces.specs.Laws.{Projected}
use Rattle.traces.specs.Rules.{Flows, Rises, IsFirst}
use Rattle.traces.specs.Words.{Start, Stage, latest_number, number_after, while_held}
use Rattle.traces.specs.Words.Stage.{Coming, Held, Gone}
use Rattle.traces.specs.Words as words
use Rattle.traces.proofs.Own.{written_none}
use Rattle.traces.proofs.Projection.{projection}
use Rattle.traces.proofs.Shows.{shows}
use Rattle.traces.proofs.Stages.{kept, shows_kept, coming_unwritten}
use Rattle.traces.proofs.Waits.{written_is}
use Rattle.trees.specs.Look.{Effect, moved}
use Rattle.trees.specs.Look.Effect.{Stays, Comes, Goes}
use Rattle.trees.specs.Rules.{Keeps}
use Rattle.trees.specs.Words.{is_held}
use Rattle.trees.proofs.Lists.{first_is}
use Rattle.trees.proofs.Taking.{comings_below, first_new}
use Rattle.model.specs.Lines.{Making, line, above_in, is_among}
use Rattle.model.specs.Moments.{Moment, Written, ProcessEvent, did_by, events_of, facts_now, seen_now, own_known, deed, written}
use Rattle.model.specs.Moments.Written.{Own}
use Rattle.model.specs.Process.{own_asked, value, holds, newest}
use Rattle.model.specs.Trees.{parts_tell, tree_look, tree_begin}
use Rattle.model.specs.View.{value_in_parts, value_written, begun, content_of, singles, begin}
use Rattle.model.specs.View as view
use Rattle.model.proofs.AskedMore.{own_asked_more}
use Rattle.model.proofs.Cases.{by_if, true_false, same_context_is}
use Rattle.model.proofs.Contents.{content_by, content_stays, number_stays, initially, later_none, parts_value}
use Rattle.model.proofs.Counting.{commit_of, counted, count_to, count_push, count_last, IsNumber, number_push, number_count, older_same}
use Rattle.model.proofs.DownFits.{DownFits}
use Rattle.model.proofs.Entry.{IsAck, IsTake, Hearing, Entry}
use Rattle.model.proofs.Entry.Entry.{Idle, Sets, Frames, Drops, TakesOne, Tells, Killing, HearsOne}
use Rattle.model.proofs.Entry.Hearing.{AsMade, AsLate, AsDrop, AsOldDrop, AsAcks, AsCommit, AsOldCommit, AsOver}
use Rattle.model.proofs.FieldBefore.{FieldBefore, FieldTies, stage_until}
use Rattle.model.proofs.FieldFits.{acks_write, held_field, fits_frame, framed_above}
use Rattle.model.proofs.SingleFits.{SingleFits, singles_fit}
use Rattle.model.proofs.Stages.{trace_of, tree_stage, IsParents, told_parents, heard_parents, acks_posted, by_acks, acks_do, same_took}
use Rattle.model.proofs.Taken.{fresh_of, steps, steps_are, StaysHeld, held_steps, HasCome, come_steps, unvalued_steps, content_held, none_tells, stays_none, coming_of, IsComing, NoneOf}
use Rattle.model.proofs.TreeEvents.{until_end, never_ends, waits_same, flows_still}
use Rattle.model.proofs.TreeLawful.{lawful}
use Rattle.model.proofs.TreeOwn.{TreeSeen}

-- ---- numbers

-- a part that has no values of fields
abbrev pub IsNoCommit : DownPart → Type 0
IsNoCommit (downs.Commit x t) = ⊥
IsNoCommit part = Unit {0}

-- a bundle counts the commits that were heard, as its trace counts all that was heard; or there are no values in it
pub record IsStamped (ws : List Written) (d : Bundle DownBundle) : Type 0 where
  pub epoch : d.content.epoch.0 ≡ count_to d.epoch ws
  pub within : d.epoch ≤ length ws

abbrev pub Stamped : List Written → Bundle DownBundle → Type 0
Stamped ws d = AllByRecursion IsNoCommit d.content.parts ⊎ IsStamped ws d

pub record NumberTies (c : Config) (p : ℕ) (ms : List Moment) : Type 0 where
  pub made : (seen_now c p ms).commits ≡ count_to (length (writes (events_of p ms))) (writes (events_of p ms))
  pub heard : is_ended (events_of p ms) ≡ false → (facts_now c ms).processes.commits_heard p ≡ count_to (hears (events_of p ms)) (writes (events_of p ms))
  pub stamps : AllByRecursion (Stamped (writes (events_of p ms))) (bundles_sent (events_of p ms))

-- the premises beside those of the fields
pub record ShownBefore (c : Config) (p : ℕ) (mk : List Making) (ms : List Moment) (m : Moment) : Type 0 where
  pub downs : AllByRecursion (λ (d : Bundle DownBundle). DownFits c p mk (seen_now c p ms).frames_made d.content.parts) (bundles_waiting (events_of p ms))
  pub numbers : NumberTies c p ms
  pub seen_next : TreeSeen c p mk (seen_now c p (m ∷ ms)) (until_end (m.events p ++ events_of p ms))

-- what holds of what is shown
pub record ShownTies (c : Config) (p : ℕ) (mk : List Making) (x : ContextId) (fld : Field) (ms : List Moment) : Type 0 where
  pub newest_is : (seen_now c p ms).holds x ≡ true → (seen_now c p ms).newest x fld ≡ count_to (words.newest (trace_of c p mk x fld (events_of p ms))) (writes (events_of p ms))
  pub number : IsNumber (words.newest (trace_of c p mk x fld (events_of p ms))) (writes (events_of p ms))
  pub shown : (seen_now c p ms).value x fld ≡ replay (begin c p x fld) (trace_of c p mk x fld (events_of p ms))

plain_value : (x : ContextId) (fld : Field) (parts : List DownPart) → AllByRecursion IsNoCommit parts → parts_value x fld parts ≡ None
plain_value x fld [] plain = refl
plain_value x fld (downs.Commit y t ∷ parts) plain = absurd plain.0
plain_value x fld (downs.Create k ∷ parts) plain = later_none (parts_value x fld parts) ∙ plain_value x fld parts plain.1
plain_value x fld (downs.Discard w ∷ parts) plain = later_none (parts_value x fld parts) ∙ plain_value x fld parts plain.1
plain_value x fld (_ ∷ parts) plain = later_none (parts_value x fld parts) ∙ plain_value x fld parts plain.1

plain_creates : (ks : List Known) (parts : List DownPart) → AllByRecursion IsNoCommit parts → AllByRecursion IsNoCommit (map (λ (k : Known). downs.Create k) ks ++ parts)
plain_creates [] parts plain = plain
plain_creates (k ∷ ks) parts plain = (tt, plain_creates ks parts plain)

plain_singles : (parts : List DownPart) → AllByRecursion IsNoCommit parts → AllByRecursion IsNoCommit (singles parts)
plain_singles [] plain = tt
plain_singles (downs.Register g ks ∷ parts) plain = plain_creates ks (singles parts) (plain_singles parts plain.1)
plain_singles (_ ∷ parts) plain = (plain.0, plain_singles parts plain.1)

replay_back : {V : Type 0} (start : Start V) (k : ℕ) (w : Option V) (e : Content V) (h : Trace V) → replay start (reverted_for k w e h) ≡ replay start h
replay_back start k None e h = refl
replay_back start k (Some v) Nothing h = refl
replay_back start k (Some v) (Gives back) h = refl
replay_back start k (Some v) (Begins b) h = refl
replay_back start k (Some v) Removes h = refl
replay_back start k (Some v) Leaves h = refl

newest_back : {V : Type 0} (k : ℕ) (w : Option V) (e : Content V) (h : Trace V) → words.newest (reverted_for k w e h) ≡ words.newest h
newest_back k None e h = refl
newest_back k (Some v) Nothing h = refl
newest_back k (Some v) (Gives back) h = refl
newest_back k (Some v) (Begins b) h = refl
newest_back k (Some v) Removes h = refl
newest_back k (Some v) Leaves h = refl

written_back : {V : Type 0} (k : ℕ) (w : Option V) (e : Content V) (h : Trace V) → last_write (reverted_for k w e h) ≡ last_write h
written_back k None e h = refl
written_back k (Some v) Nothing h = refl
written_back k (Some v) (Gives back) h = refl
written_back k (Some v) (Begins b) h = refl
written_back k (Some v) Removes h = refl
written_back k (Some v) Leaves h = refl

last_same : (c : Config) (p : ℕ) (mk : List Making) (x : ContextId) (fld : Field) (h : List ProcessEvent) → last_write (trace_of c p mk x fld h) ≡ last_write h
last_same c p mk x fld [] = refl
last_same c p mk x fld (Writes w ∷ h) = ap (λ n. n + 1) (last_same c p mk x fld h)
last_same c p mk x fld (Reverts k w d ∷ h) = written_back k (value_written x fld w) (content_of x (line x mk) fld (singles d.parts)) (trace_of c p mk x fld h) ∙ last_same c p mk x fld h
last_same c p mk x fld (_ ∷ h) = last_same c p mk x fld h

took_same : (p : ℕ) (s : Seen) (x : ContextId) (fld : Field) → ((seen_after p Took s).holds x ≡ s.holds x) × ((seen_after p Took s).value x fld ≡ s.value x fld) × ((seen_after p Took s).newest x fld ≡ s.newest x fld)
unfolding seen_after
took_same p s x fld = (refl, refl, refl)

-- an own write over what is shown
write_shown : (b : Bool) (o v : Option Value) (before : Value) → (b ≡ true → v ≡ Some before) → (if b then or_later o v else v) ≡ shown_after_write (or_later (if b then o else None) None) v
write_shown false o v before is = sym (written_none v)
write_shown true None v before is = sym (written_none v)
write_shown true (Some w) v before is = ap (shown_after_write (Some w)) (sym (is refl))

-- a bundle over what is held, where it holds no more than values
given_shown : (b : Bool) (o v : Option Value) (before init : Value) (s : Stage) → v ≡ Some before → or_later (fresh_of b o) v ≡ shown_after_take (content_by Stays o init) b s v
given_shown true None v before init s is = refl
given_shown false None v before init s is = refl
given_shown true (Some w) v before init s is = refl
given_shown false (Some w) v before init s is = ap (shown_after_take (Gives w) false s) (sym is)

unheld_shown : {V : Type 0} (start : Start V) (h : Trace V) → is_held (words.stage start.stage h) ≡ false → replay start h ≡ None
unheld_shown start h e = shows_kept start h ∙ by_stage (words.stage start.stage h) e
  where
    by_stage : (s : Stage) → is_held s ≡ false → while_held s (kept start h) ≡ None
    by_stage Coming e = refl
    by_stage Held e = absurd cc
    by_stage Gone e = refl

held_shown : {V : Type 0} (start : Start V) (h : Trace V) → words.stage start.stage h ≡ Held → replay start h ≡ Some (kept start h)
held_shown start h e = shows_kept start h ∙ ap (λ s. while_held s (kept start h)) e

module _ (c : Config) (p : ℕ) (mk : List Making) (x : ContextId) (fld : Field) (ms : List Moment) (m : Moment) (b : FieldBefore c p mk ms m) (t : FieldTies c p mk x fld ms)
    (a : ShownBefore c p mk ms m) (v : ShownTies c p mk x fld ms)
  where
    abbrev h : List ProcessEvent
    h = events_of p ms

    abbrev T : Trace Value
    T = trace_of c p mk x fld (events_of p ms)

    abbrev s : Seen
    s = seen_now c p ms

    abbrev start : Start Value
    start = begin c p x fld

    pub record ShownNext (after : Seen) (es : List ProcessEvent) : Type 0 where
      pub newest_is : after.holds x ≡ true → after.newest x fld ≡ count_to (words.newest (trace_of c p mk x fld (es ++ events_of p ms))) (writes (es ++ events_of p ms))
      pub number : IsNumber (words.newest (trace_of c p mk x fld (es ++ events_of p ms))) (writes (es ++ events_of p ms))
      pub shown : after.value x fld ≡ replay (begin c p x fld) (trace_of c p mk x fld (es ++ events_of p ms))

    -- ---- what the parent does

    replay_parents : (es : List ProcessEvent) → AllByRecursion IsParents es → ShownNext (seen_now c p ms) es
    replay_parents [] all = record { newest_is = v.newest_is; number = v.number; shown = v.shown }
    replay_parents (Reverts k w d ∷ es) all =
        let r : ShownNext s es = replay_parents es all.1 in
        let g : Trace Value = trace_of c p mk x fld (es ++ h) in record {
          newest_is = λ held. r.newest_is held ∙ ap (λ i. count_to i (writes (es ++ h))) (sym (newest_back k (value_written x fld w) (content_of x (line x mk) fld (singles d.parts)) g));
          number = subst (λ i. IsNumber i (writes (es ++ h))) (sym (newest_back k (value_written x fld w) (content_of x (line x mk) fld (singles d.parts)) g)) r.number;
          shown = r.shown ∙ sym (replay_back start k (value_written x fld w) (content_of x (line x mk) fld (singles d.parts)) g);
        }
    replay_parents (Sends k u d ∷ es) all = let r : ShownNext s es = replay_parents es all.1 in record { newest_is = r.newest_is; number = r.number; shown = r.shown }
    replay_parents (Accepts k w ∷ es) all = let r : ShownNext s es = replay_parents es all.1 in record { newest_is = r.newest_is; number = r.number; shown = r.shown }
    replay_parents (Ignores k w ∷ es) all = let r : ShownNext s es = replay_parents es all.1 in record { newest_is = r.newest_is; number = r.number; shown = r.shown }
    replay_parents (OthersChange k u ∷ es) all = let r : ShownNext s es = replay_parents es all.1 in record { newest_is = r.newest_is; number = r.number; shown = r.shown }
    replay_parents (Ends ∷ es) all = let r : ShownNext s es = replay_parents es all.1 in record { newest_is = r.newest_is; number = r.number; shown = r.shown }
    replay_parents (_ ∷ es) all = absurd all.0

    by_parents : (es : List ProcessEvent) → AllByRecursion IsParents es → m.did p ≡ [] → m.events p ≡ es → ShownNext (seen_now c p (m ∷ ms)) (m.events p)
    by_parents es all did is =
        subst (ShownNext (seen_now c p (m ∷ ms))) (sym is) (subst (λ ds. ShownNext (own_asked c.tabs p (ds ++ did_by p ms)) es) (sym did) (replay_parents es all))

    -- ---- a write more that has no value

    one_write : (u : UpBundle) (after : Seen) (es : List ProcessEvent) → value_in_parts x fld u.parts ≡ None → ShownNext after es → ShownNext after (Writes (Own u) ∷ es)
    one_write u after es none r =
        let g : Trace Value = trace_of c p mk x fld (es ++ h) in
        let same : words.newest (Writes (value_in_parts x fld u.parts) ∷ g) ≡ words.newest g = ap (λ o. latest_number o (last_write g + 1) (words.newest g)) none in record {
          newest_is = λ held. r.newest_is held ∙ sym (ap (λ i. count_to i (writes (es ++ h) ++ Own u ∷ [])) same ∙ number_count (words.newest g) (writes (es ++ h)) (Own u) r.number);
          number = subst (λ i. IsNumber i (writes (es ++ h) ++ Own u ∷ [])) (sym same) (number_push (words.newest g) (writes (es ++ h)) (Own u) r.number);
          shown = r.shown ∙ sym (ap (λ o. shown_after_write o (replay start g)) none ∙ written_none (replay start g));
        }

    -- ---- the process writes

    last_is : last_write (trace_of c p mk x fld (events_of p ms)) ≡ length (writes (events_of p ms))
    last_is = last_same c p mk x fld h ∙ written_is h

    made_last : (u : UpBundle) → commit_of (Own u) ≡ true → count_to (suc (length (writes (events_of p ms)))) (writes (events_of p ms) ++ Own u ∷ []) ≡ suc ((seen_now c p ms).commits)
    made_last u is = count_last (writes h) (Own u) ∙ ap (λ k. counted k (count_to (length (writes h)) (writes h))) is ∙ ap (λ k. suc k) (sym a.numbers.made)

    wrote_newest : (u : UpBundle) → commit_of (Own u) ≡ true → (w : Bool) (o : Option Value)
        → ((seen_now c p ms).holds x ≡ true → (if w && is_some o then (seen_now c p ms).commits + 1 else (seen_now c p ms).newest x fld) ≡ count_to (latest_number (or_later (if w then o else None) None) (last_write (trace_of c p mk x fld (events_of p ms)) + 1) (words.newest (trace_of c p mk x fld (events_of p ms)))) (writes (events_of p ms) ++ Own u ∷ []))
        × IsNumber (latest_number (or_later (if w then o else None) None) (last_write (trace_of c p mk x fld (events_of p ms)) + 1) (words.newest (trace_of c p mk x fld (events_of p ms)))) (writes (events_of p ms) ++ Own u ∷ [])
    wrote_newest u is true (Some d) =
        let next : last_write T + 1 ≡ suc (length (writes h)) = omega (arith, last_is) in (
          (λ held. let one : s.commits + 1 ≡ suc s.commits = omega arith in one ∙ sym (ap (λ k. count_to k (writes h ++ Own u ∷ [])) next ∙ made_last u is)),
          inr (record {
            before = length (writes h);
            next = next;
            within = omega (arith, length-append (writes h) (Own u ∷ []));
            counts = made_last u is ∙ ap (λ k. suc k) (a.numbers.made ∙ sym (count_push (length (writes h)) (writes h) (Own u) (omega arith)));
          }),
        )
    wrote_newest u is true None = ((λ held. v.newest_is held ∙ sym (number_count (words.newest T) (writes h) (Own u) v.number)), number_push (words.newest T) (writes h) (Own u) v.number)
    wrote_newest u is false o = ((λ held. v.newest_is held ∙ sym (number_count (words.newest T) (writes h) (Own u) v.number)), number_push (words.newest T) (writes h) (Own u) v.number)

    shown_wrote : (y : ContextId) (d : Changes) (u : UpBundle) → u.parts ≡ ups.Commit y d ∷ [] → (seen_now c p ms).holds y ≡ true → ShownNext (seen_after p (Wrote y d) (seen_now c p ms)) (Writes (Own u) ∷ [])
    unfolding seen_after
    shown_wrote y d u is held = record {
      newest_is = λ here. (wrote_newest u commits (same_context x y) (new_value d fld)).0 here ∙ ap (λ ps. count_to (latest_number (value_in_parts x fld ps) (last_write T + 1) (words.newest T)) (writes h ++ Own u ∷ [])) (sym is);
      number = subst (λ ps. IsNumber (latest_number (value_in_parts x fld ps) (last_write T + 1) (words.newest T)) (writes h ++ Own u ∷ [])) (sym is) (wrote_newest u commits (same_context x y) (new_value d fld)).1;
      shown = ap (λ w. if same_context x y then or_later (new_value d fld) w else w) v.shown
          ∙ write_shown (same_context x y) (new_value d fld) (replay start T) (kept start T) (λ e. held_shown start T (held_field c p mk x fld ms m b t (ap s.holds (same_context_is x y e) ∙ held)))
          ∙ ap (λ ps. shown_after_write (value_in_parts x fld ps) (replay start T)) (sym is);
    }
      where
        commits : commit_of (Own u) ≡ true
        commits = ap (list_any Rattle.protocol.specs.Bundle.is_commit) is

    -- ---- it makes and drops contexts

    shown_framed : (f : ContextId) (y : ContextId) (k : Rattle.wire_msgs.specs.declared.part.Known.Known) → f ≡ next_frame p (seen_now c p ms) → k.context ≡ f → k.fields ≡ initial_table → (seen_now c p ms).holds y ≡ true → above_in mk (next_frame p (seen_now c p ms)) ≡ Some y
        → ShownNext (seen_after p (Framed f y) (seen_now c p ms)) (deed (downs.Create k) ∷ [])
    unfolding seen_after
    shown_framed f y k is named fields held up = record {
      newest_is = λ here. newest_by (same_context x f) refl here;
      number = v.number;
      shown = shown_by (same_context x f) refl ∙ ap (λ z. shown_after_take (if same_context x z then begun (value_in k.fields fld) Nothing else Nothing) false (words.stage start.stage T) (replay start T)) (sym named);
    }
      where
        coming : same_context x f ≡ true → words.stage (begin c p x fld).stage (trace_of c p mk x fld (events_of p ms)) ≡ Coming
        coming e = (fits_frame c p mk x fld ms m b t y held up (ap (same_context x) (sym is) ∙ e)).unheld

        newest_by : (w : Bool) → same_context x f ≡ w → (if w then true else (seen_now c p ms).holds x) ≡ true → (if w then 0 else (seen_now c p ms).newest x fld) ≡ count_to (words.newest (trace_of c p mk x fld (events_of p ms))) (writes (events_of p ms))
        newest_by true e here = ap (λ i. count_to i (writes h)) (sym (coming_unwritten start T t.fits (coming e)))
        newest_by false e here = v.newest_is here

        shown_by : (w : Bool) → same_context x f ≡ w → (if w then Some (initial fld) else (seen_now c p ms).value x fld) ≡ shown_after_take (if w then begun (value_in k.fields fld) Nothing else Nothing) false (words.stage (begin c p x fld).stage (trace_of c p mk x fld (events_of p ms))) (replay (begin c p x fld) (trace_of c p mk x fld (events_of p ms)))
        shown_by true e = ap Some (sym (ap (λ tb. value_in tb fld) fields ∙ initially fld)) ∙ ap (λ st. shown_after_take (Begins (value_in k.fields fld)) false st (replay start T)) (sym (coming e))
        shown_by false e = v.shown

    unheld_value : (seen_now c p ms).holds x ≡ false → (seen_now c p ms).value x fld ≡ None
    unheld_value e = v.shown ∙ unheld_shown start T (ap is_held (t.stages ∙ sym (stage_until c p mk x h)) ∙ b.seen.stages x ∙ e)

    shown_went : (y : ContextId) → ShownNext (seen_after p (Went y) (seen_now c p ms)) (deed (downs.Discard y) ∷ [])
    unfolding seen_after
    shown_went y = record {
      newest_is = λ here. newest_by (s.under x y) here;
      number = v.number;
      shown = by_held (s.holds x) refl;
    }
      where
        newest_by : (w : Bool) → (if w then false else (seen_now c p ms).holds x) ≡ true → (if w then 0 else (seen_now c p ms).newest x fld) ≡ count_to (words.newest (trace_of c p mk x fld (events_of p ms))) (writes (events_of p ms))
        newest_by true here = absurd cc
        newest_by false here = v.newest_is here

        shown_by : (w : Bool) → (if w then None else (seen_now c p ms).value x fld) ≡ shown_after_take (if w then Removes else Nothing) false (words.stage (begin c p x fld).stage (trace_of c p mk x fld (events_of p ms))) (replay (begin c p x fld) (trace_of c p mk x fld (events_of p ms)))
        shown_by true = refl
        shown_by false = v.shown

        gone_by : (w : Bool) → (seen_now c p ms).value x fld ≡ None → (seen_now c p ms).value x fld ≡ shown_after_take (if w then Removes else Nothing) false (words.stage (begin c p x fld).stage (trace_of c p mk x fld (events_of p ms))) (replay (begin c p x fld) (trace_of c p mk x fld (events_of p ms)))
        gone_by true e = e
        gone_by false e = v.shown

        by_held : (w : Bool) → (seen_now c p ms).holds x ≡ w
            → (if (seen_now c p ms).under x y then None else (seen_now c p ms).value x fld) ≡ shown_after_take (if is_among y (line x mk) then Removes else Nothing) false (words.stage (begin c p x fld).stage (trace_of c p mk x fld (events_of p ms))) (replay (begin c p x fld) (trace_of c p mk x fld (events_of p ms)))
        by_held true e = ap (λ (w : Bool). if w then None else s.value x fld) (b.ties.held_under x y e) ∙ shown_by (is_among y (line x mk))
        by_held false e = ap (λ (w : Bool). if w then None else s.value x fld) (b.ties.unheld_under x y e) ∙ gone_by (is_among y (line x mk)) (unheld_value e)

    -- ---- it takes a bundle

    module _ (d : Bundle DownBundle) (rest : List (Bundle DownBundle)) (first : bundles_waiting (events_of p ms) ≡ d ∷ rest) (stage_next : tree_stage c p mk x fld (Takes d ∷ events_of p ms) ≡ tree_stage c p mk x fld (m.events p ++ events_of p ms)) where
      abbrev parts : List DownPart
      parts = singles d.content.parts

      pub fits : DownFits c p mk (seen_now c p ms).frames_made d.content.parts
      fits = of_all (subst (AllByRecursion (λ (d : Bundle DownBundle). DownFits c p mk s.frames_made d.content.parts)) first a.downs)
        where
          of_all : AllByRecursion (λ (d : Bundle DownBundle). DownFits c p mk (seen_now c p ms).frames_made d.content.parts) (d ∷ rest) → DownFits c p mk (seen_now c p ms).frames_made d.content.parts
          of_all all = all.0

      kinds : AllByRecursion (SingleFits p (seen_now c p ms).frames_made) (singles d.content.parts)
      kinds = singles_fit p s.frames_made d.content.parts fits.kinds

      stamped : Stamped (writes (events_of p ms)) d
      stamped = first_is (Stamped (writes h)) (takes h) (bundles_sent h) d (record { rest = rest; is = first }) a.numbers.stamps

      -- the events tell of a context what its parts tell
      told_parts : tree_stage c p mk x fld (Takes d ∷ events_of p ms) ≡ moved (parts_tell x (line x mk) (singles d.content.parts)) (tree_stage c p mk x fld (events_of p ms))
      told_parts = refl

      held_after : (seen_now c p (m ∷ ms)).holds x ≡ is_held (tree_stage c p mk x fld (Takes d ∷ events_of p ms))
      held_after = sym (ap is_held (stage_next ∙ sym (stage_until c p mk x (m.events p ++ h))) ∙ a.seen_next.stages x)

      abbrev obsolete : Bool
      obsolete = nat_lt d.epoch (words.newest (trace_of c p mk x fld (events_of p ms)))

      -- whether what is given is obsolete, where there are values
      fresh_same : (seen_now c p ms).holds x ≡ true → fresh_of (nat_lt d.content.epoch.0 ((seen_now c p ms).newest x fld)) (parts_value x fld (singles d.content.parts)) ≡ fresh_of (nat_lt d.epoch (words.newest (trace_of c p mk x fld (events_of p ms)))) (parts_value x fld (singles d.content.parts))
      fresh_same held = by_stamp stamped
        where
          none_fresh : (w : Bool) → fresh_of w None ≡ None
          none_fresh true = refl
          none_fresh false = refl

          by_stamp : Stamped (writes (events_of p ms)) d → fresh_of (nat_lt d.content.epoch.0 ((seen_now c p ms).newest x fld)) (parts_value x fld (singles d.content.parts)) ≡ fresh_of (nat_lt d.epoch (words.newest (trace_of c p mk x fld (events_of p ms)))) (parts_value x fld (singles d.content.parts))
          by_stamp (inl plain) =
              ap (fresh_of (nat_lt d.content.epoch.0 (s.newest x fld))) (plain_value x fld parts (plain_singles d.content.parts plain)) ∙ none_fresh (nat_lt d.content.epoch.0 (s.newest x fld))
              ∙ sym (ap (fresh_of obsolete) (plain_value x fld parts (plain_singles d.content.parts plain)) ∙ none_fresh obsolete)
          by_stamp (inr stamp) =
              ap (λ w. fresh_of w (parts_value x fld parts)) (ap₂ nat_lt stamp.epoch (v.newest_is held) ∙ older_same d.epoch (words.newest T) (writes h) v.number)

      never_here : (k : Rattle.model.proofs.Taken.IsComing c p d.content.epoch.0 mk b.lined x fld (seen_now c p ms).frames_made (singles d.content.parts)) → (seen_now c p ms).holds x ≡ true → parts_tell x (line x mk) (singles d.content.parts) ≡ Comes → ⊥
      never_here k held comes = by_above (above_in mk x) refl
        where
          keeps : Keeps (tree_look c p mk) (tree_begin c p mk) (until_end (events_of p ms))
          keeps = record { lawful = lawful c p mk b.lined; flows = flows_still h b.flows; fits = b.seen.fits }

          other : (x.creator == p + 1) ≡ false
          other = ap (λ z. z.creator == p + 1) k.is ∙ k.fits.others

          held_stage : tree_stage c p mk x fld (until_end (events_of p ms)) ≡ Held
          held_stage = stage_until c p mk x h ∙ sym t.stages ∙ held_field c p mk x fld ms m b t held

          waits : IsFirst d (bundles_waiting (until_end (events_of p ms)))
          waits = record { rest = rest; is = waits_same h b.flows ∙ first }

          by_above : (o : Option ContextId) → above_in mk x ≡ o → ⊥
          by_above None top =
              let two : Held ≡ Coming = sym held_stage ∙ first_new (tree_look c p mk) (tree_begin c p mk) keeps.lawful x other top d (until_end h) keeps.flows keeps.fits (never_ends h) waits comes in absurd cc
          by_above (Some y) up = (comings_below (tree_look c p mk) (tree_begin c p mk) d (until_end h) keeps (never_ends h) waits x y other up comes).0 held_stage

      stays_kept : is_held (tree_stage c p mk x fld (Takes d ∷ events_of p ms)) ≡ true → parts_tell x (line x mk) (singles d.content.parts) ≡ Goes → ⊥
      stays_kept is goes = let two : true ≡ false = sym is ∙ ap is_held (told_parts ∙ ap (λ e. moved e (tree_stage c p mk x fld h)) goes) in absurd cc

      -- a context that it has and keeps
      shown_still : (seen_now c p ms).holds x ≡ true → is_held (tree_stage c p mk x fld (Takes d ∷ events_of p ms)) ≡ true → (u : Seen) → u.value x fld ≡ (steps c p d.content.epoch.0 (singles d.content.parts) (seen_now c p ms)).value x fld
          → u.newest x fld ≡ (steps c p d.content.epoch.0 (singles d.content.parts) (seen_now c p ms)).newest x fld → ShownNext u (Takes d ∷ [])
      shown_still held is u same_value same_newest = record {
        newest_is = λ here. same_newest ∙ r.newest ∙ v.newest_is held ∙ ap (λ i. count_to i (writes h)) (sym number_is);
        number = subst (λ i. IsNumber i (writes h)) (sym number_is) v.number;
        shown = same_value ∙ r.value ∙ ap (λ o. or_later o (s.value x fld)) (fresh_same held)
            ∙ given_shown obsolete (parts_value x fld parts) (s.value x fld) (kept start T) (initial fld) (words.stage start.stage T) (v.shown ∙ held_shown start T (held_field c p mk x fld ms m b t held))
            ∙ ap₂ (λ e w. shown_after_take e obsolete (words.stage start.stage T) w) (sym content_is) v.shown;
      }
        where
          r : StaysHeld c p d.content.epoch.0 mk b.lined x fld (seen_now c p ms).frames_made (singles d.content.parts) (seen_now c p ms) (steps c p d.content.epoch.0 (singles d.content.parts) (seen_now c p ms))
          r = held_steps c p d.content.epoch.0 mk b.lined x fld s.frames_made parts s fits.come kinds b.ties held (stays_kept is)

          number_is : number_after (content_of x (line x mk) fld (singles d.content.parts)) (words.newest (trace_of c p mk x fld (events_of p ms))) ≡ words.newest (trace_of c p mk x fld (events_of p ms))
          number_is = number_stays (content_of x (line x mk) fld parts) (words.newest T) (content_stays x (line x mk) fld parts)

          content_is : content_of x (line x mk) fld (singles d.content.parts) ≡ content_by Stays (parts_value x fld (singles d.content.parts)) (initial fld)
          content_is = by_tell (parts_tell x (line x mk) parts) refl (coming_of c p d.content.epoch.0 mk b.lined x fld s.frames_made parts fits.come)
            where
              by_tell : (e : Effect) → parts_tell x (line x mk) (singles d.content.parts) ≡ e
                  → (NoneOf c p d.content.epoch.0 mk b.lined x fld (seen_now c p ms).frames_made (Rattle.model.proofs.Arranging.come_all (singles d.content.parts))) ⊎ IsComing c p d.content.epoch.0 mk b.lined x fld (seen_now c p ms).frames_made (singles d.content.parts)
                  → content_of x (line x mk) fld (singles d.content.parts) ≡ content_by Stays (parts_value x fld (singles d.content.parts)) (initial fld)
              by_tell Comes e (inl none) = absurd (none_tells c p d.content.epoch.0 mk b.lined x fld s.frames_made parts none e)
              by_tell Comes e (inr k) = absurd (never_here k held e)
              by_tell Goes e found = absurd (stays_kept is e)
              by_tell Stays e found = content_held c p d.content.epoch.0 mk b.lined x fld s.frames_made parts fits.first (stays_none c p d.content.epoch.0 mk b.lined x fld s.frames_made parts e) (stays_kept is)

      -- one that comes
      shown_came : (seen_now c p ms).holds x ≡ false → is_held (tree_stage c p mk x fld (Takes d ∷ events_of p ms)) ≡ true → (steps c p d.content.epoch.0 (singles d.content.parts) (seen_now c p ms)).holds x ≡ true
          → (u : Seen) → u.value x fld ≡ (steps c p d.content.epoch.0 (singles d.content.parts) (seen_now c p ms)).value x fld → u.newest x fld ≡ (steps c p d.content.epoch.0 (singles d.content.parts) (seen_now c p ms)).newest x fld → ShownNext u (Takes d ∷ [])
      shown_came unheld is here u same_value same_newest = record {
        newest_is = λ held. same_newest ∙ r.newest ∙ ap (λ i. count_to i (writes h)) (sym (number_is ∙ coming_unwritten start T t.fits was));
        number = subst (λ i. IsNumber i (writes h)) (sym number_is) v.number;
        shown = same_value ∙ r.value ∙ ap₂ (λ e st. shown_after_take e obsolete st (replay start T)) (sym r.content) (sym was);
      }
        where
          r : HasCome c p d.content.epoch.0 mk b.lined x fld (seen_now c p ms).frames_made (singles d.content.parts) (steps c p d.content.epoch.0 (singles d.content.parts) (seen_now c p ms))
          r = come_steps c p d.content.epoch.0 mk b.lined x fld s.frames_made parts s fits.first fits.apart fits.come kinds b.ties unheld (stays_kept is) here

          number_is : number_after (content_of x (line x mk) fld (singles d.content.parts)) (words.newest (trace_of c p mk x fld (events_of p ms))) ≡ words.newest (trace_of c p mk x fld (events_of p ms))
          number_is = number_stays (content_of x (line x mk) fld parts) (words.newest T) (content_stays x (line x mk) fld parts)

          unheld_stage : is_held (tree_stage c p mk x fld (events_of p ms)) ≡ false
          unheld_stage = ap is_held (sym (stage_until c p mk x h)) ∙ b.seen.stages x ∙ unheld

          coming_before : (e : Effect) (st : Stage) → is_held st ≡ false → is_held (moved e st) ≡ true → st ≡ Coming
          coming_before e Coming before behind = refl
          coming_before e Held before behind = absurd cc
          coming_before Stays Gone before behind = absurd cc
          coming_before Comes Gone before behind = absurd cc
          coming_before Goes Gone before behind = absurd cc

          was : words.stage (begin c p x fld).stage (trace_of c p mk x fld (events_of p ms)) ≡ Coming
          was = t.stages ∙ coming_before (parts_tell x (line x mk) parts) (tree_stage c p mk x fld h) unheld_stage (ap is_held (sym told_parts) ∙ is)

      -- one that it doesn't have then
      shown_unheld : is_held (tree_stage c p mk x fld (Takes d ∷ events_of p ms)) ≡ false → words.stage (begin c p x fld).stage (trace_of c p mk x fld (Takes d ∷ events_of p ms)) ≡ tree_stage c p mk x fld (Takes d ∷ events_of p ms)
          → (u : Seen) → u.holds x ≡ false → u.value x fld ≡ None → ShownNext u (Takes d ∷ [])
      shown_unheld is same u none_held none_value = record {
        newest_is = λ held. true_false (u.holds x) held none_held;
        number = subst (λ i. IsNumber i (writes h)) (sym (number_stays (content_of x (line x mk) fld parts) (words.newest T) (content_stays x (line x mk) fld parts))) v.number;
        shown = none_value ∙ sym (unheld_shown start (trace_of c p mk x fld (Takes d ∷ h)) (ap is_held same ∙ is));
      }

      pub shown_took : (u : Seen) → u.holds x ≡ (steps c p d.content.epoch.0 (singles d.content.parts) (seen_now c p ms)).holds x → u.value x fld ≡ (steps c p d.content.epoch.0 (singles d.content.parts) (seen_now c p ms)).value x fld
          → u.newest x fld ≡ (steps c p d.content.epoch.0 (singles d.content.parts) (seen_now c p ms)).newest x fld → u.holds x ≡ (seen_now c p (m ∷ ms)).holds x
          → words.stage (begin c p x fld).stage (trace_of c p mk x fld (Takes d ∷ events_of p ms)) ≡ tree_stage c p mk x fld (Takes d ∷ events_of p ms) → ShownNext u (Takes d ∷ [])
      shown_took u same_holds same_value same_newest now same = by_held (is_held (tree_stage c p mk x fld (Takes d ∷ h))) refl (s.holds x) refl
        where
          by_held : (w : Bool) → is_held (tree_stage c p mk x fld (Takes d ∷ events_of p ms)) ≡ w → (z : Bool) → (seen_now c p ms).holds x ≡ z → ShownNext u (Takes d ∷ [])
          by_held true is true held = shown_still held is u same_value same_newest
          by_held true is false unheld = shown_came unheld is (sym same_holds ∙ now ∙ held_after ∙ is) u same_value same_newest
          by_held false is z held =
              shown_unheld is same u (now ∙ held_after ∙ is)
              (same_value ∙ unvalued_steps c p d.content.epoch.0 mk b.lined x fld s.frames_made parts s kinds (λ e. unheld_value e) (sym same_holds ∙ now ∙ held_after ∙ is))

    -- ---- all entries

    taken_stage : (d : Bundle DownBundle) (parts : List UpPart) → AllByRecursion IsAck parts
        → tree_stage c p mk x fld (Takes d ∷ events_of p ms) ≡ tree_stage c p mk x fld ((written (bundle_sent (seen_now c p (m ∷ ms)) parts) ++ Takes d ∷ []) ++ events_of p ms)
    taken_stage d parts acks = by_acks (λ es. tree_stage c p mk x fld (Takes d ∷ events_of p ms) ≡ tree_stage c p mk x fld ((es ++ Takes d ∷ []) ++ events_of p ms)) (seen_now c p (m ∷ ms)) parts acks refl
        (λ u plain. ap (λ e. moved e (tree_stage c p mk x fld (Takes d ∷ h))) (sym (acks_do x (line x mk) u.parts plain)))

    shown_taken : (d : Bundle DownBundle) (rest : List (Bundle DownBundle)) → IsTake c p ms m d rest → (acked : List UpPart) → AllByRecursion IsAck acked → m.events p ≡ written (bundle_sent (seen_now c p (m ∷ ms)) acked) ++ Takes d ∷ []
        → ShownNext (seen_now c p (m ∷ ms)) (m.events p)
    shown_taken d rest is acked acks events =
        subst (ShownNext (seen_now c p (m ∷ ms))) (sym events)
        (by_acks (λ es. ShownNext (seen_now c p (m ∷ ms)) (es ++ Takes d ∷ [])) (seen_now c p (m ∷ ms)) acked acks took
        (λ u plain. one_write u (seen_now c p (m ∷ ms)) (Takes d ∷ []) (acks_write x fld u.parts plain) took))
      where
        stage_same : tree_stage c p mk x fld (Takes d ∷ events_of p ms) ≡ tree_stage c p mk x fld (m.events p ++ events_of p ms)
        stage_same = taken_stage d acked acks ∙ ap (λ es. tree_stage c p mk x fld (es ++ h)) (sym events)

        seen_is : seen_now c p (m ∷ ms) ≡ seen_after p Took (steps c p d.content.epoch.0 (singles d.content.parts) (seen_now c p ms))
        seen_is =
            ap (λ ds. own_asked c.tabs p (ds ++ did_by p ms)) is.did ∙ own_asked_more c.tabs p Took _
            ∙ ap (seen_after p Took) (steps_are c p d.content.epoch.0 (did_by p ms) s.frames_made d.content.parts [] (fits d rest is.first stage_same).kinds)

        took : ShownNext (seen_now c p (m ∷ ms)) (Takes d ∷ [])
        took =
            let same : ((seen_after p Took (steps c p d.content.epoch.0 (singles d.content.parts) s)).holds x ≡ (steps c p d.content.epoch.0 (singles d.content.parts) s).holds x)
            × ((seen_after p Took (steps c p d.content.epoch.0 (singles d.content.parts) s)).value x fld ≡ (steps c p d.content.epoch.0 (singles d.content.parts) s).value x fld)
            × ((seen_after p Took (steps c p d.content.epoch.0 (singles d.content.parts) s)).newest x fld ≡ (steps c p d.content.epoch.0 (singles d.content.parts) s).newest x fld) = took_same p (steps c p d.content.epoch.0 (singles d.content.parts) s) x fld in
            shown_took d rest is.first stage_same (seen_now c p (m ∷ ms)) (ap (λ (z : Seen). z.holds x) seen_is ∙ same.0) (ap (λ (z : Seen). z.value x fld) seen_is ∙ same.1) (ap (λ (z : Seen). z.newest x fld) seen_is ∙ same.2) refl
            (same_took c p mk x fld d h t.stages)

    did_one : (e : Doing) → m.did p ≡ e ∷ [] → seen_now c p (m ∷ ms) ≡ seen_after p e (seen_now c p ms)
    did_one e is = ap (λ ds. own_asked c.tabs p (ds ++ did_by p ms)) is ∙ own_asked_more c.tabs p e (did_by p ms)

    shown_hears : (u : UpBundle) → Hearing c p ms m u → ShownNext (seen_now c p (m ∷ ms)) (m.events p)
    shown_hears u (AsMade y z is) = by_parents _ (tt, tt) is.did is.events
    shown_hears u (AsLate y z d is) = by_parents _ (tt, tt) is.did is.events
    shown_hears u (AsDrop y is) = by_parents _ (tt, tt) is.did is.events
    shown_hears u (AsOldDrop y is) = by_parents _ (tt, tt) is.did is.events
    shown_hears u (AsAcks is) = by_parents _ (tt, tt) is.did is.events
    shown_hears u (AsCommit y d ns back is) = by_parents _ (heard_parents (length ms + 1) (Own u) m.answer m.says back) is.did is.events
    shown_hears u (AsOldCommit y d is) = by_parents _ (tt, tt) is.did is.events
    shown_hears u (AsOver is) = by_parents _ (tt, tt) is.did is.events

    shown_next : Entry c p ms m → ShownNext (seen_now c p (m ∷ ms)) (m.events p)
    shown_next (Idle is) = by_parents [] tt is.did is.events
    shown_next (Sets y d u is) = subst (ShownNext (seen_now c p (m ∷ ms))) (sym is.events) (subst (λ z. ShownNext z (Writes (Own u) ∷ [])) (sym (did_one (Wrote y d) is.did)) (shown_wrote y d u is.sent.parts is.held))
    shown_next (Frames y u is) = subst (ShownNext (seen_now c p (m ∷ ms))) (sym is.events)
        (one_write u (seen_now c p (m ∷ ms)) (deed (downs.Create (own_known (seen_now c p (m ∷ ms)) (next_frame p s) y)) ∷ []) (ap (value_in_parts x fld) is.sent.parts)
        (subst (λ z. ShownNext z (deed (downs.Create (own_known (seen_now c p (m ∷ ms)) (next_frame p s) y)) ∷ [])) (sym (did_one (Framed (next_frame p s) y) is.did))
        (shown_framed (next_frame p s) y (own_known (seen_now c p (m ∷ ms)) (next_frame p s) y) refl refl refl is.held (framed_above c p mk x fld ms m b t (next_frame p s) y is.did))))
    shown_next (Drops y u is) = subst (ShownNext (seen_now c p (m ∷ ms))) (sym is.events)
        (one_write u (seen_now c p (m ∷ ms)) (deed (downs.Discard y) ∷ []) (ap (value_in_parts x fld) is.sent.parts)
        (subst (λ z. ShownNext z (deed (downs.Discard y) ∷ [])) (sym (did_one (Went y) is.did)) (shown_went y)))
    shown_next (TakesOne d rest is) = shown_taken d rest is _ (by_if (AllByRecursion IsAck) (list_any is_kill d.content.parts) [] _ (λ kill. tt) (λ lives. acks_posted p d.content.epoch.0 _ _ d.content.parts [])) is.events
    shown_next (Tells posts is) = by_parents _ (told_parents (length ms + 1) m.says (bundle_for (facts_now c (m ∷ ms)) p (in_order posts)), tt) is.did is.events
    shown_next (Killing d is) = by_parents _ (tt, (tt, tt)) is.did is.events
    shown_next (HearsOne u rest first hears) = shown_hears u hears

    pub shown_kept : Entry c p ms m → ShownTies c p mk x fld (m ∷ ms)
    shown_kept e = let r : ShownNext (seen_now c p (m ∷ ms)) (m.events p) = shown_next e in record { newest_is = r.newest_is; number = r.number; shown = r.shown }

start_shown : (w : Bool) (v : Value) → (if w then Some v else None) ≡ while_held (if w then Held else Coming) v
start_shown true v = refl
start_shown false v = refl

pub shown_start : (c : Config) (p : ℕ) (mk : List Making) (x : ContextId) (fld : Field) → ShownTies c p mk x fld []
unfolding value newest holds
shown_start c p mk x fld = record {
  newest_is = λ held. refl;
  number = inl refl;
  shown = start_shown (Rattle.protocol.specs.Start.is_held_at_start c.tabs p x) (initial fld);
}

-- what the process answers is the view of the trace
pub shows_view : (c : Config) (p : ℕ) (mk : List Making) (x : ContextId) (fld : Field) (ms : List Moment) → Flows (events_of p ms) → Rises (events_of p ms) → FieldTies c p mk x fld ms → ShownTies c p mk x fld ms
    → (seen_now c p ms).value x fld ≡ while_held (words.stage (begin c p x fld).stage (trace_of c p mk x fld (events_of p ms))) (words.view (begin c p x fld) (trace_of c p mk x fld (events_of p ms)))
shows_view c p mk x fld ms flows rises t v =
    let same : Projected (view.look x fld mk) (events_of p ms) = projection Written DownBundle Value (view.look x fld mk) (events_of p ms) flows rises t.apart in
    v.shown ∙ shows (begin c p x fld) (trace_of c p mk x fld (events_of p ms)) same.flows same.ordered t.fits
