-- Which parts the bundles of a run have: a process sends what the parent hears, and the parent what a process takes.
use Rattle.std.proofs.Common.{ℕ, zero, suc, ◌+◌, ◌==◌, Bool, not, ◌&&◌, if◌then◌else◌, List, [], ◌∷◌, ◌++◌, length, drop, map}
use Rattle.std.specs.Prelude.{⊤, is_some}
use Rattle.std.specs.List.{AllByRecursion, list_any}
use Rattle.field_table.specs.declared.field.Field.{Field}
use Rattle.transaction.specs.Transaction.{Changes}
use Rattle.fission_ids.specs.declared.context.ContextId.{ContextId}
use Rattle.wire_msgs.specs.declared.action.Action.{Action}
use Rattle.wire_msgs.specs.declared.action.Action.TheVariants as own
use Rattle.wire_msgs.specs.declared.action.ParentAction.{ParentAction}
use Rattle.wire_msgs.specs.declared.action.ParentAction.TheVariants as parents
use Rattle.wire_msgs.specs.declared.answer.Answer.{Answer}
use Rattle.wire_msgs.specs.declared.answer.Answer.TheVariants as answers
use Rattle.wire_msgs.specs.declared.bundle.DownBundle.{DownBundle}
use Rattle.wire_msgs.specs.declared.bundle.UpBundle.{UpBundle}
use Rattle.wire_msgs.specs.declared.cause.EndCause.{EndCause}
use Rattle.wire_msgs.specs.declared.cause.EndCause.TheVariants.{Failed}
use Rattle.wire_msgs.specs.declared.config.Config.{Config}
use Rattle.wire_msgs.specs.declared.note.Mark.TheVariants.{Done, Late}
use Rattle.wire_msgs.specs.declared.note.PartNote.{PartNote}
use Rattle.wire_msgs.specs.declared.note.PartNote.TheVariants as notes
use Rattle.wire_msgs.specs.declared.part.DownPart.{DownPart}
use Rattle.wire_msgs.specs.declared.part.DownPart.TheVariants as downs
use Rattle.wire_msgs.specs.declared.part.UpPart.{UpPart}
use Rattle.wire_msgs.specs.declared.part.UpPart.TheVariants as ups
use Rattle.wire_msgs.specs.declared.refusal.Refusal.TheVariants.{Stopped}
use Rattle.journal.specs.Step.{StepFits}
use Rattle.journal.specs.declared.entry.Step.{Step}
use Rattle.journal.specs.declared.entry.Step.TheVariants.{Act, Take, Raw as RawStep, ParentAct, Hear}
use Rattle.protocol.specs.Bundle.{Ruling, bundle_for, bundle_ruling, end_parts, envelope_fault, is_counted}
use Rattle.protocol.specs.Fold.{or_later, after_part, first_fault, posts_of}
use Rattle.protocol.specs.Hear as hear
use Rattle.protocol.specs.Outside.{told_allowed}
use Rattle.protocol.specs.OwnActs as acts
use Rattle.protocol.specs.ParentActs as parent_acts
use Rattle.protocol.specs.ParentActs.{context_of_tab, group_of_tab, known_of, register_of}
use Rattle.protocol.specs.Played.{IsPlayed, IsPlayedByParent, ArePlayed}
use Rattle.protocol.specs.Questions.{Facts, is_subscribed, is_told}
use Rattle.protocol.specs.Sayings.{Saying}
use Rattle.protocol.specs.Sayings.Saying.{Counted}
use Rattle.protocol.specs.Seen.{Seen, Doing}
use Rattle.protocol.specs.Seen.Doing.{Framed, Went}
use Rattle.protocol.specs.Take as take
use Rattle.content_core.specs.Moved.{IsTakenPart, IsTaken}
use Rattle.traces.specs.Event.{Bundle}
use Rattle.traces.specs.Event.Event.{Writes, Sends, Takes, Accepts, Reverts, Ignores, Ends}
use Rattle.traces.specs.Links.{writes, hears, takes, bundles_sent, writes_waiting, bundles_waiting}
use Rattle.model.specs.Journal.{Journal, steps_of}
use Rattle.model.specs.Links.{bundles_in, up_waiting, down_waiting}
use Rattle.model.specs.Moments.{Moment, Written, ProcessEvent, events_of, seen_now, for_one, only_answer, written, deeds, act_moment, taken_moment, raw_moment, if_running, is_end_of, ends, told, sent_to, heard, is_done, events_heard, heard_moment, moment, moments_of}
use Rattle.model.specs.Moments.Written.{Own, Raw, Said}
use Rattle.model.proofs.Cases.{by_if}
use Rattle.model.proofs.ClassifyTold.{by_option}
use Rattle.model.proofs.DownsSent.{all_ordered}
use Rattle.world.proofs.LooksBack.{facts_with, seen_with}
use Rattle.world.proofs.Comes.{action_looked, looked_at}

-- ---- lists

all_append : {X : Type 0} (P : X → Type 0) (xs ys : List X) → AllByRecursion P xs → AllByRecursion P ys → AllByRecursion P (xs ++ ys)
all_append P [] ys all more = more
all_append P (x ∷ xs) ys all more = (all.0, all_append P xs ys all.1 more)

all_left : {X : Type 0} (P : X → Type 0) (n : ℕ) (xs : List X) → AllByRecursion P xs → AllByRecursion P (drop n xs)
all_left P zero xs all = all
all_left P (suc n) [] all = tt
all_left P (suc n) (x ∷ xs) all = all_left P n xs all.1

-- ---- events

-- the bundle of a write is heard
abbrev IsHeardWrite : Written → Type 0
IsHeardWrite (Own b) = ArePlayed b.parts
IsHeardWrite (Raw b) = ArePlayed b.parts
IsHeardWrite (Said says) = ⊤

abbrev IsTakenBundle : Bundle DownBundle → Type 0
IsTakenBundle d = IsTaken d.content.parts

-- the bundle that an event puts on a link is heard, or taken
abbrev IsSound : ProcessEvent → Type 0
IsSound (Writes w) = IsHeardWrite w
IsSound (Sends k u d) = IsTaken d.parts
IsSound (Reverts k w d) = IsTaken d.parts
IsSound e = ⊤

abbrev AreSound : List ProcessEvent → Type 0
AreSound es = AllByRecursion IsSound es

writes_heard : (h : List ProcessEvent) → AreSound h → AllByRecursion IsHeardWrite (writes h)
writes_heard [] all = tt
writes_heard (Writes w ∷ h) all = all_append IsHeardWrite (writes h) (w ∷ []) (writes_heard h all.1) (all.0, tt)
writes_heard (_ ∷ h) all = writes_heard h all.1

bundles_taken : (h : List ProcessEvent) → AreSound h → AllByRecursion IsTakenBundle (bundles_sent h)
bundles_taken [] all = tt
bundles_taken (Sends k u d ∷ h) all = all_append IsTakenBundle (bundles_sent h) (record { entry = k; epoch = hears h; content = d } ∷ []) (bundles_taken h all.1) (all.0, tt)
bundles_taken (Reverts k w d ∷ h) all = all_append IsTakenBundle (bundles_sent h) (record { entry = k; epoch = hears h + 1; content = d } ∷ []) (bundles_taken h all.1) (all.0, tt)
bundles_taken (_ ∷ h) all = bundles_taken h all.1

-- ---- a process sends

sent_sound : (s : Seen) (parts : List UpPart) (more : List ProcessEvent) → ArePlayed parts → AreSound more → AreSound (written (take.bundle_sent s parts) ++ more)
sent_sound s [] more all rest = rest
sent_sound s (a ∷ parts) more all rest = (all, rest)

deeds_sound : (s : Seen) (did : List Doing) → AreSound (deeds s did)
deeds_sound s [] = tt
deeds_sound s (Framed x above ∷ did) = (tt, deeds_sound s did)
deeds_sound s (Went x ∷ did) = (tt, deeds_sound s did)
deeds_sound s (_ ∷ did) = deeds_sound s did

-- as it acts
posts_played : (p : ℕ) (s : Seen) (action : Action) → ArePlayed (acts.posts p s action)
unfolding acts.posts
posts_played p s (own.Set x t) = (tt, tt)
posts_played p s (own.Frame x) = (tt, tt)
posts_played p s (own.Drop x) = (tt, tt)
posts_played p s (_) = tt

act_played : (p : ℕ) (action : Action) (seen : List Doing → Seen) → ArePlayed (acts.action_step seen (λ d did. d ∷ did) p action []).sends
act_played p action seen =
    by_option (λ (st : take.Step (List Doing)). ArePlayed st.sends) _ (acts.refusal p (seen []) action) _ (λ why refused. tt) (λ allowed. posts_played p (seen []) action)

-- and as it takes
part_played : (a : DownPart) → ArePlayed (take.posts a)
unfolding take.posts
part_played (downs.Discard x) = (tt, tt)
part_played (_) = tt

parts_played : (p epoch : ℕ) (seen : List Doing → Seen) (did : List Doing) (parts : List DownPart) → ArePlayed (posts_of (take.take_rules p epoch) seen (λ d did. d ∷ did) did parts)
unfolding posts_of
parts_played p epoch seen did [] = tt
parts_played p epoch seen did (a ∷ parts) =
    all_append IsPlayed (take.posts a) (posts_of (take.take_rules p epoch) seen (λ d did. d ∷ did) (after_part (take.take_rules p epoch) seen (λ d did. d ∷ did) a did) parts)
    (part_played a) (parts_played p epoch seen (after_part (take.take_rules p epoch) seen (λ d did. d ∷ did) a did) parts)

take_played : (p : ℕ) (b : DownBundle) (seen : List Doing → Seen) → ArePlayed (take.bundle_step seen (λ d did. d ∷ did) p b []).sends
take_played p b seen = by_if ArePlayed (list_any take.is_kill b.parts) [] _ (λ over. tt) (λ lives. parts_played p b.epoch.0 seen [] b.parts)

one_sound : (p q : ℕ) (es : List ProcessEvent) → AreSound es → AreSound (for_one p es q)
one_sound p q es all = by_if AreSound (q == p) es [] (λ is. all) (λ isnt. tt)

act_sound : (c : Config) (p q : ℕ) (action : Action) (ms : List Moment) → AreSound ((act_moment c p action ms).events q)
act_sound c p q action ms =
    let step : take.Step (List Doing) = acts.action_step (seen_with c p ms) (λ d did. d ∷ did) p action [] in
    let s : Seen = seen_with c p ms step.kept in
    one_sound p q _ (sent_sound s step.sends (deeds s step.kept) (act_played p action (seen_with c p ms)) (deeds_sound s step.kept))

take_sound : (c : Config) (p q : ℕ) (ms : List Moment) (ds : List (Bundle DownBundle)) → AreSound ((taken_moment c p ms ds).events q)
take_sound c p q ms [] = tt
take_sound c p q ms (d ∷ ds) =
    let step : take.Step (List Doing) = take.bundle_step (seen_with c p ms) (λ d did. d ∷ did) p d.content [] in
    one_sound p q _ (sent_sound (seen_with c p ms step.kept) step.sends (Takes d ∷ []) (take_played p d.content (seen_with c p ms)) (tt, tt))

running_sound : (c : Config) (p q : ℕ) (ms : List Moment) (m : Moment) → AreSound (m.events q) → AreSound ((if_running c p ms m).events q)
running_sound c p q ms m all = by_if (λ (k : Moment). AreSound (k.events q)) (seen_now c p ms).running m (only_answer (answers.Refused Stopped)) (λ runs. all) (λ stopped. tt)

-- ---- the parent sends

told_sound : (k : ℕ) (says : List Saying) (f : Facts) (q : ℕ) (ds : List DownPart) → IsTaken ds → IsSound (told k says (bundle_for f q ds))
told_sound k says f q [] all = tt
told_sound k says f q (d ∷ ds) all = all

heard_sound : (k : ℕ) (w : Written) (answer : Answer) (says : List Saying) (f : Facts) (q : ℕ) (ds : List DownPart) → IsTaken ds → AreSound (heard k w answer says (bundle_for f q ds))
heard_sound k w (answers.Ended cause) says f q [] all = (tt, tt)
heard_sound k w (answers.Ended cause) says f q (d ∷ ds) all = (all, (tt, tt))
heard_sound k w answer says f q [] all = by_if (λ (e : ProcessEvent). AreSound (e ∷ [])) (is_done answer) (Accepts k w) (Ignores k w) (λ done. (tt, tt)) (λ undone. (tt, tt))
heard_sound k w answer says f q (d ∷ ds) all = (all, tt)

ends_sound : (q : ℕ) (says : List Saying) (es : List ProcessEvent) → AreSound es → AreSound (ends q says ++ es)
ends_sound q says es all = by_if (λ (before : List ProcessEvent). AreSound (before ++ es)) (list_any (is_end_of q) says) (Ends ∷ []) [] (λ over. (tt, all)) (λ lives. all)

-- a ruling by which each process is sent what it takes
abbrev SendsTaken : Ruling (List Saying) → Type 0
SendsTaken rule = (q : ℕ) → IsTaken (rule.sends q)

-- of an action
action_posts : (n : ℕ) (f behind : Facts) (action : ParentAction) (q : ℕ) → IsPlayedByParent n action → IsTaken (parent_acts.posts f behind action q)
unfolding parent_acts.posts
action_posts n f behind (parents.Set x t) q played = by_if IsTaken (is_told f q x) (downs.Commit x t ∷ []) [] (λ is. (tt, tt)) (λ isnt. tt)
action_posts n f behind (parents.Tab p named) q played =
    by_if IsTaken (is_subscribed f q (group_of_tab f named)) (downs.Create (known_of behind q (context_of_tab f)) ∷ []) (if q == p.0 then register_of behind q (group_of_tab f named) ∷ [] else []) (λ is. (tt, tt))
    (λ isnt. by_if IsTaken (q == p.0) (register_of behind q (group_of_tab f named) ∷ []) [] (λ is. (tt, tt)) (λ other. tt))
action_posts n f behind (parents.Subscribe p g) q played = by_if IsTaken (q == p.0 && not (is_subscribed f q g)) (register_of behind q g ∷ []) [] (λ is. (tt, tt)) (λ isnt. tt)
action_posts n f behind (parents.Discard x) q played = by_if IsTaken (is_told f q x) (downs.Discard x ∷ []) [] (λ is. (tt, tt)) (λ isnt. tt)
action_posts n f behind (parents.Kill p) q played = by_if IsTaken (q == p.0) (downs.Kill ∷ []) [] (λ is. (tt, tt)) (λ isnt. tt)
action_posts n f behind (_) q played = absurd played

action_sends : (facts : List Saying → Facts) (n : ℕ) (action : ParentAction) → IsPlayedByParent n action → SendsTaken (parent_acts.action_ruling facts (λ y says. y ∷ says) n action [])
action_sends facts n action played =
    by_option SendsTaken _ (parent_acts.refusal (facts []) action) _ (λ why refused q. tt)
    (λ allowed q. all_ordered IsTakenPart (parent_acts.posts (facts []) _ action q) (action_posts n (facts []) _ action q played))

-- of a bundle
commit_taken : (x : ContextId) (t : Changes) → IsTaken (hear.commit_unless_empty x t)
commit_taken x t = by_if IsTaken (list_any is_some t) (downs.Commit x t ∷ []) [] (λ some. (tt, tt)) (λ none. tt)

part_posts : (f : Facts) (p : ℕ) (u : UpPart) (n : PartNote) (q : ℕ) → IsTaken (hear.posts f p u n q)
unfolding hear.posts
part_posts f p (ups.Create x above) (notes.Create y Done) q = by_if IsTaken (hear.is_other_told f p q above) (downs.Create (hear.frame_known f x above) ∷ []) [] (λ is. (tt, tt)) (λ isnt. tt)
part_posts f p (ups.Create x above) (notes.Create y Late) q = by_if IsTaken (q == p) (downs.Discard x ∷ []) [] (λ is. (tt, tt)) (λ isnt. tt)
part_posts f p (ups.Drop x) (notes.Drop y Done) q = by_if IsTaken (hear.is_other_told f p q x) (downs.Discard x ∷ []) [] (λ is. (tt, tt)) (λ isnt. tt)
part_posts f p (ups.Commit x t) (notes.Commit y ns) q =
    by_if IsTaken (q == p) _ _ (λ is. commit_taken x (hear.values_where (hear.is_noted hear.is_reverted ns) f x))
    (λ isnt. by_if IsTaken (is_told f q x) _ [] (λ told_of. commit_taken x (hear.changes_where (hear.is_noted hear.is_applied ns) t)) (λ not_told. tt))
part_posts f p (_) (_) q = tt

parts_posts : (allows : Field → Bool) (p q : ℕ) (facts : List Saying → Facts) (says : List Saying) (parts : List UpPart) → IsTaken (posts_of (hear.hear_rules allows p q) facts (λ y says. y ∷ says) says parts)
unfolding posts_of
parts_posts allows p q facts says [] = tt
parts_posts allows p q facts says (u ∷ parts) =
    all_append IsTakenPart (hear.posts (facts says) p u (hear.note allows p (facts says) u) q)
    (posts_of (hear.hear_rules allows p q) facts (λ y says. y ∷ says) (after_part (hear.hear_rules allows p q) facts (λ y says. y ∷ says) u says) parts)
    (part_posts (facts says) p u (hear.note allows p (facts says) u) q) (parts_posts allows p q facts (after_part (hear.hear_rules allows p q) facts (λ y says. y ∷ says) u says) parts)

end_taken : (cause : EndCause) → IsTaken (end_parts cause)
end_taken Failed = tt
end_taken (_) = (tt, tt)

bundle_sends : (facts : List Saying → Facts) (n : ℕ) (allows : Field → Bool) (p : ℕ) (b : UpBundle) → SendsTaken (bundle_ruling facts (λ y says. y ∷ says) n allows p b [])
bundle_sends facts n allows p b =
    by_if SendsTaken (is_some ((facts []).processes.ended p)) _ _ (λ over q. tt)
    (λ lives. by_option SendsTaken _ (or_later (envelope_fault (facts []) p b) (first_fault (hear.hear_rules allows p p) facts (λ y says. y ∷ says) 1 counted b.parts)) _
    (λ cause faulty q. by_if IsTaken (q == p) (end_parts cause) [] (λ is. end_taken cause) (λ isnt. tt))
    (λ fine q. all_ordered IsTakenPart (posts_of (hear.hear_rules allows p q) facts (λ y says. y ∷ says) counted b.parts) (parts_posts allows p q facts counted b.parts)))
  where
    counted : List Saying
    counted = if is_counted (facts []) p b then Counted p ∷ [] else []

heard_all_sound : (c : Config) (p q : ℕ) (ms : List Moment) (w : Written) (rule : Ruling (List Saying)) → SendsTaken rule → AreSound (events_heard c p ms w rule q)
heard_all_sound c p q ms w rule all =
    ends_sound q rule.kept _ (by_if AreSound (q == p) (heard (length ms + 1) w rule.answer rule.kept (sent_to c ms rule p)) (told (length ms + 1) rule.kept (sent_to c ms rule q) ∷ [])
    (λ is. heard_sound (length ms + 1) w rule.answer rule.kept (facts_with c ms rule.kept) p (rule.sends p) (all p))
    (λ isnt. (told_sound (length ms + 1) rule.kept (facts_with c ms rule.kept) q (rule.sends q) (all q), tt)))

hear_sound : (c : Config) (p q : ℕ) (ms : List Moment) (allows : Field → Bool) (ws : List Written) → AreSound ((heard_moment c p ms allows ws).events q)
hear_sound c p q ms allows [] = tt
hear_sound c p q ms allows (Own b ∷ ws) = heard_all_sound c p q ms (Own b) (looked_at c ms allows p b) (bundle_sends (facts_with c ms) (length c.types) allows p b)
hear_sound c p q ms allows (Raw b ∷ ws) = heard_all_sound c p q ms (Raw b) (looked_at c ms allows p b) (bundle_sends (facts_with c ms) (length c.types) allows p b)
hear_sound c p q ms allows (Said says ∷ ws) = tt

-- ---- a run

moment_sound : (c : Config) (ms : List Moment) (allows : Field → Bool) (s : Step) (q : ℕ) → StepFits (length c.types) s → AreSound ((moment c ms allows s).events q)
moment_sound c ms allows (Act p action) q fit = act_sound c p.0 q action ms
moment_sound c ms allows (Take p) q fit = running_sound c p.0 q ms (taken_moment c p.0 ms (bundles_waiting (events_of p.0 ms))) (take_sound c p.0 q ms (bundles_waiting (events_of p.0 ms)))
moment_sound c ms allows (RawStep p b) q fit = running_sound c p.0 q ms (raw_moment p.0 b) (one_sound p.0 q (Writes (Raw b) ∷ []) (fit.parts, tt))
moment_sound c ms allows (ParentAct action) q fit =
    let rule : Ruling (List Saying) = action_looked c ms action in
    ends_sound q rule.kept (told (length ms + 1) rule.kept (sent_to c ms rule q) ∷ [])
    (told_sound (length ms + 1) rule.kept (facts_with c ms rule.kept) q (rule.sends q) (action_sends (facts_with c ms) (length c.types) action fit q), tt)
moment_sound c ms allows (Hear p) q fit = hear_sound c p.0 q ms allows (writes_waiting (events_of p.0 ms))

run_sound : (c : Config) (j : Journal) (q : ℕ) → AllByRecursion (StepFits (length c.types)) (steps_of j) → AreSound (events_of q (moments_of c j))
unfolding moments_of
run_sound c [] q fits = tt
run_sound c (e ∷ j) q fits =
    all_append IsSound ((moment c (moments_of c j) (told_allowed e.answer) e.step).events q) (events_of q (moments_of c j))
    (moment_sound c (moments_of c j) (told_allowed e.answer) e.step q fits.0) (run_sound c j q fits.1)

-- what waits to be heard is heard
ups_played : (ws : List Written) → AllByRecursion IsHeardWrite ws → AllByRecursion (λ (b : UpBundle). ArePlayed b.parts) (bundles_in ws)
ups_played [] all = tt
ups_played (Own b ∷ ws) all = (all.0, ups_played ws all.1)
ups_played (Raw b ∷ ws) all = (all.0, ups_played ws all.1)
ups_played (Said says ∷ ws) all = ups_played ws all.1

pub up_played : (c : Config) (j : Journal) (p : ℕ) → AllByRecursion (StepFits (length c.types)) (steps_of j) → AllByRecursion (λ (b : UpBundle). ArePlayed b.parts) (up_waiting p (moments_of c j))
up_played c j p fits =
    let h : List ProcessEvent = events_of p (moments_of c j) in
    ups_played (writes_waiting h) (all_left IsHeardWrite (hears h) (writes h) (writes_heard h (run_sound c j p fits)))

-- and what waits to be taken is taken
downs_taken : (ds : List (Bundle DownBundle)) → AllByRecursion IsTakenBundle ds → AllByRecursion (λ (b : DownBundle). IsTaken b.parts) (map (λ (d : Bundle DownBundle). d.content) ds)
downs_taken [] all = tt
downs_taken (d ∷ ds) all = (all.0, downs_taken ds all.1)

pub down_taken : (c : Config) (j : Journal) (p : ℕ) → AllByRecursion (StepFits (length c.types)) (steps_of j) → AllByRecursion (λ (b : DownBundle). IsTaken b.parts) (down_waiting p (moments_of c j))
down_taken c j p fits =
    let h : List ProcessEvent = events_of p (moments_of c j) in
    downs_taken (bundles_waiting h) (all_left IsTakenBundle (takes h) (bundles_sent h) (bundles_taken h (run_sound c j p fits)))
