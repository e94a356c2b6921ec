-- No more bundles were taken or sent than there are entries.
use Rattle.std.proofs.Common.{◌≡◌, ℕ, suc, ◌+◌, ◌<◌, ◌≤◌, ◌==◌, Bool, true, false, if◌then◌else◌, List, [], ◌∷◌, ◌++◌, length, Option, None, Some, subst, arith}
use Rattle.std.specs.List.{list_any}
use Rattle.std.proofs.lemmas.List.{length-append}
use Rattle.field_table.specs.declared.field.Field.{Field}
use Rattle.wire_msgs.specs.declared.answer.Answer.{Answer}
use Rattle.wire_msgs.specs.declared.answer.Answer.TheVariants.{Ended as EndedBy, Refused}
use Rattle.wire_msgs.specs.declared.bundle.DownBundle.{DownBundle}
use Rattle.wire_msgs.specs.declared.bundle.UpBundle.{UpBundle}
use Rattle.wire_msgs.specs.declared.config.Config.{Config}
use Rattle.wire_msgs.specs.declared.refusal.Refusal.TheVariants.{Stopped}
use Rattle.journal.specs.declared.entry.Step.{Step}
use Rattle.journal.specs.declared.entry.Step.TheVariants.{Act, Take, Raw as RawStep, ParentAct, Hear}
use Rattle.protocol.specs.Bundle.{Ruling}
use Rattle.protocol.specs.Outside.{told_allowed}
use Rattle.protocol.specs.OwnActs.{action_step}
use Rattle.protocol.specs.Sayings.{Saying}
use Rattle.protocol.specs.Seen.{Seen, Doing}
use Rattle.protocol.specs.Seen.Doing.{Framed, Went}
use Rattle.protocol.specs.Take as take
use Rattle.protocol.specs.Take.{bundle_sent}
use Rattle.model.specs.Journal.{Journal}
use Rattle.traces.specs.Event.{Bundle}
use Rattle.traces.specs.Event.Event.{Writes, Takes, Accepts, Ignores, Ends}
use Rattle.traces.specs.Links.{hears, takes, bundles_sent, writes_waiting, bundles_waiting}
use Rattle.model.specs.Moments.{Moment, Written, ProcessEvent, events_of, facts_now, seen_now, for_one, only_answer, written, deeds, is_end_of, ends, told, sent_to, moment, if_running, taken_moment, raw_moment, heard_moment, heard, events_heard, is_done, moments_of}
use Rattle.model.specs.Moments.Written.{Own, Raw, Said}
use Rattle.model.proofs.Counts.{counts_still, taken_still, counts_start, taken_start}
use Rattle.world.proofs.LooksBack.{seen_with}
use Rattle.world.proofs.Comes.{action_looked, looked_at}

-- no count of these events is greater than n
pub record Few (n : ℕ) (h : List ProcessEvent) : Type 0 where
  pub take : takes h ≤ n
  pub send : length (bundles_sent h) ≤ n

-- events that add at most one to each count
AddsFew : List ProcessEvent → Type 0
AddsFew new = (n : ℕ) (h : List ProcessEvent) → Few n h → Few (n + 1) (new ++ h)

none_added : AddsFew []
unfolding AddsFew
none_added n h few = record { take = omega (arith, few.take); send = omega (arith, few.send) }

-- a process writes, or does something by itself
deeds_few : (s : Seen) (did : List Doing) (n : ℕ) (h : List ProcessEvent) → Few n h → Few n (deeds s did ++ h)
deeds_few s [] n h few = few
deeds_few s (Framed x above ∷ did) n h few = let rest : Few n (deeds s did ++ h) = deeds_few s did n h few in record { take = rest.take; send = rest.send }
deeds_few s (Went x ∷ did) n h few = let rest : Few n (deeds s did ++ h) = deeds_few s did n h few in record { take = rest.take; send = rest.send }
deeds_few s (_ ∷ did) n h few = deeds_few s did n h few

acted_added : (o : Option UpBundle) (s : Seen) (did : List Doing) → AddsFew (written o ++ deeds s did)
unfolding AddsFew
acted_added None s did n h few = none_added n (deeds s did ++ h) (deeds_few s did n h few)
acted_added (Some b) s did n h few = let rest : Few n (deeds s did ++ h) = deeds_few s did n h few in record { take = omega (arith, rest.take); send = omega (arith, rest.send) }

taken_added : (o : Option UpBundle) (d : Bundle DownBundle) → AddsFew (written o ++ Takes d ∷ [])
unfolding AddsFew
taken_added None d n h few = record { take = omega (arith, few.take); send = omega (arith, few.send) }
taken_added (Some b) d n h few = record { take = omega (arith, few.take); send = omega (arith, few.send) }

wrote_added : (w : Written) → AddsFew (Writes w ∷ [])
unfolding AddsFew
wrote_added w n h few = record { take = omega (arith, few.take); send = omega (arith, few.send) }

-- the parent sends
one_longer : (d : Bundle DownBundle) (h : List ProcessEvent) → length (bundles_sent h ++ d ∷ []) ≡ length (bundles_sent h) + 1
one_longer d h = length-append (bundles_sent h) (d ∷ [])

told_added : (k : ℕ) (says : List Saying) (o : Option DownBundle) → AddsFew (told k says o ∷ [])
unfolding AddsFew
told_added k says None n h few = record { take = omega (arith, few.take); send = omega (arith, few.send) }
told_added k says (Some d) n h few =
    record { take = omega (arith, few.take); send = omega (arith, few.send, one_longer (record { entry = k; epoch = hears h; content = d }) h) }

-- and hears
heard_added : (k : ℕ) (w : Written) (a : Answer) (says : List Saying) (o : Option DownBundle) → AddsFew (heard k w a says o)
unfolding AddsFew
heard_added k w (EndedBy cause) says None = λ n h few. record { take = omega (arith, few.take); send = omega (arith, few.send) }
heard_added k w (EndedBy cause) says (Some d) = λ n h few.
    record { take = omega (arith, few.take); send = omega (arith, few.send, one_longer (record { entry = k; epoch = hears h + 1; content = d }) h) }
heard_added k w a says None = by (is_done a)
  where
    by : (t : Bool) → AddsFew ((if t then Accepts k w else Ignores k w) ∷ [])
    by true n h few = record { take = omega (arith, few.take); send = omega (arith, few.send) }
    by false n h few = record { take = omega (arith, few.take); send = omega (arith, few.send) }
heard_added k w a says (Some d) = λ n h few.
    record { take = omega (arith, few.take); send = omega (arith, few.send, one_longer (record { entry = k; epoch = hears h + 1; content = d }) h) }

-- an end is no more
ends_added : (q : ℕ) (says : List Saying) (new : List ProcessEvent) → AddsFew new → AddsFew (ends q says ++ new)
unfolding AddsFew
ends_added q says new adds n h few = by (list_any (is_end_of q) says) (adds n h few)
  where
    by : (b : Bool) → Few (n + 1) (new ++ h) → Few (n + 1) (((if b then Ends ∷ [] else []) ++ new) ++ h)
    by true so = record { take = so.take; send = so.send }
    by false so = so

one_added : (p q : ℕ) (new : List ProcessEvent) → AddsFew new → AddsFew (for_one p new q)
one_added p q new adds = by (q == p)
  where
    by : (t : Bool) → AddsFew (if t then new else [])
    by true = adds
    by false = none_added

running_added : (c : Config) (p q : ℕ) (ms : List Moment) (m : Moment) → AddsFew (m.events q) → AddsFew ((if_running c p ms m).events q)
running_added c p q ms m adds = by (seen_now c p ms).running
  where
    by : (b : Bool) → AddsFew ((if b then m else only_answer (Refused Stopped)).events q)
    by true = adds
    by false = none_added

take_added : (c : Config) (p q : ℕ) (ms : List Moment) (ds : List (Bundle DownBundle)) → AddsFew ((taken_moment c p ms ds).events q)
take_added c p q ms [] = none_added
take_added c p q ms (d ∷ ds) = one_added p q _ (taken_added _ d)

events_added : (c : Config) (p q : ℕ) (ms : List Moment) (w : Written) (rule : Ruling (List Saying)) → AddsFew (events_heard c p ms w rule q)
events_added c p q ms w rule = ends_added q rule.kept _ (by (q == p))
  where
    by : (t : Bool) → AddsFew (if t then heard (length ms + 1) w rule.answer rule.kept (sent_to c ms rule p) else told (length ms + 1) rule.kept (sent_to c ms rule q) ∷ [])
    by true = heard_added (length ms + 1) w rule.answer rule.kept (sent_to c ms rule p)
    by false = told_added (length ms + 1) rule.kept (sent_to c ms rule q)

hear_added : (c : Config) (p q : ℕ) (ms : List Moment) (allows : Field → Bool) (ws : List Written) → AddsFew ((heard_moment c p ms allows ws).events q)
hear_added c p q ms allows [] = none_added
hear_added c p q ms allows (Said says ∷ ws) = none_added
hear_added c p q ms allows (Own b ∷ ws) = events_added c p q ms (Own b) (looked_at c ms allows p b)
hear_added c p q ms allows (Raw b ∷ ws) = events_added c p q ms (Raw b) (looked_at c ms allows p b)

moment_added : (c : Config) (ms : List Moment) (allows : Field → Bool) (s : Step) (q : ℕ) → AddsFew ((moment c ms allows s).events q)
moment_added c ms allows (Act p action) q =
    let step : take.Step (List Doing) = action_step (seen_with c p.0 ms) (λ d did. d ∷ did) p.0 action [] in
    let s : Seen = seen_with c p.0 ms step.kept in
    one_added p.0 q _ (acted_added (bundle_sent s step.sends) s step.kept)
moment_added c ms allows (Take p) q = running_added c p.0 q ms (taken_moment c p.0 ms (bundles_waiting (events_of p.0 ms))) (take_added c p.0 q ms (bundles_waiting (events_of p.0 ms)))
moment_added c ms allows (RawStep p b) q = running_added c p.0 q ms (raw_moment p.0 b) (one_added p.0 q _ (wrote_added (Raw b)))
moment_added c ms allows (ParentAct action) q =
    let rule : Ruling (List Saying) = action_looked c ms action in
    ends_added q rule.kept (told (length ms + 1) rule.kept (sent_to c ms rule q) ∷ []) (told_added (length ms + 1) rule.kept (sent_to c ms rule q))
moment_added c ms allows (Hear p) q = hear_added c p.0 q ms allows (writes_waiting (events_of p.0 ms))

pub few_counts : (c : Config) (j : Journal) (q : ℕ) → Few (length j) (events_of q (moments_of c j))
unfolding moments_of AddsFew
few_counts c [] q = record { take = omega arith; send = omega arith }
few_counts c (e ∷ j) q =
    let ms : List Moment = moments_of c j in
    let next : Few (length j + 1) ((moment c ms (told_allowed e.answer) e.step).events q ++ events_of q ms) = moment_added c ms (told_allowed e.answer) e.step q (length j) (events_of q ms) (few_counts c j q) in
    let one : length j + 1 ≡ suc (length j) = omega arith in
    subst (λ n. Few n (events_of q (moments_of c (e ∷ j)))) one next

-- the counts that are kept are those of the links
pub taken_is : (c : Config) (j : Journal) (p : ℕ) → p < length c.types → (seen_now c p (moments_of c j)).taken ≡ takes (events_of p (moments_of c j))
unfolding moments_of
taken_is c [] p lt = taken_start c p
taken_is c (e ∷ j) p lt = taken_still c p (moments_of c j) (told_allowed e.answer) e.step lt (taken_is c j p lt)

pub sent_is : (c : Config) (j : Journal) (p : ℕ) → p < length c.types → (facts_now c (moments_of c j)).processes.bundles_sent p ≡ length (bundles_sent (events_of p (moments_of c j)))
unfolding moments_of
sent_is c [] p lt = counts_start c p
sent_is c (e ∷ j) p lt = counts_still c p (moments_of c j) (told_allowed e.answer) e.step lt (sent_is c j p lt)
