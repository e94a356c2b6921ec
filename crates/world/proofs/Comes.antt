-- What a step comes to over the lists that the code has is what the model says of it.
use Rattle.std.proofs.Common.{◌≡◌, ◌≢◌, ℕ, suc, ◌+◌, ◌<◌, ◌==◌, Bool, true, false, if◌then◌else◌, List, [], ◌∷◌, ◌++◌, length, map, drop, set, Option, None, Some, unwrap_or, refl, sym, ap, ap₂, ◌∙◌, arith, eq-eqb, ne_eqb, eqb-true}
use Rattle.std.specs.List.{AllByRecursion}
use Rattle.field_table.specs.declared.field.Field.{Field}
use Rattle.field_rules.specs.Bounds.{Bounds}
use Rattle.wire_msgs.specs.declared.action.Action.{Action}
use Rattle.wire_msgs.specs.declared.action.ParentAction.{ParentAction}
use Rattle.wire_msgs.specs.declared.answer.Answer.{Answer}
use Rattle.wire_msgs.specs.declared.answer.Answer.TheVariants.{Refused}
use Rattle.wire_msgs.specs.declared.bundle.DownBundle.{DownBundle}
use Rattle.wire_msgs.specs.declared.bundle.UpBundle.{UpBundle}
use Rattle.wire_msgs.specs.declared.config.Config.{Config}
use Rattle.wire_msgs.specs.declared.part.DownPart.{DownPart}
use Rattle.wire_msgs.specs.declared.refusal.Refusal.TheVariants.{Stopped}
use Rattle.protocol.specs.Questions.{Facts}
use Rattle.protocol.specs.Sayings.{Saying}
use Rattle.protocol.specs.Seen.{Seen, Doing}
use Rattle.protocol.specs.Start.{numbers}
use Rattle.protocol.specs.FactsAfter.{facts_after}
use Rattle.protocol.specs.SeenAfter.{seen_after}
use Rattle.protocol.specs.Bundle.{Ruling, bundle_ruling, bundle_for}
use Rattle.protocol.specs.Outside.{allowed_of}
use Rattle.protocol.specs.ParentActs.{action_ruling}
use Rattle.protocol.specs.OwnActs.{action_step}
use Rattle.protocol.specs.Take.{bundle_step, bundle_sent}
use Rattle.protocol.specs.Take as take
use Rattle.protocol.proofs.Readings.{Agrees, Meets, own_action_agrees, take_agrees, action_meets, bundle_meets}
use Rattle.traces.specs.Event.{Bundle}
use Rattle.traces.specs.Event.Event.{Writes, Takes}
use Rattle.traces.specs.Links.{writes_waiting, bundles_waiting, takes, bundles_sent}
use Rattle.parent_core.specs.Ruled.{bundles_of}
use Rattle.model.specs.Next.{allowed_first}
use Rattle.model.specs.Moments.{Moment, Written, ProcessEvent, events_of, facts_now, seen_now, for_one, only_answer, written, deeds, ends, told, sent_to, act_moment, taken_moment, raw_moment, parent_moment, heard_moment, bundle_moment, heard as heard_events}
use Rattle.model.specs.Moments as model
use Rattle.model.specs.Moments.Written.{Own, Raw, Said}
use Rattle.model.specs.Links.{up_waiting, down_waiting, bundles_in}
use Rattle.model.proofs.WeightsLinks.{IsUp}
use Rattle.world.specs.Sides.{Side, no_side, side_at, step_of_action, step_of_bundle, sides_after, sent_by, ups_after, waiting_at, delivered}
use Rattle.world.specs.Came.{Came, acted, taken, raw_sent, if_running, ruled, parent_acted, heard}
use Rattle.world.specs.Stands.{side, state}
use Rattle.world.proofs.Lists.{with_one, set_one, same_numbers, get_or-map-numbers, cut_more, cut_within}
use Rattle.world.proofs.Waits.{contents, ups_in, downs_in, Behind, up_wrote, up_written, down_written, up_acted, down_acted, down_told, up_told, up_ends, down_ends, up_heard, down_heard}
use Rattle.world.proofs.Delivered.{behind, all_delivered}
use Rattle.world.proofs.LooksBack.{facts_with, seen_with, reads_said, reads_did}

-- ---- states

abbrev came_of : Answer → Facts → List (Option Side) → List (List UpBundle) → List (List DownBundle) → Came
came_of a f ss us ds = record { answer = a; state = record { facts = f; sides = ss; ups = us; downs = ds } }

same_came : {a b : Answer} {f g : Facts} {ss ts : List (Option Side)} {us vs : List (List UpBundle)} {ds es : List (List DownBundle)}
    → a ≡ b → f ≡ g → ss ≡ ts → us ≡ vs → ds ≡ es → came_of a f ss us ds ≡ came_of b g ts vs es
same_came {a = a} {b = b} {f = f} {g = g} {ss = ss} {ts = ts} {us = us} {vs = vs} {ds = ds} {es = es} e1 e2 e3 e4 e5 =
    ap (λ z. came_of z f ss us ds) e1 ∙ ap (λ z. came_of b z ss us ds) e2 ∙ ap (λ z. came_of b g z us ds) e3 ∙ ap (λ z. came_of b g ts z ds) e4 ∙ ap (came_of b g ts vs) e5

-- process p among all
at_side : (c : Config) (ms : List Moment) (p : ℕ) → p < length c.types → side_at p (state c ms).sides ≡ side c ms p
at_side c ms p lt = ap (λ o. unwrap_or o no_side) (get_or-map-numbers (λ q. Some (side c ms q)) (length c.types) p None lt)

pub at_links : {B : Type 0} (f : ℕ → List B) (n p : ℕ) → p < n → waiting_at p (map f (numbers 0 n)) ≡ f p
at_links f n p lt = get_or-map-numbers f n p [] lt

-- a list for one process, at it and at another
for_it : {X : Type 0} (p : ℕ) (xs : List X) → for_one p xs p ≡ xs
for_it p xs = ap (λ b. if b then xs else []) (eq-eqb p p refl)

for_other : {X : Type 0} (p q : ℕ) (xs : List X) → q ≢ p → for_one p xs q ≡ []
for_other p q xs other = ap (λ b. if b then xs else []) (ne_eqb q p other)

-- ---- a step of a process: what it did and its events are added to what it has

-- the processes behind it
sides_moved : (c : Config) (ms : List Moment) (m : Moment) (p : ℕ) (did : List Doing) (seen : Seen) → p < length c.types
    → m.did ≡ for_one p did → seen ≡ seen_with c p ms did
    → set (state c ms).sides p (Some (record (side_at p (state c ms).sides) { seen = seen })) ≡ (state c (m ∷ ms)).sides
sides_moved c ms m p did seen lt own e =
    set_one (λ q. Some (side c ms q)) (λ q. Some (side c (m ∷ ms) q)) (length c.types) p (Some (record (side_at p (state c ms).sides) { seen = seen }))
    (ap (λ (s : Side). Some (record s { seen = seen })) (at_side c ms p lt)
    ∙ ap (λ v. Some (record (side c ms p) { seen = v })) (e ∙ ap (λ ds. seen_with c p ms ds) (sym (ap (λ (f : ℕ → List Doing). f p) own ∙ for_it p did))))
    (λ q other. ap (λ ds. Some (record (side c ms q) { seen = seen_with c q ms ds })) (ap (λ (f : ℕ → List Doing). f q) own ∙ for_other p q did other))

ups_moved : (c : Config) (ms : List Moment) (m : Moment) (p : ℕ) (o : Option UpBundle) (events : List ProcessEvent) → p < length c.types
    → m.events ≡ for_one p events → ups_in (events ++ events_of p ms) ≡ with_one o (up_waiting p ms)
    → ups_after p o (state c ms).ups ≡ (state c (m ∷ ms)).ups
ups_moved c ms m p None events lt own e =
    same_numbers (λ q. up_waiting q ms) (λ q. up_waiting q (m ∷ ms)) (length c.types) (λ q below. by q (q == p) refl)
  where
    by : (q : ℕ) (b : Bool) → (q == p) ≡ b → up_waiting q ms ≡ up_waiting q (m ∷ ms)
    by q true at =
        let is : q ≡ p = eqb-true q p at in
        ap (λ k. up_waiting k ms) is ∙ sym e ∙ ap (λ es. ups_in (es ++ events_of p ms)) (sym (ap (λ (f : ℕ → List ProcessEvent). f p) own ∙ for_it p events)) ∙ ap (λ k. up_waiting k (m ∷ ms)) (sym is)
    by q false at = ap (λ es. ups_in (es ++ events_of q ms)) (sym (ap (λ (f : ℕ → List ProcessEvent). f q) own ∙ ap (λ b. if b then events else []) at))
ups_moved c ms m p (Some b) events lt own e =
    set_one (λ q. up_waiting q ms) (λ q. up_waiting q (m ∷ ms)) (length c.types) p (waiting_at p (state c ms).ups ++ b ∷ [])
    (ap (λ bs. bs ++ b ∷ []) (at_links (λ q. up_waiting q ms) (length c.types) p lt) ∙ sym e ∙ ap (λ es. ups_in (es ++ events_of p ms)) (sym (ap (λ (f : ℕ → List ProcessEvent). f p) own ∙ for_it p events)))
    (λ q other. ap (λ es. ups_in (es ++ events_of q ms)) (ap (λ (f : ℕ → List ProcessEvent). f q) own ∙ for_other p q events other))

-- nothing on the links to the processes
downs_still : (c : Config) (ms : List Moment) (m : Moment) (p : ℕ) (events : List ProcessEvent)
    → m.events ≡ for_one p events → downs_in (events ++ events_of p ms) ≡ down_waiting p ms
    → (state c ms).downs ≡ (state c (m ∷ ms)).downs
downs_still c ms m p events own e =
    same_numbers (λ q. down_waiting q ms) (λ q. down_waiting q (m ∷ ms)) (length c.types) (λ q below. by q (q == p) refl)
  where
    by : (q : ℕ) (b : Bool) → (q == p) ≡ b → down_waiting q ms ≡ down_waiting q (m ∷ ms)
    by q true at =
        let is : q ≡ p = eqb-true q p at in
        ap (λ k. down_waiting k ms) is ∙ sym e ∙ ap (λ es. downs_in (es ++ events_of p ms)) (sym (ap (λ (f : ℕ → List ProcessEvent). f p) own ∙ for_it p events)) ∙ ap (λ k. down_waiting k (m ∷ ms)) (sym is)
    by q false at = ap (λ es. downs_in (es ++ events_of q ms)) (sym (ap (λ (f : ℕ → List ProcessEvent). f q) own ∙ ap (λ b. if b then events else []) at))

-- ---- an action of a process

acts : (c : Config) (ms : List Moment) (p : ℕ) (action : Action) (plain : take.Step Seen) (looked : take.Step (List Doing)) → p < length c.types → Behind (events_of p ms)
    → plain ≡ step_of_action p action (state c ms).sides
    → looked ≡ action_step (seen_with c p ms) (λ d did. d ∷ did) p action [] → Agrees (seen_with c p ms) looked plain
    → acted p action (state c ms) ≡ record { answer = (act_moment c p action ms).answer; state = state c (act_moment c p action ms ∷ ms) }
acts c ms p action plain looked lt fine e1 e2 is =
    let m : Moment = act_moment c p action ms in
    let sent : Option UpBundle = bundle_sent (seen_with c p ms looked.kept) looked.sends in
    let same : bundle_sent plain.kept plain.sends ≡ sent = ap₂ bundle_sent (sym is.kept) (sym is.sends) in
    let did : m.did ≡ for_one p looked.kept = ap (λ (s : take.Step (List Doing)). for_one p s.kept) (sym e2) in
    let done : List ProcessEvent = written sent ++ deeds (seen_with c p ms looked.kept) looked.kept in
    let events : m.events ≡ for_one p done = ap (λ (s : take.Step (List Doing)). for_one p (written (bundle_sent (seen_with c p ms s.kept) s.sends) ++ deeds (seen_with c p ms s.kept) s.kept)) (sym e2) in
    same_came
    (ap (λ (s : take.Step Seen). s.answer) (sym e1) ∙ sym is.answer ∙ ap (λ (s : take.Step (List Doing)). s.answer) e2)
    refl
    (ap (λ (s : take.Step Seen). sides_after p s (state c ms).sides) (sym e1) ∙ sides_moved c ms m p looked.kept plain.kept lt did (sym is.kept))
    (ap (λ (s : take.Step Seen). ups_after p (sent_by s) (state c ms).ups) (sym e1) ∙ ap (λ o. ups_after p o (state c ms).ups) same ∙ ups_moved c ms m p sent done lt events (up_acted sent (seen_with c p ms looked.kept) looked.kept (events_of p ms) fine))
    (downs_still c ms m p done events (down_acted sent (seen_with c p ms looked.kept) looked.kept (events_of p ms)))

pub own_act : (c : Config) (ms : List Moment) (p : ℕ) (action : Action) → p < length c.types → Behind (events_of p ms)
    → acted p action (state c ms) ≡ record { answer = (act_moment c p action ms).answer; state = state c (act_moment c p action ms ∷ ms) }
own_act c ms p action lt fine =
    acts c ms p action (action_step (λ s. s) (seen_after p) p action (seen_now c p ms)) (action_step (seen_with c p ms) (λ d did. d ∷ did) p action [])
    lt fine (ap (λ (s : Side). action_step (λ k. k) (seen_after s.process) s.process action s.seen) (sym (at_side c ms p lt))) refl
    (own_action_agrees p (seen_with c p ms) (λ d did. d ∷ did) (reads_did c p ms) action [])

-- ---- a step of a process that may have stopped

pub came_running : (c : Config) (ms : List Moment) (p : ℕ) → p < length c.types → (k : Came) (m : Moment)
    → k ≡ record { answer = m.answer; state = state c (m ∷ ms) }
    → if_running p (state c ms) k ≡ record { answer = (model.if_running c p ms m).answer; state = state c (model.if_running c p ms m ∷ ms) }
came_running c ms p lt k m is =
    ap (λ (b : Bool). if b then k else stopped) (ap (λ (s : Side). s.seen.running) (at_side c ms p lt)) ∙ by (seen_now c p ms).running
  where
    stopped : Came
    stopped = record { answer = Refused Stopped; state = state c ms }

    by : (b : Bool) → (if b then k else stopped) ≡ record { answer = (if b then m else only_answer (Refused Stopped)).answer; state = state c ((if b then m else only_answer (Refused Stopped)) ∷ ms) }
    by true = is
    by false = refl

-- ---- a take

up_behind : (o : Option UpBundle) (e : ProcessEvent) (h : List ProcessEvent) → ups_in ((written o ++ e ∷ []) ++ h) ≡ ups_in (written o ++ e ∷ h)
up_behind None e h = refl
up_behind (Some b) e h = refl

down_behind : (o : Option UpBundle) (e : ProcessEvent) (h : List ProcessEvent) → downs_in ((written o ++ e ∷ []) ++ h) ≡ downs_in (written o ++ e ∷ h)
down_behind None e h = refl
down_behind (Some b) e h = refl

down_taken : (d : Bundle DownBundle) (rest : List (Bundle DownBundle)) (h : List ProcessEvent) → bundles_waiting h ≡ d ∷ rest → bundles_waiting (Takes d ∷ h) ≡ rest
down_taken d rest h waits =
    let one : takes h + 1 ≡ suc (takes h) = omega arith in
    ap (λ n. drop n (bundles_sent h)) one ∙ cut_more (takes h) (bundles_sent h) d rest waits

taken_behind : (d : Bundle DownBundle) (rest : List (Bundle DownBundle)) (h : List ProcessEvent) → Behind h → bundles_waiting h ≡ d ∷ rest → Behind (Takes d ∷ h)
taken_behind d rest h fine waits = record { up = fine.up; down = let in_it : takes h < length (bundles_sent h) = cut_within (takes h) (bundles_sent h) d rest waits in omega (arith, in_it) }

-- the link to process p has these left
downs_less : (c : Config) (ms : List Moment) (m : Moment) (p : ℕ) (events : List ProcessEvent) (bs : List DownBundle) → p < length c.types
    → m.events ≡ for_one p events → downs_in (events ++ events_of p ms) ≡ bs
    → set (state c ms).downs p bs ≡ (state c (m ∷ ms)).downs
downs_less c ms m p events bs lt own e =
    set_one (λ q. down_waiting q ms) (λ q. down_waiting q (m ∷ ms)) (length c.types) p bs
    (sym e ∙ ap (λ es. downs_in (es ++ events_of p ms)) (sym (ap (λ (f : ℕ → List ProcessEvent). f p) own ∙ for_it p events)))
    (λ q other. ap (λ es. downs_in (es ++ events_of q ms)) (ap (λ (f : ℕ → List ProcessEvent). f q) own ∙ for_other p q events other))

takes_one : (c : Config) (ms : List Moment) (p : ℕ) (d : Bundle DownBundle) (rest : List (Bundle DownBundle)) (plain : take.Step Seen) (looked : take.Step (List Doing))
    → p < length c.types → Behind (events_of p ms) → bundles_waiting (events_of p ms) ≡ d ∷ rest
    → plain ≡ step_of_bundle p d.content (state c ms).sides
    → looked ≡ bundle_step (seen_with c p ms) (λ d did. d ∷ did) p d.content [] → Agrees (seen_with c p ms) looked plain
    → taken p (d.content ∷ contents rest) (state c ms) ≡ record { answer = (taken_moment c p ms (d ∷ rest)).answer; state = state c (taken_moment c p ms (d ∷ rest) ∷ ms) }
takes_one c ms p d rest plain looked lt fine waits e1 e2 is =
    let m : Moment = taken_moment c p ms (d ∷ rest) in
    let sent : Option UpBundle = bundle_sent (seen_with c p ms looked.kept) looked.sends in
    let same : bundle_sent plain.kept plain.sends ≡ sent = ap₂ bundle_sent (sym is.kept) (sym is.sends) in
    let did : m.did ≡ for_one p looked.kept = ap (λ (s : take.Step (List Doing)). for_one p s.kept) (sym e2) in
    let events : m.events ≡ for_one p (written sent ++ Takes d ∷ []) = ap (λ (s : take.Step (List Doing)). for_one p (written (bundle_sent (seen_with c p ms s.kept) s.sends) ++ Takes d ∷ [])) (sym e2) in
    same_came
    (ap (λ (s : take.Step Seen). s.answer) (sym e1) ∙ sym is.answer ∙ ap (λ (s : take.Step (List Doing)). s.answer) e2)
    refl
    (ap (λ (s : take.Step Seen). sides_after p s (state c ms).sides) (sym e1) ∙ sides_moved c ms m p looked.kept plain.kept lt did (sym is.kept))
    (ap (λ (s : take.Step Seen). ups_after p (sent_by s) (state c ms).ups) (sym e1) ∙ ap (λ o. ups_after p o (state c ms).ups) same
    ∙ ups_moved c ms m p sent (written sent ++ Takes d ∷ []) lt events (up_behind sent (Takes d) (events_of p ms) ∙ up_written sent (Takes d ∷ events_of p ms) (taken_behind d rest (events_of p ms) fine waits)))
    (downs_less c ms m p (written sent ++ Takes d ∷ []) (contents rest) lt events
    (down_behind sent (Takes d) (events_of p ms) ∙ down_written sent (Takes d ∷ events_of p ms) ∙ ap contents (down_taken d rest (events_of p ms) waits)))

pub own_take : (c : Config) (ms : List Moment) (p : ℕ) → p < length c.types → Behind (events_of p ms)
    → (ds : List (Bundle DownBundle)) → bundles_waiting (events_of p ms) ≡ ds
    → taken p (contents ds) (state c ms) ≡ record { answer = (taken_moment c p ms ds).answer; state = state c (taken_moment c p ms ds ∷ ms) }
own_take c ms p lt fine [] waits = refl
own_take c ms p lt fine (d ∷ rest) waits =
    takes_one c ms p d rest (bundle_step (λ s. s) (seen_after p) p d.content (seen_now c p ms)) (bundle_step (seen_with c p ms) (λ d did. d ∷ did) p d.content [])
    lt fine waits (ap (λ (s : Side). bundle_step (λ k. k) (seen_after s.process) s.process d.content s.seen) (sym (at_side c ms p lt))) refl
    (take_agrees p (seen_with c p ms) (λ d did. d ∷ did) (reads_did c p ms) d.content [])

-- ---- a bundle that is none of a process's own acts

sides_still : (c : Config) (ms : List Moment) (m : Moment) → m.did ≡ (λ q. []) → (state c ms).sides ≡ (state c (m ∷ ms)).sides
sides_still c ms m none = same_numbers (λ q. Some (side c ms q)) (λ q. Some (side c (m ∷ ms) q)) (length c.types) (λ q below. ap (λ (f : ℕ → List Doing). Some (record (side c ms q) { seen = seen_with c q ms (f q) })) (sym none))

pub raw_bundle : (c : Config) (ms : List Moment) (p : ℕ) (b : UpBundle) → p < length c.types → Behind (events_of p ms)
    → raw_sent p b (state c ms) ≡ record { answer = (raw_moment p b).answer; state = state c (raw_moment p b ∷ ms) }
raw_bundle c ms p b lt fine =
    let m : Moment = raw_moment p b in
    same_came refl refl (sides_still c ms m refl)
    (ups_moved c ms m p (Some b) (Writes (Raw b) ∷ []) lt refl (up_wrote (Raw b) (events_of p ms) fine))
    (downs_still c ms m p (Writes (Raw b) ∷ []) refl refl)

-- ---- a ruling of the parent

-- the moment of a ruling, by what else it is for each process than an end
abbrev pub ruled_moment : Ruling (List Saying) → (ℕ → List ProcessEvent) → Moment
ruled_moment rule evs = record { says = rule.kept; did = λ q. []; events = λ q. ends q rule.kept ++ evs q; answer = rule.answer }

-- events that bring a process what it is sent
abbrev Bring : Config → List Moment → Ruling (List Saying) → (ℕ → List ProcessEvent) → Type 0
Bring c ms rule evs = (q : ℕ) → q < length c.types → downs_in (evs q ++ events_of q ms) ≡ with_one (sent_to c ms rule q) (down_waiting q ms)

downs_ruled : (c : Config) (ms : List Moment) (looked : Ruling (List Saying)) (plain : Ruling Facts) (evs : ℕ → List ProcessEvent) → Meets (facts_with c ms) looked plain → Bring c ms looked evs
    → delivered (bundles_of plain (numbers 0 (length c.types))) (state c ms).downs ≡ (state c (ruled_moment looked evs ∷ ms)).downs
downs_ruled c ms looked plain evs is bring =
    all_delivered plain (λ q. down_waiting q ms) (length c.types)
    ∙ same_numbers (behind plain (λ q. down_waiting q ms)) (λ q. down_waiting q (ruled_moment looked evs ∷ ms)) (length c.types)
    (λ q below.
    ap (λ (f : Facts). with_one (bundle_for f q (plain.sends q)) (down_waiting q ms)) (sym is.kept)
    ∙ ap (λ (sends : ℕ → List DownPart). with_one (bundle_for (facts_with c ms looked.kept) q (sends q)) (down_waiting q ms)) (sym is.sends)
    ∙ sym (bring q below) ∙ sym (down_ends q looked.kept (evs q) (events_of q ms)))

-- whatever is kept meets the answers, a ruling comes to its moment; the links to the parent are told apart
ruled_is : (c : Config) (ms : List Moment) (looked : Ruling (List Saying)) (plain : Ruling Facts) (evs : ℕ → List ProcessEvent) (ups : List (List UpBundle))
    → Meets (facts_with c ms) looked plain → Bring c ms looked evs → ups ≡ (state c (ruled_moment looked evs ∷ ms)).ups
    → ruled (length c.types) plain (record (state c ms) { ups = ups }) ≡ record { answer = looked.answer; state = state c (ruled_moment looked evs ∷ ms) }
ruled_is c ms looked plain evs ups is bring same =
    same_came (sym is.answer) (sym is.kept) (sides_still c ms (ruled_moment looked evs) refl) same (downs_ruled c ms looked plain evs is bring)

-- ---- an act of the parent

abbrev told_all : Config → List Moment → Ruling (List Saying) → ℕ → List ProcessEvent
told_all c ms rule q = told (length ms + 1) rule.kept (sent_to c ms rule q) ∷ []

acted_is : (c : Config) (ms : List Moment) (looked : Ruling (List Saying)) (plain : Ruling Facts) → Meets (facts_with c ms) looked plain
    → ((q : ℕ) → q < length c.types → Behind (events_of q ms))
    → ruled (length c.types) plain (state c ms) ≡ record { answer = looked.answer; state = state c (parent_moment c ms looked ∷ ms) }
acted_is c ms looked plain is fine =
    ruled_is c ms looked plain (told_all c ms looked) (state c ms).ups is
    (λ q below. down_told (length ms + 1) looked.kept (sent_to c ms looked q) (events_of q ms) (fine q below))
    (same_numbers (λ q. up_waiting q ms) (λ q. up_waiting q (parent_moment c ms looked ∷ ms)) (length c.types)
    (λ q below. sym (up_ends q looked.kept (told_all c ms looked q) (events_of q ms) ∙ up_told (length ms + 1) looked.kept (sent_to c ms looked q) (events_of q ms))))

-- what the parent does, looked back at
abbrev pub action_looked : Config → List Moment → ParentAction → Ruling (List Saying)
action_looked c ms action = action_ruling (facts_with c ms) (λ y says. y ∷ says) (length c.types) action []

abbrev ActsAs : Config → List Moment → ParentAction → Type 0
ActsAs c ms action =
    parent_acted (length c.types) action (state c ms) ≡ record { answer = (action_looked c ms action).answer; state = state c (parent_moment c ms (action_looked c ms action) ∷ ms) }

pub parent_acts : (c : Config) (ms : List Moment) (action : ParentAction) → ((q : ℕ) → q < length c.types → Behind (events_of q ms)) → ActsAs c ms action
parent_acts c ms action fine =
    acted_is c ms (action_looked c ms action) (action_ruling (λ f. f) facts_after (length c.types) action (facts_now c ms))
    (action_meets (facts_with c ms) (λ y says. y ∷ says) (reads_said c ms) (length c.types) action []) fine

-- ---- a hear

-- the ruling, looked back at
abbrev pub looked_at : Config → List Moment → (Field → Bool) → ℕ → UpBundle → Ruling (List Saying)
looked_at c ms allows p b = bundle_ruling (facts_with c ms) (λ y says. y ∷ says) (length c.types) allows p b []

-- what else each process has by the hear of a bundle of process p
abbrev heard_all : Config → ℕ → List Moment → Written → Ruling (List Saying) → ℕ → List ProcessEvent
heard_all c p ms w rule q =
    if q == p then heard_events (length ms + 1) w rule.answer rule.kept (sent_to c ms rule p) else told (length ms + 1) rule.kept (sent_to c ms rule q) ∷ []

module _ (c : Config) (ms : List Moment) (p : ℕ) (w : Written) (rest : List Written) (looked : Ruling (List Saying)) (lt : p < length c.types) (waits : writes_waiting (events_of p ms) ≡ w ∷ rest) where
  brings : ((q : ℕ) → q < length c.types → Behind (events_of q ms)) → Bring c ms looked (heard_all c p ms w looked)
  brings fine q below = by (q == p) refl
    where
      by : (t : Bool) → (q == p) ≡ t
          → downs_in ((if t then heard_events (length ms + 1) w looked.answer looked.kept (sent_to c ms looked p) else told (length ms + 1) looked.kept (sent_to c ms looked q) ∷ []) ++ events_of q ms)
          ≡ with_one (sent_to c ms looked q) (down_waiting q ms)
      by true at =
          let same : q ≡ p = eqb-true q p at in
          ap (λ r. downs_in (heard_events (length ms + 1) w looked.answer looked.kept (sent_to c ms looked r) ++ events_of q ms)) (sym same)
          ∙ down_heard (length ms + 1) w looked.answer looked.kept (sent_to c ms looked q) (events_of q ms) (fine q below)
      by false at = down_told (length ms + 1) looked.kept (sent_to c ms looked q) (events_of q ms) (fine q below)

  -- the link from process p has these left
  ups_less : set (state c ms).ups p (bundles_in rest) ≡ (state c (ruled_moment looked (heard_all c p ms w looked) ∷ ms)).ups
  ups_less =
      set_one (λ q. up_waiting q ms) (λ q. up_waiting q (ruled_moment looked (heard_all c p ms w looked) ∷ ms)) (length c.types) p (bundles_in rest)
      (sym (up_ends p looked.kept (heard_all c p ms w looked p) (events_of p ms)
      ∙ ap (λ (t : Bool). ups_in ((if t then heard_events (length ms + 1) w looked.answer looked.kept (sent_to c ms looked p) else told (length ms + 1) looked.kept (sent_to c ms looked p) ∷ []) ++ events_of p ms)) (eq-eqb p p refl)
      ∙ ap bundles_in (up_heard (length ms + 1) w looked.answer looked.kept (sent_to c ms looked p) rest (events_of p ms) waits)))
      (λ q other. up_ends q looked.kept (heard_all c p ms w looked q) (events_of q ms)
      ∙ ap (λ (t : Bool). ups_in ((if t then heard_events (length ms + 1) w looked.answer looked.kept (sent_to c ms looked p) else told (length ms + 1) looked.kept (sent_to c ms looked q) ∷ []) ++ events_of q ms)) (ne_eqb q p other)
      ∙ up_told (length ms + 1) looked.kept (sent_to c ms looked q) (events_of q ms))

heard_is : (c : Config) (ms : List Moment) (allows : Field → Bool) (p : ℕ) (w : Written) (b : UpBundle) (rest : List Written) → p < length c.types
    → writes_waiting (events_of p ms) ≡ w ∷ rest → ((q : ℕ) → q < length c.types → Behind (events_of q ms))
    → ruled (length c.types) (bundle_ruling (λ f. f) facts_after (length c.types) allows p b (facts_now c ms)) (record (state c ms) { ups = set (state c ms).ups p (bundles_in rest) })
    ≡ record { answer = (bundle_moment c p ms allows w b).answer; state = state c (bundle_moment c p ms allows w b ∷ ms) }
heard_is c ms allows p w b rest lt waits fine =
    let looked : Ruling (List Saying) = looked_at c ms allows p b in
    ruled_is c ms looked (bundle_ruling (λ f. f) facts_after (length c.types) allows p b (facts_now c ms)) (heard_all c p ms w looked) (set (state c ms).ups p (bundles_in rest))
    (bundle_meets (facts_with c ms) (λ y says. y ∷ says) (reads_said c ms) (length c.types) allows p b [])
    (brings c ms p w rest looked lt waits fine) (ups_less c ms p w rest looked lt waits)

-- the moment of a hear, by the bounds
abbrev pub hear_by : Bounds → Config → ℕ → List Moment → List Written → Moment
hear_by bounds c p ms ws = heard_moment c p ms (allowed_first bounds ws) ws

pub parent_hear : (bounds : Bounds) (c : Config) (ms : List Moment) (p : ℕ) → p < length c.types
    → ((q : ℕ) → q < length c.types → Behind (events_of q ms))
    → (ws : List Written) → writes_waiting (events_of p ms) ≡ ws → AllByRecursion IsUp ws
    → heard bounds (length c.types) p (bundles_in ws) (state c ms) ≡ record { answer = (hear_by bounds c p ms ws).answer; state = state c (hear_by bounds c p ms ws ∷ ms) }
parent_hear bounds c ms p lt fine [] waits all = refl
parent_hear bounds c ms p lt fine (Own b ∷ rest) waits all = heard_is c ms (allowed_of bounds b) p (Own b) b rest lt waits fine
parent_hear bounds c ms p lt fine (Raw b ∷ rest) waits all = heard_is c ms (allowed_of bounds b) p (Raw b) b rest lt waits fine
parent_hear bounds c ms p lt fine (Said says ∷ rest) waits all = absurd all.0
