-- A refused step changes nothing but the journal.
use Rattle.std.proofs.Common.{◌≡◌, ℕ, zero, suc, ◌==◌, Bool, true, false, cond, if◌then◌else◌, List, [], ◌∷◌, ◌++◌, ◌+◌, length, map, Option, None, Some, refl, ap}
use Rattle.std.specs.Option.{option_map_or}
use Rattle.field_table.specs.declared.field.Field.{Field}
use Rattle.wire_msgs.specs.declared.action.Action.{Action}
use Rattle.wire_msgs.specs.declared.action.Action.TheVariants as own
use Rattle.wire_msgs.specs.declared.action.ParentAction.{ParentAction}
use Rattle.wire_msgs.specs.declared.action.ParentAction.TheVariants as acts
use Rattle.wire_msgs.specs.declared.answer.Answer.{Answer}
use Rattle.wire_msgs.specs.declared.answer.Answer.TheVariants.{Refused, Ignored}
use Rattle.wire_msgs.specs.declared.cause.EndCause.{EndCause}
use Rattle.wire_msgs.specs.declared.config.Config.{Config}
use Rattle.wire_msgs.specs.declared.bundle.DownBundle.{DownBundle}
use Rattle.wire_msgs.specs.declared.bundle.UpBundle.{UpBundle}
use Rattle.wire_msgs.specs.declared.refusal.Refusal.{Refusal}
use Rattle.wire_msgs.specs.declared.refusal.Refusal.TheVariants.{Stopped}
use Rattle.journal.specs.declared.entry.Step.TheVariants.{Act, Take, Raw as RawStep, ParentAct, Hear}
use Rattle.protocol.specs.Questions.{Facts}
use Rattle.protocol.specs.Sayings.{Saying}
use Rattle.protocol.specs.Seen.{Seen, Doing}
use Rattle.std.specs.Prelude.{is_some}
use Rattle.protocol.specs.Fold.{or_later, behind_all, first_fault}
use Rattle.protocol.specs.Hear.{hear_rules}
use Rattle.protocol.specs.Sayings.Saying.{Counted}
use Rattle.protocol.specs.Bundle.{Ruling, after_sending, ruling, is_counted, envelope_fault, parts_ruling, end_ruling, bundle_ruling}
use Rattle.protocol.specs.ParentActs as parent
use Rattle.protocol.specs.ParentActs.{done_ruling, action_ruling}
use Rattle.protocol.specs.OwnActs as acting
use Rattle.protocol.specs.Take as take
use Rattle.protocol.specs.Take.{bundle_sent}
use Rattle.traces.specs.Event.{Bundle}
use Rattle.traces.specs.Links.{writes_waiting, bundles_waiting}
use Rattle.model.specs.Laws.{is_refused, Unchanged, RefusedChangesNothing}
use Rattle.model.specs.Links.{bundles_in}
use Rattle.model.specs.Moments.{Moment, Written, ProcessEvent, said, did_by, events_of, facts_now, seen_now, for_one, written, deeds, ends, told, only_answer, if_running, act_moment, taken_moment, raw_moment, parent_moment, heard_moment}
use Rattle.model.specs.Moments.Written.{Own, Raw, Said}
use Rattle.model.specs.Parent.{asked}
use Rattle.model.specs.Process.{own_asked}

-- ---- moments of which nothing comes

no_items : {X : Type 0} (p q : ℕ) → for_one {X = X} p [] q ≡ []
no_items {X = X} p q = by (q == p)
  where
    by : (b : Bool) → cond {A = List X} b [] [] ≡ []
    by true = refl
    by false = refl

-- nothing was said or done, and no event came
silent : (c : Config) (m : Moment) (ms : List Moment) → m.says ≡ [] → ((q : ℕ) → m.did q ≡ []) → ((q : ℕ) → m.events q ≡ []) → Unchanged c m ms
silent c m ms says did events = record {
  facts = ap (λ (ys : List Saying). asked c.tabs (ys ++ said ms)) says;
  seen = λ p. ap (λ (ds : List Doing). own_asked c.tabs p (ds ++ did_by p ms)) (did p);
  ups = λ p. ap (λ (es : List ProcessEvent). bundles_in (writes_waiting (es ++ events_of p ms))) (events p);
  downs = λ p. ap (λ (es : List ProcessEvent). map (λ (b : Bundle DownBundle). b.content) (bundles_waiting (es ++ events_of p ms))) (events p);
}

-- ---- a process

own_answer : (p : ℕ) (s : Seen) (action : Action) → is_refused (acting.answer p s action) ≡ false
unfolding acting.answer
own_answer p s (own.Set x t) = refl
own_answer p s (own.Frame x) = refl
own_answer p s (own.Drop x) = refl
own_answer p s (own.Close w) = refl
own_answer p s (own.Navigate x url) = refl
own_answer p s (own.Tell w actor text) = refl
own_answer p s (own.Ask w actor text) = refl
own_answer p s (own.Answer q resolve text) = refl

-- the moment of a step of a process
abbrev moment_by : Config → ℕ → List Moment → take.Step (List Doing) → Moment
moment_by c p ms step = record {
  says = [];
  did = for_one p step.kept;
  events = for_one p (written (bundle_sent (own_asked c.tabs p (step.kept ++ did_by p ms)) step.sends) ++ deeds (own_asked c.tabs p (step.kept ++ did_by p ms)) step.kept);
  answer = step.answer;
}

acts_refused : (c : Config) (p : ℕ) (action : Action) (ms : List Moment) → is_refused (act_moment c p action ms).answer ≡ true → Unchanged c (act_moment c p action ms) ms
acts_refused c p action ms = by (acting.refusal p (seen_now c p ms) action)
  where
    step : Option Refusal → take.Step (List Doing)
    step o = option_map_or (λ why. record { answer = Refused why; kept = []; sends = [] }) o (record {
      answer = acting.answer p (seen_now c p ms) action;
      kept = behind_all (λ d did. d ∷ did) (acting.says p (seen_now c p ms) action) [];
      sends = acting.posts p (seen_now c p ms) action;
    })

    by : (o : Option Refusal) → is_refused (step o).answer ≡ true → Unchanged c (moment_by c p ms (step o)) ms
    by (Some why) e = silent c (moment_by c p ms (step (Some why))) ms refl (no_items p) (no_items p)
    by None e = let no_refusal : is_refused (acting.answer p (seen_now c p ms) action) ≡ false = own_answer p (seen_now c p ms) action in cc

take_refused : (c : Config) (p : ℕ) (ms : List Moment) (ds : List (Bundle DownBundle)) → is_refused (taken_moment c p ms ds).answer ≡ true → Unchanged c (taken_moment c p ms ds) ms
take_refused c p ms [] e = silent c (taken_moment c p ms []) ms refl (λ q. refl) (λ q. refl)
take_refused c p ms (d ∷ ds) e = cc

-- a step of a process that stopped
if_refused : (c : Config) (p : ℕ) (m : Moment) (ms : List Moment) → (is_refused m.answer ≡ true → Unchanged c m ms) → is_refused (if_running c p ms m).answer ≡ true → Unchanged c (if_running c p ms m) ms
if_refused c p m ms one = by (seen_now c p ms).running
  where
    by : (b : Bool) → is_refused (if b then m else only_answer (Refused Stopped)).answer ≡ true → Unchanged c (if b then m else only_answer (Refused Stopped)) ms
    by true e = one e
    by false e = silent c (only_answer (Refused Stopped)) ms refl (λ q. refl) (λ q. refl)

-- ---- the parent

parent_answer : (f : Facts) (action : ParentAction) → is_refused (parent.answer f action) ≡ false
unfolding parent.answer
parent_answer f (acts.Set x t) = refl
parent_answer f (acts.Tab p g) = refl
parent_answer f (acts.Subscribe p g) = refl
parent_answer f (acts.Discard x) = refl
parent_answer f (acts.Navigate x url) = refl
parent_answer f (acts.Tell w actor text) = refl
parent_answer f (acts.Ask w actor text) = refl
parent_answer f (acts.Answer q resolve text) = refl
parent_answer f (acts.Kill p) = refl

none_sent : (facts : List Saying → Facts) (n : ℕ) → after_sending facts (λ y says. y ∷ says) n (λ q. []) [] ≡ []
none_sent facts zero = refl
none_sent facts (suc n) = none_sent facts n

-- nothing was said, and nobody was sent anything
unsaid : (c : Config) (a : Answer) (kept : List Saying) (ms : List Moment) → kept ≡ []
    → Unchanged c (parent_moment c ms (record { answer = a; kept = kept; sends = λ q. [] })) ms
unsaid c a kept ms none = record {
  facts = ap (λ (ys : List Saying). asked c.tabs (ys ++ said ms)) none;
  seen = λ p. refl;
  ups = λ p. ap (λ (ys : List Saying). bundles_in (writes_waiting ((ends p ys ++ told (length ms + 1) ys None ∷ []) ++ events_of p ms))) none;
  downs = λ p. ap (λ (ys : List Saying). map (λ (b : Bundle DownBundle). b.content) (bundles_waiting ((ends p ys ++ told (length ms + 1) ys None ∷ []) ++ events_of p ms))) none;
}

parent_refused : (c : Config) (action : ParentAction) (ms : List Moment)
    → (let r : Ruling (List Saying) = action_ruling (λ says. asked c.tabs (says ++ said ms)) (λ y says. y ∷ says) (length c.types) action [] in
    is_refused (parent_moment c ms r).answer ≡ true → Unchanged c (parent_moment c ms r) ms)
parent_refused c action ms = by (parent.refusal (facts_now c ms) action)
  where
    rule : Option Refusal → Ruling (List Saying)
    rule o = option_map_or (λ why. ruling (λ says. asked c.tabs (says ++ said ms)) (λ y says. y ∷ says) (length c.types) (Refused why) (λ q. []) []) o
        (done_ruling (λ says. asked c.tabs (says ++ said ms)) (λ y says. y ∷ says) (length c.types) action [])

    by : (o : Option Refusal) → is_refused (rule o).answer ≡ true → Unchanged c (parent_moment c ms (rule o)) ms
    by (Some why) e = unsaid c (Refused why) (after_sending (λ says. asked c.tabs (says ++ said ms)) (λ y says. y ∷ says) (length c.types) (λ q. []) []) ms (none_sent (λ says. asked c.tabs (says ++ said ms)) (length c.types))
    by None e = let no_refusal : is_refused (parent.answer (facts_now c ms) action) ≡ false = parent_answer (facts_now c ms) action in cc

-- a bundle is never refused
either_end : (s done : Ruling (List Saying)) (ended : EndCause → Ruling (List Saying)) → is_refused s.answer ≡ false → is_refused done.answer ≡ false → ((cause : EndCause) → is_refused (ended cause).answer ≡ false)
    → (e : Bool) (o : Option EndCause) → is_refused (if e then s else option_map_or ended o done).answer ≡ false
either_end s done ended one two three true o = one
either_end s done ended one two three false None = two
either_end s done ended one two three false (Some cause) = three cause

bundle_answer : (allows : Field → Bool) (facts : List Saying → Facts) (n p : ℕ) (b : UpBundle) → is_refused (bundle_ruling facts (λ y says. y ∷ says) n allows p b []).answer ≡ false
bundle_answer allows facts n p b =
    let counted : List Saying = if is_counted (facts []) p b then Counted p ∷ [] else [] in
    either_end (ruling facts (λ y says. y ∷ says) n Ignored (λ q. []) []) (parts_ruling facts (λ y says. y ∷ says) n allows p b counted) (λ cause. end_ruling facts (λ y says. y ∷ says) n p cause counted)
    refl refl (λ cause. refl) (is_some ((facts []).processes.ended p))
    (or_later (envelope_fault (facts []) p b) (first_fault (hear_rules allows p p) facts (λ y says. y ∷ says) 1 counted b.parts))

hear_refused : (c : Config) (p : ℕ) (ms : List Moment) (allows : Field → Bool) (ws : List Written) → is_refused (heard_moment c p ms allows ws).answer ≡ true → Unchanged c (heard_moment c p ms allows ws) ms
hear_refused c p ms allows [] e = silent c (heard_moment c p ms allows []) ms refl (λ q. refl) (λ q. refl)
hear_refused c p ms allows (Said says ∷ ws) e = silent c (heard_moment c p ms allows (Said says ∷ ws)) ms refl (λ q. refl) (λ q. refl)
hear_refused c p ms allows (Raw b ∷ ws) e =
    let no_refusal : is_refused (bundle_ruling (λ says. asked c.tabs (says ++ said ms)) (λ y says. y ∷ says) (length c.types) allows p b []).answer ≡ false =
    bundle_answer allows (λ says. asked c.tabs (says ++ said ms)) (length c.types) p b in cc
hear_refused c p ms allows (Own b ∷ ws) e =
    let no_refusal : is_refused (bundle_ruling (λ says. asked c.tabs (says ++ said ms)) (λ y says. y ∷ says) (length c.types) allows p b []).answer ≡ false =
    bundle_answer allows (λ says. asked c.tabs (says ++ said ms)) (length c.types) p b in cc

pub refused_still : RefusedChangesNothing
refused_still c ms allows (Act p action) e = acts_refused c p.0 action ms e
refused_still c ms allows (Take p) e = if_refused c p.0 (taken_moment c p.0 ms (bundles_waiting (events_of p.0 ms))) ms (take_refused c p.0 ms (bundles_waiting (events_of p.0 ms))) e
refused_still c ms allows (RawStep p b) e = if_refused c p.0 (raw_moment p.0 b) ms (λ same. absurd cc) e
refused_still c ms allows (ParentAct action) e = parent_refused c action ms e
refused_still c ms allows (Hear p) e = hear_refused c p.0 ms allows (writes_waiting (events_of p.0 ms)) e
