-- How a step changes the weight of a run: none adds much, and a hear and a take where something waits lower it.
use Rattle.std.proofs.Common.{◌≡◌, ℕ, Bool, true, false, if◌then◌else◌, ◌+◌, ◌<◌, ◌≤◌, List, [], ◌∷◌, ◌++◌, length, refl, sym, subst, arith}
use Rattle.field_table.specs.declared.field.Field.{Field}
use Rattle.field_rules.specs.Bounds.{Bounds}
use Rattle.wire_msgs.specs.declared.answer.Answer.{Answer}
use Rattle.wire_msgs.specs.declared.answer.Answer.TheVariants.{Refused}
use Rattle.wire_msgs.specs.declared.refusal.Refusal.TheVariants.{Stopped, Empty}
use Rattle.wire_msgs.specs.declared.bundle.UpBundle.{UpBundle}
use Rattle.wire_msgs.specs.declared.config.Config.{Config}
use Rattle.wire_msgs.specs.declared.bundle.DownBundle.{DownBundle}
use Rattle.journal.specs.declared.entry.Step.{Step}
use Rattle.journal.specs.declared.entry.Step.TheVariants.{Act, Take, Raw as RawStep, ParentAct, Hear}
use Rattle.protocol.specs.Outside.{told_allowed}
use Rattle.protocol.specs.Questions.{Facts}
use Rattle.protocol.specs.Sayings.{Saying}
use Rattle.protocol.specs.Seen.{Seen, Doing}
use Rattle.protocol.specs.Start.{numbers}
use Rattle.protocol.specs.Take.{bundle_step}
use Rattle.traces.specs.Event.{Bundle}
use Rattle.traces.specs.Links.{writes_waiting, bundles_waiting}
use Rattle.model.specs.Journal.{Journal}
use Rattle.model.specs.Laws.{RunFits, StepAddsLittle}
use Rattle.model.specs.Moments.{Moment, Written, said, did_by, moment, moments_of, events_of, seen_now, sent_to, only_answer, if_running, heard_moment, taken_moment, raw_moment}
use Rattle.model.specs.Moments.Written.{Own, Raw, Said}
use Rattle.model.specs.Next.{Run, run_after, moment_after}
use Rattle.model.specs.Parent.{asked}
use Rattle.model.specs.Process.{own_asked}
use Rattle.model.specs.Settling.{total, weight, weight_at, moments_in, up_weight, down_weight}
use Rattle.model.proofs.WeightsSums.{at_one, at_most, at_least, total_none, total_three, total_most, totals}
use Rattle.model.proofs.WeightsLinks.{up_out, down_out, nothing_sent}
use Rattle.model.proofs.WeightsParts.{SendsLess, bundle_less, up_at_most, up_out_at_most, take_less}
use Rattle.model.proofs.FallsSteps.{Lights, EachChanged, none_waited, act_sends, take_sends, act_changes, take_changes, raw_changes, parent_changes, ruling_of, hear_changes, hear_raw_changes}

-- what a step does to the links, where there are n processes
pub record StepChanges (n : ℕ) (ms : List Moment) (m : Moment) : Type 0 where
  pub more : ℕ → ℕ
  pub less : ℕ → ℕ
  pub each : EachChanged ms m more less
  pub little : n ≤ 16 → total more (numbers 0 n) ≤ 64

no_changes : (n : ℕ) (ms : List Moment) (a : Answer) → Lights ms → StepChanges n ms (only_answer a)
no_changes n ms a lights = record {
  more = λ q. 0;
  less = λ q. 0;
  each = none_waited ms a lights;
  little = λ few. omega (arith, total_none (numbers 0 n));
}

take_step : (c : Config) (p n : ℕ) (ms : List Moment) (w : List (Bundle DownBundle)) → bundles_waiting (events_of p ms) ≡ w → Lights ms → StepChanges n ms (taken_moment c p ms w)
take_step c p n ms [] first lights = no_changes n ms (Refused Empty) lights
take_step c p n ms (b ∷ bs) first lights = record {
  more = at_one p (up_out (take_sends c p ms b.content));
  less = at_one p (down_weight b.content);
  each = take_changes c p ms b bs first lights;
  little = λ few. omega (arith, at_most p (up_out (take_sends c p ms b.content)) 0 n, up_out_at_most (take_sends c p ms b.content));
}

-- a step of a process, unless it stopped
running_step : (c : Config) (p n : ℕ) (ms : List Moment) (m : Moment) → Lights ms → StepChanges n ms m → StepChanges n ms (if_running c p ms m)
running_step c p n ms m lights next = by (seen_now c p ms).running
  where
    by : (b : Bool) → StepChanges n ms (if b then m else only_answer (Refused Stopped))
    by true = next
    by false = no_changes n ms (Refused Stopped) lights

-- all that is sent as a bundle is heard weighs less than it
pub sent_less : (c : Config) (p : ℕ) (ms : List Moment) (allows : Field → Bool) (b : UpBundle) → length c.types ≤ 16 → total (λ q. down_out (sent_to c ms (ruling_of c p ms allows b) q)) (numbers 0 (length c.types)) + 1 ≤ up_weight b
sent_less c p ms allows b few =
    let facts : List Saying → Facts = λ says. asked c.tabs (says ++ said ms) in
    let s : SendsLess (length c.types) b (ruling_of c p ms allows b) = bundle_less allows facts (length c.types) p b in
    omega (arith, total_most (λ q. down_out (sent_to c ms (ruling_of c p ms allows b) q)) s.bound (λ q. s.each (facts (ruling_of c p ms allows b).kept) q) (numbers 0 (length c.types)), s.less few)

hear_step : (c : Config) (p : ℕ) (ms : List Moment) (allows : Field → Bool) (w : List Written) → writes_waiting (events_of p ms) ≡ w → Lights ms → StepChanges (length c.types) ms (heard_moment c p ms allows w)
hear_step c p ms allows [] first lights = no_changes (length c.types) ms (Refused Empty) lights
hear_step c p ms allows (Said says ∷ ws) first lights = no_changes (length c.types) ms (Refused Empty) lights
hear_step c p ms allows (Raw b ∷ ws) first lights = record {
  more = λ q. down_out (sent_to c ms (ruling_of c p ms allows b) q);
  less = at_one p (up_weight b);
  each = hear_raw_changes c p ms allows b ws first lights;
  little = λ few. omega (arith, sent_less c p ms allows b few, up_at_most b);
}
hear_step c p ms allows (Own b ∷ ws) first lights = record {
  more = λ q. down_out (sent_to c ms (ruling_of c p ms allows b) q);
  less = at_one p (up_weight b);
  each = hear_changes c p ms allows b ws first lights;
  little = λ few. omega (arith, sent_less c p ms allows b few, up_at_most b);
}

pub step_changes : (c : Config) (ms : List Moment) (allows : Field → Bool) (s : Step) → Lights ms → StepChanges (length c.types) ms (moment c ms allows s)
step_changes c ms allows (Act p action) lights = record {
  more = at_one p.0 (up_out (act_sends c p.0 action ms));
  less = at_one p.0 0;
  each = act_changes c p.0 action ms lights;
  little = λ few. omega (arith, at_most p.0 (up_out (act_sends c p.0 action ms)) 0 (length c.types), up_out_at_most (act_sends c p.0 action ms));
}
step_changes c ms allows (Take p) lights =
    running_step c p.0 (length c.types) ms (taken_moment c p.0 ms (bundles_waiting (events_of p.0 ms))) lights (take_step c p.0 (length c.types) ms (bundles_waiting (events_of p.0 ms)) refl lights)
step_changes c ms allows (RawStep p b) lights = running_step c p.0 (length c.types) ms (raw_moment p.0 b) lights (record {
  more = at_one p.0 (up_weight b);
  less = at_one p.0 0;
  each = raw_changes c p.0 b ms lights;
  little = λ few. omega (arith, at_most p.0 (up_weight b) 0 (length c.types), up_at_most b);
})
step_changes c ms allows (ParentAct action) lights = record {
  more = λ q. 3;
  less = λ q. 0;
  each = parent_changes c action ms allows lights;
  little = λ few. omega (arith, total_three 0 (length c.types));
}
step_changes c ms allows (Hear p) lights = hear_step c p.0 ms allows (writes_waiting (events_of p.0 ms)) refl lights

-- no more is heard or taken than was sent
pub lights : (c : Config) (j : Journal) → Lights (moments_of c j)
unfolding moments_of
lights c [] q = nothing_sent
lights c (e ∷ older) q = ((step_changes c (moments_of c older) (told_allowed e.answer) e.step (lights c older)).each q).light

pub run_lights : (r : Run) → Lights (moments_in r)
run_lights r = lights r.config r.journal

-- what was allowed in a step, by its answer
abbrev told_in : Bounds → Run → Step → Field → Bool
told_in b r s = told_allowed (moment_after b r.config r.journal s).answer

-- the weight of a run rises and falls as its links do
pub run_weighs : (b : Bounds) (r : Run) (s : Step) (more less : ℕ → ℕ) → EachChanged (moments_in r) (moment r.config (moments_in r) (told_in b r s) s) more less
    → weight (run_after b r s) + total less (numbers 0 (length r.config.types)) ≤ weight r + total more (numbers 0 (length r.config.types))
unfolding weight moments_of
run_weighs b r s more less each = totals (λ p. weight_at p (moments_in r)) (λ p. weight_at p (moments_in (run_after b r s))) more less (λ q. (each q).weight) (numbers 0 (length r.config.types))

pub adds_little : StepAddsLittle
adds_little b r s fits =
    let changes : StepChanges (length r.config.types) (moments_in r) (moment r.config (moments_in r) (told_in b r s) s) = step_changes r.config (moments_in r) (told_in b r s) s (run_lights r) in
    omega (arith, run_weighs b r s changes.more changes.less changes.each, changes.little fits.config.few)

-- a hear where something waits: what is sent weighs less than what was heard
hear_falls : (bounds : Bounds) (r : Run) (p : ℕ) (b : UpBundle) (ws : List Written) → RunFits r → p < length r.config.types → writes_waiting (events_of p (moments_in r)) ≡ ws
    → EachChanged (moments_in r) (heard_moment r.config p (moments_in r) (told_in bounds r (Hear (record { 0 = p }))) ws)
    (λ q. down_out (sent_to r.config (moments_in r) (ruling_of r.config p (moments_in r) (told_in bounds r (Hear (record { 0 = p }))) b) q)) (at_one p (up_weight b))
    → weight (run_after bounds r (Hear (record { 0 = p }))) + 1 ≤ weight r
hear_falls bounds r p b ws fits below first changes =
    let ms : List Moment = moments_in r in
    let n : ℕ = length r.config.types in
    let allows : Field → Bool = told_in bounds r (Hear (record { 0 = p })) in
    let more : ℕ → ℕ = λ q. down_out (sent_to r.config ms (ruling_of r.config p ms allows b) q) in
    let each : EachChanged ms (moment r.config ms allows (Hear (record { 0 = p }))) more (at_one p (up_weight b)) =
    subst (λ w. EachChanged ms (heard_moment r.config p ms allows w) more (at_one p (up_weight b))) (sym first) changes in
    omega (arith, run_weighs bounds r (Hear (record { 0 = p })) more (at_one p (up_weight b)) each, sent_less r.config p ms allows b fits.config.few, at_least p (up_weight b) 0 n (omega arith) (omega arith))

pub hear_lowers : (bounds : Bounds) (r : Run) (p : ℕ) (b : UpBundle) (ws : List Written) → RunFits r → p < length r.config.types → writes_waiting (events_of p (moments_in r)) ≡ Own b ∷ ws
    → weight (run_after bounds r (Hear (record { 0 = p }))) + 1 ≤ weight r
hear_lowers bounds r p b ws fits below first =
    hear_falls bounds r p b (Own b ∷ ws) fits below first (hear_changes r.config p (moments_in r) (told_in bounds r (Hear (record { 0 = p }))) b ws first (run_lights r))

pub hear_raw_lowers : (bounds : Bounds) (r : Run) (p : ℕ) (b : UpBundle) (ws : List Written) → RunFits r → p < length r.config.types → writes_waiting (events_of p (moments_in r)) ≡ Raw b ∷ ws
    → weight (run_after bounds r (Hear (record { 0 = p }))) + 1 ≤ weight r
hear_raw_lowers bounds r p b ws fits below first =
    hear_falls bounds r p b (Raw b ∷ ws) fits below first (hear_raw_changes r.config p (moments_in r) (told_in bounds r (Hear (record { 0 = p }))) b ws first (run_lights r))

-- a take of a process that runs where something waits: what is sent weighs less than what was taken
pub take_lowers : (bounds : Bounds) (r : Run) (p : ℕ) (b : Bundle DownBundle) (bs : List (Bundle DownBundle)) → RunFits r → p < length r.config.types → (seen_now r.config p (moments_in r)).running ≡ true
    → bundles_waiting (events_of p (moments_in r)) ≡ b ∷ bs → weight (run_after bounds r (Take (record { 0 = p }))) + 1 ≤ weight r
take_lowers bounds r p b bs fits below runs first =
    let ms : List Moment = moments_in r in
    let n : ℕ = length r.config.types in
    let now : List Doing → Seen = λ did. own_asked r.config.tabs p (did ++ did_by p ms) in
    let up : ℕ = up_out (take_sends r.config p ms b.content) in
    let down : ℕ = down_weight b.content in
    let falls : up + 1 ≤ down = take_less p now (now (bundle_step now (λ d did. d ∷ did) p b.content []).kept) b.content in
    let each : EachChanged ms (moment r.config ms (told_in bounds r (Take (record { 0 = p }))) (Take (record { 0 = p }))) (at_one p up) (at_one p down) =
    subst (λ (v : Bool). EachChanged ms (if v then taken_moment r.config p ms (bundles_waiting (events_of p ms)) else only_answer (Refused Stopped)) (at_one p up) (at_one p down)) (sym runs)
    (subst (λ w. EachChanged ms (taken_moment r.config p ms w) (at_one p up) (at_one p down)) (sym first) (take_changes r.config p ms b bs first (run_lights r))) in
    omega (arith, run_weighs bounds r (Take (record { 0 = p })) (at_one p up) (at_one p down) each, falls, at_most p up 0 n, at_least p down 0 n (omega arith) (omega arith))
