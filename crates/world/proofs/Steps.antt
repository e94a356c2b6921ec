-- A step of a world comes to what the model says of it.
use Rattle.std.proofs.Common.{◌≡◌, ℕ, ◌<◌, List, ◌∷◌, length, refl, sym, ap, subst, ◌∙◌, arith}
use Rattle.field_rules.specs.Bounds.{Bounds}
use Rattle.wire_msgs.specs.declared.answer.Answer.{Answer}
use Rattle.wire_msgs.specs.declared.config.Config.{Config}
use Rattle.journal.specs.Step.{StepFits}
use Rattle.journal.specs.declared.entry.Step.{Step}
use Rattle.journal.specs.declared.entry.Step.TheVariants.{Act, Take, Raw, ParentAct, Hear}
use Rattle.protocol.specs.Outside.{told_allowed}
use Rattle.traces.specs.Links.{writes_waiting, bundles_waiting}
use Rattle.model.specs.Journal.{Journal}
use Rattle.model.specs.Laws.{RunFits}
use Rattle.model.specs.Links.{up_waiting, down_waiting}
use Rattle.model.specs.Moments.{Moment, events_of, taken_moment, raw_moment, moment, moments_of}
use Rattle.model.specs.Next.{Run, Lawful, moment_after, allowed_by, run_after}
use Rattle.model.proofs.WeightsLinks.{Light, waiting_own}
use Rattle.model.proofs.Falls.{run_lights}
use Rattle.model.proofs.ReadBack.{moment_again, moments_after}
use Rattle.world.specs.Came.{State, Came, came, taken, raw_sent, heard}
use Rattle.world.specs.Stands.{state, Stands, most_entries}
use Rattle.world.proofs.Waits.{Behind}
use Rattle.world.proofs.Comes.{at_links, came_running, own_act, own_take, raw_bundle, parent_acts, parent_hear}

-- ---- a step

-- no more was heard than written, nor taken than sent
behind_of : (r : Run) (q : ℕ) → Behind (events_of q (moments_of r.config r.journal))
behind_of r q =
    let light : Light (events_of q (moments_of r.config r.journal)) = run_lights r q in
    record { up = light.heard; down = light.taken }

came_on : (b : Bounds) (r : Run) (s : Step) → StepFits (length r.config.types) s
    → came b (length r.config.types) s (state r.config (moments_of r.config r.journal))
    ≡ record { answer = (moment_after b r.config r.journal s).answer; state = state r.config (moment_after b r.config r.journal s ∷ moments_of r.config r.journal) }
came_on b r (Act p action) fit = own_act r.config (moments_of r.config r.journal) p.0 action fit.process (behind_of r p.0)
came_on b r (Take p) fit =
    let ms : List Moment = moments_of r.config r.journal in
    came_running r.config ms p.0 fit (taken p.0 _ (state r.config ms)) (taken_moment r.config p.0 ms (bundles_waiting (events_of p.0 ms)))
    (ap (λ bs. taken p.0 bs (state r.config ms)) (at_links (λ q. down_waiting q ms) (length r.config.types) p.0 fit)
    ∙ own_take r.config ms p.0 fit (behind_of r p.0) (bundles_waiting (events_of p.0 ms)) refl)
came_on b r (Raw p bundle) fit =
    let ms : List Moment = moments_of r.config r.journal in
    came_running r.config ms p.0 fit.process (raw_sent p.0 bundle (state r.config ms)) (raw_moment p.0 bundle)
    (raw_bundle r.config ms p.0 bundle fit.process (behind_of r p.0))
came_on b r (ParentAct action) fit = parent_acts r.config (moments_of r.config r.journal) action (λ q below. behind_of r q)
came_on b r (Hear p) fit =
    let ms : List Moment = moments_of r.config r.journal in
    ap (λ bs. heard b (length r.config.types) p.0 bs (state r.config ms)) (at_links (λ q. up_waiting q ms) (length r.config.types) p.0 fit)
    ∙ parent_hear b r.config ms p.0 fit (λ q below. behind_of r q) (writes_waiting (events_of p.0 ms)) refl (waiting_own (events_of p.0 ms) (run_lights r p.0))

-- what a step comes to after a journal
abbrev pub answer_of : Bounds → Config → Journal → Step → Answer
answer_of b c j s = (moment_after b c j s).answer

-- and what stands for the journal with it
pub came_is : (b : Bounds) (c : Config) (j : Journal) (s : Step) → RunFits (record { config = c; journal = j }) → StepFits (length c.types) s
    → came b (length c.types) s (state c (moments_of c j)) ≡ record { answer = answer_of b c j s; state = state c (moments_of c (record { step = s; answer = answer_of b c j s } ∷ j)) }
came_is b c j s fits fit =
    let r : Run = record { config = c; journal = j } in
    came_on b r s fit ∙ ap (λ (ms : List Moment). record { answer = answer_of b c j s; state = state c ms }) (sym (moments_after b r s fits fit))

-- the answer is read back as it was given
answered : (b : Bounds) (c : Config) (j : Journal) (s : Step) (a : Answer) → RunFits (record { config = c; journal = j }) → StepFits (length c.types) s → a ≡ answer_of b c j s
    → a ≡ (moment c (moments_of c j) (told_allowed a) s).answer
answered b c j s a fits fit is =
    is ∙ sym (ap (λ (m : Moment). m.answer) (moment_again (allowed_by b (moments_of c j) s) (record { config = c; journal = j }) s fits fit))
    ∙ ap (λ (d : Answer). (moment c (moments_of c j) (told_allowed d) s).answer) (sym is)

-- a world that stood for its journal stands for it with the entry of a step
pub stepped : (b : Bounds) (c d : Config) (j : Journal) (s : Step) (before behind : State) (a : Answer) → Stands c j before → StepFits (length c.types) s → length j < most_entries
    → d ≡ c → a ≡ (came b (length c.types) s before).answer → behind ≡ (came b (length c.types) s before).state
    → Stands d (record { step = s; answer = a } ∷ j) behind
unfolding Lawful
stepped b c d j s before behind a stands fit room same answers states =
    let is : came b (length c.types) s before ≡ record { answer = answer_of b c j s; state = state c (moments_of c (record { step = s; answer = answer_of b c j s } ∷ j)) } =
    ap (came b (length c.types) s) stands.is ∙ came_is b c j s stands.fits fit in
    let told : a ≡ answer_of b c j s = answers ∙ ap (λ (k : Came). k.answer) is in
    subst (λ e. Stands e (record { step = s; answer = a } ∷ j) behind) (sym same) (record {
      fits = record { config = stands.fits.config; steps = (fit, stands.fits.steps) };
      few = omega (arith, room);
      lawful = (answered b c j s a stands.fits fit told, stands.lawful);
      is = states ∙ ap (λ (k : Came). k.state) is ∙ ap (λ (e : Answer). state c (moments_of c (record { step = s; answer = e } ∷ j))) (sym told);
    })

-- and is the run with the step more
pub run_is : (b : Bounds) (c d : Config) (j : Journal) (s : Step) (before : State) (a : Answer) → Stands c j before → StepFits (length c.types) s
    → d ≡ c → a ≡ (came b (length c.types) s before).answer
    → record { config = d; journal = record { step = s; answer = a } ∷ j } ≡ run_after b (record { config = c; journal = j }) s
run_is b c d j s before a stands fit same answers =
    let is : a ≡ answer_of b c j s = answers ∙ ap (λ (k : Came). k.answer) (ap (came b (length c.types) s) stands.is ∙ came_is b c j s stands.fits fit) in
    ap (λ (e : Config). run_of e a) same ∙ ap (run_of c) is
  where
    run_of : Config → Answer → Run
    run_of e d = record { config = e; journal = record { step = s; answer = d } ∷ j }
