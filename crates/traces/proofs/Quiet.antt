-- The laws that are read off: the point, quiet links, the stage, reverts.
use Rattle.std.proofs.Common.{◌≡◌, ◌<◌, ◌≤◌, None, Some, ◌∷◌, ap, sym, subst, ◌∙◌, arith}
use Rattle.std.specs.Prelude.{max}
use Rattle.std.proofs.lemmas.Bool.{cases_lt}
use Rattle.traces.specs.Event.Event.{Takes, Accepts}
use Rattle.traces.specs.Links.{hears, last_sending}
use Rattle.traces.specs.Field.{FieldEvent, Trace}
use Rattle.traces.specs.Words.{value_at, stage, stage_behind, newest, while_held, base, accepted_at, fate, is_answer}
use Rattle.traces.specs.Words.Fate.{Unheard, Reverted}
use Rattle.traces.specs.Replay.{replay}
use Rattle.traces.specs.Rules.{Flow, Flows, Order, Ordered}
use Rattle.traces.specs.Laws.{ReplayShowsTheView, PointNeverFalls, QuietShowsTheParent, RevertTakenShowsTheParent, RevertsWait, StageIsServed}
use Rattle.traces.proofs.Numbers.{all_heard}
use Rattle.traces.proofs.Entries.{Rising, rising, accepted_past}
use Rattle.traces.proofs.Fates.{unheard, entry_of, Parted, parted}
use Rattle.traces.proofs.Stages.{along, kept, shows_kept}
use Rattle.std.proofs.Common.{◌⊎◌, inl, inr}
use Rattle.traces.proofs.Judged as judged
use Rattle.traces.proofs.Follows.{Follows, End, follows}
use Rattle.traces.proofs.Shows.{shows, taken_fresh}

pub shows_the_view : (V : Type 0) → ReplayShowsTheView V
shows_the_view V start h k = shows start h k.flows k.ordered k.fits

base_rises : {V : Type 0} (e : FieldEvent V) (h : Trace V) → Flow e h → Flows h → Ordered h → base h ≤ base (e ∷ h)
base_rises (Takes d) h f fs os =
    let up : Rising (base h) (last_sending h) (hears h) (d ∷ f.rest) = subst (λ ds. Rising (base h) (last_sending h) (hears h) ds) f.is (rising h fs os) in
    omega (arith, up.0)
base_rises _ h f fs os = omega arith

accepted_rises : {V : Type 0} (e : FieldEvent V) (h : Trace V) → Order e h → Ordered h → accepted_at h ≤ accepted_at (e ∷ h)
accepted_rises (Accepts k None) h o os = omega arith
accepted_rises (Accepts k (Some v)) h o os = omega (arith, o, accepted_past h os)
accepted_rises _ h o os = omega arith

pub never_falls : (V : Type 0) → PointNeverFalls V
never_falls V start e h k =
    let b : base h ≤ base (e ∷ h) = base_rises e h k.flows.0 k.flows.1 k.ordered.1 in
    let a : accepted_at h ≤ accepted_at (e ∷ h) = accepted_rises e h k.ordered.0 k.ordered.1 in
    (b, omega (arith, a, b))

pub quiet : (V : Type 0) → QuietShowsTheParent V
quiet V start h k live held up down = shows_kept start h ∙ ap (λ s. while_held s (kept start h)) held ∙ ap Some (end live held (all_heard start.initial h k.flows up))
  where
    end : End start h (stage start.stage h) (newest h) (kept start h)
    end = subst (λ ds. Follows (λ j. value_at start.initial j h) (End start h) (stage start.stage h) (newest h) (kept start h) ds) down (follows start h k.flows k.ordered k.fits)

pub served : (V : Type 0) → StageIsServed V
served V start h k live down = sym (ap (stage_behind (stage start.stage h)) down) ∙ along start.stage h k.flows live

pub revert_taken : (V : Type 0) → RevertTakenShowsTheParent V
revert_taken V start d h k e held = go (cases_lt d.epoch (newest h))
  where
    up : Rising (base h) (last_sending h) (hears h) (d ∷ k.flows.0.rest)
    up = subst (λ ds. Rising (base h) (last_sending h) (hears h) ds) k.flows.0.is (rising h k.flows.1 k.ordered.1)

    known : (d.epoch < newest h) → newest h ≤ hears h → ⊥
    known l u =
        let parts : Parted (entry_of (fate (newest h) h)) (newest h) (d ∷ k.flows.0.rest) = subst (λ ds. Parted (entry_of (fate (newest h) h)) (newest h) ds) k.flows.0.is (parted (newest h) h k.flows.1 k.ordered.1 u) in
        let older : d.entry < entry_of (fate (newest h) h) = parts.0 l in
        let same : d.entry < d.entry = subst (λ x. d.entry < entry_of x) e older in
        omega arith

    unknown : hears h < newest h → ⊥
    unknown l = let none : fate (newest h) h ≡ Unheard = unheard (newest h) h l in let two : Reverted d.entry ≡ Unheard = sym e ∙ none in cc

    go : ((d.epoch < newest h) ⊎ (newest h ≤ d.epoch)) → replay start (Takes d ∷ h) ≡ Some (value_at start.initial d.entry h)
    go (inl l) = absurd (split (cases_lt (hears h) (newest h)))
      where
        split : ((hears h < newest h) ⊎ (newest h ≤ hears h)) → ⊥
        split (inl i) = unknown i
        split (inr i) = known l i
    go (inr l) =
        let p : (kept start (Takes d ∷ h) ≡ value_at start.initial d.entry h) × (max d.entry (accepted_at h) ≡ d.entry) = taken_fresh start d h k.flows.1 k.ordered.1 k.fits.1 k.flows.0 l held in
        shows_kept start (Takes d ∷ h) ∙ ap (λ s. while_held s (kept start (Takes d ∷ h))) held ∙ ap Some p.0

pub wait : (V : Type 0) → RevertsWait V
wait V start n k h r e open_yet = judged.reverts_wait start n k h r.flows r.ordered r.fits e (ap (is_answer start.stage h) (sym e) ∙ open_yet)
