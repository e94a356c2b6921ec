use Rattle.std.proofs.Common.{◌≡◌, ◌<◌, ◌≤◌, true, length, Some, ap, sym, subst, ◌∙◌}
use Rattle.wire_msgs.specs.declared.answer.Answer.TheVariants.{Ended}
use Rattle.journal.specs.Step.{StepFits}
use Rattle.journal.specs.declared.entry.Step.{Step}
use Rattle.model.specs.Journal.{Journal}
use Rattle.model.specs.Laws.{RunFits, EndsAlone}
use Rattle.model.specs.Moments.{moments_of, seen_now}
use Rattle.field_rules.specs.Bounds.{Bounds}
use Rattle.field_rules.specs.RuleBounds.{bounds_of}
use Rattle.journal.specs.declared.entry.Entry.{Entry}
use Rattle.model.specs.Settling.{moments_in}
use Rattle.model.specs.Next.{Run, run_after, run_with, moment_after, allowed_by}
use Rattle.journal.specs.declared.entry.Step.TheVariants.{Take, Hear}
use Rattle.model.specs.View.{base, point, view, value_at, is_honest}
use Rattle.model.proofs.Ending.{end_alone}
use Rattle.model.proofs.Reverted.{revert_shows}
use Rattle.model.proofs.FieldLaws.{never_fall}
use Rattle.world.specs.Stands.{most_entries, state_of}
use Rattle.world.proofs.Readiness.{ready}
use Rattle.world.proofs.Steps.{stepped, run_is}
use Rattle.world.proofs.world.World.step.Goals as goal

room_before : (r now : Run) → r ≡ now → length now.journal < most_entries → length r.journal < most_entries
room_before r now e lt = subst (λ (x : Run). length x.journal < most_entries) (sym e) lt

fits_before : (r now : Run) (s : Step) → r ≡ now → StepFits (length now.config.types) s → StepFits (length r.config.types) s
fits_before r now s e fit = subst (λ (x : Run). StepFits (length x.config.types) s) (sym e) fit

pub come-requires-clause-ready : goal.come-requires-clause-ready
come-requires-clause-ready g c =
    ready c.self.inside.parent c.self.inside.sides.contents.items c.self.inside.sides.ups.items c.self.inside.sides.downs.items c.self.inside.journal c.self.invariant
    (room_before (record { config = c.self.inside.parent.config; journal = c.self.inside.journal }) c.args.self c.self.view_is c.requires.room)

pub invariant_of-result : goal.invariant_of-result
invariant_of-result g c =
    let r : Run = record { config = c.self.inside.parent.config; journal = c.self.inside.journal } in
    rw c.in_ok-keep.ensures (stepped (bounds_of c.args.rules.now) c.self.inside.parent.config c.in_ok-parent.field-0.parent.config c.self.inside.journal c.args.step
    (state_of c.self.inside.parent c.self.inside.sides.contents.items c.self.inside.sides.ups.items c.self.inside.sides.downs.items)
    (state_of c.in_ok-parent.field-0.parent c.come.new.sides.contents.items c.come.new.sides.ups.items c.come.new.sides.downs.items)
    c.in_ok-parent.field-0.answer c.self.invariant (fits_before r c.args.self c.args.step c.self.view_is c.requires.step) (room_before r c.args.self c.self.view_is c.requires.room) c.in_ok-parent.ensures.config c.in_ok-parent.ensures.answer c.in_ok-parent.ensures.state)

pub returns-clause-run : goal.returns-clause-run
returns-clause-run g c =
    let r : Run = record { config = c.self.inside.parent.config; journal = c.self.inside.journal } in
    ap (λ (j : Journal). record { config = c.in_ok-parent.field-0.parent.config; journal = j }) c.in_ok-keep.ensures
    ∙ run_is (bounds_of c.args.rules.now) c.self.inside.parent.config c.in_ok-parent.field-0.parent.config c.self.inside.journal c.args.step (state_of c.self.inside.parent c.self.inside.sides.contents.items c.self.inside.sides.ups.items c.self.inside.sides.downs.items) c.in_ok-parent.field-0.answer c.self.invariant (fits_before r c.args.self c.args.step c.self.view_is c.requires.step)
    c.in_ok-parent.ensures.config c.in_ok-parent.ensures.answer
    ∙ ap (λ (r : Run). run_after (bounds_of c.args.rules.now) r c.args.step) c.self.view_is

-- the run with its newest entry
abbrev entry_of : Bounds → Run → Step → Entry
entry_of b r s = record { step = s; answer = (moment_after b r.config r.journal s).answer }

fits_on : (b : Bounds) (r : Run) (s : Step) → RunFits r → StepFits (length r.config.types) s → RunFits (run_with r (entry_of b r s))
fits_on b r s fits fit = record { config = fits.config; steps = (fit, fits.steps) }

pub returns-clause-base : goal.returns-clause-base
returns-clause-base g c p x f lt own =
    subst (λ (r : Run). base c.args.self.config p x f c.args.self.journal ≤ base r.config p x f r.journal) (sym (returns-clause-run g c))
    ((never_fall c.args.self (entry_of (bounds_of c.args.rules.now) c.args.self c.args.step) p x f (fits_on (bounds_of c.args.rules.now) c.args.self c.args.step (subst RunFits c.self.view_is c.self.invariant.fits) c.requires.step) lt
    (subst (λ (r : Run). is_honest r.config p r.journal ≡ true) (returns-clause-run g c) own)).0)

pub returns-clause-point : goal.returns-clause-point
returns-clause-point g c p x f lt own =
    subst (λ (r : Run). point c.args.self.config p x f c.args.self.journal ≤ point r.config p x f r.journal) (sym (returns-clause-run g c))
    ((never_fall c.args.self (entry_of (bounds_of c.args.rules.now) c.args.self c.args.step) p x f (fits_on (bounds_of c.args.rules.now) c.args.self c.args.step (subst RunFits c.self.view_is c.self.invariant.fits) c.requires.step) lt
    (subst (λ (r : Run). is_honest r.config p r.journal ≡ true) (returns-clause-run g c) own)).1)

pub returns-clause-reverted : goal.returns-clause-reverted
returns-clause-reverted g c p x f k is honest held sent reverted =
    subst (λ (r : Run). view r.config p.0 x f r.journal ≡ Some (value_at c.args.self.config p.0 x f k c.args.self.journal)) (sym (returns-clause-run g c))
    (subst (λ (s : Step). RunFits (run_with c.args.self (entry_of (bounds_of c.args.rules.now) c.args.self s))
    → (seen_now c.args.self.config p.0 (moments_in (run_after (bounds_of c.args.rules.now) c.args.self s))).holds x ≡ true
    → view c.args.self.config p.0 x f (run_after (bounds_of c.args.rules.now) c.args.self s).journal ≡ Some (value_at c.args.self.config p.0 x f k c.args.self.journal)) (sym is)
    (λ fits held. revert_shows c.args.self (moment_after (bounds_of c.args.rules.now) c.args.self.config c.args.self.journal (Take p)).answer p x f k fits honest held sent reverted)
    (fits_on (bounds_of c.args.rules.now) c.args.self c.args.step (subst RunFits c.self.view_is c.self.invariant.fits) c.requires.step)
    (subst (λ (r : Run). (seen_now r.config p.0 (moments_in r)).holds x ≡ true) (returns-clause-run g c) held))

pub returns-clause-ends : goal.returns-clause-ends
returns-clause-ends g c p cause is over =
    subst (λ (s : Step). (moment_after (bounds_of c.args.rules.now) c.args.self.config c.args.self.journal s).answer ≡ Ended cause
    → EndsAlone c.args.self.config p.0 (moment_after (bounds_of c.args.rules.now) c.args.self.config c.args.self.journal s) (moments_of c.args.self.config c.args.self.journal)) (sym is)
    (end_alone c.args.self.config (moments_of c.args.self.config c.args.self.journal) (allowed_by (bounds_of c.args.rules.now) (moments_of c.args.self.config c.args.self.journal) (Hear p)) p cause) over
