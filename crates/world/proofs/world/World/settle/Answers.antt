use Rattle.std.proofs.Common.{◌≡◌, ◌≤◌, true, length, ap, sym, subst, ◌∙◌}
use Rattle.field_rules.specs.RuleBounds.{bounds_of}
use Rattle.model.specs.Next.{Run}
use Rattle.model.specs.View.{base, point, is_honest}
use Rattle.model.proofs.Rounds.{way_begins, way_goes_on, way_shortens, way_ends, settling_ends}
use Rattle.world.proofs.NeverFalls.{settled_none_fell}
use Rattle.world.proofs.world.World.settle.Goals as goal

pub returns-then-entries-before-clause-settled : goal.returns-then-entries-before-clause-settled
returns-then-entries-before-clause-settled g c =
    let none : length c.in_ok-world.world.journal ≡ length c.rounds.world.journal =
    sym (c.entries.ensures.len ∙ ap length c.journal-in-rounds.ensures) ∙ c.if-entries-before.true ∙ c.entries-before.ensures.len ∙ ap length c.journal.ensures in
    way_ends (bounds_of c.args.rules.now) c.args.self c.rounds.world c.in_ok-world.world c.rounds.invariant c.in_ok-world.ensures none

pub returns-then-entries-before-clause-served : goal.returns-then-entries-before-clause-served
returns-then-entries-before-clause-served g c = rw (returns-then-entries-before-clause-settled g c) (settling_ends (bounds_of c.args.rules.now) c.args.self c.fits.ensures).served

pub returns-then-entries-before-clause-extends : goal.returns-then-entries-before-clause-extends
returns-then-entries-before-clause-extends g c = rw (returns-then-entries-before-clause-settled g c) (settling_ends (bounds_of c.args.rules.now) c.args.self c.fits.ensures).extends

pub returns-then-entries-before-clause-base : goal.returns-then-entries-before-clause-base
returns-then-entries-before-clause-base g c p x f lt own =
    subst (λ (r : Run). base c.args.self.config p x f c.args.self.journal ≤ base r.config p x f r.journal) (sym (returns-then-entries-before-clause-settled g c))
    ((settled_none_fell (bounds_of c.args.rules.now) c.args.self c.fits.ensures).base p x f lt (subst (λ (r : Run). is_honest r.config p r.journal ≡ true) (returns-then-entries-before-clause-settled g c) own))

pub returns-then-entries-before-clause-point : goal.returns-then-entries-before-clause-point
returns-then-entries-before-clause-point g c p x f lt own =
    subst (λ (r : Run). point c.args.self.config p x f c.args.self.journal ≤ point r.config p x f r.journal) (sym (returns-then-entries-before-clause-settled g c))
    ((settled_none_fell (bounds_of c.args.rules.now) c.args.self c.fits.ensures).point p x f lt (subst (λ (r : Run). is_honest r.config p r.journal ≡ true) (returns-then-entries-before-clause-settled g c) own))

pub rounds-init : goal.rounds-init
rounds-init g c = way_begins (bounds_of c.args.rules.now) c.args.self c.fits.ensures

pub rounds-smaller : goal.rounds-smaller
rounds-smaller g c =
    way_shortens (bounds_of c.args.rules.now) c.args.self c.rounds.world c.in_ok-world.world c.rounds.invariant c.in_ok-world.ensures
    (λ none. c.if-entries-before.false (c.entries.ensures.len ∙ ap length c.journal-in-rounds.ensures ∙ none ∙ sym (c.entries-before.ensures.len ∙ ap length c.journal.ensures)))

pub rounds-preserved : goal.rounds-preserved
rounds-preserved g c = way_goes_on (bounds_of c.args.rules.now) c.args.self c.rounds.world c.in_ok-world.world c.rounds.invariant c.in_ok-world.ensures
