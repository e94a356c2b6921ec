-- There is room for the entries of each line, as none adds much.
use Rattle.std.proofs.Common.{◌≡◌, ℕ, ◌+◌, ◌≤◌, List, [], ◌∷◌, length, refl, sym, subst, arith}
use Rattle.wire_msgs.specs.Config.{ConfigFits}
use Rattle.wire_msgs.specs.declared.config.Config.{Config}
use Rattle.field_rules.specs.Bounds.{Bounds}
use Rattle.protocol.specs.Start.{numbers}
use Rattle.model.specs.Laws.{RunFits, SettlingEnds, StepAddsLittle}
use Rattle.model.specs.Moments.{moments_of}
use Rattle.model.specs.Next.{Run, run_at_start, run_after}
use Rattle.model.specs.Settling.{total, weight_at, weight, settled}
use Rattle.model.proofs.Rounds.{goes_rounds}
use Rattle.scenario.specs.declared.line.Line.{Line}
use Rattle.scenario.specs.declared.line.Line.TheVariants as lines
use Rattle.scenario.specs.Fits.{LineFits}
use Rattle.report.specs.Report.{run_after_line}

-- ---- a line

settled_fits : (b : Bounds) (r : Run) → RunFits r → RunFits (settled b r)
unfolding settled
settled_fits b r fits = (goes_rounds b (weight r) r fits).fits

-- what holds of the run after a line
pub record GoesOn (r w : Run) : Type 0 where
  pub config : w.config ≡ r.config
  pub fits : RunFits w
  pub room : length w.journal + weight w ≤ length r.journal + weight r + 65

goes_on : SettlingEnds → StepAddsLittle → (b : Bounds) (r : Run) (l : Line) → RunFits r → LineFits (length r.config.types) l → GoesOn r (run_after_line b r l)
goes_on settling adding b r (lines.Step step) fits here =
    let next : RunFits (run_after b r step) = record { config = fits.config; steps = (here, fits.steps) } in
    record { config = refl; fits = next; room = adding b r step next }
goes_on settling adding b r lines.Settle fits here =
    let settles = settling b r fits in
    record { config = settles.config; fits = settled_fits b r fits; room = omega (arith, settles.falls) }
goes_on settling adding b r (lines.Show show) fits here = record { config = refl; fits = fits; room = omega arith }

pub line_goes_on : SettlingEnds → StepAddsLittle → (b : Bounds) (r w : Run) (l : Line) → RunFits r → LineFits (length r.config.types) l → w ≡ run_after_line b r l → GoesOn r w
line_goes_on settling adding b r w l fits here next = subst (λ (x : Run). GoesOn r x) (sym next) (goes_on settling adding b r l fits here)

-- ---- the start

pub start_fits : (c : Config) → ConfigFits c → RunFits (run_at_start c)
start_fits c fits = record { config = fits; steps = tt }

total_zero : (w : ℕ → ℕ) (ns : List ℕ) → ((p : ℕ) → w p ≡ 0) → total w ns ≡ 0
total_zero w [] none = refl
total_zero w (p ∷ ps) none = omega (arith, none p, total_zero w ps none)

pub nothing_at_start : (c : Config) → weight (run_at_start c) ≡ 0
unfolding weight moments_of
nothing_at_start c = total_zero (λ p. weight_at p []) (numbers 0 (length c.types)) (λ p. refl)
