use Rattle.std.proofs.Common.{◌≡◌, ℕ, ◌<◌, Bool, true, false, not, ◌&&◌, length, None, refl, ap₂}
use Rattle.model.proofs.FieldLaws.{quiet_shows}
use Rattle.model.proofs.QuietOrder.{has_the_same_order}
use Rattle.model.proofs.QuietTrees.{holds_the_parents, says_the_same, has_the_same_frames}
use Rattle.model.specs.Laws.{RunFits, IsAtRest}
use Rattle.model.specs.Links.{is_nothing, up_waiting, down_waiting}
use Rattle.model.specs.Moments.{facts_now}
use Rattle.model.specs.Next.{Run}
use Rattle.model.specs.Settling.{moments_in}
use Rattle.model.specs.View.{is_honest}
use Rattle.world.proofs.world.World.is_quiet.Goals as goal

-- nothing is there where not nothing is false
is_nothing_by : (b : Bool) → false ≡ not b → b ≡ true
is_nothing_by true e = refl
is_nothing_by false e = cc

not_nothing_by : (r b : Bool) → r ≡ not b → not r ≡ true → b ≡ true
not_nothing_by r true e n = refl
not_nothing_by r false e n = cc

-- a process with nothing on its links
at_rest : (r : Run) (p : ℕ) (waits : Bool) → RunFits r → p < length r.config.types → false ≡ not (is_nothing (up_waiting p (moments_in r))) → waits ≡ not (is_nothing (down_waiting p (moments_in r))) → not waits ≡ true
    → is_honest r.config p r.journal ≡ true → (facts_now r.config (moments_in r)).processes.ended p ≡ None → IsAtRest r p
at_rest r p waits fits lt up down quiet honest runs = record {
  fits = fits;
  process = lt;
  honest = honest;
  runs = runs;
  quiet = ap₂ (λ a b. a && b) (is_nothing_by (is_nothing (up_waiting p (moments_in r))) up) (not_nothing_by waits (is_nothing (down_waiting p (moments_in r))) down quiet);
}

pub returns-then-not-waits_up-clause-holds : goal.returns-then-not-waits_up-clause-holds
returns-then-not-waits_up-clause-holds c quiet honest alive x =
    holds_the_parents c.args.self.now c.args.p.0 x (at_rest c.args.self.now c.args.p.0 c.waits_down.result c.fits.ensures c.requires c.if-not-waits_up.ensures c.waits_down.ensures quiet honest alive)

pub returns-then-not-waits_up-clause-says : goal.returns-then-not-waits_up-clause-says
returns-then-not-waits_up-clause-says c quiet honest alive x held =
    says_the_same c.args.self.now c.args.p.0 x (at_rest c.args.self.now c.args.p.0 c.waits_down.result c.fits.ensures c.requires c.if-not-waits_up.ensures c.waits_down.ensures quiet honest alive) held

pub returns-then-not-waits_up-clause-order : goal.returns-then-not-waits_up-clause-order
returns-then-not-waits_up-clause-order c quiet honest alive =
    has_the_same_order c.args.self.now c.args.p.0 (at_rest c.args.self.now c.args.p.0 c.waits_down.result c.fits.ensures c.requires c.if-not-waits_up.ensures c.waits_down.ensures quiet honest alive)

pub returns-then-not-waits_up-clause-frames : goal.returns-then-not-waits_up-clause-frames
returns-then-not-waits_up-clause-frames c quiet honest alive y held =
    has_the_same_frames c.args.self.now c.args.p.0 y (at_rest c.args.self.now c.args.p.0 c.waits_down.result c.fits.ensures c.requires c.if-not-waits_up.ensures c.waits_down.ensures quiet honest alive) held

pub returns-then-not-waits_up-clause-shows : goal.returns-then-not-waits_up-clause-shows
returns-then-not-waits_up-clause-shows c quiet honest alive x f held =
    let rest : IsAtRest c.args.self.now c.args.p.0 = at_rest c.args.self.now c.args.p.0 c.waits_down.result c.fits.ensures c.requires c.if-not-waits_up.ensures c.waits_down.ensures quiet honest alive in
    quiet_shows c.args.self.now c.args.p.0 x f rest.fits rest.process rest.honest rest.runs rest.quiet held
