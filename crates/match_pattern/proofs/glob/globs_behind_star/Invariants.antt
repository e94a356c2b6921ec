use Rattle.std.proofs.Common.{◌≡◌, ◌∷◌, length}
use Rattle.match_pattern.specs.Globs.{globs, star}
use Rattle.match_pattern.proofs.Leftmost.{stars}
use Rattle.match_pattern.proofs.glob.globs_behind_star.Given as goal

abbrev pub invariant-loop-at : goal.invariant-loop-at
invariant-loop-at l = (l.at ≡ stars l.pattern) × (globs (star ∷ l.pattern) l.text ≡ globs (star ∷ l.fn.pattern) l.fn.text)

abbrev pub decreases-loop-at : goal.decreases-loop-at
decreases-loop-at l = length l.pattern
