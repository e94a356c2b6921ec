use Rattle.std.proofs.Common.{◌∙◌, sym, arith}
use Rattle.match_pattern.proofs.Leftmost.{last, stars_within}
use Rattle.match_pattern.proofs.glob.globs_behind_star.Goals as goal

pub returns : goal.returns
returns c =
    c.ends_with.ensures.value
    ∙ sym (last c.loop-at.pattern.now c.loop-at.text.now (omega (arith, c.loop-at.invariant.0, c.loop-at-test.false, stars_within c.loop-at.pattern.now)))
    ∙ c.loop-at.invariant.1
