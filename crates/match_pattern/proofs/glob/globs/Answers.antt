use Rattle.std.proofs.Common.{◌∙◌, sym, arith}
use Rattle.match_pattern.proofs.Leftmost.{itself_alone, front_and_rest, front_misses, stars_within}
use Rattle.match_pattern.proofs.glob.globs.Goals as goal

pub returns-then-star-pattern : goal.returns-then-star-pattern
returns-then-star-pattern c = c.eq.ensures ∙ itself_alone c.args.pattern.now c.args.text.now c.star_in-star.result c.star_in-star.ensures c.if-star-pattern.true

pub returns-then-starts_with : goal.returns-then-starts_with
returns-then-starts_with c =
    c.globs_behind_star.ensures
    ∙ front_and_rest c.args.pattern.now c.args.text.now c.star_in-star.result c.star_in-star.ensures
    (omega (arith, c.star_in-star.ensures, c.if-star-pattern.false, stars_within c.args.pattern.now))
    (sym c.starts_with.ensures.value ∙ c.if-starts_with.true)

pub returns-else-starts_with : goal.returns-else-starts_with
returns-else-starts_with c =
    c.if-starts_with.false
    ∙ front_misses c.args.pattern.now c.args.text.now c.star_in-star.result c.star_in-star.ensures (sym c.starts_with.ensures.value ∙ c.if-starts_with.false)
