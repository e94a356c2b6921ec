use Rattle.std.proofs.Common.{◌≡◌, ◌∙◌, sym, ap, nat_eq, drop, arith, false, true}
use Rattle.std.specs.List.{starts_with}
use Rattle.match_pattern.proofs.Places.{rest_whole, place_next, place_here, place_none, place_begun, place_within}
use Rattle.match_pattern.proofs.glob.find.Goals as goal

pub loop-at-init : goal.loop-at-init
loop-at-init c = (omega arith, place_begun c.args.piece.now c.args.text.now)

pub loop-at-preserved : goal.loop-at-preserved
loop-at-preserved c =
    let at = c.loop-at.at in
    let text = c.args.text.now in
    let piece = c.args.piece.now in
    let misses : starts_with nat_eq (drop at text) piece ≡ false =
    ap (λ end. starts_with nat_eq end piece) (sym (rest_whole at text)) ∙ sym c.starts_with.ensures.value ∙ c.loop-at-test.true in (
      omega (arith, c.loop-at.invariant.0, c.if-at-text.false),
      place_next at piece text misses (omega (arith, c.loop-at.invariant.0, c.if-at-text.false)) c.loop-at.invariant.1,
    )

pub returns-clause-place : goal.returns-clause-place
returns-clause-place c =
    let at = c.loop-at.at in
    let text = c.args.text.now in
    let piece = c.args.piece.now in
    let here : starts_with nat_eq (drop at text) piece ≡ true =
    ap (λ end. starts_with nat_eq end piece) (sym (rest_whole at text)) ∙ sym c.starts_with.ensures.value ∙ c.loop-at-test.false in
    sym (place_here at piece text here c.loop-at.invariant.1)

pub returns-then-at-text-clause-place : goal.returns-then-at-text-clause-place
returns-then-at-text-clause-place c =
    let at = c.loop-at.at in
    let text = c.args.text.now in
    let piece = c.args.piece.now in
    let misses : starts_with nat_eq (drop at text) piece ≡ false =
    ap (λ end. starts_with nat_eq end piece) (sym (rest_whole at text)) ∙ sym c.starts_with.ensures.value ∙ c.loop-at-test.true in
    sym (place_none at piece text misses c.if-at-text.true c.loop-at.invariant.1)

pub returns-clause-within : goal.returns-clause-within
returns-clause-within c = place_within c.args.piece.now c.args.text.now c.loop-at.at (sym (returns-clause-place c))
