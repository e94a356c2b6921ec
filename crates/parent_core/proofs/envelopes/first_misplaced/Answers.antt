use Rattle.parent_core.proofs.Placed.{places_first, place_found, place_passed, places_end}
use Rattle.parent_core.proofs.envelopes.first_misplaced.Goals as goal

pub loop-i-init : goal.loop-i-init
loop-i-init c = places_first c.args.parts.now

pub returns-then-is_out_of_place : goal.returns-then-is_out_of_place
returns-then-is_out_of_place c =
    place_found c.args.parts.now c.loop-i.i c.loop-i.last c.index-parts-i.result c.index-parts-i.is c.loop-i-test.true _ c.loop-i.invariant
    c.is_out_of_place.result c.is_out_of_place.ensures c.if-is_out_of_place.true

pub loop-i-preserved : goal.loop-i-preserved
loop-i-preserved c =
    place_passed c.args.parts.now c.loop-i.i c.loop-i.last c.index-parts-i.result c.index-parts-i.is c.loop-i-test.true _ c.loop-i.invariant
    c.is_out_of_place.result c.is_out_of_place.ensures c.rank_of-last.result c.if-is_out_of_place.false c.rank_of-last.ensures

pub returns : goal.returns
returns c = places_end c.args.parts.now c.loop-i.i _ c.loop-i.last _ c.loop-i-test.false c.loop-i.invariant
