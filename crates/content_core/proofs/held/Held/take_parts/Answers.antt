use Rattle.std.proofs.Common.{sym, subst, length, ◌≤◌, ◌+◌, List, get_or, arith}
use Rattle.wire_msgs.specs.declared.note.PartNote.{PartNote}
use Rattle.wire_msgs.specs.declared.part.DownPart.{DownPart}
use Rattle.content_core.specs.Held.{kept_of, TakesPart}
use Rattle.content_core.specs.Moved.{IsTakenPart}
use Rattle.content_core.proofs.Folding.{IsAt, at_first, at_next, at_last, all_at}
use Rattle.content_core.proofs.held.Held.take_parts.Goals as goal

pub loop-part-init : goal.loop-part-init
loop-part-init c =
    subst (λ (told : List PartNote). IsAt c.args.parts.now 0 c.args.e.0 told (kept_of c.args.self.now) (kept_of c.args.self.now)) (sym c.new-told.ensures)
    (at_first c.args.parts.now c.args.e.0 (kept_of c.args.self.now) c.requires.whole)

pub take_part-requires-clause-part : goal.take_part-requires-clause-part
take_part-requires-clause-part c = subst IsTakenPart (sym c.part-item.is) (all_at IsTakenPart c.args.parts.now c.loop-part.part-index c.part-item.result c.requires.parts c.loop-part-test.true)

pub loop-part-preserved : goal.loop-part-preserved
loop-part-preserved c =
    let takes : TakesPart (get_or c.args.parts.now c.loop-part.part-index c.part-item.result) c.args.e.0 c.in_ok-note.note (kept_of c.loop-part.self) (kept_of c.take_part.new.self) =
    subst (λ (part : DownPart). TakesPart part c.args.e.0 c.in_ok-note.note (kept_of c.loop-part.self) (kept_of c.take_part.new.self)) c.part-item.is c.in_ok-note.ensures in
    subst (λ (told : List PartNote). IsAt c.args.parts.now (c.loop-part.part-index + 1) c.args.e.0 told (kept_of c.args.self.now) (kept_of c.take_part.new.self)) (sym c.in_ok-push.ensures.ok)
    (at_next c.args.parts.now c.loop-part.part-index c.args.e.0 c.loop-part.told (kept_of c.args.self.now) (kept_of c.loop-part.self) (kept_of c.take_part.new.self)
    c.part-item.result c.in_ok-note.note c.loop-part-test.true c.loop-part.invariant takes)

pub returns : goal.returns
returns c =
    let past : length c.args.parts.now ≤ c.loop-part.part-index = omega arith in
    at_last c.args.parts.now c.loop-part.part-index c.args.e.0 c.loop-part.told (kept_of c.args.self.now) _ past c.loop-part.invariant
