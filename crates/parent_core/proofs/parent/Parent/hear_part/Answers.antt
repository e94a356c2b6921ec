use Rattle.std.proofs.Common.{◌≡◌, None, sym, subst}
use Rattle.field_rules.specs.RuleBounds.{bounds_of}
use Rattle.wire_msgs.specs.declared.part.UpPart.{UpPart}
use Rattle.wire_msgs.specs.declared.part.UpPart.TheVariants as ups
use Rattle.protocol.specs.Hear.{fault}
use Rattle.parent_core.specs.Heard.{PartDone, allowed_of_part}
use Rattle.parent_core.specs.Parent.{facts_of}
use Rattle.parent_core.proofs.Doing.{create_sound}
use Rattle.parent_core.proofs.parent.Parent.hear_part.Goals as goal

pub hear_create-requires-clause-id : goal.hear_create-requires-clause-id
hear_create-requires-clause-id g c =
    let b = bounds_of c.args.rules.now in
    let f = facts_of c.args.self in
    (create_sound (allowed_of_part b (ups.Create c.in-Create.context c.in-Create.parent)) c.args.p.0 0 f c.in-Create.context c.in-Create.parent
    (subst (λ (a : UpPart). fault (allowed_of_part b a) c.args.p.0 0 f a ≡ None) c.in-Create.is (c.requires.faultless 0))).0

pub hear_create-requires-clause-new : goal.hear_create-requires-clause-new
hear_create-requires-clause-new g c =
    let b = bounds_of c.args.rules.now in
    let f = facts_of c.args.self in
    (create_sound (allowed_of_part b (ups.Create c.in-Create.context c.in-Create.parent)) c.args.p.0 0 f c.in-Create.context c.in-Create.parent
    (subst (λ (a : UpPart). fault (allowed_of_part b a) c.args.p.0 0 f a ≡ None) c.in-Create.is (c.requires.faultless 0))).1.0

pub hear_create-requires-clause-above : goal.hear_create-requires-clause-above
hear_create-requires-clause-above g c =
    let b = bounds_of c.args.rules.now in
    let f = facts_of c.args.self in
    (create_sound (allowed_of_part b (ups.Create c.in-Create.context c.in-Create.parent)) c.args.p.0 0 f c.in-Create.context c.in-Create.parent
    (subst (λ (a : UpPart). fault (allowed_of_part b a) c.args.p.0 0 f a ≡ None) c.in-Create.is (c.requires.faultless 0))).1.1

pub returns-in-DropAck : goal.returns-in-DropAck
returns-in-DropAck g c =
    let b = bounds_of c.args.rules.now in
    subst (λ (a : UpPart). PartDone (allowed_of_part b a) c.args.p.0 a c.args.self c.args.posts.now.items c.args.posts.now.items c.hear_ack.result) (sym c.in-DropAck.is)
    (c.hear_ack.ensures (allowed_of_part b (ups.DropAck c.in-DropAck.context)) c.args.posts.now.items)
