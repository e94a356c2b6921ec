use Rattle.std.proofs.Common.{◌≡◌, Some}
use Rattle.world.proofs.PutBack.{put_back_taken}
use Rattle.world.proofs.sides.take_at.Goals as goal

pub returns-clause-sides : goal.returns-clause-sides
returns-clause-sides c =
    let is : c.index-contents-p.result ≡ Some c.unwrap-core.result = cc (c.take.ensures.value, c.unwrap-core.ensures) in
    put_back_taken c.args.contents.now c.args.p.0 c.take.new.self c.index-contents-p.result c.unwrap-core.result c.args.bundle c.in_ok-core.field-0 c.requires.place c.index-contents-p.is is c.in_ok-core.ensures
