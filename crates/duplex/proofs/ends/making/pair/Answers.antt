use Rattle.std.proofs.Common.{ap, arith}
use Rattle.duplex.proofs.Making.{begins, parts}
use Rattle.duplex.proofs.ends.making.pair.Goals as goal

pub vacant-requires : goal.vacant-requires
vacant-requires g c = begins g.U.Stamped.stamp_of c.args.cap c.requires.0

pub split_seat-right-requires : goal.split_seat-right-requires
split_seat-right-requires g c = let t = c.in_ok-board.ensures in
    (t.2, omega (arith, t.0), parts g.U.Stamped.stamp_of _ _ c.in_ok-board.seat.me.0 (ap (λ m. m.0.down_take.has) t.4) (ap (λ m. m.0.up_send.has) t.4))
