use Rattle.std.proofs.Common.{rules}
use Rattle.duplex.proofs.Making.{unites}
use Rattle.duplex.proofs.ends.closing.join.Goals as goal

pub join_seat-requires : goal.join_seat-requires
join_seat-requires g c = (search rules, search rules, search rules, search rules, unites g.U.Stamped.stamp_of _ _ _ c.args.left.seat.me.0 c.args.right.seat.me.0 (search rules) (search rules))
