-- What the one seat of both ends knows was sent and taken in each lane.
use Rattle.std.specs.Prelude.{List}
use Rattle.duplex.specs.declared.ends.Joined.{Joined}

module _ {D U : Type 0} where
  abbrev pub down_sent : Joined D U → List D
  down_sent j = j.seat.me.0.down_send.items

  abbrev pub down_taken : Joined D U → List D
  down_taken j = j.seat.me.0.down_take.items

  abbrev pub up_sent : Joined D U → List U
  up_sent j = j.seat.me.0.up_send.items

  abbrev pub up_taken : Joined D U → List U
  up_taken j = j.seat.me.0.up_take.items
