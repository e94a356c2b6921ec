-- What a contract sees of the two ends: what each sent and took, oldest first, and of each of the peer's two
-- words how often this end loaded it and the last value that it found.
use Rattle.std.specs.Prelude.{◌≡◌, ℕ, List, []}
use Rattle.duplex.specs.declared.ends.Left.{Left}
use Rattle.duplex.specs.declared.ends.Right.{Right}

module _ {D U : Type 0} where
  abbrev pub left_sent : Left D U → List D
  left_sent e = e.seat.me.0.down_send.items

  abbrev pub left_taken : Left D U → List U
  left_taken e = e.seat.me.0.up_take.items

  -- of the peer's taken word
  abbrev pub left_taken_loads : Left D U → ℕ
  left_taken_loads e = e.seat.me.0.down_send.loads

  abbrev pub left_taken_seen : Left D U → ℕ
  left_taken_seen e = e.seat.me.0.down_send.last

  -- of the peer's sent word
  abbrev pub left_sent_loads : Left D U → ℕ
  left_sent_loads e = e.seat.me.0.up_take.loads

  abbrev pub left_sent_seen : Left D U → ℕ
  left_sent_seen e = e.seat.me.0.up_take.last

  -- how many items may wait in each lane
  abbrev pub left_cap : Left D U → ℕ
  left_cap e = e.cap

  abbrev pub right_sent : Right D U → List U
  right_sent e = e.seat.me.0.up_send.items

  abbrev pub right_taken : Right D U → List D
  right_taken e = e.seat.me.0.down_take.items

  abbrev pub right_taken_loads : Right D U → ℕ
  right_taken_loads e = e.seat.me.0.up_send.loads

  abbrev pub right_taken_seen : Right D U → ℕ
  right_taken_seen e = e.seat.me.0.up_send.last

  abbrev pub right_sent_loads : Right D U → ℕ
  right_sent_loads e = e.seat.me.0.down_take.loads

  abbrev pub right_sent_seen : Right D U → ℕ
  right_sent_seen e = e.seat.me.0.down_take.last

  abbrev pub right_cap : Right D U → ℕ
  right_cap e = e.cap

  -- the two ends of one duplex
  abbrev pub IsPair : Left D U → Right D U → Type 0
  IsPair l r = r.seat.table_id ≡ l.seat.table_id

  -- the same end of the same duplex, later
  abbrev pub IsSameLeft : Left D U → Left D U → Type 0
  IsSameLeft e f = (f.seat.table_id ≡ e.seat.table_id) × (f.cap ≡ e.cap)

  abbrev pub IsSameRight : Right D U → Right D U → Type 0
  IsSameRight e f = (f.seat.table_id ≡ e.seat.table_id) × (f.cap ≡ e.cap)

  -- nothing was sent or taken yet
  abbrev pub IsNewLeft : ℕ → Left D U → Type 0
  IsNewLeft cap e = (left_sent e ≡ []) × (left_taken e ≡ []) × (left_taken_loads e ≡ 0)
      × (left_sent_loads e ≡ 0) × (left_cap e ≡ cap)

  abbrev pub IsNewRight : ℕ → Right D U → Type 0
  IsNewRight cap e = (right_sent e ≡ []) × (right_taken e ≡ []) × (right_taken_loads e ≡ 0)
      × (right_sent_loads e ≡ 0) × (right_cap e ≡ cap)

  -- what the end took and knows of the lane from which it takes
  abbrev pub LeftTookNothing : Left D U → Left D U → Type 0
  LeftTookNothing e f = (left_taken f ≡ left_taken e) × (left_sent_loads f ≡ left_sent_loads e)
      × (left_sent_seen f ≡ left_sent_seen e)

  -- what the end sent and knows of the lane on which it sends
  abbrev pub LeftSentNothing : Left D U → Left D U → Type 0
  LeftSentNothing e f = (left_sent f ≡ left_sent e) × (left_taken_loads f ≡ left_taken_loads e)
      × (left_taken_seen f ≡ left_taken_seen e)

  abbrev pub RightTookNothing : Right D U → Right D U → Type 0
  RightTookNothing e f = (right_taken f ≡ right_taken e) × (right_sent_loads f ≡ right_sent_loads e)
      × (right_sent_seen f ≡ right_sent_seen e)

  abbrev pub RightSentNothing : Right D U → Right D U → Type 0
  RightSentNothing e f = (right_sent f ≡ right_sent e) × (right_taken_loads f ≡ right_taken_loads e)
      × (right_taken_seen f ≡ right_taken_seen e)
