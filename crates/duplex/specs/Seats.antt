-- What a seat may do, and what a whole call of one did.
use Rattle.std.specs.Prelude.{◌≡◌, ℕ, ◌+◌, ◌<◌, ◌≤◌, true, false, [], length}
use Rattle.atomic_table.specs.Table.{Me}
use Rattle.atomic_table.specs.Seated.{TableId}
use Rattle.duplex.specs.Lanes.{Shape}
use Rattle.duplex.specs.Plays.{saw_taken, sent_one, saw_sent, found, took_one, with_send, with_take}

-- A table of two lanes with `cap` slots each.
abbrev pub FitsCap : TableId → ℕ → Type 0
FitsCap z cap = (z.words ≡ 4) × (z.slots ≡ cap + cap) × (0 < cap) × (cap ≤ 64)

module _ {T S V : Type 0} (L : Shape T S V) where
  -- The seat sends on the lane, has sent so many items, and holds no slot.
  abbrev pub MaySend : Me S V → ℕ → Type 0
  MaySend m sent =
      let h = L.send_of m.0 in (h.has ≡ true) × (h.busy ≡ false) × (length h.items ≡ sent) × (m.1 ≡ [])

  -- The seat takes from the lane, has taken so many items, and holds no slot.
  abbrev pub MayTake : Me S V → ℕ → Type 0
  MayTake m taken =
      let h = L.take_of m.0 in (h.has ≡ true) × (h.busy ≡ false) × (length h.items ≡ taken) × (m.1 ≡ [])

  -- It loaded the taken word once, found room and sent x.
  abbrev pub HasSent : ℕ → T → Me S V → Me S V → Type 0
  HasSent cap x m m' =
      let h = L.send_of m.0 in let n = (L.send_of m'.0).last in (length h.items < n + cap)
      × (m' ≡ with_send L (sent_one x (saw_taken true n h)) [] m)

  -- It loaded the taken word once, found n and so no room.
  abbrev pub FoundFull : ℕ → ℕ → Me S V → Me S V → Type 0
  FoundFull cap n m m' =
      let h = L.send_of m.0 in (length h.items ≡ n + cap) × (m' ≡ with_send L (saw_taken false n h) [] m)

  -- It loaded the sent word once, found more than it took, and took x.
  abbrev pub HasTaken : T → Me S V → Me S V → Type 0
  HasTaken x m m' =
      let h = L.take_of m.0 in let n = (L.take_of m'.0).last in (length h.items < n)
      × (m' ≡ with_take L (took_one x (found x n h)) [] m)

  -- It loaded the sent word once, and found the number of items that it took.
  abbrev pub FoundNone : Me S V → Me S V → Type 0
  FoundNone m m' = let h = L.take_of m.0 in m' ≡ with_take L (saw_sent (length h.items) h) [] m
