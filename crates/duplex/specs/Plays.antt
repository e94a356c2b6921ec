-- What each kind of step tells the seat that makes it.
use Rattle.std.specs.Prelude.{◌≡◌, ℕ, ◌+◌, ◌<◌, ◌≤◌, Bool, true, false, Some}
use Rattle.std.specs.Prelude.{List, [], ◌∷◌, ◌++◌, length}
use Rattle.atomic_table.specs.Table.{Me, Step}
use Rattle.duplex.specs.declared.lane.SendHalf.{SendHalf}
use Rattle.duplex.specs.declared.lane.TakeHalf.{TakeHalf}
use Rattle.duplex.specs.declared.lane.View.{View}
use Rattle.duplex.specs.Lanes.{Shape, place_of}

module _ {T : Type 0} where
  -- The sender loaded the taken word, and has the next slot out or not.
  abbrev pub saw_taken : Bool → ℕ → SendHalf T → SendHalf T
  saw_taken busy n h = record h { busy = busy; loads = h.loads + 1; last = n }

  abbrev pub sent_one : T → SendHalf T → SendHalf T
  sent_one x h = record h { items = h.items ++ x ∷ []; busy = false }

  -- The taker loaded the sent word and has nothing out.
  abbrev pub saw_sent : ℕ → TakeHalf T → TakeHalf T
  saw_sent n h = record h { loads = h.loads + 1; last = n }

  -- The taker loaded the sent word and has the first slot out, with x in it.
  abbrev pub found : T → ℕ → TakeHalf T → TakeHalf T
  found x n h = record h { busy = true; hand = Some x; loads = h.loads + 1; last = n }

  abbrev pub took_one : T → TakeHalf T → TakeHalf T
  took_one x h = record h { items = h.items ++ x ∷ []; busy = false }

module _ {T S V : Type 0} (L : Shape T S V) where
  -- the seat with another half of a view, and these slots out
  abbrev pub with_send : SendHalf T → List (ℕ × S) → Me S V → Me S V
  with_send h slots m = (L.put_send h m.0, slots)

  abbrev pub with_take : TakeHalf T → List (ℕ × S) → Me S V → Me S V
  with_take h slots m = (L.put_take h m.0, slots)

  -- Load of the taken word: what was taken was sent, and at most `cap` wait. Where fewer wait, the next slot
  -- is out.
  abbrev pub SawTaken : Step S → Me S V → ℕ → Me S V → Type 0
  SawTaken st m n m' =
      let h = L.send_of m.0 in let sent = length h.items in (n ≤ sent)
      × ((cap : ℕ) → st.slots ≡ cap + cap → (sent ≤ n + cap)
      × (sent < n + cap → m' ≡ with_send (saw_taken true n h) ((place_of L cap sent, L.nothing) ∷ []) m)
      × (n + cap ≤ sent → m' ≡ with_send (saw_taken false n h) [] m))

  -- Store of the sent word: the item in the slot was sent.
  abbrev pub Sent : Step S → Me S V → ℕ → Me S V → Type 0
  Sent st m n m' = (slot : ℕ) (x : T) → m.1 ≡ (slot, L.wrap x) ∷ []
      → m' ≡ with_send (sent_one x (L.send_of m.0)) [] m

  -- Load of the sent word: where more was sent than taken, the first slot is out, and of its item holds what
  -- the rule tells. A seat that sends too finds all that it sent.
  abbrev pub SawSent : (V → T → Type 0) → Step S → Me S V → ℕ → Me S V → Type 0
  SawSent Fact st m n m' =
      let h = L.take_of m.0 in let taken = length h.items in (taken ≤ n)
      × ((cap : ℕ) → st.slots ≡ cap + cap
      → (taken < n → (x : T) × (m' ≡ with_take (found x n h) ((place_of L cap taken, L.wrap x) ∷ []) m)
      × Fact m.0 x)
      × (n ≤ taken → m' ≡ with_take (saw_sent n h) [] m))
      × (let all = L.send_of m.0 in all.has ≡ true
      → (rest : List T) × (all.items ≡ h.items ++ rest) × (n ≡ length all.items))

  -- Store of the taken word: the item that was in hand was taken.
  abbrev pub Took : Step S → Me S V → ℕ → Me S V → Type 0
  Took st m n m' = (x : T) → (L.take_of m.0).hand ≡ Some x → m' ≡ with_take (took_one x (L.take_of m.0)) [] m

-- The stamp of an item that goes up is at most what this end sent down.
abbrev pub Answered : {D U : Type 0} → (U → ℕ) → View D U → U → Type 0
Answered stamp v x = stamp x ≤ length v.down_send.items
