-- The rule of a duplex: what its words, slots and views say of its two lanes.
use Rattle.std.specs.Prelude.{◌≡◌, ℕ, ◌+◌, ◌%◌, ◌<◌, ◌≤◌, Bool, true, false, Option, Some, None}
use Rattle.std.specs.Prelude.{List, [], ◌++◌, length, slice_index}
use mathlib.Core.Option.{some}
use mathlib.Core.Option as maybe
use lib.ListN.{get_elem?}
use Rattle.atomic_table.specs.Table.{State}
use Rattle.duplex.specs.declared.lane.SendHalf.{SendHalf}
use Rattle.duplex.specs.declared.lane.TakeHalf.{TakeHalf}
use Rattle.duplex.specs.declared.lane.View.{View}
use Rattle.duplex.specs.declared.lane.Goods.{Goods}
use Rattle.duplex.specs.declared.lane.Goods.TheVariants.{Down, Up}

-- How a lane lies in the table: what a slot with an item and an empty one hold, its first slot under a cap,
-- its two words, and its two halves of a view.
pub record Shape (T S V : Type 0) : Type 0 where
  pub wrap : T → S
  pub nothing : S
  pub base : ℕ → ℕ
  pub sent_word : ℕ
  pub taken_word : ℕ
  pub send_of : V → SendHalf T
  pub take_of : V → TakeHalf T
  pub put_send : SendHalf T → V → V
  pub put_take : TakeHalf T → V → V

module _ {D U : Type 0} where
  abbrev pub in_down : D → Option (Goods D U)
  in_down x = Some (Down x)

  abbrev pub in_up : U → Option (Goods D U)
  in_up x = Some (Up x)

  abbrev pub down : Shape D (Option (Goods D U)) (View D U)
  down = record {
    wrap = in_down;
    nothing = None;
    base = λ _. 0;
    sent_word = 0;
    taken_word = 1;
    send_of = λ v. v.down_send;
    take_of = λ v. v.down_take;
    put_send = λ h v. record v { down_send = h };
    put_take = λ h v. record v { down_take = h };
  }

  abbrev pub up : Shape U (Option (Goods D U)) (View D U)
  up = record {
    wrap = in_up;
    nothing = None;
    base = λ cap. cap;
    sent_word = 2;
    taken_word = 3;
    send_of = λ v. v.up_send;
    take_of = λ v. v.up_take;
    put_send = λ h v. record v { up_send = h };
    put_take = λ h v. record v { up_take = h };
  }

-- The slot of item n.
abbrev pub place_of : {T S V : Type 0} → Shape T S V → ℕ → ℕ → ℕ
place_of L cap n = L.base cap + n % cap

-- The slots of a lane after `taken` items were taken: those of the items that wait hold them, the others are
-- empty. The slot that the sender or the taker has out is excepted.
pub record Slots {T S V : Type 0} (L : Shape T S V) (cap taken : ℕ) (waiting : List T)
    (sending taking : Bool) (homes : List (maybe.Option S)) : Type 0 where
  pub full : (k : ℕ) (x : T) → get_elem? waiting k ≡ some x → (taking ≡ true → 0 < k)
      → get_elem? homes (place_of L cap (taken + k)) ≡ some (some (L.wrap x))
  pub empty : (k : ℕ) → length waiting ≤ k → k < cap → (sending ≡ true → length waiting < k)
      → get_elem? homes (place_of L cap (taken + k)) ≡ some (some L.nothing)

-- One seat sends: what it says that it sent was sent, and what it found was taken.
abbrev pub SenderKnows : {T : Type 0} → ℕ → List T → ℕ → Bool → ℕ → SendHalf T → Type 0
SenderKnows sender sent taken sending seat h =
    h.has ≡ true → (seat ≡ sender) × (h.items ≡ sent) × (h.busy ≡ sending) × (h.last ≤ taken)

-- One seat takes: what it says that it took was taken, what it found was sent, and what it has in hand waits
-- first.
abbrev pub TakerKnows : {T : Type 0} → ℕ → List T → List T → Bool → ℕ → TakeHalf T → Type 0
TakerKnows {T} taker taken waiting taking seat h =
    h.has ≡ true → (seat ≡ taker) × (h.items ≡ taken) × (h.busy ≡ taking)
    × (h.last ≤ length taken + length waiting)
    × (taking ≡ true → (x : T) × (h.hand ≡ Some x) × (get_elem? waiting 0 ≡ some x))

-- What was sent on a lane is what was taken and behind it what waits. Its words count what was sent and what
-- was taken, and no more waits than there are slots.
pub record LaneOf {T S V : Type 0} (L : Shape T S V) (cap : ℕ) (words : List ℕ)
    (homes : List (maybe.Option S)) (views : List V) : Type 0 where
  pub taken : List T
  pub waiting : List T
  pub sending : Bool
  pub taking : Bool
  pub sender : ℕ
  pub taker : ℕ
  pub sent_is : slice_index words L.sent_word ≡ length taken + length waiting
  pub taken_is : slice_index words L.taken_word ≡ length taken
  pub within : length waiting ≤ cap
  pub room : sending ≡ true → length waiting < cap
  pub some_item : taking ≡ true → 0 < length waiting
  pub slots : Slots L cap (length taken) waiting sending taking homes
  pub sends : (seat : ℕ) (v : V) → get_elem? views seat ≡ some v
      → SenderKnows sender (taken ++ waiting) (length taken) sending seat (L.send_of v)
  pub takes : (seat : ℕ) (v : V) → get_elem? views seat ≡ some v
      → TakerKnows taker taken waiting taking seat (L.take_of v)

-- The rule. The stamp of an item that waits upwards is at most what was taken downwards.
pub record Duplex {D U : Type 0} (stamp : U → ℕ) (cap : ℕ)
    (s : State (Option (Goods D U)) (View D U)) : Type 0 where
  pub some_slot : 0 < cap
  pub four : length s.words ≡ 4
  pub wide : length s.homes ≡ cap + cap
  pub downward : LaneOf down cap s.words s.homes s.views
  pub upward : LaneOf up cap s.words s.homes s.views
  pub stamps : (k : ℕ) (x : U) → get_elem? upward.waiting k ≡ some x → stamp x ≤ length downward.taken

-- Half a view, at the start: of a seat that sends or takes, and of one that doesn't.
abbrev pub first_send : {T : Type 0} → Bool → SendHalf T
first_send has = record { has = has; items = []; busy = false; loads = 0; last = 0 }

abbrev pub first_take : {T : Type 0} → Bool → TakeHalf T
first_take has = record { has = has; items = []; busy = false; hand = None; loads = 0; last = 0 }

module _ {D U : Type 0} where
  -- the view before the ends are parted
  abbrev pub both : View D U
  both = record {
    down_send = first_send true;
    down_take = first_take true;
    up_send = first_send true;
    up_take = first_take true;
  }

  -- the left end keeps what it sends downwards and takes upwards
  abbrev pub left_of : View D U → View D U
  left_of v = record v { down_take = first_take false; up_send = first_send false }

  abbrev pub right_of : View D U → View D U
  right_of v = record v { down_send = first_send false; up_take = first_take false }

  -- the left view has both ends' halves again
  abbrev pub united : View D U → View D U → View D U
  united l r = record l { down_take = r.down_take; up_send = r.up_send }

  -- the right view, of which the rule says nothing any more
  abbrev pub spent : View D U
  spent = record {
    down_send = first_send false;
    down_take = first_take false;
    up_send = first_send false;
    up_take = first_take false;
  }
