-- What the words and slots of the table show of what waits.
use Rattle.std.specs.Prelude.{◌≡◌, ℕ, zero, suc, ◌+◌, ◌-◌, false, Option, List, [], ◌∷◌, map, slice_index}
use mathlib.Core.Option.{some}
use mathlib.Core.Option as maybe
use lib.ListN.{get_elem?}
use Rattle.atomic_table.specs.Table.{State}
use Rattle.duplex.specs.declared.lane.View.{View}
use Rattle.duplex.specs.declared.lane.Goods.{Goods}
use Rattle.duplex.specs.Lanes.{Shape, place_of, down, up, Duplex}

module _ {T S V : Type 0} (L : Shape T S V) (cap : ℕ) where
  -- the slots of so many items from the t-th on
  abbrev pub slots_from : List (maybe.Option S) → ℕ → ℕ → List (maybe.Option (maybe.Option S))
  slots_from homes t zero = []
  slots_from homes t (suc n) = get_elem? homes (place_of L cap t) ∷ slots_from homes (t + 1) n

  -- the slots from the taken word to the sent word
  abbrev pub waiting_slots : State S V → List (maybe.Option (maybe.Option S))
  waiting_slots s =
      let taken = slice_index s.words L.taken_word in
      slots_from s.homes taken (slice_index s.words L.sent_word - taken)

  -- the item is at home in its slot
  abbrev pub at_home : T → maybe.Option (maybe.Option S)
  at_home x = some (some (L.wrap x))

-- They are what waits, where the taker has no slot out.
abbrev pub ShowsDown : (D U : Type 0) → (U → ℕ) → Type 0
ShowsDown D U stamp = (cap : ℕ) (s : State (Option (Goods D U)) (View D U)) (r : Duplex stamp cap s) →
    r.downward.taking ≡ false → waiting_slots down cap s ≡ map (at_home down cap) r.downward.waiting

abbrev pub ShowsUp : (D U : Type 0) → (U → ℕ) → Type 0
ShowsUp D U stamp = (cap : ℕ) (s : State (Option (Goods D U)) (View D U)) (r : Duplex stamp cap s) →
    r.upward.taking ≡ false → waiting_slots up cap s ≡ map (at_home up cap) r.upward.waiting
