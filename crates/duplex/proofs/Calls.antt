-- What the steps of one call come to: a load that found room and a store are a send, a load that found an item and a store a take.
use Rattle.std.proofs.Common.{◌≡◌, ℕ, true, List, [], ◌∷◌, get_or, Option, Some, None, sym, ap, ◌∙◌}
use Rattle.atomic_table.specs.Table.{Me, rest}
use Rattle.duplex.specs.declared.lane.View.{View}
use Rattle.duplex.specs.declared.lane.Goods.{Goods}
use Rattle.duplex.specs.declared.lane.Goods.TheVariants.{Down, Up}
use Rattle.duplex.specs.Lanes.{down, up}
use Rattle.duplex.proofs.Keeps.{down_one, up_one}
use Rattle.duplex.specs.Plays.{saw_taken, sent_one, found, took_one}

abbrev pub Sat : Type 0 → Type 0 → Type 0
Sat D U = Me (Option (Goods D U)) (View D U)

module _ {D U : Type 0} where
  -- the slot that the seat has out, behind an exchange
  pub exchanged : (v : View D U) (slot : ℕ) (new : Option (Goods D U)) (p : ℕ × Option (Goods D U)) (a b : Sat D U) → a ≡ (v, p ∷ []) → b ≡ (a.0, (slot, new) ∷ rest a.1) → b ≡ (v, (slot, new) ∷ [])
  exchanged v slot new p a b is to = to ∙ ap (λ (m : Sat D U). let put : Sat D U = (m.0, (slot, new) ∷ rest m.1) in put) is

  pub sent_down : (m b c : Sat D U) (slot n : ℕ) (x : D) → b ≡ (down.put_send (saw_taken true n m.0.down_send) m.0, (slot, Some (Down x)) ∷ [])
      → ((i : ℕ) (y : D) → b.1 ≡ (i, Some (Down y)) ∷ [] → c ≡ (down.put_send (sent_one y b.0.down_send) b.0, []))
      → c ≡ (down.put_send (sent_one x (saw_taken true n m.0.down_send)) m.0, [])
  sent_down m b c slot n x is to = to slot x (ap (λ (k : Sat D U). k.1) is) ∙ ap (λ (k : Sat D U). let put : Sat D U = (down.put_send (sent_one x k.0.down_send) k.0, []) in put) is

  pub sent_up : (m b c : Sat D U) (slot n : ℕ) (x : U) → b ≡ (up.put_send (saw_taken true n m.0.up_send) m.0, (slot, Some (Up x)) ∷ [])
      → ((i : ℕ) (y : U) → b.1 ≡ (i, Some (Up y)) ∷ [] → c ≡ (up.put_send (sent_one y b.0.up_send) b.0, []))
      → c ≡ (up.put_send (sent_one x (saw_taken true n m.0.up_send)) m.0, [])
  sent_up m b c slot n x is to = to slot x (ap (λ (k : Sat D U). k.1) is) ∙ ap (λ (k : Sat D U). let put : Sat D U = (up.put_send (sent_one x k.0.up_send) k.0, []) in put) is

  pub took_down : (m b c : Sat D U) (slot n : ℕ) (x : D) → b ≡ (down.put_take (found x n m.0.down_take) m.0, (slot, None) ∷ [])
      → ((y : D) → b.0.down_take.hand ≡ Some y → c ≡ (down.put_take (took_one y b.0.down_take) b.0, []))
      → c ≡ (down.put_take (took_one x (found x n m.0.down_take)) m.0, [])
  took_down m b c slot n x is to = to x (ap (λ (k : Sat D U). k.0.down_take.hand) is) ∙ ap (λ (k : Sat D U). let put : Sat D U = (down.put_take (took_one x k.0.down_take) k.0, []) in put) is

  pub took_up : (m b c : Sat D U) (slot n : ℕ) (x : U) → b ≡ (up.put_take (found x n m.0.up_take) m.0, (slot, None) ∷ [])
      → ((y : U) → b.0.up_take.hand ≡ Some y → c ≡ (up.put_take (took_one y b.0.up_take) b.0, []))
      → c ≡ (up.put_take (took_one x (found x n m.0.up_take)) m.0, [])
  took_up m b c slot n x is to = to x (ap (λ (k : Sat D U). k.0.up_take.hand) is) ∙ ap (λ (k : Sat D U). let put : Sat D U = (up.put_take (took_one x k.0.up_take) k.0, []) in put) is

-- the slot that the seat took last, by another name of its place
pub out_at : {S : Type 0} (i j : ℕ) (x : S) (held : List (ℕ × S)) → i ≡ j → held ≡ (j, x) ∷ [] → held ≡ (i, x) ∷ rest held
out_at {S} i j x held here is = let tail : rest held ≡ [] = ap rest is in is ∙ ap (λ (k : ℕ). (k, x) ∷ []) (sym here) ∙ ap (λ (l : List (ℕ × S)). (i, x) ∷ l) (sym tail)

-- what came out of it
pub came_out : {S : Type 0} (i j : ℕ) (x y : S) (held : List (ℕ × S)) → held ≡ (j, x) ∷ [] → held ≡ (i, y) ∷ rest held → y ≡ x
came_out {S} i j x y held is was = let first : List (ℕ × S) → S = λ l. (get_or l 0 (i, y)).1 in sym (ap first was) ∙ ap first is

module _ {D U : Type 0} where
  pub down_is : (x y : D) (i j : ℕ) (held : List (ℕ × Option (Goods D U))) (out : Option (Goods D U)) → held ≡ (j, Some (Down x)) ∷ [] → held ≡ (i, out) ∷ rest held → out ≡ Some (Down y) → x ≡ y
  down_is x y i j held out is was to = down_one x y (sym (came_out i j (Some (Down x)) out held is was) ∙ to)

  pub up_is : (x y : U) (i j : ℕ) (held : List (ℕ × Option (Goods D U))) (out : Option (Goods D U)) → held ≡ (j, Some (Up x)) ∷ [] → held ≡ (i, out) ∷ rest held → out ≡ Some (Up y) → x ≡ y
  up_is x y i j held out is was to = up_one x y (sym (came_out i j (Some (Up x)) out held is was) ∙ to)
