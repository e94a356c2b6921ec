-- Each kind of step keeps the rule of both lanes.
use Rattle.std.proofs.Common.{◌≡◌, ◌≢◌, ℕ, ◌+◌, ◌%◌, ◌<◌, ◌≤◌, true, false, List, [], ◌∷◌, ◌++◌, length, set, Option, Some, None, refl, sym, ap, ◌∙◌, subst, ⊎_elim, arith, length-append, length-set, mod-lt}
use mathlib.Core.Option.{some}
use lib.ListN.{get_elem?}
use Rattle.atomic_table.specs.Table.{State, Me, Step, Allows, homes_after}
use Rattle.duplex.specs.declared.lane.View.{View}
use Rattle.duplex.specs.declared.lane.Goods.{Goods}
use Rattle.duplex.specs.declared.lane.Goods.TheVariants.{Down, Up}
use Rattle.duplex.specs.Lanes.{place_of, down, up, in_down, in_up, Duplex}
use Rattle.duplex.specs.Plays.{SawTaken, Sent, SawSent, Took, Answered}
use Rattle.duplex.proofs.Places.{others}
use Rattle.duplex.proofs.Lanes.{aside}
use Rattle.duplex.proofs.Moves.{Lawful, Moved, sees_taken, sends_one, sees_sent, takes_one}

module _ {D U : Type 0} where
  down_part : D → Option (Goods D U) → D
  down_part d (Some (Down x)) = x
  down_part d (Some (Up x)) = d
  down_part d None = d

  up_part : U → Option (Goods D U) → U
  up_part d (Some (Up x)) = x
  up_part d (Some (Down x)) = d
  up_part d None = d

  pub down_one : (x y : D) → in_down {D = D} {U = U} x ≡ in_down y → x ≡ y
  unfolding down_part
  down_one x y e = ap (down_part x) e

  pub up_one : (x y : U) → in_up {D = D} {U = U} x ≡ in_up y → x ≡ y
  unfolding up_part
  up_one x y e = ap (up_part x) e

  down_law : Lawful (down {D = D} {U = U})
  down_law = record {
    one = down_one;
    words = ((λ e. omega arith), omega arith, omega arith);
    base = λ cap. omega arith;
    send_send = λ h v. refl;
    take_send = λ h v. refl;
    take_take = λ h v. refl;
    send_take = λ h v. refl;
  }

  up_law : Lawful (up {D = D} {U = U})
  up_law = record {
    one = up_one;
    words = ((λ e. omega arith), omega arith, omega arith);
    base = λ cap. omega arith;
    send_send = λ h v. refl;
    take_send = λ h v. refl;
    take_take = λ h v. refl;
    send_take = λ h v. refl;
  }

-- the lanes have no slot in common
parted : (cap n k : ℕ) → 0 < cap → cap + n % cap ≢ 0 + k % cap
parted cap n k some_slot e = let x : ℕ = n % cap in let y : ℕ = k % cap in let less : y < cap = mod-lt k some_slot in let is : cap + x ≡ 0 + y = e in omega arith

module _ {D U : Type 0} (stamp : U → ℕ) (cap : ℕ) where
  -- a step on the lane down
  after_down : (s : State (Option (Goods D U)) (View D U)) (r : Duplex stamp cap s) (id : ℕ) (v : View D U) (held : List (ℕ × Option (Goods D U))) (i n : ℕ) (New : D → Type 0) (then : Me (Option (Goods D U)) (View D U) → Type 0)
      → get_elem? s.views id ≡ some v → i < 2 → (m : Moved down cap s r.downward id v held i n New then)
      → Duplex stamp cap record { words = set s.words i n; homes = homes_after s.homes held m.act; views = set s.views id m.view }
  after_down s r id v held i n New then at low m =
      let o = aside up cap s.words s.homes s.views r.upward id v m.view (set s.words i n) (homes_after s.homes held m.act) at
      (⊎_elim (λ t. ap (λ (w : View D U). w.up_send) t.1) (λ t. ap (λ (w : View D U). w.up_send) t.1) m.half)
      (⊎_elim (λ t. ap (λ (w : View D U). w.up_take) t.1) (λ t. ap (λ (w : View D U). w.up_take) t.1) m.half)
      (others s.words i n 2 (λ e. omega arith)) (others s.words i n 3 (λ e. omega arith))
      (λ k. m.others (place_of (up {D = D} {U = U}) cap k) (parted cap k m.slot r.some_slot)) in record {
        some_slot = r.some_slot;
        four = length-set s.words i n ∙ r.four;
        wide = m.wide ∙ r.wide;
        downward = m.lane;
        upward = o.0;
        stamps = λ k x e. let was = r.stamps k x (subst (λ (l : List U). get_elem? l k ≡ some x) o.2 e) in let more = m.grows in omega arith;
      }

  -- a step on the lane up
  after_up : (s : State (Option (Goods D U)) (View D U)) (r : Duplex stamp cap s) (id : ℕ) (v : View D U) (held : List (ℕ × Option (Goods D U))) (i n : ℕ) (New : U → Type 0) (then : Me (Option (Goods D U)) (View D U) → Type 0)
      → get_elem? s.views id ≡ some v → 2 ≤ i → ((x : U) → New x → stamp x ≤ length r.downward.taken) → (m : Moved up cap s r.upward id v held i n New then)
      → Duplex stamp cap record { words = set s.words i n; homes = homes_after s.homes held m.act; views = set s.views id m.view }
  after_up s r id v held i n New then at high fresh m =
      let o = aside down cap s.words s.homes s.views r.downward id v m.view (set s.words i n) (homes_after s.homes held m.act) at
      (⊎_elim (λ t. ap (λ (w : View D U). w.down_send) t.1) (λ t. ap (λ (w : View D U). w.down_send) t.1) m.half)
      (⊎_elim (λ t. ap (λ (w : View D U). w.down_take) t.1) (λ t. ap (λ (w : View D U). w.down_take) t.1) m.half)
      (others s.words i n 0 (λ e. omega arith)) (others s.words i n 1 (λ e. omega arith))
      (λ k. m.others (place_of (down {D = D} {U = U}) cap k) (λ e. parted cap m.slot k r.some_slot (sym e))) in record {
        some_slot = r.some_slot;
        four = length-set s.words i n ∙ r.four;
        wide = m.wide ∙ r.wide;
        downward = o.0;
        upward = m.lane;
        stamps = λ k x e. let was : stamp x ≤ length r.downward.taken = ⊎_elim (λ old. r.stamps old.0 x old.1) (fresh x) (m.waits k x e) in let same = ap length o.1 in omega arith;
      }

  pub sees_down_taken : (slots id : ℕ) (me : Me (Option (Goods D U)) (View D U)) (st : Step (Option (Goods D U))) → slots ≡ cap + cap → st.slots ≡ cap + cap → me.1 ≡ []
      → me.0.down_send.has ≡ true → me.0.down_send.busy ≡ false → Allows (Duplex stamp cap) slots id me 1 (λ n. n) (SawTaken down st me)
  sees_down_taken slots id me st fits st_fits is has idle = subst (λ held. Allows (Duplex stamp cap) slots id (me.0, held) 1 (λ n. n) (SawTaken down st (me.0, held))) (sym is) (λ s r wide at in_range.
      let m = sees_taken down down_law cap s r.downward id me.0 st st_fits at has idle in (m.view, m.act, m.valid, after_down s r id me.0 [] 1 _ _ _ at (omega arith) m, m.told))

  pub sees_up_taken : (slots id : ℕ) (me : Me (Option (Goods D U)) (View D U)) (st : Step (Option (Goods D U))) → slots ≡ cap + cap → st.slots ≡ cap + cap → me.1 ≡ []
      → me.0.up_send.has ≡ true → me.0.up_send.busy ≡ false → Allows (Duplex stamp cap) slots id me 3 (λ n. n) (SawTaken up st me)
  sees_up_taken slots id me st fits st_fits is has idle = subst (λ held. Allows (Duplex stamp cap) slots id (me.0, held) 3 (λ n. n) (SawTaken up st (me.0, held))) (sym is) (λ s r wide at in_range.
      let m = sees_taken up up_law cap s r.upward id me.0 st st_fits at has idle in (m.view, m.act, m.valid, after_up s r id me.0 [] 3 _ _ _ at (omega arith) (λ x new. absurd new) m, m.told))

  pub sends_down : (slots id : ℕ) (me : Me (Option (Goods D U)) (View D U)) (st : Step (Option (Goods D U))) (slot n : ℕ) (x : D) → slots ≡ cap + cap → me.1 ≡ (slot, Some (Down x)) ∷ []
      → me.0.down_send.has ≡ true → me.0.down_send.busy ≡ true → slot ≡ 0 + length me.0.down_send.items % cap → n ≡ length me.0.down_send.items + 1
      → Allows (Duplex stamp cap) slots id me 0 (λ _. n) (λ _. Sent down st me n)
  sends_down slots id me st slot n x fits is has busy here next = subst (λ held. Allows (Duplex stamp cap) slots id (me.0, held) 0 (λ _. n) (λ _. Sent down st (me.0, held) n)) (sym is) (λ s r wide at in_range.
      let m = sends_one down down_law cap s r.downward id me.0 x slot n st r.some_slot r.wide r.four at has busy here next in (m.view, m.act, m.valid, after_down s r id me.0 _ 0 n _ _ at (omega arith) m, m.told))

  pub sends_up : (slots id : ℕ) (me : Me (Option (Goods D U)) (View D U)) (st : Step (Option (Goods D U))) (slot n : ℕ) (x : U) → slots ≡ cap + cap → me.1 ≡ (slot, Some (Up x)) ∷ []
      → me.0.up_send.has ≡ true → me.0.up_send.busy ≡ true → slot ≡ cap + length me.0.up_send.items % cap → n ≡ length me.0.up_send.items + 1
      → me.0.down_take.has ≡ true → stamp x ≤ length me.0.down_take.items
      → Allows (Duplex stamp cap) slots id me 2 (λ _. n) (λ _. Sent up st me n)
  sends_up slots id me st slot n x fits is has busy here next takes low = subst (λ held. Allows (Duplex stamp cap) slots id (me.0, held) 2 (λ _. n) (λ _. Sent up st (me.0, held) n)) (sym is) (λ s r wide at in_range.
      let m = sends_one up up_law cap s r.upward id me.0 x slot n st r.some_slot r.wide r.four at has busy here next in
      let took : me.0.down_take.items ≡ r.downward.taken = (r.downward.takes id me.0 at takes).1 in
      (m.view, m.act, m.valid, after_up s r id me.0 _ 2 n _ _ at (omega arith) (λ y same. subst (λ (z : U). stamp z ≤ length r.downward.taken) same (subst (λ (l : List D). stamp x ≤ length l) took low)) m, m.told))

  pub sees_down_sent : (slots id : ℕ) (me : Me (Option (Goods D U)) (View D U)) (st : Step (Option (Goods D U))) → slots ≡ cap + cap → st.slots ≡ cap + cap → me.1 ≡ []
      → me.0.down_take.has ≡ true → me.0.down_take.busy ≡ false → Allows (Duplex stamp cap) slots id me 0 (λ n. n) (SawSent down (λ _ _. Unit {0}) st me)
  sees_down_sent slots id me st fits st_fits is has idle = subst (λ held. Allows (Duplex stamp cap) slots id (me.0, held) 0 (λ n. n) (SawSent down (λ _ _. Unit {0}) st (me.0, held))) (sym is) (λ s r wide at in_range.
      let m = sees_sent down down_law cap s r.downward id me.0 (λ _ _. Unit {0}) st r.some_slot st_fits at has idle (λ x e. tt) in (m.view, m.act, m.valid, after_down s r id me.0 [] 0 _ _ _ at (omega arith) m, m.told))

  pub sees_up_sent : (slots id : ℕ) (me : Me (Option (Goods D U)) (View D U)) (st : Step (Option (Goods D U))) → slots ≡ cap + cap → st.slots ≡ cap + cap → me.1 ≡ []
      → me.0.up_take.has ≡ true → me.0.up_take.busy ≡ false → me.0.down_send.has ≡ true → Allows (Duplex stamp cap) slots id me 2 (λ n. n) (SawSent up (Answered stamp) st me)
  sees_up_sent slots id me st fits st_fits is has idle sends = subst (λ held. Allows (Duplex stamp cap) slots id (me.0, held) 2 (λ n. n) (SawSent up (Answered stamp) st (me.0, held))) (sym is) (λ s r wide at in_range.
      let sent : me.0.down_send.items ≡ r.downward.taken ++ r.downward.waiting = (r.downward.sends id me.0 at sends).1 in
      let count = ap length sent ∙ length-append r.downward.taken r.downward.waiting in
      let m = sees_sent up up_law cap s r.upward id me.0 (Answered stamp) st r.some_slot st_fits at has idle (λ x e. let low = r.stamps 0 x e in omega arith) in (m.view, m.act, m.valid, after_up s r id me.0 [] 2 _ _ _ at (omega arith) (λ x new. absurd new) m, m.told))

  pub takes_down : (slots id : ℕ) (me : Me (Option (Goods D U)) (View D U)) (st : Step (Option (Goods D U))) (slot n : ℕ) → slots ≡ cap + cap → me.1 ≡ (slot, None) ∷ []
      → me.0.down_take.has ≡ true → me.0.down_take.busy ≡ true → slot ≡ 0 + length me.0.down_take.items % cap → n ≡ length me.0.down_take.items + 1
      → Allows (Duplex stamp cap) slots id me 1 (λ _. n) (λ _. Took down st me n)
  takes_down slots id me st slot n fits is has busy here next = subst (λ held. Allows (Duplex stamp cap) slots id (me.0, held) 1 (λ _. n) (λ _. Took down st (me.0, held) n)) (sym is) (λ s r wide at in_range.
      let m = takes_one down down_law cap s r.downward id me.0 slot n st r.some_slot r.wide r.four at has busy here next in (m.view, m.act, m.valid, after_down s r id me.0 _ 1 n _ _ at (omega arith) m, m.told))

  pub takes_up : (slots id : ℕ) (me : Me (Option (Goods D U)) (View D U)) (st : Step (Option (Goods D U))) (slot n : ℕ) → slots ≡ cap + cap → me.1 ≡ (slot, None) ∷ []
      → me.0.up_take.has ≡ true → me.0.up_take.busy ≡ true → slot ≡ cap + length me.0.up_take.items % cap → n ≡ length me.0.up_take.items + 1
      → Allows (Duplex stamp cap) slots id me 3 (λ _. n) (λ _. Took up st me n)
  takes_up slots id me st slot n fits is has busy here next = subst (λ held. Allows (Duplex stamp cap) slots id (me.0, held) 3 (λ _. n) (λ _. Took up st (me.0, held) n)) (sym is) (λ s r wide at in_range.
      let m = takes_one up up_law cap s r.upward id me.0 slot n st r.some_slot r.wide r.four at has busy here next in (m.view, m.act, m.valid, after_up s r id me.0 _ 3 n _ _ at (omega arith) (λ x new. absurd new) m, m.told))
