-- The rule at the start, where the right seat is cut off the left one, and where the left seat takes it in again.
use Rattle.std.proofs.Common.{◌≡◌, ◌≢◌, ℕ, zero, suc, ◌+◌, ◌%◌, ◌<◌, ◌≤◌, Bool, true, false, List, [], ◌∷◌, ◌++◌, map, replicate, length, set, Option, None, refl, sym, ◌∙◌, subst, ⊎_elim, arith, mod-lt}
use Rattle.std.specs.Prelude.{slice_index}
use mathlib.Core.Option.{some, some-injective, some-ne-none}
use mathlib.Core.Option as maybe
use lib.ListN.{get_elem?, length-map, length-replicate}
use Rattle.std.proofs.lemmas.Bool.{false≢true}
use Rattle.atomic_table.specs.Table.{State, Splits, Joins, opening}
use Rattle.atomic_table.proofs.Lists.{at_set}
use Rattle.duplex.specs.declared.lane.View.{View}
use Rattle.duplex.specs.declared.lane.Goods.{Goods}
use Rattle.duplex.specs.Lanes.{Shape, place_of, down, up, LaneOf, SenderKnows, TakerKnows, Duplex, first_send, first_take, both, left_of, right_of, united, spent}
use Rattle.duplex.proofs.Places.{at_end}
use Rattle.duplex.proofs.Lanes.{seat_set}

blank : {A : Type 0} (a : A) (n i : ℕ) → i < n → get_elem? (map some (replicate n a)) i ≡ some (some a)
blank a zero i near = absurd (omega arith)
blank a (suc n) zero near = refl
blank a (suc n) (suc i) near = blank a n i (omega arith)

one_seat : {V : Type 0} (P : ℕ → V → Type 0) (v : V) → P 0 v → (j : ℕ) (u : V) → get_elem? (v ∷ []) j ≡ some u → P j u
one_seat P v mine zero u e = subst (P 0) (some-injective v u e) mine
one_seat P v mine (suc j) u e = absurd (some-ne-none u (sym e))

-- what holds of the seats that were there and of the new one holds of all
seat_added : {V : Type 0} (P : ℕ → V → Type 0) (views : List V) (w : V) → ((j : ℕ) (u : V) → get_elem? views j ≡ some u → P j u) → P (length views) w → (j : ℕ) (u : V) → get_elem? (views ++ w ∷ []) j ≡ some u → P j u
seat_added {V} P views w old new j u e = ⊎_elim (old j u) (λ (t : (j ≡ length views) × (w ≡ u)). subst (λ (y : ℕ × V). P y.0 y.1) (λ i. (sym t.0 i, t.1 i)) new) (at_end views w u j e)

off : {A : Type 0} (b : Bool) → b ≡ false → b ≡ true → A
off b was on = absurd (false≢true (sym was ∙ on))

module _ {T S V : Type 0} (L : Shape T S V) (cap : ℕ) where
  starts : (ws : List ℕ) (hs : List (maybe.Option S)) (v : V) → 0 < cap → slice_index ws L.sent_word ≡ 0 → slice_index ws L.taken_word ≡ 0
      → ((n : ℕ) → get_elem? hs (place_of L cap n) ≡ some (some L.nothing)) → L.send_of v ≡ first_send true → L.take_of v ≡ first_take true
      → (r : LaneOf L cap ws hs (v ∷ [])) × (r.waiting ≡ [])
  starts ws hs v some_slot sent taken empty send take = (
    record {
      taken = [];
      waiting = [];
      sending = false;
      taking = false;
      sender = 0;
      taker = 0;
      sent_is = sent;
      taken_is = taken;
      within = omega arith;
      room = λ on. absurd (false≢true on);
      some_item = λ on. absurd (false≢true on);
      slots = record { full = λ k x e first. absurd (some-ne-none x (sym e)); empty = λ k from to past. empty (0 + k) };
      sends = one_seat (λ j u. SenderKnows 0 [] 0 false j (L.send_of u)) v (subst (SenderKnows 0 [] 0 false 0) (sym send) (λ _. (refl, refl, refl, omega arith)));
      takes = one_seat (λ j u. TakerKnows 0 [] [] false j (L.take_of u)) v (subst (TakerKnows 0 [] [] false 0) (sym take) (λ _. (refl, refl, refl, omega arith, (λ on. absurd (false≢true on)))));
    },
    refl,
  )

  -- only the seats change
  reseat : (ws : List ℕ) (hs : List (maybe.Option S)) (vs vs' : List V) (q : LaneOf L cap ws hs vs) (sender taker : ℕ)
      → ((j : ℕ) (u : V) → get_elem? vs' j ≡ some u → SenderKnows sender (q.taken ++ q.waiting) (length q.taken) q.sending j (L.send_of u))
      → ((j : ℕ) (u : V) → get_elem? vs' j ≡ some u → TakerKnows taker q.taken q.waiting q.taking j (L.take_of u))
      → (r : LaneOf L cap ws hs vs') × (r.taken ≡ q.taken) × (r.waiting ≡ q.waiting)
  reseat ws hs vs vs' q sender taker sends takes = (
    record {
      taken = q.taken;
      waiting = q.waiting;
      sending = q.sending;
      taking = q.taking;
      sender = sender;
      taker = taker;
      sent_is = q.sent_is;
      taken_is = q.taken_is;
      within = q.within;
      room = q.room;
      some_item = q.some_item;
      slots = q.slots;
      sends = sends;
      takes = takes;
    },
    refl,
    refl,
  )

  -- the new seat takes, and the old one sends on
  takes_leave : (ws : List ℕ) (hs : List (maybe.Option S)) (vs : List V) (q : LaneOf L cap ws hs vs) (id : ℕ) (v l r : V) → get_elem? vs id ≡ some v
      → (L.take_of v).has ≡ true → L.send_of l ≡ L.send_of v → (L.take_of l).has ≡ false → (L.send_of r).has ≡ false → L.take_of r ≡ L.take_of v
      → (p : LaneOf L cap ws hs (set vs id l ++ r ∷ [])) × (p.taken ≡ q.taken) × (p.waiting ≡ q.waiting)
  takes_leave ws hs vs q id v l r at has send no_take no_send take = let new : ℕ = length (set vs id l) in let me = q.takes id v at in
      reseat ws hs vs (set vs id l ++ r ∷ []) q q.sender new
      (seat_added (λ j u. SenderKnows q.sender (q.taken ++ q.waiting) (length q.taken) q.sending j (L.send_of u)) (set vs id l) r
      (seat_set (λ j u. SenderKnows q.sender (q.taken ++ q.waiting) (length q.taken) q.sending j (L.send_of u)) vs id l (λ j u _ e. q.sends j u e)
      (subst (SenderKnows q.sender (q.taken ++ q.waiting) (length q.taken) q.sending id) (sym send) (q.sends id v at)))
      (off (L.send_of r).has no_send))
      (seat_added (λ j u. TakerKnows new q.taken q.waiting q.taking j (L.take_of u)) (set vs id l) r
      (seat_set (λ j u. TakerKnows new q.taken q.waiting q.taking j (L.take_of u)) vs id l (λ j u other e on. absurd (other ((q.takes j u e on).0 ∙ sym (me has).0)))
      (off (L.take_of l).has no_take))
      (subst (TakerKnows new q.taken q.waiting q.taking new) (sym take) (λ on. let k = me on in (refl, k.1, k.2, k.3, k.4))))

  -- the new seat sends, and the old one takes on
  sends_leave : (ws : List ℕ) (hs : List (maybe.Option S)) (vs : List V) (q : LaneOf L cap ws hs vs) (id : ℕ) (v l r : V) → get_elem? vs id ≡ some v
      → (L.send_of v).has ≡ true → L.take_of l ≡ L.take_of v → (L.send_of l).has ≡ false → (L.take_of r).has ≡ false → L.send_of r ≡ L.send_of v
      → (p : LaneOf L cap ws hs (set vs id l ++ r ∷ [])) × (p.taken ≡ q.taken) × (p.waiting ≡ q.waiting)
  sends_leave ws hs vs q id v l r at has take no_send no_take send = let new : ℕ = length (set vs id l) in let me = q.sends id v at in
      reseat ws hs vs (set vs id l ++ r ∷ []) q new q.taker
      (seat_added (λ j u. SenderKnows new (q.taken ++ q.waiting) (length q.taken) q.sending j (L.send_of u)) (set vs id l) r
      (seat_set (λ j u. SenderKnows new (q.taken ++ q.waiting) (length q.taken) q.sending j (L.send_of u)) vs id l (λ j u other e on. absurd (other ((q.sends j u e on).0 ∙ sym (me has).0)))
      (off (L.send_of l).has no_send))
      (subst (SenderKnows new (q.taken ++ q.waiting) (length q.taken) q.sending new) (sym send) (λ on. let k = me on in (refl, k.1, k.2, k.3))))
      (seat_added (λ j u. TakerKnows q.taker q.taken q.waiting q.taking j (L.take_of u)) (set vs id l) r
      (seat_set (λ j u. TakerKnows q.taker q.taken q.waiting q.taking j (L.take_of u)) vs id l (λ j u _ e. q.takes j u e)
      (subst (TakerKnows q.taker q.taken q.waiting q.taking id) (sym take) (q.takes id v at)))
      (off (L.take_of r).has no_take))

  there : (vs : List V) (id other : ℕ) (b w : V) → ¬ (other ≡ id) → get_elem? (set vs id b) other ≡ some w → get_elem? vs other ≡ some w
  there vs id other b w apart e = ⊎_elim (λ (t : (other ≡ id) × (b ≡ w)). absurd (apart t.0)) (λ (t : (other ≢ id) × (get_elem? vs other ≡ some w)). t.1) (at_set vs id other b w e)

  -- the seat `id` sends, and takes in the one that takes
  takes_join : (ws : List ℕ) (hs : List (maybe.Option S)) (vs : List V) (q : LaneOf L cap ws hs vs) (id other : ℕ) (v w b n : V) → get_elem? vs id ≡ some v
      → ¬ (other ≡ id) → get_elem? (set vs id b) other ≡ some w → (L.take_of w).has ≡ true → L.send_of b ≡ L.send_of v → L.take_of b ≡ L.take_of w → (L.send_of n).has ≡ false → (L.take_of n).has ≡ false
      → (p : LaneOf L cap ws hs (set (set vs id b) other n)) × (p.taken ≡ q.taken) × (p.waiting ≡ q.waiting)
  takes_join ws hs vs q id other v w b n at apart at' has send take no_send no_take = let theirs = q.takes other w (there vs id other b w apart at') in
      reseat ws hs vs (set (set vs id b) other n) q q.sender id
      (seat_set (λ j u. SenderKnows q.sender (q.taken ++ q.waiting) (length q.taken) q.sending j (L.send_of u)) (set vs id b) other n
      (λ j u _ e. seat_set (λ i x. SenderKnows q.sender (q.taken ++ q.waiting) (length q.taken) q.sending i (L.send_of x)) vs id b (λ i x _ f. q.sends i x f)
      (subst (SenderKnows q.sender (q.taken ++ q.waiting) (length q.taken) q.sending id) (sym send) (q.sends id v at)) j u e)
      (off (L.send_of n).has no_send))
      (seat_set (λ j u. TakerKnows id q.taken q.waiting q.taking j (L.take_of u)) (set vs id b) other n
      (λ j u else e. ⊎_elim
      (λ (t : (j ≡ id) × (b ≡ u)). subst (λ (y : ℕ × V). TakerKnows id q.taken q.waiting q.taking y.0 (L.take_of y.1)) (λ i. (sym t.0 i, t.1 i)) (subst (TakerKnows id q.taken q.waiting q.taking id) (sym take) (λ on. let k = theirs on in (refl, k.1, k.2, k.3, k.4))))
      (λ (t : (j ≢ id) × (get_elem? vs j ≡ some u)). λ on. absurd (else ((q.takes j u t.1 on).0 ∙ sym (theirs has).0)))
      (at_set vs id j b u e))
      (off (L.take_of n).has no_take))

  -- the seat `id` takes, and takes in the one that sends
  sends_join : (ws : List ℕ) (hs : List (maybe.Option S)) (vs : List V) (q : LaneOf L cap ws hs vs) (id other : ℕ) (v w b n : V) → get_elem? vs id ≡ some v
      → ¬ (other ≡ id) → get_elem? (set vs id b) other ≡ some w → (L.send_of w).has ≡ true → L.take_of b ≡ L.take_of v → L.send_of b ≡ L.send_of w → (L.send_of n).has ≡ false → (L.take_of n).has ≡ false
      → (p : LaneOf L cap ws hs (set (set vs id b) other n)) × (p.taken ≡ q.taken) × (p.waiting ≡ q.waiting)
  sends_join ws hs vs q id other v w b n at apart at' has take send no_send no_take = let theirs = q.sends other w (there vs id other b w apart at') in
      reseat ws hs vs (set (set vs id b) other n) q id q.taker
      (seat_set (λ j u. SenderKnows id (q.taken ++ q.waiting) (length q.taken) q.sending j (L.send_of u)) (set vs id b) other n
      (λ j u else e. ⊎_elim
      (λ (t : (j ≡ id) × (b ≡ u)). subst (λ (y : ℕ × V). SenderKnows id (q.taken ++ q.waiting) (length q.taken) q.sending y.0 (L.send_of y.1)) (λ i. (sym t.0 i, t.1 i)) (subst (SenderKnows id (q.taken ++ q.waiting) (length q.taken) q.sending id) (sym send) (λ on. let k = theirs on in (refl, k.1, k.2, k.3))))
      (λ (t : (j ≢ id) × (get_elem? vs j ≡ some u)). λ on. absurd (else ((q.sends j u t.1 on).0 ∙ sym (theirs has).0)))
      (at_set vs id j b u e))
      (off (L.send_of n).has no_send))
      (seat_set (λ j u. TakerKnows q.taker q.taken q.waiting q.taking j (L.take_of u)) (set vs id b) other n
      (λ j u _ e. seat_set (λ i x. TakerKnows q.taker q.taken q.waiting q.taking i (L.take_of x)) vs id b (λ i x _ f. q.takes i x f)
      (subst (TakerKnows q.taker q.taken q.waiting q.taking id) (sym take) (q.takes id v at)) j u e)
      (off (L.take_of n).has no_take))

module _ {D U : Type 0} (stamp : U → ℕ) (cap : ℕ) where
  pub begins : 0 < cap → Duplex stamp cap (opening (0 ∷ 0 ∷ 0 ∷ 0 ∷ []) (replicate (cap + cap) None) (both {D = D} {U = U}))
  begins some_slot =
      let hs : List (maybe.Option (Option (Goods D U))) = map some (replicate (cap + cap) None) in
      let low : (n : ℕ) → n % cap < cap = λ n. mod-lt n some_slot in
      let d = starts (down {D = D} {U = U}) cap (0 ∷ 0 ∷ 0 ∷ 0 ∷ []) hs both some_slot refl refl (λ n. let b = low n in let x : ℕ = n % cap in let c : x < cap = b in let near : 0 + x < cap + cap = omega arith in blank None (cap + cap) (0 + n % cap) near) refl refl in
      let u = starts (up {D = D} {U = U}) cap (0 ∷ 0 ∷ 0 ∷ 0 ∷ []) hs both some_slot refl refl (λ n. let b = low n in let x : ℕ = n % cap in let c : x < cap = b in let near : cap + x < cap + cap = omega arith in blank None (cap + cap) (cap + n % cap) near) refl refl in record {
        some_slot = some_slot;
        four = refl;
        wide = length-map (replicate (cap + cap) None) some ∙ length-replicate (cap + cap) None;
        downward = d.0;
        upward = u.0;
        stamps = λ k x e. absurd (some-ne-none x (sym (subst (λ (l : List U). get_elem? l k ≡ some x) u.1 e)));
      }

  -- the stamps stay where both lanes do
  stamped : (s : State (Option (Goods D U)) (View D U)) (r : Duplex stamp cap s) (taken : List D) (waiting : List U) → taken ≡ r.downward.taken → waiting ≡ r.upward.waiting
      → (k : ℕ) (x : U) → get_elem? waiting k ≡ some x → stamp x ≤ length taken
  stamped s r taken waiting same same' k x e = subst (λ (l : List D). stamp x ≤ length l) (sym same) (r.stamps k x (subst (λ (l : List U). get_elem? l k ≡ some x) same' e))

  -- kind 7
  pub parts : (id : ℕ) (v : View D U) → v.down_take.has ≡ true → v.up_send.has ≡ true → Splits (Duplex stamp cap) id v (left_of v) (right_of v)
  parts id v takes sends s r at =
      let d = takes_leave down cap s.words s.homes s.views r.downward id v (left_of v) (right_of v) at takes refl refl refl refl in
      let u = sends_leave up cap s.words s.homes s.views r.upward id v (left_of v) (right_of v) at sends refl refl refl refl in
      record { some_slot = r.some_slot; four = r.four; wide = r.wide; downward = d.0; upward = u.0; stamps = stamped s r d.0.taken u.0.waiting d.1 u.2 }

  -- kind 8
  pub unites : (id other : ℕ) (v w : View D U) → w.down_take.has ≡ true → w.up_send.has ≡ true → Joins (Duplex stamp cap) id v other w (united v w) spent
  unites id other v w takes sends s r at apart at' =
      let d = takes_join down cap s.words s.homes s.views r.downward id other v w (united v w) spent at apart at' takes refl refl refl refl in
      let u = sends_join up cap s.words s.homes s.views r.upward id other v w (united v w) spent at apart at' sends refl refl refl refl in
      record { some_slot = r.some_slot; four = r.four; wide = r.wide; downward = d.0; upward = u.0; stamps = stamped s r d.0.taken u.0.waiting d.1 u.2 }
