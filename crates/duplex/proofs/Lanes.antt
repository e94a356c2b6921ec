-- What a step of a seat leaves of a lane, where it sends on it, takes from it, or does neither.
use Rattle.std.proofs.Common.{◌≡◌, ◌≢◌, ℕ, ◌+◌, ◌<◌, ◌≤◌, Bool, true, List, ◌++◌, length, set, refl, sym, ◌∙◌, subst, ⊎_elim, arith}
use Rattle.std.specs.Prelude.{slice_index}
use mathlib.Core.Option.{some}
use mathlib.Core.Option as maybe
use lib.ListN.{get_elem?}
use Rattle.atomic_table.proofs.Lists.{at_set}
use Rattle.duplex.specs.declared.lane.SendHalf.{SendHalf}
use Rattle.duplex.specs.declared.lane.TakeHalf.{TakeHalf}
use Rattle.duplex.specs.Lanes.{Shape, Slots, place_of, LaneOf, SenderKnows, TakerKnows}
use Rattle.duplex.proofs.Ring.{elsewhere}

-- what holds of the seat that stepped and of each other one holds of all
pub seat_set : {V : Type 0} (P : ℕ → V → Type 0) (views : List V) (id : ℕ) (w : V) → ((j : ℕ) (u : V) → j ≢ id → get_elem? views j ≡ some u → P j u) → P id w → (j : ℕ) (u : V) → get_elem? (set views id w) j ≡ some u → P j u
seat_set {V} P views id w others mine j u e = ⊎_elim
    (λ (t : (j ≡ id) × (w ≡ u)). subst (λ (y : ℕ × V). P y.0 y.1) (λ i. (sym t.0 i, t.1 i)) mine)
    (λ (t : (j ≢ id) × (get_elem? views j ≡ some u)). others j u t.0 t.1)
    (at_set views id j w u e)

module _ {T S V : Type 0} (L : Shape T S V) (cap : ℕ) where
  pub aside : (ws : List ℕ) (hs : List (maybe.Option S)) (vs : List V) (q : LaneOf L cap ws hs vs) (id : ℕ) (v w : V) (ws' : List ℕ) (hs' : List (maybe.Option S))
      → get_elem? vs id ≡ some v → L.send_of w ≡ L.send_of v → L.take_of w ≡ L.take_of v
      → slice_index ws' L.sent_word ≡ slice_index ws L.sent_word → slice_index ws' L.taken_word ≡ slice_index ws L.taken_word
      → ((n : ℕ) → get_elem? hs' (place_of L cap n) ≡ get_elem? hs (place_of L cap n))
      → (r : LaneOf L cap ws' hs' (set vs id w)) × (r.taken ≡ q.taken) × (r.waiting ≡ q.waiting)
  aside ws hs vs q id v w ws' hs' at same_send same_take sent taken same = (
    record {
      taken = q.taken;
      waiting = q.waiting;
      sending = q.sending;
      taking = q.taking;
      sender = q.sender;
      taker = q.taker;
      sent_is = sent ∙ q.sent_is;
      taken_is = taken ∙ q.taken_is;
      within = q.within;
      room = q.room;
      some_item = q.some_item;
      slots = elsewhere L cap _ _ _ _ hs hs' same q.slots;
      sends = seat_set (λ j u. SenderKnows q.sender (q.taken ++ q.waiting) (length q.taken) q.sending j (L.send_of u)) vs id w (λ j u _ e. q.sends j u e)
          (subst (SenderKnows q.sender (q.taken ++ q.waiting) (length q.taken) q.sending id) (sym same_send) (q.sends id v at));
      takes = seat_set (λ j u. TakerKnows q.taker q.taken q.waiting q.taking j (L.take_of u)) vs id w (λ j u _ e. q.takes j u e)
          (subst (TakerKnows q.taker q.taken q.waiting q.taking id) (sym same_take) (q.takes id v at));
    },
    refl,
    refl,
  )

  -- the taker knows as much where more waits
  later : (taker : ℕ) (taken ws ws' : List T) (taking : Bool) (j : ℕ) (h : TakeHalf T) → length ws ≤ length ws' → ((x : T) → get_elem? ws 0 ≡ some x → get_elem? ws' 0 ≡ some x)
      → TakerKnows taker taken ws taking j h → TakerKnows taker taken ws' taking j h
  later taker taken ws ws' taking j h longer first knows has = let k = knows has in let last = k.3 in
      (k.0, k.1, k.2, omega arith, λ on. let x = k.4 on in (x.0, x.1, first x.0 x.2))

  pub sender_moves : (ws : List ℕ) (hs : List (maybe.Option S)) (vs : List V) (q : LaneOf L cap ws hs vs) (id : ℕ) (v w : V) (ws' : List ℕ) (hs' : List (maybe.Option S)) (waiting : List T) (sending : Bool)
      → get_elem? vs id ≡ some v → (L.send_of v).has ≡ true → L.take_of w ≡ L.take_of v
      → slice_index ws' L.sent_word ≡ length q.taken + length waiting → slice_index ws' L.taken_word ≡ length q.taken
      → length waiting ≤ cap → (sending ≡ true → length waiting < cap)
      → length q.waiting ≤ length waiting → ((x : T) → get_elem? q.waiting 0 ≡ some x → get_elem? waiting 0 ≡ some x)
      → Slots L cap (length q.taken) waiting sending q.taking hs'
      → SenderKnows id (q.taken ++ waiting) (length q.taken) sending id (L.send_of w)
      → (r : LaneOf L cap ws' hs' (set vs id w)) × (r.taken ≡ q.taken) × (r.waiting ≡ waiting)
  sender_moves ws hs vs q id v w ws' hs' waiting sending at has same_take sent taken within room longer first slots mine = let me = (q.sends id v at has).0 in (
    record {
      taken = q.taken;
      waiting = waiting;
      sending = sending;
      taking = q.taking;
      sender = id;
      taker = q.taker;
      sent_is = sent;
      taken_is = taken;
      within = within;
      room = room;
      some_item = λ on. let x = q.some_item on in omega arith;
      slots = slots;
      sends = seat_set (λ j u. SenderKnows id (q.taken ++ waiting) (length q.taken) sending j (L.send_of u)) vs id w (λ j u other e on. absurd (other ((q.sends j u e on).0 ∙ sym me))) mine;
      takes = seat_set (λ j u. TakerKnows q.taker q.taken waiting q.taking j (L.take_of u)) vs id w (λ j u _ e. later q.taker q.taken q.waiting waiting q.taking j (L.take_of u) longer first (q.takes j u e))
          (subst (TakerKnows q.taker q.taken waiting q.taking id) (sym same_take) (later q.taker q.taken q.waiting waiting q.taking id (L.take_of v) longer first (q.takes id v at)));
    },
    refl,
    refl,
  )

  -- the sender knows as much where more is taken
  earlier : (sender : ℕ) (taken waiting taken' waiting' : List T) (sending : Bool) (j : ℕ) (h : SendHalf T) → taken' ++ waiting' ≡ taken ++ waiting → length taken ≤ length taken'
      → SenderKnows sender (taken ++ waiting) (length taken) sending j h → SenderKnows sender (taken' ++ waiting') (length taken') sending j h
  earlier sender taken waiting taken' waiting' sending j h same more knows has = let k = knows has in let last = k.3 in (k.0, k.1 ∙ sym same, k.2, omega arith)

  pub taker_moves : (ws : List ℕ) (hs : List (maybe.Option S)) (vs : List V) (q : LaneOf L cap ws hs vs) (id : ℕ) (v w : V) (ws' : List ℕ) (hs' : List (maybe.Option S)) (taken waiting : List T) (taking : Bool)
      → get_elem? vs id ≡ some v → (L.take_of v).has ≡ true → L.send_of w ≡ L.send_of v
      → slice_index ws' L.sent_word ≡ length taken + length waiting → slice_index ws' L.taken_word ≡ length taken
      → taken ++ waiting ≡ q.taken ++ q.waiting → length q.taken ≤ length taken → length waiting ≤ length q.waiting
      → (taking ≡ true → 0 < length waiting)
      → Slots L cap (length taken) waiting q.sending taking hs'
      → TakerKnows id taken waiting taking id (L.take_of w)
      → (r : LaneOf L cap ws' hs' (set vs id w)) × (r.taken ≡ taken) × (r.waiting ≡ waiting)
  taker_moves ws hs vs q id v w ws' hs' taken waiting taking at has same_send sent took same more fewer some_item slots mine = let me = (q.takes id v at has).0 in let most = q.within in (
    record {
      taken = taken;
      waiting = waiting;
      sending = q.sending;
      taking = taking;
      sender = q.sender;
      taker = id;
      sent_is = sent;
      taken_is = took;
      within = omega arith;
      room = λ on. let x = q.room on in omega arith;
      some_item = some_item;
      slots = slots;
      sends = seat_set (λ j u. SenderKnows q.sender (taken ++ waiting) (length taken) q.sending j (L.send_of u)) vs id w (λ j u _ e. earlier q.sender q.taken q.waiting taken waiting q.sending j (L.send_of u) same more (q.sends j u e))
          (subst (SenderKnows q.sender (taken ++ waiting) (length taken) q.sending id) (sym same_send) (earlier q.sender q.taken q.waiting taken waiting q.sending id (L.send_of v) same more (q.sends id v at)));
      takes = seat_set (λ j u. TakerKnows id taken waiting taking j (L.take_of u)) vs id w (λ j u other e on. absurd (other ((q.takes j u e on).0 ∙ sym me))) mine;
    },
    refl,
    refl,
  )
