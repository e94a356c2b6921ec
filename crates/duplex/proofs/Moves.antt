-- The four kinds of step on one lane: what each may do, what it leaves, and what it tells.
use Rattle.std.proofs.Common.{◌≡◌, ◌≢◌, ℕ, suc, ◌+◌, ◌%◌, ◌<◌, ◌≤◌, true, false, List, [], ◌∷◌, ◌++◌, length, set, get_or, Some, unwrap_or, refl, sym, ap, ◌∙◌, subst, ⊎_elim, ◌⊎◌, inl, inr, arith, length-append, length-set, append_assoc, mod-lt}
use Rattle.std.specs.Prelude.{slice_index}
use mathlib.Core.Option.{some, none, some-injective}
use mathlib.Core.Option as maybe
use lib.ListN.{get_elem?}
use Rattle.std.proofs.lemmas.Bool.{cases_lt, false≢true}
use Rattle.atomic_table.specs.Table.{State, Me, Act, keeps, takes, gives, Valid, homes_after, carried_after, Step}
use Rattle.atomic_table.proofs.Lists.{set_else, at_longer}
use Rattle.duplex.specs.declared.lane.SendHalf.{SendHalf}
use Rattle.duplex.specs.declared.lane.TakeHalf.{TakeHalf}
use Rattle.duplex.specs.Lanes.{Shape, Slots, place_of, LaneOf, SenderKnows, TakerKnows}
use Rattle.duplex.specs.Plays.{saw_taken, sent_one, saw_sent, found, took_one, SawTaken, Sent, SawSent, Took}
use Rattle.duplex.proofs.Places.{at_end, first_of, stored, others, loaded}
use Rattle.duplex.proofs.Ring.{claimed, filled, grabbed, freed}
use Rattle.duplex.proofs.Lanes.{sender_moves, taker_moves}

-- what both shapes have
pub record Lawful {T S V : Type 0} (L : Shape T S V) : Type 0 where
  pub one : (x y : T) → L.wrap x ≡ L.wrap y → x ≡ y
  pub words : (L.sent_word ≢ L.taken_word) × (L.sent_word < 4) × (L.taken_word < 4)
  pub base : (cap : ℕ) → L.base cap ≤ cap
  pub send_send : (h : SendHalf T) (v : V) → L.send_of (L.put_send h v) ≡ h
  pub take_send : (h : SendHalf T) (v : V) → L.take_of (L.put_send h v) ≡ L.take_of v
  pub take_take : (h : TakeHalf T) (v : V) → L.take_of (L.put_take h v) ≡ h
  pub send_take : (h : TakeHalf T) (v : V) → L.send_of (L.put_take h v) ≡ L.send_of v

-- What a step of the seat `id` with the view v and the slots `held` does: the word i becomes n, and the lane goes on.
-- What waits then waited before, or is new.
pub record Moved {T S V : Type 0} (L : Shape T S V) (cap : ℕ) (s : State S V) (q : LaneOf L cap s.words s.homes s.views) (id : ℕ) (v : V) (held : List (ℕ × S)) (i n : ℕ) (New : T → Type 0) (then : Me S V → Type 0) : Type 0 where
  pub view : V
  pub act : Act S
  pub valid : Valid s.homes held act
  pub lane : LaneOf L cap (set s.words i n) (homes_after s.homes held act) (set s.views id view)
  pub waits : (k : ℕ) (x : T) → get_elem? lane.waiting k ≡ some x → ((j : ℕ) × (get_elem? q.waiting j ≡ some x)) ⊎ New x
  pub grows : length q.taken ≤ length lane.taken
  pub wide : length (homes_after s.homes held act) ≡ length s.homes
  pub slot : ℕ
  pub others : (j : ℕ) → j ≢ place_of L cap slot → get_elem? (homes_after s.homes held act) j ≡ get_elem? s.homes j
  pub half : ((h : SendHalf T) × (view ≡ L.put_send h v)) ⊎ ((h : TakeHalf T) × (view ≡ L.put_take h v))
  pub told : then (view, carried_after held act)

same_cap : (n a b : ℕ) → n ≡ a + a → n ≡ b + b → a ≡ b
same_cap n a b e f = omega arith

some_is : {A : Type 0} (a b : A) → Some a ≡ Some b → a ≡ b
some_is a b e = ap (λ o. unwrap_or o a) e

alone : {A : Type 0} (a b : A) → a ∷ [] ≡ b ∷ [] → a ≡ b
alone a b e = ap (λ l. get_or l 0 a) e

module _ {T S V : Type 0} (L : Shape T S V) (law : Lawful L) (cap : ℕ) (s : State S V) (q : LaneOf L cap s.words s.homes s.views) where
  inside : (n : ℕ) → 0 < cap → length s.homes ≡ cap + cap → place_of L cap n < length s.homes
  inside n some_slot wide = let b = law.base cap in let m = mod-lt n some_slot in let x : ℕ = n % cap in let less : x < cap = m in let base : ℕ = L.base cap in let low : base ≤ cap = b in let within : base + x < length s.homes = omega arith in within

  -- nothing new waits
  waited : (waiting : List T) → waiting ≡ q.waiting → (k : ℕ) (x : T) → get_elem? waiting k ≡ some x → ((j : ℕ) × (get_elem? q.waiting j ≡ some x)) ⊎ ⊥
  waited waiting same k x e = inl (k, subst (λ (l : List T). get_elem? l k ≡ some x) same e)

  -- what the sender knows
  sender : (id : ℕ) (v : V) → get_elem? s.views id ≡ some v → (L.send_of v).has ≡ true
      → (length (L.send_of v).items ≡ length q.taken + length q.waiting) × ((L.send_of v).items ≡ q.taken ++ q.waiting) × ((L.send_of v).busy ≡ q.sending)
  sender id v at has = let k = q.sends id v at has in (ap length k.1 ∙ length-append q.taken q.waiting, k.1, k.2)

  -- what the taker knows
  taker : (id : ℕ) (v : V) → get_elem? s.views id ≡ some v → (L.take_of v).has ≡ true
      → (length (L.take_of v).items ≡ length q.taken) × ((L.take_of v).items ≡ q.taken) × ((L.take_of v).busy ≡ q.taking)
  taker id v at has = let k = q.takes id v at has in (ap length k.1, k.1, k.2)

  -- Load of the taken word, by the sender: the next slot goes out.
  finds_room : (id : ℕ) (v : V) (st : Step S) → st.slots ≡ cap + cap → get_elem? s.views id ≡ some v
      → (L.send_of v).has ≡ true → (L.send_of v).busy ≡ false → length (L.send_of v).items < slice_index s.words L.taken_word + cap
      → Moved L cap s q id v [] L.taken_word (slice_index s.words L.taken_word) (λ _. ⊥) (SawTaken L st (v, []) (slice_index s.words L.taken_word))
  finds_room id v st slots at has idle room =
      let h = L.send_of v in let n : ℕ = slice_index s.words L.taken_word in let m : ℕ = length h.items in let k = sender id v at has in
      let counted : m ≡ length q.taken + length q.waiting = k.0 in let took : n ≡ length q.taken = q.taken_is in
      let off : q.sending ≡ false = sym k.2 ∙ idle in let less : length q.waiting < cap = omega arith in
      let free = q.slots.empty (length q.waiting) (omega arith) less (λ on. absurd (false≢true (sym off ∙ on))) in
      let valid : get_elem? s.homes (place_of L cap m) ≡ some (some L.nothing) = subst (λ (x : ℕ). get_elem? s.homes (place_of L cap x) ≡ some (some L.nothing)) (sym counted) free in
      let view : V = L.put_send (saw_taken true n h) v in
      let slots' : Slots L cap (length q.taken) q.waiting true q.taking (set s.homes (place_of L cap m) none) =
      subst (λ (x : ℕ). Slots L cap (length q.taken) q.waiting true q.taking (set s.homes (place_of L cap x) none)) (sym counted) (claimed L cap (length q.taken) q.waiting q.taking s.homes less (subst (λ b. Slots L cap (length q.taken) q.waiting b q.taking s.homes) off q.slots)) in
      let r = sender_moves L cap s.words s.homes s.views q id v view (set s.words L.taken_word n) (set s.homes (place_of L cap m) none) q.waiting true at has (law.take_send (saw_taken true n h) v)
      (loaded s.words L.taken_word L.sent_word ∙ q.sent_is) (loaded s.words L.taken_word L.taken_word ∙ q.taken_is) q.within (λ _. less) (omega arith) (λ x e. e) slots'
      (subst (SenderKnows id (q.taken ++ q.waiting) (length q.taken) true id) (sym (law.send_send (saw_taken true n h) v)) (λ _. (refl, k.1, refl, omega arith))) in record {
        view = view;
        act = takes (place_of L cap m) L.nothing;
        valid = valid;
        lane = r.0;
        waits = waited r.0.waiting r.2;
        grows = let e = ap length r.1 in omega arith;
        wide = length-set s.homes (place_of L cap m) none;
        slot = m;
        others = λ j other. set_else s.homes (place_of L cap m) j none other;
        half = inl (saw_taken true n h, refl);
        told = let got : ℕ → Me S V = λ c. (view, (place_of L c m, L.nothing) ∷ []) in let not : Me S V = (L.put_send (saw_taken false n h) v, []) in (
          omega arith,
          λ cap' slots'. subst (λ (c : ℕ). (m ≤ n + c) × (m < n + c → got cap ≡ got c) × (n + c ≤ m → got cap ≡ not)) (same_cap st.slots cap cap' slots slots')
              (omega arith, (λ _. refl), (λ full. absurd (omega arith))),
        );
      }

  finds_full : (id : ℕ) (v : V) (st : Step S) → st.slots ≡ cap + cap → get_elem? s.views id ≡ some v
      → (L.send_of v).has ≡ true → (L.send_of v).busy ≡ false → slice_index s.words L.taken_word + cap ≤ length (L.send_of v).items
      → Moved L cap s q id v [] L.taken_word (slice_index s.words L.taken_word) (λ _. ⊥) (SawTaken L st (v, []) (slice_index s.words L.taken_word))
  finds_full id v st slots at has idle full =
      let h = L.send_of v in let n : ℕ = slice_index s.words L.taken_word in let m : ℕ = length h.items in let k = sender id v at has in
      let counted : m ≡ length q.taken + length q.waiting = k.0 in let took : n ≡ length q.taken = q.taken_is in let most = q.within in
      let off : q.sending ≡ false = sym k.2 ∙ idle in
      let view : V = L.put_send (saw_taken false n h) v in
      let slots' : Slots L cap (length q.taken) q.waiting false q.taking s.homes = subst (λ b. Slots L cap (length q.taken) q.waiting b q.taking s.homes) off q.slots in
      let r = sender_moves L cap s.words s.homes s.views q id v view (set s.words L.taken_word n) s.homes q.waiting false at has (law.take_send (saw_taken false n h) v)
      (loaded s.words L.taken_word L.sent_word ∙ q.sent_is) (loaded s.words L.taken_word L.taken_word ∙ q.taken_is) q.within (λ on. absurd (false≢true on)) (omega arith) (λ x e. e) slots'
      (subst (SenderKnows id (q.taken ++ q.waiting) (length q.taken) false id) (sym (law.send_send (saw_taken false n h) v)) (λ _. (refl, k.1, refl, omega arith))) in record {
        view = view;
        act = keeps;
        valid = tt;
        lane = r.0;
        waits = waited r.0.waiting r.2;
        grows = let e = ap length r.1 in omega arith;
        wide = refl;
        slot = 0;
        others = λ j other. refl;
        half = inl (saw_taken false n h, refl);
        told = let got : ℕ → Me S V = λ c. (L.put_send (saw_taken true n h) v, (place_of L c m, L.nothing) ∷ []) in let not : Me S V = (view, []) in (
          omega arith,
          λ cap' slots'. subst (λ (c : ℕ). (m ≤ n + c) × (m < n + c → not ≡ got c) × (n + c ≤ m → not ≡ not)) (same_cap st.slots cap cap' slots slots')
              (omega arith, (λ room. absurd (omega arith)), (λ _. refl)),
        );
      }

  -- kind 1
  pub sees_taken : (id : ℕ) (v : V) (st : Step S) → st.slots ≡ cap + cap → get_elem? s.views id ≡ some v
      → (L.send_of v).has ≡ true → (L.send_of v).busy ≡ false
      → Moved L cap s q id v [] L.taken_word (slice_index s.words L.taken_word) (λ _. ⊥) (SawTaken L st (v, []) (slice_index s.words L.taken_word))
  sees_taken id v st slots at has idle = ⊎_elim (finds_room id v st slots at has idle) (finds_full id v st slots at has idle) (cases_lt (length (L.send_of v).items) (slice_index s.words L.taken_word + cap))

  -- kinds 2 and 3: the item that was put in the slot is sent
  pub sends_one : (id : ℕ) (v : V) (x : T) (slot n : ℕ) (st : Step S) → 0 < cap → length s.homes ≡ cap + cap → length s.words ≡ 4 → get_elem? s.views id ≡ some v
      → (L.send_of v).has ≡ true → (L.send_of v).busy ≡ true → slot ≡ place_of L cap (length (L.send_of v).items) → n ≡ length (L.send_of v).items + 1
      → Moved L cap s q id v ((slot, L.wrap x) ∷ []) L.sent_word n (λ y. x ≡ y) (Sent L st (v, (slot, L.wrap x) ∷ []) n)
  sends_one id v x slot n st some_slot wide four at has busy here next =
      let h = L.send_of v in let m : ℕ = length h.items in let k = sender id v at has in
      let counted : m ≡ length q.taken + length q.waiting = k.0 in let on : q.sending ≡ true = sym k.2 ∙ busy in let less = q.room on in
      let view : V = L.put_send (sent_one x h) v in let longer = length-append q.waiting (x ∷ []) in let some_item = q.some_item in
      let place : slot ≡ place_of L cap (length q.taken + length q.waiting) = here ∙ ap (place_of L cap) counted in
      let homes : List (maybe.Option S) = set s.homes slot (some (L.wrap x)) in
      let slots' : Slots L cap (length q.taken) (q.waiting ++ x ∷ []) false q.taking homes =
      subst (λ (i : ℕ). Slots L cap (length q.taken) (q.waiting ++ x ∷ []) false q.taking (set s.homes i (some (L.wrap x)))) (sym place) (filled L cap (length q.taken) q.waiting x q.taking s.homes less (inside _ some_slot wide) some_item (subst (λ b. Slots L cap (length q.taken) q.waiting b q.taking s.homes) on q.slots)) in
      let r = sender_moves L cap s.words s.homes s.views q id v view (set s.words L.sent_word n) homes (q.waiting ++ x ∷ []) false at has (law.take_send (sent_one x h) v)
      (stored s.words L.sent_word n (subst (λ (l : ℕ). L.sent_word < l) (sym four) law.words.1) ∙ (let sum : n ≡ length q.taken + length (q.waiting ++ x ∷ []) = omega arith in sum)) (others s.words L.sent_word n L.taken_word law.words.0 ∙ q.taken_is)
      (omega arith) (λ off. absurd (false≢true off)) (omega arith) (λ y e. at_longer q.waiting (x ∷ []) 0 y e) slots'
      (subst (SenderKnows id (q.taken ++ (q.waiting ++ x ∷ [])) (length q.taken) false id) (sym (law.send_send (sent_one x h) v)) (λ _. (refl, ap (λ l. l ++ x ∷ []) k.1 ∙ append_assoc q.taken q.waiting (x ∷ []), refl, (q.sends id v at has).3))) in record {
        view = view;
        act = gives;
        valid = tt;
        lane = r.0;
        waits = λ j y e. ⊎_elim (λ old. inl (j, old)) (λ new. inr new.1) (at_end q.waiting x y j (subst (λ (l : List T). get_elem? l j ≡ some y) r.2 e));
        grows = let e = ap length r.1 in omega arith;
        wide = length-set s.homes slot (some (L.wrap x));
        slot = m;
        others = λ j other. set_else s.homes slot j (some (L.wrap x)) (λ same. other (same ∙ here));
        half = inl (sent_one x h, refl);
        told = λ slot' y same. let a : ℕ × S = (slot, L.wrap x) in let b : ℕ × S = (slot', L.wrap y) in let is : x ≡ y = law.one x y (ap (λ (p : ℕ × S). p.1) (alone a b same)) in let put : T → Me S V = λ z. (L.put_send (sent_one z h) v, []) in ap put is;
      }

  -- Load of the sent word, by the taker: the first slot goes out.
  finds_item : (id : ℕ) (v : V) (Fact : V → T → Type 0) (st : Step S) → 0 < cap → st.slots ≡ cap + cap → get_elem? s.views id ≡ some v
      → (L.take_of v).has ≡ true → (L.take_of v).busy ≡ false → ((x : T) → get_elem? q.waiting 0 ≡ some x → Fact v x)
      → length (L.take_of v).items < slice_index s.words L.sent_word
      → Moved L cap s q id v [] L.sent_word (slice_index s.words L.sent_word) (λ _. ⊥) (SawSent L Fact st (v, []) (slice_index s.words L.sent_word))
  finds_item id v Fact st some_slot slots at has idle fact more =
      let h = L.take_of v in let n : ℕ = slice_index s.words L.sent_word in let m : ℕ = length h.items in let k = taker id v at has in
      let counted : m ≡ length q.taken = k.0 in let sent : n ≡ length q.taken + length q.waiting = q.sent_is in
      let off : q.taking ≡ false = sym k.2 ∙ idle in let left : 0 < length q.waiting = omega arith in
      let first = first_of q.waiting left in let x : T = first.0 in
      let there : get_elem? q.waiting 0 ≡ some x = ap (λ l. get_elem? l 0) first.2 in
      let full = q.slots.full 0 x there (λ on. absurd (false≢true (sym off ∙ on))) in let same : length q.taken + 0 ≡ m = omega arith in
      let valid : get_elem? s.homes (place_of L cap m) ≡ some (some (L.wrap x)) = subst (λ (i : ℕ). get_elem? s.homes (place_of L cap i) ≡ some (some (L.wrap x))) same full in
      let view : V = L.put_take (found x n h) v in
      let homes : List (maybe.Option S) = set s.homes (place_of L cap m) none in
      let slots' : Slots L cap (length q.taken) q.waiting q.sending true homes =
      subst (λ (i : ℕ). Slots L cap (length q.taken) q.waiting q.sending true (set s.homes (place_of L cap i) none)) (sym counted) (grabbed L cap (length q.taken) q.waiting q.sending s.homes left q.within (subst (λ b. Slots L cap (length q.taken) q.waiting q.sending b s.homes) off q.slots)) in
      let r = taker_moves L cap s.words s.homes s.views q id v view (set s.words L.sent_word n) homes q.taken q.waiting true at has (law.send_take (found x n h) v)
      (loaded s.words L.sent_word L.sent_word ∙ q.sent_is) (loaded s.words L.sent_word L.taken_word ∙ q.taken_is) refl (omega arith) (omega arith) (λ _. left) slots'
      (subst (TakerKnows id q.taken q.waiting true id) (sym (law.take_take (found x n h) v)) (λ _. (refl, k.1, refl, omega arith, (λ _. (x, refl, there))))) in record {
        view = view;
        act = takes (place_of L cap m) (L.wrap x);
        valid = valid;
        lane = r.0;
        waits = waited r.0.waiting r.2;
        grows = let e = ap length r.1 in omega arith;
        wide = length-set s.homes (place_of L cap m) none;
        slot = m;
        others = λ j other. set_else s.homes (place_of L cap m) j none other;
        half = inr (found x n h, refl);
        told = let got : ℕ → T → Me S V = λ c y. (L.put_take (found y n h) v, (place_of L c m, L.wrap y) ∷ []) in let not : Me S V = (L.put_take (saw_sent n h) v, []) in (
          omega arith,
          (λ cap' slots'. subst (λ (c : ℕ). (m < n → (y : T) × (got cap x ≡ got c y) × Fact v y) × (n ≤ m → got cap x ≡ not)) (same_cap st.slots cap cap' slots slots')
              ((λ _. (x, refl, fact x there)), (λ none. absurd (omega arith)))),
          λ also. let u = sender id v at also in (q.waiting, u.1 ∙ ap (λ l. l ++ q.waiting) (sym k.1), sent ∙ sym u.0),
        );
      }

  finds_none : (id : ℕ) (v : V) (Fact : V → T → Type 0) (st : Step S) → st.slots ≡ cap + cap → get_elem? s.views id ≡ some v
      → (L.take_of v).has ≡ true → (L.take_of v).busy ≡ false
      → slice_index s.words L.sent_word ≤ length (L.take_of v).items
      → Moved L cap s q id v [] L.sent_word (slice_index s.words L.sent_word) (λ _. ⊥) (SawSent L Fact st (v, []) (slice_index s.words L.sent_word))
  finds_none id v Fact st slots at has idle none_left =
      let h = L.take_of v in let n : ℕ = slice_index s.words L.sent_word in let m : ℕ = length h.items in let k = taker id v at has in
      let counted : m ≡ length q.taken = k.0 in let sent : n ≡ length q.taken + length q.waiting = q.sent_is in
      let off : q.taking ≡ false = sym k.2 ∙ idle in
      let view : V = L.put_take (saw_sent n h) v in
      let slots' : Slots L cap (length q.taken) q.waiting q.sending false s.homes = subst (λ b. Slots L cap (length q.taken) q.waiting q.sending b s.homes) off q.slots in
      let r = taker_moves L cap s.words s.homes s.views q id v view (set s.words L.sent_word n) s.homes q.taken q.waiting false at has (law.send_take (saw_sent n h) v)
      (loaded s.words L.sent_word L.sent_word ∙ q.sent_is) (loaded s.words L.sent_word L.taken_word ∙ q.taken_is) refl (omega arith) (omega arith) (λ on. absurd (false≢true on)) slots'
      (subst (TakerKnows id q.taken q.waiting false id) (sym (law.take_take (saw_sent n h) v)) (λ _. (refl, k.1, idle, omega arith, (λ on. absurd (false≢true on))))) in record {
        view = view;
        act = keeps;
        valid = tt;
        lane = r.0;
        waits = waited r.0.waiting r.2;
        grows = let e = ap length r.1 in omega arith;
        wide = refl;
        slot = 0;
        others = λ j other. refl;
        half = inr (saw_sent n h, refl);
        told = let got : ℕ → T → Me S V = λ c y. (L.put_take (found y n h) v, (place_of L c m, L.wrap y) ∷ []) in let not : Me S V = (view, []) in (
          omega arith,
          (λ cap' slots'. subst (λ (c : ℕ). (m < n → (y : T) × (not ≡ got c y) × Fact v y) × (n ≤ m → not ≡ not)) (same_cap st.slots cap cap' slots slots')
              ((λ more. absurd (omega arith)), (λ _. refl))),
          λ also. let u = sender id v at also in (q.waiting, u.1 ∙ ap (λ l. l ++ q.waiting) (sym k.1), sent ∙ sym u.0),
        );
      }

  -- kind 4
  pub sees_sent : (id : ℕ) (v : V) (Fact : V → T → Type 0) (st : Step S) → 0 < cap → st.slots ≡ cap + cap → get_elem? s.views id ≡ some v
      → (L.take_of v).has ≡ true → (L.take_of v).busy ≡ false → ((x : T) → get_elem? q.waiting 0 ≡ some x → Fact v x)
      → Moved L cap s q id v [] L.sent_word (slice_index s.words L.sent_word) (λ _. ⊥) (SawSent L Fact st (v, []) (slice_index s.words L.sent_word))
  sees_sent id v Fact st some_slot slots at has idle fact = ⊎_elim (finds_item id v Fact st some_slot slots at has idle fact) (finds_none id v Fact st slots at has idle) (cases_lt (length (L.take_of v).items) (slice_index s.words L.sent_word))

  -- kinds 5 and 6: the item that came out of the slot is taken
  pub takes_one : (id : ℕ) (v : V) (slot n : ℕ) (st : Step S) → 0 < cap → length s.homes ≡ cap + cap → length s.words ≡ 4 → get_elem? s.views id ≡ some v
      → (L.take_of v).has ≡ true → (L.take_of v).busy ≡ true → slot ≡ place_of L cap (length (L.take_of v).items) → n ≡ length (L.take_of v).items + 1
      → Moved L cap s q id v ((slot, L.nothing) ∷ []) L.taken_word n (λ _. ⊥) (Took L st (v, (slot, L.nothing) ∷ []) n)
  takes_one id v slot n st some_slot wide four at has busy here next =
      let h = L.take_of v in let m : ℕ = length h.items in let k = taker id v at has in
      let counted : m ≡ length q.taken = k.0 in let on : q.taking ≡ true = sym k.2 ∙ busy in
      let hand = (q.takes id v at has).4 on in let x : T = hand.0 in
      let left = q.some_item on in let first = first_of q.waiting left in let ws : List T = first.1 in
      let same : x ≡ first.0 = some-injective x first.0 (sym hand.2 ∙ ap (λ l. get_elem? l 0) first.2) in
      let is : q.waiting ≡ x ∷ ws = first.2 ∙ ap (λ y. y ∷ ws) (sym same) in let long = ap length is in
      let view : V = L.put_take (took_one x h) v in let most = q.within in let longer = length-append q.taken (x ∷ []) in
      let homes : List (maybe.Option S) = set s.homes slot (some L.nothing) in
      let place : slot ≡ place_of L cap (length q.taken) = here ∙ ap (place_of L cap) counted in
      let within : length (x ∷ ws) ≤ cap = omega arith in
      let old : Slots L cap (length q.taken) (x ∷ ws) q.sending true s.homes = subst (λ (l : List T). Slots L cap (length q.taken) l q.sending true s.homes) is (subst (λ b. Slots L cap (length q.taken) q.waiting q.sending b s.homes) on q.slots) in
      let now : Slots L cap (length q.taken + 1) ws q.sending false homes = subst (λ (i : ℕ). Slots L cap (length q.taken + 1) ws q.sending false (set s.homes i (some L.nothing))) (sym place) (freed L cap (length q.taken) x ws q.sending s.homes within (inside _ some_slot wide) old) in
      let sum : length q.taken + 1 ≡ length (q.taken ++ x ∷ []) = omega arith in
      let slots' : Slots L cap (length (q.taken ++ x ∷ [])) ws q.sending false homes = subst (λ (t : ℕ). Slots L cap t ws q.sending false homes) sum now in
      let all : (q.taken ++ x ∷ []) ++ ws ≡ q.taken ++ q.waiting = append_assoc q.taken (x ∷ []) ws ∙ ap (λ l. q.taken ++ l) (sym is) in
      let words : n ≡ length (q.taken ++ x ∷ []) = omega arith in
      let sent : length q.taken + length q.waiting ≡ length (q.taken ++ x ∷ []) + length ws = omega arith in
      let last = (q.takes id v at has).3 in
      let r = taker_moves L cap s.words s.homes s.views q id v view (set s.words L.taken_word n) homes (q.taken ++ x ∷ []) ws false at has (law.send_take (took_one x h) v)
      (others s.words L.taken_word n L.sent_word (λ e. law.words.0 (sym e)) ∙ q.sent_is ∙ sent) (stored s.words L.taken_word n (subst (λ (l : ℕ). L.taken_word < l) (sym four) law.words.2) ∙ words)
      all (omega arith) (omega arith) (λ off. absurd (false≢true off)) slots'
      (subst (TakerKnows id (q.taken ++ x ∷ []) ws false id) (sym (law.take_take (took_one x h) v)) (λ _. (refl, ap (λ l. l ++ x ∷ []) k.1, refl, omega arith, (λ off. absurd (false≢true off))))) in record {
        view = view;
        act = gives;
        valid = tt;
        lane = r.0;
        waits = λ j y e. inl (suc j, subst (λ (l : List T). get_elem? l (suc j) ≡ some y) (sym is) (subst (λ (l : List T). get_elem? l j ≡ some y) r.2 e));
        grows = let e = ap length r.1 in omega arith;
        wide = length-set s.homes slot (some L.nothing);
        slot = m;
        others = λ j other. set_else s.homes slot j (some L.nothing) (λ same'. other (same' ∙ here));
        half = inr (took_one x h, refl);
        told = λ y same'. let so : x ≡ y = some_is x y (sym hand.1 ∙ same') in let put : T → Me S V = λ z. (L.put_take (took_one z h) v, []) in ap put so;
      }
