-- The slots from the taken word to the sent word hold what waits.
use Rattle.std.proofs.Common.{◌≡◌, ℕ, suc, ◌+◌, ◌-◌, false, List, [], ◌∷◌, map, length, refl, sym, ap, ap₂, ◌∙◌, subst, arith}
use Rattle.std.specs.Prelude.{slice_index}
use mathlib.Core.Option.{some}
use mathlib.Core.Option as maybe
use lib.ListN.{get_elem?}
use Rattle.std.proofs.lemmas.Bool.{false≢true}
use Rattle.atomic_table.specs.Table.{State}
use Rattle.duplex.specs.Lanes.{Shape, place_of, down, up, LaneOf}
use Rattle.duplex.specs.Shown.{slots_from, waiting_slots, at_home, ShowsDown, ShowsUp}

module _ {T S V : Type 0} (L : Shape T S V) (cap : ℕ) where
  hold : (homes : List (maybe.Option S)) (ws : List T) (t : ℕ) → ((k : ℕ) (x : T) → get_elem? ws k ≡ some x → get_elem? homes (place_of L cap (t + k)) ≡ some (some (L.wrap x)))
      → slots_from L cap homes t (length ws) ≡ map (at_home L cap) ws
  hold homes [] t full = refl
  hold homes (x ∷ ws) t full =
      let here : t + 0 ≡ t = omega arith in
      let first : get_elem? homes (place_of L cap t) ≡ some (some (L.wrap x)) = subst (λ (n : ℕ). get_elem? homes (place_of L cap n) ≡ some (some (L.wrap x))) here (full 0 x refl) in
      ap₂ (λ y ys. y ∷ ys) first (hold homes ws (t + 1) (λ k y e. let next : t + suc k ≡ t + 1 + k = omega arith in subst (λ (n : ℕ). get_elem? homes (place_of L cap n) ≡ some (some (L.wrap y))) next (full (suc k) y e)))

  pub shows : (s : State S V) (q : LaneOf L cap s.words s.homes s.views) → q.taking ≡ false → waiting_slots L cap s ≡ map (at_home L cap) q.waiting
  shows s q none_out =
      let n : ℕ = slice_index s.words L.taken_word in let m : ℕ = slice_index s.words L.sent_word in
      let took : n ≡ length q.taken = q.taken_is in let sent : m ≡ length q.taken + length q.waiting = q.sent_is in let count : m - n ≡ length q.waiting = omega arith in
      ap (slots_from L cap s.homes n) count ∙ hold s.homes q.waiting n (λ k x e. subst (λ (t : ℕ). get_elem? s.homes (place_of L cap (t + k)) ≡ some (some (L.wrap x))) (sym took) (q.slots.full k x e (λ on. absurd (false≢true (sym none_out ∙ on)))))

pub shows_down : {D U : Type 0} (stamp : U → ℕ) → ShowsDown D U stamp
shows_down stamp cap s r = shows down cap s r.downward

pub shows_up : {D U : Type 0} (stamp : U → ℕ) → ShowsUp D U stamp
shows_up stamp cap s r = shows up cap s r.upward
