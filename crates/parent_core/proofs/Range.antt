-- Ids in range are few, so that a group has room for one more.
use Rattle.std.proofs.Common.{◌≡◌, ℕ, suc, ◌+◌, ◌-◌, ◌*◌, ◌<◌, ◌≤◌, ◌==◌, nat_lt, Bool, true, false, ◌&&◌, ◌||◌, cond, List, [], ◌∷◌, inl, inr, length, map, filter, refl, sym, ap, ◌∙◌, subst, arith, eqb, eqb-true, ltb-true}
use Rattle.std.specs.Prelude.{nat_le}
use Rattle.std.specs.List.{IsDistinct, AllByRecursion, list_any}
use Rattle.std.proofs.lemmas.Bool.{ne_eqb, cases_eq, ltb-true}
use Rattle.std.proofs.lemmas.Bool.Decides.{nat_tests}
use Rattle.std.proofs.lemmas.Map.Steps.{length-le_from_distinct_below}
use Rattle.std.proofs.lemmas.List.{length-map}
use Rattle.fission_ids.specs.declared.context.ContextId.{ContextId}
use Rattle.fission_ids.specs.declared.group.GroupId.{GroupId}
use Rattle.fission_ids.specs.Ids.{same_context}
use Rattle.context_group.specs.Groups.{group_at}
use Rattle.context_tree.specs.Tree.{contexts}
use Rattle.context_tree.proofs.Distinct.{distinct_cons, held_among}
use Rattle.context_tree.proofs.Same.{both_hold, same_itself}
use Rattle.protocol.specs.Hear.{is_new_frame}
use Rattle.parent_core.specs.Parent.{Kept, HoldsAll, IsInRange, is_known, is_of_group}
use Rattle.parent_core.proofs.Origins.{all_known, unheld}

-- an id as one number, below 4,080 where it is in range
abbrev pub id_code : ContextId → ℕ
id_code x = x.creator * 240 + (x.serial - 1)

code_below : (x : ContextId) → IsInRange x → id_code x < 4080
code_below x r = let c : x.creator ≤ 16 = r.creator in let f : 1 ≤ x.serial = r.from in let t : x.serial ≤ 240 = r.to in omega arith

codes_apart : (x y : ContextId) → IsInRange x → IsInRange y → same_context x y ≡ false → eqb (id_code x) (id_code y) ≡ false
codes_apart x y r s apart = elim (cases_eq (id_code x) (id_code y)) [
  | inl same ↦
      let cx : x.creator ≤ 16 = r.creator in
      let fx : 1 ≤ x.serial = r.from in
      let tx : x.serial ≤ 240 = r.to in
      let fy : 1 ≤ y.serial = s.from in
      let ty : y.serial ≤ 240 = s.to in
      let creators : x.creator ≡ y.creator = omega arith in
      let serials : x.serial ≡ y.serial = omega arith in
      absurd (no (sym (grind (arith, nat_tests, creators, serials)) ∙ apart))
  | inr other ↦ ne_eqb (id_code x) (id_code y) other
]
  where
    no : true ≡ false → ⊥
    no e = cc

-- an id that differs from each has a number that differs from each of theirs
codes_differ : (x : ContextId) (xs : List ContextId) → IsInRange x → AllByRecursion IsInRange xs → AllByRecursion (λ y. same_context x y ≡ false) xs
    → AllByRecursion (λ n. eqb (id_code x) n ≡ false) (map id_code xs)
codes_differ x [] r all apart = tt
codes_differ x (y ∷ xs) r all apart = (codes_apart x y r all.0 apart.0, codes_differ x xs r all.1 apart.1)

codes_distinct : (xs : List ContextId) → AllByRecursion IsInRange xs → IsDistinct same_context xs → IsDistinct eqb (map id_code xs)
unfolding IsDistinct
codes_distinct [] all d = tt
codes_distinct (x ∷ xs) all d = (codes_differ x xs all.0 all.1 d.0, codes_distinct xs all.1 d.1)

codes_low : (xs : List ContextId) → AllByRecursion IsInRange xs → (q : ℕ) → list_any (eqb q) (map id_code xs) ≡ true → q < 4080
codes_low [] all q e = absurd (cc)
codes_low (x ∷ xs) all q e = by (eqb q (id_code x)) refl e (codes_low xs all.1 q)
  where
    by : (b : Bool) → eqb q (id_code x) ≡ b → (b || list_any (eqb q) (map id_code xs)) ≡ true → (list_any (eqb q) (map id_code xs) ≡ true → q < 4080) → q < 4080
    by true is more rest = subst (λ n. n < 4080) (sym (eqb-true q (id_code x) is)) (code_below x all.0)
    by false is more rest = rest more

-- different ids in range are at most 4,080
pub few_ids : (xs : List ContextId) → AllByRecursion IsInRange xs → IsDistinct same_context xs → length xs ≤ 4080
few_ids xs all d = subst (λ n. n ≤ 4080) (length-map xs id_code) (length-le_from_distinct_below (map id_code xs) 4080 (codes_distinct xs all d) (codes_low xs all))

all_of : (P : ContextId → Type 0) (xs : List ContextId) → ((y : ContextId) → list_any (same_context y) xs ≡ true → P y) → AllByRecursion P xs
all_of P [] f = tt
all_of P (x ∷ xs) f = (f x (ap (λ b. b || list_any (same_context x) xs) (same_itself x)), all_of P xs (λ y among. f y (or_true (same_context y x) among)))
  where
    or_true : (b : Bool) {c : Bool} → c ≡ true → (b || c) ≡ true
    or_true true e = refl
    or_true false e = e

fewer : {A : Type 0} (p : A → Bool) (xs : List A) → length (filter p xs) ≤ length xs
fewer p [] = omega arith
fewer p (x ∷ xs) = by (p x) (fewer p xs)
  where
    by : (b : Bool) → length (filter p xs) ≤ length xs → length (cond b (x ∷ filter p xs) (filter p xs)) ≤ suc (length xs)
    by true e = omega arith
    by false e = omega arith

-- a context that is new finds room in its group
pub has_room : (k : Kept) → HoldsAll k → (x : ContextId) → is_known x k.origins ≡ false → IsInRange x → (g : GroupId) → (group_at g k.groups).live < 4080
has_room k h x fresh low g =
    let xs : List ContextId = contexts k.nodes in
    let others : list_any (same_context x) xs ≡ false = sym (held_among x k.nodes) ∙ unheld k h x fresh in
    let all : AllByRecursion IsInRange (x ∷ xs) = (low, all_of IsInRange xs (λ y among. h.range y (all_known k h y among))) in
    let few : suc (length xs) ≤ 4080 = few_ids (x ∷ xs) all (distinct_cons x xs others h.tree.distinct) in
    let count : (group_at g k.groups).live ≡ length (filter (is_of_group g k.origins) xs) = h.live g in
    let less : length (filter (is_of_group g k.origins) xs) ≤ length xs = fewer (is_of_group g k.origins) xs in
    omega (arith, few, count, less)

-- a new frame of a process is in range
pub frame_in_range : (before inside : Kept) → inside ≡ before → HoldsAll inside → (p : ℕ) (x : ContextId) → p < length before.config.types → is_new_frame p x ≡ true → IsInRange x
frame_in_range before inside view h p x low frame =
    let few : length inside.config.types ≤ 16 = h.config.few in
    let len : length inside.config.types ≡ length before.config.types = ap (λ (k : Kept). length k.config.types) view in
    let first : ((x.creator == p + 1 && nat_lt 0 x.serial) ≡ true) × (nat_le x.serial 240 ≡ true) = both_hold (x.creator == p + 1 && nat_lt 0 x.serial) (nat_le x.serial 240) frame in
    let second : ((x.creator == p + 1) ≡ true) × (nat_lt 0 x.serial ≡ true) = both_hold (x.creator == p + 1) (nat_lt 0 x.serial) first.0 in
    let creator : x.creator ≡ p + 1 = eqb-true x.creator (p + 1) second.0 in
    let from : 0 < x.serial = ltb-true 0 x.serial second.1 in
    let most : nat_le x.serial 240 ≡ true = first.1 in
    record {
      creator = omega (arith, few, len, low, creator);
      from = omega (arith, from);
      to = grind (arith, nat_tests, most);
    }

-- and its creator isn't the parent
pub frame_of_process : (p : ℕ) (x : ContextId) → is_new_frame p x ≡ true → 1 ≤ x.creator
frame_of_process p x frame =
    let first : ((x.creator == p + 1 && nat_lt 0 x.serial) ≡ true) × (nat_le x.serial 240 ≡ true) = both_hold (x.creator == p + 1 && nat_lt 0 x.serial) (nat_le x.serial 240) frame in
    let second : ((x.creator == p + 1) ≡ true) × (nat_lt 0 x.serial ≡ true) = both_hold (x.creator == p + 1) (nat_lt 0 x.serial) first.0 in
    let creator : x.creator ≡ p + 1 = eqb-true x.creator (p + 1) second.0 in
    omega (arith, creator)
