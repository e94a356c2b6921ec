-- The processes that hold a tab beside its owner, one after the other and all at once.
use Rattle.std.proofs.Common.{◌≡◌, ℕ, ◌<◌, ◌^◌, ◌==◌, ltb, Bool, true, false, not, ◌&&◌, ◌||◌, List, [], ◌∷◌, Option, Some, Result, Ok, Err, max, bit_or, refl, sym, ap, subst, ◌∙◌, arith}
use Rattle.std.specs.List.{AllByRecursion, list_all}
use Rattle.std.specs.Int.{bit_at}
use Rattle.std.proofs.lemmas.Bool.Decides.{nat_tests}
use Rattle.std.proofs.lemmas.Nat.Bits.{bit_at_or, bit_at-lt, bit_at-zero, bit_at-pow_same, bit_at-pow_other, same_from_bits}
use Rattle.serde_json.specs.Data.{Data, Items, no_items, item}
use Rattle.fission_ids.specs.declared.process.ProcId.{ProcId}
use Rattle.fission_ids.specs.declared.process.ProcSet.{ProcSet}
use Rattle.fission_ids.specs.ProcSet.{has, with}
use Rattle.scenario.specs.declared.fault.ReadFault.{ReadFault}
use Rattle.scenario.specs.Faults.{◌>>=◌, or_shape, asks}
use Rattle.scenario.specs.Members.{whole_number}
use Rattle.scenario.specs.Reading.{process_of, process_numbers, all_differ, are_others, proc_set_of, also_of}
use Rattle.scenario.proofs.Loop.{FailsAt, at_bind, at_shape, at_asks}

-- ---- sets that grow

one_more : (old new one p q : ℕ) → new ≡ max old one → old < 2 → (q ≡ p → one ≡ 1) → ((q ≡ p → ⊥) → one ≡ 0) → (new == 1) ≡ (q == p || old == 1)
one_more old new one p q is bit same other = grind (arith, nat_tests)

pub has_with : (s : ProcSet) (p q : ℕ) → has (with s p) q ≡ (q == p || has s q)
has_with s p q =
    one_more (bit_at s.0 q) (bit_at (bit_or s.0 (2 ^ p)) q) (bit_at (2 ^ p) q) p q (bit_at_or s.0 (2 ^ p) q) (bit_at-lt s.0 q)
    (λ e. subst (λ (k : ℕ). bit_at (2 ^ p) k ≡ 1) (sym e) (bit_at-pow_same p))
    (bit_at-pow_other p q)

max_swap : (a x y : ℕ) → max (max a x) y ≡ max (max a y) x
max_swap a x y = omega arith

bits_swap : (a x y i : ℕ) → bit_at (bit_or (bit_or a x) y) i ≡ bit_at (bit_or (bit_or a y) x) i
bits_swap a x y i =
    let first : bit_at (bit_or (bit_or a x) y) i ≡ max (max (bit_at a i) (bit_at x i)) (bit_at y i) = bit_at_or (bit_or a x) y i ∙ ap (λ (m : ℕ). max m (bit_at y i)) (bit_at_or a x i) in
    let second : bit_at (bit_or (bit_or a y) x) i ≡ max (max (bit_at a i) (bit_at y i)) (bit_at x i) = bit_at_or (bit_or a y) x i ∙ ap (λ (m : ℕ). max m (bit_at x i)) (bit_at_or a y i) in
    first ∙ max_swap (bit_at a i) (bit_at x i) (bit_at y i) ∙ sym second

abbrev bits : ℕ → ProcSet
bits n = record { 0 = n }

with_swap : (s : ProcSet) (p q : ℕ) → with (with s p) q ≡ with (with s q) p
with_swap s p q = ap bits (same_from_bits (bit_or (bit_or s.0 (2 ^ p)) (2 ^ q)) (bit_or (bit_or s.0 (2 ^ q)) (2 ^ p)) (bits_swap s.0 (2 ^ p) (2 ^ q)))

-- the set with these processes too
abbrev all_with : ProcSet → List ProcId → ProcSet
all_with s [] = s
all_with s (p ∷ ps) = all_with (with s p.0) ps

one_last : (s : ProcSet) (p : ℕ) (ps : List ProcId) → all_with (with s p) ps ≡ with (all_with s ps) p
one_last s p [] = refl
one_last s p (q ∷ ps) = ap (λ (t : ProcSet). all_with t ps) (with_swap s p q.0) ∙ one_last (with s q.0) p ps

all_are_set : (ps : List ProcId) → all_with (bits 0) ps ≡ proc_set_of ps
all_are_set [] = refl
all_are_set (p ∷ ps) = one_last (bits 0) p.0 ps ∙ ap (λ (t : ProcSet). with t p.0) (all_are_set ps)

-- ---- who may join

-- each is another than the owner, and none is in the set or comes twice
abbrev join : ProcId → ProcSet → List ProcId → Bool
join owner s [] = true
join owner s (p ∷ ps) = (not (p.0 == owner.0) && not (has s p.0)) && join owner (with s p.0) ps

abbrev are_new : ProcSet → List ProcId → Bool
are_new s ps = list_all (λ p. not (has s p.0)) ps

split_new : (p h r d : Bool) → (not (p || h) && (r && d)) ≡ ((not p && r) && (not h && d))
split_new true h r d = refl
split_new false true true d = refl
split_new false true false d = refl
split_new false false r d = refl

new_beside : (s : ProcSet) (p : ℕ) (ps : List ProcId) → are_new (with s p) ps ≡ (list_all (λ q. not (q.0 == p)) ps && are_new s ps)
new_beside s p [] = refl
new_beside s p (q ∷ ps) =
    let rest = are_new (with s p) ps in
    ap (λ b. not b && rest) (has_with s p q.0) ∙ ap (λ b. not (q.0 == p || has s q.0) && b) (new_beside s p ps) ∙ split_new (q.0 == p) (has s q.0) (list_all (λ q. not (q.0 == p)) ps) (are_new s ps)

regrouped : (a n o d f r : Bool) → ((a && n) && ((o && d) && (f && r))) ≡ (((a && o) && (f && d)) && (n && r))
regrouped false n o d f r = refl
regrouped true false false d f r = refl
regrouped true false true d false r = refl
regrouped true false true false true r = refl
regrouped true false true true true r = refl
regrouped true true false d f r = refl
regrouped true true true true true r = refl
regrouped true true true true false r = refl
regrouped true true true false true r = refl
regrouped true true true false false r = refl

join_is : (owner : ProcId) (s : ProcSet) (ps : List ProcId) → join owner s ps ≡ ((are_others owner ps && all_differ ps) && are_new s ps)
join_is owner s [] = refl
join_is owner s (p ∷ ps) =
    let others = are_others owner ps in
    let differ = all_differ ps in
    let may = not (p.0 == owner.0) && not (has s p.0) in
    ap (λ b. may && b) (join_is owner (with s p.0) ps) ∙ ap (λ b. may && ((others && differ) && b)) (new_beside s p.0 ps)
    ∙ regrouped (not (p.0 == owner.0)) (not (has s p.0)) others differ (list_all (λ q. not (q.0 == p.0)) ps) (are_new s ps)

none_is_in : (p : ℕ) → has (bits 0) p ≡ false
none_is_in p = ap (λ (b : ℕ). b == 1) (bit_at-zero p)

all_new : (ps : List ProcId) → are_new (bits 0) ps ≡ true
all_new [] = refl
all_new (p ∷ ps) = ap (λ b. not b && are_new (bits 0) ps) (none_is_in p.0) ∙ all_new ps

and_true : (b : Bool) → (b && true) ≡ b
and_true true = refl
and_true false = refl

join_first : (owner : ProcId) (ps : List ProcId) → join owner (bits 0) ps ≡ (are_others owner ps && all_differ ps)
join_first owner ps =
    let fit = are_others owner ps && all_differ ps in
    join_is owner (bits 0) ps ∙ ap (λ b. fit && b) (all_new ps) ∙ and_true fit

-- ---- one after the other

-- the set with the processes of the items, as the code gathers it
unfoldable pub also_from : ℕ → ℕ → ProcId → ProcSet → Items → Result ProcSet ReadFault
also_from place n owner s no_items = Ok s
also_from place n owner s (item d ds) = process_of place n (Some d) >>= λ p. asks place (not (p.0 == owner.0) && not (has s p.0)) (also_from place n owner (with s p.0) ds)

process_at : (place n : ℕ) (found : Option Data) → FailsAt place (process_of place n found)
unfolding process_of
process_at place n found = at_bind place (or_shape place (whole_number found)) _ (at_shape place (whole_number found)) (λ p. at_asks {A = ProcId} place (ltb p n) (Ok (record { 0 = p })) tt)

numbers_at : (place n : ℕ) (ds : Items) → FailsAt place (process_numbers place n ds)
unfolding process_numbers
numbers_at place n no_items = tt
numbers_at place n (item d ds) = at_bind place (process_of place n (Some d)) _ (process_at place n (Some d)) (λ p. at_bind place (process_numbers place n ds) _ (numbers_at place n ds) (λ ps. tt))

-- the set with these processes, if they may join
abbrev joined : ℕ → ProcId → ProcSet → List ProcId → Result ProcSet ReadFault
joined place owner s ps = asks place (join owner s ps) (Ok (all_with s ps))

asks_both : {A : Type 0} (place : ℕ) (a b : Bool) (r : Result A ReadFault) → asks place a (asks place b r) ≡ asks place (a && b) r
asks_both place true b r = refl
asks_both place false b r = refl

asks_fault : {A : Type 0} (place : ℕ) (a : Bool) (r : Result A ReadFault) (fault : ReadFault) → r ≡ Err fault → FailsAt place r → asks place a r ≡ r
asks_fault place true r fault is at = refl
asks_fault place false (Ok x) fault is at = absurd cc
asks_fault place false (Err other) fault is at = cc

one_joins : (place : ℕ) (owner : ProcId) (s : ProcSet) (p : ProcId) (rest : Result (List ProcId) ReadFault) → FailsAt place rest
    → asks place (not (p.0 == owner.0) && not (has s p.0)) (rest >>= joined place owner (with s p.0)) ≡ ((rest >>= λ ps. Ok (p ∷ ps)) >>= joined place owner s)
one_joins place owner s p (Ok ps) at = asks_both place (not (p.0 == owner.0) && not (has s p.0)) (join owner (with s p.0) ps) (Ok (all_with (with s p.0) ps))
one_joins place owner s p (Err fault) at = asks_fault place (not (p.0 == owner.0) && not (has s p.0)) (Err fault) fault refl at

first_joins : (place : ℕ) (owner : ProcId) (s : ProcSet) (one : Result ProcId ReadFault) (after : ProcId → Result ProcSet ReadFault) (rest : Result (List ProcId) ReadFault) → FailsAt place rest
    → ((p : ProcId) → after p ≡ (rest >>= joined place owner (with s p.0)))
    → (one >>= λ p. asks place (not (p.0 == owner.0) && not (has s p.0)) (after p)) ≡ ((one >>= λ p. rest >>= λ ps. Ok (p ∷ ps)) >>= joined place owner s)
first_joins place owner s (Ok p) after rest at is = ap (λ r. asks place (not (p.0 == owner.0) && not (has s p.0)) r) (is p) ∙ one_joins place owner s p rest at
first_joins place owner s (Err fault) after rest at is = refl

from_is : (place n : ℕ) (owner : ProcId) (s : ProcSet) (ds : Items) → also_from place n owner s ds ≡ (process_numbers place n ds >>= joined place owner s)
unfolding also_from process_numbers
from_is place n owner s no_items = refl
from_is place n owner s (item d ds) =
    first_joins place owner s (process_of place n (Some d)) (λ p. also_from place n owner (with s p.0) ds) (process_numbers place n ds) (numbers_at place n ds)
    (λ p. from_is place n owner (with s p.0) ds)

joined_first : (place : ℕ) (owner : ProcId) (r : Result (List ProcId) ReadFault) → (r >>= joined place owner (bits 0)) ≡ (r >>= λ ps. asks place (are_others owner ps && all_differ ps) (Ok (proc_set_of ps)))
joined_first place owner (Ok ps) = ap (λ b. asks place b (Ok (all_with (bits 0) ps))) (join_first owner ps) ∙ ap (λ (t : ProcSet). asks place (are_others owner ps && all_differ ps) (Ok t)) (all_are_set ps)
joined_first place owner (Err fault) = refl

pub also_is : (place n : ℕ) (owner : ProcId) (ds : Items) → also_from place n owner (record { 0 = 0 }) ds ≡ also_of place n owner ds
unfolding also_of
also_is place n owner ds = from_is place n owner (bits 0) ds ∙ joined_first place owner (process_numbers place n ds)

-- ---- who is in the set

below_step : (q p n : ℕ) (b : Bool) → p < n → (b ≡ true → q < n) → (q == p || b) ≡ true → q < n
below_step q p n true low rest is = rest refl
below_step q p n false low rest is = grind (arith, nat_tests)

pub set_below : (n : ℕ) (ps : List ProcId) → AllByRecursion (λ p. p.0 < n) ps → (q : ℕ) → has (proc_set_of ps) q ≡ true → q < n
set_below n [] all q is = absurd (let e = none_is_in q in cc)
set_below n (p ∷ ps) all q is = below_step q p.0 n (has (proc_set_of ps) q) all.0 (set_below n ps all.1 q) (sym (has_with (proc_set_of ps) p.0 q) ∙ is)

other_step : (o p : ℕ) (b c : Bool) → (not (p == o) && c) ≡ true → (c ≡ true → b ≡ false) → (o == p || b) ≡ false
other_step o p b true is rest = grind (arith, nat_tests)
other_step o p b false is rest = grind (arith, nat_tests)

pub set_of_others : (owner : ProcId) (ps : List ProcId) → are_others owner ps ≡ true → has (proc_set_of ps) owner.0 ≡ false
set_of_others owner [] is = none_is_in owner.0
set_of_others owner (p ∷ ps) is = has_with (proc_set_of ps) p.0 owner.0 ∙ other_step owner.0 p.0 (has (proc_set_of ps) owner.0) (are_others owner ps) is (set_of_others owner ps)
