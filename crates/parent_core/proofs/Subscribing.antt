-- A group that begins, with its subscribers one after the other.
use Rattle.std.proofs.Common.{◌≡◌, ℕ, zero, suc, ◌+◌, ◌-◌, ◌<◌, ◌≤◌, ◌==◌, nat_lt, Bool, true, false, ◌&&◌, ◌||◌, if◌then◌else◌, List, [], ◌∷◌, length, set, inl, inr, refl, sym, ap, ap₂, ◌∙◌, subst, arith, length-set, eq-eqb}
use Rattle.std.specs.Int.{bit_at}
use Rattle.std.proofs.lemmas.Bool.{cases_eq, ne_eqb, le-ltb, lt-ltb}
use Rattle.std.proofs.lemmas.Bool.Decides.{nat_tests}
use Rattle.std.proofs.lemmas.List.{set-get_or}
use Rattle.std.proofs.lemmas.Nat.Bits.{bit_at-lt, same_from_bits}
use Rattle.fission_ids.specs.declared.group.GroupId.{GroupId}
use Rattle.fission_ids.specs.declared.process.ProcSet.{ProcSet}
use Rattle.fission_ids.specs.ProcSet.{has, with}
use Rattle.context_group.specs.declared.group.Group.{Group}
use Rattle.context_group.specs.Groups.{group_at, at_group, no_group, IsMade}
use Rattle.context_group.proofs.Places.{group_at-set, group_at_place}
use Rattle.context_group.proofs.SetLemmas.{has-with, has_none}
use Rattle.parent_core.specs.Membership.{some_below, group_with, group_with_more, IsBegun}
use Rattle.parent_core.proofs.Facts.{below_more}

-- ---- sets

-- which of the first n are in the set
members_below : (n : ℕ) (m : ProcSet) (q : ℕ) → has (some_below n m) q ≡ (nat_lt q n && has m q)
members_below zero m q = let none : 0 ≤ q = omega arith in has_none q ∙ sym (ap (λ b. b && has m q) (le-ltb q 0 none))
members_below (suc n) m q = by (has m n) refl (members_below n m q)
  where
    none_here : (b : Bool) → (b && false) ≡ false
    none_here true = refl
    none_here false = refl

    by : (b : Bool) → has m n ≡ b → has (some_below n m) q ≡ (nat_lt q n && has m q) → has (if b then with (some_below n m) n else some_below n m) q ≡ (nat_lt q (suc n) && has m q)
    by true is before = has-with (some_below n m) n q ∙ elim (cases_eq q n) [
      | inl e ↦
          let under : q < suc n = omega arith in
          ap (λ b. b || has (some_below n m) q) (eq-eqb q n e)
          ∙ sym (ap₂ (λ b c. b && c) (lt-ltb q (suc n) under) (ap (has m) e ∙ is))
      | inr ne ↦
          ap (λ b. b || has (some_below n m) q) (ne_eqb q n ne) ∙ before ∙ ap (λ b. b && has m q) (below_more q n ne)
    ]
    by false is before = before ∙ elim (cases_eq q n) [
      | inl e ↦
          let absent : has m q ≡ false = ap (has m) e ∙ is in
          ap (λ b. nat_lt q n && b) absent ∙ none_here (nat_lt q n) ∙ sym (ap (λ b. nat_lt q (suc n) && b) absent ∙ none_here (nat_lt q (suc n)))
      | inr ne ↦ ap (λ b. b && has m q) (below_more q n ne)
    ]

one_bit : (a b : ℕ) → a < 2 → b < 2 → (a == 1) ≡ (b == 1) → a ≡ b
one_bit a b low low' same = grind (arith, nat_tests)

-- where there is none behind the first n, these are all
pub all_below : (n : ℕ) (m : ProcSet) → ((q : ℕ) → has m q ≡ true → q < n) → some_below n m ≡ m
all_below n m low = ap (λ (k : ℕ). record { 0 = k }) (same_from_bits (some_below n m).0 m.0 (λ i. one_bit (bit_at (some_below n m).0 i) (bit_at m.0 i) (bit_at-lt (some_below n m).0 i) (bit_at-lt m.0 i) (members_below n m i ∙ within i (has m i) refl)))
  where
    none_here : (b : Bool) → (b && false) ≡ false
    none_here true = refl
    none_here false = refl

    within : (i : ℕ) (b : Bool) → has m i ≡ b → (nat_lt i n && has m i) ≡ has m i
    within i true e = ap (λ b. b && has m i) (lt-ltb i n (low i e))
    within i false e = ap (λ b. nat_lt i n && b) e ∙ none_here (nat_lt i n) ∙ sym e

not_yet : (n : ℕ) (m : ProcSet) → has (some_below n m) n ≡ false
not_yet n m = let at : n ≤ n = omega arith in members_below n m n ∙ ap (λ b. b && has m n) (le-ltb n n at)

-- ---- the group

set_twice : {A : Type 0} (l : List A) (i : ℕ) (a b : A) → set (set l i a) i b ≡ set l i b
set_twice [] i a b = refl
set_twice (x ∷ l) zero a b = refl
set_twice (x ∷ l) (suc i) a b = ap (λ m. x ∷ m) (set_twice l i a b)

module _ (g : GroupId) (gs : List Group) (m : ProcSet) (begun : IsBegun g gs) where
  -- so far the first n of the set are subscribed
  abbrev pub subscribed : ℕ → List Group
  subscribed n = at_group (group_with (some_below n m)) g gs

  pub none_subscribed : gs ≡ subscribed 0
  none_subscribed =
      sym (ap (λ (v : Group). set gs (g.0 - 1) (group_with (record { 0 = 0 }) v)) begun.new
      ∙ ap (set gs (g.0 - 1)) (sym begun.new ∙ sym (group_at_place g gs no_group begun.made))
      ∙ set-get_or gs (g.0 - 1) no_group)

  here : (n : ℕ) → group_at g (subscribed n) ≡ group_with (some_below n m) (group_at g gs)
  here n = group_at-set g g gs (group_with (some_below n m) (group_at g gs)) begun.made ∙ ap (λ b. if b then group_with (some_below n m) (group_at g gs) else group_at g gs) (eq-eqb g.0 g.0 refl)

  module _ (n : ℕ) (now : List Group) (so_far : now ≡ subscribed n) where
    pub made_yet : IsMade g now
    made_yet = (begun.made.0, subst (λ l. g.0 ≤ length l) (sym so_far) (subst (λ k. g.0 ≤ k) (sym (length-set gs (g.0 - 1) (group_with (some_below n m) (group_at g gs)))) begun.made.1))

    pub absent_yet : has (group_at g now).subscribers n ≡ false
    absent_yet = ap (λ l. has (group_at g l).subscribers n) so_far ∙ ap (λ (v : Group). has v.subscribers n) (here n) ∙ not_yet n m

    pub subscribed_next : (next : List Group) → next ≡ at_group (group_with_more (has m n) n) g now → next ≡ subscribed (n + 1)
    subscribed_next next is =
        let one : suc n ≡ n + 1 = omega arith in
        is
        ∙ ap (λ l. at_group (group_with_more (has m n) n) g l) so_far
        ∙ ap (λ (v : Group). set (subscribed n) (g.0 - 1) (group_with_more (has m n) n v)) (here n)
        ∙ set_twice gs (g.0 - 1) (group_with (some_below n m) (group_at g gs)) (group_with_more (has m n) n (group_with (some_below n m) (group_at g gs)))
        ∙ ap (set gs (g.0 - 1)) (by (has m n))
        ∙ ap subscribed one
      where
        by : (b : Bool) → group_with_more b n (group_with (some_below n m) (group_at g gs)) ≡ group_with (if b then with (some_below n m) n else some_below n m) (group_at g gs)
        by true = refl
        by false = refl

    pub all_subscribed : ((q : ℕ) → has m q ≡ true → q < n) → now ≡ at_group (group_with m) g gs
    all_subscribed low = so_far ∙ ap (λ (s : ProcSet). at_group (group_with s) g gs) (all_below n m low)
