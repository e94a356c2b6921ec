-- Where parts stand: by the part before it is what the rules say of all the parts before.
use Rattle.std.proofs.Common.{◌≡◌, ℕ, ◌+◌, ◌<◌, ◌≤◌, ◌==◌, nat_lt, Bool, true, false, not, ◌&&◌, ◌||◌, if◌then◌else◌, Option, None, Some, List, [], ◌∷◌, inl, inr, length, drop, get_or, refl, sym, ap, ◌∙◌, arith}
use Rattle.std.proofs.lemmas.Bool.{cases_lt, false≢true, le-ltb, lt-ltb}
use Rattle.std.proofs.lemmas.Bool.Decides.{nat_tests}
use Rattle.std.proofs.lemmas.List.{drop_more, drop_all}
use Rattle.wire_msgs.specs.declared.part.UpPart.{UpPart}
use Rattle.wire_msgs.specs.declared.part.UpPart.TheVariants as ups
use Rattle.protocol.specs.Order.{up_rank, is_single, is_misplaced, is_gone, is_empty, first_misplaced}
use Rattle.parent_core.specs.Envelopes.{is_misplaced_behind, first_misplaced_behind}

-- whether one part may not stand behind another of this rank
abbrev bars : ℕ → ℕ → Bool
bars rank r = nat_lt rank r || (is_single rank && r == rank) || rank == 11

-- what bars a part behind one rank bars it behind a higher one
bars_rise : (rank last r : ℕ) → nat_lt r last ≡ false → bars rank last ≡ true → bars rank r ≡ true
bars_rise rank last r below barred = grind (arith, nat_tests)

-- the part before tells what all before tell
abbrev Stands : ℕ → List ℕ → Type 0
Stands last before = (rank : ℕ) → is_misplaced before rank ≡ is_misplaced_behind last rank

stands_more : (last : ℕ) (before : List ℕ) (r : ℕ) → nat_lt 0 r ≡ true → is_misplaced_behind last r ≡ false → Stands last before → Stands r (r ∷ before)
stands_more last before r some fine stands rank =
    ap (λ b. bars rank r || b) (stands rank) ∙ by (nat_lt 0 last) fine (bars rank r) (bars rank last) (bars_rise rank last r) ∙ sym (ap (λ b. b && bars rank r) some)
  where
    first_fails : (a b c : Bool) → (a || b || c) ≡ false → a ≡ false
    first_fails true b c e = absurd (false≢true (sym e))
    first_fails false b c e = refl

    joined : (b c : Bool) → (c ≡ true → b ≡ true) → (b || c) ≡ b
    joined true c from = refl
    joined false true from = sym (from refl)
    joined false false from = refl

    nothing : (b : Bool) → (b || false) ≡ b
    nothing true = refl
    nothing false = refl

    by : (behind : Bool) → (behind && bars r last) ≡ false → (b c : Bool) → (nat_lt r last ≡ false → c ≡ true → b ≡ true) → (b || (behind && c)) ≡ b
    by true e b c from = joined b c (from (first_fails (nat_lt r last) (is_single r && last == r) (r == 11) e))
    by false e b c from = nothing b

rank_above : (a : UpPart) → nat_lt 0 (up_rank a) ≡ true
rank_above (ups.Create x above) = refl
rank_above _ = refl

same_places : (n last : ℕ) (before : List ℕ) (parts : List UpPart) → Stands last before → first_misplaced_behind n last parts ≡ first_misplaced n before parts
unfolding first_misplaced first_misplaced_behind
same_places n last before [] stands = refl
same_places n last before (a ∷ parts) stands =
    by (is_misplaced_behind last (up_rank a)) (λ fine. same_places (n + 1) (up_rank a) (up_rank a ∷ before) parts (stands_more last before (up_rank a) (rank_above a) fine stands)) refl
    ∙ sym (ap (λ b. if b || (is_gone a && not (is_empty parts)) then Some n else first_misplaced (n + 1) (up_rank a ∷ before) parts) (stands (up_rank a)))
  where
    by : (barred : Bool) → (is_misplaced_behind last (up_rank a) ≡ false → first_misplaced_behind (n + 1) (up_rank a) parts ≡ first_misplaced (n + 1) (up_rank a ∷ before) parts)
        → is_misplaced_behind last (up_rank a) ≡ barred
        → (if barred || (is_gone a && not (is_empty parts)) then Some n else first_misplaced_behind (n + 1) (up_rank a) parts)
        ≡ (if barred || (is_gone a && not (is_empty parts)) then Some n else first_misplaced (n + 1) (up_rank a ∷ before) parts)
    by true later e = refl
    by false later e = ap (λ (o : Option ℕ). if is_gone a && not (is_empty parts) then Some n else o) (later e)

pub places_first : (parts : List UpPart) → first_misplaced_behind 1 0 parts ≡ first_misplaced 1 [] parts
places_first parts = same_places 1 0 [] parts (λ rank. refl)

-- ---- one part after the other

some_left : (parts : List UpPart) (j : ℕ) → nat_lt j (length parts) ≡ not (is_empty (drop j parts))
some_left parts j = elim (cases_lt j (length parts)) [
  | inl lt ↦ lt-ltb j (length parts) lt ∙ sym (ap (λ (l : List UpPart). not (is_empty l)) (drop_more parts j ups.Gone lt))
  | inr le ↦ le-ltb j (length parts) le ∙ sym (ap (λ (l : List UpPart). not (is_empty l)) (drop_all j parts le))
]

module _ (parts : List UpPart) (i last : ℕ) (a : UpPart) (is : a ≡ get_or parts i a) (below : i < length parts)
    (whole : Option ℕ) (so_far : first_misplaced_behind (i + 1) last (drop i parts) ≡ whole)
    (test : Bool) (test_is : test ≡ (is_misplaced_behind last (up_rank a) || (is_gone a && nat_lt (i + 1) (length parts))))
  where
    one_more : (if test then Some (i + 1) else first_misplaced_behind (i + 1 + 1) (up_rank a) (drop (i + 1) parts)) ≡ whole
    unfolding first_misplaced_behind
    one_more =
        ap (λ b. if b then Some (i + 1) else first_misplaced_behind (i + 1 + 1) (up_rank a) (drop (i + 1) parts))
        (test_is ∙ ap (λ b. is_misplaced_behind last (up_rank a) || (is_gone a && b)) (some_left parts (i + 1)))
        ∙ ap (λ (b : UpPart). first_misplaced_behind (i + 1) last (b ∷ drop (i + 1) parts)) is
        ∙ sym (ap (λ (l : List UpPart). first_misplaced_behind (i + 1) last l) (drop_more parts i a below))
        ∙ so_far

    by_test : (b : Bool) → test ≡ b → (if b then Some (i + 1) else first_misplaced_behind (i + 1 + 1) (up_rank a) (drop (i + 1) parts)) ≡ whole
    by_test b e = sym (ap (λ c. if c then Some (i + 1) else first_misplaced_behind (i + 1 + 1) (up_rank a) (drop (i + 1) parts)) e) ∙ one_more

    pub place_found : test ≡ true → Some (i + 1) ≡ whole
    place_found e = by_test true e

    pub place_passed : (rank : ℕ) → test ≡ false → rank ≡ up_rank a → first_misplaced_behind (i + 1 + 1) rank (drop (i + 1) parts) ≡ whole
    place_passed rank e rank_is = ap (λ r. first_misplaced_behind (i + 1 + 1) r (drop (i + 1) parts)) rank_is ∙ by_test false e

pub places_end : (parts : List UpPart) (i n last : ℕ) (whole : Option ℕ) → length parts ≤ i → first_misplaced_behind n last (drop i parts) ≡ whole → None ≡ whole
unfolding first_misplaced_behind
places_end parts i n last whole past so_far = sym (ap (first_misplaced_behind n last) (drop_all i parts past)) ∙ so_far
