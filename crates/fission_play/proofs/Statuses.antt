-- Which statuses may come for which bytes.
use Rattle.std.proofs.Common.{◌≡◌, ℕ, ◌<◌, ◌≤◌, inl, inr, List, [], ◌∷◌, ◌++◌, length, Bool, true, false, cond, leb, ◌==◌, Option, None, Some, Result, Ok, Err, refl, ap, ap₂, ◌∙◌, append-nil, length-append, arith}
use Rattle.std.specs.Io.KnownBytes.{Consumes, IsAtEnd}
use Rattle.std.specs.List.{list_any}
use Rattle.std.proofs.lemmas.Bool.{le-leb}
use Rattle.std.proofs.lemmas.Bool.Decides.{leb_tells}
use Rattle.scenario.specs.declared.fault.ReadFault as fault
use Rattle.scenario.specs.declared.fault.ReadFault.TheVariants as faults
use Rattle.scenario.specs.declared.line.Scenario.{Scenario}
use Rattle.scenario.specs.Reading.{reading}
use Rattle.fission_play.specs.Played.{limit, ReadAs, ReadPastLimit, statuses_for, may_come}

-- the bytes that a source had are those that were read to its end
all_read : (all : List ℕ) (left' : Option (List ℕ)) (bytes : List ℕ) → Consumes (Some all) left' bytes → IsAtEnd left' → all ≡ bytes
all_read all None bytes consumed end = absurd consumed
all_read all (Some rest) bytes consumed end = consumed ∙ ap (λ (l : List ℕ). bytes ++ l) end ∙ append-nil bytes

-- among the statuses of bytes that aren't too many
abbrev within_limit : ℕ → Bool → Result Scenario fault.ReadFault → Bool
within_limit n few found = list_any (λ k. k == n) (cond few (statuses_for found) (1 ∷ 2 ∷ 5 ∷ 6 ∷ []))

-- a status that may come for what was read may come
read_comes : (left left' : Option (List ℕ)) (found : Result Scenario fault.ReadFault) (n : ℕ) → leb n 7 ≡ true → within_limit n true found ≡ true → ReadAs left left' found → may_come left n ≡ true
read_comes None left' found n low among r = low
read_comes (Some all) left' found n low among r =
    let same : all ≡ r.bytes = all_read all left' r.bytes r.consumed r.at_end in
    let few : leb (length all) limit ≡ true = le-leb (length all) limit (omega (arith, ap (λ (l : List ℕ). length l) same, r.within)) in
    ap₂ (within_limit n) few (ap reading same ∙ r.is_read) ∙ among

pub done_comes : (left left' : Option (List ℕ)) (s : Scenario) → ReadAs left left' (Ok s) → may_come left 0 ≡ true
done_comes left left' s r = read_comes left left' (Ok s) 0 refl refl r

pub unread_comes : (left left' : Option (List ℕ)) → ReadAs left left' (Err faults.Unread) → may_come left 3 ≡ true
unread_comes left left' r = read_comes left left' (Err faults.Unread) 3 refl refl r

pub shape_comes : (left left' : Option (List ℕ)) (place : ℕ) → ReadAs left left' (Err (faults.Shape place)) → may_come left 4 ≡ true
shape_comes left left' place r = read_comes left left' (Err (faults.Shape place)) 4 refl refl r

-- the sink failed in a report
pub report_cut : (left left' : Option (List ℕ)) (s : Scenario) → ReadAs left left' (Ok s) → may_come left 7 ≡ true
report_cut left left' s r = read_comes left left' (Ok s) 7 refl refl r

-- the sink failed in the line with the place of a fault
pub place_cut : (left left' : Option (List ℕ)) (place : ℕ) → ReadAs left left' (Err (faults.Shape place)) → may_come left 7 ≡ true
place_cut left left' place r = read_comes left left' (Err (faults.Shape place)) 7 refl refl r

-- want of memory, other words and a fault of the source may always come
record Always (few : Bool) (found : Result Scenario fault.ReadFault) : Type 0 where
  memory : within_limit 1 few found ≡ true
  words : within_limit 2 few found ≡ true
  read_fault : within_limit 6 few found ≡ true

always : (few : Bool) (found : Result Scenario fault.ReadFault) → Always few found
always true (Ok s) = record { memory = refl; words = refl; read_fault = refl }
always true (Err faults.Unread) = record { memory = refl; words = refl; read_fault = refl }
always true (Err (faults.Shape place)) = record { memory = refl; words = refl; read_fault = refl }
always true (Err faults.OutOfMemory) = record { memory = refl; words = refl; read_fault = refl }
always false found = record { memory = refl; words = refl; read_fault = refl }

pub memory_comes : (left : Option (List ℕ)) → may_come left 1 ≡ true
memory_comes None = refl
memory_comes (Some all) = (always (leb (length all) limit) (reading all)).memory

pub words_come : (left : Option (List ℕ)) → may_come left 2 ≡ true
words_come None = refl
words_come (Some all) = (always (leb (length all) limit) (reading all)).words

pub read_fault_comes : (left : Option (List ℕ)) → may_come left 6 ≡ true
read_fault_comes None = refl
read_fault_comes (Some all) = (always (leb (length all) limit) (reading all)).read_fault

longer : (left left' bytes : List ℕ) → left ≡ bytes ++ left' → length bytes ≤ length left
longer left left' bytes e = omega (arith, ap (λ (l : List ℕ). length l) e, length-append bytes left')

above : (a b : ℕ) → b < a → leb a b ≡ false
above a b h = elim (leb_tells a b) [ inl t ↦ absurd (omega (arith, t.1)) | inr t ↦ t.0 ]

pub too_large_comes : (left left' : Option (List ℕ)) → ReadPastLimit left left' → may_come left 5 ≡ true
too_large_comes None left' r = refl
too_large_comes (Some all) None (bytes, past, consumed) = absurd consumed
too_large_comes (Some all) (Some rest) (bytes, past, consumed) =
    let many : leb (length all) limit ≡ false = above (length all) limit (omega (arith, past, longer all rest bytes consumed)) in
    ap (λ (b : Bool). within_limit 5 b (reading all)) many

-- each status but 2, by its cause
pub ruleset statuses_come = (done_comes, memory_comes, unread_comes, shape_comes, too_large_comes, read_fault_comes, report_cut, place_cut)
