-- Reading items one after the other, as a loop does, and the place of a fault.
use Rattle.std.proofs.Common.{◌≡◌, ℕ, Bool, true, false, List, [], ◌∷◌, ◌++◌, Option, None, Some, Result, Ok, Err, refl, sym, ap, ◌∙◌, append_assoc}
use Rattle.std.proofs.lemmas.List.{append-nil}
use Rattle.std.specs.Prelude.{⊤}
use Rattle.scenario.specs.declared.fault.ReadFault.{ReadFault}
use Rattle.scenario.specs.declared.fault.ReadFault.TheVariants.{Unread, Shape, OutOfMemory}
use Rattle.fission_ids.specs.Gives.{FailsWith}
use Rattle.scenario.specs.Faults.{is_memory, ◌>>=◌, or_shape, asks}

-- what was read before, and what is still read
abbrev pub with_front : {A : Type 0} → List A → Result (List A) ReadFault → Result (List A) ReadFault
with_front front rest = rest >>= λ xs. Ok (front ++ xs)

-- one item, and those after it
abbrev pub and_then : {A : Type 0} → Result A ReadFault → Result (List A) ReadFault → Result (List A) ReadFault
and_then one after = one >>= λ x. after >>= λ xs. Ok (x ∷ xs)

regroup : {A : Type 0} (front : List A) (x : A) (after : Result (List A) ReadFault) → with_front front (and_then (Ok x) after) ≡ with_front (front ++ x ∷ []) after
regroup {A} front x (Ok xs) = ap (λ (ys : List A). Ok ys) (simp append_assoc)
regroup front x (Err fault) = refl

pub goes_on : {A : Type 0} (front : List A) (one : Result A ReadFault) (x : A) (rest after total : Result (List A) ReadFault) → rest ≡ and_then one after → one ≡ Ok x
    → with_front front rest ≡ total → with_front (front ++ x ∷ []) after ≡ total
goes_on front one x rest after total turn read so_far =
    let first : with_front front rest ≡ with_front (front ++ x ∷ []) after = rw (turn, read) (regroup front x after) in
    sym first ∙ so_far

pub ends : {A : Type 0} (fault : ReadFault) (front : List A) (one : Result A ReadFault) (rest after total : Result (List A) ReadFault) → rest ≡ and_then one after → FailsWith (is_memory fault) fault one
    → with_front front rest ≡ total → FailsWith (is_memory fault) fault total
ends OutOfMemory front one rest after total turn read so_far = tt
ends Unread front one rest after total turn read so_far =
    let first : with_front front rest ≡ Err Unread = rw (turn, read) refl in
    sym so_far ∙ first
ends (Shape place) front one rest after total turn read so_far =
    let first : with_front front rest ≡ Err (Shape place) = rw (turn, read) refl in
    sym so_far ∙ first

pub is_done : {A : Type 0} (front : List A) (rest total : Result (List A) ReadFault) → rest ≡ Ok [] → with_front front rest ≡ total → total ≡ Ok front
is_done {A} front rest total nothing so_far =
    let all : with_front front rest ≡ Ok front = rw nothing (ap (λ (ys : List A). Ok ys) (append-nil front)) in
    sym so_far ∙ all

-- what follows isn't read
pub stops : {A : Type 0} (place : ℕ) (front : List A) (rest total : Result (List A) ReadFault) → rest ≡ Err (Shape place) → with_front front rest ≡ total → total ≡ Err (Shape place)
stops place front rest total turn so_far =
    let all : with_front front rest ≡ Err (Shape place) = rw turn refl in
    sym so_far ∙ all

-- a fault of the first step is one of both
pub bind_fails : {A B : Type 0} (fault : ReadFault) (one : Result A ReadFault) (f : A → Result B ReadFault) (rest total : Result B ReadFault) → rest ≡ (one >>= f) → FailsWith (is_memory fault) fault one
    → rest ≡ total → FailsWith (is_memory fault) fault total
bind_fails OutOfMemory one f rest total turn read so_far = tt
bind_fails Unread one f rest total turn read so_far = sym so_far ∙ turn ∙ ap (λ r. r >>= f) read
bind_fails (Shape place) one f rest total turn read so_far = sym so_far ∙ turn ∙ ap (λ r. r >>= f) read

-- ---- places of faults

-- a fault, if there is one, is of shape and has this place
abbrev pub FailsAt : {A : Type 0} → ℕ → Result A ReadFault → Type 0
FailsAt place (Ok x) = ⊤
FailsAt place (Err fault) = fault ≡ Shape place

pub at_bind : {A B : Type 0} (place : ℕ) (r : Result A ReadFault) (f : A → Result B ReadFault) → FailsAt place r → ((x : A) → FailsAt place (f x)) → FailsAt place (r >>= f)
at_bind place (Ok x) f first then = then x
at_bind place (Err fault) f first then = first

pub at_shape : {A : Type 0} (place : ℕ) (o : Option A) → FailsAt place (or_shape place o)
at_shape place None = refl
at_shape place (Some x) = tt

pub at_asks : {A : Type 0} (place : ℕ) (b : Bool) (r : Result A ReadFault) → FailsAt place r → FailsAt place (asks place b r)
at_asks place true r at = at
at_asks place false r at = refl
