-- Texts that are gathered before they are written.
use Rattle.std.proofs.Common.{◌≡◌, ℕ, ◌≤◌, List, [], ◌++◌, Result, Ok, Err, IsErr, IsOk, Option, Some, refl, sym, ap, subst, ◌∙◌, append_assoc, append-nil, arith}
use Rattle.std.specs.Prelude.{OnOk, IsErrOf}
use Rattle.edge.specs.Causes.{Rose}
use Rattle.edge.specs.Pieces.{BeginsTo, Begins, Writes}
use Rattle.edge.proofs.Pieces.{at_start, at_end, appends_then, begins_more, begins_within}
use Rattle.report.specs.declared.fault.ReportFault.{ReportFault}
use Rattle.report.specs.declared.fault.ReportFault.TheVariants.{Failed, OutOfMemory}
use Rattle.report.specs.Passing.{Passes, CountsFault}

-- ---- one text

-- a fault before anything was written
pub unwritten : {T E : Type 0} (result : Result T E) (text rest : List ℕ) (old : Option (List ℕ)) → IsErr result → Passes text rest old old result
unwritten (Ok x) text rest old err = cc
unwritten (Err e) text rest old err = (text, at_start old text)

-- all of it was written
pub passes_whole : {T E : Type 0} (result : Result T E) (text rest : List ℕ) (old new : Option (List ℕ)) → OnOk result (rest ≡ []) → Writes old new result text → Passes text rest old new result
passes_whole (Ok x) text rest old new empty p =
    record { front = text; parts = sym (append-nil text) ∙ ap (λ (l : List ℕ). text ++ l) (sym empty); written = p }
passes_whole (Err x) text rest old new empty p = p

-- the rest is written
pub writes_rest : {T E : Type 0} (result : Result T E) (rest text : List ℕ) (old mid new : Option (List ℕ)) → BeginsTo rest old mid text → Writes mid new result rest → Writes old new result text
writes_rest (Ok x) rest text old mid new p q =
    let P : List ℕ → Type 0 = λ l. BeginsTo l old mid text in
    at_end old new text (begins_more old mid new rest [] text (subst P (sym (append-nil rest)) p) q)
writes_rest (Err x) rest text old mid new p q =
    let P : List ℕ → Type 0 = λ l. BeginsTo l old mid text in
    begins_within old mid new rest [] text (subst P (sym (append-nil rest)) p) q

-- into memory
pub appended : {T E : Type 0} (result : Result T E) (before now text : List ℕ) → IsOk result → Writes (Some before) (Some now) result text → now ≡ before ++ text
appended (Ok x) before now text ok p = p
appended (Err x) before now text ok p = cc

-- ---- one text of many

-- more is to come behind it
pub begins_longer : (a b text rest rest' : List ℕ) (old new : Option (List ℕ)) → text ≡ a ++ b → rest' ≡ rest ++ b → BeginsTo rest old new a → BeginsTo rest' old new text
begins_longer a b text rest rest' old new e f p = record {
  front = p.front;
  parts = e ∙ ap (λ (l : List ℕ). l ++ b) p.parts ∙ append_assoc p.front rest b ∙ ap (λ (l : List ℕ). p.front ++ l) (sym f);
  written = p.written;
}

-- a fault within the first of two texts, or behind it
pub errs_in_first : {T E : Type 0} (result : Result T E) (a b text rest rest' : List ℕ) (old new : Option (List ℕ)) → IsErr result → text ≡ a ++ b → BeginsTo rest old new a → Passes text rest' old new result
errs_in_first (Ok x) a b text rest rest' old new err e p = cc
errs_in_first (Err x) a b text rest rest' old new err e p = (rest ++ b, begins_longer a b text rest (rest ++ b) old new e refl p)

-- it was passed on
pub begins_on : (kept kept' a rest text : List ℕ) (old mid new : Option (List ℕ)) → BeginsTo (kept ++ (a ++ rest)) old mid text → BeginsTo kept' mid new (kept ++ a) → BeginsTo (kept' ++ rest) old new text
begins_on kept kept' a rest text old mid new p q = record {
  front = p.front ++ q.front;
  parts = p.parts ∙ ap (λ (l : List ℕ). p.front ++ l) (sym (append_assoc kept a rest) ∙ ap (λ (l : List ℕ). l ++ rest) q.parts ∙ append_assoc q.front kept' rest) ∙ sym (append_assoc p.front q.front (kept' ++ rest));
  written = appends_then old mid new p.front q.front p.written q.written;
}

-- a fault within it
pub begins_in : (kept a rest text : List ℕ) (old mid new : Option (List ℕ)) → BeginsTo (kept ++ (a ++ rest)) old mid text → Begins mid new (kept ++ a) → Begins old new text
begins_in kept a rest text old mid new p q =
    let P : List ℕ → Type 0 = λ l. BeginsTo l old mid text in
    begins_within old mid new (kept ++ a) rest text (subst P (sym (append_assoc kept a rest)) p) q

-- none is still to come
pub none_to_come : (kept rest text : List ℕ) (old new : Option (List ℕ)) → rest ≡ [] → BeginsTo (kept ++ rest) old new text → BeginsTo kept old new text
none_to_come kept rest text old new e p =
    let P : List ℕ → Type 0 = λ l. BeginsTo l old new text in
    subst P (ap (λ (l : List ℕ). kept ++ l) e ∙ append-nil kept) p

-- ---- counts of faults

-- a call behind one that answered no fault
pub counts_then : {T : Type 0} (result : Result T ReportFault) (before mid now : ℕ) → mid ≡ before → CountsFault mid now result → CountsFault before now result
counts_then result before mid now e p = subst (λ (n : ℕ). CountsFault n now result) e p

-- an answer with the same fault
pub counts_same : {T U : Type 0} (result : Result T ReportFault) (given : Result U ReportFault) (fault : ReportFault) (before now : ℕ) → given ≡ Err fault → result ≡ Err fault → CountsFault before now given → CountsFault before now result
counts_same {T} {U} result given fault before now g r p =
    let here : CountsFault {T = U} before now (Err fault) = subst (λ (x : Result U ReportFault). CountsFault before now x) g p in
    subst (λ (x : Result T ReportFault). CountsFault before now x) (sym r) here

pub fault_rose : {T : Type 0} (result : Result T ReportFault) (before now : ℕ) → CountsFault before now result → IsErrOf result Failed → Rose before now
fault_rose (Ok x) before now p e = cc
fault_rose (Err Failed) before now p e = p.1
fault_rose (Err OutOfMemory) before now p e = cc

pub else_quiet : {T : Type 0} (result : Result T ReportFault) (before now : ℕ) → CountsFault before now result → (IsErrOf result Failed → ⊥) → now ≡ before
else_quiet (Ok x) before now p never = p
else_quiet (Err Failed) before now p never = absurd (never refl)
else_quiet (Err OutOfMemory) before now p never = p

pub never_fell : {T : Type 0} (result : Result T ReportFault) (before now : ℕ) → CountsFault before now result → before ≤ now
never_fell (Ok x) before now p = omega (arith, p)
never_fell (Err Failed) before now p = p.0
never_fell (Err OutOfMemory) before now p = omega (arith, p)
