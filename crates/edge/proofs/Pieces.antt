-- Pieces written one after another, and counts of faults over several calls.
use Rattle.std.proofs.Common.{◌≡◌, ℕ, ◌≤◌, List, [], ◌++◌, Result, Ok, Err, IsErr, Option, None, Some, refl, sym, ap, subst, ◌∙◌, append_assoc, append-nil, take, drop, take-append-drop, arith}
use Rattle.std.specs.Io.KnownBytes.{Appends, Keeps}
use Rattle.edge.specs.Causes.{Rose}
use Rattle.edge.specs.Pieces.{BeginsTo, Begins, Writes}

-- ---- pieces

-- nothing was written
pub appends_none : (a : Option (List ℕ)) → Appends a a []
appends_none None = tt
appends_none (Some x) = sym (append-nil x)

-- two pieces are one of the joined text
pub appends_then : (a b c : Option (List ℕ)) (bs cs : List ℕ) → Appends a b bs → Appends b c cs → Appends a c (bs ++ cs)
appends_then None b c bs cs p q = tt
appends_then (Some x) None c bs cs p q = absurd p
appends_then (Some x) (Some y) None bs cs p q = absurd q
appends_then (Some x) (Some y) (Some z) bs cs p q = q ∙ ap (λ l. l ++ cs) p ∙ append_assoc x bs cs

-- a piece after a call that wrote nothing
pub keeps_then : (a b c : Option (List ℕ)) (bs : List ℕ) → Keeps a b → Appends b c bs → Appends a c bs
keeps_then None b c bs p q = tt
keeps_then (Some x) None c bs p q = absurd p
keeps_then (Some x) (Some y) None bs p q = absurd q
keeps_then (Some x) (Some y) (Some z) bs p q = q ∙ ap (λ l. l ++ bs) p

-- a piece before a call that wrote nothing
pub then_keeps : (a b c : Option (List ℕ)) (bs : List ℕ) → Appends a b bs → Keeps b c → Appends a c bs
then_keeps None b c bs p q = tt
then_keeps (Some x) None c bs p q = absurd p
then_keeps (Some x) (Some y) None bs p q = absurd q
then_keeps (Some x) (Some y) (Some z) bs p q = q ∙ p

-- ---- fronts of a text

-- before the first piece
pub at_start : (old : Option (List ℕ)) (text : List ℕ) → BeginsTo text old old text
at_start old text = record { front = []; parts = refl; written = appends_none old }

-- one more piece
pub begins_more : (old mid new : Option (List ℕ)) (a rest text : List ℕ) → BeginsTo (a ++ rest) old mid text → Appends mid new a → BeginsTo rest old new text
begins_more old mid new a rest text p q = record {
  front = p.front ++ a;
  parts = p.parts ∙ sym (append_assoc p.front a rest);
  written = appends_then old mid new p.front a p.written q;
}

-- one more piece, of the first bytes that are still to come
pub begins_part : (old mid new : Option (List ℕ)) (rest text : List ℕ) (n : ℕ) → BeginsTo rest old mid text → Appends mid new (take n rest) → BeginsTo (drop n rest) old new text
begins_part old mid new rest text n p q =
    let P : List ℕ → Type 0 = λ l. BeginsTo l old mid text in
    begins_more old mid new (take n rest) (drop n rest) text (subst P (sym (take-append-drop n rest)) p) q

-- a call that wrote nothing
pub begins_then : (old mid new : Option (List ℕ)) (rest text : List ℕ) → BeginsTo rest old mid text → Keeps mid new → BeginsTo rest old new text
begins_then old mid new rest text p q = record {
  front = p.front;
  parts = p.parts;
  written = then_keeps old mid new p.front p.written q;
}

-- nothing is still to come
pub at_end : (old new : Option (List ℕ)) (text : List ℕ) → BeginsTo [] old new text → Appends old new text
at_end old new text p = subst (Appends old new) (sym (p.parts ∙ append-nil p.front)) p.written

-- nothing was written
pub begins_kept : (old new : Option (List ℕ)) (text : List ℕ) → Keeps old new → Begins old new text
begins_kept old new text p = (text, begins_then old old new text text (at_start old text) p)

-- the first bytes were written
pub begins_taken : (old new : Option (List ℕ)) (text : List ℕ) (n : ℕ) → Appends old new (take n text) → Begins old new text
begins_taken old new text n p = (drop n text, record { front = take n text; parts = sym (take-append-drop n text); written = p })

-- a piece was begun after others
pub begins_within : (old mid new : Option (List ℕ)) (a rest text : List ℕ) → BeginsTo (a ++ rest) old mid text → Begins mid new a → Begins old new text
begins_within old mid new a rest text p (left, q) = (
  left ++ rest,
  record {
    front = p.front ++ q.front;
    parts = p.parts ∙ ap (λ l. p.front ++ (l ++ rest)) q.parts ∙ ap (λ l. p.front ++ l) (append_assoc q.front left rest) ∙ sym (append_assoc p.front q.front (left ++ rest));
    written = appends_then old mid new p.front q.front p.written q.written;
  },
)

-- whole pieces were written of a text that goes on
pub begins_whole : (old new : Option (List ℕ)) (a rest text : List ℕ) → text ≡ a ++ rest → Appends old new a → Begins old new text
begins_whole old new a rest text e p = (rest, record { front = a; parts = e; written = p })

-- ---- exits

-- a fault before anything was written
pub errs : {T E : Type 0} (result : Result T E) (old : Option (List ℕ)) (text : List ℕ) → IsErr result → Writes old old result text
errs (Ok x) old text h = cc
errs (Err e) old text h = (text, at_start old text)

-- a fault after whole pieces
pub errs_after : {T E : Type 0} (result : Result T E) (old new : Option (List ℕ)) (a rest text : List ℕ) → IsErr result → text ≡ a ++ rest → Appends old new a → Writes old new result text
errs_after (Ok x) old new a rest text h e p = cc
errs_after (Err x) old new a rest text h e p = begins_whole old new a rest text e p

-- a fault within a piece that came after whole ones
pub errs_within : {T E : Type 0} (result : Result T E) (old mid new : Option (List ℕ)) (a b c text : List ℕ) → IsErr result → text ≡ a ++ (b ++ c) → Appends old mid a → Begins mid new b
    → Writes old new result text
errs_within (Ok x) old mid new a b c text h e p q = cc
errs_within (Err x) old mid new a b c text h e p q = begins_within old mid new b c text (record { front = a; parts = e; written = p }) q

-- a fault after the pieces up to a rest
pub errs_so_far : {T E : Type 0} (result : Result T E) (old new : Option (List ℕ)) (rest text : List ℕ) → IsErr result → BeginsTo rest old new text → Writes old new result text
errs_so_far (Ok x) old new rest text h p = cc
errs_so_far (Err e) old new rest text h p = (rest, p)

-- a fault within the first piece of a rest
pub errs_more : {T E : Type 0} (result : Result T E) (old mid new : Option (List ℕ)) (a rest text : List ℕ) → IsErr result → BeginsTo (a ++ rest) old mid text → Begins mid new a
    → Writes old new result text
errs_more (Ok x) old mid new a rest text h p q = cc
errs_more (Err e) old mid new a rest text h p q = begins_within old mid new a rest text p q

-- the last piece after whole ones, whose answer is the answer
pub writes_then : {T E : Type 0} (result : Result T E) (old mid new : Option (List ℕ)) (a b : List ℕ) → Appends old mid a → Writes mid new result b → Writes old new result (a ++ b)
writes_then (Ok x) old mid new a b p q = appends_then old mid new a b p q
writes_then (Err e) old mid new a b p (left, q) = (
  left,
  record {
    front = a ++ q.front;
    parts = ap (λ l. a ++ l) q.parts ∙ sym (append_assoc a q.front left);
    written = appends_then old mid new a q.front p q.written;
  },
)

-- ---- counts of faults

-- the count rose, and did not fall afterwards
pub rose_later : (a b c : ℕ) → Rose a b → b ≤ c → Rose a c
rose_later a b c p q = omega arith

-- the count did not fall, and then rose
pub later_rose : (a b c : ℕ) → a ≤ b → Rose b c → Rose a c
later_rose a b c p q = omega arith

-- an object whose count stays at 0 answers no fault
pub never_rose : Rose 0 0 → ⊥
never_rose p = omega arith
