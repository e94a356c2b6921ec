-- What two reads consumed, one after the other.
use Rattle.std.proofs.Common.{◌≡◌, ℕ, ◌+◌, List, ◌++◌, length, take, ◌<◌, Option, None, Some, IfSome, length-append, refl, ap, sym, subst, ◌∙◌, arith}
use Rattle.std.specs.Io.KnownBytes.{Consumes, IsAtEnd}
use Rattle.std.proofs.KnownBytes.{Consumes-trans, Consumes-whole}
use Rattle.edge.specs.Input.{ReadSome}

-- the bytes so far, and then n more
pub reads_then : (old mid new : Option (List ℕ)) (bs buffer : List ℕ) (n : ℕ) (P : ℕ → Type 0) → Consumes old mid bs → Consumes mid new (take n buffer) → n ≡ length (take n buffer)
    → P (length bs + n) → ReadSome old new P
reads_then old mid new bs buffer n P p q prefix h = (
  bs ++ take n buffer,
  subst P (ap (λ k. length bs + k) prefix ∙ sym (length-append bs (take n buffer))) h,
  Consumes-trans old mid new bs (take n buffer) p q,
)

-- what was read is all that was left, where nothing is left now
pub read_whole : (old new : Option (List ℕ)) (bs : List ℕ) → Consumes old new bs → IsAtEnd new → IfSome old (λ xs. xs ≡ bs)
read_whole old new bs p q = Consumes-whole old new bs (λ xs. xs ≡ bs) p q refl

-- more was left than was read past the limit
pub read_too_large : (old new : Option (List ℕ)) (limit : ℕ) → ReadSome old new (λ count. count ≡ limit + 1) → IfSome old (λ xs. limit < length xs)
read_too_large None new limit h = tt
read_too_large (Some x) None limit (bs, e, p) = absurd p
read_too_large (Some x) (Some y) limit (bs, e, p) =
    let longer : length x ≡ length bs + length y = ap length p ∙ length-append bs y in
    omega (arith, longer, e)
