-- Texts that are told of one number after the other.
use Rattle.std.proofs.Common.{◌≡◌, ℕ, suc, ◌+◌, ◌-◌, ◌<◌, List, ◌∷◌, ◌++◌, ap, sym, ◌∙◌, append_assoc, arith}
use Rattle.std.specs.List.{flat_map}
use Rattle.protocol.specs.Start.{numbers}

one_fewer : (p n : ℕ) → p < n → n - p ≡ suc (n - (p + 1))
one_fewer p n lt = omega arith

numbers_next : (p n : ℕ) → p < n → numbers p (n - p) ≡ p ∷ numbers (p + 1) (n - (p + 1))
numbers_next p n lt =
    let one : suc p ≡ p + 1 = omega arith in
    ap (numbers p) (one_fewer p n lt) ∙ ap (λ (k : ℕ). p ∷ numbers k (n - (p + 1))) one

-- the text of one number more stands there
pub text_more : (told : ℕ → List ℕ) (p n : ℕ) (now more whole : List ℕ) → p < n → more ≡ now ++ told p → now ++ flat_map told (numbers p (n - p)) ≡ whole
    → more ++ flat_map told (numbers (p + 1) (n - (p + 1))) ≡ whole
text_more told p n now more whole lt is so_far =
    let rest = flat_map told (numbers (p + 1) (n - (p + 1))) in
    ap (λ (l : List ℕ). l ++ rest) is ∙ append_assoc now (told p) rest ∙ sym (ap (λ (ns : List ℕ). now ++ flat_map told ns) (numbers_next p n lt)) ∙ so_far
