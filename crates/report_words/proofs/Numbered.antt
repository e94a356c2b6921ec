-- Ids by their numbers.
use Rattle.std.proofs.Common.{◌≡◌, ◌≢◌, ℕ, ◌≤◌, Bool, true, false, cond, Option, Some, None, refl, sym, ap₂, ◌∙◌, arith}
use Rattle.std.specs.Bool.{Decides}
use Rattle.std.specs.Prelude.{nat_le}
use Rattle.std.proofs.lemmas.Bool.{leb-true, le-leb}
use Rattle.std.proofs.lemmas.Bool.Decides.{Decides-and, Decides-like}
use Rattle.std.specs.Option.{MatchOption}
use Rattle.fission_ids.specs.declared.context.ContextId.{ContextId}
use Rattle.fission_ids.specs.declared.window.WindowId.{WindowId}
use Rattle.fission_ids.specs.Ids.{AreInRange, are_in_range, id_number, IsContextId, context_number, IsWindowId, window_number}
use Rattle.report_words.specs.Values.{creator_of, serial_of, made_in_range, context_of_number, window_of_number}

some_if : {X : Type 0} (b : Bool) (x : X) → b ≡ true → Some x ≡ cond b (Some x) None
some_if true x e = refl
some_if false x e = cc

none_if : {X : Type 0} (b : Bool) (x : X) → (b ≡ true → ⊥) → None ≡ cond b (Some x) None
none_if true x never = absurd (never refl)
none_if false x _ = refl

nat_le-Decides : (a b : ℕ) → Decides (nat_le a b) (a ≤ b)
nat_le-Decides a b = (leb-true a b, le-leb a b)

in_range-Decides : (creator serial : ℕ) → Decides (are_in_range creator serial) (AreInRange creator serial)
in_range-Decides creator serial =
    Decides-like (are_in_range creator serial) (λ ((a, b), c). (a, b, c)) (λ (a, b, c). ((a, b), c))
    (Decides-and _ _ (Decides-and _ _ (nat_le-Decides creator 16) (nat_le-Decides 1 serial)) (nat_le-Decides serial 4294967295))

-- the numbers in a number, put together again
number_of_parts : (n : ℕ) → id_number (creator_of n) (serial_of n) ≡ n
number_of_parts n = omega arith

-- no numbers in range have this number
pub made-none : {X : Type 0} (make : ℕ → ℕ → X) (n : ℕ) → ((creator serial : ℕ) → AreInRange creator serial → id_number creator serial ≢ n) → None ≡ made_in_range make n
made-none make n never =
    none_if _ _ (λ e. never (creator_of n) (serial_of n) ((in_range-Decides (creator_of n) (serial_of n)).0 e) (number_of_parts n))

creator_in : (creator serial n : ℕ) → AreInRange creator serial → id_number creator serial ≡ n → creator ≡ creator_of n
creator_in creator serial n fits e = omega arith

serial_in : (creator serial n : ℕ) → AreInRange creator serial → id_number creator serial ≡ n → serial ≡ serial_of n
serial_in creator serial n fits e = omega arith

-- these numbers in range have this number
pub made-some : {X : Type 0} (make : ℕ → ℕ → X) (n creator serial : ℕ) → AreInRange creator serial → id_number creator serial ≡ n → Some (make creator serial) ≡ made_in_range make n
made-some make n creator serial fits e =
    let c : creator ≡ creator_of n = creator_in creator serial n fits e in
    let s : serial ≡ serial_of n = serial_in creator serial n fits e in
    let here : are_in_range (creator_of n) (serial_of n) ≡ true = ap₂ are_in_range (sym c) (sym s) ∙ (in_range-Decides creator serial).1 fits in
    ap₂ (λ (a b : ℕ). Some (make a b)) c s ∙ some_if _ _ here

-- the window in range with this number, if there is one
pub window_numbered-is : (n : ℕ) (r : Option WindowId) → MatchOption r ((i : WindowId) → IsWindowId i → window_number i ≢ n) (λ i. IsWindowId i × (window_number i ≡ n)) → r ≡ window_of_number n
unfolding window_of_number
window_numbered-is n None never = made-none (λ creator serial. record { creator = creator; serial = serial }) n (λ creator serial. never (record { creator = creator; serial = serial }))
window_numbered-is n (Some i) (fits, e) = made-some (λ creator serial. record { creator = creator; serial = serial }) n i.creator i.serial fits e

-- the context in range with this number, if there is one
pub context_numbered-is : (n : ℕ) (r : Option ContextId) → MatchOption r ((i : ContextId) → IsContextId i → context_number i ≢ n) (λ i. IsContextId i × (context_number i ≡ n)) → r ≡ context_of_number n
unfolding context_of_number
context_numbered-is n None never = made-none (λ creator serial. record { creator = creator; serial = serial }) n (λ creator serial. never (record { creator = creator; serial = serial }))
context_numbered-is n (Some i) (fits, e) = made-some (λ creator serial. record { creator = creator; serial = serial }) n i.creator i.serial fits e
