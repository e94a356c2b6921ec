-- Numbers as they are printed.
use Rattle.std.proofs.Common.{◌≡◌, ◌≢◌, ℕ, ◌^◌, ◌<◌, List, length, get_or, Some, Result, Ok, Err, sym, ◌∙◌, ap, subst, arith, refl, zero, suc}
use Rattle.std.specs.Prelude.{decimal}
use Rattle.std.specs.Result.{result_ok}
use Rattle.std.specs.Str.Parse.{ParsesUnsigned, AllDigits, digits_value}
use Rattle.std.proofs.lemmas.Fmt.{parse-decimal, decimal_digit, first_decimal, digits_decimal, decimal_injective, decimal-digits_value}
use Rattle.std.proofs.lemmas.Str.Parse.{IsNumeralModel, numerals_by_value, tells_digits, parse_plain, not_in_digits}
use Rattle.fission_ids.specs.Ids.{IsPlain}

-- the digits of std
pub digits : IsNumeralModel (AllDigits 10) (digits_value 10)
digits = numerals_by_value (AllDigits 10) tells_digits

pub plain-decimal : (n : ℕ) → n < 2 ^ 64 → IsPlain (decimal n)
plain-decimal zero small = subst IsPlain (sym (decimal_digit 0 (omega arith))) ((λ e. omega (arith, e)), (λ e. refl))
plain-decimal (suc n) small = let first = first_decimal (suc n) (omega arith) small in (omega arith, λ e. absurd (omega arith))

-- what `parse` reads in plain digits is the number that is printed so
pub decimal-read : {E : Type 0} (bs : List ℕ) (r : Result ℕ E) (n : ℕ) → ParsesUnsigned 32 10 bs r → Some n ≡ result_ok r → IsPlain bs → bs ≡ decimal n
decimal-read {E} bs (Ok m) n h e plain =
    let read : (AllDigits 10 bs × (0 < length bs) × (digits_value 10 bs < 2 ^ 32)) × (m ≡ digits_value 10 bs) = parse_plain digits {E = E} 32 bs (Ok m) h plain.0 in
    let same : m ≡ n = cc in
    sym (decimal-digits_value digits bs read.0.0 read.0.1 plain.1 (omega arith)) ∙ ap decimal (sym read.1 ∙ same)
decimal-read bs (Err x) n h e plain = cc

-- each number that is printed is read
pub read-decimal : {E : Type 0} (bs : List ℕ) (r : Result ℕ E) (n : ℕ) → ParsesUnsigned 32 10 bs r → n < 2 ^ 32 → bs ≡ decimal n → result_ok r ≡ Some n
read-decimal bs r n h small e = ap result_ok (parse-decimal 32 n bs r small (omega arith) e h)

-- a printed number has no dot
pub no_dot-decimal : (n : ℕ) → n < 2 ^ 64 → (i : ℕ) → i < length (decimal n) → get_or (decimal n) i 0 ≢ 46
no_dot-decimal n small = not_in_digits digits (decimal n) 46 (digits_decimal digits n small) (λ h. omega arith)

pub same_printed : (bs : List ℕ) (m n : ℕ) → m < 2 ^ 32 → n < 2 ^ 32 → bs ≡ decimal m → bs ≡ decimal n → m ≡ n
same_printed bs m n small small' e e' = decimal_injective m n (omega arith) (omega arith) (sym e ∙ e')
