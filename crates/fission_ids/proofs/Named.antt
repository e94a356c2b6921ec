-- What texts name.
use Rattle.std.proofs.Common.{◌≡◌, ◌≢◌, ℕ, ◌<◌, ◌≤◌, Bool, true, false, cond, ◌&&◌, List, [], ◌∷◌, ◌++◌, length, get_or, drop, Option, Some, None, sym, ◌∙◌, ap, subst, refl, arith, length-append}
use Rattle.std.specs.Prelude.{decimal, codes, nat_le}
use Rattle.std.specs.Bool.{Decides}
use Rattle.std.specs.List.{before_first, after_first, position_or_len}
use Rattle.std.specs.Option.{option_map}
use Rattle.std.specs.Str.{bytes_eq}
use Rattle.std.specs.Str.Parse.{digits_value}
use Rattle.std.proofs.lemmas.Bool.{leb-true, le-leb}
use Rattle.std.proofs.lemmas.Bool.Decides.{Decides-and, Decides-like, nat_tests}
use Rattle.std.proofs.lemmas.Slice.Eq.{bytes_eq-Decides}
use Rattle.std.proofs.lemmas.Fmt.{digits_value-decimal}
use Rattle.std.proofs.lemmas.List.{get_or_append_left}
use Rattle.std.proofs.lemmas.List.Sums.{position_or_len_is}
use Rattle.std.proofs.Math.Seq.{take-append_seam, drop-append-add, get_or-append_seam}
use Rattle.fission_ids.specs.declared.context.ContextId.{ContextId}
use Rattle.fission_ids.specs.declared.group.GroupId.{GroupId}
use Rattle.fission_ids.specs.Ids.{AreInRange, IsGroupId, IsContextId, context_of, context_text, are_in_range, numbers_text, is_dot, creator_in, serial_in, numbers_of, group_of, group_text}
use Rattle.fission_ids.proofs.Printed.{digits, no_dot-decimal}

-- an optional value by a test
some_if : {X : Type 0} (b : Bool) (x : X) → b ≡ true → cond b (Some x) None ≡ Some x
some_if true x e = refl
some_if false x e = cc

none_if : {X : Type 0} (b : Bool) (x : X) → (b ≡ true → ⊥) → cond b (Some x) None ≡ None
none_if true x never = absurd (never refl)
none_if false x _ = refl

from_if : {X : Type 0} (b : Bool) (x y : X) → cond b (Some x) None ≡ Some y → (b ≡ true) × (x ≡ y)
from_if true x y e = (refl, cc)
from_if false x y e = cc

nat_le-Decides : (a b : ℕ) → Decides (nat_le a b) (a ≤ b)
nat_le-Decides a b = (leb-true a b, le-leb a b)

are_in_range-Decides : (creator serial : ℕ) → Decides (are_in_range creator serial) (AreInRange creator serial)
are_in_range-Decides creator serial =
    Decides-like (are_in_range creator serial) (λ ((a, b), c). (a, b, c)) (λ (a, b, c). ((a, b), c))
    (Decides-and _ _ (Decides-and _ _ (nat_le-Decides creator 16) (nat_le-Decides 1 serial)) (nat_le-Decides serial 4294967295))

-- the test of the range and of the text
are_named-Decides : (creator serial : ℕ) (bs text : List ℕ) → Decides (are_in_range creator serial && bytes_eq bs text) (AreInRange creator serial × (bs ≡ text))
are_named-Decides creator serial bs text = Decides-and _ _ (are_in_range-Decides creator serial) (bytes_eq-Decides bs text)

-- the dot behind a printed number is the first
first_dot : (xs ys : List ℕ) → ((i : ℕ) → i < length xs → get_or xs i 0 ≢ 46) → position_or_len is_dot (xs ++ 46 ∷ ys) ≡ length xs
first_dot xs ys none = position_or_len_is is_dot (xs ++ 46 ∷ ys) (length xs) 0 (omega (arith, length-append xs (46 ∷ ys)))
    (λ k low. rw (get_or_append_left xs (46 ∷ ys) 0 k low) (let other = none k low in grind (arith, nat_tests)))
    (λ _. rw (get_or-append_seam xs 46 ys 0) refl)

creator_in-dotted : (creator serial : ℕ) → AreInRange creator serial → digits_value 10 (before_first is_dot (numbers_text creator serial)) ≡ creator
creator_in-dotted creator serial fits =
    rw (first_dot (decimal creator) (decimal serial) (no_dot-decimal creator (omega arith)), take-append_seam (decimal creator) (46 ∷ decimal serial))
    (digits_value-decimal digits creator (omega arith))

serial_in-dotted : (creator serial : ℕ) → AreInRange creator serial → digits_value 10 (after_first is_dot (numbers_text creator serial)) ≡ serial
serial_in-dotted creator serial fits =
    rw (first_dot (decimal creator) (decimal serial) (no_dot-decimal creator (omega arith)), drop-append-add (decimal creator) (46 ∷ decimal serial) 1)
    (digits_value-decimal digits serial (omega arith))

-- the text of numbers in range names them
pub numbers_of-dotted : (letter : ℕ) (bs : List ℕ) (creator serial : ℕ) → AreInRange creator serial → bs ≡ letter ∷ numbers_text creator serial → numbers_of (letter ∷ []) bs ≡ Some (creator, serial)
unfolding numbers_of
numbers_of-dotted letter bs creator serial fits e =
    rw (e, creator_in-dotted creator serial fits, serial_in-dotted creator serial fits)
    (some_if _ (creator, serial) ((are_named-Decides creator serial (letter ∷ numbers_text creator serial) (letter ∷ numbers_text creator serial)).1 (fits, refl)))

-- a text of no numbers in range names none
pub numbers_of-none : (letter : ℕ) (bs : List ℕ) → ((creator serial : ℕ) → AreInRange creator serial → bs ≡ letter ∷ numbers_text creator serial → ⊥) → numbers_of (letter ∷ []) bs ≡ None
unfolding numbers_of
numbers_of-none letter bs never = none_if _ _ (λ e. let parts = (are_named-Decides (creator_in bs) (serial_in bs) bs _).0 e in never (creator_in bs) (serial_in bs) parts.0 parts.1)

-- what is named is in range, and the text is that of it
pub numbers_of-some : (letter : ℕ) (bs : List ℕ) (numbers : ℕ × ℕ) → numbers_of (letter ∷ []) bs ≡ Some numbers → AreInRange numbers.0 numbers.1 × (bs ≡ letter ∷ numbers_text numbers.0 numbers.1)
unfolding numbers_of
numbers_of-some letter bs numbers e =
    let parts = from_if _ _ numbers e in
    subst (λ (n : ℕ × ℕ). AreInRange n.0 n.1 × (bs ≡ letter ∷ numbers_text n.0 n.1)) parts.1 ((are_named-Decides (creator_in bs) (serial_in bs) bs _).0 parts.0)

-- the same for what is made of the numbers
pub named_none : {X : Type 0} (make : ℕ × ℕ → X) (letter : ℕ) (bs : List ℕ) (r : Option X) → r ≡ None → ((creator serial : ℕ) → AreInRange creator serial → bs ≡ letter ∷ numbers_text creator serial → ⊥) → r ≡ option_map make (numbers_of (letter ∷ []) bs)
named_none make letter bs r e never = e ∙ ap (option_map make) (sym (numbers_of-none letter bs never))

pub named_some : {X : Type 0} (make : ℕ × ℕ → X) (letter : ℕ) (bs : List ℕ) (creator serial : ℕ) → AreInRange creator serial → bs ≡ letter ∷ numbers_text creator serial → Some (make (creator, serial)) ≡ option_map make (numbers_of (letter ∷ []) bs)
named_some make letter bs creator serial fits e = ap (option_map make) (sym (numbers_of-dotted letter bs creator serial fits e))

-- the test of a group's number and text
is_group-Decides : (number : ℕ) (bs text : List ℕ) → Decides (nat_le 1 number && nat_le number 4294967295 && bytes_eq bs text) (((1 ≤ number) × (number ≤ 4294967295)) × (bs ≡ text))
is_group-Decides number bs text = Decides-and _ _ (Decides-and _ _ (nat_le-Decides 1 number) (nat_le-Decides number 4294967295)) (bytes_eq-Decides bs text)

-- the text of a group in range names it
pub group_of-text : (bs : List ℕ) (i : GroupId) → IsGroupId i → bs ≡ group_text i → group_of bs ≡ Some i
unfolding group_of
group_of-text bs i fits e =
    rw (e, digits_value-decimal digits i.0 (omega arith))
    (some_if _ i ((is_group-Decides i.0 (group_text i) (group_text i)).1 (fits, refl)))

-- the text of no group in range names none
pub group_of-none : (bs : List ℕ) → ((i : GroupId) → IsGroupId i → bs ≡ group_text i → ⊥) → group_of bs ≡ None
unfolding group_of
group_of-none bs never =
    let number : ℕ = digits_value 10 (drop 1 bs) in
    none_if _ _ (λ e. let parts = (is_group-Decides number bs (codes "g" ++ decimal number)).0 e in never (record { 0 = number }) parts.0 parts.1)

-- a context that is named is in range, and the text is that of it
pub context_of-some : (bs : List ℕ) (x : ContextId) → context_of bs ≡ Some x → IsContextId x × (bs ≡ context_text x)
unfolding context_of
context_of-some bs x e = elim (numbers_of (codes "c") bs) as (λ o. numbers_of (codes "c") bs ≡ o → option_map made o ≡ Some x → IsContextId x × (bs ≡ context_text x))
    [ None ↦ λ _ none. cc | Some n ↦ λ some same. let made_of : made n ≡ x = cc in subst (λ y. IsContextId y × (bs ≡ context_text y)) made_of (numbers_of-some 99 bs n some) ] refl e
  where
    made : ℕ × ℕ → ContextId
    made n = record { creator = n.0; serial = n.1 }
