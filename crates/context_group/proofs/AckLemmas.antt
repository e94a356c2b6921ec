-- What is awaited.
use Rattle.std.proofs.Common.{◌≡◌, ℕ, suc, ◌+◌, ◌^◌, ◌<◌, ◌≤◌, ◌==◌, Bool, true, false, not, cond, ◌&&◌, ◌||◌, if◌then◌else◌, nat_lt, List, [], ◌∷◌, ◌++◌, length, get_or, set, arith, sym, subst, ap, ap₂, ◌∙◌, refl}
use Rattle.std.specs.List.{list_any, position_or_len}
use Rattle.std.proofs.lemmas.Bool.{ltb-false}
use Rattle.std.proofs.lemmas.Bool.Decides.{nat_tests}
use Rattle.std.proofs.lemmas.Nat.{or_lt}
use Rattle.fission_ids.specs.Ids.{same_context}
use Rattle.fission_ids.specs.ProcSet.{has}
use Rattle.fission_ids.specs.declared.context.ContextId.{ContextId}
use Rattle.fission_ids.specs.declared.process.ProcSet.{ProcSet}
use Rattle.context_group.specs.declared.acks.Awaited.{Awaited}
use Rattle.context_group.specs.Sets.{has_any, union}
use Rattle.context_group.specs.Acks.{acks_with, acks_without, entry_without, is_of, is_owed, is_due, AreSoundAcks}
use Rattle.context_group.proofs.SetLemmas.{fits-without, has-union, has-without, has_unowed, any-union}

-- an entry as p leaves it
abbrev pub left : ℕ → (Awaited → Bool) → Awaited → Awaited
left p test a = if test a then entry_without p a else a

-- an entry with more processes
abbrev pub joined : ProcSet → Awaited → Awaited
joined who a = record a { from = union a.from who }

-- one of two tests
or_false : (a b : Bool) → (a || b) ≡ false → (a ≡ false) × (b ≡ false)
or_false true b e = absurd (cc)
or_false false b e = (refl, e)

-- ids of contexts
same_sym : (x y : ContextId) → same_context x y ≡ same_context y x
same_sym x y = grind (arith, nat_tests)

same_through : (a x y : ContextId) → same_context a x ≡ true → same_context a y ≡ same_context x y
same_through a x y same = grind (arith, nat_tests)

-- the context of an entry stays
left-context : (p : ℕ) (test : Awaited → Bool) (a : Awaited) → (left p test a).context ≡ a.context
left-context p test a = elim (test a) as (λ b. (if b then entry_without p a else a).context ≡ a.context) [ true ↦ refl | false ↦ refl ]

left-fits : (p : ℕ) (test : Awaited → Bool) (a : Awaited) → a.from.0 < 2 ^ 16 → (left p test a).from.0 < 2 ^ 16
left-fits p test a fits = elim (test a) as (λ b. (if b then entry_without p a else a).from.0 < 2 ^ 16) [ true ↦ fits-without a.from p fits | false ↦ fits ]

-- what no entry passes, none passes that is left
lacks-without : (p : ℕ) (test : Awaited → Bool) (x : ContextId) (acks : List Awaited) → list_any (is_of x) acks ≡ false → list_any (is_of x) (acks_without p test acks) ≡ false
lacks-without p test x [] none = refl
lacks-without p test x (a ∷ acks) none =
    let parts : (is_of x a ≡ false) × (list_any (is_of x) acks ≡ false) = or_false _ _ none in
    let rest : list_any (is_of x) (acks_without p test acks) ≡ false = lacks-without p test x acks parts.1 in
    let here : is_of x (left p test a) ≡ false = ap (λ c. same_context c x) (left-context p test a) ∙ parts.0 in
    elim (is_owed (left p test a)) as (λ b. list_any (is_of x) (cond b (left p test a ∷ acks_without p test acks) (acks_without p test acks)) ≡ false) [
      | true ↦ ap₂ (λ b c. b || c) here rest
      | false ↦ rest
    ]

-- what is left is sound
pub sound-without : (p : ℕ) (test : Awaited → Bool) (acks : List Awaited) → AreSoundAcks acks → AreSoundAcks (acks_without p test acks)
sound-without p test [] sound = tt
sound-without p test (a ∷ acks) sound =
    let rest : AreSoundAcks (acks_without p test acks) = sound-without p test acks sound.3 in
    let lacks : list_any (is_of (left p test a).context) (acks_without p test acks) ≡ false =
    ap (λ c. list_any (is_of c) (acks_without p test acks)) (left-context p test a) ∙ lacks-without p test a.context acks sound.2 in
    elim (is_owed (left p test a)) as (λ b. is_owed (left p test a) ≡ b → AreSoundAcks (cond b (left p test a ∷ acks_without p test acks) (acks_without p test acks))) [
      | true ↦ λ owed. (left-fits p test a sound.0, owed, lacks, rest)
      | false ↦ λ _. rest
    ] refl

-- where nothing is awaited, nothing is left
pub none-without : (p : ℕ) (test : Awaited → Bool) (acks : List Awaited) → nat_lt 0 (length acks) ≡ false → nat_lt 0 (length (acks_without p test acks)) ≡ false
none-without p test [] none = refl
none-without p test (a ∷ acks) none = absurd (omega (arith, ltb-false _ _ none))

lacks-with : (who : ProcSet) (x y : ContextId) (acks : List Awaited) → same_context x y ≡ false → list_any (is_of y) acks ≡ false → list_any (is_of y) (acks_with who x acks) ≡ false
lacks-with who x y [] other none = elim (has_any who) as (λ b. list_any (is_of y) (if b then record { context = x; from = who } ∷ [] else []) ≡ false) [ true ↦ ap (λ b. b || false) other | false ↦ refl ]
lacks-with who x y (a ∷ acks) other none =
    let parts : (is_of y a ≡ false) × (list_any (is_of y) acks ≡ false) = or_false _ _ none in
    elim (is_of x a) as (λ b. list_any (is_of y) (if b then joined who a ∷ acks else a ∷ acks_with who x acks) ≡ false) [
      | true ↦ none
      | false ↦ ap₂ (λ b c. b || c) parts.0 (lacks-with who x y acks other parts.1)
    ]

-- what is awaited more is sound
pub sound-with : (who : ProcSet) (x : ContextId) (acks : List Awaited) → who.0 < 2 ^ 16 → AreSoundAcks acks → AreSoundAcks (acks_with who x acks)
sound-with who x [] fits sound =
    elim (has_any who) as (λ b. has_any who ≡ b → AreSoundAcks (if b then record { context = x; from = who } ∷ [] else [])) [
      | true ↦ λ some. (fits, some, refl, tt)
      | false ↦ λ _. tt
    ] refl
sound-with who x (a ∷ acks) fits sound =
    elim (is_of x a) as (λ b. is_of x a ≡ b → AreSoundAcks (if b then joined who a ∷ acks else a ∷ acks_with who x acks)) [
      | true ↦ λ _. (or_lt 16 a.from.0 who.0 sound.0 fits, any-union a.from who sound.1, sound.2, sound.3)
      | false ↦ λ other. (sound.0, sound.1, lacks-with who x a.context acks (same_sym x a.context ∙ other) sound.2, sound-with who x acks fits sound.3)
    ] refl

-- the place of an entry of x is where more is awaited of it
pub with_found : (who : ProcSet) (x : ContextId) (acks : List Awaited) (d : Awaited) → position_or_len (is_of x) acks < length acks
    → acks_with who x acks ≡ set acks (position_or_len (is_of x) acks) (joined who (get_or acks (position_or_len (is_of x) acks) d))
with_found who x [] d below = absurd (omega arith)
with_found who x (a ∷ acks) d below =
    let n : ℕ = position_or_len (is_of x) acks in
    elim (is_of x a) as (λ b. cond (not b) (1 + n) 0 < length (a ∷ acks) → (if b then joined who a ∷ acks else a ∷ acks_with who x acks) ≡ set (a ∷ acks) (cond (not b) (1 + n) 0) (joined who (get_or (a ∷ acks) (cond (not b) (1 + n) 0) d))) [
      | true ↦ λ _. refl
      | false ↦ λ lt.
          let one : suc n ≡ 1 + n = omega arith in
          ap (λ l. a ∷ l) (with_found who x acks d (omega arith)) ∙ ap (λ m. set (a ∷ acks) m (joined who (get_or (a ∷ acks) m d))) one
    ] below

-- the same as `add` sees it
pub add_found : (who : ProcSet) (x : ContextId) (acks items slice : List Awaited) (place : ℕ) (e : Awaited) (more : ProcSet) → slice ≡ items → items ≡ acks
    → place ≡ position_or_len (is_of x) slice → place < length items → e ≡ get_or items place e → more ≡ union e.from who
    → set items place (record { context = e.context; from = more }) ≡ acks_with who x acks
add_found who x acks items slice place e more same view at below is joins =
    let where_it_is : place ≡ position_or_len (is_of x) acks = at ∙ ap (position_or_len (is_of x)) (same ∙ view) in
    let below' : position_or_len (is_of x) acks < length acks = subst (λ l. position_or_len (is_of x) acks < length l) view (subst (λ n. n < length items) where_it_is below) in
    let found : acks_with who x acks ≡ set acks (position_or_len (is_of x) acks) (joined who (get_or acks (position_or_len (is_of x) acks) e)) = with_found who x acks e below' in
    let entry : e ≡ get_or acks (position_or_len (is_of x) acks) e = is ∙ ap₂ (λ l n. get_or l n e) view where_it_is in
    let made : record { context = e.context; from = more } ≡ joined who e = ap (λ f. record e { from = f }) joins in
    ap₂ (λ l n. set l n (record { context = e.context; from = more })) view where_it_is
    ∙ ap (set acks (position_or_len (is_of x) acks)) (made ∙ ap (joined who) entry)
    ∙ sym found

behind : (who : ProcSet) (a e : Awaited) (acks : List Awaited) → (a ∷ (if has_any who then acks ++ e ∷ [] else acks)) ≡ (if has_any who then a ∷ acks ++ e ∷ [] else a ∷ acks)
behind who a e acks = elim (has_any who) as (λ b. (a ∷ (if b then acks ++ e ∷ [] else acks)) ≡ (if b then a ∷ acks ++ e ∷ [] else a ∷ acks)) [ true ↦ refl | false ↦ refl ]

-- where there is none, one comes behind the others
pub with_missing : (who : ProcSet) (x : ContextId) (acks : List Awaited) → length acks ≤ position_or_len (is_of x) acks
    → acks_with who x acks ≡ (if has_any who then acks ++ record { context = x; from = who } ∷ [] else acks)
with_missing who x [] past = refl
with_missing who x (a ∷ acks) past =
    let n : ℕ = position_or_len (is_of x) acks in
    let e : Awaited = record { context = x; from = who } in
    elim (is_of x a) as (λ b. length (a ∷ acks) ≤ cond (not b) (1 + n) 0 → (if b then joined who a ∷ acks else a ∷ acks_with who x acks) ≡ (if has_any who then a ∷ acks ++ e ∷ [] else a ∷ acks)) [
      | true ↦ λ le. absurd (omega arith)
      | false ↦ λ le. ap (λ l. a ∷ l) (with_missing who x acks (omega arith)) ∙ behind who a e acks
    ] past

-- the same as `add` sees it
pub add_missing : (who : ProcSet) (x : ContextId) (acks items slice : List Awaited) (place : ℕ) (some : Bool) → slice ≡ items → items ≡ acks
    → place ≡ position_or_len (is_of x) slice → length items ≤ place → some ≡ has_any who
    → (if some then items ++ record { context = x; from = who } ∷ [] else items) ≡ acks_with who x acks
add_missing who x acks items slice place some same view at past is =
    let where_it_is : place ≡ position_or_len (is_of x) acks = at ∙ ap (position_or_len (is_of x)) (same ∙ view) in
    let past' : length acks ≤ position_or_len (is_of x) acks = subst (λ l. length l ≤ position_or_len (is_of x) acks) view (subst (λ n. length items ≤ n) where_it_is past) in
    ap₂ (λ b l. if b then l ++ record { context = x; from = who } ∷ [] else l) is view ∙ sym (with_missing who x acks past')

-- who owes what is left
owes_struck : (of at has' : Bool) → (of && (not at && has')) ≡ (not (at && true) && (of && has'))
owes_struck of true has' = elim of as (λ b. (b && (not true && has')) ≡ (not (true && true) && (b && has'))) [ true ↦ refl | false ↦ refl ]
owes_struck of false has' = refl

owes_kept : (at f : Bool) → f ≡ (not (at && false) && f)
owes_kept true f = refl
owes_kept false f = refl

owes-left : (p q : ℕ) (test : Awaited → Bool) (y : ContextId) (a : Awaited) → a.from.0 < 2 ^ 16 → is_due q y (left p test a) ≡ (not (q == p && test a) && is_due q y a)
owes-left p q test y a fits =
    elim (test a) as (λ b. is_due q y (if b then entry_without p a else a) ≡ (not (q == p && b) && is_due q y a)) [
      | true ↦ ap (λ b. is_of y a && b) (has-without a.from p q fits) ∙ owes_struck (is_of y a) (q == p) (has a.from q)
      | false ↦ owes_kept (q == p) (is_due q y a)
    ]

and-none : (a b : Bool) → b ≡ false → (a && b) ≡ false
and-none true b e = e
and-none false b e = refl

-- an entry that nobody owes isn't missed
any_kept : (q : ℕ) (y : ContextId) (a : Awaited) (acks : List Awaited) → list_any (is_due q y) (cond (is_owed a) (a ∷ acks) acks) ≡ (is_due q y a || list_any (is_due q y) acks)
any_kept q y a acks =
    elim (is_owed a) as (λ b. is_owed a ≡ b → list_any (is_due q y) (cond b (a ∷ acks) acks) ≡ (is_due q y a || list_any (is_due q y) acks)) [
      | true ↦ λ _. refl
      | false ↦ λ none. sym (ap (λ b. b || list_any (is_due q y) acks) (and-none (is_of y a) (has a.from q) (has_unowed a.from q none)))
    ] refl

and-or : (k a b : Bool) → ((k && a) || (k && b)) ≡ (k && (a || b))
and-or true a b = refl
and-or false a b = refl

any-without : (p q : ℕ) (test : Awaited → Bool) (y : ContextId) (k : Bool) → ((a : Awaited) → (not (q == p && test a) && is_due q y a) ≡ (k && is_due q y a))
    → (acks : List Awaited) → AreSoundAcks acks → list_any (is_due q y) (acks_without p test acks) ≡ (k && list_any (is_due q y) acks)
any-without p q test y k same [] sound = sym (and-none k false refl)
any-without p q test y k same (a ∷ acks) sound =
    any_kept q y (left p test a) (acks_without p test acks)
    ∙ ap₂ (λ b c. b || c) (owes-left p q test y a sound.0 ∙ same a) (any-without p q test y k same acks sound.3)
    ∙ and-or k (is_due q y a) (list_any (is_due q y) acks)

-- a test of the entry's context, where the entry is of y
struck_of : (at of has' same : Bool) (of' : Bool) → (of ≡ true → of' ≡ same) → (not (at && of') && (of && has')) ≡ (not (at && same) && (of && has'))
struck_of at true has' same of' is = ap (λ b. not (at && b) && has') (is refl)
struck_of at false has' same of' is = and-none (not (at && of')) false refl ∙ sym (and-none (not (at && same)) false refl)

-- who owes an acknowledgement once p gave that of x
pub any-acked : (p q : ℕ) (x y : ContextId) (acks : List Awaited) → AreSoundAcks acks
    → list_any (is_due q y) (acks_without p (is_of x) acks) ≡ (not (q == p && same_context x y) && list_any (is_due q y) acks)
any-acked p q x y = any-without p q (is_of x) y (not (q == p && same_context x y))
    (λ a. struck_of (q == p) (is_of y a) (has a.from q) (same_context x y) (is_of x a) (λ of. same_through a.context y x of ∙ same_sym y x))

struck_all : (at f : Bool) → (not (at && true) && f) ≡ (not at && f)
struck_all true f = refl
struck_all false f = refl

-- who owes an acknowledgement once p owes none
pub any-released : (p q : ℕ) (y : ContextId) (acks : List Awaited) → AreSoundAcks acks → list_any (is_due q y) (acks_without p (λ _. true) acks) ≡ (not (q == p) && list_any (is_due q y) acks)
any-released p q y = any-without p q (λ _. true) y (not (q == p)) (λ a. struck_all (q == p) (is_due q y a))

or_inside : (of a b c : Bool) → ((of && (a || b)) || c) ≡ ((of && b) || ((of && a) || c))
or_inside true true true c = refl
or_inside true true false c = refl
or_inside true false true c = refl
or_inside true false false c = refl
or_inside false a b c = refl

or_behind : (a b c : Bool) → (a || (b || c)) ≡ (b || (a || c))
or_behind true true c = refl
or_behind true false c = refl
or_behind false b c = refl

-- who owes an acknowledgement once these owe that of x as well
pub any-with : (who : ProcSet) (q : ℕ) (x y : ContextId) (acks : List Awaited) → list_any (is_due q y) (acks_with who x acks) ≡ ((same_context x y && has who q) || list_any (is_due q y) acks)
any-with who q x y [] =
    elim (has_any who) as (λ b. has_any who ≡ b → list_any (is_due q y) (if b then record { context = x; from = who } ∷ [] else []) ≡ ((same_context x y && has who q) || false)) [
      | true ↦ λ _. refl
      | false ↦ λ none. sym (ap (λ b. b || false) (and-none (same_context x y) (has who q) (has_unowed who q none)))
    ] refl
any-with who q x y (a ∷ acks) =
    elim (is_of x a) as (λ b. is_of x a ≡ b → list_any (is_due q y) (if b then joined who a ∷ acks else a ∷ acks_with who x acks) ≡ ((same_context x y && has who q) || (is_due q y a || list_any (is_due q y) acks))) [
      | true ↦ λ is.
          ap (λ b. (is_of y a && b) || list_any (is_due q y) acks) (has-union a.from who q)
          ∙ or_inside (is_of y a) (has a.from q) (has who q) (list_any (is_due q y) acks)
          ∙ ap (λ b. (b && has who q) || (is_due q y a || list_any (is_due q y) acks)) (same_through a.context x y is)
      | false ↦ λ _.
          ap (λ b. is_due q y a || b) (any-with who q x y acks)
          ∙ or_behind (is_due q y a) (same_context x y && has who q) (list_any (is_due q y) acks)
    ] refl
