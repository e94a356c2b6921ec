-- A fault stands at its byte, whatever follows it.
use Rattle.std.proofs.Common.{slice_index, ◌≡◌, ◌⊎◌, inl, inr, ℕ, zero, suc, ◌+◌, ◌<◌, ◌≤◌, ◌==◌, Bool, true, false, cond, not, ◌&&◌, List, [], ◌∷◌, ◌++◌, length, take, drop, nat_eq, nat_lt, bytes_eq, codes, eqb-true, Option, None, Some, option_map, unwrap_or, refl, sym, ap, ap₂, ◌∙◌, arith, length-append, append_assoc, take-append-drop}
use Rattle.std.specs.Cmp.Lexicographic.{pointwise}
use Rattle.std.specs.Option.{option_or}
use Rattle.std.specs.List.{before_first, position_or_len, prefix_len, starts_with}
use Rattle.std.proofs.Math.Seq.{drop-append_seam, take-append_seam}
use Rattle.std.proofs.lemmas.List.{drop-append-le, drop-drop, length-drop, length-take, take-append-le}
use Rattle.std.proofs.lemmas.List.Folds.{length-prefix_len}
use Rattle.std.proofs.lemmas.List.Sums.{prefix_len-le-length}
use Rattle.std.proofs.lemmas.Bool.{cases_lt}
use Rattle.match_pattern.specs.Globs.{place_of}
use Rattle.match_pattern.specs.Reading.{all_urls, break_behind, fault_of, host_break, host_of, host_start, is_name_byte, is_path_byte, is_scheme, is_slash, name_break, named_host_break, path_break, path_of, scheme_len, scheme_of, separator, FaultsStand}
use Rattle.match_pattern.specs.declared.fault.PatternFault.{PatternFault}
use Rattle.match_pattern.specs.declared.fault.PatternFault.TheVariants.{NoScheme, BadHost, BadPath, OutOfMemory}
use Rattle.match_pattern.proofs.Faults.{fault_of_scheme, fault_without_separator, no_fault_of_all_urls, of_parts}
use Rattle.match_pattern.proofs.Breaks.{begun}
use Rattle.match_pattern.proofs.Places.{place_starts}
use Rattle.match_pattern.proofs.Lists.{number_turned}
use Rattle.match_pattern.proofs.Spelled.{scheme_here}
use Rattle.match_pattern.proofs.Spelt.{stands_first, text_of, StandsFirst}

-- ---- lists

-- what is counted up to a byte at most doesn't rest on what follows the byte
count_by : (test : ℕ → Bool) (b : ℕ) (rest more : List ℕ) (passes : Bool) → test b ≡ passes → prefix_len test (b ∷ rest) ≤ 0 → prefix_len test (b ∷ more) ≡ prefix_len test (b ∷ rest)
count_by test b rest more true is few = absurd (omega (arith, few, ap (λ c. cond c (1 + prefix_len test rest) 0) is))
count_by test b rest more false is few =
    ap (λ c. cond c (1 + prefix_len test more) 0) is ∙ sym (ap (λ c. cond c (1 + prefix_len test rest) 0) is)

count_more : (test : ℕ → Bool) (c : ℕ) (xs ys : List ℕ) (n : ℕ) (passes : Bool) → test c ≡ passes → prefix_len test (c ∷ xs) ≤ suc n
    → (prefix_len test xs ≤ n → prefix_len test ys ≡ prefix_len test xs) → prefix_len test (c ∷ ys) ≡ prefix_len test (c ∷ xs)
count_more test c xs ys n true is few rest =
    let one : prefix_len test (c ∷ xs) ≡ 1 + prefix_len test xs = ap (λ d. cond d (1 + prefix_len test xs) 0) is in
    ap (λ d. cond d (1 + prefix_len test ys) 0) is ∙ ap (λ k. 1 + k) (rest (omega (arith, few, one))) ∙ sym one
count_more test c xs ys n false is few rest =
    ap (λ d. cond d (1 + prefix_len test ys) 0) is ∙ sym (ap (λ d. cond d (1 + prefix_len test xs) 0) is)

count_stands : (test : ℕ → Bool) (front rest more : List ℕ) (b : ℕ) → prefix_len test (front ++ b ∷ rest) ≤ length front
    → prefix_len test (front ++ b ∷ more) ≡ prefix_len test (front ++ b ∷ rest)
count_stands test [] rest more b few = count_by test b rest more (test b) refl few
count_stands test (c ∷ front) rest more b few =
    count_more test c (front ++ b ∷ rest) (front ++ b ∷ more) (length front) (test c) refl few (count_stands test front rest more b)

-- what stands behind a front that is as long at least
record Behind (front xs tail zs : List ℕ) : Type 0 where
  inner : List ℕ
  front_is : front ≡ xs ++ inner
  rest_is : zs ≡ inner ++ tail

behind_front : (xs front tail zs : List ℕ) → front ++ tail ≡ xs ++ zs → length xs ≤ length front → Behind front xs tail zs
behind_front [] front tail zs e long = record { inner = front; front_is = refl; rest_is = sym e }
behind_front (x ∷ xs) [] tail zs e long = absurd (omega (arith, long))
behind_front (x ∷ xs) (y ∷ front) tail zs e long =
    let r = behind_front xs front tail zs (ap (drop 1) e) (omega (arith, long)) in
    let head : y ≡ x = ap (λ l. slice_index l 0) e in
    record { inner = r.inner; front_is = ap₂ (λ h l. h ∷ l) head r.front_is; rest_is = r.rest_is }

-- ---- parts that break

break_value : (good : ℕ) (part : List ℕ) (at : ℕ) (a : Bool) → (nat_lt 0 good && good == length part) ≡ a → break_behind good part ≡ Some at → good ≡ at
break_value good part at true is e =
    let none : None ≡ Some at = sym (ap (λ b. cond b None (Some good)) is) ∙ e in absurd (cc)
break_value good part at false is e = ap (λ o. unwrap_or o at) (sym (ap (λ b. cond b None (Some good)) is) ∙ e)

breaks_at : (good : ℕ) (part : List ℕ) (at : ℕ) → break_behind good part ≡ Some at → good ≡ at
breaks_at good part at e = break_value good part at (nat_lt 0 good && good == length part) refl e

shorter_by : (good : ℕ) (part : List ℕ) (a b : Bool) → nat_lt 0 good ≡ a → (good == length part) ≡ b → good < length part → break_behind good part ≡ Some good
shorter_by good part a true some is short = absurd (omega (arith, short, eqb-true good (length part) is))
shorter_by good part true false some is short = ap₂ (λ a b. cond (a && b) None (Some good)) some is
shorter_by good part false false some is short = ap₂ (λ a b. cond (a && b) None (Some good)) some is

breaks_short : (good : ℕ) (part : List ℕ) → good < length part → break_behind good part ≡ Some good
breaks_short good part short = shorter_by good part (nat_lt 0 good) (good == length part) refl refl short

-- a path
path_stands : (front rest more : List ℕ) (b : ℕ) → path_break (front ++ b ∷ rest) ≡ Some (length front) → path_break (front ++ b ∷ more) ≡ Some (length front)
path_stands front rest more b e =
    let good : prefix_len is_path_byte (front ++ b ∷ rest) ≡ length front = breaks_at _ (front ++ b ∷ rest) (length front) e in
    let same : prefix_len is_path_byte (front ++ b ∷ more) ≡ length front =
    count_stands is_path_byte front rest more b (omega (arith, good)) ∙ good in
    ap (λ n. break_behind n (front ++ b ∷ more)) same
    ∙ breaks_short (length front) (front ++ b ∷ more) (omega (arith, length-append front (b ∷ more)))

-- a name
take_front : (n : ℕ) (front rest : List ℕ) (b : ℕ) → length front < n → (last : List ℕ) × (take n (front ++ b ∷ rest) ≡ front ++ b ∷ last)
take_front zero front rest b more = absurd (omega (arith, more))
take_front (suc n) [] rest b more = (take n rest, refl)
take_front (suc n) (c ∷ front) rest b more =
    let r = take_front n front rest b (omega (arith, more)) in (r.0, ap (λ l. c ∷ l) r.1)

name_count : (front rest more : List ℕ) (b : ℕ) → prefix_len is_name_byte (take 253 (front ++ b ∷ rest)) ≡ length front
    → prefix_len is_name_byte (take 253 (front ++ b ∷ more)) ≡ length front
name_count front rest more b good = by (cases_lt (length front) 253)
  where
    by : (length front < 253) ⊎ (253 ≤ length front) → prefix_len is_name_byte (take 253 (front ++ b ∷ more)) ≡ length front
    by (inl short) =
        let r = take_front 253 front rest b short in
        let m = take_front 253 front more b short in
        let seen : prefix_len is_name_byte (front ++ b ∷ r.0) ≡ length front = sym (ap (prefix_len is_name_byte) r.1) ∙ good in
        ap (prefix_len is_name_byte) m.1 ∙ count_stands is_name_byte front r.0 m.0 b (omega (arith, seen)) ∙ seen
    by (inr long) =
        ap (prefix_len is_name_byte) (take-append-le 253 front (b ∷ more) long ∙ sym (take-append-le 253 front (b ∷ rest) long)) ∙ good

name_stands : (front rest more : List ℕ) (b : ℕ) → name_break (front ++ b ∷ rest) ≡ Some (length front) → name_break (front ++ b ∷ more) ≡ Some (length front)
name_stands front rest more b e =
    let good : prefix_len is_name_byte (take 253 (front ++ b ∷ rest)) ≡ length front = breaks_at _ (front ++ b ∷ rest) (length front) e in
    ap (λ n. break_behind n (front ++ b ∷ more)) (name_count front rest more b good)
    ∙ breaks_short (length front) (front ++ b ∷ more) (omega (arith, length-append front (b ∷ more)))

name_within : (name : List ℕ) (at : ℕ) → name_break name ≡ Some at → at ≤ length name
name_within name at e =
    omega (arith, breaks_at _ name at e, prefix_len-le-length is_name_byte (take 253 name), length-take 253 name)

-- ---- hosts

plus_two : (o : Option ℕ) (n : ℕ) → option_map (λ at. at + 2) o ≡ Some n → (m : ℕ) × (o ≡ Some m) × (m + 2 ≡ n)
plus_two None n e = absurd (cc)
plus_two (Some m) n e = (m, refl, ap (λ o. unwrap_or o n) e)

some_value : (m n : ℕ) → Some m ≡ Some n → m ≡ n
some_value m n e = ap (λ o. unwrap_or o n) e

-- a host that a star begins, and another byte follows
abbrev starred : ℕ → List ℕ → Bool → Option ℕ
starred d ds dotted = cond dotted (option_map (λ at. at + 2) (name_break ds)) (Some 1)

starred_is : (d : ℕ) (ds : List ℕ) → named_host_break (42 ∷ d ∷ ds) ≡ starred d ds (nat_eq 46 d && true)
starred_is d ds = refl

unstarred : (c : ℕ) (cs : List ℕ) → nat_eq c 42 ≡ false → named_host_break (c ∷ cs) ≡ name_break (c ∷ cs)
unstarred c cs other =
    ap₂ (λ a b. cond (a && bytes_eq cs []) None (cond (b && pointwise nat_eq (46 ∷ []) (take 1 cs)) (option_map (λ at. at + 2) (name_break (drop 1 cs))) (cond (b && true) (Some 1) (name_break (c ∷ cs))))) other (number_turned 42 c ∙ other)

starred_within : (d : ℕ) (ds : List ℕ) (at : ℕ) (dotted : Bool) → starred d ds dotted ≡ Some at → at ≤ suc (suc (length ds))
starred_within d ds at true e =
    let r = plus_two (name_break ds) at e in omega (arith, r.2, name_within ds r.0 r.1)
starred_within d ds at false e = omega (arith, some_value 1 at e)

star_within : (cs : List ℕ) (at : ℕ) → named_host_break (42 ∷ cs) ≡ Some at → at ≤ suc (length cs)
star_within [] at e = absurd (cc)
star_within (d ∷ ds) at e = starred_within d ds at (nat_eq 46 d && true) (sym (starred_is d ds) ∙ e)

named_within_by : (c : ℕ) (cs : List ℕ) (at : ℕ) (b : Bool) → nat_eq c 42 ≡ b → named_host_break (c ∷ cs) ≡ Some at → at ≤ suc (length cs)
named_within_by c cs at true is e =
    star_within cs at (sym (ap (λ x. named_host_break (x ∷ cs)) (eqb-true c 42 is)) ∙ e)
named_within_by c cs at false is e = name_within (c ∷ cs) at (sym (unstarred c cs is) ∙ e)

named_within : (host : List ℕ) (at : ℕ) → named_host_break host ≡ Some at → at ≤ length host
named_within [] at e = omega (arith, some_value 0 at e)
named_within (c ∷ cs) at e = named_within_by c cs at (nat_eq c 42) refl e

host_within_by : (scheme host : List ℕ) (at : ℕ) (a b : Bool) → bytes_eq scheme (codes "file") ≡ a → (length host == 0) ≡ b
    → cond a (cond b None (Some 0)) (named_host_break host) ≡ Some at → at ≤ length host
host_within_by scheme host at true true file empty e = absurd (cc)
host_within_by scheme host at true false file empty e = omega (arith, some_value 0 at e)
host_within_by scheme host at false b file empty e = named_within host at e

host_within : (scheme host : List ℕ) (at : ℕ) → host_break scheme host ≡ Some at → at ≤ length host
host_within scheme host at e = host_within_by scheme host at (bytes_eq scheme (codes "file")) (length host == 0) refl refl e

-- the break of a host stands whatever follows
starred_stands : (front rest more : List ℕ) (b g : ℕ) (dotted : Bool) → starred g (front ++ b ∷ rest) dotted ≡ Some (suc (suc (length front)))
    → starred g (front ++ b ∷ more) dotted ≡ Some (suc (suc (length front)))
starred_stands front rest more b g true e =
    let r = plus_two (name_break (front ++ b ∷ rest)) (suc (suc (length front))) e in
    let at : r.0 ≡ length front = omega (arith, r.2) in
    let two : length front + 2 ≡ suc (suc (length front)) = omega arith in
    ap (option_map (λ at. at + 2)) (name_stands front rest more b (r.1 ∙ ap Some at)) ∙ ap Some two
starred_stands front rest more b g false e = absurd (omega (arith, some_value 1 (suc (suc (length front))) e))

second_stands : (rest more : List ℕ) (b : ℕ) (dotted : Bool) → starred b rest dotted ≡ Some 1 → starred b more dotted ≡ Some 1
second_stands rest more b true e =
    let r = plus_two (name_break rest) 1 e in absurd (omega (arith, r.2))
second_stands rest more b false e = refl

star_stands : (front rest more : List ℕ) (b : ℕ) → named_host_break (42 ∷ (front ++ b ∷ rest)) ≡ Some (suc (length front))
    → named_host_break (42 ∷ (front ++ b ∷ more)) ≡ Some (suc (length front))
star_stands [] rest more b e =
    starred_is b more ∙ second_stands rest more b (nat_eq 46 b && true) (sym (starred_is b rest) ∙ e)
star_stands (g ∷ front) rest more b e =
    starred_is g (front ++ b ∷ more)
    ∙ starred_stands front rest more b g (nat_eq 46 g && true) (sym (starred_is g (front ++ b ∷ rest)) ∙ e)

no_starred : (d : ℕ) (ds : List ℕ) (dotted : Bool) → starred d ds dotted ≡ Some 0 → ⊥
no_starred d ds true e = let r = plus_two (name_break ds) 0 e in omega (arith, r.2)
no_starred d ds false e = omega (arith, some_value 1 0 e)

no_first_star : (rest : List ℕ) → named_host_break (42 ∷ rest) ≡ Some 0 → ⊥
no_first_star [] e = cc
no_first_star (d ∷ ds) e = no_starred d ds (nat_eq 46 d && true) (sym (starred_is d ds) ∙ e)

first_stands : (rest more : List ℕ) (b : ℕ) (star : Bool) → nat_eq b 42 ≡ star → named_host_break (b ∷ rest) ≡ Some 0 → named_host_break (b ∷ more) ≡ Some 0
first_stands rest more b true is e =
    absurd (no_first_star rest (sym (ap (λ x. named_host_break (x ∷ rest)) (eqb-true b 42 is)) ∙ e))
first_stands rest more b false is e = unstarred b more is ∙ name_stands [] rest more b (sym (unstarred b rest is) ∙ e)

later_stands : (c : ℕ) (front rest more : List ℕ) (b : ℕ) (star : Bool) → nat_eq c 42 ≡ star → named_host_break (c ∷ (front ++ b ∷ rest)) ≡ Some (suc (length front))
    → named_host_break (c ∷ (front ++ b ∷ more)) ≡ Some (suc (length front))
later_stands c front rest more b true is e =
    ap (λ x. named_host_break (x ∷ (front ++ b ∷ more))) (eqb-true c 42 is)
    ∙ star_stands front rest more b (sym (ap (λ x. named_host_break (x ∷ (front ++ b ∷ rest))) (eqb-true c 42 is)) ∙ e)
later_stands c front rest more b false is e =
    unstarred c (front ++ b ∷ more) is ∙ name_stands (c ∷ front) rest more b (sym (unstarred c (front ++ b ∷ rest) is) ∙ e)

named_stands : (front rest more : List ℕ) (b : ℕ) → named_host_break (front ++ b ∷ rest) ≡ Some (length front) → named_host_break (front ++ b ∷ more) ≡ Some (length front)
named_stands [] rest more b e = first_stands rest more b (nat_eq b 42) refl e
named_stands (c ∷ front) rest more b e = later_stands c front rest more b (nat_eq c 42) refl e

not_empty : (front rest : List ℕ) (b : ℕ) → (length (front ++ b ∷ rest) == 0) ≡ false
not_empty front rest b = by (length (front ++ b ∷ rest) == 0) refl
  where
    by : (e : Bool) → (length (front ++ b ∷ rest) == 0) ≡ e → (length (front ++ b ∷ rest) == 0) ≡ false
    by true is = absurd (omega (arith, eqb-true (length (front ++ b ∷ rest)) 0 is, length-append front (b ∷ rest)))
    by false is = is

host_stands_by : (scheme front rest more : List ℕ) (b : ℕ) (file : Bool)
    → cond file (cond (length (front ++ b ∷ rest) == 0) None (Some 0)) (named_host_break (front ++ b ∷ rest)) ≡ Some (length front)
    → cond file (cond (length (front ++ b ∷ more) == 0) None (Some 0)) (named_host_break (front ++ b ∷ more)) ≡ Some (length front)
host_stands_by scheme front rest more b true e =
    ap (λ t. cond t None (Some 0)) (not_empty front more b)
    ∙ sym (ap (λ t. cond t None (Some 0)) (not_empty front rest b))
    ∙ e
host_stands_by scheme front rest more b false e = named_stands front rest more b e

host_stands : (scheme front rest more : List ℕ) (b : ℕ) → host_break scheme (front ++ b ∷ rest) ≡ Some (length front) → host_break scheme (front ++ b ∷ more) ≡ Some (length front)
host_stands scheme front rest more b e = host_stands_by scheme front rest more b (bytes_eq scheme (codes "file")) e

-- ---- what stands before the first slash

abbrev host_in : List ℕ → List ℕ
host_in behind = before_first is_slash behind

abbrev slash_in : List ℕ → ℕ
slash_in behind = position_or_len is_slash behind

upto_by : (c : ℕ) (xs ys : List ℕ) (n : ℕ) (s : Bool) → is_slash c ≡ s → suc n ≤ slash_in (c ∷ xs) → (n ≤ slash_in xs → n ≤ slash_in ys) → suc n ≤ slash_in (c ∷ ys)
upto_by c xs ys n true is far rest = absurd (omega (arith, far, ap (λ t. cond (not t) (1 + slash_in xs) 0) is))
upto_by c xs ys n false is far rest =
    let one : slash_in (c ∷ xs) ≡ 1 + slash_in xs = ap (λ t. cond (not t) (1 + slash_in xs) 0) is in
    let other : slash_in (c ∷ ys) ≡ 1 + slash_in ys = ap (λ t. cond (not t) (1 + slash_in ys) 0) is in
    omega (arith, other, rest (omega (arith, far, one)))

upto_stands : (front rest more : List ℕ) (b : ℕ) → length front ≤ slash_in (front ++ b ∷ rest) → length front ≤ slash_in (front ++ b ∷ more)
upto_stands [] rest more b far = omega arith
upto_stands (c ∷ front) rest more b far =
    upto_by c (front ++ b ∷ rest) (front ++ b ∷ more) (length front) (is_slash c) refl far (upto_stands front rest more b)

tail_host : ℕ → List ℕ → Bool → List ℕ
tail_host b rest slash = cond slash [] (b ∷ host_in rest)

host_in_more : (c : ℕ) (xs : List ℕ) → is_slash c ≡ false → host_in (c ∷ xs) ≡ c ∷ host_in xs
host_in_more c xs is =
    let one : slash_in (c ∷ xs) ≡ 1 + slash_in xs = ap (λ t. cond (not t) (1 + slash_in xs) 0) is in
    let next : slash_in (c ∷ xs) ≡ suc (slash_in xs) = omega (arith, one) in
    ap (λ n. take n (c ∷ xs)) next

host_in_slash : (c : ℕ) (xs : List ℕ) → is_slash c ≡ true → host_in (c ∷ xs) ≡ []
host_in_slash c xs is = ap (λ t. take (cond (not t) (1 + slash_in xs) 0) (c ∷ xs)) is

host_upto_by : (c : ℕ) (xs : List ℕ) (n : ℕ) (front : List ℕ) (last : List ℕ) (s : Bool) → is_slash c ≡ s → suc n ≤ slash_in (c ∷ xs)
    → (n ≤ slash_in xs → host_in xs ≡ front ++ last) → host_in (c ∷ xs) ≡ c ∷ (front ++ last)
host_upto_by c xs n front last true is far rest = absurd (omega (arith, far, ap (λ t. cond (not t) (1 + slash_in xs) 0) is))
host_upto_by c xs n front last false is far rest =
    let one : slash_in (c ∷ xs) ≡ 1 + slash_in xs = ap (λ t. cond (not t) (1 + slash_in xs) 0) is in
    host_in_more c xs is ∙ ap (λ l. c ∷ l) (rest (omega (arith, far, one)))

host_upto : (front rest : List ℕ) (b : ℕ) (s : Bool) → is_slash b ≡ s → length front ≤ slash_in (front ++ b ∷ rest)
    → host_in (front ++ b ∷ rest) ≡ front ++ tail_host b rest s
unfolding tail_host
host_upto [] rest b true is far = host_in_slash b rest is
host_upto [] rest b false is far = host_in_more b rest is
host_upto (c ∷ front) rest b s is far =
    host_upto_by c (front ++ b ∷ rest) (length front) front (tail_host b rest s) (is_slash c) refl far (host_upto front rest b s is)

host_len : (behind : List ℕ) → length (host_in behind) ≡ slash_in behind
host_len behind = length-prefix_len (λ b. not (is_slash b)) behind

in_host_by : (scheme front rest more : List ℕ) (b : ℕ) (s : Bool) → is_slash b ≡ s → length front ≤ slash_in (front ++ b ∷ rest)
    → host_break scheme (host_in (front ++ b ∷ rest)) ≡ Some (length front) → host_break scheme (front ++ tail_host b more s) ≡ Some (length front)
unfolding tail_host
in_host_by scheme front rest more b true is far e = sym (ap (host_break scheme) (host_upto front rest b true is far)) ∙ e
in_host_by scheme front rest more b false is far e =
    host_stands scheme front (host_in rest) (host_in more) b (sym (ap (host_break scheme) (host_upto front rest b false is far)) ∙ e)

in_host : (scheme front rest more : List ℕ) (b : ℕ) → host_break scheme (host_in (front ++ b ∷ rest)) ≡ Some (length front)
    → host_break scheme (host_in (front ++ b ∷ more)) ≡ Some (length front)
in_host scheme front rest more b e =
    let far : length front ≤ slash_in (front ++ b ∷ rest) =
    omega (arith, host_within scheme (host_in (front ++ b ∷ rest)) (length front) e, host_len (front ++ b ∷ rest)) in
    ap (host_break scheme) (host_upto front more b (is_slash b) refl (upto_stands front rest more b far))
    ∙ in_host_by scheme front rest more b (is_slash b) refl far e

-- ---- faults by the parts of a text

told : ℕ → List ℕ → List ℕ → List ℕ → Option PatternFault
told n scheme host path = option_or
    (option_map (λ at. BadHost (n + at)) (host_break scheme host))
    (option_map (λ at. BadPath (n + length host + at)) (path_break path))

abbrev path_in : List ℕ → List ℕ
path_in behind = drop (length (host_in behind)) behind

told_of : List ℕ → List ℕ → Option PatternFault
told_of scheme behind = told (length scheme + 3) scheme (host_in behind) (path_in behind)

module _ (scheme behind : List ℕ) (fits : is_scheme scheme ≡ true) where
  first : StandsFirst behind scheme
  first = stands_first behind scheme fits

  start : host_start (text_of scheme behind) ≡ length scheme + 3
  start = ap (λ n. n + 3) (scheme_here (text_of scheme behind) (length scheme) first.there)

  scheme_seen : scheme_of (text_of scheme behind) ≡ scheme
  scheme_seen =
      ap (λ n. take n (text_of scheme behind)) (scheme_here (text_of scheme behind) (length scheme) first.there)
      ∙ take-append_seam scheme (codes "://" ++ behind)

  behind_seen : drop (host_start (text_of scheme behind)) (text_of scheme behind) ≡ behind
  behind_seen =
      ap (λ n. drop n (text_of scheme behind)) start
      ∙ sym (drop-drop 3 (length scheme) (text_of scheme behind))
      ∙ ap (drop 3) (drop-append_seam scheme (codes "://" ++ behind))

  host_seen : host_of (text_of scheme behind) ≡ host_in behind
  host_seen = ap (before_first is_slash) behind_seen

  path_seen : path_of (text_of scheme behind) ≡ path_in behind
  path_seen =
      ap (λ h. drop (host_start (text_of scheme behind) + length h) (text_of scheme behind)) host_seen
      ∙ sym (drop-drop (length (host_in behind)) (host_start (text_of scheme behind)) (text_of scheme behind))
      ∙ ap (drop (length (host_in behind))) behind_seen

  told_is : fault_of (text_of scheme behind) ≡ told_of scheme behind
  unfolding told told_of
  told_is =
      of_parts (text_of scheme behind) (length scheme) first.all first.there (ap is_scheme scheme_seen ∙ fits)
      ∙ ap₂ (λ n s. told n s (host_of (text_of scheme behind)) (path_of (text_of scheme behind))) start scheme_seen
      ∙ ap₂ (λ h p. told (length scheme + 3) scheme h p) host_seen path_seen

-- a text that is told to break behind its scheme has parts
record HasParts (text : List ℕ) : Type 0 where
  scheme : List ℕ
  behind : List ℕ
  fits : is_scheme scheme ≡ true
  whole : text ≡ text_of scheme behind

parts_by : (text : List ℕ) (fault : PatternFault) (a : Bool) (o : Option ℕ) (b : Bool) → all_urls text ≡ a → place_of separator text ≡ o → is_scheme (scheme_of text) ≡ b
    → fault_of text ≡ Some fault → (Some fault ≡ Some (NoScheme 0) → ⊥) → HasParts text
parts_by text fault true o b all at is e other =
    let both : None ≡ Some fault = sym (no_fault_of_all_urls text all) ∙ e in absurd (cc)
parts_by text fault false None b all at is e other =
    absurd (other (sym e ∙ fault_without_separator text text refl all at))
parts_by text fault false (Some k) false all at is e other =
    absurd (other (sym e ∙ fault_of_scheme text k all at is))
parts_by text fault false (Some k) true all at is e other = record {
  scheme = scheme_of text;
  behind = drop (host_start text) text;
  fits = is;
  whole = sym (take-append-drop (scheme_len text) text)
      ∙ ap (λ l. scheme_of text ++ l)
      (begun (drop (scheme_len text) text) separator
      (ap (λ n. starts_with nat_eq (drop n text) separator) (scheme_here text k at) ∙ place_starts separator text k at)
      ∙ ap (λ l. codes "://" ++ l) (drop-drop 3 (scheme_len text) text));
}

parts : (text : List ℕ) (fault : PatternFault) → fault_of text ≡ Some fault → (Some fault ≡ Some (NoScheme 0) → ⊥) → HasParts text
parts text fault = parts_by text fault (all_urls text) (place_of separator text) (is_scheme (scheme_of text)) refl refl refl

-- ---- the two laws

fault_place : PatternFault → ℕ
fault_place (NoScheme at) = at
fault_place (BadHost at) = at
fault_place (BadPath at) = at
fault_place OutOfMemory = 0

host_told : (m : ℕ) (o q : Option ℕ) (g : ℕ → ℕ) (n : ℕ) → option_or (option_map (λ at. BadHost (m + at)) o) (option_map (λ at. BadPath (g at)) q) ≡ Some (BadHost n)
    → (j : ℕ) × (o ≡ Some j) × (m + j ≡ n)
unfolding fault_place
host_told m None None g n e = absurd (cc)
host_told m None (Some p) g n e = absurd (cc)
host_told m (Some j) q g n e = (j, refl, ap (λ o. fault_place (unwrap_or o (BadHost n))) e)

path_told : (m : ℕ) (o q : Option ℕ) (f : ℕ → ℕ) (n : ℕ) → option_or (option_map (λ at. BadHost (f at)) o) (option_map (λ at. BadPath (m + at)) q) ≡ Some (BadPath n)
    → (o ≡ None) × ((j : ℕ) × (q ≡ Some j) × (m + j ≡ n))
unfolding fault_place
path_told m None None f n e = absurd (cc)
path_told m None (Some j) f n e = (refl, (j, refl, ap (λ o. fault_place (unwrap_or o (BadPath n))) e))
path_told m (Some j) q f n e = absurd (cc)

-- a text that is given in two ways
regroup : (scheme behind : List ℕ) → (scheme ++ codes "://") ++ behind ≡ text_of scheme behind
regroup scheme behind = append_assoc scheme (codes "://") behind

module _ (front rest more : List ℕ) (b : ℕ) where
  of_host : fault_of (front ++ b ∷ rest) ≡ Some (BadHost (length front)) → fault_of (front ++ b ∷ more) ≡ Some (BadHost (length front))
  unfolding told told_of
  of_host e =
      let p = parts (front ++ b ∷ rest) (BadHost (length front)) e (λ h. cc) in
      let seen : told_of p.scheme p.behind ≡ Some (BadHost (length front)) =
      sym (told_is p.scheme p.behind p.fits) ∙ sym (ap fault_of p.whole) ∙ e in
      let j = host_told (length p.scheme + 3) (host_break p.scheme (host_in p.behind)) (path_break (path_in p.behind)) _ (length front) seen in
      let len : length (p.scheme ++ codes "://") ≡ length p.scheme + 3 = length-append p.scheme (codes "://") in
      let r = behind_front (p.scheme ++ codes "://") front (b ∷ rest) p.behind (p.whole ∙ sym (regroup p.scheme p.behind)) (omega (arith, len, j.2)) in
      let size : length front ≡ length p.scheme + 3 + length r.inner =
      ap length r.front_is ∙ length-append (p.scheme ++ codes "://") r.inner ∙ ap (λ n. n + length r.inner) len in
      let at : j.0 ≡ length r.inner = omega (arith, size, j.2) in
      let broken_here : host_break p.scheme (host_in (r.inner ++ b ∷ rest)) ≡ Some (length r.inner) =
      ap (λ l. host_break p.scheme (host_in l)) (sym r.rest_is) ∙ j.1 ∙ ap Some at in
      let text_is : front ++ b ∷ more ≡ text_of p.scheme (r.inner ++ b ∷ more) =
      ap (λ l. l ++ b ∷ more) r.front_is ∙ append_assoc (p.scheme ++ codes "://") r.inner (b ∷ more) ∙ regroup p.scheme (r.inner ++ b ∷ more) in
      ap fault_of text_is
      ∙ told_is p.scheme (r.inner ++ b ∷ more) p.fits
      ∙ ap (λ o. option_or (option_map (λ at. BadHost (length p.scheme + 3 + at)) o) (option_map (λ at. BadPath (length p.scheme + 3 + length (host_in (r.inner ++ b ∷ more)) + at)) (path_break (path_in (r.inner ++ b ∷ more)))))
      (in_host p.scheme r.inner rest more b broken_here)
      ∙ ap (λ n. Some (BadHost n)) (sym size)

  of_path : fault_of (front ++ b ∷ rest) ≡ Some (BadPath (length front)) → fault_of (front ++ b ∷ more) ≡ Some (BadPath (length front))
  unfolding told told_of
  of_path e =
      let p = parts (front ++ b ∷ rest) (BadPath (length front)) e (λ h. cc) in
      let seen : told_of p.scheme p.behind ≡ Some (BadPath (length front)) =
      sym (told_is p.scheme p.behind p.fits) ∙ sym (ap fault_of p.whole) ∙ e in
      let both = path_told (length p.scheme + 3 + length (host_in p.behind)) (host_break p.scheme (host_in p.behind)) (path_break (path_in p.behind)) _ (length front) seen in
      let j = both.1 in
      let len : length (p.scheme ++ codes "://") ≡ length p.scheme + 3 = length-append p.scheme (codes "://") in
      let r = behind_front (p.scheme ++ codes "://") front (b ∷ rest) p.behind (p.whole ∙ sym (regroup p.scheme p.behind)) (omega (arith, len, j.2)) in
      let size : length front ≡ length p.scheme + 3 + length r.inner =
      ap length r.front_is ∙ length-append (p.scheme ++ codes "://") r.inner ∙ ap (λ n. n + length r.inner) len in
      let hosts : length (host_in p.behind) ≡ slash_in (r.inner ++ b ∷ rest) = host_len p.behind ∙ ap slash_in r.rest_is in
      let few : slash_in (r.inner ++ b ∷ rest) ≤ length r.inner = omega (arith, size, j.2, hosts) in
      let same : slash_in (r.inner ++ b ∷ more) ≡ slash_in (r.inner ++ b ∷ rest) = count_stands (λ c. not (is_slash c)) r.inner rest more b few in
      let host_here : host_in (r.inner ++ b ∷ rest) ≡ take (slash_in (r.inner ++ b ∷ rest)) r.inner = take-append-le (slash_in (r.inner ++ b ∷ rest)) r.inner (b ∷ rest) few in
      let host_there : host_in (r.inner ++ b ∷ more) ≡ take (slash_in (r.inner ++ b ∷ rest)) r.inner =
      ap (λ n. take n (r.inner ++ b ∷ more)) same ∙ take-append-le (slash_in (r.inner ++ b ∷ rest)) r.inner (b ∷ more) few in
      let host_same : host_in (r.inner ++ b ∷ more) ≡ host_in p.behind =
      host_there ∙ sym host_here ∙ ap host_in (sym r.rest_is) in
      let left : length (drop (slash_in (r.inner ++ b ∷ rest)) r.inner) ≡ j.0 = omega (arith, length-drop (slash_in (r.inner ++ b ∷ rest)) r.inner, size, j.2, hosts, few) in
      let path_here : path_in p.behind ≡ drop (slash_in (r.inner ++ b ∷ rest)) r.inner ++ b ∷ rest =
      ap₂ (λ n l. drop n l) hosts r.rest_is ∙ drop-append-le (slash_in (r.inner ++ b ∷ rest)) r.inner (b ∷ rest) few in
      let path_there : path_in (r.inner ++ b ∷ more) ≡ drop (slash_in (r.inner ++ b ∷ rest)) r.inner ++ b ∷ more =
      ap (λ n. drop n (r.inner ++ b ∷ more)) (ap length host_same ∙ hosts) ∙ drop-append-le (slash_in (r.inner ++ b ∷ rest)) r.inner (b ∷ more) few in
      let broken_there : path_break (path_in (r.inner ++ b ∷ more)) ≡ Some j.0 =
      ap path_break path_there
      ∙ path_stands (drop (slash_in (r.inner ++ b ∷ rest)) r.inner) rest more b (sym (ap path_break path_here) ∙ j.1 ∙ ap Some (sym left))
      ∙ ap Some left in
      let text_is : front ++ b ∷ more ≡ text_of p.scheme (r.inner ++ b ∷ more) =
      ap (λ l. l ++ b ∷ more) r.front_is ∙ append_assoc (p.scheme ++ codes "://") r.inner (b ∷ more) ∙ regroup p.scheme (r.inner ++ b ∷ more) in
      ap fault_of text_is
      ∙ told_is p.scheme (r.inner ++ b ∷ more) p.fits
      ∙ ap₂ (λ o q. option_or (option_map (λ at. BadHost (length p.scheme + 3 + at)) o) (option_map (λ at. BadPath (length p.scheme + 3 + length (host_in (r.inner ++ b ∷ more)) + at)) q))
      (ap (host_break p.scheme) host_same ∙ both.0) broken_there
      ∙ ap (λ h. Some (BadPath (length p.scheme + 3 + length h + j.0))) host_same
      ∙ ap (λ n. Some (BadPath n)) j.2

pub standing : FaultsStand
standing = record { of_host = of_host; of_path = of_path }
