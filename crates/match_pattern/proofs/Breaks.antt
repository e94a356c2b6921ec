-- Hosts and paths that don't break are those of the grammar.
use Rattle.std.proofs.Common.{length-drop, get_or, ltb-true, lt-ltb, eq-eqb, length-take, ◌≡◌, ◌≢◌, inl, inr, ℕ, suc, ◌+◌, ◌<◌, ◌≤◌, ◌==◌, Bool, true, false, cond, not, ◌&&◌, List, [], ◌∷◌, ◌++◌, length, take, drop, nat_eq, nat_lt, bytes_eq, codes, eqb-true, All, Option, None, Some, option_map, refl, sym, ap, ap₂, ◌∙◌, arith, subst}
use Rattle.std.proofs.lemmas.List.{take_all, nil_from_length}
use Rattle.std.proofs.lemmas.List.Elements.{All-cons, All-head, All-tail}
use Rattle.std.proofs.lemmas.List.Sums.{prefix_len-le-length}
use Rattle.std.proofs.lemmas.Slice.Eq.{bytes_eq-Decides, starts_is}
use Rattle.std.specs.Cmp.Lexicographic.{pointwise}
use Rattle.std.specs.List.{position_or_len, prefix_len, starts_with}
use Rattle.match_pattern.proofs.Lists.{number_turned}
use Rattle.match_pattern.specs.Grammar.{IsHost, IsName, IsNamedHost, IsPath}
use Rattle.match_pattern.specs.Reading.{break_behind, host_break, is_slash, is_name_byte, is_path_byte, name_break, named_host_break, path_break}

-- where all pass, all are counted
pub counted_all : (test : ℕ → Bool) (xs : List ℕ) → All (λ b. test b ≡ true) xs → prefix_len test xs ≡ length xs
counted_all test [] all = refl
counted_all test (x ∷ xs) all =
    let rest : prefix_len test xs ≡ length xs = counted_all test xs (All-tail (λ b. test b ≡ true) x xs all) in
    let passes : test x ≡ true = All-head (λ b. test b ≡ true) x xs all in
    ap (λ b. cond b (1 + prefix_len test xs) 0) passes ∙ omega (arith, rest)

-- and where all are counted, all pass
counted_by : (test : ℕ → Bool) (x : ℕ) (xs : List ℕ) (b : Bool) → test x ≡ b → prefix_len test (x ∷ xs) ≡ suc (length xs)
    → (test x ≡ true) × (prefix_len test xs ≡ length xs)
counted_by test x xs true is e =
    (is, omega (arith, sym (ap (λ b. cond b (1 + prefix_len test xs) 0) is) ∙ e))
counted_by test x xs false is e = absurd (omega (arith, sym (ap (λ b. cond b (1 + prefix_len test xs) 0) is) ∙ e))

pub all_counted : (test : ℕ → Bool) (xs : List ℕ) → prefix_len test xs ≡ length xs → All (λ b. test b ≡ true) xs
all_counted test [] e = λ k d h. absurd (omega (arith, h))
all_counted test (x ∷ xs) e =
    let both = counted_by test x xs (test x) refl e in
    All-cons (λ b. test b ≡ true) x xs both.0 (all_counted test xs both.1)

-- a part breaks nowhere exactly where it has a byte and all may stand
sound_by : (good : ℕ) (part : List ℕ) (a b : Bool) → nat_lt 0 good ≡ a → (good == length part) ≡ b → break_behind good part ≡ None → (0 < good) × (good ≡ length part)
sound_by good part true true some all e = (ltb-true 0 good some, eqb-true good (length part) all)
sound_by good part true false some all e =
    let broken : Some good ≡ None = sym (ap₂ (λ a b. cond (a && b) None (Some good)) some all) ∙ e in absurd (cc)
sound_by good part false b some all e =
    let broken : Some good ≡ None = sym (ap (λ a. cond (a && (good == length part)) None (Some good)) some) ∙ e in absurd (cc)

pub sound_part : (good : ℕ) (part : List ℕ) → break_behind good part ≡ None → (0 < good) × (good ≡ length part)
sound_part good part e = sound_by good part (nat_lt 0 good) (good == length part) refl refl e

pub unbroken : (good : ℕ) (part : List ℕ) → 0 < good → good ≡ length part → break_behind good part ≡ None
unbroken good part some all = ap₂ (λ a b. cond (a && b) None (Some good)) (lt-ltb 0 good some) (eq-eqb good (length part) all)

-- what a text begins with
pub begun : (xs front : List ℕ) → starts_with nat_eq xs front ≡ true → xs ≡ front ++ drop (length front) xs
begun xs front e = (starts_is (λ a b. (eqb-true a b, eq-eqb a b)) xs front (starts_with nat_eq xs front) refl).0 e

-- names
pub name_from : (name : List ℕ) → name_break name ≡ None → IsName name
name_from name e =
    let both = sound_part (prefix_len is_name_byte (take 253 name)) name e in
    let few : length name ≤ 253 = omega (arith, both.1, prefix_len-le-length is_name_byte (take 253 name), length-take 253 name) in
    let whole : take 253 name ≡ name = take_all 253 name few in (
      omega (arith, both.0, both.1),
      few,
      all_counted is_name_byte name (sym (ap (prefix_len is_name_byte) whole) ∙ both.1),
    )

pub name_to : (name : List ℕ) → IsName name → name_break name ≡ None
name_to name is =
    let all : prefix_len is_name_byte (take 253 name) ≡ length name =
    ap (prefix_len is_name_byte) (take_all 253 name is.1) ∙ counted_all is_name_byte name is.2 in
    unbroken (prefix_len is_name_byte (take 253 name)) name (omega (arith, all, is.0)) all

-- hosts
no_star : (c : ℕ) → is_name_byte c ≡ true → nat_eq c 42 ≡ false
no_star c name = by (nat_eq c 42) refl
  where
    by : (b : Bool) → nat_eq c 42 ≡ b → nat_eq c 42 ≡ false
    by true is =
        let star : false ≡ true = ap is_name_byte (sym (eqb-true c 42 is)) ∙ name in absurd (cc)
    by false is = is

none_of_more : (o : Option ℕ) → option_map (λ at. at + 2) o ≡ None → o ≡ None
none_of_more None e = refl
none_of_more (Some n) e = absurd (cc)

named_from_by : (host : List ℕ) (a b c : Bool) → bytes_eq host (codes "*") ≡ a → starts_with nat_eq host (codes "*.") ≡ b → starts_with nat_eq host (codes "*") ≡ c
    → cond a None (cond b (option_map (λ at. at + 2) (name_break (drop 2 host))) (cond c (Some 1) (name_break host))) ≡ None → IsNamedHost host
named_from_by host true b c star under any e = inl ((bytes_eq-Decides host (codes "*")).0 star)
named_from_by host false true c star under any e =
    inr (inl (drop 2 host, begun host (codes "*.") under, name_from (drop 2 host) (none_of_more (name_break (drop 2 host)) e)))
named_from_by host false false true star under any e = absurd (cc)
named_from_by host false false false star under any e = inr (inr (name_from host e))

pub named_from : (host : List ℕ) → named_host_break host ≡ None → IsNamedHost host
named_from host e = named_from_by host (bytes_eq host (codes "*")) (starts_with nat_eq host (codes "*.")) (starts_with nat_eq host (codes "*")) refl refl refl e

name_host : (c : ℕ) (cs : List ℕ) → nat_eq c 42 ≡ false → name_break (c ∷ cs) ≡ None → named_host_break (c ∷ cs) ≡ None
name_host c cs other name =
    ap₂ (λ a b. cond (a && bytes_eq cs []) None (cond (b && pointwise nat_eq (46 ∷ []) (take 1 cs)) (option_map (λ at. at + 2) (name_break (drop 1 cs))) (cond (b && true) (Some 1) (name_break (c ∷ cs))))) other (number_turned 42 c ∙ other)
    ∙ name

named_of_name : (host : List ℕ) → IsName host → named_host_break host ≡ None
named_of_name [] is = absurd (omega (arith, is.0))
named_of_name (c ∷ cs) is = name_host c cs (no_star c (All-head (λ b. is_name_byte b ≡ true) c cs is.2)) (name_to (c ∷ cs) is)

pub named_to : (host : List ℕ) → IsNamedHost host → named_host_break host ≡ None
named_to host (inl star) = ap named_host_break star
named_to host (inr (inl (name, is, fits))) =
    ap named_host_break is ∙ ap (option_map (λ at. at + 2)) (name_to name fits)
named_to host (inr (inr fits)) = named_of_name host fits

host_from_by : (scheme host : List ℕ) (a b : Bool) → bytes_eq scheme (codes "file") ≡ a → (length host == 0) ≡ b
    → cond a (cond b None (Some 0)) (named_host_break host) ≡ None → IsHost scheme host
host_from_by scheme host true true file empty e =
    inl ((bytes_eq-Decides scheme (codes "file")).0 file, nil_from_length host (eqb-true (length host) 0 empty))
host_from_by scheme host true false file empty e = absurd (cc)
host_from_by scheme host false b file empty e = inr (other, named_from host e)
  where
    other : scheme ≢ codes "file"
    other is =
        let both : true ≡ false = sym ((bytes_eq-Decides scheme (codes "file")).1 is) ∙ file in absurd (cc)

pub host_from : (scheme host : List ℕ) → host_break scheme host ≡ None → IsHost scheme host
host_from scheme host e = host_from_by scheme host (bytes_eq scheme (codes "file")) (length host == 0) refl refl e

other_scheme : (scheme : List ℕ) → scheme ≢ codes "file" → bytes_eq scheme (codes "file") ≡ false
other_scheme scheme apart = by (bytes_eq scheme (codes "file")) refl
  where
    by : (b : Bool) → bytes_eq scheme (codes "file") ≡ b → bytes_eq scheme (codes "file") ≡ false
    by true is = absurd (apart ((bytes_eq-Decides scheme (codes "file")).0 is))
    by false is = is

pub host_to : (scheme host : List ℕ) → IsHost scheme host → host_break scheme host ≡ None
host_to scheme host (inl (file, empty)) = ap₂ host_break file empty
host_to scheme host (inr (apart, fits)) =
    ap (λ b. cond b (cond (length host == 0) None (Some 0)) (named_host_break host)) (other_scheme scheme apart)
    ∙ named_to host fits

-- no host has a slash
abbrev pub HasNoSlash : List ℕ → Type 0
HasNoSlash host = All (λ b. is_slash b ≡ false) host

no_slash : (c : ℕ) → is_name_byte c ≡ true → is_slash c ≡ false
no_slash c name = by (c == 47) refl
  where
    by : (b : Bool) → (c == 47) ≡ b → is_slash c ≡ false
    by true is =
        let slash : false ≡ true = ap is_name_byte (sym (eqb-true c 47 is)) ∙ name in absurd (cc)
    by false is = is

name_without : (name : List ℕ) → IsName name → HasNoSlash name
name_without name is = λ k d within. no_slash (get_or name k d) (is.2 k d within)

named_without : (host : List ℕ) → IsNamedHost host → HasNoSlash host
named_without host (inl star) = subst HasNoSlash (sym star) (All-cons (λ b. is_slash b ≡ false) 42 [] refl (λ k d h. absurd (omega (arith, h))))
named_without host (inr (inl (name, is, fits))) =
    subst HasNoSlash (sym is)
    (All-cons (λ b. is_slash b ≡ false) 42 (46 ∷ name) refl (All-cons (λ b. is_slash b ≡ false) 46 name refl (name_without name fits)))
named_without host (inr (inr fits)) = name_without host fits

pub host_without : (scheme host : List ℕ) → IsHost scheme host → HasNoSlash host
host_without scheme host (inl (file, empty)) = subst HasNoSlash (sym empty) (λ k d h. absurd (omega (arith, h)))
host_without scheme host (inr (apart, fits)) = named_without host fits

-- paths
pub path_to : (path : List ℕ) → IsPath path → path_break path ≡ None
path_to path is =
    let all : prefix_len is_path_byte path ≡ length path = counted_all is_path_byte path is.1 in
    let some : length path ≡ suc (length is.0.0) = ap length is.0.1 in
    unbroken (prefix_len is_path_byte path) path (omega (arith, all, some)) all

-- where a slash stands, the rest begins with it
abbrev slashes : List ℕ → ℕ
slashes xs = position_or_len is_slash xs

abbrev HasSlash : List ℕ → Type 0
HasSlash xs = drop (slashes xs) xs ≡ 47 ∷ drop (slashes xs + 1) xs

slash_by : (c : ℕ) (xs : List ℕ) (b : Bool) → (c == 47) ≡ b → slashes (c ∷ xs) < suc (length xs) → (slashes xs < length xs → HasSlash xs) → HasSlash (c ∷ xs)
slash_by c xs true is within rest =
    let at : slashes (c ∷ xs) ≡ 0 = ap (λ b. cond (not b) (1 + slashes xs) 0) is in
    let more : slashes (c ∷ xs) + 1 ≡ 1 = omega (arith, at) in
    ap (λ k. drop k (c ∷ xs)) at
    ∙ ap (λ x. x ∷ xs) (eqb-true c 47 is)
    ∙ sym (ap (λ k. 47 ∷ drop k (c ∷ xs)) more)
slash_by c xs false is within rest =
    let later : slashes (c ∷ xs) ≡ 1 + slashes xs = ap (λ b. cond (not b) (1 + slashes xs) 0) is in
    let at : slashes (c ∷ xs) ≡ suc (slashes xs) = omega (arith, later) in
    let more : slashes (c ∷ xs) + 1 ≡ suc (slashes xs + 1) = omega (arith, at) in
    ap (λ k. drop k (c ∷ xs)) at
    ∙ rest (omega (arith, within, at))
    ∙ sym (ap (λ k. 47 ∷ drop k (c ∷ xs)) more)

slash_there : (xs : List ℕ) → slashes xs < length xs → HasSlash xs
slash_there [] within = absurd (omega (arith, within))
slash_there (c ∷ xs) within = slash_by c xs (c == 47) refl within (slash_there xs)

-- what stands from the first slash on, where it is no break, is a path
pub path_from : (xs : List ℕ) → path_break (drop (position_or_len is_slash xs) xs) ≡ None → IsPath (drop (position_or_len is_slash xs) xs)
path_from xs e =
    let both = sound_part (prefix_len is_path_byte (drop (slashes xs) xs)) (drop (slashes xs) xs) e in (
      (drop (slashes xs + 1) xs, slash_there xs (omega (arith, both.0, both.1, length-drop (slashes xs) xs))),
      all_counted is_path_byte (drop (slashes xs) xs) both.1,
    )
