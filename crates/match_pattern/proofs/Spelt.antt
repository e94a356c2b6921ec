-- Patterns are spelled by the grammar.
use Rattle.std.proofs.Common.{◌≡◌, ◌⊎◌, inl, inr, ℕ, ◌+◌, Bool, true, false, cond, not, ◌||◌, List, [], ◌∷◌, ◌++◌, length, take, drop, nat_eq, bytes_eq, codes, Option, None, Some, refl, sym, ap, ◌∙◌, arith, subst, take-append-drop}
use Rattle.std.proofs.Math.Seq.{drop-append_seam, take-append_seam}
use Rattle.std.proofs.lemmas.List.{drop-drop}
use Rattle.std.proofs.lemmas.List.Folds.{length-prefix_len}
use Rattle.std.proofs.lemmas.List.Elements.{All-head, All-tail}
use Rattle.std.proofs.lemmas.Slice.Eq.{bytes_eq-Decides}
use Rattle.std.specs.List.{before_first, position_or_len, starts_with}
use Rattle.match_pattern.specs.Globs.{place_of}
use Rattle.match_pattern.specs.Grammar.{IsPath, IsSpelled, PatternsAreSpelled}
use Rattle.match_pattern.specs.Reading.{all_urls, fault_of, host_break, host_of, host_start, is_scheme, is_slash, path_break, path_of, scheme_len, scheme_of, separator}
use Rattle.match_pattern.specs.declared.fault.PatternFault.TheVariants.{NoScheme}
use Rattle.match_pattern.proofs.Breaks.{HasNoSlash, begun, host_from, host_to, host_without, path_from, path_to}
use Rattle.match_pattern.proofs.Faults.{fault_nowhere, fault_of_scheme, fault_without_separator, no_fault_of_all_urls, sound_parts}
use Rattle.match_pattern.proofs.Places.{place_starts}
use Rattle.match_pattern.proofs.Spelled.{scheme_here}

-- ---- what is spelled is a pattern

abbrev pub text_of : List ℕ → List ℕ → List ℕ
text_of scheme behind = scheme ++ (codes "://" ++ behind)

-- a scheme stands before the first separator
pub record StandsFirst (behind scheme : List ℕ) : Type 0 where
  pub all : all_urls (text_of scheme behind) ≡ false
  pub there : place_of separator (text_of scheme behind) ≡ Some (length scheme)

module _ (behind : List ℕ) where
  known : (scheme word : List ℕ) → StandsFirst behind word → bytes_eq scheme word ≡ true → StandsFirst behind scheme
  known scheme word first is = subst (StandsFirst behind) (sym ((bytes_eq-Decides scheme word).0 is)) first

  or_by : (a b : Bool) {P : Type 0} → (a ≡ true → P) → (b ≡ true → P) → (a || b) ≡ true → P
  or_by true b f g e = f refl
  or_by false b f g e = g e

  pub stands_first : (scheme : List ℕ) → is_scheme scheme ≡ true → StandsFirst behind scheme
  stands_first s =
      or_by _ _ (known s (codes "*") (record { all = refl; there = refl }))
      (or_by _ _
      (or_by _ _
      (or_by _ _
      (or_by _ _
      (or_by _ _
      (known s (codes "http") (record { all = refl; there = refl }))
      (known s (codes "https") (record { all = refl; there = refl })))
      (known s (codes "ws") (record { all = refl; there = refl })))
      (known s (codes "wss") (record { all = refl; there = refl })))
      (known s (codes "ftp") (record { all = refl; there = refl })))
      (known s (codes "file") (record { all = refl; there = refl })))

-- the first slash behind a host without one
slash_behind : (host rest : List ℕ) → HasNoSlash host → position_or_len is_slash (host ++ 47 ∷ rest) ≡ length host
slash_behind [] rest none = refl
slash_behind (c ∷ host) rest none =
    let later : position_or_len is_slash (host ++ 47 ∷ rest) ≡ length host =
    slash_behind host rest (All-tail (λ b. is_slash b ≡ false) c host none) in
    ap (λ b. cond (not b) (1 + position_or_len is_slash (host ++ 47 ∷ rest)) 0) (All-head (λ b. is_slash b ≡ false) c host none)
    ∙ omega (arith, later)

module _ (text : List ℕ) (s : IsSpelled text) where
  behind : List ℕ
  behind = s.host ++ s.path

  first : StandsFirst (s.host ++ s.path) s.scheme
  first = stands_first (s.host ++ s.path) s.scheme s.has_scheme

  scheme_seen : s.scheme ≡ scheme_of (text_of s.scheme (s.host ++ s.path))
  scheme_seen =
      sym (ap (λ n. take n (text_of s.scheme (s.host ++ s.path))) (scheme_here (text_of s.scheme (s.host ++ s.path)) (length s.scheme) first.there)
      ∙ take-append_seam s.scheme (codes "://" ++ (s.host ++ s.path)))

  behind_seen : drop (host_start (text_of s.scheme (s.host ++ s.path))) (text_of s.scheme (s.host ++ s.path)) ≡ s.host ++ s.path
  behind_seen =
      ap (λ n. drop (n + 3) (text_of s.scheme (s.host ++ s.path))) (scheme_here (text_of s.scheme (s.host ++ s.path)) (length s.scheme) first.there)
      ∙ sym (drop-drop 3 (length s.scheme) (text_of s.scheme (s.host ++ s.path)))
      ∙ ap (drop 3) (drop-append_seam s.scheme (codes "://" ++ (s.host ++ s.path)))

  slash_seen : position_or_len is_slash (s.host ++ s.path) ≡ length s.host
  slash_seen =
      ap (λ p. position_or_len is_slash (s.host ++ p)) s.has_path.0.1
      ∙ slash_behind s.host s.has_path.0.0 (host_without s.scheme s.host s.has_host)

  host_seen : s.host ≡ host_of (text_of s.scheme (s.host ++ s.path))
  host_seen =
      sym (ap (before_first is_slash) behind_seen
      ∙ ap (λ n. take n (s.host ++ s.path)) slash_seen
      ∙ take-append_seam s.host s.path)

  path_seen : s.path ≡ path_of (text_of s.scheme (s.host ++ s.path))
  path_seen =
      sym (ap (λ h. drop (host_start (text_of s.scheme (s.host ++ s.path)) + length h) (text_of s.scheme (s.host ++ s.path))) (sym host_seen)
      ∙ sym (drop-drop (length s.host) (host_start (text_of s.scheme (s.host ++ s.path))) (text_of s.scheme (s.host ++ s.path)))
      ∙ ap (drop (length s.host)) behind_seen
      ∙ drop-append_seam s.host s.path)

  pattern_of : fault_of (text_of s.scheme (s.host ++ s.path)) ≡ None
  pattern_of =
      fault_nowhere (text_of s.scheme (s.host ++ s.path)) (text_of s.scheme (s.host ++ s.path)) s.scheme refl first.all first.there scheme_seen
      s.has_scheme s.host host_seen s.path path_seen (host_to s.scheme s.host s.has_host) (path_to s.path s.has_path)

  is_pattern : fault_of text ≡ None
  is_pattern = ap fault_of s.whole ∙ pattern_of

-- ---- a pattern is spelled so

module _ (text : List ℕ) (sound : fault_of text ≡ None) (all : all_urls text ≡ false) where
  module _ (k : ℕ) (at : place_of separator text ≡ Some k) (scheme : is_scheme (scheme_of text) ≡ true) where
    sound_both : (host_break (scheme_of text) (host_of text) ≡ None) × (path_break (path_of text) ≡ None)
    sound_both = sound_parts text k all at scheme sound

    path_there : path_of text ≡ drop (position_or_len is_slash (drop (host_start text) text)) (drop (host_start text) text)
    path_there =
        sym (drop-drop (length (host_of text)) (host_start text) text)
        ∙ ap (λ n. drop n (drop (host_start text) text)) (length-prefix_len _ (drop (host_start text) text))

    goes_on : host_of text ++ path_of text ≡ drop (host_start text) text
    goes_on =
        ap (λ p. host_of text ++ p) path_there
        ∙ take-append-drop (position_or_len is_slash (drop (host_start text) text)) (drop (host_start text) text)

    behind_scheme : drop (scheme_len text) text ≡ codes "://" ++ (host_of text ++ path_of text)
    behind_scheme =
        begun (drop (scheme_len text) text) separator
        (ap (λ n. starts_with nat_eq (drop n text) separator) (scheme_here text k at) ∙ place_starts separator text k at)
        ∙ ap (λ l. codes "://" ++ l) (drop-drop 3 (scheme_len text) text ∙ sym goes_on)

    spelled_so : IsSpelled text
    spelled_so = record {
      scheme = scheme_of text;
      host = host_of text;
      path = path_of text;
      whole = sym (take-append-drop (scheme_len text) text) ∙ ap (λ l. scheme_of text ++ l) behind_scheme;
      has_scheme = scheme;
      has_host = host_from (scheme_of text) (host_of text) sound_both.0;
      has_path = subst IsPath (sym path_there) (path_from (drop (host_start text) text) (sym (ap path_break path_there) ∙ sound_both.1));
    }

  spelled_by : (o : Option ℕ) (b : Bool) → place_of separator text ≡ o → is_scheme (scheme_of text) ≡ b → IsSpelled text
  spelled_by None b at is =
      let both : None ≡ Some (NoScheme 0) = sym sound ∙ fault_without_separator text text refl all at in absurd (cc)
  spelled_by (Some k) false at is =
      let both : None ≡ Some (NoScheme 0) = sym sound ∙ fault_of_scheme text k all at is in absurd (cc)
  spelled_by (Some k) true at is = spelled_so k at is

spelled_text : (text : List ℕ) (b : Bool) → all_urls text ≡ b → fault_of text ≡ None → (text ≡ codes "<all_urls>") ⊎ IsSpelled text
spelled_text text true all sound = inl ((bytes_eq-Decides text (codes "<all_urls>")).0 all)
spelled_text text false all sound = inr (spelled_by text sound all (place_of separator text) (is_scheme (scheme_of text)) refl refl)

pub spelled : PatternsAreSpelled
spelled text = (spelled_text text (all_urls text) refl, back)
  where
    back : (text ≡ codes "<all_urls>") ⊎ IsSpelled text → fault_of text ≡ None
    back (inl all) = no_fault_of_all_urls text (ap all_urls all)
    back (inr s) = is_pattern text s
