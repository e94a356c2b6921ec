-- Which fault is told, by what a text has.
use Rattle.std.proofs.Common.{◌≡◌, ℕ, ◌+◌, true, false, cond, not, ◌&&◌, List, length, is_some, Option, Some, None, option_map, refl, sym, ap, ap₂, ◌∙◌}
use Rattle.std.specs.Option.{option_or}
use Rattle.url.specs.Parts.{Parts}
use Rattle.match_pattern.specs.Globs.{place_of}
use Rattle.match_pattern.specs.Matching.{fits_parts, is_match}
use Rattle.match_pattern.specs.Reading.{all_urls, fault_of, has_scheme, host_break, host_of, host_start, is_known_scheme, is_scheme, path_break, path_of, path_start, scheme_of, separator}
use Rattle.match_pattern.proofs.Spelled.{scheme_here}
use Rattle.match_pattern.specs.declared.fault.PatternFault.{PatternFault}
use Rattle.match_pattern.specs.declared.fault.PatternFault.TheVariants.{NoScheme, BadHost, BadPath}

-- a text that a place breaks
abbrev pub broken : List ℕ → Option PatternFault
broken text = option_or
    (option_map (λ at. BadHost (host_start text + at)) (host_break (scheme_of text) (host_of text)))
    (option_map (λ at. BadPath (path_start text + at)) (path_break (path_of text)))

by_tests : (text : List ℕ) → fault_of text ≡ cond (all_urls text) None (cond (not (has_scheme text)) (Some (NoScheme 0)) (broken text))
unfolding fault_of
by_tests text = refl

pub no_fault_of_all_urls : (text : List ℕ) → all_urls text ≡ true → fault_of text ≡ None
no_fault_of_all_urls text all = by_tests text ∙ ap (λ b. cond b None (cond (not (has_scheme text)) (Some (NoScheme 0)) (broken text))) all

other : (text : List ℕ) → all_urls text ≡ false → fault_of text ≡ cond (not (has_scheme text)) (Some (NoScheme 0)) (broken text)
other text all = by_tests text ∙ ap (λ b. cond b None (cond (not (has_scheme text)) (Some (NoScheme 0)) (broken text))) all

pub fault_without_separator : (text bytes : List ℕ) → bytes ≡ text → all_urls text ≡ false → place_of separator bytes ≡ None → fault_of text ≡ Some (NoScheme 0)
fault_without_separator text bytes same all none_there =
    let none : place_of separator text ≡ None = ap (place_of separator) (sym same) ∙ none_there in
    other text all ∙ ap (λ o. cond (not (is_some o && is_scheme (scheme_of text))) (Some (NoScheme 0)) (broken text)) none

pub fault_of_scheme : (text : List ℕ) (k : ℕ) → all_urls text ≡ false → place_of separator text ≡ Some k → is_scheme (scheme_of text) ≡ false → fault_of text ≡ Some (NoScheme 0)
fault_of_scheme text k all at misses =
    other text all ∙ ap₂ (λ o b. cond (not (is_some o && b)) (Some (NoScheme 0)) (broken text)) at misses

pub fault_of_other_scheme : (text bytes scheme : List ℕ) → bytes ≡ text → all_urls text ≡ false → place_of separator bytes ≡ Some (length scheme)
    → scheme ≡ scheme_of bytes → is_scheme scheme ≡ false → fault_of text ≡ Some (NoScheme 0)
fault_of_other_scheme text bytes scheme same all at is misses =
    other text all
    ∙ ap₂ (λ o b. cond (not (is_some o && b)) (Some (NoScheme 0)) (broken text)) (ap (place_of separator) (sym same) ∙ at)
    (ap is_scheme (sym (is ∙ ap scheme_of same)) ∙ misses)

pub of_parts : (text : List ℕ) (k : ℕ) → all_urls text ≡ false → place_of separator text ≡ Some k → is_scheme (scheme_of text) ≡ true → fault_of text ≡ broken text
of_parts text k all at scheme =
    other text all ∙ ap₂ (λ o b. cond (not (is_some o && b)) (Some (NoScheme 0)) (broken text)) at scheme

-- what is known of a text with a separator behind a scheme
module _ (text bytes scheme : List ℕ) (same : bytes ≡ text) (all : all_urls text ≡ false) (there : place_of separator bytes ≡ Some (length scheme)) (scheme_is : scheme ≡ scheme_of bytes) (fits : is_scheme scheme ≡ true) where
  at : place_of separator text ≡ Some (length scheme)
  at = ap (place_of separator) (sym same) ∙ there

  is : scheme ≡ scheme_of text
  is = scheme_is ∙ ap scheme_of same

  of_both : fault_of text ≡ broken text
  of_both = of_parts text (length scheme) all at (ap is_scheme (sym is) ∙ fits)

  host_from : host_start text ≡ length scheme + 3
  host_from = ap (λ n. n + 3) (scheme_here text (length scheme) at)

  module _ (host : List ℕ) (host_there : host ≡ host_of bytes) where
    host_is : host ≡ host_of text
    host_is = host_there ∙ ap host_of same

    path_from : path_start text ≡ length scheme + 3 + length host
    path_from = ap₂ (λ n h. n + length h) host_from (sym host_is)

    break_is : host_break scheme host ≡ host_break (scheme_of text) (host_of text)
    break_is = ap₂ host_break is host_is

    pub fault_in_host : (k : ℕ) → host_break scheme host ≡ Some k → fault_of text ≡ Some (BadHost (length scheme + 3 + k))
    fault_in_host k e =
        of_both
        ∙ ap (λ o. option_or (option_map (λ at. BadHost (host_start text + at)) o) (option_map (λ at. BadPath (path_start text + at)) (path_break (path_of text)))) (sym break_is ∙ e)
        ∙ ap (λ n. Some (BadHost (n + k))) host_from

    module _ (path : List ℕ) (path_there : path ≡ path_of bytes) (sound : host_break scheme host ≡ None) where
      path_is : path ≡ path_of text
      path_is = path_there ∙ ap path_of same

      by_path : fault_of text ≡ option_map (λ at. BadPath (path_start text + at)) (path_break path)
      by_path =
          of_both
          ∙ ap₂ (λ o l. option_or (option_map (λ at. BadHost (host_start text + at)) o) (option_map (λ at. BadPath (path_start text + at)) (path_break l))) (sym break_is ∙ sound) (sym path_is)

      pub fault_in_path : (k : ℕ) → path_break path ≡ Some k → fault_of text ≡ Some (BadPath (length scheme + 3 + length host + k))
      fault_in_path k e =
          by_path ∙ ap (option_map (λ at. BadPath (path_start text + at))) e ∙ ap (λ n. Some (BadPath (n + k))) path_from

      pub fault_nowhere : path_break path ≡ None → fault_of text ≡ None
      fault_nowhere e = by_path ∙ ap (option_map (λ at. BadPath (path_start text + at))) e

-- matching, by the same tests
pub all_match : (text : List ℕ) (url : Parts) → all_urls text ≡ true → is_match text url ≡ is_known_scheme url.scheme
unfolding is_match
all_match text url all = ap (λ b. cond b (is_known_scheme url.scheme) (fits_parts (scheme_of text) (host_of text) (path_of text) url)) all

pub parts_match : (text : List ℕ) (url : Parts) → all_urls text ≡ false → is_match text url ≡ fits_parts (scheme_of text) (host_of text) (path_of text) url
unfolding is_match
parts_match text url all = ap (λ b. cond b (is_known_scheme url.scheme) (fits_parts (scheme_of text) (host_of text) (path_of text) url)) all

-- a pattern with parts has a separator
pub separator_there : (text bytes : List ℕ) → bytes ≡ text → fault_of text ≡ None → all_urls text ≡ false → place_of separator bytes ≡ None → ⊥
separator_there text bytes same sound all none =
    let two : None ≡ Some (NoScheme 0) = sym sound ∙ fault_without_separator text bytes same all none in absurd (cc)

-- the parts of a text that is the same
pub same_parts : (text bytes scheme host path : List ℕ) (url : Parts) → bytes ≡ text → scheme ≡ scheme_of bytes → host ≡ host_of bytes → path ≡ path_of bytes
    → fits_parts scheme host path url ≡ fits_parts (scheme_of text) (host_of text) (path_of text) url
same_parts text bytes scheme host path url same s h p =
    ap (λ x. fits_parts x host path url) s
    ∙ ap₂ (λ x y. fits_parts (scheme_of bytes) x y url) h p
    ∙ ap (λ b. fits_parts (scheme_of b) (host_of b) (path_of b) url) same

-- where nothing is told, neither host nor path breaks
nowhere : (h p : Option ℕ) (f g : ℕ → PatternFault) → option_or (option_map f h) (option_map g p) ≡ None → (h ≡ None) × (p ≡ None)
nowhere None None f g e = (refl, refl)
nowhere None (Some p) f g e = absurd (cc)
nowhere (Some h) p f g e = absurd (cc)

pub sound_parts : (text : List ℕ) (k : ℕ) → all_urls text ≡ false → place_of separator text ≡ Some k → is_scheme (scheme_of text) ≡ true → fault_of text ≡ None
    → (host_break (scheme_of text) (host_of text) ≡ None) × (path_break (path_of text) ≡ None)
sound_parts text k all at scheme sound =
    nowhere (host_break (scheme_of text) (host_of text)) (path_break (path_of text)) _ _ (sym (of_parts text k all at scheme) ∙ sound)
