-- The parts of a text by the place of its separator.
use Rattle.std.proofs.Common.{◌≡◌, ℕ, ◌+◌, ◌-◌, List, length, take, drop, Some, unwrap_or, sym, ap, ◌∙◌}
use Rattle.std.proofs.lemmas.List.{drop-drop}
use Rattle.std.proofs.lemmas.List.Folds.{length-prefix_len}
use Rattle.std.specs.List.{position_or_len, before_first}
use Rattle.match_pattern.specs.Globs.{place_of}
use Rattle.match_pattern.specs.Reading.{host_of, host_start, is_slash, path_of, scheme_len, separator}
use Rattle.match_pattern.proofs.Places.{rest_whole}

module _ (text : List ℕ) (k : ℕ) (at : place_of separator text ≡ Some k) where
  pub scheme_here : scheme_len text ≡ k
  scheme_here = ap (λ o. unwrap_or o 0) at

  module _ (seen : List ℕ) (is : seen ≡ take (length text - (k + 3)) (drop (k + 3) text)) where
    seen_rest : seen ≡ drop (host_start text) text
    seen_rest = is ∙ rest_whole (k + 3) text ∙ ap (λ n. drop (n + 3) text) (sym scheme_here)

    pub host_here : (n : ℕ) → n ≡ position_or_len is_slash seen → take n seen ≡ host_of text
    host_here n e = ap (λ m. take m seen) e ∙ ap (before_first is_slash) seen_rest

    pub path_here : (n : ℕ) → n ≡ position_or_len is_slash seen → take (length seen - n) (drop n seen) ≡ path_of text
    path_here n e =
        let len : length (host_of text) ≡ n =
        sym (ap length (host_here n e)) ∙ ap (λ m. length (take m seen)) e ∙ length-prefix_len _ seen ∙ sym e in
        rest_whole n seen
        ∙ ap (drop n) seen_rest
        ∙ drop-drop n (host_start text) text
        ∙ ap (λ m. drop (host_start text + m) text) (sym len)
