-- A star stands for any run of bytes.
use Rattle.std.proofs.Common.{◌⊎◌, inl, inr, ◌≡◌, ◌≢◌, ◌↔◌, ℕ, ◌==◌, Bool, true, false, cond, ◌&&◌, ◌||◌, List, [], ◌∷◌, ◌++◌, drop, refl, sym, ap, ◌∙◌, eqb-true}
use Rattle.std.specs.Cmp.{nat_eq_equiv}
use Rattle.std.specs.List.{list_any}
use Rattle.match_pattern.proofs.Lists.{or_none}
use Rattle.match_pattern.specs.Globs.{ends, globs, is_first, star, StarsStandForAnyRun}

abbrev HasRun : (List ℕ → Bool) → List ℕ → Type 0
HasRun f text = (run : List ℕ) × (rest : List ℕ) × (text ≡ run ++ rest) × (f rest ≡ true)

or_cases : (a b : Bool) → (a || b) ≡ true → (a ≡ true) ⊎ (b ≡ true)
or_cases true b e = inl refl
or_cases false b e = inr e

run_of_end : (f : List ℕ → Bool) (text : List ℕ) → list_any f (ends text) ≡ true → HasRun f text
run_of_end f [] e = ([], [], refl, sym (or_none (f [])) ∙ e)
run_of_end f (t ∷ text) e = by (or_cases (f (t ∷ text)) (list_any f (ends text)) e) (run_of_end f text)
  where
    by : (f (t ∷ text) ≡ true) ⊎ (list_any f (ends text) ≡ true) → (list_any f (ends text) ≡ true → HasRun f text) → HasRun f (t ∷ text)
    by (inl here) rest = ([], t ∷ text, refl, here)
    by (inr later) rest = let r = rest later in (t ∷ r.0, r.1, ap (λ l. t ∷ l) r.2, r.3)

end_of_run : (f : List ℕ → Bool) (run rest : List ℕ) → f rest ≡ true → list_any f (ends (run ++ rest)) ≡ true
end_of_run f [] [] h = ap (λ b. b || false) h
end_of_run f [] (r ∷ rest) h = ap (λ b. b || list_any f (ends rest)) h
end_of_run f (x ∷ run) rest h = or_later (f (x ∷ (run ++ rest))) (list_any f (ends (run ++ rest))) (end_of_run f run rest h)
  where
    or_later : (a b : Bool) → b ≡ true → (a || b) ≡ true
    or_later true b e = refl
    or_later false b e = e

abbrev HasFirst : ℕ → List ℕ → List ℕ → Type 0
HasFirst c pattern text = (rest : List ℕ) × (text ≡ c ∷ rest) × (globs pattern rest ≡ true)

first_of_text : (c : ℕ) (pattern text : List ℕ) → (is_first c text && globs pattern (drop 1 text)) ≡ true → HasFirst c pattern text
first_of_text c pattern [] e = absurd (cc)
first_of_text c pattern (t ∷ text) e = by (c == t) refl (globs pattern text) refl e
  where
    by : (a : Bool) → (c == t) ≡ a → (b : Bool) → globs pattern text ≡ b → (a && b) ≡ true → HasFirst c pattern (t ∷ text)
    by true is true fits h = (text, ap (λ x. x ∷ text) (sym (eqb-true c t is)), fits)
    by true is false fits h = absurd (cc)
    by false is b fits h = absurd (cc)

-- a byte that is no star
other : (c : ℕ) (pattern text : List ℕ) → c ≢ star → globs (c ∷ pattern) text ≡ (is_first c text && globs pattern (drop 1 text))
other c pattern text apart = by (c == star) refl
  where
    by : (b : Bool) → (c == star) ≡ b → globs (c ∷ pattern) text ≡ (is_first c text && globs pattern (drop 1 text))
    by true is = absurd (apart (eqb-true c star is))
    by false is = ap (λ b. cond b (list_any (globs pattern) (ends text)) (is_first c text && globs pattern (drop 1 text))) is

itself : (c : ℕ) (pattern rest : List ℕ) → globs pattern rest ≡ true → (is_first c (c ∷ rest) && globs pattern rest) ≡ true
itself c pattern rest fits = ap (λ b. b && globs pattern rest) (nat_eq_equiv.refl c) ∙ fits

nothing : (text : List ℕ) → (globs [] text ≡ true) ↔ (text ≡ [])
nothing [] = (λ h. refl, λ h. refl)
nothing (t ∷ text) = (λ h. absurd (cc), λ h. absurd (cc))

pub runs : StarsStandForAnyRun
runs = record {
  nothing = nothing;
  any_run = λ pattern text. (
    run_of_end (globs pattern) text,
    λ r. ap (λ l. list_any (globs pattern) (ends l)) r.2 ∙ end_of_run (globs pattern) r.0 r.1 r.3,
  );
  itself = λ c pattern text apart. (
    λ h. first_of_text c pattern text (sym (other c pattern text apart) ∙ h),
    λ r. ap (globs (c ∷ pattern)) r.1 ∙ other c pattern (c ∷ r.0) apart ∙ itself c pattern r.0 r.2,
  );
}
