-- The process that is chosen is the least of its type.
use Rattle.std.proofs.Common.{◌≡◌, ◌≢◌, ◌∙◌, refl, sym, ap, subst, ℕ, zero, suc, ◌<◌, ◌≤◌, Bool, true, false, cond, List, [], ◌∷◌, length, get_or, Option, None, Some, true≢false, arith}
use Rattle.std.specs.Prelude.{nat_lt, option_map, slice_get, MatchOption}
use Rattle.std.specs.List.{position_or_len}
use Rattle.std.specs.Option.{option_map_or}
use Rattle.std.proofs.lemmas.List.Sums.{passes_at_first, fails_before_first}
use Rattle.std.proofs.lemmas.Option.{get_or_from_slice_get, slice_get-get_or}
use Rattle.std.proofs.lemmas.Slice.Eq.{bytes_eq-Decides}
use Rattle.std.proofs.lemmas.Grind.{common_steps}
use Rattle.fission_ids.specs.declared.process.ProcId.{ProcId}
use Rattle.process_switch.specs.declared.plan.Plan.TheVariants.{NoProcess, Stay, Switch}
use Rattle.process_switch.specs.Choice.{Live, is_of, choice, serves, IsLeast, ChoiceIsTheLeast, SwitchLeavesTheOwner}

own_type : (t : List ℕ) → is_of t (Some t) ≡ true
own_type t = (bytes_eq-Decides t t).1 refl

has_type : (t : List ℕ) (process : Option (List ℕ)) → is_of t process ≡ true → process ≡ Some t
has_type t None e = absurd (true≢false (sym e))
has_type t (Some own) e = ap Some ((bytes_eq-Decides own t).0 e)

found_within : {X : Type 0} (xs : List X) (q : ℕ) (x : X) → slice_get xs q ≡ Some x → q < length xs
found_within [] q x e = absurd (cc)
found_within (y ∷ ys) zero x e = omega arith
found_within (y ∷ ys) (suc q) x e = omega (arith, found_within ys q x e)

-- a process that fails the test isn't of the type
fails : (t : List ℕ) (live : Live) (q : ℕ) → is_of t (get_or live q None) ≡ false → slice_get live q ≢ Some (Some t)
fails t live q fails_test e = true≢false (sym (own_type t) ∙ ap (is_of t) (sym (get_or_from_slice_get live q (Some t) None e)) ∙ fails_test)

pub least_live : ChoiceIsTheLeast
least_live live t = by (nat_lt (position_or_len (is_of t) live) (length live)) refl
  where
    by : (b : Bool) → nat_lt (position_or_len (is_of t) live) (length live) ≡ b
        → MatchOption (option_map (λ p. record { 0 = p }) (cond b (Some (position_or_len (is_of t) live)) None)) ((q : ℕ) → slice_get live q ≢ Some (Some t)) (IsLeast live t)
    by true e =
        let within : position_or_len (is_of t) live < length live = grind (arith, common_steps) in (
          slice_get-get_or live (position_or_len (is_of t) live) None within
              ∙ ap Some (has_type t (get_or live (position_or_len (is_of t) live) None) (passes_at_first (is_of t) live None within)),
          λ q before. fails t live q (fails_before_first (is_of t) live q None before),
        )
    by false e = λ q at.
        let past : length live ≤ position_or_len (is_of t) live = grind (arith, common_steps) in
        let before : q < position_or_len (is_of t) live = omega (arith, found_within live q (Some t) at, past) in
        fails t live q (fails_before_first (is_of t) live q None before) at

-- what is chosen is live and of the type
chosen_serves : (t : List ℕ) (live : Live) (p : ProcId) → choice live t ≡ Some p → serves t (Some p) live ≡ true
chosen_serves t live p e =
    let least = subst (λ o. MatchOption o ((q : ℕ) → slice_get live q ≢ Some (Some t)) (IsLeast live t)) e (least_live live t) in
    ap (λ o. option_map_or (is_of t) o false) least.0 ∙ own_type t

pub other_than_owner : SwitchLeavesTheOwner
other_than_owner t owner live p e is = by (serves t owner live) (choice live t) refl refl e
  where
    by : (b : Bool) (o : Option ProcId) → serves t owner live ≡ b → choice live t ≡ o → cond b Stay (option_map_or Switch o NoProcess) ≡ Switch p → ⊥
    by true o s f e = cc
    by false None s f e = cc
    by false (Some q) s f e =
        let same : q ≡ p = cc in
        true≢false (sym (chosen_serves t live p (f ∙ ap Some same)) ∙ ap (λ o. serves t o live) (sym is) ∙ s)
