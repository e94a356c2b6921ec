-- Rounds: behind the first that adds no entry none does anything, and as many as what waits weighs are enough.
use Rattle.std.proofs.Common.{◌≡◌, ◌⊎◌, inl, inr, ℕ, zero, suc, ◌+◌, ◌-◌, ◌<◌, ◌≤◌, ◌==◌, true, false, length, refl, ap, sym, subst, ◌∙◌, arith, eq-or-lt_of_le}
use Rattle.std.proofs.lemmas.Bool.{eqb-true, eqb-false}
use Rattle.field_rules.specs.Bounds.{Bounds}
use Rattle.protocol.specs.Start.{numbers}
use Rattle.model.specs.Laws.{RunFits, SettlingEnds}
use Rattle.model.specs.Next.{Run}
use Rattle.model.specs.Settling.{weight, heard_by, taken_by, all_served, round, rounds, settled, IsServed}
use Rattle.model.proofs.RoundsGoes.{Goes, goes_nowhere, goes_on, goes_heard, goes_taken, goes_all, goes_round, still_below, grows, numbers_below, served_still}

module _ (bounds : Bounds) where
  -- ---- a round that adds no entry

  served_in : (k m n : ℕ) (r : Run) → RunFits r → length r.config.types ≡ n → k + m ≤ n → length (all_served bounds (numbers k m) r).journal ≡ length r.journal → (p : ℕ) → k ≤ p → p < k + m → IsServed p r
  unfolding all_served
  served_in k zero n r fits count within none p from below = absurd (omega arith)
  served_in k (suc m) n r fits count within none p from below =
      let here : Run = heard_by bounds k r in
      let r' : Run = taken_by bounds k (heard_by bounds k r) in
      let k_below : k < length r.config.types = omega arith in
      let heard : Goes r here = goes_heard bounds k r fits k_below in
      let taken : Goes here r' = goes_taken bounds k here heard.fits (still_below k r here heard k_below) in
      let both : Goes r r' = goes_on r here r' heard taken in
      let count' : length r'.config.types ≡ n = ap (λ c. length c.types) both.config ∙ count in
      let rest : Goes r' (all_served bounds (numbers (suc k) m) r') = goes_all bounds (numbers (suc k) m) n r' both.fits count' (numbers_below (suc k) m n (omega arith)) in
      let no_hear : length here.journal ≡ length r.journal = omega (arith, none, grows r here heard, grows here r' taken, grows r' (all_served bounds (numbers (suc k) m) r') rest) in
      let no_take : length r'.journal ≡ length here.journal = omega (arith, none, grows r here heard, grows here r' taken, grows r' (all_served bounds (numbers (suc k) m) r') rest) in
      let not_heard : here ≡ r = heard.still no_hear in
      let not_taken : r' ≡ here = taken.still no_take in
      let same : r' ≡ r = not_taken ∙ not_heard in
      let none' : length (all_served bounds (numbers (suc k) m) r').journal ≡ length r'.journal = omega (arith, none, no_hear, no_take) in
      elim (k == p) as (λ b. (k == p) ≡ b → IsServed p r) [
        | true ↦ λ at. subst (λ q. IsServed q r) (eqb-true k p at) (served_still bounds k r fits not_heard (ap (taken_by bounds k) (sym not_heard) ∙ same))
        | false ↦ λ other. let apart : k ≡ p → ⊥ = eqb-false k p other in
            let further : suc k ≤ p = grind arith in
            subst (IsServed p) same (served_in (suc k) m n r' both.fits count' (omega arith) none' p further (omega arith))
      ] refl

  -- without a further entry nothing waits for any process
  pub served_by_round : (r : Run) → RunFits r → length (round bounds r).journal ≡ length r.journal → (p : ℕ) → p < length r.config.types → IsServed p r
  served_by_round r fits none p below = served_in 0 (length r.config.types) (length r.config.types) r fits refl (omega arith) none p (omega arith) (omega arith)

  -- and the round does nothing
  pub still : (r : Run) → RunFits r → length (round bounds r).journal ≡ length r.journal → round bounds r ≡ r
  still r fits none = (goes_round bounds r fits).still none

  -- with one, what waits weighs less
  pub round_lowers : (r : Run) → RunFits r → (length (round bounds r).journal ≡ length r.journal → ⊥) → weight (round bounds r) < weight r
  round_lowers r fits more =
      let one : Goes r (round bounds r) = goes_round bounds r fits in
      omega (arith, one.falls, grows r (round bounds r) one, more)

  -- ---- more rounds

  pub rounds_still : (n : ℕ) (r : Run) → round bounds r ≡ r → rounds bounds n r ≡ r
  unfolding rounds
  rounds_still zero r same = refl
  rounds_still (suc n) r same = ap (rounds bounds n) same ∙ rounds_still n r same

  pub goes_rounds : (n : ℕ) (r : Run) → RunFits r → Goes r (rounds bounds n r)
  unfolding rounds
  goes_rounds zero r fits = goes_nowhere r fits
  goes_rounds (suc n) r fits =
      let one : Goes r (round bounds r) = goes_round bounds r fits in
      goes_on r (round bounds r) (rounds bounds n (round bounds r)) one (goes_rounds n (round bounds r) one.fits)

  -- a round does nothing, or what waits weighs less behind it
  pub lower_or_still : (r : Run) → RunFits r → (round bounds r ≡ r) ⊎ (weight (round bounds r) < weight r)
  lower_or_still r fits =
      let one : Goes r (round bounds r) = goes_round bounds r fits in
      elim (eq-or-lt_of_le (grows r (round bounds r) one)) [
        | inl none ↦ inl (one.still (sym none))
        | inr more ↦ inr (omega (arith, one.falls, more))
      ]

  -- so many rounds end it
  pub rounds_end : (n : ℕ) (r : Run) → RunFits r → weight r ≤ n → round bounds (rounds bounds n r) ≡ rounds bounds n r
  unfolding rounds
  rounds_end zero r fits enough = elim (lower_or_still r fits) [ inl same ↦ same | inr lower ↦ absurd (omega (arith, lower)) ]
  rounds_end (suc n) r fits enough = elim (lower_or_still r fits) [
    | inl same ↦ ap (λ x. round bounds (rounds bounds n x)) same ∙ (ap (round bounds) (rounds_still n r same) ∙ same) ∙ sym (rounds_still n r same) ∙ sym (ap (rounds bounds n) same)
    | inr lower ↦ rounds_end n (round bounds r) (goes_round bounds r fits).fits (omega (arith, lower))
  ]

  rounds-add : (m k : ℕ) (r : Run) → rounds bounds (m + k) r ≡ rounds bounds k (rounds bounds m r)
  unfolding rounds
  rounds-add zero k r = let e : 0 + k ≡ k = omega arith in ap (λ n. rounds bounds n r) e
  rounds-add (suc m) k r = let e : suc m + k ≡ suc (m + k) = omega arith in ap (λ n. rounds bounds n r) e ∙ rounds-add m k (round bounds r)

  -- any number of rounds that is no less than what waits weighs comes to the same
  pub enough : (n : ℕ) (r : Run) → RunFits r → weight r ≤ n → rounds bounds n r ≡ settled bounds r
  unfolding settled
  enough n r fits many =
      let split : n ≡ weight r + (n - weight r) = omega arith in
      ap (λ m. rounds bounds m r) split ∙ rounds-add (weight r) (n - weight r) r ∙ rounds_still (n - weight r) (rounds bounds (weight r) r) (rounds_end (weight r) r fits (omega arith))

  -- ---- settling

  pub settled_still : (r : Run) → round bounds r ≡ r → settled bounds r ≡ r
  unfolding settled
  settled_still r same = rounds_still (weight r) r same

  -- without a further entry the run is settled
  pub settled_same : (r : Run) → RunFits r → length (round bounds r).journal ≡ length r.journal → settled bounds r ≡ r
  settled_same r fits none = settled_still r (still r fits none)

  rounds_first : (n : ℕ) (r : Run) → rounds bounds (suc n) r ≡ rounds bounds n (round bounds r)
  unfolding rounds
  rounds_first n r = refl

  pub settled_round : (r : Run) → RunFits r → settled bounds (round bounds r) ≡ settled bounds r
  unfolding settled
  settled_round r fits = elim (lower_or_still r fits) [
    | inl same ↦ ap (settled bounds) same
    | inr lower ↦
        let less : weight r ≡ suc (weight r - 1) = omega (arith, lower) in
        sym (ap (λ n. rounds bounds n r) less ∙ rounds_first (weight r - 1) r ∙ enough (weight r - 1) (round bounds r) (goes_round bounds r fits).fits (omega (arith, lower)))
  ]

  pub goes_settled : (r : Run) → RunFits r → Goes r (settled bounds r)
  unfolding settled
  goes_settled r fits = goes_rounds (weight r) r fits

  pub settled_end : (r : Run) → RunFits r → round bounds (settled bounds r) ≡ settled bounds r
  unfolding settled
  settled_end r fits = rounds_end (weight r) r fits (omega arith)

pub settling_ends : SettlingEnds
settling_ends bounds r fits =
    let goes : Goes r (settled bounds r) = goes_settled bounds r fits in
    record {
      config = goes.config;
      served = λ p below. served_by_round bounds (settled bounds r) goes.fits (ap (λ x. length x.journal) (settled_end bounds r fits)) p (still_below p r (settled bounds r) goes below);
      extends = goes.extends;
      falls = goes.falls;
    }

-- ---- a loop of rounds that began at one run, is at another, and makes a round, as long as that adds an entry

pub record IsOnTheWay (bounds : Bounds) (start r : Run) : Type 0 where
  pub goes : Goes start r
  pub same : settled bounds r ≡ settled bounds start

module _ (bounds : Bounds) where
  pub way_begins : (start : Run) → RunFits start → IsOnTheWay bounds start start
  way_begins start fits = record { goes = goes_nowhere start fits; same = refl }

  pub way_goes_on : (start r next : Run) → IsOnTheWay bounds start r → next ≡ round bounds r → IsOnTheWay bounds start next
  way_goes_on start r next way is = subst (IsOnTheWay bounds start) (sym is) (record {
    goes = goes_on start r (round bounds r) way.goes (goes_round bounds r way.goes.fits);
    same = settled_round bounds r way.goes.fits ∙ way.same;
  })

  pub way_shortens : (start r next : Run) → IsOnTheWay bounds start r → next ≡ round bounds r → (length next.journal ≡ length r.journal → ⊥) → weight next < weight r
  way_shortens start r next way is more = subst (λ x. (length x.journal ≡ length r.journal → ⊥) → weight x < weight r) (sym is) (round_lowers bounds r way.goes.fits) more

  pub way_ends : (start r next : Run) → IsOnTheWay bounds start r → next ≡ round bounds r → length next.journal ≡ length r.journal → next ≡ settled bounds start
  way_ends start r next way is none =
      let added : length (round bounds r).journal ≡ length r.journal = ap (λ x. length x.journal) (sym is) ∙ none in
      is ∙ still bounds r way.goes.fits added ∙ sym (settled_same bounds r way.goes.fits added) ∙ way.same
