-- Numbered rows, and rows that are settled.
use Rattle.std.proofs.Common.{◌≡◌, ℕ, zero, suc, ◌+◌, ◌<◌, ◌≤◌, Bool, true, false, ◌||◌, ◌&&◌, ◌==◌, cond, List, [], ◌∷◌, ◌++◌, length, get_or, set, refl, sym, ap, ◌∙◌, arith, eqb-true, eq-eqb}
use Rattle.std.specs.Prelude.{Some, None, Option, find}
use Rattle.std.specs.List.{list_any}
use Rattle.std.specs.Option.{option_map, option_map_or}
use Rattle.fission_ids.specs.declared.outcome.Outcome.{Outcome}
use Rattle.fission_ids.specs.declared.query.QueryId.{QueryId}
use Rattle.queries.specs.declared.row.QState.TheVariants.{Settled}
use Rattle.queries.specs.declared.row.QueryRow.{QueryRow}
use Rattle.queries.specs.Row.{is_for, is_pending, settled}
use Rattle.queries.specs.Table.{Asked, AreNumbered, SettledStay, is_pending_in, settle_where, state_in}

-- what is done to a row
abbrev pub settled_if : (QueryRow → Bool) → Outcome → QueryRow → QueryRow
settled_if test o r = cond (test r) (settled o r) r

-- both parts of a test that fails
either_fails : {a b : Bool} → a ≡ false → b ≡ false → (a || b) ≡ false
either_fails e f = (λ j. e j || f j)

-- a row with another number isn't that of the query
other_number : (a b c d : ℕ) → (a ≡ c → b ≡ d → ⊥) → (a == c && b == d) ≡ false
other_number a b c d apart = by (a == c) (b == d) refl refl
  where
    by : (v w : Bool) → (a == c) ≡ v → (b == d) ≡ w → (v && w) ≡ false
    by false w e f = refl
    by true false e f = refl
    by true true e f = absurd (apart (eqb-true a c e) (eqb-true b d f))

not_for : (q p : QueryId) (r : QueryRow) → r.query ≡ p → (q.creator ≡ p.creator → q.serial ≡ p.serial → ⊥) → is_for q r ≡ false
not_for q p r e apart =
    ap (λ i. q.creator == i.creator && q.serial == i.serial) e ∙ other_number q.creator q.serial p.creator p.serial apart

own_row : (q : QueryId) (r : QueryRow) → r.query ≡ q → is_for q r ≡ true
own_row q r e =
    ap (λ i. q.creator == i.creator && q.serial == i.serial) e
    ∙ ap (λ b. b && (q.serial == q.serial)) (eq-eqb q.creator q.creator refl) ∙ eq-eqb q.serial q.serial refl

-- numbered rows have no row of a query with another creator or a number outside
pub none_numbered : (c n : ℕ) (rows : List QueryRow) → AreNumbered c n rows → (q : QueryId)
    → ((k : ℕ) → n ≤ k → k < n + length rows → q.creator ≡ c → q.serial ≡ k → ⊥) → list_any (is_for q) rows ≡ false
none_numbered c n [] a q out = refl
none_numbered c n (r ∷ rows) a q out =
    either_fails (not_for q (record { creator = c; serial = n }) r a.0 (out n (omega arith) (omega arith)))
    (none_numbered c (n + 1) rows a.1 q (λ k low high. out k (omega (arith, low)) (omega (arith, high))))

pub none_state : (q : QueryId) (rows : List QueryRow) → list_any (is_for q) rows ≡ false → state_in q rows ≡ None
none_state q [] h = refl
none_state q (r ∷ rows) h = by (is_for q r) h (none_state q rows)
  where
    by : (b : Bool) → (b || list_any (is_for q) rows) ≡ false → (list_any (is_for q) rows ≡ false → state_in q rows ≡ None)
        → option_map (λ s. s.state) (cond b (Some r) (find (is_for q) rows)) ≡ None
    by true h more = cc
    by false h more = more h

none_settled : (q : QueryId) (o : Outcome) (rows : List QueryRow) → list_any (is_for q) rows ≡ false → settle_where (is_for q) o rows ≡ rows
none_settled q o [] h = refl
none_settled q o (r ∷ rows) h = by (is_for q r) h (none_settled q o rows)
  where
    by : (b : Bool) → (b || list_any (is_for q) rows) ≡ false → (list_any (is_for q) rows ≡ false → settle_where (is_for q) o rows ≡ rows)
        → cond b (settled o r) r ∷ settle_where (is_for q) o rows ≡ r ∷ rows
    by true h more = cc
    by false h more = ap (λ l. r ∷ l) (more h)

-- the row of a query that was asked
pub found_at : (c n : ℕ) (rows : List QueryRow) → AreNumbered c n rows → (i : ℕ) (d : QueryRow) → i < length rows
    → (q : QueryId) → q ≡ record { creator = c; serial = n + i } → find (is_for q) rows ≡ Some (get_or rows i d)
found_at c n [] a i d within q e = absurd (omega (arith, within))
found_at c n (r ∷ rows) a zero d within q e =
    let first : n + 0 ≡ n = omega arith in
    ap (λ b. cond b (Some r) (find (is_for q) rows))
    (own_row q r (a.0 ∙ (λ j. record { creator = c; serial = sym first j }) ∙ sym e))
found_at c n (r ∷ rows) a (suc i) d within q e =
    let number : q.serial ≡ n + suc i = ap (λ x. x.serial) e in
    let next : n + suc i ≡ n + 1 + i = omega arith in
    ap (λ b. cond b (Some r) (find (is_for q) rows))
    (not_for q (record { creator = c; serial = n }) r a.0 (λ u v. omega (arith, number, v)))
    ∙ found_at c (n + 1) rows a.1 i d (omega (arith, within)) q (e ∙ (λ j. record { creator = c; serial = next j }))

-- to settle it is to settle its row
pub settled_at : (c n : ℕ) (rows : List QueryRow) → AreNumbered c n rows → (i : ℕ) (d : QueryRow) → i < length rows
    → (q : QueryId) → q ≡ record { creator = c; serial = n + i } → (o : Outcome)
    → set rows i (settled o (get_or rows i d)) ≡ settle_where (is_for q) o rows
settled_at c n [] a i d within q e o = absurd (omega (arith, within))
settled_at c n (r ∷ rows) a zero d within q e o =
    let first : n + 0 ≡ n = omega arith in
    let number : q.serial ≡ n + 0 = ap (λ x. x.serial) e in
    let none : list_any (is_for q) rows ≡ false =
    none_numbered c (n + 1) rows a.1 q (λ k low high u v. omega (arith, low, number, v)) in
    let own : is_for q r ≡ true = own_row q r (a.0 ∙ (λ j. record { creator = c; serial = sym first j }) ∙ sym e) in
    (λ j. cond (sym own j) (settled o r) r ∷ sym (none_settled q o rows none) j)
settled_at c n (r ∷ rows) a (suc i) d within q e o =
    let number : q.serial ≡ n + suc i = ap (λ x. x.serial) e in
    let next : n + suc i ≡ n + 1 + i = omega arith in
    let other : is_for q r ≡ false = not_for q (record { creator = c; serial = n }) r a.0 (λ u v. omega (arith, number, v)) in
    let rest = settled_at c (n + 1) rows a.1 i d (omega (arith, within)) q (e ∙ (λ j. record { creator = c; serial = next j })) o in
    (λ j. cond (sym other j) (settled o r) r ∷ rest j)

-- a row that is settled stays that of its query
same_query : (test : QueryRow → Bool) (o : Outcome) (r : QueryRow) → (settled_if test o r).query ≡ r.query
same_query test o r = by (test r) (is_pending r.state)
  where
    by : (a b : Bool) → (cond a (cond b (record r { state = Settled o }) r) r).query ≡ r.query
    by true true = refl
    by true false = refl
    by false b = refl

pub numbered_settled : (c n : ℕ) (rows : List QueryRow) → AreNumbered c n rows → (test : QueryRow → Bool) (o : Outcome)
    → AreNumbered c n (settle_where test o rows)
numbered_settled c n [] a test o = tt
numbered_settled c n (r ∷ rows) a test o = (same_query test o r ∙ a.0, numbered_settled c (n + 1) rows a.1 test o)

pub numbered_more : (c n : ℕ) (rows : List QueryRow) → AreNumbered c n rows → (r : QueryRow)
    → r.query ≡ record { creator = c; serial = n + length rows } → AreNumbered c n (rows ++ r ∷ [])
numbered_more c n [] a r e =
    let first : n + 0 ≡ n = omega arith in (e ∙ (λ j. record { creator = c; serial = first j }), tt)
numbered_more c n (s ∷ rows) a r e =
    let next : n + suc (length rows) ≡ n + 1 + length rows = omega arith in
    (a.0, numbered_more c (n + 1) rows a.1 r (e ∙ (λ j. record { creator = c; serial = next j })))

-- what is found once rows are settled
pub found_settled : (q : QueryId) (test : QueryRow → Bool) (o : Outcome) (rows : List QueryRow)
    → find (is_for q) (settle_where test o rows) ≡ option_map (settled_if test o) (find (is_for q) rows)
found_settled q test o [] = refl
found_settled q test o (r ∷ rows) =
    (λ j. cond (q.creator == (same_query test o r j).creator && q.serial == (same_query test o r j).serial) (Some (settled_if test o r))
    (found_settled q test o rows j))
    ∙ by (is_for q r)
  where
    by : (b : Bool) → cond b (Some (settled_if test o r)) (option_map (settled_if test o) (find (is_for q) rows))
        ≡ option_map (settled_if test o) (cond b (Some r) (find (is_for q) rows))
    by true = refl
    by false = refl

-- a settled query stays as it is when others are settled
pub stay_settled : (test : QueryRow → Bool) (o : Outcome) (rows : List QueryRow) → SettledStay rows (settle_where test o rows)
stay_settled test o rows q p h =
    ap (option_map (λ r. r.state)) (found_settled q test o rows) ∙ by (find (is_for q) rows) h
  where
    kept : (a : Bool) (r : QueryRow) → r.state ≡ Settled p → (cond a (settled o r) r).state ≡ Settled p
    kept false r e = e
    kept true r e = ap (λ b. (cond b (record r { state = Settled o }) r).state) (ap is_pending e) ∙ e

    by : (f : Option QueryRow) → option_map (λ r. r.state) f ≡ Some (Settled p)
        → option_map (λ r. r.state) (option_map (settled_if test o) f) ≡ Some (Settled p)
    by None h = cc
    by (Some r) h = let same : r.state ≡ Settled p = cc in ap Some (kept (test r) r same)

-- and when another is asked
pub stay_asked : (r : QueryRow) (rows : List QueryRow) → SettledStay rows (rows ++ r ∷ [])
stay_asked r [] q o h = cc
stay_asked r (s ∷ rows) q o h = by (is_for q s) h (stay_asked r rows q o)
  where
    by : (b : Bool) → option_map (λ x. x.state) (cond b (Some s) (find (is_for q) rows)) ≡ Some (Settled o)
        → (state_in q rows ≡ Some (Settled o) → state_in q (rows ++ r ∷ []) ≡ Some (Settled o))
        → option_map (λ x. x.state) (cond b (Some s) (find (is_for q) (rows ++ r ∷ []))) ≡ Some (Settled o)
    by true h more = h
    by false h more = more h

-- to settle a query that was never asked changes nothing
pub unasked_settled : (q : QueryId) (o : Outcome) (rows : List QueryRow) → state_in q rows ≡ None → settle_where (is_for q) o rows ≡ rows
unasked_settled q o [] h = refl
unasked_settled q o (r ∷ rows) h = by (is_for q r) h (unasked_settled q o rows)
  where
    by : (b : Bool) → option_map (λ s. s.state) (cond b (Some r) (find (is_for q) rows)) ≡ None
        → (state_in q rows ≡ None → settle_where (is_for q) o rows ≡ rows)
        → cond b (settled o r) r ∷ settle_where (is_for q) o rows ≡ r ∷ rows
    by true h more = cc
    by false h more = ap (λ l. r ∷ l) (more h)

-- where the i-th row is that of a query
abbrev pub IsAt : Asked → QueryId → ℕ → Type 0
IsAt t q i = (i < length t.rows) × (q ≡ record { creator = t.creator; serial = i + 1 })

module _ (t : Asked) (a : AreNumbered t.creator 1 t.rows) (q : QueryId) (i : ℕ) (at : IsAt t q i) (d : QueryRow) (is : d ≡ get_or t.rows i d) where
  from_one : q ≡ record { creator = t.creator; serial = 1 + i }
  from_one = let same : i + 1 ≡ 1 + i = omega arith in at.1 ∙ (λ j. record { creator = t.creator; serial = same j })

  pub state_here : Some d.state ≡ state_in q t.rows
  state_here =
      ap (λ r. Some r.state) is ∙ sym (ap (option_map (λ r. r.state)) (found_at t.creator 1 t.rows a i d at.0 q from_one))

  pub pending_here : is_pending d.state ≡ is_pending_in q t.rows
  pending_here = ap (λ s. option_map_or is_pending s false) state_here

  pub settled_here : (o : Outcome) (r : QueryRow) → r ≡ settled o d → set t.rows i r ≡ settle_where (is_for q) o t.rows
  settled_here o r e =
      ap (λ x. set t.rows i x) (e ∙ ap (settled o) is) ∙ settled_at t.creator 1 t.rows a i d at.0 q from_one o
