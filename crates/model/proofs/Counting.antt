-- The commits among the writes of a process: its epochs count them, and the traces count all writes.
use Rattle.std.proofs.Common.{◌≡◌, ◌⊎◌, inl, inr, ℕ, zero, suc, ◌≤◌, Bool, true, false, List, [], ◌∷◌, ◌++◌, length, drop, refl, ap, sym, ◌∙◌, arith, length-append}
use Rattle.std.specs.Prelude.{nat_lt}
use Rattle.std.specs.List.{list_any}
use Rattle.std.proofs.lemmas.Bool.{le-ltb, lt-ltb, ltb-true, ltb-false}
use Rattle.protocol.specs.Bundle.{is_commit}
use Rattle.model.specs.Moments.{Written}
use Rattle.model.specs.Moments.Written.{Own, Raw, Said}

abbrev pub commit_of : Written → Bool
commit_of (Own b) = list_any is_commit b.parts
commit_of (Raw b) = list_any is_commit b.parts
commit_of (Said says) = false

-- a commit counts
abbrev pub counted : Bool → ℕ → ℕ
counted true n = suc n
counted false n = n

-- how many commits are among the first n writes
abbrev pub count_to : ℕ → List Written → ℕ
count_to zero ws = 0
count_to (suc n) [] = 0
count_to (suc n) (w ∷ ws) = counted (commit_of w) (count_to n ws)

counted_step : (b : Bool) (m n : ℕ) → m ≤ n → counted b m ≤ counted b n
counted_step true m n e = omega (arith, e)
counted_step false m n e = e

pub count_mono : (m n : ℕ) (ws : List Written) → m ≤ n → count_to m ws ≤ count_to n ws
count_mono zero n ws e = omega arith
count_mono (suc m) zero ws e = absurd (omega (arith, e))
count_mono (suc m) (suc n) [] e = omega arith
count_mono (suc m) (suc n) (w ∷ ws) e = counted_step (commit_of w) (count_to m ws) (count_to n ws) (count_mono m n ws (omega (arith, e)))

pub count_push : (n : ℕ) (ws : List Written) (w : Written) → n ≤ length ws → count_to n (ws ++ w ∷ []) ≡ count_to n ws
count_push zero ws w e = refl
count_push (suc n) [] w e = absurd (omega (arith, e))
count_push (suc n) (v ∷ ws) w e = ap (counted (commit_of v)) (count_push n ws w (omega (arith, e)))

counted_swap : (a b : Bool) (n : ℕ) → counted a (counted b n) ≡ counted b (counted a n)
counted_swap true true n = refl
counted_swap true false n = refl
counted_swap false b n = refl

pub count_last : (ws : List Written) (w : Written) → count_to (suc (length ws)) (ws ++ w ∷ []) ≡ counted (commit_of w) (count_to (length ws) ws)
count_last [] w = refl
count_last (v ∷ ws) w = ap (counted (commit_of v)) (count_last ws w) ∙ counted_swap (commit_of v) (commit_of w) (count_to (length ws) ws)

pub count_first : (n : ℕ) (ws rest : List Written) (w : Written) → drop n ws ≡ w ∷ rest → count_to (suc n) ws ≡ counted (commit_of w) (count_to n ws)
count_first zero [] rest w e = absurd cc
count_first zero (v ∷ ws) rest w e = ap (λ u. counted (commit_of u) 0) (head_is e)
  where
    head_is : v ∷ ws ≡ w ∷ rest → v ≡ w
    head_is e = cc
count_first (suc n) [] rest w e = absurd cc
count_first (suc n) (v ∷ ws) rest w e = ap (counted (commit_of v)) (count_first n ws rest w e) ∙ counted_swap (commit_of v) (commit_of w) (count_to n ws)

-- the number of a commit, or none
pub record IsCommitAt (n : ℕ) (ws : List Written) : Type 0 where
  pub before : ℕ
  pub next : n ≡ suc before
  pub within : suc before ≤ length ws
  pub counts : count_to (suc before) ws ≡ suc (count_to before ws)

abbrev pub IsNumber : ℕ → List Written → Type 0
IsNumber n ws = (n ≡ 0) ⊎ IsCommitAt n ws

pub number_push : (n : ℕ) (ws : List Written) (w : Written) → IsNumber n ws → IsNumber n (ws ++ w ∷ [])
number_push n ws w (inl none) = inl none
number_push n ws w (inr at) = inr (record {
  before = at.before;
  next = at.next;
  within = omega (arith, at.within, length-append ws (w ∷ []));
  counts = count_push (suc at.before) ws w at.within ∙ at.counts ∙ ap (λ k. suc k) (sym (count_push at.before ws w (omega (arith, at.within))));
})

pub number_count : (n : ℕ) (ws : List Written) (w : Written) → IsNumber n ws → count_to n (ws ++ w ∷ []) ≡ count_to n ws
number_count n ws w (inl none) = count_push n ws w (omega (arith, none))
number_count n ws w (inr at) = count_push n ws w (omega (arith, at.next, at.within))

-- a stamp is older than the number of a commit by either count
pub older_same : (e n : ℕ) (ws : List Written) → IsNumber n ws → nat_lt (count_to e ws) (count_to n ws) ≡ nat_lt e n
older_same e n ws (inl none) = ap (λ k. nat_lt (count_to e ws) (count_to k ws)) none ∙ le-ltb (count_to e ws) 0 (omega arith) ∙ sym (ap (nat_lt e) none ∙ le-ltb e 0 (omega arith))
older_same e n ws (inr at) = by_order (nat_lt e n) refl
  where
    is : count_to n ws ≡ suc (count_to at.before ws)
    is = ap (λ k. count_to k ws) at.next ∙ at.counts

    by_order : (b : Bool) → nat_lt e n ≡ b → nat_lt (count_to e ws) (count_to n ws) ≡ nat_lt e n
    by_order true o = lt-ltb (count_to e ws) (count_to n ws) (omega (arith, is, count_mono e at.before ws (omega (arith, ltb-true e n o, at.next)))) ∙ sym o
    by_order false o = le-ltb (count_to e ws) (count_to n ws) (count_mono n e ws (omega (arith, ltb-false e n o))) ∙ sym o
