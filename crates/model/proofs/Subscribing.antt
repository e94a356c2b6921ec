-- Who is subscribed to a group behind more sayings: a process that isn't ended stays so, one that is ended isn't any
-- more, and nobody else is but by a subscription.
use Rattle.std.proofs.Common.{◌≡◌, ℕ, ◌<◌, ◌==◌, Bool, true, false, not, ◌&&◌, ◌||◌, if◌then◌else◌, Some, is_some, List, [], ◌∷◌, refl, ap, sym, subst, ◌∙◌, eqb-true}
use Rattle.std.specs.Prelude.{bit_and, bit_or}
use Rattle.std.specs.Int.{bit_at, bit_not, w16}
use Rattle.std.proofs.lemmas.Nat.{one_shl}
use Rattle.fission_ids.specs.declared.group.GroupId.{GroupId}
use Rattle.fission_ids.specs.declared.process.ProcSet.{ProcSet}
use Rattle.fission_ids.specs.ProcSet.{has, with, without}
use Rattle.fission_ids.proofs.Members.{bit_at-with, bit_at-without}
use Rattle.context_group.specs.Sets.{set_without}
use Rattle.wire_msgs.specs.declared.config.StartTab.{StartTab}
use Rattle.protocol.specs.ParentActs.{same_group}
use Rattle.protocol.specs.Questions.{is_subscribed}
use Rattle.protocol.specs.Sayings.{Saying}
use Rattle.protocol.specs.Sayings.Saying.{Subscribed, Ended}
use Rattle.model.specs.Parent.{asked, ended, subscribers}
use Rattle.model.proofs.Cases.{true_false}
use Rattle.model.proofs.Entry.{IsOfOthers}
use Rattle.model.proofs.Fitting.{AllFit}

-- ---- sets

pub with_below : (s : ProcSet) (p q : ℕ) → p < 16 → has (with s p) q ≡ (q == p || has s q)
with_below s p q low = subst (λ n. (bit_at (bit_or s.0 n) q == 1) ≡ (q == p || bit_at s.0 q == 1)) (one_shl p 16 low) (bit_at-with s.0 p q low)

without_below : (s : ProcSet) (p q : ℕ) → p < 16 → q < 16 → has (without s p) q ≡ (not (q == p) && has s q)
without_below s p q low within = subst (λ n. (bit_at (bit_and s.0 (bit_not w16 n)) q == 1) ≡ (not (q == p) && bit_at s.0 q == 1)) (one_shl p 16 low) (bit_at-without s.0 p q low within)

pub left_below : (s : ProcSet) (p q : ℕ) → p < 16 → q < 16 → has (set_without p s) q ≡ (not (q == p) && has s q)
left_below s p q low within = by (has s p) refl
  where
    none : has s p ≡ false → (b : Bool) → (q == p) ≡ b → has s q ≡ (not b && has s q)
    none free true e = ap (has s) (eqb-true q p e) ∙ free
    none free false e = refl

    by : (b : Bool) → has s p ≡ b → has (if b then without s p else s) q ≡ (not (q == p) && has s q)
    by true e = without_below s p q low within
    by false e = none e (q == p) refl

-- ---- a saying more

-- a saying that subscribes the process
abbrev pub joins : ℕ → GroupId → Saying → Bool
joins p g (Subscribed q h) = q == p && same_group h g
joins p g y = false

pub equal_swapped : (m n : ℕ) → (m == n) ≡ (n == m)
equal_swapped m n = by (m == n) refl (n == m) refl
  where
    by : (a : Bool) → (m == n) ≡ a → (b : Bool) → (n == m) ≡ b → a ≡ b
    by true e true d = refl
    by false e false d = refl
    by true e false d = true_false (n == m) (subst (λ k. (k == m) ≡ true) (eqb-true m n e) (subst (λ k. (m == k) ≡ true) (sym (eqb-true m n e)) e)) d
    by false e true d = true_false (m == n) (subst (λ k. (k == n) ≡ true) (eqb-true n m d) (subst (λ k. (n == k) ≡ true) (sym (eqb-true n m d)) d)) e

pub subscribed_more : (tabs : List StartTab) (p : ℕ) (g : GroupId) (y : Saying) (says : List Saying) → p < 16 → AllFit tabs (y ∷ says) → IsOfOthers p y
    → is_subscribed (asked tabs (y ∷ says)) p g ≡ (joins p g y || is_subscribed (asked tabs says) p g)
unfolding subscribers
subscribed_more tabs p g (Subscribed q h) says low fit other = by_group (same_group h g)
  where
    swap : (a b : Bool) → (a || b) ≡ ((a && true) || b)
    swap true b = refl
    swap false b = refl

    none : (a b : Bool) → b ≡ ((a && false) || b)
    none true b = refl
    none false b = refl

    by_group : (b : Bool) → has (if b then with (subscribers tabs g says) q else subscribers tabs g says) p ≡ ((q == p && b) || has (subscribers tabs g says) p)
    by_group true =
        with_below (subscribers tabs g says) q p fit.0.low ∙ ap (λ v. v || has (subscribers tabs g says) p) (equal_swapped p q) ∙ swap (q == p) (has (subscribers tabs g says) p)
    by_group false = none (q == p) (has (subscribers tabs g says) p)
subscribed_more tabs p g (Ended q cause) says low fit other =
    left_below (subscribers tabs g says) q p fit.0 low ∙ ap (λ b. not b && has (subscribers tabs g says) p) (equal_swapped p q ∙ other)
subscribed_more tabs p g (_) says low fit other = refl

-- who was ended is subscribed to nothing
pub ended_unsubscribed : (tabs : List StartTab) (p : ℕ) (g : GroupId) (says : List Saying) → p < 16 → AllFit tabs says → is_some (ended p says) ≡ true → is_subscribed (asked tabs says) p g ≡ false
unfolding subscribers ended
ended_unsubscribed tabs p g [] low fit over = absurd cc
ended_unsubscribed tabs p g (Subscribed q h ∷ says) low fit over = by_group (same_group h g) (ended_unsubscribed tabs p g says low fit.1 over)
  where
    -- it isn't the one that is subscribed, who runs
    other : (p == q) ≡ false
    other = by (p == q) refl
      where
        by : (b : Bool) → (p == q) ≡ b → (p == q) ≡ false
        by false e = e
        by true e = true_false (is_some (ended p says)) over (ap (λ k. is_some (ended k says)) (eqb-true p q e) ∙ ap is_some fit.0.runs)

    by_group : (b : Bool) → has (subscribers tabs g says) p ≡ false → has (if b then with (subscribers tabs g says) q else subscribers tabs g says) p ≡ false
    by_group true before = with_below (subscribers tabs g says) q p fit.0.low ∙ ap (λ v. v || has (subscribers tabs g says) p) other ∙ before
    by_group false before = before
ended_unsubscribed tabs p g (Ended q cause ∷ says) low fit over =
    left_below (subscribers tabs g says) q p fit.0 low ∙ by (p == q) over (ended_unsubscribed tabs p g says low fit.1)
  where
    by : (b : Bool) → is_some (if b then Some cause else ended p says) ≡ true → (is_some (ended p says) ≡ true → has (subscribers tabs g says) p ≡ false)
        → (not b && has (subscribers tabs g says) p) ≡ false
    by true over before = refl
    by false over before = before over
ended_unsubscribed tabs p g (_ ∷ says) low fit over = ended_unsubscribed tabs p g says low fit.1 over
