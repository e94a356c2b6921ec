-- What the rules say of each write, by cases on the rule.
use Rattle.std.proofs.Common.{◌≡◌, ◌≢◌, true, false, Bool, not, if◌then◌else◌, refl, sym, ◌∙◌, ap, subst, arith}
use Rattle.std.proofs.Common.{None, IsSome, is_some}
use Rattle.field_table.specs.declared.verdict.Verdict.{Verdict}
use Rattle.field_table.specs.declared.verdict.Verdict.TheVariants.{Allow, Deny, Revert}
use Rattle.field_rules.specs.declared.rule.Rule.{Rule}
use Rattle.field_rules.specs.declared.rule.Rule.TheVariants.{Any, ParentOnly, TopOnly, OwnerElseRevert, Window, Custom}
use Rattle.field_rules.specs.declared.rule.Zoom.{Zoom}
use Rattle.field_rules.specs.Bounds.{Bounds, verdict_within}
use Rattle.field_rules.specs.Rules.{Question, SameFixedFacts, number_in, range_of, rule, row, is_denied, verdict}

-- what a rule makes of a write
abbrev pub verdict_by : Rule → Bounds → Question → Verdict
verdict_by r b q = if (row r).denies q then Deny else if (row r).allows b q then Allow else Revert

-- a rule denies both of two writes with the same fixed facts, or neither
denies_both : (rl : Rule) (q r : Question) → SameFixedFacts q r → (row rl).denies q ≡ (row rl).denies r
unfolding row
denies_both Any q r s = refl
denies_both ParentOnly q r s = ap is_some s.from
denies_both TopOnly q r s = ap not s.top
denies_both OwnerElseRevert q r s = refl
denies_both Window q r s = cc
denies_both (Custom z) q r s = cc

-- two writes with the same fixed facts are both denied, or neither
pub both_denied : (q r : Question) → SameFixedFacts q r → is_denied q ≡ is_denied r
both_denied q r s = denies_both (rule q.field) q r s ∙ ap (λ f. (row (rule f)).denies r) s.field

-- Deny comes from what is denied alone
deny_is_denied : (d a : Bool) → (if d then Deny else if a then Allow else Revert) ≡ Deny → d ≡ true
deny_is_denied true a e = refl
deny_is_denied false true e = cc
deny_is_denied false false e = cc

-- of two writes with the same fixed facts both have the verdict Deny, or neither
pub both_deny : (b c : Bounds) (q r : Question) → SameFixedFacts q r → verdict b q ≡ Deny → verdict c r ≡ Deny
both_deny b c q r s e =
    let d : is_denied r ≡ true = sym (both_denied q r s) ∙ deny_is_denied _ _ e in
    ap (λ d. if d then Deny else if (row (rule r.field)).allows c r then Allow else Revert) d

-- the rule of all allows
pub any_allows : (r : Rule) (b : Bounds) (q : Question) → r ≡ Any → verdict_by r b q ≡ Allow
unfolding row
any_allows r b q e = let P : Rule → Type 0 = λ r. verdict_by r b q ≡ Allow in subst P (sym e) refl

-- the rule of windows allows no window
pub window_allows_none : (r : Rule) (b : Bounds) (q : Question) → r ≡ Window → number_in q.value ≡ 0 → verdict_by r b q ≡ Allow
unfolding row
window_allows_none r b q e z = let P : Rule → Type 0 = λ r. verdict_by r b q ≡ Allow in subst P (sym e) (rw z refl)

-- no rule reverts what the parent writes
pub reverts_no_parent : (r : Rule) (b : Bounds) (q : Question) → q.from ≡ None → verdict_by r b q ≢ Revert
unfolding row
reverts_no_parent Any b q n e = cc
reverts_no_parent ParentOnly b q n e = grind arith
reverts_no_parent TopOnly b q n e = grind arith
reverts_no_parent OwnerElseRevert b q n e = grind arith
reverts_no_parent Window b q n e = grind arith
reverts_no_parent (Custom z) b q n e = grind arith

-- the rule of zooms allows an owner what it doesn't deny
pub zoom_of_owner : (r : Rule) (b : Bounds) (q : Question) (z : Zoom) → r ≡ Custom z → (row r).denies q ≡ false → q.owner_is_sender ≡ true → verdict_by r b q ≡ Allow
unfolding row
zoom_of_owner r b q z e d o = grind arith

-- the rule of zooms judges others by the bounds
pub zoom_of_other : (r : Rule) (b : Bounds) (q : Question) (z : Zoom) → r ≡ Custom z → (row r).denies q ≡ false → IsSome q.from → q.owner_is_sender ≡ false → verdict_by r b q ≡ verdict_within (range_of z b) (number_in q.value)
unfolding row
zoom_of_other r b q z e d s o = grind arith

-- the other rules read no bounds
pub reads_no_bounds : (r : Rule) (b c : Bounds) (q : Question) → ((z : Zoom) → r ≢ Custom z) → verdict_by r b q ≡ verdict_by r c q
unfolding row
reads_no_bounds Any b c q n = refl
reads_no_bounds ParentOnly b c q n = refl
reads_no_bounds TopOnly b c q n = refl
reads_no_bounds OwnerElseRevert b c q n = refl
reads_no_bounds Window b c q n = refl
reads_no_bounds (Custom z) b c q n = absurd (n z refl)
