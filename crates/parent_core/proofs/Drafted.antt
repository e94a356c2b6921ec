-- What judging reads of the answers behind the earlier parts of a bundle is what the draft tells of it.
use Rattle.std.proofs.Common.{◌≡◌, ℕ, ◌==◌, Bool, true, false, not, ◌&&◌, ◌||◌, if◌then◌else◌, Option, None, Some, List, [], ◌∷◌, refl, sym, ap, ap₂, ◌∙◌, arith, eq-eqb}
use Rattle.std.proofs.lemmas.Bool.{false≢true}
use Rattle.std.proofs.lemmas.Bool.Decides.{nat_tests}
use Rattle.fission_ids.specs.declared.context.ContextId.{ContextId}
use Rattle.fission_ids.specs.Ids.{same_context}
use Rattle.transaction.specs.Transaction.{Changes}
use Rattle.protocol.specs.Questions.{Facts, option_any, is_subscribed, is_told, is_owner}
use Rattle.protocol.specs.Sayings.Saying.{Made as MadeBy, BornDead, Removed, Wrote, Acked}
use Rattle.protocol.specs.FactsAfter.{facts_after}
use Rattle.parent_core.specs.Drafts.{known_in, above_in, below_in, live_in, told_in, owner_in}
use Rattle.parent_core.specs.Sound.{IsSound}
use Rattle.parent_core.specs.declared.drafts.Step.{Step}
use Rattle.parent_core.specs.declared.drafts.Step.TheVariants.{Made, Gone}

-- what judging reads of f, by the answers before the bundle and by the draft; and what it keeps
pub record IsDrafted (f0 : Facts) (p : ℕ) (draft : List Step) (f : Facts) : Type 0 where
  pub known : (x : ContextId) → f.contexts.known x ≡ known_in f0 x draft
  pub above : (x : ContextId) → f.contexts.above x ≡ above_in f0 x draft
  pub live : (x : ContextId) → f.contexts.live x ≡ live_in f0 x draft
  pub under : (x y : ContextId) → f.contexts.under x y ≡ (live_in f0 x draft && below_in f0 x y draft)
  pub told : (x : ContextId) → is_told f p x ≡ told_in f0 p x draft
  pub owner : (x : ContextId) → f.contexts.live x ≡ true → is_owner f p x ≡ owner_in f0 p x draft
  pub live_known : (x : ContextId) → f.contexts.live x ≡ true → f.contexts.known x ≡ true
  pub above_live : (x a : ContextId) → f.contexts.live x ≡ true → f.contexts.above x ≡ Some a → f.contexts.live a ≡ true
  pub under_above : (x y : ContextId) → f.contexts.live x ≡ true
      → f.contexts.under x y ≡ (same_context x y || option_any (λ a. f.contexts.under a y) (f.contexts.above x))

-- ---- tests

pub same_is : (x y : ContextId) → same_context x y ≡ true → x ≡ y
same_is x y same =
    let creator : x.creator ≡ y.creator = grind (arith, nat_tests) in
    let serial : x.serial ≡ y.serial = grind (arith, nat_tests) in
    ap₂ (λ m n. record { creator = m; serial = n }) creator serial

-- a test by what would follow from it
never : (b : Bool) → (b ≡ true → ⊥) → b ≡ false
never true absent = absurd (absent refl)
never false absent = refl

both : (a b c : Bool) → (c ≡ true → a ≡ true) → c ≡ b → c ≡ (a && b)
both true b c from e = e
both false b true from e = absurd (false≢true (from refl))
both false b false from e = refl

clash : {A : Type 0} (b : Bool) → b ≡ false → b ≡ true → A
clash b f t = absurd (false≢true (sym f ∙ t))

one_of : (b c : Bool) → c ≡ true → (if b then true else c) ≡ true
one_of true c e = refl
one_of false c e = e

one_of_both : (b c e : Bool) → (c ≡ true → e ≡ true) → (if b then true else c) ≡ true → (if b then true else e) ≡ true
one_of_both true c e from is = refl
one_of_both false c e from is = from is

pub any_alike : (o : Option ContextId) (g h : ContextId → Bool) → ((a : ContextId) → o ≡ Some a → g a ≡ h a) → option_any g o ≡ option_any h o
any_alike None g h alike = refl
any_alike (Some a) g h alike = alike a refl

-- ---- before the parts

pub drafted_first : (f : Facts) (p : ℕ) → IsSound f → IsDrafted f p [] f
drafted_first f p sound = record {
  known = λ x. refl;
  above = λ x. refl;
  live = λ x. refl;
  under = λ x y. both (f.contexts.live x) (f.contexts.under x y) (f.contexts.under x y) (sound.under_live x y) refl;
  told = λ x. refl;
  owner = λ x live. refl;
  live_known = sound.live_known;
  above_live = sound.above_live;
  under_above = sound.under_above;
}

-- ---- behind one part more

module _ (f0 : Facts) (p : ℕ) (draft : List Step) (f : Facts) (d : IsDrafted f0 p draft f) where
  -- nothing that is known has a new id
  new_apart : (x y : ContextId) → f.contexts.known x ≡ false → f.contexts.known y ≡ true → same_context y x ≡ false
  new_apart x y new known = never (same_context y x) (λ same. clash (f.contexts.known x) new (ap (λ z. f.contexts.known z) (sym (same_is y x same)) ∙ known))

  new_not_live : (x y : ContextId) → f.contexts.known x ≡ false → f.contexts.live y ≡ true → same_context y x ≡ false
  new_not_live x y new live = new_apart x y new (d.live_known y live)

  -- a frame was made, in time or too late
  known_more : (x y : ContextId) → (if same_context y x then true else f.contexts.known y) ≡ (if same_context y x then true else known_in f0 y draft)
  known_more x y = ap (λ b. if same_context y x then true else b) (d.known y)

  above_more : (x a y : ContextId) → (if same_context y x then Some a else f.contexts.above y) ≡ (if same_context y x then Some a else above_in f0 y draft)
  above_more x a y = ap (λ (o : Option ContextId). if same_context y x then Some a else o) (d.above y)

  told_more : (a y : ContextId) (same : Bool)
      → option_any (is_subscribed f p) (if same then f.contexts.group a else f.contexts.group y) ≡ (if same then told_in f0 p a draft else told_in f0 p y draft)
  told_more a y true = d.told a
  told_more a y false = d.told y

  pub drafted_made : (x a : ContextId) → f.contexts.known x ≡ false → f.contexts.live a ≡ true → IsDrafted f0 p (Made x a true ∷ draft) (facts_after (MadeBy p x a) f)
  unfolding facts_after
  drafted_made x a new live_a = record {
    known = known_more x;
    above = above_more x a;
    live = λ y. ap (λ b. if same_context y x then true else b) (d.live y);
    under = λ y z. under_by y z (same_context y x);
    told = λ y. told_more a y (same_context y x);
    owner = λ y. owner_by y (same_context y x);
    live_known = λ y. one_of_both (same_context y x) (f.contexts.live y) (f.contexts.known y) (d.live_known y);
    above_live = λ y b. above_by y b (same_context y x);
    under_above = λ y z. frame_by y z (same_context y x);
  }
    where
      under_by : (y z : ContextId) (same : Bool)
          → (if same then same_context y z || f.contexts.under a z else f.contexts.under y z)
          ≡ ((if same then true else live_in f0 y draft) && (if same then same_context y z || below_in f0 a z draft else below_in f0 y z draft))
      under_by y z true = ap (λ b. same_context y z || b) (d.under a z ∙ ap (λ b. b && below_in f0 a z draft) (sym (d.live a) ∙ live_a))
      under_by y z false = d.under y z

      owner_by : (y : ContextId) (same : Bool) → (if same then true else f.contexts.live y) ≡ true
          → option_any (λ q. q == p) (if same then Some p else f.contexts.owner y) ≡ (if same then true else owner_in f0 p y draft)
      owner_by y true live = eq-eqb p p refl
      owner_by y false live = d.owner y live

      above_by : (y b : ContextId) (same : Bool) → (if same then true else f.contexts.live y) ≡ true
          → (if same then Some a else f.contexts.above y) ≡ Some b → (if same_context b x then true else f.contexts.live b) ≡ true
      above_by y b true live e = let is : a ≡ b = cc in one_of (same_context b x) (f.contexts.live b) (ap (λ z. f.contexts.live z) (sym is) ∙ live_a)
      above_by y b false live e = one_of (same_context b x) (f.contexts.live b) (d.above_live y b live e)

      -- what is under the new frame, or under another
      under_now : ContextId → ContextId → Bool
      under_now y z = if same_context y x then same_context y z || f.contexts.under a z else f.contexts.under y z

      as_before : (y z : ContextId) → f.contexts.live y ≡ true → f.contexts.under y z ≡ under_now y z
      as_before y z live = sym (ap (λ b. if b then same_context y z || f.contexts.under a z else f.contexts.under y z) (new_not_live x y new live))

      frame_by : (y z : ContextId) (same : Bool) → (if same then true else f.contexts.live y) ≡ true
          → (if same then same_context y z || f.contexts.under a z else f.contexts.under y z)
          ≡ (same_context y z || option_any (λ b. under_now b z) (if same then Some a else f.contexts.above y))
      frame_by y z true live = ap (λ b. same_context y z || b) (as_before a z live_a)
      frame_by y z false live =
          d.under_above y z live
          ∙ ap (λ b. same_context y z || b) (any_alike (f.contexts.above y) (λ b. f.contexts.under b z) (λ b. under_now b z) (λ b e. as_before b z (d.above_live y b live e)))

  pub drafted_late : (x a : ContextId) → f.contexts.known x ≡ false → IsDrafted f0 p (Made x a false ∷ draft) (facts_after (BornDead p x a) f)
  unfolding facts_after
  drafted_late x a new = record {
    known = known_more x;
    above = above_more x a;
    live = λ y. live_by y (same_context y x) refl;
    under = λ y z. under_by y z (same_context y x) refl;
    told = λ y. told_more a y (same_context y x);
    owner = λ y live. d.owner y live ∙ sym (ap (λ b. if b then true else owner_in f0 p y draft) (new_not_live x y new live));
    live_known = λ y live. one_of (same_context y x) (f.contexts.known y) (d.live_known y live);
    above_live = λ y b live e. d.above_live y b live (sym (as_above y live) ∙ e);
    under_above = λ y z live.
        d.under_above y z live ∙ ap (λ (o : Option ContextId). same_context y z || option_any (λ b. f.contexts.under b z) o) (sym (as_above y live));
  }
    where
      as_above : (y : ContextId) → f.contexts.live y ≡ true → (if same_context y x then Some a else f.contexts.above y) ≡ f.contexts.above y
      as_above y live = ap (λ b. if b then Some a else f.contexts.above y) (new_not_live x y new live)

      not_live : (y : ContextId) → same_context y x ≡ true → f.contexts.live y ≡ false
      not_live y same = never (f.contexts.live y) (λ live. clash (same_context y x) (new_not_live x y new live) same)

      live_by : (y : ContextId) (same : Bool) → same_context y x ≡ same → f.contexts.live y ≡ (if same then false else live_in f0 y draft)
      live_by y true e = not_live y e
      live_by y false e = d.live y

      under_by : (y z : ContextId) (same : Bool) → same_context y x ≡ same
          → f.contexts.under y z ≡ ((if same then false else live_in f0 y draft) && (if same then same_context y z || below_in f0 a z draft else below_in f0 y z draft))
      under_by y z true e = d.under y z ∙ ap (λ b. b && below_in f0 y z draft) (sym (d.live y) ∙ not_live y e)
      under_by y z false e = d.under y z

  -- a context is gone, with all below it
  pub drafted_gone : (x : ContextId) (but : Option ℕ) → IsDrafted f0 p (Gone x ∷ draft) (facts_after (Removed x but) f)
  unfolding facts_after
  drafted_gone x but = record {
    known = d.known;
    above = d.above;
    live = λ y. ap₂ (λ b c. if b then false else c) (d.under y x) (d.live y) ∙ left_live (live_in f0 y draft) (below_in f0 y x draft);
    under = λ y z. ap₂ (λ b c. if b then false else c) (d.under y x) (d.under y z) ∙ left_under (live_in f0 y draft) (below_in f0 y x draft) (below_in f0 y z draft);
    told = d.told;
    owner = λ y left.
        ap (λ b. option_any (λ q. q == p) (if b then None else f.contexts.owner y)) (out_of (f.contexts.under y x) (f.contexts.live y) left)
        ∙ d.owner y (in_of (f.contexts.under y x) (f.contexts.live y) left);
    live_known = λ y left. d.live_known y (in_of (f.contexts.under y x) (f.contexts.live y) left);
    above_live = λ y b left e.
        let live : f.contexts.live y ≡ true = in_of (f.contexts.under y x) (f.contexts.live y) left in
        ap₂ (λ c e. if c then false else e) (above_out y b left e) (d.above_live y b live e);
    under_above = λ y z left.
        let live : f.contexts.live y ≡ true = in_of (f.contexts.under y x) (f.contexts.live y) left in
        ap (λ b. if b then false else f.contexts.under y z) (out_of (f.contexts.under y x) (f.contexts.live y) left)
        ∙ d.under_above y z live
        ∙ ap (λ b. same_context y z || b)
        (any_alike (f.contexts.above y) (λ b. f.contexts.under b z) (λ b. if f.contexts.under b x then false else f.contexts.under b z)
        (λ b e. sym (ap (λ c. if c then false else f.contexts.under b z) (above_out y b left e))));
  }
    where
      left_live : (live below : Bool) → (if live && below then false else live) ≡ (live && not below)
      left_live true true = refl
      left_live true false = refl
      left_live false below = refl

      left_under : (live below under : Bool) → (if live && below then false else live && under) ≡ ((live && not below) && under)
      left_under true true under = refl
      left_under true false under = refl
      left_under false below under = refl

      -- what is left is live, and not under it
      out_of : (under live : Bool) → (if under then false else live) ≡ true → under ≡ false
      out_of true live left = absurd (false≢true left)
      out_of false live left = refl

      in_of : (under live : Bool) → (if under then false else live) ≡ true → live ≡ true
      in_of true live left = absurd (false≢true left)
      in_of false live left = left

      none_of : (same under : Bool) → (same || under) ≡ false → under ≡ false
      none_of true under e = absurd (false≢true (sym e))
      none_of false under e = e

      -- nor is what is above it
      above_out : (y b : ContextId) → (if f.contexts.under y x then false else f.contexts.live y) ≡ true → f.contexts.above y ≡ Some b → f.contexts.under b x ≡ false
      above_out y b left e =
          let live : f.contexts.live y ≡ true = in_of (f.contexts.under y x) (f.contexts.live y) left in
          none_of (same_context y x) (f.contexts.under b x)
          (ap (λ (o : Option ContextId). same_context y x || option_any (λ c. f.contexts.under c x) o) (sym e)
          ∙ sym (d.under_above y x live)
          ∙ out_of (f.contexts.under y x) (f.contexts.live y) left)

  -- the rest changes nothing that judging reads
  pub drafted_acked : (x : ContextId) → IsDrafted f0 p draft (facts_after (Acked p x) f)
  unfolding facts_after
  drafted_acked x = record {
    known = d.known;
    above = d.above;
    live = d.live;
    under = d.under;
    told = d.told;
    owner = d.owner;
    live_known = d.live_known;
    above_live = d.above_live;
    under_above = d.under_above;
  }

  pub drafted_wrote : (x : ContextId) (t : Changes) → IsDrafted f0 p draft (facts_after (Wrote x t) f)
  unfolding facts_after
  drafted_wrote x t = record {
    known = d.known;
    above = d.above;
    live = d.live;
    under = d.under;
    told = d.told;
    owner = d.owner;
    live_known = d.live_known;
    above_live = d.above_live;
    under_above = d.under_above;
  }
