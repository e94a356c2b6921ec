-- What the parent says, told as effects on lives: those contexts are live that came and didn't go.
use Rattle.std.proofs.Common.{◌≡◌, ◌⊎◌, inl, inr, ℕ, zero, suc, ◌+◌, ◌≤◌, Bool, true, false, ◌||◌, if◌then◌else◌, Option, None, Some, List, [], ◌∷◌, ◌++◌, length, refl, ap, sym, subst, ◌∙◌, arith}
use Rattle.std.proofs.Math.Path.{fun_ext}
use Rattle.std.specs.List.{AllByRecursion}
use Rattle.fission_ids.specs.declared.context.ContextId.{ContextId}
use Rattle.fission_ids.specs.declared.group.GroupId.{GroupId}
use Rattle.fission_ids.specs.Ids.{same_context}
use Rattle.wire_msgs.specs.declared.config.Config.{Config}
use Rattle.wire_msgs.specs.declared.config.StartTab.{StartTab}
use Rattle.protocol.specs.Questions.{Facts}
use Rattle.protocol.specs.FactsAfter.{facts_after}
use Rattle.protocol.specs.Sayings.{Saying}
use Rattle.protocol.specs.Sayings.Saying.{Opened, Made, BornDead, Removed, Wrote, Acked, Subscribed, Counted, Sent, Ended}
use Rattle.traces.specs.Words.{Stage}
use Rattle.traces.specs.Words.Stage.{Coming, Held, Gone}
use Rattle.trees.specs.Look.{Effect, moved}
use Rattle.trees.specs.Look.Effect.{Stays, Comes, Goes}
use Rattle.trees.specs.Words.{is_held}
use Rattle.model.specs.Lines.{Making, makings_said, line, above_in, root, is_among}
use Rattle.model.specs.Parent.{asked}
use Rattle.model.specs.Trees.{comes_if, goes_if, both, says_do}
use Rattle.model.proofs.AskedMore.{asked_more}
use Rattle.model.proofs.Cases.{true_false, same_context_is, same_itself, some_is, none_some}
use Rattle.model.proofs.Entry.{FitsOver}
use Rattle.model.proofs.Fitting.{SayingFits, MadeFits, OpenedFits, FactsTies, facts_still, told_first}
use Rattle.model.proofs.Lining.{Lined, IsToldBy, line_top}

-- ---- effects

pub both_moved : (a b : Effect) (s : Stage) → moved (both a b) s ≡ moved a (moved b s)
both_moved Stays b s = refl
both_moved Goes b s = refl
both_moved Comes Goes Coming = refl
both_moved Comes Goes Held = refl
both_moved Comes Goes Gone = refl
both_moved Comes Stays s = refl
both_moved Comes Comes Coming = refl
both_moved Comes Comes Held = refl
both_moved Comes Comes Gone = refl

pub both_stays : (a : Effect) → both a Stays ≡ a
both_stays Stays = refl
both_stays Goes = refl
both_stays Comes = refl

pub both_swapped : (a b : Effect) → both a b ≡ both b a
both_swapped Stays b = sym (both_stays b)
both_swapped a Stays = both_stays a
both_swapped Goes Goes = refl
both_swapped Goes Comes = refl
both_swapped Comes Goes = refl
both_swapped Comes Comes = refl

pub both_joined : (a b c : Effect) → both (both a b) c ≡ both a (both b c)
both_joined Stays b c = refl
both_joined Goes b c = refl
both_joined Comes Stays c = refl
both_joined Comes Goes c = refl
both_joined Comes Comes Stays = refl
both_joined Comes Comes Goes = refl
both_joined Comes Comes Comes = refl

-- what goes by two goes by one of them
pub both_goes : (a b : Effect) → both a b ≡ Goes → (a ≡ Goes) ⊎ (b ≡ Goes)
both_goes Stays b e = inr e
both_goes Goes b e = inl refl
both_goes Comes Goes e = inr refl
both_goes Comes Stays e = absurd cc
both_goes Comes Comes e = absurd cc

-- what comes by two comes by one, and goes by neither
pub both_comes : (a b : Effect) → both a b ≡ Comes → ((a ≡ Comes) × (b ≡ Stays)) ⊎ (b ≡ Comes)
both_comes Stays b e = inr e
both_comes Goes b e = absurd cc
both_comes Comes Goes e = absurd cc
both_comes Comes Stays e = inl (refl, refl)
both_comes Comes Comes e = inr refl

pub goes_later : (a b : Effect) → b ≡ Goes → both a b ≡ Goes
goes_later Stays b e = e
goes_later Goes b e = refl
goes_later Comes b e = ap (both Comes) e

pub goes_when : (b : Bool) → goes_if b ≡ Goes → b ≡ true
goes_when true e = refl
goes_when false e = absurd cc

pub comes_when : (b : Bool) → comes_if b ≡ Comes → b ≡ true
comes_when true e = refl
comes_when false e = absurd cc

-- ---- lines

pub among_itself : (x : ContextId) (xs : List ContextId) → is_among x (x ∷ xs) ≡ true
among_itself x xs = ap (λ b. b || is_among x xs) (same_itself x)

pub among_later : (x y : ContextId) (xs : List ContextId) → is_among x xs ≡ true → is_among x (y ∷ xs) ≡ true
among_later x y xs e = by_or (same_context x y) (is_among x xs) e
  where
    by_or : (a b : Bool) → b ≡ true → (a || b) ≡ true
    by_or true b e = refl
    by_or false b e = e

pub among_either : (x y : ContextId) (xs : List ContextId) → is_among x (y ∷ xs) ≡ true → (x ≡ y) ⊎ (is_among x xs ≡ true)
among_either x y xs e = by_test (same_context x y) refl e
  where
    by_test : (b : Bool) → same_context x y ≡ b → (b || is_among x xs) ≡ true → (x ≡ y) ⊎ (is_among x xs ≡ true)
    by_test true is e = inl (same_context_is x y is)
    by_test false isnt e = inr e

-- who is in a line is the context, or in the line of the one above
pub in_line : (mk : List Making) → Lined mk → (w x : ContextId) → is_among w (line x mk) ≡ true → (w ≡ x) ⊎ ((a : ContextId) × (above_in mk x ≡ Some a) × (is_among w (line a mk) ≡ true))
in_line mk l w x e = by_above (above_in mk x) refl
  where
    by_above : (o : Option ContextId) → above_in mk x ≡ o → (w ≡ x) ⊎ ((a : ContextId) × (above_in mk x ≡ Some a) × (is_among w (line a mk) ≡ true))
    by_above None up = alone (among_either w x [] (sym (ap (is_among w) (line_top x mk up)) ∙ e))
      where
        alone : (w ≡ x) ⊎ (is_among w [] ≡ true) → (w ≡ x) ⊎ ((a : ContextId) × (above_in mk x ≡ Some a) × (is_among w (line a mk) ≡ true))
        alone (inl is) = inl is
        alone (inr none) = absurd cc
    by_above (Some a) up = further (among_either w x (line a mk) (sym (ap (is_among w) (l.line_step x a up)) ∙ e))
      where
        further : (w ≡ x) ⊎ (is_among w (line a mk) ≡ true) → (w ≡ x) ⊎ ((a : ContextId) × (above_in mk x ≡ Some a) × (is_among w (line a mk) ≡ true))
        further (inl is) = inl is
        further (inr more) = inr (a, up, more)

pub line_below : (mk : List Making) → Lined mk → (w x a : ContextId) → above_in mk x ≡ Some a → is_among w (line a mk) ≡ true → is_among w (line x mk) ≡ true
line_below mk l w x a up e = ap (is_among w) (l.line_step x a up) ∙ among_later w x (line a mk) e

-- whatever holds of all that is above holds up the whole line
pub up_the_line : (mk : List Making) (P : ContextId → Type 0) → Lined mk → ((x a : ContextId) → P x → above_in mk x ≡ Some a → P a)
    → (n : ℕ) (w x : ContextId) → length (line x mk) ≤ n → P x → is_among w (line x mk) ≡ true → P w
up_the_line mk P l step zero w x short holds e = by_list (line x mk) short e
  where
    by_list : (xs : List ContextId) → length xs ≤ 0 → is_among w xs ≡ true → P w
    by_list [] short e = absurd cc
    by_list (y ∷ ys) short e = absurd (omega (arith, short))
up_the_line mk P l step (suc n) w x short holds e = by_line (in_line mk l w x e) (up_the_line mk P l step n w)
  where
    by_line : (w ≡ x) ⊎ ((a : ContextId) × (above_in mk x ≡ Some a) × (is_among w (line a mk) ≡ true)) → ((y : ContextId) → length (line y mk) ≤ n → P y → is_among w (line y mk) ≡ true → P w) → P w
    by_line (inl is) further = subst P (sym is) holds
    by_line (inr (a, up, more)) further =
        let len : length (line x mk) ≡ length (x ∷ line a mk) = ap length (l.line_step x a up) in
        further a (omega (arith, short, len)) (step x a holds up) more

pub root_of : (mk : List Making) → Lined mk → (w x : ContextId) → is_among w (line x mk) ≡ true → root w mk ≡ root x mk
root_of mk l w x e = up_the_line mk (λ z. root z mk ≡ root x mk) l (λ y a is up. sym (l.root_step y a up) ∙ is) (length (line x mk)) w x (omega arith) refl e

-- ---- lives

-- the lives of contexts are those that the parent answers; of what it doesn't know none is live, and it's gone only
-- with the one above
pub record LifeTies (mk : List Making) (f : Facts) (life : ContextId → Stage) : Type 0 where
  pub live : (x : ContextId) → is_held (life x) ≡ f.contexts.live x
  pub unknown : (x : ContextId) → f.contexts.known x ≡ false → (life x ≡ Coming) ⊎ ((a : ContextId) × (above_in mk x ≡ Some a) × (life a ≡ Gone))

-- what a saying does to a context
abbrev pub says_one : List Making → ContextId → Saying → Effect
says_one mk x y = says_do x (line x mk) (y ∷ [])

pub says_more : (mk : List Making) (x : ContextId) (y : Saying) (ys : List Saying) → says_do x (line x mk) (y ∷ ys) ≡ both (says_one mk x y) (says_do x (line x mk) ys)
says_more mk x (Opened y g is_new p) ys = ap (λ e. both e (says_do x (line x mk) ys)) (sym (both_stays (comes_if (same_context x y))))
says_more mk x (Made p y a) ys = ap (λ e. both e (says_do x (line x mk) ys)) (sym (both_stays (comes_if (same_context x y))))
says_more mk x (Removed w but) ys = ap (λ e. both e (says_do x (line x mk) ys)) (sym (both_stays (goes_if (is_among w (line x mk)))))
says_more mk x (_) ys = refl

pub held_only : (s : Stage) → is_held s ≡ true → s ≡ Held
held_only Coming e = absurd cc
held_only Held e = refl
held_only Gone e = absurd cc

gone_stays : (a : Effect) → moved a Gone ≡ Gone
gone_stays Stays = refl
gone_stays Comes = refl
gone_stays Goes = refl

-- ---- what is opened

-- a tab's context is top-level
pub opened_top : (mk : List Making) (f : Facts) (x : ContextId) (q : ℕ) → Lined mk → OpenedFits f x q → above_in mk x ≡ None
opened_top mk f x q l fits = l.tabs x (ap (λ (z : ContextId). z.creator) fits.next)

-- and wasn't known
pub opened_new : (tabs : List StartTab) (mk : List Making) (f : Facts) (x : ContextId) (q : ℕ) → FactsTies tabs mk f → OpenedFits f x q → f.contexts.known x ≡ false
opened_new tabs mk f x q ft fits = by_known (f.contexts.known x) refl
  where
    serial_is : x.serial ≡ f.tabs_made + 1
    serial_is = ap (λ (z : ContextId). z.serial) fits.next

    by_known : (b : Bool) → f.contexts.known x ≡ b → f.contexts.known x ≡ false
    by_known false e = e
    by_known true e = absurd (omega (arith, serial_is, ft.tabs_low x e (ap (λ (z : ContextId). z.creator) fits.next)))

-- ---- a saying more

abbrev made_effect : ContextId → ContextId → Effect
made_effect x z = both (comes_if (same_context z x)) Stays

abbrev removed_effect : List Making → ContextId → ContextId → Effect
removed_effect mk w z = both (goes_if (is_among w (line z mk))) Stays

module _ (tabs : List StartTab) (mk : List Making) (l : Lined mk) where
  abbrev Ties : Facts → (ContextId → Stage) → Type 0
  Ties = LifeTies mk

  -- where nothing comes and nothing goes
  life_same : (f g : Facts) (L : ContextId → Stage) → ((x : ContextId) → g.contexts.live x ≡ f.contexts.live x) → ((x : ContextId) → g.contexts.known x ≡ false → f.contexts.known x ≡ false) → Ties f L → Ties g L
  life_same f g L alive unknown t = record { live = λ x. t.live x ∙ sym (alive x); unknown = λ x e. t.unknown x (unknown x e) }

  -- what is new and made in what is live was coming
  pub was_coming : (f : Facts) (L : ContextId → Stage) (x a : ContextId) → Ties f L → f.contexts.known x ≡ false → above_in mk x ≡ Some a → f.contexts.live a ≡ true → L x ≡ Coming
  was_coming f L x a t new up live = by_case (t.unknown x new)
    where
      by_case : (L x ≡ Coming) ⊎ ((b : ContextId) × (above_in mk x ≡ Some b) × (L b ≡ Gone)) → L x ≡ Coming
      by_case (inl is) = is
      by_case (inr (b, upper, gone)) =
          let same : a ≡ b = some_is a b (sym up ∙ upper) in
          let held : is_held (L a) ≡ true = t.live a ∙ live in
          let lost : is_held (L a) ≡ false = ap is_held (ap L same ∙ gone) in
          true_false (is_held (L a)) held lost

  -- what is new and top-level was coming
  pub top_was_coming : (f : Facts) (L : ContextId → Stage) (x : ContextId) → Ties f L → f.contexts.known x ≡ false → above_in mk x ≡ None → L x ≡ Coming
  top_was_coming f L x t new top = by_case (t.unknown x new)
    where
      by_case : (L x ≡ Coming) ⊎ ((b : ContextId) × (above_in mk x ≡ Some b) × (L b ≡ Gone)) → L x ≡ Coming
      by_case (inl is) = is
      by_case (inr (b, upper, gone)) = none_some b (sym top ∙ upper)

  -- one more is live, which was coming
  life_come : (f g : Facts) (L : ContextId → Stage) (x : ContextId) → ((z : ContextId) → g.contexts.live z ≡ (if same_context z x then true else f.contexts.live z))
      → ((z : ContextId) → g.contexts.known z ≡ (if same_context z x then true else f.contexts.known z)) → L x ≡ Coming → Ties f L → Ties g (λ z. moved (made_effect x z) (L z))
  life_come f g L x live_is known_is coming t = record { live = alive; unknown = unknown }
    where
      alive : (z : ContextId) → is_held (moved (made_effect x z) (L z)) ≡ g.contexts.live z
      alive z = by_test (same_context z x) refl ∙ sym (live_is z)
        where
          by_test : (b : Bool) → same_context z x ≡ b → is_held (moved (both (comes_if b) Stays) (L z)) ≡ (if b then true else f.contexts.live z)
          by_test true is =
              let new : L z ≡ Coming = ap L (same_context_is z x is) ∙ coming in
              ap (λ s. is_held (moved Comes s)) new
          by_test false isnt = t.live z

      unknown : (z : ContextId) → g.contexts.known z ≡ false
          → (moved (made_effect x z) (L z) ≡ Coming) ⊎ ((b : ContextId) × (above_in mk z ≡ Some b) × (moved (made_effect x b) (L b) ≡ Gone))
      unknown z e = by_test (same_context z x) refl (sym (known_is z) ∙ e)
        where
          kept : (L z ≡ Coming) ⊎ ((b : ContextId) × (above_in mk z ≡ Some b) × (L b ≡ Gone)) → (L z ≡ Coming) ⊎ ((b : ContextId) × (above_in mk z ≡ Some b) × (moved (made_effect x b) (L b) ≡ Gone))
          kept (inl new) = inl new
          kept (inr (b, upper, gone)) = inr (b, upper, ap (moved (made_effect x b)) gone ∙ gone_stays (made_effect x b))

          by_test : (v : Bool) → same_context z x ≡ v → (if v then true else f.contexts.known z) ≡ false
              → (moved (both (comes_if v) Stays) (L z) ≡ Coming) ⊎ ((b : ContextId) × (above_in mk z ≡ Some b) × (moved (made_effect x b) (L b) ≡ Gone))
          by_test true is e = absurd cc
          by_test false isnt e = kept (t.unknown z e)

  life_made : (f : Facts) (L : ContextId → Stage) (p : ℕ) (x a : ContextId) → above_in mk x ≡ Some a → MadeFits f p x a → Ties f L
      → Ties (facts_after (Made p x a) f) (λ z. moved (says_one mk z (Made p x a)) (L z))
  unfolding facts_after
  life_made f L p x a up fits t = life_come f (facts_after (Made p x a) f) L x (λ z. refl) (λ z. refl) (was_coming f L x a t fits.new up fits.live) t

  life_opened : (f : Facts) (L : ContextId → Stage) (x : ContextId) (g : GroupId) (is_new : Bool) (q : ℕ) → OpenedFits f x q → FactsTies tabs mk f → Ties f L
      → Ties (facts_after (Opened x g is_new q) f) (λ z. moved (says_one mk z (Opened x g is_new q)) (L z))
  unfolding facts_after
  life_opened f L x g is_new q fits ft t =
      life_come f (facts_after (Opened x g is_new q) f) L x (λ z. refl) (λ z. refl) (top_was_coming f L x t (opened_new tabs mk f x q ft fits) (opened_top mk f x q l fits)) t

  life_removed : (f : Facts) (L : ContextId → Stage) (w : ContextId) (but : Option ℕ) → f.contexts.live w ≡ true → FactsTies tabs mk f → Ties f L → Ties (facts_after (Removed w but) f) (λ z. moved (says_one mk z (Removed w but)) (L z))
  unfolding facts_after
  life_removed f L w but live ft t = record { live = alive; unknown = unknown }
    where
      goes_in : (z : ContextId) → is_among w (line z mk) ≡ true → removed_effect mk w z ≡ Goes
      goes_in z e = ap (λ b. both (goes_if b) Stays) e

      alive : (z : ContextId) → is_held (moved (removed_effect mk w z) (L z)) ≡ (if f.contexts.under z w then false else f.contexts.live z)
      alive z = by_live (f.contexts.live z) refl
        where
          by_line : (b : Bool) → is_among w (line z mk) ≡ b → f.contexts.live z ≡ true → is_held (moved (both (goes_if b) Stays) (L z)) ≡ (if b then false else f.contexts.live z)
          by_line true is on = refl
          by_line false isnt on = t.live z

          unheld : (a : Effect) (s : Stage) → (a ≡ Comes → ⊥) → is_held s ≡ false → is_held (moved a s) ≡ false
          unheld Stays s other e = e
          unheld Goes s other e = refl
          unheld Comes s other e = absurd (other refl)

          never_comes : (b : Bool) → both (goes_if b) Stays ≡ Comes → ⊥
          never_comes true e = absurd cc
          never_comes false e = absurd cc

          by_live : (v : Bool) → f.contexts.live z ≡ v → is_held (moved (removed_effect mk w z) (L z)) ≡ (if f.contexts.under z w then false else f.contexts.live z)
          by_live true on = by_line (is_among w (line z mk)) refl on ∙ ap (λ (u : Bool). if u then false else f.contexts.live z) (sym (ft.live_under z w on))
          by_live false off =
              unheld (removed_effect mk w z) (L z) (never_comes (is_among w (line z mk))) (t.live z ∙ off)
              ∙ sym (ap (λ (u : Bool). if u then false else f.contexts.live z) (ft.dead_under z w off) ∙ off)

      unknown : (z : ContextId) → f.contexts.known z ≡ false → (moved (removed_effect mk w z) (L z) ≡ Coming) ⊎ ((b : ContextId) × (above_in mk z ≡ Some b) × (moved (removed_effect mk w b) (L b) ≡ Gone))
      unknown z new = by_line (is_among w (line z mk)) refl
        where
          kept : (L z ≡ Coming) ⊎ ((b : ContextId) × (above_in mk z ≡ Some b) × (L b ≡ Gone)) → (L z ≡ Coming) ⊎ ((b : ContextId) × (above_in mk z ≡ Some b) × (moved (removed_effect mk w b) (L b) ≡ Gone))
          kept (inl new) = inl new
          kept (inr (b, upper, gone)) = inr (b, upper, ap (moved (removed_effect mk w b)) gone ∙ gone_stays (removed_effect mk w b))

          taken : (w ≡ z) ⊎ ((a : ContextId) × (above_in mk z ≡ Some a) × (is_among w (line a mk) ≡ true)) → (b : ContextId) × (above_in mk z ≡ Some b) × (moved (removed_effect mk w b) (L b) ≡ Gone)
          taken (inl is) = true_false (f.contexts.known w) (ft.live_known w live) (ap f.contexts.known is ∙ new)
          taken (inr (a, up, more)) = (a, up, ap (λ e. moved e (L a)) (goes_in a more))

          by_line : (v : Bool) → is_among w (line z mk) ≡ v → (moved (both (goes_if v) Stays) (L z) ≡ Coming) ⊎ ((b : ContextId) × (above_in mk z ≡ Some b) × (moved (removed_effect mk w b) (L b) ≡ Gone))
          by_line true is = inr (taken (in_line mk l w z is))
          by_line false isnt = kept (t.unknown z new)

  pub life_still : (f : Facts) (L : ContextId → Stage) (y : Saying) → AllByRecursion (IsToldBy mk) (makings_said (y ∷ [])) → SayingFits f y → FactsTies tabs mk f → Ties f L → Ties (facts_after y f) (λ z. moved (says_one mk z y) (L z))
  unfolding facts_after
  life_still f L (Opened x g is_new p) told fits ft t = life_opened f L x g is_new p fits ft t
  life_still f L (Made p x a) told fits ft t = life_made f L p x a told.0 fits t
  life_still f L (BornDead p x a) told fits ft t = life_same f (facts_after (BornDead p x a) f) L (λ z. refl) before t
    where
      before : (z : ContextId) → (if same_context z x then true else f.contexts.known z) ≡ false → f.contexts.known z ≡ false
      before z e = by_test (same_context z x) e
        where
          by_test : (b : Bool) → (if b then true else f.contexts.known z) ≡ false → f.contexts.known z ≡ false
          by_test true e = absurd cc
          by_test false e = e
  life_still f L (Removed w but) told fits ft t = life_removed f L w but fits ft t
  life_still f L (Subscribed p g) told fits ft t = life_same f (facts_after (Subscribed p g) f) L (λ z. refl) (λ z e. e) t
  life_still f L (Wrote x c) told fits ft t = life_same f (facts_after (Wrote x c) f) L (λ z. refl) (λ z e. e) t
  life_still f L (Acked p x) told fits ft t = life_same f (facts_after (Acked p x) f) L (λ z. refl) (λ z e. e) t
  life_still f L (Counted p) told fits ft t = life_same f (facts_after (Counted p) f) L (λ z. refl) (λ z e. e) t
  life_still f L (Sent p) told fits ft t = life_same f (facts_after (Sent p) f) L (λ z. refl) (λ z e. e) t
  life_still f L (Ended p cause) told fits ft t = life_same f (facts_after (Ended p cause) f) L (λ z. refl) (λ z e. e) t

  -- ---- all that is said in an entry

  module _ (c : Config) (same_tabs : tabs ≡ c.tabs) (old : List Saying) where
    -- the answers behind what was said
    abbrev behind : List Saying → Facts
    behind ys = asked c.tabs (ys ++ old)

    pub facts_all : (ys : List Saying) → AllByRecursion (IsToldBy mk) (makings_said ys) → FitsOver c old ys → FactsTies c.tabs mk (asked c.tabs old) → FactsTies c.tabs mk (behind ys)
    facts_all [] told fits ft = ft
    facts_all (y ∷ ys) told fits ft =
        let parts : AllByRecursion (IsToldBy mk) (makings_said (y ∷ [])) × AllByRecursion (IsToldBy mk) (makings_said ys) = told_first mk y ys told in
        subst (FactsTies c.tabs mk) (sym (asked_more c.tabs y (ys ++ old))) (facts_still c.tabs mk (behind ys) y l parts.0 fits.0 (facts_all ys parts.1 fits.1 ft))

    pub life_all : (L : ContextId → Stage) (ys : List Saying) → AllByRecursion (IsToldBy mk) (makings_said ys) → FitsOver c old ys → FactsTies c.tabs mk (asked c.tabs old) → Ties (asked c.tabs old) L
        → Ties (behind ys) (λ z. moved (says_do z (line z mk) ys) (L z))
    life_all L [] told fits ft t = t
    life_all L (y ∷ ys) told fits ft t =
        let parts : AllByRecursion (IsToldBy mk) (makings_said (y ∷ [])) × AllByRecursion (IsToldBy mk) (makings_said ys) = told_first mk y ys told in
        subst (λ g. Ties g (λ z. moved (says_do z (line z mk) (y ∷ ys)) (L z))) (sym (asked_more c.tabs y (ys ++ old)))
        (subst (Ties (facts_after y (behind ys))) (fun_ext (λ z. sym (both_moved (says_one mk z y) (says_do z (line z mk) ys) (L z)) ∙ ap (λ e. moved e (L z)) (sym (says_more mk z y ys))))
        (life_still (behind ys) (λ z. moved (says_do z (line z mk) ys) (L z)) y parts.0 fits.0 (subst (λ ts. FactsTies ts mk (behind ys)) (sym same_tabs) (facts_all ys parts.1 fits.1 ft)) (life_all L ys parts.1 fits.1 ft t)))
