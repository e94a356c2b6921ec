-- What goes takes along all below it, and a context of the process that it hasn't made goes only so.
use Rattle.std.proofs.Common.{◌≡◌, ◌⊎◌, inl, inr, Bool, true, false, Some, List, [], ◌∷◌, refl, ap, sym, subst, ◌∙◌}
use Rattle.traces.specs.Event.{Event}
use Rattle.traces.specs.Event.Event.{Writes, Sends, Takes, Accepts, Reverts, Changes, Ends}
use Rattle.traces.specs.Links.{writes_waiting, is_ended}
use Rattle.traces.specs.Rules.{IsFirst, Flows}
use Rattle.traces.specs.Words.{Stage}
use Rattle.traces.specs.Words.Stage.{Coming, Held, Gone}
use Rattle.trees.specs.Look.{Effect, moved, Look, Begin}
use Rattle.trees.specs.Look.Effect.{Stays, Comes, Goes}
use Rattle.trees.specs.Words.{stage, life, joint}
use Rattle.trees.specs.Rules.{Lawful, Above, Returned, Fits}
use Rattle.trees.proofs.Effects.{new_before, gone_before, unheld_behind, gone_behind, comes_new}
use Rattle.trees.proofs.Joint.{first_did, stage_did}

gone_along : (a b : Effect) (s t : Stage) → (a ≡ Goes → b ≡ Goes) → (s ≡ Gone → t ≡ Gone) → moved a s ≡ Gone → moved b t ≡ Gone
gone_along a b s t goes gone e = go (gone_before a s e)
  where
    go : (s ≡ Gone) ⊎ (a ≡ Goes) → moved b t ≡ Gone
    go (inl was) = gone_behind b t (gone was)
    go (inr now) = rw (goes now) refl

pub life_below : {X W B : Type 0} (look : Look X W B) (begin : Begin X) → Lawful look begin → (x y : X) → look.above x ≡ Some y → (h : List (Event W B)) →
    life look begin y h ≡ Gone → life look begin x h ≡ Gone
life_below look begin l x y is [] e = absurd (l.none_gone y e)
life_below look begin l x y is (Sends k u c ∷ h) e = gone_along (look.does y u) (look.does x u) (life look begin y h) (life look begin x h) (l.does_below x y u is) (life_below look begin l x y is h) e
life_below look begin l x y is (Changes k u ∷ h) e = gone_along (look.does y u) (look.does x u) (life look begin y h) (life look begin x h) (l.does_below x y u is) (life_below look begin l x y is h) e
life_below look begin l x y is (Accepts k w ∷ h) e = gone_along (look.does y w) (look.does x w) (life look begin y h) (life look begin x h) (l.does_below x y w is) (life_below look begin l x y is h) e
life_below look begin l x y is (Reverts k w c ∷ h) e = gone_along (look.tells y c) (look.tells x c) (life look begin y h) (life look begin x h) (l.tells_below x y c is) (life_below look begin l x y is h) e
life_below look begin l x y is (_ ∷ h) e = life_below look begin l x y is h e

pub starts_alive : {X W B : Type 0} (look : Look X W B) (begin : Begin X) → Lawful look begin → (y : X) → begin.stage y ≡ Gone → ⊥
starts_alive look begin l y e = go (begin.is_told y) refl
  where
    go : (b : Bool) → begin.is_told y ≡ b → ⊥
    go true is = l.none_gone y (sym (l.has_live y is) ∙ e)
    go false is = let new : begin.stage y ≡ Coming = l.has_nothing y is in absurd cc

pub joint_below : {X W B : Type 0} (look : Look X W B) (begin : Begin X) → Lawful look begin → (x y : X) → look.above x ≡ Some y → (h : List (Event W B)) →
    joint look begin y h ≡ Gone → joint look begin x h ≡ Gone
joint_below look begin l x y is [] e = absurd (starts_alive look begin l y e)
joint_below look begin l x y is (Writes w ∷ h) e = gone_along (look.does y w) (look.does x w) (joint look begin y h) (joint look begin x h) (l.does_below x y w is) (joint_below look begin l x y is h) e
joint_below look begin l x y is (Sends k u c ∷ h) e = gone_along (look.tells y c) (look.tells x c) (joint look begin y h) (joint look begin x h) (l.tells_below x y c is) (joint_below look begin l x y is h) e
joint_below look begin l x y is (Reverts k w c ∷ h) e = gone_along (look.tells y c) (look.tells x c) (joint look begin y h) (joint look begin x h) (l.tells_below x y c is) (joint_below look begin l x y is h) e
joint_below look begin l x y is (_ ∷ h) e = joint_below look begin l x y is h e

not_both : (b : Bool) → b ≡ true → b ≡ false → ⊥
not_both b is other = absurd cc

stays_only : (a : Effect) → a ≡ Stays → a ≡ Comes → ⊥
stays_only a stays comes = absurd cc

-- a context that the process hasn't made does not come by what it wrote
unwritten : {X W B : Type 0} (look : Look X W B) (begin : Begin X) (x : X) (w : W) (h : List (Event W B)) → IsFirst w (writes_waiting h) →
    stage look begin x h ≡ Coming → look.does x w ≡ Stays
unwritten look begin x w h f new = go (look.does x w) refl
  where
    did : moved (look.does x w) (stage look begin x h) ≡ stage look begin x h
    did = first_did (look.does x) w h (stage look begin x h) f (stage_did look begin x h)

    go : (a : Effect) → look.does x w ≡ a → look.does x w ≡ Stays
    go Stays is = is
    go Comes is = absurd (comes_new (look.does x w) (stage look begin x h) did new is)
    go Goes is = let gone : Gone ≡ stage look begin x h = subst (λ a. moved a (stage look begin x h) ≡ stage look begin x h) is did in absurd cc

-- an own context that isn't made isn't live
pub unmade : {X W B : Type 0} (look : Look X W B) (begin : Begin X) → Lawful look begin → (x : X) → look.is_own x ≡ true → (h : List (Event W B)) → Flows h → Fits look begin h → is_ended h ≡ false →
    stage look begin x h ≡ Coming → life look begin x h ≡ Held → ⊥
unmade look begin l x own [] f t runs new live = let start : begin.life x ≡ Coming = l.none_own x own in absurd cc
unmade look begin l x own (Writes w ∷ h) f t runs new live = unmade look begin l x own h f.1 t.1 runs (new_before (look.does x w) (stage look begin x h) new) live
unmade look begin l x own (Takes d ∷ h) f t runs new live = unmade look begin l x own h f.1 t.1 runs (new_before (look.tells x d.content) (stage look begin x h) new) live
unmade look begin l x own (Sends k u c ∷ h) f t runs new live =
    unheld_behind (look.does x u) (life look begin x h) (unmade look begin l x own h f.1 t.1 runs new) (λ comes. not_both (look.is_own x) own ((t.0 runs x).done.by_others comes)) live
unmade look begin l x own (Changes k u ∷ h) f t runs new live =
    unheld_behind (look.does x u) (life look begin x h) (unmade look begin l x own h f.1 t.1 runs new) (λ comes. not_both (look.is_own x) own ((t.0 runs x).done.by_others comes)) live
unmade look begin l x own (Accepts k w ∷ h) f t runs new live =
    unheld_behind (look.does x w) (life look begin x h) (unmade look begin l x own h f.1 t.1 runs new) (λ comes. stays_only (look.does x w) (unwritten look begin x w h f.0 new) comes) live
unmade look begin l x own (Reverts k w c ∷ h) f t runs new live =
    unheld_behind (look.tells x c) (life look begin x h) (unmade look begin l x own h f.1 t.1 runs new)
    (subst (λ a. Returned a (look.tells x c)) (unwritten look begin x w h f.0.first new) (t.0 runs x).returned) live
unmade look begin l x own (Ends ∷ h) f t runs new live = absurd cc
unmade look begin l x own (_ ∷ h) f t runs new live = unmade look begin l x own h f.1 t.1 runs new live

-- what goes with the one above has gone so behind it too
along : {X W B : Type 0} (look : Look X W B) (x : X) (effect : X → Effect) (before : X → Stage) →
    (before x ≡ Gone → Above look x (λ y. before y ≡ Gone)) → (before x ≡ Held → ⊥) →
    (effect x ≡ Goes → before x ≡ Coming → Above look x (λ y. effect y ≡ Goes)) →
    moved (effect x) (before x) ≡ Gone → Above look x (λ y. moved (effect y) (before y) ≡ Gone)
along {X} look x effect before was unheld goes gone = go (before x) refl (gone_before (effect x) (before x) gone)
  where
    kept : Above look x (λ y. before y ≡ Gone) → Above look x (λ y. moved (effect y) (before y) ≡ Gone)
    kept (y, is, gone) = (y, is, gone_behind (effect y) (before y) gone)

    taken : Above look x (λ y. effect y ≡ Goes) → Above look x (λ y. moved (effect y) (before y) ≡ Gone)
    taken (y, is, goes) = (y, is, ap (λ a. moved a (before y)) goes)

    go : (s : Stage) → before x ≡ s → (before x ≡ Gone) ⊎ (effect x ≡ Goes) → Above look x (λ y. moved (effect y) (before y) ≡ Gone)
    go s is (inl gone) = kept (was gone)
    go Coming is (inr now) = taken (goes now is)
    go Held is (inr now) = absurd (unheld is)
    go Gone is (inr now) = kept (was is)

-- an own context that isn't made is discarded only with the one above
pub with_above : {X W B : Type 0} (look : Look X W B) (begin : Begin X) → Lawful look begin → (x : X) → look.is_own x ≡ true → (h : List (Event W B)) → Flows h → Fits look begin h → is_ended h ≡ false →
    stage look begin x h ≡ Coming → life look begin x h ≡ Gone → Above look x (λ y. life look begin y h ≡ Gone)
with_above look begin l x own [] f t runs new gone = absurd (l.none_gone x gone)
with_above look begin l x own (Writes w ∷ h) f t runs new gone = with_above look begin l x own h f.1 t.1 runs (new_before (look.does x w) (stage look begin x h) new) gone
with_above look begin l x own (Takes d ∷ h) f t runs new gone = with_above look begin l x own h f.1 t.1 runs (new_before (look.tells x d.content) (stage look begin x h) new) gone
with_above look begin l x own (Sends k u c ∷ h) f t runs new gone =
    along look x (λ y. look.does y u) (λ y. life look begin y h) (with_above look begin l x own h f.1 t.1 runs new) (unmade look begin l x own h f.1 t.1 runs new)
    (λ goes. (t.0 runs x).done.done.with_above goes own) gone
with_above look begin l x own (Changes k u ∷ h) f t runs new gone =
    along look x (λ y. look.does y u) (λ y. life look begin y h) (with_above look begin l x own h f.1 t.1 runs new) (unmade look begin l x own h f.1 t.1 runs new)
    (λ goes. (t.0 runs x).done.done.with_above goes own) gone
with_above look begin l x own (Accepts k w ∷ h) f t runs new gone =
    along look x (λ y. look.does y w) (λ y. life look begin y h) (with_above look begin l x own h f.1 t.1 runs new) (unmade look begin l x own h f.1 t.1 runs new)
    (λ goes. (t.0 runs x).with_above goes own) gone
with_above look begin l x own (Reverts k w c ∷ h) f t runs new gone =
    along look x (λ y. look.tells y c) (λ y. life look begin y h) (with_above look begin l x own h f.1 t.1 runs new) (unmade look begin l x own h f.1 t.1 runs new)
    (λ goes coming. not_made (unwritten look begin x w h f.0.first new) ((t.0 runs x).with_above goes own coming)) gone
  where
    not_made : look.does x w ≡ Stays → (look.does x w ≡ Comes) ⊎ Above look x (λ y. look.tells y c ≡ Goes) → Above look x (λ y. look.tells y c ≡ Goes)
    not_made stays (inl comes) = absurd (stays_only (look.does x w) stays comes)
    not_made stays (inr above) = above
with_above look begin l x own (Ends ∷ h) f t runs new gone = absurd cc
with_above look begin l x own (_ ∷ h) f t runs new gone = with_above look begin l x own h f.1 t.1 runs new gone
