-- A process drops only what the parent lets it drop: while it owns a context, all that it holds below is its own.
use Rattle.std.proofs.Common.{◌≡◌, ◌+◌, ◌⊎◌, inl, inr, Bool, true, false, Some, List, [], ◌∷◌, ◌++◌, refl, ap, sym, subst, ◌∙◌}
use Rattle.std.specs.List.{AllByRecursion}
use Rattle.traces.specs.Event.{Bundle, Event}
use Rattle.traces.specs.Event.Event.{Writes, Sends, Takes, Accepts, Reverts, Changes, Ends}
use Rattle.traces.specs.Links.{hears, writes, writes_waiting, takes, bundles_sent, bundles_waiting, is_ended}
use Rattle.traces.specs.Rules.{IsFirst, Flows}
use Rattle.traces.specs.Words.{Stage}
use Rattle.traces.specs.Words.Stage.{Coming, Held, Gone}
use Rattle.traces.proofs.Waits.{sent_waits, taken_leaves}
use Rattle.trees.specs.Laws.{GoingWaits}
use Rattle.trees.specs.Look.{Effect, moved, Handing, owned_behind, Look, Begin}
use Rattle.trees.specs.Look.Effect.{Stays, Comes, Goes}
use Rattle.trees.specs.Words.{is_told, stage, life, joint, Stands}
use Rattle.trees.specs.Children.{owned, owns, owner_behind}
use Rattle.trees.specs.Rules.{Lawful, Acts, HandsOver, Told, Done, Fits, Keeps}
use Rattle.trees.proofs.Effects.{new_before, live_before, live_unbrought}
use Rattle.trees.proofs.Joint.{stage_behind, leads, untold}
use Rattle.trees.proofs.Above.{unmade}
use Rattle.trees.proofs.Agrees.{Agrees, MakeWaits, agrees, told_above}
use Rattle.trees.proofs.Lists.{all_drop, all_push, first_is}
use Rattle.trees.proofs.Siblings.{one_owner}
use Rattle.trees.proofs.Owners.{joint_owner, owns_lead, same_owner}
use Rattle.trees.proofs.Knowing.{acts_own, all_made_own, none_comes_back, whole_live}

-- whichever of these were taken, where y is owned x isn't held
abbrev pub Apart : {B : Type 0} → (B → Handing) → (B → Effect) → List (Bundle B) → Bool → Stage → Type 0
Apart handed tells [] owns s = owns ≡ true → s ≡ Held → ⊥
Apart handed tells (d ∷ ds) owns s = (owns ≡ true → s ≡ Held → ⊥) × Apart handed tells ds (owned_behind (handed d.content) owns) (moved (tells d.content) s)

apart_now : {B : Type 0} (handed : B → Handing) (tells : B → Effect) (ds : List (Bundle B)) (owns : Bool) (s : Stage) → Apart handed tells ds owns s → owns ≡ true → s ≡ Held → ⊥
apart_now handed tells [] owns s a = a
apart_now handed tells (d ∷ ds) owns s a = a.0

apart_push : {B : Type 0} (handed : B → Handing) (tells : B → Effect) (ds : List (Bundle B)) (d : Bundle B) (owns : Bool) (s : Stage) → Apart handed tells ds owns s →
    (owned_behind (handed d.content) (owner_behind handed ds owns) ≡ true → moved (tells d.content) (stage_behind tells ds s) ≡ Held → ⊥) → Apart handed tells (ds ++ d ∷ []) owns s
apart_push handed tells [] d owns s a last = (a, last)
apart_push handed tells (e ∷ ds) d owns s a last = (a.0, apart_push handed tells ds d (owned_behind (handed e.content) owns) (moved (tells e.content) s) a.1 last)

-- what is gone, or doesn't come, is never held
apart_gone : {B : Type 0} (handed : B → Handing) (tells : B → Effect) (ds : List (Bundle B)) (owns : Bool) → Apart handed tells ds owns Gone
apart_gone handed tells [] owns = λ o e. absurd cc
apart_gone handed tells (d ∷ ds) owns = ((λ o e. absurd cc), subst (Apart handed tells ds (owned_behind (handed d.content) owns)) (gone_still (tells d.content)) (apart_gone handed tells ds (owned_behind (handed d.content) owns)))
  where
    gone_still : (a : Effect) → Gone ≡ moved a Gone
    gone_still Stays = refl
    gone_still Comes = refl
    gone_still Goes = refl

unheld_still : (a : Effect) (s : Stage) → (a ≡ Comes → ⊥) → (s ≡ Held → ⊥) → moved a s ≡ Held → ⊥
unheld_still Stays s other unheld e = unheld e
unheld_still Comes s other unheld e = other refl
unheld_still Goes s other unheld e = absurd cc

apart_unheld : {B : Type 0} (handed : B → Handing) (tells : B → Effect) (ds : List (Bundle B)) (owns : Bool) (s : Stage) → AllByRecursion (λ d. tells d.content ≡ Comes → ⊥) ds → (s ≡ Held → ⊥) → Apart handed tells ds owns s
apart_unheld handed tells [] owns s none unheld = λ o. unheld
apart_unheld handed tells (d ∷ ds) owns s none unheld =
    ((λ o. unheld), apart_unheld handed tells ds (owned_behind (handed d.content) owns) (moved (tells d.content) s) none.1 (unheld_still (tells d.content) s none.0 unheld))

-- ---- below a context that the process hasn't made nothing came

-- what is live is below what is live
still_live : (a b : Effect) (s t : Stage) → (b ≡ Goes → a ≡ Goes) → t ≡ Held → moved a s ≡ Held → moved b t ≡ Held
still_live a Stays s t goes held live = held
still_live a Comes s t goes held live = rw held refl
still_live a Goes s t goes held live = let gone : Gone ≡ Held = subst (λ q. moved q s ≡ Held) (goes refl) live in absurd cc

above_done : {X W B : Type 0} (look : Look X W B) (begin : Begin X) → Lawful look begin → (e : Event W B) (w : W) (x y : X) (h : List (Event W B)) → Done look begin e w x h → look.above x ≡ Some y →
    life look begin y (e ∷ h) ≡ moved (look.does y w) (life look begin y h) → (life look begin x h ≡ Held → life look begin y h ≡ Held) → moved (look.does x w) (life look begin x h) ≡ Held →
    life look begin y (e ∷ h) ≡ Held
above_done look begin l e w x y h done is behind before live = go (live_before (look.does x w) (life look begin x h) live)
  where
    go : (life look begin x h ≡ Held) ⊎ (look.does x w ≡ Comes) → life look begin y (e ∷ h) ≡ Held
    go (inl was) = behind ∙ still_live (look.does x w) (look.does y w) (life look begin x h) (life look begin y h) (l.does_below x y w is) (before was) live
    go (inr comes) = done.below_live comes y is

pub above_live : {X W B : Type 0} (look : Look X W B) (begin : Begin X) → Lawful look begin → (x y : X) → look.above x ≡ Some y → (h : List (Event W B)) → Fits look begin h → is_ended h ≡ false →
    life look begin x h ≡ Held → life look begin y h ≡ Held
above_live look begin l x y is [] t runs live = let new : begin.life x ≡ Coming = l.none_below x y is in absurd cc
above_live look begin l x y is (Sends k u c ∷ h) t runs live = above_done look begin l (Sends k u c) u x y h (t.0 runs x).done.done is refl (above_live look begin l x y is h t.1 runs) live
above_live look begin l x y is (Changes k u ∷ h) t runs live = above_done look begin l (Changes k u) u x y h (t.0 runs x).done.done is refl (above_live look begin l x y is h t.1 runs) live
above_live look begin l x y is (Accepts k w ∷ h) t runs live = above_done look begin l (Accepts k w) w x y h (t.0 runs x) is refl (above_live look begin l x y is h t.1 runs) live
above_live look begin l x y is (Reverts k w c ∷ h) t runs live =
    still_live (look.tells x c) (look.tells y c) (life look begin x h) (life look begin y h) (l.tells_below x y c is)
    (above_live look begin l x y is h t.1 runs (live_unbrought (look.does x w) (look.tells x c) (life look begin x h) (t.0 runs x).returned live)) live
above_live look begin l x y is (Ends ∷ h) t runs live = absurd cc
above_live look begin l x y is (_ ∷ h) t runs live = above_live look begin l x y is h t.1 runs live

-- what is sent as coming is live
pub sent_live : (told_before registers : Bool) (did told : Effect) (l : Stage) → Told told_before registers did told l → (did ≡ Comes → l ≡ Coming) → told ≡ Comes → moved did l ≡ Held
sent_live true registers did told l t new comes = by_coming did l (sym t ∙ comes) new
  where
    by_coming : (a : Effect) (s : Stage) → a ≡ Comes → (a ≡ Comes → s ≡ Coming) → moved a s ≡ Held
    by_coming Stays s e new = absurd cc
    by_coming Comes s e new = ap (moved Comes) (new refl)
    by_coming Goes s e new = absurd cc
sent_live false true did told l t new comes = whole_live (moved did l) (sym t ∙ comes)
sent_live false false did told l t new comes = absurd cc

pub none_sent : {X W B : Type 0} (look : Look X W B) (begin : Begin X) → Lawful look begin → (x y : X) → look.above x ≡ Some y → look.is_own y ≡ true → (h : List (Event W B)) → Flows h → Fits look begin h → is_ended h ≡ false →
    stage look begin y h ≡ Coming → AllByRecursion (λ d. look.tells x d.content ≡ Comes → ⊥) (bundles_sent h)
none_sent look begin l x y is own [] f t runs new = tt
none_sent look begin l x y is own (Writes w ∷ h) f t runs new = none_sent look begin l x y is own h f.1 t.1 runs (new_before (look.does y w) (stage look begin y h) new)
none_sent look begin l x y is own (Takes d ∷ h) f t runs new = none_sent look begin l x y is own h f.1 t.1 runs (new_before (look.tells y d.content) (stage look begin y h) new)
none_sent look begin l x y is own (Sends k u c ∷ h) f t runs new =
    all_push (λ d. look.tells x d.content ≡ Comes → ⊥) (bundles_sent h) (record { entry = k; epoch = hears h; content = c }) (none_sent look begin l x y is own h f.1 t.1 runs new)
    (λ comes. unmade look begin l y own (Sends k u c ∷ h) f t runs new (above_live look begin l x y is (Sends k u c ∷ h) t runs
    (sent_live (is_told look begin x h) (look.registers x c) (look.does x u) (look.tells x c) (life look begin x h) (t.0 runs x).told (t.0 runs x).done.done.new comes)))
none_sent look begin l x y is own (Reverts k w c ∷ h) f t runs new =
    all_push (λ d. look.tells x d.content ≡ Comes → ⊥) (bundles_sent h) (record { entry = k; epoch = hears h + 1; content = c }) (none_sent look begin l x y is own h f.1 t.1 runs new)
    (none_comes_back (look.does x w) (look.tells x c) (t.0 runs x).returned)
none_sent look begin l x y is own (Ends ∷ h) f t runs new = absurd cc
none_sent look begin l x y is own (_ ∷ h) f t runs new = none_sent look begin l x y is own h f.1 t.1 runs new

starts_unheld : {X W B : Type 0} (look : Look X W B) (begin : Begin X) → Lawful look begin → (x y : X) → look.above x ≡ Some y → (b : Bool) → begin.is_told x ≡ b → begin.stage x ≡ Held → ⊥
starts_unheld look begin l x y is true told held = let same : begin.stage x ≡ begin.life x = l.has_live x told in let new : begin.life x ≡ Coming = l.none_below x y is in absurd cc
starts_unheld look begin l x y is false told held = let new : begin.stage x ≡ Coming = l.has_nothing x told in absurd cc

made_below : {X W B : Type 0} (look : Look X W B) (begin : Begin X) (x y : X) (w : W) (h : List (Event W B)) → look.above x ≡ Some y → stage look begin y h ≡ Coming → Acts look begin x h (look.does x w) → look.does x w ≡ Comes → ⊥
made_below {X} look begin x y w h is new acts comes = go (acts_own look begin x h (look.does x w) acts comes).below
  where
    go : (z : X) × (look.above x ≡ Some z) × (stage look begin z h ≡ Held) → ⊥
    go (z, too, held) =
        let same : Some y ≡ Some z = sym is ∙ too in
        let here : stage look begin y h ≡ Held = subst (λ q. stage look begin q h ≡ Held) (cc) held in absurd cc

none_held : {X W B : Type 0} (look : Look X W B) (begin : Begin X) → Lawful look begin → (x y : X) → look.above x ≡ Some y → look.is_own y ≡ true → (h : List (Event W B)) → Flows h → Fits look begin h → is_ended h ≡ false →
    stage look begin y h ≡ Coming → stage look begin x h ≡ Held → ⊥
none_held look begin l x y is own [] f t runs new = starts_unheld look begin l x y is (begin.is_told x) refl
none_held look begin l x y is own (Writes w ∷ h) f t runs new =
    unheld_still (look.does x w) (stage look begin x h) (made_below look begin x y w h is (new_before (look.does y w) (stage look begin y h) new) (t.0 runs x).acts)
    (none_held look begin l x y is own h f.1 t.1 runs (new_before (look.does y w) (stage look begin y h) new))
none_held look begin l x y is own (Takes d ∷ h) f t runs new =
    unheld_still (look.tells x d.content) (stage look begin x h)
    (first_is (λ d. look.tells x d.content ≡ Comes → ⊥) (takes h) (bundles_sent h) d f.0 (none_sent look begin l x y is own h f.1 t.1 runs (new_before (look.tells y d.content) (stage look begin y h) new)))
    (none_held look begin l x y is own h f.1 t.1 runs (new_before (look.tells y d.content) (stage look begin y h) new))
none_held look begin l x y is own (Ends ∷ h) f t runs new = absurd cc
none_held look begin l x y is own (_ ∷ h) f t runs new = none_held look begin l x y is own h f.1 t.1 runs new

-- ---- apart, whatever waits

stands_all : {W : Type 0} (does : W → Effect) (P : Type 0) (ws : List W) → AllByRecursion (λ w. does w ≡ Comes → P) ws → Stands does Comes ws → P
stands_all does P [] a s = absurd s
stands_all does P (w ∷ ws) a (inl comes) = a.0 comes
stands_all does P (w ∷ ws) a (inr s) = stands_all does P ws a.1 s

-- behind all that was sent: where the process owns y, nothing of others is held below
apart_told : {X W B : Type 0} (look : Look X W B) (begin : Begin X) → Lawful look begin → (x y : X) → look.above x ≡ Some y → look.is_own x ≡ false → (h : List (Event W B)) → Flows h → Fits look begin h →
    is_told look begin x h ≡ true → is_ended h ≡ false → joint_owner look begin y h ≡ true → joint look begin x h ≡ Held → ⊥
apart_told look begin l x y is other h f t told runs owner held = go (life look begin x h) refl (subst (λ s. Agrees s (life look begin x h) (MakeWaits look x h) (GoingWaits look x h)) held (agrees look begin l h f t x told))
  where
    go : (s : Stage) → life look begin x h ≡ s → Agrees Held (life look begin x h) (MakeWaits look x h) (GoingWaits look x h) → ⊥
    go Coming same a =
        let own : look.is_own x ≡ true = stands_all (look.does x) (look.is_own x ≡ true) (writes_waiting h)
        (all_drop (λ w. look.does x w ≡ Comes → look.is_own x ≡ true) (hears h) (writes h) (all_made_own look begin x h t runs))
        (subst (λ s. Agrees Held s (MakeWaits look x h) (GoingWaits look x h)) same a) in absurd cc
    go Held same a =
        let owns : look.is_own x ≡ owned look begin y h = one_owner look begin l x y is h t runs same in
        let too : joint_owner look begin y h ≡ owned look begin y h = same_owner look begin l y h f t (sym (told_above look begin l x y is h) ∙ told) (above_live look begin l x y is h t runs same) in absurd cc
    go Gone same a = subst (λ s. Agrees Held s (MakeWaits look x h) (GoingWaits look x h)) same a

apart_joint : {X W B : Type 0} (look : Look X W B) (begin : Begin X) → Lawful look begin → (x y : X) → look.above x ≡ Some y → look.is_own x ≡ false → (h : List (Event W B)) → Flows h → Fits look begin h →
    is_ended h ≡ false → (b : Bool) → is_told look begin x h ≡ b → joint_owner look begin y h ≡ true → joint look begin x h ≡ Held → ⊥
apart_joint look begin l x y is other h f t runs true told owner held = apart_told look begin l x y is other h f t told runs owner held
apart_joint look begin l x y is other h f t runs false told owner held = let new : joint look begin x h ≡ Coming = untold look begin l x h f t told runs in absurd cc

handed_apart : {X W B : Type 0} (look : Look X W B) (begin : Begin X) → Lawful look begin → (x y : X) (c : B) (h : List (Event W B)) → Flows h → Fits look begin h → is_ended h ≡ false →
    (owned_behind (look.handed y c) (joint_owner look begin y h) ≡ true → moved (look.tells x c) (joint look begin x h) ≡ Held → ⊥) →
    owned_behind (look.handed y c) (owner_behind (look.handed y) (bundles_waiting h) (owns look begin y h)) ≡ true →
    moved (look.tells x c) (stage_behind (look.tells x) (bundles_waiting h) (stage look begin x h)) ≡ Held → ⊥
handed_apart look begin l x y c h f t runs last owner held =
    last (ap (owned_behind (look.handed y c)) (sym (owns_lead look begin l y h f t runs)) ∙ owner) (ap (moved (look.tells x c)) (sym (leads look begin x h f)) ∙ held)

wrote_apart : {X W B : Type 0} (look : Look X W B) (begin : Begin X) (x y : X) (h : List (Event W B)) → look.is_own x ≡ false → (a b : Effect) (hand : Handing) →
    Acts look begin x h a → Acts look begin y h b → HandsOver b hand → Apart (look.handed y) (look.tells x) (bundles_waiting h) (owns look begin y h) (stage look begin x h) →
    (look.is_own y ≡ true → stage look begin y h ≡ Coming → Apart (look.handed y) (look.tells x) (bundles_waiting h) true (stage look begin x h)) →
    Apart (look.handed y) (look.tells x) (bundles_waiting h) (owned_behind hand (owns look begin y h)) (moved a (stage look begin x h))
wrote_apart look begin x y h other Goes b hand acts above hands before new = apart_gone (look.handed y) (look.tells x) (bundles_waiting h) (owned_behind hand (owns look begin y h))
wrote_apart look begin x y h other Comes b hand acts above hands before new = let own : look.is_own x ≡ true = acts.own in absurd cc
wrote_apart look begin x y h other Stays Stays hand acts above hands before new = rw hands before
wrote_apart look begin x y h other Stays Goes hand acts above hands before new = rw hands before
wrote_apart look begin x y h other Stays Comes hand acts above hands before new = rw hands (new above.own above.new)

apart : {X W B : Type 0} (look : Look X W B) (begin : Begin X) → Lawful look begin → (x y : X) → look.above x ≡ Some y → look.is_own x ≡ false → (h : List (Event W B)) → Flows h → Fits look begin h →
    is_ended h ≡ false → Apart (look.handed y) (look.tells x) (bundles_waiting h) (owns look begin y h) (stage look begin x h)
apart look begin l x y is other [] f t runs = λ o. starts_unheld look begin l x y is (begin.is_told x) refl
apart look begin l x y is other (Writes w ∷ h) f t runs =
    wrote_apart look begin x y h other (look.does x w) (look.does y w) (look.hands y w) (t.0 runs x).acts (t.0 runs y).acts (t.0 runs y).hands (apart look begin l x y is other h f.1 t.1 runs)
    (λ own new. apart_unheld (look.handed y) (look.tells x) (bundles_waiting h) true (stage look begin x h)
    (all_drop (λ d. look.tells x d.content ≡ Comes → ⊥) (takes h) (bundles_sent h) (none_sent look begin l x y is own h f.1 t.1 runs new)) (none_held look begin l x y is own h f.1 t.1 runs new))
apart look begin l x y is other (Sends k u c ∷ h) f t runs =
    subst (λ ds. Apart (look.handed y) (look.tells x) ds (owns look begin y h) (stage look begin x h)) (sym (sent_waits (record { entry = k; epoch = hears h; content = c }) h f.1))
    (apart_push (look.handed y) (look.tells x) (bundles_waiting h) (record { entry = k; epoch = hears h; content = c }) (owns look begin y h) (stage look begin x h) (apart look begin l x y is other h f.1 t.1 runs)
    (handed_apart look begin l x y c h f.1 t.1 runs (apart_joint look begin l x y is other (Sends k u c ∷ h) f t runs (is_told look begin x (Sends k u c ∷ h)) refl)))
apart look begin l x y is other (Reverts k w c ∷ h) f t runs =
    subst (λ ds. Apart (look.handed y) (look.tells x) ds (owns look begin y h) (stage look begin x h)) (sym (sent_waits (record { entry = k; epoch = hears h + 1; content = c }) h f.1))
    (apart_push (look.handed y) (look.tells x) (bundles_waiting h) (record { entry = k; epoch = hears h + 1; content = c }) (owns look begin y h) (stage look begin x h) (apart look begin l x y is other h f.1 t.1 runs)
    (handed_apart look begin l x y c h f.1 t.1 runs (apart_joint look begin l x y is other (Reverts k w c ∷ h) f t runs (is_told look begin x h) refl)))
apart look begin l x y is other (Takes d ∷ h) f t runs =
    subst (λ ds. Apart (look.handed y) (look.tells x) ds (owned_behind (look.handed y d.content) (owns look begin y h)) (moved (look.tells x d.content) (stage look begin x h))) (sym (taken_leaves d h f.0))
    (rest (subst (λ ds. Apart (look.handed y) (look.tells x) ds (owns look begin y h) (stage look begin x h)) f.0.is (apart look begin l x y is other h f.1 t.1 runs)))
  where
    rest : Apart (look.handed y) (look.tells x) (d ∷ f.0.rest) (owns look begin y h) (stage look begin x h) →
        Apart (look.handed y) (look.tells x) f.0.rest (owned_behind (look.handed y d.content) (owns look begin y h)) (moved (look.tells x d.content) (stage look begin x h))
    rest (here, there) = there
apart look begin l x y is other (Ends ∷ h) f t runs = absurd cc
apart look begin l x y is other (_ ∷ h) f t runs = apart look begin l x y is other h f.1 t.1 runs

-- ---- so what is dropped is the process's own

sure : (b : Bool) → (b ≡ false → ⊥) → b ≡ true
sure true no_way = refl
sure false no_way = absurd (no_way refl)

all_drop_own : {X W B : Type 0} (look : Look X W B) (begin : Begin X) → Lawful look begin → (x y : X) → look.above x ≡ Some y → (h : List (Event W B)) → Flows h → Fits look begin h → is_ended h ≡ false →
    AllByRecursion (λ w. look.drops x w ≡ true → look.is_own x ≡ true) (writes h)
all_drop_own look begin l x y is [] f t runs = tt
all_drop_own look begin l x y is (Writes w ∷ h) f t runs =
    all_push (λ w. look.drops x w ≡ true → look.is_own x ≡ true) (writes h) w (all_drop_own look begin l x y is h f.1 t.1 runs)
    (λ drops. sure (look.is_own x) (λ other. apart_now (look.handed y) (look.tells x) (bundles_waiting h) (owns look begin y h) (stage look begin x h)
    (apart look begin l x y is other h f.1 t.1 runs) ((t.0 runs x).drops_below drops y is) ((t.0 runs x).drops drops)))
all_drop_own look begin l x y is (Ends ∷ h) f t runs = absurd cc
all_drop_own look begin l x y is (_ ∷ h) f t runs = all_drop_own look begin l x y is h f.1 t.1 runs

pub may_drop : {X W B : Type 0} (look : Look X W B) (begin : Begin X) (w : W) (h : List (Event W B)) → Keeps look begin h → is_ended h ≡ false → IsFirst w (writes_waiting h) →
    (x y : X) → look.drops x w ≡ true → look.above x ≡ Some y → life look begin x h ≡ Held → owned look begin y h ≡ true
may_drop look begin w h k runs first x y drops is live =
    sym (one_owner look begin k.lawful x y is h k.fits runs live)
    ∙ first_is (λ w. look.drops x w ≡ true → look.is_own x ≡ true) (hears h) (writes h) w first (all_drop_own look begin k.lawful x y is h k.flows k.fits runs) drops
