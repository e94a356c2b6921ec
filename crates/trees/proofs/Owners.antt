-- With both links empty a process owns what the parent says that it owns.
use Rattle.std.proofs.Common.{◌≡◌, ℕ, ◌+◌, ◌⊎◌, inl, inr, Bool, true, false, List, [], ◌∷◌, ◌++◌, drop, refl, ap, sym, subst, ◌∙◌}
use Rattle.std.specs.Prelude.{◌||◌}
use Prim.Native.Nat.{zero, suc}
use Rattle.std.specs.List.{AllByRecursion}
use Rattle.traces.specs.Event.{Bundle, Event}
use Rattle.traces.specs.Event.Event.{Writes, Sends, Takes, Accepts, Reverts, Changes, Ends}
use Rattle.traces.specs.Links.{hears, writes, writes_waiting, takes, bundles_sent, bundles_waiting, is_ended}
use Rattle.traces.specs.Rules.{IsFirst, Flows}
use Rattle.traces.specs.Words.{Stage}
use Rattle.traces.specs.Words.Stage.{Coming, Held}
use Rattle.traces.proofs.Waits.{sent_waits, taken_leaves}
use Rattle.trees.specs.Look.{Effect, moved, Handing, owned_behind, Look, Begin}
use Rattle.trees.specs.Look.Effect.{Stays, Comes, Goes}
use Rattle.trees.specs.Look.Handing.{Same, Given, Taken}
use Rattle.trees.specs.Words.{is_told, stage, life, is_held, Stands}
use Rattle.trees.specs.Children.{owned, owns, owner_behind}
use Rattle.trees.specs.Rules.{Lawful, Acts, HandsOver, Handed, told_owner, Fits, Keeps}
use Rattle.trees.proofs.Effects.{new_before, held_is, live_unbrought}
use Rattle.trees.proofs.Above.{unmade}
use Rattle.trees.proofs.Agrees.{told_runs, existence}
use Rattle.trees.proofs.Lists.{all_drop, all_push, first_is}

pub owner_push : {B : Type 0} (handed : B → Handing) (ds : List (Bundle B)) (d : Bundle B) (b : Bool) → owner_behind handed (ds ++ d ∷ []) b ≡ owned_behind (handed d.content) (owner_behind handed ds b)
owner_push handed [] d b = refl
owner_push handed (e ∷ ds) d b = owner_push handed ds d (owned_behind (handed e.content) b)

owner_same : {B : Type 0} (handed : B → Handing) (ds : List (Bundle B)) (b : Bool) → AllByRecursion (λ d. handed d.content ≡ Same) ds → owner_behind handed ds b ≡ b
owner_same handed [] b a = refl
owner_same handed (d ∷ ds) b a = ap (λ q. owner_behind handed ds (owned_behind q b)) a.0 ∙ owner_same handed ds b a.1

-- who owns it behind all that the process did and was sent
abbrev pub joint_owner : {X W B : Type 0} → Look X W B → Begin X → X → List (Event W B) → Bool
joint_owner look begin y [] = begin.owned y
joint_owner look begin y (Writes w ∷ h) = owned_behind (look.hands y w) (joint_owner look begin y h)
joint_owner look begin y (Sends k u c ∷ h) = owned_behind (look.handed y c) (joint_owner look begin y h)
joint_owner look begin y (Reverts k w c ∷ h) = owned_behind (look.handed y c) (joint_owner look begin y h)
joint_owner look begin y (_ ∷ h) = joint_owner look begin y h

-- an own context that isn't made was never handed over
pub unhanded_sent : {X W B : Type 0} (look : Look X W B) (begin : Begin X) → Lawful look begin → (y : X) → look.is_own y ≡ true → (h : List (Event W B)) → Flows h → Fits look begin h → is_ended h ≡ false →
    stage look begin y h ≡ Coming → AllByRecursion (λ d. look.handed y d.content ≡ Same) (bundles_sent h)
unhanded_sent look begin l y own [] f t runs new = tt
unhanded_sent look begin l y own (Writes w ∷ h) f t runs new = unhanded_sent look begin l y own h f.1 t.1 runs (new_before (look.does y w) (stage look begin y h) new)
unhanded_sent look begin l y own (Takes d ∷ h) f t runs new = unhanded_sent look begin l y own h f.1 t.1 runs (new_before (look.tells y d.content) (stage look begin y h) new)
unhanded_sent look begin l y own (Sends k u c ∷ h) f t runs new =
    all_push (λ d. look.handed y d.content ≡ Same) (bundles_sent h) (record { entry = k; epoch = hears h; content = c }) (unhanded_sent look begin l y own h f.1 t.1 runs new)
    (not_handed (look.handed y c ≡ Same) (life look begin y (Sends k u c ∷ h) ≡ Held) (t.0 runs y).only_live (unmade look begin l y own (Sends k u c ∷ h) f t runs new))
  where
    not_handed : (S L : Type 0) → S ⊎ L → (L → ⊥) → S
    not_handed S L (inl same) dead = same
    not_handed S L (inr live) dead = absurd (dead live)
unhanded_sent look begin l y own (Reverts k w c ∷ h) f t runs new =
    all_push (λ d. look.handed y d.content ≡ Same) (bundles_sent h) (record { entry = k; epoch = hears h + 1; content = c }) (unhanded_sent look begin l y own h f.1 t.1 runs new) (t.0 runs y).hands_none
unhanded_sent look begin l y own (Ends ∷ h) f t runs new = absurd cc
unhanded_sent look begin l y own (_ ∷ h) f t runs new = unhanded_sent look begin l y own h f.1 t.1 runs new

-- what waits leads from the owner in the process to the joint one
pub owns_lead : {X W B : Type 0} (look : Look X W B) (begin : Begin X) → Lawful look begin → (y : X) (h : List (Event W B)) → Flows h → Fits look begin h → is_ended h ≡ false →
    owner_behind (look.handed y) (bundles_waiting h) (owns look begin y h) ≡ joint_owner look begin y h
owns_lead look begin l y [] f t runs = refl
owns_lead look begin l y (Writes w ∷ h) f t runs = wrote (look.does y w) (look.hands y w) (t.0 runs y).acts (t.0 runs y).hands (owns_lead look begin l y h f.1 t.1 runs)
    (λ own new. all_drop (λ d. look.handed y d.content ≡ Same) (takes h) (bundles_sent h) (unhanded_sent look begin l y own h f.1 t.1 runs new))
  where
    wrote : (a : Effect) (b : Handing) → Acts look begin y h a → HandsOver a b → owner_behind (look.handed y) (bundles_waiting h) (owns look begin y h) ≡ joint_owner look begin y h →
        (look.is_own y ≡ true → stage look begin y h ≡ Coming → AllByRecursion (λ d. look.handed y d.content ≡ Same) (bundles_waiting h)) →
        owner_behind (look.handed y) (bundles_waiting h) (owned_behind b (owns look begin y h)) ≡ owned_behind b (joint_owner look begin y h)
    wrote Stays b acts hands before same = rw hands before
    wrote Goes b acts hands before same = rw hands before
    wrote Comes b acts hands before same = rw hands (owner_same (look.handed y) (bundles_waiting h) true (same acts.own acts.new))
owns_lead look begin l y (Sends k u c ∷ h) f t runs =
    ap (λ ds. owner_behind (look.handed y) ds (owns look begin y h)) (sent_waits (record { entry = k; epoch = hears h; content = c }) h f.1)
    ∙ owner_push (look.handed y) (bundles_waiting h) (record { entry = k; epoch = hears h; content = c }) (owns look begin y h) ∙ ap (owned_behind (look.handed y c)) (owns_lead look begin l y h f.1 t.1 runs)
owns_lead look begin l y (Reverts k w c ∷ h) f t runs =
    ap (λ ds. owner_behind (look.handed y) ds (owns look begin y h)) (sent_waits (record { entry = k; epoch = hears h + 1; content = c }) h f.1)
    ∙ owner_push (look.handed y) (bundles_waiting h) (record { entry = k; epoch = hears h + 1; content = c }) (owns look begin y h) ∙ ap (owned_behind (look.handed y c)) (owns_lead look begin l y h f.1 t.1 runs)
owns_lead look begin l y (Takes d ∷ h) f t runs =
    ap (λ ds. owner_behind (look.handed y) ds (owned_behind (look.handed y d.content) (owns look begin y h))) (taken_leaves d h f.0)
    ∙ sym (ap (λ ds. owner_behind (look.handed y) ds (owns look begin y h)) f.0.is) ∙ owns_lead look begin l y h f.1 t.1 runs
owns_lead look begin l y (Ends ∷ h) f t runs = absurd cc
owns_lead look begin l y (_ ∷ h) f t runs = owns_lead look begin l y h f.1 t.1 runs

-- ---- a context that the process made is its own until the parent hears of it

stands_apart : {W : Type 0} (does : W → Effect) (e : Effect) (ws : List W) (w : W) → Stands does e (ws ++ w ∷ []) → Stands does e ws ⊎ (does w ≡ e)
stands_apart does e [] w (inl is) = inr is
stands_apart does e [] w (inr s) = absurd s
stands_apart does e (v ∷ ws) w (inl is) = inl (inl is)
stands_apart does e (v ∷ ws) w (inr s) = go (stands_apart does e ws w s)
  where
    go : Stands does e ws ⊎ (does w ≡ e) → Stands does e (v ∷ ws) ⊎ (does w ≡ e)
    go (inl s) = inl (inr s)
    go (inr is) = inr is

still_owned : (a : Effect) (b : Handing) (owned : Bool) → HandsOver a b → owned ≡ true → owned_behind b owned ≡ true
still_owned Stays b owned hands e = rw hands e
still_owned Comes b owned hands e = rw hands refl
still_owned Goes b owned hands e = rw hands e

made_owned : {X W B : Type 0} (look : Look X W B) (begin : Begin X) → (y : X) (h : List (Event W B)) → Fits look begin h → is_ended h ≡ false →
    Stands (look.does y) Comes (writes h) → life look begin y h ≡ Coming → joint_owner look begin y h ≡ true
made_owned look begin y [] t runs s new = absurd s
made_owned look begin y (Writes w ∷ h) t runs s new = wrote (stands_apart (look.does y) Comes (writes h) w s) (λ before. made_owned look begin y h t.1 runs before new) (t.0 runs y).hands
  where
    by_making : (a : Effect) (b : Handing) → HandsOver a b → a ≡ Comes → owned_behind b (joint_owner look begin y h) ≡ true
    by_making Stays b hands e = absurd cc
    by_making Comes b hands e = rw hands refl
    by_making Goes b hands e = absurd cc

    wrote : Stands (look.does y) Comes (writes h) ⊎ (look.does y w ≡ Comes) → (Stands (look.does y) Comes (writes h) → joint_owner look begin y h ≡ true) →
        HandsOver (look.does y w) (look.hands y w) → owned_behind (look.hands y w) (joint_owner look begin y h) ≡ true
    wrote (inl s) before hands = still_owned (look.does y w) (look.hands y w) (joint_owner look begin y h) hands (before s)
    wrote (inr is) before hands = by_making (look.does y w) (look.hands y w) hands is
made_owned look begin y (Sends k u c ∷ h) t runs s new =
    unhanded (t.0 runs y).only_live (made_owned look begin y h t.1 runs s (new_before (look.does y u) (life look begin y h) new))
  where
    unhanded : (look.handed y c ≡ Same) ⊎ (life look begin y (Sends k u c ∷ h) ≡ Held) → joint_owner look begin y h ≡ true → owned_behind (look.handed y c) (joint_owner look begin y h) ≡ true
    unhanded (inl same) before = rw same before
    unhanded (inr live) before = absurd cc
made_owned look begin y (Reverts k w c ∷ h) t runs s new =
    ap (λ q. owned_behind q (joint_owner look begin y h)) (t.0 runs y).hands_none ∙ made_owned look begin y h t.1 runs s (new_before (look.tells y c) (life look begin y h) new)
made_owned look begin y (Accepts k w ∷ h) t runs s new = made_owned look begin y h t.1 runs s (new_before (look.does y w) (life look begin y h) new)
made_owned look begin y (Changes k u ∷ h) t runs s new = made_owned look begin y h t.1 runs s (new_before (look.does y u) (life look begin y h) new)
made_owned look begin y (Ends ∷ h) t runs s new = absurd cc
made_owned look begin y (_ ∷ h) t runs s new = made_owned look begin y h t.1 runs s new

-- ---- the joint owner is the parent's, of what is live

all_hand : {X W B : Type 0} (look : Look X W B) (begin : Begin X) (y : X) (h : List (Event W B)) → Fits look begin h → is_ended h ≡ false → AllByRecursion (λ w. HandsOver (look.does y w) (look.hands y w)) (writes h)
all_hand look begin y [] t runs = tt
all_hand look begin y (Writes w ∷ h) t runs = all_push (λ w. HandsOver (look.does y w) (look.hands y w)) (writes h) w (all_hand look begin y h t.1 runs) (t.0 runs y).hands
all_hand look begin y (Ends ∷ h) t runs = absurd cc
all_hand look begin y (_ ∷ h) t runs = all_hand look begin y h t.1 runs

stands_drop : {W : Type 0} (does : W → Effect) (e : Effect) (n : ℕ) (ws : List W) → Stands does e (drop n ws) → Stands does e ws
stands_drop does e zero ws s = s
stands_drop does e (suc n) [] s = s
stands_drop does e (suc n) (w ∷ ws) s = inr (stands_drop does e n ws s)

first_stands : {W B : Type 0} (does : W → Effect) (e : Effect) (w : W) (h : List (Event W B)) → IsFirst w (writes_waiting h) → does w ≡ e → Stands does e (writes h)
first_stands does e w h first is = stands_drop does e (hears h) (writes h) (subst (λ ws. Stands does e ws) (sym first.is) (inl is))

-- what is live behind an effect that doesn't make it was so
live_unmade : (a : Effect) (s : Stage) → (a ≡ Comes → ⊥) → moved a s ≡ Held → s ≡ Held
live_unmade Stays s other e = e
live_unmade Comes s other e = absurd (other refl)
live_unmade Goes s other e = absurd cc

pub made_now : (b : Handing) (p q : Bool) → (b ≡ Same → ⊥) → owned_behind b p ≡ owned_behind b q
made_now Same p q has = absurd (has refl)
made_now Given p q has = refl
made_now Taken p q has = refl

owner_told : (o p : Bool) → owned_behind (told_owner o) p ≡ o
owner_told true p = refl
owner_told false p = refl

-- a bundle is sent: of what is live behind it, the joint owner is the parent's
handed_on : (told_before registers : Bool) → (registers || told_before) ≡ true → (a : Effect) (s : Stage) (did told : Handing) (p q : Bool) → moved a s ≡ Held →
    Handed told_before registers did told (owned_behind did q) → (a ≡ Comes → did ≡ Same → ⊥) → (told_before ≡ true → s ≡ Held → p ≡ q) →
    owned_behind told p ≡ owned_behind did q
handed_on true registers e Stays s did told p q live handed has before = ap (λ t. owned_behind t p) handed ∙ ap (owned_behind did) (before refl live)
handed_on true registers e Comes s did told p q live handed has before = ap (λ t. owned_behind t p) handed ∙ made_now did p q (has refl)
handed_on true registers e Goes s did told p q live handed has before = absurd cc
handed_on false true e a s did told p q live handed has before = ap (λ t. owned_behind t p) handed ∙ owner_told (owned_behind did q) p
handed_on false false e a s did told p q live handed has before = absurd cc

accepted_owner : (a : Effect) (s : Stage) (b : Handing) (p q : Bool) → moved a s ≡ Held → HandsOver a b → (a ≡ Comes → p ≡ true) → (s ≡ Held → p ≡ q) → p ≡ owned_behind b q
accepted_owner Stays s b p q live hands made before = rw hands (before live)
accepted_owner Comes s b p q live hands made before = rw hands (made refl)
accepted_owner Goes s b p q live hands made before = absurd cc

pub same_owner : {X W B : Type 0} (look : Look X W B) (begin : Begin X) → Lawful look begin → (y : X) (h : List (Event W B)) → Flows h → Fits look begin h → is_told look begin y h ≡ true →
    life look begin y h ≡ Held → joint_owner look begin y h ≡ owned look begin y h
same_owner look begin l y [] f t e live = refl
same_owner look begin l y (Writes w ∷ h) f t e live = wrote (look.does y w) (look.hands y w) (t.0 (told_runs look begin y h f.1 e) y).acts (t.0 (told_runs look begin y h f.1 e) y).hands (same_owner look begin l y h f.1 t.1 e live)
  where
    wrote : (a : Effect) (b : Handing) → Acts look begin y h a → HandsOver a b → joint_owner look begin y h ≡ owned look begin y h → owned_behind b (joint_owner look begin y h) ≡ owned look begin y h
    wrote Stays b acts hands before = rw hands before
    wrote Goes b acts hands before = rw hands before
    wrote Comes b acts hands before = absurd (unmade look begin l y acts.own h f.1 t.1 (told_runs look begin y h f.1 e) acts.new live)
same_owner look begin l y (Sends k u c ∷ h) f t e live =
    handed_on (is_told look begin y h) (look.registers y c) e (look.does y u) (life look begin y h) (look.hands y u) (look.handed y c) (joint_owner look begin y h) (owned look begin y h) live
    ((t.0 f.0 y).handed live) (t.0 f.0 y).done.owned (same_owner look begin l y h f.1 t.1)
same_owner look begin l y (Accepts k w ∷ h) f t e live =
    let runs : is_ended h ≡ false = told_runs look begin y h f.1 e in
    accepted_owner (look.does y w) (life look begin y h) (look.hands y w) (joint_owner look begin y h) (owned look begin y h) live
    (first_is (λ w. HandsOver (look.does y w) (look.hands y w)) (hears h) (writes h) w f.0 (all_hand look begin y h t.1 runs))
    (λ comes. made_owned look begin y h t.1 runs (first_stands (look.does y) Comes w h f.0 comes) ((t.0 runs y).new comes)) (same_owner look begin l y h f.1 t.1 e)
same_owner look begin l y (Reverts k w c ∷ h) f t e live =
    let runs : is_ended h ≡ false = told_runs look begin y h f.1 e in
    ap (λ q. owned_behind q (joint_owner look begin y h)) (t.0 runs y).hands_none
    ∙ same_owner look begin l y h f.1 t.1 e (live_unbrought (look.does y w) (look.tells y c) (life look begin y h) (t.0 runs y).returned live)
same_owner look begin l y (Changes k u ∷ h) f t e live =
    let runs : is_ended h ≡ false = told_runs look begin y h f.1 e in
    same_owner look begin l y h f.1 t.1 e (subst (λ a. moved a (life look begin y h) ≡ Held) ((t.0 runs y).untold e) live)
    ∙ sym (ap (λ q. owned_behind q (owned look begin y h)) ((t.0 runs y).hands_none e live))
same_owner look begin l y (Ends ∷ h) f t e live = absurd cc
same_owner look begin l y (_ ∷ h) f t e live = same_owner look begin l y h f.1 t.1 e live

pub owners : {X W B : Type 0} (look : Look X W B) (begin : Begin X) (h : List (Event W B)) → Keeps look begin h → writes_waiting h ≡ [] → bundles_waiting h ≡ [] →
    (x : X) → is_told look begin x h ≡ true → is_held (stage look begin x h) ≡ true → owns look begin x h ≡ owned look begin x h
owners look begin h k ups downs x e held =
    sym (ap (λ ds. owner_behind (look.handed x) ds (owns look begin x h)) downs) ∙ owns_lead look begin k.lawful x h k.flows k.fits (told_runs look begin x h k.flows e)
    ∙ same_owner look begin k.lawful x h k.flows k.fits e (held_is (life look begin x h) (sym (existence look begin h k ups downs x e) ∙ held))
