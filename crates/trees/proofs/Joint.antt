-- What waits leads from the stage of a context in the process to the joint one, in which each own bundle is done.
use Rattle.std.proofs.Common.{◌≡◌, ℕ, ◌+◌, Bool, true, false, List, [], ◌∷◌, ◌++◌, drop, refl, ap, sym, subst, ◌∙◌}
use Prim.Native.Nat.{zero, suc}
use Rattle.std.specs.Prelude.{◌||◌}
use Rattle.traces.specs.Event.{Bundle, Event}
use Rattle.traces.specs.Event.Event.{Writes, Sends, Takes, Reverts, Ends}
use Rattle.traces.specs.Links.{writes, hears, writes_waiting, bundles_waiting, is_ended}
use Rattle.traces.specs.Rules.{IsFirst, Flows}
use Rattle.traces.specs.Words.{Stage}
use Rattle.traces.specs.Words.Stage.{Coming}
use Rattle.traces.proofs.Waits.{sent_waits, taken_leaves}
use Rattle.trees.specs.Look.{Effect, moved, Look, Begin}
use Rattle.trees.specs.Look.Effect.{Stays, Comes, Goes}
use Rattle.trees.specs.Words.{is_told, stage, life, joint}
use Rattle.trees.specs.Rules.{Lawful, Acts, Told, Fits}
use Rattle.trees.proofs.Effects.{either_way, again, still, new_before, false_right}

-- the stage behind these bundles
abbrev pub stage_behind : {B : Type 0} → (B → Effect) → List (Bundle B) → Stage → Stage
stage_behind tells [] s = s
stage_behind tells (d ∷ ds) s = stage_behind tells ds (moved (tells d.content) s)

pub behind_push : {B : Type 0} (tells : B → Effect) (ds : List (Bundle B)) (d : Bundle B) (s : Stage) → stage_behind tells (ds ++ d ∷ []) s ≡ moved (tells d.content) (stage_behind tells ds s)
behind_push tells [] d s = refl
behind_push tells (x ∷ ds) d s = behind_push tells ds d (moved (tells x.content) s)

behind_moved : {B : Type 0} (tells : B → Effect) (ds : List (Bundle B)) (a : Effect) (s : Stage) → stage_behind tells ds (moved a s) ≡ moved a (stage_behind tells ds s)
behind_moved tells [] a s = refl
behind_moved tells (x ∷ ds) a s = ap (stage_behind tells ds) (either_way (tells x.content) a s) ∙ behind_moved tells ds a (moved (tells x.content) s)

pub leads : {X W B : Type 0} (look : Look X W B) (begin : Begin X) (x : X) (h : List (Event W B)) → Flows h →
    stage_behind (look.tells x) (bundles_waiting h) (stage look begin x h) ≡ joint look begin x h
leads look begin x [] f = refl
leads look begin x (Writes w ∷ h) f = behind_moved (look.tells x) (bundles_waiting h) (look.does x w) (stage look begin x h) ∙ ap (moved (look.does x w)) (leads look begin x h f.1)
leads look begin x (Sends k u c ∷ h) f =
    ap (λ ds. stage_behind (look.tells x) ds (stage look begin x h)) (sent_waits (record { entry = k; epoch = hears h; content = c }) h f.1)
    ∙ behind_push (look.tells x) (bundles_waiting h) (record { entry = k; epoch = hears h; content = c }) (stage look begin x h) ∙ ap (moved (look.tells x c)) (leads look begin x h f.1)
leads look begin x (Reverts k w c ∷ h) f =
    ap (λ ds. stage_behind (look.tells x) ds (stage look begin x h)) (sent_waits (record { entry = k; epoch = hears h + 1; content = c }) h f.1)
    ∙ behind_push (look.tells x) (bundles_waiting h) (record { entry = k; epoch = hears h + 1; content = c }) (stage look begin x h) ∙ ap (moved (look.tells x c)) (leads look begin x h f.1)
leads look begin x (Takes d ∷ h) f =
    ap (λ ds. stage_behind (look.tells x) ds (moved (look.tells x d.content) (stage look begin x h))) (taken_leaves d h f.0)
    ∙ sym (ap (λ ds. stage_behind (look.tells x) ds (stage look begin x h)) f.0.is) ∙ leads look begin x h f.1
leads look begin x (_ ∷ h) f = leads look begin x h f.1

-- what waits never makes new what isn't
pub behind_new : {B : Type 0} (tells : B → Effect) (ds : List (Bundle B)) (s : Stage) → stage_behind tells ds s ≡ Coming → s ≡ Coming
behind_new tells [] s e = e
behind_new tells (d ∷ ds) s e = new_before (tells d.content) s (behind_new tells ds (moved (tells d.content) s) e)

-- each of these did what it does
abbrev pub AllDid : {W : Type 0} → (W → Effect) → List W → Stage → Type 0
AllDid does [] s = Unit {0}
AllDid does (w ∷ ws) s = (moved (does w) s ≡ s) × AllDid does ws s

did_still : {W : Type 0} (does : W → Effect) (ws : List W) (a : Effect) (s : Stage) → AllDid does ws s → AllDid does ws (moved a s)
did_still does [] a s d = d
did_still does (w ∷ ws) a s d = (still (does w) a s d.0, did_still does ws a s d.1)

did_push : {W : Type 0} (does : W → Effect) (ws : List W) (w : W) (s : Stage) → AllDid does ws s → AllDid does (ws ++ w ∷ []) (moved (does w) s)
did_push does [] w s d = (again (does w) s, tt)
did_push does (v ∷ ws) w s d = (still (does v) (does w) s d.0, did_push does ws w s d.1)

did_drop : {W : Type 0} (does : W → Effect) (n : ℕ) (ws : List W) (s : Stage) → AllDid does ws s → AllDid does (drop n ws) s
did_drop does zero ws s d = d
did_drop does (suc n) [] s d = d
did_drop does (suc n) (w ∷ ws) s d = did_drop does n ws s d.1

pub joint_did : {X W B : Type 0} (look : Look X W B) (begin : Begin X) (x : X) (h : List (Event W B)) → AllDid (look.does x) (writes h) (joint look begin x h)
joint_did look begin x [] = tt
joint_did look begin x (Writes w ∷ h) = did_push (look.does x) (writes h) w (joint look begin x h) (joint_did look begin x h)
joint_did look begin x (Sends k u c ∷ h) = did_still (look.does x) (writes h) (look.tells x c) (joint look begin x h) (joint_did look begin x h)
joint_did look begin x (Reverts k w c ∷ h) = did_still (look.does x) (writes h) (look.tells x c) (joint look begin x h) (joint_did look begin x h)
joint_did look begin x (_ ∷ h) = joint_did look begin x h

pub stage_did : {X W B : Type 0} (look : Look X W B) (begin : Begin X) (x : X) (h : List (Event W B)) → AllDid (look.does x) (writes h) (stage look begin x h)
stage_did look begin x [] = tt
stage_did look begin x (Writes w ∷ h) = did_push (look.does x) (writes h) w (stage look begin x h) (stage_did look begin x h)
stage_did look begin x (Takes d ∷ h) = did_still (look.does x) (writes h) (look.tells x d.content) (stage look begin x h) (stage_did look begin x h)
stage_did look begin x (_ ∷ h) = stage_did look begin x h

-- the write that waits first did what it does
pub first_did : {W B : Type 0} (does : W → Effect) (w : W) (h : List (Event W B)) (s : Stage) → IsFirst w (writes_waiting h) → AllDid does (writes h) s → moved (does w) s ≡ s
first_did does w h s f d = go (subst (λ ws. AllDid does ws s) f.is (did_drop does (hears h) (writes h) s d))
  where
    go : AllDid does (w ∷ f.rest) s → moved (does w) s ≡ s
    go (is, rest) = is

pub told_nothing : (registers told_before : Bool) (did told : Effect) (l : Stage) → (registers || told_before) ≡ false → Told told_before registers did told l → told ≡ Stays
told_nothing true b did told l e t = absurd cc
told_nothing false true did told l e t = absurd cc
told_nothing false false did told l e t = t

acts_nothing : {X W B : Type 0} (look : Look X W B) (begin : Begin X) (x : X) (h : List (Event W B)) (a : Effect) → is_told look begin x h ≡ false → Acts look begin x h a → a ≡ Stays
acts_nothing look begin x h Stays e i = refl
acts_nothing look begin x h Comes e i = let told : is_told look begin x h ≡ true = i.told in absurd cc
acts_nothing look begin x h Goes e i = absurd cc

-- who isn't told of the group has done and was sent nothing of it
pub untold : {X W B : Type 0} (look : Look X W B) (begin : Begin X) → Lawful look begin → (x : X) (h : List (Event W B)) → Flows h → Fits look begin h →
    is_told look begin x h ≡ false → is_ended h ≡ false → joint look begin x h ≡ Coming
untold look begin l x [] f t e runs = l.has_nothing x e
untold look begin l x (Writes w ∷ h) f t e runs = rw (acts_nothing look begin x h (look.does x w) e (t.0 runs x).acts) (untold look begin l x h f.1 t.1 e runs)
untold look begin l x (Sends k u c ∷ h) f t e runs =
    let was : is_told look begin x h ≡ false = false_right (look.registers x c) (is_told look begin x h) e in
    rw (told_nothing (look.registers x c) (is_told look begin x h) (look.does x u) (look.tells x c) (life look begin x h) e (t.0 f.0 x).told) (untold look begin l x h f.1 t.1 was f.0)
untold look begin l x (Reverts k w c ∷ h) f t e runs = rw ((t.0 runs x).untold e) (untold look begin l x h f.1 t.1 e runs)
untold look begin l x (Ends ∷ h) f t e runs = absurd cc
untold look begin l x (_ ∷ h) f t e runs = untold look begin l x h f.1 t.1 e runs
