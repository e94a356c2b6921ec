-- A coming that waits: where the process hasn't the context yet, it has the one above by then, and where it
-- dropped it unseen, it hasn't.
use Rattle.std.proofs.Common.{◌≡◌, ℕ, ◌+◌, ◌⊎◌, inl, inr, Bool, true, false, Option, None, Some, List, [], ◌∷◌, ◌++◌, refl, ap, sym, subst, ◌∙◌}
use Rattle.std.specs.Prelude.{◌||◌}
use Rattle.std.specs.List.{AllByRecursion}
use Rattle.traces.specs.Event.{Bundle, Event}
use Rattle.traces.specs.Event.Event.{Writes, Sends, Takes, Accepts, Reverts, Ignores, Changes, Ends}
use Rattle.traces.specs.Links.{hears, takes, bundles_sent, bundles_waiting, is_ended}
use Rattle.traces.specs.Rules.{IsFirst, Flows}
use Rattle.traces.specs.Words.{Stage}
use Rattle.traces.specs.Words.Stage.{Coming, Held, Gone}
use Rattle.traces.proofs.Waits.{sent_waits, taken_leaves}
use Rattle.trees.specs.Laws.{GoingWaits}
use Rattle.trees.specs.Look.{Effect, moved, Look, Begin}
use Rattle.trees.specs.Look.Effect.{Stays, Comes, Goes}
use Rattle.trees.specs.Words.{is_told, stage, life, joint, is_held, is_known}
use Rattle.trees.specs.Rules.{Lawful, Above, Acts, Told, told_whole, Returned, Ignored, Fits, Keeps}
use Rattle.trees.proofs.Effects.{new_before, live_before, gone_before, gone_behind}
use Rattle.trees.proofs.Joint.{stage_behind, leads, behind_new, untold}
use Rattle.trees.proofs.Above.{joint_below, starts_alive}
use Rattle.trees.proofs.Agrees.{Agrees, MakeWaits, agrees, told_above}
use Rattle.trees.proofs.Lists.{all_drop, all_push}
use Rattle.trees.proofs.Knowing.{none_comes_back}
use Rattle.trees.proofs.Dropping.{above_live, sent_live, none_sent}

-- whichever of these waits and brings the lower context, where it is in stage l and the upper one in stage u
abbrev pub BelowHeld : {B : Type 0} → (B → Effect) → (B → Effect) → Stage → Stage → List (Bundle B) → Type 0
BelowHeld lower upper l u [] = Unit {0}
BelowHeld lower upper l u (d ∷ ds) =
    (lower d.content ≡ Comes → (l ≡ Coming → moved (upper d.content) u ≡ Held) × (l ≡ Gone → moved (upper d.content) u ≡ Held → ⊥))
    × BelowHeld lower upper (moved (lower d.content) l) (moved (upper d.content) u) ds

-- none of these brings it
abbrev pub NoneComes : {B : Type 0} → (B → Effect) → List (Bundle B) → Type 0
NoneComes lower ds = AllByRecursion (λ d. lower d.content ≡ Comes → ⊥) ds

-- none of these does anything to it
abbrev pub AllStay : {B : Type 0} → (B → Effect) → List (Bundle B) → Type 0
AllStay lower ds = AllByRecursion (λ d. lower d.content ≡ Stays) ds

-- behind one that brings or takes it none brings it
abbrev pub OnceMoved : {B : Type 0} → (B → Effect) → List (Bundle B) → Type 0
OnceMoved lower [] = Unit {0}
OnceMoved lower (d ∷ ds) = ((lower d.content ≡ Stays → ⊥) → NoneComes lower ds) × OnceMoved lower ds

-- ---- lists

below_none : {B : Type 0} (lower upper : B → Effect) (l u : Stage) (ds : List (Bundle B)) → NoneComes lower ds → BelowHeld lower upper l u ds
below_none lower upper l u [] none = tt
below_none lower upper l u (d ∷ ds) none = ((λ e. absurd (none.0 e)), below_none lower upper (moved (lower d.content) l) (moved (upper d.content) u) ds none.1)

gone_stays : (a : Effect) → moved a Gone ≡ Gone
gone_stays Stays = refl
gone_stays Comes = refl
gone_stays Goes = refl

below_gone : {B : Type 0} (lower upper : B → Effect) (ds : List (Bundle B)) → BelowHeld lower upper Gone Gone ds
below_gone lower upper [] = tt
below_gone lower upper (d ∷ ds) = (
  (λ e. ((λ new. absurd cc), (λ gone held. let no_way : Gone ≡ Held = sym (gone_stays (upper d.content)) ∙ held in absurd cc))),
  subst (λ u. BelowHeld lower upper (moved (lower d.content) Gone) u ds) (sym (gone_stays (upper d.content))) (subst (λ l. BelowHeld lower upper l Gone ds) (sym (gone_stays (lower d.content))) (below_gone lower upper ds)),
)

below_push : {B : Type 0} (lower upper : B → Effect) (l u : Stage) (ds : List (Bundle B)) (d : Bundle B) → BelowHeld lower upper l u ds
    → (lower d.content ≡ Comes → (stage_behind lower ds l ≡ Coming → moved (upper d.content) (stage_behind upper ds u) ≡ Held) × (stage_behind lower ds l ≡ Gone → moved (upper d.content) (stage_behind upper ds u) ≡ Held → ⊥))
    → BelowHeld lower upper l u (ds ++ d ∷ [])
below_push lower upper l u [] d b last = (last, tt)
below_push lower upper l u (e ∷ ds) d b last = (b.0, below_push lower upper (moved (lower e.content) l) (moved (upper e.content) u) ds d b.1 last)

none_of_still : {B : Type 0} (lower : B → Effect) (ds : List (Bundle B)) → AllStay lower ds → NoneComes lower ds
none_of_still lower [] still = tt
none_of_still lower (d ∷ ds) still = ((λ e. let two : Stays ≡ Comes = sym still.0 ∙ e in absurd cc), none_of_still lower ds still.1)

once_push : {B : Type 0} (lower : B → Effect) (ds : List (Bundle B)) (d : Bundle B) → (lower d.content ≡ Comes → AllStay lower ds) → OnceMoved lower ds → OnceMoved lower (ds ++ d ∷ [])
once_push lower [] d still once = ((λ e. tt), tt)
once_push lower (e ∷ ds) d still once = (
  (λ moves. all_push (λ d. lower d.content ≡ Comes → ⊥) ds d (once.0 moves) (λ comes. moves (still comes).0)),
  once_push lower ds d (λ comes. (still comes).1) once.1,
)

-- what leads from new to new does nothing
still_lead : {B : Type 0} (lower : B → Effect) (ds : List (Bundle B)) (s : Stage) → stage_behind lower ds s ≡ Coming → AllStay lower ds
still_lead lower [] s e = tt
still_lead lower (d ∷ ds) s e = (stays (lower d.content) s (new_first ds (moved (lower d.content) s) e), still_lead lower ds (moved (lower d.content) s) e)
  where
    new_first : (ds : List (Bundle _)) (s : Stage) → stage_behind lower ds s ≡ Coming → s ≡ Coming
    new_first [] s e = e
    new_first (d ∷ ds) s e = new_before (lower d.content) s (new_first ds (moved (lower d.content) s) e)

    stays : (a : Effect) (s : Stage) → moved a s ≡ Coming → a ≡ Stays
    stays Stays s e = refl
    stays Comes Coming e = absurd cc
    stays Comes Held e = absurd cc
    stays Comes Gone e = absurd cc
    stays Goes s e = absurd cc

-- what does nothing leads nowhere
still_same : {B : Type 0} (lower : B → Effect) (ds : List (Bundle B)) (s : Stage) → AllStay lower ds → stage_behind lower ds s ≡ s
still_same lower [] s still = refl
still_same lower (d ∷ ds) s still = ap (λ a. stage_behind lower ds (moved a s)) still.0 ∙ still_same lower ds s still.1

pub gone_lead : {B : Type 0} (upper : B → Effect) (ds : List (Bundle B)) → stage_behind upper ds Gone ≡ Gone
gone_lead upper [] = refl
gone_lead upper (d ∷ ds) = ap (stage_behind upper ds) (gone_stays (upper d.content)) ∙ gone_lead upper ds

-- ---- a context of another

stays_only : (a : Effect) (s : Stage) → moved a s ≡ Coming → a ≡ Stays
stays_only Stays s e = refl
stays_only Comes Coming e = absurd cc
stays_only Comes Held e = absurd cc
stays_only Comes Gone e = absurd cc
stays_only Goes s e = absurd cc

-- of what stays new nothing is told
told_still : (told_before registers : Bool) (did told : Effect) (l : Stage) → Told told_before registers did told l → moved did l ≡ Coming → told ≡ Stays
told_still true registers did told l t new = t ∙ stays_only did l new
told_still false true did told l t new = t ∙ ap told_whole new
told_still false false did told l t new = t

-- what is told as coming is new, or the process begins to be told
told_new : (told_before registers : Bool) (did told : Effect) (l : Stage) → Told told_before registers did told l → (did ≡ Comes → l ≡ Coming) → told ≡ Comes → (told_before ≡ true → l ≡ Coming) × ((registers || told_before) ≡ true)
told_new true true did told l t new comes = ((λ e. new (sym t ∙ comes)), refl)
told_new true false did told l t new comes = ((λ e. new (sym t ∙ comes)), refl)
told_new false true did told l t new comes = ((λ e. absurd cc), refl)
told_new false false did told l t new comes = let two : Stays ≡ Comes = sym t ∙ comes in absurd cc

not_own : (b : Bool) → b ≡ false → b ≡ true → ⊥
not_own b no_way is = absurd cc

module _ {X W B : Type 0} (look : Look X W B) (begin : Begin X) (l : Lawful look begin) (x : X) where
  -- of what the parent doesn't know it told nothing
  still_sent : (h : List (Event W B)) → Fits look begin h → is_ended h ≡ false → life look begin x h ≡ Coming → AllStay (look.tells x) (bundles_sent h)
  still_sent [] t runs new = tt
  still_sent (Sends k u c ∷ h) t runs new =
      all_push (λ d. look.tells x d.content ≡ Stays) (bundles_sent h) (record { entry = k; epoch = hears h; content = c }) (still_sent h t.1 runs (new_before (look.does x u) (life look begin x h) new))
      (told_still (is_told look begin x h) (look.registers x c) (look.does x u) (look.tells x c) (life look begin x h) (t.0 runs x).told new)
  still_sent (Reverts k w c ∷ h) t runs new =
      all_push (λ d. look.tells x d.content ≡ Stays) (bundles_sent h) (record { entry = k; epoch = hears h + 1; content = c }) (still_sent h t.1 runs (new_before (look.tells x c) (life look begin x h) new))
      (stays_only (look.tells x c) (life look begin x h) new)
  still_sent (Changes k u ∷ h) t runs new = still_sent h t.1 runs (new_before (look.does x u) (life look begin x h) new)
  still_sent (Accepts k w ∷ h) t runs new = still_sent h t.1 runs (new_before (look.does x w) (life look begin x h) new)
  still_sent (Ends ∷ h) t runs new = absurd cc
  still_sent (_ ∷ h) t runs new = still_sent h t.1 runs new

  still_waiting : (h : List (Event W B)) → Fits look begin h → is_ended h ≡ false → life look begin x h ≡ Coming → AllStay (look.tells x) (bundles_waiting h)
  still_waiting h t runs new = all_drop (λ d. look.tells x d.content ≡ Stays) (takes h) (bundles_sent h) (still_sent h t runs new)

  -- as it comes, nothing that waits does anything to it
  still_before : (k : _) (u : W) (c : B) (h : List (Event W B)) → Flows (Sends k u c ∷ h) → Fits look begin (Sends k u c ∷ h) → look.tells x c ≡ Comes → AllStay (look.tells x) (bundles_waiting h)
  still_before k u c h f t comes = go (is_told look begin x h) refl (told_new (is_told look begin x h) (look.registers x c) (look.does x u) (look.tells x c) (life look begin x h) (t.0 f.0 x).told (t.0 f.0 x).done.done.new comes)
    where
      go : (b : Bool) → is_told look begin x h ≡ b → (is_told look begin x h ≡ true → life look begin x h ≡ Coming) × ((look.registers x c || is_told look begin x h) ≡ true) → AllStay (look.tells x) (bundles_waiting h)
      go true was n = still_waiting h t.1 f.0 (n.0 was)
      go false was n = still_lead (look.tells x) (bundles_waiting h) (stage look begin x h) (leads look begin x h f.1 ∙ untold look begin l x h f.1 t.1 was f.0)

  once : (h : List (Event W B)) → Flows h → Fits look begin h → is_ended h ≡ false → OnceMoved (look.tells x) (bundles_waiting h)
  once [] f t runs = tt
  once (Sends k u c ∷ h) f t runs =
      subst (OnceMoved (look.tells x)) (sym (sent_waits (record { entry = k; epoch = hears h; content = c }) h f.1))
      (once_push (look.tells x) (bundles_waiting h) (record { entry = k; epoch = hears h; content = c }) (still_before k u c h f t) (once h f.1 t.1 runs))
  once (Reverts k w c ∷ h) f t runs =
      subst (OnceMoved (look.tells x)) (sym (sent_waits (record { entry = k; epoch = hears h + 1; content = c }) h f.1))
      (once_push (look.tells x) (bundles_waiting h) (record { entry = k; epoch = hears h + 1; content = c }) (λ comes. absurd (none_comes_back (look.does x w) (look.tells x c) (t.0 runs x).returned comes)) (once h f.1 t.1 runs))
  once (Takes d ∷ h) f t runs = subst (OnceMoved (look.tells x)) (sym (taken_leaves d h f.0)) (go (subst (OnceMoved (look.tells x)) f.0.is (once h f.1 t.1 runs)))
    where
      go : OnceMoved (look.tells x) (d ∷ f.0.rest) → OnceMoved (look.tells x) f.0.rest
      go (first, rest) = rest
  once (Ends ∷ h) f t runs = absurd cc
  once (_ ∷ h) f t runs = once h f.1 t.1 runs

  module _ (other : look.is_own x ≡ false) where
    made_by_itself : (h : List (Event W B)) (a : Effect) → Acts look begin x h a → a ≡ Comes → ⊥
    made_by_itself h Stays acts e = absurd cc
    made_by_itself h Comes acts e = not_own (look.is_own x) other acts.own
    made_by_itself h Goes acts e = absurd cc

    first_stays : (d : Bundle B) (h : List (Event W B)) → IsFirst d (bundles_waiting h) → AllStay (look.tells x) (bundles_waiting h) → look.tells x d.content ≡ Stays
    first_stays d h first still = go (subst (AllStay (look.tells x)) first.is still)
      where
        go : AllStay (look.tells x) (d ∷ first.rest) → look.tells x d.content ≡ Stays
        go (is, rest) = is

    -- the process holds nothing that the parent doesn't know, but what it made
    unheld_new : (h : List (Event W B)) → Flows h → Fits look begin h → is_ended h ≡ false → life look begin x h ≡ Coming → stage look begin x h ≡ Held → ⊥
    unheld_new [] f t runs new held = go (begin.is_told x) refl
      where
        go : (b : Bool) → begin.is_told x ≡ b → ⊥
        go true is = let same : begin.stage x ≡ begin.life x = l.has_live x is in absurd cc
        go false is = let nothing : begin.stage x ≡ Coming = l.has_nothing x is in absurd cc
    unheld_new (Writes w ∷ h) f t runs new held = by_write (look.does x w) (stage look begin x h) (live_before (look.does x w) (stage look begin x h) held) (unheld_new h f.1 t.1 runs new) (made_by_itself h (look.does x w) (t.0 runs x).acts)
      where
        by_write : (a : Effect) (s : Stage) → (s ≡ Held) ⊎ (a ≡ Comes) → (s ≡ Held → ⊥) → (a ≡ Comes → ⊥) → ⊥
        by_write a s (inl was) unheld unmade = unheld was
        by_write a s (inr comes) unheld unmade = unmade comes
    unheld_new (Takes d ∷ h) f t runs new held =
        by_take (live_before (look.tells x d.content) (stage look begin x h) held) (unheld_new h f.1 t.1 runs new)
      where
        by_take : (stage look begin x h ≡ Held) ⊎ (look.tells x d.content ≡ Comes) → (stage look begin x h ≡ Held → ⊥) → ⊥
        by_take (inl was) unheld = unheld was
        by_take (inr comes) unheld = let two : Stays ≡ Comes = sym (first_stays d h f.0 (still_waiting h t.1 runs new)) ∙ comes in absurd cc
    unheld_new (Sends k u c ∷ h) f t runs new held = unheld_new h f.1 t.1 runs (new_before (look.does x u) (life look begin x h) new) held
    unheld_new (Changes k u ∷ h) f t runs new held = unheld_new h f.1 t.1 runs (new_before (look.does x u) (life look begin x h) new) held
    unheld_new (Accepts k w ∷ h) f t runs new held = unheld_new h f.1 t.1 runs (new_before (look.does x w) (life look begin x h) new) held
    unheld_new (Reverts k w c ∷ h) f t runs new held = unheld_new h f.1 t.1 runs (new_before (look.tells x c) (life look begin x h) new) held
    unheld_new (Ends ∷ h) f t runs new held = absurd cc
    unheld_new (_ ∷ h) f t runs new held = unheld_new h f.1 t.1 runs new held

    -- as it comes, the process doesn't have it, and if it dropped it the parent doesn't know it yet
    comes_new : (k : ℕ) (u : W) (c : B) (h : List (Event W B)) → Flows (Sends k u c ∷ h) → Fits look begin (Sends k u c ∷ h) → look.tells x c ≡ Comes
        → (stage look begin x h ≡ Held → ⊥) × (stage look begin x h ≡ Gone → life look begin x h ≡ Coming)
    comes_new k u c h f t comes = go (is_told look begin x h) refl (told_new (is_told look begin x h) (look.registers x c) (look.does x u) (look.tells x c) (life look begin x h) (t.0 f.0 x).told (t.0 f.0 x).done.done.new comes)
      where
        go : (b : Bool) → is_told look begin x h ≡ b → (is_told look begin x h ≡ true → life look begin x h ≡ Coming) × ((look.registers x c || is_told look begin x h) ≡ true)
            → (stage look begin x h ≡ Held → ⊥) × (stage look begin x h ≡ Gone → life look begin x h ≡ Coming)
        go true was n = (unheld_new h f.1 t.1 f.0 (n.0 was), (λ gone. n.0 was))
        go false was n =
            let new : stage look begin x h ≡ Coming = behind_new (look.tells x) (bundles_waiting h) (stage look begin x h) (leads look begin x h f.1 ∙ untold look begin l x h f.1 t.1 was f.0) in
            ((λ held. absurd cc), (λ gone. absurd cc))

    -- of what it has no coming waits
    none_waits : (h : List (Event W B)) → Flows h → Fits look begin h → is_ended h ≡ false → stage look begin x h ≡ Held → NoneComes (look.tells x) (bundles_waiting h)
    none_waits [] f t runs held = tt
    none_waits (Writes w ∷ h) f t runs held = by_write (live_before (look.does x w) (stage look begin x h) held) (none_waits h f.1 t.1 runs)
      where
        by_write : (stage look begin x h ≡ Held) ⊎ (look.does x w ≡ Comes) → (stage look begin x h ≡ Held → NoneComes (look.tells x) (bundles_waiting h)) → NoneComes (look.tells x) (bundles_waiting h)
        by_write (inl was) before = before was
        by_write (inr comes) before = absurd (made_by_itself h (look.does x w) (t.0 runs x).acts comes)
    none_waits (Takes d ∷ h) f t runs held =
        subst (NoneComes (look.tells x)) (sym (taken_leaves d h f.0))
        (by_take (live_before (look.tells x d.content) (stage look begin x h) held) (λ was. tail (subst (NoneComes (look.tells x)) f.0.is (none_waits h f.1 t.1 runs was))) (first_moves (subst (OnceMoved (look.tells x)) f.0.is (once h f.1 t.1 runs))))
      where
        tail : NoneComes (look.tells x) (d ∷ f.0.rest) → NoneComes (look.tells x) f.0.rest
        tail (first, rest) = rest

        first_moves : OnceMoved (look.tells x) (d ∷ f.0.rest) → (look.tells x d.content ≡ Stays → ⊥) → NoneComes (look.tells x) f.0.rest
        first_moves (first, rest) = first

        by_take : (stage look begin x h ≡ Held) ⊎ (look.tells x d.content ≡ Comes) → (stage look begin x h ≡ Held → NoneComes (look.tells x) f.0.rest) → ((look.tells x d.content ≡ Stays → ⊥) → NoneComes (look.tells x) f.0.rest) → NoneComes (look.tells x) f.0.rest
        by_take (inl was) before moves = before was
        by_take (inr comes) before moves = moves (λ stays. let two : Stays ≡ Comes = sym stays ∙ comes in absurd cc)
    none_waits (Sends k u c ∷ h) f t runs held =
        subst (NoneComes (look.tells x)) (sym (sent_waits (record { entry = k; epoch = hears h; content = c }) h f.1))
        (all_push (λ d. look.tells x d.content ≡ Comes → ⊥) (bundles_waiting h) (record { entry = k; epoch = hears h; content = c }) (none_waits h f.1 t.1 runs held) (λ comes. (comes_new k u c h f t comes).0 held))
    none_waits (Reverts k w c ∷ h) f t runs held =
        subst (NoneComes (look.tells x)) (sym (sent_waits (record { entry = k; epoch = hears h + 1; content = c }) h f.1))
        (all_push (λ d. look.tells x d.content ≡ Comes → ⊥) (bundles_waiting h) (record { entry = k; epoch = hears h + 1; content = c }) (none_waits h f.1 t.1 runs held) (none_comes_back (look.does x w) (look.tells x c) (t.0 runs x).returned))
    none_waits (Ends ∷ h) f t runs held = absurd cc
    none_waits (_ ∷ h) f t runs held = none_waits h f.1 t.1 runs held

    module _ (top : look.above x ≡ None) where
      never_above : {A : Type 0} {P : X → Type 0} → Above look x P → A
      never_above (z, too, holds) = let two : ◌≡◌ {A = Option X} None (Some z) = sym top ∙ too in absurd cc

      abbrev Lost : List (Event W B) → Type 0
      Lost h = (life look begin x h ≡ Coming → ⊥) × NoneComes (look.tells x) (bundles_waiting h)

      -- a top-level one that is gone in the process is known to the parent, and no coming of it waits
      lost : (h : List (Event W B)) → Flows h → Fits look begin h → is_ended h ≡ false → stage look begin x h ≡ Gone → Lost h
      lost [] f t runs gone = absurd (starts_alive look begin l x gone)
      lost (Writes w ∷ h) f t runs gone = by_write (gone_before (look.does x w) (stage look begin x h) gone) (lost h f.1 t.1 runs)
        where
          dropped : (look.drops x w ≡ true) ⊎ Above look x (λ y. look.does y w ≡ Goes) → Lost (Writes w ∷ h)
          dropped (inl drops) = let held : stage look begin x h ≡ Held = (t.0 runs x).drops drops in ((λ new. unheld_new h f.1 t.1 runs new held), none_waits h f.1 t.1 runs held)
          dropped (inr above) = never_above above

          by_write : (stage look begin x h ≡ Gone) ⊎ (look.does x w ≡ Goes) → (stage look begin x h ≡ Gone → Lost h) → Lost (Writes w ∷ h)
          by_write (inl was) before = before was
          by_write (inr goes) before = dropped ((t.0 runs x).goes goes)
      lost (Takes d ∷ h) f t runs gone = by_take (gone_before (look.tells x d.content) (stage look begin x h) gone) (lost h f.1 t.1 runs)
        where
          tail : NoneComes (look.tells x) (d ∷ f.0.rest) → NoneComes (look.tells x) f.0.rest
          tail (first, rest) = rest

          first_moves : OnceMoved (look.tells x) (d ∷ f.0.rest) → (look.tells x d.content ≡ Stays → ⊥) → NoneComes (look.tells x) f.0.rest
          first_moves (first, rest) = first

          back : NoneComes (look.tells x) f.0.rest → NoneComes (look.tells x) (bundles_waiting (Takes d ∷ h))
          back = subst (NoneComes (look.tells x)) (sym (taken_leaves d h f.0))

          by_take : (stage look begin x h ≡ Gone) ⊎ (look.tells x d.content ≡ Goes) → (stage look begin x h ≡ Gone → Lost h) → Lost (Takes d ∷ h)
          by_take (inl was) before = let b : Lost h = before was in (b.0, back (tail (subst (NoneComes (look.tells x)) f.0.is b.1)))
          by_take (inr goes) before = (
            (λ new. let two : Stays ≡ Goes = sym (first_stays d h f.0 (still_waiting h t.1 runs new)) ∙ goes in absurd cc),
            back (first_moves (subst (OnceMoved (look.tells x)) f.0.is (once h f.1 t.1 runs)) (λ stays. let two : Stays ≡ Goes = sym stays ∙ goes in absurd cc)),
          )
      lost (Sends k u c ∷ h) f t runs gone =
          let b : Lost h = lost h f.1 t.1 runs gone in (
            (λ new. b.0 (new_before (look.does x u) (life look begin x h) new)),
            subst (NoneComes (look.tells x)) (sym (sent_waits (record { entry = k; epoch = hears h; content = c }) h f.1))
                (all_push (λ d. look.tells x d.content ≡ Comes → ⊥) (bundles_waiting h) (record { entry = k; epoch = hears h; content = c }) b.1 (λ comes. b.0 ((comes_new k u c h f t comes).1 gone))),
          )
      lost (Reverts k w c ∷ h) f t runs gone =
          let b : Lost h = lost h f.1 t.1 runs gone in (
            (λ new. b.0 (new_before (look.tells x c) (life look begin x h) new)),
            subst (NoneComes (look.tells x)) (sym (sent_waits (record { entry = k; epoch = hears h + 1; content = c }) h f.1))
                (all_push (λ d. look.tells x d.content ≡ Comes → ⊥) (bundles_waiting h) (record { entry = k; epoch = hears h + 1; content = c }) b.1 (none_comes_back (look.does x w) (look.tells x c) (t.0 runs x).returned)),
          )
      lost (Changes k u ∷ h) f t runs gone = let b : Lost h = lost h f.1 t.1 runs gone in ((λ new. b.0 (new_before (look.does x u) (life look begin x h) new)), b.1)
      lost (Accepts k w ∷ h) f t runs gone = let b : Lost h = lost h f.1 t.1 runs gone in ((λ new. b.0 (new_before (look.does x w) (life look begin x h) new)), b.1)
      lost (Ends ∷ h) f t runs gone = absurd cc
      lost (_ ∷ h) f t runs gone = lost h f.1 t.1 runs gone

      pub first_new : (d : Bundle B) (h : List (Event W B)) → Flows h → Fits look begin h → is_ended h ≡ false → IsFirst d (bundles_waiting h) → look.tells x d.content ≡ Comes → stage look begin x h ≡ Coming
      first_new d h f t runs first comes = by_stage (stage look begin x h) refl
        where
          none : NoneComes (look.tells x) (bundles_waiting h) → ⊥
          none waits = here (subst (NoneComes (look.tells x)) first.is waits)
            where
              here : NoneComes (look.tells x) (d ∷ first.rest) → ⊥
              here (now, rest) = now comes

          by_stage : (s : Stage) → stage look begin x h ≡ s → stage look begin x h ≡ Coming
          by_stage Coming e = e
          by_stage Held e = absurd (none (none_waits h f t runs e))
          by_stage Gone e = absurd (none (lost h f t runs e).1)

    module _ (y : X) (is : look.above x ≡ Some y) where
      -- a context that is gone in the process went with the one above, or the parent knows it and no coming of it waits
      abbrev Went : List (Event W B) → Type 0
      Went h = (stage look begin y h ≡ Gone) ⊎ ((life look begin x h ≡ Coming → ⊥) × NoneComes (look.tells x) (bundles_waiting h))

      above_is : (P : X → Type 0) → Above look x P → P y
      above_is P (z, too, holds) = let same : Some y ≡ Some z = sym is ∙ too in subst P (cc) holds

      went : (h : List (Event W B)) → Flows h → Fits look begin h → is_ended h ≡ false → stage look begin x h ≡ Gone → Went h
      went [] f t runs gone = absurd (starts_alive look begin l x gone)
      went (Writes w ∷ h) f t runs gone = by_write (gone_before (look.does x w) (stage look begin x h) gone) (went h f.1 t.1 runs)
        where
          kept : Went h → Went (Writes w ∷ h)
          kept (inl above) = inl (gone_behind (look.does y w) (stage look begin y h) above)
          kept (inr none) = inr none

          dropped : (look.drops x w ≡ true) ⊎ Above look x (λ y. look.does y w ≡ Goes) → Went (Writes w ∷ h)
          dropped (inl drops) = let held : stage look begin x h ≡ Held = (t.0 runs x).drops drops in inr ((λ new. unheld_new h f.1 t.1 runs new held), none_waits h f.1 t.1 runs held)
          dropped (inr above) = inl (ap (λ a. moved a (stage look begin y h)) (above_is (λ y. look.does y w ≡ Goes) above))

          by_write : (stage look begin x h ≡ Gone) ⊎ (look.does x w ≡ Goes) → (stage look begin x h ≡ Gone → Went h) → Went (Writes w ∷ h)
          by_write (inl was) before = kept (before was)
          by_write (inr goes) before = dropped ((t.0 runs x).goes goes)
      went (Takes d ∷ h) f t runs gone = by_take (gone_before (look.tells x d.content) (stage look begin x h) gone) (went h f.1 t.1 runs)
        where
          tail : NoneComes (look.tells x) (d ∷ f.0.rest) → NoneComes (look.tells x) f.0.rest
          tail (first, rest) = rest

          first_moves : OnceMoved (look.tells x) (d ∷ f.0.rest) → (look.tells x d.content ≡ Stays → ⊥) → NoneComes (look.tells x) f.0.rest
          first_moves (first, rest) = first

          back : NoneComes (look.tells x) f.0.rest → NoneComes (look.tells x) (bundles_waiting (Takes d ∷ h))
          back = subst (NoneComes (look.tells x)) (sym (taken_leaves d h f.0))

          kept : Went h → Went (Takes d ∷ h)
          kept (inl above) = inl (gone_behind (look.tells y d.content) (stage look begin y h) above)
          kept (inr none) = inr (none.0, back (tail (subst (NoneComes (look.tells x)) f.0.is none.1)))

          by_take : (stage look begin x h ≡ Gone) ⊎ (look.tells x d.content ≡ Goes) → (stage look begin x h ≡ Gone → Went h) → Went (Takes d ∷ h)
          by_take (inl was) before = kept (before was)
          by_take (inr goes) before = inr (
            (λ new. let two : Stays ≡ Goes = sym (first_stays d h f.0 (still_waiting h t.1 runs new)) ∙ goes in absurd cc),
            back (first_moves (subst (OnceMoved (look.tells x)) f.0.is (once h f.1 t.1 runs)) (λ stays. let two : Stays ≡ Goes = sym stays ∙ goes in absurd cc)),
          )
      went (Sends k u c ∷ h) f t runs gone = by_send (went h f.1 t.1 runs gone)
        where
          by_send : Went h → Went (Sends k u c ∷ h)
          by_send (inl above) = inl above
          by_send (inr none) = inr (
            (λ new. none.0 (new_before (look.does x u) (life look begin x h) new)),
            subst (NoneComes (look.tells x)) (sym (sent_waits (record { entry = k; epoch = hears h; content = c }) h f.1))
                (all_push (λ d. look.tells x d.content ≡ Comes → ⊥) (bundles_waiting h) (record { entry = k; epoch = hears h; content = c }) none.1 (λ comes. none.0 ((comes_new k u c h f t comes).1 gone))),
          )
      went (Reverts k w c ∷ h) f t runs gone = by_revert (went h f.1 t.1 runs gone)
        where
          by_revert : Went h → Went (Reverts k w c ∷ h)
          by_revert (inl above) = inl above
          by_revert (inr none) = inr (
            (λ new. none.0 (new_before (look.tells x c) (life look begin x h) new)),
            subst (NoneComes (look.tells x)) (sym (sent_waits (record { entry = k; epoch = hears h + 1; content = c }) h f.1))
                (all_push (λ d. look.tells x d.content ≡ Comes → ⊥) (bundles_waiting h) (record { entry = k; epoch = hears h + 1; content = c }) none.1 (none_comes_back (look.does x w) (look.tells x c) (t.0 runs x).returned)),
          )
      went (Changes k u ∷ h) f t runs gone = by_known (new_before (look.does x u) (life look begin x h)) (went h f.1 t.1 runs gone)
        where
          by_known : (life look begin x (Changes k u ∷ h) ≡ Coming → life look begin x h ≡ Coming) → Went h → Went (Changes k u ∷ h)
          by_known before (inl above) = inl above
          by_known before (inr none) = inr ((λ new. none.0 (before new)), none.1)
      went (Accepts k w ∷ h) f t runs gone = by_known (new_before (look.does x w) (life look begin x h)) (went h f.1 t.1 runs gone)
        where
          by_known : (life look begin x (Accepts k w ∷ h) ≡ Coming → life look begin x h ≡ Coming) → Went h → Went (Accepts k w ∷ h)
          by_known before (inl above) = inl above
          by_known before (inr none) = inr ((λ new. none.0 (before new)), none.1)
      went (Ends ∷ h) f t runs gone = absurd cc
      went (_ ∷ h) f t runs gone = went h f.1 t.1 runs gone

      -- what waits leads to the joint stage of the one above, which isn't gone where the lower one comes
      comes_below_held : (k : ℕ) (u : W) (c : B) (h : List (Event W B)) → Flows (Sends k u c ∷ h) → Fits look begin (Sends k u c ∷ h) → look.tells x c ≡ Comes
          → (joint look begin x h ≡ Coming → moved (look.tells y c) (joint look begin y h) ≡ Held) × (joint look begin x h ≡ Gone → moved (look.tells y c) (joint look begin y h) ≡ Held → ⊥)
      comes_below_held k u c h f t comes = (new_below, gone_below)
        where
          now : List (Event W B)
          now = Sends k u c ∷ h

          above_now : life look begin y (Sends k u c ∷ h) ≡ Held
          above_now = above_live look begin l x y is (Sends k u c ∷ h) t f.0
              (sent_live (is_told look begin x h) (look.registers x c) (look.does x u) (look.tells x c) (life look begin x h) (t.0 f.0 x).told (t.0 f.0 x).done.done.new comes)

          told_now : is_told look begin x (Sends k u c ∷ h) ≡ true
          told_now = (told_new (is_told look begin x h) (look.registers x c) (look.does x u) (look.tells x c) (life look begin x h) (t.0 f.0 x).told (t.0 f.0 x).done.done.new comes).1

          by_stage : (s : Stage) → joint look begin y (Sends k u c ∷ h) ≡ s → joint look begin x h ≡ Coming → joint look begin y (Sends k u c ∷ h) ≡ Held
          by_stage Held e new = e
          by_stage Gone e new =
              let too : joint look begin x (Sends k u c ∷ h) ≡ Gone = joint_below look begin l x y is (Sends k u c ∷ h) e in
              let comes_now : moved (look.tells x c) (joint look begin x h) ≡ Held = ap (λ a. moved a (joint look begin x h)) comes ∙ ap (moved Comes) new in
              absurd cc
          by_stage Coming e new =
              absurd (subst (λ q. Agrees Coming q (MakeWaits look y (Sends k u c ∷ h)) (GoingWaits look y (Sends k u c ∷ h))) above_now
              (subst (λ q. Agrees q (life look begin y (Sends k u c ∷ h)) (MakeWaits look y (Sends k u c ∷ h)) (GoingWaits look y (Sends k u c ∷ h))) e (agrees look begin l (Sends k u c ∷ h) f t y (sym (told_above look begin l x y is (Sends k u c ∷ h)) ∙ told_now))))

          new_below : joint look begin x h ≡ Coming → moved (look.tells y c) (joint look begin y h) ≡ Held
          new_below new = by_stage (joint look begin y (Sends k u c ∷ h)) refl new

          still_gone : joint look begin x h ≡ Gone → stage look begin x h ≡ Gone
          still_gone gone = sym (still_same (look.tells x) (bundles_waiting h) (stage look begin x h) (still_before k u c h f t comes)) ∙ leads look begin x h f.1 ∙ gone

          by_went : Went h → stage look begin x h ≡ Gone → moved (look.tells y c) (joint look begin y h) ≡ Held → ⊥
          by_went (inl above) gone held =
              let above_gone : joint look begin y h ≡ Gone = sym (leads look begin y h f.1) ∙ ap (stage_behind (look.tells y) (bundles_waiting h)) above ∙ gone_lead (look.tells y) (bundles_waiting h) in
              let two : Gone ≡ Held = sym (gone_stays (look.tells y c)) ∙ sym (ap (moved (look.tells y c)) above_gone) ∙ held in
              absurd cc
          by_went (inr none) gone held = none.0 ((comes_new k u c h f t comes).1 gone)

          gone_below : joint look begin x h ≡ Gone → moved (look.tells y c) (joint look begin y h) ≡ Held → ⊥
          gone_below gone = by_went (went h f.1 t.1 f.0 (still_gone gone)) (still_gone gone)

      -- the process writes
      below_written : (w : W) (h : List (Event W B)) → Flows h → Fits look begin (Writes w ∷ h) → is_ended h ≡ false
          → BelowHeld (look.tells x) (look.tells y) (stage look begin x h) (stage look begin y h) (bundles_waiting h)
          → BelowHeld (look.tells x) (look.tells y) (moved (look.does x w) (stage look begin x h)) (moved (look.does y w) (stage look begin y h)) (bundles_waiting h)
      below_written w h f t runs before = go (look.does y w) refl (t.0 runs y).acts
        where
          none : NoneComes (look.tells x) (bundles_waiting h) → BelowHeld (look.tells x) (look.tells y) (moved (look.does x w) (stage look begin x h)) (moved (look.does y w) (stage look begin y h)) (bundles_waiting h)
          none = below_none (look.tells x) (look.tells y) (moved (look.does x w) (stage look begin x h)) (moved (look.does y w) (stage look begin y h)) (bundles_waiting h)

          dropped : look.does y w ≡ Stays → (look.drops x w ≡ true) ⊎ Above look x (λ y. look.does y w ≡ Goes) → NoneComes (look.tells x) (bundles_waiting h)
          dropped stays (inl drops) = none_waits h f t.1 runs ((t.0 runs x).drops drops)
          dropped stays (inr above) = let two : Stays ≡ Goes = sym stays ∙ above_is (λ y. look.does y w ≡ Goes) above in absurd cc

          lower : (a : Effect) → look.does x w ≡ a → look.does y w ≡ Stays
              → BelowHeld (look.tells x) (look.tells y) (moved (look.does x w) (stage look begin x h)) (moved (look.does y w) (stage look begin y h)) (bundles_waiting h)
          lower Stays is stays =
              subst (λ a. BelowHeld (look.tells x) (look.tells y) (moved (look.does x w) (stage look begin x h)) (moved a (stage look begin y h)) (bundles_waiting h)) (sym stays)
              (subst (λ a. BelowHeld (look.tells x) (look.tells y) (moved a (stage look begin x h)) (stage look begin y h) (bundles_waiting h)) (sym is) before)
          lower Comes is stays = absurd (made_by_itself h (look.does x w) (t.0 runs x).acts is)
          lower Goes is stays = none (dropped stays ((t.0 runs x).goes is))

          go : (a : Effect) → look.does y w ≡ a → Acts look begin y h a
              → BelowHeld (look.tells x) (look.tells y) (moved (look.does x w) (stage look begin x h)) (moved (look.does y w) (stage look begin y h)) (bundles_waiting h)
          go Stays e acts = lower (look.does x w) refl e
          go Comes e acts = none (all_drop (λ d. look.tells x d.content ≡ Comes → ⊥) (takes h) (bundles_sent h) (none_sent look begin l x y is acts.own h f t.1 runs acts.new))
          go Goes e acts =
              subst (λ a. BelowHeld (look.tells x) (look.tells y) (moved (look.does x w) (stage look begin x h)) (moved a (stage look begin y h)) (bundles_waiting h)) (sym e)
              (subst (λ a. BelowHeld (look.tells x) (look.tells y) (moved a (stage look begin x h)) Gone (bundles_waiting h)) (sym (l.does_below x y w is e)) (below_gone (look.tells x) (look.tells y) (bundles_waiting h)))

      pub below_held : (h : List (Event W B)) → Flows h → Fits look begin h → is_ended h ≡ false → BelowHeld (look.tells x) (look.tells y) (stage look begin x h) (stage look begin y h) (bundles_waiting h)
      below_held [] f t runs = tt
      below_held (Writes w ∷ h) f t runs = below_written w h f.1 t runs (below_held h f.1 t.1 runs)
      below_held (Takes d ∷ h) f t runs =
          subst (BelowHeld (look.tells x) (look.tells y) (moved (look.tells x d.content) (stage look begin x h)) (moved (look.tells y d.content) (stage look begin y h))) (sym (taken_leaves d h f.0))
          (tail (subst (BelowHeld (look.tells x) (look.tells y) (stage look begin x h) (stage look begin y h)) f.0.is (below_held h f.1 t.1 runs)))
        where
          tail : BelowHeld (look.tells x) (look.tells y) (stage look begin x h) (stage look begin y h) (d ∷ f.0.rest)
              → BelowHeld (look.tells x) (look.tells y) (moved (look.tells x d.content) (stage look begin x h)) (moved (look.tells y d.content) (stage look begin y h)) f.0.rest
          tail (first, rest) = rest
      below_held (Sends k u c ∷ h) f t runs =
          subst (BelowHeld (look.tells x) (look.tells y) (stage look begin x h) (stage look begin y h)) (sym (sent_waits (record { entry = k; epoch = hears h; content = c }) h f.1))
          (below_push (look.tells x) (look.tells y) (stage look begin x h) (stage look begin y h) (bundles_waiting h) (record { entry = k; epoch = hears h; content = c }) (below_held h f.1 t.1 runs)
          (λ comes. subst (λ j. (j ≡ Coming → moved (look.tells y c) (stage_behind (look.tells y) (bundles_waiting h) (stage look begin y h)) ≡ Held) × (j ≡ Gone → moved (look.tells y c) (stage_behind (look.tells y) (bundles_waiting h) (stage look begin y h)) ≡ Held → ⊥))
          (sym (leads look begin x h f.1))
          (subst (λ j. (joint look begin x h ≡ Coming → moved (look.tells y c) j ≡ Held) × (joint look begin x h ≡ Gone → moved (look.tells y c) j ≡ Held → ⊥)) (sym (leads look begin y h f.1)) (comes_below_held k u c h f t comes))))
      below_held (Reverts k w c ∷ h) f t runs =
          subst (BelowHeld (look.tells x) (look.tells y) (stage look begin x h) (stage look begin y h)) (sym (sent_waits (record { entry = k; epoch = hears h + 1; content = c }) h f.1))
          (below_push (look.tells x) (look.tells y) (stage look begin x h) (stage look begin y h) (bundles_waiting h) (record { entry = k; epoch = hears h + 1; content = c }) (below_held h f.1 t.1 runs)
          (λ comes. absurd (none_comes_back (look.does x w) (look.tells x c) (t.0 runs x).returned comes)))
      below_held (Ends ∷ h) f t runs = absurd cc
      below_held (_ ∷ h) f t runs = below_held h f.1 t.1 runs

pub comings_below : {X W B : Type 0} (look : Look X W B) (begin : Begin X) (d : Bundle B) (h : List (Event W B)) → Keeps look begin h → is_ended h ≡ false → IsFirst d (bundles_waiting h) →
    (x y : X) → look.is_own x ≡ false → look.above x ≡ Some y → look.tells x d.content ≡ Comes →
    (stage look begin x h ≡ Held → ⊥)
    × (stage look begin x h ≡ Coming → moved (look.tells y d.content) (stage look begin y h) ≡ Held)
    × (stage look begin x h ≡ Gone → moved (look.tells y d.content) (stage look begin y h) ≡ Held → ⊥)
comings_below look begin d h k runs first x y other is comes =
    let both : (stage look begin x h ≡ Coming → moved (look.tells y d.content) (stage look begin y h) ≡ Held) × (stage look begin x h ≡ Gone → moved (look.tells y d.content) (stage look begin y h) ≡ Held → ⊥) =
    go (subst (BelowHeld (look.tells x) (look.tells y) (stage look begin x h) (stage look begin y h)) first.is (below_held look begin k.lawful x other y is h k.flows k.fits runs)) comes in
    ((λ held. unheld (subst (NoneComes (look.tells x)) first.is (none_waits look begin k.lawful x other h k.flows k.fits runs held))), both.0, both.1)
  where
    go : BelowHeld (look.tells x) (look.tells y) (stage look begin x h) (stage look begin y h) (d ∷ first.rest) → look.tells x d.content ≡ Comes →
        (stage look begin x h ≡ Coming → moved (look.tells y d.content) (stage look begin y h) ≡ Held) × (stage look begin x h ≡ Gone → moved (look.tells y d.content) (stage look begin y h) ≡ Held → ⊥)
    go (now, rest) = now

    unheld : NoneComes (look.tells x) (d ∷ first.rest) → ⊥
    unheld (now, rest) = now comes

-- ---- what the parent has heard of isn't new to it

moved_on : (a : Effect) (s : Stage) → (a ≡ Stays → ⊥) → moved a s ≡ Coming → ⊥
moved_on Stays s moves e = moves refl
moved_on Comes Coming moves e = absurd cc
moved_on Comes Held moves e = absurd cc
moved_on Comes Gone moves e = absurd cc
moved_on Goes s moves e = absurd cc

or_known : (a b : Bool) → (a || b) ≡ true → (a ≡ true) ⊎ (b ≡ true)
or_known true b e = inl refl
or_known false b e = inr e

returned_moves : (a b : Effect) → Returned a b → (a ≡ Stays → ⊥) → b ≡ Stays → ⊥
returned_moves Stays b r moves e = moves refl
returned_moves Comes b r moves e = let two : Stays ≡ Goes = sym e ∙ r in absurd cc
returned_moves Goes b r moves e = r

pub known_came : {X W B : Type 0} (look : Look X W B) (begin : Begin X) → Lawful look begin → (x : X) (h : List (Event W B)) → Fits look begin h → is_ended h ≡ false →
    is_known look begin x h ≡ true → life look begin x h ≡ Coming → ⊥
known_came look begin l x [] t runs known new = let unheld : is_held (begin.life x) ≡ false = ap is_held new in absurd cc
known_came look begin l x (Sends k u c ∷ h) t runs known new = go (or_known (look.creates x u) (is_known look begin x h) known) (known_came look begin l x h t.1 runs)
  where
    go : (look.creates x u ≡ true) ⊎ (is_known look begin x h ≡ true) → (is_known look begin x h ≡ true → life look begin x h ≡ Coming → ⊥) → ⊥
    go (inl made) before = moved_on (look.does x u) (life look begin x h) (l.creates_moves x u made) new
    go (inr was) before = before was (new_before (look.does x u) (life look begin x h) new)
known_came look begin l x (Changes k u ∷ h) t runs known new = go (or_known (look.creates x u) (is_known look begin x h) known) (known_came look begin l x h t.1 runs)
  where
    go : (look.creates x u ≡ true) ⊎ (is_known look begin x h ≡ true) → (is_known look begin x h ≡ true → life look begin x h ≡ Coming → ⊥) → ⊥
    go (inl made) before = moved_on (look.does x u) (life look begin x h) (l.creates_moves x u made) new
    go (inr was) before = before was (new_before (look.does x u) (life look begin x h) new)
known_came look begin l x (Accepts k w ∷ h) t runs known new = go (or_known (look.creates x w) (is_known look begin x h) known) (known_came look begin l x h t.1 runs)
  where
    go : (look.creates x w ≡ true) ⊎ (is_known look begin x h ≡ true) → (is_known look begin x h ≡ true → life look begin x h ≡ Coming → ⊥) → ⊥
    go (inl made) before = moved_on (look.does x w) (life look begin x h) (l.creates_moves x w made) new
    go (inr was) before = before was (new_before (look.does x w) (life look begin x h) new)
known_came look begin l x (Reverts k w c ∷ h) t runs known new = go (or_known (look.creates x w) (is_known look begin x h) known) (known_came look begin l x h t.1 runs)
  where
    go : (look.creates x w ≡ true) ⊎ (is_known look begin x h ≡ true) → (is_known look begin x h ≡ true → life look begin x h ≡ Coming → ⊥) → ⊥
    go (inl made) before = moved_on (look.tells x c) (life look begin x h) (returned_moves (look.does x w) (look.tells x c) (t.0 runs x).returned (l.creates_moves x w made)) new
    go (inr was) before = before was (new_before (look.tells x c) (life look begin x h) new)
known_came look begin l x (Ignores k w ∷ h) t runs known new = go (or_known (look.creates x w) (is_known look begin x h) known) (known_came look begin l x h t.1 runs)
  where
    by_effect : (a : Effect) → look.does x w ≡ a → Ignored a (life look begin x h) → (look.does x w ≡ Stays → ⊥) → ⊥
    by_effect Stays is i moves = moves is
    by_effect Comes is i moves = i
    by_effect Goes is i moves = let two : Coming ≡ Gone = sym new ∙ i in absurd cc

    go : (look.creates x w ≡ true) ⊎ (is_known look begin x h ≡ true) → (is_known look begin x h ≡ true → life look begin x h ≡ Coming → ⊥) → ⊥
    go (inl made) before = by_effect (look.does x w) refl (t.0 runs x) (l.creates_moves x w made)
    go (inr was) before = before was new
known_came look begin l x (Ends ∷ h) t runs known new = absurd cc
known_came look begin l x (_ ∷ h) t runs known new = known_came look begin l x h t.1 runs known new
