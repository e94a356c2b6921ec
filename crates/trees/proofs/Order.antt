-- With both links empty the children of a context are the parent's, in its order.
use Rattle.std.proofs.Common.{◌≡◌, ℕ, ◌+◌, Bool, true, false, not, Some, List, [], ◌∷◌, ◌++◌, refl, ap, sym, ◌∙◌, append_assoc, append-nil, cond, subst}
use Rattle.std.specs.Prelude.{filter, ◌||◌}
use Rattle.std.specs.List.{AllByRecursion}
use Rattle.traces.specs.Event.{Event}
use Rattle.traces.specs.Event.Event.{Writes, Sends, Takes, Accepts, Reverts, Ignores, Changes, Ends}
use Rattle.traces.specs.Links.{hears, writes, writes_waiting, bundles_sent, bundles_waiting, is_ended}
use Rattle.traces.specs.Rules.{IsFirst, Flows}
use Rattle.traces.specs.Words.{Stage, is_gone}
use Rattle.traces.specs.Words.Stage.{Coming, Held, Gone}
use Rattle.traces.proofs.Waits.{write_waits, heard_leaves, sent_waits, taken_leaves}
use Rattle.trees.specs.Look.{Effect, moved, Look, Begin}
use Rattle.trees.specs.Look.Effect.{Stays, Comes, Goes}
use Rattle.trees.specs.Words.{is_told, stage, life, joint, is_held}
use Rattle.trees.specs.Children.{came, attached, is_alive, held_below, live_below, owned}
use Rattle.trees.specs.Rules.{Lawful, OwnChild, Brought, Ignored, Returned, Fits, Keeps, OtherChild}
use Rattle.trees.proofs.Joint.{untold, joint_did, first_did}
use Rattle.trees.proofs.Agrees.{told_runs, existence, told_above}
use Rattle.trees.proofs.Effects.{comes_new, false_right, held_is, unless}
use Rattle.trees.proofs.Lists.{filter_same, filter_none, filter_still, stronger, both_more, middle_out}
use Rattle.trees.proofs.Siblings.{all_makes, all_brings, makes_push, brings_push, own_write, PassesOwn, PassesOthers, own_attached, others_attached, others_came, came_own, came_others, attached_own, attached_others, one_owner, others_bundle}

-- what isn't discarded behind an effect wasn't before
alive_before : (a : Effect) (s : Stage) → not (is_gone (moved a s)) ≡ true → not (is_gone s) ≡ true
alive_before Stays s e = e
alive_before Comes Coming e = refl
alive_before Comes Held e = refl
alive_before Comes Gone e = absurd cc
alive_before Goes s e = absurd cc

-- ---- the own children

-- a bundle that is sent back leaves none of what was made
none_back : (a b : Effect) (s : Stage) → a ≡ Comes → Returned a b → not (is_gone (moved b s)) ≡ false
none_back Stays b s e r = absurd cc
none_back Comes b s e r = rw r refl
none_back Goes b s e r = absurd cc

none_ignored : (a : Effect) (s : Stage) → a ≡ Comes → Ignored a s → ⊥
none_ignored Stays s e i = absurd cc
none_ignored Comes s e i = i
none_ignored Goes s e i = absurd cc

-- what was attached, then what waits, is what was made, as far as it isn't discarded
own_leads : {X W B : Type 0} (look : Look X W B) (begin : Begin X) (y : X) (h : List (Event W B)) → Flows h → Fits look begin h → is_ended h ≡ false →
    filter (is_alive look begin h) (own_attached look y h ++ all_makes look y (writes_waiting h)) ≡ filter (is_alive look begin h) (all_makes look y (writes h))
own_leads look begin y [] f t runs = refl
own_leads look begin y (Writes w ∷ h) f t runs =
    ap (λ ws. filter (is_alive look begin h) (own_attached look y h ++ all_makes look y ws)) (write_waits w h f.1)
    ∙ ap (λ xs. filter (is_alive look begin h) (own_attached look y h ++ xs)) (makes_push look y (writes_waiting h) w)
    ∙ ap (filter (is_alive look begin h)) (sym (append_assoc (own_attached look y h) (all_makes look y (writes_waiting h)) (look.makes y w)))
    ∙ both_more (is_alive look begin h) (own_attached look y h ++ all_makes look y (writes_waiting h)) (all_makes look y (writes h)) (look.makes y w) (own_leads look begin y h f.1 t.1 runs)
    ∙ ap (filter (is_alive look begin h)) (sym (makes_push look y (writes h) w))
own_leads look begin y (Sends k u c ∷ h) f t runs =
    stronger (is_alive look begin (Sends k u c ∷ h)) (is_alive look begin h) (λ x. alive_before (look.does x u) (life look begin x h))
    (own_attached look y h ++ all_makes look y (writes_waiting h)) (all_makes look y (writes h)) (own_leads look begin y h f.1 t.1 runs)
own_leads look begin y (Changes k u ∷ h) f t runs =
    stronger (is_alive look begin (Changes k u ∷ h)) (is_alive look begin h) (λ x. alive_before (look.does x u) (life look begin x h))
    (own_attached look y h ++ all_makes look y (writes_waiting h)) (all_makes look y (writes h)) (own_leads look begin y h f.1 t.1 runs)
own_leads look begin y (Accepts k w ∷ h) f t runs =
    ap (λ ws. filter (is_alive look begin (Accepts k w ∷ h)) ((own_attached look y h ++ look.makes y w) ++ all_makes look y ws)) (heard_leaves w h f.0)
    ∙ ap (filter (is_alive look begin (Accepts k w ∷ h))) (append_assoc (own_attached look y h) (look.makes y w) (all_makes look y f.0.rest))
    ∙ stronger (is_alive look begin (Accepts k w ∷ h)) (is_alive look begin h) (λ x. alive_before (look.does x w) (life look begin x h))
    (own_attached look y h ++ all_makes look y (w ∷ f.0.rest)) (all_makes look y (writes h))
    (sym (ap (λ ws. filter (is_alive look begin h) (own_attached look y h ++ all_makes look y ws)) f.0.is) ∙ own_leads look begin y h f.1 t.1 runs)
own_leads look begin y (Reverts k w c ∷ h) f t runs =
    ap (λ ws. filter (is_alive look begin (Reverts k w c ∷ h)) (own_attached look y h ++ all_makes look y ws)) (heard_leaves w h f.0.first)
    ∙ sym (middle_out (is_alive look begin (Reverts k w c ∷ h)) (own_attached look y h) (look.makes y w) (all_makes look y f.0.first.rest)
    (filter_none (is_alive look begin (Reverts k w c ∷ h)) (OwnChild look y w) (λ x o. none_back (look.does x w) (look.tells x c) (life look begin x h) o.comes (t.0 runs x).returned)
    (look.makes y w) (own_write look begin y w h t.1 runs f.0.first)))
    ∙ stronger (is_alive look begin (Reverts k w c ∷ h)) (is_alive look begin h) (λ x. alive_before (look.tells x c) (life look begin x h))
    (own_attached look y h ++ all_makes look y (w ∷ f.0.first.rest)) (all_makes look y (writes h))
    (sym (ap (λ ws. filter (is_alive look begin h) (own_attached look y h ++ all_makes look y ws)) f.0.first.is) ∙ own_leads look begin y h f.1 t.1 runs)
own_leads look begin y (Ignores k w ∷ h) f t runs =
    ap (λ ws. filter (is_alive look begin h) (own_attached look y h ++ all_makes look y ws)) (heard_leaves w h f.0)
    ∙ sym (middle_out (is_alive look begin h) (own_attached look y h) (look.makes y w) (all_makes look y f.0.rest)
    (filter_none (is_alive look begin h) (OwnChild look y w) (λ x o. absurd (none_ignored (look.does x w) (life look begin x h) o.comes (t.0 runs x)))
    (look.makes y w) (own_write look begin y w h t.1 runs f.0)))
    ∙ sym (ap (λ ws. filter (is_alive look begin h) (own_attached look y h ++ all_makes look y ws)) f.0.is) ∙ own_leads look begin y h f.1 t.1 runs
own_leads look begin y (Ends ∷ h) f t runs = absurd cc
own_leads look begin y (_ ∷ h) f t runs = own_leads look begin y h f.1 t.1 runs

-- ---- the children of others

-- what came, then what waits, is what was sent
others_lead : {X W B : Type 0} (look : Look X W B) (y : X) (h : List (Event W B)) → Flows h → others_came look y h ++ all_brings look y (bundles_waiting h) ≡ all_brings look y (bundles_sent h)
others_lead look y [] f = refl
others_lead look y (Sends k u c ∷ h) f =
    ap (λ ds. others_came look y h ++ all_brings look y ds) (sent_waits (record { entry = k; epoch = hears h; content = c }) h f.1)
    ∙ ap (λ xs. others_came look y h ++ xs) (brings_push look y (bundles_waiting h) (record { entry = k; epoch = hears h; content = c }))
    ∙ sym (append_assoc (others_came look y h) (all_brings look y (bundles_waiting h)) (look.brings y c))
    ∙ ap (λ xs. xs ++ look.brings y c) (others_lead look y h f.1)
    ∙ sym (brings_push look y (bundles_sent h) (record { entry = k; epoch = hears h; content = c }))
others_lead look y (Reverts k w c ∷ h) f =
    ap (λ ds. others_came look y h ++ all_brings look y ds) (sent_waits (record { entry = k; epoch = hears h + 1; content = c }) h f.1)
    ∙ ap (λ xs. others_came look y h ++ xs) (brings_push look y (bundles_waiting h) (record { entry = k; epoch = hears h + 1; content = c }))
    ∙ sym (append_assoc (others_came look y h) (all_brings look y (bundles_waiting h)) (look.brings y c))
    ∙ ap (λ xs. xs ++ look.brings y c) (others_lead look y h f.1)
    ∙ sym (brings_push look y (bundles_sent h) (record { entry = k; epoch = hears h + 1; content = c }))
others_lead look y (Takes d ∷ h) f =
    ap (λ ds. (others_came look y h ++ look.brings y d.content) ++ all_brings look y ds) (taken_leaves d h f.0)
    ∙ append_assoc (others_came look y h) (look.brings y d.content) (all_brings look y f.0.rest)
    ∙ sym (ap (λ ds. others_came look y h ++ all_brings look y ds) f.0.is) ∙ others_lead look y h f.1
others_lead look y (_ ∷ h) f = others_lead look y h f.1

brought_none : {X : Type 0} (registers told_before : Bool) (brought made all : List X) → (registers || told_before) ≡ false → Brought told_before registers brought made all → brought ≡ []
brought_none true b brought made all e t = absurd cc
brought_none false true brought made all e t = absurd cc
brought_none false false brought made all e t = t

-- who isn't told of the group was sent nothing below y
untold_sent : {X W B : Type 0} (look : Look X W B) (begin : Begin X) (y : X) (h : List (Event W B)) → Flows h → Fits look begin h → is_told look begin y h ≡ false → is_ended h ≡ false →
    all_brings look y (bundles_sent h) ≡ []
untold_sent look begin y [] f t e runs = refl
untold_sent look begin y (Sends k u c ∷ h) f t e runs =
    brings_push look y (bundles_sent h) (record { entry = k; epoch = hears h; content = c })
    ∙ ap (λ xs. xs ++ look.brings y c) (untold_sent look begin y h f.1 t.1 (false_right (look.registers y c) (is_told look begin y h) e) f.0)
    ∙ brought_none (look.registers y c) (is_told look begin y h) (look.brings y c) (look.makes y u) _ e (t.0 f.0 y).brought
untold_sent look begin y (Reverts k w c ∷ h) f t e runs =
    brings_push look y (bundles_sent h) (record { entry = k; epoch = hears h + 1; content = c })
    ∙ ap (λ xs. xs ++ look.brings y c) (untold_sent look begin y h f.1 t.1 e runs) ∙ (t.0 runs y).brings_none
untold_sent look begin y (Ends ∷ h) f t e runs = absurd cc
untold_sent look begin y (_ ∷ h) f t e runs = untold_sent look begin y h f.1 t.1 e runs

nothing_made : {X W B : Type 0} (look : Look X W B) (y : X) (w : W) (xs : List X) → AllByRecursion (OwnChild look y w) xs → ((x : X) → look.above x ≡ Some y → look.does x w ≡ Comes → ⊥) → xs ≡ []
nothing_made look y w [] a no_come = refl
nothing_made look y w (x ∷ xs) a no_come = absurd (no_come x a.0.below a.0.comes)

untold_writes : {X W B : Type 0} (look : Look X W B) (begin : Begin X) → Lawful look begin → (w : W) (h : List (Event W B)) → Flows h → Fits look begin h → is_ended h ≡ false →
    IsFirst w (writes_waiting h) → (x : X) → is_told look begin x h ≡ false → look.does x w ≡ Comes → ⊥
untold_writes look begin l w h f t runs first x e comes =
    comes_new (look.does x w) (joint look begin x h) (first_did (look.does x) w h (joint look begin x h) first (joint_did look begin x h)) (untold look begin l x h f t e runs) comes

-- and all that the parent has there is others'
untold_attached : {X W B : Type 0} (look : Look X W B) (begin : Begin X) → Lawful look begin → (y : X) (h : List (Event W B)) → Flows h → Fits look begin h → is_told look begin y h ≡ false → is_ended h ≡ false →
    attached look y h ≡ others_attached look y h
untold_attached look begin l y [] f t e runs = refl
untold_attached look begin l y (Sends k u c ∷ h) f t e runs =
    ap (λ xs. xs ++ look.makes y u) (untold_attached look begin l y h f.1 t.1 (false_right (look.registers y c) (is_told look begin y h) e) f.0)
untold_attached look begin l y (Changes k u ∷ h) f t e runs = ap (λ xs. xs ++ look.makes y u) (untold_attached look begin l y h f.1 t.1 e runs)
untold_attached look begin l y (Accepts k w ∷ h) f t e runs =
    ap (λ xs. attached look y h ++ xs) (nothing_made look y w (look.makes y w) (own_write look begin y w h t.1 runs f.0) (λ x is. untold_writes look begin l w h f.1 t.1 runs f.0 x (told_above look begin l x y is h ∙ e)))
    ∙ append-nil (attached look y h) ∙ untold_attached look begin l y h f.1 t.1 e runs
untold_attached look begin l y (Ends ∷ h) f t e runs = absurd cc
untold_attached look begin l y (_ ∷ h) f t e runs = untold_attached look begin l y h f.1 t.1 e runs

-- what a write that waits does, the process was told of
none_if : {X W B : Type 0} (look : Look X W B) (begin : Begin X) → Lawful look begin → (x : X) (w : W) (h : List (Event W B)) → Flows h → Fits look begin h → is_ended h ≡ false → IsFirst w (writes_waiting h) →
    (look.does x w ≡ Comes → ⊥) → (look.does x w ≡ Goes → ⊥) → look.does x w ≡ Stays
none_if look begin l x w h f t runs first no_come no_go = go (look.does x w) refl
  where
    go : (a : Effect) → look.does x w ≡ a → look.does x w ≡ Stays
    go Stays e = e
    go Comes e = absurd (no_come e)
    go Goes e = absurd (no_go e)

goes_told : (s : Stage) → moved Goes s ≡ s → s ≡ Coming → ⊥
goes_told Coming e is = absurd cc
goes_told Held e is = absurd cc
goes_told Gone e is = absurd cc

pub wrote_told : {X W B : Type 0} (look : Look X W B) (begin : Begin X) → Lawful look begin → (x : X) (w : W) (h : List (Event W B)) → Flows h → Fits look begin h → is_ended h ≡ false → IsFirst w (writes_waiting h) →
    (look.does x w ≡ Stays → ⊥) → is_told look begin x h ≡ true
wrote_told look begin l x w h f t runs first moves = by_told (is_told look begin x h) refl
  where
    by_told : (b : Bool) → is_told look begin x h ≡ b → is_told look begin x h ≡ true
    by_told true e = e
    by_told false e = absurd (moves (none_if look begin l x w h f t runs first (λ comes. untold_writes look begin l w h f t runs first x e comes)
        (λ goes. goes_told (joint look begin x h) (sym (ap (λ a. moved a (joint look begin x h)) goes) ∙ first_did (look.does x) w h (joint look begin x h) first (joint_did look begin x h))
        (untold look begin l x h f t e runs))))

all_others_attached : {X W B : Type 0} (look : Look X W B) (begin : Begin X) (y : X) (h : List (Event W B)) → Fits look begin h → is_ended h ≡ false → AllByRecursion (OtherChild look y) (others_attached look y h)
all_others_attached look begin y [] t runs = tt
all_others_attached {X} look begin y (Sends k u c ∷ h) t runs = both_all (others_attached look y h) (look.makes y u) (all_others_attached look begin y h t.1 runs) (t.0 runs y).done.children
  where
    both_all : (xs ys : List X) → AllByRecursion (OtherChild look y) xs → AllByRecursion (OtherChild look y) ys → AllByRecursion (OtherChild look y) (xs ++ ys)
    both_all [] ys a b = b
    both_all (x ∷ xs) ys a b = (a.0, both_all xs ys a.1 b)
all_others_attached {X} look begin y (Changes k u ∷ h) t runs = both_all (others_attached look y h) (look.makes y u) (all_others_attached look begin y h t.1 runs) (t.0 runs y).done.children
  where
    both_all : (xs ys : List X) → AllByRecursion (OtherChild look y) xs → AllByRecursion (OtherChild look y) ys → AllByRecursion (OtherChild look y) (xs ++ ys)
    both_all [] ys a b = b
    both_all (x ∷ xs) ys a b = (a.0, both_all xs ys a.1 b)
all_others_attached look begin y (Ends ∷ h) t runs = absurd cc
all_others_attached look begin y (_ ∷ h) t runs = all_others_attached look begin y h t.1 runs

-- while the process isn't told of y, all that is attached below it is of others
pub untold_others : {X W B : Type 0} (look : Look X W B) (begin : Begin X) → Lawful look begin → (y : X) (h : List (Event W B)) → Flows h → Fits look begin h → is_told look begin y h ≡ false → is_ended h ≡ false →
    AllByRecursion (OtherChild look y) (attached look y h)
untold_others look begin l y h f t e runs = subst (AllByRecursion (OtherChild look y)) (sym (untold_attached look begin l y h f t e runs)) (all_others_attached look begin y h t runs)

-- what others attached is what was sent, as far as it isn't discarded
sent_below : {X W B : Type 0} (look : Look X W B) (begin : Begin X) (k : ℕ) (u : W) (c : B) (y : X) (h : List (Event W B)) → (registers told_before : Bool) → (registers || told_before) ≡ true →
    Brought told_before registers (look.brings y c) (look.makes y u) (filter (is_alive look begin (Sends k u c ∷ h)) (attached look y h ++ look.makes y u)) →
    (told_before ≡ true → filter (is_alive look begin h) (others_attached look y h) ≡ filter (is_alive look begin h) (all_brings look y (bundles_sent h))) →
    (told_before ≡ false → attached look y h ≡ others_attached look y h) → (told_before ≡ false → all_brings look y (bundles_sent h) ≡ []) →
    filter (is_alive look begin (Sends k u c ∷ h)) (others_attached look y h ++ look.makes y u)
    ≡ filter (is_alive look begin (Sends k u c ∷ h)) (all_brings look y (bundles_sent h) ++ look.brings y c)
sent_below look begin k u c y h registers true e brought before all none =
    both_more (is_alive look begin (Sends k u c ∷ h)) (others_attached look y h) (all_brings look y (bundles_sent h)) (look.makes y u)
    (stronger (is_alive look begin (Sends k u c ∷ h)) (is_alive look begin h) (λ x. alive_before (look.does x u) (life look begin x h))
    (others_attached look y h) (all_brings look y (bundles_sent h)) (before refl))
    ∙ ap (λ xs. filter (is_alive look begin (Sends k u c ∷ h)) (all_brings look y (bundles_sent h) ++ xs)) (sym brought)
sent_below look begin k u c y h true false e brought before all none =
    ap (λ xs. filter (is_alive look begin (Sends k u c ∷ h)) (xs ++ look.makes y u)) (sym (all refl))
    ∙ sym (filter_still (is_alive look begin (Sends k u c ∷ h)) (is_alive look begin (Sends k u c ∷ h)) (λ x alive. alive) (attached look y h ++ look.makes y u))
    ∙ ap (filter (is_alive look begin (Sends k u c ∷ h))) (sym brought)
    ∙ ap (λ xs. filter (is_alive look begin (Sends k u c ∷ h)) (xs ++ look.brings y c)) (sym (none refl))
sent_below look begin k u c y h false false e brought before all none = absurd cc

others_told : {X W B : Type 0} (look : Look X W B) (begin : Begin X) → Lawful look begin → (y : X) (h : List (Event W B)) → Flows h → Fits look begin h → is_told look begin y h ≡ true →
    filter (is_alive look begin h) (others_attached look y h) ≡ filter (is_alive look begin h) (all_brings look y (bundles_sent h))
others_told look begin l y [] f t e = refl
others_told look begin l y (Sends k u c ∷ h) f t e =
    sent_below look begin k u c y h (look.registers y c) (is_told look begin y h) e (t.0 f.0 y).brought
    (others_told look begin l y h f.1 t.1) (λ was. untold_attached look begin l y h f.1 t.1 was f.0) (λ was. untold_sent look begin y h f.1 t.1 was f.0)
    ∙ ap (filter (is_alive look begin (Sends k u c ∷ h))) (sym (brings_push look y (bundles_sent h) (record { entry = k; epoch = hears h; content = c })))
others_told look begin l y (Changes k u ∷ h) f t e =
    ap (λ xs. filter (is_alive look begin (Changes k u ∷ h)) (others_attached look y h ++ xs)) ((t.0 (told_runs look begin y h f.1 e) y).makes_none e)
    ∙ ap (filter (is_alive look begin (Changes k u ∷ h))) (append-nil (others_attached look y h))
    ∙ stronger (is_alive look begin (Changes k u ∷ h)) (is_alive look begin h) (λ x. alive_before (look.does x u) (life look begin x h))
    (others_attached look y h) (all_brings look y (bundles_sent h)) (others_told look begin l y h f.1 t.1 e)
others_told look begin l y (Accepts k w ∷ h) f t e =
    stronger (is_alive look begin (Accepts k w ∷ h)) (is_alive look begin h) (λ x. alive_before (look.does x w) (life look begin x h))
    (others_attached look y h) (all_brings look y (bundles_sent h)) (others_told look begin l y h f.1 t.1 e)
others_told look begin l y (Reverts k w c ∷ h) f t e =
    stronger (is_alive look begin (Reverts k w c ∷ h)) (is_alive look begin h) (λ x. alive_before (look.tells x c) (life look begin x h))
    (others_attached look y h) (all_brings look y (bundles_sent h)) (others_told look begin l y h f.1 t.1 e)
    ∙ ap (filter (is_alive look begin (Reverts k w c ∷ h)))
    (sym (brings_push look y (bundles_sent h) (record { entry = k; epoch = hears h + 1; content = c })
    ∙ ap (λ xs. all_brings look y (bundles_sent h) ++ xs) ((t.0 (told_runs look begin y h f.1 e) y).brings_none) ∙ append-nil (all_brings look y (bundles_sent h))))
others_told look begin l y (Ends ∷ h) f t e = absurd cc
others_told look begin l y (_ ∷ h) f t e = others_told look begin l y h f.1 t.1 e

-- ---- both

held_alive : (s : Stage) → is_held s ≡ true → not (is_gone s) ≡ true
held_alive Coming e = absurd cc
held_alive Held e = refl
held_alive Gone e = absurd cc

quiet_own : {X W B : Type 0} (look : Look X W B) (begin : Begin X) (y : X) (h : List (Event W B)) → Flows h → Fits look begin h → is_ended h ≡ false → writes_waiting h ≡ [] →
    filter (λ x. is_held (life look begin x h)) (own_attached look y h) ≡ filter (λ x. is_held (life look begin x h)) (all_makes look y (writes h))
quiet_own look begin y h f t runs ups =
    stronger (λ x. is_held (life look begin x h)) (is_alive look begin h) (λ x. held_alive (life look begin x h)) (own_attached look y h) (all_makes look y (writes h))
    (ap (filter (is_alive look begin h)) (sym (append-nil (own_attached look y h)) ∙ sym (ap (λ ws. own_attached look y h ++ all_makes look y ws) ups)) ∙ own_leads look begin y h f t runs)

quiet_others : {X W B : Type 0} (look : Look X W B) (begin : Begin X) → Lawful look begin → (y : X) (h : List (Event W B)) → Flows h → Fits look begin h → is_told look begin y h ≡ true → bundles_waiting h ≡ [] →
    filter (λ x. is_held (life look begin x h)) (others_attached look y h) ≡ filter (λ x. is_held (life look begin x h)) (others_came look y h)
quiet_others look begin l y h f t e downs =
    stronger (λ x. is_held (life look begin x h)) (is_alive look begin h) (λ x. held_alive (life look begin x h)) (others_attached look y h) (all_brings look y (bundles_sent h))
    (others_told look begin l y h f t e)
    ∙ ap (filter (λ x. is_held (life look begin x h))) (sym (others_lead look y h f) ∙ ap (λ ds. others_came look y h ++ all_brings look y ds) downs ∙ append-nil (others_came look y h))

filter_where : {X : Type 0} (P : X → Type 0) (p q : X → Bool) → ((x : X) → P x → p x ≡ q x) → (xs : List X) → AllByRecursion P xs → filter p xs ≡ filter q xs
filter_where P p q same [] all = refl
filter_where P p q same (x ∷ xs) all = rw (same x all.0) (ap (λ ys. cond (q x) (x ∷ ys) ys) (filter_where P p q same xs all.1))

all_after : {X : Type 0} (P Q : X → Type 0) (xs ys : List X) → ((x : X) → Q x → P x) → AllByRecursion P xs → AllByRecursion Q ys → AllByRecursion P (xs ++ ys)
all_after P Q [] [] so a b = tt
all_after P Q [] (y ∷ ys) so a b = (so y b.0, all_after P Q [] ys so tt b.1)
all_after P Q (x ∷ xs) ys so a b = (a.0, all_after P Q xs ys so a.1 b)

-- all that came below y was made there
came_below : {X W B : Type 0} (look : Look X W B) (begin : Begin X) (y : X) (h : List (Event W B)) → Fits look begin h → is_ended h ≡ false → Flows h → AllByRecursion (λ x. look.above x ≡ Some y) (came look y h)
came_below look begin y [] t runs f = tt
came_below look begin y (Writes w ∷ h) t runs f = all_after (λ x. look.above x ≡ Some y) (OwnChild look y w) (came look y h) (look.makes y w) (λ x o. o.below) (came_below look begin y h t.1 runs f.1) (t.0 runs y).children
came_below look begin y (Takes d ∷ h) t runs f = all_after (λ x. look.above x ≡ Some y) (OtherChild look y) (came look y h) (look.brings y d.content) (λ x o. o.below) (came_below look begin y h t.1 runs f.1) (others_bundle look begin y d h t.1 runs f.0)
came_below look begin y (Ends ∷ h) t runs f = absurd cc
came_below look begin y (_ ∷ h) t runs f = came_below look begin y h t.1 runs f.1

pub order : {X W B : Type 0} (look : Look X W B) (begin : Begin X) (h : List (Event W B)) → Keeps look begin h → writes_waiting h ≡ [] → bundles_waiting h ≡ [] →
    (y : X) → is_told look begin y h ≡ true → held_below look begin y h ≡ live_below look begin y h
order {X} look begin h k ups downs y e =
    filter_where (λ x. look.above x ≡ Some y) (λ x. is_held (stage look begin x h)) live (λ x is. existence look begin h k ups downs x (told_above look begin k.lawful x y is h ∙ e)) (came look y h)
    (came_below look begin y h k.fits (told_runs look begin y h k.flows e) k.flows) ∙ by (owned look begin y h) refl
  where
    live : X → Bool
    live x = is_held (life look begin x h)

    runs : is_ended h ≡ false
    runs = told_runs look begin y h k.flows e

    owner : (x : X) → look.above x ≡ Some y → live x ≡ true → look.is_own x ≡ owned look begin y h
    owner x is now = one_owner look begin k.lawful x y is h k.fits runs (held_is (life look begin x h) now)

    by : (b : Bool) → owned look begin y h ≡ b → filter live (came look y h) ≡ filter live (attached look y h)
    by true has =
        let own : PassesOwn look y live = λ x is other. unless (live x) (λ now. let too : look.is_own x ≡ owned look begin y h = owner x is now in absurd cc) in
        came_own look begin y live own h k.flows k.fits runs ∙ sym (quiet_own look begin y h k.flows k.fits runs ups) ∙ sym (attached_own look begin y live own h k.fits runs)
    by false has =
        let others : PassesOthers look y live = λ x is own. unless (live x) (λ now. let too : look.is_own x ≡ owned look begin y h = owner x is now in absurd cc) in
        came_others look begin y live others h k.fits runs ∙ sym (quiet_others look begin k.lawful y h k.flows k.fits e downs) ∙ sym (attached_others look begin y live others h k.flows k.fits runs)
