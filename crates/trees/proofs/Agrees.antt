-- The joint stage of a context against its life in the parent: they are the same but for what waits to be heard.
use Rattle.std.proofs.Common.{◌≡◌, ℕ, Bool, true, false, Some, List, [], ◌∷◌, ◌++◌, refl, ap, sym, subst, ◌∙◌, ap₂, ◌||◌}
use Rattle.std.specs.Prelude.{◌||◌}
use Rattle.traces.specs.Event.{Event}
use Rattle.traces.specs.Event.Event.{Writes, Sends, Accepts, Reverts, Ignores, Changes, Ends}
use Rattle.traces.specs.Links.{writes_waiting, bundles_waiting, is_ended}
use Rattle.traces.specs.Rules.{IsFirst, Flows}
use Rattle.traces.specs.Words.{Stage}
use Rattle.traces.specs.Words.Stage.{Coming, Held, Gone}
use Rattle.traces.proofs.Waits.{write_waits, heard_leaves}
use Rattle.trees.specs.Laws.{GoingWaits}
use Rattle.trees.specs.Look.{Effect, moved, Look, Begin}
use Rattle.trees.specs.Look.Effect.{Stays, Comes, Goes}
use Rattle.trees.specs.Words.{is_told, stage, life, joint, is_held, Stands}
use Rattle.trees.specs.Rules.{Lawful, Above, Makes, Acts, Done, Tells, Told, told_whole, Returned, GivesBack, Ignored, Fits, Keeps}
use Rattle.trees.proofs.Effects.{stands_before, stands_last, stands_rest}
use Rattle.trees.proofs.Joint.{stage_behind, leads, behind_new, joint_did, first_did, untold}
use Rattle.trees.proofs.Above.{joint_below, with_above}

-- a joint stage and a life agree, where a making that waits would be M, and a drop that waits D
abbrev pub Agrees : Stage → Stage → Type 0 → Type 0 → Type 0
Agrees Coming Held M D = ⊥
Agrees Held Coming M D = M
Agrees Held Gone M D = ⊥
Agrees Gone Coming M D = D
Agrees Gone Held M D = D
Agrees _ _ M D = Unit {0}

more : (j l : Stage) (M D M' D' : Type 0) → (M → M') → (D → D') → Agrees j l M D → Agrees j l M' D'
more Coming Coming M D M' D' m d a = a
more Coming Held M D M' D' m d a = a
more Coming Gone M D M' D' m d a = a
more Held Coming M D M' D' m d a = m a
more Held Held M D M' D' m d a = a
more Held Gone M D M' D' m d a = a
more Gone Coming M D M' D' m d a = d a
more Gone Held M D M' D' m d a = d a
more Gone Gone M D M' D' m d a = a

-- both come or both go: a coming is of what the parent doesn't know
both : (a : Effect) (j l : Stage) (M D : Type 0) → (a ≡ Comes → l ≡ Coming) → Agrees j l M D → Agrees (moved a j) (moved a l) M D
both Stays j l M D new g = g
both Comes Coming Coming M D new g = tt
both Comes Held Coming M D new g = tt
both Comes Gone Coming M D new g = g
both Comes j Held M D new g = let is : Held ≡ Coming = new refl in absurd cc
both Comes j Gone M D new g = let is : Gone ≡ Coming = new refl in absurd cc
both Goes j l M D new g = tt

-- the process makes a context, or drops it
made : (j l : Stage) (M D : Type 0) → M → (j ≡ Coming → l ≡ Gone → ⊥) → Agrees j l M D → Agrees (moved Comes j) l M D
made Coming Coming M D m alive g = m
made Coming Held M D m alive g = absurd g
made Coming Gone M D m alive g = absurd (alive refl refl)
made Held l M D m alive g = g
made Gone l M D m alive g = g

dropped : (l : Stage) (M D : Type 0) → D → Agrees Gone l M D
dropped Coming M D d = d
dropped Held M D d = d
dropped Gone M D d = tt

-- the parent hears that a context was made; the process did that already
heard_made : (j l : Stage) (M D M' D' : Type 0) → moved Comes j ≡ j → l ≡ Coming → (D → D') → Agrees j l M D → Agrees j (moved Comes l) M' D'
heard_made Coming l M D M' D' did new d g = absurd cc
heard_made Held Coming M D M' D' did new d g = tt
heard_made Gone Coming M D M' D' did new d g = d g
heard_made j Held M D M' D' did new d g = absurd cc
heard_made j Gone M D M' D' did new d g = absurd cc

-- or that it was dropped
heard_dropped : (j : Stage) (M D : Type 0) → moved Goes j ≡ j → Agrees j Gone M D
heard_dropped Coming M D did = absurd cc
heard_dropped Held M D did = absurd cc
heard_dropped Gone M D did = tt

-- all that is live comes to a process that has nothing
comes_whole : (l : Stage) (M D : Type 0) → Agrees (moved (told_whole l) Coming) l M D
comes_whole Coming M D = tt
comes_whole Held M D = tt
comes_whole Gone M D = tt

starts : (s : Stage) (M D : Type 0) → (s ≡ Gone → ⊥) → Agrees s s M D
starts Coming M D alive = tt
starts Held M D alive = tt
starts Gone M D alive = tt

-- a process that is told of the group wasn't ended
pub told_runs : {X W B : Type 0} (look : Look X W B) (begin : Begin X) (x : X) (h : List (Event W B)) → Flows h → is_told look begin x h ≡ true → is_ended h ≡ false
told_runs look begin x [] f e = refl
told_runs look begin x (Sends k u c ∷ h) f e = f.0
told_runs look begin x (Ends ∷ h) f e = absurd cc
told_runs look begin x (_ ∷ h) f e = told_runs look begin x h f.1 e

-- M, a making of x that waits to be heard, and D, a drop of x or of what is above it
abbrev pub MakeWaits : {X W B : Type 0} → Look X W B → X → List (Event W B) → Type 0
MakeWaits look x h = Stands (look.does x) Comes (writes_waiting h)

-- who is told of a context is told of the one above
pub told_above : {X W B : Type 0} (look : Look X W B) (begin : Begin X) → Lawful look begin → (x y : X) → look.above x ≡ Some y → (h : List (Event W B)) → is_told look begin x h ≡ is_told look begin y h
told_above look begin l x y is [] = l.told_below x y is
told_above look begin l x y is (Sends k u c ∷ h) = ap₂ (λ a b. a || b) (l.registers_below x y c is) (told_above look begin l x y is h)
told_above look begin l x y is (Ends ∷ h) = refl
told_above look begin l x y is (_ ∷ h) = told_above look begin l x y is h

-- all contexts that the process is told of agree
abbrev pub AllAgree : {X W B : Type 0} → Look X W B → Begin X → List (Event W B) → Type 0
AllAgree {X} look begin h = (x : X) → is_told look begin x h ≡ true → Agrees (joint look begin x h) (life look begin x h) (MakeWaits look x h) (GoingWaits look x h)

-- what the process makes isn't discarded, but with the one above, and then it goes in the process too
makes_alive : {X W B : Type 0} (look : Look X W B) (begin : Begin X) → Lawful look begin → (x : X) (h : List (Event W B)) → Flows h → Fits look begin h → is_ended h ≡ false →
    AllAgree look begin h → Makes look begin x h → joint look begin x h ≡ Coming → life look begin x h ≡ Gone → ⊥
makes_alive {X} {W} {B} look begin l x h f t runs all m coming gone = go m.below (with_above look begin l x m.own h f t runs m.new gone)
  where
    below : (y : X) → look.above x ≡ Some y → stage look begin y h ≡ Held → life look begin y h ≡ Gone → (s : Stage) → joint look begin y h ≡ s → ⊥
    below y is held lost Gone same = let too : joint look begin x h ≡ Gone = joint_below look begin l x y is h same in absurd cc
    below y is held lost Held same = subst (λ q. Agrees Held q (MakeWaits look y h) (GoingWaits look y h)) lost
        (subst (λ q. Agrees q (life look begin y h) (MakeWaits look y h) (GoingWaits look y h)) same (all y (sym (told_above look begin l x y is h) ∙ m.told)))
    below y is held lost Coming same =
        let new : stage look begin y h ≡ Coming = behind_new (look.tells y) (bundles_waiting h) (stage look begin y h) (leads look begin y h f ∙ same) in absurd cc

    go : Above look x (λ y. stage look begin y h ≡ Held) → Above look x (λ y. life look begin y h ≡ Gone) → ⊥
    go (y, is, held) (z, too, lost) =
        let same : Some y ≡ Some z = sym is ∙ too in
        below z too (subst (λ q. stage look begin q h ≡ Held) (cc) held) lost (joint look begin z h) refl

wrote : {X W B : Type 0} (look : Look X W B) (begin : Begin X) → Lawful look begin → (w : W) (h : List (Event W B)) → Flows h → Fits look begin h → is_ended h ≡ false → (x : X) →
    AllAgree look begin h → is_told look begin x h ≡ true → (a : Effect) → look.does x w ≡ a → Acts look begin x h a →
    Agrees (moved a (joint look begin x h)) (life look begin x h) (Stands (look.does x) Comes (writes_waiting h ++ w ∷ [])) (Stands (look.does x) Goes (writes_waiting h ++ w ∷ []))
wrote {X} look begin l w h f t runs x all told a is acts = go a is acts
  where
    M : Type 0
    M = Stands (look.does x) Comes (writes_waiting h ++ w ∷ [])

    D : Type 0
    D = Stands (look.does x) Goes (writes_waiting h ++ w ∷ [])

    before : Agrees (joint look begin x h) (life look begin x h) M D
    before = more (joint look begin x h) (life look begin x h) (MakeWaits look x h) (GoingWaits look x h) M D
        (stands_before (look.does x) Comes (writes_waiting h) (w ∷ [])) (stands_before (look.does x) Goes (writes_waiting h) (w ∷ [])) (all x told)

    go : (a : Effect) → look.does x w ≡ a → Acts look begin x h a → Agrees (moved a (joint look begin x h)) (life look begin x h) M D
    go Stays is acts = before
    go Comes is acts = made (joint look begin x h) (life look begin x h) M D (stands_last (look.does x) Comes (writes_waiting h) w is) (makes_alive look begin l x h f t runs all acts) before
    go Goes is acts = dropped (life look begin x h) M D (stands_last (look.does x) Goes (writes_waiting h) w is)

sent : {X W B : Type 0} (look : Look X W B) (begin : Begin X) (k : ℕ) (u : W) (c : B) (h : List (Event W B)) (x : X) → Tells look begin (Sends k u c) u c x h →
    (told_before : Bool) → is_told look begin x h ≡ told_before → (registers : Bool) → look.registers x c ≡ registers → (registers || told_before) ≡ true →
    (is_told look begin x h ≡ true → Agrees (joint look begin x h) (life look begin x h) (MakeWaits look x h) (GoingWaits look x h)) →
    (is_told look begin x h ≡ false → joint look begin x h ≡ Coming) →
    Agrees (moved (look.tells x c) (joint look begin x h)) (moved (look.does x u) (life look begin x h)) (MakeWaits look x h) (GoingWaits look x h)
sent look begin k u c h x t true was r is e agree new =
    let as_done : look.tells x c ≡ look.does x u = subst (λ b. Told b (look.registers x c) (look.does x u) (look.tells x c) (life look begin x h)) was t.told in
    rw as_done (both (look.does x u) (joint look begin x h) (life look begin x h) (MakeWaits look x h) (GoingWaits look x h) t.done.done.new (agree was))
sent look begin k u c h x t false was true is e agree new =
    let whole : look.tells x c ≡ told_whole (moved (look.does x u) (life look begin x h)) =
    subst (λ r. Told false r (look.does x u) (look.tells x c) (life look begin x h)) is
    (subst (λ b. Told b (look.registers x c) (look.does x u) (look.tells x c) (life look begin x h)) was t.told) in
    rw whole (rw (new was) (comes_whole (moved (look.does x u) (life look begin x h)) (MakeWaits look x h) (GoingWaits look x h)))
sent look begin k u c h x t false was false is e agree new = absurd cc

accepted : {X W B : Type 0} (look : Look X W B) (begin : Begin X) (k : ℕ) (w : W) (h : List (Event W B)) (x : X) (first : IsFirst w (writes_waiting h)) → Done look begin (Accepts k w) w x h →
    Agrees (joint look begin x h) (life look begin x h) (MakeWaits look x h) (GoingWaits look x h) → (a : Effect) → look.does x w ≡ a →
    Agrees (joint look begin x h) (moved a (life look begin x h)) (Stands (look.does x) Comes first.rest) (Stands (look.does x) Goes first.rest)
accepted look begin k w h x first done g a is = go a is
  where
    did : moved (look.does x w) (joint look begin x h) ≡ joint look begin x h
    did = first_did (look.does x) w h (joint look begin x h) first (joint_did look begin x h)

    rest : (e : Effect) → (look.does x w ≡ e → ⊥) → Stands (look.does x) e (writes_waiting h) → Stands (look.does x) e first.rest
    rest e other s = stands_rest (look.does x) e w first.rest other (subst (λ ws. Stands (look.does x) e ws) first.is s)

    go : (a : Effect) → look.does x w ≡ a → Agrees (joint look begin x h) (moved a (life look begin x h)) (Stands (look.does x) Comes first.rest) (Stands (look.does x) Goes first.rest)
    go Stays is = more (joint look begin x h) (life look begin x h) (MakeWaits look x h) (GoingWaits look x h) (Stands (look.does x) Comes first.rest) (Stands (look.does x) Goes first.rest)
        (rest Comes (λ e. absurd cc)) (rest Goes (λ e. absurd cc)) g
    go Comes is = heard_made (joint look begin x h) (life look begin x h) (MakeWaits look x h) (GoingWaits look x h) (Stands (look.does x) Comes first.rest) (Stands (look.does x) Goes first.rest)
        (subst (λ a. moved a (joint look begin x h) ≡ joint look begin x h) is did) (done.new is) (rest Goes (λ e. absurd cc)) g
    go Goes is = heard_dropped (joint look begin x h) (Stands (look.does x) Comes first.rest) (Stands (look.does x) Goes first.rest)
        (subst (λ a. moved a (joint look begin x h) ≡ joint look begin x h) is did)

sent_back : {X W B : Type 0} (look : Look X W B) (begin : Begin X) (w : W) (c : B) (h : List (Event W B)) (x : X) (first : IsFirst w (writes_waiting h)) → GivesBack look begin w c x h →
    Agrees (joint look begin x h) (life look begin x h) (MakeWaits look x h) (GoingWaits look x h) →
    Agrees (moved (look.tells x c) (joint look begin x h)) (moved (look.tells x c) (life look begin x h)) (Stands (look.does x) Comes first.rest) (Stands (look.does x) Goes first.rest)
sent_back look begin w c h x first back g = go (look.does x w) (look.tells x c) refl refl
  where
    rest : (e : Effect) → (look.does x w ≡ e → ⊥) → Stands (look.does x) e (writes_waiting h) → Stands (look.does x) e first.rest
    rest e other s = stands_rest (look.does x) e w first.rest other (subst (λ ws. Stands (look.does x) e ws) first.is s)

    returned : (a b : Effect) → look.does x w ≡ a → look.tells x c ≡ b → Returned a b
    returned a b isa isb = subst (λ q. Returned q b) isa (subst (λ q. Returned (look.does x w) q) isb back.returned)

    go : (a b : Effect) → look.does x w ≡ a → look.tells x c ≡ b →
        Agrees (moved b (joint look begin x h)) (moved b (life look begin x h)) (Stands (look.does x) Comes first.rest) (Stands (look.does x) Goes first.rest)
    go a Goes isa isb = tt
    go Stays Stays isa isb = more (joint look begin x h) (life look begin x h) (MakeWaits look x h) (GoingWaits look x h) (Stands (look.does x) Comes first.rest) (Stands (look.does x) Goes first.rest)
        (rest Comes (λ e. absurd cc)) (rest Goes (λ e. absurd cc)) g
    go Stays Comes isa isb = absurd (returned Stays Comes isa isb refl)
    go Comes Stays isa isb = let goes : Stays ≡ Goes = returned Comes Stays isa isb in absurd cc
    go Comes Comes isa isb = let goes : Comes ≡ Goes = returned Comes Comes isa isb in absurd cc
    go Goes Stays isa isb = absurd (returned Goes Stays isa isb)
    go Goes Comes isa isb = absurd (returned Goes Comes isa isb)

ignored : {X W B : Type 0} (look : Look X W B) (begin : Begin X) (w : W) (h : List (Event W B)) (x : X) (first : IsFirst w (writes_waiting h)) → Ignored (look.does x w) (life look begin x h) →
    Agrees (joint look begin x h) (life look begin x h) (MakeWaits look x h) (GoingWaits look x h) →
    Agrees (joint look begin x h) (life look begin x h) (Stands (look.does x) Comes first.rest) (Stands (look.does x) Goes first.rest)
ignored look begin w h x first i g = go (look.does x w) refl
  where
    did : moved (look.does x w) (joint look begin x h) ≡ joint look begin x h
    did = first_did (look.does x) w h (joint look begin x h) first (joint_did look begin x h)

    rest : (e : Effect) → (look.does x w ≡ e → ⊥) → Stands (look.does x) e (writes_waiting h) → Stands (look.does x) e first.rest
    rest e other s = stands_rest (look.does x) e w first.rest other (subst (λ ws. Stands (look.does x) e ws) first.is s)

    go : (a : Effect) → look.does x w ≡ a → Agrees (joint look begin x h) (life look begin x h) (Stands (look.does x) Comes first.rest) (Stands (look.does x) Goes first.rest)
    go Stays is = more (joint look begin x h) (life look begin x h) (MakeWaits look x h) (GoingWaits look x h) (Stands (look.does x) Comes first.rest) (Stands (look.does x) Goes first.rest)
        (rest Comes (λ e. absurd cc)) (rest Goes (λ e. absurd cc)) g
    go Comes is = absurd (subst (λ a. Ignored a (life look begin x h)) is i)
    go Goes is =
        let gone : life look begin x h ≡ Gone = subst (λ a. Ignored a (life look begin x h)) is i in
        rw gone (heard_dropped (joint look begin x h) (Stands (look.does x) Comes first.rest) (Stands (look.does x) Goes first.rest)
        (subst (λ a. moved a (joint look begin x h) ≡ joint look begin x h) is did))

pub agrees : {X W B : Type 0} (look : Look X W B) (begin : Begin X) → Lawful look begin → (h : List (Event W B)) → Flows h → Fits look begin h → AllAgree look begin h
agrees look begin l [] f t x e = rw (l.has_live x e) (starts (begin.life x) (MakeWaits look x []) (GoingWaits look x []) (l.none_gone x))
agrees look begin l (Writes w ∷ h) f t x e =
    subst (λ ws. Agrees (moved (look.does x w) (joint look begin x h)) (life look begin x h) (Stands (look.does x) Comes ws) (Stands (look.does x) Goes ws)) (sym (write_waits w h f.1))
    (wrote look begin l w h f.1 t.1 (told_runs look begin x h f.1 e) x (agrees look begin l h f.1 t.1) e (look.does x w) refl (t.0 (told_runs look begin x h f.1 e) x).acts)
agrees look begin l (Sends k u c ∷ h) f t x e =
    sent look begin k u c h x (t.0 f.0 x) (is_told look begin x h) refl (look.registers x c) refl e
    (λ was. agrees look begin l h f.1 t.1 x was) (λ was. untold look begin l x h f.1 t.1 was f.0)
agrees look begin l (Accepts k w ∷ h) f t x e =
    subst (λ ws. Agrees (joint look begin x h) (moved (look.does x w) (life look begin x h)) (Stands (look.does x) Comes ws) (Stands (look.does x) Goes ws)) (sym (heard_leaves w h f.0))
    (accepted look begin k w h x f.0 (t.0 (told_runs look begin x h f.1 e) x) (agrees look begin l h f.1 t.1 x e) (look.does x w) refl)
agrees look begin l (Reverts k w c ∷ h) f t x e =
    subst (λ ws. Agrees (moved (look.tells x c) (joint look begin x h)) (moved (look.tells x c) (life look begin x h)) (Stands (look.does x) Comes ws) (Stands (look.does x) Goes ws)) (sym (heard_leaves w h f.0.first))
    (sent_back look begin w c h x f.0.first (t.0 (told_runs look begin x h f.1 e) x) (agrees look begin l h f.1 t.1 x e))
agrees look begin l (Ignores k w ∷ h) f t x e =
    subst (λ ws. Agrees (joint look begin x h) (life look begin x h) (Stands (look.does x) Comes ws) (Stands (look.does x) Goes ws)) (sym (heard_leaves w h f.0))
    (ignored look begin w h x f.0 (t.0 (told_runs look begin x h f.1 e) x) (agrees look begin l h f.1 t.1 x e))
agrees look begin l (Changes k u ∷ h) f t x e = rw ((t.0 (told_runs look begin x h f.1 e) x).untold e) (agrees look begin l h f.1 t.1 x e)
agrees look begin l (Ends ∷ h) f t x e = absurd cc
agrees look begin l (_ ∷ h) f t x e = agrees look begin l h f.1 t.1 x e

same_held : (j l : Stage) (M D : Type 0) → (M → ⊥) → (D → ⊥) → Agrees j l M D → is_held j ≡ is_held l
same_held Coming Coming M D m d g = refl
same_held Coming Held M D m d g = absurd g
same_held Coming Gone M D m d g = refl
same_held Held Coming M D m d g = absurd (m g)
same_held Held Held M D m d g = refl
same_held Held Gone M D m d g = absurd g
same_held Gone Coming M D m d g = refl
same_held Gone Held M D m d g = absurd (d g)
same_held Gone Gone M D m d g = refl

pub existence : {X W B : Type 0} (look : Look X W B) (begin : Begin X) (h : List (Event W B)) → Keeps look begin h →
    writes_waiting h ≡ [] → bundles_waiting h ≡ [] → (x : X) → is_told look begin x h ≡ true → is_held (stage look begin x h) ≡ is_held (life look begin x h)
existence look begin h k ups downs x e =
    ap is_held (sym (ap (λ ds. stage_behind (look.tells x) ds (stage look begin x h)) downs) ∙ leads look begin x h k.flows)
    ∙ same_held (joint look begin x h) (life look begin x h) (MakeWaits look x h) (GoingWaits look x h)
    (subst (λ ws. Stands (look.does x) Comes ws → ⊥) (sym ups) (λ s. s)) (subst (λ ws. Stands (look.does x) Goes ws → ⊥) (sym ups) (λ s. s))
    (agrees look begin k.lawful h k.flows k.fits x e)

pub nothing_held : {X W B : Type 0} (look : Look X W B) (begin : Begin X) (h : List (Event W B)) → Keeps look begin h → is_ended h ≡ false →
    (x : X) → is_told look begin x h ≡ false → stage look begin x h ≡ Coming
nothing_held look begin h k runs x e = behind_new (look.tells x) (bundles_waiting h) (stage look begin x h) (leads look begin x h k.flows ∙ untold look begin k.lawful x h k.flows k.fits e runs)
