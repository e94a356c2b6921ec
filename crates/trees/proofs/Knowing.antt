-- What an honest process makes was never heard of before, and what else it names was.
use Rattle.std.proofs.Common.{◌≡◌, ℕ, ◌+◌, ◌⊎◌, inl, inr, Bool, true, false, List, [], ◌∷◌, ◌++◌, drop, refl, ap, sym, subst, ◌∙◌}
use Rattle.std.specs.Prelude.{◌||◌}
use Rattle.std.specs.List.{AllByRecursion}
use Prim.Native.Nat.{zero, suc}
use Rattle.traces.specs.Event.{Bundle, Event}
use Rattle.traces.specs.Event.Event.{Writes, Sends, Takes, Accepts, Reverts, Ignores, Changes, Ends}
use Rattle.traces.specs.Links.{hears, writes, writes_waiting, takes, bundles_sent, is_ended}
use Rattle.traces.specs.Rules.{IsFirst, Flows}
use Rattle.traces.specs.Words.{Stage}
use Rattle.traces.specs.Words.Stage.{Coming, Held, Gone}
use Rattle.traces.proofs.Waits.{write_waits, heard_leaves}
use Rattle.trees.specs.Look.{Effect, moved, Look, Begin}
use Rattle.trees.specs.Look.Effect.{Stays, Comes, Goes}
use Rattle.trees.specs.Words.{is_told, stage, life, is_held, is_known, Stands}
use Rattle.trees.specs.Rules.{Lawful, Makes, Acts, Told, told_whole, is_coming, Returned, Fits, Keeps}
use Rattle.trees.proofs.Effects.{comes_new, new_before, unless, live_before, live_unbrought, stands_before, stands_last}
use Rattle.trees.proofs.Joint.{AllDid, stage_did, first_did}
use Rattle.trees.proofs.Lists.{all_push, first_is}

-- ---- what is known

true_left : (a b : Bool) → a ≡ true → (a || b) ≡ true
true_left true b e = refl
true_left false b e = absurd cc

true_right : (a b : Bool) → b ≡ true → (a || b) ≡ true
true_right true b e = refl
true_right false b e = e

either_true : (a b : Bool) → (a || b) ≡ true → (a ≡ true) ⊎ (b ≡ true)
either_true true b e = inl refl
either_true false b e = inr e

-- what each write makes it names, and the other way round
all_create : {X W B : Type 0} (look : Look X W B) (begin : Begin X) (x : X) (h : List (Event W B)) → Fits look begin h → is_ended h ≡ false →
    AllByRecursion (λ w. look.creates x w ≡ is_coming (look.does x w)) (writes h)
all_create look begin x [] t runs = tt
all_create look begin x (Writes w ∷ h) t runs = all_push (λ w. look.creates x w ≡ is_coming (look.does x w)) (writes h) w (all_create look begin x h t.1 runs) (t.0 runs x).creates
all_create look begin x (Ends ∷ h) t runs = absurd cc
all_create look begin x (_ ∷ h) t runs = all_create look begin x h t.1 runs

first_creates : {X W B : Type 0} (look : Look X W B) (begin : Begin X) (x : X) (w : W) (h : List (Event W B)) → Fits look begin h → is_ended h ≡ false → IsFirst w (writes_waiting h) →
    look.creates x w ≡ is_coming (look.does x w)
first_creates look begin x w h t runs first = first_is (λ w. look.creates x w ≡ is_coming (look.does x w)) (hears h) (writes h) w first (all_create look begin x h t runs)

coming_is : (a : Effect) → is_coming a ≡ true → a ≡ Comes
coming_is Stays e = absurd cc
coming_is Comes e = refl
coming_is Goes e = absurd cc

is_coming_of : (a : Effect) → a ≡ Comes → is_coming a ≡ true
is_coming_of a e = ap is_coming e

-- what is live is known
known_by : (c k : Bool) (a : Effect) (s : Stage) → (s ≡ Held → k ≡ true) → (a ≡ Comes → c ≡ true) → moved a s ≡ Held → (c || k) ≡ true
known_by c k a s was made live = go (live_before a s live)
  where
    go : (s ≡ Held) ⊎ (a ≡ Comes) → (c || k) ≡ true
    go (inl held) = true_right c k (was held)
    go (inr comes) = true_left c k (made comes)

pub live_known : {X W B : Type 0} (look : Look X W B) (begin : Begin X) (x : X) (h : List (Event W B)) → Flows h → Fits look begin h → is_ended h ≡ false → life look begin x h ≡ Held → is_known look begin x h ≡ true
live_known look begin x [] f t runs live = ap is_held live
live_known look begin x (Sends k u c ∷ h) f t runs live =
    known_by (look.creates x u) (is_known look begin x h) (look.does x u) (life look begin x h) (live_known look begin x h f.1 t.1 runs) (t.0 runs x).done.creates live
live_known look begin x (Changes k u ∷ h) f t runs live =
    known_by (look.creates x u) (is_known look begin x h) (look.does x u) (life look begin x h) (live_known look begin x h f.1 t.1 runs) (t.0 runs x).done.creates live
live_known look begin x (Accepts k w ∷ h) f t runs live =
    known_by (look.creates x w) (is_known look begin x h) (look.does x w) (life look begin x h) (live_known look begin x h f.1 t.1 runs)
    (λ comes. first_creates look begin x w h t.1 runs f.0 ∙ is_coming_of (look.does x w) comes) live
live_known look begin x (Reverts k w c ∷ h) f t runs live =
    true_right (look.creates x w) (is_known look begin x h) (live_known look begin x h f.1 t.1 runs (live_unbrought (look.does x w) (look.tells x c) (life look begin x h) (t.0 runs x).returned live))
live_known look begin x (Ignores k w ∷ h) f t runs live = true_right (look.creates x w) (is_known look begin x h) (live_known look begin x h f.1 t.1 runs live)
live_known look begin x (Ends ∷ h) f t runs live = absurd cc
live_known look begin x (_ ∷ h) f t runs live = live_known look begin x h f.1 t.1 runs live

-- ---- what the process makes is new

pub acts_own : {X W B : Type 0} (look : Look X W B) (begin : Begin X) (x : X) (h : List (Event W B)) (a : Effect) → Acts look begin x h a → a ≡ Comes → Makes look begin x h
acts_own look begin x h Stays i e = absurd cc
acts_own look begin x h Comes i e = i
acts_own look begin x h Goes i e = absurd cc

pub all_made_own : {X W B : Type 0} (look : Look X W B) (begin : Begin X) (x : X) (h : List (Event W B)) → Fits look begin h → is_ended h ≡ false →
    AllByRecursion (λ w. look.does x w ≡ Comes → look.is_own x ≡ true) (writes h)
all_made_own look begin x [] t runs = tt
all_made_own look begin x (Writes w ∷ h) t runs = all_push (λ w. look.does x w ≡ Comes → look.is_own x ≡ true) (writes h) w (all_made_own look begin x h t.1 runs)
    (λ comes. (acts_own look begin x h (look.does x w) (t.0 runs x).acts comes).own)
all_made_own look begin x (Ends ∷ h) t runs = absurd cc
all_made_own look begin x (_ ∷ h) t runs = all_made_own look begin x h t.1 runs

-- none of these makes it
abbrev pub NoneMakes : {W : Type 0} → (W → Effect) → List W → Type 0
NoneMakes does ws = AllByRecursion (λ w. does w ≡ Comes → ⊥) ws

new_unmade : {W : Type 0} (does : W → Effect) (ws : List W) (s : Stage) → AllDid does ws s → s ≡ Coming → NoneMakes does ws
new_unmade does [] s d new = tt
new_unmade does (w ∷ ws) s d new = (comes_new (does w) s d.0 new, new_unmade does ws s d.1 new)

-- behind the one that makes it none does
abbrev pub OnceMade : {W : Type 0} → (W → Effect) → List W → Type 0
OnceMade does [] = Unit {0}
OnceMade does (w ∷ ws) = (does w ≡ Comes → NoneMakes does ws) × OnceMade does ws

once_push : {W : Type 0} (does : W → Effect) (ws : List W) (w : W) → OnceMade does ws → (does w ≡ Comes → NoneMakes does ws) → OnceMade does (ws ++ w ∷ [])
once_push does [] w o new = (λ comes. tt, tt)
once_push does (v ∷ ws) w o new =
    (λ comes. all_push (λ w. does w ≡ Comes → ⊥) ws w (o.0 comes) (λ too. (new too).0 comes), once_push does ws w o.1 (λ comes. (new comes).1))

once_drop : {W : Type 0} (does : W → Effect) (n : ℕ) (ws : List W) → OnceMade does ws → OnceMade does (drop n ws)
once_drop does zero ws o = o
once_drop does (suc n) [] o = o
once_drop does (suc n) (w ∷ ws) o = once_drop does n ws o.1

once_made : {X W B : Type 0} (look : Look X W B) (begin : Begin X) (x : X) (h : List (Event W B)) → Fits look begin h → is_ended h ≡ false → OnceMade (look.does x) (writes h)
once_made look begin x [] t runs = tt
once_made look begin x (Writes w ∷ h) t runs = once_push (look.does x) (writes h) w (once_made look begin x h t.1 runs)
    (λ comes. new_unmade (look.does x) (writes h) (stage look begin x h) (stage_did look begin x h) (acts_own look begin x h (look.does x w) (t.0 runs x).acts comes).new)
once_made look begin x (Ends ∷ h) t runs = absurd cc
once_made look begin x (_ ∷ h) t runs = once_made look begin x h t.1 runs

rest_unmade : {W B : Type 0} (does : W → Effect) (w : W) (h : List (Event W B)) (first : IsFirst w (writes_waiting h)) → OnceMade does (writes h) → does w ≡ Comes → NoneMakes does first.rest
rest_unmade does w h first o comes = go (subst (OnceMade does) first.is (once_drop does (hears h) (writes h) o))
  where
    go : OnceMade does (w ∷ first.rest) → NoneMakes does first.rest
    go (here, there) = here comes

first_did_not : {W B : Type 0} (does : W → Effect) (w : W) (h : List (Event W B)) (first : IsFirst w (writes_waiting h)) → NoneMakes does (writes_waiting h) → (does w ≡ Comes → ⊥) × NoneMakes does first.rest
first_did_not does w h first none = subst (λ ws. NoneMakes does ws) first.is none

not_own : (b : Bool) → b ≡ true → b ≡ false → ⊥
not_own b is other = absurd cc

-- an own context that is known was made
heard_new : {X W B : Type 0} (look : Look X W B) (begin : Begin X) (x : X) (w : W) (h : List (Event W B)) → Fits look begin h → is_ended h ≡ false → IsFirst w (writes_waiting h) →
    stage look begin x h ≡ Coming → look.creates x w ≡ true → ⊥
heard_new look begin x w h t runs first new creates =
    comes_new (look.does x w) (stage look begin x h) (first_did (look.does x) w h (stage look begin x h) first (stage_did look begin x h)) new
    (coming_is (look.does x w) (sym (first_creates look begin x w h t runs first) ∙ creates))

known_before : (c k : Bool) → (c ≡ true → ⊥) → (c || k) ≡ true → k ≡ true
known_before true k other e = absurd (other refl)
known_before false k other e = e

neither : (a b : Bool) → (a ≡ true → ⊥) → (b ≡ true → ⊥) → (a || b) ≡ true → ⊥
neither true b no_left no_right e = no_left refl
neither false b no_left no_right e = no_right e

known_made : {X W B : Type 0} (look : Look X W B) (begin : Begin X) → Lawful look begin → (x : X) → look.is_own x ≡ true → (h : List (Event W B)) → Flows h → Fits look begin h → is_ended h ≡ false →
    stage look begin x h ≡ Coming → is_known look begin x h ≡ true → ⊥
known_made look begin l x own [] f t runs new known = let start : begin.life x ≡ Coming = l.none_own x own in absurd cc
known_made look begin l x own (Writes w ∷ h) f t runs new known = known_made look begin l x own h f.1 t.1 runs (new_before (look.does x w) (stage look begin x h) new) known
known_made look begin l x own (Takes d ∷ h) f t runs new known = known_made look begin l x own h f.1 t.1 runs (new_before (look.tells x d.content) (stage look begin x h) new) known
known_made look begin l x own (Sends k u c ∷ h) f t runs new known =
    neither (look.creates x u) (is_known look begin x h) (λ e. not_own (look.is_own x) own ((t.0 runs x).done.creates_others e)) (known_made look begin l x own h f.1 t.1 runs new) known
known_made look begin l x own (Changes k u ∷ h) f t runs new known =
    neither (look.creates x u) (is_known look begin x h) (λ e. not_own (look.is_own x) own ((t.0 runs x).done.creates_others e)) (known_made look begin l x own h f.1 t.1 runs new) known
known_made look begin l x own (Accepts k w ∷ h) f t runs new known =
    neither (look.creates x w) (is_known look begin x h) (heard_new look begin x w h t.1 runs f.0 new) (known_made look begin l x own h f.1 t.1 runs new) known
known_made look begin l x own (Reverts k w c ∷ h) f t runs new known =
    neither (look.creates x w) (is_known look begin x h) (heard_new look begin x w h t.1 runs f.0.first new) (known_made look begin l x own h f.1 t.1 runs new) known
known_made look begin l x own (Ignores k w ∷ h) f t runs new known =
    neither (look.creates x w) (is_known look begin x h) (heard_new look begin x w h t.1 runs f.0 new) (known_made look begin l x own h f.1 t.1 runs new) known
known_made look begin l x own (Ends ∷ h) f t runs new known = absurd cc
known_made look begin l x own (_ ∷ h) f t runs new known = known_made look begin l x own h f.1 t.1 runs new known

-- so of what is known no making waits
heard_none : {X W B : Type 0} (look : Look X W B) (begin : Begin X) (x : X) (w : W) (h : List (Event W B)) → Fits look begin h → is_ended h ≡ false → (first : IsFirst w (writes_waiting h)) →
    (is_known look begin x h ≡ true → NoneMakes (look.does x) (writes_waiting h)) → (look.creates x w || is_known look begin x h) ≡ true → NoneMakes (look.does x) (drop (hears h + 1) (writes h))
heard_none look begin x w h t runs first before known =
    subst (NoneMakes (look.does x)) (sym (heard_leaves w h first)) (go (either_true (look.creates x w) (is_known look begin x h) known))
  where
    go : (look.creates x w ≡ true) ⊎ (is_known look begin x h ≡ true) → NoneMakes (look.does x) first.rest
    go (inl creates) = rest_unmade (look.does x) w h first (once_made look begin x h t runs) (coming_is (look.does x w) (sym (first_creates look begin x w h t runs first) ∙ creates))
    go (inr known) = (first_did_not (look.does x) w h first (before known)).1

none_waits : {X W B : Type 0} (look : Look X W B) (begin : Begin X) → Lawful look begin → (x : X) → look.is_own x ≡ true → (h : List (Event W B)) → Flows h → Fits look begin h → is_ended h ≡ false →
    is_known look begin x h ≡ true → NoneMakes (look.does x) (writes_waiting h)
none_waits look begin l x own [] f t runs known = tt
none_waits look begin l x own (Writes w ∷ h) f t runs known =
    subst (NoneMakes (look.does x)) (sym (write_waits w h f.1)) (all_push (λ w. look.does x w ≡ Comes → ⊥) (writes_waiting h) w (none_waits look begin l x own h f.1 t.1 runs known)
    (λ comes. known_made look begin l x own h f.1 t.1 runs (acts_own look begin x h (look.does x w) (t.0 runs x).acts comes).new known))
none_waits look begin l x own (Sends k u c ∷ h) f t runs known =
    none_waits look begin l x own h f.1 t.1 runs (known_before (look.creates x u) (is_known look begin x h) (λ e. not_own (look.is_own x) own ((t.0 runs x).done.creates_others e)) known)
none_waits look begin l x own (Changes k u ∷ h) f t runs known =
    none_waits look begin l x own h f.1 t.1 runs (known_before (look.creates x u) (is_known look begin x h) (λ e. not_own (look.is_own x) own ((t.0 runs x).done.creates_others e)) known)
none_waits look begin l x own (Accepts k w ∷ h) f t runs known = heard_none look begin x w h t.1 runs f.0 (none_waits look begin l x own h f.1 t.1 runs) known
none_waits look begin l x own (Reverts k w c ∷ h) f t runs known = heard_none look begin x w h t.1 runs f.0.first (none_waits look begin l x own h f.1 t.1 runs) known
none_waits look begin l x own (Ignores k w ∷ h) f t runs known = heard_none look begin x w h t.1 runs f.0 (none_waits look begin l x own h f.1 t.1 runs) known
none_waits look begin l x own (Ends ∷ h) f t runs known = absurd cc
none_waits look begin l x own (_ ∷ h) f t runs known = none_waits look begin l x own h f.1 t.1 runs known

pub creates_new : {X W B : Type 0} (look : Look X W B) (begin : Begin X) (w : W) (h : List (Event W B)) → Keeps look begin h → is_ended h ≡ false → IsFirst w (writes_waiting h) → (x : X) →
    look.creates x w ≡ true → is_known look begin x h ≡ false
creates_new look begin w h k runs first x creates = unless (is_known look begin x h) (λ known. (first_did_not (look.does x) w h first (none_waits look begin k.lawful x own h k.flows k.fits runs known)).0 comes)
  where
    comes : look.does x w ≡ Comes
    comes = coming_is (look.does x w) (sym (first_creates look begin x w h k.fits runs first) ∙ creates)

    own : look.is_own x ≡ true
    own = first_is (λ w. look.does x w ≡ Comes → look.is_own x ≡ true) (hears h) (writes h) w first (all_made_own look begin x h k.fits runs) comes

-- ---- what the process names it has, and what it has is known or will be

all_still : {X : Type 0} (P Q : X → Type 0) → ((x : X) → P x → Q x) → (xs : List X) → AllByRecursion P xs → AllByRecursion Q xs
all_still P Q f [] a = tt
all_still P Q f (x ∷ xs) a = (f x a.0, all_still P Q f xs a.1)

-- what was sent as coming is known
abbrev pub BringsKnown : {X W B : Type 0} → Look X W B → X → Bool → Bundle B → Type 0
BringsKnown look x known d = look.tells x d.content ≡ Comes → known ≡ true

brings_more : {X W B : Type 0} (look : Look X W B) (x : X) (c k : Bool) (ds : List (Bundle B)) → AllByRecursion (BringsKnown look x k) ds → AllByRecursion (BringsKnown look x (c || k)) ds
brings_more look x c k ds a = all_still (BringsKnown look x k) (BringsKnown look x (c || k)) (λ d f comes. true_right c k (f comes)) ds a

pub whole_live : (l : Stage) → told_whole l ≡ Comes → l ≡ Held
whole_live Coming e = absurd cc
whole_live Held e = refl
whole_live Gone e = absurd cc

pub sent_known : (told_before registers : Bool) (did told : Effect) (l : Stage) (known : Bool) → Told told_before registers did told l → (did ≡ Comes → known ≡ true) → (moved did l ≡ Held → known ≡ true) → told ≡ Comes → known ≡ true
sent_known true registers did told l known t made live comes = made (sym t ∙ comes)
sent_known false true did told l known t made live comes = live (whole_live (moved did l) (sym t ∙ comes))
sent_known false false did told l known t made live comes = absurd cc

pub none_comes_back : (a b : Effect) → Returned a b → b ≡ Comes → ⊥
none_comes_back Stays b r e = r e
none_comes_back Comes b r e = absurd cc
none_comes_back Goes b r e = r

all_brought : {X W B : Type 0} (look : Look X W B) (begin : Begin X) (x : X) (h : List (Event W B)) → Flows h → Fits look begin h → is_ended h ≡ false → AllByRecursion (BringsKnown look x (is_known look begin x h)) (bundles_sent h)
all_brought look begin x [] f t runs = tt
all_brought look begin x (Sends k u c ∷ h) f t runs =
    all_push (BringsKnown look x (look.creates x u || is_known look begin x h)) (bundles_sent h) (record { entry = k; epoch = hears h; content = c })
    (brings_more look x (look.creates x u) (is_known look begin x h) (bundles_sent h) (all_brought look begin x h f.1 t.1 runs))
    (sent_known (is_told look begin x h) (look.registers x c) (look.does x u) (look.tells x c) (life look begin x h) (look.creates x u || is_known look begin x h) (t.0 runs x).told
    (λ comes. true_left (look.creates x u) (is_known look begin x h) ((t.0 runs x).done.creates comes)) (live_known look begin x (Sends k u c ∷ h) f t runs))
all_brought look begin x (Changes k u ∷ h) f t runs = brings_more look x (look.creates x u) (is_known look begin x h) (bundles_sent h) (all_brought look begin x h f.1 t.1 runs)
all_brought look begin x (Accepts k w ∷ h) f t runs = brings_more look x (look.creates x w) (is_known look begin x h) (bundles_sent h) (all_brought look begin x h f.1 t.1 runs)
all_brought look begin x (Ignores k w ∷ h) f t runs = brings_more look x (look.creates x w) (is_known look begin x h) (bundles_sent h) (all_brought look begin x h f.1 t.1 runs)
all_brought look begin x (Reverts k w c ∷ h) f t runs =
    all_push (BringsKnown look x (look.creates x w || is_known look begin x h)) (bundles_sent h) (record { entry = k; epoch = hears h + 1; content = c })
    (brings_more look x (look.creates x w) (is_known look begin x h) (bundles_sent h) (all_brought look begin x h f.1 t.1 runs))
    (λ comes. absurd (none_comes_back (look.does x w) (look.tells x c) (t.0 runs x).returned comes))
all_brought look begin x (Ends ∷ h) f t runs = absurd cc
all_brought look begin x (_ ∷ h) f t runs = all_brought look begin x h f.1 t.1 runs

-- known, or made by what waits
abbrev pub IsFound : {X W B : Type 0} → Look X W B → Begin X → X → List (Event W B) → Type 0
IsFound look begin x h = (is_known look begin x h ≡ true) ⊎ Stands (look.does x) Comes (writes_waiting h)

heard_found : {X W B : Type 0} (look : Look X W B) (begin : Begin X) (x : X) (w : W) (h : List (Event W B)) → Fits look begin h → is_ended h ≡ false → (first : IsFirst w (writes_waiting h)) → IsFound look begin x h →
    ((look.creates x w || is_known look begin x h) ≡ true) ⊎ Stands (look.does x) Comes (drop (hears h + 1) (writes h))
heard_found look begin x w h t runs first (inl known) = inl (true_right (look.creates x w) (is_known look begin x h) known)
heard_found look begin x w h t runs first (inr stands) = go (subst (λ ws. Stands (look.does x) Comes ws) first.is stands)
  where
    go : (look.does x w ≡ Comes) ⊎ Stands (look.does x) Comes first.rest → ((look.creates x w || is_known look begin x h) ≡ true) ⊎ Stands (look.does x) Comes (drop (hears h + 1) (writes h))
    go (inl comes) = inl (true_left (look.creates x w) (is_known look begin x h) (first_creates look begin x w h t runs first ∙ is_coming_of (look.does x w) comes))
    go (inr rest) = inr (subst (λ ws. Stands (look.does x) Comes ws) (sym (heard_leaves w h first)) rest)

more_known : (c k : Bool) (S : Type 0) → (k ≡ true) ⊎ S → ((c || k) ≡ true) ⊎ S
more_known c k S (inl known) = inl (true_right c k known)
more_known c k S (inr stands) = inr stands

wrote_found : {X W B : Type 0} (look : Look X W B) (begin : Begin X) (x : X) (w : W) (h : List (Event W B)) → Flows h → (stage look begin x h ≡ Held → IsFound look begin x h) →
    (stage look begin x h ≡ Held) ⊎ (look.does x w ≡ Comes) → IsFound look begin x (Writes w ∷ h)
wrote_found look begin x w h f before (inr comes) = inr (subst (λ ws. Stands (look.does x) Comes ws) (sym (write_waits w h f)) (stands_last (look.does x) Comes (writes_waiting h) w comes))
wrote_found look begin x w h f before (inl held) = go (before held)
  where
    go : IsFound look begin x h → IsFound look begin x (Writes w ∷ h)
    go (inl known) = inl known
    go (inr stands) = inr (subst (λ ws. Stands (look.does x) Comes ws) (sym (write_waits w h f)) (stands_before (look.does x) Comes (writes_waiting h) (w ∷ []) stands))

took_found : {X W B : Type 0} (look : Look X W B) (begin : Begin X) (x : X) (d : Bundle B) (h : List (Event W B)) → (stage look begin x h ≡ Held → IsFound look begin x h) →
    (look.tells x d.content ≡ Comes → is_known look begin x h ≡ true) → (stage look begin x h ≡ Held) ⊎ (look.tells x d.content ≡ Comes) → IsFound look begin x h
took_found look begin x d h before brought (inl held) = before held
took_found look begin x d h before brought (inr comes) = inl (brought comes)

starts_found : {X W B : Type 0} (look : Look X W B) (begin : Begin X) → Lawful look begin → (x : X) → (b : Bool) → begin.is_told x ≡ b → begin.stage x ≡ Held → is_held (begin.life x) ≡ true
starts_found look begin l x true told held = ap is_held (sym (l.has_live x told) ∙ held)
starts_found look begin l x false told held = let new : begin.stage x ≡ Coming = l.has_nothing x told in absurd cc

held_found : {X W B : Type 0} (look : Look X W B) (begin : Begin X) → Lawful look begin → (x : X) (h : List (Event W B)) → Flows h → Fits look begin h → is_ended h ≡ false → stage look begin x h ≡ Held → IsFound look begin x h
held_found look begin l x [] f t runs held = inl (starts_found look begin l x (begin.is_told x) refl held)
held_found look begin l x (Writes w ∷ h) f t runs held = wrote_found look begin x w h f.1 (held_found look begin l x h f.1 t.1 runs) (live_before (look.does x w) (stage look begin x h) held)
held_found look begin l x (Takes d ∷ h) f t runs held =
    took_found look begin x d h (held_found look begin l x h f.1 t.1 runs)
    (first_is (BringsKnown look x (is_known look begin x h)) (takes h) (bundles_sent h) d f.0 (all_brought look begin x h f.1 t.1 runs)) (live_before (look.tells x d.content) (stage look begin x h) held)
held_found look begin l x (Sends k u c ∷ h) f t runs held = more_known (look.creates x u) (is_known look begin x h) (Stands (look.does x) Comes (writes_waiting h)) (held_found look begin l x h f.1 t.1 runs held)
held_found look begin l x (Changes k u ∷ h) f t runs held = more_known (look.creates x u) (is_known look begin x h) (Stands (look.does x) Comes (writes_waiting h)) (held_found look begin l x h f.1 t.1 runs held)
held_found look begin l x (Accepts k w ∷ h) f t runs held = heard_found look begin x w h t.1 runs f.0 (held_found look begin l x h f.1 t.1 runs held)
held_found look begin l x (Reverts k w c ∷ h) f t runs held = heard_found look begin x w h t.1 runs f.0.first (held_found look begin l x h f.1 t.1 runs held)
held_found look begin l x (Ignores k w ∷ h) f t runs held = heard_found look begin x w h t.1 runs f.0 (held_found look begin l x h f.1 t.1 runs held)
held_found look begin l x (Ends ∷ h) f t runs held = absurd cc
held_found look begin l x (_ ∷ h) f t runs held = held_found look begin l x h f.1 t.1 runs held

-- each of these names what is known, or what one before it makes
abbrev pub Sound : {X W B : Type 0} → Look X W B → (X → Type 0) → List W → Type 0
Sound look Known [] = Unit {0}
Sound {X} look Known (w ∷ ws) = ((x : X) → look.needs x w ≡ true → Known x) × Sound look (λ x. Known x ⊎ (look.does x w ≡ Comes)) ws

sound_more : {X W B : Type 0} (look : Look X W B) (K M : X → Type 0) → ((x : X) → K x → M x) → (ws : List W) → Sound look K ws → Sound look M ws
sound_more look K M f [] s = tt
sound_more {X} look K M f (w ∷ ws) s = ((λ x needs. f x (s.0 x needs)), sound_more look (λ x. K x ⊎ (look.does x w ≡ Comes)) (λ x. M x ⊎ (look.does x w ≡ Comes)) (λ x. either x) ws s.1)
  where
    either : (x : X) → K x ⊎ (look.does x w ≡ Comes) → M x ⊎ (look.does x w ≡ Comes)
    either x (inl k) = inl (f x k)
    either x (inr c) = inr c

sound_push : {X W B : Type 0} (look : Look X W B) (K : X → Type 0) (ws : List W) (w : W) → Sound look K ws → ((x : X) → look.needs x w ≡ true → K x ⊎ Stands (look.does x) Comes ws) → Sound look K (ws ++ w ∷ [])
sound_push {X} look K [] w s found = ((λ x needs. known x (found x needs)), tt)
  where
    known : (x : X) → K x ⊎ ⊥ → K x
    known x (inl k) = k
    known x (inr no_way) = absurd no_way
sound_push {X} look K (v ∷ ws) w s found = (s.0, sound_push look (λ x. K x ⊎ (look.does x v ≡ Comes)) ws w s.1 (λ x needs. moved_on x (found x needs)))
  where
    moved_on : (x : X) → K x ⊎ ((look.does x v ≡ Comes) ⊎ Stands (look.does x) Comes ws) → (K x ⊎ (look.does x v ≡ Comes)) ⊎ Stands (look.does x) Comes ws
    moved_on x (inl k) = inl (inl k)
    moved_on x (inr (inl c)) = inl (inr c)
    moved_on x (inr (inr s)) = inr s

heard_sound : {X W B : Type 0} (look : Look X W B) (begin : Begin X) (w : W) (h : List (Event W B)) → Fits look begin h → is_ended h ≡ false → (first : IsFirst w (writes_waiting h)) →
    Sound look (λ x. is_known look begin x h ≡ true) (writes_waiting h) → Sound look (λ x. (look.creates x w || is_known look begin x h) ≡ true) (drop (hears h + 1) (writes h))
heard_sound {X} look begin w h t runs first s =
    subst (Sound look (λ x. (look.creates x w || is_known look begin x h) ≡ true)) (sym (heard_leaves w h first)) (go (subst (Sound look (λ x. is_known look begin x h ≡ true)) first.is s))
  where
    known : (x : X) → (is_known look begin x h ≡ true) ⊎ (look.does x w ≡ Comes) → (look.creates x w || is_known look begin x h) ≡ true
    known x (inl k) = true_right (look.creates x w) (is_known look begin x h) k
    known x (inr comes) = true_left (look.creates x w) (is_known look begin x h) (first_creates look begin x w h t runs first ∙ is_coming_of (look.does x w) comes)

    go : Sound look (λ x. is_known look begin x h ≡ true) (w ∷ first.rest) → Sound look (λ x. (look.creates x w || is_known look begin x h) ≡ true) first.rest
    go (here, there) = sound_more look (λ x. (is_known look begin x h ≡ true) ⊎ (look.does x w ≡ Comes)) (λ x. (look.creates x w || is_known look begin x h) ≡ true) known first.rest there

sound : {X W B : Type 0} (look : Look X W B) (begin : Begin X) → Lawful look begin → (h : List (Event W B)) → Flows h → Fits look begin h → is_ended h ≡ false → Sound look (λ x. is_known look begin x h ≡ true) (writes_waiting h)
sound look begin l [] f t runs = tt
sound look begin l (Writes w ∷ h) f t runs =
    subst (Sound look (λ x. is_known look begin x h ≡ true)) (sym (write_waits w h f.1))
    (sound_push look (λ x. is_known look begin x h ≡ true) (writes_waiting h) w (sound look begin l h f.1 t.1 runs) (λ x needs. held_found look begin l x h f.1 t.1 runs ((t.0 runs x).needs needs)))
sound look begin l (Sends k u c ∷ h) f t runs =
    sound_more look (λ x. is_known look begin x h ≡ true) (λ x. (look.creates x u || is_known look begin x h) ≡ true) (λ x. true_right (look.creates x u) (is_known look begin x h)) (writes_waiting h) (sound look begin l h f.1 t.1 runs)
sound look begin l (Changes k u ∷ h) f t runs =
    sound_more look (λ x. is_known look begin x h ≡ true) (λ x. (look.creates x u || is_known look begin x h) ≡ true) (λ x. true_right (look.creates x u) (is_known look begin x h)) (writes_waiting h) (sound look begin l h f.1 t.1 runs)
sound look begin l (Accepts k w ∷ h) f t runs = heard_sound look begin w h t.1 runs f.0 (sound look begin l h f.1 t.1 runs)
sound look begin l (Reverts k w c ∷ h) f t runs = heard_sound look begin w h t.1 runs f.0.first (sound look begin l h f.1 t.1 runs)
sound look begin l (Ignores k w ∷ h) f t runs = heard_sound look begin w h t.1 runs f.0 (sound look begin l h f.1 t.1 runs)
sound look begin l (Ends ∷ h) f t runs = absurd cc
sound look begin l (_ ∷ h) f t runs = sound look begin l h f.1 t.1 runs

first_sound : {X W B : Type 0} (look : Look X W B) (K : X → Type 0) (w : W) (ws : List W) → Sound look K (w ∷ ws) → (x : X) → look.needs x w ≡ true → K x
first_sound look K w ws s = s.0

pub good_ids : {X W B : Type 0} (look : Look X W B) (begin : Begin X) (w : W) (h : List (Event W B)) → Keeps look begin h → is_ended h ≡ false → IsFirst w (writes_waiting h) → (x : X) →
    (look.creates x w ≡ true → is_known look begin x h ≡ false) × (look.needs x w ≡ true → is_known look begin x h ≡ true)
good_ids look begin w h k runs first x = (
  creates_new look begin w h k runs first x,
  first_sound look (λ x. is_known look begin x h ≡ true) w first.rest (subst (Sound look (λ x. is_known look begin x h ≡ true)) first.is (sound look begin k.lawful h k.flows k.fits runs)) x,
)
