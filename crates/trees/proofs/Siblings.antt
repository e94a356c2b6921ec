-- The children of a context: while it has an owner, all that are live were made by that owner, and both lists of them are one list, filtered.
use Rattle.std.proofs.Common.{◌≡◌, ◌+◌, ◌⊎◌, inl, inr, Bool, true, false, Some, List, [], ◌∷◌, ◌++◌, refl, ap, sym, subst, ◌∙◌, append_assoc, append-nil}
use Rattle.std.specs.Prelude.{filter}
use Rattle.std.specs.List.{AllByRecursion}
use Rattle.traces.specs.Event.{Bundle, Event}
use Rattle.traces.specs.Event.Event.{Writes, Sends, Takes, Accepts, Reverts, Changes, Ends}
use Rattle.traces.specs.Links.{hears, writes, writes_waiting, takes, bundles_sent, bundles_waiting, is_ended}
use Rattle.traces.specs.Rules.{IsFirst, Flows}
use Rattle.traces.specs.Words.Stage.{Coming, Held}
use Rattle.trees.specs.Look.{moved, owned_behind, Look, Begin}
use Rattle.trees.specs.Look.Effect.{Comes}
use Rattle.trees.specs.Look.Handing.{Same}
use Rattle.trees.specs.Words.{life}
use Rattle.trees.specs.Children.{came, attached, owned}
use Rattle.trees.specs.Rules.{Lawful, OwnChild, OtherChild, Done, Fits}
use Rattle.trees.proofs.Effects.{live_before, live_unbrought}
use Rattle.trees.proofs.Lists.{all_push, first_is, filter_none, both_more, end_out}

-- ---- one owner

done_by_owner : {X W B : Type 0} (look : Look X W B) (begin : Begin X) (e : Event W B) (w : W) (x y : X) (h : List (Event W B)) → Done look begin e w x h → look.above x ≡ Some y →
    (owned look begin y (e ∷ h) ≡ owned_behind (look.hands y w) (owned look begin y h)) →
    (life look begin x h ≡ Held → look.is_own x ≡ owned look begin y h) → moved (look.does x w) (life look begin x h) ≡ Held → life look begin x (e ∷ h) ≡ Held →
    look.is_own x ≡ owned look begin y (e ∷ h)
done_by_owner look begin e w x y h done is behind before live now = go (live_before (look.does x w) (life look begin x h) live) (done.cleared y is)
  where
    go : (life look begin x h ≡ Held) ⊎ (look.does x w ≡ Comes) → (look.hands y w ≡ Same) ⊎ (life look begin x h ≡ Held → life look begin x (e ∷ h) ≡ Held → ⊥) → look.is_own x ≡ owned look begin y (e ∷ h)
    go (inr comes) c = done.by_owner comes y is
    go (inl was) (inl same) = before was ∙ sym (behind ∙ ap (λ a. owned_behind a (owned look begin y h)) same)
    go (inl was) (inr cleared) = absurd (cleared was now)

pub one_owner : {X W B : Type 0} (look : Look X W B) (begin : Begin X) → Lawful look begin → (x y : X) → look.above x ≡ Some y → (h : List (Event W B)) → Fits look begin h → is_ended h ≡ false →
    life look begin x h ≡ Held → look.is_own x ≡ owned look begin y h
one_owner look begin l x y is [] t runs live = let new : begin.life x ≡ Coming = l.none_below x y is in absurd cc
one_owner look begin l x y is (Sends k u c ∷ h) t runs live = done_by_owner look begin (Sends k u c) u x y h (t.0 runs x).done.done is refl (one_owner look begin l x y is h t.1 runs) live live
one_owner look begin l x y is (Changes k u ∷ h) t runs live = done_by_owner look begin (Changes k u) u x y h (t.0 runs x).done.done is refl (one_owner look begin l x y is h t.1 runs) live live
one_owner look begin l x y is (Accepts k w ∷ h) t runs live = done_by_owner look begin (Accepts k w) w x y h (t.0 runs x) is refl (one_owner look begin l x y is h t.1 runs) live live
one_owner look begin l x y is (Reverts k w c ∷ h) t runs live =
    one_owner look begin l x y is h t.1 runs (live_unbrought (look.does x w) (look.tells x c) (life look begin x h) (t.0 runs x).returned live)
one_owner look begin l x y is (Ends ∷ h) t runs live = absurd cc
one_owner look begin l x y is (_ ∷ h) t runs live = one_owner look begin l x y is h t.1 runs live

-- ---- whose children

-- those that these bundles make below y, and those that these bring
abbrev pub all_makes : {X W B : Type 0} → Look X W B → X → List W → List X
all_makes look y [] = []
all_makes look y (w ∷ ws) = look.makes y w ++ all_makes look y ws

abbrev pub all_brings : {X W B : Type 0} → Look X W B → X → List (Bundle B) → List X
all_brings look y [] = []
all_brings look y (d ∷ ds) = look.brings y d.content ++ all_brings look y ds

pub makes_push : {X W B : Type 0} (look : Look X W B) (y : X) (ws : List W) (w : W) → all_makes look y (ws ++ w ∷ []) ≡ all_makes look y ws ++ look.makes y w
makes_push look y [] w = append-nil (look.makes y w)
makes_push look y (v ∷ ws) w = ap (λ xs. look.makes y v ++ xs) (makes_push look y ws w) ∙ sym (append_assoc (look.makes y v) (all_makes look y ws) (look.makes y w))

pub brings_push : {X W B : Type 0} (look : Look X W B) (y : X) (ds : List (Bundle B)) (d : Bundle B) → all_brings look y (ds ++ d ∷ []) ≡ all_brings look y ds ++ look.brings y d.content
brings_push look y [] d = append-nil (look.brings y d.content)
brings_push look y (e ∷ ds) d = ap (λ xs. look.brings y e.content ++ xs) (brings_push look y ds d) ∙ sym (append_assoc (look.brings y e.content) (all_brings look y ds) (look.brings y d.content))

-- what the process makes is its own, and what it is brought is another's
abbrev pub MadeOwn : {X W B : Type 0} → Look X W B → X → W → Type 0
MadeOwn look y w = AllByRecursion (OwnChild look y w) (look.makes y w)

abbrev pub BroughtOthers : {X W B : Type 0} → Look X W B → X → Bundle B → Type 0
BroughtOthers look y d = AllByRecursion (OtherChild look y) (look.brings y d.content)

all_own : {X W B : Type 0} (look : Look X W B) (begin : Begin X) (y : X) (h : List (Event W B)) → Fits look begin h → is_ended h ≡ false → AllByRecursion (MadeOwn look y) (writes h)
all_own look begin y [] t runs = tt
all_own look begin y (Writes w ∷ h) t runs = all_push (MadeOwn look y) (writes h) w (all_own look begin y h t.1 runs) (t.0 runs y).children
all_own look begin y (Ends ∷ h) t runs = absurd cc
all_own look begin y (_ ∷ h) t runs = all_own look begin y h t.1 runs

none_brought : {X W B : Type 0} (look : Look X W B) (y : X) (xs : List X) → xs ≡ [] → AllByRecursion (OtherChild look y) xs
none_brought look y xs e = subst (AllByRecursion (OtherChild look y)) (sym e) tt

all_others : {X W B : Type 0} (look : Look X W B) (begin : Begin X) (y : X) (h : List (Event W B)) → Fits look begin h → is_ended h ≡ false → AllByRecursion (BroughtOthers look y) (bundles_sent h)
all_others look begin y [] t runs = tt
all_others look begin y (Sends k u c ∷ h) t runs =
    all_push (BroughtOthers look y) (bundles_sent h) (record { entry = k; epoch = hears h; content = c }) (all_others look begin y h t.1 runs) (t.0 runs y).others
all_others look begin y (Reverts k w c ∷ h) t runs =
    all_push (BroughtOthers look y) (bundles_sent h) (record { entry = k; epoch = hears h + 1; content = c }) (all_others look begin y h t.1 runs) (none_brought look y (look.brings y c) (t.0 runs y).brings_none)
all_others look begin y (Ends ∷ h) t runs = absurd cc
all_others look begin y (_ ∷ h) t runs = all_others look begin y h t.1 runs

pub own_write : {X W B : Type 0} (look : Look X W B) (begin : Begin X) (y : X) (w : W) (h : List (Event W B)) → Fits look begin h → is_ended h ≡ false → IsFirst w (writes_waiting h) → MadeOwn look y w
own_write look begin y w h t runs first = first_is (MadeOwn look y) (hears h) (writes h) w first (all_own look begin y h t runs)

pub others_bundle : {X W B : Type 0} (look : Look X W B) (begin : Begin X) (y : X) (d : Bundle B) (h : List (Event W B)) → Fits look begin h → is_ended h ≡ false → IsFirst d (bundles_waiting h) → BroughtOthers look y d
others_bundle look begin y d h t runs first = first_is (BroughtOthers look y) (takes h) (bundles_sent h) d first (all_others look begin y h t runs)

-- a test that passes, of the children of y, only own ones, or only those of others
abbrev pub PassesOwn : {X W B : Type 0} → Look X W B → X → (X → Bool) → Type 0
PassesOwn {X} look y p = (x : X) → look.above x ≡ Some y → look.is_own x ≡ false → p x ≡ false

abbrev pub PassesOthers : {X W B : Type 0} → Look X W B → X → (X → Bool) → Type 0
PassesOthers {X} look y p = (x : X) → look.above x ≡ Some y → look.is_own x ≡ true → p x ≡ false

no_own : {X W B : Type 0} (look : Look X W B) (y : X) (p : X → Bool) (w : W) → PassesOthers look y p → MadeOwn look y w → filter p (look.makes y w) ≡ []
no_own look y p w passes own = filter_none p (OwnChild look y w) (λ x o. passes x o.below o.own) (look.makes y w) own

no_others : {X W B : Type 0} (look : Look X W B) (y : X) (p : X → Bool) (xs : List X) → PassesOwn look y p → AllByRecursion (OtherChild look y) xs → filter p xs ≡ []
no_others look y p xs passes others = filter_none p (OtherChild look y) (λ x o. passes x o.below o.other) xs others

-- the children that the process brought up, and those that others did, apart
abbrev pub own_attached : {X W B : Type 0} → Look X W B → X → List (Event W B) → List X
own_attached look y [] = []
own_attached look y (Accepts k w ∷ h) = own_attached look y h ++ look.makes y w
own_attached look y (_ ∷ h) = own_attached look y h

abbrev pub others_attached : {X W B : Type 0} → Look X W B → X → List (Event W B) → List X
others_attached look y [] = []
others_attached look y (Sends k u c ∷ h) = others_attached look y h ++ look.makes y u
others_attached look y (Changes k u ∷ h) = others_attached look y h ++ look.makes y u
others_attached look y (_ ∷ h) = others_attached look y h

abbrev pub others_came : {X W B : Type 0} → Look X W B → X → List (Event W B) → List X
others_came look y [] = []
others_came look y (Takes d ∷ h) = others_came look y h ++ look.brings y d.content
others_came look y (_ ∷ h) = others_came look y h

pub came_own : {X W B : Type 0} (look : Look X W B) (begin : Begin X) (y : X) (p : X → Bool) → PassesOwn look y p → (h : List (Event W B)) → Flows h → Fits look begin h → is_ended h ≡ false →
    filter p (came look y h) ≡ filter p (all_makes look y (writes h))
came_own look begin y p own [] f t runs = refl
came_own look begin y p own (Writes w ∷ h) f t runs =
    both_more p (came look y h) (all_makes look y (writes h)) (look.makes y w) (came_own look begin y p own h f.1 t.1 runs) ∙ sym (ap (filter p) (makes_push look y (writes h) w))
came_own look begin y p own (Takes d ∷ h) f t runs =
    end_out p (came look y h) (look.brings y d.content) (no_others look y p (look.brings y d.content) own (others_bundle look begin y d h t.1 runs f.0)) ∙ came_own look begin y p own h f.1 t.1 runs
came_own look begin y p own (Ends ∷ h) f t runs = absurd cc
came_own look begin y p own (_ ∷ h) f t runs = came_own look begin y p own h f.1 t.1 runs

pub came_others : {X W B : Type 0} (look : Look X W B) (begin : Begin X) (y : X) (p : X → Bool) → PassesOthers look y p → (h : List (Event W B)) → Fits look begin h → is_ended h ≡ false →
    filter p (came look y h) ≡ filter p (others_came look y h)
came_others look begin y p others [] t runs = refl
came_others look begin y p others (Writes w ∷ h) t runs =
    end_out p (came look y h) (look.makes y w) (no_own look y p w others (t.0 runs y).children) ∙ came_others look begin y p others h t.1 runs
came_others look begin y p others (Takes d ∷ h) t runs = both_more p (came look y h) (others_came look y h) (look.brings y d.content) (came_others look begin y p others h t.1 runs)
came_others look begin y p others (Ends ∷ h) t runs = absurd cc
came_others look begin y p others (_ ∷ h) t runs = came_others look begin y p others h t.1 runs

pub attached_own : {X W B : Type 0} (look : Look X W B) (begin : Begin X) (y : X) (p : X → Bool) → PassesOwn look y p → (h : List (Event W B)) → Fits look begin h → is_ended h ≡ false →
    filter p (attached look y h) ≡ filter p (own_attached look y h)
attached_own look begin y p own [] t runs = refl
attached_own look begin y p own (Sends k u c ∷ h) t runs =
    end_out p (attached look y h) (look.makes y u) (no_others look y p (look.makes y u) own (t.0 runs y).done.children) ∙ attached_own look begin y p own h t.1 runs
attached_own look begin y p own (Changes k u ∷ h) t runs =
    end_out p (attached look y h) (look.makes y u) (no_others look y p (look.makes y u) own (t.0 runs y).done.children) ∙ attached_own look begin y p own h t.1 runs
attached_own look begin y p own (Accepts k w ∷ h) t runs = both_more p (attached look y h) (own_attached look y h) (look.makes y w) (attached_own look begin y p own h t.1 runs)
attached_own look begin y p own (Ends ∷ h) t runs = absurd cc
attached_own look begin y p own (_ ∷ h) t runs = attached_own look begin y p own h t.1 runs

pub attached_others : {X W B : Type 0} (look : Look X W B) (begin : Begin X) (y : X) (p : X → Bool) → PassesOthers look y p → (h : List (Event W B)) → Flows h → Fits look begin h → is_ended h ≡ false →
    filter p (attached look y h) ≡ filter p (others_attached look y h)
attached_others look begin y p others [] f t runs = refl
attached_others look begin y p others (Sends k u c ∷ h) f t runs = both_more p (attached look y h) (others_attached look y h) (look.makes y u) (attached_others look begin y p others h f.1 t.1 runs)
attached_others look begin y p others (Changes k u ∷ h) f t runs = both_more p (attached look y h) (others_attached look y h) (look.makes y u) (attached_others look begin y p others h f.1 t.1 runs)
attached_others look begin y p others (Accepts k w ∷ h) f t runs =
    end_out p (attached look y h) (look.makes y w) (no_own look y p w others (own_write look begin y w h t.1 runs f.0)) ∙ attached_others look begin y p others h f.1 t.1 runs
attached_others look begin y p others (Ends ∷ h) f t runs = absurd cc
attached_others look begin y p others (_ ∷ h) f t runs = attached_others look begin y p others h f.1 t.1 runs
