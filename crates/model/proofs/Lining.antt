-- Lines of makings: where a context was made below another, its line is itself and the other's.
use Rattle.std.proofs.Common.{◌≡◌, ◌⊎◌, inl, inr, Bool, true, false, if◌then◌else◌, None, Some, List, [], ◌∷◌, length, refl, ap, sym, subst, ◌∙◌, arith}
use Rattle.std.specs.List.{AllByRecursion}
use Rattle.fission_ids.specs.declared.context.ContextId.{ContextId}
use Rattle.fission_ids.specs.Ids.{same_context}
use Rattle.wire_msgs.specs.declared.config.StartTab.{StartTab}
use Rattle.protocol.specs.Fold.{or_later}
use Rattle.protocol.specs.Start.{group_of}
use Rattle.model.specs.Lines.{Making, line, above_in, root, opened_in, group_in}
use Rattle.model.specs.Lines.Making.{Below, Top}
use Rattle.model.proofs.Cases.{true_false, same_context_is, same_itself, some_is, none_some}

-- a line goes on with that of the context above, whatever is made below it; tabs are made below nothing
pub record Lined (ms : List Making) : Type 0 where
  pub line_step : (x a : ContextId) → above_in ms x ≡ Some a → line x ms ≡ x ∷ line a ms
  pub root_step : (x a : ContextId) → above_in ms x ≡ Some a → root x ms ≡ root a ms
  pub tabs : (x : ContextId) → x.creator ≡ 0 → above_in ms x ≡ None

-- ---- what is top-level

pub line_top : (x : ContextId) (ms : List Making) → above_in ms x ≡ None → line x ms ≡ x ∷ []
line_top x [] e = refl
line_top x (Top y g ∷ ms) e = line_top x ms e
line_top x (Below y a ∷ ms) e = by_test (same_context x y) e (line_top x ms)
  where
    by_test : (b : Bool) → (if b then Some a else above_in ms x) ≡ None → (above_in ms x ≡ None → line x ms ≡ x ∷ []) → (if b then x ∷ line a ms else line x ms) ≡ x ∷ []
    by_test true e rest = absurd cc
    by_test false e rest = rest e

pub root_top : (x : ContextId) (ms : List Making) → above_in ms x ≡ None → root x ms ≡ x
root_top x [] e = refl
root_top x (Top y g ∷ ms) e = root_top x ms e
root_top x (Below y a ∷ ms) e = by_test (same_context x y) e (root_top x ms)
  where
    by_test : (b : Bool) → (if b then Some a else above_in ms x) ≡ None → (above_in ms x ≡ None → root x ms ≡ x) → (if b then root a ms else root x ms) ≡ x
    by_test true e rest = absurd cc
    by_test false e rest = rest e

-- ---- makings that go together

-- a context isn't named among these
abbrev pub IsUnnamed : ContextId → Making → Type 0
IsUnnamed x (Below y a) = (same_context x y ≡ false) × (same_context a x ≡ false)
IsUnnamed x (Top y g) = same_context x y ≡ false

-- what is made is new, or it was made before below the same
abbrev pub IsNew : ContextId → ContextId → List Making → Type 0
IsNew x a ms = (above_in ms x ≡ Some a) ⊎ (AllByRecursion (IsUnnamed x) ms × (same_context a x ≡ false))

abbrev pub IsCoherent : Making → List Making → Type 0
IsCoherent (Below x a) ms = IsNew x a ms
IsCoherent (Top x g) ms = opened_in ms x ≡ None

abbrev pub Coherent : List Making → Type 0
Coherent [] = Unit {0}
Coherent (m ∷ ms) = IsCoherent m ms × Coherent ms

-- what is above another was named
named : (x a : ContextId) (ms : List Making) → AllByRecursion (IsUnnamed x) ms → (y : ContextId) → above_in ms y ≡ Some a → same_context a x ≡ false
named x a [] un y e = none_some a e
named x a (Top z g ∷ ms) un y e = named x a ms un.1 y e
named x a (Below z b ∷ ms) un y e = by_test (same_context y z) e (named x a ms un.1 y)
  where
    by_test : (v : Bool) → (if v then Some b else above_in ms y) ≡ Some a → (above_in ms y ≡ Some a → same_context a x ≡ false) → same_context a x ≡ false
    by_test true e rest = subst (λ z. same_context z x ≡ false) (some_is b a e) un.0.1
    by_test false e rest = rest e

new_above : (x : ContextId) (ms : List Making) → AllByRecursion (IsUnnamed x) ms → above_in ms x ≡ None
new_above x [] un = refl
new_above x (Top y g ∷ ms) un = new_above x ms un.1
new_above x (Below y a ∷ ms) un = ap (λ (b : Bool). if b then Some a else above_in ms x) un.0.0 ∙ new_above x ms un.1

pub longer : (x a : ContextId) (ms : List Making) → line x ms ≡ x ∷ line a ms → same_context a x ≡ false
longer x a ms e = by_test (same_context a x) refl
  where
    by_test : (b : Bool) → same_context a x ≡ b → same_context a x ≡ false
    by_test false is = is
    by_test true is =
        let one : line x ms ≡ x ∷ line x ms = e ∙ ap (λ z. x ∷ line z ms) (same_context_is a x is) in
        let len : length (line x ms) ≡ length (x ∷ line x ms) = ap length one in
        absurd (omega (arith, len))

-- a line doesn't change by what is made below, whoever is looked at
unchanged_line : (y b : ContextId) (ms : List Making) → (line_before : above_in ms y ≡ Some b → line y ms ≡ y ∷ line b ms) → IsNew y b ms
    → (a : ContextId) → (AllByRecursion (IsUnnamed y) ms → same_context a y ≡ false) → line a (Below y b ∷ ms) ≡ line a ms
unchanged_line y b ms before co a new = by_test (same_context a y) refl co
  where
    by_test : (v : Bool) → same_context a y ≡ v → IsNew y b ms → (if v then a ∷ line b ms else line a ms) ≡ line a ms
    by_test false e co = refl
    by_test true e (inr un) = true_false (same_context a y) e (new un.0)
    by_test true e (inl again) =
        let is : a ≡ y = same_context_is a y e in
        ap (λ z. z ∷ line b ms) is ∙ sym (before again) ∙ ap (λ z. line z ms) (sym is)

pub line_goes_on : (ms : List Making) → Coherent ms → (x a : ContextId) → above_in ms x ≡ Some a → line x ms ≡ x ∷ line a ms
line_goes_on [] co x a e = none_some a e
line_goes_on (Top y g ∷ ms) co x a e = line_goes_on ms co.1 x a e
line_goes_on (Below y b ∷ ms) co x a e = by_test (same_context x y) refl (line_goes_on ms co.1)
  where
    by_test : (v : Bool) → same_context x y ≡ v → ((z w : ContextId) → above_in ms z ≡ Some w → line z ms ≡ z ∷ line w ms) → line x (Below y b ∷ ms) ≡ x ∷ line a (Below y b ∷ ms)
    by_test true is before =
        let below : b ≡ a = some_is b a (sym (ap (λ (v : Bool). if v then Some b else above_in ms x) is) ∙ e) in
        ap (λ (v : Bool). if v then x ∷ line b ms else line x ms) is
        ∙ ap (λ z. x ∷ z) (sym (unchanged_line y b ms (before y b) co.0 b (apart before co.0)))
        ∙ ap (λ z. x ∷ line z (Below y b ∷ ms)) below
      where
        apart : ((z w : ContextId) → above_in ms z ≡ Some w → line z ms ≡ z ∷ line w ms) → IsNew y b ms → AllByRecursion (IsUnnamed y) ms → same_context b y ≡ false
        apart before (inl again) un = none_some b (sym (new_above y ms un) ∙ again)
        apart before (inr new) un = new.1
    by_test false is before =
        let older : above_in ms x ≡ Some a = sym (ap (λ (v : Bool). if v then Some b else above_in ms x) is) ∙ e in
        ap (λ (v : Bool). if v then x ∷ line b ms else line x ms) is ∙ before x a older
        ∙ ap (λ z. x ∷ z) (sym (unchanged_line y b ms (before y b) co.0 a (λ un. named y a ms un x older)))

-- the same of the top-level context
unchanged_root : (y b : ContextId) (ms : List Making) → (above_in ms y ≡ Some b → root y ms ≡ root b ms) → IsNew y b ms
    → (a : ContextId) → (AllByRecursion (IsUnnamed y) ms → same_context a y ≡ false) → root a (Below y b ∷ ms) ≡ root a ms
unchanged_root y b ms before co a new = by_test (same_context a y) refl co
  where
    by_test : (v : Bool) → same_context a y ≡ v → IsNew y b ms → (if v then root b ms else root a ms) ≡ root a ms
    by_test false e co = refl
    by_test true e (inr un) = true_false (same_context a y) e (new un.0)
    by_test true e (inl again) = sym (before again) ∙ ap (λ z. root z ms) (sym (same_context_is a y e))

pub root_goes_on : (ms : List Making) → Coherent ms → (x a : ContextId) → above_in ms x ≡ Some a → root x ms ≡ root a ms
root_goes_on [] co x a e = none_some a e
root_goes_on (Top y g ∷ ms) co x a e = root_goes_on ms co.1 x a e
root_goes_on (Below y b ∷ ms) co x a e = by_test (same_context x y) refl (root_goes_on ms co.1)
  where
    by_test : (v : Bool) → same_context x y ≡ v → ((z w : ContextId) → above_in ms z ≡ Some w → root z ms ≡ root w ms) → root x (Below y b ∷ ms) ≡ root a (Below y b ∷ ms)
    by_test true is before =
        let below : b ≡ a = some_is b a (sym (ap (λ (v : Bool). if v then Some b else above_in ms x) is) ∙ e) in
        ap (λ (v : Bool). if v then root b ms else root x ms) is
        ∙ sym (unchanged_root y b ms (before y b) co.0 b (apart co.0))
        ∙ ap (λ z. root z (Below y b ∷ ms)) below
      where
        apart : IsNew y b ms → AllByRecursion (IsUnnamed y) ms → same_context b y ≡ false
        apart (inl again) un = none_some b (sym (new_above y ms un) ∙ again)
        apart (inr new) un = new.1
    by_test false is before =
        let older : above_in ms x ≡ Some a = sym (ap (λ (v : Bool). if v then Some b else above_in ms x) is) ∙ e in
        ap (λ (v : Bool). if v then root b ms else root x ms) is ∙ before x a older
        ∙ sym (unchanged_root y b ms (before y b) co.0 a (λ un. named y a ms un x older))

-- ---- all makings are told by the first that is found

abbrev pub IsToldBy : List Making → Making → Type 0
IsToldBy ms (Below x a) = above_in ms x ≡ Some a
IsToldBy ms (Top x g) = opened_in ms x ≡ Some g

pub told_still : (m n : Making) (ms : List Making) → IsCoherent n ms → IsToldBy ms m → IsToldBy (n ∷ ms) m
told_still (Below x a) (Top z g) ms co told = told
told_still (Top x g) (Below z b) ms co told = told
told_still (Below x a) (Below z b) ms co told = by_test (same_context x z) refl co
  where
    by_test : (v : Bool) → same_context x z ≡ v → IsNew z b ms → (if v then Some b else above_in ms x) ≡ Some a
    by_test false e co = told
    by_test true e (inl again) = sym again ∙ ap (above_in ms) (sym (same_context_is x z e)) ∙ told
    by_test true e (inr new) = none_some a (sym (ap (above_in ms) (same_context_is x z e) ∙ new_above z ms new.0) ∙ told)
told_still (Top x g) (Top z h) ms co told = by_test (same_context x z) refl
  where
    by_test : (v : Bool) → same_context x z ≡ v → (if v then Some h else opened_in ms x) ≡ Some g
    by_test false e = told
    by_test true e = none_some g (sym (ap (opened_in ms) (same_context_is x z e) ∙ co) ∙ told)

told_all : (ns ms : List Making) (n : Making) → IsCoherent n ms → AllByRecursion (IsToldBy ms) ns → AllByRecursion (IsToldBy (n ∷ ms)) ns
told_all [] ms n co all = tt
told_all (m ∷ ns) ms n co all = (told_still m n ms co all.0, told_all ns ms n co all.1)

told_first : (m : Making) (ms : List Making) → IsToldBy (m ∷ ms) m
told_first (Below x a) ms = ap (λ (b : Bool). if b then Some a else above_in ms x) (same_itself x)
told_first (Top x g) ms = ap (λ (b : Bool). if b then Some g else opened_in ms x) (same_itself x)

pub all_told : (ms : List Making) → Coherent ms → AllByRecursion (IsToldBy ms) ms
all_told [] co = tt
all_told (m ∷ ms) co = (told_first m ms, told_all ms ms m co.0 (all_told ms co.1))

-- no tab was made below another
abbrev pub IsPlaced : Making → Type 0
IsPlaced (Below x a) = x.creator ≡ 0 → ⊥
IsPlaced (Top x g) = Unit {0}

tab_above : (ms : List Making) → AllByRecursion IsPlaced ms → (x : ContextId) → x.creator ≡ 0 → above_in ms x ≡ None
tab_above [] all x e = refl
tab_above (Top y g ∷ ms) all x e = tab_above ms all.1 x e
tab_above (Below y a ∷ ms) all x e = by_test (same_context x y) refl (tab_above ms all.1 x e)
  where
    by_test : (b : Bool) → same_context x y ≡ b → above_in ms x ≡ None → (if b then Some a else above_in ms x) ≡ None
    by_test true is rest = absurd (all.0 (ap (λ (z : ContextId). z.creator) (sym (same_context_is x y is)) ∙ e))
    by_test false is rest = rest

pub lined : (ms : List Making) → Coherent ms → AllByRecursion IsPlaced ms → Lined ms
lined ms co frames = record { line_step = line_goes_on ms co; root_step = root_goes_on ms co; tabs = tab_above ms frames }

-- ---- groups

-- a context is in the group of the one above it
pub group_step : (tabs : List StartTab) (ms : List Making) → Lined ms → (x a : ContextId) → above_in ms x ≡ Some a → group_in tabs ms x ≡ group_in tabs ms a
group_step tabs ms l x a up = ap (λ r. or_later (group_of tabs r) (opened_in ms r)) (l.root_step x a up)

-- what is top-level is in the group of its tab
pub group_top : (tabs : List StartTab) (ms : List Making) (x : ContextId) → above_in ms x ≡ None → group_in tabs ms x ≡ or_later (group_of tabs x) (opened_in ms x)
group_top tabs ms x up = ap (λ r. or_later (group_of tabs r) (opened_in ms r)) (root_top x ms up)
