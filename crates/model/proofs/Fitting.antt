-- What the parent says fits what it answered before: what is made is new and in what is live and owned, what is
-- removed or written is live. From this alone its answers hang together, along the lines of the makings.
use Rattle.std.proofs.Common.{◌≡◌, ℕ, zero, suc, ◌+◌, ◌-◌, ◌≤◌, ◌==◌, Bool, true, false, ◌&&◌, ◌||◌, if◌then◌else◌, Option, None, Some, option_map, List, [], ◌∷◌, length, refl, ap, ap₂, sym, subst, ◌∙◌, arith, eqb-true}
use Rattle.std.specs.Prelude.{is_some, nat_lt, nat_le, slice_get, ◌<◌}
use Rattle.std.specs.List.{AllByRecursion}
use Rattle.fission_ids.specs.declared.context.ContextId.{ContextId}
use Rattle.fission_ids.specs.declared.group.GroupId.{GroupId}
use Rattle.fission_ids.specs.Ids.{same_context}
use Rattle.wire_msgs.specs.declared.config.StartTab.{StartTab}
use Rattle.protocol.specs.Fold.{or_later}
use Rattle.protocol.specs.ParentActs.{context_of_tab}
use Rattle.protocol.specs.Questions.{Facts, is_owner, is_subscribed, option_any}
use Rattle.protocol.specs.FactsAfter.{facts_after}
use Rattle.protocol.specs.Hear.{is_new_frame}
use Rattle.protocol.specs.Sayings.{Saying}
use Rattle.protocol.specs.Sayings.Saying.{Opened, Made, BornDead, Removed, Wrote, Acked, Subscribed, Counted, Sent, Ended}
use Rattle.protocol.specs.Start.{is_live, group_of, tab_of}
use Rattle.model.specs.Lines.{Making, makings_said, line, above_in, opened_in, group_in, is_among}
use Rattle.model.specs.Parent.{asked, known, group, above, under, live, owner, value, order, groups_made, subscribers, keeping, commits_heard, bundles_sent, ended, tabs_made}
use Rattle.model.proofs.AskedMore.{asked_more}
use Rattle.model.proofs.Cases.{by_if, both_true, true_false, same_context_is, same_itself, same_swapped, some_is, none_some}
use Rattle.model.proofs.Lining.{Lined, IsToldBy, line_top, group_step, group_top}

-- ---- what a saying is said of

pub record MadeFits (f : Facts) (p : ℕ) (x above : ContextId) : Type 0 where
  pub frame : is_new_frame p x ≡ true
  pub new : f.contexts.known x ≡ false
  pub live : f.contexts.live above ≡ true
  pub owner : is_owner f p above ≡ true

pub record BornFits (f : Facts) (p : ℕ) (x above : ContextId) : Type 0 where
  pub frame : is_new_frame p x ≡ true
  pub new : f.contexts.known x ≡ false
  pub below : f.contexts.known above ≡ true

-- a tab's context is the next one of the parent
pub record OpenedFits (f : Facts) (x : ContextId) (p : ℕ) : Type 0 where
  pub next : x ≡ context_of_tab f
  pub low : p < 16

-- who is subscribed runs, and wasn't
pub record SubscribedFits (f : Facts) (p : ℕ) (g : GroupId) : Type 0 where
  pub low : p < 16
  pub runs : f.processes.ended p ≡ None
  pub new : is_subscribed f p g ≡ false

abbrev pub SayingFits : Facts → Saying → Type 0
SayingFits f (Opened x g is_new p) = OpenedFits f x p
SayingFits f (Made p x above) = MadeFits f p x above
SayingFits f (BornDead p x above) = BornFits f p x above
SayingFits f (Removed w but) = f.contexts.live w ≡ true
SayingFits f (Wrote x t) = f.contexts.live x ≡ true
SayingFits f (Subscribed p g) = SubscribedFits f p g
SayingFits f (Ended p cause) = p < 16
SayingFits f _ = Unit {0}

-- each of these, the newest first, fits the answers before it
abbrev pub AllFit : List StartTab → List Saying → Type 0
AllFit tabs [] = Unit {0}
AllFit tabs (y ∷ says) = SayingFits (asked tabs says) y × AllFit tabs says

-- ---- what holds of the answers

pub record FactsTies (tabs : List StartTab) (mk : List Making) (f : Facts) : Type 0 where
  pub live_known : (x : ContextId) → f.contexts.live x ≡ true → f.contexts.known x ≡ true
  pub tabs_known : (x : ContextId) → is_live tabs x ≡ true → f.contexts.known x ≡ true
  pub tabs_low : (x : ContextId) → f.contexts.known x ≡ true → x.creator ≡ 0 → x.serial ≤ f.tabs_made
  pub known_tops : (x : ContextId) → f.contexts.known x ≡ true → above_in mk x ≡ None → x.creator ≡ 0
  pub known_above : (x : ContextId) → f.contexts.known x ≡ true → f.contexts.above x ≡ above_in mk x
  pub known_group : (x : ContextId) → f.contexts.known x ≡ true → f.contexts.group x ≡ group_in tabs mk x
  pub above_known : (x a : ContextId) → f.contexts.known x ≡ true → above_in mk x ≡ Some a → f.contexts.known a ≡ true
  pub above_live : (x a : ContextId) → f.contexts.live x ≡ true → above_in mk x ≡ Some a → f.contexts.live a ≡ true
  pub live_under : (x z : ContextId) → f.contexts.live x ≡ true → f.contexts.under x z ≡ is_among z (line x mk)
  pub dead_under : (x z : ContextId) → f.contexts.live x ≡ false → f.contexts.under x z ≡ false
  pub owners_make : (x a : ContextId) (q : ℕ) → f.contexts.live x ≡ true → above_in mk x ≡ Some a → is_owner f q a ≡ true → x.creator ≡ q + 1
  pub owned_live : (x : ContextId) (q : ℕ) → is_owner f q x ≡ true → f.contexts.live x ≡ true

pub or_false : (b : Bool) → (b || false) ≡ b
or_false true = refl
or_false false = refl

-- what is made now, or was
pub made_or : (P : ContextId → Type 0) (x y : ContextId) (c : ContextId → Bool) → (if same_context y x then true else c y) ≡ true → P x → (c y ≡ true → P y) → P y
made_or P x y c e now was = go (same_context y x) refl e
  where
    go : (b : Bool) → same_context y x ≡ b → (if b then true else c y) ≡ true → P y
    go true is e = subst P (sym (same_context_is y x is)) now
    go false is e = was e

-- where the context of the test is that one, or isn't
pub at_made : {A : Type 0} (x y : ContextId) (P : A → Type 0) (now before : A) → (y ≡ x → P now) → (same_context y x ≡ false → P before) → P (if same_context y x then now else before)
at_made x y P now before is isnt = by_if P (same_context y x) now before (λ e. is (same_context_is y x e)) isnt

at_start : (tabs : List StartTab) (mk : List Making) → Lined mk → FactsTies tabs mk (asked tabs [])
unfolding known group above under live owner value order groups_made subscribers keeping commits_heard bundles_sent ended tabs_made
at_start tabs mk l = record {
  live_known = λ x e. e;
  tabs_known = λ x e. e;
  tabs_low = λ x e tab. low_tab (x.creator == 0 && nat_lt 0 x.serial) x.serial e;
  known_tops = λ x e none. tab_creator x e;
  known_above = λ x e. sym (top x e);
  known_group = λ x e. grouped x (tab_of tabs x) refl e ∙ sym (group_top tabs mk x (top x e));
  above_known = λ x a e up. none_some a (sym (top x e) ∙ up);
  above_live = λ x a e up. none_some a (sym (top x e) ∙ up);
  live_under = λ x z e. ap (λ b. b && same_context x z) e ∙ same_swapped x z ∙ sym (or_false (same_context z x)) ∙ ap (is_among z) (sym (line_top x mk (top x e)));
  dead_under = λ x z e. ap (λ b. b && same_context x z) e;
  owners_make = λ x a q e up owner. none_some a (sym (top x e) ∙ up);
  owned_live = λ x q e. owned_tab q (tab_of tabs x) e;
}
  where
    within : {A : Type 0} (xs : List A) (n : ℕ) → is_some (slice_get xs n) ≡ true → n < length xs
    within [] n e = absurd cc
    within (x ∷ xs) zero e = omega arith
    within (x ∷ xs) (suc n) e = omega (arith, within xs n e)

    low_tab : (b : Bool) (n : ℕ) → is_some (if b then slice_get tabs (n - 1) else None) ≡ true → n ≤ length tabs
    low_tab false n e = absurd cc
    low_tab true n e = omega (arith, within tabs (n - 1) e)

    group_numbered : ℕ → GroupId
    group_numbered n = record { 0 = n }

    grouped : (x : ContextId) (o : Option StartTab) → tab_of tabs x ≡ o → is_some o ≡ true → group_of tabs x ≡ or_later (group_of tabs x) (opened_in mk x)
    grouped x None is e = absurd cc
    grouped x (Some tab) is e = ap (option_map (λ (t : StartTab). group_numbered x.serial)) is ∙ sym (ap (λ o. or_later (option_map (λ (t : StartTab). group_numbered x.serial) o) (opened_in mk x)) is)

    owned_tab : (q : ℕ) (o : Option StartTab) → option_any (λ r. r == q) (option_map (λ tab. tab.owner.0) o) ≡ true → is_some o ≡ true
    owned_tab q (Some tab) e = refl
    owned_tab q None e = absurd cc

    some_of : {A : Type 0} (b : Bool) (o : Option A) → is_some (if b then o else None) ≡ true → b ≡ true
    some_of true o e = refl
    some_of false o e = absurd cc

    tab_creator : (x : ContextId) → is_live tabs x ≡ true → x.creator ≡ 0
    tab_creator x e = eqb-true x.creator 0 (both_true (x.creator == 0) (nat_lt 0 x.serial) (some_of (x.creator == 0 && nat_lt 0 x.serial) (slice_get tabs (x.serial - 1)) e)).0

    top : (x : ContextId) → is_live tabs x ≡ true → above_in mk x ≡ None
    top x e = l.tabs x (tab_creator x e)

first_of_three : (u v w : Bool) → (u && v && w) ≡ true → u ≡ true
first_of_three true v w e = refl
first_of_three false v w e = absurd cc

-- a frame is of the process that made it
pub frame_creator : (p : ℕ) (x : ContextId) → is_new_frame p x ≡ true → x.creator ≡ p + 1
frame_creator p x e = eqb-true x.creator (p + 1) (first_of_three (x.creator == p + 1) (nat_lt 0 x.serial) (nat_le x.serial 240) e)

-- what is known stays so
known_more : (f : Facts) (x y : ContextId) → f.contexts.known y ≡ true → (if same_context y x then true else f.contexts.known y) ≡ true
known_more f x y e = by_if (λ b. b ≡ true) (same_context y x) true (f.contexts.known y) (λ is. refl) (λ isnt. e)

after_opened : (tabs : List StartTab) (mk : List Making) (f : Facts) (x : ContextId) (g : GroupId) (is_new : Bool) (p : ℕ) → Lined mk → opened_in mk x ≡ Some g → OpenedFits f x p → FactsTies tabs mk f
    → FactsTies tabs mk (facts_after (Opened x g is_new p) f)
unfolding facts_after
after_opened tabs mk f x g is_new p l opened fits t = record {
  live_known = λ y e. made_or (λ z. (if same_context z x then true else f.contexts.known z) ≡ true) x y f.contexts.live e (ap (λ (b : Bool). if b then true else f.contexts.known x) (same_itself x)) (λ was. known_more f x y (t.live_known y was));
  tabs_known = λ y e. known_more f x y (t.tabs_known y e);
  tabs_low = λ y e tab. made_or (λ z. z.creator ≡ 0 → z.serial ≤ f.tabs_made + 1) x y f.contexts.known e (λ top. omega (arith, serial_is)) (λ was top. omega (arith, t.tabs_low y was top)) tab;
  known_tops = λ y e top. made_or (λ z. above_in mk z ≡ None → z.creator ≡ 0) x y f.contexts.known e (λ none. creator_is) (t.known_tops y) top;
  known_above = λ y e. at_made x y (λ o. o ≡ above_in mk y) None (f.contexts.above y) (λ is. sym (ap (above_in mk) is ∙ none_above)) (λ other. t.known_above y (was y f.contexts.known e other));
  known_group = λ y e. at_made x y (λ o. o ≡ group_in tabs mk y) (Some g) (f.contexts.group y) (λ is. sym (ap (group_in tabs mk) is ∙ group_is)) (λ other. t.known_group y (was y f.contexts.known e other));
  above_known = λ y b e upper. made_or (λ z. above_in mk z ≡ Some b → (if same_context b x then true else f.contexts.known b) ≡ true) x y f.contexts.known e
      (λ up. none_some b (sym none_above ∙ up)) (λ was up. known_more f x b (t.above_known y b was up)) upper;
  above_live = λ y b e upper. made_or (λ z. above_in mk z ≡ Some b → (if same_context b x then true else f.contexts.live b) ≡ true) x y f.contexts.live e
      (λ up. none_some b (sym none_above ∙ up)) (λ was up. live_more b (t.above_live y b was up)) upper;
  live_under = λ y z e. at_made x y (λ u. u ≡ is_among z (line y mk)) (same_context y z || false) (f.contexts.under y z)
      (λ is. ap (λ u. u || false) (same_swapped y z) ∙ ap (λ w. same_context z w || false) is ∙ sym (ap (is_among z) (ap (λ w. line w mk) is ∙ line_top x mk none_above)))
      (λ other. t.live_under y z (was y f.contexts.live e other));
  dead_under = λ y z e. at_made x y (λ u. u ≡ false) (same_context y z || false) (f.contexts.under y z)
      (λ is. true_false (if same_context y x then true else f.contexts.live y) (ap (λ w. if same_context w x then true else f.contexts.live w) is ∙ ap (λ (b : Bool). if b then true else f.contexts.live x) (same_itself x)) e)
      (λ other. t.dead_under y z (sym (ap (λ (b : Bool). if b then true else f.contexts.live y) other) ∙ e));
  owners_make = λ y b q e upper owner. made_or (λ z. above_in mk z ≡ Some b → option_any (λ r. r == q) (if same_context b x then Some p else f.contexts.owner b) ≡ true → z.creator ≡ q + 1) x y f.contexts.live e
      (λ up owned. none_some b (sym none_above ∙ up))
      (λ was up owned. t.owners_make y b q was up (owner_before b q (t.above_live y b was up) owned)) upper owner;
  owned_live = λ y q e. owned_now y q (same_context y x) e;
}
  where
    creator_is : x.creator ≡ 0
    creator_is = ap (λ (z : ContextId). z.creator) fits.next

    serial_is : x.serial ≡ f.tabs_made + 1
    serial_is = ap (λ (z : ContextId). z.serial) fits.next

    none_above : above_in mk x ≡ None
    none_above = l.tabs x creator_is

    unknown : f.contexts.known x ≡ true → ⊥
    unknown e = absurd (omega (arith, serial_is, t.tabs_low x e creator_is))

    no_tab : (o : Option StartTab) → tab_of tabs x ≡ o → group_of tabs x ≡ None
    no_tab None is = ap (option_map (λ (tab : StartTab). numbered x.serial)) is
      where
        numbered : ℕ → GroupId
        numbered n = record { 0 = n }
    no_tab (Some tab) is = absurd (unknown (t.tabs_known x (ap is_some is)))

    group_is : group_in tabs mk x ≡ Some g
    group_is = group_top tabs mk x none_above ∙ ap (λ o. or_later o (opened_in mk x)) (no_tab (tab_of tabs x) refl) ∙ opened

    was : (y : ContextId) (c : ContextId → Bool) → (if same_context y x then true else c y) ≡ true → same_context y x ≡ false → c y ≡ true
    was y c e other = sym (ap (λ (b : Bool). if b then true else c y) other) ∙ e

    live_more : (y : ContextId) → f.contexts.live y ≡ true → (if same_context y x then true else f.contexts.live y) ≡ true
    live_more y e = by_if (λ b. b ≡ true) (same_context y x) true (f.contexts.live y) (λ is. refl) (λ isnt. e)

    -- what is live isn't the new one
    old_is : (b : ContextId) → f.contexts.live b ≡ true → (v : Bool) → same_context b x ≡ v → same_context b x ≡ false
    old_is b e true is = absurd (unknown (t.live_known x (subst (λ z. f.contexts.live z ≡ true) (same_context_is b x is) e)))
    old_is b e false isnt = isnt

    owner_before : (b : ContextId) (q : ℕ) → f.contexts.live b ≡ true → option_any (λ r. r == q) (if same_context b x then Some p else f.contexts.owner b) ≡ true → is_owner f q b ≡ true
    owner_before b q e owned = sym (ap (λ (v : Bool). option_any (λ r. r == q) (if v then Some p else f.contexts.owner b)) (old_is b e (same_context b x) refl)) ∙ owned

    owned_now : (y : ContextId) (q : ℕ) (v : Bool) → option_any (λ r. r == q) (if v then Some p else f.contexts.owner y) ≡ true → (if v then true else f.contexts.live y) ≡ true
    owned_now y q true e = refl
    owned_now y q false e = t.owned_live y q e

after_made : (tabs : List StartTab) (mk : List Making) (f : Facts) (p : ℕ) (x a : ContextId) → Lined mk → above_in mk x ≡ Some a → MadeFits f p x a → FactsTies tabs mk f → FactsTies tabs mk (facts_after (Made p x a) f)
unfolding facts_after
after_made tabs mk f p x a l up fits t = record {
  live_known = λ y e. made_or (λ z. (if same_context z x then true else f.contexts.known z) ≡ true) x y f.contexts.live e now_known (λ was. known_still y (t.live_known y was));
  tabs_known = λ y e. known_still y (t.tabs_known y e);
  tabs_low = λ y e tab. made_or (λ z. z.creator ≡ 0 → z.serial ≤ f.tabs_made) x y f.contexts.known e (λ none. absurd (omega (arith, sym none ∙ creator_is))) (t.tabs_low y) tab;
  known_tops = λ y e top. made_or (λ z. above_in mk z ≡ None → z.creator ≡ 0) x y f.contexts.known e (λ none. none_some a (sym none ∙ up)) (t.known_tops y) top;
  known_above = λ y e. at_made x y (λ o. o ≡ above_in mk y) (Some a) (f.contexts.above y) (λ is. sym (ap (above_in mk) is ∙ up)) (λ other. t.known_above y (was_known y e other));
  known_group = λ y e. at_made x y (λ g. g ≡ group_in tabs mk y) (f.contexts.group a) (f.contexts.group y)
      (λ is. t.known_group a a_known ∙ sym (group_step tabs mk l x a up) ∙ ap (group_in tabs mk) (sym is)) (λ other. t.known_group y (was_known y e other));
  above_known = λ y b e upper. made_or (λ z. above_in mk z ≡ Some b → (if same_context b x then true else f.contexts.known b) ≡ true) x y f.contexts.known e
      (λ up_x. known_still b (subst (λ z. f.contexts.known z ≡ true) (some_is a b (sym up ∙ up_x)) a_known)) (λ was up_y. known_still b (t.above_known y b was up_y)) upper;
  above_live = λ y b e upper. made_or (λ z. above_in mk z ≡ Some b → (if same_context b x then true else f.contexts.live b) ≡ true) x y f.contexts.live e
      (λ up_x. live_still b (subst (λ z. f.contexts.live z ≡ true) (some_is a b (sym up ∙ up_x)) fits.live)) (λ was up_y. live_still b (t.above_live y b was up_y)) upper;
  live_under = λ y z e. at_made x y (λ u. u ≡ is_among z (line y mk)) (same_context y z || f.contexts.under a z) (f.contexts.under y z)
      (λ is. ap₂ (λ u v. u || v) (same_swapped y z) (t.live_under a z fits.live) ∙ ap (λ w. same_context z w || is_among z (line a mk)) is ∙ ap (is_among z) (sym (l.line_step x a up)) ∙ ap (λ w. is_among z (line w mk)) (sym is))
      (λ other. t.live_under y z (was_live y e other));
  dead_under = λ y z e. at_made x y (λ u. u ≡ false) (same_context y z || f.contexts.under a z) (f.contexts.under y z)
      (λ is. true_false (if same_context y x then true else f.contexts.live y) (ap (λ w. if same_context w x then true else f.contexts.live w) is ∙ ap (λ (b : Bool). if b then true else f.contexts.live x) (same_itself x)) e)
      (λ other. t.dead_under y z (sym (ap (λ (b : Bool). if b then true else f.contexts.live y) other) ∙ e));
  owners_make = λ y b q e upper owner. made_or (λ z. above_in mk z ≡ Some b → option_any (λ r. r == q) (if same_context b x then Some p else f.contexts.owner b) ≡ true → z.creator ≡ q + 1) x y f.contexts.live e
      (λ up_x owned. made_by_owner b q (some_is a b (sym up ∙ up_x)) owned)
      (λ was up_y owned. t.owners_make y b q was up_y (old_owner b q (t.above_live y b was up_y) owned)) upper owner;
  owned_live = λ y q e. owned_now y q e;
}
  where
    new_dead : f.contexts.live x ≡ true → ⊥
    new_dead e = true_false (f.contexts.known x) (t.live_known x e) fits.new

    -- what is live isn't the new one
    old_is : (b : ContextId) → f.contexts.live b ≡ true → same_context b x ≡ false
    old_is b e = by_test (same_context b x) refl
      where
        by_test : (v : Bool) → same_context b x ≡ v → same_context b x ≡ false
        by_test true is = absurd (new_dead (subst (λ z. f.contexts.live z ≡ true) (same_context_is b x is) e))
        by_test false isnt = isnt

    old_owner : (b : ContextId) (q : ℕ) → f.contexts.live b ≡ true → option_any (λ r. r == q) (if same_context b x then Some p else f.contexts.owner b) ≡ true → is_owner f q b ≡ true
    old_owner b q e owned = sym (ap (λ (v : Bool). option_any (λ r. r == q) (if v then Some p else f.contexts.owner b)) (old_is b e)) ∙ owned

    one_owner : (o : Option ℕ) (q r : ℕ) → option_any (λ n. n == q) o ≡ true → option_any (λ n. n == r) o ≡ true → q ≡ r
    one_owner None q r e d = absurd cc
    one_owner (Some n) q r e d = sym (eqb-true n q e) ∙ eqb-true n r d

    creator_is : x.creator ≡ p + 1
    creator_is = frame_creator p x fits.frame

    made_by_owner : (b : ContextId) (q : ℕ) → a ≡ b → option_any (λ r. r == q) (if same_context b x then Some p else f.contexts.owner b) ≡ true → x.creator ≡ q + 1
    made_by_owner b q is owned =
        let a_live : f.contexts.live b ≡ true = subst (λ z. f.contexts.live z ≡ true) is fits.live in
        let a_owned : is_owner f p b ≡ true = subst (λ z. is_owner f p z ≡ true) is fits.owner in
        creator_is ∙ ap (λ n. n + 1) (one_owner (f.contexts.owner b) p q a_owned (old_owner b q a_live owned))

    owned_now : (y : ContextId) (q : ℕ) → option_any (λ r. r == q) (if same_context y x then Some p else f.contexts.owner y) ≡ true → (if same_context y x then true else f.contexts.live y) ≡ true
    owned_now y q e = by_test (same_context y x) e
      where
        by_test : (v : Bool) → option_any (λ r. r == q) (if v then Some p else f.contexts.owner y) ≡ true → (if v then true else f.contexts.live y) ≡ true
        by_test true e = refl
        by_test false e = t.owned_live y q e

    a_known : f.contexts.known a ≡ true
    a_known = t.live_known a fits.live

    now_known : (if same_context x x then true else f.contexts.known x) ≡ true
    now_known = ap (λ (b : Bool). if b then true else f.contexts.known x) (same_itself x)

    known_still : (y : ContextId) → f.contexts.known y ≡ true → (if same_context y x then true else f.contexts.known y) ≡ true
    known_still y e = by_if (λ b. b ≡ true) (same_context y x) true (f.contexts.known y) (λ is. refl) (λ isnt. e)

    live_still : (y : ContextId) → f.contexts.live y ≡ true → (if same_context y x then true else f.contexts.live y) ≡ true
    live_still y e = by_if (λ b. b ≡ true) (same_context y x) true (f.contexts.live y) (λ is. refl) (λ isnt. e)

    was_known : (y : ContextId) → (if same_context y x then true else f.contexts.known y) ≡ true → same_context y x ≡ false → f.contexts.known y ≡ true
    was_known y e other = sym (ap (λ (b : Bool). if b then true else f.contexts.known y) other) ∙ e

    was_live : (y : ContextId) → (if same_context y x then true else f.contexts.live y) ≡ true → same_context y x ≡ false → f.contexts.live y ≡ true
    was_live y e other = sym (ap (λ (b : Bool). if b then true else f.contexts.live y) other) ∙ e

after_born : (tabs : List StartTab) (mk : List Making) (f : Facts) (p : ℕ) (x a : ContextId) → Lined mk → above_in mk x ≡ Some a → BornFits f p x a → FactsTies tabs mk f → FactsTies tabs mk (facts_after (BornDead p x a) f)
unfolding facts_after
after_born tabs mk f p x a l up fits t = record {
  live_known = λ y e. known_still y (t.live_known y e);
  tabs_known = λ y e. known_still y (t.tabs_known y e);
  tabs_low = λ y e tab. made_or (λ z. z.creator ≡ 0 → z.serial ≤ f.tabs_made) x y f.contexts.known e (λ none. absurd (omega (arith, sym none ∙ frame_creator p x fits.frame))) (t.tabs_low y) tab;
  known_tops = λ y e top. made_or (λ z. above_in mk z ≡ None → z.creator ≡ 0) x y f.contexts.known e (λ none. none_some a (sym none ∙ up)) (t.known_tops y) top;
  known_above = λ y e. at_made x y (λ o. o ≡ above_in mk y) (Some a) (f.contexts.above y) (λ is. sym (ap (above_in mk) is ∙ up)) (λ other. t.known_above y (was_known y e other));
  known_group = λ y e. at_made x y (λ g. g ≡ group_in tabs mk y) (f.contexts.group a) (f.contexts.group y)
      (λ is. t.known_group a fits.below ∙ sym (group_step tabs mk l x a up) ∙ ap (group_in tabs mk) (sym is)) (λ other. t.known_group y (was_known y e other));
  above_known = λ y b e upper. made_or (λ z. above_in mk z ≡ Some b → (if same_context b x then true else f.contexts.known b) ≡ true) x y f.contexts.known e
      (λ up_x. known_still b (subst (λ z. f.contexts.known z ≡ true) (some_is a b (sym up ∙ up_x)) fits.below)) (λ was up_y. known_still b (t.above_known y b was up_y)) upper;
  above_live = t.above_live;
  live_under = t.live_under;
  dead_under = t.dead_under;
  owners_make = t.owners_make;
  owned_live = t.owned_live;
}
  where
    known_still : (y : ContextId) → f.contexts.known y ≡ true → (if same_context y x then true else f.contexts.known y) ≡ true
    known_still y e = by_if (λ b. b ≡ true) (same_context y x) true (f.contexts.known y) (λ is. refl) (λ isnt. e)

    was_known : (y : ContextId) → (if same_context y x then true else f.contexts.known y) ≡ true → same_context y x ≡ false → f.contexts.known y ≡ true
    was_known y e other = sym (ap (λ (b : Bool). if b then true else f.contexts.known y) other) ∙ e

after_removed : (tabs : List StartTab) (mk : List Making) (f : Facts) (w : ContextId) (but : Option ℕ) → Lined mk → FactsTies tabs mk f → FactsTies tabs mk (facts_after (Removed w but) f)
unfolding facts_after
after_removed tabs mk f w but l t = record {
  live_known = λ y e. t.live_known y (left y e).1;
  tabs_known = t.tabs_known;
  tabs_low = t.tabs_low;
  known_tops = t.known_tops;
  known_above = t.known_above;
  known_group = t.known_group;
  above_known = t.above_known;
  above_live = λ y b e upper.
      let was : f.contexts.live b ≡ true = t.above_live y b (left y e).1 upper in
      let outside : f.contexts.under b w ≡ false = t.live_under b w was ∙ outside_above y b (left y e).0 (left y e).1 upper in
      ap (λ (u : Bool). if u then false else f.contexts.live b) outside ∙ was;
  live_under = λ y z e. ap (λ (u : Bool). if u then false else f.contexts.under y z) (left y e).0 ∙ t.live_under y z (left y e).1;
  dead_under = λ y z e. by_if (λ b. b ≡ false) (f.contexts.under y w) false (f.contexts.under y z) (λ is. refl) (λ isnt. t.dead_under y z (sym (ap (λ (u : Bool). if u then false else f.contexts.live y) isnt) ∙ e));
  owners_make = λ y b q e upper owner. t.owners_make y b q (left y e).1 upper (kept_owner b q owner).0;
  owned_live = λ y q e. let k : (is_owner f q y ≡ true) × (f.contexts.under y w ≡ false) = kept_owner y q e in
      ap (λ (u : Bool). if u then false else f.contexts.live y) k.1 ∙ t.owned_live y q k.0;
}
  where
    kept_owner : (b : ContextId) (q : ℕ) → option_any (λ r. r == q) (if f.contexts.under b w then None else f.contexts.owner b) ≡ true → (is_owner f q b ≡ true) × (f.contexts.under b w ≡ false)
    kept_owner b q e = by_test (f.contexts.under b w) refl e
      where
        by_test : (v : Bool) → f.contexts.under b w ≡ v → option_any (λ r. r == q) (if v then None else f.contexts.owner b) ≡ true → (is_owner f q b ≡ true) × (f.contexts.under b w ≡ false)
        by_test true is e = absurd cc
        by_test false is e = (e, is)

    left_by : (u v : Bool) → (if u then false else v) ≡ true → (u ≡ false) × (v ≡ true)
    left_by true v e = absurd cc
    left_by false v e = (refl, e)

    left : (y : ContextId) → (if f.contexts.under y w then false else f.contexts.live y) ≡ true → (f.contexts.under y w ≡ false) × (f.contexts.live y ≡ true)
    left y e = left_by (f.contexts.under y w) (f.contexts.live y) e

    right_false : (u v : Bool) → (u || v) ≡ false → v ≡ false
    right_false true v e = absurd cc
    right_false false v e = e

    outside_above : (y b : ContextId) → f.contexts.under y w ≡ false → f.contexts.live y ≡ true → above_in mk y ≡ Some b → is_among w (line b mk) ≡ false
    outside_above y b out live upper = right_false (same_context w y) (is_among w (line b mk)) (sym (ap (is_among w) (l.line_step y b upper)) ∙ sym (t.live_under y w live) ∙ out)

-- a saying that fits leaves them so
pub facts_still : (tabs : List StartTab) (mk : List Making) (f : Facts) (y : Saying) → Lined mk → AllByRecursion (IsToldBy mk) (makings_said (y ∷ [])) → SayingFits f y → FactsTies tabs mk f → FactsTies tabs mk (facts_after y f)
unfolding facts_after
facts_still tabs mk f (Opened x g is_new p) l told fits t = after_opened tabs mk f x g is_new p l told.0 fits t
facts_still tabs mk f (Made p x a) l told fits t = after_made tabs mk f p x a l told.0 fits t
facts_still tabs mk f (BornDead p x a) l told fits t = after_born tabs mk f p x a l told.0 fits t
facts_still tabs mk f (Removed w but) l told fits t = after_removed tabs mk f w but l t
facts_still tabs mk f (Subscribed p g) l told fits t = record {
  live_known = t.live_known;
  tabs_known = t.tabs_known;
  tabs_low = t.tabs_low;
  known_tops = t.known_tops;
  known_above = t.known_above;
  known_group = t.known_group;
  above_known = t.above_known;
  above_live = t.above_live;
  live_under = t.live_under;
  dead_under = t.dead_under;
  owners_make = t.owners_make;
  owned_live = t.owned_live;
}
facts_still tabs mk f (Wrote x c) l told fits t = record {
  live_known = t.live_known;
  tabs_known = t.tabs_known;
  tabs_low = t.tabs_low;
  known_tops = t.known_tops;
  known_above = t.known_above;
  known_group = t.known_group;
  above_known = t.above_known;
  above_live = t.above_live;
  live_under = t.live_under;
  dead_under = t.dead_under;
  owners_make = t.owners_make;
  owned_live = t.owned_live;
}
facts_still tabs mk f (Acked p x) l told fits t = record {
  live_known = t.live_known;
  tabs_known = t.tabs_known;
  tabs_low = t.tabs_low;
  known_tops = t.known_tops;
  known_above = t.known_above;
  known_group = t.known_group;
  above_known = t.above_known;
  above_live = t.above_live;
  live_under = t.live_under;
  dead_under = t.dead_under;
  owners_make = t.owners_make;
  owned_live = t.owned_live;
}
facts_still tabs mk f (Counted p) l told fits t = record {
  live_known = t.live_known;
  tabs_known = t.tabs_known;
  tabs_low = t.tabs_low;
  known_tops = t.known_tops;
  known_above = t.known_above;
  known_group = t.known_group;
  above_known = t.above_known;
  above_live = t.above_live;
  live_under = t.live_under;
  dead_under = t.dead_under;
  owners_make = t.owners_make;
  owned_live = t.owned_live;
}
facts_still tabs mk f (Sent p) l told fits t = record {
  live_known = t.live_known;
  tabs_known = t.tabs_known;
  tabs_low = t.tabs_low;
  known_tops = t.known_tops;
  known_above = t.known_above;
  known_group = t.known_group;
  above_known = t.above_known;
  above_live = t.above_live;
  live_under = t.live_under;
  dead_under = t.dead_under;
  owners_make = t.owners_make;
  owned_live = t.owned_live;
}
facts_still tabs mk f (Ended p cause) l told fits t = record {
  live_known = t.live_known;
  tabs_known = t.tabs_known;
  tabs_low = t.tabs_low;
  known_tops = t.known_tops;
  known_above = t.known_above;
  known_group = t.known_group;
  above_known = t.above_known;
  above_live = t.above_live;
  live_under = t.live_under;
  dead_under = t.dead_under;
  owners_make = λ x a q live up owner. t.owners_make x a q live up (owned_before a q owner);
  owned_live = λ x q owner. t.owned_live x q (owned_before x q owner);
}
  where
    owned_before : (a : ContextId) (q : ℕ) → option_any (λ r. r == q) (if option_any (λ r. r == p) (f.contexts.owner a) then None else f.contexts.owner a) ≡ true → is_owner f q a ≡ true
    owned_before a q e = by_test (option_any (λ r. r == p) (f.contexts.owner a)) e
      where
        by_test : (v : Bool) → option_any (λ r. r == q) (if v then None else f.contexts.owner a) ≡ true → is_owner f q a ≡ true
        by_test true e = absurd cc
        by_test false e = e

pub told_first : (mk : List Making) (y : Saying) (says : List Saying) → AllByRecursion (IsToldBy mk) (makings_said (y ∷ says)) → AllByRecursion (IsToldBy mk) (makings_said (y ∷ [])) × AllByRecursion (IsToldBy mk) (makings_said says)
told_first mk (Opened x g is_new p) says all = ((all.0, tt), all.1)
told_first mk (Made p x a) says all = ((all.0, tt), all.1)
told_first mk (BornDead p x a) says all = ((all.0, tt), all.1)
told_first mk (_) says all = (tt, all)

-- the answers behind all that was said
pub facts_tied : (tabs : List StartTab) (mk : List Making) (says : List Saying) → Lined mk → AllByRecursion (IsToldBy mk) (makings_said says) → AllFit tabs says → FactsTies tabs mk (asked tabs says)
facts_tied tabs mk [] l told fit = at_start tabs mk l
facts_tied tabs mk (y ∷ says) l told fit =
    let parts : AllByRecursion (IsToldBy mk) (makings_said (y ∷ [])) × AllByRecursion (IsToldBy mk) (makings_said says) = told_first mk y says told in
    subst (FactsTies tabs mk) (sym (asked_more tabs y says)) (facts_still tabs mk (asked tabs says) y l parts.0 fit.0 (facts_tied tabs mk says l parts.1 fit.1))
