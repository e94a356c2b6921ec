-- What a process answers hangs together along the lines of the makings: what it holds it holds with all above it.
use Rattle.std.proofs.Common.{◌≡◌, ℕ, ◌+◌, ◌-◌, ◌≤◌, ◌==◌, Bool, true, false, not, ◌&&◌, ◌||◌, if◌then◌else◌, Option, None, Some, option_map, List, [], ◌∷◌, refl, ap, ap₂, sym, subst, ◌∙◌, arith, eqb-true, eq-eqb}
use Rattle.std.specs.Prelude.{nat_lt, slice_get}
use Rattle.fission_ids.specs.declared.context.ContextId.{ContextId}
use Rattle.fission_ids.specs.declared.group.GroupId.{GroupId}
use Rattle.fission_ids.specs.Ids.{same_context}
use Rattle.field_table.specs.declared.field.Field.{Field}
use Rattle.field_table.specs.declared.value.Value.{Value}
use Rattle.field_table.specs.Field.{initial}
use Rattle.field_table.specs.Table.{value_in}
use Rattle.wire_msgs.specs.declared.config.StartTab.{StartTab}
use Rattle.wire_msgs.specs.declared.part.Known.{Known}
use Rattle.protocol.specs.Fold.{or_later}
use Rattle.protocol.specs.OwnActs.{next_frame}
use Rattle.protocol.specs.Questions.{option_any}
use Rattle.protocol.specs.Seen.{Seen, Doing}
use Rattle.protocol.specs.Seen.Doing.{Came, Framed, Went, Wrote as OwnWrote, Given, Disowned, Took, Stopped}
use Rattle.protocol.specs.SeenAfter.{seen_after, with_context}
use Rattle.protocol.specs.Start.{tab_of, group_of, is_of_tab, is_held_at_start}
use Rattle.protocol.specs.Take.{may_come, option_all}
use Rattle.model.specs.Lines.{Making, line, above_in, opened_in, group_in, is_among}
use Rattle.model.specs.Process.{own_asked, holds, group, above, owns, value, newest, order, running, commits, taken, frames_made}
use Rattle.model.proofs.AskedMore.{own_asked_more}
use Rattle.model.proofs.Cases.{by_if, both_true, true_false, same_itself, same_swapped, none_some}
use Rattle.model.proofs.Lining.{Lined, line_top, group_step, group_top}
use Rattle.model.proofs.Fitting.{or_false, made_or, at_made}

-- a context that the process is told of hangs as it was made
pub record KnownFits (tabs : List StartTab) (mk : List Making) (k : Known) : Type 0 where
  pub above : k.parent ≡ above_in mk k.context
  pub in_group : Some k.group ≡ group_in tabs mk k.context

-- a frame is the next one, in what is held
pub record FramedFits (p : ℕ) (mk : List Making) (s : Seen) (x below : ContextId) : Type 0 where
  pub next : x ≡ next_frame p s
  pub held : s.holds below ≡ true
  pub made : above_in mk x ≡ Some below

abbrev pub DoingFits : List StartTab → ℕ → List Making → Seen → Doing → Type 0
DoingFits tabs p mk s (Came k) = KnownFits tabs mk k
DoingFits tabs p mk s (Framed x a) = FramedFits p mk s x a
DoingFits tabs p mk s _ = Unit {0}

abbrev pub AllDone : List StartTab → ℕ → List Making → List Doing → Type 0
AllDone tabs p mk [] = Unit {0}
AllDone tabs p mk (d ∷ did) = DoingFits tabs p mk (own_asked tabs p did) d × AllDone tabs p mk did

pub record SeenTies (tabs : List StartTab) (p : ℕ) (mk : List Making) (s : Seen) : Type 0 where
  pub held_above : (x : ContextId) → s.holds x ≡ true → s.above x ≡ above_in mk x
  pub held_group : (x : ContextId) → s.holds x ≡ true → s.group x ≡ group_in tabs mk x
  pub held_own : (x : ContextId) → s.holds x ≡ true → x.creator ≡ p + 1 → x.serial ≤ s.frames_made
  pub above_held : (x a : ContextId) → s.holds x ≡ true → above_in mk x ≡ Some a → s.holds a ≡ true
  pub held_under : (x z : ContextId) → s.holds x ≡ true → s.under x z ≡ is_among z (line x mk)
  pub unheld_under : (x z : ContextId) → s.holds x ≡ false → s.under x z ≡ false

seen_at_start_ties : (tabs : List StartTab) (p : ℕ) (mk : List Making) → Lined mk → SeenTies tabs p mk (own_asked tabs p [])
unfolding holds group above owns value newest order running commits taken frames_made
seen_at_start_ties tabs p mk l = record {
  held_above = λ x e. sym (top x e);
  held_group = λ x e. ap (λ (b : Bool). if b then group_of tabs x else None) e ∙ grouped x (tab_of tabs x) refl e ∙ sym (group_top tabs mk x (top x e));
  held_own = λ x e own. absurd (omega (arith, sym own ∙ creator x e));
  above_held = λ x a e up. none_some a (sym (top x e) ∙ up);
  held_under = λ x z e. ap (λ b. b && same_context x z) e ∙ same_swapped x z ∙ sym (or_false (same_context z x)) ∙ ap (is_among z) (sym (line_top x mk (top x e)));
  unheld_under = λ x z e. ap (λ b. b && same_context x z) e;
}
  where
    numbered : ℕ → GroupId
    numbered n = record { 0 = n }

    grouped : (x : ContextId) (o : Option StartTab) → tab_of tabs x ≡ o → is_of_tab p o ≡ true → group_of tabs x ≡ or_later (group_of tabs x) (opened_in mk x)
    grouped x None is e = absurd cc
    grouped x (Some tab) is e = ap (option_map (λ (t : StartTab). numbered x.serial)) is ∙ sym (ap (λ o. or_later (option_map (λ (t : StartTab). numbered x.serial) o) (opened_in mk x)) is)

    some_tab : (b : Bool) (o : Option StartTab) → is_of_tab p (if b then o else None) ≡ true → b ≡ true
    some_tab true o e = refl
    some_tab false o e = absurd cc

    creator : (x : ContextId) → is_held_at_start tabs p x ≡ true → x.creator ≡ 0
    creator x e = eqb-true x.creator 0 (both_true (x.creator == 0) (nat_lt 0 x.serial) (some_tab (x.creator == 0 && nat_lt 0 x.serial) (slice_get tabs (x.serial - 1)) e)).0

    top : (x : ContextId) → is_held_at_start tabs p x ≡ true → above_in mk x ≡ None
    top x e = l.tabs x (creator x e)

-- one context more
module _ (tabs : List StartTab) (p : ℕ) (mk : List Making) (s : Seen) (x : ContextId) (up : Option ContextId) (g : Option GroupId) (owned : Bool) (values : Field → Value) (l : Lined mk) (is_up : up ≡ above_in mk x)
    (up_held : option_all s.holds up ≡ true) (t : SeenTies tabs p mk s) (in_group : g ≡ group_in tabs mk x) (made : ℕ) (own : x.creator ≡ p + 1 → x.serial ≤ made) (more : s.frames_made ≤ made)
  where
    abbrev after : Seen
    after = record (with_context x g up owned values s) { frames_made = made }

    held_still : (y : ContextId) → s.holds y ≡ true → after.holds y ≡ true
    held_still y e = by_if (λ b. b ≡ true) (same_context y x) true (s.holds y) (λ is. refl) (λ isnt. e)

    was_held : (y : ContextId) → after.holds y ≡ true → same_context y x ≡ false → s.holds y ≡ true
    was_held y e other = sym (ap (λ (b : Bool). if b then true else s.holds y) other) ∙ e

    above_is_held : (a : ContextId) → above_in mk x ≡ Some a → s.holds a ≡ true
    above_is_held a is = sym (ap (option_all s.holds) (is_up ∙ is)) ∙ up_held

    -- who is above it is in its line
    under_it : (z : ContextId) (o : Option ContextId) → above_in mk x ≡ o → (same_context x z || option_any (λ a. s.under a z) up) ≡ is_among z (line x mk)
    under_it z None top =
        ap (λ o. same_context x z || option_any (λ a. s.under a z) o) (is_up ∙ top) ∙ ap (λ u. u || false) (same_swapped x z) ∙ ap (is_among z) (sym (line_top x mk top))
    under_it z (Some a) is =
        ap (λ o. same_context x z || option_any (λ a. s.under a z) o) (is_up ∙ is) ∙ ap₂ (λ u v. u || v) (same_swapped x z) (t.held_under a z (above_is_held a is)) ∙ ap (is_among z) (sym (l.line_step x a is))

    one_more : SeenTies tabs p mk after
    one_more = record {
      held_above = λ y e. at_made x y (λ o. o ≡ above_in mk y) up (s.above y) (λ is. is_up ∙ sym (ap (above_in mk) is)) (λ other. t.held_above y (was_held y e other));
      held_group = λ y e. at_made x y (λ o. o ≡ group_in tabs mk y) g (s.group y) (λ is. in_group ∙ ap (group_in tabs mk) (sym is)) (λ other. t.held_group y (was_held y e other));
      held_own = λ y e mine. made_or (λ z. z.creator ≡ p + 1 → z.serial ≤ made) x y s.holds e own (λ was is. omega (arith, more, t.held_own y was is)) mine;
      above_held = λ y b e upper. made_or (λ z. above_in mk z ≡ Some b → after.holds b ≡ true) x y s.holds e
          (λ up_x. held_still b (above_is_held b up_x)) (λ was up_y. held_still b (t.above_held y b was up_y)) upper;
      held_under = λ y z e. at_made x y (λ u. u ≡ is_among z (line y mk)) (same_context y z || option_any (λ a. s.under a z) up) (s.under y z)
          (λ is. ap (λ w. same_context w z || option_any (λ a. s.under a z) up) is ∙ under_it z (above_in mk x) refl ∙ ap (λ w. is_among z (line w mk)) (sym is))
          (λ other. t.held_under y z (was_held y e other));
      unheld_under = λ y z e. at_made x y (λ u. u ≡ false) (same_context y z || option_any (λ a. s.under a z) up) (s.under y z)
          (λ is. true_false (after.holds y) (ap (λ w. if same_context w x then true else s.holds w) is ∙ ap (λ (b : Bool). if b then true else s.holds x) (same_itself x)) e)
          (λ other. t.unheld_under y z (sym (ap (λ (b : Bool). if b then true else s.holds y) other) ∙ e));
    }

not_own : {A : Type 0} (b : Bool) → b ≡ true → not b ≡ true → A
not_own true e n = absurd cc
not_own false e n = absurd cc

last_of_three : (a b c : Bool) → (a && b && c) ≡ true → (b ≡ true) × (c ≡ true)
last_of_three true true c e = (refl, e)
last_of_three true false c e = absurd cc
last_of_three false b c e = absurd cc

after_came : (tabs : List StartTab) (p : ℕ) (mk : List Making) (s : Seen) (k : Known) → Lined mk → KnownFits tabs mk k → SeenTies tabs p mk s → SeenTies tabs p mk (seen_after p (Came k) s)
unfolding seen_after
after_came tabs p mk s k l fits t = by_if (SeenTies tabs p mk) (may_come p s k) (with_context k.context (Some k.group) k.parent k.owned (value_in k.fields) s) s came (λ isnt. t)
  where
    came : may_come p s k ≡ true → SeenTies tabs p mk (with_context k.context (Some k.group) k.parent k.owned (value_in k.fields) s)
    came e =
        let parts : (not (k.context.creator == p + 1) ≡ true) × (option_all s.holds k.parent ≡ true) = last_of_three (not (s.holds k.context)) (not (k.context.creator == p + 1)) (option_all s.holds k.parent) e in
        one_more tabs p mk s k.context k.parent (Some k.group) k.owned (value_in k.fields) l fits.above parts.1 t fits.in_group s.frames_made
        (λ own. not_own (k.context.creator == p + 1) (eq-eqb k.context.creator (p + 1) own) parts.0) (omega arith)

after_framed : (tabs : List StartTab) (p : ℕ) (mk : List Making) (s : Seen) (x a : ContextId) → Lined mk → FramedFits p mk s x a → SeenTies tabs p mk s → SeenTies tabs p mk (seen_after p (Framed x a) s)
unfolding seen_after
after_framed tabs p mk s x a l fits t =
    one_more tabs p mk s x (Some a) (s.group a) true initial l (sym fits.made) fits.held t (t.held_group a fits.held ∙ sym (group_step tabs mk l x a fits.made)) (s.frames_made + 1)
    (λ own. subst (λ (z : ContextId). z.serial ≤ s.frames_made + 1) (sym fits.next) (omega arith)) (omega arith)

after_went : (tabs : List StartTab) (p : ℕ) (mk : List Making) (s : Seen) (w : ContextId) → Lined mk → SeenTies tabs p mk s → SeenTies tabs p mk (seen_after p (Went w) s)
unfolding seen_after
after_went tabs p mk s w l t = record {
  held_above = λ y e. ap (λ (u : Bool). if u then None else s.above y) (left y e).0 ∙ t.held_above y (left y e).1;
  held_group = λ y e. ap (λ (u : Bool). if u then None else s.group y) (left y e).0 ∙ t.held_group y (left y e).1;
  held_own = λ y e own. t.held_own y (left y e).1 own;
  above_held = λ y b e upper.
      let was : s.holds b ≡ true = t.above_held y b (left y e).1 upper in
      let outside : s.under b w ≡ false = t.held_under b w was ∙ outside_above y b (left y e).0 (left y e).1 upper in
      ap (λ (u : Bool). if u then false else s.holds b) outside ∙ was;
  held_under = λ y z e. ap (λ (u : Bool). if u then false else s.under y z) (left y e).0 ∙ t.held_under y z (left y e).1;
  unheld_under = λ y z e. by_if (λ b. b ≡ false) (s.under y w) false (s.under y z) (λ is. refl) (λ isnt. t.unheld_under y z (sym (ap (λ (u : Bool). if u then false else s.holds y) isnt) ∙ e));
}
  where
    left_by : (u v : Bool) → (if u then false else v) ≡ true → (u ≡ false) × (v ≡ true)
    left_by true v e = absurd cc
    left_by false v e = (refl, e)

    left : (y : ContextId) → (if s.under y w then false else s.holds y) ≡ true → (s.under y w ≡ false) × (s.holds y ≡ true)
    left y e = left_by (s.under y w) (s.holds y) e

    right_false : (u v : Bool) → (u || v) ≡ false → v ≡ false
    right_false true v e = absurd cc
    right_false false v e = e

    outside_above : (y b : ContextId) → s.under y w ≡ false → s.holds y ≡ true → above_in mk y ≡ Some b → is_among w (line b mk) ≡ false
    outside_above y b out held upper = right_false (same_context w y) (is_among w (line b mk)) (sym (ap (is_among w) (l.line_step y b upper)) ∙ sym (t.held_under y w held) ∙ out)

-- a doing that fits leaves them so
pub seen_still : (tabs : List StartTab) (p : ℕ) (mk : List Making) (s : Seen) (d : Doing) → Lined mk → DoingFits tabs p mk s d → SeenTies tabs p mk s → SeenTies tabs p mk (seen_after p d s)
unfolding seen_after
seen_still tabs p mk s (Came k) l fits t = after_came tabs p mk s k l fits t
seen_still tabs p mk s (Framed x a) l fits t = after_framed tabs p mk s x a l fits t
seen_still tabs p mk s (Went w) l fits t = after_went tabs p mk s w l t
seen_still tabs p mk s (OwnWrote x c) l fits t = record {
  held_above = t.held_above;
  held_group = t.held_group;
  held_own = t.held_own;
  above_held = t.above_held;
  held_under = t.held_under;
  unheld_under = t.unheld_under;
}
seen_still tabs p mk s (Given x c) l fits t = record {
  held_above = t.held_above;
  held_group = t.held_group;
  held_own = t.held_own;
  above_held = t.above_held;
  held_under = t.held_under;
  unheld_under = t.unheld_under;
}
seen_still tabs p mk s (Disowned x) l fits t = record {
  held_above = t.held_above;
  held_group = t.held_group;
  held_own = t.held_own;
  above_held = t.above_held;
  held_under = t.held_under;
  unheld_under = t.unheld_under;
}
seen_still tabs p mk s Took l fits t = record {
  held_above = t.held_above;
  held_group = t.held_group;
  held_own = t.held_own;
  above_held = t.above_held;
  held_under = t.held_under;
  unheld_under = t.unheld_under;
}
seen_still tabs p mk s Stopped l fits t = record {
  held_above = t.held_above;
  held_group = t.held_group;
  held_own = t.held_own;
  above_held = t.above_held;
  held_under = t.held_under;
  unheld_under = t.unheld_under;
}

-- the answers behind all that was done
pub seen_tied : (tabs : List StartTab) (p : ℕ) (mk : List Making) (did : List Doing) → Lined mk → AllDone tabs p mk did → SeenTies tabs p mk (own_asked tabs p did)
seen_tied tabs p mk [] l all = seen_at_start_ties tabs p mk l
seen_tied tabs p mk (d ∷ did) l all = subst (SeenTies tabs p mk) (sym (own_asked_more tabs p d did)) (seen_still tabs p mk (own_asked tabs p did) d l all.0 (seen_tied tabs p mk did l all.1))
