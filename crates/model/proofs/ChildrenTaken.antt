-- As a process takes the parts of a bundle, the children of a context in its order are those that came below it and are
-- held, but for those that still go.
use Rattle.std.proofs.Common.{◌≡◌, ◌⊎◌, inl, inr, ℕ, ◌+◌, ◌==◌, Bool, true, false, not, ◌&&◌, ◌||◌, if◌then◌else◌, Option, None, Some, List, [], ◌∷◌, ◌++◌, filter, refl, ap, ap₂, sym, subst, ◌∙◌, append_assoc, cond}
use Rattle.std.specs.Prelude.{insert}
use Rattle.std.specs.List.{AllByRecursion}
use Rattle.std.proofs.Math.Path.{fun_ext}
use Rattle.std.proofs.lemmas.List.{append-nil}
use Rattle.std.proofs.lemmas.List.Elements.{filter-append}
use Rattle.fission_ids.specs.declared.context.ContextId.{ContextId}
use Rattle.fission_ids.specs.Ids.{same_context}
use Rattle.field_table.specs.Table.{value_in}
use Rattle.wire_msgs.specs.declared.config.Config.{Config}
use Rattle.wire_msgs.specs.declared.part.DownPart.{DownPart}
use Rattle.wire_msgs.specs.declared.part.DownPart.TheVariants as downs
use Rattle.wire_msgs.specs.declared.part.Known.{Known}
use Rattle.protocol.specs.Fold.{after_part, after_parts, behind_all}
use Rattle.protocol.specs.Hear.{changes_where, is_noted, is_applied}
use Rattle.protocol.specs.Questions.{option_any}
use Rattle.protocol.specs.Seen.{Seen}
use Rattle.protocol.specs.Seen.Doing.{Came, Went, Given, Stopped}
use Rattle.protocol.specs.SeenAfter.{seen_after, with_context, place_for}
use Rattle.protocol.specs.Take.{take_rules, taken_notes, may_come, option_all}
use Rattle.protocol.specs.Take as take
use Rattle.traces.specs.Words.{Stage}
use Rattle.traces.specs.Words.Stage.{Coming, Held, Gone}
use Rattle.trees.specs.Look.{Effect, moved}
use Rattle.trees.specs.Look.Effect.{Stays, Comes, Goes}
use Rattle.trees.specs.Words.{is_held}
use Rattle.model.specs.Lines.{Making, line, above_in, is_among}
use Rattle.model.specs.Trees.{comes_if, goes_if, both, parts_tell, parts_bring}
use Rattle.model.proofs.Arranging.{come_all, ComeFirst}
use Rattle.model.proofs.Cases.{by_if, same_context_is, same_itself}
use Rattle.model.proofs.Children.{all_join, all_from}
use Rattle.model.proofs.DownFits.{ComingFits, IsApart, ComeApart}
use Rattle.model.proofs.Holding.{SeenTies, seen_still}
use Rattle.model.proofs.Lining.{Lined, longer}
use Rattle.model.proofs.Living.{both_moved, both_swapped, held_only}
use Rattle.model.proofs.Ordered.{held_order_still, one_below, went_below, comes_where, top_below}
use Rattle.model.proofs.Preorder.{Preorder, filter_all, filter_twice, filter_within, below_of, is_outside}
use Rattle.model.proofs.SingleFits.{SingleFits}
use Rattle.model.proofs.TreeLawful.{downs_below}
use Rattle.model.proofs.TreeTake.{unbrought}

-- ---- effects

abbrev pub is_goes : Effect → Bool
is_goes Goes = true
is_goes _ = false

goes_is : (e : Effect) → is_goes e ≡ true → e ≡ Goes
goes_is Goes e = refl
goes_is Stays e = absurd cc
goes_is Comes e = absurd cc

not_goes : (e : Effect) → is_goes e ≡ false → e ≡ Goes → ⊥
not_goes Goes e is = absurd cc
not_goes Stays e is = absurd cc
not_goes Comes e is = absurd cc

comes_unless : (e : Effect) → is_goes e ≡ false → both Comes e ≡ Comes
comes_unless Goes e = absurd cc
comes_unless Stays e = refl
comes_unless Comes e = refl

goes_comes : (v : Bool) (e : Effect) → is_goes (both (comes_if v) e) ≡ is_goes e
goes_comes false e = refl
goes_comes true Stays = refl
goes_comes true Comes = refl
goes_comes true Goes = refl

goes_goes : (v : Bool) (e : Effect) → is_goes (both (goes_if v) e) ≡ (v || is_goes e)
goes_goes false e = refl
goes_goes true e = refl

comes_held : (e : Effect) → is_goes e ≡ false → moved e Held ≡ Held
comes_held Stays e = refl
comes_held Comes e = refl
comes_held Goes e = absurd cc

-- what is held behind an effect that doesn't come was before
was_held : (e : Effect) (s : Stage) → (e ≡ Comes → ⊥) → moved e s ≡ Held → (is_goes e ≡ false) × (s ≡ Held)
was_held Stays s no_way h = (refl, h)
was_held Comes s no_way h = absurd (no_way refl)
was_held Goes s no_way h = absurd cc

never_new : (e : Effect) (s : Stage) → (s ≡ Coming → ⊥) → moved e s ≡ Coming → ⊥
never_new Stays s old h = old h
never_new Comes Coming old h = old refl
never_new Comes Held old h = absurd cc
never_new Comes Gone old h = absurd cc
never_new Goes s old h = absurd cc

comes_old : (s : Stage) → moved Comes s ≡ Coming → ⊥
comes_old Coming h = absurd cc
comes_old Held h = absurd cc
comes_old Gone h = absurd cc

-- what an effect and a later one do together
together : (a b : Effect) (s : Stage) → moved b (moved a s) ≡ moved (both a b) s
together a b s = sym (both_moved b a s) ∙ ap (λ e. moved e s) (both_swapped b a)

-- ---- in the middle of a bundle

-- it isn't discarded by one of these parts
abbrev pub stays : List Making → List DownPart → ContextId → Bool
stays mk post z = not (is_goes (parts_tell z (line z mk) post))

module _ (c : Config) (p : ℕ) (mk : List Making) (l : Lined mk) where
  -- where a coming is told of, the process doesn't hold it, and the context above is held by then unless it is gone
  pub record MayCome (L : ContextId → Stage) (post : List DownPart) (x z : ContextId) : Type 0 where
    pub unheld : L x ≡ Held → ⊥
    pub new : L x ≡ Coming → moved (parts_tell z (line z mk) post) (L z) ≡ Held
    pub gone : L x ≡ Gone → moved (parts_tell z (line z mk) post) (L z) ≡ Held → ⊥

  -- what the process answers of what these parts leave there is what the stages say
  pub record Midway (s : Seen) (L : ContextId → Stage) (post : List DownPart) : Type 0 where
    pub ties : SeenTies c.tabs p mk s
    pub order : Preorder mk s.order s.holds
    pub stages : (x : ContextId) → is_goes (parts_tell x (line x mk) post) ≡ false → is_held (L x) ≡ s.holds x
    pub coming : (x z : ContextId) → (x.creator == p + 1) ≡ false → above_in mk x ≡ Some z → parts_tell x (line x mk) post ≡ Comes → MayCome L post x z
    pub coming_top : (x : ContextId) → (x.creator == p + 1) ≡ false → above_in mk x ≡ None → parts_tell x (line x mk) post ≡ Comes → L x ≡ Coming

  -- and so are the children of y among those that came
  pub record MidwayBelow (y : ContextId) (s : Seen) (L : ContextId → Stage) (xs : List ContextId) (post : List DownPart) : Type 0 where
    pub children : filter (stays mk post) (below_of mk y s.order) ≡ filter (λ z. stays mk post z && is_held (L z)) xs
    pub old : AllByRecursion (λ z. L z ≡ Coming → ⊥) xs
    pub below : AllByRecursion (λ z. above_in mk z ≡ Some y) xs

  -- ---- a context comes

  module _ (s : Seen) (L : ContextId → Stage) (k : Known) (post : List DownPart) (fits : ComingFits c p mk k) (apart : AllByRecursion (IsApart k) (come_all post)) (t : Midway s L (downs.Create k ∷ post)) where
    abbrev x : ContextId
    x = k.context

    -- the stages behind it
    abbrev M : ContextId → Stage
    M z = moved (comes_if (same_context z k.context)) (L z)

    others_of : (ks : List Known) → AllByRecursion (IsApart k) ks → AllByRecursion (λ j. same_context j.context k.context ≡ false) ks
    others_of [] all = tt
    others_of (j ∷ ks) all = (all.0.other, others_of ks all.1)

    tell_x : is_goes (parts_tell k.context (line k.context mk) post) ≡ false → parts_tell k.context (line k.context mk) (downs.Create k ∷ post) ≡ Comes
    tell_x left = ap (λ v. both (comes_if v) (parts_tell x (line x mk) post)) (same_itself x) ∙ comes_unless (parts_tell x (line x mk) post) left

    unheld_x : is_goes (parts_tell k.context (line k.context mk) post) ≡ false → is_held (L k.context) ≡ false → s.holds k.context ≡ false
    unheld_x left off = sym (t.stages x (goes_comes (same_context x x) (parts_tell x (line x mk) post) ∙ left)) ∙ off

    -- it may come if what is above it is held
    may_come_then : (o : Option ContextId) → k.parent ≡ o → s.holds k.context ≡ false → option_all s.holds o ≡ true → may_come p s k ≡ true
    may_come_then o is off on = ap (λ q. not (s.holds x) && not (x.creator == p + 1) && option_all s.holds q) is ∙ all_parts (s.holds x) (x.creator == p + 1) (option_all s.holds o) off fits.others on
      where
        all_parts : (u v w : Bool) → u ≡ false → v ≡ false → w ≡ true → (not u && not v && w) ≡ true
        all_parts false false true e f g = refl
        all_parts true v w e f g = absurd cc
        all_parts false true w e f g = absurd cc
        all_parts false false false e f g = absurd cc

    abbrev ComeOrGone : Type 0
    ComeOrGone = ((L k.context ≡ Coming) × (may_come p s k ≡ true)) ⊎ ((L k.context ≡ Gone) × (may_come p s k ≡ false))

    -- with nothing above it, it comes
    top_comes : is_goes (parts_tell k.context (line k.context mk) post) ≡ false → above_in mk k.context ≡ None → ComeOrGone
    top_comes left top =
        let new : L x ≡ Coming = t.coming_top x fits.others top (tell_x left) in
        inl (new, may_come_then None (fits.known.above ∙ top) (unheld_x left (ap is_held new)) refl)

    -- below another it comes, or it is gone
    module _ (a : ContextId) (up : above_in mk k.context ≡ Some a) (left : is_goes (parts_tell k.context (line k.context mk) post) ≡ false) where
      parent_is : k.parent ≡ Some a
      parent_is = fits.known.above ∙ up

      above_of : (ks : List Known) → AllByRecursion (IsApart k) ks → AllByRecursion (λ j. same_context j.context a ≡ false) ks
      above_of [] all = tt
      above_of (j ∷ ks) all = (sym (ap (option_any (same_context j.context)) parent_is) ∙ all.0.not_above, above_of ks all.1)

      apart_above : same_context a k.context ≡ false
      apart_above = longer x a mk (l.line_step x a up)

      tell_a : parts_tell a (line a mk) (downs.Create k ∷ post) ≡ parts_tell a (line a mk) post
      tell_a = ap (λ v. both (comes_if v) (parts_tell a (line a mk) post)) apart_above

      comings : MayCome L (downs.Create k ∷ post) k.context a
      comings = t.coming x a fits.others up (tell_x left)

      stays_above : is_goes (parts_tell a (line a mk) post) ≡ false
      stays_above = by_goes (is_goes (parts_tell a (line a mk) post)) refl
        where
          by_goes : (v : Bool) → is_goes (parts_tell a (line a mk) post) ≡ v → v ≡ false
          by_goes false e = refl
          by_goes true e = absurd (not_goes (parts_tell x (line x mk) post) left (downs_below c p mk l x a post up (goes_is (parts_tell a (line a mk) post) e)))

      stage_above : is_held (L a) ≡ s.holds a
      stage_above = t.stages a (ap is_goes tell_a ∙ stays_above)

      lower_comes : ComeOrGone
      lower_comes = by_stage (L x) refl
        where
          by_may : (v : Bool) → may_come p s k ≡ v → L k.context ≡ Gone → may_come p s k ≡ false
          by_may false e gone = e
          by_may true e gone =
              let above : s.holds a ≡ true = (comes_where c.tabs mk l p s k a parent_is e).1 in
              absurd (comings.gone gone (ap₂ moved tell_a (held_only (L a) (stage_above ∙ above)) ∙ comes_held (parts_tell a (line a mk) post) stays_above))

          by_stage : (v : Stage) → L k.context ≡ v → ComeOrGone
          by_stage Held e = absurd (comings.unheld e)
          by_stage Gone e = inr (e, by_may (may_come p s k) refl e)
          by_stage Coming e =
              let held : moved (parts_tell a (line a mk) post) (L a) ≡ Held = sym (ap (λ d. moved d (L a)) tell_a) ∙ comings.new e in
              let before : L a ≡ Held = (was_held (parts_tell a (line a mk) post) (L a) (unbrought a (line a mk) post (above_of (come_all post) apart)) held).1 in
              inl (e, may_come_then (Some a) parent_is (unheld_x left (ap is_held e)) (sym stage_above ∙ ap is_held before))

    -- what is told of and stays comes, or it is gone
    come_or_gone : is_goes (parts_tell k.context (line k.context mk) post) ≡ false → ((L k.context ≡ Coming) × (may_come p s k ≡ true)) ⊎ ((L k.context ≡ Gone) × (may_come p s k ≡ false))
    come_or_gone left = by_above (above_in mk k.context) refl
      where
        by_above : (o : Option ContextId) → above_in mk k.context ≡ o → ((L k.context ≡ Coming) × (may_come p s k ≡ true)) ⊎ ((L k.context ≡ Gone) × (may_come p s k ≡ false))
        by_above None top = top_comes left top
        by_above (Some a) up = lower_comes a up left

    -- what the process holds then
    came_holds : (z : ContextId) → same_context z k.context ≡ false → (seen_after p (Came k) s).holds z ≡ s.holds z
    unfolding seen_after
    came_holds z other = by_if (λ (q : Seen). q.holds z ≡ s.holds z) (may_come p s k) (with_context k.context (Some k.group) k.parent k.owned (value_in k.fields) s) s
        (λ may. ap (λ (v : Bool). if v then true else s.holds z) other) (λ isnt. refl)

    came_itself : (v : Bool) → may_come p s k ≡ v → (seen_after p (Came k) s).holds k.context ≡ (v || s.holds k.context)
    unfolding seen_after
    came_itself true e = ap (λ (v : Bool). (if v then with_context k.context (Some k.group) k.parent k.owned (value_in k.fields) s else s).holds k.context) e ∙ ap (λ (v : Bool). if v then true else s.holds x) (same_itself x)
    came_itself false e = ap (λ (v : Bool). (if v then with_context k.context (Some k.group) k.parent k.owned (value_in k.fields) s else s).holds k.context) e

    pub came_midway : Midway (seen_after p (Came k) s) (λ z. moved (comes_if (same_context z k.context)) (L z)) post
    came_midway = record {
      ties = seen_still c.tabs p mk s (Came k) l fits.known t.ties;
      order = held_order_still c.tabs mk l p s (Came k) fits.known t.ties t.order;
      stages = λ z left. by_same z left (same_context z x) refl;
      coming = λ z u other up comes. come_still z u other up comes;
      coming_top = λ z other top comes. stage_still z comes ∙ t.coming_top z other top (comes_both z comes (same_context z x) ∙ ap (both Comes) comes);
    }
      where
        by_stage : is_goes (parts_tell k.context (line k.context mk) post) ≡ false → ((L k.context ≡ Coming) × (may_come p s k ≡ true)) ⊎ ((L k.context ≡ Gone) × (may_come p s k ≡ false)) → is_held (moved Comes (L k.context)) ≡ (seen_after p (Came k) s).holds k.context
        by_stage left (inl (coming, may)) = ap (λ v. is_held (moved Comes v)) coming ∙ sym (came_itself true may)
        by_stage left (inr (gone, not_so)) = ap (λ v. is_held (moved Comes v)) gone ∙ sym (came_itself false not_so ∙ unheld_x left (ap is_held gone))

        by_same : (z : ContextId) → is_goes (parts_tell z (line z mk) post) ≡ false → (v : Bool) → same_context z k.context ≡ v → is_held (moved (comes_if v) (L z)) ≡ (seen_after p (Came k) s).holds z
        by_same z left false other = t.stages z (goes_comes (same_context z x) (parts_tell z (line z mk) post) ∙ left) ∙ sym (came_holds z other)
        by_same z left true is =
            let same : z ≡ x = same_context_is z x is in
            let left_x : is_goes (parts_tell x (line x mk) post) ≡ false = subst (λ w. is_goes (parts_tell w (line w mk) post) ≡ false) same left in
            subst (λ w. is_held (moved Comes (L w)) ≡ (seen_after p (Came k) s).holds w) (sym same) (by_stage left_x (come_or_gone left_x))

        comes_both : (z : ContextId) → parts_tell z (line z mk) post ≡ Comes → (v : Bool) → both (comes_if v) (parts_tell z (line z mk) post) ≡ both Comes (parts_tell z (line z mk) post)
        comes_both z comes true = refl
        comes_both z comes false = comes ∙ sym (ap (both Comes) comes)

        -- what comes later is another
        different : (z : ContextId) → parts_tell z (line z mk) post ≡ Comes → (v : Bool) → same_context z k.context ≡ v → v ≡ false
        different z comes false e = refl
        different z comes true e = absurd (unbrought x (line x mk) post (others_of (come_all post) apart) (ap (λ w. parts_tell w (line w mk) post) (sym (same_context_is z x e)) ∙ comes))

        stage_still : (z : ContextId) → parts_tell z (line z mk) post ≡ Comes → moved (comes_if (same_context z k.context)) (L z) ≡ L z
        stage_still z comes = ap (λ v. moved (comes_if v) (L z)) (different z comes (same_context z x) refl)

        come_still : (z u : ContextId) → (z.creator == p + 1) ≡ false → above_in mk z ≡ Some u → parts_tell z (line z mk) post ≡ Comes → MayCome (λ w. moved (comes_if (same_context w k.context)) (L w)) post z u
        come_still z u other up comes =
            let before : MayCome L (downs.Create k ∷ post) z u = t.coming z u other up (comes_both z comes (same_context z x) ∙ ap (both Comes) comes) in record {
              unheld = λ e. before.unheld (sym (stage_still z comes) ∙ e);
              new = λ e. together (comes_if (same_context u x)) (parts_tell u (line u mk) post) (L u) ∙ before.new (sym (stage_still z comes) ∙ e);
              gone = λ e held. before.gone (sym (stage_still z comes) ∙ e) (sym (together (comes_if (same_context u x)) (parts_tell u (line u mk) post) (L u)) ∙ held);
            }

    -- ---- its children

    module _ (y : ContextId) (xs : List ContextId) (b : MidwayBelow y s L xs (downs.Create k ∷ post)) where
      abbrev added : List ContextId
      added = if option_any (same_context y) k.parent then k.context ∷ [] else []

      -- what stays is the same
      stays_same : (z : ContextId) → stays mk (downs.Create k ∷ post) z ≡ stays mk post z
      stays_same z = ap not (goes_comes (same_context z x) (parts_tell z (line z mk) post))

      stays_before : filter (stays mk post) (below_of mk y s.order) ≡ filter (λ z. stays mk post z && is_held (L z)) xs
      stays_before =
          sym (filter_within (stays mk (downs.Create k ∷ post)) (stays mk post) (below_of mk y s.order) (λ z among. stays_same z)) ∙ b.children
          ∙ filter_all (λ z. L z ≡ Coming → ⊥) (λ z. stays mk (downs.Create k ∷ post) z && is_held (L z)) (λ z. stays mk post z && is_held (L z)) xs b.old (λ z old. ap (λ v. v && is_held (L z)) (stays_same z))

      -- those that came before have the same stage, or go
      others_same : filter (λ z. stays mk post z && is_held (moved (comes_if (same_context z k.context)) (L z))) xs ≡ filter (λ z. stays mk post z && is_held (L z)) xs
      others_same = filter_all (λ z. L z ≡ Coming → ⊥) (λ z. stays mk post z && is_held (M z)) (λ z. stays mk post z && is_held (L z)) xs b.old (λ z old. ap (λ v. stays mk post z && v) (same_stage (same_context z x) (L z) old))
        where
          same_stage : (v : Bool) (u : Stage) → (u ≡ Coming → ⊥) → is_held (moved (comes_if v) u) ≡ is_held u
          same_stage false u old = refl
          same_stage true Coming old = absurd (old refl)
          same_stage true Held old = refl
          same_stage true Gone old = refl

      -- where it comes
      order_came : may_come p s k ≡ true → below_of mk y (seen_after p (Came k) s).order ≡ below_of mk y s.order ++ (if option_any (same_context y) k.parent then k.context ∷ [] else [])
      unfolding seen_after
      order_came may =
          ap (λ (v : Bool). below_of mk y (if v then with_context k.context (Some k.group) k.parent k.owned (value_in k.fields) s else s).order) may
          ∙ by_parent k.parent refl
        where
          by_parent : (o : Option ContextId) → k.parent ≡ o → below_of mk y (insert s.order (place_for s k.context k.parent) k.context) ≡ below_of mk y s.order ++ (if option_any (same_context y) k.parent then k.context ∷ [] else [])
          by_parent None is =
              ap (λ o. below_of mk y (insert s.order (place_for s x o) x)) is ∙ top_below c.tabs mk l p s x y (sym fits.known.above ∙ is)
              ∙ sym (append-nil (below_of mk y s.order)) ∙ ap (λ o. below_of mk y s.order ++ (if option_any (same_context y) o then x ∷ [] else [])) (sym is)
          by_parent (Some a) is =
              let where_it : (s.holds x ≡ false) × (s.holds a ≡ true) = comes_where c.tabs mk l p s k a is may in
              ap (λ o. below_of mk y (insert s.order (place_for s x o) x)) is ∙ one_below c.tabs mk l p s x a y (sym fits.known.above ∙ is) where_it.0 where_it.1 t.ties t.order
              ∙ ap (λ o. below_of mk y s.order ++ (if option_any (same_context y) o then x ∷ [] else [])) (sym is)

      order_stayed : may_come p s k ≡ false → below_of mk y (seen_after p (Came k) s).order ≡ below_of mk y s.order
      unfolding seen_after
      order_stayed not_so = ap (λ (v : Bool). below_of mk y (if v then with_context k.context (Some k.group) k.parent k.owned (value_in k.fields) s else s).order) not_so

      filter_added : (q : ContextId → Bool) (u : Bool) → q k.context ≡ u → filter q (if option_any (same_context y) k.parent then k.context ∷ [] else []) ≡ (if u then (if option_any (same_context y) k.parent then k.context ∷ [] else []) else [])
      filter_added q u e = by_below (option_any (same_context y) k.parent)
        where
          by_pass : (u : Bool) → cond u (k.context ∷ []) [] ≡ (if u then k.context ∷ [] else [])
          by_pass true = refl
          by_pass false = refl

          empty : (u : Bool) (zs : List ContextId) → zs ≡ [] → zs ≡ (if u then zs else [])
          empty true zs none = refl
          empty false zs none = none

          by_below : (v : Bool) → filter q (if v then k.context ∷ [] else []) ≡ (if u then (if v then k.context ∷ [] else []) else [])
          by_below true = ap (λ (w : Bool). cond w (k.context ∷ []) []) e ∙ by_pass u
          by_below false = empty u [] refl

      -- both get it, or neither
      both_with : (u : Bool) → stays mk post k.context ≡ u → (stays mk post k.context && is_held (moved Comes (L k.context))) ≡ u → may_come p s k ≡ true
          → filter (stays mk post) (below_of mk y (seen_after p (Came k) s).order) ≡ filter (λ z. stays mk post z && is_held (moved (comes_if (same_context z k.context)) (L z))) (xs ++ (if option_any (same_context y) k.parent then k.context ∷ [] else []))
      both_with u left held may =
          ap (filter (stays mk post)) (order_came may) ∙ filter-append (stays mk post) (below_of mk y s.order) added
          ∙ ap₂ (λ us vs. us ++ vs) (stays_before ∙ sym others_same) (filter_added (stays mk post) u left ∙ sym (filter_added (λ z. stays mk post z && is_held (M z)) u (ap (λ v. stays mk post x && is_held (moved (comes_if v) (L x))) (same_itself x) ∙ held)))
          ∙ sym (filter-append (λ z. stays mk post z && is_held (M z)) xs added)

      both_without : (stays mk post k.context && is_held (moved Comes (L k.context))) ≡ false → may_come p s k ≡ false
          → filter (stays mk post) (below_of mk y (seen_after p (Came k) s).order) ≡ filter (λ z. stays mk post z && is_held (moved (comes_if (same_context z k.context)) (L z))) (xs ++ (if option_any (same_context y) k.parent then k.context ∷ [] else []))
      both_without held not_so =
          ap (filter (stays mk post)) (order_stayed not_so) ∙ stays_before ∙ sym others_same
          ∙ sym (append-nil (filter (λ z. stays mk post z && is_held (M z)) xs))
          ∙ ap (λ zs. filter (λ z. stays mk post z && is_held (M z)) xs ++ zs) (sym (filter_added (λ z. stays mk post z && is_held (M z)) false (ap (λ v. stays mk post x && is_held (moved (comes_if v) (L x))) (same_itself x) ∙ held)))
          ∙ sym (filter-append (λ z. stays mk post z && is_held (M z)) xs added)

      came_children : filter (stays mk post) (below_of mk y (seen_after p (Came k) s).order) ≡ filter (λ z. stays mk post z && is_held (moved (comes_if (same_context z k.context)) (L z))) (xs ++ (if option_any (same_context y) k.parent then k.context ∷ [] else []))
      came_children = by_goes (is_goes (parts_tell x (line x mk) post)) refl
        where
          by_may : stays mk post k.context ≡ false → (v : Bool) → may_come p s k ≡ v → filter (stays mk post) (below_of mk y (seen_after p (Came k) s).order)
              ≡ filter (λ z. stays mk post z && is_held (moved (comes_if (same_context z k.context)) (L z))) (xs ++ (if option_any (same_context y) k.parent then k.context ∷ [] else []))
          by_may out true may = both_with false out (ap (λ v. v && is_held (moved Comes (L x))) out) may
          by_may out false not_so = both_without (ap (λ v. v && is_held (moved Comes (L x))) out) not_so

          by_stage : stays mk post k.context ≡ true → ((L k.context ≡ Coming) × (may_come p s k ≡ true)) ⊎ ((L k.context ≡ Gone) × (may_come p s k ≡ false)) → filter (stays mk post) (below_of mk y (seen_after p (Came k) s).order)
              ≡ filter (λ z. stays mk post z && is_held (moved (comes_if (same_context z k.context)) (L z))) (xs ++ (if option_any (same_context y) k.parent then k.context ∷ [] else []))
          by_stage left (inl (coming, may)) = both_with true left (ap₂ (λ u v. u && is_held (moved Comes v)) left coming) may
          by_stage left (inr (gone, not_so)) = both_without (ap₂ (λ u v. u && is_held (moved Comes v)) left gone) not_so

          by_goes : (v : Bool) → is_goes (parts_tell k.context (line k.context mk) post) ≡ v → filter (stays mk post) (below_of mk y (seen_after p (Came k) s).order)
              ≡ filter (λ z. stays mk post z && is_held (moved (comes_if (same_context z k.context)) (L z))) (xs ++ (if option_any (same_context y) k.parent then k.context ∷ [] else []))
          by_goes true e = by_may (ap not e) (may_come p s k) refl
          by_goes false e = by_stage (ap not e) (come_or_gone e)

      pub came_below : MidwayBelow y (seen_after p (Came k) s) (λ z. moved (comes_if (same_context z k.context)) (L z)) (xs ++ (if option_any (same_context y) k.parent then k.context ∷ [] else [])) post
      came_below = record {
        children = came_children;
        old = all_join (λ z. M z ≡ Coming → ⊥) xs added (all_from (λ z. L z ≡ Coming → ⊥) (λ z. M z ≡ Coming → ⊥) xs (λ z old. never_new (comes_if (same_context z x)) (L z) old) b.old) (old_added (option_any (same_context y) k.parent));
        below = all_join (λ z. above_in mk z ≡ Some y) xs added b.below (below_added (option_any (same_context y) k.parent) refl);
      }
        where
          old_added : (v : Bool) → AllByRecursion (λ z. moved (comes_if (same_context z k.context)) (L z) ≡ Coming → ⊥) (if v then k.context ∷ [] else [])
          old_added true = ((λ e. comes_old (L x) (sym (ap (λ v. moved (comes_if v) (L x)) (same_itself x)) ∙ e)), tt)
          old_added false = tt

          below_that : (o : Option ContextId) → option_any (same_context y) o ≡ true → o ≡ Some y
          below_that None e = absurd cc
          below_that (Some a) e = ap Some (sym (same_context_is y a e))

          below_added : (v : Bool) → option_any (same_context y) k.parent ≡ v → AllByRecursion (λ z. above_in mk z ≡ Some y) (if v then k.context ∷ [] else [])
          below_added true is = (sym fits.known.above ∙ below_that k.parent is, tt)
          below_added false isnt = tt

  -- ---- a context goes, and behind it nothing comes

  module _ (s : Seen) (L : ContextId → Stage) (w : ContextId) (post : List DownPart) (none : come_all post ≡ []) (t : Midway s L (downs.Discard w ∷ post)) where
    stays_with : (z : ContextId) → stays mk (downs.Discard w ∷ post) z ≡ (is_outside mk l w z && stays mk post z)
    stays_with z = ap not (goes_goes (is_among w (line z mk)) (parts_tell z (line z mk) post)) ∙ split (is_among w (line z mk)) (is_goes (parts_tell z (line z mk) post))
      where
        split : (u v : Bool) → not (u || v) ≡ (not u && not v)
        split true v = refl
        split false v = refl

    holds_then : (z : ContextId) (v : Bool) → is_among w (line z mk) ≡ v → (u : Bool) → s.holds z ≡ u → (seen_after p (Went w) s).holds z ≡ (if v then false else u)
    unfolding seen_after
    holds_then z true on true held = ap (λ (u : Bool). if u then false else s.holds z) (t.ties.held_under z w held ∙ on)
    holds_then z false off true held = ap (λ (u : Bool). if u then false else s.holds z) (t.ties.held_under z w held ∙ off) ∙ held
    holds_then z true on false held = ap (λ (u : Bool). if u then false else s.holds z) (t.ties.unheld_under z w held) ∙ held
    holds_then z false off false held = ap (λ (u : Bool). if u then false else s.holds z) (t.ties.unheld_under z w held) ∙ held

    pub went_midway : Midway (seen_after p (Went w) s) (λ z. moved (goes_if (is_among w (line z mk))) (L z)) post
    went_midway = record {
      ties = seen_still c.tabs p mk s (Went w) l tt t.ties;
      order = held_order_still c.tabs mk l p s (Went w) tt t.ties t.order;
      stages = λ z left. by_line z left (is_among w (line z mk)) refl;
      coming = λ z u other up comes. absurd (unbrought z (line z mk) post (subst (AllByRecursion (λ j. same_context j.context z ≡ false)) (sym none) tt) comes);
      coming_top = λ z other top comes. absurd (unbrought z (line z mk) post (subst (AllByRecursion (λ j. same_context j.context z ≡ false)) (sym none) tt) comes);
    }
      where
        by_line : (z : ContextId) → is_goes (parts_tell z (line z mk) post) ≡ false → (v : Bool) → is_among w (line z mk) ≡ v → is_held (moved (goes_if v) (L z)) ≡ (seen_after p (Went w) s).holds z
        by_line z left true on = sym (holds_then z true on (s.holds z) refl)
        by_line z left false off = t.stages z (goes_goes (is_among w (line z mk)) (parts_tell z (line z mk) post) ∙ ap₂ (λ u v. u || v) off left) ∙ sym (holds_then z false off (s.holds z) refl)

    pub gone_below : (y : ContextId) (xs : List ContextId) → MidwayBelow y s L xs (downs.Discard w ∷ post) → MidwayBelow y (seen_after p (Went w) s) (λ z. moved (goes_if (is_among w (line z mk))) (L z)) xs post
    gone_below y xs b = record {
      children =
          ap (filter (stays mk post)) (went_below c.tabs mk l p s w y t.ties t.order) ∙ filter_twice (stays mk post) (is_outside mk l w) (below_of mk y s.order)
          ∙ filter_within (λ z. stays mk post z && is_outside mk l w z) (stays mk (downs.Discard w ∷ post)) (below_of mk y s.order) (λ z among. turned (stays mk post z) (is_outside mk l w z) ∙ sym (stays_with z))
          ∙ b.children
          ∙ filter_all (λ z. L z ≡ Coming → ⊥) (λ z. stays mk (downs.Discard w ∷ post) z && is_held (L z)) (λ z. stays mk post z && is_held (moved (goes_if (is_among w (line z mk))) (L z))) xs b.old
          (λ z old. ap (λ v. v && is_held (L z)) (stays_with z) ∙ left (is_among w (line z mk)) (stays mk post z) (L z));
      old = all_from (λ z. L z ≡ Coming → ⊥) (λ z. moved (goes_if (is_among w (line z mk))) (L z) ≡ Coming → ⊥) xs (λ z old. never_new (goes_if (is_among w (line z mk))) (L z) old) b.old;
      below = b.below;
    }
      where
        turned : (u v : Bool) → (u && v) ≡ (v && u)
        turned true true = refl
        turned true false = refl
        turned false true = refl
        turned false false = refl

        left : (v u : Bool) (q : Stage) → ((not v && u) && is_held q) ≡ (u && is_held (moved (goes_if v) q))
        left true true q = refl
        left true false q = refl
        left false true q = refl
        left false false q = refl

  -- ---- a part that is nothing of a tree

  pub record SameOrder (s after : Seen) : Type 0 where
    pub ties : SeenTies c.tabs p mk after
    pub order : after.order ≡ s.order
    pub holds : (x : ContextId) → after.holds x ≡ s.holds x

  same_members : (s after : Seen) → SameOrder s after → Preorder mk s.order s.holds → Preorder mk after.order after.holds
  same_members s after same o = subst (λ xs. Preorder mk xs after.holds) (sym same.order) (record { tree = o.tree; members = λ x. o.members x ∙ sym (same.holds x) })

  same_midway : (s after : Seen) (L : ContextId → Stage) (post : List DownPart) → SameOrder s after → Midway s L post → Midway after L post
  same_midway s after L post same t = record {
    ties = same.ties;
    order = same_members s after same t.order;
    stages = λ x left. t.stages x left ∙ sym (same.holds x);
    coming = t.coming;
    coming_top = t.coming_top;
  }

  same_below : (s after : Seen) (y : ContextId) (L : ContextId → Stage) (xs : List ContextId) (post : List DownPart) → SameOrder s after → MidwayBelow y s L xs post → MidwayBelow y after L (xs ++ []) post
  same_below s after y L xs post same b = subst (λ zs. MidwayBelow y after L zs post) (sym (append-nil xs)) (record {
    children = ap (λ zs. filter (stays mk post) (below_of mk y zs)) same.order ∙ b.children;
    old = b.old;
    below = b.below;
  })

  -- ---- all parts

  module _ (epoch made : ℕ) where
    -- what the process answers behind a part, and behind all
    abbrev pub behind_part : DownPart → Seen → Seen
    behind_part a s = after_part (take_rules p epoch) (λ q. q) (seen_after p) a s

    abbrev pub behind_parts : Seen → List DownPart → Seen
    behind_parts s parts = after_parts (take_rules p epoch) (λ q. q) (seen_after p) s parts

    come_is : (k : Known) (s : Seen) → behind_part (downs.Create k) s ≡ seen_after p (Came k) s
    unfolding behind_all take.says
    come_is k s = refl

    discard_is : (w : ContextId) (s : Seen) → behind_part (downs.Discard w) s ≡ seen_after p (Went w) s
    unfolding behind_all take.says
    discard_is w s = refl

    kill_same : (s : Seen) → SeenTies c.tabs p mk s → SameOrder s (behind_part downs.Kill s)
    unfolding behind_all take.says seen_after
    kill_same s t = record { ties = seen_still c.tabs p mk s Stopped l tt t; order = refl; holds = λ x. refl }

    commit_same : (x : ContextId) (cs : _) (s : Seen) → SeenTies c.tabs p mk s → SameOrder s (behind_part (downs.Commit x cs) s)
    unfolding behind_all take.says take.note seen_after
    commit_same x cs s t = by_held (s.holds x)
      where
        by_held : (b : Bool) → SameOrder s (behind_all (seen_after p) (take.says (downs.Commit x cs) (if b then Rattle.wire_msgs.specs.declared.note.PartNote.TheVariants.Commit x (taken_notes epoch s x cs)
            else Rattle.wire_msgs.specs.declared.note.PartNote.TheVariants.CommitIgnored x)) s)
        by_held true = record { ties = seen_still c.tabs p mk s (Given x (changes_where (is_noted is_applied (taken_notes epoch s x cs)) cs)) l tt t; order = refl; holds = λ z. refl }
        by_held false = record { ties = t; order = refl; holds = λ z. refl }

    -- behind the last part nothing goes any more
    pub record Taken (s : Seen) (L : ContextId → Stage) (y : ContextId) (xs : List ContextId) : Type 0 where
      pub midway : Midway s L []
      pub below : MidwayBelow y s L xs []

    more_stage : (a : Effect) (L : ContextId → Stage) (z : ContextId) (post : List DownPart) → moved (parts_tell z (line z mk) post) (moved a (L z)) ≡ moved (both a (parts_tell z (line z mk) post)) (L z)
    more_stage a L z post = together a (parts_tell z (line z mk) post) (L z)

    pub taken_all : (y : ContextId) (parts : List DownPart) (s : Seen) (L : ContextId → Stage) (xs : List ContextId) → ComeFirst parts → AllByRecursion (ComingFits c p mk) (come_all parts) → ComeApart (come_all parts) → AllByRecursion (SingleFits p made) parts
        → Midway s L parts → MidwayBelow y s L xs parts → Taken (behind_parts s parts) (λ z. moved (parts_tell z (line z mk) parts) (L z)) y (xs ++ parts_bring y parts)
    unfolding after_parts
    taken_all y [] s L xs first come apart kinds t b = record { midway = t; below = subst (λ zs. MidwayBelow y s L zs []) (sym (append-nil xs)) b }
    taken_all y (downs.Create k ∷ parts) s L xs first come apart kinds t b =
        let next : Taken (behind_parts (seen_after p (Came k) s) parts) (λ z. moved (parts_tell z (line z mk) parts) (moved (comes_if (same_context z k.context)) (L z))) y ((xs ++ (if option_any (same_context y) k.parent then k.context ∷ [] else [])) ++ parts_bring y parts) =
        taken_all y parts (seen_after p (Came k) s) (λ z. moved (comes_if (same_context z k.context)) (L z)) (xs ++ (if option_any (same_context y) k.parent then k.context ∷ [] else [])) first.1 come.1 apart.1 kinds.1
        (came_midway s L k parts come.0 apart.0 t) (came_below s L k parts come.0 apart.0 t y xs b) in
        subst (λ q. Taken (behind_parts q parts) (λ z. moved (parts_tell z (line z mk) (downs.Create k ∷ parts)) (L z)) y (xs ++ parts_bring y (downs.Create k ∷ parts))) (sym (come_is k s))
        (subst (Taken (behind_parts (seen_after p (Came k) s) parts) (λ z. moved (parts_tell z (line z mk) (downs.Create k ∷ parts)) (L z)) y) (append_assoc xs (if option_any (same_context y) k.parent then k.context ∷ [] else []) (parts_bring y parts) ∙ ap (λ zs. xs ++ zs) (joined (option_any (same_context y) k.parent)))
        (subst (λ M. Taken (behind_parts (seen_after p (Came k) s) parts) M y ((xs ++ (if option_any (same_context y) k.parent then k.context ∷ [] else [])) ++ parts_bring y parts)) (fun_ext (λ z. more_stage (comes_if (same_context z k.context)) L z parts)) next))
      where
        joined : (v : Bool) → (if v then k.context ∷ [] else []) ++ parts_bring y parts ≡ (if v then k.context ∷ parts_bring y parts else parts_bring y parts)
        joined true = refl
        joined false = refl
    taken_all y (downs.Discard w ∷ parts) s L xs first come apart kinds t b =
        subst (λ q. Taken (behind_parts q parts) (λ z. moved (parts_tell z (line z mk) (downs.Discard w ∷ parts)) (L z)) y (xs ++ parts_bring y parts)) (sym (discard_is w s))
        (subst (λ M. Taken (behind_parts (seen_after p (Went w) s) parts) M y (xs ++ parts_bring y parts)) (fun_ext (λ z. more_stage (goes_if (is_among w (line z mk))) L z parts))
        (taken_all y parts (seen_after p (Went w) s) (λ z. moved (goes_if (is_among w (line z mk))) (L z)) xs first.1 come apart kinds.1
        (went_midway s L w parts (first.0 refl) t) (gone_below s L w parts (first.0 refl) t y xs b)))
    taken_all y (downs.Commit x cs ∷ parts) s L xs first come apart kinds t b =
        let same : SameOrder s (behind_part (downs.Commit x cs) s) = commit_same x cs s t.ties in
        let still : Midway s L parts = record { ties = t.ties; order = t.order; stages = t.stages; coming = λ z u other up comes. record { unheld = (t.coming z u other up comes).unheld; new = (t.coming z u other up comes).new; gone = (t.coming z u other up comes).gone }; coming_top = t.coming_top } in
        let below : MidwayBelow y s L xs parts = record { children = b.children; old = b.old; below = b.below } in
        taken_all y parts (behind_part (downs.Commit x cs) s) L xs first.1 come apart kinds.1 (same_midway s (behind_part (downs.Commit x cs) s) L parts same still)
        (subst (λ zs. MidwayBelow y (behind_part (downs.Commit x cs) s) L zs parts) (append-nil xs) (same_below s (behind_part (downs.Commit x cs) s) y L xs parts same below))
    taken_all y (downs.Kill ∷ parts) s L xs first come apart kinds t b =
        let same : SameOrder s (behind_part downs.Kill s) = kill_same s t.ties in
        let still : Midway s L parts = record { ties = t.ties; order = t.order; stages = t.stages; coming = λ z u other up comes. record { unheld = (t.coming z u other up comes).unheld; new = (t.coming z u other up comes).new; gone = (t.coming z u other up comes).gone }; coming_top = t.coming_top } in
        let below : MidwayBelow y s L xs parts = record { children = b.children; old = b.old; below = b.below } in
        taken_all y parts (behind_part downs.Kill s) L xs first.1 come apart kinds.1 (same_midway s (behind_part downs.Kill s) L parts same still)
        (subst (λ zs. MidwayBelow y (behind_part downs.Kill s) L zs parts) (append-nil xs) (same_below s (behind_part downs.Kill s) y L xs parts same below))
    taken_all y (_ ∷ parts) s L xs first come apart kinds t b = absurd kinds.0
