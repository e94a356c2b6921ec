-- What taking the parts of a bundle leaves of a field, part by part.
use Rattle.std.proofs.Common.{◌≡◌, ◌⊎◌, inl, inr, ℕ, ◌+◌, ◌==◌, Bool, true, false, not, ◌&&◌, if◌then◌else◌, Option, None, Some, List, [], ◌∷◌, ◌++◌, map, refl, ap, ap₂, sym, subst, ◌∙◌, arith}
use Rattle.std.specs.Prelude.{nat_lt}
use Rattle.std.specs.List.{AllByRecursion}
use Rattle.std.proofs.lemmas.Bool.{le-ltb}
use Rattle.fission_ids.specs.declared.context.ContextId.{ContextId}
use Rattle.fission_ids.specs.Ids.{same_context}
use Rattle.field_table.specs.declared.field.Field.{Field}
use Rattle.field_table.specs.declared.value.Value.{Value}
use Rattle.field_table.specs.Field.{initial}
use Rattle.field_table.specs.Table.{value_in}
use Rattle.transaction.specs.Transaction.{Changes, new_value}
use Rattle.wire_msgs.specs.declared.config.Config.{Config}
use Rattle.wire_msgs.specs.declared.note.FieldMark.TheVariants.{Applied, Obsolete}
use Rattle.wire_msgs.specs.declared.part.DownPart.{DownPart}
use Rattle.wire_msgs.specs.declared.part.DownPart.TheVariants as downs
use Rattle.wire_msgs.specs.declared.part.Known.{Known}
use Rattle.protocol.specs.Fold.{or_later, behind_all, after_parts}
use Rattle.protocol.specs.Hear.{changes_where, is_noted, is_applied}
use Rattle.protocol.specs.Seen.{Seen, Doing}
use Rattle.protocol.specs.Seen.Doing.{Came, Went, Given, Stopped}
use Rattle.protocol.specs.SeenAfter.{seen_after, with_context}
use Rattle.protocol.specs.Take.{take_rules, note, says, may_come, taken_mark, taken_notes}
use Rattle.protocol.proofs.Notes.{marked_value}
use Rattle.traces.specs.Field.Content.{Begins, Removes}
use Rattle.traces.specs.Words.{or_else}
use Rattle.trees.specs.Look.{Effect}
use Rattle.trees.specs.Look.Effect.{Stays, Comes, Goes}
use Rattle.model.specs.Lines.{Making, line, is_among}
use Rattle.model.specs.Process.{own_asked}
use Rattle.model.specs.Trees.{both, comes_if, goes_if, parts_tell}
use Rattle.model.specs.View.{value_for, given, begun, content_of, singles}
use Rattle.model.proofs.Arranging.{come_all, ComeFirst}
use Rattle.model.proofs.AskedMore.{own_asked_more}
use Rattle.model.proofs.Cases.{by_if, true_false, same_context_is, same_swapped}
use Rattle.model.proofs.Contents.{content_by, parts_value, later_none}
use Rattle.model.proofs.DownFits.{ComingFits, IsApart, ComeApart, PartFits}
use Rattle.model.proofs.FieldFacts.{over_value}
use Rattle.model.proofs.Holding.{SeenTies, seen_still}
use Rattle.model.proofs.Lining.{Lined}
use Rattle.model.proofs.SingleFits.{SingleFits}

-- a value that isn't obsolete
abbrev pub fresh_of : Bool → Option Value → Option Value
fresh_of true o = None
fresh_of false o = o

mark_applied : (b : Bool) → is_applied (if b then Obsolete else Applied) ≡ not b
mark_applied true = refl
mark_applied false = refl

fresh_joined : (b : Bool) (o p v : Option Value) → or_later (fresh_of b o) (or_later (fresh_of b p) v) ≡ or_later (fresh_of b (or_later o p)) v
fresh_joined true o p v = refl
fresh_joined false None p v = refl
fresh_joined false (Some a) p v = refl

module _ (c : Config) (p epoch : ℕ) where
  -- the changes that aren't obsolete
  abbrev pub fresh : Seen → ContextId → Changes → Changes
  fresh s y t = changes_where (is_noted is_applied (taken_notes epoch s y t)) t

  fresh_value : (s : Seen) (y : ContextId) (t : Changes) (fld : Field) → new_value (fresh s y t) fld ≡ fresh_of (nat_lt epoch (s.newest y fld)) (new_value t fld)
  fresh_value s y t fld =
      marked_value is_applied (taken_mark epoch s y) t fld
      ∙ ap (λ b. if b then new_value t fld else None) (mark_applied (nat_lt epoch (s.newest y fld))) ∙ either (nat_lt epoch (s.newest y fld))
    where
      either : (b : Bool) → (if not b then new_value t fld else None) ≡ fresh_of b (new_value t fld)
      either true = refl
      either false = refl

  -- the answers behind a part
  abbrev pub step : DownPart → Seen → Seen
  step (downs.Create k) s = seen_after p (Came k) s
  step (downs.Commit y t) s = if s.holds y then seen_after p (Given y (changes_where (is_noted is_applied (taken_notes epoch s y t)) t)) s else s
  step (downs.Discard w) s = seen_after p (Went w) s
  step downs.Kill s = seen_after p Stopped s
  step _ s = s

  abbrev pub steps : List DownPart → Seen → Seen
  steps [] s = s
  steps (a ∷ parts) s = steps parts (step a s)

  module _ (old : List Doing) where
    -- contexts that come at once come one by one
    register_steps : (parts : List DownPart) (ks : List Known) (did : List Doing)
        → steps parts (own_asked c.tabs p (behind_all (λ (e : Doing) did. e ∷ did) (map Came ks) did ++ old)) ≡ steps (map (λ (k : Known). downs.Create k) ks ++ parts) (own_asked c.tabs p (did ++ old))
    unfolding behind_all
    register_steps parts [] did = refl
    register_steps parts (k ∷ ks) did = register_steps parts ks (Came k ∷ did) ∙ ap (steps (map (λ (k : Known). downs.Create k) ks ++ parts)) (own_asked_more c.tabs p (Came k) (did ++ old))

    -- what is kept tells them
    pub steps_are : (made : ℕ) (parts : List DownPart) (did : List Doing) → AllByRecursion (PartFits p made) parts
        → own_asked c.tabs p (after_parts (take_rules p epoch) (λ did. own_asked c.tabs p (did ++ old)) (λ e did. e ∷ did) did parts ++ old) ≡ steps (singles parts) (own_asked c.tabs p (did ++ old))
    unfolding after_parts behind_all note says
    steps_are made [] did kinds = refl
    steps_are made (downs.Create k ∷ parts) did kinds = steps_are made parts (Came k ∷ did) kinds.1 ∙ ap (steps (singles parts)) (own_asked_more c.tabs p (Came k) (did ++ old))
    steps_are made (downs.Commit y t ∷ parts) did kinds = by_held ((own_asked c.tabs p (did ++ old)).holds y) (steps_are made parts (Given y (fresh (own_asked c.tabs p (did ++ old)) y t) ∷ did) kinds.1) (steps_are made parts did kinds.1)
      where
        by_held : (b : Bool)
            → own_asked c.tabs p (after_parts (take_rules p epoch) (λ did. own_asked c.tabs p (did ++ old)) (λ e did. e ∷ did) (Given y (fresh (own_asked c.tabs p (did ++ old)) y t) ∷ did) parts ++ old)
            ≡ steps (singles parts) (own_asked c.tabs p (Given y (fresh (own_asked c.tabs p (did ++ old)) y t) ∷ did ++ old))
            → own_asked c.tabs p (after_parts (take_rules p epoch) (λ did. own_asked c.tabs p (did ++ old)) (λ e did. e ∷ did) did parts ++ old) ≡ steps (singles parts) (own_asked c.tabs p (did ++ old))
            → own_asked c.tabs p (after_parts (take_rules p epoch) (λ did. own_asked c.tabs p (did ++ old)) (λ e did. e ∷ did)
            (behind_all (λ e did. e ∷ did) (says (downs.Commit y t) (if b then Rattle.wire_msgs.specs.declared.note.PartNote.TheVariants.Commit y (taken_notes epoch (own_asked c.tabs p (did ++ old)) y t)
            else Rattle.wire_msgs.specs.declared.note.PartNote.TheVariants.CommitIgnored y)) did) parts ++ old)
            ≡ steps (singles parts) (if b then seen_after p (Given y (fresh (own_asked c.tabs p (did ++ old)) y t)) (own_asked c.tabs p (did ++ old)) else own_asked c.tabs p (did ++ old))
        by_held true given same = given ∙ ap (steps (singles parts)) (own_asked_more c.tabs p (Given y (fresh (own_asked c.tabs p (did ++ old)) y t)) (did ++ old))
        by_held false given same = same
    steps_are made (downs.Discard w ∷ parts) did kinds = steps_are made parts (Went w ∷ did) kinds.1 ∙ ap (steps (singles parts)) (own_asked_more c.tabs p (Went w) (did ++ old))
    steps_are made (downs.Kill ∷ parts) did kinds = steps_are made parts (Stopped ∷ did) kinds.1 ∙ ap (steps (singles parts)) (own_asked_more c.tabs p Stopped (did ++ old))
    steps_are made (downs.Register g ks ∷ parts) did kinds = steps_are made parts (behind_all (λ (e : Doing) did. e ∷ did) (map Came ks) did) kinds.1 ∙ register_steps (singles parts) ks did
    steps_are made (_ ∷ parts) did kinds = absurd kinds.0

  module _ (mk : List Making) (l : Lined mk) (x : ContextId) (fld : Field) (made : ℕ) where
    -- ---- one part

    tied_step : (a : DownPart) (s : Seen) → AllByRecursion (ComingFits c p mk) (come_all (a ∷ [])) → SeenTies c.tabs p mk s → SeenTies c.tabs p mk (step a s)
    tied_step (downs.Create k) s come t = seen_still c.tabs p mk s (Came k) l come.0.known t
    tied_step (downs.Commit y d) s come t = by_if (SeenTies c.tabs p mk) (s.holds y) _ s (λ held. seen_still c.tabs p mk s (Given y (fresh s y d)) l tt t) (λ unheld. t)
    tied_step (downs.Discard w) s come t = seen_still c.tabs p mk s (Went w) l tt t
    tied_step downs.Kill s come t = seen_still c.tabs p mk s Stopped l tt t
    tied_step (_) s come t = t

    -- no part tells of it
    abbrev pub NoneOf : List Known → Type 0
    NoneOf ks = AllByRecursion (λ k. same_context x k.context ≡ false) ks

    -- what of the field a step leaves as it was
    pub record Leaves (s after : Seen) : Type 0 where
      pub holds : after.holds x ≡ s.holds x
      pub value : after.value x fld ≡ s.value x fld
      pub newest : after.newest x fld ≡ s.newest x fld

    other_came : (k : Known) (s : Seen) → same_context x k.context ≡ false → Leaves s (seen_after p (Came k) s)
    unfolding seen_after
    other_came k s other = by_if (Leaves s) (may_come p s k) (with_context k.context (Some k.group) k.parent k.owned (value_in k.fields) s) s
        (λ comes. record {
          holds = ap (λ (b : Bool). if b then true else s.holds x) other;
          value = ap (λ (b : Bool). if b then Some (value_in k.fields fld) else s.value x fld) other;
          newest = ap (λ (b : Bool). if b then 0 else s.newest x fld) other;
        }) (λ isnt. record { holds = refl; value = refl; newest = refl })

    -- what is held already doesn't come
    held_came : (k : Known) (s : Seen) → s.holds x ≡ true → same_context x k.context ≡ true → Leaves s (seen_after p (Came k) s)
    unfolding seen_after
    held_came k s held is = by_if (Leaves s) (may_come p s k) (with_context k.context (Some k.group) k.parent k.owned (value_in k.fields) s) s
        (λ comes. true_false (s.holds x) held (first_not (s.holds x) (not (k.context.creator == p + 1)) (Rattle.protocol.specs.Take.option_all s.holds k.parent)
        (ap (λ z. not (s.holds z) && not (k.context.creator == p + 1) && Rattle.protocol.specs.Take.option_all s.holds k.parent) (same_context_is x k.context is) ∙ comes)))
        (λ isnt. record { holds = refl; value = refl; newest = refl })
      where
        first_not : (a b d : Bool) → (not a && b && d) ≡ true → a ≡ false
        first_not false b d e = refl
        first_not true b d e = absurd cc

    not_under : (w : ContextId) (s : Seen) → s.under x w ≡ false → Leaves s (seen_after p (Went w) s)
    unfolding seen_after
    not_under w s e = record {
      holds = ap (λ (b : Bool). if b then false else s.holds x) e;
      value = ap (λ (b : Bool). if b then None else s.value x fld) e;
      newest = ap (λ (b : Bool). if b then 0 else s.newest x fld) e;
    }

    -- ---- a context that is held and stays so

    pub record StaysHeld (parts : List DownPart) (s after : Seen) : Type 0 where
      pub holds : after.holds x ≡ true
      pub value : after.value x fld ≡ or_later (fresh_of (nat_lt epoch (s.newest x fld)) (parts_value x fld parts)) (s.value x fld)
      pub newest : after.newest x fld ≡ s.newest x fld

    still_held : (a : DownPart) (parts : List DownPart) (s : Seen) → Leaves s (step a s) → Rattle.model.proofs.Contents.part_value x fld a ≡ None → StaysHeld parts (step a s) (steps parts (step a s)) → StaysHeld (a ∷ parts) s (steps parts (step a s))
    still_held a parts s same none rest = record {
      holds = rest.holds;
      value = rest.value ∙ ap₂ (λ n v. or_later (fresh_of (nat_lt epoch n) (parts_value x fld parts)) v) same.newest same.value
          ∙ ap (λ o. or_later (fresh_of (nat_lt epoch (s.newest x fld)) o) (s.value x fld)) (sym (ap (or_later (parts_value x fld parts)) none ∙ later_none (parts_value x fld parts)));
      newest = rest.newest ∙ same.newest;
    }

    given_held : (y : ContextId) (d : Changes) (parts : List DownPart) (s : Seen) → s.holds x ≡ true → s.holds y ≡ true
        → StaysHeld parts (seen_after p (Given y (fresh s y d)) s) (steps parts (seen_after p (Given y (fresh s y d)) s)) → StaysHeld (downs.Commit y d ∷ parts) s (steps parts (seen_after p (Given y (fresh s y d)) s))
    unfolding seen_after
    given_held y d parts s held here rest = record {
      holds = rest.holds;
      value = rest.value ∙ by_same (same_context x y) refl;
      newest = rest.newest;
    }
      where
        by_same : (b : Bool) → same_context x y ≡ b
            → or_later (fresh_of (nat_lt epoch (s.newest x fld)) (parts_value x fld parts)) (if b then or_later (new_value (fresh s y d) fld) (s.value x fld) else s.value x fld)
            ≡ or_later (fresh_of (nat_lt epoch (s.newest x fld)) (or_later (parts_value x fld parts) (if b then new_value d fld else None))) (s.value x fld)
        by_same true is =
            ap (λ o. or_later (fresh_of (nat_lt epoch (s.newest x fld)) (parts_value x fld parts)) (or_later o (s.value x fld)))
            (fresh_value s y d fld ∙ ap (λ z. fresh_of (nat_lt epoch (s.newest z fld)) (new_value d fld)) (sym (same_context_is x y is)))
            ∙ fresh_joined (nat_lt epoch (s.newest x fld)) (parts_value x fld parts) (new_value d fld) (s.value x fld)
        by_same false is = ap (λ o. or_later (fresh_of (nat_lt epoch (s.newest x fld)) o) (s.value x fld)) (sym (later_none (parts_value x fld parts)))

    not_goes : (a b : Effect) → (both a b ≡ Goes → ⊥) → (b ≡ Goes → ⊥)
    not_goes Stays b no_go e = no_go e
    not_goes Goes b no_go e = no_go refl
    not_goes Comes b no_go e = no_go (ap (both Comes) e)

    pub held_steps : (parts : List DownPart) (s : Seen) → AllByRecursion (ComingFits c p mk) (come_all parts) → AllByRecursion (SingleFits p made) parts → SeenTies c.tabs p mk s → s.holds x ≡ true
        → (parts_tell x (line x mk) parts ≡ Goes → ⊥) → StaysHeld parts s (steps parts s)
    unfolding seen_after
    held_steps [] s come kinds t held kept = record { holds = held; value = ap (λ o. or_later o (s.value x fld)) (none_fresh (nat_lt epoch (s.newest x fld))); newest = refl }
      where
        none_fresh : (b : Bool) → None ≡ fresh_of b None
        none_fresh true = refl
        none_fresh false = refl
    held_steps (downs.Create k ∷ parts) s come kinds t held kept =
        let same : Leaves s (step (downs.Create k) s) = by_same (same_context x k.context) refl in
        still_held (downs.Create k) parts s same refl
        (held_steps parts (step (downs.Create k) s) come.1 kinds.1 (tied_step (downs.Create k) s (come.0, tt) t) (same.holds ∙ held) (not_goes (comes_if (same_context x k.context)) (parts_tell x (line x mk) parts) kept))
      where
        by_same : (b : Bool) → same_context x k.context ≡ b → Leaves s (seen_after p (Came k) s)
        by_same true is = held_came k s held is
        by_same false other = other_came k s other
    held_steps (downs.Commit y d ∷ parts) s come kinds t held kept =
        by_held (s.holds y) refl (λ u. held_steps parts u come kinds.1) kept
      where
        by_held : (b : Bool) → s.holds y ≡ b → ((u : Seen) → SeenTies c.tabs p mk u → u.holds x ≡ true → (parts_tell x (line x mk) parts ≡ Goes → ⊥) → StaysHeld parts u (steps parts u)) → (parts_tell x (line x mk) parts ≡ Goes → ⊥)
            → StaysHeld (downs.Commit y d ∷ parts) s (steps parts (if b then seen_after p (Given y (fresh s y d)) s else s))
        by_held true here rest kept = given_held y d parts s held here (rest (seen_after p (Given y (fresh s y d)) s) (seen_still c.tabs p mk s (Given y (fresh s y d)) l tt t) held kept)
        by_held false none rest kept = let r : StaysHeld parts s (steps parts s) = rest s t held kept in record {
          holds = r.holds;
          value = r.value ∙ ap (λ o. or_later (fresh_of (nat_lt epoch (s.newest x fld)) o) (s.value x fld)) (sym (ap (or_later (parts_value x fld parts)) elsewhere ∙ later_none (parts_value x fld parts)));
          newest = r.newest;
        }
          where
            elsewhere : value_for x fld y d ≡ None
            elsewhere = by_same (same_context x y) refl
              where
                by_same : (v : Bool) → same_context x y ≡ v → (if v then new_value d fld else None) ≡ None
                by_same false is = refl
                by_same true is = true_false (s.holds y) (ap s.holds (sym (same_context_is x y is)) ∙ held) none
    held_steps (downs.Discard w ∷ parts) s come kinds t held kept =
        let same : Leaves s (step (downs.Discard w) s) = not_under w s (t.held_under x w held ∙ outside (is_among w (line x mk)) refl) in
        still_held (downs.Discard w) parts s same refl
        (held_steps parts (step (downs.Discard w) s) come kinds.1 (tied_step (downs.Discard w) s tt t) (same.holds ∙ held) (not_goes (goes_if (is_among w (line x mk))) (parts_tell x (line x mk) parts) kept))
      where
        outside : (b : Bool) → is_among w (line x mk) ≡ b → is_among w (line x mk) ≡ false
        outside false e = e
        outside true e = absurd (kept (ap (λ v. both (goes_if v) (parts_tell x (line x mk) parts)) e))
    held_steps (downs.Kill ∷ parts) s come kinds t held kept =
        let same : Leaves s (step downs.Kill s) = stopped s in
        still_held downs.Kill parts s same refl (held_steps parts (step downs.Kill s) come kinds.1 (tied_step downs.Kill s tt t) (same.holds ∙ held) kept)
      where
        stopped : (s : Seen) → Leaves s (seen_after p Stopped s)
        stopped s = record { holds = refl; value = refl; newest = refl }
    held_steps (_ ∷ parts) s come kinds t held kept = absurd kinds.0

    -- ---- a context that isn't held

    unheld_went : (w : ContextId) (s : Seen) → s.holds x ≡ false → (seen_after p (Went w) s).holds x ≡ false
    unfolding seen_after
    unheld_went w s e = by_if (λ b. b ≡ false) (s.under x w) false (s.holds x) (λ is. refl) (λ isnt. e)

    unheld_given : (y : ContextId) (d : Changes) (s : Seen) → s.holds x ≡ false → (step (downs.Commit y d) s).holds x ≡ false
    unfolding seen_after
    unheld_given y d s e = by_held (s.holds y)
      where
        by_held : (b : Bool) → (if b then seen_after p (Given y (fresh s y d)) s else s).holds x ≡ false
        by_held true = e
        by_held false = e

    unheld_stopped : (s : Seen) → s.holds x ≡ false → (seen_after p Stopped s).holds x ≡ false
    unfolding seen_after
    unheld_stopped s e = e

    pub unheld_steps : (parts : List DownPart) (s : Seen) → AllByRecursion (SingleFits p made) parts → NoneOf (come_all parts) → s.holds x ≡ false → (steps parts s).holds x ≡ false
    unheld_steps [] s kinds none e = e
    unheld_steps (downs.Create k ∷ parts) s kinds none e = unheld_steps parts (step (downs.Create k) s) kinds.1 none.1 ((other_came k s none.0).holds ∙ e)
    unheld_steps (downs.Commit y d ∷ parts) s kinds none e = unheld_steps parts (step (downs.Commit y d) s) kinds.1 none (unheld_given y d s e)
    unheld_steps (downs.Discard w ∷ parts) s kinds none e = unheld_steps parts (step (downs.Discard w) s) kinds.1 none (unheld_went w s e)
    unheld_steps (downs.Kill ∷ parts) s kinds none e = unheld_steps parts (step downs.Kill s) kinds.1 none (unheld_stopped s e)
    unheld_steps (_ ∷ parts) s kinds none e = absurd kinds.0

    -- what isn't held has no value
    abbrev pub Unvalued : Seen → Type 0
    Unvalued s = s.holds x ≡ false → s.value x fld ≡ None

    unvalued_came : (k : Known) (s : Seen) → Unvalued s → Unvalued (seen_after p (Came k) s)
    unfolding seen_after
    unvalued_came k s u = by_if Unvalued (may_come p s k) (with_context k.context (Some k.group) k.parent k.owned (value_in k.fields) s) s (λ comes. by_same (same_context x k.context)) (λ isnt. u)
      where
        by_same : (b : Bool) → (if b then true else s.holds x) ≡ false → (if b then Some (value_in k.fields fld) else s.value x fld) ≡ None
        by_same true e = absurd cc
        by_same false e = u e

    unvalued_went : (w : ContextId) (s : Seen) → Unvalued s → Unvalued (seen_after p (Went w) s)
    unfolding seen_after
    unvalued_went w s u = by_under (s.under x w)
      where
        by_under : (b : Bool) → (if b then false else s.holds x) ≡ false → (if b then None else s.value x fld) ≡ None
        by_under true e = refl
        by_under false e = u e

    unvalued_given : (y : ContextId) (d : Changes) (s : Seen) → Unvalued s → Unvalued (step (downs.Commit y d) s)
    unfolding seen_after
    unvalued_given y d s u = by_held (s.holds y) refl
      where
        by_same : (b : Bool) → same_context x y ≡ b → s.holds y ≡ true → s.holds x ≡ false → (if b then or_later (new_value (fresh s y d) fld) (s.value x fld) else s.value x fld) ≡ None
        by_same true is held e = true_false (s.holds y) held (ap s.holds (sym (same_context_is x y is)) ∙ e)
        by_same false is held e = u e

        by_held : (b : Bool) → s.holds y ≡ b → (if b then seen_after p (Given y (fresh s y d)) s else s).holds x ≡ false → (if b then seen_after p (Given y (fresh s y d)) s else s).value x fld ≡ None
        by_held true held e = by_same (same_context x y) refl held e
        by_held false none e = u e

    unvalued_stopped : (s : Seen) → Unvalued s → Unvalued (seen_after p Stopped s)
    unfolding seen_after
    unvalued_stopped s u = u

    pub unvalued_steps : (parts : List DownPart) (s : Seen) → AllByRecursion (SingleFits p made) parts → (s.holds x ≡ false → s.value x fld ≡ None) → (steps parts s).holds x ≡ false → (steps parts s).value x fld ≡ None
    unvalued_steps [] s kinds u = u
    unvalued_steps (downs.Create k ∷ parts) s kinds u = unvalued_steps parts (step (downs.Create k) s) kinds.1 (unvalued_came k s u)
    unvalued_steps (downs.Commit y d ∷ parts) s kinds u = unvalued_steps parts (step (downs.Commit y d) s) kinds.1 (unvalued_given y d s u)
    unvalued_steps (downs.Discard w ∷ parts) s kinds u = unvalued_steps parts (step (downs.Discard w) s) kinds.1 (unvalued_went w s u)
    unvalued_steps (downs.Kill ∷ parts) s kinds u = unvalued_steps parts (step downs.Kill s) kinds.1 (unvalued_stopped s u)
    unvalued_steps (_ ∷ parts) s kinds u = absurd kinds.0

    -- ---- a context that comes

    pub none_tells : (parts : List DownPart) → NoneOf (come_all parts) → parts_tell x (line x mk) parts ≡ Comes → ⊥
    none_tells [] none e = absurd cc
    none_tells (downs.Create k ∷ parts) none e = none_tells parts none.1 (sym (ap (λ b. both (comes_if b) (parts_tell x (line x mk) parts)) none.0) ∙ e)
    none_tells (downs.Discard w ∷ parts) none e = by_line (is_among w (line x mk)) (none_tells parts none) e
      where
        by_line : (b : Bool) → (parts_tell x (line x mk) parts ≡ Comes → ⊥) → both (goes_if b) (parts_tell x (line x mk) parts) ≡ Comes → ⊥
        by_line true rest e = absurd cc
        by_line false rest e = rest e
    none_tells (downs.Commit y d ∷ parts) none e = none_tells parts none e
    none_tells (downs.Register g ks ∷ parts) none e = none_tells parts none e
    none_tells (downs.CloseWindow y ∷ parts) none e = none_tells parts none e
    none_tells (downs.Load y url ∷ parts) none e = none_tells parts none e
    none_tells (downs.Ask q w actor text ∷ parts) none e = none_tells parts none e
    none_tells (downs.Tell w actor text ∷ parts) none e = none_tells parts none e
    none_tells (downs.Reply q outcome ∷ parts) none e = none_tells parts none e
    none_tells (downs.Kill ∷ parts) none e = none_tells parts none e

    given_stays : (o p : Option Value) (v : Value) → given o (content_by Stays p v) ≡ content_by Stays (or_later p o) v
    given_stays None None v = refl
    given_stays None (Some u) v = refl
    given_stays (Some w) None v = refl
    given_stays (Some w) (Some u) v = refl

    with_none : (parts : List DownPart) → content_by Stays (parts_value x fld parts) (initial fld) ≡ content_by Stays (or_later (parts_value x fld parts) None) (initial fld)
    with_none parts = ap (λ o. content_by Stays o (initial fld)) (sym (later_none (parts_value x fld parts)))

    -- what is held and isn't named holds no more than values
    pub content_held : (parts : List DownPart) → ComeFirst parts → NoneOf (come_all parts) → (parts_tell x (line x mk) parts ≡ Goes → ⊥) → content_of x (line x mk) fld parts ≡ content_by Stays (parts_value x fld parts) (initial fld)
    content_held [] first none kept = refl
    content_held (downs.Create k ∷ parts) first none kept =
        ap (λ (b : Bool). if b then begun (value_in k.fields fld) (content_of x (line x mk) fld parts) else content_of x (line x mk) fld parts) none.0
        ∙ content_held parts first.1 none.1 (not_goes (comes_if (same_context x k.context)) (parts_tell x (line x mk) parts) kept) ∙ with_none parts
    content_held (downs.Commit y t ∷ parts) first none kept =
        ap (given (value_for x fld y t)) (content_held parts first.1 none kept) ∙ given_stays (value_for x fld y t) (parts_value x fld parts) (initial fld)
    content_held (downs.Discard w ∷ parts) first none kept = by_line (is_among w (line x mk)) (content_held parts first.1 none) kept
      where
        by_line : (v : Bool) → ((parts_tell x (line x mk) parts ≡ Goes → ⊥) → content_of x (line x mk) fld parts ≡ content_by Stays (parts_value x fld parts) (initial fld)) → (both (goes_if v) (parts_tell x (line x mk) parts) ≡ Goes → ⊥)
            → (if v then Removes else content_of x (line x mk) fld parts) ≡ content_by Stays (or_later (parts_value x fld parts) None) (initial fld)
        by_line true rest kept = absurd (kept refl)
        by_line false rest kept = rest kept ∙ with_none parts
    content_held (_ ∷ parts) first none kept = content_held parts first.1 none kept ∙ with_none parts

    pub record HasCome (parts : List DownPart) (after : Seen) : Type 0 where
      pub first_value : Value
      pub content : content_of x (line x mk) fld parts ≡ Begins first_value
      pub value : after.value x fld ≡ Some first_value
      pub newest : after.newest x fld ≡ 0

    apart_none : (k : Known) (ks : List Known) → same_context x k.context ≡ true → AllByRecursion (IsApart k) ks → NoneOf ks
    apart_none k [] is all = tt
    apart_none k (j ∷ ks) is all = (ap (λ z. same_context z j.context) (same_context_is x k.context is) ∙ same_swapped k.context j.context ∙ all.0.other, apart_none k ks is all.1)

    no_stop : {A : Type 0} (parts : List DownPart) (s : Seen) → AllByRecursion (SingleFits p made) parts → come_all parts ≡ [] → s.holds x ≡ false → (steps parts s).holds x ≡ true → A
    no_stop parts s kinds none e held = true_false ((steps parts s).holds x) held (unheld_steps parts s kinds (subst NoneOf (sym none) tt) e)

    -- it comes by this part, and holds what the rest gives it
    begins : (k : Known) (parts : List DownPart) (s : Seen) → ComeFirst parts → AllByRecursion (ComingFits c p mk) (come_all parts) → AllByRecursion (SingleFits p made) parts → NoneOf (come_all parts) → same_context x k.context ≡ true
        → SeenTies c.tabs p mk (seen_after p (Came k) s) → s.holds x ≡ false → (parts_tell x (line x mk) parts ≡ Goes → ⊥) → (steps parts (seen_after p (Came k) s)).holds x ≡ true → HasCome (downs.Create k ∷ parts) (steps parts (seen_after p (Came k) s))
    unfolding seen_after
    begins k parts s first come kinds none is t unheld kept held = by_come (may_come p s k) t held
      where
        came : Seen
        came = with_context k.context (Some k.group) k.parent k.owned (value_in k.fields) s

        begun_by : (o : Option Value) → begun (value_in k.fields fld) (content_by Stays o (initial fld)) ≡ Begins (or_else o (value_in k.fields fld))
        begun_by None = refl
        begun_by (Some v) = refl

        by_come : (b : Bool) → SeenTies c.tabs p mk (if b then came else s) → (steps parts (if b then came else s)).holds x ≡ true → HasCome (downs.Create k ∷ parts) (steps parts (if b then came else s))
        by_come false t held = true_false ((steps parts s).holds x) held (unheld_steps parts s kinds none unheld)
        by_come true t held =
            let here : came.holds x ≡ true = ap (λ (b : Bool). if b then true else s.holds x) is in
            let value_is : came.value x fld ≡ Some (value_in k.fields fld) = ap (λ (b : Bool). if b then Some (value_in k.fields fld) else s.value x fld) is in
            let newest_is : came.newest x fld ≡ 0 = ap (λ (b : Bool). if b then 0 else s.newest x fld) is in
            let r : StaysHeld parts came (steps parts came) = held_steps parts came come kinds t here kept in
            record {
              first_value = or_else (parts_value x fld parts) (value_in k.fields fld);
              content = ap (λ (b : Bool). if b then begun (value_in k.fields fld) (content_of x (line x mk) fld parts) else content_of x (line x mk) fld parts) is
                  ∙ ap (begun (value_in k.fields fld)) (content_held parts first none kept) ∙ begun_by (parts_value x fld parts);
              value = r.value ∙ ap (λ b. or_later (fresh_of b (parts_value x fld parts)) (came.value x fld)) (ap (nat_lt epoch) newest_is ∙ le-ltb epoch 0 (omega arith))
                  ∙ over_value (parts_value x fld parts) (came.value x fld) (value_in k.fields fld) value_is;
              newest = r.newest ∙ newest_is;
            }

    pub come_steps : (parts : List DownPart) (s : Seen) → ComeFirst parts → ComeApart (come_all parts) → AllByRecursion (ComingFits c p mk) (come_all parts) → AllByRecursion (SingleFits p made) parts → SeenTies c.tabs p mk s
        → s.holds x ≡ false → (parts_tell x (line x mk) parts ≡ Goes → ⊥) → (steps parts s).holds x ≡ true → HasCome parts (steps parts s)
    come_steps [] s first apart come kinds t unheld kept held = true_false (s.holds x) held unheld
    come_steps (downs.Create k ∷ parts) s first apart come kinds t unheld kept held =
        by_same (same_context x k.context) refl (come_steps parts (step (downs.Create k) s) first.1 apart.1 come.1 kinds.1 (tied_step (downs.Create k) s (come.0, tt) t))
      where
        by_same : (b : Bool) → same_context x k.context ≡ b
            → ((step (downs.Create k) s).holds x ≡ false → (parts_tell x (line x mk) parts ≡ Goes → ⊥) → (steps parts (step (downs.Create k) s)).holds x ≡ true → HasCome parts (steps parts (step (downs.Create k) s)))
            → HasCome (downs.Create k ∷ parts) (steps parts (step (downs.Create k) s))
        by_same true is rest =
            begins k parts s first.1 come.1 kinds.1 (apart_none k (come_all parts) is apart.0) is (tied_step (downs.Create k) s (come.0, tt) t) unheld
            (not_goes (comes_if (same_context x k.context)) (parts_tell x (line x mk) parts) kept) held
        by_same false other rest =
            let r : HasCome parts (steps parts (step (downs.Create k) s)) = rest ((other_came k s other).holds ∙ unheld) (not_goes (comes_if (same_context x k.context)) (parts_tell x (line x mk) parts) kept) held in record {
              first_value = r.first_value;
              content = ap (λ (b : Bool). if b then begun (value_in k.fields fld) (content_of x (line x mk) fld parts) else content_of x (line x mk) fld parts) other ∙ r.content;
              value = r.value;
              newest = r.newest;
            }
    come_steps (downs.Commit y d ∷ parts) s first apart come kinds t unheld kept held = no_stop parts (step (downs.Commit y d) s) kinds.1 (first.0 refl) (unheld_given y d s unheld) held
    come_steps (downs.Discard w ∷ parts) s first apart come kinds t unheld kept held = no_stop parts (step (downs.Discard w) s) kinds.1 (first.0 refl) (unheld_went w s unheld) held
    come_steps (downs.Kill ∷ parts) s first apart come kinds t unheld kept held = no_stop parts (step downs.Kill s) kinds.1 (first.0 refl) (unheld_stopped s unheld) held
    come_steps (_ ∷ parts) s first apart come kinds t unheld kept held = absurd kinds.0

    -- a coming that is told is of a part
    pub record IsComing (parts : List DownPart) : Type 0 where
      pub known : Known
      pub is : x ≡ known.context
      pub fits : ComingFits c p mk known

    pub coming_of : (parts : List DownPart) → AllByRecursion (ComingFits c p mk) (come_all parts) → (NoneOf (come_all parts)) ⊎ IsComing parts
    coming_of parts come = in_list (come_all parts) come
      where
        further : (k : Known) (ks : List Known) → same_context x k.context ≡ false → NoneOf ks ⊎ IsComing parts → NoneOf (k ∷ ks) ⊎ IsComing parts
        further k ks other (inl none) = inl (other, none)
        further k ks other (inr found) = inr found

        in_list : (ks : List Known) → AllByRecursion (ComingFits c p mk) ks → NoneOf ks ⊎ IsComing parts
        in_list [] all = inl tt
        in_list (k ∷ ks) all = by_same (same_context x k.context) refl (in_list ks all.1)
          where
            by_same : (b : Bool) → same_context x k.context ≡ b → NoneOf ks ⊎ IsComing parts → NoneOf (k ∷ ks) ⊎ IsComing parts
            by_same true is rest = inr (record { known = k; is = same_context_is x k.context is; fits = all.0 })
            by_same false other rest = further k ks other rest

    both_stay : (a b : Effect) → both a b ≡ Stays → (a ≡ Stays) × (b ≡ Stays)
    both_stay Stays b e = (refl, e)
    both_stay Goes b e = absurd cc
    both_stay Comes Goes e = absurd cc
    both_stay Comes Stays e = absurd cc
    both_stay Comes Comes e = absurd cc

    not_coming : (b : Bool) → comes_if b ≡ Stays → b ≡ false
    not_coming true e = absurd cc
    not_coming false e = refl

    pub stays_none : (parts : List DownPart) → parts_tell x (line x mk) parts ≡ Stays → NoneOf (come_all parts)
    stays_none [] e = tt
    stays_none (downs.Create k ∷ parts) e =
        let two : (comes_if (same_context x k.context) ≡ Stays) × (parts_tell x (line x mk) parts ≡ Stays) = both_stay (comes_if (same_context x k.context)) (parts_tell x (line x mk) parts) e in
        (not_coming (same_context x k.context) two.0, stays_none parts two.1)
    stays_none (downs.Discard w ∷ parts) e = stays_none parts (both_stay (goes_if (is_among w (line x mk))) (parts_tell x (line x mk) parts) e).1
    stays_none (_ ∷ parts) e = stays_none parts e
