-- The look of a process at the trees is lawful: what goes takes all below it, and of the tabs of the start a process has
-- those that it is told of.
use Rattle.std.proofs.Common.{◌≡◌, ◌⊎◌, inl, inr, ℕ, ◌+◌, ◌==◌, Bool, true, false, ◌&&◌, if◌then◌else◌, Option, None, Some, List, [], ◌∷◌, refl, ap, sym, ◌∙◌, arith, eqb-true}
use Rattle.std.specs.Prelude.{is_some, nat_lt, slice_get, ◌-◌}
use Rattle.std.specs.List.{list_any}
use Rattle.std.specs.Option.{option_map, option_map_or}
use Rattle.fission_ids.specs.declared.context.ContextId.{ContextId}
use Rattle.fission_ids.specs.declared.group.GroupId.{GroupId}
use Rattle.fission_ids.specs.declared.process.ProcSet.{ProcSet}
use Rattle.fission_ids.specs.Ids.{same_context}
use Rattle.fission_ids.specs.ProcSet.{has}
use Rattle.wire_msgs.specs.declared.config.Config.{Config}
use Rattle.wire_msgs.specs.declared.config.StartTab.{StartTab}
use Rattle.wire_msgs.specs.declared.part.DownPart.{DownPart}
use Rattle.wire_msgs.specs.declared.part.DownPart.TheVariants as downs
use Rattle.wire_msgs.specs.declared.part.UpPart.{UpPart}
use Rattle.wire_msgs.specs.declared.part.UpPart.TheVariants as ups
use Rattle.protocol.specs.Sayings.{Saying}
use Rattle.protocol.specs.Sayings.Saying.{Opened, Made, Removed}
use Rattle.protocol.specs.Fold.{or_later}
use Rattle.protocol.specs.Questions.{option_any, is_subscribed}
use Rattle.protocol.specs.Start.{nth_context, tab_of, is_live, processes_of_tab, is_of_tab, is_held_at_start, facts_at_start}
use Rattle.traces.specs.Words.Stage.{Coming, Held, Gone}
use Rattle.trees.specs.Look.{Effect}
use Rattle.trees.specs.Look.Effect.{Stays, Comes, Goes}
use Rattle.trees.specs.Rules.{Lawful}
use Rattle.model.specs.Lines.{Making, line, above_in, opened_in, group_in, is_among}
use Rattle.model.specs.Moments.{Written}
use Rattle.model.specs.Moments.Written.{Own, Raw, Said}
use Rattle.model.specs.Trees.{comes_if, goes_if, both, parts_do, says_do, written_does, parts_tell, parts_create, says_create, written_creates, registers_group, tree_look, held_if, tree_begin}
use Rattle.model.specs.View.{singles}
use Rattle.model.proofs.Cases.{both_true, either_true, none_some}
use Rattle.model.proofs.Lining.{Lined, group_step, group_top}
use Rattle.model.proofs.Living.{both_goes, goes_later, goes_when, line_below}

-- a later one of two goes if either does
either_goes : (a b a' b' : Effect) → (a ≡ Goes → a' ≡ Goes) → (b ≡ Goes → b' ≡ Goes) → both a b ≡ Goes → both a' b' ≡ Goes
either_goes a b a' b' one two e = by_which (both_goes a b e)
  where
    by_which : (a ≡ Goes) ⊎ (b ≡ Goes) → both a' b' ≡ Goes
    by_which (inl is) = ap (λ d. both d b') (one is)
    by_which (inr is) = goes_later a' b' (two is)

never_goes : (b : Bool) {A : Type 0} → comes_if b ≡ Goes → A
never_goes true e = absurd cc
never_goes false e = absurd cc

-- both stay where the whole stays
both_still : (a b : Effect) → both a b ≡ Stays → (a ≡ Stays) × (b ≡ Stays)
both_still Stays b e = (refl, e)
both_still Goes b e = absurd cc
both_still Comes Goes e = absurd cc
both_still Comes Stays e = absurd cc
both_still Comes Comes e = absurd cc

module _ (c : Config) (p : ℕ) (mk : List Making) (l : Lined mk) where
  goes_below : (x y w : ContextId) → above_in mk x ≡ Some y → goes_if (is_among w (line y mk)) ≡ Goes → goes_if (is_among w (line x mk)) ≡ Goes
  goes_below x y w up e = ap goes_if (line_below mk l w x y up (goes_when (is_among w (line y mk)) e))

  parts_below : (x y : ContextId) (parts : List UpPart) → above_in mk x ≡ Some y → parts_do y (line y mk) parts ≡ Goes → parts_do x (line x mk) parts ≡ Goes
  parts_below x y [] up e = absurd cc
  parts_below x y (ups.Create z a ∷ parts) up e =
      either_goes (comes_if (same_context y z)) (parts_do y (line y mk) parts) (comes_if (same_context x z)) (parts_do x (line x mk) parts) (λ is. never_goes (same_context y z) is) (parts_below x y parts up) e
  parts_below x y (ups.Drop w ∷ parts) up e =
      either_goes (goes_if (is_among w (line y mk))) (parts_do y (line y mk) parts) (goes_if (is_among w (line x mk))) (parts_do x (line x mk) parts) (goes_below x y w up) (parts_below x y parts up) e
  parts_below x y (_ ∷ parts) up e = parts_below x y parts up e

  pub says_below : (x y : ContextId) (says : List Saying) → above_in mk x ≡ Some y → says_do y (line y mk) says ≡ Goes → says_do x (line x mk) says ≡ Goes
  says_below x y [] up e = absurd cc
  says_below x y (Opened z g is_new q ∷ says) up e =
      either_goes (comes_if (same_context y z)) (says_do y (line y mk) says) (comes_if (same_context x z)) (says_do x (line x mk) says) (λ is. never_goes (same_context y z) is) (says_below x y says up) e
  says_below x y (Made q z a ∷ says) up e =
      either_goes (comes_if (same_context y z)) (says_do y (line y mk) says) (comes_if (same_context x z)) (says_do x (line x mk) says) (λ is. never_goes (same_context y z) is) (says_below x y says up) e
  says_below x y (Removed w but ∷ says) up e =
      either_goes (goes_if (is_among w (line y mk))) (says_do y (line y mk) says) (goes_if (is_among w (line x mk))) (says_do x (line x mk) says) (goes_below x y w up) (says_below x y says up) e
  says_below x y (_ ∷ says) up e = says_below x y says up e

  written_below : (x y : ContextId) (w : Written) → above_in mk x ≡ Some y → written_does y (line y mk) w ≡ Goes → written_does x (line x mk) w ≡ Goes
  written_below x y (Own b) up e = parts_below x y b.parts up e
  written_below x y (Raw b) up e = parts_below x y b.parts up e
  written_below x y (Said says) up e = says_below x y says up e

  pub downs_below : (x y : ContextId) (parts : List DownPart) → above_in mk x ≡ Some y → parts_tell y (line y mk) parts ≡ Goes → parts_tell x (line x mk) parts ≡ Goes
  downs_below x y [] up e = absurd cc
  downs_below x y (downs.Create k ∷ parts) up e =
      either_goes (comes_if (same_context y k.context)) (parts_tell y (line y mk) parts) (comes_if (same_context x k.context)) (parts_tell x (line x mk) parts) (λ is. never_goes (same_context y k.context) is) (downs_below x y parts up) e
  downs_below x y (downs.Discard w ∷ parts) up e =
      either_goes (goes_if (is_among w (line y mk))) (parts_tell y (line y mk) parts) (goes_if (is_among w (line x mk))) (parts_tell x (line x mk) parts) (goes_below x y w up) (downs_below x y parts up) e
  downs_below x y (_ ∷ parts) up e = downs_below x y parts up e

  -- what is named as made comes or goes
  create_moves : (x : ContextId) (ln : List ContextId) (parts : List UpPart) → parts_create x parts ≡ true → parts_do x ln parts ≡ Stays → ⊥
  create_moves x ln [] e stays = absurd cc
  create_moves x ln (ups.Create y a ∷ parts) e stays =
      by_which (either_true (same_context x y) (parts_create x parts) e) (both_still (comes_if (same_context x y)) (parts_do x ln parts) stays) (create_moves x ln parts)
    where
      by_which : (same_context x y ≡ true) ⊎ (parts_create x parts ≡ true) → (comes_if (same_context x y) ≡ Stays) × (parts_do x ln parts ≡ Stays) → (parts_create x parts ≡ true → parts_do x ln parts ≡ Stays → ⊥) → ⊥
      by_which (inl is) still rest = let two : Comes ≡ Stays = ap comes_if (sym is) ∙ still.0 in absurd cc
      by_which (inr later) still rest = rest later still.1
  create_moves x ln (ups.Drop y ∷ parts) e stays = create_moves x ln parts e (both_still (goes_if (is_among y ln)) (parts_do x ln parts) stays).1
  create_moves x ln (_ ∷ parts) e stays = create_moves x ln parts e stays

  pub say_moves : (x : ContextId) (ln : List ContextId) (says : List Saying) → says_create x says ≡ true → says_do x ln says ≡ Stays → ⊥
  say_moves x ln [] e stays = absurd cc
  say_moves x ln (Opened y g is_new q ∷ says) e stays = by_which (either_true (same_context x y) (says_create x says) e) (both_still (comes_if (same_context x y)) (says_do x ln says) stays) (say_moves x ln says)
    where
      by_which : (same_context x y ≡ true) ⊎ (says_create x says ≡ true) → (comes_if (same_context x y) ≡ Stays) × (says_do x ln says ≡ Stays) → (says_create x says ≡ true → says_do x ln says ≡ Stays → ⊥) → ⊥
      by_which (inl is) still rest = let two : Comes ≡ Stays = ap comes_if (sym is) ∙ still.0 in absurd cc
      by_which (inr later) still rest = rest later still.1
  say_moves x ln (Made q y a ∷ says) e stays = by_which (either_true (same_context x y) (says_create x says) e) (both_still (comes_if (same_context x y)) (says_do x ln says) stays) (say_moves x ln says)
    where
      by_which : (same_context x y ≡ true) ⊎ (says_create x says ≡ true) → (comes_if (same_context x y) ≡ Stays) × (says_do x ln says ≡ Stays) → (says_create x says ≡ true → says_do x ln says ≡ Stays → ⊥) → ⊥
      by_which (inl is) still rest = let two : Comes ≡ Stays = ap comes_if (sym is) ∙ still.0 in absurd cc
      by_which (inr later) still rest = rest later still.1
  say_moves x ln (Removed w but ∷ says) e stays = say_moves x ln says e (both_still (goes_if (is_among w ln)) (says_do x ln says) stays).1
  say_moves x ln (_ ∷ says) e stays = say_moves x ln says e stays

  written_moves : (x : ContextId) (ln : List ContextId) (w : Written) → written_creates x w ≡ true → written_does x ln w ≡ Stays → ⊥
  written_moves x ln (Own b) e stays = create_moves x ln b.parts e stays
  written_moves x ln (Raw b) e stays = create_moves x ln b.parts e stays
  written_moves x ln (Said says) e stays = say_moves x ln says e stays

  -- a tab of the start has no creator
  live_tab : (x : ContextId) → is_live c.tabs x ≡ true → x.creator ≡ 0
  live_tab x e = eqb-true x.creator 0 (both_true (x.creator == 0) (nat_lt 0 x.serial) (some_tab (x.creator == 0 && nat_lt 0 x.serial) (slice_get c.tabs (x.serial - 1)) e)).0
    where
      some_tab : {A : Type 0} (b : Bool) (o : Option A) → is_some (if b then o else None) ≡ true → b ≡ true
      some_tab true o e = refl
      some_tab false o e = absurd cc

  held_live : (x : ContextId) → is_held_at_start c.tabs p x ≡ true → is_live c.tabs x ≡ true
  held_live x e = by_tab (tab_of c.tabs x) e
    where
      by_tab : (o : Option StartTab) → is_of_tab p o ≡ true → is_some o ≡ true
      by_tab (Some tab) e = refl
      by_tab None e = absurd cc

  -- and nothing is above it
  live_top : (x : ContextId) → is_live c.tabs x ≡ true → above_in mk x ≡ None
  live_top x e = l.tabs x (live_tab x e)

  -- a process is told of a tab of the start exactly if it holds its context
  tab_told : (x : ContextId) → is_live c.tabs x ≡ true → option_any (is_subscribed (facts_at_start c.tabs) p) (group_in c.tabs mk x) ≡ is_held_at_start c.tabs p x
  tab_told x e = ap (option_any (is_subscribed (facts_at_start c.tabs) p)) (group_top c.tabs mk x (live_top x e)) ∙ by_tab (tab_of c.tabs x) refl e
    where
      numbered : ℕ → GroupId
      numbered n = record { 0 = n }

      nobody : ProcSet
      nobody = record { 0 = 0 }

      is_nth : nth_context x.serial ≡ x
      is_nth = ap (λ (n : ℕ). record { creator = n; serial = x.serial }) (sym (live_tab x e))

      by_tab : (o : Option StartTab) → tab_of c.tabs x ≡ o → is_some o ≡ true
          → option_any (is_subscribed (facts_at_start c.tabs) p) (or_later (option_map (λ (t : StartTab). numbered x.serial) (tab_of c.tabs x)) (opened_in mk x)) ≡ is_of_tab p (tab_of c.tabs x)
      by_tab None is e = absurd cc
      by_tab (Some tab) is e =
          ap (λ (o : Option StartTab). option_any (is_subscribed (facts_at_start c.tabs) p) (or_later (option_map (λ (t : StartTab). numbered x.serial) o) (opened_in mk x))) is
          ∙ ap (λ (z : ContextId). has (option_map_or processes_of_tab (tab_of c.tabs z) nobody) p) is_nth
          ∙ ap (λ (o : Option StartTab). has (option_map_or processes_of_tab o nobody) p) is
          ∙ sym (ap (is_of_tab p) is)

  -- who is told of a context at the start has it if it is live
  told_start : (x : ContextId) → (tree_begin c p mk).is_told x ≡ true → is_held_at_start c.tabs p x ≡ is_live c.tabs x
  told_start x told = by_live (is_live c.tabs x) refl
    where
      by_live : (v : Bool) → is_live c.tabs x ≡ v → is_held_at_start c.tabs p x ≡ is_live c.tabs x
      by_live true is = sym (tab_told x is) ∙ told ∙ sym is
      by_live false isnt = by_held (is_held_at_start c.tabs p x) refl
        where
          by_held : (v : Bool) → is_held_at_start c.tabs p x ≡ v → is_held_at_start c.tabs p x ≡ is_live c.tabs x
          by_held true held = held ∙ sym (held_live x held)
          by_held false unheld = unheld ∙ sym isnt

  -- who isn't has nothing
  untold_start : (x : ContextId) → (tree_begin c p mk).is_told x ≡ false → is_held_at_start c.tabs p x ≡ false
  untold_start x untold = by_held (is_held_at_start c.tabs p x) refl
    where
      by_held : (v : Bool) → is_held_at_start c.tabs p x ≡ v → is_held_at_start c.tabs p x ≡ false
      by_held true held = sym (tab_told x (held_live x held)) ∙ untold
      by_held false unheld = unheld

  start_by : (x : ContextId) → (held_if (is_live c.tabs x) ≡ Coming) ⊎ (is_live c.tabs x ≡ true)
  start_by x = by_live (is_live c.tabs x) refl
    where
      by_live : (b : Bool) → is_live c.tabs x ≡ b → (held_if (is_live c.tabs x) ≡ Coming) ⊎ (is_live c.tabs x ≡ true)
      by_live true is = inr is
      by_live false isnt = inl (ap held_if isnt)

  pub lawful : Lawful (tree_look c p mk) (tree_begin c p mk)
  lawful = record {
    does_below = λ x y w up e. written_below x y w up e;
    tells_below = λ x y d up e. downs_below x y (singles d.parts) up e;
    creates_moves = λ x w e stays. written_moves x (line x mk) w e stays;
    told_below = λ x y up. ap (option_any (is_subscribed (facts_at_start c.tabs) p)) (group_step c.tabs mk l x y up);
    registers_below = λ x y d up. ap (option_any (λ g. list_any (registers_group g) d.parts)) (group_step c.tabs mk l x y up);
    has_live = λ x told. ap held_if (told_start x told);
    has_nothing = λ x untold. ap held_if (untold_start x untold);
    none_gone = λ x e. alive x (start_by x) e;
    none_own = λ x own. new_own x own (start_by x);
    none_below = λ x y up. new_below x y up (start_by x);
  }
    where
      alive : (x : ContextId) → (held_if (is_live c.tabs x) ≡ Coming) ⊎ (is_live c.tabs x ≡ true) → held_if (is_live c.tabs x) ≡ Gone → ⊥
      alive x (inl new) e = absurd cc
      alive x (inr live) e = let is : Held ≡ Gone = sym (ap held_if live) ∙ e in absurd cc

      new_own : (x : ContextId) → (x.creator == p + 1) ≡ true → (held_if (is_live c.tabs x) ≡ Coming) ⊎ (is_live c.tabs x ≡ true) → held_if (is_live c.tabs x) ≡ Coming
      new_own x own (inl new) = new
      new_own x own (inr live) = absurd (omega (arith, sym (eqb-true x.creator (p + 1) own) ∙ live_tab x live))

      new_below : (x y : ContextId) → above_in mk x ≡ Some y → (held_if (is_live c.tabs x) ≡ Coming) ⊎ (is_live c.tabs x ≡ true) → held_if (is_live c.tabs x) ≡ Coming
      new_below x y up (inl new) = new
      new_below x y up (inr live) = none_some y (sym (live_top x live) ∙ up)
