-- What a process keeps and answers behind a context that came.
use Rattle.std.proofs.Common.{◌≡◌, ◌∙◌, refl, sym, ap, subst, ℕ, ◌+◌, ◌≤◌, Bool, true, false, cond, if◌then◌else◌, length, Option, None, Some, arith}
use Rattle.std.specs.Prelude.{is_some, insert, IfSome}
use Rattle.std.specs.FinMap.{get, get-insert}
use Rattle.std.specs.Option.{option_map, option_map_or}
use Rattle.fission_ids.specs.declared.context.ContextId.{ContextId}
use Rattle.fission_ids.specs.declared.epoch.Epoch.{Epoch}
use Rattle.fission_ids.specs.Ids.{same_context}
use Rattle.field_table.specs.declared.field.Field.{Field}
use Rattle.field_table.specs.Field.{fields}
use Rattle.field_table.specs.Table.{Table, value_in}
use Rattle.field_table.proofs.Tables.{at_number}
use Rattle.epochs.specs.FieldEpochs.{epoch_of, no_epochs}
use Rattle.context_store.specs.Content.{Content, Stored}
use Rattle.context_store.proofs.Contexts.{context_order_total, same_context-tied}
use Rattle.context_tree.specs.Tree.{IsTree, contexts, is_held, parent_in, is_under, is_missing}
use Rattle.context_tree.proofs.Changes.{after_tree}
use Rattle.context_tree.proofs.Same.{same_equal, same_swapped}
use Rattle.protocol.specs.SeenAfter.{with_context, place_for}
use Rattle.content_core.specs.Content.{Kept, HoldsItsTree, seen_of, hold_of}
use Rattle.content_core.specs.Held.{HoldsMore}
use Rattle.content_core.specs.declared.contexts.Contexts.{Contexts}
use Rattle.content_core.specs.declared.hold.Hold.{Hold}
use Rattle.content_core.proofs.Nodes.{order_put, place_by_answers, held_put, above_put, under_put}

-- what process p keeps with these contexts
abbrev pub keeps : ℕ → Contexts → ℕ → ℕ → ℕ → Bool → Kept
keeps p held commits taken frames_made running = record {
  process = p;
  nodes = held.tree;
  contexts = held.store;
  holds = held.holds.entries;
  commits = commits;
  taken = taken;
  frames_made = frames_made;
  running = running;
}

-- what contexts are for a process
abbrev pub AreWhole : ℕ → Contexts → ℕ → Type 0
AreWhole p held frames_made = HoldsItsTree p held.tree held.store held.holds.entries frames_made

place_told : (parent : Option ContextId) (x : ContextId) (k : Kept) → place_by_answers parent x k.nodes ≡ place_for (seen_of k) x parent
place_told None x k = refl
place_told (Some p) x k = refl

none_yet : (fld : Field) → (epoch_of no_epochs fld).0 ≡ 0
none_yet fld = ap (λ (q : Epoch). q.0) (at_number (λ f. record { 0 = 0 }) (record { 0 = 0 }) fld)

module _ (p : ℕ) (x : ContextId) (parent : Option ContextId) (hold : Hold) (values : Table) (old new : Contexts) (n : ℕ)
    (whole : AreWhole p old n) (more : HoldsMore x parent hold values old new) (fresh : is_held x old.tree ≡ false) (there : is_missing parent old.tree ≡ false)
  where
    abbrev stored : Stored
    stored = record { fields = values; epochs = no_epochs }

    store_at : (y : ContextId) → get new.store y ≡ (if same_context y x then Some stored else get old.store y)
    store_at y =
        ap (λ (m : Content). get m y) more.store
        ∙ get-insert context_order_total old.store x stored y
        ∙ ap (λ (b : Bool). cond b (Some stored) (get old.store y)) (sym (same_context-tied y x))

    hold_at : (y : ContextId) → hold_of y new.holds.entries ≡ (if same_context y x then Some hold else hold_of y old.holds.entries)
    hold_at y = more.holds y ∙ ap (λ (b : Bool). if b then Some hold else hold_of y old.holds.entries) (same_swapped x y)

    held_at : (y : ContextId) → is_held y new.tree ≡ (if same_context y x then true else is_held y old.tree)
    held_at y = ap (is_held y) more.tree ∙ held_put parent x old.tree whole.tree fresh there y

    both : {A B : Type 0} (f : A → B) (b : Bool) (c d : A) → f (if b then c else d) ≡ (if b then f c else f d)
    both f true c d = refl
    both f false c d = refl

    newest_at : (fld : Field) (b : Bool) (o : Option Stored)
        → option_map_or (λ s. (epoch_of s.epochs fld).0) (if b then Some stored else o) 0 ≡ (if b then 0 else option_map_or (λ s. (epoch_of s.epochs fld).0) o 0)
    newest_at fld true o = none_yet fld
    newest_at fld false o = refl

    -- the answers behind
    pub seen-put : (commits taken m : ℕ) (running : Bool) → seen_of (keeps p new commits taken m running)
        ≡ record (with_context x (Some hold.group) parent hold.owned (value_in values) (seen_of (keeps p old commits taken n running))) { frames_made = m }
    seen-put commits taken m running = λ j. record {
      running = running;
      commits = commits;
      taken = taken;
      frames_made = m;
      holds = λ y. held_at y j;
      group = λ y. (ap (option_map (λ (h : Hold). h.group)) (hold_at y) ∙ both (option_map (λ (h : Hold). h.group)) (same_context y x) (Some hold) (hold_of y old.holds.entries)) j;
      above = λ y. (ap (parent_in y) more.tree ∙ above_put parent x old.tree whole.tree fresh there y) j;
      under = λ y z. (ap (is_under y z) more.tree ∙ under_put parent x old.tree whole.tree fresh there y z) j;
      owns = λ y. (ap (λ (o : Option Hold). option_map_or (λ h. h.owned) o false) (hold_at y) ∙ both (λ (o : Option Hold). option_map_or (λ h. h.owned) o false) (same_context y x) (Some hold) (hold_of y old.holds.entries)) j;
      value = λ y fld. (ap (option_map (λ (s : Stored). value_in s.fields fld)) (store_at y) ∙ both (option_map (λ (s : Stored). value_in s.fields fld)) (same_context y x) (Some stored) (get old.store y)) j;
      newest = λ y fld. (ap (λ (o : Option Stored). option_map_or (λ s. (epoch_of s.epochs fld).0) o 0) (store_at y) ∙ newest_at fld (same_context y x) (get old.store y)) j;
      order = (ap contexts more.tree ∙ order_put parent x old.tree whole.tree ∙ ap (λ (k : ℕ). insert (contexts old.tree) k x) (place_told parent x (keeps p old commits taken n running))) j;
    }

    long_at : (b : Bool) (o : Option Stored) → IfSome o (λ s. length s.fields ≡ length fields) → IfSome (if b then Some stored else o) (λ s. length s.fields ≡ length fields)
    long_at true o is = more.long
    long_at false o is = is

    own_at : (m : ℕ) → n ≤ m → (x.creator ≡ p + 1 → x.serial ≤ m) → (y : ContextId) (b : Bool) → same_context y x ≡ b
        → (if b then true else is_held y old.tree) ≡ true → y.creator ≡ p + 1 → y.serial ≤ m
    own_at m le mine y true same held creator =
        let e : y ≡ x = same_equal y x same in
        subst (λ (z : ContextId). z.serial ≤ m) (sym e) (mine (ap (λ (z : ContextId). z.creator) (sym e) ∙ creator))
    own_at m le mine y false other held creator = omega (arith, whole.own y held creator, le)

    -- the contexts are still whole
    pub whole-put : (m : ℕ) → n ≤ m → m ≤ 240 → (x.creator ≡ p + 1 → x.serial ≤ m) → AreWhole p new m
    whole-put m le few mine = record {
      tree = subst IsTree (sym more.tree) (after_tree old.tree whole.tree parent x fresh there);
      there = λ y. ap is_some (store_at y) ∙ both is_some (same_context y x) (Some stored) (get old.store y) ∙ ap (λ (c : Bool). if same_context y x then true else c) (whole.there y) ∙ sym (held_at y);
      known = λ y. ap is_some (hold_at y) ∙ both is_some (same_context y x) (Some hold) (hold_of y old.holds.entries) ∙ ap (λ (c : Bool). if same_context y x then true else c) (whole.known y) ∙ sym (held_at y);
      long = λ y. subst (λ (o : Option Stored). IfSome o (λ s. length s.fields ≡ length fields)) (sym (store_at y)) (long_at (same_context y x) (get old.store y) (whole.long y));
      own = λ y held. own_at m le mine y (same_context y x) refl (sym (held_at y) ∙ held);
      few = few;
      number = whole.number;
    }
