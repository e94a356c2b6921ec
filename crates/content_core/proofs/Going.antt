-- What a process keeps and answers behind a context that went.
use Rattle.std.proofs.Common.{◌≡◌, ◌∙◌, refl, sym, ap, subst, ℕ, ◌+◌, Bool, true, false, ◌<◌, ◌||◌, cond, if◌then◌else◌, List, length, take, get_or, Option, None, Some, true≢false}
use Rattle.std.specs.Prelude.{is_some, IfSome}
use Rattle.std.proofs.lemmas.List.Folds.{list_any_more}
use Rattle.std.specs.FinMap.{get, remove, get-remove}
use Rattle.std.specs.List.{list_any}
use Rattle.std.specs.Option.{option_map, option_map_or}
use Rattle.fission_ids.specs.declared.context.ContextId.{ContextId}
use Rattle.fission_ids.specs.Ids.{same_context}
use Rattle.field_table.specs.Field.{fields}
use Rattle.field_table.specs.Table.{value_in}
use Rattle.epochs.specs.FieldEpochs.{epoch_of}
use Rattle.context_store.specs.Content.{Content, Stored}
use Rattle.context_store.proofs.Contexts.{context_order_total, same_context-tied}
use Rattle.context_tree.specs.Node.{Node}
use Rattle.context_tree.specs.Tree.{IsTree, contexts, is_held, parent_in, is_under, subtree, subtree_if_held}
use Rattle.context_tree.specs.Node.{is_in}
use Rattle.context_tree.proofs.Changes.{without_tree, unknown}
use Rattle.context_tree.proofs.Lists.{filter_none}
use Rattle.context_tree.proofs.Ancestors.{under_subtree}
use Rattle.protocol.specs.SeenAfter.{without_context}
use Rattle.content_core.specs.Content.{seen_of, hold_of}
use Rattle.content_core.specs.Held.{HoldsLess}
use Rattle.content_core.specs.declared.contexts.Contexts.{Contexts}
use Rattle.content_core.specs.declared.hold.Hold.{Hold}
use Rattle.content_core.proofs.Coming.{keeps, AreWhole}
use Rattle.content_core.proofs.Nodes.{order_left, held_left, above_left, under_left}

module _ (p : ℕ) (x : ContextId) (old new : Contexts) (n : ℕ) (whole : AreWhole p old n) (less : HoldsLess x old new) where
  abbrev gone : ContextId → Bool
  gone y = is_under y x old.tree

  held_at : (y : ContextId) → is_held y new.tree ≡ (if gone y then false else is_held y old.tree)
  held_at y = ap (is_held y) less.tree ∙ held_left x old.tree whole.tree y

  both : {A B : Type 0} (f : A → B) (b : Bool) (c d : A) → f (if b then c else d) ≡ (if b then f c else f d)
  both f true c d = refl
  both f false c d = refl

  -- the answers behind
  pub seen-left : (commits taken : ℕ) (running : Bool) → seen_of (keeps p new commits taken n running) ≡ without_context x (seen_of (keeps p old commits taken n running))
  seen-left commits taken running = λ j. record {
    running = running;
    commits = commits;
    taken = taken;
    frames_made = n;
    holds = λ y. held_at y j;
    group = λ y. (ap (option_map (λ (h : Hold). h.group)) (less.holds y) ∙ both (option_map (λ (h : Hold). h.group)) (gone y) None (hold_of y old.holds.entries)) j;
    above = λ y. (ap (parent_in y) less.tree ∙ above_left x old.tree whole.tree y) j;
    under = λ y z. (ap (is_under y z) less.tree ∙ under_left x old.tree whole.tree y z) j;
    owns = λ y. (ap (λ (o : Option Hold). option_map_or (λ h. h.owned) o false) (less.holds y) ∙ both (λ (o : Option Hold). option_map_or (λ h. h.owned) o false) (gone y) None (hold_of y old.holds.entries)) j;
    value = λ y fld. (ap (option_map (λ (s : Stored). value_in s.fields fld)) (less.store y) ∙ both (option_map (λ (s : Stored). value_in s.fields fld)) (gone y) None (get old.store y)) j;
    newest = λ y fld. (ap (λ (o : Option Stored). option_map_or (λ s. (epoch_of s.epochs fld).0) o 0) (less.store y) ∙ both (λ (o : Option Stored). option_map_or (λ s. (epoch_of s.epochs fld).0) o 0) (gone y) None (get old.store y)) j;
    order = (ap contexts less.tree ∙ order_left x old.tree whole.tree) j;
  }

  long_at : (b : Bool) (o : Option Stored) → IfSome o (λ s. length s.fields ≡ length fields) → IfSome (if b then None else o) (λ s. length s.fields ≡ length fields)
  long_at true o is = tt
  long_at false o is = is

  held_before : (b c : Bool) → (if b then false else c) ≡ true → c ≡ true
  held_before true c is = absurd (true≢false (sym is))
  held_before false c is = is

  -- the contexts are still whole
  pub whole-left : AreWhole p new n
  whole-left = record {
    tree = subst IsTree (sym less.tree) (without_tree old.tree whole.tree x);
    there = λ y. ap is_some (less.store y) ∙ both is_some (gone y) None (get old.store y) ∙ ap (λ (c : Bool). if gone y then false else c) (whole.there y) ∙ sym (held_at y);
    known = λ y. ap is_some (less.holds y) ∙ both is_some (gone y) None (hold_of y old.holds.entries) ∙ ap (λ (c : Bool). if gone y then false else c) (whole.known y) ∙ sym (held_at y);
    long = λ y. subst (λ (o : Option Stored). IfSome o (λ s. length s.fields ≡ length fields)) (sym (less.store y)) (long_at (gone y) (get old.store y) (whole.long y));
    own = λ y held creator. whole.own y (held_before (gone y) (is_held y old.tree) (sym (held_at y) ∙ held)) creator;
    few = whole.few;
    number = whole.number;
  }

-- ---- who went

-- what is taken out for each id of a subtree is taken out for all that is below
pub out_below : {A : Type 0} (x : ContextId) (ns : List Node) (ids : List ContextId) → IsTree ns → Some ids ≡ subtree_if_held x ns
    → (y : ContextId) (o : Option A) → (if list_any (same_context y) ids then None else o) ≡ (if is_under y x ns then None else o)
out_below x ns ids t is y o = by (is_held x ns) is
  where
    by : (b : Bool) → Some ids ≡ (if b then Some (contexts (subtree x ns)) else None) → (if list_any (same_context y) ids then None else o) ≡ (if is_under y x ns then None else o)
    by true e =
        let same : ids ≡ contexts (subtree x ns) = cc in
        ap (λ (b : Bool). if b then None else o) (ap (list_any (same_context y)) same ∙ under_subtree y x ns t.distinct)
    by false e = absurd (cc)

-- below what isn't held nothing is
pub none_below : {A : Type 0} (x : ContextId) (ns : List Node) → IsTree ns → ◌≡◌ {A = Option (List ContextId)} None (subtree_if_held x ns)
    → (y : ContextId) (o : Option A) → o ≡ (if is_under y x ns then None else o)
none_below x ns t is y o = by (is_held x ns) refl is
  where
    by : (b : Bool) → is_held x ns ≡ b → ◌≡◌ {A = Option (List ContextId)} None (if b then Some (contexts (subtree x ns)) else None) → o ≡ (if is_under y x ns then None else o)
    by true held e = absurd (cc)
    by false absent e =
        ap (λ (b : Bool). if b then None else o)
        (sym (sym (under_subtree y x ns t.distinct) ∙ ap (λ (ms : List Node). list_any (same_context y) (contexts ms)) (filter_none (is_in x) ns (unknown x ns t absent))))

-- one more is taken out of a store
pub out_more : (full m new : Content) (ids : List ContextId) (i : ℕ) (d : ContextId) → i < length ids → new ≡ remove m (get_or ids i d)
    → ((y : ContextId) → get m y ≡ (if list_any (same_context y) (take i ids) then None else get full y))
    → (y : ContextId) → get new y ≡ (if list_any (same_context y) (take (i + 1) ids) then None else get full y)
out_more full m new ids i d within is so_far y =
    let x : ContextId = get_or ids i d in
    ap (λ (c : Content). get c y) is
    ∙ get-remove context_order_total m x y
    ∙ ap (λ (b : Bool). cond b None (get m y)) (sym (same_context-tied y x))
    ∙ ap (λ (o : Option Stored). cond (same_context y x) None o) (so_far y)
    ∙ by (same_context y x) (list_any (same_context y) (take i ids))
    ∙ ap (λ (b : Bool). if b then None else get full y) (sym (list_any_more (same_context y) ids i d within))
  where
    by : (a b : Bool) → cond a None (if b then None else get full y) ≡ (if b || a then None else get full y)
    by true true = refl
    by true false = refl
    by false true = refl
    by false false = refl
