-- What a process keeps and answers behind its own write.
use Rattle.std.proofs.Common.{◌≡◌, ◌∙◌, refl, sym, ap, ℕ, ◌+◌, Bool, true, false, ◌&&◌, if◌then◌else◌, Option, None, Some, true≢false}
use Rattle.std.specs.Prelude.{is_some}
use Rattle.std.specs.FinMap.{get}
use Rattle.std.specs.Option.{option_map, option_map_or}
use Rattle.fission_ids.specs.declared.context.ContextId.{ContextId}
use Rattle.fission_ids.specs.declared.epoch.Epoch.{Epoch}
use Rattle.fission_ids.specs.Ids.{same_context}
use Rattle.field_table.specs.declared.field.Field.{Field}
use Rattle.field_table.specs.FieldSet.{has}
use Rattle.field_table.specs.Table.{value_in}
use Rattle.field_table.proofs.Tables.{at_number}
use Rattle.field_table.proofs.FieldSets.{members_set_of}
use Rattle.transaction.specs.Transaction.{Changes, new_value, modified_in}
use Rattle.transaction.proofs.Merging.{value_in-merged}
use Rattle.epochs.specs.FieldEpochs.{Epochs, epoch_of, epochs_after}
use Rattle.context_store.specs.Content.{Content, Stored, is_there, content_after_change, stored_after_commit}
use Rattle.protocol.specs.Seen.Doing.{Wrote}
use Rattle.protocol.specs.SeenAfter.{seen_after}
use Rattle.context_tree.specs.Tree.{is_held}
use Rattle.content_core.specs.Content.{Kept, seen_of}
use Rattle.content_core.specs.Held.{Does}
use Rattle.content_core.specs.declared.contexts.Contexts.{Contexts}
use Rattle.content_core.proofs.Changing.{get-changed, value-changed, there_too, long_at, with_store, whole-changed, KeepsLength-commit}
use Rattle.content_core.proofs.Coming.{keeps, AreWhole}

pick : (b : Bool) (e old : Epoch) → (if b then e else old).0 ≡ (if b then e.0 else old.0)
pick true e old = refl
pick false e old = refl

-- the epoch of a field where the modified fields are marked
marked : (t : Changes) (e : Epoch) (old : Epochs) (fld : Field) → (epoch_of (epochs_after (modified_in t) e old) fld).0 ≡ (if is_some (new_value t fld) then e.0 else (epoch_of old fld).0)
marked t e old fld =
    let h : Field → Epoch = λ f. if has (modified_in t) f then e else epoch_of old f in
    ap (λ (q : Epoch). q.0) (at_number h (record { 0 = 0 }) fld)
    ∙ pick (has (modified_in t) fld) e (epoch_of old fld)
    ∙ ap (λ (b : Bool). if b then e.0 else (epoch_of old fld).0) (members_set_of (modified_in t) (λ f. is_some (new_value t f)) refl fld)

abbrev newest_in : Field → Option Stored → ℕ
newest_in fld o = option_map_or (λ s. (epoch_of s.epochs fld).0) o 0

newest-written : (t : Changes) (e : Epoch) (n : ℕ) (fld : Field) → e.0 ≡ n → (b : Bool) (o : Option Stored) → (b ≡ true → is_some o ≡ true)
    → newest_in fld (option_map (λ s. if b then stored_after_commit t (Some e) s else s) o) ≡ (if b && is_some (new_value t fld) then n else newest_in fld o)
newest-written t e n fld is true None there = absurd (true≢false (sym (there refl)))
newest-written t e n fld is false None there = refl
newest-written t e n fld is true (Some s) there = marked t e s.epochs fld ∙ ap (λ (k : ℕ). if is_some (new_value t fld) then k else (epoch_of s.epochs fld).0) is
newest-written t e n fld is false (Some s) there = refl

-- a commit is the write that the rule says
module _ (p : ℕ) (old : Contexts) (m : Content) (n commits more taken : ℕ) (running : Bool) (x : ContextId) (t : Changes) where
  abbrev e : Epoch
  e = record { 0 = commits + 1 }

  abbrev before : Kept
  before = keeps p old commits taken n running

  abbrev after : Kept
  after = keeps p (with_store m old) more taken n running

  seen-written : m ≡ content_after_change (stored_after_commit t (Some e)) x old.store → more ≡ commits + 1 → AreWhole p old n → is_held x old.tree ≡ true
      → seen_of after ≡ seen_after p (Wrote x t) (seen_of before)
  unfolding seen_after
  seen-written change counts whole held =
      let there : is_there x old.store ≡ true = whole.there x ∙ held in
      let at : (y : ContextId) → get m y ≡ option_map (λ s. if same_context y x then stored_after_commit t (Some e) s else s) (get old.store y) =
      λ y. ap (λ (c : Content). get c y) change ∙ get-changed (stored_after_commit t (Some e)) x old.store y in
      λ j. record (seen_of before) {
        commits = counts j;
        value = λ y fld.
            (ap (option_map (λ (s : Stored). value_in s.fields fld)) (at y)
            ∙ value-changed (stored_after_commit t (Some e)) fld (new_value t fld) (same_context y x) (get old.store y) (there_too x y old.store there)
            (λ s same is. value_in-merged t s.fields _ fld refl (long_at (get old.store y) s (whole.long y) is))) j;
        newest = λ y fld. (ap (newest_in fld) (at y) ∙ newest-written t e (commits + 1) fld refl (same_context y x) (get old.store y) (there_too x y old.store there)) j;
      }

  pub does-wrote : m ≡ content_after_change (stored_after_commit t (Some e)) x old.store → more ≡ commits + 1 → AreWhole p old n → is_held x old.tree ≡ true
      → Does (Wrote x t) before after
  does-wrote change counts whole held = record {
    process = refl;
    taken = refl;
    seen = seen-written change counts whole held;
    whole = whole-changed (stored_after_commit t (Some e)) x p n old m (KeepsLength-commit t (Some e)) change whole;
  }
