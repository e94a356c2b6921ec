-- What a process keeps and answers behind a commit that it took.
use Rattle.std.proofs.Common.{◌≡◌, ◌∙◌, refl, sym, ap, unwrap_or, ℕ, Bool, true, false, if◌then◌else◌, List, map, Option, None, Some, true≢false}
use Rattle.std.specs.Prelude.{is_some, nat_lt}
use Rattle.std.specs.FinMap.{get}
use Rattle.std.specs.Option.{option_map, option_map_or}
use Rattle.fission_ids.specs.declared.context.ContextId.{ContextId}
use Rattle.fission_ids.specs.declared.epoch.Epoch.{Epoch}
use Rattle.fission_ids.specs.Ids.{same_context}
use Rattle.field_table.specs.declared.field.Field.{Field}
use Rattle.field_table.specs.declared.value.Value.{Value}
use Rattle.field_table.specs.FieldSet.{minus}
use Rattle.field_table.specs.Table.{value_in}
use Rattle.transaction.specs.Transaction.{Changes, new_value, modified_in, changes_in}
use Rattle.transaction.proofs.Merging.{value_in-merged}
use Rattle.epochs.specs.FieldEpochs.{epoch_of, obsolete_in}
use Rattle.context_store.specs.Content.{Content, Stored, is_there, content_after_change, stored_after_overlay, obsolete_at}
use Rattle.context_store.proofs.Contexts.{changed_at-absent}
use Rattle.wire_msgs.specs.declared.note.FieldNote.{FieldNote}
use Rattle.wire_msgs.specs.declared.note.PartNote.{PartNote}
use Rattle.wire_msgs.specs.declared.note.PartNote.TheVariants as notes
use Rattle.wire_msgs.specs.declared.part.DownPart.TheVariants.{Commit}
use Rattle.protocol.specs.Hear.{modified_fields, changes_where, is_noted, is_applied}
use Rattle.protocol.specs.Seen.Doing.{Given}
use Rattle.protocol.specs.SeenAfter.{seen_after}
use Rattle.context_tree.specs.Tree.{is_held}
use Rattle.protocol.specs.Fold.{behind_all}
use Rattle.protocol.specs.Take.{note, says, taken_notes}
use Rattle.content_core.specs.Content.{Kept, seen_of}
use Rattle.content_core.specs.Held.{TakesPart}
use Rattle.content_core.specs.Steps.{commit_note}
use Rattle.content_core.specs.declared.contexts.Contexts.{Contexts}
use Rattle.content_core.proofs.Changing.{get-changed, value-changed, there_too, long_at, is_the_same, with_store, whole-changed, KeepsLength-overlay}
use Rattle.content_core.proofs.Coming.{keeps, AreWhole}
use Rattle.content_core.proofs.Notes.{with_mark, mark_if, left-applied, notes-by_set}

abbrev newest_in : Field → Option Stored → ℕ
newest_in fld o = option_map_or (λ s. (epoch_of s.epochs fld).0) o 0

newest-left : (t : Changes) (e : Epoch) (fld : Field) (b : Bool) (o : Option Stored) → newest_in fld (option_map (λ s. if b then stored_after_overlay t e s else s) o) ≡ newest_in fld o
newest-left t e fld true None = refl
newest-left t e fld false None = refl
newest-left t e fld true (Some s) = refl
newest-left t e fld false (Some s) = refl

module _ (p : ℕ) (old : Contexts) (m : Content) (n commits taken : ℕ) (running : Bool) (x : ContextId) (t : Changes) (e : Epoch) where
  abbrev before : Kept
  before = keeps p old commits taken n running

  abbrev after : Kept
  after = keeps p (with_store m old) commits taken n running

  -- the notes of the commit, where the context is held
  abbrev ns : List FieldNote
  ns = taken_notes e.0 (seen_of before) x t

  -- what the overlay writes into a context that is there is what its notes say is applied
  overlaid : (s : Stored) (fld : Field) → get old.store x ≡ Some s
      → new_value (changes_in (minus (modified_in t) (obsolete_in (modified_in t) e s.epochs)) t) fld ≡ new_value (changes_where (is_noted is_applied ns) t) fld
  overlaid s fld is =
      left-applied t e s.epochs fld
      ∙ ap (λ (o : Option Stored). new_value (changes_where (is_noted is_applied (map (with_mark (mark_if (λ f. nat_lt e.0 (newest_in f o)))) (modified_fields t))) t) fld) (sym is)

  -- the answers behind an overlay of a context that is held
  seen-given : m ≡ content_after_change (stored_after_overlay t e) x old.store → AreWhole p old n → is_held x old.tree ≡ true
      → seen_of after ≡ seen_after p (Given x (changes_where (is_noted is_applied ns) t)) (seen_of before)
  unfolding seen_after
  seen-given change whole held =
      let there : is_there x old.store ≡ true = whole.there x ∙ held in
      let given : Changes = changes_where (is_noted is_applied ns) t in
      let at : (y : ContextId) → get m y ≡ option_map (λ s. if same_context y x then stored_after_overlay t e s else s) (get old.store y) =
      λ y. ap (λ (c : Content). get c y) change ∙ get-changed (stored_after_overlay t e) x old.store y in
      λ j. record (seen_of before) {
        value = λ y fld.
            (ap (option_map (λ (s : Stored). value_in s.fields fld)) (at y)
            ∙ value-changed (stored_after_overlay t e) fld (new_value given fld) (same_context y x) (get old.store y) (there_too x y old.store there)
            (λ s same is.
            value_in-merged (changes_in (minus (modified_in t) (obsolete_in (modified_in t) e s.epochs)) t) s.fields _ fld refl (long_at (get old.store y) s (whole.long y) is)
            ∙ ap (λ (o : Option Value). unwrap_or o (value_in s.fields fld)) (overlaid s fld (ap (get old.store) (sym (is_the_same x y same)) ∙ is)))) j;
        newest = λ y fld. (ap (newest_in fld) (at y) ∙ newest-left t e fld (same_context y x) (get old.store y)) j;
      }

  -- what becomes of the commit
  note-overlaid : (o : Option Stored) → get old.store x ≡ o → AreWhole p old n → commit_note x t (obsolete_at x t e old.store) ≡ note p e.0 (seen_of before) (Commit x t)
  unfolding note
  note-overlaid None is whole =
      let absent : is_held x old.tree ≡ false = sym (whole.there x) ∙ ap is_some is in
      ap (λ (o : Option Stored). commit_note x t (option_map (λ s. obsolete_in (modified_in t) e s.epochs) o)) is
      ∙ ap (λ (b : Bool). if b then notes.Commit x ns else notes.CommitIgnored x) (sym absent)
  note-overlaid (Some s) is whole =
      let held : is_held x old.tree ≡ true = sym (whole.there x) ∙ ap is_some is in
      ap (λ (o : Option Stored). commit_note x t (option_map (λ r. obsolete_in (modified_in t) e r.epochs) o)) is
      ∙ ap (notes.Commit x) (notes-by_set t e s.epochs)
      ∙ ap (λ (o : Option Stored). notes.Commit x (map (with_mark (mark_if (λ f. nat_lt e.0 (newest_in f o)))) (modified_fields t))) (sym is)
      ∙ ap (λ (b : Bool). if b then notes.Commit x ns else notes.CommitIgnored x) (sym held)

  -- the answers behind the commit, whether its context is held or not
  behind : (b : Bool) → is_held x old.tree ≡ b → m ≡ content_after_change (stored_after_overlay t e) x old.store → AreWhole p old n
      → seen_of after ≡ behind_all (seen_after p) (says (Commit x t) (if b then notes.Commit x ns else notes.CommitIgnored x)) (seen_of before)
  unfolding behind_all says
  behind true held change whole = seen-given change whole held
  behind false absent change whole =
      let none : get old.store x ≡ None = not_there (get old.store x) (whole.there x ∙ absent) in
      ap (λ (c : Content). seen_of (keeps p (with_store c old) commits taken n running)) (change ∙ changed_at-absent (stored_after_overlay t e) x old.store none)
    where
      not_there : (o : Option Stored) → is_some o ≡ false → o ≡ None
      not_there None is = refl
      not_there (Some s) is = absurd (true≢false is)

  seen-taken : m ≡ content_after_change (stored_after_overlay t e) x old.store → AreWhole p old n
      → seen_of after ≡ behind_all (seen_after p) (says (Commit x t) (note p e.0 (seen_of before) (Commit x t))) (seen_of before)
  unfolding note
  seen-taken change whole = behind (is_held x old.tree) refl change whole

  pub takes-commit : (told : PartNote) → m ≡ content_after_change (stored_after_overlay t e) x old.store → told ≡ commit_note x t (obsolete_at x t e old.store) → AreWhole p old n
      → TakesPart (Commit x t) e.0 told before after
  takes-commit told change note_is whole = record {
    process = refl;
    taken = refl;
    seen = seen-taken change whole;
    note = note_is ∙ note-overlaid (get old.store x) refl whole;
    whole = whole-changed (stored_after_overlay t e) x p n old m (KeepsLength-overlay t e) change whole;
  }
