-- Numbers under a mask, where some fields are marked.
use Rattle.std.proofs.Common.{◌≡◌, ◌∙◌, sym, ap, ℕ, Bool, true, false, ◌||◌, List, if◌then◌else◌}
use Rattle.std.specs.Prelude.{slice_index}
use Rattle.fission_ids.specs.declared.epoch.Epoch.{Epoch}
use Rattle.field_table.specs.declared.field.Field.{Field}
use Rattle.field_table.specs.declared.field_set.FieldSet.{FieldSet}
use Rattle.field_table.specs.Field.{number}
use Rattle.field_table.specs.FieldSet.{has}
use Rattle.field_table.proofs.Tables.{at_number}
use Rattle.field_table.proofs.Filling.{same_by_fields}
use Rattle.epochs.specs.FieldEpochs.{Epochs, epoch_of, epochs_after}
use Rattle.context_store.specs.Marked.{number_under, epochs_under, numbers_after}

one_marked : (after mask s : Bool) (e : Epoch) (n : ℕ) → after ≡ (mask || s)
    → record { 0 = if after then (if s then e.0 else n) else 0 } ≡ (if s then e else record { 0 = if mask then n else 0 })
one_marked after true true e n is = ap (λ (b : Bool). record { 0 = if b then e.0 else 0 }) is
one_marked after false true e n is = ap (λ (b : Bool). record { 0 = if b then e.0 else 0 }) is
one_marked after true false e n is = ap (λ (b : Bool). record { 0 = if b then n else 0 }) is
one_marked after false false e n is = ap (λ (b : Bool). record { 0 = if b then n else 0 }) is

-- the fields of the set are marked, under a mask that has them too
pub epochs-marked : (s mask after : FieldSet) (e : Epoch) (old new : List ℕ) (now : Epochs) → epochs_under mask old ≡ now → new ≡ numbers_after s e.0 old
    → ((f : Field) → has after f ≡ (has mask f || has s f)) → epochs_under after new ≡ epochs_after s e now
epochs-marked s mask after e old new now seen write members =
    let none : Epoch = record { 0 = 0 } in
    let n : Field → ℕ = λ f. if has s f then e.0 else slice_index old (number f) in
    let was : Field → Epoch = λ f. record { 0 = number_under mask old f } in
    let made : Field → Epoch = λ f. record { 0 = number_under after (numbers_after s e.0 old) f } in
    let want : Field → Epoch = λ f. if has s f then e else epoch_of (epochs_under mask old) f in
    let same : (f : Field) → made f ≡ want f = λ f.
    ap (λ (k : ℕ). record { 0 = if has after f then k else 0 }) (at_number n 0 f)
    ∙ one_marked (has after f) (has mask f) (has s f) e (slice_index old (number f)) (members f)
    ∙ ap (λ (x : Epoch). if has s f then e else x) (sym (at_number was none f)) in
    ap (epochs_under after) write ∙ same_by_fields made want same ∙ ap (epochs_after s e) seen
