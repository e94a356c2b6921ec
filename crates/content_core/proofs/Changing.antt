-- What a process keeps of each context, where one of them is changed.
use Rattle.std.proofs.Common.{◌≡◌, ◌∙◌, refl, sym, ap, subst, ℕ, suc, Bool, true, false, cond, if◌then◌else◌, [], ◌∷◌, length, Option, None, Some, unwrap_or, true≢false}
use Rattle.std.specs.Prelude.{is_some, IfSome}
use Rattle.std.specs.FinMap.{get}
use Rattle.std.specs.Option.{option_map}
use Rattle.fission_ids.specs.declared.context.ContextId.{ContextId}
use Rattle.fission_ids.specs.Ids.{same_context}
use Rattle.field_table.specs.declared.field.Field.{Field}
use Rattle.field_table.specs.Field.{fields}
use Rattle.field_table.specs.Table.{Table, value_in}
use Rattle.field_table.specs.declared.value.Value.{Value}
use Rattle.field_table.specs.FieldSet.{minus}
use Rattle.fission_ids.specs.declared.epoch.Epoch.{Epoch}
use Rattle.transaction.specs.Transaction.{Changes, table_after, modified_in, changes_in}
use Rattle.context_store.specs.Content.{Content, Stored, is_there, content_after_change, stored_after_commit, stored_after_overlay, obsolete_fields}
use Rattle.context_store.proofs.Contexts.{same_context-tied, tied_same, get-changed_at}
use Rattle.protocol.specs.Fold.{or_later}
use Rattle.content_core.specs.declared.contexts.Contexts.{Contexts}
use Rattle.content_core.proofs.Coming.{AreWhole}

-- the change of one context, as a change of all
abbrev pub changed : (Stored → Stored) → ContextId → ContextId → Stored → Stored
changed f x y s = if same_context y x then f s else s

itself : (o : Option Stored) → o ≡ option_map (λ s. s) o
itself None = refl
itself (Some s) = refl

pub get-changed : (f : Stored → Stored) (x : ContextId) (m : Content) (y : ContextId) → get (content_after_change f x m) y ≡ option_map (changed f x y) (get m y)
get-changed f x m y =
    get-changed_at f x m y
    ∙ ap (λ (b : Bool). cond b (option_map f (get m x)) (get m y)) (sym (same_context-tied y x))
    ∙ by (same_context y x) refl
  where
    by : (b : Bool) → same_context y x ≡ b → cond b (option_map f (get m x)) (get m y) ≡ option_map (λ s. if b then f s else s) (get m y)
    by true e = ap (λ (z : ContextId). option_map f (get m z)) (sym (tied_same y x (sym (same_context-tied y x) ∙ e)))
    by false e = itself (get m y)

-- a change that keeps the tables as long as they were
abbrev pub KeepsLength : (Stored → Stored) → Type 0
KeepsLength f = (s : Stored) → length (f s).fields ≡ length s.fields

length-table_after : (t : Changes) (values : Table) → length (table_after t values) ≡ length values
length-table_after [] values = refl
length-table_after (c ∷ cs) [] = refl
length-table_after (c ∷ cs) (v ∷ values) = ap suc (length-table_after cs values)

pub KeepsLength-commit : (t : Changes) (e : Option Epoch) → KeepsLength (stored_after_commit t e)
KeepsLength-commit t e s = length-table_after t s.fields

pub KeepsLength-overlay : (t : Changes) (e : Epoch) → KeepsLength (stored_after_overlay t e)
KeepsLength-overlay t e s = length-table_after (changes_in (minus (modified_in t) (obsolete_fields t e s)) t) s.fields

-- two ids of one context are one
pub is_the_same : (x y : ContextId) → same_context y x ≡ true → y ≡ x
is_the_same x y same = tied_same y x (sym (same_context-tied y x) ∙ same)

still_there : (g : Stored → Stored) (o : Option Stored) → is_some (option_map g o) ≡ is_some o
still_there g None = refl
still_there g (Some s) = refl

still_long : (f : Stored → Stored) → KeepsLength f → (b : Bool) (o : Option Stored) → IfSome o (λ s. length s.fields ≡ length fields)
    → IfSome (option_map (λ s. if b then f s else s) o) (λ s. length s.fields ≡ length fields)
still_long f keeps b None is = is
still_long f keeps true (Some s) is = keeps s ∙ is
still_long f keeps false (Some s) is = is

-- the contexts with another store
abbrev pub with_store : Content → Contexts → Contexts
with_store m held = record { tree = held.tree; store = m; holds = held.holds }

-- a change of one context leaves them whole
pub whole-changed : (f : Stored → Stored) (x : ContextId) (p n : ℕ) (old : Contexts) (m : Content) → KeepsLength f → m ≡ content_after_change f x old.store
    → AreWhole p old n → AreWhole p (with_store m old) n
whole-changed f x p n old m keeps change whole =
    let at : (y : ContextId) → get m y ≡ option_map (changed f x y) (get old.store y) =
    λ y. ap (λ (c : Content). get c y) change ∙ get-changed f x old.store y in
    record {
      tree = whole.tree;
      there = λ y. ap is_some (at y) ∙ still_there (changed f x y) (get old.store y) ∙ whole.there y;
      known = whole.known;
      long = λ y. subst (λ (o : Option Stored). IfSome o (λ s. length s.fields ≡ length fields)) (sym (at y)) (still_long f keeps (same_context y x) (get old.store y) (whole.long y));
      own = whole.own;
      few = whole.few;
      number = whole.number;
    }

-- ---- what is shown of a field, where the change of a context writes it or leaves it

module _ (f : Stored → Stored) (fld : Field) (w : Option Value) where
  later : (o : Option Value) (v : Value) → Some (unwrap_or o v) ≡ or_later o (Some v)
  later None v = refl
  later (Some u) v = refl

  pub value-changed : (b : Bool) (o : Option Stored) → (b ≡ true → is_some o ≡ true)
      → ((s : Stored) → b ≡ true → o ≡ Some s → value_in (f s).fields fld ≡ unwrap_or w (value_in s.fields fld))
      → option_map (λ s. value_in s.fields fld) (option_map (λ s. if b then f s else s) o)
      ≡ (if b then or_later w (option_map (λ s. value_in s.fields fld) o) else option_map (λ s. value_in s.fields fld) o)
  value-changed true None there writes = absurd (true≢false (sym (there refl)))
  value-changed false None there writes = refl
  value-changed true (Some s) there writes = ap (λ (v : Value). Some v) (writes s refl refl) ∙ later w (value_in s.fields fld)
  value-changed false (Some s) there writes = refl

-- a context that is the same is there if the other is
pub there_too : (x y : ContextId) (m : Content) → is_there x m ≡ true → same_context y x ≡ true → is_some (get m y) ≡ true
there_too x y m there same = subst (λ (z : ContextId). is_some (get m z) ≡ true) (sym (is_the_same x y same)) there

-- a table is whole where it is there
pub long_at : (o : Option Stored) (s : Stored) → IfSome o (λ r. length r.fields ≡ length fields) → o ≡ Some s → length s.fields ≡ length fields
long_at o s long is = subst (λ (q : Option Stored). IfSome q (λ r. length r.fields ≡ length fields)) is long
