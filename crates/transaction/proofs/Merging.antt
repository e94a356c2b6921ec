-- Merging new values into a table, one after the other.
use Rattle.std.proofs.Common.{List, length, map, ap₂, ◌≡◌, ℕ, zero, suc, ◌+◌, ◌<◌, [], ◌∷◌, take, get_or, set, true, subst, Bool, false, if◌then◌else◌, Option, None, Some, unwrap_or, refl, sym, ap, ◌∙◌, add-one, drop, arith}
use Rattle.std.proofs.lemmas.List.{length-map, get_or-drop, drop-drop, drop-set-lt}
use Rattle.std.proofs.lemmas.Grind.{drop_more_same}
use Rattle.field_table.specs.declared.field.Field.{Field}
use Rattle.field_table.specs.Field.{fields, number, kind}
use Rattle.field_table.specs.declared.field_set.FieldSet.{FieldSet}
use Rattle.field_table.specs.declared.kind.Kind.{Kind}
use Rattle.field_table.specs.FieldSet.{has}
use Rattle.field_table.specs.Value.{is_of}
use Rattle.field_table.proofs.Tables.{stands, at_number, Numbered, fields_numbered}
use Rattle.field_table.specs.Table.{Table, value_in}
use Rattle.field_table.specs.declared.value.Value.{Value}
use Rattle.field_table.specs.declared.value.Value.TheVariants.{Flag}
use Rattle.transaction.specs.Transaction.{Changes, AreOfKind, IsChanges, are_of, new_value, table_after, changes_in}

-- the table with the value put at a place, if there is one
abbrev pub put_at : Option Value → ℕ → Table → Table
put_at None i t = t
put_at (Some v) i t = set t i v

nowhere : (c : Option Value) (i : ℕ) → put_at c i [] ≡ []
nowhere None i = refl
nowhere (Some v) i = refl

below : (c : Option Value) (i : ℕ) (v : Value) (t : Table) → v ∷ put_at c i t ≡ put_at c (suc i) (v ∷ t)
below None i v t = refl
below (Some w) i v t = refl

first : (c : Option Value) (v : Value) (t : Table) → table_after (c ∷ []) (v ∷ t) ≡ put_at c 0 (v ∷ t)
first None v t = refl
first (Some w) v t = refl

pub merged-take-suc : (i : ℕ) (cs : Changes) (t : Table) → table_after (take (suc i) cs) t ≡ put_at (get_or cs i None) i (table_after (take i cs) t)
merged-take-suc zero [] t = refl
merged-take-suc (suc i) [] t = refl
merged-take-suc zero (c ∷ cs) [] = sym (nowhere c 0)
merged-take-suc (suc i) (c ∷ cs) [] = sym (nowhere (get_or cs i None) (suc i))
merged-take-suc zero (c ∷ cs) (v ∷ t) = first c v t
merged-take-suc (suc i) (c ∷ cs) (v ∷ t) = ap (λ (x : Table). unwrap_or c v ∷ x) (merged-take-suc i cs t) ∙ below (get_or cs i None) i (unwrap_or c v) (table_after (take i cs) t)

-- what a merged table has at a place
merged_at : (cs : Changes) (t : Table) (i : ℕ) (d : Value) → i < length t → get_or (table_after cs t) i d ≡ unwrap_or (get_or cs i None) (get_or t i d)
merged_at [] t i d within = refl
merged_at (c ∷ cs) [] i d within = absurd (omega arith)
merged_at (c ∷ cs) (v ∷ t) zero d within = refl
merged_at (c ∷ cs) (v ∷ t) (suc i) d within = merged_at cs t i d (omega arith)

-- what a merged table has for a field
pub value_in-merged : (cs : Changes) (old new : Table) (f : Field) → new ≡ table_after cs old → length old ≡ length fields → value_in new f ≡ unwrap_or (new_value cs f) (value_in old f)
value_in-merged cs old new f e len = ap (λ (t : Table). value_in t f) e ∙ merged_at cs old (number f) (Flag false) (subst (λ (n : ℕ). number f < n) (sym len) (stands f).below)

same_at : (i : ℕ) (values before : Changes) → drop i values ≡ drop i before → get_or values i None ≡ get_or before i None
same_at i values before h =
    let a : get_or (drop i values) 0 None ≡ get_or values (i + 0) None = get_or-drop i values 0 None in
    let b : get_or (drop i before) 0 None ≡ get_or before (i + 0) None = get_or-drop i before 0 None in
    let c : get_or (drop i values) 0 None ≡ get_or (drop i before) 0 None = ap (λ (x : Changes). get_or x 0 None) h in
    let d : i + 0 ≡ i = omega arith in
    rw d at (sym a ∙ c ∙ b)

-- one value more is merged
pub merged_more : (i n : ℕ) (before values : Changes) (old fields new : Table) → n ≡ i → drop i values ≡ drop i before
    → fields ≡ table_after (take i before) old → new ≡ put_at (get_or values n None) n fields → new ≡ table_after (take (i + 1) before) old
merged_more i n before values old fields new at rest done put =
    let e : new ≡ put_at (get_or before i None) i (table_after (take i before) old) = put ∙ ap (λ (k : ℕ). put_at (get_or values k None) k fields) at ∙ ap (λ (c : Option Value). put_at c i fields) (same_at i values before rest) ∙ ap (put_at (get_or before i None) i) done in
    rw add-one (e ∙ sym (merged-take-suc i before old))

-- a value that is put is of its field's kind
pub is_of-put : (i n : ℕ) (before values : Changes) (f : Field) (v : Value) → AreOfKind before → n ≡ number f → n ≡ i → drop i values ≡ drop i before → get_or values n None ≡ Some v → is_of (kind f) v ≡ true
is_of-put i n before values f v all number_is at rest here =
    let there : new_value before f ≡ get_or before i None = ap (λ (k : ℕ). get_or before k None) (sym number_is ∙ at) in
    let e : new_value before f ≡ Some v = there ∙ sym (same_at i values before rest) ∙ ap (λ (k : ℕ). get_or values k None) (sym at) ∙ here in
    subst (λ (o : Option Value). are_of (kind f) o ≡ true) e (all f)

-- a value that was taken is behind
pub still_left : (i n : ℕ) (before values : Changes) (c : Option Value) → n ≡ i → drop i values ≡ drop i before → drop (i + 1) (set values n c) ≡ drop (i + 1) before
still_left i n before values c at rest = drop-set-lt (i + 1) values n c (omega arith) ∙ drop_more_same values before i rest

kept_of_kind : (b : Bool) (k : Kind) (o : Option Value) → are_of k o ≡ true → are_of k (if b then o else None) ≡ true
kept_of_kind true k o h = h
kept_of_kind false k o h = refl

-- what is kept is of its kind still
AreOfKind-kept : (s : FieldSet) (old new : Changes) → new ≡ changes_in s old → AreOfKind old → AreOfKind new
AreOfKind-kept s old new e all f =
    let h : Field → Option Value = λ g. if has s g then new_value old g else None in
    let now : new_value new f ≡ h f = ap (λ (t : Changes). new_value t f) e ∙ at_number h None f in
    ap (are_of (kind f)) now ∙ kept_of_kind (has s f) (kind f) (new_value old f) (all f)

pub IsChanges-kept : (s : FieldSet) (old new : Changes) → new ≡ changes_in s old → IsChanges old → IsChanges new
IsChanges-kept s old new e is = record { len = ap length e ∙ length-map fields (λ (f : Field). if has s f then new_value old f else None); kinds = AreOfKind-kept s old new e is.kinds }

one_merged : (cs : Changes) (v : Value) (vs : List Value) → table_after cs (v ∷ vs) ≡ unwrap_or (get_or cs 0 None) v ∷ table_after (drop 1 cs) vs
one_merged [] v vs = refl
one_merged (c ∷ cs) v vs = refl

merged_from : (t : Changes) (g : Field → Value) (k : ℕ) (fs : List Field) → Numbered k fs → table_after (drop k t) (map g fs) ≡ map (λ f. unwrap_or (new_value t f) (g f)) fs
merged_from t g k [] at = none (drop k t)
  where
    none : (cs : Changes) → table_after cs [] ≡ []
    none [] = refl
    none (c ∷ cs) = refl
merged_from t g k (f ∷ fs) at =
    let here : k + 0 ≡ k = omega arith in
    let read : get_or (drop k t) 0 None ≡ new_value t f = get_or-drop k t 0 None ∙ ap (λ i. get_or t i None) (here ∙ sym at.0) in
    let next : drop 1 (drop k t) ≡ drop (suc k) t = rw add-one at (drop-drop 1 k t) in
    one_merged (drop k t) (g f) (map g fs)
    ∙ ap₂ (λ c l. unwrap_or c (g f) ∷ table_after l (map g fs)) read next
    ∙ ap (λ l. unwrap_or (new_value t f) (g f) ∷ l) (merged_from t g (suc k) fs at.1)

-- changes merged into a table are the new values, and the table's where there are none
pub merged_map : (t : Changes) (g : Field → Value) → table_after t (map g fields) ≡ map (λ f. unwrap_or (new_value t f) (g f)) fields
merged_map t g = merged_from t g 0 fields fields_numbered
