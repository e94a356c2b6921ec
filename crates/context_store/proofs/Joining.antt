-- Contents as keys and records.
use Rattle.std.proofs.Common.{◌≡◌, ◌≢◌, ◌∙◌, eq-eqb, ◌⊎◌, inl, inr, refl, sym, ap, ap₂, subst, arith, ℕ, ◌+◌, length, count_by, get_or, set, zero, suc, Bool, true, false, cond, ◌==◌, List, [], ◌∷◌, Option, None, Some, true≢false, if◌then◌else◌}
use Rattle.std.specs.Prelude.{is_some, IsSome, option_and_then, slice_index_or}
use Rattle.std.specs.List.{AllZip}
use Rattle.std.proofs.lemmas.List.Elements.{same_from_all_zip}
use Rattle.std.specs.Option.{option_map}
use Rattle.std.proofs.lemmas.List.Sums.{sum_by-cons}
use Rattle.std.proofs.lemmas.Bool.{eqb-true, ne_eqb}
use Rattle.std.specs.Cmp.{eq_by_cmp_equiv}
use Rattle.std.specs.FinMap.{insert, remove, get-insert, get-remove, get-empty}
use Rattle.std.specs.FinMap as map
use Rattle.slab.specs.Slab.{Slab, get, Updates, IsSlotClone, IsSlabClone, slab_len, ContainsKey, with_value}
use Rattle.fission_ids.specs.declared.context.ContextId.{ContextId}
use Rattle.fission_ids.specs.Ids.{same_context}
use Rattle.context_store.specs.Content.{Content, Stored, context_order, content_after_change}
use Rattle.context_store.specs.Joined.{Keys, key_of, content_with, content_of, AreJoined}
use Rattle.context_store.proofs.Contexts.{context_order_total, are_tied, same_context-tied, tied_same, tied_refl, same_content, get-changed_at, remove-absent}

get-content_with : (m : Content) (x : ContextId) (o : Option Stored) (q : ContextId) → map.get (content_with m x o) q ≡ cond (are_tied q x) o (map.get m q)
get-content_with m x None q = get-remove context_order_total m x q
get-content_with m x (Some s) q = get-insert context_order_total m x s q

and_then-cond : (f : ℕ → Option Stored) (b : Bool) (k : ℕ) (o : Option ℕ) → cond b (f k) (option_and_then f o) ≡ option_and_then f (cond b (Some k) o)
and_then-cond f true k o = refl
and_then-cond f false k o = refl

-- what is there for a context is the record under its key
pub get-joined : (records : Slab Stored) (keys : Keys) (q : ContextId) → map.get (content_of records keys) q ≡ option_and_then (get records) (key_of q keys)
get-joined records [] q = get-empty context_order q
get-joined records (e ∷ keys) q =
    get-content_with (content_of records keys) e.0 (get records e.1) q
    ∙ ap (λ (b : Bool). cond b (get records e.1) (map.get (content_of records keys) q)) (sym (same_context-tied q e.0))
    ∙ ap (cond (same_context q e.0) (get records e.1)) (get-joined records keys q)
    ∙ and_then-cond (get records) (same_context q e.0) e.1 (key_of q keys)

-- the same records make the same content
pub joined-same : (old new : Slab Stored) (keys : Keys) → ((k : ℕ) → get new k ≡ get old k) → content_of new keys ≡ content_of old keys
joined-same old new [] same = refl
joined-same old new (e ∷ keys) same =
    ap (content_with (content_of new keys) e.0) (same e.1)
    ∙ ap (λ (m : Content). content_with m e.0 (get old e.1)) (joined-same old new keys same)

-- ---- two contexts that are the same or not

same-itself : (x : ContextId) → same_context x x ≡ true
same-itself x = same_context-tied x x ∙ tied_refl x

differ : (x q : ContextId) → are_tied q x ≡ false → same_context x q ≡ false
differ x q apart = same_context-tied x q ∙ (eq_by_cmp_equiv context_order_total).symm x q ∙ apart

are-the-same : (x q : ContextId) → same_context x q ≡ true → x ≡ q
are-the-same x q same = tied_same x q (sym (same_context-tied x q) ∙ same)

not-there : {P : Type 0} → (o : Option Stored) → o ≡ None → IsSome o → P
not-there o none is = absurd (true≢false (sym is ∙ ap is_some none))

-- ---- a content by its keys and records

module _ (keys : Keys) (records : Slab Stored) (m : Content) (seen : content_of records keys ≡ m) (x : ContextId) where
  pub at_key : (o : Option ℕ) → key_of x keys ≡ o → map.get m x ≡ option_and_then (get records) o
  at_key o is = ap (λ (n : Content). map.get n x) (sym seen) ∙ get-joined records keys x ∙ ap (option_and_then (get records)) is

-- the keys and records of a content that has this at one context, and else what another content has
joined-at : (keys keys' : Keys) (old new : Slab Stored) (m n : Content) (x : ContextId) (o : Option Stored) → content_of old keys ≡ m
    → ((q : ContextId) → map.get n q ≡ cond (are_tied q x) o (map.get m q))
    → option_and_then (get new) (key_of x keys') ≡ o
    → ((q : ContextId) → are_tied q x ≡ false → option_and_then (get new) (key_of q keys') ≡ option_and_then (get old) (key_of q keys))
    → content_of new keys' ≡ n
joined-at keys keys' old new m n x o seen at here others = same_content _ _ (λ q. by q (are_tied q x) refl)
  where
    by : (q : ContextId) (b : Bool) → are_tied q x ≡ b → map.get (content_of new keys') q ≡ map.get n q
    by q true tied =
        ap (map.get (content_of new keys')) (tied_same q x tied) ∙ get-joined new keys' x ∙ here
        ∙ sym (at q ∙ ap (λ (b : Bool). cond b o (map.get m q)) tied)
    by q false tied =
        get-joined new keys' q ∙ others q tied ∙ sym (get-joined old keys q) ∙ ap (λ (l : Content). map.get l q) seen
        ∙ sym (at q ∙ ap (λ (b : Bool). cond b o (map.get m q)) tied)

-- the record under a key, where it is the same for the key that is given
same_record : (old new : Slab Stored) (o : Option ℕ) → ((k : ℕ) → o ≡ Some k → get new k ≡ get old k) → option_and_then (get new) o ≡ option_and_then (get old) o
same_record old new None same = refl
same_record old new (Some k) same = same k refl

-- ---- a record is changed under its key

changed_record : (f : Stored → Stored) (same : Bool) (here there : Option Stored) → (same ≡ true → here ≡ there) → IsSome there → IsSome (if same then option_map f here else there)
changed_record f true None there same is = not-there there (sym (same refl)) is
changed_record f true (Some s) there same is = refl
changed_record f false here there same is = is

module _ (f : Stored → Stored) (x : ContextId) (key : ℕ) (keys : Keys) (old new : Slab Stored) (m : Content) (are : AreJoined keys old) (seen : content_of old keys ≡ m)
    (at : key_of x keys ≡ Some key) (write : (k : ℕ) → get new k ≡ (if k == key then option_map f (get old key) else get old k)) where
  pub AreJoined-changed : slab_len new ≡ slab_len old → AreJoined keys new
  AreJoined-changed len = record {
    held = λ q k has_key. subst IsSome (sym (write k))
        (changed_record f (k == key) (get old key) (get old k) (λ same. ap (get old) (sym (eqb-true k key same))) (are.held q k has_key));
    apart = are.apart;
    count = len ∙ are.count;
  }

  pub joined-changed : content_of new keys ≡ content_after_change f x m
  joined-changed =
      joined-at keys keys old new m (content_after_change f x m) x (option_map f (map.get m x)) seen (get-changed_at f x m)
      (ap (option_and_then (get new)) at
      ∙ write key ∙ ap (λ (b : Bool). if b then option_map f (get old key) else get old key) (eq-eqb key key refl)
      ∙ ap (option_map f) (sym (at_key keys old m seen x (Some key) at)))
      (λ q tied. same_record old new (key_of q keys) (λ k has_key.
      write k ∙ ap (λ (b : Bool). if b then option_map f (get old key) else get old k) (ne_eqb k key (λ same.
      true≢false (sym (tied_refl x) ∙ ap (λ (y : ContextId). are_tied y x) (are.apart x q k (at ∙ ap (λ (n : ℕ). Some n) (sym same)) has_key) ∙ tied)))))

-- ---- a context and its record are taken away

module _ (x : ContextId) (key : ℕ) (keys keys' : Keys) (old new : Slab Stored) (m : Content) (are : AreJoined keys old) (seen : content_of old keys ≡ m)
    (at : key_of x keys ≡ Some key) (left : (q : ContextId) → key_of q keys' ≡ cond (same_context x q) None (key_of q keys)) (freed : Updates old new key None) where
  -- a key that is left is another context's, and its record stays
  left_key : (q : ContextId) (k : ℕ) (b : Bool) → same_context x q ≡ b → cond b None (key_of q keys) ≡ Some k → (key_of q keys ≡ Some k) × (get new k ≡ get old k)
  left_key q k true same is = absurd (cc)
  left_key q k false same is = (
    is,
    freed.others k (λ same_key.
        true≢false (sym (same-itself x) ∙ ap (same_context x) (are.apart x q k (at ∙ ap (λ (n : ℕ). Some n) (sym same_key)) is) ∙ same)),
  )

  was_key : (q : ContextId) (k : ℕ) → key_of q keys' ≡ Some k → (key_of q keys ≡ Some k) × (get new k ≡ get old k)
  was_key q k is = left_key q k (same_context x q) refl (sym (left q) ∙ is)

  pub AreJoined-removed : length keys' + 1 ≡ length keys → slab_len new + 1 ≡ slab_len old → AreJoined keys' new
  AreJoined-removed fewer_keys fewer = record {
    held = λ q k is. subst IsSome (sym (was_key q k is).1) (are.held q k (was_key q k is).0);
    apart = λ p q k is' is. are.apart p q k (was_key p k is').0 (was_key q k is).0;
    count = omega (arith, are.count);
  }

  pub joined-removed : content_of new keys' ≡ remove m x
  joined-removed =
      joined-at keys keys' old new m (remove m x) x None seen (get-remove context_order_total m x)
      (ap (option_and_then (get new)) (left x ∙ ap (λ (b : Bool). cond b None (key_of x keys)) (same-itself x)))
      (λ q tied.
      let other : key_of q keys' ≡ key_of q keys = left q ∙ ap (λ (b : Bool). cond b None (key_of q keys)) (differ x q tied) in
      ap (option_and_then (get new)) other ∙ same_record old new (key_of q keys) (λ k is. (was_key q k (other ∙ is)).1))

-- ---- a context and its record are added

module _ (x : ContextId) (key : ℕ) (s : Stored) (keys keys' : Keys) (old new : Slab Stored) (m : Content) (are : AreJoined keys old) (seen : content_of old keys ≡ m)
    (free : get old key ≡ None) (with : (q : ContextId) → key_of q keys' ≡ cond (same_context x q) (Some key) (key_of q keys)) (held : Updates old new key (Some s)) where
  -- the record under a key that was there stays
  old_key : (q : ContextId) (k : ℕ) → key_of q keys ≡ Some k → (k ≢ key) × (get new k ≡ get old k)
  old_key q k is =
      let other : k ≢ key = λ same. not-there (get old k) (ap (get old) same ∙ free) (are.held q k is) in
      (other, held.others k other)

  -- the key of a context is the new one, and the context the new one, or it was its key before
  new_or_old : (q : ContextId) (k : ℕ) → key_of q keys' ≡ Some k → ((x ≡ q) × (key ≡ k)) ⊎ (key_of q keys ≡ Some k)
  new_or_old q k is = by (same_context x q) refl (sym (with q) ∙ is)
    where
      by : (b : Bool) → same_context x q ≡ b → cond b (Some key) (key_of q keys) ≡ Some k → ((x ≡ q) × (key ≡ k)) ⊎ (key_of q keys ≡ Some k)
      by true same at = inl (are-the-same x q same, cc)
      by false same at = inr at

  pub AreJoined-added : length keys' ≡ length keys + 1 → slab_len new ≡ slab_len old + 1 → AreJoined keys' new
  AreJoined-added more_keys more = record {
    held = λ q k is. elim (new_or_old q k is) [
      | inl fresh ↦ subst (λ (n : ℕ). IsSome (get new n)) fresh.1 (subst IsSome (sym held.changed) refl)
      | inr old ↦ subst IsSome (sym (old_key q k old).1) (are.held q k old)
    ];
    apart = λ p q k is_p is_q. elim (new_or_old p k is_p) [
      | inl fresh ↦ elim (new_or_old q k is_q) [
        | inl too ↦ sym fresh.0 ∙ too.0
        | inr old ↦ absurd ((old_key q k old).0 (sym fresh.1))
      ]
      | inr old ↦ elim (new_or_old q k is_q) [
        | inl fresh ↦ absurd ((old_key p k old).0 (sym fresh.1))
        | inr too ↦ are.apart p q k old too
      ]
    ];
    count = omega (arith, are.count);
  }

  pub joined-added : content_of new keys' ≡ insert m x s
  joined-added =
      joined-at keys keys' old new m (insert m x s) x (Some s) seen (get-insert context_order_total m x s)
      (ap (option_and_then (get new)) (with x ∙ ap (λ (b : Bool). cond b (Some key) (key_of x keys)) (same-itself x)) ∙ held.changed)
      (λ q tied.
      let other : key_of q keys' ≡ key_of q keys = with q ∙ ap (λ (b : Bool). cond b (Some key) (key_of q keys)) (differ x q tied) in
      ap (option_and_then (get new)) other ∙ same_record old new (key_of q keys) (λ k is. (old_key q k is).1))

-- a context that isn't there has no key
pub no_key : (x : ContextId) (keys : Keys) (records : Slab Stored) (m : Content) → AreJoined keys records → content_of records keys ≡ m → map.get m x ≡ None → key_of x keys ≡ None
no_key x keys records m are seen none = by (key_of x keys) refl
  where
    by : (o : Option ℕ) → key_of x keys ≡ o → o ≡ None
    by None is = refl
    by (Some k) is = not-there (get records k) (sym (at_key keys records m seen x (Some k) is) ∙ none) (are.held x k is)

-- there is one entry more, where there was none
pub one-more : (before after : ℕ) (old o : Option ℕ) → after ≡ before + (if is_some old then 0 else 1) → old ≡ o → o ≡ None → after ≡ before + 1
one-more before after old o is old_is none = is ∙ ap (λ (r : Option ℕ). before + (if is_some r then 0 else 1)) (old_is ∙ none)

abbrev one : Option Stored → ℕ
one o = cond (is_some o) 1 0

-- a value that is written to a slot that has one leaves their count
count-set : (slots : List (Option Stored)) (key : ℕ) (s : Stored) → is_some (get_or slots key None) ≡ true → count_by is_some (set slots key (Some s)) ≡ count_by is_some slots
count-set [] key s is = refl
count-set (None ∷ slots) zero s is = absurd (true≢false (sym is))
count-set (Some r ∷ slots) zero s is = omega (arith, sum_by-cons one (Some s) slots, sum_by-cons one (Some r) slots)
count-set (o ∷ slots) (suc key) s is = omega (arith, count-set slots key s is, sum_by-cons one o (set slots key (Some s)), sum_by-cons one o slots)

pub len_with_value : (records : Slab Stored) (key : ℕ) (s : Stored) → ContainsKey records key → slab_len (with_value records key s) ≡ slab_len records
len_with_value records key s is = count-set records.slots key s is

-- the slab that a record is added to has room, and else it is the one that was there
pub Updates-reserved : (old reserved new : Slab Stored) (key under : ℕ) (s held : Stored) → reserved ≡ record old { capacity = reserved.capacity } → key ≡ under → Updates reserved new under (Some held) → held ≡ s
    → Updates old new key (Some s)
Updates-reserved old reserved new key under s held same at put is = record {
  changed = ap (get new) at ∙ put.changed ∙ ap (λ (r : Stored). Some r) is;
  others = λ k other. put.others k (λ e. other (e ∙ sym at)) ∙ ap (λ (r : Slab Stored). get r k) same;
}

-- a context that has no key is taken away
pub joined-absent : (x : ContextId) (keys keys' : Keys) (records : Slab Stored) (m : Content) → content_of records keys ≡ m → key_of x keys ≡ None → keys' ≡ keys → content_of records keys' ≡ remove m x
joined-absent x keys keys' records m seen none same =
    ap (content_of records) same ∙ seen ∙ sym (remove-absent x m (at_key keys records m seen x None none))

-- ---- copies

AreJoined-copied : (keys keys' : Keys) (old new : Slab Stored) → keys' ≡ keys → new.slots ≡ old.slots → AreJoined keys old → AreJoined keys' new
AreJoined-copied keys keys' old new same slots are = subst (λ (l : Keys). AreJoined l new) (sym same) (record {
  held = λ x key at. subst IsSome (sym (ap (λ (l : List (Option Stored)). slice_index_or l key None) slots)) (are.held x key at);
  apart = are.apart;
  count = ap (count_by is_some) slots ∙ are.count;
})

joined-copied : (keys keys' : Keys) (old new : Slab Stored) (m : Content) → keys' ≡ keys → new.slots ≡ old.slots → content_of old keys ≡ m → content_of new keys' ≡ m
joined-copied keys keys' old new m same slots seen =
    ap (content_of new) same ∙ joined-same old new keys (λ k. ap (λ (l : List (Option Stored)). slice_index_or l k None) slots) ∙ seen

same_slot : (slot copy : Option Stored) → IsSlotClone (λ (r : Stored) (c : Stored). c ≡ r) slot copy → copy ≡ slot
same_slot None copy is = is
same_slot (Some r) None is = absurd is
same_slot (Some r) (Some c) is = ap (λ (s : Stored). Some s) is

same_slots : (old new : Slab Stored) → IsSlabClone (λ (r : Stored) (c : Stored). c ≡ r) old new → new.slots ≡ old.slots
same_slots old new copy = same_from_all_zip _ old.slots new.slots copy.slots same_slot

same_keys : (keys keys' : Keys) → AllZip (λ (p : ContextId × ℕ) (q : ContextId × ℕ). (q.0 ≡ p.0) × (q.1 ≡ p.1)) keys keys' → keys' ≡ keys
same_keys keys keys' copy = same_from_all_zip _ keys keys' copy (λ p q is. ap₂ (λ (x : ContextId) (k : ℕ). (x, k)) is.0 is.1)

module _ (keys keys' : Keys) (old new : Slab Stored) (of_keys : AllZip (λ (p : ContextId × ℕ) (q : ContextId × ℕ). (q.0 ≡ p.0) × (q.1 ≡ p.1)) keys keys')
    (of_records : IsSlabClone (λ (r : Stored) (c : Stored). c ≡ r) old new) where
  pub AreJoined-clone : AreJoined keys old → AreJoined keys' new
  AreJoined-clone = AreJoined-copied keys keys' old new (same_keys keys keys' of_keys) (same_slots old new of_records)

  pub joined-clone : (m : Content) → content_of old keys ≡ m → content_of new keys' ≡ m
  joined-clone m = joined-copied keys keys' old new m (same_keys keys keys' of_keys) (same_slots old new of_records)
