-- Entries in a map by their names.
use Rattle.std.proofs.Common.{string_eq, ap₂, ◌≡◌, ℕ, zero, suc, ◌<◌, Bool, true, false, cond, List, [], ◌∷◌, ◌++◌, length, take, get_or, bytes_eq, string_bytes, String, All, Some, None, refl, sym, ap, ◌∙◌, arith, length-append, subst}
use Rattle.std.specs.Map.{lookup}
use Rattle.std.specs.Cmp.Lexicographic.{nat_list_eq_equiv}
use Rattle.std.proofs.lemmas.List.{map-append}
use Rattle.std.proofs.lemmas.Slice.Eq.{bytes_eq-Decides}
use Rattle.std.proofs.lemmas.List.Elements.{All-head, All-push, All-tail}
use Rattle.indexmap.specs.IndexMap.{IndexMap, insert_entry}
use Rattle.indexmap.proofs.CallerLemmas.{insert_entry-new}
use Rattle.actor_registry.specs.declared.entry.Entry.{Entry}
use Rattle.actor_registry.specs.Registry.{entry_of, entries_in, HaveNamesApart, AreSound, KeepsEntries}

-- ---- entries with other names

-- where a name is that of no entry, it isn't the first one's
not_first : (name : List ℕ) (x : Entry) (es : List Entry) → entry_of name (x ∷ es) ≡ None → (bytes_eq name x.name ≡ false) × (entry_of name es ≡ None)
not_first name x es none = by (bytes_eq name x.name) refl
  where
    by : (b : Bool) → bytes_eq name x.name ≡ b → (bytes_eq name x.name ≡ false) × (entry_of name es ≡ None)
    by true is =
        let there : Some x ≡ None = sym (ap (λ b. cond b (Some x) (entry_of name es)) is) ∙ none in absurd (cc)
    by false is = (is, sym (ap (λ b. cond b (Some x) (entry_of name es)) is) ∙ none)

-- nor that of any one
not_at : (name : List ℕ) (es : List Entry) (i : ℕ) (d : Entry) → entry_of name es ≡ None → i < length es → bytes_eq name (get_or es i d).name ≡ false
not_at name [] i d none within = absurd (omega (arith, within))
not_at name (x ∷ es) zero d none within = (not_first name x es none).0
not_at name (x ∷ es) (suc i) d none within = not_at name es i d (not_first name x es none).1 (omega (arith, within))

turned : (a b : List ℕ) → bytes_eq a b ≡ false → bytes_eq b a ≡ false
turned a b e = nat_list_eq_equiv.symm b a ∙ e

-- one more entry of another name
still_none : (name : List ℕ) (es : List Entry) (e : Entry) → entry_of name es ≡ None → bytes_eq name e.name ≡ false → entry_of name (es ++ e ∷ []) ≡ None
still_none name [] e none other = ap (λ b. cond b (Some e) None) other
still_none name (x ∷ es) e none other =
    let first = not_first name x es none in
    ap (λ b. cond b (Some x) (entry_of name (es ++ e ∷ []))) first.0 ∙ still_none name es e first.1 other

-- the names stay apart with one more
apart_more : (es : List Entry) (e : Entry) → HaveNamesApart es → entry_of e.name es ≡ None → HaveNamesApart (es ++ e ∷ [])
apart_more [] e apart none = (refl, tt)
apart_more (x ∷ es) e apart none =
    let first = not_first e.name x es none in
    (still_none x.name es e apart.0 (turned e.name x.name first.0), apart_more es e apart.1 first.1)

-- an entry's name isn't that of one before it
pub apart_before : (es : List Entry) (i : ℕ) (d : Entry) → HaveNamesApart es → i < length es → entry_of (get_or es i d).name (take i es) ≡ None
apart_before [] i d apart within = absurd (omega (arith, within))
apart_before (x ∷ es) zero d apart within = refl
apart_before (x ∷ es) (suc i) d apart within =
    let other : bytes_eq (get_or es i d).name x.name ≡ false =
    turned x.name (get_or es i d).name (not_at x.name es i d apart.0 (omega (arith, within))) in
    ap (λ b. cond b (Some x) (entry_of (get_or es i d).name (take i es))) other
    ∙ apart_before es i d apart.1 (omega (arith, within))

-- ---- the map

module _ {A : Type 0} where
  abbrev pub IsNamed : String A × Entry → Type 0
  IsNamed pair = string_bytes pair.0 ≡ pair.1.name

  abbrev pub AreNamed : List (String A × Entry) → Type 0
  AreNamed pairs = All IsNamed pairs

  -- what stands under a name is the entry of the name
  pub found : (name : List ℕ) (pairs : List (String A × Entry)) → AreNamed pairs
      → lookup (λ key. bytes_eq name (string_bytes key)) pairs ≡ entry_of name (entries_in pairs)
  found name [] named = refl
  found name (p ∷ pairs) named =
      ap (λ b. cond (bytes_eq name b) (Some p.1) (lookup (λ key. bytes_eq name (string_bytes key)) pairs)) (All-head IsNamed p pairs named)
      ∙ ap (λ o. cond (bytes_eq name p.1.name) (Some p.1) o) (found name pairs (All-tail IsNamed p pairs named))

  -- one more
  pub entries_more : (pairs : List (String A × Entry)) (key : String A) (e : Entry) → entries_in (pairs ++ (key, e) ∷ []) ≡ entries_in pairs ++ e ∷ []
  entries_more pairs key e = map-append _ pairs ((key, e) ∷ [])

  pub keeps_more : (pairs : List (String A × Entry)) (key : String A) (e : Entry) → string_bytes key ≡ e.name → KeepsEntries pairs
      → entry_of e.name (entries_in pairs) ≡ None → length (entries_in pairs) < 64 → KeepsEntries (pairs ++ (key, e) ∷ [])
  keeps_more pairs key e is keeps none room = record {
    named = All-push IsNamed pairs (key, e) keeps.named is;
    sound = subst AreSound (sym (entries_more pairs key e)) (record {
      few = omega (arith, room, length-append (entries_in pairs) (e ∷ []));
      apart = apart_more (entries_in pairs) e keeps.sound.apart none;
    });
  }

  -- a map with one more
  module _ {S : Type 0} (m : IndexMap (String A) Entry S) (key : String A) (e : Entry) (is : string_bytes key ≡ e.name) (keeps : KeepsEntries m.entries)
      (none : entry_of e.name (entries_in m.entries) ≡ None) where
    pub inserted : insert_entry string_eq m.entries key e ≡ m.entries ++ (key, e) ∷ []
    inserted = insert_entry-new string_eq m key e (found (string_bytes key) m.entries keeps.named ∙ ap (λ n. entry_of n (entries_in m.entries)) is ∙ none)

-- a copy of the next entry has the name of none before it
pub fresh : (es seen : List Entry) (i : ℕ) (e copy : Entry) → e ≡ get_or es i e → copy ≡ e → seen ≡ take i es → HaveNamesApart es → i < length es
    → entry_of copy.name seen ≡ None
fresh es seen i e copy is same so_far apart within =
    ap (λ x. entry_of x.name seen) (same ∙ is)
    ∙ ap (entry_of (get_or es i e).name) so_far
    ∙ apart_before es i e apart within

-- what is found with one more entry, of a name that wasn't there
pub found_more : (es : List Entry) (e : Entry) → entry_of e.name es ≡ None → (name : List ℕ)
    → entry_of name (es ++ e ∷ []) ≡ cond (bytes_eq name e.name) (Some e) (entry_of name es)
found_more [] e none name = refl
found_more (x ∷ es) e none name = by (bytes_eq name x.name) refl (found_more es e (not_first e.name x es none).1 name)
  where
    by : (b : Bool) → bytes_eq name x.name ≡ b → entry_of name (es ++ e ∷ []) ≡ cond (bytes_eq name e.name) (Some e) (entry_of name es)
        → entry_of name (x ∷ (es ++ e ∷ [])) ≡ cond (bytes_eq name e.name) (Some e) (entry_of name (x ∷ es))
    by true is rest =
        let same : name ≡ x.name = (bytes_eq-Decides name x.name).0 is in
        let other : bytes_eq name e.name ≡ false = ap (λ n. bytes_eq n e.name) same ∙ turned e.name x.name (not_first e.name x es none).0 in
        ap (λ b. cond b (Some x) (entry_of name (es ++ e ∷ []))) is
        ∙ sym (ap₂ (λ a b. cond a (Some e) (cond b (Some x) (entry_of name es))) other is)
    by false is rest =
        ap (λ b. cond b (Some x) (entry_of name (es ++ e ∷ []))) is
        ∙ rest
        ∙ sym (ap (λ b. cond (bytes_eq name e.name) (Some e) (cond b (Some x) (entry_of name es))) is)
