-- Lists of entries of contexts: the first entry of a context is what counts.
use Rattle.std.proofs.Common.{◌≡◌, ◌∙◌, refl, sym, ap, subst, ℕ, zero, suc, ◌+◌, ◌<◌, Bool, true, false, cond, not, List, [], ◌∷◌, ◌++◌, length, get_or, set, filter, Option, None, Some, true≢false, arith}
use Rattle.std.specs.Prelude.{is_some}
use Rattle.std.specs.Option.{option_map}
use Rattle.std.specs.List.{position, position_from}
use Rattle.std.proofs.lemmas.List.Quantifiers.{position-Some}
use Rattle.std.proofs.lemmas.Iterator.Adapters.{position_from-zero}
use Rattle.std.specs.FinMap.{find, get, from_entries, get-from_entries, insert, remove, get-remove, from_entries_push}
use Rattle.fission_ids.specs.declared.context.ContextId.{ContextId}
use Rattle.fission_ids.specs.Ids.{same_context}
use Rattle.context_store.specs.Content.{Content, Stored, context_order, content_after_change}
use Rattle.context_store.proofs.Contexts.{context_order_total, context_order-IsAntisymmetric, are_tied, same_context-tied, tied_same, same_content, get-changed_at}

abbrev pub Entry : Type 0
Entry = ContextId × Stored

-- the place of the first entry of a context
abbrev pub place : ContextId → List Entry → Option ℕ
place x es = position (λ l. same_context x l.0) es

-- an entry that is the first of a context
pub record IsFirst (x : ContextId) (es : List Entry) (i : ℕ) (d : Entry) : Type 0 where
  pub within : i < length es
  pub here : same_context x (get_or es i d).0 ≡ true
  pub before : (k : ℕ) → k < i → same_context x (get_or es k d).0 ≡ false

pub place-first : (x : ContextId) (es : List Entry) (i : ℕ) (d : Entry) → place x es ≡ Some i → IsFirst x es i d
place-first x es i d e = let at = position-Some (λ (l : Entry). same_context x l.0) es i d e in record { within = at.0; here = at.1; before = at.2 }

behind : (x : ContextId) (e : Entry) (es : List Entry) (i : ℕ) (d : Entry) → IsFirst x (e ∷ es) (suc i) d → IsFirst x es i d
behind x e es i d first = record {
  within = omega (arith, first.within);
  here = first.here;
  before = λ k h. first.before (suc k) (omega arith);
}

apart : (x : ContextId) (e : Entry) (es : List Entry) (i : ℕ) (d : Entry) → IsFirst x (e ∷ es) (suc i) d → are_tied x e.0 ≡ false
apart x e es i d first = sym (same_context-tied x e.0) ∙ first.before 0 (omega arith)

-- the first entry of a context is found
pub find-first : (x : ContextId) (es : List Entry) (i : ℕ) (d : Entry) → IsFirst x es i d → find context_order x es ≡ Some (get_or es i d).1
find-first x [] i d first = absurd (omega (arith, first.within))
find-first x (e ∷ es) zero d first = ap (λ (b : Bool). cond b (Some e.1) (find context_order x es)) (sym (same_context-tied x e.0) ∙ first.here)
find-first x (e ∷ es) (suc i) d first =
    ap (λ (b : Bool). cond b (Some e.1) (find context_order x es)) (apart x e es i d first)
    ∙ find-first x es i d (behind x e es i d first)

absent_from : (x : ContextId) (k : ℕ) (es : List Entry) → position_from (λ l. same_context x l.0) k es ≡ None → find context_order x es ≡ None
absent_from x k [] e = refl
absent_from x k (l ∷ es) e = by (same_context x l.0) refl (absent_from x (k + 1) es)
  where
    by : (b : Bool) → same_context x l.0 ≡ b → (position_from (λ m. same_context x m.0) (k + 1) es ≡ None → find context_order x es ≡ None) → find context_order x (l ∷ es) ≡ None
    by true here rest =
        let none : Some k ≡ None = sym (ap (λ (c : Bool). cond c (Some k) (position_from (λ (m : Entry). same_context x m.0) (k + 1) es)) here) ∙ e in
        absurd (cc)
    by false here rest =
        ap (λ (c : Bool). cond c (Some l.1) (find context_order x es)) (sym (same_context-tied x l.0) ∙ here)
        ∙ rest (sym (ap (λ (c : Bool). cond c (Some k) (position_from (λ (m : Entry). same_context x m.0) (k + 1) es)) here) ∙ e)

-- a context of which there is no entry isn't found
pub find-none : (x : ContextId) (es : List Entry) → place x es ≡ None → find context_order x es ≡ None
find-none x es e = absent_from x 0 es (sym (position_from-zero (λ (l : Entry). same_context x l.0) es) ∙ e)

shadowed : {A : Type 0} (b : Bool) (u v w : A) → cond b u w ≡ cond b u (cond b v w)
shadowed true u v w = refl
shadowed false u v w = refl

swapped : {A : Type 0} (a b : Bool) (u v w : A) → (a ≡ true → b ≡ true → ⊥) → cond a u (cond b v w) ≡ cond b v (cond a u w)
swapped true true u v w apart = absurd (apart refl refl)
swapped true false u v w apart = refl
swapped false b u v w apart = refl

-- what is found where the first entry of a context is written
pub find-written : (x : ContextId) (es : List Entry) (i : ℕ) (d : Entry) (s : Stored) → IsFirst x es i d → (q : ContextId)
    → find context_order q (set es i ((get_or es i d).0, s)) ≡ cond (are_tied q x) (Some s) (find context_order q es)
find-written x [] i d s first q = absurd (omega (arith, first.within))
find-written x (e ∷ es) zero d s first q =
    let same : x ≡ e.0 = tied_same x e.0 (sym (same_context-tied x e.0) ∙ first.here) in
    shadowed (are_tied q e.0) (Some s) (Some e.1) (find context_order q es)
    ∙ ap (λ (y : ContextId). cond (are_tied q y) (Some s) (find context_order q (e ∷ es))) (sym same)
find-written x (e ∷ es) (suc i) d s first q =
    ap (cond (are_tied q e.0) (Some e.1)) (find-written x es i d s (behind x e es i d first) q)
    ∙ swapped (are_tied q e.0) (are_tied q x) (Some e.1) (Some s) (find context_order q es)
    (λ here there. true≢false (sym (subst (λ (y : ContextId). are_tied y e.0 ≡ true) (tied_same q x there) here) ∙ apart x e es i d first))

never : (b : Bool) → cond {A = Option Stored} b None None ≡ None
never true = refl
never false = refl

-- what is found where the entries of a context are left out
pub find-left : (x : ContextId) (es : List Entry) (q : ContextId) → find context_order q (filter (λ l. not (same_context x l.0)) es) ≡ cond (are_tied q x) None (find context_order q es)
find-left x [] q = sym (never (are_tied q x))
find-left x (e ∷ es) q = by (same_context x e.0) refl (find-left x es q)
  where
    by : (b : Bool) → same_context x e.0 ≡ b → find context_order q (filter (λ l. not (same_context x l.0)) es) ≡ cond (are_tied q x) None (find context_order q es) → find context_order q (cond (not b) (e ∷ filter (λ l. not (same_context x l.0)) es) (filter (λ l. not (same_context x l.0)) es)) ≡ cond (are_tied q x) None (find context_order q (e ∷ es))
    by true here rest =
        let same : x ≡ e.0 = tied_same x e.0 (sym (same_context-tied x e.0) ∙ here) in
        rest
        ∙ shadowed (are_tied q x) None (Some e.1) (find context_order q es)
        ∙ ap (λ (y : ContextId). cond (are_tied q x) None (cond (are_tied q y) (Some e.1) (find context_order q es))) same
    by false here rest =
        ap (cond (are_tied q e.0) (Some e.1)) rest
        ∙ swapped (are_tied q e.0) (are_tied q x) (Some e.1) None (find context_order q es)
        (λ at there. true≢false (sym (subst (λ (y : ContextId). are_tied y e.0 ≡ true) (tied_same q x there) at) ∙ sym (same_context-tied x e.0) ∙ here))

-- ---- the content of a list

pub get-listed : (es : List Entry) (q : ContextId) → get (from_entries {R = context_order} es) q ≡ find context_order q es
get-listed = get-from_entries context_order_total

-- an entry behind the others, of a context that isn't there
pub listed_push : (es : List Entry) (x : ContextId) (s : Stored) → get (from_entries {R = context_order} es) x ≡ None → from_entries (es ++ (x, s) ∷ []) ≡ insert (from_entries {R = context_order} es) x s
listed_push es x s none = from_entries_push context_order_total context_order-IsAntisymmetric es x s (sym (get-listed es x) ∙ none)

pub listed_left : (x : ContextId) (es left : List Entry) → left ≡ filter (λ l. not (same_context x l.0)) es → from_entries {R = context_order} left ≡ remove (from_entries es) x
listed_left x es left e =
    ap (λ (l : List Entry). from_entries {R = context_order} l) e
    ∙ same_content _ _ (λ q.
    get-listed (filter (λ (l : Entry). not (same_context x l.0)) es) q
    ∙ find-left x es q
    ∙ ap (cond (are_tied q x) None) (sym (get-listed es q))
    ∙ sym (get-remove context_order_total (from_entries es) x q))

-- the first entry of a context is changed
pub listed_changed : (f : Stored → Stored) (x : ContextId) (es : List Entry) (i : ℕ) (d : Entry) → IsFirst x es i d
    → from_entries {R = context_order} (set es i ((get_or es i d).0, f (get_or es i d).1)) ≡ content_after_change f x (from_entries es)
listed_changed f x es i d first =
    let now : get (from_entries {R = context_order} es) x ≡ Some (get_or es i d).1 = get-listed es x ∙ find-first x es i d first in
    same_content _ _ (λ q.
    get-listed (set es i ((get_or es i d).0, f (get_or es i d).1)) q
    ∙ find-written x es i d (f (get_or es i d).1) first q
    ∙ ap (cond (are_tied q x) (Some (f (get_or es i d).1))) (sym (get-listed es q))
    ∙ sym (get-changed_at f x (from_entries es) q ∙ ap (λ (o : Option Stored). cond (are_tied q x) (option_map f o) (get (from_entries {R = context_order} es) q)) now))

-- the place of a context in a list, as it is told by a slice of it
pub placed : (x : ContextId) (slice es : List Entry) (r o : Option ℕ) → slice ≡ es → r ≡ place x slice → r ≡ o → place x es ≡ o
placed x slice es r o same told is = sym (ap (place x) same) ∙ sym told ∙ is

-- what a content that is seen as a list has, by the place of a context
module _ (x : ContextId) (es : List Entry) (m : Content) (seen : from_entries {R = context_order} es ≡ m) where
  pub listed_absent : place x es ≡ None → get m x ≡ None
  listed_absent none = ap (λ (n : Content). get n x) (sym seen) ∙ get-listed es x ∙ find-none x es none

  pub listed_there : (i : ℕ) (e : Entry) → place x es ≡ Some i → e ≡ get_or es i e → get m x ≡ Some e.1
  listed_there i e at read =
      ap (λ (n : Content). get n x) (sym seen) ∙ get-listed es x ∙ find-first x es i e (place-first x es i e at)
      ∙ ap (λ (l : Entry). Some l.1) (sym read)

  -- the entry at the place is written
  pub listed_written : (f : Stored → Stored) (i : ℕ) (e new : Entry) → place x es ≡ Some i → e ≡ get_or es i e → new ≡ (e.0, f e.1) → from_entries {R = context_order} (set es i new) ≡ content_after_change f x m
  listed_written f i e new at read write =
      ap (λ (l : Entry). from_entries {R = context_order} (set es i l)) (write ∙ ap (λ (l : Entry). (l.0, f l.1)) read)
      ∙ listed_changed f x es i e (place-first x es i e at)
      ∙ ap (content_after_change f x) seen

  -- whether a context is there
  pub listed_is_there : (slice : List Entry) (r : Option ℕ) → slice ≡ es → r ≡ place x slice → is_some r ≡ is_some (get m x)
  listed_is_there slice r same told = by r refl
    where
      by : (o : Option ℕ) → r ≡ o → is_some o ≡ is_some (get m x)
      by None e = sym (ap is_some (listed_absent (placed x slice es r None same told e)))
      by (Some i) e =
          let first = place-first x es i (x, record { fields = []; epochs = [] }) (placed x slice es r (Some i) same told e) in
          sym (ap is_some (ap (λ (n : Content). get n x) (sym seen) ∙ get-listed es x ∙ find-first x es i _ first))

  -- an entry is put behind the others
  pub listed_push_in : (new : List Entry) (e : Entry) (s : Stored) → get m x ≡ None → new ≡ es ++ e ∷ [] → e ≡ (x, s) → from_entries {R = context_order} new ≡ insert m x s
  listed_push_in new e s none push is =
      ap (λ (l : List Entry). from_entries {R = context_order} l) (push ∙ ap (λ (l : Entry). es ++ l ∷ []) is)
      ∙ listed_push es x s (ap (λ (n : Content). get n x) seen ∙ none)
      ∙ ap (λ (n : Content). insert n x s) seen
