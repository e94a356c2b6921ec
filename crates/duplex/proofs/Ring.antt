-- How what the slots of a lane hold changes where one of them goes out or comes back.
use Rattle.std.proofs.Common.{◌≡◌, ◌≢◌, ℕ, suc, ◌+◌, ◌%◌, ◌<◌, ◌≤◌, Bool, true, false, List, [], ◌∷◌, ◌++◌, length, set, refl, sym, ap, ◌∙◌, subst, ⊎_elim, arith, length-append}
use mathlib.Core.Option.{some, none}
use mathlib.Core.Option as maybe
use lib.ListN.{get_elem?}
use native.Mathlib.Nat.{add-mod_right}
use Rattle.std.proofs.lemmas.Bool.{cases_lt, false≢true}
use Rattle.atomic_table.proofs.Lists.{one_turn, set_here, set_else}
use Rattle.duplex.specs.Lanes.{Shape, Slots, place_of}
use Rattle.duplex.proofs.Places.{below, at_end}

module _ {T S V : Type 0} (L : Shape T S V) (cap : ℕ) where
  -- two items less than `cap` apart lie in two slots
  pub apart : (a b : ℕ) → a < b → b < a + cap → place_of L cap b ≢ place_of L cap a
  apart a b lt near e = let x : ℕ = a % cap in let y : ℕ = b % cap in let base : ℕ = L.base cap in let same : base + y ≡ base + x = e in
      let r : x ≡ y = omega arith in let is : a ≡ b = one_turn a b cap (omega arith) near r in omega arith

  pub claimed : (t : ℕ) (ws : List T) (taking : Bool) (hs : List (maybe.Option S)) → length ws < cap → Slots L cap t ws false taking hs
      → Slots L cap t ws true taking (set hs (place_of L cap (t + length ws)) none)
  claimed t ws taking hs room s = record {
    full = λ k x e first. let b = below ws k x e in set_else hs _ _ none (λ same. apart (t + k) (t + length ws) (omega arith) (omega arith) (sym same)) ∙ s.full k x e first;
    empty = λ k from to past. let b = past refl in set_else hs _ _ none (apart (t + length ws) (t + k) (omega arith) (omega arith)) ∙ s.empty k from to (λ off. absurd (false≢true off));
  }

  pub filled : (t : ℕ) (ws : List T) (x : T) (taking : Bool) (hs : List (maybe.Option S)) → length ws < cap → place_of L cap (t + length ws) < length hs → (taking ≡ true → 0 < length ws) → Slots L cap t ws true taking hs
      → Slots L cap t (ws ++ x ∷ []) false taking (set hs (place_of L cap (t + length ws)) (some (L.wrap x)))
  filled t ws x taking hs room inside some_item s = record {
    full = λ k y e first. ⊎_elim
        (λ (old : get_elem? ws k ≡ some y). let b = below ws k y old in set_else hs _ _ (some (L.wrap x)) (λ same. apart (t + k) (t + length ws) (omega arith) (omega arith) (sym same)) ∙ s.full k y old first)
        (λ (new : (k ≡ length ws) × (x ≡ y)). subst (λ (z : ℕ × T). get_elem? (set hs (place_of L cap (t + length ws)) (some (L.wrap x))) (place_of L cap (t + z.0)) ≡ some (some (L.wrap z.1))) (λ i. (sym new.0 i, new.1 i)) (set_here hs (place_of L cap (t + length ws)) (some (L.wrap x)) inside))
        (at_end ws x y k e);
    empty = λ k from to past. let longer = length-append ws (x ∷ []) in let b : length ws < k = omega arith in set_else hs _ _ (some (L.wrap x)) (apart (t + length ws) (t + k) (omega arith) (omega arith)) ∙ s.empty k (omega arith) to (λ _. b);
  }

  pub grabbed : (t : ℕ) (ws : List T) (sending : Bool) (hs : List (maybe.Option S)) → 0 < length ws → length ws ≤ cap → Slots L cap t ws sending false hs
      → Slots L cap t ws sending true (set hs (place_of L cap t) none)
  grabbed t ws sending hs some_item within s = record {
    full = λ k x e first. let b = below ws k x e in let f = first refl in set_else hs _ _ none (apart t (t + k) (omega arith) (omega arith)) ∙ s.full k x e (λ off. absurd (false≢true off));
    empty = λ k from to past. set_else hs _ _ none (apart t (t + k) (omega arith) (omega arith)) ∙ s.empty k from to past;
  }

  pub freed : (t : ℕ) (x : T) (ws : List T) (sending : Bool) (hs : List (maybe.Option S)) → length (x ∷ ws) ≤ cap → place_of L cap t < length hs → Slots L cap t (x ∷ ws) sending true hs
      → Slots L cap (t + 1) ws sending false (set hs (place_of L cap t) (some L.nothing))
  freed t x ws sending hs within inside s = record {
    full = λ k y e first. let b = below ws k y e in let so : t + suc k ≡ t + 1 + k = omega arith in
        subst (λ (n : ℕ). get_elem? (set hs (place_of L cap t) (some L.nothing)) (place_of L cap n) ≡ some (some (L.wrap y))) so
        (set_else hs _ _ (some L.nothing) (apart t (t + suc k) (omega arith) (omega arith)) ∙ s.full (suc k) y e (λ _. omega arith));
    empty = λ k from to past. let so : t + suc k ≡ t + 1 + k = omega arith in
        subst (λ (n : ℕ). get_elem? (set hs (place_of L cap t) (some L.nothing)) (place_of L cap n) ≡ some (some L.nothing)) so (⊎_elim
        (λ (more : suc k < cap). set_else hs _ _ (some L.nothing) (apart t (t + suc k) (omega arith) (omega arith)) ∙ s.empty (suc k) (omega arith) more (λ on. let p = past on in omega arith))
        (λ (last : cap ≤ suc k). let is : t + suc k ≡ t + cap = omega arith in let turn : place_of L cap t ≡ place_of L cap (t + suc k) = ap (λ (n : ℕ). L.base cap + n) (sym (add-mod_right t cap) ∙ ap (λ (n : ℕ). n % cap) (sym is)) in
        subst (λ (i : ℕ). get_elem? (set hs (place_of L cap t) (some L.nothing)) i ≡ some (some L.nothing)) turn (set_here hs (place_of L cap t) (some L.nothing) inside))
        (cases_lt (suc k) cap));
  }

  -- slots elsewhere
  pub elsewhere : (t : ℕ) (ws : List T) (sending taking : Bool) (hs hs' : List (maybe.Option S)) → ((n : ℕ) → get_elem? hs' (place_of L cap n) ≡ get_elem? hs (place_of L cap n)) → Slots L cap t ws sending taking hs
      → Slots L cap t ws sending taking hs'
  elsewhere t ws sending taking hs hs' same s = record {
    full = λ k x e first. same (t + k) ∙ s.full k x e first;
    empty = λ k from to past. same (t + k) ∙ s.empty k from to past;
  }
