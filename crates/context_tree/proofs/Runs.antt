-- The run of what hangs below a context: it ends before the first node that isn't deeper.
use Rattle.std.proofs.Common.{◌≡◌, ℕ, ◌+◌, ◌≤◌, Bool, true, false, ◌||◌, ◌&&◌, cond, List, [], ◌∷◌, ◌++◌, length, nat_lt, refl, sym, ap, ◌∙◌, arith, one-add}
use Rattle.std.specs.List.{list_any, list_all, prefix_len}
use Rattle.std.proofs.lemmas.Bool.Decides.{nat_tests}
use Rattle.std.proofs.lemmas.List.Folds.{list_any-append}
use Rattle.fission_ids.specs.declared.context.ContextId.{ContextId}
use Rattle.fission_ids.specs.Ids.{same_context}
use Rattle.context_tree.specs.Node.{Node, line, is_at, is_below, is_in}
use Rattle.context_tree.specs.Tree.{Hangs}
use Rattle.context_tree.proofs.Lists.{EndsWith, ends_through, ends_nested, last_places, ends_with_places}
use Rattle.context_tree.proofs.Same.{same_itself}

-- the line of the last of the nodes
abbrev pub line_behind : List ContextId → List Node → List ContextId
line_behind before [] = before
line_behind before (n ∷ ns) = line_behind (line n) ns

pub hangs_parted : (before : List ContextId) (xs ys : List Node) → Hangs before (xs ++ ys) → Hangs before xs × Hangs (line_behind before xs) ys
hangs_parted before [] ys h = (tt, h)
hangs_parted before (x ∷ xs) ys h = let rest = hangs_parted (line x) xs ys h.1 in ((h.0, rest.0), rest.1)

pub hangs_joined : (before : List ContextId) (xs ys : List Node) → Hangs before xs → Hangs (line_behind before xs) ys → Hangs before (xs ++ ys)
hangs_joined before [] ys h k = k
hangs_joined before (x ∷ xs) ys h k = (h.0, hangs_joined (line x) xs ys h.1 k)

-- what hangs from a line hangs from one that ends with it
pub hangs_longer : (before longer : List ContextId) (ns : List Node) → EndsWith longer before → Hangs before ns → Hangs longer ns
hangs_longer before longer [] e h = tt
hangs_longer before longer (n ∷ ns) e h =
    (last_places longer n.above (ends_through e (ends_with_places before n.above _ h.0)), h.1)

-- whether more than d are above the node
abbrev pub is_deeper : ℕ → Node → Bool
is_deeper d n = nat_lt d (length n.above)

-- the nodes as the run of those below x, over which these stand, and the others
pub record Run (x : ContextId) (over before : List ContextId) (ns : List Node) : Type 0 where
  pub run : List Node
  pub rest : List Node
  pub whole : ns ≡ run ++ rest
  pub below : list_all (is_in x) run ≡ true
  pub count : prefix_len (is_deeper (length over)) ns ≡ length run
  pub hangs : Hangs before run
  pub end : EndsWith (line_behind before run) (x ∷ over)
  pub rest_hangs : Hangs over rest

-- a node whose line goes through x is in x
pub in_by_line : (x : ContextId) (over : List ContextId) (n : Node) → EndsWith n.above (x ∷ over) → is_in x n ≡ true
in_by_line x over n e = by (is_at x n) (is_below x n) below
  where
    below : is_below x n ≡ true
    below = ap (list_any (same_context x)) e.whole ∙ list_any-append (same_context x) e.front (x ∷ over)
        ∙ ap (λ b. list_any (same_context x) e.front || (b || list_any (same_context x) over)) (same_itself x)
        ∙ or_true (list_any (same_context x) e.front)
      where
        or_true : (a : Bool) → (a || true) ≡ true
        or_true true = refl
        or_true false = refl

    by : (a b : Bool) → b ≡ true → (a || b) ≡ true
    by true b h = refl
    by false b h = h

run_step : (x : ContextId) (over before : List ContextId) (n : Node) (ns : List Node) → EndsWith before (x ∷ over) → Hangs before (n ∷ ns)
    → (EndsWith (line n) (x ∷ over) → Run x over (line n) ns)
    → (b : Bool) → is_deeper (length over) n ≡ b → Run x over before (n ∷ ns)
run_step x over before n ns e h more true d =
    let mine = ends_with_places before n.above _ h.0 in
    let long : length (x ∷ over) ≤ length n.above = grind (arith, nat_tests, d) in
    let through : EndsWith n.above (x ∷ over) = ends_nested e.front mine.front (x ∷ over) n.above (sym e.whole ∙ mine.whole) long in
    let own : EndsWith (line n) n.above = record { front = n.context ∷ []; whole = refl } in
    let r = more (ends_through own through) in
    record {
      run = n ∷ r.run;
      rest = r.rest;
      whole = ap (λ l. n ∷ l) r.whole;
      below = ap (λ b. b && list_all (is_in x) r.run) (in_by_line x over n through) ∙ r.below;
      count = ap (λ b. cond b (1 + prefix_len (is_deeper (length over)) ns) 0) d ∙ ap (λ k. 1 + k) r.count ∙ one-add (length r.run);
      hangs = (h.0, r.hangs);
      end = r.end;
      rest_hangs = r.rest_hangs;
    }
run_step x over before n ns e h more false d =
    let mine = ends_with_places before n.above _ h.0 in
    let out : EndsWith before over = ends_through e (record { front = x ∷ []; whole = refl }) in
    let short : length n.above ≤ length over = grind (arith, nat_tests, d) in
    let ended : EndsWith over n.above = ends_nested mine.front out.front n.above over (sym mine.whole ∙ out.whole) short in
    record {
      run = [];
      rest = n ∷ ns;
      whole = refl;
      below = refl;
      count = ap (λ b. cond b (1 + prefix_len (is_deeper (length over)) ns) 0) d;
      hangs = tt;
      end = e;
      rest_hangs = (last_places over n.above ended, h.1);
    }

pub run_below : (x : ContextId) (over before : List ContextId) (ns : List Node) → EndsWith before (x ∷ over) → Hangs before ns → Run x over before ns
run_below x over before [] e h =
    record { run = []; rest = []; whole = refl; below = refl; count = refl; hangs = tt; end = e; rest_hangs = tt }
run_below x over before (n ∷ ns) e h =
    run_step x over before n ns e h (λ t. run_below x over (line n) ns t h.1) (is_deeper (length over) n) refl
