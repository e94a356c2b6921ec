-- One turn of each loop over the items of a JSON array.
use Rattle.std.proofs.Common.{◌≡◌, ℕ, ◌+◌, ◌<◌, ◌≤◌, List, [], ◌∷◌, length, get_or, drop, Some, Result, Ok, Err, Bool, not, ◌&&◌, nat_eq, refl, sym, ap, ◌∙◌}
use Rattle.std.proofs.lemmas.List.{drop_more, drop_all}
use Rattle.std.proofs.lemmas.Bool.{le-leb, lt-leb}
use Rattle.serde_json.specs.Events.{items_len}
use Rattle.serde_json.specs.View.{view, items_view}
use Rattle.serde_json.proofs.Views.{items_len-items_view}
use Rattle.serde_json.specs.declared.value.Value.{Value}
use Rattle.fission_ids.specs.declared.process.ProcId.{ProcId}
use Rattle.fission_ids.specs.declared.process.ProcSet.{ProcSet}
use Rattle.fission_ids.specs.ProcSet.{has, with}
use Rattle.scenario.specs.declared.fault.ReadFault.{ReadFault}
use Rattle.scenario.specs.declared.fault.ReadFault.TheVariants.{Shape}
use Rattle.fission_ids.specs.Gives.{FailsWith}
use Rattle.scenario.specs.Faults.{is_memory, ◌>>=◌, asks}
use Rattle.scenario.specs.Reading.{type_of, types_of, start_tab_of, start_tabs_of, process_of, line_of, lines_of, raw_part, raw_parts}
use Rattle.scenario.proofs.Loop.{and_then, bind_fails}
use Rattle.scenario.proofs.Also.{also_from}

pub items_len_view : (vs : List Value) → items_len (items_view vs) ≡ length vs
items_len_view vs = items_len-items_view vs

next_item : (vs : List Value) (i : ℕ) (v : Value) → i < length vs → v ≡ get_or vs i v → drop i vs ≡ v ∷ drop (i + 1) vs
next_item vs i v lt is = drop_more vs i v lt ∙ ap (λ (x : Value). x ∷ drop (i + 1) vs) (sym is)

pub types_turn : (vs : List Value) (i : ℕ) (v : Value) → i < length vs → v ≡ get_or vs i v → types_of (items_view (drop i vs)) ≡ and_then (type_of (view v)) (types_of (items_view (drop (i + 1) vs)))
unfolding types_of
types_turn vs i v lt is = ap (λ xs. types_of (items_view xs)) (next_item vs i v lt is)

pub types_end : (vs : List Value) (i : ℕ) → length vs ≤ i → types_of (items_view (drop i vs)) ≡ Ok []
unfolding types_of
types_end vs i le = rw (drop_all i vs le) refl

pub tabs_turn : (place n : ℕ) (vs : List Value) (i : ℕ) (v : Value) → i < length vs → v ≡ get_or vs i v
    → start_tabs_of place n (items_view (drop i vs)) ≡ and_then (start_tab_of place n (view v)) (start_tabs_of (place + 1) n (items_view (drop (i + 1) vs)))
unfolding start_tabs_of
tabs_turn place n vs i v lt is = ap (λ xs. start_tabs_of place n (items_view xs)) (next_item vs i v lt is)

pub tabs_end : (place n : ℕ) (vs : List Value) (i : ℕ) → length vs ≤ i → start_tabs_of place n (items_view (drop i vs)) ≡ Ok []
unfolding start_tabs_of
tabs_end place n vs i le = rw (drop_all i vs le) refl

pub lines_turn : (place n : ℕ) (vs : List Value) (i : ℕ) (v : Value) → i < length vs → v ≡ get_or vs i v → place ≤ 20000
    → lines_of place n (items_view (drop i vs)) ≡ and_then (line_of place n (view v)) (lines_of (place + 1) n (items_view (drop (i + 1) vs)))
unfolding lines_of
lines_turn place n vs i v lt is fits =
    ap (λ xs. lines_of place n (items_view xs)) (next_item vs i v lt is) ∙ ap (λ b. asks 20001 b (and_then (line_of place n (view v)) (lines_of (place + 1) n (items_view (drop (i + 1) vs))))) (le-leb place 20000 fits)

pub lines_past : (place n : ℕ) (vs : List Value) (i : ℕ) (v : Value) → i < length vs → v ≡ get_or vs i v → 20000 < place → lines_of place n (items_view (drop i vs)) ≡ Err (Shape 20001)
unfolding lines_of
lines_past place n vs i v lt is past =
    ap (λ xs. lines_of place n (items_view xs)) (next_item vs i v lt is) ∙ ap (λ b. asks 20001 b (and_then (line_of place n (view v)) (lines_of (place + 1) n (items_view (drop (i + 1) vs))))) (lt-leb place 20000 past)

pub lines_end : (place n : ℕ) (vs : List Value) (i : ℕ) → length vs ≤ i → lines_of place n (items_view (drop i vs)) ≡ Ok []
unfolding lines_of
lines_end place n vs i le = rw (drop_all i vs le) refl

pub parts_turn : (place : ℕ) (vs : List Value) (i : ℕ) (v : Value) → i < length vs → v ≡ get_or vs i v
    → raw_parts place (items_view (drop i vs)) ≡ and_then (raw_part place (view v)) (raw_parts place (items_view (drop (i + 1) vs)))
unfolding raw_parts
parts_turn place vs i v lt is = ap (λ xs. raw_parts place (items_view xs)) (next_item vs i v lt is)

pub parts_end : (place : ℕ) (vs : List Value) (i : ℕ) → length vs ≤ i → raw_parts place (items_view (drop i vs)) ≡ Ok []
unfolding raw_parts
parts_end place vs i le = rw (drop_all i vs le) refl

pub also_turn : (place n : ℕ) (owner : ProcId) (set : ProcSet) (vs : List Value) (i : ℕ) (v : Value) → i < length vs → v ≡ get_or vs i v
    → also_from place n owner set (items_view (drop i vs)) ≡ (process_of place n (Some (view v)) >>= λ p. asks place (not (nat_eq p.0 owner.0) && not (has set p.0)) (also_from place n owner (with set p.0) (items_view (drop (i + 1) vs))))
unfolding also_from
also_turn place n owner set vs i v lt is = ap (λ xs. also_from place n owner set (items_view xs)) (next_item vs i v lt is)

pub also_end : (place n : ℕ) (owner : ProcId) (set : ProcSet) (vs : List Value) (i : ℕ) → length vs ≤ i → also_from place n owner set (items_view (drop i vs)) ≡ Ok set
unfolding also_from
also_end place n owner set vs i le = rw (drop_all i vs le) refl

-- ---- the exits of the loop over `also`

pub also_fails : (fault : ReadFault) (place n : ℕ) (owner : ProcId) (set : ProcSet) (vs : List Value) (i : ℕ) (v : Value) (total : Result ProcSet ReadFault) → i < length vs → v ≡ get_or vs i v
    → FailsWith (is_memory fault) fault (process_of place n (Some (view v))) → also_from place n owner set (items_view (drop i vs)) ≡ total → FailsWith (is_memory fault) fault total
also_fails fault place n owner set vs i v total lt is read so_far = bind_fails fault (process_of place n (Some (view v))) _ _ total (also_turn place n owner set vs i v lt is) read so_far

pub also_asks : (place n : ℕ) (owner : ProcId) (set : ProcSet) (vs : List Value) (i : ℕ) (v : Value) (p : ProcId) (joins : Bool) (total : Result ProcSet ReadFault) → i < length vs → v ≡ get_or vs i v
    → process_of place n (Some (view v)) ≡ Ok p → joins ≡ (not (nat_eq p.0 owner.0) && not (has set p.0)) → also_from place n owner set (items_view (drop i vs)) ≡ total
    → total ≡ asks place joins (also_from place n owner (with set p.0) (items_view (drop (i + 1) vs)))
also_asks place n owner set vs i v p joins total lt is read test so_far =
    let after = also_from place n owner (with set p.0) (items_view (drop (i + 1) vs)) in
    sym so_far ∙ also_turn place n owner set vs i v lt is ∙ ap (λ r. r >>= λ p. asks place (not (nat_eq p.0 owner.0) && not (has set p.0)) (also_from place n owner (with set p.0) (items_view (drop (i + 1) vs)))) read ∙ ap (λ b. asks place b after) (sym test)
