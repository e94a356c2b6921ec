use Rattle.std.proofs.Common.{◌≡◌, ◌≤◌, ℕ, List, true, leb, Option, Some, Result, Ok, codes, refl, rules, arith, sym, subst, ◌∙◌, ap}
use Rattle.std.specs.Prelude.{option_and_then}
use Rattle.std.proofs.lemmas.Bool.{le-leb}
use Rattle.serde_json.specs.Data.{Data, Items}
use Rattle.serde_json.specs.Events.{items_len}
use Rattle.serde_json.specs.Find.{get, as_array}
use Rattle.serde_json.specs.View.{view, items_view}
use Rattle.scenario.specs.declared.fault.ReadFault.{ReadFault}
use Rattle.scenario.specs.declared.line.Scenario.{Scenario}
use Rattle.fission_ids.specs.Gives.{Gives}
use Rattle.scenario.specs.Faults.{is_memory, or_shape}
use Rattle.scenario.specs.declared.members.Kind.TheVariants as kinds
use Rattle.scenario.specs.Members.{allows, has_only, whole_number}
use Rattle.scenario.specs.Reading.{processes_of, items_in, with_types, scenario_of}
use Rattle.scenario.proofs.Turns.{items_len_view}
use Rattle.scenario.proofs.reading.scenario_of.Goals as goal

scenario_is : (d : Data) (types : List (List ℕ)) (tabs steps : Items) → true ≡ has_only (allows kinds.Top) d → whole_number (get (codes "version") d) ≡ Some 1 → processes_of (get (codes "processes") d) ≡ Ok types
    → items_in 0 (get (codes "tabs") d) ≡ Ok tabs → items_len tabs ≤ 64 → or_shape 0 (option_and_then as_array (get (codes "steps") d)) ≡ Ok steps → scenario_of d ≡ with_types types tabs steps
unfolding scenario_of
scenario_is d types tabs steps only version processes listed few stepped =
    let named : has_only (allows kinds.Top) d ≡ true = sym only in
    let one : leb (items_len tabs) 64 ≡ true = le-leb (items_len tabs) 64 few in
    rw (named, version, processes, listed, one, stepped) refl

pub returns : goal.returns
returns c =
    let version : c.whole_number.result ≡ Some 1 = search rules in
    let few : items_len (items_view c.in_ok-tabs.tabs.now) ≤ 64 = omega (arith, c.if-tabs-gt-MAX_TABS.false, items_len_view c.in_ok-tabs.tabs.now) in
    let is = scenario_is (view c.args.v.now) c.in_ok-types.types (items_view c.in_ok-tabs.tabs.now) (items_view c.in_ok-steps.steps.now) c.if-not-has_only.ensures
    (ap whole_number (sym c.get.ensures) ∙ sym c.whole_number.ensures ∙ version)
    (ap processes_of (sym c.get-2.ensures) ∙ c.in_ok-types.ensures.exact)
    (ap (items_in 0) (sym c.get-3.ensures) ∙ c.in_ok-tabs.ensures)
    few
    (ap (λ (o : Option Data). or_shape 0 (option_and_then as_array o)) (sym c.get-4.ensures) ∙ c.in_ok-steps.ensures) in
    subst (λ (r : Result Scenario ReadFault). Gives is_memory c.with_types.result r) (sym is) c.with_types.ensures
