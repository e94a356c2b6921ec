use Rattle.std.proofs.Common.{◌≡◌, ◌+◌, arith, ◌∙◌, ap, sym, subst, length, drop, nat_lt}
use Rattle.std.proofs.lemmas.List.{length-map}
use Rattle.std.specs.Prelude.{MatchOption}
use Rattle.std.specs.List.{prefix_len, position_or_len}
use Rattle.fission_ids.specs.Ids.{same_context}
use Rattle.context_tree.specs.Places.{IsRun, IsUnknown, depth_of, index_of}
use Rattle.context_tree.proofs.Spans.{run_found, index_within, index_is, has_place, no_place, is_unknown}
use Rattle.context_tree.proofs.tree.Tree.run_of.Goals as goal

pub returns : goal.returns
returns c =
    let first : c.index_in-start.result ≡ index_of c.args.id c.args.self.now =
    c.index_in-start.ensures ∙ ap (position_or_len (same_context c.args.id)) c.contexts.ensures ∙ index_is c.args.id c.args.self.now in
    let start = c.index_in-start.result in
    let depth = c.in_ok-depth.field-0.depth in
    let run = run_found c.args.id c.args.self.now c.stands_as_a_tree.ensures c.in_ok-depth.field-0 c.in_ok-depth.ensures start
    (prefix_len (nat_lt depth) (drop (start + 1) c.depths.result.now)) first
    (ap (λ l. prefix_len (nat_lt depth) (drop (start + 1) l)) c.depths.ensures) in
    subst (λ e. IsRun c.args.id c.args.self.now (record { start = start; end = e; depth = depth })) (sym c.end_of_run-end.ensures) run

pub end_of_run-end-requires : goal.end_of_run-end-requires
end_of_run-end-requires c =
    let first : c.index_in-start.result ≡ index_of c.args.id c.args.self.now =
    c.index_in-start.ensures ∙ ap (position_or_len (same_context c.args.id)) c.contexts.ensures ∙ index_is c.args.id c.args.self.now in
    let own = has_place c.args.id c.args.self.now c.in_ok-depth.field-0 c.in_ok-depth.ensures in
    let within = index_within c.args.id c.args.self.now own.node own.found in
    let size : length c.depths.result.now ≡ length c.args.self.now = ap length c.depths.ensures ∙ length-map c.args.self.now depth_of in
    omega (arith, within, size, first)

pub returns-in_err-depth : goal.returns-in_err-depth
returns-in_err-depth c =
    subst (λ r. MatchOption r (IsUnknown c.args.id c.args.self.now) (IsRun c.args.id c.args.self.now)) (sym c.from_residual.ensures)
    (is_unknown c.args.id c.args.self.now c.stands_as_a_tree.ensures (no_place c.args.id c.args.self.now c.in_err-depth.ensures))
