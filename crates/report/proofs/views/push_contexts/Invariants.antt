use Rattle.std.proofs.Common.{◌≡◌, ◌++◌, string_bytes, drop}
use Rattle.std.specs.List.{flat_map}
use Rattle.report.specs.Views.{context_lines}
use Rattle.report.proofs.views.push_contexts.Given as goal

abbrev pub invariant-loop-x : goal.invariant-loop-x
invariant-loop-x g l =
    let line = context_lines (g.S.Side.told l.side) in
    string_bytes l.out ++ flat_map line (drop l.x-index (g.S.Side.told l.side).order) ≡ string_bytes l.fn.out ++ flat_map line (g.S.Side.told l.side).order
